-- The bytes of the statement kinds are 1 to 13, and each is of one kind.
use native.Mathlib.Omega.{arith}
use mathlib.Core.List.{[], ◌∷◌}
use mathlib.Core.Path.{◌≡◌, refl, sym, ap, ◌∙◌}
use Prim.Native.Nat.{ℕ, ◌<◌, ◌-◌}
use lib.ListN.{get_or}
use Rattle.rules.specs.declared.statements.Kind.{Kind}
use Rattle.rules.specs.declared.statements.Kind.TheVariants.{Init, Magic, Free, Gate, Measure, Merge, Ref, Get, Set, If, While, Call, Bool}
use Rattle.rules.specs.Kinds.{byte_of}

byte_between : (k : Kind) → (0 < byte_of k) × (byte_of k < 14)
byte_between Init = (omega arith, omega arith)
byte_between Magic = (omega arith, omega arith)
byte_between Free = (omega arith, omega arith)
byte_between Gate = (omega arith, omega arith)
byte_between Measure = (omega arith, omega arith)
byte_between Merge = (omega arith, omega arith)
byte_between Ref = (omega arith, omega arith)
byte_between Get = (omega arith, omega arith)
byte_between Set = (omega arith, omega arith)
byte_between If = (omega arith, omega arith)
byte_between While = (omega arith, omega arith)
byte_between Call = (omega arith, omega arith)
byte_between Bool = (omega arith, omega arith)

-- a byte that is a kind's
module _ (k : Kind) {b : ℕ} (e : byte_of k ≡ b) where
  pub byte_above : 0 < b
  byte_above = omega (arith, (byte_between k).0)

  pub byte_below : b < 14
  byte_below = omega (arith, (byte_between k).1)

-- the kind of a byte
abbrev kind_at : ℕ → Kind
kind_at b = get_or (Init ∷ Magic ∷ Free ∷ Gate ∷ Measure ∷ Merge ∷ Ref ∷ Get ∷ Set ∷ If ∷ While ∷ Call ∷ []) (b - 1) Bool

kind_at_byte : (k : Kind) → kind_at (byte_of k) ≡ k
kind_at_byte Init = refl
kind_at_byte Magic = refl
kind_at_byte Free = refl
kind_at_byte Gate = refl
kind_at_byte Measure = refl
kind_at_byte Merge = refl
kind_at_byte Ref = refl
kind_at_byte Get = refl
kind_at_byte Set = refl
kind_at_byte If = refl
kind_at_byte While = refl
kind_at_byte Call = refl
kind_at_byte Bool = refl

pub byte_injective : (k n : Kind) → byte_of k ≡ byte_of n → k ≡ n
byte_injective k n e = sym (kind_at_byte k) ∙ ap kind_at e ∙ kind_at_byte n
