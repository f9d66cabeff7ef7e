-- Operands that reading let through: each byte is in the range that its kind says. Laws for every user of a read file: a row of operands fits byte by
-- byte, two rows in a row each where it stands, and of one kind repeated each.
use mathlib.Core.List.{List, [], ◌∷◌, ◌++◌}
use mathlib.Core.Bool.{true}
use mathlib.Core.Path.{◌≡◌, sym, subst, ◌∙◌}
use native.Mathlib.Nat.{add-zero, add-suc, suc-add, le_of_suc-le-suc, not-suc-le-zero}
use native.Mathlib.Omega.{arith}
use Prim.Native.Nat.{ℕ, zero, suc, ◌+◌, ◌<◌}
use lib.ListN.{length, replicate}
use Rattle.answers.proofs.Laws.{Holds, by, holds_then, holds_need, holds_map}
use Rattle.rules.specs.declared.statements.Operand.{Operand}
use Rattle.rules.specs.declared.statements.Operand.TheVariants.{Slot, Location, Gate, Basis, Value, Callee, CalleeK, CalleeM, Nothing}
use Rattle.rules.specs.Basics.{byte}
use Rattle.rules.specs.Syntax.{function}
use Rattle.rules.specs.Program.{Scope, in_range, operands}
use Rattle.rules.proofs.Tests.{eqb_true, below}

-- what an operand byte in range is
abbrev pub Fits : Scope → ℕ → Operand → ℕ → Type 0
Fits S f Slot b = b < 32
Fits S f Location b = b < S.places
Fits S f Gate b = b < 4
Fits S f Basis b = b < 2
Fits S f Value b = b < 2
Fits S f Callee b = b < length S.earlier
Fits S f CalleeK b = b ≡ (function S.earlier f).k
Fits S f CalleeM b = b ≡ (function S.earlier f).m
Fits S f Nothing b = Unit {0}

fits : (S : Scope) (f : ℕ) (o : Operand) (b : ℕ) → in_range S f o b ≡ true → Fits S f o b
fits S f Slot b h = below b 32 h
fits S f Location b h = below b S.places h
fits S f Gate b h = below b 4 h
fits S f Basis b h = below b 2 h
fits S f Value b h = below b 2 h
fits S f Callee b h = below b (length S.earlier) h
fits S f CalleeK b h = eqb_true b (function S.earlier f).k h
fits S f CalleeM b h = eqb_true b (function S.earlier f).m h
fits S f Nothing b h = tt

-- the operands number n and on of the statement at i fit
abbrev pub AllFit : List ℕ → Scope → ℕ → ℕ → List Operand → Type 0
AllFit s S i n [] = Unit {0}
AllFit s S i n (o ∷ os) = Fits S (byte s (i + 1)) o (byte s (i + n)) × AllFit s S i (suc n) os

pub operands_fit : (s : List ℕ) (S : Scope) (i n : ℕ) (os : List Operand) → Holds (λ u. AllFit s S i n os) (operands s S i n os)
operands_fit s S i n [] = by tt
operands_fit s S i n (o ∷ os) =
    holds_then (holds_need (in_range S (byte s (i + 1)) o (byte s (i + n))) 10 (i + n)) λ u h.
    holds_map (λ v r. (fits S (byte s (i + 1)) o (byte s (i + n)) h, r)) (operands_fit s S i (suc n) os)

-- of two rows of operands that fit, each fits where it stands
pub split_fit : (s : List ℕ) (S : Scope) (i n : ℕ) (os ps : List Operand) → AllFit s S i n (os ++ ps)
    → AllFit s S i n os × AllFit s S i (n + length os) ps
split_fit s S i n [] ps h = (tt, subst (λ (m : ℕ). AllFit s S i m ps) (sym (add-zero n)) h)
split_fit s S i n (o ∷ os) ps h =
    let r : AllFit s S i (suc n) os × AllFit s S i (suc n + length os) ps = split_fit s S i (suc n) os ps h.1 in
    ((h.0, r.0), subst (λ (m : ℕ). AllFit s S i m ps) (suc-add n (length os) ∙ sym (add-suc n (length os))) r.1)

-- of k operands of one kind each fits
pub each_fits : (s : List ℕ) (S : Scope) (i n k : ℕ) (o : Operand) → AllFit s S i n (replicate k o)
    → (j : ℕ) → j < k → Fits S (byte s (i + 1)) o (byte s (i + n + j))
each_fits s S i n zero o h j l = absurd (not-suc-le-zero l)
each_fits s S i n (suc k) o h zero l = subst (λ (m : ℕ). Fits S (byte s (i + 1)) o (byte s m)) (sym (add-zero (i + n))) h.0
each_fits s S i n (suc k) o h (suc j) l =
    let e : i + suc n + j ≡ i + n + suc j = omega arith in
    subst (λ (m : ℕ). Fits S (byte s (i + 1)) o (byte s m)) e (each_fits s S i (suc n) k o h.1 j (le_of_suc-le-suc l))
