-- What the byte of a statement says of it: what it is, where its operands stand in the file and what they are bounded by. The thirteen cases of a
-- view are gone through once, each at its own byte; a byte that is known then picks its case by computing.
use mathlib.Core.Bool.{Bool, true, false, false≢true}
use mathlib.Core.List.{List}
use mathlib.Core.Path.{◌≡◌, refl, sym, ap, subst}
use Prim.Native.Nat.{ℕ, ◌+◌, ◌<◌, ◌≤◌}
use lib.Dec.{eqb, ltb}
use lib.ListN.{length}
use borrow.Author.Tests.{lt-ltb}
use Rattle.rules.specs.Basics.{byte, up_to}
use Rattle.rules.specs.Syntax.{Side, Preparation, plain, magic, init, free, gate, measure, merge, new_ref, get_ref, set_ref, constant, Statement, op, if, while, call, Block, function}
use Rattle.rules.specs.Table.{size_of}
use Rattle.rules.specs.Program.{Scope}
use Rattle.rules.specs.Machine.{offset_of}
use Rattle.program.specs.In.{BlockIn, StatementIn, View, is_init, is_magic, is_free, is_gate, is_measure, is_merge, is_new, is_get, is_set, is_if, is_while, is_call, is_bool}
use Rattle.program.proofs.In.{statement_view, statement_byte}

abbrev pick : Bool → Type 0 → Type 0 → Type 0
pick true A B = A
pick false A B = B

picked : (A B : Type 0) (b : Bool) → b ≡ true → pick b A B → A
picked A B true e x = x
picked A B false e x = absurd (false≢true e)

module _ {d : Side} (s : List ℕ) (S : Scope) (depths at : ℕ) (t : Statement d) (p : ℕ) where
  abbrev pub IsInit : Type 0
  IsInit = (at + 3 ≤ length s) × (byte s (at + 1) < 32) × (byte s (at + 2) < S.places) × (q : Preparation)
      × (t ≡ op at (init q (byte s (at + 1)) (record { no = byte s (at + 2) })))

  abbrev pub IsFree : Type 0
  IsFree = (at + 2 ≤ length s) × (byte s (at + 1) < 32) × (t ≡ op at (free (byte s (at + 1))))

  abbrev pub IsGate : Type 0
  IsGate = (at + 3 ≤ length s) × (byte s (at + 2) < 32) × (t ≡ op at (gate (byte s (at + 1)) (byte s (at + 2))))

  abbrev pub IsMeasure : Type 0
  IsMeasure = (at + 4 ≤ length s) × (byte s (at + 1) < 32) × (byte s (at + 3) < 32)
      × (t ≡ op at (measure (byte s (at + 1)) (byte s (at + 2)) (byte s (at + 3))))

  abbrev pub IsMerge : Type 0
  IsMerge =
      (at + 6 ≤ length s) × (byte s (at + 1) < 32) × (byte s (at + 3) < 32) × (byte s (at + 5) < 32)
      × (t ≡ op at (merge (byte s (at + 1)) (byte s (at + 2)) (byte s (at + 3)) (byte s (at + 4)) (byte s (at + 5))))

  abbrev pub IsNew : Type 0
  IsNew = (at + 3 ≤ length s) × (byte s (at + 1) < 32) × (byte s (at + 2) < 32) × (t ≡ op at (new_ref (byte s (at + 1)) (byte s (at + 2))))

  abbrev pub IsGet : Type 0
  IsGet = (at + 3 ≤ length s) × (byte s (at + 1) < 32) × (byte s (at + 2) < 32) × (t ≡ op at (get_ref (byte s (at + 1)) (byte s (at + 2))))

  abbrev pub IsSet : Type 0
  IsSet = (at + 3 ≤ length s) × (byte s (at + 1) < 32) × (byte s (at + 2) < 32) × (t ≡ op at (set_ref (byte s (at + 1)) (byte s (at + 2))))

  abbrev pub IsConstant : Type 0
  IsConstant = (at + 3 ≤ length s) × (byte s (at + 1) < 32) × (t ≡ op at (constant (byte s (at + 1)) (eqb (byte s (at + 2)) 1)))

  abbrev pub IsIf : Type 0
  IsIf =
      (at + 2 ≤ length s) × (byte s (at + 1) < 32) × (b c : Block d) × (m : ℕ) × BlockIn s S depths (at + 2) b m × BlockIn s S depths m c p
      × (t ≡ if at (byte s (at + 1)) b c)

  abbrev pub IsWhile : Type 0
  IsWhile = (at + 2 ≤ length s) × (byte s (at + 1) < 32) × (b : Block d) × BlockIn s S depths (at + 2) b p × (t ≡ while at (byte s (at + 1)) b)

  abbrev pub IsCall : Type 0
  IsCall =
      (at + 4 + byte s (at + 2) + byte s (at + 3) ≤ length s) × (byte s (at + 1) < length S.earlier)
      × (byte s (at + 2) ≡ (function S.earlier (byte s (at + 1))).k)
      × (byte s (at + 3) ≡ (function S.earlier (byte s (at + 1))).m) × ((i : ℕ) → i < byte s (at + 2) → byte s (at + 4 + i) < S.places)
      × ((i : ℕ) → i < byte s (at + 3) → byte s (at + 4 + byte s (at + 2) + i) < 32) × (p ≡ at + 4 + byte s (at + 2) + byte s (at + 3))
      × (t ≡ call at (byte s (at + 1)) (up_to (at + 4) (byte s (at + 2)) λ i. record { no = byte s i })
      (up_to (at + 4 + byte s (at + 2)) (byte s (at + 3)) λ i. byte s i))

  -- the case of a byte
  abbrev Is : ℕ → Type 0
  Is b =
      pick (ltb b 3) IsInit (pick (eqb b 3) IsFree
      (pick (eqb b 4) IsGate (pick (eqb b 5) IsMeasure (pick (eqb b 6) IsMerge (pick (eqb b 7) IsNew (pick (eqb b 8) IsGet (pick (eqb b 9) IsSet
      (pick (eqb b 10) IsIf (pick (eqb b 11) IsWhile (pick (eqb b 12) IsCall IsConstant))))))))))

seen : {d : Side} {s : List ℕ} {S : Scope} {depths at p : ℕ} {t : Statement d} → View s S depths at t p → Is s S depths at t p (byte s at)
seen {s = s} {S} {depths} {at} {p} {t} (is_init e l a b) = subst (λ (n : ℕ). Is s S depths at t p n) (sym e) (l, a, b, plain, refl)
seen {s = s} {S} {depths} {at} {p} {t} (is_magic e l a b) = subst (λ (n : ℕ). Is s S depths at t p n) (sym e) (l, a, b, magic, refl)
seen {s = s} {S} {depths} {at} {p} {t} (is_free e l a) = subst (λ (n : ℕ). Is s S depths at t p n) (sym e) (l, a, refl)
seen {s = s} {S} {depths} {at} {p} {t} (is_gate e l a b) = subst (λ (n : ℕ). Is s S depths at t p n) (sym e) (l, b, refl)
seen {s = s} {S} {depths} {at} {p} {t} (is_measure e l a b c) = subst (λ (n : ℕ). Is s S depths at t p n) (sym e) (l, a, c, refl)
seen {s = s} {S} {depths} {at} {p} {t} (is_merge e l a b c f g) = subst (λ (n : ℕ). Is s S depths at t p n) (sym e) (l, a, c, g, refl)
seen {s = s} {S} {depths} {at} {p} {t} (is_new e l a b) = subst (λ (n : ℕ). Is s S depths at t p n) (sym e) (l, a, b, refl)
seen {s = s} {S} {depths} {at} {p} {t} (is_get e l a b) = subst (λ (n : ℕ). Is s S depths at t p n) (sym e) (l, a, b, refl)
seen {s = s} {S} {depths} {at} {p} {t} (is_set e l a b) = subst (λ (n : ℕ). Is s S depths at t p n) (sym e) (l, a, b, refl)
seen {s = s} {S} {depths} {at} {p} {t} (is_if {b = b} {c = c} {p = m} e l a f g) = subst (λ (n : ℕ). Is s S depths at t p n) (sym e) (l, a, b, c, m, f, g, refl)
seen {s = s} {S} {depths} {at} {p} {t} (is_while {b = b} e l a f) = subst (λ (n : ℕ). Is s S depths at t p n) (sym e) (l, a, b, f, refl)
seen {s = s} {S} {depths} {at} {p} {t} (is_call e l a b c f g) = subst (λ (n : ℕ). Is s S depths at t p n) (sym e) (l, a, b, c, f, g, refl, refl)
seen {s = s} {S} {depths} {at} {p} {t} (is_bool e l a b) = subst (λ (n : ℕ). Is s S depths at t p n) (sym e) (l, a, refl)

module _ {d : Side} {s : List ℕ} {S : Scope} {depths at p : ℕ} {t : Statement d} (h : StatementIn s S depths at t p) where
  -- the case of a byte that is known
  at_byte : (n : ℕ) → byte s at ≡ n → Is s S depths at t p n
  at_byte n e = subst (λ (b : ℕ). Is s S depths at t p b) e (seen (statement_view h))

  pub init_seen : byte s at < 3 → IsInit s S depths at t p
  init_seen l = picked _ _ (ltb (byte s at) 3) (lt-ltb (byte s at) 3 l) (seen (statement_view h))

  pub free_seen : byte s at ≡ 3 → IsFree s S depths at t p
  free_seen e = at_byte 3 e

  pub gate_seen : byte s at ≡ 4 → IsGate s S depths at t p
  gate_seen e = at_byte 4 e

  pub measure_seen : byte s at ≡ 5 → IsMeasure s S depths at t p
  measure_seen e = at_byte 5 e

  pub merge_seen : byte s at ≡ 6 → IsMerge s S depths at t p
  merge_seen e = at_byte 6 e

  pub new_seen : byte s at ≡ 7 → IsNew s S depths at t p
  new_seen e = at_byte 7 e

  pub get_seen : byte s at ≡ 8 → IsGet s S depths at t p
  get_seen e = at_byte 8 e

  pub set_seen : byte s at ≡ 9 → IsSet s S depths at t p
  set_seen e = at_byte 9 e

  pub if_seen : byte s at ≡ 10 → IsIf s S depths at t p
  if_seen e = at_byte 10 e

  pub while_seen : byte s at ≡ 11 → IsWhile s S depths at t p
  while_seen e = at_byte 11 e

  pub call_seen : byte s at ≡ 12 → IsCall s S depths at t p
  call_seen e = at_byte 12 e

  pub constant_seen : byte s at ≡ 13 → IsConstant s S depths at t p
  constant_seen e = at_byte 13 e

-- an operation ends where the table says
view_ends : {d : Side} {s : List ℕ} {S : Scope} {depths at p : ℕ} {t : Statement d} → View s S depths at t p → (byte s at ≡ 10 → ⊥) → (byte s at ≡ 11 → ⊥)
    → (byte s at ≡ 12 → ⊥) → p ≡ at + size_of (byte s at)
view_ends {s = s} {at = at} (is_init e l a b) f g h = ap (λ (n : ℕ). at + size_of n) (sym e)
view_ends {s = s} {at = at} (is_magic e l a b) f g h = ap (λ (n : ℕ). at + size_of n) (sym e)
view_ends {s = s} {at = at} (is_free e l a) f g h = ap (λ (n : ℕ). at + size_of n) (sym e)
view_ends {s = s} {at = at} (is_gate e l a b) f g h = ap (λ (n : ℕ). at + size_of n) (sym e)
view_ends {s = s} {at = at} (is_measure e l a b c) f g h = ap (λ (n : ℕ). at + size_of n) (sym e)
view_ends {s = s} {at = at} (is_merge e l a b c i j) f g h = ap (λ (n : ℕ). at + size_of n) (sym e)
view_ends {s = s} {at = at} (is_new e l a b) f g h = ap (λ (n : ℕ). at + size_of n) (sym e)
view_ends {s = s} {at = at} (is_get e l a b) f g h = ap (λ (n : ℕ). at + size_of n) (sym e)
view_ends {s = s} {at = at} (is_set e l a b) f g h = ap (λ (n : ℕ). at + size_of n) (sym e)
view_ends {s = s} {at = at} (is_if e l a b c) f g h = absurd (f e)
view_ends {s = s} {at = at} (is_while e l a b) f g h = absurd (g e)
view_ends {s = s} {at = at} (is_call e l a b c i j) f g h = absurd (h e)
view_ends {s = s} {at = at} (is_bool e l a b) f g h = ap (λ (n : ℕ). at + size_of n) (sym e)

pub ends_seen : {d : Side} {s : List ℕ} {S : Scope} {depths at p : ℕ} {t : Statement d} → StatementIn s S depths at t p → (byte s at ≡ 10 → ⊥)
    → (byte s at ≡ 11 → ⊥) → (byte s at ≡ 12 → ⊥)
    → (p ≡ at + size_of (byte s at)) × (p ≤ length s)
ends_seen h f g k = (view_ends (statement_view h) f g k, (statement_byte h).3)

-- a statement has the offset where it stands
view_offset : {d : Side} {s : List ℕ} {S : Scope} {depths at p : ℕ} {t : Statement d} → View s S depths at t p → offset_of t ≡ at
view_offset (is_init e l a b) = refl
view_offset (is_magic e l a b) = refl
view_offset (is_free e l a) = refl
view_offset (is_gate e l a b) = refl
view_offset (is_measure e l a b c) = refl
view_offset (is_merge e l a b c f g) = refl
view_offset (is_new e l a b) = refl
view_offset (is_get e l a b) = refl
view_offset (is_set e l a b) = refl
view_offset (is_if e l a b c) = refl
view_offset (is_while e l a b) = refl
view_offset (is_call e l a b c f g) = refl
view_offset (is_bool e l a b) = refl

pub offset_seen : {d : Side} {s : List ℕ} {S : Scope} {depths at p : ℕ} {t : Statement d} → StatementIn s S depths at t p → offset_of t ≡ at
offset_seen h = view_offset (statement_view h)
