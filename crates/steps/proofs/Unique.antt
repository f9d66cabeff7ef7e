-- No two answers of a part of a step say the same, at any one offset: what is said has the value and, by its number, the reason. So a promise, which fixes
-- what an answer says, allows one answer. An operation's answer is fixed with its slots and act: what the rules' move gives has all that the answer tells.
use native.Mathlib.Omega.{arith}
use mathlib.Core.List.{List, [], ◌∷◌, map}
use mathlib.Core.Path.{◌≡◌, refl, sym, ap, ◌∙◌}
use Rattle.std.specs.Prelude.{Bool, ℕ, Result, Ok, Err}
use Rattle.answers.specs.declared.Fault.{Fault}
use Rattle.answers.specs.declared.Refusal.{Refusal}
use Rattle.answers.specs.Check.{Check, ok, refused}
use Rattle.answers.proofs.Unique.{one_fault, undone}
use Rattle.rules.specs.Syntax.{device}
use Rattle.rules.specs.Slots as rules
use Rattle.rules.specs.Slots.{unbound, qubit, bool, ref}
use Rattle.rules.specs.Machine.{Frame, Item, Move}
use Rattle.steps.specs.declared.Act.{Act}
use Rattle.steps.specs.declared.slots.Slot.{Slot}
use Rattle.steps.specs.declared.slots.Slot.TheVariants.{Unbound, Qubit, Bool as Boolean, Reference}
use Rattle.steps.specs.declared.slots.Slots.{Slots}
use Rattle.steps.specs.declared.operations.Performed.{Performed}
use Rattle.steps.specs.Said.{said_at, itself}
use Rattle.steps.specs.State.{slot_of, slots_of}
use Rattle.steps.specs.Told.{act_of}
use Rattle.steps.specs.Performing.{Answer, Tells, moves, fails}

abbrev number_said : {B : Type 0} → Check B → ℕ
number_said (ok b) = 0
number_said (refused r) = r.number

abbrev value_said : {B : Type 0} → B → Check B → B
value_said b (ok x) = x
value_said b (refused r) = b

not_both : {B : Type 0} {b : B} {r : Refusal} → ok b ≡ refused r → ⊥
not_both {B} e = let z : ◌≡◌ {A = ℕ} 0 1 = ap (λ (c : Check B). elim c [ ok b ↦ 0 | refused r ↦ 1 ]) e in absurd (omega arith)

pub one_told : {A B : Type 0} (f : A → B) → ((x y : A) → f x ≡ f y → x ≡ y) → (a b : Result A Fault) (o : ℕ) → said_at f a o ≡ said_at f b o → a ≡ b
one_told f one (Ok x) (Ok y) o e = ap Ok (one x y (ap (value_said (f x)) e))
one_told f one (Ok x) (Err r) o e = absurd (not_both e)
one_told f one (Err r) (Ok x) o e = absurd (not_both (sym e))
one_told f one (Err r) (Err s) o e = ap Err (one_fault r s (ap number_said e))

-- a value that is said as it is: the edges of an operation that moved
pub one_told_itself : {A : Type 0} (a b : Result A Fault) (o : ℕ) → said_at itself a o ≡ said_at itself b o → a ≡ b
one_told_itself = one_told itself (λ x y e. e)

-- the slots give the code's slots back
abbrev slot_back : rules.Slot device Bool → Slot
slot_back unbound = Unbound
slot_back (qubit p) = Qubit (record { 0 = p.no })
slot_back (bool b) = Boolean b
slot_back (ref b) = Reference b

slot_backed : (x : Slot) → slot_back (slot_of x) ≡ x
slot_backed Unbound = refl
slot_backed (Qubit l) = refl
slot_backed (Boolean b) = refl
slot_backed (Reference b) = refl

all_backed : (xs : List Slot) → map slot_back (map slot_of xs) ≡ xs
all_backed [] = refl
all_backed (x ∷ xs) = rw (slot_backed x, all_backed xs) refl

pub one_slots : (φ ψ : Slots) → slots_of φ ≡ slots_of ψ → φ ≡ ψ
unfolding slots_of
one_slots = undone slots_of (λ xs. record { slots = map slot_back xs }) (λ φ. ap (λ (xs : List Slot). record { slots = xs }) (all_backed φ.slots))

-- what an operation that moved tells: its slots, edges and act
abbrev shown : Performed → Frame × ℕ × Act
shown w = (slots_of w.slots, w.edges, w.act)

abbrev unshown : Frame × ℕ × Act → Performed
unshown t = record { slots = record { slots = map slot_back t.0 }; edges = t.1; act = t.2 }

-- as a check of a move tells it
abbrev move_shown : Check Move → Check (Frame × ℕ × Act)
move_shown (ok m) = ok (m.next.top, m.edges, act_of m.act)
move_shown (refused r) = refused r

abbrev place_said : {B : Type 0} → Check B → ℕ
place_said (ok b) = 0
place_said (refused r) = r.place

told_shown : {r : Answer} {φs : List Frame} {rest : List Item} {c : Check Move} → Tells r φs rest c → said_at shown r (place_said c) ≡ move_shown c
told_shown (moves u b) = rw (u, b) refl
told_shown (fails u) = rw (u) refl

shown_back : (w : Performed) → unshown (shown w) ≡ w
unfolding slots_of
shown_back w = ap (λ (xs : List Slot). record { slots = record { slots = xs }; edges = w.edges; act = w.act }) (all_backed w.slots.slots)

-- a check of a move allows an operation one answer
pub one_performed : {a b : Answer} {φs : List Frame} {rest : List Item} {c : Check Move} → Tells a φs rest c → Tells b φs rest c → a ≡ b
one_performed {a = a} {b = b} {c = c} A B = one_told shown (undone shown unshown shown_back) a b (place_said c) (told_shown A ∙ sym (told_shown B))
