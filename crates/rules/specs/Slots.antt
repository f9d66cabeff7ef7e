-- Slots, and what an operation or a call asks of them and does to them: said once, for typing and for the steps. So a step makes its tests in
-- typing's order because it makes the same tests.
use Rattle.std.specs.Prelude.{Bool, true, false, not, ◌&&◌, List, [], ◌∷◌, ◌++◌, map, ℕ, ◌-◌, eqb, get_or, set, length, drop, replicate}
use Rattle.answers.specs.Check.{Check, ok, refused, refusal, ◌>>=◌, ◌>>◌, need}
use Rattle.rules.specs.Basics.{all, up_to, distinct}
use Rattle.rules.specs.Syntax.{Side, Place, Preparation, Op, init, free, gate, measure, merge, new_ref, get_ref, set_ref, constant}

-- A slot is unbound, a qubit at a place, a bool, or a reference to a bool. Typing knows no bool's value (B is `Unit`), a step does (B is `Bool`).
pub data Slot (s : Side) (B : Type 0) : Type 0 where
  unbound : Slot s B
  qubit : Place s → Slot s B
  bool ref : B → Slot s B

module _ {s : Side} {B : Type 0} where
  abbrev pub slot : List (Slot s B) → ℕ → Slot s B
  slot φ x = get_or φ x unbound

  -- 11: the slot is not of the kind needed
  abbrev pub need_qubit : Slot s B → ℕ → Check (Place s)
  need_qubit unbound o = refused (refusal 11 o)
  need_qubit (qubit l) o = ok l
  need_qubit (bool b) o = refused (refusal 11 o)
  need_qubit (ref b) o = refused (refusal 11 o)

  abbrev pub need_bool : Slot s B → ℕ → Check B
  need_bool unbound o = refused (refusal 11 o)
  need_bool (qubit l) o = refused (refusal 11 o)
  need_bool (bool b) o = ok b
  need_bool (ref b) o = refused (refusal 11 o)

  abbrev pub need_ref : Slot s B → ℕ → Check B
  need_ref unbound o = refused (refusal 11 o)
  need_ref (qubit l) o = refused (refusal 11 o)
  need_ref (bool b) o = refused (refusal 11 o)
  need_ref (ref b) o = ok b

  abbrev pub is_unbound : Slot s B → Bool
  is_unbound unbound = true
  is_unbound (qubit l) = false
  is_unbound (bool b) = false
  is_unbound (ref b) = false

  abbrev pub holds_no_qubit : Slot s B → Bool
  holds_no_qubit unbound = true
  holds_no_qubit (qubit l) = false
  holds_no_qubit (bool b) = true
  holds_no_qubit (ref b) = true

  abbrev pub is_classical : Slot s B → Bool
  is_classical unbound = false
  is_classical (qubit l) = false
  is_classical (bool b) = true
  is_classical (ref b) = true

  abbrev pub is_qubit_at : Slot s B → Place s → Bool
  is_qubit_at unbound l = false
  is_qubit_at (qubit k) l = eqb k.no l.no
  is_qubit_at (bool b) l = false
  is_qubit_at (ref b) l = false

-- What differs between typing and a step: what a body's place is called, which slot may be bound (12), which place is inside (13), which is free
-- (14), what a measurement's outcome is, and what is known of a bool that the program names.
pub record Setting (s t : Side) (B : Type 0) : Type 0 where
  pub named : Place s → Place t
  pub may_bind : Slot t B → Bool
  pub inside : Place t → Bool
  pub is_free : Place t → Bool
  pub outcome : B
  pub known : Bool → B

-- What an operation does to the places
pub data Act (s : Side) : Type 0 where
  quiet : Act s
  takes : Preparation → Place s → Act s
  gives : Place s → Act s
  merges : ℕ → Place s → ℕ → Place s → Act s

pub record Done (s : Side) (B : Type 0) : Type 0 where
  pub slots : List (Slot s B)
  pub act : Act s

module _ {s t : Side} {B : Type 0} (W : Setting s t B) where
  -- 12, then 11 left to right, then 13, 14, 15
  abbrev pub perform : ℕ → List (Slot t B) → Op s → Check (Done t B)
  perform o φ (init q x l) = do
    need (W.may_bind (slot φ x)) 12 o
    need (W.inside (W.named l)) 13 o
    need (W.is_free (W.named l)) 14 o
    ok (record { slots = set φ x (qubit (W.named l)); act = takes q (W.named l) })
  perform o φ (free x) = do
    l ← need_qubit (slot φ x) o
    ok (record { slots = set φ x unbound; act = gives l })
  perform o φ (gate g x) = do
    l ← need_qubit (slot φ x) o
    ok (record { slots = φ; act = quiet })
  perform o φ (measure y b x) = do
    need (W.may_bind (slot φ y)) 12 o
    l ← need_qubit (slot φ x) o
    ok (record { slots = set φ y (bool W.outcome); act = quiet })
  perform o φ (merge y b x c z) = do
    need (W.may_bind (slot φ y)) 12 o
    l ← need_qubit (slot φ x) o
    k ← need_qubit (slot φ z) o
    need (not (eqb x z)) 15 o
    ok (record { slots = set φ y (bool W.outcome); act = merges b l c k })
  perform o φ (new_ref r y) = do
    need (W.may_bind (slot φ r)) 12 o
    v ← need_bool (slot φ y) o
    ok (record { slots = set φ r (ref v); act = quiet })
  perform o φ (get_ref y r) = do
    need (W.may_bind (slot φ y)) 12 o
    v ← need_ref (slot φ r) o
    ok (record { slots = set φ y (bool v); act = quiet })
  perform o φ (set_ref r y) = do
    old ← need_ref (slot φ r) o
    v ← need_bool (slot φ y) o
    ok (record { slots = set φ r (ref v); act = quiet })
  perform o φ (constant y v) = do
    need (W.may_bind (slot φ y)) 12 o
    ok (record { slots = set φ y (bool (W.known v)); act = quiet })

  -- argument i is a qubit (11) at place i (16), for each in turn; there are no fewer places than arguments
  abbrev pub arguments_at : ℕ → List (Slot t B) → List ℕ → List (Place t) → Check (Unit {0})
  arguments_at o φ [] ls = ok tt
  arguments_at o φ (x ∷ xs) [] = ok tt
  arguments_at o φ (x ∷ xs) (l ∷ ls) = do
    k ← need_qubit (slot φ x) o
    need (eqb k.no l.no) 16 o
    arguments_at o φ xs ls

  -- what a call asks: 13 for each location, 15, then 11 and 16 for each argument in turn, then 14 for the locations that hold no argument
  abbrev pub callable : ℕ → List (Slot t B) → List (Place t) → List ℕ → Check (Unit {0})
  callable o φ ls xs = do
    need (all W.inside ls) 13 o
    need (distinct (map (λ l. l.no) ls) && distinct xs) 15 o
    arguments_at o φ xs ls
    need (all W.is_free (drop (length xs) ls)) 14 o

module _ {s : Side} {B : Type 0} where
  -- the callee's slots, entered with qubits at these places: argument i is a qubit in slot i at place i
  abbrev pub entered : List (Place s) → List (Slot s B)
  entered ls = map qubit ls ++ replicate (32 - length ls) unbound

  -- which of the m arguments the callee ended with: slot i holds a qubit at place i
  abbrev pub kept : List (Slot s B) → (ℕ → Place s) → ℕ → List Bool
  kept ψ place m = up_to 0 m λ i. is_qubit_at (slot ψ i) (place i)
