-- The operations, exit by exit: each test that the code makes is the check of the rules at that place, so where the code stops the rules refuse with
-- the same reason, and where it ends they give the slots and the act that it made.
use mathlib.Core.Bool.{Bool, true, false, ◌&&◌}
use mathlib.Core.List.{List}
use mathlib.Core.Path.{◌≡◌, refl, sym, ap, ◌∙◌}
use Prim.Native.Nat.{ℕ}
use lib.Dec.{eqb}
use lib.ListN.{get_or, set}
use Rattle.std.specs.Prelude.{Ok, Err}
use Rattle.answers.specs.declared.Fault.{Fault}
use Rattle.answers.specs.declared.Fault.TheVariants.{Outside, Taken}
use Rattle.answers.specs.Check.{number_of, Check, ok, refused, refusal, ◌>>=◌, ◌>>◌, need}
use Rattle.rules.specs.declared.place.Location.{Location}
use Rattle.rules.specs.Region.{Region, owns, free_in}
use Rattle.rules.specs.Syntax.{device, Place, free, gate, measure, new_ref, get_ref, set_ref, constant}
use Rattle.rules.specs.Slots as rules
use Rattle.rules.specs.Slots.{quiet, takes, gives, unbound, qubit, bool, ref, slot, need_qubit, need_bool, need_ref, holds_no_qubit}
use Rattle.rules.specs.Machine.{Frame, Item}
use Rattle.sets.specs.declared.LocationSet.{LocationSet}
use Rattle.sets.specs.Sets.{has}
use Rattle.device.specs.Reader.{Owned}
use Rattle.steps.specs.declared.Act.TheVariants.{Quiet, Takes, Gives as GivesBack}
use Rattle.steps.specs.declared.slots.Slots.{Slots}
use Rattle.steps.specs.State.{place_of, slots_of}
use Rattle.steps.specs.Told.{act_of}
use Rattle.steps.specs.Performing.{Answer, performed, Tells, moves, fails, Performs, Maps, Inits}

-- ---- what a part of the code answered, in the rules' terms
-- it refuses what the check refuses
abbrev pub Refuses : {A : Type 0} → Fault → (ℕ → Check A) → Type 0
Refuses reason m = (o : ℕ) → refused (refusal (number_of reason) o) ≡ m o

-- it gives what the check gives
abbrev pub Gives : {A : Type 0} → A → (ℕ → Check A) → Type 0
Gives a m = (o : ℕ) → ok a ≡ m o

module _ (φ : Slots) where
  abbrev pub bindable : ℕ → ℕ → Check (Unit {0})
  bindable y o = need (holds_no_qubit (slot (slots_of φ) y)) 12 o

  abbrev pub qubit_of : ℕ → ℕ → Check (Place device)
  qubit_of x o = need_qubit (slot (slots_of φ) x) o

  abbrev pub bool_of : ℕ → ℕ → Check Bool
  bool_of x o = need_bool (slot (slots_of φ) x) o

  abbrev pub reference_of : ℕ → ℕ → Check Bool
  reference_of x o = need_ref (slot (slots_of φ) x) o

-- where the code stops, and where it ends
pub stops : {r : Answer} {φs : List Frame} {rest : List Item} {reason : Fault} {o : ℕ} → r ≡ Err reason
    → Tells r φs rest (refused (refusal (number_of reason) o))
stops k = fails k

pub goes : (ψ : Slots) (a : rules.Act device) {r : Answer} {φs : List Frame} {rest : List Item} {χ : Frame} {e : ℕ} → slots_of ψ ≡ χ
    → r ≡ Ok (performed ψ e (act_of a))
    → Tells r φs rest (ok (record { next = record { top = χ; below = φs; items = rest }; act = a; edges = e }))
goes ψ a b k = moves k b

-- ---- an operation that is stuck
module _ (φ : Slots) (r : Answer) (reason : Fault) (k : r ≡ Err reason) where
  module _ (x : ℕ) (e : Refuses reason (qubit_of φ x)) where
    pub free_stops : (v : Bool) → Performs φ v (λ d. free x) r
    unfolding ◌>>=◌ ◌>>◌
    free_stops v d σ R fs is_free o φs rest = rw (sym (e o)) (stops k)

    pub gate_stops : (v : Bool) (g : ℕ) → Performs φ v (λ d. gate g x) r
    unfolding ◌>>=◌ ◌>>◌
    gate_stops v g d σ R fs is_free o φs rest = rw (sym (e o)) (stops k)

  module _ (y : ℕ) (e : Refuses reason (bindable φ y)) where
    pub measure_unbound : (x : ℕ) (v : Bool) (b : ℕ) → Performs φ v (λ d. measure y b x) r
    unfolding ◌>>=◌ ◌>>◌
    measure_unbound x v b d σ R fs is_free o φs rest = rw (sym (e o)) (stops k)

    pub new_unbound : (x : ℕ) (v : Bool) → Performs φ v (λ d. new_ref y x) r
    unfolding ◌>>=◌ ◌>>◌
    new_unbound x v d σ R fs is_free o φs rest = rw (sym (e o)) (stops k)

    pub get_unbound : (x : ℕ) (v : Bool) → Performs φ v (λ d. get_ref y x) r
    unfolding ◌>>=◌ ◌>>◌
    get_unbound x v d σ R fs is_free o φs rest = rw (sym (e o)) (stops k)

    pub constant_unbound : (b : Bool) (v : Bool) → Performs φ v (λ d. constant y b) r
    unfolding ◌>>=◌ ◌>>◌
    constant_unbound b v d σ R fs is_free o φs rest = rw (sym (e o)) (stops k)

  module _ (y : ℕ) (m : Gives tt (bindable φ y)) (x : ℕ) where
    pub measure_stops : Refuses reason (qubit_of φ x) → (v : Bool) (b : ℕ) → Performs φ v (λ d. measure y b x) r
    unfolding ◌>>=◌ ◌>>◌
    measure_stops e v b d σ R fs is_free o φs rest = rw (sym (m o), sym (e o)) (stops k)

    pub new_stops : Refuses reason (bool_of φ x) → (v : Bool) → Performs φ v (λ d. new_ref y x) r
    unfolding ◌>>=◌ ◌>>◌
    new_stops e v d σ R fs is_free o φs rest = rw (sym (m o), sym (e o)) (stops k)

    pub get_stops : Refuses reason (reference_of φ x) → (v : Bool) → Performs φ v (λ d. get_ref y x) r
    unfolding ◌>>=◌ ◌>>◌
    get_stops e v d σ R fs is_free o φs rest = rw (sym (m o), sym (e o)) (stops k)

  pub set_no_reference : (q y : ℕ) → Refuses reason (reference_of φ q) → (v : Bool) → Performs φ v (λ d. set_ref q y) r
  unfolding ◌>>=◌ ◌>>◌
  set_no_reference q y e v d σ R fs is_free o φs rest = rw (sym (e o)) (stops k)

  pub set_no_bool : (q y : ℕ) (b : Bool) → Gives b (reference_of φ q) → Refuses reason (bool_of φ y) → (v : Bool) → Performs φ v (λ d. set_ref q y) r
  unfolding ◌>>=◌ ◌>>◌
  set_no_bool q y b m e v d σ R fs is_free o φs rest = rw (sym (m o), sym (e o)) (stops k)

-- ---- an operation that moves
module _ (φ ψ : Slots) (r : Answer) where
  module _ (x : ℕ) (l : Location) (h : Gives (place_of l) (qubit_of φ x)) where
    pub free_goes : slots_of ψ ≡ set (slots_of φ) x unbound → r ≡ Ok (performed ψ 0 (GivesBack l)) → (v : Bool) → Performs φ v (λ d. free x) r
    unfolding ◌>>=◌ ◌>>◌
    free_goes b k v d σ R fs is_free o φs rest = rw (sym (h o)) (goes ψ (gives (place_of l)) b k)

    pub gate_goes : r ≡ Ok (performed φ 0 Quiet) → (v : Bool) (g : ℕ) → Performs φ v (λ d. gate g x) r
    unfolding ◌>>=◌ ◌>>◌
    gate_goes k v g d σ R fs is_free o φs rest = rw (sym (h o)) (goes φ quiet refl k)

  module _ (k : r ≡ Ok (performed ψ 0 Quiet)) where
    module _ (y : ℕ) (m : Gives tt (bindable φ y)) where
      pub constant_goes : (b : Bool) → slots_of ψ ≡ set (slots_of φ) y (bool b) → (v : Bool) → Performs φ v (λ d. constant y b) r
      unfolding ◌>>=◌ ◌>>◌
      constant_goes b s v d σ R fs is_free o φs rest = rw (sym (m o)) (goes ψ quiet s k)

      pub measure_goes : (x : ℕ) (l : Location) (v : Bool) → Gives (place_of l) (qubit_of φ x) → slots_of ψ ≡ set (slots_of φ) y (bool v) → (b : ℕ)
          → Performs φ v (λ d. measure y b x) r
      unfolding ◌>>=◌ ◌>>◌
      measure_goes x l v h s b d σ R fs is_free o φs rest = rw (sym (m o), sym (h o)) (goes ψ quiet s k)

      pub new_goes : (x : ℕ) (b : Bool) → Gives b (bool_of φ x) → slots_of ψ ≡ set (slots_of φ) y (ref b) → (v : Bool) → Performs φ v (λ d. new_ref y x) r
      unfolding ◌>>=◌ ◌>>◌
      new_goes x b h s v d σ R fs is_free o φs rest = rw (sym (m o), sym (h o)) (goes ψ quiet s k)

      pub get_goes : (x : ℕ) (b : Bool) → Gives b (reference_of φ x) → slots_of ψ ≡ set (slots_of φ) y (bool b) → (v : Bool) → Performs φ v (λ d. get_ref y x) r
      unfolding ◌>>=◌ ◌>>◌
      get_goes x b h s v d σ R fs is_free o φs rest = rw (sym (m o), sym (h o)) (goes ψ quiet s k)

    pub set_goes : (q y : ℕ) (a b : Bool) → Gives a (reference_of φ q) → Gives b (bool_of φ y) → slots_of ψ ≡ set (slots_of φ) q (ref b) → (v : Bool)
        → Performs φ v (λ d. set_ref q y) r
    unfolding ◌>>=◌ ◌>>◌
    set_goes q y a b m h s v d σ R fs is_free o φs rest = rw (sym (m o), sym (h o)) (goes ψ quiet s k)

-- what the code's tests of a location are in the rules' terms
module _ (l : Location) (owned : LocationSet) (map : List ℕ) (R : Region) (occupancy : List ℕ) (O : Owned R owned) (M : Maps map occupancy) where
  pub inside_is : (b : Bool) → b ≡ has owned l.0 → owns R l.0 ≡ b
  inside_is b e = sym (e ∙ O.owned l.0)

  pub free_is : (b : Bool) → b ≡ (has owned l.0 && eqb (get_or map l.0 0) 0) → free_in R occupancy l.0 ≡ b
  free_is b e =
      ap (λ (z : Bool). z && eqb (get_or occupancy l.0 0) 0) (sym (O.owned l.0))
      ∙ ap (λ (z : ℕ). has owned l.0 && eqb z 0) (sym (M.same l.0)) ∙ sym e

module _ (φ : Slots) (r : Answer) (x : ℕ) (l : Location) (owned : LocationSet) (map : List ℕ) where
  pub init_unbound : (reason : Fault) → r ≡ Err reason → Refuses reason (bindable φ x) → Inits φ x l owned map r
  unfolding ◌>>=◌ ◌>>◌
  init_unbound reason k e d σ q p R fs v occupancy O M n o φs rest = rw (sym (e o)) (stops k)

  module _ (m : Gives tt (bindable φ x)) (i : Bool) (ei : i ≡ has owned l.0) where
    pub init_outside : i ≡ false → r ≡ Err Outside → Inits φ x l owned map r
    unfolding ◌>>=◌ ◌>>◌
    init_outside f k d σ q p R fs v occupancy O M n o φs rest = rw (sym (m o), n, inside_is l owned map R occupancy O M i ei, f) (stops k)

    module _ (f : i ≡ true) (u : Bool) (eu : u ≡ (has owned l.0 && eqb (get_or map l.0 0) 0)) where
      pub init_taken : u ≡ false → r ≡ Err Taken → Inits φ x l owned map r
      unfolding ◌>>=◌ ◌>>◌
      init_taken g k d σ q p R fs v occupancy O M n o φs rest =
          rw (sym (m o), n, free_is l owned map R occupancy O M u eu, inside_is l owned map R occupancy O M i ei, f, g) (stops k)

      pub init_goes : (ψ : Slots) → u ≡ true → slots_of ψ ≡ set (slots_of φ) x (qubit (place_of l)) → r ≡ Ok (performed ψ 0 (Takes l))
          → Inits φ x l owned map r
      unfolding ◌>>=◌ ◌>>◌
      init_goes ψ g s k d σ q p R fs v occupancy O M n o φs rest =
          let free = free_is l owned map R occupancy O M u eu in
          let inside = inside_is l owned map R occupancy O M i ei in
          rw (sym (m o), n, free, inside, f, g) (goes ψ (takes q (place_of l)) s k)
