-- What a call asks, exit by exit: each test of the code is the check of the rules at that place.
use mathlib.Core.Bool.{Bool, true, false, not, ◌&&◌}
use mathlib.Core.List.{List, [], ◌∷◌}
use mathlib.Core.List as Core
use mathlib.Core.Path.{◌≡◌, refl, sym, ap, ◌∙◌, fun_ext}
use native.Mathlib.Numerals.{add-one}
use native.Mathlib.Omega.{arith}
use Prim.Native.Nat.{ℕ, zero, suc, ◌+◌, ◌-◌, ◌≤◌, ◌<◌}
use lib.Dec.{eqb}
use lib.ListN.{get_or, length, take, drop}
use lib.Seq.{drop-cons}
use Rattle.std.specs.Prelude.{Result, Ok, Err}
use Rattle.std.specs.List.{list_all}
use Rattle.answers.specs.declared.Fault.{Fault}
use Rattle.answers.specs.declared.Fault.TheVariants.{Outside, Taken, Twice, Elsewhere}
use Rattle.answers.specs.Check.{Check, ok, refused, ◌>>=◌, ◌>>◌, need}
use Rattle.rules.specs.declared.place.Location.{Location}
use Rattle.rules.specs.Basics.{all, distinct}
use Rattle.rules.specs.Region.{Region, owns, free_in}
use Rattle.rules.specs.Syntax.{Side, device, Place}
use Rattle.rules.specs.Slots.{slot, need_qubit, Setting, arguments_at}
use Rattle.rules.specs.Machine.{floor}
use Rattle.sets.specs.declared.LocationSet.{LocationSet}
use Rattle.sets.specs.Sets.{has}
use Rattle.sets.specs.Bytes.{all_apart}
use Rattle.device.specs.Reader.{Owned}
use Rattle.steps.specs.declared.slots.Slots.{Slots}
use Rattle.steps.specs.Said.{said_at, itself}
use Rattle.steps.specs.State.{place_of, slots_of}
use Rattle.steps.specs.Performing.{Maps}
use Rattle.steps.specs.Calling.{numbers, argument_at, Arguments, Callable}
use Rattle.steps.proofs.Lists.{tested, rest_tested, apart_is, numbers_of}
use Rattle.steps.proofs.Perform.{Refuses, Gives, qubit_of}

-- what a test that was turned round says
pub turned : (b t : Bool) → b ≡ not t → t ≡ not b
turned b true e = ap not (sym e)
turned b false e = ap not (sym e)

-- one argument
module _ (φ : Slots) (x : ℕ) (l : Location) where
  pub argument_stops : (r : Result (Unit {0}) Fault) (reason : Fault) → r ≡ Err reason → Refuses reason (qubit_of φ x) → (o : ℕ)
      → said_at itself r o ≡ argument_at φ x l o
  unfolding argument_at ◌>>=◌
  argument_stops r reason k e o = ap (λ (z : Result (Unit {0}) Fault). said_at itself z o) k ∙ sym (rw (sym (e o)) refl)

  module _ (k : Location) (h : Gives (place_of k) (qubit_of φ x)) where
    pub argument_elsewhere : eqb k.0 l.0 ≡ false → Refuses Elsewhere (argument_at φ x l)
    unfolding argument_at ◌>>=◌
    argument_elsewhere n o = sym (rw (sym (h o), n) refl)

    pub argument_there : eqb k.0 l.0 ≡ true → Gives tt (argument_at φ x l)
    unfolding argument_at ◌>>=◌
    argument_there n o = sym (rw (sym (h o), n) refl)

-- the arguments from the i-th on
pub record Left (φ : Slots) (xs : List ℕ) (ls : List (Place device)) (i : ℕ) : Type 0 where
  pub same : (d : Side) (W : Setting d device Bool) (o : ℕ) → arguments_at W o (slots_of φ) xs ls ≡ arguments_at W o (slots_of φ) (drop i xs) (drop i ls)

pub left_all : (φ : Slots) (xs : List ℕ) (ls : List (Place device)) → Left φ xs ls 0
left_all φ xs ls = record { same = λ d W o. refl }

module _ (φ : Slots) (xs : List ℕ) (ls : List (Place device)) (i : ℕ) (h : Left φ xs ls i) (x : ℕ) (l : Location) (hx : i < length xs) (hl : i < length ls)
    (ex : x ≡ get_or xs i 0)
    (el : place_of l ≡ get_or ls i (record { no = 0 })) where
  first : {d : Side} (W : Setting d device Bool) (o : ℕ) (ys : List ℕ) (ks : List (Place device))
      → arguments_at W o (slots_of φ) (x ∷ ys) (place_of l ∷ ks) ≡ (argument_at φ x l o >> arguments_at W o (slots_of φ) ys ks)
  unfolding argument_at ◌>>=◌ ◌>>◌
  first W o ys ks = go (need_qubit (slot (slots_of φ) x) o)
    where
      go : (m : Check (Place device))
          → (m >>= λ k. need (eqb k.no l.0) 16 o >> arguments_at W o (slots_of φ) ys ks) ≡
          ((m >>= λ k. need (eqb k.no l.0) 16 o) >> arguments_at W o (slots_of φ) ys ks)
      go (ok k) = refl
      go (refused r) = refl

  next : {d : Side} (W : Setting d device Bool) (o : ℕ)
      → arguments_at W o (slots_of φ) xs ls ≡ (argument_at φ x l o >> arguments_at W o (slots_of φ) (drop (i + 1) xs) (drop (i + 1) ls))
  next W o =
      h.same _ W o ∙ ap (λ (ys : List ℕ). arguments_at W o (slots_of φ) ys (drop i ls)) (drop-cons xs i 0 hx ∙ ap (λ (z : ℕ). z ∷ drop (suc i) xs) (sym ex))
      ∙ ap (λ (ks : List (Place device)). arguments_at W o (slots_of φ) (x ∷ drop (suc i) xs) ks)
      (drop-cons ls i (record { no = 0 }) hl ∙ ap (λ (z : Place device). z ∷ drop (suc i) ls) (sym el))
      ∙ first W o (drop (suc i) xs) (drop (suc i) ls)
      ∙ ap (λ (n : ℕ). argument_at φ x l o >> arguments_at W o (slots_of φ) (drop n xs) (drop n ls)) (sym (add-one i))

  pub left_more : Gives tt (argument_at φ x l) → Left φ xs ls (i + 1)
  unfolding ◌>>◌
  left_more e = record {
    same = λ d W o. next W o
        ∙ ap (λ (m : Check (Unit {0})). m >> arguments_at W o (slots_of φ) (drop (i + 1) xs) (drop (i + 1) ls)) (sym (e o));
  }

  pub left_stops : (r : Result (Unit {0}) Fault) (reason : Fault) → r ≡ Err reason → Refuses reason (argument_at φ x l) → Arguments φ xs ls r
  unfolding ◌>>◌
  left_stops r reason k e d W o =
      ap (λ (z : Result (Unit {0}) Fault). said_at itself z o) k
      ∙ sym (next W o ∙ ap (λ (m : Check (Unit {0})). m >> arguments_at W o (slots_of φ) (drop (i + 1) xs) (drop (i + 1) ls)) (sym (e o)))

drop_all : (L : List ℕ) (i : ℕ) → length L ≤ i → drop i L ≡ []
drop_all [] zero h = refl
drop_all [] (suc i) h = refl
drop_all (x ∷ L) zero h = absurd (omega arith)
drop_all (x ∷ L) (suc i) h = drop_all L i (omega arith)

pub left_end : (φ : Slots) (xs : List ℕ) (ls : List (Place device)) (i : ℕ) → Left φ xs ls i → length xs ≤ i → Arguments φ xs ls (Ok tt)
left_end φ xs ls i h l d W o = sym (h.same d W o ∙ ap (λ (ys : List ℕ). arguments_at W o (slots_of φ) ys (drop i ls)) (drop_all xs i l))

-- all that a call asks, by what the code's tests said
module _ (φ : Slots) (xs : List ℕ) (ps : List Location) (owned : LocationSet) (map : List ℕ) (b₁ : Bool)
    (e₁ : b₁ ≡ list_all (λ (l : Location). has owned l.0) ps) where
  abbrev ls : List (Place device)
  ls = Core.map place_of ps

  inside_all : (b : Bool) → b₁ ≡ b → (R : Region) → Owned R owned → all (λ l. owns R l.no) ls ≡ b
  inside_all b t R O =
      let z : ◌≡◌ {A = Place device → Bool} (λ l. owns R l.no) (λ l. has owned l.no) = fun_ext λ l. sym (O.owned l.no) in
      ap (λ (P : Place device → Bool). all P ls) z ∙ sym (tested (has owned) ps) ∙ sym e₁ ∙ t

  pub call_outside : b₁ ≡ false → Callable φ xs ls owned map (Err Outside)
  unfolding ◌>>=◌ ◌>>◌
  call_outside t d σ R fs v occupancy O M o = sym (rw (inside_all false t R O) refl)

  module _ (t₁ : b₁ ≡ true) (b₂ : Bool) (e₂ : b₂ ≡ distinct (Core.map (λ (l : Location). l.0) ps)) where
    numbers_all : (b : Bool) → b₂ ≡ b → distinct (numbers ls) ≡ b
    numbers_all b t = ap distinct (sym (numbers_of ps)) ∙ sym e₂ ∙ t

    pub call_twice : b₂ ≡ false → Callable φ xs ls owned map (Err Twice)
    unfolding ◌>>=◌ ◌>>◌
    call_twice t d σ R fs v occupancy O M o = sym (rw (inside_all true t₁ R O, numbers_all false t) refl)

    module _ (t₂ : b₂ ≡ true) (b₃ : Bool) (e₃ : b₃ ≡ all_apart xs) where
      slots_all : (b : Bool) → b₃ ≡ b → distinct xs ≡ b
      slots_all b t = sym (apart_is xs) ∙ sym e₃ ∙ t

      pub call_slot_twice : b₃ ≡ false → Callable φ xs ls owned map (Err Twice)
      unfolding ◌>>=◌ ◌>>◌
      call_slot_twice t d σ R fs v occupancy O M o = sym (rw (inside_all true t₁ R O, numbers_all true t₂, slots_all false t) refl)

      module _ (t₃ : b₃ ≡ true) where
        pub call_argument : (r : Result (Unit {0}) Fault) (reason : Fault) → r ≡ Err reason → Arguments φ xs ls (Err reason) → Callable φ xs ls owned map r
        unfolding ◌>>=◌ ◌>>◌
        call_argument r reason k a d σ R fs v occupancy O M o =
            ap (λ (z : Result (Unit {0}) Fault). said_at itself z o) k
            ∙ sym (rw (inside_all true t₁ R O, numbers_all true t₂, slots_all true t₃, sym (a d (floor R fs v (free_in R occupancy) σ) o)) refl)

        module _ (a : Arguments φ xs ls (Ok tt)) (b₅ : Bool)
            (e₅ : b₅ ≡ list_all (λ (l : Location). has owned l.0 && eqb (get_or map l.0 0) 0) (take (length ps - length xs) (drop (length xs) ps))) where
          free_all : (b : Bool) → b₅ ≡ b → (R : Region) (occupancy : List ℕ) → Owned R owned → Maps map occupancy
              → all (λ l. free_in R occupancy l.no) (drop (length xs) ls) ≡ b
          free_all b t R occupancy O M =
              let z : ◌≡◌ {A = Place device → Bool} (λ l. free_in R occupancy l.no) (λ l. has owned l.no && eqb (get_or map l.no 0) 0) =
              fun_ext λ l. ap (λ (y : Bool). y && eqb (get_or occupancy l.no 0) 0) (sym (O.owned l.no))
              ∙ ap (λ (y : ℕ). has owned l.no && eqb y 0) (sym (M.same l.no)) in
              ap (λ (P : Place device → Bool). all P (drop (length xs) ls)) z
              ∙ sym (rest_tested (λ n. has owned n && eqb (get_or map n 0) 0) (length xs) ps) ∙ sym e₅ ∙ t

          pub call_taken : b₅ ≡ false → Callable φ xs ls owned map (Err Taken)
          unfolding ◌>>=◌ ◌>>◌
          call_taken t d σ R fs v occupancy O M o =
              sym
              (rw (
                inside_all true t₁ R O,
                numbers_all true t₂,
                slots_all true t₃,
                sym (a d (floor R fs v (free_in R occupancy) σ) o),
                free_all false t R
                    occupancy O M,
              )
              refl)

          pub call_granted : b₅ ≡ true → Callable φ xs ls owned map (Ok tt)
          unfolding ◌>>=◌ ◌>>◌
          call_granted t d σ R fs v occupancy O M o =
              sym
              (rw (
                inside_all true t₁ R O,
                numbers_all true t₂,
                slots_all true t₃,
                sym (a d (floor R fs v (free_in R occupancy) σ) o),
                free_all true t R
                    occupancy O M,
              )
              refl)
