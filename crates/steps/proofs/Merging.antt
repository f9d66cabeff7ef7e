-- A merge: the set that the search is handed has the free locations of the region, so the route that it measures is the rules' route.
use mathlib.Core.Bool.{Bool, ◌&&◌}
use mathlib.Core.List.{List}
use mathlib.Core.Option.{Option as Maybe, none, some}
use mathlib.Core.Path.{◌≡◌, refl, sym, ap, ◌∙◌}
use native.Mathlib.Omega.{arith}
use Prim.Native.Nat.{ℕ, ◌-◌}
use lib.Dec.{eqb}
use lib.ListN.{get_or, set, length}
use borrow.Author.Tests.{eq-eqb, ne_eqb}
use Rattle.std.specs.Prelude.{Option, Some, None, Result, Ok, Err, ok_or}
use Rattle.answers.specs.declared.Fault.{Fault}
use Rattle.answers.specs.declared.Fault.TheVariants.{NoPath, Twice}
use Rattle.answers.specs.Check.{ok, ◌>>=◌, ◌>>◌}
use Rattle.rules.specs.declared.place.Location.{Location}
use Rattle.rules.specs.Region.{Region, free_in}
use Rattle.rules.specs.Path.{route}
use Rattle.rules.specs.Commands.{need_route}
use Rattle.rules.specs.Syntax.{device}
use Rattle.rules.specs.Slots as rules
use Rattle.rules.specs.Slots.{bool, merges}
use Rattle.rules.specs.Machine.{Frame, Item}
use Rattle.sets.specs.declared.LocationSet.{LocationSet}
use Rattle.sets.specs.declared.rows.Rows.{Rows}
use Rattle.sets.specs.Sets.{has}
use Rattle.device.specs.Reader.{Owned, RowsOf}
use Rattle.device.proofs.FreeLaws.{free_same as free-locations}
use Rattle.route.specs.Found.{edges_of}
use Rattle.steps.specs.declared.Act.{Act}
use Rattle.steps.specs.declared.Act.TheVariants.{Quiet}
use Rattle.steps.specs.declared.slots.Slots.{Slots}
use Rattle.steps.specs.State.{place_of, slots_of}
use Rattle.steps.specs.Told.{act_of}
use Rattle.steps.specs.Performing.{Answer, performed, Tells, Maps, Routes, Merges}
use Rattle.steps.proofs.Perform.{Refuses, Gives, bindable, qubit_of, stops, goes}

-- the set has the free locations, as the rules have them
free_same : (owned free : LocationSet) (map : List ℕ) (R : Region) (occupancy : List ℕ) → Owned R owned → Maps map occupancy
    → ((y : ℕ) → has free y ≡ (has owned y && eqb (get_or map y 0) 0)) → has free ≡ free_in R occupancy
free_same owned free map R occupancy O M h = free-locations owned free R occupancy O (λ y. h y ∙ ap (λ (z : ℕ). has owned y && eqb z 0) (M.same y))

-- the reason that a missing route is given
pub reason_is : (d : Option ℕ) (x reason : Fault) → d ≡ None → ◌≡◌ {A = Result ℕ Fault} (Err x) (ok_or d reason) → x ≡ reason
reason_is d x reason z e = ap (λ (r : Result ℕ Fault). elim r [ Ok n ↦ x | Err y ↦ y ]) (e ∙ ap (λ (o : Option ℕ). ok_or o reason) z)

not_none : {n : ℕ} → ◌≡◌ {A = Option ℕ} None (Some n) → ⊥
not_none e = let z : ◌≡◌ {A = ℕ} 0 1 = ap (λ (d : Option ℕ). elim d [ None ↦ 0 | Some x ↦ 1 ]) e in absurd (omega arith)

module _ (φ : Slots) (r : Answer) (y : ℕ) (l k : Location) (rows : Rows) (owned : LocationSet) (map : List ℕ) (v : Bool) where
  -- what a merge gives, by its route
  abbrev Along : Maybe (List ℕ) → rules.Act device → ℕ → List Frame → List Item → Type 0
  Along X a o φs rest =
      Tells r φs rest ((need_route X o >>= λ p. ok (length p - 1)) >>= λ e. ok
      (record { next = record { top = set (slots_of φ) y (bool v); below = φs; items = rest }; act = a; edges = e }))

  no_route : (X : Maybe (List ℕ)) (a : rules.Act device) (o : ℕ) (φs : List Frame) (rest : List Item) → None ≡ edges_of X → r ≡ Err NoPath → Along X a o φs rest
  unfolding ◌>>=◌
  no_route none a o φs rest e g = stops g
  no_route (some p) a o φs rest e g = absurd (not_none e)

  a_route : (X : Maybe (List ℕ)) (a : rules.Act device) (o : ℕ) (φs : List Frame) (rest : List Item) (e : ℕ) (ψ : Slots) → act_of a ≡ Quiet
      → Some e ≡ edges_of X → slots_of ψ ≡ set (slots_of φ) y (bool v)
      → r ≡ Ok (performed ψ e Quiet) → Along X a o φs rest
  unfolding ◌>>=◌
  a_route none a o φs rest e ψ q h s g = absurd (not_none (sym h))
  a_route (some p) a o φs rest e ψ q h s g =
      goes ψ a s (g ∙ ap (λ (z : Act). Ok (performed ψ e z)) (sym q)
      ∙ ap (λ (z : ℕ). Ok (performed ψ z (act_of a))) (ap (λ (z : Option ℕ). elim z [ None ↦ e | Some x ↦ x ]) h))

  module _ (free : LocationSet) (f : (y : ℕ) → has free y ≡ (has owned y && eqb (get_or map y 0) 0)) (d : Option ℕ)
      (h : (R : Region) → RowsOf R rows → d ≡ edges_of (route R (has free) l.0 k.0)) where
    edges_are : (R : Region) (occupancy : List ℕ) → Owned R owned → RowsOf R rows → Maps map occupancy → d ≡ edges_of (route R (free_in R occupancy) l.0 k.0)
    edges_are R occupancy O W M = h R W ∙ ap (λ (z : ℕ → Bool). edges_of (route R z l.0 k.0)) (free_same owned free map R occupancy O M f)

    pub join_stops : d ≡ None → r ≡ Err NoPath → Routes φ y l k rows owned map v r
    join_stops z g R occupancy O W M c q o φs rest = no_route (route R (free_in R occupancy) l.0 k.0) c o φs rest (sym z ∙ edges_are R occupancy O W M) g

    pub join_goes : (e : ℕ) (ψ : Slots) → d ≡ Some e → slots_of ψ ≡ set (slots_of φ) y (bool v) → r ≡ Ok (performed ψ e Quiet)
        → Routes φ y l k rows owned map v r
    join_goes e ψ z s g R occupancy O W M c q o φs rest = a_route (route R (free_in R occupancy) l.0 k.0) c o φs rest e ψ q
        (sym z ∙ edges_are R occupancy O W M) s g

-- the merge's tests, exit by exit
module _ (φ : Slots) (r : Answer) (y x z : ℕ) (rows : Rows) (owned : LocationSet) (map : List ℕ) (v : Bool) where
  module _ (reason : Fault) (k : r ≡ Err reason) where
    pub merge_unbound : Refuses reason (bindable φ y) → Merges φ y x z rows owned map v r
    unfolding ◌>>=◌ ◌>>◌
    merge_unbound e d σ b c R fs occupancy O W M o φs rest = rw (sym (e o)) (stops k)

    module _ (m : Gives tt (bindable φ y)) where
      pub merge_no_first : Refuses reason (qubit_of φ x) → Merges φ y x z rows owned map v r
      unfolding ◌>>=◌ ◌>>◌
      merge_no_first e d σ b c R fs occupancy O W M o φs rest = rw (sym (m o), sym (e o)) (stops k)

      pub merge_no_second : (l : Location) → Gives (place_of l) (qubit_of φ x) → Refuses reason (qubit_of φ z) → Merges φ y x z rows owned map v r
      unfolding ◌>>=◌ ◌>>◌
      merge_no_second l f e d σ b c R fs occupancy O W M o φs rest = rw (sym (m o), sym (f o), sym (e o)) (stops k)

  module _ (m : Gives tt (bindable φ y)) (l k : Location) (f : Gives (place_of l) (qubit_of φ x)) (g : Gives (place_of k) (qubit_of φ z)) where
    pub merge_twice : x ≡ z → r ≡ Err Twice → Merges φ y x z rows owned map v r
    unfolding ◌>>=◌ ◌>>◌
    merge_twice n k d σ b c R fs occupancy O W M o φs rest = rw (sym (m o), sym (f o), sym (g o), eq-eqb x z n) (stops k)

    pub merge_routes : (x ≡ z → ⊥) → Routes φ y l k rows owned map v r → Merges φ y x z rows owned map v r
    unfolding ◌>>=◌ ◌>>◌
    merge_routes n G d σ b c R fs occupancy O W M o φs rest =
        rw (sym (m o), sym (f o), sym (g o), ne_eqb x z n) (G R occupancy O W M (merges b (place_of l) c (place_of k)) refl o φs rest)
