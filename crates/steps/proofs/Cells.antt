-- The slots of the code are those of the rules, one by one: what is read at a number, and what a store at a number gives.
use mathlib.Core.List.{List, [], ◌∷◌, map}
use mathlib.Core.Path.{◌≡◌, refl, sym, ap, ◌∙◌}
use Prim.Native.Nat.{ℕ, zero, suc, ◌+◌, ◌-◌}
use lib.ListN.{get_or, set, get_or-map}
use borrow.Author.Tests.{eq-eqb, ne_eqb}
use Rattle.rules.specs.declared.place.Location.{Location}
use Rattle.rules.specs.Slots.{slot}
use Rattle.steps.specs.declared.slots.Slot.{Slot}
use Rattle.steps.specs.declared.slots.Slot.TheVariants.{Unbound}
use Rattle.steps.specs.declared.slots.Slots.{Slots}
use Rattle.steps.specs.declared.frames.Frame.{Frame}
use Rattle.steps.specs.declared.job.Job.{Job}
use Rattle.steps.specs.State.{slot_of, slots_of, location_at, range, range_at, with_ranges, advanced, pushed, located_in}

map_set : {A B : Type 0} (f : A → B) (l : List A) (i : ℕ) (a : A) → map f (set l i a) ≡ set (map f l) i (f a)
map_set f [] i a = refl
map_set f (x ∷ l) zero a = refl
map_set f (x ∷ l) (suc i) a = ap (λ (m : List _). f x ∷ m) (map_set f l i a)

module _ (φ : Slots) (x y : ℕ) (e : x ≡ y) where
  pub slots_held : slot_of (get_or φ.slots x Unbound) ≡ slot (slots_of φ) y
  unfolding slots_of
  slots_held = sym (get_or-map slot_of φ.slots x Unbound) ∙ ap (slot (slots_of φ)) e

  pub slots_bound : (v : Slot) → slots_of (record { slots = set φ.slots x v }) ≡ set (slots_of φ) y (slot_of v)
  unfolding slots_of
  slots_bound v = map_set slot_of φ.slots x v ∙ ap (λ (z : ℕ). set (slots_of φ) z (slot_of v)) e

-- the two ways of a range that goes on, and of a range more
module _ (f : Frame) where
  pub advanced_ends : (p : ℕ) → p ≡ (range_at f.ranges (f.n - 1)).end → with_ranges f f.ranges (f.n - 1) ≡ advanced f p
  unfolding advanced
  advanced_ends p h = sym (rw (eq-eqb p (range_at f.ranges (f.n - 1)).end h))

  pub advanced_goes : (p : ℕ) → (p ≡ (range_at f.ranges (f.n - 1)).end → ⊥)
      → with_ranges f (set f.ranges (f.n - 1) (range p (range_at f.ranges (f.n - 1)).end)) f.n ≡ advanced f p
  unfolding advanced
  advanced_goes p h = sym (rw (ne_eqb p (range_at f.ranges (f.n - 1)).end h))

  pub pushed_none : (a e : ℕ) → a ≡ e → f ≡ pushed f a e
  unfolding pushed
  pushed_none a e h = sym (rw (eq-eqb a e h))

  pub pushed_one : (a e : ℕ) → (a ≡ e → ⊥) → with_ranges f (set f.ranges f.n (range a e)) (f.n + 1) ≡ pushed f a e
  unfolding pushed
  pushed_one a e h = sym (rw (ne_eqb a e h))

module _ (j : Job) (b : ℕ) where
  pub located_main : j.depth ≡ 0 → ◌≡◌ {A = Location} (record { 0 = b }) (located_in j b)
  unfolding located_in
  located_main h = sym (rw (eq-eqb j.depth 0 h))

  pub located_call : (l : Location) → (j.depth ≡ 0 → ⊥) → l ≡ location_at j.top.places b → l ≡ located_in j b
  unfolding located_in
  located_call l h e = e ∙ sym (rw (ne_eqb j.depth 0 h))
