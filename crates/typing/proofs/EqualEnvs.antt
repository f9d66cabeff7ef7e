-- Two environments are equal where every slot has the same kind and every place is free in both or in neither: the code compares the slots, and asks
-- of the places whether one is in one set alone. A place that is in one alone is a place of the body, since beyond them both lists say no.
use mathlib.Core.Bool.{Bool, true, false, not, beq, false≢true}
use mathlib.Core.List.{List, [], ◌∷◌, map}
use mathlib.Core.Path.{◌≡◌, refl, sym, ap, ◌∙◌}
use native.Mathlib.Decide.{ℕ_discrete, dec_lt}
use native.Mathlib.Omega.{arith}
use Prim.Native.Nat.{ℕ, ◌+◌, ◌<◌}
use borrow.Author.Tests.{eq-eqb, ne_eqb}
use lib.Dec.{eqb}
use lib.ListN.{get_or, get_or-eq_default}
use lib.Pointwise.{pointwise}
use Rattle.rules.specs.Basics.{same_list}
use Rattle.rules.specs.Syntax.{Side}
use Rattle.rules.specs.Typing.{Env as Environment, same_kind, same_env}
use Rattle.sets.specs.Sets.{has}
use Rattle.typing.specs.declared.slots.Slot.{Slot}
use Rattle.typing.specs.declared.slots.Slot.TheVariants.{Unbound, Qubit, Bool as ABool, Reference}
use Rattle.typing.specs.declared.env.Env.{Env}
use Rattle.typing.specs.contracts.slots.SlotPartialEq.TheImpl.{eq-value}
use Rattle.typing.specs.Stands.{kind_of, EnvIs}
use Rattle.typing.proofs.SlotLists.{slots_are}
use Rattle.typing.proofs.Lists.{same_yes, same_no}

abbrev pub same : Slot → Slot → Bool
same = eq-value.it

-- the derived equality of slots is that of their kinds
moved : (a b : ℕ) → eqb a b ≡ eqb (3 + a) (3 + b)
moved a b = go (ℕ_discrete a b)
  where
    go : Dec (a ≡ b) → eqb a b ≡ eqb (3 + a) (3 + b)
    go (yes e) = rw (eq-eqb a b e, eq-eqb (3 + a) (3 + b) (omega arith))
    go (no e) = rw (ne_eqb a b e, ne_eqb (3 + a) (3 + b) (λ q. e (omega arith)))

same_slot : (d : Side) (v w : Slot) → same v w ≡ same_kind (kind_of d v) (kind_of d w)
same_slot d Unbound Unbound = refl
same_slot d Unbound (Qubit l) = sym (ne_eqb 0 (3 + l) (λ e. absurd (omega arith)))
same_slot d Unbound ABool = refl
same_slot d Unbound Reference = refl
same_slot d (Qubit k) Unbound = sym (ne_eqb (3 + k) 0 (λ e. absurd (omega arith)))
same_slot d (Qubit k) (Qubit l) = moved k l
same_slot d (Qubit k) ABool = sym (ne_eqb (3 + k) 1 (λ e. absurd (omega arith)))
same_slot d (Qubit k) Reference = sym (ne_eqb (3 + k) 2 (λ e. absurd (omega arith)))
same_slot d ABool Unbound = refl
same_slot d ABool (Qubit l) = sym (ne_eqb 1 (3 + l) (λ e. absurd (omega arith)))
same_slot d ABool ABool = refl
same_slot d ABool Reference = refl
same_slot d Reference Unbound = refl
same_slot d Reference (Qubit l) = sym (ne_eqb 2 (3 + l) (λ e. absurd (omega arith)))
same_slot d Reference ABool = refl
same_slot d Reference Reference = refl

same_slots : (d : Side) (vs ws : List Slot) → pointwise same vs ws ≡ same_list same_kind (map (kind_of d) vs) (map (kind_of d) ws)
same_slots d [] [] = refl
same_slots d [] (w ∷ ws) = refl
same_slots d (v ∷ vs) [] = refl
same_slots d (v ∷ vs) (w ∷ ws) = rw (same_slot d v w, same_slots d vs ws)

module _ {d : Side} {n : ℕ} {a b : Env} {Γ Δ : Environment d} (is : EnvIs n a Γ) (too : EnvIs n b Δ) where
  slots_same : pointwise same a.slots b.slots ≡ same_list same_kind Γ.slots Δ.slots
  slots_same = rw (slots_are is, slots_are too) (same_slots d a.slots b.slots)

  -- the lists of places
  beq_same : (s t : Bool) → s ≡ t → beq s t ≡ true
  beq_same true t h = rw (sym h)
  beq_same false t h = rw (sym h)

  beq_other : (s t : Bool) → s ≡ not t → beq s t ≡ false
  beq_other s true h = rw h
  beq_other s false h = rw h

  free_same : ((y : ℕ) → has a.free y ≡ has b.free y) → same_list beq Γ.free Δ.free ≡ true
  free_same h = same_yes beq false Γ.free Δ.free (is.wide ∙ sym too.wide) (λ y l. beq_same _ _ (is.free y ∙ h y ∙ sym (too.free y)))

  -- beyond the places both say no
  among : (y : ℕ) → get_or Γ.free y false ≡ not (get_or Δ.free y false) → Dec (y < n) → y < n
  among y h (yes l) = l
  among y h (no l) =
      let p : get_or Γ.free y false ≡ false = get_or-eq_default Γ.free false (omega (arith, is.wide)) in
      let q : get_or Δ.free y false ≡ false = get_or-eq_default Δ.free false (omega (arith, too.wide)) in
      absurd (false≢true (sym p ∙ h ∙ ap not q))

  free_other : (y : ℕ) → has a.free y ≡ not (has b.free y) → same_list beq Γ.free Δ.free ≡ false
  free_other y h =
      let e : get_or Γ.free y false ≡ not (get_or Δ.free y false) = is.free y ∙ h ∙ ap not (sym (too.free y)) in
      same_no beq false Γ.free Δ.free (is.wide ∙ sym too.wide) y (omega (arith, among y e (dec_lt y n), is.wide)) (beq_other _ _ e)

  module _ {t : Bool} (e : t ≡ pointwise same a.slots b.slots) where
    pub env_other_slots : t ≡ false → t ≡ same_env Γ Δ
    unfolding same_env
    env_other_slots h = let f : same_list same_kind Γ.slots Δ.slots ≡ false = sym slots_same ∙ sym e ∙ h in h ∙ rw f

    pub env_same : {u : Bool} → t ≡ true → (u ≡ true → (y : ℕ) → has a.free y ≡ has b.free y)
        → (u ≡ false → (y : ℕ) × (has a.free y ≡ not (has b.free y))) → u ≡ same_env Γ Δ
    unfolding same_env
    env_same {u = true} h s o = let f : same_list same_kind Γ.slots Δ.slots ≡ true = sym slots_same ∙ sym e ∙ h in rw (f, free_same (s refl))
    env_same {u = false} h s o = let f : same_list same_kind Γ.slots Δ.slots ≡ true = sym slots_same ∙ sym e ∙ h in rw (f, free_other (o refl).0 (o refl).1)
