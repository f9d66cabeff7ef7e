-- Laws of environments: a store to a slot, and a place taken or given back, in the code and in the rules. Both sides change the same slot or the
-- same place, so every slot and every place still agrees: at the number itself by what was stored, at every other because nothing was.
use mathlib.Core.Bool.{Bool, true, false, not, ◌&&◌, ◌||◌}
use mathlib.Core.List.{List}
use mathlib.Core.Path.{◌≡◌, refl, sym, ap, subst, ◌∙◌}
use native.Mathlib.Decide.{ℕ_discrete}
use native.Mathlib.Omega.{arith}
use Prim.Native.Nat.{ℕ, ◌<◌}
use borrow.Author.Tests.{eq-eqb, ne_eqb}
use lib.Dec.{eqb}
use lib.ListN.{get_or, set, length, length-set}
use lib.Seq.{get_or-set_same, get_or-set_other}
use Rattle.std.specs.Prelude.{None}
use Rattle.rules.specs.Syntax.{Side}
use Rattle.rules.specs.Slots.{unbound, slot}
use Rattle.rules.specs.Typing.{Env as Environment}
use Rattle.sets.specs.Sets.{has}
use Rattle.typing.specs.declared.slots.Slot.{Slot}
use Rattle.typing.specs.declared.slots.Slot.TheVariants.{Unbound, Qubit}
use Rattle.typing.specs.declared.env.Env.{Env}
use Rattle.typing.specs.Stands.{kind_of, place_of, slot_of, bound, EnvIs}

-- a slot of another kind holds no qubit
no_place : {X : Type 0} {v : Slot} (l : ℕ) → place_of v ≡ None → v ≡ Qubit l → X
no_place l e q = let z : ◌≡◌ {A = ℕ} 0 1 = cc in absurd (omega arith)

-- a store to a slot
module _ {d : Side} {n : ℕ} {e : Env} {Γ : Environment d} (is : EnvIs n e Γ) (x : ℕ) (h : x < 32) (v : Slot) where
  stored : (y : ℕ) → Dec (y ≡ x) → y < 32 → slot (set Γ.slots x (kind_of d v)) y ≡ kind_of d (slot_of (bound e x v) y)
  stored y (yes q) k =
      subst (λ (z : ℕ). slot (set Γ.slots x (kind_of d v)) z ≡ kind_of d (slot_of (bound e x v) z)) (sym q)
      (get_or-set_same Γ.slots x (kind_of d v) unbound (omega (arith, is.long))
      ∙ ap (kind_of d) (sym (get_or-set_same e.slots x v Unbound (omega (arith, is.count)))))
  stored y (no q) k = get_or-set_other Γ.slots x y (kind_of d v) unbound q ∙ is.slots y k ∙ ap (kind_of d) (sym (get_or-set_other e.slots x y v Unbound q))

  stored_there : ((l : ℕ) → v ≡ Qubit l → l < n) → (y l : ℕ) → Dec (y ≡ x) → y < 32 → slot_of (bound e x v) y ≡ Qubit l → l < n
  stored_there t y l (yes q) k r =
      t l (sym (get_or-set_same e.slots x v Unbound (omega (arith, is.count))) ∙ subst (λ (z : ℕ). slot_of (bound e x v) z ≡ Qubit l) q r)
  stored_there t y l (no q) k r = is.there y l k (sym (get_or-set_other e.slots x y v Unbound q) ∙ r)

  bind_is : ((l : ℕ) → v ≡ Qubit l → l < n) → EnvIs n (bound e x v) (record { slots = set Γ.slots x (kind_of d v); free = Γ.free })
  bind_is t = record {
    count = length-set e.slots x v ∙ is.count;
    long = length-set Γ.slots x (kind_of d v) ∙ is.long;
    wide = is.wide;
    slots = λ y k. stored y (ℕ_discrete y x) k;
    there = λ y l k r. stored_there t y l (ℕ_discrete y x) k r;
    free = is.free;
  }

  module _ {b : Env} (q : b ≡ bound e x v) where
    bound_at : ((l : ℕ) → v ≡ Qubit l → l < n) → EnvIs n b (record { slots = set Γ.slots x (kind_of d v); free = Γ.free })
    bound_at t = subst (λ (a : Env). EnvIs n a (record { slots = set Γ.slots x (kind_of d v); free = Γ.free })) (sym q) (bind_is t)

    -- what is stored is no qubit, or one at a place of the body
    pub bound_is : place_of v ≡ None → EnvIs n b (record { slots = set Γ.slots x (kind_of d v); free = Γ.free })
    bound_is w = bound_at (λ l. no_place l w)

    pub bound_qubit : (l : ℕ) → v ≡ Qubit l → l < n → EnvIs n b (record { slots = set Γ.slots x (kind_of d v); free = Γ.free })
    bound_qubit l w u = bound_at (λ i c. let z : l ≡ i = cc in omega arith)

-- a place taken or given back
module _ {d : Side} {n : ℕ} {e : Env} {Γ : Environment d} (is : EnvIs n e Γ) (r : Env) (same : r.slots ≡ e.slots) (l : ℕ) (h : l < n) where
  with_places : (fs : List Bool) → length fs ≡ n → ((y : ℕ) → get_or fs y false ≡ has r.free y) → EnvIs n r (record { slots = Γ.slots; free = fs })
  with_places fs m f = record {
    count = ap (λ (vs : List Slot). length vs) same ∙ is.count;
    long = is.long;
    wide = m;
    slots = λ y k. is.slots y k ∙ ap (λ (vs : List Slot). kind_of d (get_or vs y Unbound)) (sym same);
    there = λ y l k q. is.there y l k (ap (λ (vs : List Slot). get_or vs y Unbound) (sym same) ∙ q);
    free = f;
  }

  taken : (y : ℕ) → Dec (y ≡ l) → get_or (set Γ.free l false) y false ≡ (not (eqb y l) && has e.free y)
  taken y (yes q) = rw (q, eq-eqb l l refl) (get_or-set_same Γ.free l false false (omega (arith, is.wide)))
  taken y (no q) = rw (ne_eqb y l q) (get_or-set_other Γ.free l y false false q ∙ is.free y)

  given : (y : ℕ) → Dec (y ≡ l) → get_or (set Γ.free l true) y false ≡ (eqb y l || has e.free y)
  given y (yes q) = rw (q, eq-eqb l l refl) (get_or-set_same Γ.free l true false (omega (arith, is.wide)))
  given y (no q) = rw (ne_eqb y l q) (get_or-set_other Γ.free l y true false q ∙ is.free y)

  pub take_is : ((y : ℕ) → has r.free y ≡ (not (eqb y l) && has e.free y)) → EnvIs n r (record { slots = Γ.slots; free = set Γ.free l false })
  take_is f = with_places (set Γ.free l false) (length-set Γ.free l false ∙ is.wide) (λ y. taken y (ℕ_discrete y l) ∙ sym (f y))

  pub give_is : ((y : ℕ) → has r.free y ≡ (eqb y l || has e.free y)) → EnvIs n r (record { slots = Γ.slots; free = set Γ.free l true })
  give_is f = with_places (set Γ.free l true) (length-set Γ.free l true ∙ is.wide) (λ y. given y (ℕ_discrete y l) ∙ sym (f y))
