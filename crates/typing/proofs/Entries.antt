-- The environments that bodies are entered with.
use mathlib.Core.Bool.{Bool, true, false, not, ◌&&◌, ◌||◌}
use mathlib.Core.List.{List, [], ◌∷◌, ◌++◌, map}
use mathlib.Core.Path.{◌≡◌, refl, sym, ap, ◌∙◌}
use native.Mathlib.Decide.{ℕ_discrete, dec_lt}
use native.Mathlib.Omega.{arith}
use Prim.Native.Nat.{ℕ, zero, suc, ◌+◌, ◌-◌, ◌≤◌, ◌<◌}
use borrow.Author.Tests.{eq-eqb, ne_eqb, lt-ltb, le-ltb}
use lib.Dec.{eqb, ltb}
use lib.ListN.{get_or, length, replicate, length-set, length-append, length-replicate, length-map, get_or-replicate, get_or-eq_default}
use lib.Seq.{get_or-set_same, get_or-set_other}
use Rattle.rules.specs.Basics.{up_to}
use Rattle.rules.specs.Syntax.{Side, parameter, Place, param, Function}
use Rattle.rules.specs.Slots.{unbound, qubit, slot, entered}
use Rattle.rules.specs.Typing.{Kind, entry}
use Rattle.sets.specs.declared.LocationSet.{LocationSet}
use Rattle.sets.specs.Sets.{has}
use Rattle.typing.specs.declared.slots.Slot.TheVariants.{Unbound, Qubit}
use Rattle.typing.specs.declared.env.Env.{Env}
use Rattle.typing.specs.Stands.{kind_of, slot_of, bound, EnvIs}
use Rattle.typing.proofs.Lists.{length_up_to, get_d_up_to_zero}

-- the first numbers, one by one
module _ (s : LocationSet) where
  pub first_none : ((y : ℕ) → has s y ≡ false) → (y : ℕ) → has s y ≡ ltb y 0
  first_none h y = h y ∙ sym (le-ltb y 0 (omega arith))

  pub first_one : (r : LocationSet) (i : ℕ) → ((y : ℕ) → has s y ≡ ltb y i) → ((y : ℕ) → has r y ≡ (eqb y i || has s y)) → (y : ℕ) → has r y ≡ ltb y (i + 1)
  first_one r i h a y = a y ∙ ap (λ (b : Bool). eqb y i || b) (h y) ∙ go (ℕ_discrete y i) (dec_lt y i)
    where
      go : Dec (y ≡ i) → Dec (y < i) → (eqb y i || ltb y i) ≡ ltb y (i + 1)
      go (yes q) l = rw (eq-eqb y i q, lt-ltb y (i + 1) (omega arith))
      go (no q) (yes l) = rw (ne_eqb y i q, lt-ltb y i l, lt-ltb y (i + 1) (omega arith))
      go (no q) (no l) = rw (ne_eqb y i q, le-ltb y i (omega arith), le-ltb y (i + 1) (omega arith))

-- the slots below i hold the arguments, the others nothing
pub record Entering (free : LocationSet) (i : ℕ) (e : Env) : Type 0 where
  pub count : length e.slots ≡ 32
  pub places : e.free ≡ free
  pub arguments : (x : ℕ) → x < i → slot_of e x ≡ Qubit x
  pub others : (x : ℕ) → i ≤ x → x < 32 → slot_of e x ≡ Unbound

pub entering_none : {free : LocationSet} {e : Env} → e ≡ record { slots = replicate 32 Unbound; free = free } → Entering e.free 0 e
entering_none h =
    rw h
    (record { count = refl; places = refl; arguments = λ x l. absurd (omega arith); others = λ x l k. get_or-replicate 32 x Unbound Unbound k })

pub entering_one : {free : LocationSet} {i : ℕ} {e b : Env} → i < 32 → Entering free i e → b ≡ bound e i (Qubit i) → Entering free (i + 1) b
entering_one {free} {i} {e} {b} l r s = record {
  count = ap (λ (a : Env). length a.slots) s ∙ length-set e.slots i (Qubit i) ∙ r.count;
  places = ap (λ (a : Env). a.free) s ∙ r.places;
  arguments = λ x k. below x k (ℕ_discrete x i);
  others = λ x k m. other x (omega arith) ∙ r.others x (omega arith) m;
}
  where
    other : (x : ℕ) → (x ≡ i → ⊥) → slot_of b x ≡ slot_of e x
    other x h = ap (λ (a : Env). slot_of a x) s ∙ get_or-set_other e.slots i x (Qubit i) Unbound h

    below : (x : ℕ) → x < i + 1 → Dec (x ≡ i) → slot_of b x ≡ Qubit x
    below x k (yes h) = rw h (ap (λ (a : Env). slot_of a i) s ∙ get_or-set_same e.slots i (Qubit i) Unbound (omega (arith, r.count)))
    below x k (no h) = other x h ∙ r.arguments x (omega arith)

-- the slots of the rules: the arguments, then nothing
arguments_first : (ls : List (Place parameter)) (n x : ℕ) → x < length ls
    → slot (map {B = Kind parameter} qubit ls ++ replicate n unbound) x ≡ qubit (get_or ls x (record { no = 0 }))
arguments_first [] n x h = absurd (omega arith)
arguments_first (l ∷ ls) n zero h = refl
arguments_first (l ∷ ls) n (suc x) h = arguments_first ls n x (omega arith)

none_at : (d : Side) (n x : ℕ) → slot (replicate {A = Kind d} n unbound) x ≡ unbound
none_at d zero x = refl
none_at d (suc n) zero = refl
none_at d (suc n) (suc x) = none_at d n x

then_none : (ls : List (Place parameter)) (n x : ℕ) → length ls ≤ x → slot (map {B = Kind parameter} qubit ls ++ replicate n unbound) x ≡ unbound
then_none [] n x h = none_at parameter n x
then_none (l ∷ ls) n zero h = absurd (omega arith)
then_none (l ∷ ls) n (suc x) h = then_none ls n x (omega arith)

-- the places of the rules: the arguments' taken, the rest free
places_low : (m r y : ℕ) → y < m → get_or (replicate m false ++ replicate r true) y false ≡ false
places_low zero r y h = absurd (omega arith)
places_low (suc m) r zero h = refl
places_low (suc m) r (suc y) h = places_low m r y (omega arith)

places_mid : (m r y : ℕ) → m ≤ y → y < m + r → get_or (replicate m false ++ replicate r true) y false ≡ true
places_mid zero r y h k = get_or-replicate r y true false (omega arith)
places_mid (suc m) r zero h k = absurd (omega arith)
places_mid (suc m) r (suc y) h k = places_mid m r y (omega arith) (omega arith)

places_length : (m r : ℕ) → length (replicate m false ++ replicate r true) ≡ m + r
places_length m r = length-append (replicate m false) (replicate r true) ∙ rw (length-replicate m false, length-replicate r true)

places_at : (m k y : ℕ) → m ≤ k → get_or (replicate m false ++ replicate (k - m) true) y false ≡ (ltb y k && not (ltb y m))
places_at m k y h = go (dec_lt y m) (dec_lt y k)
  where
    go : Dec (y < m) → Dec (y < k) → get_or (replicate m false ++ replicate (k - m) true) y false ≡ (ltb y k && not (ltb y m))
    go (yes l) d = rw (lt-ltb y m l, lt-ltb y k (omega arith)) (places_low m (k - m) y l)
    go (no l) (yes d) = rw (le-ltb y m (omega arith), lt-ltb y k d) (places_mid m (k - m) y (omega arith) (omega arith))
    go (no l) (no d) =
        rw (le-ltb y k (omega arith))
        (get_or-eq_default (replicate m false ++ replicate (k - m) true) false (omega (arith, places_length m (k - m))))

pub entering_all : {free : LocationSet} {i k m : ℕ} {e : Env} (g : Function) → g.k ≡ k → g.m ≡ m → m ≤ 8 → m ≤ k → i ≡ m → Entering free i e
    → ((y : ℕ) → has free y ≡ (ltb y k && not (ltb y m))) → EnvIs k e (entry g)
entering_all {free} {i} {k} {m} {e} g p q h l a r f = record {
  count = r.count;
  long = long_is;
  wide = places_length g.m (g.k - g.m) ∙ omega arith;
  slots = λ x n. slot_is x n (dec_lt x i);
  there = λ x j n z. there_is x j n z (dec_lt x i);
  free = λ y. places_at g.m g.k y (omega arith) ∙ rw (p, q) (sym (f y)) ∙ ap (λ s. has s y) (sym r.places);
}
  where
    ls : List (Place parameter)
    ls = up_to 0 g.m param

    number : length ls ≡ g.m
    number = length_up_to 0 g.m param

    long_is : length (entered {B = Unit {0}} ls) ≡ 32
    long_is =
        length-append (map {B = Kind parameter} qubit ls) (replicate (32 - length ls) unbound)
        ∙ rw (length-map {B = Kind parameter} ls qubit, length-replicate {A = Kind parameter} (32 - length ls) unbound) (omega (arith, number))

    slot_is : (x : ℕ) → x < 32 → Dec (x < i) → slot (entered ls) x ≡ kind_of parameter (slot_of e x)
    slot_is x n (yes d) =
        arguments_first ls (32 - length ls) x (omega (arith, number))
        ∙ ap (λ (z : Place parameter). qubit z) (get_d_up_to_zero g.m x param _ (omega arith)) ∙ ap (kind_of parameter) (sym (r.arguments x d))
    slot_is x n (no d) = then_none ls (32 - length ls) x (omega (arith, number)) ∙ ap (kind_of parameter) (sym (r.others x (omega arith) n))

    there_is : (x j : ℕ) → x < 32 → slot_of e x ≡ Qubit j → Dec (x < i) → j < k
    there_is x j n z (yes d) = let c = r.arguments x d in let w : x ≡ j = cc in omega arith
    there_is x j n z (no d) = let c = r.others x (omega arith) n in let w : ◌≡◌ {A = ℕ} 0 1 = cc in absurd (omega arith)

-- the places that hold no argument
pub rest_of : (a b c : LocationSet) (k m : ℕ) → ((y : ℕ) → has a y ≡ ltb y k) → ((y : ℕ) → has b y ≡ ltb y m)
    → ((y : ℕ) → has c y ≡ (has a y && not (has b y))) → (y : ℕ) → has c y ≡ (ltb y k && not (ltb y m))
rest_of a b c k m f g h y = h y ∙ rw (f y, g y)
