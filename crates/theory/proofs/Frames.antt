-- Run-time slots that fit their kinds. A slot that typing has as a qubit at a place holds a qubit at the location of that place, one that typing has
-- as a bool or a reference holds one; where typing says unbound a bool or a reference of a closed block may still stand, but no qubit. Every store,
-- the end of a block, the entry of a callee and its return keep this, because typing and the machine store at the same slots.
use mathlib.Core.Bool.{Bool, true, false, not, ◌&&◌, false≢true}
use mathlib.Core.List.{List, [], ◌∷◌}
use mathlib.Core.Logic.{◌⊎◌, inl, inr}
use mathlib.Core.Path.{◌≡◌, refl, ap, subst, ◌∙◌}
use native.Mathlib.Decide.{ℕ_discrete, dec_lt}
use native.Mathlib.Nat.{suc-add, add-suc, add-zero}
use native.Mathlib.Omega.{arith}
use Prim.Native.Nat.{ℕ, suc, ◌+◌, ◌≤◌, ◌<◌}
use lib.Dec.{eqb}
use lib.ListN.{get_or, set, length, take, length-set}
use lib.Seq.{get_or-set_same, get_or-set_other, set_out, set-get_or, length-take-le, get_or-take}
use Rattle.rules.specs.Basics.{chosen, any, up_to, without, set_all, distinct}
use Rattle.rules.specs.Syntax.{Side, device, parameter, Place, param, at}
use Rattle.rules.specs.Slots.{Slot, unbound, qubit, bool, ref, slot, holds_no_qubit, is_classical, is_qubit_at, entered}
use Rattle.rules.specs.Typing.{Kind, Env, narrowed}
use Rattle.rules.specs.Figures.{stored, kind_at, Arguments, no_more, and}
use Rattle.rules.specs.Machine.{Frame}
use Rattle.rules.proofs.Basics.{length_up_to}
use Rattle.rules.proofs.Tests.{eqb_same, eqb_false, and_left, neither}
use Rattle.theory.proofs.Base.{distinct_head, distinct_tail}
use Rattle.theory.proofs.Places.{slot_out, length_entered, entered_at, entered_past, entry_at, entry_past, slot_narrowed, length_narrowed}

-- 1. A store at several slots leaves the others alone.
any_without : (x : ℕ) (bs : List Bool) (xs : List ℕ) → any (eqb x) xs ≡ false → any (eqb x) (without bs xs) ≡ false
any_without x [] xs h = refl
any_without x (b ∷ bs) [] h = refl
any_without x (true ∷ bs) (y ∷ xs) h = any_without x bs xs (neither (eqb x y) _ h).1
any_without x (false ∷ bs) (y ∷ xs) h = rw (neither (eqb x y) _ h).0 (any_without x bs xs (neither (eqb x y) _ h).1)

module _ {A : Type 0} where
  pub set_all_other : (v d : A) (x : ℕ) (ns : List ℕ) (φ : List A) → any (eqb x) ns ≡ false → get_or (set_all v ns φ) x d ≡ get_or φ x d
  set_all_other v d x [] φ h = refl
  set_all_other v d x (n ∷ ns) φ h =
      let (p, q) = neither (eqb x n) _ h in
      get_or-set_other (set_all v ns φ) n x v d (eqb_false x n p) ∙ set_all_other v d x ns φ q

-- 2. Slots that fit kinds
-- of one argument, its kind after a call and whether its slot stays bound: the callee ended without it, or with it where it was
abbrev pub Settled : {s : Side} → Kind s → Bool → Place s → Type 0
Settled k b l = ((k ≡ unbound) × (b ≡ false)) ⊎ ((k ≡ qubit l) × (b ≡ true))

-- ρ says which location a place is
module _ {s : Side} (ρ : Place s → Place device) where
  abbrev pub Match : Kind s → Slot device Bool → Type 0
  Match unbound v = holds_no_qubit v ≡ true
  Match (qubit l) v = v ≡ qubit (ρ l)
  Match (bool b) v = (w : Bool) × (v ≡ bool w)
  Match (ref b) v = (w : Bool) × (v ≡ ref w)

  pub record Fits (vs : List (Kind s)) (φ : Frame) : Type 0 where
    pub kinds_long : length vs ≡ 32
    pub slots_long : length φ ≡ 32
    pub each : (x : ℕ) → Match (slot vs x) (slot φ x)

  pub fits_set : {vs : List (Kind s)} {φ : Frame} (x : ℕ) (k : Kind s) (v : Slot device Bool) → Fits vs φ → Match k v → Fits (set vs x k) (set φ x v)
  fits_set {vs} {φ} x k v F m =
      record {
        kinds_long = length-set vs x k ∙ F.kinds_long;
        slots_long = length-set φ x v ∙ F.slots_long;
        each = λ y. go y (ℕ_discrete y x) (dec_lt x 32);
      }
    where
      go : (y : ℕ) → Dec (y ≡ x) → Dec (x < 32) → Match (slot (set vs x k) y) (slot (set φ x v) y)
      go y (no n) d = rw (get_or-set_other vs x y k unbound n, get_or-set_other φ x y v unbound n) (F.each y)
      go y (yes e) (yes h) =
          let kind : slot (set vs x k) x ≡ k = get_or-set_same vs x k unbound (omega (arith, F.kinds_long)) in
          let value : slot (set φ x v) x ≡ v = get_or-set_same φ x v unbound (omega (arith, F.slots_long)) in
          rw (e, kind, value) m
      go y (yes e) (no h) = rw (set_out vs x k (omega (arith, F.kinds_long)), set_out φ x v (omega (arith, F.slots_long))) (F.each y)

  -- a kind stored for a slot that fits it already
  fits_known : {vs : List (Kind s)} {φ : Frame} (x : ℕ) (k : Kind s) → Fits vs φ → Match k (slot φ x) → Fits (set vs x k) φ
  fits_known {vs} {φ} x k F m = subst (λ (ψ : Frame). Fits (set vs x k) ψ) (set-get_or φ x unbound) (fits_set x k (slot φ x) F m)

  chosen_match : (b : Bool) (k : Kind s) (v : Slot device Bool) → (b ≡ true → is_classical k ≡ true) → Match k v → Match (chosen b unbound k) v
  chosen_match false k v h m = m
  chosen_match true unbound v h m = m
  chosen_match true (qubit l) v h m = absurd (false≢true (h refl))
  chosen_match true (bool b) v h m = rw m.1
  chosen_match true (ref b) v h m = rw m.1

  pub fits_narrowed : (vs₀ vs : List (Kind s)) (φ : Frame) → Fits vs φ → Fits (narrowed vs₀ vs) φ
  fits_narrowed vs₀ vs φ F = record { kinds_long = length_narrowed vs₀ vs; slots_long = F.slots_long; each = λ x. go x (dec_lt x 32) }
    where
      go : (x : ℕ) → Dec (x < 32) → Match (slot (narrowed vs₀ vs) x) (slot φ x)
      go x (yes h) =
          let goes : Bool = is_classical (slot vs x) && not (is_classical (slot vs₀ x)) in
          rw (slot_narrowed vs₀ vs x h) (chosen_match goes (slot vs x) (slot φ x) (λ e. and_left (is_classical (slot vs x)) _ e) (F.each x))
      go x (no h) = let r = length_narrowed vs₀ vs in rw (slot_out (narrowed vs₀ vs) x (omega arith), slot_out φ x (omega (arith, F.slots_long)))

  -- the return, argument by argument
  pub fits_back : {Γ : Env s} {χ : Frame} (i : ℕ) (f : ℕ → Kind s) (g : ℕ → Bool) (xs : List ℕ) (ls : List (Place s)) → Fits Γ.slots χ
      → Arguments Γ xs ls
      → distinct xs ≡ true → ((j : ℕ) → j < length xs → Settled (f (i + j)) (g (i + j)) (at ls j))
      → Fits (stored (up_to i (length xs) f) xs Γ.slots) (set_all unbound (without (up_to i (length xs) g) xs) χ)
  fits_back i f g [] ls F no_more d h = F
  fits_back {Γ = Γ} {χ = χ} i f g (x ∷ xs) [] F a d h = elim a [ ]
  fits_back {Γ = Γ} {χ = χ} i f g (x ∷ xs) (l ∷ ls) F (and e r) d h =
      go (f i) (g i) (rw (add-zero i) at (h 0 (omega arith)))
      (fits_back (suc i) f g xs ls F r (distinct_tail x xs d) (λ j k. rw (suc-add i j, ← (add-suc i j)) (h (suc j) (omega arith))))
    where
      others : List ℕ
      others = without (up_to (suc i) (length xs) g) xs

      holds : slot (set_all unbound others χ) x ≡ qubit (ρ l)
      holds = set_all_other unbound unbound x others χ (any_without x (up_to (suc i) (length xs) g) xs (distinct_head x xs d)) ∙ rw e at (F.each x)

      go : (k : Kind s) (b : Bool) → Settled k b l → Fits (stored (up_to (suc i) (length xs) f) xs Γ.slots) (set_all unbound others χ)
          → Fits (set (stored (up_to (suc i) (length xs) f) xs Γ.slots) x k) (set_all unbound (without (b ∷ up_to (suc i) (length xs) g) (x ∷ xs)) χ)
      go k b (inl c) G = rw (c.0, c.1) (fits_set x unbound unbound G refl)
      go k b (inr c) G = rw (c.0, c.1) (fits_known x (qubit l) G holds)

-- 3. A callee's frame at its entry: slot j holds argument j
module _ (τ : Place parameter → Place device) where
  pub fits_entered : (m : ℕ) (ls : List (Place device)) → m ≤ 32 → m ≤ length ls → ((j : ℕ) → j < m → at ls j ≡ τ (param j))
      → Fits τ (entered (up_to 0 m param)) (entered (take m ls))
  fits_entered m ls h k e =
      record {
        kinds_long = length_entered (Unit {0}) (up_to 0 m param) (omega (arith, length_up_to 0 m param));
        slots_long = length_entered Bool (take m ls) (omega (arith, taken));
        each = λ x. go x (dec_lt x m);
      }
    where
      taken : length (take m ls) ≡ m
      taken = length-take-le m ls k

      go : (x : ℕ) → Dec (x < m) → Match τ (slot (entered (up_to 0 m param)) x) (slot (entered (take m ls)) x)
      go x (yes d) = rw (entry_at m x d) (entered_at Bool (take m ls) x (omega (arith, taken)) ∙ ap qubit (get_or-take m ls x _ d ∙ e x d))
      go x (no d) = rw (entry_past m x (omega arith), entered_past Bool (take m ls) x (omega (arith, taken)))

  -- what a callee's slot says of the argument
  pub settled : {s : Side} (ls : List (Place s)) (actual : List (Place device)) (k : Kind parameter) (v : Slot device Bool) (j : ℕ) → Match τ k v
      → at actual j ≡ τ (param j) → (k ≡ qubit (param j)) ⊎ (k ≡ unbound) → Settled (kind_at ls k) (is_qubit_at v (at actual j)) (at ls j)
  settled ls actual k v j m e (inl h) = let r : v ≡ qubit (τ (param j)) = rw h at m in rw (h, r, e) (inr (refl, eqb_same (τ (param j)).no))
  settled ls actual k v j m e (inr h) = rw h (inl (refl, no_qubit v (rw h at m)))
    where
      no_qubit : (v : Slot device Bool) → holds_no_qubit v ≡ true → is_qubit_at v (at actual j) ≡ false
      no_qubit unbound r = refl
      no_qubit (qubit l) r = absurd (false≢true r)
      no_qubit (bool b) r = refl
      no_qubit (ref b) r = refl
