-- What several proofs on programs need, each said once. Of lists, by induction: numbers of which none comes twice, what stands where after several
-- stores, the places of a call and their numbers. Of slots, in typing and on the device, by their cases: which hold a qubit, before and after a store.
-- Of programs: the arguments of a call, commands at other places, which signature a number stands for, and the slots at a body's entry and a block's end.
use mathlib.Core.Bool.{Bool, true, false, not, ◌&&◌, ◌||◌, false≢true}
use mathlib.Core.List.{List, [], ◌∷◌, ◌++◌, map}
use mathlib.Core.Logic.{◌≢◌, ◌⊎◌, inl, inr, ⊎_elim}
use mathlib.Core.Path.{◌≡◌, refl, sym, ap, subst, ◌∙◌}
use native.Mathlib.Decide.{ℕ_discrete, dec_lt}
use native.Mathlib.Omega.{arith}
use Prim.Native.Nat.{ℕ, zero, suc, ◌+◌, ◌-◌, ◌≤◌, ◌<◌}
use lib.Dec.{eqb}
use lib.ListN.{get_or, set, length, drop, replicate, length-set, length-replicate, length-append, length-map, get_or-append, get_or-eq_default}
use lib.Seq.{get_or-set_same, get_or-set_other, set-get_or}
use Rattle.answers.proofs.Laws.{Holds, not_ok, by}
use Rattle.rules.specs.Basics.{chosen, all, any, up_to, without, set_all, distinct}
use Rattle.rules.specs.Syntax.{Side, parameter, Place, param, at}
use Rattle.rules.specs.Slots.{Slot, unbound, qubit, bool, ref, slot, need_qubit, holds_no_qubit, is_classical, entered}
use Rattle.rules.specs.Commands.{Commands, ε, alloc, release, connect, either, repeat, commands_at}
use Rattle.rules.specs.Typing.{Kind, Env, Signature, signature, same_kind, kind_number, all_stay, narrowed}
use Rattle.rules.specs.Figures.{stored, Arguments, no_more, and}
use Rattle.rules.proofs.Basics.{length_up_to, get_d_up_to_zero, all_up_to}
use Rattle.rules.proofs.Tests.{T→eq, eq→T, eqb_true, eqb_same, eqb_other, and_left, and_right, or_right}
use Rattle.theory.proofs.Base.{distinct_head, distinct_tail, get_d_set_cases, get_d_replicate_default}

-- numbers of which none comes twice
pub any_at : (ns : List ℕ) (i : ℕ) → i < length ns → any (eqb (get_or ns i 0)) ns ≡ true
any_at [] i k = absurd (omega arith)
any_at (n ∷ ns) zero k = rw (eqb_same n)
any_at (n ∷ ns) (suc i) k = or_right (eqb (get_or ns i 0) n) _ (any_at ns i (omega arith))

pub distinct_at : (ns : List ℕ) (i j : ℕ) → distinct ns ≡ true → i < length ns → j < length ns → get_or ns i 0 ≡ get_or ns j 0 → i ≡ j
distinct_at [] i j h k m e = absurd (omega arith)
distinct_at (n ∷ ns) zero zero h k m e = refl
distinct_at (n ∷ ns) zero (suc j) h k m e = absurd (false≢true (sym (distinct_head n ns h) ∙ rw e (any_at ns j (omega arith))))
distinct_at (n ∷ ns) (suc i) zero h k m e = absurd (false≢true (sym (distinct_head n ns h) ∙ rw (← e) (any_at ns i (omega arith))))
distinct_at (n ∷ ns) (suc i) (suc j) h k m e = ap suc (distinct_at ns i j (distinct_tail n ns h) (omega arith) (omega arith) e)

distinct_first : (n : ℕ) (ns : List ℕ) → distinct (n ∷ ns) ≡ true → (i : ℕ) → i < length ns → get_or ns i 0 ≢ n
distinct_first n ns h i k e = let z : suc i ≡ 0 = distinct_at (n ∷ ns) (suc i) 0 h (omega arith) (omega arith) e in omega arith

-- where a number stands, or that it stands nowhere
pub find : (ns : List ℕ) (n : ℕ) → ((i : ℕ) × (i < length ns) × (get_or ns i 0 ≡ n)) ⊎ ((i : ℕ) → i < length ns → get_or ns i 0 ≢ n)
find [] n = inr (λ i h. absurd (omega arith))
find (k ∷ ns) n = go (ℕ_discrete k n) (find ns n)
  where
    go : Dec (k ≡ n) → ((i : ℕ) × (i < length ns) × (get_or ns i 0 ≡ n)) ⊎ ((i : ℕ) → i < length ns → get_or ns i 0 ≢ n)
        → ((i : ℕ) × (i < length (k ∷ ns)) × (get_or (k ∷ ns) i 0 ≡ n)) ⊎ ((i : ℕ) → i < length (k ∷ ns) → get_or (k ∷ ns) i 0 ≢ n)
    go (yes e) r = inl (0, omega arith, e)
    go (no d) (inl c) = inl (suc c.0, omega (arith, c.1), c.2)
    go (no d) (inr c) = inr later
      where
        later : (i : ℕ) → i < length (k ∷ ns) → get_or (k ∷ ns) i 0 ≢ n
        later zero h = d
        later (suc i) h = c i (omega arith)

-- several stores
module _ {A : Type 0} where
  pub length_stored : (vs : List A) (ns : List ℕ) (φ : List A) → length (stored vs ns φ) ≡ length φ
  length_stored [] ns φ = refl
  length_stored (v ∷ vs) [] φ = refl
  length_stored (v ∷ vs) (n ∷ ns) φ = length-set (stored vs ns φ) n v ∙ length_stored vs ns φ

  pub stored_other : (vs : List A) (ns : List ℕ) (φ : List A) (n : ℕ) (d : A) → ((i : ℕ) → i < length ns → get_or ns i 0 ≢ n)
      → get_or (stored vs ns φ) n d ≡ get_or φ n d
  stored_other [] ns φ n d h = refl
  stored_other (v ∷ vs) [] φ n d h = refl
  stored_other (v ∷ vs) (k ∷ ns) φ n d h =
      get_or-set_other (stored vs ns φ) k n v d (λ e. h 0 (omega arith) (sym e)) ∙ stored_other vs ns φ n d (λ i l. h (suc i) (omega arith))

  pub stored_at : (vs : List A) (ns : List ℕ) (φ : List A) (i : ℕ) (d : A) → distinct ns ≡ true → length vs ≡ length ns → i < length ns
      → get_or ns i 0 < length φ
      → get_or (stored vs ns φ) (get_or ns i 0) d ≡ get_or vs i d
  stored_at [] [] φ i d u e h r = absurd (omega arith)
  stored_at [] (n ∷ ns) φ i d u e h r = absurd (omega arith)
  stored_at (v ∷ vs) [] φ i d u e h r = absurd (omega arith)
  stored_at (v ∷ vs) (n ∷ ns) φ zero d u e h r = get_or-set_same (stored vs ns φ) n v d (omega (arith, length_stored vs ns φ))
  stored_at (v ∷ vs) (n ∷ ns) φ (suc i) d u e h r =
      get_or-set_other (stored vs ns φ) n (get_or ns i 0) v d (distinct_first n ns u i (omega arith))
      ∙ stored_at vs ns φ i d (distinct_tail n ns u) (omega arith) (omega arith) r

  -- Stores that say again what stands there, but for those that store v: the same as v at the numbers that do not stay.
  pub stored_agrees : (d v : A) (bs : List Bool) (vs : List A) (ns : List ℕ) (φ : List A) → distinct ns ≡ true → length vs ≡ length ns
      → ((j : ℕ) → j < length ns
      → ((get_or bs j true ≡ true) × (get_or vs j d ≡ get_or φ (get_or ns j 0) d)) ⊎ ((get_or bs j true ≡ false) × (get_or vs j d ≡ v)))
      → stored vs ns φ ≡ set_all v (without bs ns) φ
  stored_agrees d v [] [] [] φ u e h = refl
  stored_agrees d v (b ∷ bs) [] [] φ u e h = refl
  stored_agrees d v bs [] (n ∷ ns) φ u e h = absurd (omega arith)
  stored_agrees d v bs (w ∷ vs) [] φ u e h = absurd (omega arith)
  stored_agrees d v [] (w ∷ vs) (n ∷ ns) φ u e h =
      let r : stored vs ns φ ≡ φ = stored_agrees d v [] vs ns φ (distinct_tail n ns u) (omega arith) (λ j k. h (suc j) (omega arith)) in
      ⊎_elim (λ c. rw r (ap (λ (a : A). set φ n a) c.1 ∙ set-get_or φ n d)) (λ c. absurd (false≢true (sym c.0))) (h 0 (omega arith))
  stored_agrees d v (true ∷ bs) (w ∷ vs) (n ∷ ns) φ u e h =
      let t : distinct ns ≡ true = distinct_tail n ns u in
      let r : stored vs ns φ ≡ set_all v (without bs ns) φ = stored_agrees d v bs vs ns φ t (omega arith) (λ j k. h (suc j) (omega arith)) in
      let other = stored_other vs ns φ n d (distinct_first n ns u) in
      ⊎_elim (λ c. ap (λ (a : A). set (stored vs ns φ) n a) (c.1 ∙ sym other) ∙ set-get_or (stored vs ns φ) n d ∙ r)
      (λ c. absurd (false≢true (sym c.0))) (h 0 (omega arith))
  stored_agrees d v (false ∷ bs) (w ∷ vs) (n ∷ ns) φ u e h =
      let t : distinct ns ≡ true = distinct_tail n ns u in
      let r : stored vs ns φ ≡ set_all v (without bs ns) φ = stored_agrees d v bs vs ns φ t (omega arith) (λ j k. h (suc j) (omega arith)) in
      ⊎_elim (λ c. absurd (false≢true c.0))
      (λ c. ap (λ (a : A). set (stored vs ns φ) n a) c.1 ∙ ap (λ (l : List A). set l n v) r) (h 0 (omega arith))

-- places
module _ {s : Side} where
  pub place_path : (p q : Place s) → p.no ≡ q.no → p ≡ q
  place_path p q e = λ i. record { no = e i }

  abbrev pub numbers : List (Place s) → List ℕ
  numbers ls = map (λ l. l.no) ls

  pub length_numbers : (ls : List (Place s)) → length (numbers ls) ≡ length ls
  length_numbers ls = length-map ls (λ l. l.no)

  pub number_at : (ls : List (Place s)) (i : ℕ) → get_or (numbers ls) i 0 ≡ (at ls i).no
  number_at [] i = refl
  number_at (l ∷ ls) zero = refl
  number_at (l ∷ ls) (suc i) = number_at ls i

  pub all_at : (f : Place s → Bool) (ls : List (Place s)) (i : ℕ) → all f ls ≡ true → i < length ls → f (at ls i) ≡ true
  all_at f [] i h k = absurd (omega arith)
  all_at f (l ∷ ls) zero h k = and_left _ _ h
  all_at f (l ∷ ls) (suc i) h k = all_at f ls i (and_right (f l) _ h) (omega arith)

  pub drop_at : (f : Place s → Bool) (m : ℕ) (ls : List (Place s)) (i : ℕ) → all f (drop m ls) ≡ true → m ≤ i → i < length ls
      → f (at ls i) ≡ true
  drop_at f zero ls i h j k = all_at f ls i h k
  drop_at f (suc m) [] i h j k = absurd (omega arith)
  drop_at f (suc m) (l ∷ ls) zero h j k = absurd (omega arith)
  drop_at f (suc m) (l ∷ ls) (suc i) h j k = drop_at f m ls i h (omega arith) (omega arith)

  pub at_map : {t : Side} (f : Place s → Place t) (ls : List (Place s)) (i : ℕ) → i < length ls → at (map f ls) i ≡ f (at ls i)
  at_map f [] i h = absurd (omega arith)
  at_map f (l ∷ ls) zero h = refl
  at_map f (l ∷ ls) (suc i) h = at_map f ls i (omega arith)

  pub distinct_places : (ls : List (Place s)) (i j : ℕ) → distinct (numbers ls) ≡ true → i < length ls → j < length ls
      → (at ls i).no ≡ (at ls j).no → i ≡ j
  distinct_places ls i j h k m e =
      let n = length_numbers ls in
      distinct_at (numbers ls) i j h (omega arith) (omega arith) (number_at ls i ∙ e ∙ sym (number_at ls j))

  -- which of the places has the number, if one has
  pub find_place : (ls : List (Place s)) (l : Place s)
      → ((i : ℕ) × (i < length ls) × (at ls i ≡ l)) ⊎ ((i : ℕ) → i < length ls → (at ls i).no ≢ l.no)
  find_place ls l =
      let n = length_numbers ls in
      ⊎_elim
      (λ c. inl (c.0, omega (arith, c.1), place_path (at ls c.0) l (sym (number_at ls c.0) ∙ c.2)))
      (λ c. inr (λ i h e. c i (omega arith) (number_at ls i ∙ e)))
      (find (numbers ls) l.no)

  pub map_without : (bs : List Bool) (ls : List (Place s)) → numbers (without bs ls) ≡ without bs (numbers ls)
  map_without [] ls = refl
  map_without (b ∷ bs) [] = refl
  map_without (true ∷ bs) (l ∷ ls) = map_without bs ls
  map_without (false ∷ bs) (l ∷ ls) = ap (λ (ns : List ℕ). l.no ∷ ns) (map_without bs ls)

  -- stores at the numbers of places
  pub stored_place : (bs : List Bool) (ls : List (Place s)) (fs : List Bool) (i : ℕ) → distinct (numbers ls) ≡ true → length bs ≡ length ls
      → i < length ls
      → (at ls i).no < length fs → get_or (stored bs (numbers ls) fs) (at ls i).no false ≡ get_or bs i false
  stored_place bs ls fs i u e h r =
      let n = length_numbers ls in
      let q : get_or (numbers ls) i 0 ≡ (at ls i).no = number_at ls i in
      rw (← q) (stored_at bs (numbers ls) fs i false u (omega arith) (omega arith) (omega arith))

  pub stored_other_place : (bs : List Bool) (ls : List (Place s)) (fs : List Bool) (l : Place s) → ((i : ℕ) → i < length ls → (at ls i).no ≢ l.no)
      → get_or (stored bs (numbers ls) fs) l.no false ≡ get_or fs l.no false
  stored_other_place bs ls fs l h =
      let n = length_numbers ls in
      stored_other bs (numbers ls) fs l.no false (λ i j e. h i (omega arith) (sym (number_at ls i) ∙ e))

-- slots, in typing and on the device
module _ {s : Side} {B : Type 0} where
  pub slot_out : (φ : List (Slot s B)) (x : ℕ) → length φ ≤ x → slot φ x ≡ unbound
  slot_out φ x h = get_or-eq_default φ unbound h

  -- a slot that holds no qubit does not hold this one, and a slot holds one qubit
  pub not_qubit : {X : Type 0} (v : Slot s B) (l : Place s) → holds_no_qubit v ≡ true → v ≡ qubit l → X
  not_qubit v l n h = absurd (false≢true (sym (ap holds_no_qubit h) ∙ n))

  pub unbound_qubit : {X : Type 0} (v : Slot s B) (l : Place s) → v ≡ unbound → v ≡ qubit l → X
  unbound_qubit v l e h = not_qubit v l (ap holds_no_qubit e) h

  pub same_qubit : (v : Slot s B) (l k : Place s) → v ≡ qubit l → v ≡ qubit k → l ≡ k
  same_qubit v l k h h' = cc

  pub qubit_in_range : (φ : List (Slot s B)) (x : ℕ) (l : Place s) → slot φ x ≡ qubit l → x < length φ
  qubit_in_range φ x l h = go (dec_lt x (length φ))
    where
      go : Dec (x < length φ) → x < length φ
      go (yes d) = d
      go (no d) = unbound_qubit (slot φ x) l (slot_out φ x (omega arith)) h

  -- a qubit after a store of something else was there before
  pub old_qubit : (φ : List (Slot s B)) (x y : ℕ) (v : Slot s B) (l : Place s) → holds_no_qubit v ≡ true → slot (set φ x v) y ≡ qubit l
      → slot φ y ≡ qubit l
  old_qubit φ x y v l n h = ⊎_elim (λ c. not_qubit v l n (sym c.1 ∙ h)) (λ c. sym c ∙ h) (get_d_set_cases φ x y v unbound)

  -- a qubit after a store of a qubit is the one stored, or was there before
  pub new_qubit : (φ : List (Slot s B)) (x y : ℕ) (l k : Place s) → slot (set φ x (qubit l)) y ≡ qubit k → (l ≡ k) ⊎ (slot φ y ≡ qubit k)
  new_qubit φ x y l k h = ⊎_elim (λ c. inl (same_qubit _ l k c.1 h)) (λ c. inr (sym c ∙ h)) (get_d_set_cases φ x y (qubit l) unbound)

  -- a store where no qubit was leaves every qubit in its slot
  pub kept_qubit : (φ : List (Slot s B)) (x y : ℕ) (v : Slot s B) (l : Place s) → holds_no_qubit (slot φ x) ≡ true → slot φ y ≡ qubit l
      → slot (set φ x v) y ≡ qubit l
  kept_qubit φ x y v l n h = get_or-set_other φ x y v unbound (λ e. not_qubit (slot φ x) l n (ap (λ (z : ℕ). slot φ z) (sym e) ∙ h)) ∙ h

  -- no two slots hold one place
  abbrev pub Once : List (Slot s B) → Type 0
  Once φ = (x y : ℕ) (l k : Place s) → slot φ x ≡ qubit l → slot φ y ≡ qubit k → l.no ≡ k.no → x ≡ y

  -- this stays so with a new qubit at a place that none held
  pub once_held : (φ : List (Slot s B)) (x : ℕ) (l : Place s) → Once φ → ((y : ℕ) (k : Place s) → slot φ y ≡ qubit k → k.no ≢ l.no)
      → Once (set φ x (qubit l))
  once_held φ x l O new y z k m h h' e = go (get_d_set_cases φ x y (qubit l) unbound) (get_d_set_cases φ x z (qubit l) unbound)
    where
      is : (y : ℕ) (k : Place s) → slot (set φ x (qubit l)) y ≡ qubit l → slot (set φ x (qubit l)) y ≡ qubit k → k.no ≡ l.no
      is y k p q = ap (λ (p : Place s). p.no) (same_qubit _ k l q p)

      go : ((y ≡ x) × (slot (set φ x (qubit l)) y ≡ qubit l)) ⊎ (slot (set φ x (qubit l)) y ≡ slot φ y)
          → ((z ≡ x) × (slot (set φ x (qubit l)) z ≡ qubit l)) ⊎ (slot (set φ x (qubit l)) z ≡ slot φ z) → y ≡ z
      go (inl c) (inl d) = c.0 ∙ sym d.0
      go (inl c) (inr d) = absurd (new z m (sym d ∙ h') (sym e ∙ is y k c.1 h))
      go (inr c) (inl d) = absurd (new y k (sym c ∙ h) (e ∙ is z m d.1 h'))
      go (inr c) (inr d) = O y z k m (sym c ∙ h) (sym d ∙ h') e

  pub qubit_held : (v : Slot s B) (o : ℕ) → Holds (λ l. v ≡ qubit l) (need_qubit v o)
  qubit_held unbound o = not_ok
  qubit_held (qubit l) o = by refl
  qubit_held (bool b) o = not_ok
  qubit_held (ref b) o = not_ok

-- the arguments of a call
module _ {s : Side} where
  pub argument_at : {Γ : Env s} (xs : List ℕ) (ls : List (Place s)) (i : ℕ) → Arguments Γ xs ls → i < length xs
      → slot Γ.slots (get_or xs i 0) ≡ qubit (at ls i)
  argument_at [] ls i a h = absurd (omega arith)
  argument_at {Γ = Γ} (x ∷ xs) [] i a h = elim a [ ]
  argument_at (x ∷ xs) (l ∷ ls) zero (and p r) h = p
  argument_at (x ∷ xs) (l ∷ ls) (suc i) (and p r) h = argument_at xs ls i r (omega arith)

  pub arguments_length : {Γ : Env s} {xs : List ℕ} {ls : List (Place s)} → Arguments Γ xs ls → length xs ≤ length ls
  arguments_length no_more = omega arith
  arguments_length (and p r) = let h = arguments_length r in omega arith

-- commands at a callee's places, these at a caller's
pub at_at : {s t : Side} (σ : Place s → Place t) (ls : List (Place s)) (c : Commands parameter)
    → commands_at σ (commands_at (λ p. at ls p.no) c) ≡ commands_at (λ p. σ (at ls p.no)) c
at_at σ ls ε = refl
at_at σ ls (alloc q l c) = ap (λ d. alloc q (σ (at ls l.no)) d) (at_at σ ls c)
at_at σ ls (release l c) = ap (λ d. release (σ (at ls l.no)) d) (at_at σ ls c)
at_at σ ls (connect o b l e k c) = ap (λ d. connect o b (σ (at ls l.no)) e (σ (at ls k.no)) d) (at_at σ ls c)
at_at σ ls (either a b c) = λ i. either (at_at σ ls a i) (at_at σ ls b i) (at_at σ ls c i)
at_at σ ls (repeat a c) = λ i. repeat (at_at σ ls a i) (at_at σ ls c i)

pub at_same : {s : Side} (c : Commands s) → commands_at (λ l. l) c ≡ c
at_same ε = refl
at_same (alloc q l c) = ap (λ d. alloc q l d) (at_same c)
at_same (release l c) = ap (λ d. release l d) (at_same c)
at_same (connect o b l e k c) = ap (λ d. connect o b l e k d) (at_same c)
at_same (either a b c) = λ i. either (at_same a i) (at_same b i) (at_same c i)
at_same (repeat a c) = λ i. repeat (at_same a i) (at_same c i)

-- the newest signature stands for the highest number, the others for what they stood for
pub signature_newest : (g : Signature) (gs : List Signature) (f : ℕ) → f ≡ length gs → signature (g ∷ gs) f ≡ g
signature_newest g gs f e = rw (e, eqb_same (length gs))

pub signature_older : (g : Signature) (gs : List Signature) (f : ℕ) → f < length gs → signature (g ∷ gs) f ≡ signature gs f
signature_older g gs f h = rw (eqb_other f (length gs) (λ e. absurd (omega (arith, e, h))))

-- what holds of each signature holds of the one that a number stands for
abbrev pub AllOf : (Signature → Type 0) → List Signature → Type 0
AllOf P [] = Unit {0}
AllOf P (g ∷ gs) = P g × AllOf P gs

pub all_of_at : (P : Signature → Type 0) (gs : List Signature) (f : ℕ) → AllOf P gs → f < length gs → P (signature gs f)
all_of_at P [] f H h = absurd (omega arith)
all_of_at P (g ∷ gs) f H h = go (ℕ_discrete f (length gs)) (λ k. all_of_at P gs f H.1 k)
  where
    go : Dec (f ≡ length gs) → (f < length gs → P (signature gs f)) → P (signature (g ∷ gs) f)
    go (yes e) rest = subst P (sym (signature_newest g gs f e)) H.0
    go (no n) rest = subst P (sym (signature_older g gs f (omega arith))) (rest (omega arith))

-- the places of a body on entry: the arguments' are taken, the rest free
pub entry_free : (m : ℕ) (bs : List Bool) (i : ℕ) → get_or (replicate m false ++ bs) i false ≡ true → m ≤ i
entry_free zero bs i h = omega arith
entry_free (suc m) bs zero h = absurd (false≢true h)
entry_free (suc m) bs (suc i) h = let k = entry_free m bs i h in omega arith

pub length_entry : (m r : ℕ) → length (replicate m false ++ replicate r true) ≡ m + r
length_entry m r = length-append (replicate m false) (replicate r true) ∙ rw (length-replicate m false, length-replicate r true)

pub entry_taken : (m r i : ℕ) → i < m → get_or (replicate m false ++ replicate r true) i false ≡ false
entry_taken m r i h =
    get_or-append (replicate m false) (replicate r true) false i (omega (arith, length-replicate m false)) ∙ get_d_replicate_default m i false

pub entry_rest : (m r i : ℕ) → m ≤ i → i < m + r → get_or (replicate m false ++ replicate r true) i false ≡ true
entry_rest zero zero i h k = absurd (omega arith)
entry_rest zero (suc r) zero h k = refl
entry_rest zero (suc r) (suc i) h k = entry_rest zero r i (omega arith) (omega arith)
entry_rest (suc m) r zero h k = absurd (omega arith)
entry_rest (suc m) r (suc i) h k = entry_rest m r i (omega arith) (omega arith)

-- the slots of a body on entry: argument i in slot i at place i, the rest unbound
module _ {s : Side} (B : Type 0) where
  pub length_entered : (ls : List (Place s)) → length ls ≤ 32 → length (entered {B = B} ls) ≡ 32
  length_entered ls h =
      let n : length (map {A = Place s} {B = Slot s B} qubit ls) ≡ length ls = length-map ls qubit in
      let r : length (replicate {A = Slot s B} (32 - length ls) unbound) ≡ 32 - length ls = length-replicate (32 - length ls) unbound in
      length-append (map qubit ls) (replicate (32 - length ls) unbound) ∙ omega arith

  entered_front : (ls : List (Place s)) (n x : ℕ) → x < length ls → slot (map {B = Slot s B} qubit ls ++ replicate n unbound) x ≡ qubit (at ls x)
  entered_front [] n x h = absurd (omega arith)
  entered_front (l ∷ ls) n zero h = refl
  entered_front (l ∷ ls) n (suc x) h = entered_front ls n x (omega arith)

  entered_back : (ls : List (Place s)) (n x : ℕ) → length ls ≤ x → slot (map {B = Slot s B} qubit ls ++ replicate n unbound) x ≡ unbound
  entered_back [] n x h = get_d_replicate_default n x unbound
  entered_back (l ∷ ls) n zero h = absurd (omega arith)
  entered_back (l ∷ ls) n (suc x) h = entered_back ls n x (omega arith)

  pub entered_at : (ls : List (Place s)) (x : ℕ) → x < length ls → slot (entered {B = B} ls) x ≡ qubit (at ls x)
  entered_at ls x h = entered_front ls (32 - length ls) x h

  pub entered_past : (ls : List (Place s)) (x : ℕ) → length ls ≤ x → slot (entered {B = B} ls) x ≡ unbound
  entered_past ls x h = entered_back ls (32 - length ls) x h

  pub entered_qubit : (ls : List (Place s)) (x : ℕ) (l : Place s) → slot (entered {B = B} ls) x ≡ qubit l → (l ≡ at ls x) × (x < length ls)
  entered_qubit ls x l h = go (dec_lt x (length ls))
    where
      go : Dec (x < length ls) → (l ≡ at ls x) × (x < length ls)
      go (yes d) = (same_qubit _ l (at ls x) h (entered_at ls x d), d)
      go (no d) = unbound_qubit _ l (entered_past ls x (omega arith)) h

-- a typed function's slots on entry
pub entry_at : (m x : ℕ) → x < m → slot (entered {B = Unit {0}} (up_to 0 m param)) x ≡ qubit (param x)
entry_at m x h =
    let n : length (up_to 0 m param) ≡ m = length_up_to 0 m param in
    entered_at (Unit {0}) (up_to 0 m param) x (omega arith) ∙ ap (λ (p : Place parameter). qubit p) (get_d_up_to_zero m x param _ h)

pub entry_past : (m x : ℕ) → m ≤ x → slot (entered {B = Unit {0}} (up_to 0 m param)) x ≡ unbound
entry_past m x h = let n : length (up_to 0 m param) ≡ m = length_up_to 0 m param in entered_past (Unit {0}) (up_to 0 m param) x (omega arith)

pub entry_qubit : (m x : ℕ) (l : Place parameter) → slot (entered {B = Unit {0}} (up_to 0 m param)) x ≡ qubit l → (l ≡ param x) × (x < m)
entry_qubit m x l h =
    let n : length (up_to 0 m param) ≡ m = length_up_to 0 m param in
    let q = entered_qubit (Unit {0}) (up_to 0 m param) x l h in
    let d : x < m = omega (arith, q.1) in
    (q.0 ∙ get_d_up_to_zero m x param _ d, d)

-- the end of a block
module _ {s : Side} where
  -- a slot's kind after the closing, from its kind on entry and its kind at the last statement
  abbrev pub narrow : Kind s → Kind s → Kind s
  narrow v w = chosen (is_classical w && not (is_classical v)) unbound w

  pub slot_narrowed : (vs ws : List (Kind s)) (x : ℕ) → x < 32 → slot (narrowed vs ws) x ≡ narrow (slot vs x) (slot ws x)
  slot_narrowed vs ws x h = get_d_up_to_zero 32 x (λ y. narrow (slot vs y) (slot ws y)) unbound h

  pub length_narrowed : (vs ws : List (Kind s)) → length (narrowed vs ws) ≡ 32
  length_narrowed vs ws = length_up_to 0 32 (λ y. narrow (slot vs y) (slot ws y))

  unless : (t : Bool) (w : Kind s) (l : Place s) → chosen t unbound w ≡ qubit l → w ≡ qubit l
  unless true w l h = unbound_qubit unbound l refl h
  unless false w l h = h

  narrow_qubit : (v w : Kind s) (l : Place s) → narrow v w ≡ qubit l → w ≡ qubit l
  narrow_qubit v unbound l h = h
  narrow_qubit v (qubit j) l h = h
  narrow_qubit v (bool b) l h = unless (not (is_classical v)) (bool b) l h
  narrow_qubit v (ref b) l h = unless (not (is_classical v)) (ref b) l h

  -- a qubit after the closing was there before it
  pub narrowed_qubit : (vs ws : List (Kind s)) (x : ℕ) (l : Place s) → slot (narrowed vs ws) x ≡ qubit l → slot ws x ≡ qubit l
  narrowed_qubit vs ws x l h =
      let r : x < 32 = subst (λ (n : ℕ). x < n) (length_narrowed vs ws) (qubit_in_range (narrowed vs ws) x l h) in
      narrow_qubit (slot vs x) (slot ws x) l (sym (slot_narrowed vs ws x r) ∙ h)

  -- and one before it is there after it
  pub narrowed_keeps : (vs ws : List (Kind s)) (x : ℕ) (l : Place s) → x < 32 → slot ws x ≡ qubit l → slot (narrowed vs ws) x ≡ qubit l
  narrowed_keeps vs ws x l r h = slot_narrowed vs ws x r ∙ ap (λ (w : Kind s). narrow (slot vs x) w) h

  -- the numbers of kinds tell them apart
  pub kind_sound : (v w : Kind s) → same_kind v w ≡ true → v ≡ w
  kind_sound v w h = go v w (eqb_true (kind_number v) (kind_number w) h)
    where
      go : (v w : Kind s) → kind_number v ≡ kind_number w → v ≡ w
      go unbound unbound e = refl
      go unbound (qubit l) e = absurd (omega arith)
      go unbound (bool b) e = absurd (omega arith)
      go unbound (ref b) e = absurd (omega arith)
      go (qubit k) unbound e = absurd (omega arith)
      go (qubit k) (qubit l) e = ap (λ (p : Place s). qubit p) (place_path k l (omega arith))
      go (qubit k) (bool b) e = absurd (omega arith)
      go (qubit k) (ref b) e = absurd (omega arith)
      go (bool a) unbound e = absurd (omega arith)
      go (bool a) (qubit l) e = absurd (omega arith)
      go (bool a) (bool b) e = refl
      go (bool a) (ref b) e = absurd (omega arith)
      go (ref a) unbound e = absurd (omega arith)
      go (ref a) (qubit l) e = absurd (omega arith)
      go (ref a) (bool b) e = absurd (omega arith)
      go (ref a) (ref b) e = refl

  pub kind_refl : (v : Kind s) → same_kind v v ≡ true
  kind_refl v = eqb_same (kind_number v)

  -- what the test at a block's end says of one slot
  pub all_stay_at : (vs ws : List (Kind s)) (x : ℕ) → all_stay vs ws ≡ true → x < 32
      → (holds_no_qubit (slot ws x) || same_kind (slot vs x) (slot ws x)) ≡ true
  all_stay_at vs ws x h r =
      T→eq _ (all_up_to (λ y. holds_no_qubit (slot ws y) || same_kind (slot vs y) (slot ws y)) 0 32 (eq→T _ h) x (omega arith) (omega arith))

  stay_qubit : (v w : Kind s) (l : Place s) → (holds_no_qubit w || same_kind v w) ≡ true → w ≡ qubit l → v ≡ qubit l
  stay_qubit v w l h e = kind_sound v (qubit l) (rw e at h)

  -- a qubit at a block's end was there, in the same slot, on entry
  pub stays_qubit : (vs ws : List (Kind s)) (x : ℕ) (l : Place s) → all_stay vs ws ≡ true → x < 32 → slot ws x ≡ qubit l → slot vs x ≡ qubit l
  stays_qubit vs ws x l h r e = stay_qubit (slot vs x) (slot ws x) l (all_stay_at vs ws x h r) e

  -- One slot over a whole block: it ends as on entry, or it held a qubit and ends unbound, if the statements left alone what was classical.
  pub narrow_cases : (v w : Kind s) → (holds_no_qubit w || same_kind v w) ≡ true → (is_classical v ≡ true → w ≡ v)
      → (narrow v w ≡ v) ⊎ ((l : Place s) × (v ≡ qubit l) × (narrow v w ≡ unbound))
  narrow_cases unbound unbound h c = inl refl
  narrow_cases unbound (qubit l) h c = unbound_qubit unbound l refl (kind_sound unbound (qubit l) h)
  narrow_cases unbound (bool b) h c = inl refl
  narrow_cases unbound (ref b) h c = inl refl
  narrow_cases (qubit k) unbound h c = inr (k, refl, refl)
  narrow_cases (qubit k) (qubit l) h c = inl (sym (kind_sound (qubit k) (qubit l) h))
  narrow_cases (qubit k) (bool b) h c = inr (k, refl, refl)
  narrow_cases (qubit k) (ref b) h c = inr (k, refl, refl)
  narrow_cases (bool a) w h c = let e : w ≡ bool a = c refl in rw e (inl refl)
  narrow_cases (ref a) w h c = let e : w ≡ ref a = c refl in rw e (inl refl)

  -- so a slot that held a qubit on entry ends with it, or unbound
  pub narrowed_home : (vs ws : List (Kind s)) (x : ℕ) (l : Place s) → all_stay vs ws ≡ true → slot vs x ≡ qubit l
      → (slot (narrowed vs ws) x ≡ qubit l) ⊎ (slot (narrowed vs ws) x ≡ unbound)
  narrowed_home vs ws x l h e = go (dec_lt x 32)
    where
      go : Dec (x < 32) → (slot (narrowed vs ws) x ≡ qubit l) ⊎ (slot (narrowed vs ws) x ≡ unbound)
      go (yes r) = ⊎_elim
          (λ q. inl (slot_narrowed vs ws x r ∙ q ∙ e))
          (λ q. inr (slot_narrowed vs ws x r ∙ q.2))
          (narrow_cases (slot vs x) (slot ws x) (all_stay_at vs ws x h r) (λ t. absurd (false≢true (sym (ap is_classical e) ∙ t))))
      go (no r) = let n = length_narrowed vs ws in inr (slot_out (narrowed vs ws) x (omega arith))
