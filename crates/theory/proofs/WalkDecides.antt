-- In a typed program only a merge can fail: the walk that tests merges alone decides Figure 12. Typing knows which places of a body are free, and the
-- walk's list says the same at the device locations that these places stand for, in main and in every call, for a call names each place once. So an
-- init meets a free location, both blocks of an if end with the same list, and a loop's body ends with the list that it began with; locations that the
-- body has no place for stay as they are.
use mathlib.Core.Bool.{Bool, true, false}
use mathlib.Core.List.{List, [], ◌∷◌, ◌++◌}
use mathlib.Core.Logic.{◌≢◌, ◌⊎◌, inl, inr, ⊎_elim}
use mathlib.Core.Option.{Option, none, some}
use mathlib.Core.Path.{◌≡◌, refl, sym, ap, subst, ◌∙◌}
use native.Mathlib.Decide.{ℕ_discrete, dec_lt}
use native.Mathlib.Omega.{arith}
use Prim.Native.Nat.{ℕ, zero, suc, ◌-◌, ◌<◌}
use lib.ListN.{get_or, set, length, drop, replicate, length-set}
use lib.Seq.{get_or-set_same, get_or-set_other, ext_get_or}
use Rattle.answers.specs.Check.{Check, ok, refused, ◌>>=◌, ◌>>◌}
use Rattle.answers.proofs.Laws.{Holds, not_ok, by, holds_bind, holds_then, holds_map, holds_at, bind_assoc, bind_under}
use Rattle.rules.specs.Basics.{all, distinct}
use Rattle.rules.specs.Region.{Region}
use Rattle.rules.specs.Path.{route}
use Rattle.rules.specs.Syntax.{Side, device, parameter, Place, param, at, Preparation, Op}
use Rattle.rules.specs.Syntax.{Statement, op, if, while, call, Statements, done, ◌⨾◌, Block, block, Function, Program}
use Rattle.rules.specs.Program.{Scope}
use Rattle.rules.specs.Commands.{Commands, ε, alloc, release, connect, either, repeat, ◌then◌, commands_at, need_route, walk}
use Rattle.rules.specs.Typing.{Env, Typed, Signature, Context, signature, entry, body_context, signature_of, main_context}
use Rattle.rules.specs.Figures.{stored, OpRule, T-Init, T-MInit, T-Free, T-Gate, T-Meas1, T-Meas2, T-MkRef, T-Deref, T-Assign, T-Bool}
use Rattle.rules.specs.Figures.{Arguments, StatementRule, T-Op, T-If, T-While, T-Call, StatementsRule, T-Unit, T-Seq, BlockRule, T-Close, MainRule, T-Main}
use Rattle.rules.specs.Figures.{FunctionsRule, T-NoFun, T-Fundecl, Linked, Connects, C-Empty, C-Alloc, C-Free, C-Merge, C-If, C-Loop}
use Rattle.theory.specs.WellRead.{StatementRead, if_read, while_read, StatementsRead, next_read}
use Rattle.theory.specs.WellRead.{BlockRead, block_read, FunctionsRead, none_read, function_read, ProgramRead}
use Rattle.theory.specs.Exact.{Derives, WalkDecides}
use Rattle.theory.proofs.Base.{true_in_range, get_d_set_default}
use Rattle.theory.proofs.Places.{place_path, numbers, all_at, drop_at, distinct_places, find_place, stored_place, stored_other_place}
use Rattle.theory.proofs.Places.{argument_at, at_at, at_same, AllOf, all_of_at, length_entry, entry_taken, entry_rest}
use Rattle.theory.proofs.Linear.{Linear, Ends, AllEnd, linear_statement, linear_start, linear_entry, free_length_statement, function_ends}
use Rattle.theory.proofs.Routes.{path_route, the_route}

then_bind : {A B C : Type 0} (m : Check A) (n : Check B) (f : B → Check C) → ((m >> n) >>= f) ≡ (m >> (n >>= f))
unfolding ◌>>=◌ ◌>>◌
then_bind (ok a) n f = refl
then_bind (refused r) n f = refl

-- the number n is that of a place below size, or of none
image : {s t : Side} (σ : Place s → Place t) (size n : ℕ)
    → ((p : Place s) × (p.no < size) × ((σ p).no ≡ n)) ⊎ ((p : Place s) → p.no < size → (σ p).no ≢ n)
image σ zero n = inr (λ p h. absurd (omega arith))
image σ (suc i) n = ⊎_elim (λ c. inl (c.0, omega (arith, c.1), c.2)) (λ c. go c (ℕ_discrete (σ (record { no = i })).no n)) (image σ i n)
  where
    go : ((p : Place _) → p.no < i → (σ p).no ≢ n) → Dec ((σ (record { no = i })).no ≡ n)
        → ((p : Place _) × (p.no < suc i) × ((σ p).no ≡ n)) ⊎ ((p : Place _) → p.no < suc i → (σ p).no ≢ n)
    go c (yes e) = inl (record { no = i }, omega arith, e)
    go c (no d) = inr (λ p h. last p h (ℕ_discrete p.no i))
      where
        last : (p : Place _) → p.no < suc i → Dec (p.no ≡ i) → (σ p).no ≢ n
        last p h (yes e) q = d (ap (λ (m : ℕ). (σ (record { no = m })).no) (sym e) ∙ q)
        last p h (no f) q = c p (omega arith) q

-- the device has len locations
module _ (R : Region) (len : ℕ) where
  -- the places of a body on the device, apart from one another
  record Apart {s : Side} (size : ℕ) (σ : Place s → Place device) : Type 0 where
    pub apart : (p q : Place s) → p.no < size → q.no < size → (σ p).no ≡ (σ q).no → p.no ≡ q.no
    pub room : (p : Place s) → p.no < size → (σ p).no < len

  abbrev Exact : {s : Side} → ℕ → (Place s → Place device) → List Bool → List Bool → Type 0
  Exact size σ fs L = (p : Place _) → p.no < size → get_or fs p.no false ≡ get_or L (σ p).no false

  abbrev Outside : {s : Side} → ℕ → (Place s → Place device) → List Bool → List Bool → Type 0
  Outside size σ L M = (n : ℕ) → ((p : Place _) → p.no < size → (σ p).no ≢ n) → get_or M n false ≡ get_or L n false

  -- what the commands c do from L: they connect, up to M, where the body's places are as `fs` says and the other locations as they were
  record After {s : Side} (size : ℕ) (σ : Place s → Place device) (fs L : List Bool) (c : Commands device) (M : List Bool) : Type 0 where
    pub connects : Connects R L c M
    pub long : length M ≡ len
    pub exact : Exact size σ fs M
    pub outside : Outside size σ L M

  same_end : {s : Side} (size : ℕ) (σ : Place s → Place device) (fs L M N : List Bool) → length M ≡ len → length N ≡ len
      → Exact size σ fs M → Exact size σ fs N
      → Outside size σ L M → Outside size σ L N → M ≡ N
  same_end size σ fs L M N e e' x x' o o' = ext_get_or false M N (e ∙ sym e') λ n h. ⊎_elim
      (λ c. rw (← c.2) (sym (x c.0 c.1) ∙ x' c.0 c.1))
      (λ c. o n c ∙ sym (o' n c))
      (image σ size n)

  -- commands one after the other
  walk_then : {s : Side} (σ : Place s → Place device) (c d : Commands s) (L : List Bool)
      → walk R L (commands_at σ (c then d)) ≡ (walk R L (commands_at σ c) >>= λ M. walk R M (commands_at σ d))
  unfolding ◌>>=◌
  walk_then σ ε d L = refl
  walk_then σ (alloc q l c) d L = walk_then σ c d (set L (σ l).no false)
  walk_then σ (release l c) d L = walk_then σ c d (set L (σ l).no true)
  walk_then σ (connect o b l e k c) d L =
      let r : Check (List ℕ) = need_route (route R (λ i. get_or L i false) (σ l).no (σ k).no) o in
      ap (λ w. r >> w) (walk_then σ c d L) ∙ sym (then_bind r _ _)
  walk_then σ (either a b c) d L =
      let first : Check (List Bool) = walk R L (commands_at σ a) in
      let second : Check (List Bool) = walk R L (commands_at σ b) in
      bind_under first (λ M. ap (λ w. second >> w) (walk_then σ c d M) ∙ sym (then_bind second _ _)) ∙ sym (bind_assoc first _ _)
  walk_then σ (repeat a c) d L = ap (λ w. walk R L (commands_at σ a) >> w) (walk_then σ c d L) ∙ sym (then_bind (walk R L (commands_at σ a)) _ _)

  connects_then : {s : Side} (σ : Place s → Place device) (c d : Commands s) {L M N : List Bool} → Connects R L (commands_at σ c) M
      → Connects R M (commands_at σ d) N → Connects R L (commands_at σ (c then d)) N
  connects_then σ ε d C-Empty q = q
  connects_then σ (alloc r l c) d (C-Alloc h p) q = C-Alloc h (connects_then σ c d p q)
  connects_then σ (release l c) d (C-Free p) q = C-Free (connects_then σ c d p q)
  connects_then σ (connect o b l e k c) d (C-Merge h p) q = C-Merge h (connects_then σ c d p q)
  connects_then σ (either a b c) d (C-If h k p) q = C-If h k (connects_then σ c d p q)
  connects_then σ (repeat a c) d (C-Loop h p) q = C-Loop h (connects_then σ c d p q)

  -- from places as `fs` says to places as `gs` says, unless a merge fails
  abbrev Effect : {s : Side} → ℕ → (Place s → Place device) → List Bool → List Bool → Commands device → Type 0
  Effect size σ fs gs c = (L : List Bool) → length L ≡ len → Exact size σ fs L → Holds (After size σ gs L c) (walk R L c)

  none_does : {s : Side} {size : ℕ} {σ : Place s → Place device} {fs : List Bool} → Effect size σ fs fs ε
  none_does L e x = by (record { connects = C-Empty; long = e; exact = x; outside = λ n h. refl })

  alloc_does : {s : Side} {size : ℕ} {σ : Place s → Place device} (fs : List Bool) (q : Preparation) (l : Place s) → Apart size σ → length fs ≡ size
      → get_or fs l.no false ≡ true → Effect size σ fs (set fs l.no false) (alloc q (σ l) ε)
  alloc_does {size = size} {σ = σ} fs q l A z f L e x =
      let r : l.no < length fs = true_in_range fs l.no f in
      let r' : l.no < size = omega arith in
      by (record {
        connects = C-Alloc (sym (x l r') ∙ f) C-Empty;
        long = length-set L _ false ∙ e;
        exact = λ p h. go r' p h (ℕ_discrete p.no l.no);
        outside = λ n h. get_or-set_other L (σ l).no n false false (λ c. h l r' (sym c));
      })
    where
      go : l.no < size → (p : Place _) → p.no < size → Dec (p.no ≡ l.no)
          → get_or (set fs l.no false) p.no false ≡ get_or (set L (σ l).no false) (σ p).no false
      go r p h (yes c) = rw (place_path p l c) (get_d_set_default fs l.no false ∙ sym (get_d_set_default L (σ l).no false))
      go r p h (no c) =
          let far : (σ p).no ≢ (σ l).no = λ v. c (A.apart p l h r v) in
          get_or-set_other fs l.no p.no false false c ∙ x p h ∙ sym (get_or-set_other L (σ l).no (σ p).no false false far)

  release_does : {s : Side} {size : ℕ} {σ : Place s → Place device} (fs : List Bool) (l : Place s) → Apart size σ → length fs ≡ size
      → l.no < size
      → Effect size σ fs (set fs l.no true) (release (σ l) ε)
  release_does {size = size} {σ = σ} fs l A z r L e x =
      let w : (σ l).no < len = A.room l r in
      by (record {
        connects = C-Free C-Empty;
        long = length-set L _ true ∙ e;
        exact = λ p h. go w p h (ℕ_discrete p.no l.no);
        outside = λ n h. get_or-set_other L (σ l).no n true false (λ c. h l r (sym c));
      })
    where
      go : (σ l).no < len → (p : Place _) → p.no < size → Dec (p.no ≡ l.no)
          → get_or (set fs l.no true) p.no false ≡ get_or (set L (σ l).no true) (σ p).no false
      go w p h (yes c) = rw (place_path p l c) (get_or-set_same fs l.no true false (omega arith) ∙ sym (get_or-set_same L (σ l).no true false (omega arith)))
      go w p h (no c) =
          let far : (σ p).no ≢ (σ l).no = λ v. c (A.apart p l h r v) in
          get_or-set_other fs l.no p.no true false c ∙ x p h ∙ sym (get_or-set_other L (σ l).no (σ p).no true false far)

  -- a merge passes exactly where a path joins its ends
  route_found : (r : Option (List ℕ)) (o : ℕ) → Holds (λ p. r ≡ some p) (need_route r o)
  route_found none o = not_ok
  route_found (some p) o = by refl

  linked_route : (L : List Bool) (l k : Place device) (o : ℕ) → Linked R L l k
      → (p : List ℕ) × (need_route (route R (λ i. get_or L i false) l.no k.no) o ≡ ok p)
  linked_route L l k o h = let (p, e) = path_route R (λ i. get_or L i false) l.no k.no h.0 h.1 in (p, rw e)

  connect_does : {s : Side} {size : ℕ} {σ : Place s → Place device} {fs : List Bool} (o b : ℕ) (l : Place device) (d : ℕ) (k : Place device)
      → Effect size σ fs fs (connect o b l d k ε)
  connect_does o b l d k L e x = holds_then (route_found (route R (λ i. get_or L i false) l.no k.no) o) λ p r.
      let joined : Linked R L l k = (p, ((the_route R (λ i. get_or L i false) l.no k.no p).0 r).path) in
      by (record { connects = C-Merge joined C-Empty; long = e; exact = x; outside = λ n h. refl })

  -- a callee's commands take its places from those on entry to those at its end, wherever the places are
  abbrev Does : Signature → Type 0
  Does g = (τ : Place parameter → Place device) → Apart g.k τ
      → Effect g.k τ (replicate g.m false ++ replicate (g.k - g.m) true) g.ends.free (commands_at τ g.commands)

  abbrev AllDo : List Signature → Type 0
  AllDo gs = AllOf Does gs

  -- a body with `size` places, these at σ
  module _ {s : Side} (C : Context s) (size : ℕ) (σ : Place s → Place device) (A : Apart size σ) where
    op_does : {Γ Δ : Env s} {o : ℕ} {a : Op s} {c : Commands s} → OpRule C Γ o a Δ c → Linear C Γ → length Γ.free ≡ size
        → Effect size σ Γ.free Δ.free (commands_at σ c)
    op_does {Γ = Γ} (T-Init {l = l} p q r) I z = alloc_does Γ.free _ l A z r
    op_does {Γ = Γ} (T-MInit {l = l} p q r) I z = alloc_does Γ.free _ l A z r
    op_does {Γ = Γ} (T-Free {x = x} {l = l} p) I z = let h = I.sized l (I.inside x l p) in release_does Γ.free l A z (omega arith)
    op_does (T-Gate p) I z = none_does
    op_does (T-Meas1 p q) I z = none_does
    op_does {o = o} (T-Meas2 {b = b} {e = e} {l = l} {k = k} p q r n) I z = connect_does o b (σ l) e (σ k)
    op_does (T-MkRef p q) I z = none_does
    op_does (T-Deref p q) I z = none_does
    op_does (T-Assign p q) I z = none_does
    op_does (T-Bool p) I z = none_does

    call_does : (Γ : Env s) (g : Signature) (ls : List (Place s)) (xs : List ℕ) → Ends g → Does g → length ls ≡ g.k → length xs ≡ g.m
        → all C.inside ls ≡ true → distinct (numbers ls) ≡ true
        → Arguments Γ xs ls → all (λ l. get_or Γ.free l.no false) (drop (length xs) ls) ≡ true → Linear C Γ → length Γ.free ≡ size
        → Effect size σ Γ.free (stored g.ends.free (numbers ls) Γ.free) (commands_at σ (commands_at (λ p. at ls p.no) g.commands))
    call_does Γ g ls xs N D k m ins u a w I z L e x =
        rw (at_at σ ls g.commands) (holds_map after (D τ apart L e (λ i h. start i.no h (dec_lt i.no (length xs)))))
      where
        τ : Place parameter → Place device
        τ p = σ (at ls p.no)

        left : List Bool
        left = stored g.ends.free (numbers ls) Γ.free

        in_range : (i : ℕ) → i < g.k → (at ls i).no < size
        in_range i h = let r = I.sized (at ls i) (all_at C.inside ls i ins (omega arith)) in omega arith

        same : (i j : ℕ) → i < g.k → j < g.k → (σ (at ls i)).no ≡ (σ (at ls j)).no → i ≡ j
        same i j h h' r = distinct_places ls i j u (omega arith) (omega arith) (A.apart (at ls i) (at ls j) (in_range i h) (in_range j h') r)

        apart : Apart g.k τ
        apart = record { apart = λ i j h h' r. same i.no j.no h h' r; room = λ i h. A.room (at ls i.no) (in_range i.no h) }

        start : (i : ℕ) → i < g.k → Dec (i < length xs)
            → get_or (replicate g.m false ++ replicate (g.k - g.m) true) i false ≡ get_or L (σ (at ls i)).no false
        start i h (yes d) =
            entry_taken g.m (g.k - g.m) i (omega arith) ∙ sym (I.taken _ (at ls i) (argument_at xs ls i a d)) ∙ x (at ls i) (in_range i h)
        start i h (no d) =
            entry_rest g.m (g.k - g.m) i (omega arith) (omega arith)
            ∙ sym (drop_at (λ l. get_or Γ.free l.no false) (length xs) ls i w (omega arith) (omega arith)) ∙ x (at ls i) (in_range i h)

        exact : (M : List Bool) → After g.k τ g.ends.free L (commands_at τ g.commands) M → (r : Place s) → r.no < size
            → ((i : ℕ) × (i < length ls) × (at ls i ≡ r)) ⊎ ((i : ℕ) → i < length ls → (at ls i).no ≢ r.no)
            → get_or left r.no false ≡ get_or M (σ r).no false
        exact M P r h (inl c) =
            let b : c.0 < g.k = omega (arith, c.1) in
            let one = stored_place g.ends.free ls Γ.free c.0 u (N.free_size ∙ sym k) c.1 (omega (arith, in_range c.0 b)) in
            subst (λ (t : Place s). get_or left t.no false ≡ get_or M (σ t).no false) c.2 (one ∙ P.exact (param c.0) b)
        exact M P r h (inr c) =
            stored_other_place g.ends.free ls Γ.free r c ∙ x r h
            ∙ sym (P.outside (σ r).no (λ i j t. c i.no (omega arith) (A.apart (at ls i.no) r (in_range i.no j) h t)))

        after : (M : List Bool) → After g.k τ g.ends.free L (commands_at τ g.commands) M → After size σ left L (commands_at τ g.commands) M
        after M P = record {
          connects = P.connects;
          long = P.long;
          exact = λ r h. exact M P r h (find_place ls r);
          outside = λ n h. P.outside n (λ i j. h (at ls i.no) (in_range i.no j));
        }

    then_does : (fs : List Bool) {gs hs : List Bool} (c d : Commands s) → Effect size σ fs gs (commands_at σ c) → Effect size σ gs hs (commands_at σ d)
        → Effect size σ fs hs (commands_at σ (c then d))
    then_does fs {gs = gs} {hs = hs} c d f g L e x =
        rw (walk_then σ c d L) (holds_bind (f L e x) λ M P. holds_map (λ N Q. both M N P Q) (g M P.long P.exact))
      where
        both : (M N : List Bool) → After size σ gs L (commands_at σ c) M → After size σ hs M (commands_at σ d) N
            → After size σ hs L (commands_at σ (c then d)) N
        both M N P Q = record {
          connects = connects_then σ c d P.connects Q.connects;
          long = Q.long;
          exact = Q.exact;
          outside = λ n h. Q.outside n h ∙ P.outside n h;
        }

    either_does : (fs : List Bool) {gs : List Bool} (c d : Commands s) → Effect size σ fs gs (commands_at σ c) → Effect size σ fs gs (commands_at σ d)
        → Effect size σ fs gs (commands_at σ (either c d ε))
    either_does fs {gs = gs} c d f g L e x = holds_bind (f L e x) λ M P. holds_then (g L e x) λ N Q.
        let same : N ≡ M = same_end size σ gs L N M Q.long P.long Q.exact P.exact Q.outside P.outside in
        let second : Connects R L (commands_at σ d) M = subst (λ (K : List Bool). Connects R L (commands_at σ d) K) same Q.connects in
        by (record { connects = C-If P.connects second C-Empty; long = P.long; exact = P.exact; outside = P.outside })

    repeat_does : {fs : List Bool} (c : Commands s) → Effect size σ fs fs (commands_at σ c) → Effect size σ fs fs (commands_at σ (repeat c ε))
    repeat_does {fs = fs} c f L e x = holds_then (f L e x) λ M P.
        let same : M ≡ L = same_end size σ fs L M L P.long e P.exact x P.outside (λ n h. refl) in
        let again : Connects R L (commands_at σ c) L = subst (λ (K : List Bool). Connects R L (commands_at σ c) K) same P.connects in
        by (record { connects = C-Loop again C-Empty; long = e; exact = x; outside = λ n h. refl })

    module _ (S : Scope) (N : AllEnd C.functions) (H : AllDo C.functions) where
      mutual
        statement_does : (t : Statement s) {Γ Δ : Env s} {c : Commands s} {d o p : ℕ} → StatementRule C Γ t Δ c → StatementRead S d o p t
            → Linear C Γ
            → length Γ.free ≡ size → Effect size σ Γ.free Δ.free (commands_at σ c)
        statement_does (op i a) (T-Op j) r I z = op_does j I z
        statement_does (if i y b b') (T-If {Γ = Γ} {c = c} {c' = c'} e j k) (if_read h r r') I z =
            either_does Γ.free c c' (block_does b j r I z) (block_does b' k r' I z)
        statement_does (while i y b) (T-While {c = c} e j) (while_read h r) I z = repeat_does c (block_does b j r I z)
        statement_does (call i f ls xs) (T-Call {Γ = Γ} J) r I z =
            let g : Signature = signature C.functions f in
            let ends : Ends g = all_of_at Ends C.functions f N J.earlier in
            let does : Does g = all_of_at Does C.functions f H J.earlier in
            call_does Γ g ls xs ends does J.locations J.slots J.inside J.different J.arguments J.others_free I z

        statements_do : (ts : Statements s) {Γ Δ : Env s} {c : Commands s} {d o p : ℕ} → StatementsRule C Γ ts Δ c → StatementsRead S d o p ts
            → Linear C Γ
            → length Γ.free ≡ size → Effect size σ Γ.free Δ.free (commands_at σ c)
        statements_do done T-Unit r I z = none_does
        statements_do (t ⨾ ts) (T-Seq {Γ = Γ} {c = c} {d = d} j k) (next_read r r') I z =
            then_does Γ.free c d (statement_does t j r I z) (statements_do ts k r' (linear_statement C S t j r N I) (free_length_statement C t j ∙ z))

        block_does : (b : Block s) {Γ Δ : Env s} {c : Commands s} {d o p : ℕ} → BlockRule C Γ b Δ c → BlockRead S d o p b → Linear C Γ
            → length Γ.free ≡ size
            → Effect size σ Γ.free Δ.free (commands_at σ c)
        block_does (block i ts) (T-Close j e) (block_read r) I z = statements_do ts j r I z

  main_block_does : (C : Context device) (size : ℕ) (σ : Place device → Place device) → Apart size σ → (S : Scope) → AllEnd C.functions
      → AllDo C.functions → (b : Block device) {Γ Δ : Env device} {c : Commands device} {d o p : ℕ} → MainRule C Γ b Δ c → BlockRead S d o p b
      → Linear C Γ
      → length Γ.free ≡ size → Effect size σ Γ.free Δ.free (commands_at σ c)
  main_block_does C size σ A S N H (block i ts) (T-Main j) (block_read r) I z = statements_do C size σ A S N H ts j r I z

  -- functions one after the other
  functions_do : (fs : List Function) {earlier : List Function} {o q : ℕ} {gs hs : List Signature} → FunctionsRead earlier o fs q → FunctionsRule fs gs hs
      → AllEnd gs → AllDo gs → AllEnd hs × AllDo hs
  functions_do [] none_read T-NoFun N H = (N, H)
  functions_do (g ∷ fs) {gs = gs} (function_read k m h b r) (T-Fundecl {d = d} j w) N H =
      functions_do fs r w (function_ends gs g _ h m N b j, N) (does, H)
    where
      does : Does (signature_of g d)
      does τ A =
          let long : length (entry g).free ≡ g.k = length_entry g.m (g.k - g.m) ∙ omega arith in
          block_does (body_context gs g) g.k τ A _ N H g.body j b (linear_entry gs g h (omega arith)) long

  connects_walk : (L : List Bool) (c : Commands device) {M : List Bool} → Connects R L c M → walk R L c ≡ ok M
  unfolding ◌>>=◌ ◌>>◌
  connects_walk L ε C-Empty = refl
  connects_walk L (alloc q l c) (C-Alloc h p) = connects_walk (set L l.no false) c p
  connects_walk L (release l c) (C-Free p) = connects_walk (set L l.no true) c p
  connects_walk L (connect o b l e k c) (C-Merge h p) = rw (linked_route L l k o h).1 (connects_walk L c p)
  connects_walk L (either a b c) (C-If {M = M} h k p) = rw (connects_walk L a h, connects_walk L b k) (connects_walk M c p)
  connects_walk L (repeat a c) (C-Loop h p) = rw (connects_walk L a h) (connects_walk L c p)

-- main, its places at themselves, all region locations free
module _ (R : Region) (size : ℕ) (p : Program) (t : Typed device) (W : ProgramRead size p) (D : Derives R.owned p t) where
  abbrev len : ℕ
  len = length R.owned

  abbrev MainAfter : Commands device → List Bool → Type 0
  MainAfter c M = After R len len (λ (l : Place device). l) t.env.free R.owned c M

  main_effect : Effect R len len (λ (l : Place device). l) R.owned t.env.free (commands_at (λ l. l) t.commands)
  main_effect =
      let C : Context device = main_context R.owned D.signatures in
      let H = functions_do R len p.functions W.functions D.functions tt tt in
      let themselves : Apart R len len (λ (l : Place device). l) = record { apart = λ q r h k e. e; room = λ q h. h } in
      main_block_does R len C len (λ l. l) themselves _ H.0 H.1 p.main D.main W.main (linear_start R.owned D.signatures) refl

  main_does : Holds (MainAfter t.commands) (walk R R.owned t.commands)
  main_does =
      subst (λ (c : Commands device). Holds (MainAfter c) (walk R R.owned c)) (at_same t.commands) (main_effect R.owned refl (λ q h. refl))

-- what is free after the walk is what main's environment has as free
pub walk_leaves : (R : Region) (size : ℕ) (p : Program) (t : Typed device) (L : List Bool) → ProgramRead size p → Derives R.owned p t
    → Connects R R.owned t.commands L → (l : ℕ) → l < length R.owned → get_or t.env.free l false ≡ get_or L l false
walk_leaves R size p t L W D w l h =
    (holds_at (main_does R size p t W D) (connects_walk R (length R.owned) R.owned t.commands w)).exact (record { no = l }) h

-- For a typed program the walk that tests only merges decides Figure 12.
pub walk_decides : WalkDecides
walk_decides R size p t L W D =
    ((λ e. (holds_at (main_does R size p t W D) e).connects), connects_walk R (length R.owned) R.owned t.commands)
