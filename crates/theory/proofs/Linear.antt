-- Typed environments are linear: a slot's qubit is at a place of the body that is not free, no two slots hold one place, and every place of the body is
-- free or held by a slot. Every rule keeps this. So a function ends with each argument where it began or gone, and with every other place free, and the
-- two ways to say what a call leaves, the callee's environment substituted and the arguments that did not stay unbound, are one.
--
-- Exported: Linear, Ends, AllEnd (each callee of the list ends so); linear-start, linear-entry; linear-put, linear-held, linear-released, linear-op,
-- linear-call, linear-callable, linear-close, linear-statement, linear-statements, linear-block, linear-main; free-length-op, -statement, -statements,
-- -block (as many places as before); block-qubit, block-argument (a slot over a block); function-ends, functions-end; Matches, no-match, more-match,
-- functions-match (signatures against the functions read); call-slot, call-other-slot, call-place, call-other-place, call_kept, call-old, other-free (slots
-- and places after a call); call-agrees, callable-agrees.
use mathlib.Core.Bool.{Bool, true, false, false≢true}
use mathlib.Core.List.{List, [], ◌∷◌, ◌++◌, append-nil}
use mathlib.Core.Logic.{◌≢◌, ◌⊎◌, inl, inr, ⊎_elim}
use mathlib.Core.Path.{◌≡◌, refl, sym, ap, subst, ◌∙◌}
use native.Mathlib.Decide.{ℕ_discrete, dec_lt}
use native.Mathlib.Omega.{arith}
use Prim.Native.Nat.{ℕ, ◌-◌, ◌≤◌, ◌<◌}
use lib.ListN.{get_or, set, length, drop, length-set, length-append, get_or-append, get_or-eq_default}
use lib.Seq.{get_or-set_same, get_or-set_other, get_or-append_seam, append_snoc}
use Rattle.rules.specs.Basics.{all, up_to, without, set_all, distinct}
use Rattle.rules.specs.Syntax.{Side, device, parameter, Place, param, at, Op, Statement, op, if, while, call, Statements, done, ◌⨾◌, Block, block}
use Rattle.rules.specs.Syntax.{Function, function}
use Rattle.rules.specs.Program.{Scope}
use Rattle.rules.specs.Slots.{unbound, qubit, bool, ref, slot, holds_no_qubit, is_qubit_at, kept}
use Rattle.rules.specs.Commands.{Commands}
use Rattle.rules.specs.Typing.{Kind, Env, Typed, Signature, Context, signature, after_call, narrowed, entry, body_context, signature_of, main_context, start}
use Rattle.rules.specs.Figures.{stored, bind, take, give, kind_at, substituted}
use Rattle.rules.specs.Figures.{OpRule, T-Init, T-MInit, T-Free, T-Gate, T-Meas1, T-Meas2, T-MkRef, T-Deref, T-Assign, T-Bool}
use Rattle.rules.specs.Figures.{Arguments, Callable, StatementRule, T-Op, T-If, T-While, T-Call}
use Rattle.rules.specs.Figures.{StatementsRule, T-Unit, T-Seq, BlockRule, T-Close, MainRule, T-Main, FunctionsRule, T-NoFun, T-Fundecl}
use Rattle.rules.proofs.Basics.{length_up_to, get_d_up_to_zero}
use Rattle.theory.specs.WellRead.{OpRead, StatementRead, op_read, if_read, while_read, StatementsRead, next_read}
use Rattle.theory.specs.WellRead.{BlockRead, block_read, FunctionsRead, none_read, function_read}
use Rattle.rules.proofs.Tests.{eqb_same, below, is_below}
use Rattle.theory.proofs.Base.{true_in_range, get_d_set_stays, get_d_set_default, get_d_replicate_default}
use Rattle.theory.proofs.Places.{find, length_stored, stored_other, stored_at, stored_agrees, place_path, numbers, length_numbers, number_at}
use Rattle.theory.proofs.Places.{all_at, drop_at, find_place, map_without, stored_place, stored_other_place, unbound_qubit, same_qubit}
use Rattle.theory.proofs.Places.{qubit_in_range, old_qubit, new_qubit, kept_qubit, Once, once_held, argument_at, arguments_length}
use Rattle.theory.proofs.Places.{signature_newest, signature_older, AllOf, all_of_at, length_entry, entry_taken, entry_rest, length_entered, entry_at}
use Rattle.theory.proofs.Places.{entry_qubit, length_narrowed, narrowed_qubit, narrowed_keeps, stays_qubit, narrowed_home}

pub record Linear {s : Side} (C : Context s) (Γ : Env s) : Type 0 where
  pub inside : (x : ℕ) (l : Place s) → slot Γ.slots x ≡ qubit l → C.inside l ≡ true
  pub taken : (x : ℕ) (l : Place s) → slot Γ.slots x ≡ qubit l → get_or Γ.free l.no false ≡ false
  pub once : Once Γ.slots
  pub covered : (l : Place s) → C.inside l ≡ true → (get_or Γ.free l.no false ≡ true) ⊎ ((x : ℕ) × (slot Γ.slots x ≡ qubit l))
  pub sized : (l : Place s) → C.inside l ≡ true → l.no < length Γ.free
  pub slots32 : length Γ.slots ≡ 32

-- what a caller knows of its callee's end
pub record Ends (g : Signature) : Type 0 where
  pub arity : g.m ≤ g.k
  pub few : g.m ≤ 32
  pub free_size : length g.ends.free ≡ g.k
  pub argument : (i : ℕ) → i < g.m → (slot g.ends.slots i ≡ qubit (param i)) ⊎ (slot g.ends.slots i ≡ unbound)
  pub kept_taken : (i : ℕ) → i < g.m → slot g.ends.slots i ≡ qubit (param i) → get_or g.ends.free i false ≡ false
  pub lost_free : (i : ℕ) → i < g.m → slot g.ends.slots i ≡ unbound → get_or g.ends.free i false ≡ true
  pub rest_free : (i : ℕ) → g.m ≤ i → i < g.k → get_or g.ends.free i false ≡ true

abbrev pub AllEnd : List Signature → Type 0
AllEnd gs = AllOf Ends gs

module _ {s : Side} where
  -- something that is no qubit, in a slot that holds none
  pub linear_put : (C : Context s) (Γ : Env s) (x : ℕ) (k : Kind s) → holds_no_qubit (slot Γ.slots x) ≡ true → holds_no_qubit k ≡ true
      → Linear C Γ
      → Linear C (bind Γ x k)
  linear_put C Γ x k m n I = record {
    inside = λ y l h. I.inside y l (old_qubit Γ.slots x y k l n h);
    taken = λ y l h. I.taken y l (old_qubit Γ.slots x y k l n h);
    once = λ y z l j h h' e. I.once y z l j (old_qubit Γ.slots x y k l n h) (old_qubit Γ.slots x z k j n h') e;
    covered = λ l i. ⊎_elim inl (λ c. inr (c.0, kept_qubit Γ.slots x c.0 k l m c.1)) (I.covered l i);
    sized = I.sized;
    slots32 = length-set Γ.slots x k ∙ I.slots32;
  }

  -- a qubit at a free place of the body, in an unbound slot
  pub linear_held : (C : Context s) (Γ : Env s) (x : ℕ) (l : Place s) → x < 32 → slot Γ.slots x ≡ unbound → C.inside l ≡ true
      → get_or Γ.free l.no false ≡ true → Linear C Γ → Linear C (bind (take Γ l) x (qubit l))
  linear_held C Γ x l r u i f I = record {
    inside = λ y k h. ⊎_elim (λ e. subst (λ (p : Place s). C.inside p ≡ true) e i) (I.inside y k) (new_qubit Γ.slots x y l k h);
    taken = λ y k h. is_taken y k (new_qubit Γ.slots x y l k h);
    once = once_held Γ.slots x l I.once (λ y k h e. false≢true (sym (I.taken y k h) ∙ rw e f));
    covered = λ k j. found k (ℕ_discrete k.no l.no) (I.covered k j);
    sized = λ k j. let e = length-set Γ.free l.no false in let d = I.sized k j in omega arith;
    slots32 = length-set Γ.slots x (qubit l) ∙ I.slots32;
  }
    where
      is_taken : (y : ℕ) (k : Place s) → (l ≡ k) ⊎ (slot Γ.slots y ≡ qubit k) → get_or (set Γ.free l.no false) k.no false ≡ false
      is_taken y k (inl e) = rw (← e) (get_d_set_default Γ.free l.no false)
      is_taken y k (inr o) = get_d_set_stays Γ.free l.no k.no false false (I.taken y k o)

      found : (k : Place s) → Dec (k.no ≡ l.no) → (get_or Γ.free k.no false ≡ true) ⊎ ((y : ℕ) × (slot Γ.slots y ≡ qubit k))
          → (get_or (set Γ.free l.no false) k.no false ≡ true) ⊎ ((y : ℕ) × (slot (set Γ.slots x (qubit l)) y ≡ qubit k))
      found k (yes e) w =
          let z = I.slots32 in
          inr (x, get_or-set_same Γ.slots x (qubit l) unbound (omega arith) ∙ ap (λ (p : Place s). qubit p) (place_path l k (sym e)))
      found k (no e) (inl w) = inl (get_or-set_other Γ.free l.no k.no false false e ∙ w)
      found k (no e) (inr w) = inr (w.0, kept_qubit Γ.slots x w.0 (qubit l) k (ap holds_no_qubit u) w.1)

  -- a slot's qubit given back
  pub linear_released : (C : Context s) (Γ : Env s) (x : ℕ) (l : Place s) → slot Γ.slots x ≡ qubit l → Linear C Γ
      → Linear C (bind (give Γ l) x unbound)
  linear_released C Γ x l p I = record {
    inside = λ y k h. I.inside y k (old y k h);
    taken = λ y k h. get_or-set_other Γ.free l.no k.no true false (λ e. other y k h (I.once y x k l (old y k h) p e)) ∙ I.taken y k (old y k h);
    once = λ y z k m h h' e. I.once y z k m (old y k h) (old z m h') e;
    covered = λ k j. found k (ℕ_discrete k.no l.no) (I.covered k j);
    sized = λ k j. let e = length-set Γ.free l.no true in let d = I.sized k j in omega arith;
    slots32 = length-set Γ.slots x unbound ∙ I.slots32;
  }
    where
      old : (y : ℕ) (k : Place s) → slot (set Γ.slots x unbound) y ≡ qubit k → slot Γ.slots y ≡ qubit k
      old y k h = old_qubit Γ.slots x y unbound k refl h

      other : (y : ℕ) (k : Place s) → slot (set Γ.slots x unbound) y ≡ qubit k → y ≡ x → ⊥
      other y k h e = unbound_qubit _ k (ap (λ (z : ℕ). slot (set Γ.slots x unbound) z) e ∙ get_d_set_default Γ.slots x unbound) h

      found : (k : Place s) → Dec (k.no ≡ l.no) → (get_or Γ.free k.no false ≡ true) ⊎ ((y : ℕ) × (slot Γ.slots y ≡ qubit k))
          → (get_or (set Γ.free l.no true) k.no false ≡ true) ⊎ ((y : ℕ) × (slot (set Γ.slots x unbound) y ≡ qubit k))
      found k (yes e) w = inl (rw e (get_or-set_same Γ.free l.no true false (I.sized l (I.inside x l p))))
      found k (no e) (inl w) = inl (get_or-set_other Γ.free l.no k.no true false e ∙ w)
      found k (no e) (inr w) =
          let same : w.0 ≡ x → k ≡ l = λ q. same_qubit _ k l (ap (λ (y : ℕ). slot Γ.slots y) (sym q) ∙ w.1) p in
          inr (w.0, get_or-set_other Γ.slots x w.0 unbound unbound (λ q. e (ap (λ (t : Place s). t.no) (same q))) ∙ w.1)

  pub linear_op : (C : Context s) (S : Scope) {Γ Δ : Env s} {o : ℕ} {a : Op s} {c : Commands s} → OpRule C Γ o a Δ c → OpRead S a → Linear C Γ
      → Linear C Δ
  linear_op C S {Γ = Γ} (T-Init {x = x} {l = l} p q r) d I = linear_held C Γ x l d.0 p q r I
  linear_op C S {Γ = Γ} (T-MInit {x = x} {l = l} p q r) d I = linear_held C Γ x l d.0 p q r I
  linear_op C S {Γ = Γ} (T-Free {x = x} {l = l} p) d I = linear_released C Γ x l p I
  linear_op C S (T-Gate p) d I = I
  linear_op C S {Γ = Γ} (T-Meas1 {y = y} p q) d I = linear_put C Γ y (bool tt) (ap holds_no_qubit p) refl I
  linear_op C S {Γ = Γ} (T-Meas2 {y = y} p q r n) d I = linear_put C Γ y (bool tt) (ap holds_no_qubit p) refl I
  linear_op C S {Γ = Γ} (T-MkRef {r = r} p q) d I = linear_put C Γ r (ref tt) (ap holds_no_qubit p) refl I
  linear_op C S {Γ = Γ} (T-Deref {y = y} p q) d I = linear_put C Γ y (bool tt) (ap holds_no_qubit p) refl I
  linear_op C S {Γ = Γ} (T-Assign {r = r} p q) d I = linear_put C Γ r (ref tt) (ap holds_no_qubit p) refl I
  linear_op C S {Γ = Γ} (T-Bool {y = y} p) d I = linear_put C Γ y (bool tt) (ap holds_no_qubit p) refl I

  pub linear_close : (C : Context s) (Γ Δ : Env s) → Linear C Δ → Linear C (record { slots = narrowed Γ.slots Δ.slots; free = Δ.free })
  linear_close C Γ Δ I = record {
    inside = λ x l h. I.inside x l (old x l h);
    taken = λ x l h. I.taken x l (old x l h);
    once = λ y z k m h h' e. I.once y z k m (old y k h) (old z m h') e;
    covered = λ l i. ⊎_elim inl (λ c. inr (c.0, narrowed_keeps Γ.slots Δ.slots c.0 l (in_range c.0 l c.1) c.1)) (I.covered l i);
    sized = I.sized;
    slots32 = length_narrowed Γ.slots Δ.slots;
  }
    where
      old : (x : ℕ) (l : Place s) → slot (narrowed Γ.slots Δ.slots) x ≡ qubit l → slot Δ.slots x ≡ qubit l
      old x l h = narrowed_qubit Γ.slots Δ.slots x l h

      in_range : (x : ℕ) (l : Place s) → slot Δ.slots x ≡ qubit l → x < 32
      in_range x l h = let r = qubit_in_range Δ.slots x l h in let e = I.slots32 in omega arith

-- A call: what it leaves in a slot and at a place that it names, and in the others.
module _ {s : Side} (C : Context s) (Γ : Env s) (g : Signature) (ls : List (Place s)) (xs : List ℕ) (N : Ends g) (k : length ls ≡ g.k)
    (m : length xs ≡ g.m)
    (ins : all C.inside ls ≡ true) (u : distinct (numbers ls) ≡ true) (w : distinct xs ≡ true) (a : Arguments Γ xs ls)
    (f : all (λ l. get_or Γ.free l.no false) (drop (length xs) ls) ≡ true) (I : Linear C Γ) where
  abbrev left : List (Kind s)
  left = up_to 0 g.m λ i. kind_at ls (slot g.ends.slots i)

  left_at : (i : ℕ) → i < g.m → slot left i ≡ kind_at ls (slot g.ends.slots i)
  left_at i h = get_d_up_to_zero g.m i (λ j. kind_at ls (slot g.ends.slots j)) unbound h

  pub call_slot : (i : ℕ) → i < g.m → slot (substituted g ls xs Γ).slots (get_or xs i 0) ≡ kind_at ls (slot g.ends.slots i)
  call_slot i h =
      let n : length left ≡ g.m = length_up_to 0 g.m _ in
      let r : get_or xs i 0 < length Γ.slots = qubit_in_range Γ.slots (get_or xs i 0) (at ls i) (argument_at xs ls i a (omega arith)) in
      stored_at left xs Γ.slots i unbound w (omega arith) (omega arith) r ∙ left_at i h

  pub call_other_slot : (y : ℕ) → ((i : ℕ) → i < length xs → get_or xs i 0 ≢ y) → slot (substituted g ls xs Γ).slots y ≡ slot Γ.slots y
  call_other_slot y h = stored_other left xs Γ.slots y unbound h

  pub call_place : (i : ℕ) → i < g.k → get_or (substituted g ls xs Γ).free (at ls i).no false ≡ get_or g.ends.free i false
  call_place i h =
      stored_place g.ends.free ls Γ.free i u (N.free_size ∙ sym k) (omega arith) (I.sized (at ls i) (all_at C.inside ls i ins (omega arith)))

  pub call_other_place : (l : Place s) → ((i : ℕ) → i < length ls → (at ls i).no ≢ l.no)
      → get_or (substituted g ls xs Γ).free l.no false ≡ get_or Γ.free l.no false
  call_other_place l h = stored_other_place g.ends.free ls Γ.free l h

  -- a qubit after the call: its slot held it before, and an argument's slot has it because the callee kept it
  pub call_kept : (i : ℕ) (l : Place s) → i < g.m → slot (substituted g ls xs Γ).slots (get_or xs i 0) ≡ qubit l
      → (slot g.ends.slots i ≡ qubit (param i)) × (at ls i ≡ l)
  call_kept i l h e = ⊎_elim
      (λ c. (c, same_qubit _ (at ls i) l (call_slot i h ∙ ap (λ (v : Kind parameter). kind_at ls v) c) e))
      (λ c. unbound_qubit _ l (call_slot i h ∙ ap (λ (v : Kind parameter). kind_at ls v) c) e)
      (N.argument i h)

  pub call_old : (y : ℕ) (l : Place s) → slot (substituted g ls xs Γ).slots y ≡ qubit l → slot Γ.slots y ≡ qubit l
  call_old y l e = ⊎_elim
      (λ c. let r : slot (substituted g ls xs Γ).slots (get_or xs c.0 0) ≡ qubit l =
      ap (λ (z : ℕ). slot (substituted g ls xs Γ).slots z) c.2 ∙ e in
      let q : at ls c.0 ≡ l = (call_kept c.0 l (omega (arith, c.1)) r).1 in
      ap (λ (z : ℕ). slot Γ.slots z) (sym c.2) ∙ argument_at xs ls c.0 a c.1 ∙ ap (λ (p : Place s). qubit p) q)
      (λ c. sym (call_other_slot y c) ∙ e)
      (find xs y)

  pub other_free : (i : ℕ) → g.m ≤ i → i < g.k → get_or Γ.free (at ls i).no false ≡ true
  other_free i h j = drop_at (λ l. get_or Γ.free l.no false) (length xs) ls i f (omega arith) (omega arith)

  pub linear_call : Linear C (substituted g ls xs Γ)
  linear_call = record {
    inside = λ y l h. I.inside y l (call_old y l h);
    taken = λ y l h. off y l h (find_place ls l);
    once = λ y z l j h h' e. I.once y z l j (call_old y l h) (call_old z j h') e;
    covered = λ l i. found l (find_place ls l) (I.covered l i);
    sized = λ l i. let e = length_stored g.ends.free (numbers ls) Γ.free in let d = I.sized l i in omega arith;
    slots32 = length_stored left xs Γ.slots ∙ I.slots32;
  }
    where
      named : (y : ℕ) (l : Place s) → slot (substituted g ls xs Γ).slots y ≡ qubit l → (i : ℕ) → i < g.k → at ls i ≡ l → Dec (i < g.m)
          → get_or g.ends.free i false ≡ false
      named y l h i j e (yes d) =
          let given : slot Γ.slots (get_or xs i 0) ≡ qubit (at ls i) = argument_at xs ls i a (omega arith) in
          let same : get_or xs i 0 ≡ y = I.once (get_or xs i 0) y (at ls i) l given (call_old y l h) (ap (λ (p : Place s). p.no) e) in
          N.kept_taken i d (call_kept i l d (ap (λ (z : ℕ). slot (substituted g ls xs Γ).slots z) same ∙ h)).0
      named y l h i j e (no d) =
          let given_free : get_or Γ.free l.no false ≡ true = rw (← e) (other_free i (omega arith) j) in
          absurd (false≢true (sym (I.taken y l (call_old y l h)) ∙ given_free))

      off : (y : ℕ) (l : Place s) → slot (substituted g ls xs Γ).slots y ≡ qubit l
          → ((i : ℕ) × (i < length ls) × (at ls i ≡ l)) ⊎ ((i : ℕ) → i < length ls → (at ls i).no ≢ l.no)
          → get_or (substituted g ls xs Γ).free l.no false ≡ false
      off y l h (inl c) =
          ap (λ (p : Place s). get_or (substituted g ls xs Γ).free p.no false) (sym c.2) ∙ call_place c.0 (omega (arith, c.1))
          ∙ named y l h c.0 (omega (arith, c.1)) c.2 (dec_lt c.0 g.m)
      off y l h (inr c) = call_other_place l c ∙ I.taken y l (call_old y l h)

      held : (l : Place s) (i : ℕ) → i < g.k → at ls i ≡ l → Dec (i < g.m)
          → (get_or g.ends.free i false ≡ true) ⊎ ((x : ℕ) × (slot (substituted g ls xs Γ).slots x ≡ qubit l))
      held l i j e (yes d) = ⊎_elim
          (λ c. inr (get_or xs i 0, call_slot i d ∙ ap (λ (v : Kind parameter). kind_at ls v) c ∙ ap (λ (p : Place s). qubit p) e))
          (λ c. inl (N.lost_free i d c))
          (N.argument i d)
      held l i j e (no d) = inl (N.rest_free i (omega arith) j)

      found : (l : Place s) → ((i : ℕ) × (i < length ls) × (at ls i ≡ l)) ⊎ ((i : ℕ) → i < length ls → (at ls i).no ≢ l.no)
          → (get_or Γ.free l.no false ≡ true) ⊎ ((x : ℕ) × (slot Γ.slots x ≡ qubit l))
          → (get_or (substituted g ls xs Γ).free l.no false ≡ true) ⊎ ((x : ℕ) × (slot (substituted g ls xs Γ).slots x ≡ qubit l))
      found l (inl c) r = ⊎_elim
          (λ e. inl (ap (λ (p : Place s). get_or (substituted g ls xs Γ).free p.no false) (sym c.2) ∙ call_place c.0 (omega (arith, c.1)) ∙ e))
          inr
          (held l c.0 (omega (arith, c.1)) c.2 (dec_lt c.0 g.m))
      found l (inr c) (inl r) = inl (call_other_place l c ∙ r)
      found l (inr c) (inr r) =
          inr (
            r.0,
            call_other_slot r.0 (λ i j e. let there = ap (λ (z : ℕ). slot Γ.slots z) e ∙ r.1 in
                c i (omega (arith, arguments_length a)) (ap (λ (p : Place s). p.no) (same_qubit _ (at ls i) l (argument_at xs ls i a j) there))) ∙ r.1,
          )

  abbrev stay : List Bool
  stay = kept g.ends.slots param g.m

  -- the callee's environment substituted, and the arguments that did not stay unbound: the same
  stay_at : (i : ℕ) → i < g.m → get_or (kept g.ends.slots param g.m) i true ≡ is_qubit_at (slot g.ends.slots i) (param i)
  stay_at i h = get_d_up_to_zero g.m i (λ j. is_qubit_at (slot g.ends.slots j) (param j)) true h

  pub call_agrees : substituted g ls xs Γ ≡ after_call g ls xs Γ
  call_agrees = λ i. record { slots = slots_agree i; free = free_agree i }
    where
      stays : (i : ℕ) → i < g.m → slot g.ends.slots i ≡ qubit (param i) → get_or stay i true ≡ true
      stays i h c = stay_at i h ∙ ap (λ (v : Kind parameter). is_qubit_at v (param i)) c ∙ eqb_same i

      goes : (i : ℕ) → i < g.m → slot g.ends.slots i ≡ unbound → get_or stay i true ≡ false
      goes i h c = stay_at i h ∙ ap (λ (v : Kind parameter). is_qubit_at v (param i)) c

      slots_agree : stored left xs Γ.slots ≡ set_all unbound (without stay xs) Γ.slots
      slots_agree =
          let n : length left ≡ g.m = length_up_to 0 g.m _ in
          stored_agrees unbound unbound stay left xs Γ.slots w (omega arith) λ i h. ⊎_elim
          (λ c. inl (stays i (omega arith) c, left_at i (omega arith) ∙ ap (λ (v : Kind parameter). kind_at ls v) c ∙ sym (argument_at xs ls i a h)))
          (λ c. inr (goes i (omega arith) c, left_at i (omega arith) ∙ ap (λ (v : Kind parameter). kind_at ls v) c))
          (N.argument i (omega arith))

      free_agree : stored g.ends.free (numbers ls) Γ.free ≡ set_all true (numbers (without stay ls)) Γ.free
      free_agree =
          let n = length_numbers ls in
          stored_agrees false true stay g.ends.free (numbers ls) Γ.free u (omega (arith, N.free_size)) (λ i h. each i (omega arith) (dec_lt i g.m))
          ∙ ap (λ (ns : List ℕ). set_all true ns Γ.free) (sym (map_without stay ls))
        where
          past : (i : ℕ) → g.m ≤ i → get_or stay i true ≡ true
          past i h = let e : length stay ≡ g.m = length_up_to 0 g.m _ in get_or-eq_default stay true (omega arith)

          given_taken : (i : ℕ) → i < g.m → get_or Γ.free (at ls i).no false ≡ false
          given_taken i h = I.taken (get_or xs i 0) (at ls i) (argument_at xs ls i a (omega arith))

          by_number : (i : ℕ) → get_or Γ.free (at ls i).no false ≡ get_or Γ.free (get_or (numbers ls) i 0) false
          by_number i = ap (λ (n : ℕ). get_or Γ.free n false) (sym (number_at ls i))

          each : (i : ℕ) → i < g.k → Dec (i < g.m)
              → ((get_or stay i true ≡ true) × (get_or g.ends.free i false ≡ get_or Γ.free (get_or (numbers ls) i 0) false))
              ⊎ ((get_or stay i true ≡ false) × (get_or g.ends.free i false ≡ true))
          each i h (yes d) = ⊎_elim
              (λ c. inl (stays i d c, N.kept_taken i d c ∙ sym (given_taken i d) ∙ by_number i))
              (λ c. inr (goes i d c, N.lost_free i d c))
              (N.argument i d)
          each i h (no d) = inl (past i (omega arith), N.rest_free i (omega arith) h ∙ sym (other_free i (omega arith) h) ∙ by_number i)

-- the same from the rule's premises
pub linear_callable : {s : Side} (C : Context s) (Γ : Env s) (f : ℕ) (ls : List (Place s)) (xs : List ℕ) → Callable C Γ f ls xs
    → AllEnd C.functions
    → Linear C Γ → Linear C (substituted (signature C.functions f) ls xs Γ)
linear_callable C Γ f ls xs J H I =
    let g : Signature = signature C.functions f in
    let N : Ends g = all_of_at Ends C.functions f H J.earlier in
    linear_call C Γ g ls xs N J.locations J.slots J.inside J.different J.different_slots J.arguments J.others_free I

pub callable_agrees : {s : Side} (C : Context s) (Γ : Env s) (f : ℕ) (ls : List (Place s)) (xs : List ℕ) → Callable C Γ f ls xs
    → AllEnd C.functions
    → Linear C Γ → substituted (signature C.functions f) ls xs Γ ≡ after_call (signature C.functions f) ls xs Γ
callable_agrees C Γ f ls xs J H I =
    let g : Signature = signature C.functions f in
    let N : Ends g = all_of_at Ends C.functions f H J.earlier in
    call_agrees C Γ g ls xs N J.locations J.slots J.inside J.different J.different_slots J.arguments J.others_free I

mutual
  pub linear_statement : {s : Side} (C : Context s) (S : Scope) (t : Statement s) {Γ Δ : Env s} {c : Commands s} {d o p : ℕ} → StatementRule C Γ t Δ c
      → StatementRead S d o p t → AllEnd C.functions → Linear C Γ → Linear C Δ
  linear_statement C S (op i a) (T-Op j) (op_read r h) H I = linear_op C S j r I
  linear_statement C S (if i y b b') (T-If e j k) (if_read h r r') H I = linear_block C S b j r H I
  linear_statement C S (while i y b) (T-While e j) (while_read h r) H I = I
  linear_statement C S (call i f ls xs) (T-Call {Γ = Γ} J) r H I = linear_callable C Γ f ls xs J H I

  pub linear_statements : {s : Side} (C : Context s) (S : Scope) (ts : Statements s) {Γ Δ : Env s} {c : Commands s} {d o p : ℕ}
      → StatementsRule C Γ ts Δ c
      → StatementsRead S d o p ts → AllEnd C.functions → Linear C Γ → Linear C Δ
  linear_statements C S done T-Unit r H I = I
  linear_statements C S (t ⨾ ts) (T-Seq j k) (next_read r r') H I = linear_statements C S ts k r' H (linear_statement C S t j r H I)

  pub linear_block : {s : Side} (C : Context s) (S : Scope) (b : Block s) {Γ Δ : Env s} {c : Commands s} {d o p : ℕ} → BlockRule C Γ b Δ c
      → BlockRead S d o p b
      → AllEnd C.functions → Linear C Γ → Linear C Δ
  linear_block C S (block i ts) (T-Close {Γ = Γ} {Δ = Δ} j e) (block_read r) H I = linear_close C Γ Δ (linear_statements C S ts j r H I)

pub linear_main : (C : Context device) (S : Scope) (b : Block device) {Γ Δ : Env device} {c : Commands device} {d o p : ℕ} → MainRule C Γ b Δ c
    → BlockRead S d o p b
    → AllEnd C.functions → Linear C Γ → Linear C Δ
linear_main C S (block i ts) (T-Main {Γ = Γ} {Δ = Δ} j) (block_read r) H I = linear_close C Γ Δ (linear_statements C S ts j r H I)

-- as many places as before
pub free_length_op : {s : Side} {C : Context s} {Γ Δ : Env s} {o : ℕ} {a : Op s} {c : Commands s} → OpRule C Γ o a Δ c
    → length Δ.free ≡ length Γ.free
free_length_op {Γ = Γ} (T-Init {l = l} p q r) = length-set Γ.free l.no false
free_length_op {Γ = Γ} (T-MInit {l = l} p q r) = length-set Γ.free l.no false
free_length_op {Γ = Γ} (T-Free {l = l} p) = length-set Γ.free l.no true
free_length_op (T-Gate p) = refl
free_length_op (T-Meas1 p q) = refl
free_length_op (T-Meas2 p q r n) = refl
free_length_op (T-MkRef p q) = refl
free_length_op (T-Deref p q) = refl
free_length_op (T-Assign p q) = refl
free_length_op (T-Bool p) = refl

mutual
  pub free_length_statement : {s : Side} (C : Context s) (t : Statement s) {Γ Δ : Env s} {c : Commands s} → StatementRule C Γ t Δ c
      → length Δ.free ≡ length Γ.free
  free_length_statement C (op i a) (T-Op j) = free_length_op j
  free_length_statement C (if i y b b') (T-If e j k) = free_length_block C b j
  free_length_statement C (while i y b) (T-While e j) = refl
  free_length_statement C (call i f ls xs) (T-Call {Γ = Γ} J) = length_stored (signature C.functions f).ends.free (numbers ls) Γ.free

  pub free_length_statements : {s : Side} (C : Context s) (ts : Statements s) {Γ Δ : Env s} {c : Commands s} → StatementsRule C Γ ts Δ c
      → length Δ.free ≡ length Γ.free
  free_length_statements C done T-Unit = refl
  free_length_statements C (t ⨾ ts) (T-Seq j k) = free_length_statements C ts k ∙ free_length_statement C t j

  pub free_length_block : {s : Side} (C : Context s) (b : Block s) {Γ Δ : Env s} {c : Commands s} → BlockRule C Γ b Δ c
      → length Δ.free ≡ length Γ.free
  free_length_block C (block i ts) (T-Close j e) = free_length_statements C ts j

-- a qubit at a block's end sat there on entry, and a slot that held one ends with it or unbound
pub block_qubit : {s : Side} (C : Context s) (b : Block s) {Γ Δ : Env s} {c : Commands s} → BlockRule C Γ b Δ c → (x : ℕ) (l : Place s)
    → slot Δ.slots x ≡ qubit l → slot Γ.slots x ≡ qubit l
block_qubit C (block i ts) (T-Close {Γ = Γ} {Δ = Δ} j e) x l h =
    let r : x < 32 = subst (λ (n : ℕ). x < n) (length_narrowed Γ.slots Δ.slots) (qubit_in_range (narrowed Γ.slots Δ.slots) x l h) in
    stays_qubit Γ.slots Δ.slots x l e r (narrowed_qubit Γ.slots Δ.slots x l h)

pub block_argument : {s : Side} (C : Context s) (b : Block s) {Γ Δ : Env s} {c : Commands s} → BlockRule C Γ b Δ c → (x : ℕ) (l : Place s)
    → slot Γ.slots x ≡ qubit l → (slot Δ.slots x ≡ qubit l) ⊎ (slot Δ.slots x ≡ unbound)
block_argument C (block i ts) (T-Close {Γ = Γ} {Δ = Δ} j e) x l h = narrowed_home Γ.slots Δ.slots x l e h

-- where bodies begin
pub linear_start : (owned : List Bool) (gs : List Signature) → Linear (main_context owned gs) (start owned)
linear_start owned gs = record {
  inside = λ x l h. unbound_qubit _ l (get_d_replicate_default 32 x unbound) h;
  taken = λ x l h. unbound_qubit _ l (get_d_replicate_default 32 x unbound) h;
  once = λ x y l k h h' e. unbound_qubit _ l (get_d_replicate_default 32 x unbound) h;
  covered = λ l i. inl i;
  sized = λ l i. true_in_range owned l.no i;
  slots32 = refl;
}

pub linear_entry : (gs : List Signature) (g : Function) → g.m ≤ g.k → g.m ≤ 32 → Linear (body_context gs g) (entry g)
linear_entry gs g h r = record {
  inside = λ x l e. is_below l.no g.k (omega (arith, (home x l e).0, (home x l e).1));
  taken = λ x l e. entry_taken g.m (g.k - g.m) l.no (omega (arith, (home x l e).0, (home x l e).1));
  once = λ x y l k e e' w. omega (arith, (home x l e).0, (home y k e').0);
  covered = λ l i. found l (below l.no g.k i) (dec_lt l.no g.m);
  sized = λ l i. let n = length_entry g.m (g.k - g.m) in let k = below l.no g.k i in omega arith;
  slots32 = length_entered (Unit {0}) (up_to 0 g.m param) (let n : length (up_to 0 g.m param) ≡ g.m = length_up_to 0 g.m param in omega arith);
}
  where
    home : (x : ℕ) (l : Place parameter) → slot (entry g).slots x ≡ qubit l → (l.no ≡ x) × (x < g.m)
    home x l e = let q = entry_qubit g.m x l e in (ap (λ (p : Place parameter). p.no) q.0, q.1)

    found : (l : Place parameter) → l.no < g.k → Dec (l.no < g.m)
        → (get_or (entry g).free l.no false ≡ true) ⊎ ((x : ℕ) × (slot (entry g).slots x ≡ qubit l))
    found l k (yes d) = inr (l.no, entry_at g.m l.no d)
    found l k (no d) = inl (entry_rest g.m (g.k - g.m) l.no (omega arith) (omega arith))

-- a typed function's signature
pub function_ends : (gs : List Signature) (g : Function) (S : Scope) {Δ : Env parameter} {c : Commands parameter} {d o p : ℕ} → g.m ≤ g.k
    → g.m ≤ 8
    → AllEnd gs → BlockRead S d o p g.body → BlockRule (body_context gs g) (entry g) g.body Δ c
    → Ends (signature_of g (record { env = Δ; commands = c }))
function_ends gs g S {Δ = Δ} h r H b j = record {
  arity = h;
  few = few;
  free_size = free_length_block (body_context gs g) g.body j ∙ length_entry g.m (g.k - g.m) ∙ omega arith;
  argument = λ i k. block_argument (body_context gs g) g.body j i (param i) (entry_at g.m i k);
  kept_taken = λ i k e. I.taken i (param i) e;
  lost_free = λ i k e. ⊎_elim (λ f. f) (λ c. unbound_qubit _ (param i) e c.0) (free_or_kept i (omega arith));
  rest_free = λ i k e. ⊎_elim (λ f. f) (λ c. absurd (omega (arith, c.1, k))) (free_or_kept i e);
}
  where
    few : g.m ≤ 32
    few = omega arith

    I : Linear (body_context gs g) Δ
    I = linear_block (body_context gs g) S g.body j b H (linear_entry gs g h few)

    home : (x i : ℕ) → slot Δ.slots x ≡ qubit (param i) → (i ≡ x) × (i < g.m)
    home x i e =
        let q = entry_qubit g.m x (param i) (block_qubit (body_context gs g) g.body j x (param i) e) in
        let same : i ≡ x = ap (λ (p : Place parameter). p.no) q.0 in
        (same, omega (arith, q.1))

    -- a place of the body ends free, or it is an argument's, in its slot still
    free_or_kept : (i : ℕ) → i < g.k → (get_or Δ.free i false ≡ true) ⊎ ((slot Δ.slots i ≡ qubit (param i)) × (i < g.m))
    free_or_kept i k = ⊎_elim
        inl
        (λ c. let q = home c.0 i c.1 in inr (ap (λ (x : ℕ). slot Δ.slots x) q.0 ∙ c.1, q.1))
        (I.covered (param i) (is_below i g.k k))

pub functions_end : (fs : List Function) {earlier : List Function} {o q : ℕ} {gs hs : List Signature} → FunctionsRead earlier o fs q
    → FunctionsRule fs gs hs
    → AllEnd gs → AllEnd hs
functions_end [] none_read T-NoFun H = H
functions_end (g ∷ fs) {gs = gs} (function_read k m h b r) (T-Fundecl j w) H = functions_end fs r w (function_ends gs g _ h m H b j, H)

-- the signatures, the latest first, are those of the functions read, in their order
pub record Matches (gs : List Signature) (fs : List Function) : Type 0 where
  pub count : length gs ≡ length fs
  pub same_k : (f : ℕ) → f < length fs → (signature gs f).k ≡ (function fs f).k
  pub same_m : (f : ℕ) → f < length fs → (signature gs f).m ≡ (function fs f).m

pub no_match : Matches [] []
no_match = record { count = refl; same_k = λ f h. absurd (omega arith); same_m = λ f h. absurd (omega arith) }

pub more_match : (gs : List Signature) (fs : List Function) (g : Function) (d : Typed parameter) → Matches gs fs
    → Matches (signature_of g d ∷ gs) (fs ++ (g ∷ []))
more_match gs fs g d M = record {
  count = let e = length-append fs (g ∷ []) in omega (arith, M.count);
  same_k = λ f h. (each f h (ℕ_discrete f (length gs))).0;
  same_m = λ f h. (each f h (ℕ_discrete f (length gs))).1;
}
  where
    each : (f : ℕ) → f < length (fs ++ (g ∷ [])) → Dec (f ≡ length gs)
        → ((signature (signature_of g d ∷ gs) f).k ≡ (function (fs ++ (g ∷ [])) f).k)
        × ((signature (signature_of g d ∷ gs) f).m ≡ (function (fs ++ (g ∷ [])) f).m)
    each f h (yes e) =
        let last : function (fs ++ (g ∷ [])) f ≡ g = ap (λ (n : ℕ). function (fs ++ (g ∷ [])) n) (e ∙ M.count) ∙ get_or-append_seam fs g [] _ in
        let newest = signature_newest (signature_of g d) gs f e in
        (rw (newest, last), rw (newest, last))
    each f h (no e) =
        let n = length-append fs (g ∷ []) in
        let r : f < length fs = omega (arith, M.count) in
        let old : function (fs ++ (g ∷ [])) f ≡ function fs f = get_or-append fs (g ∷ []) _ f r in
        let older = signature_older (signature_of g d) gs f (omega (arith, M.count)) in
        (rw (older, old) (M.same_k f r), rw (older, old) (M.same_m f r))

pub functions_match : (fs earlier : List Function) {gs hs : List Signature} → FunctionsRule fs gs hs → Matches gs earlier → Matches hs (earlier ++ fs)
functions_match [] earlier {gs = gs} T-NoFun M = subst (λ (es : List Function). Matches gs es) (sym (append-nil earlier)) M
functions_match (g ∷ fs) earlier {gs = gs} {hs = hs} (T-Fundecl {d = d} j w) M =
    subst (λ (es : List Function). Matches hs es) (append_snoc earlier g fs) (functions_match fs (earlier ++ (g ∷ [])) w (more_match gs earlier g d M))
