-- The walk over a typed body's tree follows its commands: it refuses where they do, and ends with the same locations free. For each slot that typing
-- has a qubit in, the frame has the location of the place where typing has it; an init puts it there, and nothing else puts a qubit in a slot: a
-- block and a call end with a qubit only where there was one.
use mathlib.Core.Bool.{Bool, true}
use mathlib.Core.List.{List, [], ◌∷◌}
use mathlib.Core.Logic.{⊎_elim}
use mathlib.Core.Path.{◌≡◌, refl, sym, ap, ◌∙◌}
use native.Mathlib.Decide.{ℕ_discrete}
use native.Mathlib.Omega.{arith}
use Prim.Native.Nat.{ℕ, suc, ◌<◌}
use lib.ListN.{get_or, set, length}
use Rattle.answers.specs.declared.Refusal.{Refusal}
use Rattle.answers.specs.Check.{Check, ok, refused, ◌>>=◌, ◌>>◌}
use Rattle.rules.specs.Basics.{up_to}
use Rattle.rules.specs.Region.{Region}
use Rattle.rules.specs.Path.{route}
use Rattle.rules.specs.Syntax.{Side, device, parameter, Place, param, at, Op, init, free, gate, measure, merge, new_ref, get_ref, set_ref, constant}
use Rattle.rules.specs.Syntax.{Statement, op, if, while, call, Statements, done, ◌⨾◌, Block, block}
use Rattle.rules.specs.Slots.{unbound, qubit, bool, ref, slot, holds_no_qubit}
use Rattle.rules.specs.Commands.{Commands, commands_at, need_route}
use Rattle.rules.specs.Typing.{Kind, Env, Signature, Context, signature}
use Rattle.rules.specs.Figures.{stored, kind_at, substituted, OpRule, T-Init, T-MInit, T-Free, T-Gate, T-Meas1, T-Meas2, T-MkRef, T-Deref, T-Assign}
use Rattle.rules.specs.Figures.{T-Bool, Callable, StatementRule, T-Op, T-If, T-While, T-Call, StatementsRule, T-Unit, T-Seq}
use Rattle.rules.specs.Figures.{BlockRule, T-Close, MainRule, T-Main}
use Rattle.rules.proofs.Basics.{get_d_up_to_zero}
use Rattle.rules.proofs.Tests.{eqb_same, eqb_other}
use Rattle.theory.proofs.Base.{get_d_set_cases}
use Rattle.theory.proofs.Places.{at_at, not_qubit, unbound_qubit, same_qubit, old_qubit, argument_at}
use Rattle.theory.proofs.Linear.{block_qubit}
use Rattle.walking.specs.Walk.{Standing, Walker, put, walk_op, walk_statement, walk_statements, walk_block}
use Rattle.walking.proofs.Sets.{walk_set, set_then}

-- each qubit of Γ is where the frame says
pub record Agrees {s : Side} (σ : Place s → Place device) (Γ : Env s) (f : ℕ → ℕ) : Type 0 where
  pub sits : (x : ℕ) (l : Place s) → slot Γ.slots x ≡ qubit l → f x ≡ (σ l).no

-- Γ has no qubit in a slot where Δ has not
pub record Older {s : Side} (Γ Δ : Env s) : Type 0 where
  pub was : (x : ℕ) (l : Place s) → slot Δ.slots x ≡ qubit l → slot Γ.slots x ≡ qubit l

-- a callee ends with no qubit but its arguments, each in its own slot
pub record Keeps (g : Signature) : Type 0 where
  pub argument : (i : ℕ) (p : Place parameter) → slot g.ends.slots i ≡ qubit p → p ≡ param i

module _ {s : Side} where
  pub older_put : (Γ : Env s) (fs : List Bool) (y : ℕ) (v : Kind s) → holds_no_qubit v ≡ true → Older Γ (record { slots = set Γ.slots y v; free = fs })
  older_put Γ fs y v n = record { was = λ x l h. old_qubit Γ.slots y x v l n h }

  -- stores of what holds no qubit, or the qubit that was there
  stored_old : (vs : List (Kind s)) (ns : List ℕ) (φ : List (Kind s))
      → ((j : ℕ) (l : Place s) → j < length ns → slot vs j ≡ qubit l → slot φ (get_or ns j 0) ≡ qubit l)
      → (x : ℕ) (l : Place s) → slot (stored vs ns φ) x ≡ qubit l → slot φ x ≡ qubit l
  stored_old [] ns φ h x l e = e
  stored_old (v ∷ vs) [] φ h x l e = e
  stored_old (v ∷ vs) (n ∷ ns) φ h x l e =
      ⊎_elim
      (λ c. ap (λ (y : ℕ). slot φ y) c.0 ∙ h 0 l (omega arith) (sym c.1 ∙ e))
      (λ c. stored_old vs ns φ (λ j k r. h (suc j) k (omega arith)) x l (sym c ∙ e))
      (get_d_set_cases (stored vs ns φ) n x v unbound)

  kind_qubit : (ls : List (Place s)) (v : Kind parameter) (l : Place s) → kind_at ls v ≡ qubit l → (p : Place parameter) × (v ≡ qubit p) × (l ≡ at ls p.no)
  kind_qubit ls unbound l h = unbound_qubit (kind_at ls unbound) l refl h
  kind_qubit ls (qubit p) l h = (p, refl, same_qubit _ l (at ls p.no) h refl)
  kind_qubit ls (bool b) l h = not_qubit (kind_at ls (bool b)) l refl h
  kind_qubit ls (ref b) l h = not_qubit (kind_at ls (ref b)) l refl h

  pub older_call : (C : Context s) (Γ : Env s) (f : ℕ) (ls : List (Place s)) (xs : List ℕ) → Keeps (signature C.functions f) → Callable C Γ f ls xs
      → Older Γ (substituted (signature C.functions f) ls xs Γ)
  older_call C Γ f ls xs K J = record { was = stored_old left xs Γ.slots each }
    where
      g : Signature
      g = signature C.functions f

      left : List (Kind s)
      left = up_to 0 g.m λ i. kind_at ls (slot g.ends.slots i)

      each : (j : ℕ) (l : Place s) → j < length xs → slot left j ≡ qubit l → slot Γ.slots (get_or xs j 0) ≡ qubit l
      each j l r h =
          let k =
          kind_qubit ls (slot g.ends.slots j) l (sym (get_d_up_to_zero g.m j (λ i. kind_at ls (slot g.ends.slots i)) unbound (omega (arith, J.slots))) ∙ h) in
          argument_at xs ls j J.arguments r ∙ ap (λ (n : ℕ). qubit (at ls n)) (sym (ap (λ (p : Place parameter). p.no) (K.argument j k.0 k.1)))
          ∙ ap (λ (p : Place s). qubit p) (sym k.2)

  pub agrees_older : {σ : Place s → Place device} {Γ Δ : Env s} {f : ℕ → ℕ} → Older Γ Δ → Agrees σ Γ f → Agrees σ Δ f
  agrees_older O A = record { sits = λ x l h. A.sits x l (O.was x l h) }

  agrees_init : (σ : Place s → Place device) (Γ : Env s) (fs : List Bool) (f : ℕ → ℕ) (y : ℕ) (k : Place s) → slot Γ.slots y ≡ unbound → Agrees σ Γ f
      → Agrees σ (record { slots = set Γ.slots y (qubit k); free = fs }) (put f y (σ k).no)
  agrees_init σ Γ fs f y k u A =
      record {
        sits = λ x l h.
            ⊎_elim (λ c. here x l c.0 (sym c.1 ∙ h)) (λ c. there x l (sym c ∙ h) (ℕ_discrete x y)) (get_d_set_cases Γ.slots y x (qubit k) unbound);
      }
    where
      here : (x : ℕ) (l : Place s) → x ≡ y → ◌≡◌ {A = Kind s} (qubit k) (qubit l) → put f y (σ k).no x ≡ (σ l).no
      here x l e q = rw (e, eqb_same y) (ap (λ (p : Place s). (σ p).no) (same_qubit _ k l refl q))

      there : (x : ℕ) (l : Place s) → slot Γ.slots x ≡ qubit l → Dec (x ≡ y) → put f y (σ k).no x ≡ (σ l).no
      there x l c (yes e) = unbound_qubit _ l (ap (slot Γ.slots) e ∙ u) c
      there x l c (no n) = rw (eqb_other x y n) (A.sits x l c)

-- the walk refuses as the commands do, or ends with their free set and a frame for Δ
data Same {s : Side} (σ : Place s → Place device) (Δ : Env s) : Check Standing → Check (ℕ → Bool) → Type 0 where
  same_no : {r : Refusal} → Same σ Δ (refused r) (refused r)
  same_ok : {f : ℕ → ℕ} {F : ℕ → Bool} → Agrees σ Δ f → Same σ Δ (ok (record { frame = f; free = F })) (ok F)

same_bind : {s : Side} {σ : Place s → Place device} {Δ : Env s} {m : Check Standing} {q : Check (ℕ → Bool)}
    (k : Standing → Check (ℕ → Bool)) (h : (ℕ → Bool) → Check (ℕ → Bool))
    → Same σ Δ m q → ((f : ℕ → ℕ) (F : ℕ → Bool) → Agrees σ Δ f → k (record { frame = f; free = F }) ≡ h F) → (m >>= k) ≡ (q >>= h)
unfolding ◌>>=◌
same_bind k h same_no w = refl
same_bind k h (same_ok a) w = w _ _ a

same_route : {s : Side} {σ : Place s → Place device} (Δ : Env s) (r : Check (List ℕ)) (st : Standing) → Agrees σ Δ st.frame
    → Same σ Δ (r >> ok st) (r >> ok st.free)
unfolding ◌>>◌
same_route Δ (refused r) st A = same_no
same_route Δ (ok p) st A = same_ok A

same_if : {s : Side} {σ : Place s → Place device} (Δ : Env s) (p q : Check (ℕ → Bool)) (f : ℕ → ℕ) → Agrees σ Δ f
    → Same σ Δ (p >>= λ F. q >> ok (record { frame = f; free = F })) (p >>= λ F. q >> ok F)
unfolding ◌>>=◌ ◌>>◌
same_if Δ (refused r) q f A = same_no
same_if Δ (ok F) (refused r) f A = same_no
same_if Δ (ok F) (ok G) f A = same_ok A

same_while : {s : Side} {σ : Place s → Place device} (Δ : Env s) (p : Check (ℕ → Bool)) (st : Standing) → Agrees σ Δ st.frame
    → Same σ Δ (p >> ok st) (p >> ok st.free)
unfolding ◌>>◌
same_while Δ (refused r) st A = same_no
same_while Δ (ok F) st A = same_ok A

same_call : {s : Side} {σ : Place s → Place device} (Δ : Env s) (q : Check (ℕ → Bool)) (f : ℕ → ℕ) → Agrees σ Δ f
    → Same σ Δ (q >>= λ F. ok (record { frame = f; free = F })) q
unfolding ◌>>=◌
same_call Δ (refused r) f A = same_no
same_call Δ (ok F) f A = same_ok A

-- W walks the callees by their commands, and each keeps only its arguments
pub record Good (R : Region) (W : Walker) (gs : List Signature) : Type 0 where
  pub by_commands_lem : (f : ℕ) → f < length gs → (τ : Place parameter → Place device) (F : ℕ → Bool)
      → W f τ F ≡ walk_set R F (commands_at τ (signature gs f).commands)
  pub keeps : (f : ℕ) → f < length gs → Keeps (signature gs f)

module _ {s : Side} (R : Region) (W : Walker) (σ : Place s → Place device) (C : Context s) (H : Good R W C.functions) where
  op_follows : (Γ : Env s) (o : ℕ) (a : Op s) {Δ : Env s} {c : Commands s} → OpRule C Γ o a Δ c → (st : Standing) → Agrees σ Γ st.frame
      → Same σ Δ (walk_op R W σ o a st) (walk_set R st.free (commands_at σ c))
  unfolding walk_op
  op_follows Γ o (init q x l) (T-Init u i p) st A = same_ok (agrees_init σ Γ _ _ x l u A)
  op_follows Γ o (init q x l) (T-MInit u i p) st A = same_ok (agrees_init σ Γ _ _ x l u A)
  op_follows Γ o (free x) (T-Free {l = l} p) st A = rw (A.sits x l p) (same_ok (agrees_older (older_put Γ _ x unbound refl) A))
  op_follows Γ o (gate g x) (T-Gate p) st A = same_ok A
  op_follows Γ o (measure y b x) (T-Meas1 u p) st A = same_ok (agrees_older (older_put Γ _ y (bool tt) refl) A)
  op_follows Γ o (merge y b x e z) (T-Meas2 {l = l} {k = k} u p q n) st A =
      rw (A.sits x l p, A.sits z k q) (same_route _ (need_route (route R st.free (σ l).no (σ k).no) o) st (agrees_older (older_put Γ _ y (bool tt) refl) A))
  op_follows Γ o (new_ref r y) (T-MkRef u p) st A = same_ok (agrees_older (older_put Γ _ r (ref tt) refl) A)
  op_follows Γ o (get_ref y r) (T-Deref u p) st A = same_ok (agrees_older (older_put Γ _ y (bool tt) refl) A)
  op_follows Γ o (set_ref r y) (T-Assign u p) st A = same_ok (agrees_older (older_put Γ _ r (ref tt) refl) A)
  op_follows Γ o (constant y v) (T-Bool u) st A = same_ok (agrees_older (older_put Γ _ y (bool tt) refl) A)

  mutual
    unfolding walk_statement

    statement_follows : (t : Statement s) {Γ Δ : Env s} {c : Commands s} → StatementRule C Γ t Δ c → (st : Standing) → Agrees σ Γ st.frame
        → Same σ Δ (walk_statement R W σ t st) (walk_set R st.free (commands_at σ c))
    statement_follows (op o a) {Γ = Γ} (T-Op j) st A = op_follows Γ o a j st A
    statement_follows (if o y b b') {Δ = Δ} (T-If {c = c} {c' = c'} e j k) st A =
        rw (block_follows b j st A, block_follows b' k st A)
        (same_if Δ (walk_set R st.free (commands_at σ c)) (walk_set R st.free (commands_at σ c')) st.frame
        (agrees_older (record { was = block_qubit C b j }) A))
    statement_follows (while o r b) {Γ = Γ} (T-While {c = c} e j) st A = rw (block_follows b j st A) (same_while Γ (walk_set R st.free (commands_at σ c)) st A)
    statement_follows (call o f ls xs) {Γ = Γ} (T-Call J) st A =
        let g : Signature = signature C.functions f in
        rw (at_at σ ls g.commands, ← (H.by_commands_lem f J.earlier (λ p. σ (at ls p.no)) st.free))
        (same_call _ (W f (λ p. σ (at ls p.no)) st.free) st.frame (agrees_older (older_call C Γ f ls xs (H.keeps f J.earlier) J) A))

    statements_follow : (ts : Statements s) {Γ Δ : Env s} {c : Commands s} → StatementsRule C Γ ts Δ c → (st : Standing) → Agrees σ Γ st.frame
        → walk_statements R W σ ts st ≡ walk_set R st.free (commands_at σ c)
    statements_follow done T-Unit st A = refl
    statements_follow (t ⨾ ts) (T-Seq {c = c} {d = d} j k) st A =
        rw (set_then R σ c d st.free) (same_bind _ _ (statement_follows t j st A) (λ f F B. statements_follow ts k (record { frame = f; free = F }) B))

    pub block_follows : (b : Block s) {Γ Δ : Env s} {c : Commands s} → BlockRule C Γ b Δ c → (st : Standing) → Agrees σ Γ st.frame
        → walk_block R W σ b st ≡ walk_set R st.free (commands_at σ c)
    block_follows (block o ts) (T-Close j e) st A = statements_follow ts j st A

-- the same for main, whose own block closes without 17
pub main_block_follows : (R : Region) (W : Walker) (σ : Place device → Place device) (C : Context device) → Good R W C.functions → (b : Block device)
    {Γ Δ : Env device} {c : Commands device} → MainRule C Γ b Δ c → (st : Standing) → Agrees σ Γ st.frame
    → walk_block R W σ b st ≡ walk_set R st.free (commands_at σ c)
unfolding walk_statement
main_block_follows R W σ C H (block o ts) (T-Main j) st A = statements_follow R W σ C H ts j st A
