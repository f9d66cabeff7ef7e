-- Typing accepts exactly what the rules derive, with the same environment and commands: soundness is a chain of the checks made, completeness rewrites
-- with what each premise gives. The two differ in what they say after a call; for programs as they are read the two are the same environment, since a
-- typed environment is linear and a callee ends as a linear body ends. And a typed block leaves a bool or a reference alone (rules bind unbound slots,
-- free and call qubits), while its end forgets what was bound since and keeps only the qubits that were there.
use mathlib.Core.Bool.{Bool, true, false, not, ◌&&◌, beq, false≢true}
use mathlib.Core.List.{List, [], ◌∷◌}
use mathlib.Core.Logic.{◌≢◌, ◌⊎◌, inl, inr, ⊎_elim}
use mathlib.Core.Path.{◌≡◌, refl, sym, ap, subst, ◌∙◌}
use native.Mathlib.Omega.{arith}
use Prim.Native.Nat.{ℕ, ◌≤◌, ◌<◌}
use lib.Dec.{eqb}
use lib.ListN.{get_or, set, length, drop}
use lib.Seq.{get_or-set_other}
use Rattle.answers.specs.Check.{ok, ◌>>=◌, ◌>>◌, need}
use Rattle.answers.proofs.Laws.{Holds, not_ok, by, holds_bind, holds_then, holds_need, holds_map, holds_at}
use Rattle.rules.specs.Basics.{all, same_list, up_to, distinct}
use Rattle.rules.specs.Syntax.{Side, device, Place, at, plain, magic, Op, init, free, gate, measure, merge, new_ref, get_ref, set_ref, constant}
use Rattle.rules.specs.Syntax.{Statement, op, if, while, call, Statements, done, ◌⨾◌, Block, block, Function, Program}
use Rattle.rules.specs.Program.{Scope}
use Rattle.rules.specs.Slots.{unbound, qubit, bool, ref, slot, need_bool, need_ref, is_unbound, is_classical, Done, perform, arguments_at, callable}
use Rattle.rules.specs.Commands.{Commands, commands_at}
use Rattle.rules.specs.Typing.{Kind, Env, Typed, Signature, Context, signature, kinds, after_act, after_call, command, same_kind, all_stay, same_env}
use Rattle.rules.specs.Typing.{type_statement, type_statements, type_block, entry, body_context, signature_of, type_functions, main_context, start}
use Rattle.rules.specs.Typing.{type_main, type_program}
use Rattle.rules.specs.Figures.{kind_at, OpRule, T-Init, T-MInit, T-Free, T-Gate, T-Meas1, T-Meas2, T-MkRef, T-Deref, T-Assign, T-Bool}
use Rattle.rules.specs.Figures.{Arguments, no_more, and, Callable, StatementRule, T-Op, T-If, T-While, T-Call}
use Rattle.rules.specs.Figures.{StatementsRule, T-Unit, T-Seq, BlockRule, T-Close, MainRule, T-Main, FunctionsRule, T-NoFun, T-Fundecl}
use Rattle.theory.specs.WellRead.{CallRead, StatementRead, if_read, while_read, call_read, StatementsRead, next_read}
use Rattle.theory.specs.WellRead.{BlockRead, block_read, FunctionsRead, none_read, function_read, ProgramRead}
use Rattle.theory.specs.Exact.{Derives, ExactTyping, EndsAlike}
use Rattle.rules.proofs.Tests.{eqb_true, eqb_same, eqb_other, eqb_false, and_left, and_right}
use Rattle.theory.proofs.Base.{get_d_set_cases}
use Rattle.theory.proofs.Places.{stored_other, place_path, numbers, qubit_held, argument_at, all_of_at}
use Rattle.theory.proofs.Places.{kind_sound, kind_refl, slot_narrowed, all_stay_at, narrow_cases}
use Rattle.theory.proofs.Linear.{Linear, Ends, AllEnd, linear_statement, linear_entry, linear_start, function_ends, functions_end}
use Rattle.theory.proofs.Linear.{Matches, no_match, more_match, functions_match, callable_agrees}

differ_sound : (x z o : ℕ) → Holds (λ u. x ≢ z) (need (not (eqb x z)) 15 o)
differ_sound x z o = go (eqb x z) refl
  where
    go : (b : Bool) → eqb x z ≡ b → Holds (λ u. x ≢ z) (need (not b) 15 o)
    go true e = not_ok
    go false e = by (eqb_false x z e)

-- one operation
module _ {s : Side} where
  unbound_sound : (v : Kind s) (o : ℕ) → Holds (λ u. v ≡ unbound) (need (is_unbound v) 12 o)
  unbound_sound unbound o = by refl
  unbound_sound (qubit l) o = not_ok
  unbound_sound (bool b) o = not_ok
  unbound_sound (ref b) o = not_ok

  bool_sound : (v : Kind s) (o : ℕ) → Holds (λ b. v ≡ bool tt) (need_bool v o)
  bool_sound unbound o = not_ok
  bool_sound (qubit l) o = not_ok
  bool_sound (bool b) o = by refl
  bool_sound (ref b) o = not_ok

  ref_sound : (v : Kind s) (o : ℕ) → Holds (λ b. v ≡ ref tt) (need_ref v o)
  ref_sound unbound o = not_ok
  ref_sound (qubit l) o = not_ok
  ref_sound (bool b) o = not_ok
  ref_sound (ref b) o = by refl

  abbrev OpOk : Context s → Env s → ℕ → Op s → Done s (Unit {0}) → Type 0
  OpOk C Γ o a d = OpRule C Γ o a (record { slots = d.slots; free = after_act d.act Γ.free }) (command o d.act)

  op_sound : (C : Context s) (Γ : Env s) (o : ℕ) (a : Op s) → Holds (OpOk C Γ o a) (perform (kinds C Γ) o Γ.slots a)
  op_sound C Γ o (init plain x l) =
      holds_then (unbound_sound (slot Γ.slots x) o) λ _ p.
      holds_then (holds_need (C.inside l) 13 o) λ _ q.
      holds_then (holds_need (get_or Γ.free l.no false) 14 o) λ _ r.
      by (T-Init p q r)
  op_sound C Γ o (init magic x l) =
      holds_then (unbound_sound (slot Γ.slots x) o) λ _ p.
      holds_then (holds_need (C.inside l) 13 o) λ _ q.
      holds_then (holds_need (get_or Γ.free l.no false) 14 o) λ _ r.
      by (T-MInit p q r)
  op_sound C Γ o (free x) = holds_bind (qubit_held (slot Γ.slots x) o) λ l p. by (T-Free p)
  op_sound C Γ o (gate g x) = holds_bind (qubit_held (slot Γ.slots x) o) λ l p. by (T-Gate p)
  op_sound C Γ o (measure y b x) =
      holds_then (unbound_sound (slot Γ.slots y) o) λ _ p. holds_bind (qubit_held (slot Γ.slots x) o) λ l q. by (T-Meas1 p q)
  op_sound C Γ o (merge y b x c z) =
      holds_then (unbound_sound (slot Γ.slots y) o) λ _ p.
      holds_bind (qubit_held (slot Γ.slots x) o) λ l q.
      holds_bind (qubit_held (slot Γ.slots z) o) λ k r.
      holds_then (differ_sound x z o) λ _ n.
      by (T-Meas2 p q r n)
  op_sound C Γ o (new_ref r y) =
      holds_then (unbound_sound (slot Γ.slots r) o) λ _ p. holds_bind (bool_sound (slot Γ.slots y) o) λ b q. by (T-MkRef p q)
  op_sound C Γ o (get_ref y r) =
      holds_then (unbound_sound (slot Γ.slots y) o) λ _ p. holds_bind (ref_sound (slot Γ.slots r) o) λ b q. by (T-Deref p q)
  op_sound C Γ o (set_ref r y) = holds_bind (ref_sound (slot Γ.slots r) o) λ _ p. holds_bind (bool_sound (slot Γ.slots y) o) λ b q. by (T-Assign p q)
  op_sound C Γ o (constant y v) = holds_then (unbound_sound (slot Γ.slots y) o) λ _ p. by (T-Bool p)

  op_complete : {C : Context s} {Γ Δ : Env s} {o : ℕ} {a : Op s} {c : Commands s} → OpRule C Γ o a Δ c
      → type_statement C Γ (op o a) ≡ ok (record { env = Δ; commands = c })
  unfolding ◌>>=◌ ◌>>◌
  op_complete (T-Init p q r) = rw (p, q, r)
  op_complete (T-MInit p q r) = rw (p, q, r)
  op_complete (T-Free p) = rw p
  op_complete (T-Gate p) = rw p
  op_complete (T-Meas1 p q) = rw (p, q)
  op_complete (T-Meas2 {x = x} {z = z} p q r n) = rw (p, q, r, eqb_other x z n)
  op_complete (T-MkRef p q) = rw (p, q)
  op_complete (T-Deref p q) = rw (p, q)
  op_complete (T-Assign p q) = rw (p, q)
  op_complete (T-Bool p) = rw p

-- equal environments
list_sound : {A : Type 0} (f : A → A → Bool) → ((x y : A) → f x y ≡ true → x ≡ y) → (xs ys : List A) → same_list f xs ys ≡ true → xs ≡ ys
list_sound f h [] [] e = refl
list_sound f h [] (y ∷ ys) e = absurd (false≢true e)
list_sound f h (x ∷ xs) [] e = absurd (false≢true e)
list_sound f h (x ∷ xs) (y ∷ ys) e =
    let p : x ≡ y = h x y (and_left (f x y) _ e) in
    let q : xs ≡ ys = list_sound f h xs ys (and_right (f x y) _ e) in
    cc

list_refl : {A : Type 0} (f : A → A → Bool) → ((x : A) → f x x ≡ true) → (xs : List A) → same_list f xs xs ≡ true
list_refl f h [] = refl
list_refl f h (x ∷ xs) = rw (h x) (list_refl f h xs)

beq_sound : (a b : Bool) → beq a b ≡ true → a ≡ b
beq_sound true true h = refl
beq_sound true false h = absurd (false≢true h)
beq_sound false true h = absurd (false≢true h)
beq_sound false false h = refl

beq_refl : (a : Bool) → beq a a ≡ true
beq_refl true = refl
beq_refl false = refl

pub env_sound : {s : Side} (Γ Δ : Env s) → same_env Γ Δ ≡ true → Γ ≡ Δ
unfolding same_env
env_sound Γ Δ h =
    let p : Γ.slots ≡ Δ.slots = list_sound same_kind kind_sound _ _ (and_left _ _ h) in
    let q : Γ.free ≡ Δ.free = list_sound beq beq_sound _ _ (and_right (same_list same_kind Γ.slots Δ.slots) _ h) in
    λ i. record { slots = p i; free = q i }

pub env_refl : {s : Side} (Γ : Env s) → same_env Γ Γ ≡ true
unfolding same_env
env_refl Γ = rw (list_refl same_kind kind_refl Γ.slots) (list_refl beq beq_refl Γ.free)

-- a call
module _ {s : Side} (C : Context s) (Γ : Env s) where
  arguments_sound : (xs : List ℕ) (ls : List (Place s)) (o : ℕ) → length xs ≤ length ls
      → Holds (λ u. Arguments Γ xs ls) (arguments_at (kinds C Γ) o Γ.slots xs ls)
  arguments_sound [] ls o h = by no_more
  arguments_sound (x ∷ xs) [] o h = absurd (omega arith)
  arguments_sound (x ∷ xs) (l ∷ ls) o h =
      holds_bind (qubit_held (slot Γ.slots x) o) λ k p. holds_then (holds_need (eqb k.no l.no) 16 o) λ _ q.
      holds_map (λ _ r. and (p ∙ ap (λ (t : Place s). qubit t) (place_path k l (eqb_true k.no l.no q))) r) (arguments_sound xs ls o (omega arith))

  arguments_complete : {xs : List ℕ} {ls : List (Place s)} (o : ℕ) → Arguments Γ xs ls → arguments_at (kinds C Γ) o Γ.slots xs ls ≡ ok tt
  unfolding ◌>>=◌ ◌>>◌
  arguments_complete o no_more = refl
  arguments_complete o (and {l = l} p r) = rw (p, eqb_same l.no) (arguments_complete o r)

  callable_sound : (S : Scope) (o f : ℕ) (ls : List (Place s)) (xs : List ℕ) → CallRead S f ls xs → Matches C.functions S.earlier
      → AllEnd C.functions
      → Holds (λ u. Callable C Γ f ls xs) (callable (kinds C Γ) o Γ.slots ls xs)
  callable_sound S o f ls xs R M H =
      let e : f < length C.functions = subst (λ (n : ℕ). f < n) (sym M.count) R.earlier in
      let k : length ls ≡ (signature C.functions f).k = R.locations ∙ sym (M.same_k f R.earlier) in
      let m : length xs ≡ (signature C.functions f).m = R.slots ∙ sym (M.same_m f R.earlier) in
      let few : length xs ≤ length ls = omega (arith, (all_of_at Ends C.functions f H e).arity) in
      holds_then (holds_need (all C.inside ls) 13 o) λ _ p. holds_then (holds_need (distinct (numbers ls) && distinct xs) 15 o) λ _ q.
      holds_then (arguments_sound xs ls o few) λ _ a. holds_map (λ _ w. record {
        earlier = e;
        locations = k;
        slots = m;
        inside = p;
        different = and_left _ _ q;
        different_slots = and_right (distinct (numbers ls)) _ q;
        arguments = a;
        others_free = w;
      }) (holds_need (all (λ l. get_or Γ.free l.no false) (drop (length xs) ls)) 14 o)

  callable_complete : (o f : ℕ) (ls : List (Place s)) (xs : List ℕ) → Callable C Γ f ls xs → callable (kinds C Γ) o Γ.slots ls xs ≡ ok tt
  unfolding ◌>>=◌ ◌>>◌
  callable_complete o f ls xs J = rw (J.inside, J.different, J.different_slots, arguments_complete o J.arguments, J.others_free)

abbrev StatementOk : {s : Side} → Context s → Env s → Statement s → Typed s → Type 0
StatementOk C Γ t d = StatementRule C Γ t d.env d.commands

abbrev StatementsOk : {s : Side} → Context s → Env s → Statements s → Typed s → Type 0
StatementsOk C Γ ts d = StatementsRule C Γ ts d.env d.commands

abbrev BlockOk : {s : Side} → Context s → Env s → Block s → Typed s → Type 0
BlockOk C Γ b d = BlockRule C Γ b d.env d.commands

-- T-Call, with the environment as typing has it after a call
call_rule : {s : Side} (C : Context s) (Γ : Env s) (i f : ℕ) (ls : List (Place s)) (xs : List ℕ) → Callable C Γ f ls xs → AllEnd C.functions
    → Linear C Γ
    → StatementRule C Γ (call i f ls xs) (after_call (signature C.functions f) ls xs Γ)
    (commands_at (λ p. at ls p.no) (signature C.functions f).commands)
call_rule C Γ i f ls xs J H I = rw (callable_agrees C Γ f ls xs J H I) at (T-Call {o = i} J)

-- what is known of the functions before a body: each ends as a linear body ends, and they are those that reading saw
pub record Known {s : Side} (C : Context s) (S : Scope) : Type 0 where
  pub end : AllEnd C.functions
  pub match : Matches C.functions S.earlier

mutual
  pub statement_sound : {s : Side} (C : Context s) (S : Scope) (Γ : Env s) (t : Statement s) {d o p : ℕ} → StatementRead S d o p t → Known C S
      → Linear C Γ
      → Holds (StatementOk C Γ t) (type_statement C Γ t)
  statement_sound C S Γ (op i a) r K I = holds_bind (op_sound C Γ i a) λ d j. by (T-Op j)
  statement_sound C S Γ (if i y b b') (if_read h r r') K I =
      holds_then (bool_sound (slot Γ.slots y) i) λ _ p.
      holds_bind (block_sound C S Γ b r K I) λ d q.
      holds_bind (block_sound C S Γ b' r' K I) λ e w.
      holds_then (holds_need (same_env d.env e.env) 18 i) λ _ z. by (T-If p q (rw (env_sound d.env e.env z) w))
  statement_sound C S Γ (while i y b) (while_read h r) K I =
      holds_then (ref_sound (slot Γ.slots y) i) λ _ p. holds_bind (block_sound C S Γ b r K I) λ d q.
      holds_then (holds_need (same_env d.env Γ) 19 i) λ _ z. by (T-While p (rw (env_sound d.env Γ z) at q))
  statement_sound C S Γ (call i f ls xs) (call_read R) K I =
      holds_then (callable_sound C Γ S i f ls xs R K.match K.end) λ _ J. by (call_rule C Γ i f ls xs J K.end I)

  pub statements_sound : {s : Side} (C : Context s) (S : Scope) (Γ : Env s) (ts : Statements s) {d o p : ℕ} → StatementsRead S d o p ts → Known C S
      → Linear C Γ
      → Holds (StatementsOk C Γ ts) (type_statements C Γ ts)
  statements_sound C S Γ done r K I = by T-Unit
  statements_sound C S Γ (t ⨾ ts) (next_read r r') K I =
      holds_bind (statement_sound C S Γ t r K I) λ d p.
      holds_bind (statements_sound C S d.env ts r' K (linear_statement C S t p r K.end I)) λ e q.
      by (T-Seq p q)

  pub block_sound : {s : Side} (C : Context s) (S : Scope) (Γ : Env s) (b : Block s) {d o p : ℕ} → BlockRead S d o p b → Known C S → Linear C Γ
      → Holds (BlockOk C Γ b) (type_block C Γ b)
  block_sound C S Γ (block i ts) (block_read r) K I =
      holds_bind (statements_sound C S Γ ts r K I) λ d p. holds_then (holds_need (all_stay Γ.slots d.env.slots) 17 i) λ _ q. by (T-Close p q)

mutual
  unfolding ◌>>=◌ ◌>>◌

  pub statement_complete : {s : Side} (C : Context s) (S : Scope) (t : Statement s) {Γ Δ : Env s} {c : Commands s} {d o p : ℕ} → StatementRule C Γ t Δ c
      → StatementRead S d o p t → AllEnd C.functions → Linear C Γ → type_statement C Γ t ≡ ok (record { env = Δ; commands = c })
  statement_complete C S (op i a) (T-Op j) r H I = op_complete j
  statement_complete C S (if i y b b') (T-If {Δ = Δ} p j k) (if_read h r r') H I =
      rw (p, block_complete C S b j r H I, block_complete C S b' k r' H I, env_refl Δ)
  statement_complete C S (while i y b) (T-While {Γ = Γ} p j) (while_read h r) H I = rw (p, block_complete C S b j r H I, env_refl Γ)
  statement_complete C S (call i f ls xs) (T-Call {Γ = Γ} J) r H I = rw (callable_complete C Γ i f ls xs J, callable_agrees C Γ f ls xs J H I)

  pub statements_complete : {s : Side} (C : Context s) (S : Scope) (ts : Statements s) {Γ Δ : Env s} {c : Commands s} {d o p : ℕ}
      → StatementsRule C Γ ts Δ c
      → StatementsRead S d o p ts → AllEnd C.functions → Linear C Γ → type_statements C Γ ts ≡ ok (record { env = Δ; commands = c })
  statements_complete C S done T-Unit r H I = refl
  statements_complete C S (t ⨾ ts) (T-Seq j k) (next_read r r') H I =
      rw (statement_complete C S t j r H I, statements_complete C S ts k r' H (linear_statement C S t j r H I))

  pub block_complete : {s : Side} (C : Context s) (S : Scope) (b : Block s) {Γ Δ : Env s} {c : Commands s} {d o p : ℕ} → BlockRule C Γ b Δ c
      → BlockRead S d o p b → AllEnd C.functions → Linear C Γ → type_block C Γ b ≡ ok (record { env = Δ; commands = c })
  block_complete C S (block i ts) (T-Close j e) (block_read r) H I = rw (statements_complete C S ts j r H I, e)

-- functions, each by those before it
functions_sound : (fs : List Function) {earlier : List Function} {o q : ℕ} (gs : List Signature) → FunctionsRead earlier o fs q → AllEnd gs
    → Matches gs earlier
    → Holds (λ hs. FunctionsRule fs gs hs) (type_functions gs fs)
functions_sound [] gs none_read H M = by T-NoFun
functions_sound (g ∷ fs) {earlier = earlier} gs (function_read k m h b r) H M =
    holds_bind (block_sound (body_context gs g) _ (entry g) g.body b (record { end = H; match = M }) (linear_entry gs g h (omega arith))) λ d j.
    holds_map (λ hs w. T-Fundecl j w) (functions_sound fs (signature_of g d ∷ gs) r (function_ends gs g _ h m H b j, H) (more_match gs earlier g d M))

functions_complete : (fs : List Function) {earlier : List Function} {o q : ℕ} {gs hs : List Signature} → FunctionsRule fs gs hs
    → FunctionsRead earlier o fs q
    → AllEnd gs → type_functions gs fs ≡ ok hs
unfolding ◌>>=◌ ◌>>◌
functions_complete [] T-NoFun none_read H = refl
functions_complete (g ∷ fs) {gs = gs} (T-Fundecl j w) (function_read k m h b r) H =
    rw (block_complete (body_context gs g) _ g.body j b H (linear_entry gs g h (omega arith))) (functions_complete fs w r (function_ends gs g _ h m H b j, H))

-- main, whose own block closes without 17
main_sound : (C : Context device) (S : Scope) (Γ : Env device) (b : Block device) {d o p : ℕ} → BlockRead S d o p b → Known C S → Linear C Γ
    → Holds (λ (t : Typed device). MainRule C Γ b t.env t.commands) (type_main C Γ b)
main_sound C S Γ (block i ts) (block_read r) K I = holds_bind (statements_sound C S Γ ts r K I) λ d p. by (T-Main p)

main_complete : (C : Context device) (S : Scope) (b : Block device) {Γ Δ : Env device} {c : Commands device} {d o p : ℕ} → MainRule C Γ b Δ c
    → BlockRead S d o p b
    → AllEnd C.functions → Linear C Γ → type_main C Γ b ≡ ok (record { env = Δ; commands = c })
unfolding ◌>>=◌ ◌>>◌
main_complete C S (block i ts) (T-Main j) (block_read r) H I = rw (statements_complete C S ts j r H I)

program_sound : (owned : List Bool) (size : ℕ) (p : Program) → ProgramRead size p → Holds (Derives owned p) (type_program owned p)
program_sound owned size p R = holds_bind (functions_sound p.functions [] R.functions tt no_match) λ gs w.
    holds_map (λ t j. record { signatures = gs; functions = w; main = j })
    (main_sound (main_context owned gs) _ (start owned) p.main R.main (known gs w) (linear_start owned gs))
  where
    known : (gs : List Signature) → FunctionsRule p.functions [] gs → Known (main_context owned gs) (record { places = 256; earlier = p.functions })
    known gs w = record { end = functions_end p.functions R.functions w tt; match = functions_match p.functions [] w no_match }

program_complete : (owned : List Bool) (size : ℕ) (p : Program) (t : Typed device) → ProgramRead size p → Derives owned p t
    → type_program owned p ≡ ok t
unfolding ◌>>=◌ ◌>>◌
program_complete owned size p t R D =
    let gs : List Signature = D.signatures in
    let f : type_functions [] p.functions ≡ ok gs = functions_complete p.functions D.functions R.functions tt in
    let H : AllEnd gs = functions_end p.functions R.functions D.functions tt in
    rw f (main_complete (main_context owned gs) _ p.main D.main R.main H (linear_start owned gs))

pub exact_typing : ExactTyping
exact_typing owned size p t R = ((λ e. holds_at (program_sound owned size p R) e), program_complete owned size p t R)

-- a bool or a reference stays as it is
module _ {s : Side} where
  other_stays : (φ : List (Kind s)) (y x : ℕ) (k : Kind s) → is_classical (slot φ y) ≡ false → is_classical (slot φ x) ≡ true
      → slot (set φ y k) x ≡ slot φ x
  other_stays φ y x k n h = get_or-set_other φ y x k unbound (λ e. false≢true (sym n ∙ ap (λ (z : ℕ). is_classical (slot φ z)) (sym e) ∙ h))

  op_stays : {C : Context s} {Γ Δ : Env s} {o : ℕ} {a : Op s} {c : Commands s} → OpRule C Γ o a Δ c → (x : ℕ)
      → is_classical (slot Γ.slots x) ≡ true
      → slot Δ.slots x ≡ slot Γ.slots x
  op_stays {Γ = Γ} (T-Init {x = y} p q r) x h = other_stays Γ.slots y x _ (ap is_classical p) h
  op_stays {Γ = Γ} (T-MInit {x = y} p q r) x h = other_stays Γ.slots y x _ (ap is_classical p) h
  op_stays {Γ = Γ} (T-Free {x = y} p) x h = other_stays Γ.slots y x _ (ap is_classical p) h
  op_stays (T-Gate p) x h = refl
  op_stays {Γ = Γ} (T-Meas1 {y = y} p q) x h = other_stays Γ.slots y x _ (ap is_classical p) h
  op_stays {Γ = Γ} (T-Meas2 {y = y} p q r n) x h = other_stays Γ.slots y x _ (ap is_classical p) h
  op_stays {Γ = Γ} (T-MkRef {r = y} p q) x h = other_stays Γ.slots y x _ (ap is_classical p) h
  op_stays {Γ = Γ} (T-Deref {y = y} p q) x h = other_stays Γ.slots y x _ (ap is_classical p) h
  op_stays {Γ = Γ} (T-Assign {r = y} p q) x h = ⊎_elim
      (λ e. e.1 ∙ sym p ∙ ap (λ (z : ℕ). slot Γ.slots z) (sym e.0))
      (λ e. e)
      (get_d_set_cases Γ.slots y x (ref tt) unbound)
  op_stays {Γ = Γ} (T-Bool {y = y} p) x h = other_stays Γ.slots y x _ (ap is_classical p) h

  abbrev pub Alike : Env s → Env s → ℕ → Type 0
  Alike Γ Δ x = (slot Δ.slots x ≡ slot Γ.slots x) ⊎ ((l : Place s) × (slot Γ.slots x ≡ qubit l) × (slot Δ.slots x ≡ unbound))

  alike_stays : (Γ Δ : Env s) (x : ℕ) → Alike Γ Δ x → is_classical (slot Γ.slots x) ≡ true → slot Δ.slots x ≡ slot Γ.slots x
  alike_stays Γ Δ x a h = ⊎_elim (λ e. e) (λ e. absurd (false≢true (sym (ap is_classical e.1) ∙ h))) a

mutual
  statement_stays : {s : Side} (C : Context s) (t : Statement s) {Γ Δ : Env s} {c : Commands s} → StatementRule C Γ t Δ c → (x : ℕ) → x < 32
      → is_classical (slot Γ.slots x) ≡ true → slot Δ.slots x ≡ slot Γ.slots x
  statement_stays C (op i a) (T-Op j) x r h = op_stays j x h
  statement_stays C (if i y b b') (T-If {Γ = Γ} {Δ = Δ} p j k) x r h = alike_stays Γ Δ x (block_alike C b j x r) h
  statement_stays C (while i y b) (T-While p j) x r h = refl
  statement_stays C (call i f ls xs) (T-Call {Γ = Γ} J) x r h =
      stored_other (up_to 0 (signature C.functions f).m λ n. kind_at ls (slot (signature C.functions f).ends.slots n)) xs Γ.slots x unbound
      (λ n k e. false≢true (sym (ap is_classical (argument_at xs ls n J.arguments k)) ∙ ap (λ (z : ℕ). is_classical (slot Γ.slots z)) e ∙ h))

  statements_stay : {s : Side} (C : Context s) (ts : Statements s) {Γ Δ : Env s} {c : Commands s} → StatementsRule C Γ ts Δ c → (x : ℕ) → x < 32
      → is_classical (slot Γ.slots x) ≡ true → slot Δ.slots x ≡ slot Γ.slots x
  statements_stay C done T-Unit x r h = refl
  statements_stay C (t ⨾ ts) (T-Seq j k) x r h =
      let e = statement_stays C t j x r h in
      statements_stay C ts k x r (ap is_classical e ∙ h) ∙ e

  pub block_alike : {s : Side} (C : Context s) (b : Block s) {Γ Δ : Env s} {c : Commands s} → BlockRule C Γ b Δ c → (x : ℕ) → x < 32
      → Alike Γ Δ x
  block_alike C (block i ts) (T-Close {Γ = Γ} {Δ = Δ} j e) x r = ⊎_elim
      (λ q. inl (slot_narrowed Γ.slots Δ.slots x r ∙ q))
      (λ q. inr (q.0, q.1, slot_narrowed Γ.slots Δ.slots x r ∙ q.2))
      (narrow_cases (slot Γ.slots x) (slot Δ.slots x) (all_stay_at Γ.slots Δ.slots x e r) (λ h. statements_stay C ts j x r h))

pub ends_alike : EndsAlike
ends_alike s C Γ Δ b c j x r = block_alike C b j x r
