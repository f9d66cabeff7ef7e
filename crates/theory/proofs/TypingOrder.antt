-- The first refusal of typing and of a step. An operation and a call are rows of checks, and agree with their lists test by test; so does a statement, a block
-- and the whole program, by induction over the tree. A test over an environment speaks of what the typing before it gave: where that gave a value, the
-- list has this value, and where it refused, the list has refused before. A step is the operation's row with its merge's route last.
use mathlib.Core.Bool.{Bool, not}
use mathlib.Core.List.{List, [], ◌∷◌, map}
use mathlib.Core.Option.{Option, none, some}
use mathlib.Core.Path.{◌≡◌, refl}
use Prim.Native.Nat.{ℕ}
use lib.Dec.{eqb}
use lib.ListN.{length, drop}
use Rattle.answers.specs.Check.{Check, ok, refused, ◌>>=◌, ◌>>◌, need}
use Rattle.answers.proofs.Laws.{Holds, not_ok, by, holds_bind}
use Rattle.rules.specs.Basics.{distinct}
use Rattle.rules.specs.Region.{Region}
use Rattle.rules.specs.Path.{route}
use Rattle.rules.specs.Syntax.{Side, device, Place, Op, init, free, gate, measure, merge, new_ref, get_ref, set_ref, constant}
use Rattle.rules.specs.Syntax.{Statement, op, if, while, call, Statements, done, ◌⨾◌, Block, block, Function}
use Rattle.rules.specs.Slots.{Slot, unbound, qubit, bool, ref, slot, is_qubit_at, need_qubit, need_bool, need_ref}
use Rattle.rules.specs.Slots.{Setting, Done, perform, arguments_at, callable}
use Rattle.rules.specs.Commands.{need_route}
use Rattle.rules.specs.Typing.{Env, Typed, Signature, Context, kinds, all_stay, same_env, type_statement, type_statements, type_block}
use Rattle.rules.specs.Typing.{entry, body_context, signature_of, type_functions, main_context, start, type_main}
use Rattle.rules.specs.Machine.{Frame, locate, Item, run, return, floor, edges_of, move}
use Rattle.theory.specs.Tests.{Test, test}
use Rattle.theory.specs.TypingOrder.{is_qubit, is_bool, is_ref, op_tests, argument_tests, call_tests, OpOrder, CallOrder, typed_from}
use Rattle.theory.specs.TypingOrder.{statement_tests, statements_tests, block_tests, main_tests, bodies_tests, TypingOrder}
use Rattle.theory.specs.TypingOrder.{is_some, path_tests, step_tests, StepOrder}
use Rattle.theory.proofs.Rows.{past, past_any, AsFirst, end, next, passed, fails, made, gives, after_having, after, then, row_in, both, each}

-- 11: a slot's kind
module _ {t : Side} {B : Type 0} (o : ℕ) where
  qubit_row : (v : Slot t B) → AsFirst (need_qubit v o) (test (is_qubit v) 11 o ∷ [])
  qubit_row unbound = fails 11 o []
  qubit_row (qubit l) = passed 11 o (end l)
  qubit_row (bool b) = fails 11 o []
  qubit_row (ref b) = fails 11 o []

  bool_row : (v : Slot t B) → AsFirst (need_bool v o) (test (is_bool v) 11 o ∷ [])
  bool_row unbound = fails 11 o []
  bool_row (qubit l) = fails 11 o []
  bool_row (bool b) = passed 11 o (end b)
  bool_row (ref b) = fails 11 o []

  ref_row : (v : Slot t B) → AsFirst (need_ref v o) (test (is_ref v) 11 o ∷ [])
  ref_row unbound = fails 11 o []
  ref_row (qubit l) = fails 11 o []
  ref_row (bool b) = fails 11 o []
  ref_row (ref b) = passed 11 o (end b)

  -- what a qubit slot gives is its place
  qubit_at : (v : Slot t B) → Holds (λ l. v ≡ qubit l) (need_qubit v o)
  qubit_at unbound = not_ok
  qubit_at (qubit l) = by refl
  qubit_at (bool b) = not_ok
  qubit_at (ref b) = not_ok

  -- 11 and 16 for an argument
  argument_row : (v : Slot t B) (l : Place t) {k : Check (Unit {0})} {ts : List Test} → AsFirst k ts
      → AsFirst (need_qubit v o >>= λ q. need (eqb q.no l.no) 16 o >> k) (test (is_qubit v) 11 o ∷ test (is_qubit_at v l) 16 o ∷ ts)
  argument_row v l h = after_having (qubit_at v) (qubit_row v) λ q e. rw e (next (eqb q.no l.no) 16 o h)

module _ {s t : Side} {B : Type 0} (W : Setting s t B) (o : ℕ) (φ : List (Slot t B)) where
  op_row : (a : Op s) → AsFirst (perform W o φ a) (op_tests W o φ a)
  op_row (init q x l) = next (W.may_bind (slot φ x)) 12 o (next (W.inside (W.named l)) 13 o (next (W.is_free (W.named l)) 14 o (end _)))
  op_row (free x) = made _ (qubit_row o (slot φ x))
  op_row (gate g x) = made _ (qubit_row o (slot φ x))
  op_row (measure y b x) = next (W.may_bind (slot φ y)) 12 o (made _ (qubit_row o (slot φ x)))
  op_row (merge y b x c z) =
      next (W.may_bind (slot φ y)) 12 o
      (after (qubit_row o (slot φ x)) λ l. after (qubit_row o (slot φ z)) λ k. next (not (eqb x z)) 15 o (end _))
  op_row (new_ref r y) = next (W.may_bind (slot φ r)) 12 o (made _ (bool_row o (slot φ y)))
  op_row (get_ref y r) = next (W.may_bind (slot φ y)) 12 o (made _ (ref_row o (slot φ r)))
  op_row (set_ref r y) = after (ref_row o (slot φ r)) λ v. made _ (bool_row o (slot φ y))
  op_row (constant y v) = next (W.may_bind (slot φ y)) 12 o (end _)

  arguments_row : (xs : List ℕ) (ls : List (Place t)) → AsFirst (arguments_at W o φ xs ls) (argument_tests W o φ xs ls)
  arguments_row [] ls = end tt
  arguments_row (x ∷ xs) [] = end tt
  arguments_row (x ∷ xs) (l ∷ ls) = argument_row o (slot φ x) l (arguments_row xs ls)

  call_row : (ls : List (Place t)) (xs : List ℕ) → AsFirst (callable W o φ ls xs) (call_tests W o φ ls xs)
  call_row ls xs =
      then (each W.inside 13 o ls)
      (then (both (distinct (map (λ l. l.no) ls)) (distinct xs) 15 o)
      (then (arguments_row xs ls)
      (each W.is_free 14 o (drop (length xs) ls))))

pub op_order : OpOrder
op_order s t B W o φ a = (op_row W o φ a).same

pub call_order : CallOrder
call_order s t B W o φ ls xs = (call_row W o φ ls xs).same

-- Typing: what it gave, where it gave anything, is what the list goes on with.
typed : {s : Side} (Γ : Env s) (m : Check (Typed s)) → Holds (λ d. typed_from Γ m ≡ d) m
typed Γ (ok d) = by refl
typed Γ (refused r) = not_ok

module _ {s : Side} (C : Context s) where
  mutual
    statement_row : (t : Statement s) (Γ : Env s) → AsFirst (type_statement C Γ t) (statement_tests C Γ t)
    statement_row (op o a) Γ = made _ (op_row (kinds C Γ) o Γ.slots a)
    statement_row (if o y b c) Γ =
        then (bool_row o (slot Γ.slots y))
        (after_having (typed Γ (type_block C Γ b)) (block_row b Γ) λ d p.
        after_having (typed Γ (type_block C Γ c)) (block_row c Γ) λ e q.
        rw (p, q) (next (same_env d.env e.env) 18 o (end _)))
    statement_row (while o r b) Γ =
        then (ref_row o (slot Γ.slots r))
        (after_having (typed Γ (type_block C Γ b)) (block_row b Γ) λ d p.
        rw p (next (same_env d.env Γ) 19 o (end _)))
    statement_row (call o f ls xs) Γ = gives _ (call_row (kinds C Γ) o Γ.slots ls xs)

    statements_row : (ts : Statements s) (Γ : Env s) → AsFirst (type_statements C Γ ts) (statements_tests C Γ ts)
    statements_row done Γ = end _
    statements_row (t ⨾ ts) Γ =
        after_having (typed Γ (type_statement C Γ t)) (statement_row t Γ) λ d p. made _ (rw p (statements_row ts d.env))

    block_row : (b : Block s) (Γ : Env s) → AsFirst (type_block C Γ b) (block_tests C Γ b)
    block_row (block o ts) Γ =
        after_having (typed Γ (type_statements C Γ ts)) (statements_row ts Γ) λ d p.
        rw p (next (all_stay Γ.slots d.env.slots) 17 o (end _))

-- main's own block: its statements, and no test behind them
main_row : (C : Context device) (b : Block device) (Γ : Env device) → AsFirst (type_main C Γ b) (main_tests C Γ b)
main_row C (block o ts) Γ = made _ (statements_row C ts Γ)

-- functions in file order, then main
bodies_row : (owned : List Bool) (fs : List Function) (gs : List Signature) (main : Block device)
    → AsFirst (type_functions gs fs >>= λ hs. type_main (main_context owned hs) (start owned) main) (bodies_tests owned gs fs main)
unfolding ◌>>=◌
bodies_row owned [] gs main = main_row (main_context owned gs) main (start owned)
bodies_row owned (g ∷ fs) gs main =
    row_in (type_block (body_context gs g) (entry g) g.body) _ _
    (after_having (typed (entry g) (type_block (body_context gs g) (entry g) g.body)) (block_row (body_context gs g) g.body (entry g)) λ d p.
    rw p (bodies_row owned fs (signature_of g d ∷ gs) main))

pub typing_order : TypingOrder
typing_order owned p = (bodies_row owned p.functions [] p.main).same

-- A step: 21
pub route_row : (found : Option (List ℕ)) (o : ℕ) → AsFirst (need_route found o) (test (is_some found) 21 o ∷ [])
route_row none o = fails 21 o []
route_row (some p) o = passed 21 o (end p)

module _ (R : Region) (fs : List Function) (outcome : Bool) (is_free : ℕ → Bool) (φ : Frame) where
  -- what an operation does to the places asks for its path
  abbrev Asks : {s : Side} → ℕ → Op s → Done device Bool → Type 0
  Asks o a d = AsFirst (edges_of R fs outcome is_free d.act o) (path_tests R fs outcome is_free φ o a)

  path_row : {s : Side} (W : Setting s device Bool) (o : ℕ) (a : Op s) → Holds (Asks o a) (perform W o φ a)
  path_row W o (init q x l) = past _ (past _ (past _ (by (end 0))))
  path_row W o (free x) = past_any _ λ l. by (end 0)
  path_row W o (gate g x) = past_any _ λ l. by (end 0)
  path_row W o (measure y b x) = past _ (past_any _ λ l. by (end 0))
  path_row W o (merge y b x c z) =
      past _
      (holds_bind (qubit_at o (slot φ x)) λ l p.
      holds_bind (qubit_at o (slot φ z)) λ k q.
      past _ (by (rw (p, q) (made _ (route_row (route R is_free l.no k.no) o)))))
  path_row W o (new_ref r y) = past _ (past_any _ λ v. by (end 0))
  path_row W o (get_ref y r) = past _ (past_any _ λ v. by (end 0))
  path_row W o (set_ref r y) = past_any _ λ v. past_any _ λ w. by (end 0)
  path_row W o (constant y v) = past _ (by (end 0))

  step_row : (φs : List Frame) (i : Item) (rest : List Item) → AsFirst (move R fs outcome is_free φ φs i rest) (step_tests R fs outcome is_free φ i)
  step_row φs (run σ (op o a)) rest =
      let W = floor R fs outcome is_free σ in
      after_having (path_row W o a) (op_row W o φ a) λ d h. made _ h
  step_row φs (run σ (if o y b c)) rest = made _ (bool_row o (slot φ y))
  step_row φs (run σ (while o r b)) rest = made _ (ref_row o (slot φ r))
  step_row φs (run σ (call o f ls xs)) rest = gives _ (call_row (floor R fs outcome is_free σ) o φ (map (locate σ) ls) xs)
  step_row [] (return o ls xs) rest = end _
  step_row (χ ∷ φs) (return o ls xs) rest = end _

pub step_order : StepOrder
step_order R fs outcome is_free φ φs i rest = (step_row R fs outcome is_free φ φs i rest).same
