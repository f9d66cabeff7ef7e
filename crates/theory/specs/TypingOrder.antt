-- Demand 2, the first refusal of typing and of a step: what an operation and a call ask, each in one list, for typing and for steps alike; all tests of the
-- typing of a program in one list; and a step's tests, which are typing's with 21 last. A test over an environment speaks of the one that the statements
-- before it left; what it says where one of them was refused does not matter.
use Rattle.std.specs.Prelude.{Bool, true, false, not, List, [], ◌∷◌, ◌++◌, map, ◌≡◌, ℕ, eqb, length, drop}
use Rattle.std.proofs.Math.Option.{Option, none, some}
use Rattle.answers.specs.Check.{Check, ok, refused}
use Rattle.rules.specs.Basics.{distinct}
use Rattle.rules.specs.Region.{Region}
use Rattle.rules.specs.Path.{route}
use Rattle.rules.specs.Syntax.{Side, device, Place, Op, init, free, gate, measure, merge, new_ref, get_ref, set_ref, constant}
use Rattle.rules.specs.Syntax.{Statement, op, if, while, call, Statements, done, ◌⨾◌, Block, block, Function, Program}
use Rattle.rules.specs.Slots.{Slot, unbound, qubit, bool, ref, slot, is_qubit_at, Setting, perform, callable}
use Rattle.rules.specs.Commands.{ε}
use Rattle.rules.specs.Typing.{Env, Typed, Signature, Context, kinds, all_stay, same_env, type_statement, type_statements, type_block}
use Rattle.rules.specs.Typing.{entry, body_context, signature_of, main_context, start, type_program}
use Rattle.rules.specs.Machine.{Frame, locate, Item, run, return, floor, move}
use Rattle.theory.specs.Tests.{Test, test, first_of, refusal_of}

module _ {t : Side} {B : Type 0} where
  abbrev pub is_qubit : Slot t B → Bool
  is_qubit unbound = false
  is_qubit (qubit l) = true
  is_qubit (bool b) = false
  is_qubit (ref b) = false

  abbrev pub is_bool : Slot t B → Bool
  is_bool unbound = false
  is_bool (qubit l) = false
  is_bool (bool b) = true
  is_bool (ref b) = false

  abbrev pub is_ref : Slot t B → Bool
  is_ref unbound = false
  is_ref (qubit l) = false
  is_ref (bool b) = false
  is_ref (ref b) = true

module _ {s t : Side} {B : Type 0} (W : Setting s t B) (o : ℕ) (φ : List (Slot t B)) where
  -- 12: the slot may be bound
  abbrev pub bindable : ℕ → Test
  bindable x = test (W.may_bind (slot φ x)) 12 o

  -- 11: the slot is of the kind needed
  abbrev pub a_qubit : ℕ → Test
  a_qubit x = test (is_qubit (slot φ x)) 11 o

  abbrev pub a_bool : ℕ → Test
  a_bool x = test (is_bool (slot φ x)) 11 o

  abbrev pub a_ref : ℕ → Test
  a_ref x = test (is_ref (slot φ x)) 11 o

  -- Typing of one statement, and a step: 12, then 11 left to right, then 13, 14, 15
  abbrev pub op_tests : Op s → List Test
  op_tests (init q x l) = bindable x ∷ test (W.inside (W.named l)) 13 o ∷ test (W.is_free (W.named l)) 14 o ∷ []
  op_tests (free x) = a_qubit x ∷ []
  op_tests (gate g x) = a_qubit x ∷ []
  op_tests (measure y b x) = bindable y ∷ a_qubit x ∷ []
  op_tests (merge y b x e z) = bindable y ∷ a_qubit x ∷ a_qubit z ∷ test (not (eqb x z)) 15 o ∷ []
  op_tests (new_ref r y) = bindable r ∷ a_bool y ∷ []
  op_tests (get_ref y r) = bindable y ∷ a_ref r ∷ []
  op_tests (set_ref r y) = a_ref r ∷ a_bool y ∷ []
  op_tests (constant y v) = bindable y ∷ []

  -- 11 and 16 for each argument in turn
  abbrev pub argument_tests : List ℕ → List (Place t) → List Test
  argument_tests [] ls = []
  argument_tests (x ∷ xs) [] = []
  argument_tests (x ∷ xs) (l ∷ ls) = a_qubit x ∷ test (is_qubit_at (slot φ x) l) 16 o ∷ argument_tests xs ls

  -- A call: 13 for each location, 15, then 11 and 16 for each argument in turn, then 14
  abbrev pub call_tests : List (Place t) → List ℕ → List Test
  call_tests ls xs =
      map (λ l. test (W.inside l) 13 o) ls
      ++ (test (distinct (map (λ l. l.no) ls)) 15 o ∷ test (distinct xs) 15 o
      ∷ (argument_tests xs ls ++ map (λ l. test (W.is_free l) 14 o) (drop (length xs) ls)))

abbrev pub OpOrder : Type 1
OpOrder = (s t : Side) (B : Type 0) (W : Setting s t B) (o : ℕ) (φ : List (Slot t B)) (a : Op s)
    → refusal_of (perform W o φ a) ≡ first_of (op_tests W o φ a)

abbrev pub CallOrder : Type 1
CallOrder = (s t : Side) (B : Type 0) (W : Setting s t B) (o : ℕ) (φ : List (Slot t B)) (ls : List (Place t)) (xs : List ℕ)
    → refusal_of (callable W o φ ls xs) ≡ first_of (call_tests W o φ ls xs)

-- what a typing gave, or the environment before it with no commands where it refused
abbrev pub typed_from : {s : Side} → Env s → Check (Typed s) → Typed s
typed_from Γ (ok d) = d
typed_from Γ (refused r) = record { env = Γ; commands = ε }

module _ {s : Side} (C : Context s) where
  -- Statements in order. An if: 11, the then-block, the else-block, 18. A while: 11, its block, 19. 17 falls at a block's end.
  abbrev mutual
    pub statement_tests : Env s → Statement s → List Test
    statement_tests Γ (op o a) = op_tests (kinds C Γ) o Γ.slots a
    statement_tests Γ (if o y b c) =
        test (is_bool (slot Γ.slots y)) 11 o
        ∷ (block_tests Γ b ++ (block_tests Γ c
        ++ (test (same_env (typed_from Γ (type_block C Γ b)).env (typed_from Γ (type_block C Γ c)).env) 18 o ∷ [])))
    statement_tests Γ (while o r b) =
        test (is_ref (slot Γ.slots r)) 11 o
        ∷ (block_tests Γ b ++ (test (same_env (typed_from Γ (type_block C Γ b)).env Γ) 19 o ∷ []))
    statement_tests Γ (call o f ls xs) = call_tests (kinds C Γ) o Γ.slots ls xs

    pub statements_tests : Env s → Statements s → List Test
    statements_tests Γ done = []
    statements_tests Γ (t ⨾ ts) = statement_tests Γ t ++ statements_tests (typed_from Γ (type_statement C Γ t)).env ts

    pub block_tests : Env s → Block s → List Test
    block_tests Γ (block o ts) =
        statements_tests Γ ts ++ (test (all_stay Γ.slots (typed_from Γ (type_statements C Γ ts)).env.slots) 17 o ∷ [])

-- main's own block: 17 does not fall at its end
abbrev pub main_tests : Context device → Env device → Block device → List Test
main_tests C Γ (block o ts) = statements_tests C Γ ts

-- Functions are judged in file order, each by those before it, then main with all region locations free.
abbrev pub bodies_tests : List Bool → List Signature → List Function → Block device → List Test
bodies_tests owned gs [] main = main_tests (main_context owned gs) (start owned) main
bodies_tests owned gs (g ∷ rest) main =
    block_tests (body_context gs g) (entry g) g.body
    ++ bodies_tests owned (signature_of g (typed_from (entry g) (type_block (body_context gs g) (entry g) g.body)) ∷ gs) rest main

abbrev pub typing_tests : List Bool → Program → List Test
typing_tests owned p = bodies_tests owned [] p.functions p.main

abbrev pub TypingOrder : Type 0
TypingOrder = (owned : List Bool) (p : Program) → refusal_of (type_program owned p) ≡ first_of (typing_tests owned p)

-- 21: the locations of two qubits have a route; of anything else nothing is asked
abbrev pub is_some : Option (List ℕ) → Bool
is_some none = false
is_some (some p) = true

module _ (R : Region) (fs : List Function) (outcome : Bool) (is_free : ℕ → Bool) (φ : Frame) where
  abbrev pub linked : Slot device Bool → Slot device Bool → Bool
  linked unbound w = true
  linked (qubit l) unbound = true
  linked (qubit l) (qubit k) = is_some (route R is_free l.no k.no)
  linked (qubit l) (bool b) = true
  linked (qubit l) (ref b) = true
  linked (bool b) w = true
  linked (ref b) w = true

  abbrev pub path_tests : {s : Side} → ℕ → Op s → List Test
  path_tests o (init q x l) = []
  path_tests o (free x) = []
  path_tests o (gate g x) = []
  path_tests o (measure y b x) = []
  path_tests o (merge y b x e z) = test (linked (slot φ x) (slot φ z)) 21 o ∷ []
  path_tests o (new_ref r y) = []
  path_tests o (get_ref y r) = []
  path_tests o (set_ref r y) = []
  path_tests o (constant y v) = []

  -- A step: the tests in typing's order, 21 last. A return never fails.
  abbrev pub step_tests : Item → List Test
  step_tests (run σ (op o a)) = op_tests (floor R fs outcome is_free σ) o φ a ++ path_tests o a
  step_tests (run σ (if o y b c)) = test (is_bool (slot φ y)) 11 o ∷ []
  step_tests (run σ (while o r b)) = test (is_ref (slot φ r)) 11 o ∷ []
  step_tests (run σ (call o f ls xs)) = call_tests (floor R fs outcome is_free σ) o φ (map (locate σ) ls) xs
  step_tests (return o ls xs) = []

abbrev pub StepOrder : Type 0
StepOrder = (R : Region) (fs : List Function) (outcome : Bool) (is_free : ℕ → Bool) (φ : Frame) (φs : List Frame) (i : Item) (rest : List Item)
    → refusal_of (move R fs outcome is_free φ φs i rest) ≡ first_of (step_tests R fs outcome is_free φ i)
