-- Typing: the environment after a statement or a block and its commands, or the first refusal.
use Rattle.std.specs.Prelude.{Bool, true, false, not, ◌&&◌, ◌||◌, cond, List, [], ◌∷◌, ◌++◌, map, ℕ, ◌+◌, ◌-◌, eqb, ltb, get_or, set, length, replicate}
use Rattle.std.specs.Bool.{beq}
use Rattle.answers.specs.Check.{Check, ok, ◌>>=◌, ◌>>◌, need}
use Rattle.rules.specs.Basics.{chosen, all, how_many, same_list, up_to, without, set_all}
use Rattle.rules.specs.Syntax.{Side, device, parameter, Place, param, at, Statement, op, if, while, call}
use Rattle.rules.specs.Syntax.{Statements, done, ◌⨾◌, Block, block, Function, Program}
use Rattle.rules.specs.Slots.{Slot, unbound, qubit, bool, ref, slot, need_bool, need_ref, is_unbound, holds_no_qubit, is_classical}
use Rattle.rules.specs.Slots.{Setting, Act, quiet, takes, gives, merges, perform, callable, entered, kept}
use Rattle.rules.specs.Commands.{Commands, ε, alloc, release, connect, either, repeat, ◌then◌, commands_at}

-- typing knows a slot's kind and no bool's value
abbrev pub Kind : Side → Type 0
Kind s = Slot s (Unit {0})

-- what each slot holds, and which places are free
pub record Env (s : Side) : Type 0 where
  pub slots : List (Kind s)
  pub free : List Bool

pub record Typed (s : Side) : Type 0 where
  pub env : Env s
  pub commands : Commands s

-- A function as its callers know it: k, m, the environment that its body ends with, and its commands
pub record Signature : Type 0 where
  pub k : ℕ
  pub m : ℕ
  pub ends : Env parameter
  pub commands : Commands parameter

-- What a body may use: which places are inside, and the functions before it, the latest first
pub record Context (s : Side) : Type 0 where
  pub inside : Place s → Bool
  pub functions : List Signature

-- Reading has seen to it that a callee is there.
abbrev pub signature : List Signature → ℕ → Signature
signature [] f = record { k = 0; m = 0; ends = record { slots = []; free = [] }; commands = ε }
signature (g ∷ gs) f = cond (eqb f (length gs)) g (signature gs f)

module _ {s : Side} where
  abbrev pub kinds : Context s → Env s → Setting s s (Unit {0})
  kinds C Γ = record { named = λ l. l; may_bind = is_unbound; inside = C.inside; is_free = λ l. get_or Γ.free l.no false; outcome = tt; known = λ v. tt }

  -- an init takes its place, a free gives it back, nothing else changes places
  abbrev pub after_act : Act s → List Bool → List Bool
  after_act quiet fs = fs
  after_act (takes q l) fs = set fs l.no false
  after_act (gives l) fs = set fs l.no true
  after_act (merges b l e k) fs = fs

  abbrev pub command : ℕ → Act s → Commands s
  command o quiet = ε
  command o (takes q l) = alloc q l ε
  command o (gives l) = release l ε
  command o (merges b l e k) = connect o b l e k ε

  -- after a call, an argument that the callee ended without is unbound and its location free
  abbrev pub after_call : Signature → List (Place s) → List ℕ → Env s → Env s
  after_call g ls xs Γ =
      let stay : List Bool = kept g.ends.slots param g.m in
      record { slots = set_all unbound (without stay xs) Γ.slots; free = set_all true (map (λ l. l.no) (without stay ls)) Γ.free }

  abbrev pub kind_number : Kind s → ℕ
  kind_number unbound = 0
  kind_number (bool b) = 1
  kind_number (ref b) = 2
  kind_number (qubit l) = 3 + l.no

  abbrev pub same_kind : Kind s → Kind s → Bool
  same_kind v w = eqb (kind_number v) (kind_number w)

  -- The end of a block, for each of the slots 0 to 31. A live qubit sits in the same slot at the same location as on entry (17) ..
  abbrev pub all_stay : List (Kind s) → List (Kind s) → Bool
  all_stay vs ws = all (λ x. holds_no_qubit (slot ws x) || same_kind (slot vs x) (slot ws x)) (up_to 0 32 λ x. x)

  -- .. and what was unbound or a qubit on entry and now holds a bool or a reference becomes unbound
  abbrev pub narrowed : List (Kind s) → List (Kind s) → List (Kind s)
  narrowed vs ws = up_to 0 32 λ x. chosen (is_classical (slot ws x) && not (is_classical (slot vs x))) unbound (slot ws x)

  -- what a block that was entered with Γ ends with
  abbrev pub closed : Env s → Typed s → Typed s
  closed Γ t = record { env = record { slots = narrowed Γ.slots t.env.slots; free = t.env.free }; commands = t.commands }

  -- the closing of the block whose length word is at o, entered with Γ
  abbrev pub close : ℕ → Env s → Typed s → Check (Typed s)
  close o Γ t = do
    need (all_stay Γ.slots t.env.slots) 17 o
    ok (closed Γ t)

  unfoldable pub same_env : Env s → Env s → Bool
  same_env Γ Δ = same_list same_kind Γ.slots Δ.slots && same_list beq Γ.free Δ.free

  -- Both blocks of an if end with equal environments (18). A loop body ends with the qubits it began with (19).
  abbrev mutual
    pub type_statement : Context s → Env s → Statement s → Check (Typed s)
    type_statement C Γ (op o a) = do
      d ← perform (kinds C Γ) o Γ.slots a
      ok (record { env = record { slots = d.slots; free = after_act d.act Γ.free }; commands = command o d.act })
    type_statement C Γ (if o y b c) = do
      need_bool (slot Γ.slots y) o
      d ← type_block C Γ b
      e ← type_block C Γ c
      need (same_env d.env e.env) 18 o
      ok (record { env = d.env; commands = either d.commands e.commands ε })
    type_statement C Γ (while o r b) = do
      need_ref (slot Γ.slots r) o
      d ← type_block C Γ b
      need (same_env d.env Γ) 19 o
      ok (record { env = Γ; commands = repeat d.commands ε })
    type_statement C Γ (call o f ls xs) = do
      let g : Signature = signature C.functions f
      callable (kinds C Γ) o Γ.slots ls xs
      ok (record { env = after_call g ls xs Γ; commands = commands_at (λ p. at ls p.no) g.commands })

    pub type_statements : Context s → Env s → Statements s → Check (Typed s)
    type_statements C Γ done = ok (record { env = Γ; commands = ε })
    type_statements C Γ (t ⨾ ts) = do
      d ← type_statement C Γ t
      e ← type_statements C d.env ts
      ok (record { env = e.env; commands = d.commands then e.commands })

    pub type_block : Context s → Env s → Block s → Check (Typed s)
    type_block C Γ (block o ts) = do
      d ← type_statements C Γ ts
      close o Γ d

-- Argument i is a qubit in slot i at parameter i; parameters m to k-1 are free on entry.
abbrev pub entry : Function → Env parameter
entry g = record { slots = entered (up_to 0 g.m param); free = replicate g.m false ++ replicate (g.k - g.m) true }

abbrev pub body_context : List Signature → Function → Context parameter
body_context gs g = record { inside = λ p. ltb p.no g.k; functions = gs }

abbrev pub signature_of : Function → Typed parameter → Signature
signature_of g d = record { k = g.k; m = g.m; ends = d.env; commands = d.commands }

-- functions in file order, each by those before it
abbrev pub type_functions : List Signature → List Function → Check (List Signature)
type_functions gs [] = ok gs
type_functions gs (g ∷ rest) = do
  d ← type_block (body_context gs g) (entry g) g.body
  type_functions (signature_of g d ∷ gs) rest

-- main, with all region locations free
abbrev pub main_context : List Bool → List Signature → Context device
main_context owned gs = record { inside = λ l. get_or owned l.no false; functions = gs }

abbrev pub start : List Bool → Env device
start owned = record { slots = replicate 32 unbound; free = owned }

-- Main's own block may end with live qubits: 17 is not asked of it. The rest of its closing is any block's.
abbrev pub type_main : Context device → Env device → Block device → Check (Typed device)
type_main C Γ (block o ts) = do
  d ← type_statements C Γ ts
  ok (closed Γ d)

abbrev pub type_program : List Bool → Program → Check (Typed device)
type_program owned p = do
  gs ← type_functions [] p.functions
  type_main (main_context owned gs) (start owned) p.main

-- the number left live: how many slots hold a qubit
abbrev pub live_in : Env device → ℕ
live_in Γ = how_many (λ v. not (holds_no_qubit v)) Γ.slots
