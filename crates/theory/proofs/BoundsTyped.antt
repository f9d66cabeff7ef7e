-- What typing and the walk stay within. Typing refuses at the offset of a statement or of a block of the tree that was read, and its commands have only
-- such offsets; the walk refuses at the offset of a command.
use mathlib.Core.Bool.{Bool, true, false, not, cond}
use mathlib.Core.List.{List, [], ◌∷◌}
use mathlib.Core.Option.{Option, none, some}
use mathlib.Core.Path.{◌≡◌, refl}
use native.Mathlib.Omega.{arith}
use Prim.Native.Nat.{ℕ, ◌≤◌}
use lib.Dec.{eqb, leb}
use lib.ListN.{get_or, set, length}
use Rattle.answers.specs.Check.{Check, refusal}
use Rattle.rules.specs.Region.{Region}
use Rattle.rules.specs.Path.{route}
use Rattle.rules.specs.Syntax.{Side, device, Place, at}
use Rattle.rules.specs.Syntax.{Statement, op, if, while, call, Statements, done, ◌⨾◌, Block, block, Function, Program}
use Rattle.rules.specs.Slots.{slot, holds_no_qubit, Act, quiet, takes, gives, merges}
use Rattle.rules.specs.Commands.{Commands, ε, alloc, release, connect, either, repeat, ◌then◌, commands_at, size_of, need_route, walk}
use Rattle.rules.specs.Typing.{Env, Typed, Signature, signature, Context, kinds, all_stay, narrowed, same_env, command}
use Rattle.rules.specs.Typing.{type_statement, type_statements, type_block, entry, body_context, signature_of, type_functions, main_context, start}
use Rattle.rules.specs.Typing.{type_main, type_program, live_in}
use Rattle.rules.specs.Promises.{judged}
use Rattle.theory.specs.Bounds.{Within, value, refusal as refuses}
use Rattle.rules.proofs.Tests.{at_most}
use Rattle.theory.proofs.Base.{how_many_few}
use Rattle.theory.proofs.Places.{length_narrowed}
use Rattle.theory.proofs.BoundsLaws.{bind_within, then_within, Any, given, need_within}
use Rattle.theory.proofs.Reasons.{reason_above, reason_few, Reasoned, gives_value, reason, bool_row, ref_row, perform_row, callable_row}
use Rattle.theory.proofs.BoundsRead.{StatementPlaced, StatementsPlaced, BlockPlaced, FunctionsPlaced, ProgramPlaced}

-- what stands at an offset of the file is refused there, for a reason
asked : {A : Type 0} {o : ℕ} {m : Check A} → o ≤ 4096 → Reasoned o m → Within Any m
asked l gives_value = value tt
asked {o = o} l (reason {n = n} h) =
    let above = reason_above h in
    let few = reason_few h in
    refuses {r = refusal n o} (record { from_1 = omega arith; to_26 = omega arith; in_file = l; named = omega arith })

abbrev CommandsPlaced : {s : Side} → Commands s → Type 0
CommandsPlaced ε = Unit {0}
CommandsPlaced (alloc q l c) = CommandsPlaced c
CommandsPlaced (release l c) = CommandsPlaced c
CommandsPlaced (connect o b l e k c) = (o ≤ 4096) × CommandsPlaced c
CommandsPlaced (either a b c) = CommandsPlaced a × CommandsPlaced b × CommandsPlaced c
CommandsPlaced (repeat a c) = CommandsPlaced a × CommandsPlaced c

then_placed : {s : Side} (c d : Commands s) → CommandsPlaced c → CommandsPlaced d → CommandsPlaced (c then d)
then_placed ε d h k = k
then_placed (alloc q l c) d h k = then_placed c d h k
then_placed (release l c) d h k = then_placed c d h k
then_placed (connect o b l e j c) d h k = (h.0, then_placed c d h.1 k)
then_placed (either a b c) d h k = (h.0, h.1, then_placed c d h.2 k)
then_placed (repeat a c) d h k = (h.0, then_placed c d h.1 k)

call_placed : {s t : Side} (σ : Place s → Place t) (c : Commands s) → CommandsPlaced c → CommandsPlaced (commands_at σ c)
call_placed σ ε h = tt
call_placed σ (alloc q l c) h = call_placed σ c h
call_placed σ (release l c) h = call_placed σ c h
call_placed σ (connect o b l e k c) h = (h.0, call_placed σ c h.1)
call_placed σ (either a b c) h = (call_placed σ a h.0, call_placed σ b h.1, call_placed σ c h.2)
call_placed σ (repeat a c) h = (call_placed σ a h.0, call_placed σ c h.1)

command_placed : {s : Side} (o : ℕ) → o ≤ 4096 → (a : Act s) → CommandsPlaced (command o a)
command_placed o l quiet = tt
command_placed o l (takes q p) = tt
command_placed o l (gives p) = tt
command_placed o l (merges b p e q) = (l, tt)

abbrev SignaturesPlaced : List Signature → Type 0
SignaturesPlaced [] = Unit {0}
SignaturesPlaced (g ∷ gs) = CommandsPlaced g.commands × SignaturesPlaced gs

signature_placed : (gs : List Signature) (f : ℕ) → SignaturesPlaced gs → CommandsPlaced (signature gs f).commands
signature_placed [] f h = tt
signature_placed (g ∷ gs) f h = go (eqb f (length gs)) (signature_placed gs f h.1)
  where
    go : (b : Bool) → CommandsPlaced (signature gs f).commands → CommandsPlaced (cond b g (signature gs f)).commands
    go true k = h.0
    go false k = k

abbrev TypedPlaced : {s : Side} → Typed s → Type 0
TypedPlaced d = CommandsPlaced d.commands

module _ {s : Side} (C : Context s) (callees : SignaturesPlaced C.functions) where
  mutual
    statement_typed : (Γ : Env s) (t : Statement s) → StatementPlaced t → Within TypedPlaced (type_statement C Γ t)
    statement_typed Γ (op o a) h = bind_within (asked h (perform_row (kinds C Γ) o Γ.slots a)) λ d k. value (command_placed o h d.act)
    statement_typed Γ (if o y b c) h =
        then_within (asked h.0 (bool_row (slot Γ.slots y) o)) λ u k.
        bind_within (block_typed Γ b h.1) λ d i.
        bind_within (block_typed Γ c h.2) λ e j.
        then_within (need_within (same_env d.env e.env) 18 o refl h.0) λ v r. value (i, j, tt)
    statement_typed Γ (while o r b) h =
        then_within (asked h.0 (ref_row (slot Γ.slots r) o)) λ u k.
        bind_within (block_typed Γ b h.1) λ d i.
        then_within (need_within (same_env d.env Γ) 19 o refl h.0) λ v r. value (i, tt)
    statement_typed Γ (call o f ls xs) h =
        then_within (asked h (callable_row (kinds C Γ) o Γ.slots ls xs)) λ u k.
        value (call_placed (λ p. at ls p.no) (signature C.functions f).commands (signature_placed C.functions f callees))

    statements_typed : (Γ : Env s) (ts : Statements s) → StatementsPlaced ts → Within TypedPlaced (type_statements C Γ ts)
    statements_typed Γ done h = value tt
    statements_typed Γ (t ⨾ ts) h =
        bind_within (statement_typed Γ t h.0) λ d i.
        bind_within (statements_typed d.env ts h.1) λ e j. value (then_placed d.commands e.commands i j)

    block_typed : (Γ : Env s) (b : Block s) → BlockPlaced b → Within TypedPlaced (type_block C Γ b)
    block_typed Γ (block o ts) h =
        bind_within (statements_typed Γ ts h.1) λ d i.
        then_within (need_within (all_stay Γ.slots d.env.slots) 17 o refl h.0) λ u k. value i

functions_typed : (gs : List Signature) (fs : List Function) → SignaturesPlaced gs → FunctionsPlaced fs → Within SignaturesPlaced (type_functions gs fs)
functions_typed gs [] h k = value h
functions_typed gs (g ∷ rest) h k =
    bind_within (block_typed (body_context gs g) h (entry g) g.body k.0) λ d i.
    functions_typed (signature_of g d ∷ gs) rest (i, h) k.1

-- main ends with 32 slots, so at most 32 of them hold a qubit
abbrev MainPlaced : Typed device → Type 0
MainPlaced d = CommandsPlaced d.commands × (live_in d.env ≤ 32)

main_typed : (C : Context device) (callees : SignaturesPlaced C.functions) (Γ : Env device) (b : Block device) → BlockPlaced b
    → Within MainPlaced (type_main C Γ b)
main_typed C callees Γ (block o ts) h =
    bind_within (statements_typed C callees Γ ts h.1) λ d i.
    let few = how_many_few (λ v. not (holds_no_qubit v)) (narrowed Γ.slots d.env.slots) in
    value (i, omega (arith, few, length_narrowed Γ.slots d.env.slots))

program_typed : (owned : List Bool) (p : Program) → ProgramPlaced p → Within MainPlaced (type_program owned p)
program_typed owned p h =
    bind_within (functions_typed [] p.functions tt h.0) λ gs k.
    main_typed (main_context owned gs) k (start owned) p.main h.1

-- 21 at a merge's offset

pub route_given : (r : Option (List ℕ)) (o : ℕ) → o ≤ 4096 → Within (λ p. r ≡ some p) (need_route r o)
route_given none o l = refuses (given 21 o refl l)
route_given (some p) o l = value refl

walk_within : (R : Region) (L : List Bool) (c : Commands device) → CommandsPlaced c → Within Any (walk R L c)
walk_within R L ε h = value tt
walk_within R L (alloc q l c) h = walk_within R (set L l.no false) c h
walk_within R L (release l c) h = walk_within R (set L l.no true) c h
walk_within R L (connect o b l e k c) h =
    then_within (route_given (route R (λ i. get_or L i false) l.no k.no) o h.0) λ p r. walk_within R L c h.1
walk_within R L (either a b c) h =
    bind_within (walk_within R L a h.0) λ M i.
    then_within (walk_within R L b h.1) λ N j. walk_within R M c h.2
walk_within R L (repeat a c) h = then_within (walk_within R L a h.0) λ M i. walk_within R L c h.1

pub judged_within : (R : Region) (p : Program) → ProgramPlaced p → Within (λ a. (a.count ≤ 65535) × (a.live ≤ 32)) (judged R p)
judged_within R p h =
    bind_within (program_typed R.owned p h) λ t k.
    then_within (need_within (leb (size_of t.commands) 65535) 20 0 refl (omega arith)) λ u l.
    then_within (walk_within R R.owned t.commands k.0) λ M j. value (at_most (size_of t.commands) 65535 l, k.1)
