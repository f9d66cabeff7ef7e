-- The loop over a block's statements: at each turn there is a statement, which is of its kind; what the walk does with it, it does with every statement
-- that may be there. The inner walks are of the blocks that the statement has, or of its callee's body.
use native.Mathlib.Omega.{arith}
use mathlib.Core.Bool.{false}
use mathlib.Core.Path.{refl, sym, ◌∙◌}
use lib.ListN.{length-set}
use Rattle.program.proofs.In.{statement_view}
use Rattle.walking.specs.Names.{names_of}
use Rattle.walking.proofs.Bytes.{byte_as, init_byte, silent}
use Rattle.walking.proofs.NameLaws.{none_placed}
use Rattle.walking.proofs.Views.{view_init, view_free, view_merge, view_call}
use Rattle.walking.proofs.Steps.{block_refused, block_ended, turn, block_bounds, statement_bounds, statement_kind, place_room}
use Rattle.walking.proofs.Arms.{on_init, on_free, on_merge, on_quiet, on_inner, on_refused}
use Rattle.walking.proofs.Inner.{passed, Entered, then_block, else_block, loop_block, if_walked, if_refused, while_walked, callee_known, callee_block}
use Rattle.walking.proofs.Inner.{call_walked}
use Rattle.walking.proofs.Ends.{if_ends}
use Rattle.walking.proofs.QuietRuns.{loop_starts, further, goes_on}
use Rattle.walking.proofs.walk.Walk.+walk_block_walk_call_walk_if_walk_while.Goals as goal

pub walk_block-block_end-stop-requires : goal.walk_block-block_end-stop-requires
walk_block-block_end-stop-requires t c =
    let k = block_bounds c.requires in (omega (arith, k.0), k.1)

pub walk_block-skip-p-requires : goal.walk_block-skip-p-requires
walk_block-skip-p-requires t c =
    let k = block_bounds c.requires in
    let e = c.block_end-stop.ensures in
    (omega (arith, e), omega (arith, e, k.0, k.1))

pub walk_block-loop-p-init : goal.walk_block-loop-p-init
walk_block-loop-p-init t c =
    let e = c.block_end-stop.ensures in
    let k = c.skip-p.ensures in
    loop_starts c.requires e k

pub walk_block-bounds-self-p : goal.walk_block-bounds-self-p
walk_block-bounds-self-p t c =
    let T = turn c.requires c.block_end-stop.ensures c.loop-p.invariant c.loop-p-test.true in
    omega (arith, T.inside, T.within)

pub walk_block-known-kind-requires : goal.walk_block-known-kind-requires
walk_block-known-kind-requires t c =
    let T = turn c.requires c.block_end-stop.ensures c.loop-p.invariant c.loop-p-test.true in
    statement_kind T.here

pub walk_block-bounds-self-p-in-Init : goal.walk_block-bounds-self-p-in-Init
walk_block-bounds-self-p-in-Init t c =
    let T = turn c.requires c.block_end-stop.ensures c.loop-p.invariant c.loop-p-test.true in
    let v = view_init (statement_view T.here.stands) (init_byte c.known-kind.ensures c.in-Init.is) in
    omega (arith, v.fits)

pub walk_block-location_of-location-requires : goal.walk_block-location_of-location-requires
walk_block-location_of-location-requires t c =
    let T = turn c.requires c.block_end-stop.ensures c.loop-p.invariant c.loop-p-test.true in
    let v = view_init (statement_view T.here.stands) (init_byte c.known-kind.ensures c.in-Init.is) in
    place_room T.here v.place

pub walk_block-bounds-self-p-in-Init-2 : goal.walk_block-bounds-self-p-in-Init-2
walk_block-bounds-self-p-in-Init-2 t c =
    let T = turn c.requires c.block_end-stop.ensures c.loop-p.invariant c.loop-p-test.true in
    let v = view_init (statement_view T.here.stands) (init_byte c.known-kind.ensures c.in-Init.is) in
    omega (arith, v.fits)

pub walk_block-bounds-frame-self : goal.walk_block-bounds-frame-self
walk_block-bounds-frame-self t c =
    let T = turn c.requires c.block_end-stop.ensures c.loop-p.invariant c.loop-p-test.true in
    let v = view_init (statement_view T.here.stands) (init_byte c.known-kind.ensures c.in-Init.is) in
    omega (arith, v.slot)

pub walk_block-bounds-self-p-in-Free : goal.walk_block-bounds-self-p-in-Free
walk_block-bounds-self-p-in-Free t c =
    let T = turn c.requires c.block_end-stop.ensures c.loop-p.invariant c.loop-p-test.true in
    let v = view_free (statement_view T.here.stands) (byte_as c.known-kind.ensures c.in-Free.is) in
    omega (arith, v.fits)

pub walk_block-bounds-frame-self-in-Free : goal.walk_block-bounds-frame-self-in-Free
walk_block-bounds-frame-self-in-Free t c =
    let T = turn c.requires c.block_end-stop.ensures c.loop-p.invariant c.loop-p-test.true in
    let v = view_free (statement_view T.here.stands) (byte_as c.known-kind.ensures c.in-Free.is) in
    omega (arith, v.slot)

pub walk_block-bounds-self-p-in-Merge : goal.walk_block-bounds-self-p-in-Merge
walk_block-bounds-self-p-in-Merge t c =
    let T = turn c.requires c.block_end-stop.ensures c.loop-p.invariant c.loop-p-test.true in
    let v = view_merge (statement_view T.here.stands) (byte_as c.known-kind.ensures c.in-Merge.is) in
    omega (arith, v.fits)

pub walk_block-bounds-frame-self-in-Merge : goal.walk_block-bounds-frame-self-in-Merge
walk_block-bounds-frame-self-in-Merge t c =
    let T = turn c.requires c.block_end-stop.ensures c.loop-p.invariant c.loop-p-test.true in
    let v = view_merge (statement_view T.here.stands) (byte_as c.known-kind.ensures c.in-Merge.is) in
    omega (arith, v.first)

pub walk_block-bounds-self-p-in-Merge-2 : goal.walk_block-bounds-self-p-in-Merge-2
walk_block-bounds-self-p-in-Merge-2 t c =
    let T = turn c.requires c.block_end-stop.ensures c.loop-p.invariant c.loop-p-test.true in
    let v = view_merge (statement_view T.here.stands) (byte_as c.known-kind.ensures c.in-Merge.is) in
    omega (arith, v.fits)

pub walk_block-bounds-frame-self-in-Merge-2 : goal.walk_block-bounds-frame-self-in-Merge-2
walk_block-bounds-frame-self-in-Merge-2 t c =
    let T = turn c.requires c.block_end-stop.ensures c.loop-p.invariant c.loop-p-test.true in
    let v = view_merge (statement_view T.here.stands) (byte_as c.known-kind.ensures c.in-Merge.is) in
    omega (arith, v.second)

pub walk_block-returns-then-no_path : goal.walk_block-returns-then-no_path
walk_block-returns-then-no_path t c =
    let T = turn c.requires c.block_end-stop.ensures c.loop-p.invariant c.loop-p-test.true in
    let none = on_merge (byte_as c.known-kind.ensures c.in-Merge.is) (λ R o. sym (c.no_path.ensures R o) ∙ c.if-no_path.true) in
    block_refused c.loop-p.invariant.rest c.block_end-stop.ensures _ T.inside none

pub walk_block-walk_if-requires : goal.walk_block-walk_if-requires
walk_block-walk_if-requires t c =
    let T = turn c.requires c.block_end-stop.ensures c.loop-p.invariant c.loop-p-test.true in
    (omega (arith, T.inside, T.within, c.loop-p.invariant.starts, c.requires), (T.here, byte_as c.known-kind.ensures c.in-If.is))

pub walk_block-returns-in_err-walk_if-in-If : goal.walk_block-returns-in_err-walk_if-in-If
walk_block-returns-in_err-walk_if-in-If t c =
    let T = turn c.requires c.block_end-stop.ensures c.loop-p.invariant c.loop-p-test.true in
    rw (passed _ c.from_residual.ensures.1)
    (block_refused c.loop-p.invariant.rest c.block_end-stop.ensures _ T.inside (on_refused c.in_err-walk_if-in-If.ensures))

pub walk_block-walk_while-requires : goal.walk_block-walk_while-requires
walk_block-walk_while-requires t c =
    let T = turn c.requires c.block_end-stop.ensures c.loop-p.invariant c.loop-p-test.true in
    (omega (arith, T.inside, T.within, c.loop-p.invariant.starts, c.requires), (T.here, byte_as c.known-kind.ensures c.in-While.is))

pub walk_block-returns-in_err-walk_while-in-While : goal.walk_block-returns-in_err-walk_while-in-While
walk_block-returns-in_err-walk_while-in-While t c =
    let T = turn c.requires c.block_end-stop.ensures c.loop-p.invariant c.loop-p-test.true in
    rw (passed _ c.from_residual-in_err-walk_while-in-While.ensures.1)
    (block_refused c.loop-p.invariant.rest c.block_end-stop.ensures _ T.inside (on_refused c.in_err-walk_while-in-While.ensures))

pub walk_block-walk_call-requires : goal.walk_block-walk_call-requires
walk_block-walk_call-requires t c =
    let T = turn c.requires c.block_end-stop.ensures c.loop-p.invariant c.loop-p-test.true in
    (omega (arith, T.inside, T.within, c.loop-p.invariant.starts, c.requires), (T.here, byte_as c.known-kind.ensures c.in-Call.is))

pub walk_block-returns-in_err-walk_call-in-Call : goal.walk_block-returns-in_err-walk_call-in-Call
walk_block-returns-in_err-walk_call-in-Call t c =
    let T = turn c.requires c.block_end-stop.ensures c.loop-p.invariant c.loop-p-test.true in
    let inner = c.in_err-walk_call-in-Call.ensures.call c.loop-p.frame in
    rw (passed _ c.from_residual-in_err-walk_call-in-Call.ensures.1)
    (block_refused c.loop-p.invariant.rest c.block_end-stop.ensures _ T.inside (on_refused inner))

pub walk_block-statement_end-requires : goal.walk_block-statement_end-requires
walk_block-statement_end-requires t c =
    let T = turn c.requires c.block_end-stop.ensures c.loop-p.invariant c.loop-p-test.true in
    (T.size, (_, _, _, _, _, T.here.stands))

pub walk_block-skip-next-requires : goal.walk_block-skip-next-requires
walk_block-skip-next-requires t c =
    let T = turn c.requires c.block_end-stop.ensures c.loop-p.invariant c.loop-p-test.true in
    let e = c.statement_end.ensures _ _ _ _ _ T.here.stands in
    (omega (arith, e, T.fits), omega (arith, T.within, T.size))

-- However the statement at p is walked, it lets the walk on, behind it.
pub walk_block-loop-p-smaller-in-Init : goal.walk_block-loop-p-smaller-in-Init
walk_block-loop-p-smaller-in-Init t c =
    let T = turn c.requires c.block_end-stop.ensures c.loop-p.invariant c.loop-p-test.true in
    further T (λ t. c.statement_end.ensures _ _ _ _ _ t.stands) c.skip-next.ensures

pub walk_block-loop-p-preserved-in-Init : goal.walk_block-loop-p-preserved-in-Init
walk_block-loop-p-preserved-in-Init t c =
    let T = turn c.requires c.block_end-stop.ensures c.loop-p.invariant c.loop-p-test.true in
    let ends = c.statement_end.ensures in
    goes_on c.loop-p.invariant T (λ t. ends _ _ _ _ _ t.stands) c.skip-next.ensures
    (on_init _ (init_byte c.known-kind.ensures c.in-Init.is)
    (sym (length-set c.loop-p.frame _ _) ∙ c.erase.array_long) c.location_of-location.ensures c.erase.ensures)

pub walk_block-loop-p-smaller-in-Free : goal.walk_block-loop-p-smaller-in-Free
walk_block-loop-p-smaller-in-Free t c =
    let T = turn c.requires c.block_end-stop.ensures c.loop-p.invariant c.loop-p-test.true in
    further T (λ t. c.statement_end.ensures _ _ _ _ _ t.stands) c.skip-next.ensures

pub walk_block-loop-p-preserved-in-Free : goal.walk_block-loop-p-preserved-in-Free
walk_block-loop-p-preserved-in-Free t c =
    let T = turn c.requires c.block_end-stop.ensures c.loop-p.invariant c.loop-p-test.true in
    let ends = c.statement_end.ensures in
    goes_on c.loop-p.invariant T (λ t. ends _ _ _ _ _ t.stands) c.skip-next.ensures
    (on_free _ (byte_as c.known-kind.ensures c.in-Free.is) c.insert.ensures)

pub walk_block-loop-p-smaller-else-no_path : goal.walk_block-loop-p-smaller-else-no_path
walk_block-loop-p-smaller-else-no_path t c =
    let T = turn c.requires c.block_end-stop.ensures c.loop-p.invariant c.loop-p-test.true in
    further T (λ t. c.statement_end.ensures _ _ _ _ _ t.stands) c.skip-next.ensures

pub walk_block-loop-p-preserved-else-no_path : goal.walk_block-loop-p-preserved-else-no_path
walk_block-loop-p-preserved-else-no_path t c =
    let T = turn c.requires c.block_end-stop.ensures c.loop-p.invariant c.loop-p-test.true in
    let ends = c.statement_end.ensures in
    goes_on c.loop-p.invariant T (λ t. ends _ _ _ _ _ t.stands) c.skip-next.ensures
    (on_merge (byte_as c.known-kind.ensures c.in-Merge.is) (λ R o. sym (c.no_path.ensures R o) ∙ c.if-no_path.false))

pub walk_block-loop-p-smaller-in_ok-walk_if-in-If : goal.walk_block-loop-p-smaller-in_ok-walk_if-in-If
walk_block-loop-p-smaller-in_ok-walk_if-in-If t c =
    let T = turn c.requires c.block_end-stop.ensures c.loop-p.invariant c.loop-p-test.true in
    further T (λ t. c.statement_end.ensures _ _ _ _ _ t.stands) c.skip-next.ensures

pub walk_block-loop-p-preserved-in_ok-walk_if-in-If : goal.walk_block-loop-p-preserved-in_ok-walk_if-in-If
walk_block-loop-p-preserved-in_ok-walk_if-in-If t c =
    let T = turn c.requires c.block_end-stop.ensures c.loop-p.invariant c.loop-p-test.true in
    let ends = c.statement_end.ensures in
    goes_on c.loop-p.invariant T (λ t. ends _ _ _ _ _ t.stands) c.skip-next.ensures
    (on_inner c.in_ok-walk_if-in-If.ensures)

pub walk_block-loop-p-smaller-in_ok-walk_while-in-While : goal.walk_block-loop-p-smaller-in_ok-walk_while-in-While
walk_block-loop-p-smaller-in_ok-walk_while-in-While t c =
    let T = turn c.requires c.block_end-stop.ensures c.loop-p.invariant c.loop-p-test.true in
    further T (λ t. c.statement_end.ensures _ _ _ _ _ t.stands) c.skip-next.ensures

pub walk_block-loop-p-preserved-in_ok-walk_while-in-While : goal.walk_block-loop-p-preserved-in_ok-walk_while-in-While
walk_block-loop-p-preserved-in_ok-walk_while-in-While t c =
    let T = turn c.requires c.block_end-stop.ensures c.loop-p.invariant c.loop-p-test.true in
    let ends = c.statement_end.ensures in
    goes_on c.loop-p.invariant T (λ t. ends _ _ _ _ _ t.stands) c.skip-next.ensures
    (on_inner c.in_ok-walk_while-in-While.ensures)

pub walk_block-loop-p-smaller-in_ok-walk_call-in-Call : goal.walk_block-loop-p-smaller-in_ok-walk_call-in-Call
walk_block-loop-p-smaller-in_ok-walk_call-in-Call t c =
    let T = turn c.requires c.block_end-stop.ensures c.loop-p.invariant c.loop-p-test.true in
    further T (λ t. c.statement_end.ensures _ _ _ _ _ t.stands) c.skip-next.ensures

pub walk_block-loop-p-preserved-in_ok-walk_call-in-Call : goal.walk_block-loop-p-preserved-in_ok-walk_call-in-Call
walk_block-loop-p-preserved-in_ok-walk_call-in-Call t c =
    let T = turn c.requires c.block_end-stop.ensures c.loop-p.invariant c.loop-p-test.true in
    let ends = c.statement_end.ensures in
    goes_on c.loop-p.invariant T (λ t. ends _ _ _ _ _ t.stands) c.skip-next.ensures
    (on_inner (c.in_ok-walk_call-in-Call.ensures.call c.loop-p.frame))

pub walk_block-loop-p-smaller : goal.walk_block-loop-p-smaller
walk_block-loop-p-smaller t c =
    let T = turn c.requires c.block_end-stop.ensures c.loop-p.invariant c.loop-p-test.true in
    further T (λ t. c.statement_end.ensures _ _ _ _ _ t.stands) c.skip-next.ensures

pub walk_block-loop-p-preserved : goal.walk_block-loop-p-preserved
walk_block-loop-p-preserved t c =
    let T = turn c.requires c.block_end-stop.ensures c.loop-p.invariant c.loop-p-test.true in
    let ends = c.statement_end.ensures in
    goes_on c.loop-p.invariant T (λ t. ends _ _ _ _ _ t.stands) c.skip-next.ensures
    (on_quiet (silent c.known-kind.ensures c.in-Gate.is))

pub walk_block-returns : goal.walk_block-returns
walk_block-returns t c =
    block_ended c.loop-p.invariant.rest c.block_end-stop.ensures c.loop-p-test.false

pub walk_call-bounds-self-at : goal.walk_call-bounds-self-at
walk_call-bounds-self-at t c =
    let v = view_call (statement_view c.requires.0.stands) c.requires.1 in omega (arith, v.fits)

pub walk_call-bounds-self-at-2 : goal.walk_call-bounds-self-at-2
walk_call-bounds-self-at-2 t c =
    let v = view_call (statement_view c.requires.0.stands) c.requires.1 in omega (arith, v.fits)

pub walk_call-enter-requires : goal.walk_call-enter-requires
walk_call-enter-requires t c =
    let v = view_call (statement_view c.requires.0.stands) c.requires.1 in
    let k = callee_known c.requires.1 c.requires.0 in
    (k.3, omega (arith, v.fits), λ i l h. place_room c.requires.0 (v.places i l) h)

pub walk_call-walk_block-requires : goal.walk_call-walk_block-requires
walk_call-walk_block-requires t c =
    let k = callee_known c.requires.1 c.requires.0 in
    let z = statement_bounds c.requires.0 in
    (omega (arith, c.requires.0, k.0, z.1), callee_block c.requires.1 c.requires.0 _ _ c.head.ensures)

pub walk_call-returns : goal.walk_call-returns
walk_call-returns t c =
    let e = c.enter.ensures in
    let entered : Entered c.args.self.now (names_of c.args.body.now) c.args.at (record { main = false; at = c.enter.new.inner }) c.enter.new.frame =
    record { in_function = refl; named_so = e.named; passed = e.passed; rest = λ i l. e.rest i l ∙ none_placed 32 i } in
    call_walked c.requires.1 entered c.head.ensures c.walk_block.ensures

pub walk_if-walk_block-requires : goal.walk_if-walk_block-requires
walk_if-walk_block-requires t c =
    let k = statement_bounds c.requires.0 in (omega (arith, c.requires), then_block c.requires.1 c.requires.0)

pub walk_if-returns-in_err-walk_block : goal.walk_if-returns-in_err-walk_block
walk_if-returns-in_err-walk_block t c =
    rw (passed _ c.from_residual.ensures.1) (if_refused _ c.requires.1 c.in_err-walk_block.ensures)

pub walk_if-block_end-requires : goal.walk_if-block_end-requires
walk_if-block_end-requires t c =
    let k = statement_bounds c.requires.0 in
    let e = if_ends _ c.requires.0.stands c.requires.1 refl in
    (omega (arith, e.0, e.1), k.1)

pub walk_if-walk_block-requires-2 : goal.walk_if-walk_block-requires-2
walk_if-walk_block-requires-2 t c =
    let k = statement_bounds c.requires.0 in
    let e = if_ends _ c.requires.0.stands c.requires.1 c.block_end.ensures in
    (omega (arith, c.requires, e.0, e.1), else_block c.requires.1 c.block_end.ensures c.requires.0)

pub walk_if-returns : goal.walk_if-returns
walk_if-returns t c =
    if_walked c.requires.1 c.block_end.ensures c.in_ok-walk_block.ensures c.walk_block-2.ensures

pub walk_while-walk_block-requires : goal.walk_while-walk_block-requires
walk_while-walk_block-requires t c =
    let k = statement_bounds c.requires.0 in (omega (arith, c.requires), loop_block c.requires.1 c.requires.0)

pub walk_while-returns : goal.walk_while-returns
walk_while-returns t c =
    while_walked c.requires.1 c.walk_block.ensures
