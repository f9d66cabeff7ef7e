-- A function's line: its words, its numbers, and then it must end; its head and an empty length word are put.
use Rattle.std.proofs.Common.{◌∙◌, sym, arith, rules}
use Rattle.standing.proofs.Meaning.{means_short}
use Rattle.stating.specs.Statements.{LineAs, ReadsLine}
use Rattle.unlisting.proofs.Said.{line_unread, line_taken, ends_heard}
use Rattle.unlisting.proofs.Tops.{room_none, number_none, words_heard, locations_heard, arguments_heard, function_means, function_laid, functions_few}
use Rattle.unlisting.proofs.lines.function_line.Goals as goal
use Rattle.unlisting.proofs.lines.function_line.Goals.{then-not-program_room-via-then-not-program_room}
use Rattle.unlisting.proofs.lines.function_line.Goals.{then-not-program_room-via-else-not-program_room+then-c-eq-MOST_FUNCTIONS}

pub program_room-requires : goal.program_room-requires
program_room-requires c = (means_short _ _ c.requires.1.1, search rules)

pub overflow_cast-c : goal.overflow_cast-c
overflow_cast-c c = omega (arith, functions_few _ _ c.requires.1.1 c.requires.3)

pub returns-then-not-program_room-clause-reads : goal.returns-then-not-program_room-clause-reads
unfolding ReadsLine LineAs
returns-then-not-program_room-clause-reads c = λ p D m b. elim c.then-not-program_room.branch [
  | then-not-program_room-via-then-not-program_room w ↦
      let room = sym c.program_room.ensures ∙ w.if-not-program_room.true in
      room_none _ c.requires.3 p m _ _ _ _ c.requires.2 room
  | then-not-program_room-via-else-not-program_room+then-c-eq-MOST_FUNCTIONS w ↦
      let room = sym c.program_room.ensures ∙ w.if-not-program_room.false in
      number_none _ c.requires.3 p m _ _ _ _ c.requires.2 room w.if-c-eq-MOST_FUNCTIONS.true
]

pub returns-in_err-at-clause-reads : goal.returns-in_err-at-clause-reads
unfolding ReadsLine
returns-in_err-at-clause-reads c = λ p D m b.
    let room = sym c.program_room.ensures ∙ c.if-not-program_room.false in
    line_unread _ D _ _ _ c.from_residual.ensures.1
    (words_heard _ c.requires.3 p m _ _ _ _ c.requires.2 _ room c.if-c-eq-MOST_FUNCTIONS.false c.in_err-at.ensures.words)

pub returns-in_err-k-clause-reads : goal.returns-in_err-k-clause-reads
unfolding ReadsLine
returns-in_err-k-clause-reads c = λ p D m b.
    let room = sym c.program_room.ensures ∙ c.if-not-program_room.false in
    line_unread _ D _ _ _ c.from_residual-in_err-k.ensures.1
    (words_heard _ c.requires.3 p m _ _ _ _ c.requires.2 _ room c.if-c-eq-MOST_FUNCTIONS.false c.in_ok-at.ensures.words
    ∙ locations_heard _ c.requires.3 p m _ _ _ _ _ c.in_err-k.ensures.numbers)

pub returns-in_err-m-clause-reads : goal.returns-in_err-m-clause-reads
unfolding ReadsLine
returns-in_err-m-clause-reads c = λ p D m b.
    let room = sym c.program_room.ensures ∙ c.if-not-program_room.false in
    line_unread _ D _ _ _ c.from_residual-in_err-m.ensures.1
    (words_heard _ c.requires.3 p m _ _ _ _ c.requires.2 _ room c.if-c-eq-MOST_FUNCTIONS.false c.in_ok-at.ensures.words
    ∙ locations_heard _ c.requires.3 p m _ _ _ _ _ c.in_ok-k.ensures.numbers ∙ arguments_heard _ c.requires.3 p m _ _ _ _ _ _ c.in_err-m.ensures.arguments)

pub returns-in_err-ends-clause-reads : goal.returns-in_err-ends-clause-reads
unfolding ReadsLine
returns-in_err-ends-clause-reads c = λ p D m b.
    let room = sym c.program_room.ensures ∙ c.if-not-program_room.false in
    line_unread _ D _ _ _ c.from_residual-in_err-ends.ensures.1
    (words_heard _ c.requires.3 p m _ _ _ _ c.requires.2 _ room c.if-c-eq-MOST_FUNCTIONS.false c.in_ok-at.ensures.words
    ∙ locations_heard _ c.requires.3 p m _ _ _ _ _ c.in_ok-k.ensures.numbers ∙ arguments_heard _ c.requires.3 p m _ _ _ _ _ _ c.in_ok-m.ensures.arguments
    ∙ ends_heard _ _ _ _ _ _ c.in_err-ends.ensures c.in_ok-m.ensures.onto.2)

pub function-requires : goal.function-requires
function-requires c =
    let m = c.requires.1.1 in
    (omega (arith, m.fits), omega (arith, functions_few _ _ m c.requires.3, c.if-c-eq-MOST_FUNCTIONS.false))

pub returns-clause-reads : goal.returns-clause-reads
unfolding ReadsLine
returns-clause-reads c = λ p D m b.
    let room = sym c.program_room.ensures ∙ c.if-not-program_room.false in
    let few = c.if-c-eq-MOST_FUNCTIONS.false in
    line_taken _ D _ _ _
    (words_heard _ c.requires.3 p m _ _ _ _ c.requires.2 _ room few c.in_ok-at.ensures.words
    ∙ locations_heard _ c.requires.3 p m _ _ _ _ _ c.in_ok-k.ensures.numbers ∙ arguments_heard _ c.requires.3 p m _ _ _ _ _ _ c.in_ok-m.ensures.arguments
    ∙ ends_heard _ _ _ _ _ _ c.in_ok-ends.ensures c.in_ok-m.ensures.onto.2)
    (rw c.function.ensures (function_means _ c.requires.3 p m c.requires.2 D _ b _ _ room few c.in_ok-k.ensures.onto.0 c.in_ok-m.ensures.onto.0))
    (function_laid _ c.requires.3 p m c.requires.2 D _ b _ _ _ c.put_bytes.ensures)
