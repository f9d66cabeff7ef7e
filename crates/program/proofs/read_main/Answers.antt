-- Main is refused where its block is or where it does not end the file; else the program is read.
use mathlib.Core.List.{List}
use mathlib.Core.Path.{◌≡◌, refl, sym, ap}
use Rattle.answers.specs.Check.{refused}
use Rattle.answers.proofs.Passed.{passed_on}
use Rattle.rules.specs.Syntax.{device, Function}
use Rattle.program.specs.declared.functions.Scope as code
use Rattle.program.specs.In.{main_scope}
use Rattle.program.specs.Reader.{Heads, Behind}
use Rattle.program.proofs.FileLaws.{read_refused, main_refused, main_more, main_made}
use Rattle.program.proofs.read_main.Goals as goal

-- main's block is read in main's scope
abbrev in_main : {fs : List Function} {c : code.Scope} → Heads fs c.functions.now → c.places ≡ 256 → Behind (main_scope fs) c
in_main h e = record { places_are = sym e; heads = h }

pub returns-then-end-s : goal.returns-then-end-s
returns-then-end-s c fs h =
    read_refused _ _ _ (main_more _ _ fs _ (sym (c.in_ok-end.ensures.position device _ (in_main h refl))) c.if-end-s.true) (ap refused c.at.ensures)

pub returns : goal.returns
returns c fs h = main_made _ _ fs _ h _ (sym (c.in_ok-end.ensures.position device _ (in_main h refl))) c.if-end-s.false

pub returns-in_err-end : goal.returns-in_err-end
returns-in_err-end c fs h =
    read_refused _ _ _ (main_refused _ _ fs _ (sym (c.in_err-end.ensures.position device _ (in_main h refl)))) (passed_on _ c.from_residual.ensures.1)
