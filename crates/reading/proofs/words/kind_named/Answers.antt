use mathlib.Core.Path.{sym, ap, ◌∙◌}
use native.Mathlib.Omega.{arith}
use Prim.Native.Nat.{ℕ}
use lib.Dec.{eqb}
use Rattle.rules.specs.Basics.{same_list}
use Rattle.rules.specs.Table.{name_of}
use Rattle.reading.proofs.Placing.{name_named, no_name_named}
use Rattle.reading.proofs.words.kind_named.Goals as goal

pub returns-then-is_word : goal.returns-then-is_word
returns-then-is_word c =
    name_named _ _ _ c.known-kind.ensures c.loop-byte.auto.byte (omega arith) c.loop-byte.invariant
    (ap (λ (b : ℕ). same_list eqb c.args.part.now (name_of b)) (sym c.known-kind.ensures) ∙ sym c.is_word.ensures ∙ c.if-is_word.true)

pub returns : goal.returns
returns c = no_name_named _ (λ k h. c.loop-byte.invariant k (omega arith))
