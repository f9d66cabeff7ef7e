use native.Mathlib.Omega.{arith}
use mathlib.Core.Path.{refl, ◌∙◌}
use lib.ListN.{length-set}
use Prim.Native.Nat.{ℕ, ◌+◌}
use Rattle.rules.specs.Basics.{byte}
use Rattle.walking.specs.Names.{placed, names_of, named}
use Rattle.walking.proofs.NameLaws.{filled, unfilled}
use Rattle.walking.proofs.body.Body.enter.Goals as goal

pub loop-i-init : goal.loop-i-init
loop-i-init c = record { long = (c.told-inner, c.told-frame); filled = λ j h. absurd (omega arith); passed = λ j h. absurd (omega arith); rest = λ j h. refl }

pub loop-i-preserved : goal.loop-i-preserved
loop-i-preserved c =
    let a = c.args in
    let v : ℕ → ℕ = λ j. named (names_of a.self.now) (byte a.s.now (a.p + j)) in
    let b = c.loop-i in
    let l = c.location_of-location.result.0 in record {
      long = (length-set b.inner b.i l ∙ b.invariant.long.0, length-set b.frame b.i l ∙ b.invariant.long.1);
      filled = filled b.inner v b.i l (omega arith) c.location_of-location.ensures b.invariant.filled;
      passed = filled b.frame v b.i l (omega arith) c.location_of-location.ensures b.invariant.passed;
      rest = unfilled b.frame (placed a.frame.now) b.i l b.invariant.rest;
    }

pub returns : goal.returns
returns c =
    let l = c.loop-i.invariant in
    record { named = λ j h. l.filled j (omega arith); passed = λ j h. l.passed j (omega arith); rest = λ j h. l.rest j (omega arith) }
