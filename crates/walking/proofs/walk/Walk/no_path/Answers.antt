-- Whether the search found a path.
use mathlib.Core.Bool.{Bool, true, false, not, false≢true}
use mathlib.Core.Path.{◌≡◌, refl, sym, ap, ◌∙◌}
use Prim.Native.Nat.{ℕ}
use Rattle.std.specs.Prelude.{Option, Some, None, is_some}
use Rattle.std.specs.Option.{is_none}
use Rattle.walking.specs.Stands.{no_path}
use Rattle.walking.proofs.walk.Walk.no_path.Goals as goal

none_is : (o : Option ℕ) (b : Bool) → is_some o ≡ not b → b ≡ is_none o
none_is None true h = refl
none_is None false h = absurd (false≢true h)
none_is (Some x) true h = absurd (false≢true (sym h))
none_is (Some x) false h = refl

pub returns : goal.returns
unfolding no_path
returns c = λ R r. none_is _ _ c.is_none.ensures ∙ ap is_none (c.distance.ensures R r)
