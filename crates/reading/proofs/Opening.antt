-- A text begins with another exactly where its first characters, as many as that has, are equal to it.
use mathlib.Core.Bool.{◌&&◌, Bool}
use mathlib.Core.List.{[], ◌∷◌}
use mathlib.Core.Path.{◌≡◌, refl, ap}
use lib.Dec.{eqb}
use lib.ListN.{length, take}
use lib.Pointwise.{pointwise}
use Rattle.rules.specs.Words.{Text, opens}

pub opens_taken : (u t : Text) → pointwise eqb u (take (length u) t) ≡ opens u t
opens_taken [] t = refl
opens_taken (x ∷ u) [] = refl
opens_taken (x ∷ u) (y ∷ t) = ap (λ (b : Bool). eqb x y && b) (opens_taken u t)
