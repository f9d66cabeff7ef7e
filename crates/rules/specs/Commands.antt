-- Commands, their size, and the walk that looks for a path at each merge.
use Rattle.std.specs.Prelude.{Bool, true, false, List, ℕ, ◌+◌, get_or, set}
use Rattle.std.proofs.Math.Option.{Option, none, some}
use Rattle.answers.specs.Check.{Check, ok, refused, refusal, ◌>>=◌, ◌>>◌}
use Rattle.rules.specs.Region.{Region}
use Rattle.rules.specs.Path.{route}
use Rattle.rules.specs.Syntax.{Side, device, Place, Preparation}

-- In Definition 3's form: each command stands before those that follow it. A merge has its offset, and each end its basis.
pub data Commands (s : Side) : Type 0 where
  ε : Commands s
  alloc : Preparation → Place s → Commands s → Commands s
  release : Place s → Commands s → Commands s
  connect : ℕ → ℕ → Place s → ℕ → Place s → Commands s → Commands s
  either : Commands s → Commands s → Commands s → Commands s
  repeat : Commands s → Commands s → Commands s

infixr 55 ◌then◌
abbrev pub ◌then◌ : {s : Side} → Commands s → Commands s → Commands s
ε then d = d
alloc q l c then d = alloc q l (c then d)
release l c then d = release l (c then d)
connect o b l e k c then d = connect o b l e k (c then d)
either a b c then d = either a b (c then d)
repeat a c then d = repeat a (c then d)

-- the commands at a call's actual places
abbrev pub commands_at : {s t : Side} → (Place s → Place t) → Commands s → Commands t
commands_at σ ε = ε
commands_at σ (alloc q l c) = alloc q (σ l) (commands_at σ c)
commands_at σ (release l c) = release (σ l) (commands_at σ c)
commands_at σ (connect o b l e k c) = connect o b (σ l) e (σ k) (commands_at σ c)
commands_at σ (either a b c) = either (commands_at σ a) (commands_at σ b) (commands_at σ c)
commands_at σ (repeat a c) = repeat (commands_at σ a) (commands_at σ c)

-- Definition 3
abbrev pub size_of : {s : Side} → Commands s → ℕ
size_of ε = 0
size_of (alloc q l c) = 1 + size_of c
size_of (release l c) = 1 + size_of c
size_of (connect o b l e k c) = 1 + size_of c
size_of (either a b c) = 1 + size_of a + size_of b + size_of c
size_of (repeat a c) = 1 + size_of a + size_of c

-- 21: no path
abbrev pub need_route : Option (List ℕ) → ℕ → Check (List ℕ)
need_route none o = refused (refusal 21 o)
need_route (some p) o = ok p

-- The commands in order, the then-block before the else-block, a loop's body once, from the free locations L to those free afterwards. Only a merge
-- is tested: a typed program fails Figure 12 nowhere else.
abbrev pub walk : Region → List Bool → Commands device → Check (List Bool)
walk R L ε = ok L
walk R L (alloc q l c) = walk R (set L l.no false) c
walk R L (release l c) = walk R (set L l.no true) c
walk R L (connect o b l e k c) = do
  need_route (route R (λ i. get_or L i false) l.no k.no) o
  walk R L c
walk R L (either a b c) = do
  M ← walk R L a
  walk R L b
  walk R M c
walk R L (repeat a c) = do
  walk R L a
  walk R L c
