-- Where a statement ends, by its byte: the walk finds the next statement without going into this one's blocks.
use mathlib.Core.List.{List}
use mathlib.Core.Path.{◌≡◌, sym, ap, ◌∙◌}
use native.Mathlib.Omega.{arith}
use Prim.Native.Nat.{ℕ, ◌+◌, ◌≤◌}
use lib.ListN.{length}
use Rattle.rules.specs.Basics.{byte, word}
use Rattle.rules.specs.Syntax.{Side, Statement, Block}
use Rattle.rules.specs.Program.{Scope}
use Rattle.program.specs.In.{BlockIn, StatementIn}
use Rattle.program.proofs.In.{block_in, statement_view}
use Rattle.walking.proofs.Views.{view_if, view_while}

-- a block's length word is in the file, and says where the block ends
pub block_ends : {d : Side} {s : List ℕ} {S : Scope} {depths at p : ℕ} {x : Block d} → BlockIn s S depths at x p
    → (p ≡ at + 2 + word s at) × (at + 2 ≤ p) × (p ≤ length s)
block_ends h = let k = block_in h in (k.4, omega (arith, k.4), k.5)

pub if_ends : {d : Side} {s : List ℕ} {S : Scope} {depths at q : ℕ} {t : Statement d} (m : ℕ) → StatementIn s S depths at t q → byte s at ≡ 10
    → m ≡ at + 2 + 2 + word s (at + 2)
    → (at + 4 ≤ m) × (m + 2 ≤ length s) × (q ≡ m + 2 + word s m)
if_ends {s = s} m w h e =
    let v = view_if (statement_view w) h in
    let a = block_ends v.first in
    let b = block_ends v.second in
    let f : v.middle ≡ m = a.0 ∙ sym e in
    (omega arith, omega (arith, b.1, b.2), b.0 ∙ ap (λ (i : ℕ). i + 2 + word s i) f)

pub while_ends : {d : Side} {s : List ℕ} {S : Scope} {depths at q : ℕ} {t : Statement d} → StatementIn s S depths at t q → byte s at ≡ 11
    → (at + 4 ≤ length s) × (q ≡ at + 2 + 2 + word s (at + 2))
while_ends w h =
    let v = view_while (statement_view w) h in
    let a = block_ends v.first in
    (omega (arith, a.1, a.2), a.0)
