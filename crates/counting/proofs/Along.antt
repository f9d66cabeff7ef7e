-- The loop over a block's statements. At a position some of the statements are left; those before it were counted, and the count with the size of the
-- rest is the size of all. A statement that is counted goes from the rest to the count, and at the block's end there is no rest.
use mathlib.Core.Path.{◌≡◌, sym, ap, subst, ◌∙◌}
use native.Mathlib.Nat.{zero-add}
use Prim.Native.Nat.{ℕ, ◌+◌, ◌<◌, ◌≤◌}
use Rattle.rules.specs.Basics.{word}
use Rattle.rules.specs.Syntax.{Side, Statement, Statements, Block, Program}
use Rattle.theory.specs.Counts.{statement_size, statements_size, block_size}
use Rattle.counting.specs.Counting.{cap, Sizes}
use Rattle.counting.specs.Below.{StatementBelow, BlockBelow, StatementsBelow, Placed}
use Rattle.counting.specs.Found.{Right, Found, BlockFound, StatementFound}
use Rattle.counting.specs.declared.memory.Memory.{Memory}
use Rattle.counting.specs.declared.blocks.Body.{Body}
use Rattle.counting.specs.declared.blocks.Sum.{Sum}
use Rattle.counting.proofs.Caps.{cap_step, cap_last}
use Rattle.counting.proofs.Apart.{block_apart, next_apart, end_apart}

module _ (b : Body) where
  abbrev StatementsOf : {d : Side} → ℕ → ℕ → Statements d → Type 0
  StatementsOf = StatementsBelow b.bytes.now b.before

  -- of the statements ts those before the rest were counted: they are c
  pub record SoFar {d : Side} (ts rest : Statements d) (m : Memory) (c : ℕ) (m' : Memory) : Type 0 where
    pub so_far : (p : Program) (φ : ℕ → ℕ) (n : ℕ) → Placed b p → Sizes p φ → Right φ n m
        → (cap (statements_size φ ts) ≡ cap (c + statements_size φ rest)) × Right φ n m'

  -- the statements from one position to a block's end, whichever they are, were counted up to another
  pub record Along (from end : ℕ) (m : Memory) (p c : ℕ) (m' : Memory) : Type 0 where
    pub along : (d : Side) (ts : Statements d) → StatementsOf from end ts → (rest : Statements d) × StatementsOf p end rest × SoFar ts rest m c m'

  pub along_start : (from end : ℕ) (m : Memory) → Along from end m from 0 m
  along_start from end m = record { along = λ d ts h. (ts, h, record { so_far = λ p φ n P Z R. (ap cap (sym (zero-add (statements_size φ ts))), R) }) }

module _ {b : Body} {at end p c : ℕ} {m m' : Memory} where
  -- the next statement
  pub along_next : {d : Side} {x : Block d} {q : ℕ} → BlockBelow b.bytes.now b.before at x q → end ≡ at + 2 + word b.bytes.now at
      → Along b (at + 2) end m p c m' → p < end → (e : Side) × (t : Statement e) × (r : ℕ) × StatementBelow b.bytes.now b.before p t r
  along_next {d} h e a l =
      let k = block_apart h in
      let i = a.along d k.0 (subst (λ (j : ℕ). StatementsOf b (at + 2) j k.0) (k.2 ∙ sym e) k.4) in
      let n = next_apart i.1 l in
      (d, n.0, n.1, n.4)

  pub along_step : {c' : ℕ} {r : Sum} {n : Memory} → Along b at end m p c m' → p < end → StatementFound b p m' r n → c' ≡ cap (c + r.count)
      → Along b at end m r.next c' n
  along_step {c'} {r} {n} a l f e = record { along = step }
    where
      step : (d : Side) (ts : Statements d) → StatementsOf b at end ts → (rest : Statements d) × StatementsOf b r.next end rest × SoFar b ts rest m c' n
      step d ts h =
          let i = a.along d ts h in
          let x = next_apart i.1 l in
          let k = f.statement d x.0 x.1 x.4 in (
            x.2,
            subst (λ (j : ℕ). StatementsOf b j end x.2) (sym k.0) x.5,
            record {
              so_far = λ p φ g P Z R.
                  let v = i.2.so_far p φ g P Z R in
                  let u = k.1.found p φ g P Z v.1 in
                  let s = v.0 ∙ ap (λ y. cap (c + statements_size φ y)) x.3 in
                  (cap_step (statements_size φ ts) c (statement_size φ x.0) (statements_size φ x.2) r.count c' s u.0 e, u.1);
            },
          )

  pub along_end : end ≡ at + 2 + word b.bytes.now at → Along b (at + 2) end m p c m' → end ≤ p → c ≤ 65536
      → BlockFound b at m (record { count = c; next = p }) m'
  along_end e a l small = record { block = whole }
    where
      whole : (d : Side) (x : Block d) (q : ℕ) → BlockBelow b.bytes.now b.before at x q → (p ≡ q) × Found b (λ φ. block_size φ x) m c m'
      whole d x q h =
          let k = block_apart h in
          let f : q ≡ end = k.2 ∙ sym e in
          let i = a.along d k.0 (subst (λ (j : ℕ). StatementsOf b (at + 2) j k.0) f k.4) in
          let z = end_apart i.1 l in (
            z.0 ∙ sym f,
            record {
              found = λ p φ n P Z R.
                  let v = i.2.so_far p φ n P Z R in
                  let s = v.0 ∙ ap (λ y. cap (c + statements_size φ y)) z.1 in
                  (cap_last (statements_size φ k.0) c s small ∙ ap (λ y. cap (block_size φ y)) (sym k.1), v.1);
            },
          )
