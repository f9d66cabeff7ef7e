-- What each way out of a statement and of a callee gives. A statement's size is that of its parts and its own one, so the capped sum of what the parts
-- gave is its count; a call's is its callee's, and a callee's is that of its body. Each part starts with the memory that the part before it left.
use mathlib.Core.Logic.{◌⊎◌, ◌≢◌}
use mathlib.Core.Path.{◌≡◌, sym, ap, subst, ◌∙◌}
use native.Mathlib.Omega.{arith}
use Prim.Native.Nat.{ℕ, ◌+◌, ◌<◌, ◌≤◌}
use lib.ListN.{get_or, length}
use Rattle.std.specs.Prelude.{Some, None}
use Rattle.rules.specs.Basics.{byte}
use Rattle.rules.specs.Syntax.{function, Program}
use Rattle.rules.specs.Table.{size_of}
use Rattle.rules.specs.Kinds.{byte_of}
use Rattle.rules.specs.declared.statements.Kind.{Kind}
use Rattle.rules.specs.declared.statements.Kind.TheVariants.{Init, Magic, Free, Gate, Measure, Merge, Ref, Get, Set, If, While, Call, Bool}
use Rattle.rules.proofs.KindBytes.{byte_injective}
use Rattle.theory.specs.Counts.{statement_size, block_size}
use Rattle.program.specs.Heads.{entry}
use Rattle.program.specs.declared.functions.Head.{Head}
use Rattle.counting.specs.Counting.{cap, Sizes}
use Rattle.counting.specs.Below.{BlockBelow, Placed}
use Rattle.counting.specs.Found.{Right, Found, BlockFound, StatementFound, noted, own_count}
use Rattle.counting.specs.declared.memory.Memory.{Memory}
use Rattle.counting.specs.declared.blocks.Body.{Body}
use Rattle.counting.specs.declared.blocks.Sum.{Sum}
use Rattle.counting.proofs.Caps.{cap_one, cap_two, cap_small}
use Rattle.counting.proofs.Apart.{if_apart, while_apart, call_apart, op_apart}
use Rattle.counting.proofs.Remembered.{right_noted}

-- the body of function f
abbrev pub callee : Body → ℕ → Body
callee b f = record { bytes = b.bytes; functions = b.functions; before = f }

-- fewer functions are asked for
pub fewer : {b : Body} {p : Program} (f : ℕ) → f ≤ b.before → Placed b p → Placed (callee b f) p
fewer f l P = record { size = P.size; few = P.few; enough = omega (arith, l, P.enough); body = P.body }

pub callee_body : {b : Body} {p : Program} {f : ℕ} {h : Head} → Placed b p → f < length p.functions → h ≡ entry b.functions.now f
    → (q : ℕ) × BlockBelow b.bytes.now f h.body (function p.functions f).body q
callee_body {b} {p} {f} P l e = let w = P.body f l in (w.0, subst (λ y. BlockBelow b.bytes.now f y.body (function p.functions f).body w.0) (sym e) w.1)

-- the kinds of operations
pub operation_kind : {k : Kind}
    → (k ≡ Init) ⊎ ((k ≡ Magic) ⊎ ((k ≡ Free) ⊎ ((k ≡ Gate) ⊎ ((k ≡ Measure) ⊎ ((k ≡ Merge) ⊎ ((k ≡ Ref) ⊎ ((k ≡ Get) ⊎ ((k ≡ Set) ⊎ (k ≡ Bool)))))))))
    → (k ≢ If) × (k ≢ While) × (k ≢ Call)
operation_kind h = (λ f. grind arith, λ f. grind arith, λ f. grind arith)

module _ {b : Body} {at : ℕ} {m : Memory} where
  pub if_exit : {x y : Sum} {m' m'' : Memory} {k n : ℕ} → byte b.bytes.now at ≡ 10 → BlockFound b (at + 2) m x m' → BlockFound b x.next m' y m''
      → k ≡ cap (x.count + y.count) → n ≡ cap (1 + k) → StatementFound b at m (record { count = n; next = y.next }) m''
  if_exit {x} {y} {k = k} {n = n} e f h i j = record {
    statement = λ d t q w.
        let c = if_apart w e in
        let u = f.block d c.0 c.2 c.3 in
        let v = h.block d c.1 q (subst (λ z. BlockBelow b.bytes.now b.before z c.1 q) (sym u.0) c.4) in (
          v.0,
          record {
            found = λ p φ z P Z R.
                let s = u.1.found p φ z P Z R in
                let r = v.1.found p φ z P Z s.1 in
                (cap_two (statement_size φ t) (block_size φ c.0) (block_size φ c.1) x.count y.count k n (c.5 φ) s.0 r.0 i j, r.1);
          },
        );
  }

  pub while_exit : {x : Sum} {m' : Memory} {n : ℕ} → byte b.bytes.now at ≡ 11 → BlockFound b (at + 2) m x m' → n ≡ cap (1 + x.count)
      → StatementFound b at m (record { count = n; next = x.next }) m'
  while_exit {x} {n = n} e f j = record {
    statement = λ d t q w.
        let c = while_apart w e in
        let u = f.block d c.0 q c.1 in (
          u.0,
          record {
            found = λ p φ z P Z R.
                let s = u.1.found p φ z P Z R in
                (cap_one (statement_size φ t) (block_size φ c.0) x.count n (c.2 φ) s.0 j, s.1);
          },
        );
  }

  pub call_exit : {n q : ℕ} {m' : Memory} → byte b.bytes.now at ≡ 12 → Found b (λ φ. φ (byte b.bytes.now (at + 1))) m n m'
      → q ≡ at + 4 + byte b.bytes.now (at + 2) + byte b.bytes.now (at + 3) → StatementFound b at m (record { count = n; next = q }) m'
  call_exit e h k = record {
    statement = λ d t y w.
        let c = call_apart w e in
        (k ∙ sym c.1, record { found = λ p φ z P Z R. let u = h.found p φ z P Z R in (u.0 ∙ ap cap (sym (c.2 φ)), u.1) });
  }

  pub op_exit : {n z : ℕ} (k : Kind) → byte_of k ≡ byte b.bytes.now at → k ≢ If → k ≢ While → k ≢ Call
      → n ≡ own_count (byte_of k) → n ≤ 1
      → z ≡ size_of (byte_of k) → StatementFound b at m (record { count = n; next = at + z }) m
  op_exit {n} k is i j l e small f = record {
    statement = λ d t q w.
        let h = op_apart w (other If i) (other While j) (other Call l) in (
          ap (λ (v : ℕ). at + v) (f ∙ ap size_of is) ∙ sym h.0,
          record { found = λ p φ y P Z R. (cap_small n (omega arith) ∙ ap cap (e ∙ ap own_count is ∙ sym (h.1 φ)), R) },
        );
  }
    where
      other : (o : Kind) → k ≢ o → byte b.bytes.now at ≢ byte_of o
      other o d h = d (byte_injective k o (is ∙ h))

module _ {b : Body} {f : ℕ} {m : Memory} where
  -- a callee that is remembered, and one that is counted
  pub known_exit : {c : ℕ} → get_or m.counts f None ≡ Some c → Found b (λ φ. φ f) m c m
  known_exit {c} e = record { found = λ p φ z P Z R. (R.right f c e, R) }

  pub counted_exit : {x : Sum} {h : Head} {m' r : Memory} → f < b.before → h ≡ entry b.functions.now f → BlockFound (callee b f) h.body m x m'
      → r ≡ noted m' f x.count → Found b (λ φ. φ f) m x.count r
  counted_exit {x} {h} {m'} {r} l e found n = record { found = gives }
    where
      gives : (p : Program) (φ : ℕ → ℕ) (n : ℕ) → Placed b p → Sizes p φ → Right φ n m → (x.count ≡ cap (φ f)) × Right φ n r
      gives p φ z P Z R =
          let k : f < length p.functions = omega (arith, l, P.enough) in
          let w = callee_body P k e in
          let u = (found.block _ (function p.functions f).body w.0 w.1).1.found p φ z (fewer f (omega (arith, l)) P) Z R in
          let v : x.count ≡ cap (φ f) = u.0 ∙ ap cap (sym (Z.size f k)) in
          (v, rw n (right_noted f x.count v u.1))
