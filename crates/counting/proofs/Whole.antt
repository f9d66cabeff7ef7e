-- A whole program: its table says where every body stands, and main's place where main does. The functions are counted one after the other, so after
-- the last one all are remembered, and main's count leaves them so.
use mathlib.Core.Path.{◌≡◌, sym, subst}
use native.Mathlib.Omega.{arith}
use Prim.Native.Nat.{ℕ, ◌+◌, ◌<◌, ◌≤◌}
use lib.ListN.{get_or, length}
use lib.Seq.{length-take-le}
use Rattle.std.specs.Prelude.{Some, None}
use Rattle.rules.specs.Syntax.{Side, device, Block, function, Program}
use Rattle.program.specs.In.{ProgramIn, BlockIn, scope_of, main_scope}
use Rattle.program.specs.Heads.{Tabled, entry}
use Rattle.counting.specs.Counting.{Sizes, Counts}
use Rattle.counting.specs.Below.{BlockBelow, Placed}
use Rattle.counting.specs.Found.{Right, Found, BlockFound, nothing_known}
use Rattle.counting.specs.declared.memory.Memory.{Memory}
use Rattle.counting.specs.declared.blocks.Body.{Body}
use Rattle.counting.specs.declared.blocks.Sum.{Sum}
use Rattle.counting.proofs.Remembered.{right_blank, right_more}

-- main's body
abbrev pub IsMain : Body → Type 0
IsMain b = b.before ≡ b.functions.now.count

module _ (b : Body) {p : Program} {main : ℕ} (e : IsMain b) (P : ProgramIn b.bytes.now p) (T : Tabled p b.functions.now main) where
  pub placed : Placed b p
  placed = record { size = P.size; few = P.few; enough = omega (arith, e, T.heads.count); body = stands }
    where
      stands : (f : ℕ) → f < length p.functions → (q : ℕ) × BlockBelow b.bytes.now f (entry b.functions.now f).body (function p.functions f).body q
      stands f l =
          let x = P.body f l in (
            x.0,
            record {
              scope = scope_of p.functions f;
              depths = 8;
              callees = omega (arith, length-take-le f p.functions (omega arith));
              stands = subst (λ (i : ℕ). BlockIn b.bytes.now (scope_of p.functions f) 8 i (function p.functions f).body x.0) (sym (T.heads.bodies f l)) x.1;
            },
          )

  pub main_below : BlockBelow b.bytes.now b.before main p.main (length b.bytes.now)
  main_below = record {
    scope = main_scope p.functions;
    depths = 8;
    callees = omega (arith, e, T.heads.count);
    stands = subst (λ (i : ℕ). BlockIn b.bytes.now (main_scope p.functions) 8 i p.main (length b.bytes.now)) (sym T.main_at_lem) P.main;
  }

-- the functions before f were counted
pub record Before (b : Body) (f : ℕ) (m : Memory) : Type 0 where
  pub known : (p : Program) (φ : ℕ → ℕ) → Placed b p → Sizes p φ → Right φ f m

pub before_start : (b : Body) → Before b 0 nothing_known
before_start b = record { known = λ p φ P Z. right_blank φ }

-- what is asked of main's block, where its functions were counted
pub main_asks : {b : Body} {f main : ℕ} {m : Memory} → IsMain b → Before b f m → (p : Program) × ProgramIn b.bytes.now p × Tabled p b.functions.now main
    → ((p : Program) × Placed b p) × ((d : Side) × (x : Block d) × (q : ℕ) × BlockBelow b.bytes.now b.before main x q)
main_asks {b} e k (p, P, T) = ((p, placed b e P T), (_, _, _, main_below b e P T))

module _ {b : Body} {f : ℕ} {m m' : Memory} where
  pub before_step : {c : ℕ} → Before b f m → Found b (λ φ. φ f) m c m' → get_or m'.counts f None ≡ Some c → Before b (f + 1) m'
  before_step {c} k h e = record { known = λ p φ P Z. right_more c e (h.found p φ f P Z (k.known p φ P Z)).1 }

  pub program_exit : {main : ℕ} {r : Sum} → IsMain b → Before b f m → b.before ≤ f → BlockFound b main m r m'
      → (p : Program) → ProgramIn b.bytes.now p → Tabled p b.functions.now main → (φ : ℕ → ℕ) → Sizes p φ
      → Counts p φ (record { main = r.count; functions = m'.counts })
  program_exit {main} e k l h p P T φ Z =
      let P' = placed b e P T in
      let u = (h.block device p.main (length b.bytes.now) (main_below b e P T)).1.found p φ f P' Z (k.known p φ P' Z) in
      record { main = u.0; functions = λ i j. u.1.known i (omega (arith, j, e, T.heads.count, l)) }
