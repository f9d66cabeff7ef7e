-- The walk over main. Main stands where the table says, all functions are before it, and its places are locations; so what the walk over it
-- answers is what the walk over the program's commands does.
use mathlib.Core.Bool.{Bool, true, false≢true}
use mathlib.Core.List.{List}
use mathlib.Core.Path.{◌≡◌, sym, ap, subst, ◌∙◌}
use native.Mathlib.Omega.{arith}
use Prim.Native.Nat.{ℕ, ◌<◌, ◌≤◌}
use lib.ListN.{get_or, length}
use lib.Seq.{take_all}
use Rattle.std.specs.Prelude.{Option, Some, None, Result}
use Rattle.answers.specs.Check.{Check, ok, ◌>>◌}
use Rattle.rules.specs.Region.{Region}
use Rattle.rules.specs.Syntax.{device, Place, function, Program}
use Rattle.rules.specs.Commands.{size_of, walk}
use Rattle.rules.specs.Typing.{Typed, signature}
use Rattle.theory.specs.Exact.{Derives}
use Rattle.sets.specs.declared.LocationSet.{LocationSet}
use Rattle.sets.specs.Sets.{has}
use Rattle.device.specs.Reader.{Owned, RowsOf}
use Rattle.program.specs.In.{BlockIn, ProgramIn, main_scope}
use Rattle.program.specs.Heads.{Tabled}
use Rattle.walking.specs.Quiet.{Skips}
use Rattle.walking.specs.declared.walk.Walk.{Walk}
use Rattle.walking.specs.declared.walk.NoPath.{NoPath}
use Rattle.walking.specs.Names.{Names, placed}
use Rattle.walking.specs.Stands.{walk_said, BlockAt, Over, BlockWalked}
use Rattle.walking.proofs.Whole.{by_commands, callees, main_follows}

-- main's block
abbrev pub main_block : {w : Walk} {counts : List (Option ℕ)} {p : Program} {main : ℕ} (n : Names) → n.main ≡ true → Skips w.bytes.now counts w.quiet.now.ends
    → ProgramIn w.bytes.now p → Tabled p w.functions.now main → BlockAt w w.functions.now.count n main
main_block {w = w} {counts = counts} {p = p} n h K P T =
    let c = w.functions.now.count in
    record {
      side = device;
      program = p;
      counts = counts;
      scope = main_scope p.functions;
      depths = 8;
      tree = p.main;
      next = length w.bytes.now;
      body = record {
        program = P;
        offsets = T.heads.bodies;
        reach = omega (arith, T.heads.count);
        earlier = sym (take_all c p.functions (omega (arith, T.heads.count)));
        room = λ q. absurd (false≢true (sym q ∙ h));
        table = K;
      };
      stands = subst (λ (i : ℕ). BlockIn w.bytes.now (main_scope p.functions) 8 i p.main (length w.bytes.now)) (sym T.main_at_lem) P.main;
    }

-- What the walk over it says, for every region and typing of the program.
pub main_walked : {w : Walk} {counts : List (Option ℕ)} {main : ℕ} {n : Names} {f : List ℕ} {owned after : LocationSet} {r : Result (Unit {0}) NoPath}
    → n.main ≡ true
    → Skips w.bytes.now counts w.quiet.now.ends → BlockWalked w w.functions.now.count n main f owned r after
    → (p : Program) (R : Region) (d : Typed device) (e : Derives R.owned p d) → ProgramIn w.bytes.now p → Tabled p w.functions.now main
    → Owned R owned → RowsOf R w.rows.now
    → ((g : ℕ) → g < length p.functions → get_or counts g None ≡ Some 0 → size_of (signature e.signatures g).commands ≡ 0)
    → (walk_said r after >> ok (tt {0})) ≡ (walk R R.owned d.commands >> ok tt)
main_walked {w} {counts} {n = n} {f = f} {owned = owned} h K B p R d e P T O rows z =
    ap (λ (m : Check (ℕ → Bool)). m >> ok (tt {0})) (B.block (main_block n h K P T) R (by_commands R e.signatures) (λ l. l) over)
    ∙ main_follows R p d e arities (placed f) (has owned) (λ i y. O.owned y i)
  where
    arities : (g : ℕ) → g < length p.functions → (function p.functions g).m ≤ (function p.functions g).k
    arities g l = (P.head g l).2

    over : Over R w.rows.now counts p.functions w.functions.now.count (main_scope p.functions) n (by_commands R e.signatures) (λ (l : Place device). l)
    over = let C = callees R p d e arities counts z in record {
      region = rows;
      callees = record { walks = λ g l. C.walks g (omega (arith, l, T.heads.count)); skips = λ g l. C.skips g (omega (arith, l, T.heads.count)) };
      places = λ l q. rw h;
    }
