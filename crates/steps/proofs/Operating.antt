-- The operation to come as a step: it stands where the last range begins, so the code may read it; where it moved, it is passed.
use mathlib.Core.Bool.{Bool}
use mathlib.Core.List.{List}
use mathlib.Core.Path.{◌≡◌, sym, ap, ◌∙◌, subst}
use native.Mathlib.Omega.{arith}
use Prim.Native.Nat.{ℕ, ◌+◌, ◌≤◌, ◌<◌}
use lib.ListN.{length}
use Rattle.std.specs.Prelude.{Result, Ok, Err}
use Rattle.answers.specs.declared.Fault.{Fault}
use Rattle.rules.specs.Basics.{byte}
use Rattle.rules.specs.Region.{free_in}
use Rattle.rules.specs.Table.{size_of}
use Rattle.rules.specs.Machine.{step}
use Rattle.sets.specs.declared.LocationSet.{LocationSet}
use Rattle.sets.specs.declared.rows.Rows.{Rows}
use Rattle.program.proofs.In.{statement_byte}
use Rattle.steps.specs.declared.Effect.{Effect}
use Rattle.steps.specs.declared.frames.Frame.{Frame}
use Rattle.steps.specs.declared.job.Job.{Job}
use Rattle.steps.specs.declared.operations.Performed.{Performed}
use Rattle.steps.specs.State.{with_slots, advanced, with_top}
use Rattle.steps.specs.Told.{told}
use Rattle.steps.specs.Performing.{Answer, Operable, Operates}
use Rattle.steps.specs.Stepping.{Follows, Comes, NoBlock, Acts}
use Rattle.steps.proofs.Seen.{ends_seen}
use Rattle.steps.proofs.Coming.{Next, next, coming, operation_stuck, operation_moved}

-- what the code asks of the operation
pub record Known (s : List ℕ) (at : ℕ) : Type 0 where
  pub positive : 0 < byte s at
  pub small : byte s at < 14
  pub fits : at + size_of (byte s at) ≤ length s
  pub size : length s ≤ 4096
  pub starts : at < length s

module _ {s : List ℕ} {j : Job} {at : ℕ} (C : Comes s j at) (B : NoBlock (byte s at)) where
  N : Next s C.steady.p C.steady.J j at
  N = coming C

  pub operable : Operable s at j
  operable = record {
    d = N.d;
    S = N.S;
    depths = N.depths;
    t = N.t;
    p = N.q;
    here = N.here;
    size = N.size;
    places = N.few;
    no_if = B.no_if;
    no_while = B.no_while;
    no_call = B.no_call;
  }

  pub known : Known s at
  known =
      let b = statement_byte N.here in
      let f = ends_seen N.here B.no_if B.no_while B.no_call in
      record { positive = b.0; small = b.1; fits = subst (λ (n : ℕ). n ≤ length s) f.0 f.1; size = N.size; starts = omega (arith, b.2, b.3) }

module _ (s : List ℕ) (j : Job) (at : ℕ) (rows : Rows) (owned : LocationSet) (map : List ℕ) (v : Bool) (a : Answer) (T : Operates s at j rows owned map v a)
    (C : Comes s j at) where
  pub acts_stuck : (r : Result Effect Fault) (reason : Fault) → a ≡ Err reason → r ≡ Err reason → Acts s at rows owned map v j j r
  acts_stuck r reason t k p J R occ P St O W M =
      let N : Next s p J j at = next s p J j at P St C.some C.here in
      operation_stuck s p J j at N St R v (free_in R occ) r a reason (T N.d N.S N.depths N.t N.q N.σ R p.functions occ N.here N.named O W M J.below N.rest) t k

  pub acts_moved : NoBlock (byte s at) → (z : ℕ) → z ≡ size_of (byte s at) → (f : Frame) → f ≡ advanced j.top (at + z) → (w : Performed) → a ≡ Ok w
      → Acts s at rows owned map v j (with_top j (with_slots f w.slots)) (Ok (record { edges = w.edges; act = w.act }))
  acts_moved B z ez f ef w t p J R occ P St O W M =
      let N : Next s p J j at = next s p J j at P St C.some C.here in
      let ends : at + z ≡ N.q = ap (λ (n : ℕ). at + n) ez ∙ sym (ends_seen N.here B.no_if B.no_while B.no_call).0 in
      subst (λ (g : Frame). Follows s p (step R p.functions v (free_in R occ) J) (with_top j (with_slots g w.slots))
      (told (Ok (record { edges = w.edges; act = w.act })) at)) (sym (ef ∙ ap (advanced j.top) ends))
      (operation_moved s p J j at N St R v (free_in R occ) a w.slots w.edges w.act
      (T N.d N.S N.depths N.t N.q N.σ R p.functions occ N.here N.named O W M J.below N.rest) t)
