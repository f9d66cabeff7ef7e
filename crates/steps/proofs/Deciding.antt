-- The step by what is to come, and the start. What each kind of step promises is what a step promises, with less asked; a job that has taken no
-- step has main's statements in its one range.
use mathlib.Core.Bool.{Bool}
use mathlib.Core.List.{List, []}
use mathlib.Core.Logic.{◌⊎◌}
use mathlib.Core.Path.{◌≡◌, refl, sym, ap, ◌∙◌, subst}
use native.Mathlib.Omega.{arith}
use Prim.Native.Nat.{ℕ, suc, ◌+◌, ◌≤◌, ◌<◌}
use lib.ListN.{length, replicate}
use Rattle.std.specs.Prelude.{Result, Ok}
use Rattle.answers.specs.declared.Fault.{Fault}
use Rattle.rules.specs.declared.statements.Kind.{Kind}
use Rattle.rules.specs.declared.statements.Kind.TheVariants.{Init, Magic, Free, Gate, Measure, Merge, Ref, Get, Set, If, While, Call, Bool as Truth}
use Rattle.rules.specs.Kinds.{byte_of}
use Rattle.rules.specs.declared.place.Location.{Location}
use Rattle.rules.specs.Basics.{byte, word}
use Rattle.rules.specs.Region.{free_in}
use Rattle.rules.specs.Syntax.{device, Block, block, Statements, Program}
use Rattle.rules.specs.Program.{Scope}
use Rattle.rules.specs.Slots.{unbound}
use Rattle.rules.specs.Machine as rules
use Rattle.rules.specs.Machine.{themselves, Item, statements_before, block_before}
use Rattle.rules.proofs.KindBytes.{byte_injective}
use Rattle.sets.specs.declared.LocationSet.{LocationSet}
use Rattle.sets.specs.declared.rows.Rows.{Rows}
use Rattle.program.specs.declared.functions.FunctionTable.{FunctionTable}
use Rattle.program.specs.In.{StatementsIn, ProgramIn, main_scope, offset_of}
use Rattle.program.specs.Reader.{Heads}
use Rattle.program.proofs.In.{block_in, statement_byte}
use Rattle.steps.specs.declared.Effect.{Effect}
use Rattle.steps.specs.declared.Stepped.{Stepped}
use Rattle.steps.specs.declared.slots.Slots.{Slots}
use Rattle.steps.specs.declared.frames.Frame.{Frame}
use Rattle.steps.specs.declared.job.Job.{Job}
use Rattle.steps.specs.State.{slots_of, here_of, empty_frame, pushed}
use Rattle.steps.specs.Told as told
use Rattle.steps.specs.Standing.{RangesIn, FrameIn, FramesIn, Stands}
use Rattle.steps.specs.Stepping.{Comes, Ready, NoBlock, Returns, Anyway, Acts, Calls, Goes, Steps, Begins, Starts}
use Rattle.steps.proofs.Stand.{put, pushed_kept}
use Rattle.steps.proofs.Coming.{coming}
use Rattle.steps.proofs.Entering.{steady}
use Rattle.steps.proofs.Returning.{finished}

-- a job of a program that was read and tabled is ready
pub ready : {s : List ℕ} {p : Program} {J : rules.Job} {t : FunctionTable} {j : Job} → ProgramIn s p → Heads p.functions t
    → Stands s p J j → Ready s t j
ready {s} {p} {J} P H St = record { p = p; J = J; program = P; heads = H; stands = St }

-- the statement to come is in the file
pub comes : {s : List ℕ} {t : FunctionTable} {j : Job} → Ready s t j → (0 < j.top.n) → (at : ℕ) → at ≡ here_of j.top → Comes s j at
comes Q h at e = record { steady = steady Q; some = h; here = e }

pub starts_there : {s : List ℕ} {j : Job} {at : ℕ} → Comes s j at → (0 < byte s at) × (byte s at < 14) × (at < length s) × (length s ≤ 4096)
starts_there C =
    let N = coming C in
    let b = statement_byte N.here in (b.0, b.1, omega (arith, b.2, b.3), N.size)

-- the kinds of operations, and that they are no block's
abbrev pub Operation : Kind → Type 0
Operation k =
    (k ≡ Init) ⊎ ((k ≡ Magic) ⊎ ((k ≡ Free) ⊎ ((k ≡ Gate) ⊎ ((k ≡ Measure)
    ⊎ ((k ≡ Merge) ⊎ ((k ≡ Ref) ⊎ ((k ≡ Get) ⊎ ((k ≡ Set) ⊎ (k ≡ Truth)))))))))

pub operation_no_block : (k : Kind) (b : ℕ) → byte_of k ≡ b → Operation k → NoBlock b
operation_no_block k b e h = record { no_if = λ f. grind arith; no_while = λ f. grind arith; no_call = λ f. grind arith }

-- a statement of another kind than if, while and call is no block's
pub no_block : (k : Kind) (b : ℕ) → byte_of k ≡ b → (k ≡ If → ⊥) → (k ≡ While → ⊥) → (k ≡ Call → ⊥) → NoBlock b
no_block k b e x y z = record {
  no_if = λ h. x (byte_injective k If (e ∙ h));
  no_while = λ h. y (byte_injective k While (e ∙ h));
  no_call = λ h. z (byte_injective k Call (e ∙ h));
}

-- what the kinds promise is what a step promises
module _ (s : List ℕ) (t : FunctionTable) (at : ℕ) (rows : Rows) (owned : LocationSet) (map : List ℕ) (v : Bool) (j i : Job)
    (r : Result Effect Fault) where
  pub by_anyway : Anyway s at j i r → Goes s t at rows owned map v j i r
  by_anyway A p J R occ P H St O W M = A p J R v (free_in R occ) P St

  pub by_call : Calls s t at owned map j i r → Goes s t at rows owned map v j i r
  by_call A p J R occ P H St O W M = A p J R v occ P H St O M

  pub by_operation : Acts s at rows owned map v j i r → Goes s t at rows owned map v j i r
  by_operation A p J R occ P H St O W M = A p J R occ P St O W M

module _ (s : List ℕ) (t : FunctionTable) (rows : Rows) (owned : LocationSet) (map : List ℕ) (v : Bool) (j i : Job) (r : Stepped) where
  pub by_told : (at : ℕ) (x : Result Effect Fault) → Goes s t at rows owned map v j i x → r ≡ told.told x at → Steps s t rows owned map v j i r
  by_told at x G e = subst (Steps s t rows owned map v j i) (sym e) G

  pub by_return : (at : ℕ) → Returns s j i at → r ≡ told.told (Ok told.silent) at → Steps s t rows owned map v j i r
  by_return at A e = subst (Steps s t rows owned map v j i) (sym e) (λ p J R occ P H St O W M. A p J R v (free_in R occ) P St)

pub by_end : (s : List ℕ) (t : FunctionTable) (rows : Rows) (owned : LocationSet) (map : List ℕ) (v : Bool) (j : Job) (r : Stepped) → j.top.n ≡ 0
    → j.depth ≡ 0 → r ≡ told.finished → Steps s t rows owned map v j j r
by_end s t rows owned map v j r n d e = subst (Steps s t rows owned map v j j) (sym e) (λ p J R occ P H St O W M. finished s p J j St n R v (free_in R occ) d)

-- where main is
pub main_there : {s : List ℕ} {main : ℕ} → Begins s main → (main + 2 + word s main ≤ length s) × (length s ≤ 4096)
main_there {s} {main} B =
    let b = block_in B.program.main in
    (subst (λ (z : ℕ). z + 2 + word s z ≤ length s) (sym B.main_at_lem) (omega (arith, b.4, b.5)), B.program.size)

pub fresh_room : (φ : Slots) (places : List Location) (f : Frame) → f ≡ empty_frame φ places 0 → f.n < 8
fresh_room φ places f e = let z = ap (λ (g : Frame). g.n) e in omega arith

pub starts : (s : List ℕ) (main e : ℕ) (places : List Location) (φ : Slots) (f g : Frame) (below : List Frame) → length below ≡ 15
    → slots_of φ ≡ replicate 32 unbound → f ≡ empty_frame φ places 0
    → e ≡ main + 2 + word s main → g ≡ pushed f (main + 2) e → Starts s main (record { top = g; below = below; depth = 0 })
unfolding FramesIn RangesIn
starts s main e places φ f g below l eφ ef ee eg p P m = record {
  top = sym (ap (λ (z : Frame). slots_of z.slots) eg ∙ ap slots_of (pushed_kept f (main + 2) e).slots ∙ ap (λ (z : Frame). slots_of z.slots) ef ∙ eφ);
  sized = l;
  frames = (subst (λ (z : Frame). FrameIn s S themselves z [] (block_before themselves p.main [])) (sym eg) frame, refl);
}
  where
    S : Scope
    S = main_scope p.functions

    b : (ts : Statements device) × (inside : ℕ) × (p.main ≡ block (offset_of p.main) ts) × (8 ≡ suc inside)
        × (length s ≡ offset_of p.main + 2 + word s (offset_of p.main)) × (length s ≤ length s)
        × StatementsIn s S inside (offset_of p.main + 2) (length s) ts
    b = block_in P.main

    o : ℕ
    o = offset_of p.main

    begins : FrameIn s S themselves f [] []
    begins = subst (λ (z : Frame). FrameIn s S themselves z [] []) (sym ef) (record { sized = refl; room = omega arith; ranges = refl })

    empty : f.n ≡ 0
    empty = ap (λ (z : Frame). z.n) ef

    reads : StatementsIn s S b.1 (main + 2) e b.0
    reads =
        subst (λ (z : ℕ). StatementsIn s S b.1 (main + 2) z b.0) (sym ee)
        (subst (λ (z : ℕ). StatementsIn s S b.1 (z + 2) (z + 2 + word s z) b.0) (sym m) (subst (λ (z : ℕ). StatementsIn s S b.1 (o + 2) z b.0) b.4 b.6))

    frame : FrameIn s S themselves (pushed f (main + 2) e) [] (block_before themselves p.main [])
    frame =
        subst (λ (z : Block device). FrameIn s S themselves (pushed f (main + 2) e) [] (block_before themselves z [])) (sym b.2)
        (put s S themselves [] f [] begins b.1 (main + 2) e b.0 (omega (arith, empty, b.3)) (omega (arith, ee)) reads)
