-- The statement to come of a job that stands, whatever its depth: all that a step needs to know of it. A step that is stuck leaves the job as it
-- is; one that moves says which job stands for the rules' next one.
use mathlib.Core.Bool.{Bool}
use mathlib.Core.List.{List, ◌∷◌}
use mathlib.Core.Path.{◌≡◌, refl, sym, ap, ◌∙◌, subst}
use native.Mathlib.Decide.{ℕ_discrete}
use native.Mathlib.Omega.{arith}
use Prim.Native.Nat.{ℕ, ◌+◌, ◌-◌, ◌≤◌, ◌<◌}
use lib.ListN.{length}
use borrow.Author.Tests.{eq-eqb, ne_eqb}
use Rattle.std.specs.Prelude.{Result, Ok, Err}
use Rattle.answers.specs.declared.Fault.{Fault}
use Rattle.answers.specs.Check.{number_of, Check, ok, refused, refusal}
use Rattle.rules.specs.Region.{Region}
use Rattle.rules.specs.Syntax.{Side, Statement, Function, function, Program}
use Rattle.rules.specs.Program.{Scope}
use Rattle.rules.specs.Machine as rules
use Rattle.rules.specs.Machine.{Actual, locate, Item, run, statements_before, offset_of, Move, move, stepped, step_items, step}
use Rattle.program.specs.In.{StatementIn, ProgramIn}
use Rattle.program.proofs.In.{statement_byte}
use Rattle.steps.specs.declared.Act.{Act}
use Rattle.steps.specs.declared.slots.Slots.{Slots}
use Rattle.steps.specs.declared.operations.Performed.{Performed}
use Rattle.steps.specs.declared.frames.Frame.{Frame}
use Rattle.steps.specs.declared.job.Job.{Job}
use Rattle.steps.specs.declared.Effect.{Effect}
use Rattle.steps.specs.State.{place_of, slots_of, here_of, with_slots, advanced, with_top, located_in}
use Rattle.steps.specs.Told.{told, act_of}
use Rattle.steps.specs.Standing.{FrameIn, FramesIn, Stands}
use Rattle.steps.specs.Performing.{Answer, performed, Tells, moves, fails, Named}
use Rattle.steps.specs.Stepping.{Follows, Steady, Comes}
use Rattle.steps.proofs.Seen.{offset_seen}
use Rattle.steps.proofs.Stand.{Head, head_of, Top, top_of, passed, advanced_kept}

pub record Next (s : List ℕ) (p : Program) (J : rules.Job) (j : Job) (at : ℕ) : Type 0 where
  pub d : Side
  pub S : Scope
  pub σ : Actual d
  pub after : List Item
  pub depths : ℕ
  pub t : Statement d
  pub q : ℕ
  pub rest : List Item
  pub here : StatementIn s S depths at t q
  pub items : J.items ≡ run σ t ∷ rest
  pub offset : offset_of t ≡ at
  pub within : (at < q) × (q ≤ length s)
  pub size : length s ≤ 4096
  pub room : j.top.n ≤ 8
  pub deep : j.top.n + depths ≤ 8
  pub known : length S.earlier + j.depth ≤ length p.functions
  pub earlier : (g : ℕ) → g < length S.earlier → function S.earlier g ≡ function p.functions g
  pub named : Named S σ j
  pub few : 0 < j.depth → S.places ≤ 16
  pub whole : FrameIn s S σ j.top after (run σ t ∷ rest)
  pub past : FrameIn s S σ (advanced j.top q) after rest
  pub again : (f : Frame) (is : List Item) → f.call ≡ j.top.call → f.places ≡ j.top.places → FrameIn s S σ f after is
      → FramesIn s p.functions j.below j.depth f J.below is

-- what the code locates is what the rules locate
named_in : (s : List ℕ) (fs : List Function) (j : Job) (φs : List rules.Frame) (is : List Item) (T : Top s fs j.below j.depth j.top φs is)
    → Named T.S T.σ j
unfolding located_in
named_in s fs j φs is T = record { named = λ b l. go b l (ℕ_discrete j.depth 0) }
  where
    go : (b : ℕ) → b < T.S.places → Dec (j.depth ≡ 0) → locate T.σ (record { no = b }) ≡ place_of (located_in j b)
    go b l (yes e) = T.main b e ∙ sym (rw (eq-eqb j.depth 0 e))
    go b l (no n) = T.inner b (omega (arith, n)) l ∙ sym (rw (ne_eqb j.depth 0 n))

pub next : (s : List ℕ) (p : Program) (J : rules.Job) (j : Job) (at : ℕ) → ProgramIn s p → Stands s p J j → 0 < j.top.n
    → at ≡ here_of j.top → Next s p J j at
next s p J j at P St h e = record {
  d = T.d;
  S = T.S;
  σ = T.σ;
  after = T.after;
  depths = H.depths;
  t = H.t;
  q = H.q;
  rest = statements_before T.σ H.ts H.rest;
  here = here;
  items = H.items;
  offset = offset_seen here;
  within = ((statement_byte here).2, (statement_byte here).3);
  size = P.size;
  room = T.frame.room;
  deep = omega (arith, H.deep);
  known = T.known;
  earlier = T.earlier;
  named = named_in s p.functions j J.below J.items T;
  few = T.few;
  whole = subst (λ (is : List Item). FrameIn s T.S T.σ j.top T.after is) H.items T.frame;
  past = passed s T.S T.σ T.after j.top J.items T.frame h H;
  again = T.again;
}
  where
    T : Top s p.functions j.below j.depth j.top J.below J.items
    T = top_of s p.functions j.below j.depth j.top J.below J.items St.frames

    H : Head s T.S T.σ T.after j.top.ranges (j.top.n - 1) J.items
    H = head_of s T.S T.σ T.after j.top.ranges j.top.n J.items h T.frame.ranges

    here : StatementIn s T.S H.depths at H.t H.q
    here = subst (λ (a : ℕ). StatementIn s T.S H.depths a H.t H.q) (sym e) H.here

-- an answer has a value or a reason, one of them
not_both : {w : Performed} {reason : Fault} → ◌≡◌ {A = Answer} (Ok w) (Err reason) → ⊥
not_both e = let z : ◌≡◌ {A = ℕ} 0 1 = ap (λ (a : Answer). elim a [ Ok w ↦ 0 | Err r ↦ 1 ]) e in absurd (omega arith)

same_value : {w z : Performed} → ◌≡◌ {A = Answer} (Ok w) (Ok z) → w ≡ z
same_value {w} e = ap (λ (a : Answer). elim a [ Ok x ↦ x | Err r ↦ w ]) e

same_reason : {x y : Fault} → ◌≡◌ {A = Answer} (Err x) (Err y) → x ≡ y
same_reason {x} e = ap (λ (a : Answer). elim a [ Ok w ↦ x | Err r ↦ r ]) e

module _ (s : List ℕ) (p : Program) (J : rules.Job) (j : Job) (at : ℕ) (N : Next s p J j at) (St : Stands s p J j)
    (R : Region) (v : Bool) (is_free : ℕ → Bool) where
  -- the rules' move of the statement to come
  abbrev pub moved : Check Move
  moved = move R p.functions v is_free (slots_of j.top.slots) J.below (run N.σ N.t) N.rest

  -- a step leaves the job i and tells r
  abbrev pub Leaves : Job → Result Effect Fault → Type 0
  Leaves i r = Follows s p (step R p.functions v is_free J) i (told r at)

  abbrev before : rules.Job
  before = record { top = slots_of j.top.slots; below = J.below; items = run N.σ N.t ∷ N.rest }

  step_is : step R p.functions v is_free J ≡ stepped before at moved
  step_is =
      ap (λ (φ : rules.Frame). step_items R p.functions v is_free φ J.below J.items) St.top
      ∙ ap (λ (is : List Item). step_items R p.functions v is_free (slots_of j.top.slots) J.below is) N.items
      ∙ ap (λ (o : ℕ). stepped before o moved) N.offset

  follows : (i : Job) (r : Result Effect Fault) (c : Check Move) → moved ≡ c → Follows s p (stepped before at c) i (told r at) → Leaves i r
  follows i r c e F = subst (λ (S : rules.Stepped). Follows s p S i (told r at)) (sym (step_is ∙ ap (stepped before at) e)) F

  pub stays : (r : Result Effect Fault) (reason : Fault) (o : ℕ) → r ≡ Err reason → moved ≡ refused (refusal (number_of reason) o) → Leaves j r
  stays r reason o k e =
      subst (Leaves j) (sym k)
      (follows j (Err reason) (refused (refusal (number_of reason) o)) e (
        record {
          top = refl;
          sized = St.sized;
          frames = subst (λ (is : List Item). FramesIn s p.functions j.below j.depth j.top J.below is) N.items St.frames;
        },
        refl,
        refl,
      ))

  pub goes_on : (m : Move) (i : Job) → moved ≡ ok m → Stands s p m.next i → Leaves i (Ok (record { edges = m.edges; act = act_of m.act }))
  goes_on m i e w = follows i (Ok (record { edges = m.edges; act = act_of m.act })) (ok m) e (w, refl, refl)

  -- another top frame, that came by the same call
  pub frame_goes : (m : Move) (f : Frame) → moved ≡ ok m → m.next.below ≡ J.below → m.next.top ≡ slots_of f.slots
      → f.call ≡ j.top.call → f.places ≡ j.top.places
      → FrameIn s N.S N.σ f N.after m.next.items → Leaves (with_top j f) (Ok (record { edges = m.edges; act = act_of m.act }))
  frame_goes m f e b φ c l F =
      goes_on m (with_top j f) e
      (record {
        top = φ;
        sized = St.sized;
        frames = subst (λ (φs : List rules.Frame). FramesIn s p.functions j.below j.depth f φs m.next.items) (sym b)
            (N.again f m.next.items c l F);
      })

  -- an operation, by what it told
  told_stuck : (r : Result Effect Fault) (a : Answer) (reason : Fault) (c : Check Move) → moved ≡ c → Tells a J.below N.rest c → a ≡ Err reason
      → r ≡ Err reason → Leaves j r
  told_stuck r a reason c e (moves u b) t k = absurd (not_both (sym u ∙ t))
  told_stuck r a reason c e (fails {reason = i} {o = q} u) t k = stays r i q (k ∙ ap Err (same_reason (sym t ∙ u))) e

  told_moved : (a : Answer) (φ : Slots) (n : ℕ) (act : Act) (c : Check Move) → moved ≡ c → Tells a J.below N.rest c → a ≡ Ok (performed φ n act)
      → Leaves (with_top j (with_slots (advanced j.top N.q) φ)) (Ok (record { edges = n; act = act }))
  told_moved a φ n act c u (moves {φ = χ} {a = x} {e = i} {ψ = ψ} w b) t =
      let l = advanced_kept j.top N.q in
      let p = N.past in
      let same : performed ψ i (act_of x) ≡ performed φ n act = same_value (sym w ∙ t) in
      let goes = frame_goes (record { next = record { top = χ; below = J.below; items = N.rest }; act = x; edges = i }) (with_slots (advanced j.top N.q) ψ) u
      refl (sym b) l.call l.places
      (record { sized = p.sized; room = p.room; ranges = p.ranges }) in
      subst (λ (z : Performed). Leaves (with_top j (with_slots (advanced j.top N.q) z.slots)) (Ok (record { edges = z.edges; act = z.act }))) same goes
  told_moved a φ n act c u (fails w) t = absurd (not_both (sym t ∙ w))

  pub operation_stuck : (r : Result Effect Fault) (a : Answer) (reason : Fault) → Tells a J.below N.rest moved → a ≡ Err reason → r ≡ Err reason → Leaves j r
  operation_stuck r a reason T t k = told_stuck r a reason moved refl T t k

  pub operation_moved : (a : Answer) (φ : Slots) (n : ℕ) (act : Act) → Tells a J.below N.rest moved → a ≡ Ok (performed φ n act)
      → Leaves (with_top j (with_slots (advanced j.top N.q) φ)) (Ok (record { edges = n; act = act }))
  operation_moved a φ n act T t = told_moved a φ n act moved refl T t

-- a job that stands for some job of the rules has room for its ranges
pub room_there : {s : List ℕ} {j : Job} → Steady s j → j.top.n ≤ 8
room_there {s} {j} Q = (top_of s Q.p.functions j.below j.depth j.top Q.J.below Q.J.items Q.stands.frames).frame.room

pub coming : {s : List ℕ} {j : Job} {at : ℕ} (C : Comes s j at) → Next s C.steady.p C.steady.J j at
coming {s} {j} {at} C = next s C.steady.p C.steady.J j at C.steady.program C.steady.stands C.some C.here
