-- An if and a while. Their blocks stand in the file one after the other, each ending where its length word says, so what the code puts before
-- the rest is the block that the rules choose, and where the code goes on is where the statement ends.
use mathlib.Core.Bool.{Bool, true, false}
use mathlib.Core.List.{List, ◌∷◌}
use mathlib.Core.Path.{◌≡◌, refl, sym, ap, ◌∙◌, subst}
use native.Mathlib.Omega.{arith}
use Prim.Native.Nat.{ℕ, suc, ◌+◌, ◌≤◌, ◌<◌}
use lib.ListN.{length}
use Rattle.std.specs.Prelude.{Result, Ok, Err}
use Rattle.answers.specs.declared.Fault.{Fault}
use Rattle.answers.specs.Check.{Check, ok, ◌>>=◌, ◌>>◌}
use Rattle.rules.specs.Basics.{byte, word}
use Rattle.rules.specs.Region.{Region}
use Rattle.rules.specs.Syntax.{Statement, if, while, Statements, Block, block, Program}
use Rattle.rules.specs.Machine as rules
use Rattle.rules.specs.Machine.{Item, run, statements_before, Move, silent, move}
use Rattle.program.specs.In.{BlockIn, StatementsIn}
use Rattle.program.proofs.In.{block_in}
use Rattle.steps.specs.declared.Effect.{Effect}
use Rattle.steps.specs.declared.frames.Frame.{Frame}
use Rattle.steps.specs.declared.job.Job.{Job}
use Rattle.steps.specs.State.{slots_of, advanced, pushed, with_top}
use Rattle.steps.specs.Told as told
use Rattle.steps.specs.Standing.{FrameIn, Stands}
use Rattle.steps.specs.Stepping.{Comes, Anyway}
use Rattle.steps.proofs.Perform.{Refuses, Gives, bool_of, reference_of}
use Rattle.steps.proofs.Seen.{if_seen, while_seen}
use Rattle.steps.proofs.Stand.{put, advanced_kept, pushed_kept, advanced_n}
use Rattle.steps.proofs.Coming.{Next, Leaves, stays, frame_goes, next, coming}

module _ (s : List ℕ) (p : Program) (J : rules.Job) (j : Job) (at : ℕ) (N : Next s p J j at) where
  -- where the first block of the statement ends, and the second
  abbrev mid : ℕ
  mid = at + 2 + 2 + word s (at + 2)

  abbrev stop : ℕ
  stop = mid + 2 + word s mid

  pub record If : Type 0 where
    pub inside : ℕ
    pub ts : Statements N.d
    pub us : Statements N.d
    pub slot : byte s (at + 1) < 32
    pub fits : stop ≤ length s
    pub deep : N.depths ≡ suc inside
    pub first : StatementsIn s N.S inside (at + 2 + 2) mid ts
    pub second : StatementsIn s N.S inside (mid + 2) stop us
    pub ends : N.q ≡ stop
    pub tree : N.t ≡ if at (byte s (at + 1)) (block (at + 2) ts) (block mid us)

  if_of : (k : ℕ) (b c : Block N.d) → byte s (at + 1) < 32 → BlockIn s N.S N.depths (at + 2) b k → BlockIn s N.S N.depths k c N.q
      → N.t ≡ if at (byte s (at + 1)) b c → If
  if_of k b c l B C e =
      let x = block_in B in
      let C' : BlockIn s N.S N.depths mid c N.q = subst (λ (z : ℕ). BlockIn s N.S N.depths z c N.q) x.4 C in
      let y = block_in C' in
      let same : y.1 ≡ x.1 = omega (arith, x.3, y.3) in
      record {
        inside = x.1;
        ts = x.0;
        us = y.0;
        slot = l;
        fits = omega (arith, y.4, y.5);
        deep = x.3;
        first = subst (λ (z : ℕ). StatementsIn s N.S x.1 (at + 2 + 2) z x.0) x.4 x.6;
        second = subst (λ (z : ℕ). StatementsIn s N.S z (mid + 2) stop y.0) same (subst (λ (z : ℕ). StatementsIn s N.S y.1 (mid + 2) z y.0) y.4 y.6);
        ends = y.4;
        tree = e ∙ ap (λ (z : Block N.d). if at (byte s (at + 1)) z c) x.2 ∙ ap (λ (z : Block N.d). if at (byte s (at + 1)) (block (at + 2) x.0) z) y.2;
      }

  pub if_facts : byte s at ≡ 10 → If
  if_facts e = let f = if_seen N.here e in if_of f.4 f.2 f.3 f.1 f.5 f.6 f.7

  pub record While : Type 0 where
    pub inside : ℕ
    pub ts : Statements N.d
    pub slot : byte s (at + 1) < 32
    pub fits : mid ≤ length s
    pub deep : N.depths ≡ suc inside
    pub first : StatementsIn s N.S inside (at + 2 + 2) mid ts
    pub ends : N.q ≡ mid
    pub tree : N.t ≡ while at (byte s (at + 1)) (block (at + 2) ts)

  pub while_facts : byte s at ≡ 11 → While
  while_facts e =
      let f = while_seen N.here e in
      let x = block_in f.3 in
      record {
        inside = x.1;
        ts = x.0;
        slot = f.1;
        fits = omega (arith, x.4, x.5);
        deep = x.3;
        first = subst (λ (z : ℕ). StatementsIn s N.S x.1 (at + 2 + 2) z x.0) x.4 x.6;
        ends = x.4;
        tree = f.4 ∙ ap (while at (byte s (at + 1))) x.2;
      }

  -- there is room for one range more
  pub room_past : (inside : ℕ) → N.depths ≡ suc inside → (q : ℕ) (g : Frame) → g ≡ advanced j.top q → g.n + inside < 8
  room_past inside e q g k =
      let z : g.n ≡ (advanced j.top q).n = ap (λ (f : Frame). f.n) k in
      let w = advanced_n j.top q in
      omega (arith, N.deep)

  module _ (St : Stands s p J j) (R : Region) (v : Bool) (is_free : ℕ → Bool) where
    -- a step leaves the job i and tells r
    abbrev Ends : Job → Result Effect Fault → Type 0
    Ends = Leaves s p J j at N St R v is_free

    abbrev going : Statement N.d → Check Move
    going t = move R p.functions v is_free (slots_of j.top.slots) J.below (run N.σ t) N.rest

    -- a block before what comes after the frame f
    before : (f : Frame) (is : List Item) (inside a e : ℕ) (ts : Statements N.d) → f.slots ≡ j.top.slots → f.call ≡ j.top.call → f.places ≡ j.top.places
        → f.n + inside < 8
        → StatementsIn s N.S inside a e ts → FrameIn s N.S N.σ f N.after is
        → going N.t ≡ ok (silent (slots_of j.top.slots) J.below (statements_before N.σ ts is))
        → Ends (with_top j (pushed f a e)) (Ok told.silent)
    before f is inside a e ts b c d l w F m =
        let h = pushed_kept f a e in
        frame_goes s p J j at N St R v is_free (silent (slots_of j.top.slots) J.below (statements_before N.σ ts is)) (pushed f a e) m refl
        (sym (ap slots_of (h.slots ∙ b))) (h.call ∙ c) (h.places ∙ d)
        (put s N.S N.σ N.after f is F inside a e ts l w.starts w)

    module _ (isIf : byte s at ≡ 10) (x : ℕ) (ex : x ≡ byte s (at + 1)) where
      abbrev I : If
      I = if_facts isIf

      if_tree : going N.t ≡ going (if at x (block (at + 2) I.ts) (block mid I.us))
      if_tree = ap going (I.tree ∙ ap (λ (z : ℕ). if at z (block (at + 2) I.ts) (block mid I.us)) (sym ex))

      if_stuck : (r : Result Effect Fault) (reason : Fault) → r ≡ Err reason → Refuses reason (bool_of j.top.slots x) → Ends j r
      unfolding ◌>>=◌ ◌>>◌
      if_stuck r reason k e = stays s p J j at N St R v is_free r reason at k (if_tree ∙ rw (sym (e at)) refl)

      module _ (b : Bool) (h : Gives b (bool_of j.top.slots x)) (e q : ℕ) (ee : e ≡ at + 2 + 2 + word s (at + 2)) (eq : q ≡ e + 2 + word s e) (g f : Frame)
          (eg : g ≡ advanced j.top q) where
        to_stop : q ≡ stop
        to_stop = eq ∙ ap (λ (z : ℕ). z + 2 + word s z) ee

        past : g ≡ advanced j.top N.q
        past = eg ∙ ap (advanced j.top) (to_stop ∙ sym I.ends)

        if_goes : (a z : ℕ) (ts : Statements N.d) → StatementsIn s N.S I.inside a z ts
            → going N.t ≡ ok (silent (slots_of j.top.slots) J.below (statements_before N.σ ts N.rest))
            → f ≡ pushed g a z → Ends (with_top j f) (Ok told.silent)
        if_goes a z ts y m ef =
            let l = advanced_kept j.top N.q in
            subst (λ (w : Frame). Ends (with_top j w) (Ok told.silent)) (sym (ef ∙ ap (λ (w : Frame). pushed w a z) past))
            (before (advanced j.top N.q) N.rest I.inside a z ts l.slots l.call l.places (room_past I.inside I.deep N.q (advanced j.top N.q) refl) y N.past m)

        if_then : b ≡ true → f ≡ pushed g (at + 2 + 2) e → Ends (with_top j f) (Ok told.silent)
        unfolding ◌>>=◌ ◌>>◌
        if_then t ef =
            if_goes (at + 2 + 2) e I.ts (subst (λ (z : ℕ). StatementsIn s N.S I.inside (at + 2 + 2) z I.ts) (sym ee) I.first)
            (if_tree ∙ rw (sym (h at), t) refl) ef

        if_else : b ≡ false → f ≡ pushed g (e + 2) q → Ends (with_top j f) (Ok told.silent)
        unfolding ◌>>=◌ ◌>>◌
        if_else t ef =
            if_goes (e + 2) q I.us
            (subst (λ (z : ℕ). StatementsIn s N.S I.inside (z + 2) q I.us) (sym ee)
            (subst (λ (z : ℕ). StatementsIn s N.S I.inside (mid + 2) z I.us) (sym to_stop) I.second))
            (if_tree ∙ rw (sym (h at), t) refl) ef

    module _ (isWhile : byte s at ≡ 11) (x : ℕ) (ex : x ≡ byte s (at + 1)) where
      abbrev W : While
      W = while_facts isWhile

      while_tree : going N.t ≡ going (while at x (block (at + 2) W.ts))
      while_tree = ap going (W.tree ∙ ap (λ (z : ℕ). while at z (block (at + 2) W.ts)) (sym ex))

      while_stuck : (r : Result Effect Fault) (reason : Fault) → r ≡ Err reason → Refuses reason (reference_of j.top.slots x) → Ends j r
      unfolding ◌>>=◌ ◌>>◌
      while_stuck r reason k e = stays s p J j at N St R v is_free r reason at k (while_tree ∙ rw (sym (e at)) refl)

      module _ (b : Bool) (h : Gives b (reference_of j.top.slots x)) (q : ℕ) (eq : q ≡ at + 2 + 2 + word s (at + 2)) (f : Frame) where
        while_ends : b ≡ false → f ≡ advanced j.top q → Ends (with_top j f) (Ok told.silent)
        unfolding ◌>>=◌ ◌>>◌
        while_ends t ef =
            let l = advanced_kept j.top N.q in
            subst (λ (w : Frame). Ends (with_top j w) (Ok told.silent)) (sym (ef ∙ ap (advanced j.top) (eq ∙ sym W.ends)))
            (frame_goes s p J j at N St R v is_free (silent (slots_of j.top.slots) J.below N.rest) (advanced j.top N.q)
            (while_tree ∙ rw (sym (h at), t) refl) refl
            (sym (ap slots_of l.slots)) l.call l.places N.past)

        same_while : run N.σ (while at x (block (at + 2) W.ts)) ≡ run N.σ N.t
        same_while = ap (run N.σ) (sym (W.tree ∙ ap (λ (z : ℕ). while at z (block (at + 2) W.ts)) (sym ex)))

        while_goes : b ≡ true → f ≡ pushed j.top (at + 2 + 2) q → Ends (with_top j f) (Ok told.silent)
        unfolding ◌>>=◌ ◌>>◌
        while_goes t ef =
            subst (λ (w : Frame). Ends (with_top j w) (Ok told.silent)) (sym ef)
            (before j.top (run N.σ N.t ∷ N.rest) W.inside (at + 2 + 2) q W.ts refl refl refl (omega (arith, N.deep, W.deep))
            (subst (λ (z : ℕ). StatementsIn s N.S W.inside (at + 2 + 2) z W.ts) (sym eq) W.first) N.whole
            (while_tree ∙ rw (sym (h at), t)
            (ap (λ (z : Item). ok (silent (slots_of j.top.slots) J.below (statements_before N.σ W.ts (z ∷ N.rest)))) same_while)))

-- the exits of the code
module _ {s : List ℕ} {j : Job} {at : ℕ} (C : Comes s j at) (x : ℕ) (ex : x ≡ byte s (at + 1)) (r : Result Effect Fault) (reason : Fault)
    (k : r ≡ Err reason) where
  pub branch_stuck : byte s at ≡ 10 → Refuses reason (bool_of j.top.slots x) → Anyway s at j j r
  branch_stuck isIf e p J R v is_free P St = if_stuck s p J j at (next s p J j at P St C.some C.here) St R v is_free isIf x ex r reason k e

  pub repeat_stuck : byte s at ≡ 11 → Refuses reason (reference_of j.top.slots x) → Anyway s at j j r
  repeat_stuck isWhile e p J R v is_free P St = while_stuck s p J j at (next s p J j at P St C.some C.here) St R v is_free isWhile x ex r reason k e

module _ {s : List ℕ} {j : Job} {at : ℕ} (C : Comes s j at) (x : ℕ) (ex : x ≡ byte s (at + 1)) (b : Bool) where
  module _ (isIf : byte s at ≡ 10) (h : Gives b (bool_of j.top.slots x)) (e q : ℕ) (ee : e ≡ at + 2 + 2 + word s (at + 2)) (eq : q ≡ e + 2 + word s e)
      (g f : Frame) (eg : g ≡ advanced j.top q) where
    pub branch_then : b ≡ true → f ≡ pushed g (at + 2 + 2) e → Anyway s at j (with_top j f) (Ok told.silent)
    branch_then t ef p J R v is_free P St = if_then s p J j at (next s p J j at P St C.some C.here) St R v is_free isIf x ex b h e q ee eq g f eg t ef

    pub branch_else : b ≡ false → f ≡ pushed g (e + 2) q → Anyway s at j (with_top j f) (Ok told.silent)
    branch_else t ef p J R v is_free P St = if_else s p J j at (next s p J j at P St C.some C.here) St R v is_free isIf x ex b h e q ee eq g f eg t ef

  module _ (isWhile : byte s at ≡ 11) (h : Gives b (reference_of j.top.slots x)) (q : ℕ) (eq : q ≡ at + 2 + 2 + word s (at + 2)) (f : Frame) where
    pub repeat_goes : b ≡ true → f ≡ pushed j.top (at + 2 + 2) q → Anyway s at j (with_top j f) (Ok told.silent)
    repeat_goes t ef p J R v is_free P St = while_goes s p J j at (next s p J j at P St C.some C.here) St R v is_free isWhile x ex b h q eq f t ef

    pub repeat_ends : b ≡ false → f ≡ advanced j.top q → Anyway s at j (with_top j f) (Ok told.silent)
    repeat_ends t ef p J R v is_free P St = while_ends s p J j at (next s p J j at P St C.some C.here) St R v is_free isWhile x ex b h q eq f t ef

-- the same for a job that is known to stand: the numbers that the code asks for
pub record Fits (s : List ℕ) (j : Job) (at stop : ℕ) : Type 0 where
  pub size : length s ≤ 4096
  pub slot : byte s (at + 1) < 32
  pub fits : stop ≤ length s
  pub some : 0 < j.top.n
  pub room : j.top.n < 8
  pub past : (q : ℕ) (g : Frame) → g ≡ advanced j.top q → g.n < 8

module _ {s : List ℕ} {j : Job} {at : ℕ} (C : Comes s j at) where
  abbrev M : Next s C.steady.p C.steady.J j at
  M = coming C

  fits_by : (inside stop : ℕ) → M.depths ≡ suc inside → byte s (at + 1) < 32 → stop ≤ length s → Fits s j at stop
  fits_by inside stop d l f = record {
    size = M.size;
    slot = l;
    fits = f;
    some = C.some;
    room = omega (arith, M.deep);
    past = λ q g k. let z = room_past s C.steady.p C.steady.J j at M inside d q g k in omega arith;
  }

  pub if_there : byte s at ≡ 10 → Fits s j at (at + 2 + 2 + word s (at + 2) + 2 + word s (at + 2 + 2 + word s (at + 2)))
  if_there k = let f = if_facts s C.steady.p C.steady.J j at M k in fits_by f.inside _ f.deep f.slot f.fits

  pub while_there : byte s at ≡ 11 → Fits s j at (at + 2 + 2 + word s (at + 2))
  while_there k = let f = while_facts s C.steady.p C.steady.J j at M k in fits_by f.inside _ f.deep f.slot f.fits

-- the end of the second block, in the code's terms
pub stop_is : (s : List ℕ) (at e q : ℕ) → e ≡ at + 2 + 2 + word s (at + 2) → q ≡ e + 2 + word s e
    → q ≡ at + 2 + 2 + word s (at + 2) + 2 + word s (at + 2 + 2 + word s (at + 2))
stop_is s at e q ee eq = eq ∙ ap (λ (z : ℕ). z + 2 + word s z) ee
