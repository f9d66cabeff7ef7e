-- Jobs that stand for jobs of the rules: the statement to come, and what stands after it was passed, after a block was put before the rest, after
-- a call and after a return. Ranges and frames are stacks in arrays, so each law says that a store past what is in use changes nothing, or that the
-- store is the new last one.
use mathlib.Core.Bool.{Bool, true, false}
use mathlib.Core.List.{List, [], ◌∷◌, map}
use mathlib.Core.Path.{◌≡◌, refl, sym, ap, ◌∙◌, subst}
use native.Mathlib.Omega.{arith}
use Prim.Native.Nat.{ℕ, zero, suc, ◌+◌, ◌-◌, ◌≤◌, ◌<◌}
use lib.Dec.{eqb}
use lib.ListN.{get_or, length, take, set, length-set, get_or-map}
use lib.Seq.{get_or-set_same, get_or-set_other, get_or-take, length-take-le}
use borrow.Author.Tests.{eqb-true, eq-eqb}
use Rattle.rules.specs.declared.place.Location.{Location}
use Rattle.rules.specs.Basics.{chosen, byte}
use Rattle.rules.specs.Syntax.{Side, device, parameter, Place, location, Statement, Statements, Function, function}
use Rattle.rules.specs.Program.{Scope}
use Rattle.rules.specs.Machine as rules
use Rattle.rules.specs.Machine.{Actual, themselves, locations, locate, Item, run, return, statements_before}
use Rattle.program.specs.In.{StatementIn, StatementsIn, scope_of, main_scope}
use Rattle.program.proofs.In.{statements_end, statements_next}
use Rattle.steps.specs.declared.slots.Slots.{Slots}
use Rattle.steps.specs.declared.frames.Range.{Range}
use Rattle.steps.specs.declared.frames.Frame.{Frame}
use Rattle.steps.specs.State.{place_of, slots_of, location_at, range, range_at, with_slots, with_ranges, advanced, pushed, no_frame, frame_at}
use Rattle.steps.specs.Standing.{RangesIn, FrameIn, CallIn, FramesIn}

module _ {d : Side} (s : List ℕ) (S : Scope) (σ : Actual d) (after : List Item) where
  -- a store past the ranges in use
  ranges_set : (rs : List Range) (i : ℕ) (r : Range) (n : ℕ) (is : List Item) → n ≤ i → RangesIn s S σ rs after n is → RangesIn s S σ (set rs i r) after n is
  unfolding RangesIn
  ranges_set rs i r zero is h R = R
  ranges_set rs i r (suc n) is h R =
      (R.0, R.1, R.2, rw (get_or-set_other rs i n r (range 0 0) (λ e. omega arith)) R.3, ranges_set rs i r n R.2 (omega arith) R.4, R.5)

  -- the statement to come, range number i being the last
  pub record Head (rs : List Range) (i : ℕ) (is : List Item) : Type 0 where
    pub depths : ℕ
    pub t : Statement d
    pub q : ℕ
    pub ts : Statements d
    pub rest : List Item
    pub here : StatementIn s S depths (range_at rs i).at t q
    pub more : StatementsIn s S depths q (range_at rs i).end ts
    pub ends : q ≤ (range_at rs i).end
    pub deep : i + depths < 8
    pub lower : RangesIn s S σ rs after i rest
    pub items : is ≡ run σ t ∷ statements_before σ ts rest

  head_at : (rs : List Range) (i : ℕ) (is : List Item) → RangesIn s S σ rs after (suc i) is → Head rs i is
  unfolding RangesIn
  head_at rs i is R =
      let w = R.3 in
      let p = statements_next w.reads w.some in
      record {
        depths = R.0;
        t = p.0;
        q = p.1;
        ts = p.2;
        rest = R.2;
        here = p.4;
        more = p.5;
        ends = p.7;
        deep = w.deep;
        lower = R.4;
        items = R.5 ∙ ap (λ (z : Statements d). statements_before σ z R.2) p.3;
      }

  pub head_of : (rs : List Range) (n : ℕ) (is : List Item) → 0 < n → RangesIn s S σ rs after n is → Head rs (n - 1) is
  head_of rs n is h R = head_at rs (n - 1) is (subst (λ (m : ℕ). RangesIn s S σ rs after m is) (omega arith) R)

  -- the ranges after the statement to come
  advance_ranges : (f : Frame) (is : List Item) → 0 < f.n → f.n ≤ 8 → length f.ranges ≡ 8 → (H : Head f.ranges (f.n - 1) is)
      → RangesIn s S σ (advanced f H.q).ranges after (advanced f H.q).n (statements_before σ H.ts H.rest)
  unfolding advanced RangesIn
  advance_ranges f is h l z H = go (eqb H.q e) refl
    where
      i : ℕ
      i = f.n - 1

      e : ℕ
      e = (range_at f.ranges (f.n - 1)).end

      over : H.q ≡ e → RangesIn s S σ f.ranges after i (statements_before σ H.ts H.rest)
      over g = subst (λ (ts : Statements d). RangesIn s S σ f.ranges after i (statements_before σ ts H.rest)) (sym (statements_end H.more g)) H.lower

      more : (H.q ≡ e → ⊥) → (n : ℕ) → n ≡ suc i → RangesIn s S σ (set f.ranges i (range H.q e)) after n (statements_before σ H.ts H.rest)
      more g n k = rw k (
        H.depths,
        H.ts,
        H.rest,
        rw (get_or-set_same f.ranges (f.n - 1) (range H.q e) (range 0 0) (omega arith))
            (record { reads = H.more; some = omega (arith, g, H.ends); deep = H.deep }),
        ranges_set f.ranges (f.n - 1) (range H.q e) (f.n - 1) H.rest (omega arith) H.lower,
        refl,
      )

      go : (b : Bool) → eqb H.q e ≡ b
          → RangesIn s S σ (chosen b (with_ranges f f.ranges i) (with_ranges f (set f.ranges i (range H.q e)) f.n)).ranges after
          (chosen b (with_ranges f f.ranges i) (with_ranges f (set f.ranges i (range H.q e)) f.n)).n (statements_before σ H.ts H.rest)
      go true t = over (eqb-true _ _ t)
      go false t = more (λ k. let z : ◌≡◌ {A = ℕ} 0 1 = cc (eq-eqb H.q e k) in omega arith) f.n (omega arith)

  -- a block's statements before the ranges
  push_ranges : (f : Frame) (is : List Item) (depths a e : ℕ) (ts : Statements d) → f.n + depths < 8 → a ≤ e → length f.ranges ≡ 8
      → StatementsIn s S depths a e ts
      → RangesIn s S σ f.ranges after f.n is → RangesIn s S σ (pushed f a e).ranges after (pushed f a e).n (statements_before σ ts is)
  unfolding pushed RangesIn
  push_ranges f is depths a e ts h l z w R = go (eqb a e) refl
    where
      none : a ≡ e → RangesIn s S σ f.ranges after f.n (statements_before σ ts is)
      none g = subst (λ (x : Statements d). RangesIn s S σ f.ranges after f.n (statements_before σ x is)) (sym (statements_end w g)) R

      more : (a ≡ e → ⊥) → (n : ℕ) → n ≡ suc f.n → RangesIn s S σ (set f.ranges f.n (range a e)) after n (statements_before σ ts is)
      more g n k = rw k (
        depths,
        ts,
        is,
        rw (get_or-set_same f.ranges f.n (range a e) (range 0 0) (omega arith)) (record { reads = w; some = omega (arith, g); deep = h }),
        ranges_set f.ranges f.n (range a e) f.n is (omega arith) R,
        refl,
      )

      go : (b : Bool) → eqb a e ≡ b
          → RangesIn s S σ (chosen b f (with_ranges f (set f.ranges f.n (range a e)) (f.n + 1))).ranges after
          (chosen b f (with_ranges f (set f.ranges f.n (range a e)) (f.n + 1))).n (statements_before σ ts is)
      go true t = none (eqb-true _ _ t)
      go false t = more (λ k. let z : ◌≡◌ {A = ℕ} 0 1 = cc (eq-eqb a e k) in omega arith) (f.n + 1) (omega arith)

-- what a frame keeps
module _ (f : Frame) where
  pub record Kept (f' : Frame) : Type 0 where
    pub call : f'.call ≡ f.call
    pub places : f'.places ≡ f.places
    pub slots : f'.slots ≡ f.slots
    pub size : length f'.ranges ≡ length f.ranges

  chosen_kept : (b : Bool) (g h : Frame) → Kept g → Kept h → Kept (chosen b g h)
  chosen_kept true g h k l = k
  chosen_kept false g h k l = l

  pub advanced_kept : (p : ℕ) → Kept (advanced f p)
  unfolding advanced
  advanced_kept p =
      let e = (range_at f.ranges (f.n - 1)).end in
      chosen_kept (eqb p e) (with_ranges f f.ranges (f.n - 1)) (with_ranges f (set f.ranges (f.n - 1) (range p e)) f.n)
      (record { call = refl; places = refl; slots = refl; size = refl })
      (record { call = refl; places = refl; slots = refl; size = length-set f.ranges (f.n - 1) (range p e) })

  pub pushed_kept : (a e : ℕ) → Kept (pushed f a e)
  unfolding pushed
  pushed_kept a e =
      chosen_kept (eqb a e) f (with_ranges f (set f.ranges f.n (range a e)) (f.n + 1)) (record { call = refl; places = refl; slots = refl; size = refl })
      (record { call = refl; places = refl; slots = refl; size = length-set f.ranges f.n (range a e) })

  chosen_n : (b : Bool) (g h : Frame) (m : ℕ) → g.n ≤ m → h.n ≤ m → (chosen b g h).n ≤ m
  chosen_n true g h m k l = k
  chosen_n false g h m k l = l

  pub advanced_n : (p : ℕ) → (advanced f p).n ≤ f.n
  unfolding advanced
  advanced_n p =
      let e = (range_at f.ranges (f.n - 1)).end in
      chosen_n (eqb p e) (with_ranges f f.ranges (f.n - 1)) (with_ranges f (set f.ranges (f.n - 1) (range p e)) f.n) f.n (omega arith) (omega arith)

  pub pushed_n : (a e : ℕ) → (pushed f a e).n ≤ f.n + 1
  unfolding pushed
  pushed_n a e = chosen_n (eqb a e) f (with_ranges f (set f.ranges f.n (range a e)) (f.n + 1)) (f.n + 1) (omega arith) (omega arith)

-- a frame past its statement to come, and with a block put before the rest
module _ {d : Side} (s : List ℕ) (S : Scope) (σ : Actual d) (after : List Item) (f : Frame) (is : List Item) (F : FrameIn s S σ f after is) where
  pub passed : 0 < f.n → (H : Head s S σ after f.ranges (f.n - 1) is) → FrameIn s S σ (advanced f H.q) after (statements_before σ H.ts H.rest)
  passed h H = record {
    sized = (advanced_kept f H.q).size ∙ F.sized;
    room = omega (arith, advanced_n f H.q, F.room);
    ranges = advance_ranges s S σ after f is h F.room F.sized H;
  }

  pub put : (depths a e : ℕ) (ts : Statements d) → f.n + depths < 8 → a ≤ e → StatementsIn s S depths a e ts
      → FrameIn s S σ (pushed f a e) after (statements_before σ ts is)
  put depths a e ts h l w = record {
    sized = (pushed_kept f a e).size ∙ F.sized;
    room = omega (arith, pushed_n f a e);
    ranges = push_ranges s S σ after f is depths a e ts h l F.sized w F.ranges;
  }

module _ (s : List ℕ) (fs : List Function) where
  -- the top frame, at any depth: its scope and what its places are, and that it can be changed
  pub record Top (below : List Frame) (depth : ℕ) (f : Frame) (φs : List rules.Frame) (is : List Item) : Type 0 where
    pub d : Side
    pub S : Scope
    pub σ : Actual d
    pub after : List Item
    pub frame : FrameIn s S σ f after is
    pub known : length S.earlier + depth ≤ length fs
    pub earlier : (g : ℕ) → g < length S.earlier → function S.earlier g ≡ function fs g
    pub main : (b : ℕ) → depth ≡ 0 → locate σ (record { no = b }) ≡ location b
    pub inner : (b : ℕ) → 0 < depth → b < S.places → locate σ (record { no = b }) ≡ place_of (location_at f.places b)
    pub few : 0 < depth → S.places ≤ 16
    pub again : (f' : Frame) (is' : List Item) → f'.call ≡ f.call → f'.places ≡ f.places → FrameIn s S σ f' after is' → FramesIn s fs below depth f' φs is'

  pub call_moved : (g : ℕ) (f f' : Frame) (ls : List (Place device)) (xs : List ℕ) → f'.call ≡ f.call → f'.places ≡ f.places → CallIn s fs g f ls xs
      → CallIn s fs g f' ls xs
  call_moved g f f' ls xs e k C = record {
    placed = rw k C.placed;
    located = rw (e, k) C.located;
    places = rw e C.places;
    most = rw e C.most;
    arguments = rw e C.arguments;
    fewer = rw e C.fewer;
    fits = rw e C.fits;
    given = rw e C.given;
    bound = rw e C.bound;
  }

  place_at : (places : List Location) (k b : ℕ) (ls : List (Place device)) → ls ≡ take k (map place_of places) → b < k
      → locate (locations ls) (record { no = b }) ≡ place_of (location_at places b)
  place_at places k b ls e h =
      ap (λ (z : List (Place device)). get_or z b (record { no = 0 })) e ∙ get_or-take k (map place_of places) b (record { no = 0 }) h
      ∙ get_or-map place_of places b (record { 0 = 0 })

  pub top_of : (below : List Frame) (depth : ℕ) (f : Frame) (φs : List rules.Frame) (is : List Item) → FramesIn s fs below depth f φs is
      → Top below depth f φs is
  unfolding FramesIn
  top_of below zero f φs is R = record {
    d = device;
    S = main_scope fs;
    σ = themselves;
    after = [];
    frame = R.0;
    known = omega arith;
    earlier = λ g h. refl;
    main = λ b e. refl;
    inner = λ b l h. absurd (omega arith);
    few = λ l. absurd (omega arith);
    again = λ f' is' e k F. (F, R.1);
  }
  top_of below (suc d) f φs is R =
      let C = R.6 in
      let l : length (take R.0 fs) ≡ R.0 = length-take-le R.0 fs (omega (arith, R.5)) in
      record {
        d = parameter;
        S = scope_of fs R.0;
        σ = locations R.1;
        after = return f.call R.1 R.2 ∷ R.3;
        frame = R.7;
        known = omega (arith, R.5);
        earlier = λ g h. get_or-take R.0 fs g _ (omega arith);
        main = λ b e. absurd (omega arith);
        inner = λ b z h. place_at f.places (byte s (f.call + 2)) b R.1 C.located (omega (arith, C.places));
        few = λ z. omega (arith, C.most, C.places);
        again = λ f' is' e k F. (
          R.0,
          R.1,
          R.2,
          R.3,
          R.4,
          R.5,
          call_moved R.0 f f' R.1 R.2 e k C,
          subst
              (λ (o : ℕ). FrameIn s (scope_of fs R.0) (locations R.1) f' (return o R.1 R.2 ∷ R.3) is') (sym e) F,
          R.8,
          R.9,
        );
      }

  -- a store past the frames in use
  frames_set : (below : List Frame) (i : ℕ) (t : Frame) (d : ℕ) (f : Frame) (φs : List rules.Frame) (is : List Item) → d ≤ i → FramesIn s fs below d f φs is
      → FramesIn s fs (set below i t) d f φs is
  unfolding FramesIn
  frames_set below i t zero f φs is h R = R
  frames_set below i t (suc d) f φs is h R =
      let e : frame_at (set below i t) d ≡ frame_at below d = get_or-set_other below i d t no_frame (λ k. omega arith) in (
        R.0,
        R.1,
        R.2,
        R.3,
        R.4,
        R.5,
        R.6,
        R.7,
        subst (λ (g : Frame). FramesIn s fs (set below i t) d g R.4 R.3) (sym e) (frames_set below i t d (frame_at below d) R.4 R.3 (omega arith) R.8),
        R.9 ∙ ap (λ (g : Frame). slots_of g.slots ∷ R.4) (sym e),
      )

  -- a frame more: f, called from t
  pub entered_frames : (below : List Frame) (d : ℕ) (t f : Frame) (φs : List rules.Frame) (rest is : List Item) (g : ℕ) (ls : List (Place device))
      (xs : List ℕ) → length below ≡ 15 → d < 15 → g + suc d ≤ length fs
      → FramesIn s fs below d t φs rest → CallIn s fs g f ls xs → FrameIn s (scope_of fs g) (locations ls) f (return f.call ls xs ∷ rest) is
      → FramesIn s fs (set below d t) (suc d) f (slots_of t.slots ∷ φs) is
  unfolding FramesIn
  entered_frames below d t f φs rest is g ls xs l h n R C F =
      let k : frame_at (set below d t) d ≡ t = get_or-set_same below d t no_frame (omega arith) in (
        g,
        ls,
        xs,
        rest,
        φs,
        n,
        C,
        F,
        subst (λ (z : Frame). FramesIn s fs (set below d t) d z φs rest) (sym k) (frames_set below d t d t φs rest (omega arith) R),
        ap (λ (z : Frame). slots_of z.slots ∷ φs) (sym k),
      )

  -- what stands where a called frame has no range left
  pub record Ending (below : List Frame) (d : ℕ) (f : Frame) (φs : List rules.Frame) (is : List Item) : Type 0 where
    pub g : ℕ
    pub ls : List (Place device)
    pub xs : List ℕ
    pub after : List Item
    pub χs : List rules.Frame
    pub call : CallIn s fs g f ls xs
    pub items : is ≡ return f.call ls xs ∷ after
    pub lower : FramesIn s fs below d (frame_at below d) χs after
    pub slots : φs ≡ slots_of (frame_at below d).slots ∷ χs
    pub depth : g + suc d ≤ length fs

  pub ending : (below : List Frame) (d : ℕ) (f : Frame) (φs : List rules.Frame) (is : List Item) → f.n ≡ 0 → FramesIn s fs below (suc d) f φs is
      → Ending below d f φs is
  unfolding FramesIn RangesIn
  ending below d f φs is e R = record {
    g = R.0;
    ls = R.1;
    xs = R.2;
    after = R.3;
    χs = R.4;
    call = R.6;
    items = subst (λ (n : ℕ). RangesIn s (scope_of fs R.0) (locations R.1) f.ranges (return f.call R.1 R.2 ∷ R.3) n is) e R.7.ranges;
    lower = R.8;
    slots = R.9;
    depth = R.5;
  }

  -- main has no range left: nothing is to come
  pub none_left : (below : List Frame) (f : Frame) (φs : List rules.Frame) (is : List Item) → f.n ≡ 0 → FramesIn s fs below 0 f φs is → is ≡ []
  unfolding FramesIn RangesIn
  none_left below f φs is e R = subst (λ (n : ℕ). RangesIn s (main_scope fs) themselves f.ranges [] n is) e R.0.ranges

  -- other slots in the top frame
  pub reslotted : (below : List Frame) (d : ℕ) (f : Frame) (φs : List rules.Frame) (is : List Item) (φ : Slots) → FramesIn s fs below d f φs is
      → FramesIn s fs below d (with_slots f φ) φs is
  reslotted below d f φs is φ R =
      let w = top_of below d f φs is R in
      let x = w.frame in
      w.again (with_slots f φ) is refl refl (record { sized = x.sized; room = x.room; ranges = x.ranges })
