-- A return: the caller's slots are gone through from the last argument to the first, which is the order in which the rules unbind them.
use mathlib.Core.Bool.{Bool, true, false}
use mathlib.Core.List.{List, [], ◌∷◌, map}
use mathlib.Core.Path.{◌≡◌, refl, sym, ap, ap₂, ◌∙◌, subst}
use native.Mathlib.Omega.{arith}
use Prim.Native.Nat.{ℕ, zero, suc, ◌+◌, ◌-◌, ◌≤◌, ◌<◌}
use lib.ListN.{set, length, get_or, take, drop, get_or-map}
use lib.Seq.{get_or-take, drop-cons}
use Rattle.std.specs.Prelude.{Ok}
use Rattle.rules.specs.Basics.{byte, up_to, without, set_all}
use Rattle.rules.specs.Region.{Region}
use Rattle.rules.specs.Syntax.{device, Place, at, Function, Program}
use Rattle.rules.specs.Slots as slots
use Rattle.rules.specs.Slots.{unbound, slot, is_qubit_at, kept}
use Rattle.rules.specs.Machine as rules
use Rattle.rules.specs.Machine.{Item, return, silent, stepped, step_items, step}
use Rattle.steps.specs.declared.slots.Slots.{Slots}
use Rattle.steps.specs.declared.frames.Frame.{Frame}
use Rattle.steps.specs.declared.job.Job.{Job}
use Rattle.steps.specs.State.{place_of, slots_of, location_at, frame_at, with_slots, with_top, leaving}
use Rattle.steps.specs.Standing.{CallIn, FramesIn, Stands}
use Rattle.steps.specs.Calling.{keeps, handed_back}
use Rattle.steps.specs.Told as told
use Rattle.steps.specs.Stepping.{Follows, Steady, Returns}
use Rattle.steps.proofs.Lists.{length_up_to, get_d_up_to, slice_is}
use Rattle.steps.proofs.Stand.{Ending, ending, none_left, reslotted}

-- the slots after the arguments from i on
pub record Back (xs : List ℕ) (f : Frame) (φ : Slots) (i : ℕ) (ψ : Slots) : Type 0 where
  pub same : slots_of ψ ≡ handed_back f i (drop i xs) (length xs - i) (slots_of φ)

drop_all : (L : List ℕ) → drop (length L) L ≡ []
drop_all [] = refl
drop_all (x ∷ L) = drop_all L

pub back_none : (xs : List ℕ) (f : Frame) (φ : Slots) → Back xs f φ (length xs) φ
unfolding handed_back
back_none xs f φ =
    let e : 0 ≡ length xs - length xs = omega arith in
    record { same = ap₂ (λ (n : ℕ) (ys : List ℕ). set_all unbound (without (up_to (length xs) n (keeps f)) ys) (slots_of φ)) e (sym (drop_all xs)) }

-- one argument more
module _ (xs : List ℕ) (f : Frame) (φ : Slots) (i : ℕ) (ψ : Slots) (B : Back xs f φ i ψ) (h : 0 < i) (l : i ≤ length xs) (b : Bool)
    (eb : b ≡ keeps f (i - 1)) where
  before : (χ : rules.Frame) → handed_back f (i - 1) (drop (i - 1) xs) (length xs - (i - 1)) χ
      ≡ set_all unbound (without (b ∷ up_to i (length xs - i) (keeps f)) (get_or xs (i - 1) 0 ∷ drop i xs)) χ
  unfolding handed_back
  before χ =
      let n : suc (i - 1) ≡ i = omega arith in
      let m : length xs - (i - 1) ≡ suc (length xs - i) = omega arith in
      ap (λ (k : ℕ). set_all unbound (without (up_to (i - 1) k (keeps f)) (drop (i - 1) xs)) χ) m
      ∙ ap (λ (ys : List ℕ). set_all unbound (without (keeps f (i - 1) ∷ up_to (suc (i - 1)) (length xs - i) (keeps f)) ys) χ)
      (drop-cons xs (i - 1) 0 (omega arith))
      ∙ ap (λ (k : ℕ). set_all unbound (without (keeps f (i - 1) ∷ up_to k (length xs - i) (keeps f)) (get_or xs (i - 1) 0 ∷ drop k xs)) χ) n
      ∙ ap (λ (c : Bool). set_all unbound (without (c ∷ up_to i (length xs - i) (keeps f)) (get_or xs (i - 1) 0 ∷ drop i xs)) χ) (sym eb)

  pub back_kept : b ≡ true → Back xs f φ (i - 1) ψ
  unfolding handed_back
  back_kept t = record {
    same = B.same ∙ sym (before (slots_of φ)
        ∙ ap (λ (c : Bool). set_all unbound (without (c ∷ up_to i (length xs - i) (keeps f)) (get_or xs (i - 1) 0 ∷ drop i xs)) (slots_of φ)) t);
  }

  pub back_lost : b ≡ false → (z : ℕ) → z ≡ get_or xs (i - 1) 0 → (r : Slots) → slots_of r ≡ set (slots_of ψ) z unbound → Back xs f φ (i - 1) r
  unfolding handed_back
  back_lost t z ez r e = record {
    same =
        e ∙ ap (λ (y : ℕ). set (slots_of ψ) y unbound) ez ∙ ap (λ (χ : rules.Frame). set χ (get_or xs (i - 1) 0) unbound) B.same
        ∙ sym (before (slots_of φ)
        ∙ ap (λ (c : Bool). set_all unbound (without (c ∷ up_to i (length xs - i) (keeps f)) (get_or xs (i - 1) 0 ∷ drop i xs)) (slots_of φ)) t);
  }

pub back_all : (xs : List ℕ) (f : Frame) (φ : Slots) (i : ℕ) (ψ : Slots) → Back xs f φ i ψ → i ≤ 0 → slots_of ψ ≡ handed_back f 0 xs (length xs) (slots_of φ)
back_all xs f φ i ψ B h =
    let e : i ≡ 0 = omega arith in
    B.same ∙ ap (λ (k : ℕ). handed_back f k (drop k xs) (length xs - k) (slots_of φ)) e ∙ ap (λ (k : ℕ). handed_back f 0 xs k (slots_of φ)) (omega arith)

-- two functions that agree below a number
up_to_same : {A : Type 0} (f g : ℕ → A) (p m : ℕ) → ((i : ℕ) → p ≤ i → i < p + m → f i ≡ g i) → up_to p m f ≡ up_to p m g
up_to_same f g p zero h = refl
up_to_same f g p (suc m) h =
    ap (λ (x : _). x ∷ up_to (suc p) m f) (h p (omega arith) (omega arith))
    ∙ ap (λ (l : List _). g p ∷ l) (up_to_same f g (suc p) m λ i a b. h i (omega arith) (omega arith))

module _ (s : List ℕ) (fs : List Function) (g : ℕ) (f : Frame) (ls : List (Place device)) (xs : List ℕ) (C : CallIn s fs g f ls xs) where
  arguments_are : length xs ≡ byte s (f.call + 3)
  arguments_are = ap length C.given ∙ length_up_to (byte s) (f.call + 4 + byte s (f.call + 2)) (byte s (f.call + 3))

  -- which arguments the callee ended with, as the rules have it
  kept_is : kept (slots_of f.slots) (at ls) (length xs) ≡ up_to 0 (byte s (f.call + 3)) (keeps f)
  kept_is =
      ap (kept (slots_of f.slots) (at ls)) arguments_are
      ∙ up_to_same (λ i. is_qubit_at (slot (slots_of f.slots) i) (at ls i)) (keeps f) 0 (byte s (f.call + 3)) λ i a b. ap
      (is_qubit_at (slot (slots_of f.slots) i)) (place i (omega (arith, C.fewer)))
    where
      place : (i : ℕ) → i < byte s (f.call + 2) → at ls i ≡ place_of (location_at f.places i)
      place i h =
          ap (λ (z : List (Place device)). at z i) C.located ∙ get_or-take (byte s (f.call + 2)) (map place_of f.places) i (record { no = 0 }) h
          ∙ get_or-map place_of f.places i (record { 0 = 0 })

  back_is : (χ : rules.Frame) → set_all unbound (without (kept (slots_of f.slots) (at ls) (length xs)) xs) χ
      ≡ handed_back f 0 (up_to (f.call + 4 + byte s (f.call + 2)) (byte s (f.call + 3)) (byte s)) (byte s (f.call + 3)) χ
  unfolding handed_back
  back_is χ = ap (λ (bs : List Bool). set_all unbound (without bs xs) χ) kept_is
      ∙ ap (λ (ys : List ℕ). set_all unbound (without (up_to 0 (byte s (f.call + 3)) (keeps f)) ys) χ) C.given

module _ (s : List ℕ) (p : Program) (J : rules.Job) (j : Job) (St : Stands s p J j) (n : j.top.n ≡ 0) where
  abbrev fs : List Function
  fs = p.functions

  -- the end of main is the end of the job
  pub finished : (R : Region) (v : Bool) (is_free : ℕ → Bool) → j.depth ≡ 0 → Follows s p (step R fs v is_free J) j told.finished
  finished R v is_free e =
      subst (λ (S : rules.Stepped). Follows s p S j told.finished) (sym (ap (λ (is : List Item). step_items R fs v is_free J.top J.below is) over)) (
        record { top = St.top; sized = St.sized; frames = subst (λ (is : List Item). FramesIn s fs j.below j.depth j.top J.below is) over St.frames },
        refl,
        refl,
      )
    where
      over : J.items ≡ []
      over = none_left s fs j.below j.top J.below J.items n (subst (λ (d : ℕ). FramesIn s fs j.below d j.top J.below J.items) e St.frames)

  module _ (d : 0 < j.depth) where
    pub ended : Ending s fs j.below (j.depth - 1) j.top J.below J.items
    ended = ending s fs j.below (j.depth - 1) j.top J.below J.items n (subst (λ (m : ℕ). FramesIn s fs j.below m j.top J.below J.items) (omega arith) St.frames)

    abbrev E : Ending s fs j.below (j.depth - 1) j.top J.below J.items
    E = ended

    abbrev caller : Frame
    caller = frame_at j.below (j.depth - 1)

    abbrev o : ℕ
    o = j.top.call

    returned : (R : Region) (v : Bool) (is_free : ℕ → Bool) (φ : Slots)
        → slots_of φ ≡ handed_back j.top 0 (up_to (o + 4 + byte s (o + 2)) (byte s (o + 3)) (byte s)) (byte s (o + 3)) (slots_of caller.slots)
        → Follows s p (step R fs v is_free J) (leaving j (with_slots caller φ)) (told.told (Ok told.silent) o)
    returned R v is_free φ b = subst (λ (S : rules.Stepped). Follows s p S (leaving j (with_slots caller φ)) (told.told (Ok told.silent) o)) (sym step_is)
        (leaves, refl, refl)
      where
        after : rules.Job
        after = record {
          top = set_all unbound (without (kept (slots_of j.top.slots) (at E.ls) (length E.xs)) E.xs) (slots_of caller.slots);
          below = E.χs;
          items = E.after;
        }

        step_is : step R fs v is_free J ≡ record { answer = record { code = 0; edges = 0; offset = o }; act = slots.quiet; next = after }
        step_is =
            ap (λ (φ : rules.Frame). step_items R fs v is_free φ J.below J.items) St.top
            ∙ ap (λ (φs : List rules.Frame). step_items R fs v is_free (slots_of j.top.slots) φs J.items) E.slots
            ∙ ap (λ (is : List Item). step_items R fs v is_free (slots_of j.top.slots) (slots_of caller.slots ∷ E.χs) is) E.items

        leaves : Stands s p after (leaving j (with_slots caller φ))
        leaves = record {
          top = back_is s fs E.g j.top E.ls E.xs E.call (slots_of caller.slots) ∙ sym b;
          sized = St.sized;
          frames = reslotted s fs j.below (j.depth - 1) caller E.χs E.after φ E.lower;
        }

-- what the code asks of the call that it returns from
pub record Came (s : List ℕ) (c : ℕ) (depth : ℕ) : Type 0 where
  pub fits : c + 4 + byte s (c + 2) + byte s (c + 3) ≤ length s
  pub size : length s ≤ 4096
  pub few : byte s (c + 3) ≤ 8
  pub slots : (i : ℕ) → i < byte s (c + 3) → byte s (c + 4 + byte s (c + 2) + i) < 32
  pub deep : depth ≤ 15

pub came : {s : List ℕ} {j : Job} (Q : Steady s j) → j.top.n ≡ 0 → 0 < j.depth → Came s j.top.call j.depth
came {s} {j} Q n d =
    let E = ended s Q.p Q.J j Q.stands n d in
    let C = E.call in
    record { fits = C.fits; size = Q.program.size; few = C.arguments; slots = C.bound; deep = omega (arith, E.depth, Q.program.few) }

-- the slots that were given, as the code has them
module _ {s : List ℕ} {c d : ℕ} (C : Came s c d) where
  abbrev pub given : List ℕ
  given = take (c + 4 + byte s (c + 2) + byte s (c + 3) - (c + 4 + byte s (c + 2))) (drop (c + 4 + byte s (c + 2)) s)

  given_is : given ≡ up_to (c + 4 + byte s (c + 2)) (byte s (c + 3)) (byte s)
  given_is = slice_is s (c + 4 + byte s (c + 2)) (byte s (c + 3)) C.fits

  given_length : length given ≡ byte s (c + 3)
  given_length = ap length given_is ∙ length_up_to (byte s) (c + 4 + byte s (c + 2)) (byte s (c + 3))

  pub given_fits : (length given ≤ 16) × ((i : ℕ) → i < length given → byte given i < 32)
  given_fits = (
    omega (arith, given_length, C.few),
    λ i h. let l : i < byte s (c + 3) = omega (arith, given_length, h) in
        let e : byte given i ≡ byte s (c + 4 + byte s (c + 2) + i) = ap (λ (xs : List ℕ). byte xs i) given_is
        ∙ get_d_up_to (byte s) (c + 4 + byte s (c + 2)) (byte s (c + 3)) i 0 l in
        let k = C.slots i l in omega (arith, e, k),
  )

  pub handed_is : (f : Frame) (χ : rules.Frame)
      → handed_back f 0 given (length given) χ ≡ handed_back f 0 (up_to (c + 4 + byte s (c + 2)) (byte s (c + 3)) (byte s)) (byte s (c + 3)) χ
  handed_is f χ = ap₂ (λ (xs : List ℕ) (m : ℕ). handed_back f 0 xs m χ) given_is given_length

-- what the code has in hand is the rules' return
module _ {s : List ℕ} {j : Job} (Q : Steady s j) (n : j.top.n ≡ 0) (d : 0 < j.depth) where
  pub gives_back : (i : Job) → i ≡ leaving j (frame_at j.below (j.depth - 1)) → (φ : Slots)
      → slots_of φ ≡ handed_back j.top 0 (given (came Q n d)) (length (given (came Q n d))) (slots_of i.top.slots)
      → Returns s j (with_top i (with_slots i.top φ)) j.top.call
  gives_back i e φ b =
      let k : frame_at j.below (j.depth - 1) ≡ i.top = sym (ap (λ (z : Job). z.top) e) in
      subst (λ (z : Job). Returns s j (with_top z (with_slots z.top φ)) j.top.call) (sym e)
      (λ p J R v is_free P St. returned s p J j St n d R v is_free φ
      (b ∙ ap (λ (z : Frame). handed_back j.top 0 (given (came Q n d)) (length (given (came Q n d))) (slots_of z.slots)) (sym k)
      ∙ handed_is (came Q n d) j.top (slots_of (frame_at j.below (j.depth - 1)).slots)))
