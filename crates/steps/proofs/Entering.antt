-- A call: the locations that the code finds are those that the rules find, so what it asks is what they ask; and the callee's frame on top of the
-- passed caller stands for the rules' job after the call. A callee comes before its caller in the file, so there is room for its frame.
use mathlib.Core.Bool.{Bool}
use mathlib.Core.List.{List, [], ◌∷◌, ◌++◌, map, map-append, append_assoc}
use mathlib.Core.List as Core
use mathlib.Core.Path.{◌≡◌, refl, sym, ap, ◌∙◌, subst}
use native.Mathlib.Numerals.{add-one}
use native.Mathlib.Omega.{arith}
use Prim.Native.Nat.{ℕ, zero, suc, ◌+◌, ◌-◌, ◌≤◌, ◌<◌}
use lib.ListN.{set, length, take, drop, replicate, length-map, length-set, length-append, get_or-map}
use lib.Seq.{length-take-le, take-suc, take-take, set_at, ext_get_or}
use Rattle.std.specs.Prelude.{Result, Ok, Err}
use Rattle.std.proofs.lemmas.List.{take-map}
use Rattle.answers.specs.declared.Fault.{Fault}
use Rattle.answers.specs.Check.{Check, ok, ◌>>◌}
use Rattle.rules.specs.declared.place.Location.{Location}
use Rattle.rules.specs.Basics.{byte, word, up_to}
use Rattle.rules.specs.Region.{Region, free_in}
use Rattle.rules.specs.Syntax.{device, parameter, Place, call, Statement, Statements, Block, block, Function, function, Program}
use Rattle.rules.specs.Slots.{unbound, qubit, entered, callable}
use Rattle.rules.specs.Machine as rules
use Rattle.rules.specs.Machine.{Actual, locate, locations, Item, run, return, statements_before, block_before, Move, silent, floor, move}
use Rattle.sets.specs.declared.LocationSet.{LocationSet}
use Rattle.device.specs.Reader.{Owned}
use Rattle.program.specs.declared.functions.Head.{Head}
use Rattle.program.specs.declared.functions.FunctionTable.{FunctionTable}
use Rattle.program.specs.In.{StatementsIn, ProgramIn, offset_of, scope_of}
use Rattle.program.specs.Reader.{entry}
use Rattle.program.proofs.In.{block_in}
use Rattle.steps.specs.declared.Effect.{Effect}
use Rattle.steps.specs.declared.slots.Slots.{Slots}
use Rattle.steps.specs.declared.frames.Frame.{Frame}
use Rattle.steps.specs.declared.job.Job.{Job}
use Rattle.steps.specs.Said.{said_at, itself}
use Rattle.steps.specs.Told as told
use Rattle.steps.specs.State.{place_of, slots_of, location_at, empty_frame, advanced, pushed, entering, located_in}
use Rattle.steps.specs.Standing.{RangesIn, FrameIn, CallIn, FramesIn, Stands}
use Rattle.steps.specs.Performing.{Maps}
use Rattle.steps.specs.Calling.{given, Callable, Enters}
use Rattle.steps.specs.Stepping.{Comes, Steady, Ready, Calls}
use Rattle.steps.proofs.Lists.{length_up_to, get_d_up_to, slice_is, given_length, given_at}
use Rattle.steps.proofs.Seen.{call_seen}
use Rattle.steps.proofs.Stand.{put, Kept, advanced_kept, pushed_kept, call_moved, entered_frames}
use Rattle.steps.proofs.Coming.{Next, Leaves, next, moved, stays, goes_on}

-- the callee's slots, one argument more
pub record Bound (places : List Location) (i : ℕ) (φ : Slots) : Type 0 where
  pub same : slots_of φ ≡ entered (given places i)

pub bound_none : (places : List Location) (φ : Slots) → slots_of φ ≡ replicate 32 unbound → Bound places 0 φ
unfolding given
bound_none places φ e = record { same = e }

given_more : (places : List Location) (i : ℕ) → i < length places → given places (i + 1) ≡ given places i ++ (place_of (location_at places i) ∷ [])
unfolding given
given_more places i h =
    ap (λ (n : ℕ). take n (map place_of places)) (add-one i) ∙ take-suc (map place_of places) i (record { no = 0 }) (omega (arith, length-map places place_of))
    ∙ ap (λ (z : Place device). take i (map place_of places) ++ (z ∷ [])) (get_or-map place_of places i (record { 0 = 0 }))

entered_more : (ls : List (Place device)) (l : Place device) (i : ℕ) → length ls ≡ i → i < 32
    → set (entered {B = Bool} ls) i (qubit l) ≡ entered (ls ++ (l ∷ []))
entered_more ls l i e h =
    let n : 32 - length ls ≡ suc (32 - (i + 1)) = omega arith in
    let z : length (ls ++ (l ∷ [])) ≡ i + 1 = length-append ls (l ∷ []) ∙ omega (arith, e) in
    ap (λ (k : ℕ). set (map qubit ls ++ replicate k unbound) i (qubit l)) n
    ∙ set_at (map qubit ls) unbound (replicate (32 - (i + 1)) unbound) (qubit l) i (length-map ls qubit ∙ e)
    ∙ sym (append_assoc (map qubit ls) (qubit l ∷ []) (replicate (32 - (i + 1)) unbound))
    ∙ ap (λ (φ : rules.Frame). φ ++ replicate (32 - (i + 1)) unbound) (sym (map-append qubit ls (l ∷ [])))
    ∙ ap (λ (k : ℕ). map qubit (ls ++ (l ∷ [])) ++ replicate (32 - k) unbound) (sym z)

pub bound_more : (places : List Location) (i : ℕ) (φ ψ : Slots) → Bound places i φ → length places ≡ 16 → i < 16
    → slots_of ψ ≡ set (slots_of φ) i (qubit (place_of (location_at places i))) → Bound places (i + 1) ψ
bound_more places i φ ψ B l h e = record {
  same =
      e ∙ ap (λ (χ : rules.Frame). set χ i (qubit (place_of (location_at places i)))) B.same
      ∙ entered_more (given places i) (place_of (location_at places i)) i (given_length places i l (omega arith)) (omega arith)
      ∙ ap entered (sym (given_more places i (omega arith)));
}

pub bound_all : (places : List Location) (i m at : ℕ) (φ : Slots) (f : Frame) → Bound places i φ → i ≡ m → f ≡ empty_frame φ places at → Enters places m at f
bound_all places i m at φ f B e k = record {
  slots = ap (λ (z : Frame). slots_of z.slots) k ∙ B.same ∙ ap (λ (n : ℕ). entered (given places n)) e;
  frame = k ∙ ap (λ (z : Frame). empty_frame z.slots places at) (sym k);
}

-- lists from functions
map_up_to : {A B : Type 0} (f : A → B) (h : ℕ → A) (p k : ℕ) → map f (up_to p k h) ≡ up_to p k (λ i. f (h i))
map_up_to f h p zero = refl
map_up_to f h p (suc k) = ap (λ (l : List _). f (h p) ∷ l) (map_up_to f h (suc p) k)

up_to_given : (h : ℕ → Place device) (places : List Location) (p k : ℕ) → length places ≡ 16 → k ≤ 16
    → ((i : ℕ) → i < k → h (p + i) ≡ place_of (location_at places i)) → up_to p k h ≡ given places k
up_to_given h places p k l m e =
    ext_get_or (record { no = 0 }) (up_to p k h) (given places k) (length_up_to h p k ∙ sym (given_length places k l m))
    λ i b. let c : i < k = omega (arith, length_up_to h p k) in get_d_up_to h p k i (record { no = 0 }) c ∙ e i c ∙ sym (given_at places k i c)

module _ (s : List ℕ) (p : Program) (J : rules.Job) (j : Job) (at : ℕ) (N : Next s p J j at) where
  abbrev fs : List Function
  fs = p.functions

  -- the callee, and how many locations and arguments the call gives
  abbrev g : ℕ
  g = byte s (at + 1)

  abbrev K : ℕ
  K = byte s (at + 2)

  abbrev m : ℕ
  m = byte s (at + 3)

  abbrev xs : List ℕ
  xs = up_to (at + 4 + K) m (byte s)

  abbrev body : ℕ
  body = offset_of (function fs g).body

  pub record Call : Type 0 where
    pub deep : g + suc j.depth ≤ length fs
    pub few : length fs ≤ 15
    pub known : K ≡ (function fs g).k
    pub most : K ≤ 16
    pub arguments : m ≤ 8
    pub fewer : m ≤ K
    pub fits : at + 4 + K + m ≤ length s
    pub ends : N.q ≡ at + 4 + K + m
    pub places : (i : ℕ) → i < K → byte s (at + 4 + i) < N.S.places
    pub bound : (i : ℕ) → i < m → byte s (at + 4 + K + i) < 32
    pub tree : N.t ≡ call at g (up_to (at + 4) K λ i. record { no = byte s i }) xs
    pub inside : ℕ
    pub shallow : 8 ≡ suc inside
    pub ts : Statements parameter
    pub body_tree : (function fs g).body ≡ block body ts
    pub body_fits : body + 2 + word s body ≤ length s
    pub body_in : StatementsIn s (scope_of fs g) inside (body + 2) (body + 2 + word s body) ts

  pub call_facts : ProgramIn s p → byte s at ≡ 12 → Call
  call_facts P e =
      let f = call_seen N.here e in
      let same : function N.S.earlier g ≡ function fs g = N.earlier g f.1 in
      let l : g < length fs = omega (arith, f.1, N.known) in
      let h = P.head g l in
      let k : K ≡ (function fs g).k = f.2 ∙ ap (λ (z : Function). z.k) same in
      let n : m ≡ (function fs g).m = f.3 ∙ ap (λ (z : Function). z.m) same in
      let b = block_in (P.body g l).1 in
      record {
        deep = omega (arith, f.1, N.known);
        few = P.few;
        known = k;
        most = omega (arith, h.0);
        arguments = omega (arith, h.1);
        fewer = omega (arith, h.2);
        fits = f.0;
        ends = f.6;
        places = f.4;
        bound = f.5;
        tree = f.7;
        inside = b.1;
        shallow = b.3;
        ts = b.0;
        body_tree = b.2;
        body_fits = omega (arith, b.4, b.5);
        body_in = subst (λ (z : ℕ). StatementsIn s (scope_of fs g) b.1 (body + 2) z b.0) b.4 b.6;
      }

  module _ (P : ProgramIn s p) (is_call : byte s at ≡ 12) (St : Stands s p J j) (R : Region) (v : Bool) (occ : List ℕ) (places : List Location)
      (lp : length places ≡ 16)
      (ep : (i : ℕ) → i < K → location_at places i ≡ located_in j (byte s (at + 4 + i))) where
    abbrev C : Call
    C = call_facts P is_call

    abbrev ls : List (Place device)
    ls = given places K

    actual_is : map (locate N.σ) (up_to (at + 4) K λ i. record { no = byte s i }) ≡ ls
    actual_is =
        map_up_to (locate N.σ) (λ i. record { no = byte s i }) (at + 4) K
        ∙ up_to_given (λ i. locate N.σ (record { no = byte s i })) places (at + 4) K lp C.most λ i h. N.named.named (byte s (at + 4 + i)) (C.places i h)
        ∙ ap place_of (sym (ep i h))

    -- the move of the call, by its locations
    abbrev asking : List (Place device) → Check (Unit {0})
    asking ks = callable (floor R fs v (free_in R occ) N.σ) at (slots_of j.top.slots) ks xs

    abbrev called : List (Place device) → Move
    called ks = silent (entered (take (length xs) ks)) (slots_of j.top.slots ∷ J.below)
        (block_before (locations ks) (function fs g).body (return at ks xs ∷ N.rest))

    calls : moved s p J j at N St R v (free_in R occ) ≡ (asking ls >> ok (called ls))
    calls =
        ap (λ (z : Statement N.d). move R fs v (free_in R occ) (slots_of j.top.slots) J.below (run N.σ z) N.rest) C.tree
        ∙ ap (λ (ks : List (Place device)). asking ks >> ok (called ks)) actual_is

    module _ (owned : LocationSet) (map : List ℕ) (O : Owned R owned) (M : Maps map occ) where
      asked : (a : Result (Unit {0}) Fault) → Callable j.top.slots xs ls owned map a → asking ls ≡ said_at itself a at
      asked a A = sym (A N.d N.σ R fs v occ O M at)

      refused_call : (r : Result Effect Fault) (reason : Fault) → r ≡ Err reason → Callable j.top.slots xs ls owned map (Err reason)
          → Leaves s p J j at N St R v (free_in R occ) j r
      unfolding ◌>>◌
      refused_call r reason k A = stays s p J j at N St R v (free_in R occ) r reason at k
          (calls ∙ ap (λ (c : Check (Unit {0})). c >> ok (called ls)) (asked (Err reason) A))

      granted_call : (f : Frame) → Callable j.top.slots xs ls owned map (Ok tt) → Enters places m at f
          → Leaves s p J j at N St R v (free_in R occ) (entering j (advanced j.top N.q) (pushed f (body + 2) (body + 2 + word s body))) (Ok told.silent)
      unfolding ◌>>◌ given RangesIn
      granted_call f A E =
          goes_on s p J j at N St R v (free_in R occ) (called ls) (entering j (advanced j.top N.q) inner)
          (calls ∙ ap (λ (c : Check (Unit {0})). c >> ok (called ls)) (asked (Ok tt) A))
          (record { top = top; sized = length-set j.below j.depth (advanced j.top N.q) ∙ St.sized; frames = frames })
        where
          inner : Frame
          inner = pushed f (body + 2) (body + 2 + word s body)

          kept : Kept f inner
          kept = pushed_kept f (body + 2) (body + 2 + word s body)

          call_is : inner.call ≡ at
          call_is = kept.call ∙ ap (λ (z : Frame). z.call) E.frame

          places_are : inner.places ≡ places
          places_are = kept.places ∙ ap (λ (z : Frame). z.places) E.frame

          after : List Item
          after = return at ls xs ∷ N.rest

          first : take (length xs) ls ≡ given places m
          first = ap (λ (n : ℕ). take n ls) (length_up_to (byte s) (at + 4 + K) m) ∙ take-take m K (Core.map place_of places) C.fewer

          top : entered (take (length xs) ls) ≡ slots_of inner.slots
          top = ap entered first ∙ sym (ap slots_of kept.slots ∙ E.slots)

          whole : CallIn s fs g (empty_frame f.slots places at) ls xs
          whole = record {
            placed = lp;
            located = refl;
            places = C.known;
            most = C.most;
            arguments = C.arguments;
            fewer = C.fewer;
            fits = C.fits;
            given =
                refl;
            bound = C.bound;
          }

          called_in : CallIn s fs g inner ls xs
          called_in = call_moved s fs g (empty_frame f.slots places at) inner ls xs call_is places_are whole

          begins : FrameIn s (scope_of fs g) (locations ls) f after after
          begins = subst (λ (z : Frame). FrameIn s (scope_of fs g) (locations ls) z after after) (sym E.frame)
              (record { sized = refl; room = omega arith; ranges = refl })

          empty : f.n ≡ 0
          empty = ap (λ (z : Frame). z.n) E.frame

          frame : FrameIn s (scope_of fs g) (locations ls) inner (return inner.call ls xs ∷ N.rest) (block_before (locations ls) (function fs g).body after)
          frame =
              subst (λ (o : ℕ). FrameIn s (scope_of fs g) (locations ls) inner (return o ls xs ∷ N.rest)
              (block_before (locations ls) (function fs g).body after)) (sym call_is)
              (subst (λ (z : Block parameter). FrameIn s (scope_of fs g) (locations ls) inner after (block_before (locations ls) z after)) (sym C.body_tree)
              (put s (scope_of fs g) (locations ls) after f after begins C.inside (body + 2) (body + 2 + word s body) C.ts (omega (arith, empty, C.shallow))
              (omega arith) C.body_in))

          lower : FramesIn s fs j.below j.depth (advanced j.top N.q) J.below N.rest
          lower = let l = advanced_kept j.top N.q in N.again (advanced j.top N.q) N.rest l.call l.places N.past

          caller_slots : slots_of (advanced j.top N.q).slots ≡ slots_of j.top.slots
          caller_slots = ap slots_of (advanced_kept j.top N.q).slots

          frames : FramesIn s fs (set j.below j.depth (advanced j.top N.q)) (j.depth + 1) inner (slots_of j.top.slots ∷ J.below)
              (block_before (locations ls) (function fs g).body after)
          frames =
              subst (λ (n : ℕ). FramesIn s fs (set j.below j.depth (advanced j.top N.q)) n inner (slots_of j.top.slots ∷ J.below)
              (block_before (locations ls) (function fs g).body after)) (sym (add-one j.depth))
              (subst (λ (φ : rules.Frame). FramesIn s fs (set j.below j.depth (advanced j.top N.q)) (suc j.depth) inner (φ ∷ J.below)
              (block_before (locations ls) (function fs g).body after)) caller_slots
              (entered_frames s fs j.below j.depth (advanced j.top N.q) inner J.below N.rest (block_before (locations ls) (function fs g).body after) g ls xs
              St.sized (omega (arith, C.deep, C.few)) C.deep lower called_in frame))

-- what the code asks of the call to come
pub record Called (s : List ℕ) (t : FunctionTable) (j : Job) (at : ℕ) : Type 0 where
  pub size : length s ≤ 4096
  pub fits : at + 4 + byte s (at + 2) + byte s (at + 3) ≤ length s
  pub most : byte s (at + 2) ≤ 16
  pub arguments : byte s (at + 3) ≤ 8
  pub fewer : byte s (at + 3) ≤ byte s (at + 2)
  pub places : 0 < j.depth → (i : ℕ) → i < byte s (at + 2) → byte s (at + 4 + i) < 16
  pub slots : (i : ℕ) → i < byte s (at + 3) → byte s (at + 4 + byte s (at + 2) + i) < 32
  pub body : (entry t (byte s (at + 1))).body + 2 + word s (entry t (byte s (at + 1))).body ≤ length s
  pub deep : j.depth < 15
  pub some : 0 < j.top.n
  pub room : j.top.n ≤ 8

pub steady : {s : List ℕ} {t : FunctionTable} {j : Job} → Ready s t j → Steady s j
steady Q = record { p = Q.p; J = Q.J; program = Q.program; stands = Q.stands }

pub called_there : {s : List ℕ} {t : FunctionTable} {j : Job} {at : ℕ} → Ready s t j → Comes s j at → byte s at ≡ 12 → Called s t j at
called_there {s} {t} {j} {at} Q D k =
    let N = next s Q.p Q.J j at Q.program Q.stands D.some D.here in
    let C = call_facts s Q.p Q.J j at N Q.program k in
    record {
      size = N.size;
      fits = C.fits;
      most = C.most;
      arguments = C.arguments;
      fewer = C.fewer;
      places = λ d i l. let a = N.few d in let b = C.places i l in omega arith;
      slots = C.bound;
      body = subst (λ (z : ℕ). z + 2 + word s z ≤ length s) (sym (Q.heads.bodies (byte s (at + 1)) (omega (arith, C.deep)))) C.body_fits;
      deep = omega (arith, C.deep, C.few);
      some = D.some;
      room = N.room;
    }

pub entered_room : {places : List Location} {m at : ℕ} {f : Frame} → Enters places m at f → f.n < 8
entered_room E = let e = ap (λ (z : Frame). z.n) E.frame in omega arith

-- the bytes of the call's locations and of its slots, as the code has them
module _ {s : List ℕ} {t : FunctionTable} {j : Job} {at : ℕ} (C : Called s t j at) where
  abbrev pub names : List ℕ
  names = take (at + 4 + byte s (at + 2) - (at + 4)) (drop (at + 4) s)

  abbrev pub lent : List ℕ
  lent = take (at + 4 + byte s (at + 2) + byte s (at + 3) - (at + 4 + byte s (at + 2))) (drop (at + 4 + byte s (at + 2)) s)

  names_are : names ≡ up_to (at + 4) (byte s (at + 2)) (byte s)
  names_are = slice_is s (at + 4) (byte s (at + 2)) (omega (arith, C.fits))

  lent_are : lent ≡ up_to (at + 4 + byte s (at + 2)) (byte s (at + 3)) (byte s)
  lent_are = slice_is s (at + 4 + byte s (at + 2)) (byte s (at + 3)) C.fits

  names_length : length names ≡ byte s (at + 2)
  names_length = ap length names_are ∙ length_up_to (byte s) (at + 4) (byte s (at + 2))

  lent_length : length lent ≡ byte s (at + 3)
  lent_length = ap length lent_are ∙ length_up_to (byte s) (at + 4 + byte s (at + 2)) (byte s (at + 3))

  name_at : (i : ℕ) → i < byte s (at + 2) → byte names i ≡ byte s (at + 4 + i)
  name_at i h = ap (λ (xs : List ℕ). byte xs i) names_are ∙ get_d_up_to (byte s) (at + 4) (byte s (at + 2)) i 0 h

  lent_at : (i : ℕ) → i < byte s (at + 3) → byte lent i ≡ byte s (at + 4 + byte s (at + 2) + i)
  lent_at i h = ap (λ (xs : List ℕ). byte xs i) lent_are ∙ get_d_up_to (byte s) (at + 4 + byte s (at + 2)) (byte s (at + 3)) i 0 h

  pub places_fit : (length names ≤ 16) × (0 < j.depth → (i : ℕ) → i < length names → byte names i < 16)
  places_fit = (
    omega (arith, names_length, C.most),
    λ d i h. let l : i < byte s (at + 2) = omega (arith, names_length, h) in let e = name_at i l in let k = C.places d i l in omega (arith, e, k),
  )

  pub slots_fit : (places : List Location) → length places ≡ 16
      → (length lent ≤ length (take (byte s (at + 2)) places)) × (length (take (byte s (at + 2)) places) ≤ 16) × ((i : ℕ) → i < length lent → byte lent i < 32)
  slots_fit places l =
      let k : length (take (byte s (at + 2)) places) ≡ byte s (at + 2) = length-take-le (byte s (at + 2)) places (omega (arith, l, C.most)) in (
        omega (arith, lent_length, k, C.fewer),
        omega (arith, k, C.most),
        λ i h. let b : i < byte s (at + 3) = omega (arith, lent_length, h) in let e = lent_at i b in let f = C.slots i b in omega (arith, e, f),
      )

  pub places_bound : (places : List Location) → length places ≡ 16 → byte s (at + 2) ≤ length places
  places_bound places l = omega (arith, l, C.most)

  pub places_taken : (places : List Location) → length places ≡ 16 → byte s (at + 2) ≡ length (take (byte s (at + 2)) places)
  places_taken places l = sym (length-take-le (byte s (at + 2)) places (places_bound places l))

  -- the callee's body
  pub body_fits : (h : Head) → h ≡ entry t (byte s (at + 1)) → (h.body + 2 + word s h.body ≤ length s) × (length s ≤ 4096)
  body_fits h e = (subst (λ (z : Head). z.body + 2 + word s z.body ≤ length s) (sym e) C.body, C.size)

  -- what they ask is what the call asks
  in_lists : (places : List Location) (owned : LocationSet) (m : List ℕ) (a : Result (Unit {0}) Fault)
      → Callable j.top.slots lent (map place_of (take (byte s (at + 2)) places)) owned m a
      → Callable j.top.slots (up_to (at + 4 + byte s (at + 2)) (byte s (at + 3)) (byte s)) (given places (byte s (at + 2))) owned m a
  unfolding given
  in_lists places owned m a A =
      subst (λ (xs : List ℕ). Callable j.top.slots xs (take (byte s (at + 2)) (map place_of places)) owned m a) lent_are
      (subst (λ (ls : List (Place device)). Callable j.top.slots lent ls owned m a) (sym (take-map place_of (byte s (at + 2)) places)) A)

-- the exits of the call, over what the code has in hand
module _ {s : List ℕ} {t : FunctionTable} {j : Job} {at : ℕ} (Q : Ready s t j) (D : Comes s j at) (is : byte s at ≡ 12) (owned : LocationSet) (map : List ℕ)
    (places : List Location) (lp : length places ≡ 16)
    (ep : (i : ℕ) → i < length (names (called_there Q D is)) → location_at places i ≡ located_in j (byte (names (called_there Q D is)) i)) where
  abbrev F : Called s t j at
  F = called_there Q D is

  located : (i : ℕ) → i < byte s (at + 2) → location_at places i ≡ located_in j (byte s (at + 4 + i))
  located i l = ep i (omega (arith, names_length F, l)) ∙ ap (located_in j) (name_at F i l)

  pub call_refused : (r : Result Effect Fault) (reason : Fault) → r ≡ Err reason
      → Callable j.top.slots (lent F) (Core.map place_of (take (byte s (at + 2)) places)) owned map (Err reason)
      → Calls s t at owned map j j r
  call_refused r reason k A p J R v occ P H St O M =
      refused_call s p J j at (next s p J j at P St D.some D.here) P is St R v occ places lp located owned map O M r reason k
      (in_lists F places owned map (Err reason) A)

  pub call_granted : (h : Head) (e : ℕ) (f inner adv : Frame) (i : Job)
      → Callable j.top.slots (lent F) (Core.map place_of (take (byte s (at + 2)) places)) owned map (Ok tt) → h ≡ entry t (byte s (at + 1))
      → e ≡ h.body + 2 + word s h.body → Enters places (byte s (at + 3)) at f → inner ≡ pushed f (h.body + 2) e
      → adv ≡ advanced j.top (at + 4 + byte s (at + 2) + byte s (at + 3))
      → i ≡ entering j adv inner → Calls s t at owned map j i (Ok told.silent)
  call_granted h e f inner adv i A eb ee E ei ev ej p J R v occ P H St O M =
      let N = next s p J j at P St D.some D.here in
      let C = call_facts s p J j at N P is in
      let body_is : h.body ≡ offset_of (function p.functions (byte s (at + 1))).body = ap (λ (z : Head). z.body) eb
      ∙ H.bodies (byte s (at + 1)) (omega (arith, C.deep)) in
      let inner_is : inner ≡ pushed f (offset_of (function p.functions (byte s (at + 1))).body + 2)
      (offset_of (function p.functions (byte s (at + 1))).body + 2 + word s (offset_of (function p.functions (byte s (at + 1))).body)) =
      ei ∙ ap (pushed f (h.body + 2)) ee ∙ ap (λ (z : ℕ). pushed f (z + 2) (z + 2 + word s z)) body_is in
      subst (λ (z : Job). Leaves s p J j at N St R v (free_in R occ) z (Ok told.silent))
      (sym (ej ∙ ap (λ (z : Frame). entering j z inner) (ev ∙ ap (advanced j.top) (sym C.ends)) ∙ ap (entering j (advanced j.top N.q)) inner_is))
      (granted_call s p J j at N P is St R v occ places lp located owned map O M f (in_lists F places owned map (Ok tt) A) E)
