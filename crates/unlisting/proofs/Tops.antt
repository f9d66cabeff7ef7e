-- Lines outside functions and main. No block is open there, so the bytes laid down are those of the functions so far, and a function has room exactly where
-- the definition says. A function's line is asked for first.
use mathlib.Core.Bool.{Bool, true, false, false≢true}
use mathlib.Core.List.{List, [], ◌∷◌, ◌++◌, append_assoc, append-nil}
use mathlib.Core.Option.{Option, none, some}
use mathlib.Core.Path.{◌≡◌, refl, sym, ap, subst, ◌∙◌}
use native.Mathlib.Omega.{arith}
use Prim.Native.Nat.{ℕ, ◌+◌, ◌<◌, ◌≤◌}
use borrow.Author.Tests.{lt-ltb, le-ltb, leb-true}
use lib.Dec.{ltb, leb}
use lib.ListN.{length}
use lib.Seq.{sets}
use Rattle.std.specs.Prelude.{Result, Ok, Err}
use Rattle.rules.specs.Basics.{up_to}
use Rattle.rules.specs.Words.{Text, decimal}
use Rattle.rules.specs.Names.{arguments, main}
use Rattle.rules.specs.Grammar.{Grammar, ask, stop, word, live}
use Rattle.rules.specs.Syntax.{Function}
use Rattle.rules.specs.Unlisting.{Opened, Sofar, function_begun, function_line, function_lines, main_begun, main_line, top_lines}
use Rattle.reading.specs.Cursor.{words_from}
use Rattle.reading.specs.Hearing.{Hearing, not, begun, took, hears, hears_one, onward, Expects, Numbers}
use Rattle.reading.specs.declared.cursor.Unread.{Unread}
use Rattle.reading.specs.declared.cursor.Unread.TheVariants.{Not, Begun}
use Rattle.reading.proofs.Hearings.{begun_not_not, took_not_not, hears_one_lem, hears_both, live_word}
use Rattle.standing.specs.declared.state.Standing.{Standing}
use Rattle.standing.specs.Numbers.{room_of, function_of, main_of}
use Rattle.standing.specs.Means.{outside, laid, After, Means}
use Rattle.standing.proofs.Meaning.{means_function, means_main, top_used, top_owed, top_after, sets_behind}
use Rattle.stating.specs.Statements.{LineAs, ReadsLine}
use Rattle.unlisting.specs.Lines.{FunctionWords, Arguments, most_arguments, functions_of, mains_of, tops_of}
use Rattle.unlisting.proofs.Heads.{live_decimals}

-- outside blocks and before main
module _ (c : Standing) (p : Sofar) (m : Means c p) where
  pub none_open : c.depth ≡ 0 → p.open_blocks ≡ []
  none_open d = go p.open_blocks (sym m.depth ∙ d)
    where
      go : (os : List Opened) → length os ≡ 0 → os ≡ []
      go [] e = refl
      go (o ∷ os) e = absurd (omega arith)

  pub before_main : c.in_main ≡ false → (fs : List Function) × (p.after ≡ some fs)
  unfolding After
  before_main i = go p.after m.after
    where
      go : (a : Option (List Function)) → After c a → (fs : List Function) × (a ≡ some fs)
      go none h = absurd (false≢true (sym i ∙ h.0))
      go (some fs) h = (fs, refl)

  pub in_main : c.in_main ≡ true → p.after ≡ none
  unfolding After
  in_main i = go p.after m.after
    where
      go : (a : Option (List Function)) → After c a → a ≡ none
      go none h = refl
      go (some fs) h = absurd (false≢true (sym h.0 ∙ i))

  module _ (fs : List Function) (a : p.after ≡ some fs) where
    pub functions_are : (c.functions ≡ length fs) × (length fs ≤ 15)
    unfolding After
    functions_are = let t : After c (some fs) = top_after c p fs m a in (t.1, t.2.few)

    -- the lines of functions that the program so far offers
    functions_as : functions_of p ≡ function_lines fs p.bytes
    functions_as =
        ap {B = List (Grammar Sofar)} (λ (x : Option (List Function)). elim x [ none ↦ [] | some gs ↦ function_lines gs p.bytes ]) a

    mains_as : mains_of p ≡ main_line fs p.bytes ∷ []
    mains_as = ap {B = List (Grammar Sofar)} (λ (x : Option (List Function)). elim x [ none ↦ [] | some gs ↦ main_line gs p.bytes ∷ [] ]) a

    module _ (d : c.depth ≡ 0) where
      room_top : room_of c 4 ≡ leb (12 + length p.bytes) 4096
      room_top =
          let n : c.used + c.owed + 4 ≡ 12 + length p.bytes = omega (arith, top_used c p m (none_open d), top_owed c p fs m (none_open d) a) in
          ap (λ (x : ℕ). leb x 4096) n

      functions_by : (x y : Bool) → room_of c 4 ≡ x → ltb (length fs) 15 ≡ y
          → functions_of p ≡ elim x [ true ↦ elim y [ true ↦ function_line fs p.bytes ∷ [] | false ↦ [] ] | false ↦ [] ]
      functions_by x y r l =
          functions_as
          ∙ ap {B = List (Grammar Sofar)} (λ (b : Bool). elim b [
            | true ↦ elim (ltb (length fs) 15) [ true ↦ function_line fs p.bytes ∷ [] | false ↦ [] ]
            | false ↦ []
          ]) (sym room_top ∙ r)
          ∙ ap {B = List (Grammar Sofar)}
          (λ (b : Bool). elim x [ true ↦ elim b [ true ↦ function_line fs p.bytes ∷ [] | false ↦ [] ] | false ↦ [] ]) l

pub functions_few : (c : Standing) (p : Sofar) → Means c p → c.in_main ≡ false → c.functions ≤ 15
functions_few c p m i =
    let a : (fs : List Function) × (p.after ≡ some fs) = before_main c p m i in
    omega (arith, functions_are c p m a.0 a.1)

-- what is behind the words of a function's line: its locations, its arguments
abbrev arguments_of : List Function → List ℕ → ℕ → Grammar Sofar
arguments_of fs F k = word arguments (ask none (up_to 0 (most_arguments k) decimal) λ m. stop (some (function_begun fs F k m)))

abbrev locations_of : List Function → List ℕ → Grammar Sofar
locations_of fs F = ask none (up_to 0 17 decimal) (arguments_of fs F)

live_arguments : (fs : List Function) (F : List ℕ) (k : ℕ) → live (arguments_of fs F k) ≡ true
live_arguments fs F k =
    live_word arguments (ask none (up_to 0 (most_arguments k) decimal) λ m. stop (some (function_begun fs F k m)))
    ∙ live_decimals (most_arguments k) (λ m. stop (some (function_begun fs F k m))) (omega arith) refl

module _ (c : Standing) (i : c.in_main ≡ false) (p : Sofar) (m : Means c p) where
  abbrev fs : List Function
  fs = (before_main c p m i).0

  abbrev after_fs : p.after ≡ some fs
  after_fs = (before_main c p m i).1

  module _ (t : Text) (at end full : ℕ) where
    -- main's line
    pub main_heard : (r : Result ℕ Unread) → Expects t at end full main true r
        → hears_one (ltb end full) (mains_of p) (words_from t at end)
        ≡ onward r λ q. hears (ltb end full) (stop (some (main_begun fs p.bytes))) (words_from t q end)
    unfolding Expects
    main_heard r x =
        ap (λ (gs : List (Grammar Sofar)). hears_one (ltb end full) gs (words_from t at end)) (mains_as c p m fs after_fs)
        ∙ hears_one_lem (ltb end full) (main_line fs p.bytes) (words_from t at end) ∙ x (stop (some (main_begun fs p.bytes))) refl

    -- a function's line: where one may not stand, and where one may
    module _ (d : c.depth ≡ 0) where
      pub room_none : room_of c 4 ≡ false → hears_one (ltb end full) (functions_of p) (words_from t at end) ≡ not
      unfolding hears_one
      room_none r =
          ap (λ (gs : List (Grammar Sofar)). hears_one (ltb end full) gs (words_from t at end)) (functions_by c p m fs after_fs d false _ r refl)

      pub number_none : room_of c 4 ≡ true → c.functions ≡ 15 → hears_one (ltb end full) (functions_of p) (words_from t at end) ≡ not
      unfolding hears_one
      number_none r f =
          ap (λ (gs : List (Grammar Sofar)). hears_one (ltb end full) gs (words_from t at end))
          (functions_by c p m fs after_fs d true false r (le-ltb (length fs) 15 (omega (arith, functions_are c p m fs after_fs))))

      pub words_heard : (u : Result ℕ Unread) → room_of c 4 ≡ true → (c.functions ≡ 15 → ⊥) → FunctionWords t at end full c.functions u
          → hears_one (ltb end full) (functions_of p) (words_from t at end) ≡ onward u λ q. hears (ltb end full) (locations_of fs p.bytes) (words_from t q end)
      unfolding FunctionWords
      words_heard u r f x =
          let n : c.functions ≡ length fs = (functions_are c p m fs after_fs).0 in
          ap (λ (gs : List (Grammar Sofar)). hears_one (ltb end full) gs (words_from t at end))
          (functions_by c p m fs after_fs d true true r (lt-ltb (length fs) 15 (omega (arith, functions_are c p m fs after_fs))))
          ∙ hears_one_lem (ltb end full) (function_line fs p.bytes) (words_from t at end)
          ∙ subst (λ (z : ℕ). FunctionWords t at end full z u) n x (locations_of fs p.bytes)
          (live_decimals 17 (arguments_of fs p.bytes) (omega arith) (live_arguments fs p.bytes 0))

    pub locations_heard : (v : Result (ℕ × ℕ) Unread) → Numbers t at end full 17 v
        → hears (ltb end full) (locations_of fs p.bytes) (words_from t at end)
        ≡ onward v λ n. hears (ltb end full) (arguments_of fs p.bytes n.0) (words_from t n.1 end)
    unfolding Numbers
    locations_heard v y = y (arguments_of fs p.bytes) λ k l. live_arguments fs p.bytes k

    pub arguments_heard : (k : ℕ) (w : Result (ℕ × ℕ) Unread) → Arguments t at end full k w
        → hears (ltb end full) (arguments_of fs p.bytes k) (words_from t at end)
        ≡ onward w λ n. hears (ltb end full) (stop (some (function_begun fs p.bytes k n.0))) (words_from t n.1 end)
    unfolding Arguments
    arguments_heard k w z = z (λ n. stop (some (function_begun fs p.bytes k n))) λ n l. refl

  -- where it is taken, its head and an empty length word stand behind the functions so far; or main's length word does
  module _ (d : c.depth ≡ 0) (D before : List ℕ) (b : before ≡ sets D 6 (laid p)) where
    -- bytes put behind those of the functions so far
    put_behind : (bytes after : List ℕ) → after ≡ sets before c.used bytes → after ≡ sets D 6 (p.bytes ++ bytes)
    put_behind bytes after e =
        let o : p.open_blocks ≡ [] = none_open c p m d in
        e ∙ ap (λ (j : ℕ). sets before j bytes) (top_used c p m o)
        ∙ ap (λ (E : List ℕ). sets E (6 + length p.bytes) bytes) (b ∙ ap (λ (os : List Opened). sets D 6 (outside os ++ p.bytes)) o)
        ∙ sets_behind D 6 p.bytes bytes

    pub function_laid : (k n : ℕ) (after : List ℕ) → after ≡ sets before c.used (k ∷ n ∷ 0 ∷ 0 ∷ []) → after ≡ sets D 6 (laid (function_begun fs p.bytes k n))
    function_laid k n after e =
        put_behind (k ∷ n ∷ 0 ∷ 0 ∷ []) after e
        ∙ ap (sets D 6) (sym (append-nil ((p.bytes ++ (k ∷ n ∷ [])) ++ (0 ∷ 0 ∷ [])) ∙ append_assoc p.bytes (k ∷ n ∷ []) (0 ∷ 0 ∷ [])))

    pub function_means : (k n : ℕ) → room_of c 4 ≡ true → (c.functions ≡ 15 → ⊥) → k < 17 → n < 9
        → Means (function_of c k n) (function_begun fs p.bytes k n)
    function_means k n r f lk ln =
        let o : p.open_blocks ≡ [] = none_open c p m d in
        let owed : c.owed ≡ 2 = top_owed c p fs m o after_fs in
        let room : c.used + c.owed + 4 ≤ 4096 = leb-true (c.used + c.owed + 4) 4096 r in
        means_function c p fs k n m o after_fs (omega (arith, functions_are c p m fs after_fs)) (omega arith) (omega arith) (omega arith)

    pub main_laid : (after : List ℕ) → after ≡ sets before c.used (0 ∷ 0 ∷ []) → after ≡ sets D 6 (laid (main_begun fs p.bytes))
    main_laid after e = put_behind (0 ∷ 0 ∷ []) after e ∙ ap (sets D 6) (sym (append-nil (p.bytes ++ (0 ∷ 0 ∷ []))))

    pub main_means : Means (main_of c) (main_begun fs p.bytes)
    main_means = means_main c p fs m (none_open c p m d) after_fs

-- both: a function's line is asked for first
hears_left : (whole : Bool) (gs hs : List (Grammar Sofar)) (ws : List Text) (h : Hearing Sofar) → hears_one whole gs ws ≡ h → (h ≡ not → ⊥)
    → hears_one whole (gs ++ hs) ws ≡ h
unfolding hears_one
hears_left whole [] hs ws h e n = absurd (n (sym e))
hears_left whole (g ∷ gs) hs ws h e n = go (hears whole g ws) (hears_left whole gs hs ws h) e
  where
    go : (x : Hearing Sofar) → (hears_one whole gs ws ≡ h → (h ≡ not → ⊥) → hears_one whole (gs ++ hs) ws ≡ h)
        → ◌≡◌ {A = Hearing Sofar} (elim x [ not ↦ hears_one whole gs ws | begun ↦ begun | took a ↦ took a ]) h
        → ◌≡◌ {A = Hearing Sofar} (elim x [ not ↦ hears_one whole (gs ++ hs) ws | begun ↦ begun | took a ↦ took a ]) h
    go not rec q = rec q n
    go begun rec q = q
    go (took a) rec q = q

module _ (t : Text) (at end full : ℕ) (c : Standing) where
  tops_as : (i : c.in_main ≡ false) (p : Sofar) → Means c p → tops_of p ≡ functions_of p ++ mains_of p
  tops_as i p m =
      let a : (fs : List Function) × (p.after ≡ some fs) = before_main c p m i in
      ap (λ (x : Option (List Function)). top_lines x p.bytes) a.1
      ∙ sym (ap (λ (gs : List (Grammar Sofar)). gs ++ mains_of p) (functions_as c p m a.0 a.1)
      ∙ ap (λ (gs : List (Grammar Sofar)). function_lines a.0 p.bytes ++ gs) (mains_as c p m a.0 a.1))

  pub nothing_in_main : (before after : List ℕ) → c.in_main ≡ true → ReadsLine t at end full tops_of c before (Err Not) after
  unfolding hears_one ReadsLine LineAs
  nothing_in_main before after i = λ p D m b.
      ap (λ (x : Option (List Function)). hears_one (ltb end full) (top_lines x p.bytes) (words_from t at end)) (in_main c p m i)

  module _ (i : c.in_main ≡ false) (before : List ℕ) where
    pub main_after : (between after : List ℕ) (r : Result Standing Unread) → ReadsLine t at end full functions_of c before (Err Not) between
        → between ≡ before → ReadsLine t at end full mains_of c between r after → ReadsLine t at end full tops_of c before r after
    unfolding ReadsLine LineAs
    main_after between after r x k y = λ p D m b.
        subst (λ (h : Hearing Sofar). LineAs h D r after)
        (sym (ap (λ (gs : List (Grammar Sofar)). hears_one (ltb end full) gs (words_from t at end)) (tops_as i p m)
        ∙ hears_both (ltb end full) (functions_of p) (mains_of p) (words_from t at end) (x p D m b)))
        (y p D m (k ∙ b))

    tops_heard : (p : Sofar) → Means c p → (h : Hearing Sofar) → hears_one (ltb end full) (functions_of p) (words_from t at end) ≡ h
        → (h ≡ not → ⊥) → hears_one (ltb end full) (tops_of p) (words_from t at end) ≡ h
    tops_heard p m h e k =
        ap (λ (gs : List (Grammar Sofar)). hears_one (ltb end full) gs (words_from t at end)) (tops_as i p m)
        ∙ hears_left (ltb end full) (functions_of p) (mains_of p) (words_from t at end) h e k

    pub function_begins : (after : List ℕ) → ReadsLine t at end full functions_of c before (Err Begun) after
        → ReadsLine t at end full tops_of c before (Err Begun) after
    unfolding ReadsLine LineAs
    function_begins after x = λ p D m b. tops_heard p m begun (x p D m b) begun_not_not

    pub function_taken : (after : List ℕ) (s : Standing) → ReadsLine t at end full functions_of c before (Ok s) after
        → ReadsLine t at end full tops_of c before (Ok s) after
    unfolding ReadsLine LineAs
    function_taken after s x = λ p D m b.
        let line = x p D m b in
        record {
          program = line.program;
          is = tops_heard p m (took line.program) line.is (took_not_not line.program);
          means = line.means;
          stand = line.stand;
        }
