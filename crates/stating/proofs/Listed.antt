-- The lists of a call: so many decimals, one by one. Those that are read stand in the buffer, and the line goes on with those that are not.
use mathlib.Core.Bool.{true, false, false≢true}
use mathlib.Core.List.{List, [], ◌∷◌, ◌++◌, append_assoc, append-nil}
use mathlib.Core.Option.{none}
use mathlib.Core.Path.{◌≡◌, refl, sym, ap, fun_ext, ◌∙◌}
use native.Mathlib.Omega.{arith}
use Prim.Native.Nat.{ℕ, zero, suc, ◌+◌, ◌-◌, ◌<◌, ◌≤◌}
use lib.Dec.{ltb}
use lib.ListN.{length, length-append, replicate, set}
use lib.Seq.{sets, length-sets}
use borrow.Author.Tests.{lt-ltb}
use Rattle.std.specs.Prelude.{Result, Ok, Err}
use Rattle.rules.specs.declared.statements.Operand.{Operand}
use Rattle.rules.specs.declared.statements.Operand.TheVariants.{Slot, Location, Gate, Basis, Value, Callee, CalleeK, CalleeM, Nothing}
use Rattle.rules.specs.Basics.{up_to}
use Rattle.rules.specs.Program.{Scope}
use Rattle.rules.specs.Words.{Text, decimal}
use Rattle.rules.specs.Listing.{spoken, silent}
use Rattle.rules.specs.Grammar.{Grammar, ask, live, some_below}
use Rattle.rules.specs.Unlisting.{count, words_for, Sofar, operand, others, list}
use Rattle.rules.proofs.Basics.{length_up_to}
use Rattle.reading.specs.Cursor.{words_from}
use Rattle.reading.specs.Hearing.{Hearing, hears, onward, Expects, Numbers}
use Rattle.stating.specs.Statements.{Put, Took-bytes, ReadsNumbers, ReadsList}
use Rattle.reading.specs.declared.cursor.Unread.{Unread}
use Rattle.standing.proofs.Searching.{one_found}
use Rattle.standing.proofs.Meaning.{sets_behind}

-- an operand that is written is asked for
pub operand_asks : (S : Scope) (f : ℕ) (o : Operand) (k : ℕ → Grammar Sofar) → silent o ≡ false → operand S f o k ≡ ask none (words_for S o) k
operand_asks S f Slot k e = refl
operand_asks S f Location k e = refl
operand_asks S f Gate k e = refl
operand_asks S f Basis k e = refl
operand_asks S f Value k e = refl
operand_asks S f Callee k e = refl
operand_asks S f CalleeK k e = absurd (false≢true (sym e))
operand_asks S f CalleeM k e = absurd (false≢true (sym e))
operand_asks S f Nothing k e = absurd (false≢true (sym e))

-- some line goes on behind a list exactly where there is a word for it
module _ (S : Scope) (o : Operand) (s : silent o ≡ false) where
  pub live_numbers : (n : ℕ) (k : List ℕ → Grammar Sofar) → 0 < count S o → ((xs : List ℕ) → live (k xs) ≡ true)
      → live (others S 0 (replicate n o) k) ≡ true
  live_numbers zero k l h = h []
  live_numbers (suc n) k l h =
      ap live (operand_asks S 0 o (λ b. others S 0 (replicate n o) λ bs. k (b ∷ bs)) s)
      ∙ sym
      (one_found (length (words_for S o)) (λ b. live (others S 0 (replicate n o) λ bs. k (b ∷ bs))) 0
      (omega (arith, length_up_to 0 (count S o) (spoken o)))
      (live_numbers n (λ bs. k (0 ∷ bs)) l (λ xs. h (0 ∷ xs))))

  pub live_list : (n : ℕ) (k : List ℕ → Grammar Sofar) → ((xs : List ℕ) → live (k xs) ≡ true)
      → live (others S 0 (replicate (suc n) o) k) ≡ ltb 0 (count S o)
  live_list n k h = go (count S o) refl
    where
      go : (m : ℕ) → count S o ≡ m → live (others S 0 (replicate (suc n) o) k) ≡ ltb 0 m
      go zero e =
          ap live (operand_asks S 0 o (λ b. others S 0 (replicate n o) λ bs. k (b ∷ bs)) s)
          ∙ ap (λ (x : ℕ). some_below x λ b. live (others S 0 (replicate n o) λ bs. k (b ∷ bs))) (length_up_to 0 (count S o) (spoken o) ∙ e)
      go (suc m) e = live_numbers (suc n) k (omega arith) h ∙ sym (lt-ltb 0 (suc m) (omega arith))

-- j of n decimals have been read, up to a position
pub record NumbersRead (t : Text) (from end stop n limit i : ℕ) (before : List ℕ) (j at : ℕ) (after : List ℕ) : Type 0 where
  pub bytes : List ℕ
  pub many : length bytes ≡ j
  pub stand : after ≡ sets before i bytes
  pub is : (S : Scope) (o : Operand) (k : List ℕ → Grammar Sofar) → silent o ≡ false → ((x : ℕ) → spoken o x ≡ decimal x)
      → count S o ≡ limit
      → ((xs : List ℕ) → live (k xs) ≡ true)
      → hears (ltb end stop) (others S 0 (replicate n o) k) (words_from t from end)
      ≡ hears (ltb end stop) (others S 0 (replicate (n - j) o) λ xs. k (bytes ++ xs)) (words_from t at end)

module _ (t : Text) (from end stop n limit i : ℕ) (before : List ℕ) where
  pub numbers_none : NumbersRead t from end stop n limit i before 0 from before
  numbers_none =
      let e : n - 0 ≡ n = omega arith in
      record {
        bytes = [];
        many = refl;
        stand = refl;
        is = λ S o k s d l h. ap (λ (m : ℕ). hears (ltb end stop) (others S 0 (replicate m o) k) (words_from t from end)) (sym e);
      }

  module _ (j at : ℕ) (after : List ℕ) (read : NumbersRead t from end stop n limit i before j at after) where
    -- the buffer keeps its length
    pub numbers_length : length after ≡ length before
    numbers_length = ap length read.stand ∙ length-sets before i read.bytes

    -- what the line is, by the next number
    numbers_ask : (r : Result (ℕ × ℕ) Unread) → j < n → Numbers t at end stop limit r
        → (S : Scope) (o : Operand) (k : List ℕ → Grammar Sofar) → silent o ≡ false → ((x : ℕ) → spoken o x ≡ decimal x)
        → count S o ≡ limit
        → ((xs : List ℕ) → live (k xs) ≡ true)
        → hears (ltb end stop) (others S 0 (replicate n o) k) (words_from t from end)
        ≡ onward r λ x. hears (ltb end stop) (others S 0 (replicate (n - (j + 1)) o) λ xs. k ((read.bytes ++ (x.0 ∷ [])) ++ xs))
        (words_from t x.1 end)
    unfolding Numbers
    numbers_ask r l num S o k s d e h =
        let u : n - j ≡ suc (n - (j + 1)) = omega arith in
        let K : List ℕ → Grammar Sofar = λ xs. k (read.bytes ++ xs) in
        let G : ℕ → Grammar Sofar = λ v. others S 0 (replicate (n - (j + 1)) o) λ xs. k ((read.bytes ++ (v ∷ [])) ++ xs) in
        let next : (λ (v : ℕ). others S 0 (replicate (n - (j + 1)) o) λ xs. K (v ∷ xs)) ≡ G =
        fun_ext (λ v. ap (others S 0 (replicate (n - (j + 1)) o)) (fun_ext (λ xs. ap k (sym (append_assoc read.bytes (v ∷ []) xs))))) in
        let words : words_for S o ≡ up_to 0 limit decimal =
        ap (up_to 0 (count S o)) (fun_ext d) ∙ ap (λ (m : ℕ). up_to 0 m decimal) e in
        read.is S o k s d e h
        ∙ ap (λ (m : ℕ). hears (ltb end stop) (others S 0 (replicate m o) K) (words_from t at end)) u
        ∙ ap (λ (g : Grammar Sofar). hears (ltb end stop) g (words_from t at end))
        (operand_asks S 0 o (λ v. others S 0 (replicate (n - (j + 1)) o) λ xs. K (v ∷ xs)) s ∙ ap (ask none (words_for S o)) next
        ∙ ap (λ (ws : List Text). ask none ws G) words)
        ∙ num G (λ v b. live_numbers S o s (n - (j + 1)) (λ xs. k ((read.bytes ++ (v ∷ [])) ++ xs)) (omega arith)
        (λ xs. h ((read.bytes ++ (v ∷ [])) ++ xs)))

    pub numbers_next : (v q : ℕ) (then : List ℕ) → j < n → Numbers t at end stop limit (Ok (v, q)) → then ≡ set after (i + j) v
        → NumbersRead t from end stop n limit i before (j + 1) q then
    numbers_next v q then l num e = record {
      bytes = read.bytes ++ (v ∷ []);
      many = omega (arith, length-append read.bytes (v ∷ []), read.many);
      stand = e ∙ ap (λ (x : List ℕ). set x (i + j) v) read.stand ∙ ap (λ (m : ℕ). set (sets before i read.bytes) (i + m) v) (sym read.many)
          ∙ sets_behind before i read.bytes (v ∷ []);
      is = numbers_ask (Ok (v, q)) l num;
    }

    pub numbers_err : (e : Unread) (x : List ℕ) → j < n → Numbers t at end stop limit (Err e) → ReadsNumbers t from end stop n limit i before (Err e) x
    unfolding ReadsNumbers Took-bytes
    numbers_err e x l num = numbers_ask (Err e) l num

    pub numbers_all : j ≤ n → n ≤ j → ReadsNumbers t from end stop n limit i before (Ok at) after
    unfolding ReadsNumbers Took-bytes
    numbers_all l m S o k s d e h =
        let z : n - j ≡ 0 = omega arith in
        record {
          bytes = read.bytes;
          many = omega (arith, read.many);
          is = read.is S o k s d e h
              ∙ ap (λ (x : ℕ). hears (ltb end stop) (others S 0 (replicate x o) λ xs. k (read.bytes ++ xs)) (words_from t at end)) z
              ∙ ap (λ (xs : List ℕ). hears (ltb end stop) (k xs) (words_from t at end)) (append-nil read.bytes);
          stand = read.stand;
        }

-- the same bytes, read of a line that is the same
pub took_same : (h g : Hearing Sofar) (before : List ℕ) (i : ℕ) (k : List ℕ → ℕ → Hearing Sofar) (n : ℕ) (r : Result ℕ Unread) (after : List ℕ)
    → h ≡ g → Took-bytes g before i k n r after → Took-bytes h before i k n r after
unfolding Took-bytes
took_same h g before i k n (Err x) after e w = e ∙ w
took_same h g before i k n (Ok p) after e w = record { bytes = w.bytes; many = w.many; is = e ∙ w.is; stand = w.stand }

module _ (t : Text) (from end stop : ℕ) (w : Text) (n limit i : ℕ) (before : List ℕ) where
  -- an empty list has no word
  pub list_none : n ≡ 0 → ReadsList t from end stop w n limit i before (Ok from) before
  unfolding ReadsList Took-bytes
  list_none z S o k s d e h = record {
    bytes = [];
    many = sym z;
    is = ap (λ (m : ℕ). hears (ltb end stop) (list S w o m k) (words_from t from end)) z;
    stand = refl;
  }

  -- what the line is, by its next word
  list_ask : (r : Result ℕ Unread) → (n ≡ 0 → ⊥) → Expects t from end stop w (ltb 0 limit) r
      → (S : Scope) (o : Operand) (k : List ℕ → Grammar Sofar) → silent o ≡ false → count S o ≡ limit
      → ((xs : List ℕ) → live (k xs) ≡ true)
      → hears (ltb end stop) (list S w o n k) (words_from t from end)
      ≡ onward r λ q. hears (ltb end stop) (others S 0 (replicate n o) k) (words_from t q end)
  unfolding Expects
  list_ask r z x S o k s e h = go n z
    where
      go : (m : ℕ) → (m ≡ 0 → ⊥) → hears (ltb end stop) (list S w o m k) (words_from t from end)
          ≡ onward r λ q. hears (ltb end stop) (others S 0 (replicate m o) k) (words_from t q end)
      go zero y = absurd (y refl)
      go (suc m) y = x (others S 0 (replicate (suc m) o) k) (live_list S o s m k h ∙ ap (ltb 0) e)

  pub list_err : (e : Unread) (after : List ℕ) → (n ≡ 0 → ⊥) → Expects t from end stop w (ltb 0 limit) (Err e)
      → ReadsList t from end stop w n limit i before (Err e) after
  unfolding ReadsList Took-bytes
  list_err e after z x S o k s d h y = list_ask (Err e) z x S o k s h y

  pub list_read : (q : ℕ) (r : Result ℕ Unread) (after : List ℕ) → (n ≡ 0 → ⊥) → Expects t from end stop w (ltb 0 limit) (Ok q)
      → ReadsNumbers t q end stop n limit i before r after → ReadsList t from end stop w n limit i before r after
  unfolding ReadsList ReadsNumbers
  list_read q r after z x reads S o k s d e h = took_same _ _ before i _ n r after (list_ask (Ok q) z x S o k s e h) (reads S o k s d e h)

-- bytes that are read behind others
pub took_then : (h : Hearing Sofar) (before : List ℕ) (i : ℕ) (g : List ℕ → Hearing Sofar) (k : List ℕ → ℕ → Hearing Sofar) (n m : ℕ)
    (mid : List ℕ)
    (r : Result ℕ Unread) (after : List ℕ) → Put h before i g n mid → ((xs : List ℕ) → Took-bytes (g xs) mid (i + n) (λ ys. k (xs ++ ys)) m r after)
    → Took-bytes h before i k (n + m) r after
unfolding Took-bytes
took_then h before i g k n m mid (Err e) after one two = one.is ∙ two one.bytes
took_then h before i g k n m mid (Ok p) after one two =
    let more : Put (g one.bytes) mid (i + n) (λ ys. k (one.bytes ++ ys) p) m after = two one.bytes in
    record {
      bytes = one.bytes ++ more.bytes;
      many = omega (arith, length-append one.bytes more.bytes, one.many, more.many);
      is = one.is ∙ more.is;
      stand = more.stand ∙ ap (λ (x : List ℕ). sets x (i + n) more.bytes) one.stand
          ∙ ap (λ (x : ℕ). sets (sets before i one.bytes) (i + x) more.bytes) (sym one.many) ∙ sets_behind before i one.bytes more.bytes;
    }
