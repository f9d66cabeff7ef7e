-- The operands of a statement, one by one: those that are read stand in the buffer behind the statement's byte, and the line goes on with the others. An
-- operand that is written is looked for among the words for it; one that is not is known.
use mathlib.Core.Bool.{Bool, true, false, ◌&&◌, false≢true}
use mathlib.Core.List.{List, [], ◌∷◌, ◌++◌, append_assoc, append-nil}
use mathlib.Core.Option.{Option, none, some}
use mathlib.Core.Path.{◌≡◌, refl, sym, ap, subst, fun_ext, ◌∙◌}
use native.Mathlib.Omega.{arith}
use Prim.Native.Nat.{ℕ, zero, suc, ◌+◌, ◌-◌, ◌<◌, ◌≤◌}
use lib.Dec.{T, eqb, ltb, leb}
use lib.ListN.{get_or, set, take, drop, length, length-append}
use lib.Seq.{sets, drop-cons, drop-length, take-suc}
use borrow.Author.Tests.{eqb-true, ltb-true, ne_eqb, eq-eqb, lt-ltb, le-ltb, lt-leb}
use Rattle.std.specs.Prelude as std
use Rattle.std.specs.Prelude.{Result, Ok, Err, None, Some}
use Rattle.rules.specs.declared.statements.Operand.{Operand}
use Rattle.rules.specs.declared.statements.Operand.TheVariants.{Slot, Location, Gate, Basis, Value, Callee, CalleeK, CalleeM, Nothing}
use Rattle.rules.specs.Basics.{chosen, all, up_to}
use Rattle.rules.specs.Words.{Text}
use Rattle.rules.specs.Table.{Row, row_of, size_of, operand_at}
use Rattle.rules.specs.Listing.{silent}
use Rattle.rules.specs.Grammar.{Grammar, ask}
use Rattle.rules.specs.Unlisting.{words_for, Sofar, operand, operands, others, made}
use Rattle.rules.proofs.Basics.{all_up_to}
use Rattle.rules.proofs.Tests.{T→eq, and_left, and_right}
use Rattle.reading.specs.Cursor.{part, words_from, below, Valued}
use Rattle.reading.specs.Hearing.{Hearing, not, begun, hears, NextWord}
use Rattle.standing.specs.Numbers.{words_of, count_of, unwritten_of, operand_begins}
use Rattle.standing.specs.Means.{Means}
use Rattle.stating.specs.Statements.{OperandsAs, ReadsOperands, ReadsOperand}
use Rattle.standing.specs.From.{from_operand}
use Rattle.standing.specs.declared.state.Standing.{Standing}
use Rattle.reading.specs.declared.cursor.Unread.{Unread}
use Rattle.reading.specs.declared.cursor.Unread.TheVariants.{Not, Begun}
use Rattle.reading.specs.declared.cursor.Next.TheVariants.{Nothing as NoWord, Unfinished, To}
use Rattle.reading.proofs.Hearings.{hears_ask, hears_nothing}
use Rattle.standing.proofs.Thirteen.{row_size, row_operand}
use Rattle.standing.proofs.Meaning.{sets_behind}
use Rattle.standing.proofs.Lives.{words_is, count_is, count_most, unwritten_k, unwritten_m, operand_begins_lem}
use Rattle.stating.proofs.Listed.{operand_asks}

-- only a call has operands that are not written, and those are its last two
abbrev quiet_by : ℕ → ℕ → Bool → Bool → Bool
quiet_by b n past s = elim past [ true ↦ true | false ↦ elim s [ true ↦ eqb b 12 && ltb 1 n | false ↦ true ] ]

abbrev quiet : ℕ → ℕ → Bool
quiet b n = quiet_by b n (leb (size_of b) n) (silent (operand_at b n))

pub silent_call : (b n : ℕ) → 0 < b → b < 14 → 0 < n → n < 6 → n < size_of b → silent (operand_at b n) ≡ true → (b ≡ 12) × (1 < n)
silent_call b n l h m k s e =
    let each : T (all (quiet b) (up_to 1 5 λ i. i)) = all_up_to (λ x. all (quiet x) (up_to 1 5 λ i. i)) 1 13 tt b l (omega arith) in
    let one : T (quiet b n) = all_up_to (quiet b) 1 5 each n m (omega arith) in
    let both : eqb b 12 && ltb 1 n ≡ true =
    T→eq (eqb b 12 && ltb 1 n)
    (subst (λ (x : Bool). T (quiet_by b n false x)) e (subst (λ (x : Bool). T (quiet_by b n x (silent (operand_at b n)))) (lt-leb (size_of b) n s) one)) in
    (eqb-true b 12 (and_left (eqb b 12) (ltb 1 n) both), ltb-true 1 n (and_right (eqb b 12) (ltb 1 n) both))

-- the first operand of a call is the one that is written
pub written_first : (b n : ℕ) → 0 < n → n < size_of b → silent (operand_at b n) ≡ false → b ≡ 12 → n ≡ 1
written_first b n l h s e =
    go n l (subst (λ (x : ℕ). n < size_of x) e h) (subst (λ (x : ℕ). silent (operand_at x n) ≡ false) e s)
  where
    go : (i : ℕ) → 0 < i → i < 4 → silent (operand_at 12 i) ≡ false → i ≡ 1
    go zero x y z = absurd (omega arith)
    go (suc zero) x y z = refl
    go (suc (suc zero)) x y z = absurd (false≢true (sym z))
    go (suc (suc (suc zero))) x y z = absurd (false≢true (sym z))
    go (suc (suc (suc (suc i)))) x y z = absurd (omega arith)

-- the operand that is next
row_next : (b : ℕ) (row : Row) (n : ℕ) → row_of b ≡ some row → 0 < n → n < size_of b
    → drop (n - 1) row.operands ≡ operand_at b n ∷ drop n row.operands
row_next b row n is p l =
    let i : suc (n - 1) ≡ n = omega arith in
    drop-cons row.operands (n - 1) Nothing (omega (arith, row_size b row is))
    ∙ ap (λ (o : Operand). o ∷ drop (suc (n - 1)) row.operands) (sym (row_operand b row is (n - 1)))
    ∙ ap (λ (k : ℕ). operand_at b k ∷ drop k row.operands) i

-- an operand that is not written
unwritten_is : (c : Standing) (p : Sofar) (f : ℕ) (o : Operand) (v : ℕ) (k : ℕ → Grammar Sofar) → Means c p → f < c.callees → silent o ≡ true
    → v ≡ unwritten_of c o f → operand p.scope f o k ≡ k v
unwritten_is c p f Slot v k mean l s e = absurd (false≢true s)
unwritten_is c p f Location v k mean l s e = absurd (false≢true s)
unwritten_is c p f Gate v k mean l s e = absurd (false≢true s)
unwritten_is c p f Basis v k mean l s e = absurd (false≢true s)
unwritten_is c p f Value v k mean l s e = absurd (false≢true s)
unwritten_is c p f Callee v k mean l s e = absurd (false≢true s)
unwritten_is c p f CalleeK v k mean l s e = ap k (sym (e ∙ unwritten_k c p mean f l))
unwritten_is c p f CalleeM v k mean l s e = ap k (sym (e ∙ unwritten_m c p mean f l))
unwritten_is c p f Nothing v k mean l s e = ap k (sym e)

module _ (p : Sofar) (row : Row) (b : ℕ) where
  -- behind the first operand
  from_later : (n f : ℕ) (os : List Operand) (xs : List ℕ) → (n ≡ 1 → ⊥)
      → from_operand p row b n f os xs ≡ others p.scope f os (λ ys. made p row.meaning (b ∷ (xs ++ ys)))
  unfolding from_operand
  from_later n f os xs h =
      ap (λ (x : Bool). chosen x (operands p.scope os λ ys. made p row.meaning (b ∷ ys))
      (others p.scope f os λ ys. made p row.meaning (b ∷ (xs ++ ys))))
      (ne_eqb n 1 h)

  -- a byte more
  from_more : (n f : ℕ) (os : List Operand) (xs : List ℕ) (v : ℕ) → (n ≡ 1 → ⊥)
      → others p.scope f os (λ ys. made p row.meaning (b ∷ (xs ++ (v ∷ ys)))) ≡ from_operand p row b n f os (xs ++ (v ∷ []))
  from_more n f os xs v h =
      ap (others p.scope f os) (fun_ext (λ ys. ap (λ (zs : List ℕ). made p row.meaning (b ∷ zs)) (sym (append_assoc xs (v ∷ []) ys))))
      ∙ sym (from_later n f os (xs ++ (v ∷ [])) h)

  -- an operand that is written is asked for
  from_asks : (f : ℕ) (o : Operand) (os : List Operand) (xs : List ℕ) → silent o ≡ false
      → from_operand p row b (suc (length xs)) f (o ∷ os) xs
      ≡ ask none (words_for p.scope o) (λ v. from_operand p row b (suc (length xs) + 1) (chosen (eqb (suc (length xs)) 1) v f) os (xs ++ (v ∷ [])))
  unfolding from_operand
  from_asks f o os [] s = operand_asks p.scope 0 o (λ v. others p.scope v os λ ys. made p row.meaning (b ∷ (v ∷ ys))) s
  from_asks f o os (x ∷ xs) s =
      from_later (suc (length (x ∷ xs))) f (o ∷ os) (x ∷ xs) (λ e. omega arith)
      ∙ operand_asks p.scope f o (λ v. others p.scope f os λ ys. made p row.meaning (b ∷ ((x ∷ xs) ++ (v ∷ ys)))) s
      ∙ ap (ask none (words_for p.scope o))
      (fun_ext
      (λ v. from_more (suc (length (x ∷ xs)) + 1) f os (x ∷ xs) v (λ e. omega arith)
      ∙ ap (λ (y : Bool). from_operand p row b (suc (length (x ∷ xs)) + 1) (chosen y v f) os ((x ∷ xs) ++ (v ∷ [])))
      (sym (ne_eqb (suc (length (x ∷ xs))) 1 (λ e. omega arith)))))

  -- one that is not written is known
  from_silent : (c : Standing) (n f v : ℕ) (o : Operand) (os : List Operand) (xs : List ℕ) → Means c p → 1 < n → f < c.callees → silent o ≡ true
      → v ≡ unwritten_of c o f → from_operand p row b n f (o ∷ os) xs ≡ from_operand p row b (n + 1) f os (xs ++ (v ∷ []))
  from_silent c n f v o os xs mean l h s e =
      from_later n f (o ∷ os) xs (λ z. omega arith)
      ∙ unwritten_is c p f o v (λ x. others p.scope f os λ ys. made p row.meaning (b ∷ (xs ++ (x ∷ ys)))) mean h s e
      ∙ from_more (n + 1) f os xs v (λ z. omega arith)

-- a call's operands, where f is its callee
abbrev call_operands : Standing → ℕ → List ℕ
call_operands c f = f ∷ unwritten_of c CalleeK f ∷ unwritten_of c CalleeM f ∷ []

no_bytes : (xs : List ℕ) → length xs ≡ 0 → xs ≡ []
no_bytes [] z = refl
no_bytes (x ∷ xs) z = absurd (omega arith)

known_at : (c : Standing) (f i : ℕ) → 0 < i → i < 3 → unwritten_of c (operand_at 12 (suc i)) f ≡ get_or (call_operands c f) i 0
known_at c f zero l h = absurd (omega arith)
known_at c f (suc zero) l h = refl
known_at c f (suc (suc zero)) l h = refl
known_at c f (suc (suc (suc i))) l h = absurd (omega arith)

-- operand number n of statement b, which is written
module _ (t : Text) (at end stop b n first : ℕ) (c : Standing) (low : 0 < n) (inside : n < size_of b) (spoken : silent (operand_at b n) ≡ false) where
  abbrev after : Sofar → Row → List ℕ → ℕ → Grammar Sofar
  after p row xs v = from_operand p row b (n + 1) (chosen (eqb n 1) v first) (drop n row.operands) (xs ++ (v ∷ []))

  abbrev operand_line : Sofar → Row → List ℕ → Hearing Sofar
  operand_line p row xs = hears (ltb end stop) (from_operand p row b n first (drop (n - 1) row.operands) xs) (words_from t at end)

  -- it is asked for
  asks : (p : Sofar) (row : Row) (xs : List ℕ) → row_of b ≡ some row → length xs + 1 ≡ n
      → operand_line p row xs ≡ hears (ltb end stop) (ask none (words_for p.scope (operand_at b n)) (after p row xs)) (words_from t at end)
  asks p row xs is many =
      let i : suc (length xs) ≡ n = omega arith in
      let os : List Operand = drop n row.operands in
      ap (λ (g : Grammar Sofar). hears (ltb end stop) g (words_from t at end))
      (ap (λ (os : List Operand). from_operand p row b n first os xs) (row_next b row n is low inside)
      ∙ ap (λ (k : ℕ). from_operand p row b k first (operand_at b n ∷ os) xs) (sym i)
      ∙ from_asks p row b first (operand_at b n) os xs spoken
      ∙ ap (λ (k : ℕ). ask none (words_for p.scope (operand_at b n))
      (λ v. from_operand p row b (k + 1) (chosen (eqb k 1) v first) os (xs ++ (v ∷ [])))) i)

  -- no word is left for it
  pub operand_nothing : NextWord t at end stop NoWord → ReadsOperand t at end stop b n first c (Err Not)
  unfolding ReadsOperand
  operand_nothing next p row xs mean is many =
      asks p row xs is many ∙ ap (hears (ltb end stop) (ask none (words_for p.scope (operand_at b n)) (after p row xs))) next
      ∙ hears_nothing (ltb end stop) _ _

  -- it is unfinished
  unfinished : NextWord t at end stop Unfinished → (p : Sofar) (row : Row) (xs : List ℕ) → Means c p → row_of b ≡ some row → length xs + 1 ≡ n
      → operand_line p row xs ≡ chosen (operand_begins c (part t at end) b n first) begun not
  unfinished next p row xs mean is many =
      let os : List Operand = drop n row.operands in
      let there = row_next b row n is low inside in
      ap (λ (os : List Operand). hears (ltb end stop) (from_operand p row b n first os xs) (words_from t at end)) there
      ∙ ap (λ (whole : Bool). hears whole (from_operand p row b n first (operand_at b n ∷ os) xs) (words_from t at end)) next.1
      ∙ ap (hears false (from_operand p row b n first (operand_at b n ∷ os) xs)) next.0
      ∙ operand_begins_lem c p mean row b is n first (operand_at b n) os xs (omega arith) there (omega arith) spoken
      (written_first b n low inside spoken) (part t at end)

  pub operand_begun : NextWord t at end stop Unfinished → operand_begins c (part t at end) b n first ≡ true
      → ReadsOperand t at end stop b n first c (Err Begun)
  unfolding ReadsOperand
  operand_begun next e p row xs mean is many = unfinished next p row xs mean is many ∙ ap (λ (z : Bool). chosen z begun not) e

  pub operand_unbegun : NextWord t at end stop Unfinished → operand_begins c (part t at end) b n first ≡ false
      → ReadsOperand t at end stop b n first c (Err Not)
  unfolding ReadsOperand
  operand_unbegun next e p row xs mean is many = unfinished next p row xs mean is many ∙ ap (λ (z : Bool). chosen z begun not) e

  -- it is a word, which is its place among those for it
  module _ (to : ℕ) (next : NextWord t at end stop (To to)) where
    abbrev placed : Sofar → Row → List ℕ → Option ℕ → Hearing Sofar
    placed p row xs o = elim o [ none ↦ not | some v ↦ hears (ltb end stop) (after p row xs v) (words_from t (to + 1) end) ]

    word_is : (r : std.Option ℕ) → Valued (operand_at b n) (part t at to) r → (p : Sofar) (row : Row) (xs : List ℕ) → Means c p
        → row_of b ≡ some row → length xs + 1 ≡ n → operand_line p row xs ≡ placed p row xs (below r (count_of c (operand_at b n)))
    word_is r valued p row xs mean is many =
        let words : List Text = words_for p.scope (operand_at b n) in
        asks p row xs is many ∙ ap (hears (ltb end stop) (ask none words (after p row xs))) next.0
        ∙ hears_ask (ltb end stop) none words (after p row xs) (part t at to) (words_from t (to + 1) end) next.1
        ∙ ap (placed p row xs)
        (valued.placed p.scope (count_most c p mean (operand_at b n)) ∙ ap (below r) (sym (count_is c p mean (operand_at b n))))

    pub operand_none : Valued (operand_at b n) (part t at to) None → ReadsOperand t at end stop b n first c (Err Not)
    unfolding ReadsOperand
    operand_none valued = word_is None valued

    module _ (v : ℕ) (valued : Valued (operand_at b n) (part t at to) (Some v)) where
      pub operand_above : count_of c (operand_at b n) ≤ v → ReadsOperand t at end stop b n first c (Err Not)
      unfolding ReadsOperand
      operand_above h p row xs mean is many =
          word_is (Some v) valued p row xs mean is many
          ∙ ap (λ (z : Bool). placed p row xs (chosen z (some v) none)) (le-ltb v (count_of c (operand_at b n)) h)

      pub operand_word : v < words_of c (operand_at b n) → ReadsOperand t at end stop b n first c (Ok (v, to + 1))
      unfolding ReadsOperand
      operand_word h p row xs mean is many =
          let below : v < count_of c (operand_at b n) = omega (arith, h, words_is c p mean (operand_at b n), count_is c p mean (operand_at b n)) in
          word_is (Some v) valued p row xs mean is many
          ∙ ap (λ (z : Bool). placed p row xs (chosen z (some v) none)) (lt-ltb v (count_of c (operand_at b n)) below)

-- the operands before number n have been read, up to a position
pub record OperandsRead (t : Text) (from end stop b : ℕ) (c : Standing) (before : List ℕ) (at first n : ℕ) (after : List ℕ) : Type 0 where
  pub bytes : List ℕ
  pub many : length bytes + 1 ≡ n
  pub stand : after ≡ sets before (suc c.used) bytes
  pub is : (p : Sofar) (row : Row) → Means c p → row_of b ≡ some row
      → hears (ltb end stop) (operands p.scope row.operands λ xs. made p row.meaning (b ∷ xs)) (words_from t from end)
      ≡ hears (ltb end stop) (from_operand p row b n first (drop (n - 1) row.operands) bytes) (words_from t at end)
  pub call : b ≡ 12 → bytes ≡ take (length bytes) (call_operands c first)
  pub callee : b ≡ 12 → 1 < n → first < c.callees

module _ (t : Text) (from end stop b : ℕ) (c : Standing) (before : List ℕ) where
  pub operands_none : OperandsRead t from end stop b c before from 0 1 before
  unfolding from_operand
  operands_none = record {
    bytes = [];
    many = refl;
    stand = refl;
    is = λ p row mean is. refl;
    call = λ e. refl;
    callee = λ e l. absurd (omega arith);
  }

  module _ (at first n : ℕ) (after : List ℕ) (read : OperandsRead t from end stop b c before at first n after) where
    -- the next one was not read
    pub operands_err : (start end' : List ℕ) (e : Unread) → ReadsOperand t at end stop b n first c (Err e)
        → ReadsOperands t from end stop b c start (Err e) end'
    unfolding ReadsOperands OperandsAs ReadsOperand
    operands_err start end' e next p row mean is = read.is p row mean is ∙ next p row read.bytes mean is read.many

    -- a byte more in the buffer
    byte_stands : (v : ℕ) → set after (c.used + n) v ≡ sets before (suc c.used) (read.bytes ++ (v ∷ []))
    byte_stands v =
        let i : c.used + n ≡ suc c.used + length read.bytes = omega (arith, read.many) in
        ap (λ (x : ℕ). set after x v) i ∙ ap (λ (x : List ℕ). set x (suc c.used + length read.bytes) v) read.stand
        ∙ sets_behind before (suc c.used) read.bytes (v ∷ [])

    -- one more that is written; the first of the operands is kept
    pub operands_word : (v to kept : ℕ) (then : List ℕ) → 0 < n → n < size_of b → silent (operand_at b n) ≡ false
        → ReadsOperand t at end stop b n first c (Ok (v, to)) → v < words_of c (operand_at b n) → kept ≡ chosen (eqb n 1) v first
        → then ≡ set after (c.used + n) v → OperandsRead t from end stop b c before to kept (n + 1) then
    unfolding ReadsOperand
    operands_word v to kept then low inside spoken next f k put =
        let longer : length (read.bytes ++ (v ∷ [])) ≡ length read.bytes + 1 = length-append read.bytes (v ∷ []) in
        let one : b ≡ 12 → n ≡ 1 = written_first b n low inside spoken in
        let kept_one : b ≡ 12 → kept ≡ v = λ h. k ∙ ap (λ (x : Bool). chosen x v first) (eq-eqb n 1 (one h)) in
        let behind : n ≡ n + 1 - 1 = omega arith in
        record {
          bytes = read.bytes ++ (v ∷ []);
          many = omega (arith, read.many);
          stand = put ∙ byte_stands v;
          is = λ p row mean is. read.is p row mean is ∙ next p row read.bytes mean is read.many
              ∙ ap (λ (x : ℕ). hears (ltb end stop) (from_operand p row b (n + 1) x (drop n row.operands) (read.bytes ++ (v ∷ [])))
              (words_from t to end)) (sym k)
              ∙ ap (λ (x : ℕ). hears (ltb end stop) (from_operand p row b (n + 1) kept (drop x row.operands) (read.bytes ++ (v ∷ [])))
              (words_from t to end)) behind;
          call = λ h.
              let none : length read.bytes ≡ 0 = omega (arith, one h, read.many) in
              let single : length (read.bytes ++ (v ∷ [])) ≡ 1 = omega arith in
              ap (λ (x : List ℕ). x ++ (v ∷ [])) (no_bytes read.bytes none)
              ∙ ap (λ (x : ℕ). x ∷ []) (sym (kept_one h)) ∙ ap (λ (x : ℕ). take x (call_operands c kept)) (sym single);
          callee = λ h _.
              let least : words_of c (operand_at b n) ≡ c.callees = ap (λ (x : ℕ). words_of c (operand_at x n)) h
              ∙ ap (λ (x : ℕ). words_of c (operand_at 12 x)) (one h) in
              omega (arith, kept_one h);
        }

    -- one more that is not written
    pub operands_silent : (v : ℕ) (then : List ℕ) → 0 < b → b < 14 → 0 < n → n < 6 → n < size_of b → silent (operand_at b n) ≡ true
        → v ≡ unwritten_of c (operand_at b n) first → then ≡ set after (c.used + n) v
        → OperandsRead t from end stop b c before at first (n + 1) then
    operands_silent v then b_low b_high low small inside quiet e put =
        let longer : length (read.bytes ++ (v ∷ [])) ≡ length read.bytes + 1 = length-append read.bytes (v ∷ []) in
        let called : (b ≡ 12) × (1 < n) = silent_call b n b_low b_high low small inside quiet in
        let callee : first < c.callees = read.callee called.0 called.1 in
        let four : size_of b ≡ 4 = ap size_of called.0 in
        let index : n ≡ suc (length read.bytes) = omega (arith, read.many) in
        let more : suc (length read.bytes) ≡ length read.bytes + 1 = omega arith in
        let behind : n ≡ n + 1 - 1 = omega arith in
        let is_next : v ≡ get_or (call_operands c first) (length read.bytes) 0 =
        e ∙ ap (λ (x : ℕ). unwritten_of c (operand_at x n) first) called.0
        ∙ ap (λ (x : ℕ). unwritten_of c (operand_at 12 x) first) index
        ∙ known_at c first (length read.bytes) (omega (arith, read.many, called.1)) (omega (arith, read.many)) in
        record {
          bytes = read.bytes ++ (v ∷ []);
          many = omega (arith, read.many);
          stand = put ∙ byte_stands v;
          is = λ p row mean is. read.is p row mean is
              ∙ ap (λ (os : List Operand). hears (ltb end stop) (from_operand p row b n first os read.bytes) (words_from t at end))
              (row_next b row n is low inside)
              ∙ ap (λ (g : Grammar Sofar). hears (ltb end stop) g (words_from t at end))
              (from_silent p row b c n first v (operand_at b n) (drop n row.operands) read.bytes mean called.1 callee quiet e)
              ∙ ap (λ (x : ℕ). hears (ltb end stop) (from_operand p row b (n + 1) first (drop x row.operands) (read.bytes ++ (v ∷ [])))
              (words_from t at end)) behind;
          call = λ h. ap (λ (x : List ℕ). x ++ (v ∷ [])) (read.call h)
              ∙ ap (λ (x : ℕ). take (length read.bytes) (call_operands c first) ++ (x ∷ [])) is_next
              ∙ sym (take-suc (call_operands c first) (length read.bytes) 0 (omega (arith, read.many)))
              ∙ ap (λ (x : ℕ). take x (call_operands c first)) (more ∙ sym longer);
          callee = λ h _. callee;
        }

    -- none is left
    pub operands_all : (start : List ℕ) → before ≡ set start c.used b → 2 ≤ size_of b → n ≤ size_of b → size_of b ≤ n
        → ReadsOperands t from end stop b c start (Ok (record { to = at; first = first })) after
    unfolding ReadsOperands OperandsAs
    operands_all start put two l h p row mean is =
        let same : length read.bytes ≡ length row.operands = omega (arith, read.many, row_size b row is) in
        let index : n - 1 ≡ length row.operands = omega (arith, read.many) in
        record {
          bytes = read.bytes;
          many = same;
          is = read.is p row mean is
              ∙ ap (λ (os : List Operand). hears (ltb end stop) (from_operand p row b n first os read.bytes) (words_from t at end))
              (ap (λ (x : ℕ). drop x row.operands) index ∙ drop-length row.operands)
              ∙ ap (λ (g : Grammar Sofar). hears (ltb end stop) g (words_from t at end))
              (from_later p row b n first [] read.bytes (λ z. omega (arith, read.many))
              ∙ ap (λ (xs : List ℕ). made p row.meaning (b ∷ xs)) (append-nil read.bytes));
          stand = read.stand ∙ ap (λ (x : List ℕ). sets x (suc c.used) read.bytes) put;
          call = λ e.
              let four : size_of b ≡ 4 = ap size_of e in
              let three : length read.bytes ≡ 3 = omega (arith, read.many) in
              (read.callee e (omega (arith, read.many)), read.call e ∙ ap (λ (x : ℕ). take x (call_operands c first)) three);
        }

-- the first operand is kept
pub first_now : (n v f kept : ℕ) → n ≡ 1 → kept ≡ v → kept ≡ chosen (eqb n 1) v f
first_now n v f kept e k = k ∙ sym (ap (λ (b : Bool). chosen b v f) (eq-eqb n 1 e))

pub first_before : (n v f kept : ℕ) → (n ≡ 1 → ⊥) → kept ≡ f → kept ≡ chosen (eqb n 1) v f
first_before n v f kept e k = k ∙ sym (ap (λ (b : Bool). chosen b v f) (ne_eqb n 1 e))
