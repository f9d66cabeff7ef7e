-- Behind its operands a statement's line ends, or a call's lists follow: its bytes are added to the program, or a block is opened behind them.
use mathlib.Core.Bool.{Bool, true, false}
use mathlib.Core.List.{List, [], ◌∷◌, ◌++◌, append_assoc, append-nil}
use mathlib.Core.Logic.{◌⊎◌, inl, inr}
use mathlib.Core.Option.{Option, none, some}
use mathlib.Core.Path.{◌≡◌, refl, sym, ap, ◌∙◌}
use native.Mathlib.Omega.{arith}
use Prim.Native.Nat.{ℕ, suc, ◌+◌, ◌<◌, ◌≤◌}
use lib.Dec.{ltb, leb}
use lib.ListN.{length, length-append, set}
use lib.Seq.{sets}
use borrow.Author.Tests.{lt-ltb, ltb-true, ltb-false, leb-true}
use Rattle.std.specs.Prelude.{Result, Ok, Err}
use Rattle.rules.specs.declared.statements.Operand.TheVariants.{CalleeK, CalleeM}
use Rattle.rules.specs.declared.statements.Kind.{Kind}
use Rattle.rules.specs.declared.statements.Kind.TheVariants.{Init, Magic, Free, Gate, Measure, Merge, Ref, Get, Set, If, While, Call}
use Rattle.rules.specs.declared.statements.Kind.TheVariants.{Bool as BoolKind}
use Rattle.rules.specs.Basics.{chosen}
use Rattle.rules.specs.Kinds.{byte_of}
use Rattle.rules.specs.Words.{Text}
use Rattle.rules.specs.Table.{calls, Row, row_of, size_of}
use Rattle.rules.specs.Grammar.{Grammar, dead, stop}
use Rattle.rules.specs.Unlisting.{Sofar, added, opened, made}
use Rattle.rules.proofs.Tests.{and_left}
use Rattle.reading.specs.Cursor.{words_from}
use Rattle.reading.specs.Hearing.{Hearing, not, took, hears}
use Rattle.reading.specs.declared.cursor.Unread.{Unread}
use Rattle.reading.specs.declared.cursor.Unread.TheVariants.{Not}
use Rattle.reading.proofs.Hearings.{hears_end, hears_more}
use Rattle.reading.proofs.Spellings.{no_words, some_words}
use Rattle.standing.specs.Numbers.{added_of, opened_of, block_bytes, fits_of, unwritten_of}
use Rattle.standing.specs.Means.{outside, laid, Means}
use Rattle.standing.specs.declared.state.Standing.{Standing}
use Rattle.standing.proofs.Thirteen.{row_size}
use Rattle.standing.proofs.Meaning.{means_added, means_opened, sets_behind}
use Rattle.stating.specs.Statements.{Put, Took-bytes, LineAs, ReadsLists, OpensBlock, BehindOperands}
use Rattle.stating.proofs.Called.{call_bytes, call_room}

-- the same line
pub line_same : (h g : Hearing Sofar) (D : List ℕ) (r : Result Standing Unread) (after : List ℕ) → h ≡ g → LineAs g D r after → LineAs h D r after
unfolding LineAs
line_same h g D (Err x) after e l = e ∙ l
line_same h g D (Ok c) after e l = record { program = l.program; is = e ∙ l.is; means = l.means; stand = l.stand }

-- what `ends` says: the position is past the line's end, or the line is none
module _ (end at : ℕ) where
  abbrev said : Bool → Result (Unit {0}) Unread
  said b = chosen b (Ok tt) (Err Not)

  pub ends_past : (u : Unit {0}) → Ok u ≡ said (ltb end at) → end < at
  ends_past u e = ltb-true end at (go (ltb end at) e)
    where
      go : (b : Bool) → Ok u ≡ said b → b ≡ true
      go true x = refl
      go false x = absurd (let z : ◌≡◌ {A = ℕ} 0 1 = cc in omega arith)

  pub ends_not : (x : Unread) → Err x ≡ said (ltb end at) → (at ≤ end) × (x ≡ Not)
  ends_not x e = go (ltb end at) refl e
    where
      go : (b : Bool) → ltb end at ≡ b → Err x ≡ said b → (at ≤ end) × (x ≡ Not)
      go true h y = absurd (let z : ◌≡◌ {A = ℕ} 0 1 = cc in omega arith)
      go false h y = (ltb-false end at h, cc)

-- past its last word a line is whole, since that stands before its newline
ended_is : (t : Text) (at end stop' : ℕ) (p : Sofar) → end < at → at ≤ stop' → hears (ltb end stop') (stop (some p)) (words_from t at end) ≡ took p
ended_is t at end stop' p past l =
    ap (λ (whole : Bool). hears whole (stop (some p)) (words_from t at end)) (lt-ltb end stop' (omega arith))
    ∙ ap (hears true (stop (some p))) (no_words t at end past) ∙ hears_end p

-- before its end a word is left
pub stops_later : (t : Text) (at end : ℕ) (whole : Bool) (p : Sofar) → at ≤ end → hears whole (stop (some p)) (words_from t at end) ≡ not
stops_later t at end whole p l =
    let more = some_words t at end l in
    ap (hears whole (stop (some p))) more.2 ∙ hears_more whole (some p) more.0 more.1

-- a line that must end here
module _ (t : Text) (at end stop' : ℕ) (p : Sofar) (D : List ℕ) (c : Standing) (after : List ℕ) where
  abbrev ending : Hearing Sofar
  ending = hears (ltb end stop') (stop (some p)) (words_from t at end)

  pub line_ended : end < at → at ≤ stop' → Means c p → after ≡ sets D 6 (laid p) → LineAs ending D (Ok c) after
  unfolding LineAs
  line_ended past l mean stand = record {
    program = p;
    is = ended_is t at end stop' p past l;
    means = mean;
    stand = stand;
  }

  pub line_unended : (x : Unread) → at ≤ end → x ≡ Not → LineAs ending D (Err x) after
  unfolding LineAs
  line_unended x l e = rw e (stops_later t at end (ltb end stop') p l)

  -- by whether it ends here
  pub line_ends : at ≤ stop' → (ltb end at ≡ true → Means c p × (after ≡ sets D 6 (laid p))) → LineAs ending D (chosen (ltb end at) (Ok c) (Err Not)) after
  line_ends l h = go (ltb end at) refl
    where
      go : (b : Bool) → ltb end at ≡ b → LineAs ending D (chosen b (Ok c) (Err Not)) after
      go true e = line_ended (ltb-true end at e) l (h e).0 (h e).1
      go false e = line_unended Not (ltb-false end at e) refl

-- there is room for a statement that fits, and a depth for its block
pub fits_room : (c : Standing) (b : ℕ) → fits_of c b ≡ true → c.used + c.owed + (size_of b + block_bytes b) ≤ 4096
fits_room c b e = leb-true _ 4096 (and_left (leb (c.used + c.owed + (size_of b + block_bytes b)) 4096) _ e)

-- the bytes laid down behind those of the program
laid_added : (p : Sofar) (bs : List ℕ) → laid p ++ bs ≡ laid (added p bs)
laid_added p bs = append_assoc (outside p.open_blocks) p.bytes bs

laid_opened : (p : Sofar) (due : Bool) (bs : List ℕ) → (laid p ++ bs) ++ (0 ∷ 0 ∷ []) ≡ laid (opened p due bs)
laid_opened p due bs = simp (append_assoc, append-nil)

-- a statement that holds a block
module _ (t : Text) (at end stop' : ℕ) (due : Bool) (c : Standing) (before mid after : List ℕ) (one : mid ≡ set before (c.used + 2) 0)
    (two : after ≡ set mid (c.used + 3) 0) where
  pub block_opened : end < at → at ≤ stop' → c.depth < 8 → c.used + c.owed + 4 + chosen due 2 0 ≤ 4096
      → OpensBlock t at end stop' due c before (Ok (opened_of c 2 due)) after
  unfolding OpensBlock
  block_opened past l deep room p D bs mean len e =
      let at_six : 6 + length (laid p ++ bs) ≡ c.used + 2 = omega (arith, length-append (laid p) bs, mean.used) in
      let next : c.used + 3 ≡ suc (c.used + 2) = omega arith in
      line_ended t at end stop' (opened p due bs) D (opened_of c 2 due) after past l
      (means_opened c p bs 2 due mean len deep (omega arith))
      (two ∙ ap (λ (x : List ℕ). set x (c.used + 3) 0) one ∙ ap (λ (i : ℕ). set (set before (c.used + 2) 0) i 0) next
      ∙ ap (λ (x : List ℕ). sets x (c.used + 2) (0 ∷ 0 ∷ [])) e ∙ ap (λ (i : ℕ). sets (sets D 6 (laid p ++ bs)) i (0 ∷ 0 ∷ [])) (sym at_six)
      ∙ sets_behind D 6 (laid p ++ bs) (0 ∷ 0 ∷ []) ∙ ap (sets D 6) (laid_opened p due bs))

  pub block_unended : (x : Unread) → at ≤ end → x ≡ Not → OpensBlock t at end stop' due c before (Err x) after
  unfolding OpensBlock
  block_unended x l e p D bs mean len h = line_unended t at end stop' (opened p due bs) D c after x l e

-- what a statement makes of the program, by its kind
abbrev made_of : Sofar → List ℕ → Option Row → Grammar Sofar
made_of p bs none = dead
made_of p bs (some r) = made p r.meaning bs

-- the statements of their byte and operands alone
abbrev pub Plain : Kind → Type 0
Plain k =
    (k ≡ Init) ⊎ ((k ≡ Magic) ⊎ ((k ≡ Free) ⊎ ((k ≡ Gate) ⊎ ((k ≡ Measure) ⊎ ((k ≡ Merge) ⊎ ((k ≡ Ref) ⊎ ((k ≡ Get) ⊎ ((k ≡ Set) ⊎ (k ≡ BoolKind)))))))))

module _ (kind : Kind) (row : Row) (is : row_of (byte_of kind) ≡ some row) (p : Sofar) (bs : List ℕ) where
  row_made : (k : Kind) → kind ≡ k → made p row.meaning bs ≡ made_of p bs (row_of (byte_of k))
  row_made k e = ap (made_of p bs) (sym is ∙ ap (λ (x : Kind). row_of (byte_of x)) e)

  row_adds : Plain kind → made p row.meaning bs ≡ stop (some (added p bs))
  row_adds (inl e) = row_made Init e
  row_adds (inr (inl e)) = row_made Magic e
  row_adds (inr (inr (inl e))) = row_made Free e
  row_adds (inr (inr (inr (inl e)))) = row_made Gate e
  row_adds (inr (inr (inr (inr (inl e))))) = row_made Measure e
  row_adds (inr (inr (inr (inr (inr (inl e)))))) = row_made Merge e
  row_adds (inr (inr (inr (inr (inr (inr (inl e))))))) = row_made Ref e
  row_adds (inr (inr (inr (inr (inr (inr (inr (inl e)))))))) = row_made Get e
  row_adds (inr (inr (inr (inr (inr (inr (inr (inr (inl e))))))))) = row_made Set e
  row_adds (inr (inr (inr (inr (inr (inr (inr (inr (inr e))))))))) = row_made BoolKind e

module _ (t : Text) (at end stop' first : ℕ) (kind : Kind) (c : Standing) (before : List ℕ) where
  -- it holds a block
  behind_block : (due : Bool) (r : Result Standing Unread) (after : List ℕ) → size_of (byte_of kind) ≡ 2
      → ((row : Row) → row_of (byte_of kind) ≡ some row → (p : Sofar) (bs : List ℕ) → made p row.meaning bs ≡ stop (some (opened p due bs)))
      → OpensBlock t at end stop' due c before r after → BehindOperands t at end stop' (byte_of kind) first c before r after
  unfolding OpensBlock BehindOperands
  behind_block due r after size makes opens p row D xs mean is many call e =
      line_same _ _ D r after (ap (λ (g : Grammar Sofar). hears (ltb end stop') g (words_from t at end)) (makes row is p (byte_of kind ∷ xs)))
      (opens p D (byte_of kind ∷ xs) mean (omega (arith, row_size (byte_of kind) row is)) e)

  pub behind_if : (r : Result Standing Unread) (after : List ℕ) → kind ≡ If → OpensBlock t at end stop' true c before r after
      → BehindOperands t at end stop' (byte_of kind) first c before r after
  behind_if r after e = behind_block true r after (ap (λ (k : Kind). size_of (byte_of k)) e) (λ row is p bs. row_made kind row is p bs If e)

  pub behind_while : (r : Result Standing Unread) (after : List ℕ) → kind ≡ While → OpensBlock t at end stop' false c before r after
      → BehindOperands t at end stop' (byte_of kind) first c before r after
  behind_while r after e = behind_block false r after (ap (λ (k : Kind). size_of (byte_of k)) e) (λ row is p bs. row_made kind row is p bs While e)

  -- it is its byte and operands alone
  pub plain_unended : (x : Unread) → Plain kind → at ≤ end → x ≡ Not → BehindOperands t at end stop' (byte_of kind) first c before (Err x) before
  unfolding BehindOperands
  plain_unended x plain l e p row D xs mean is many call h =
      line_same _ _ D (Err x) before
      (ap (λ (g : Grammar Sofar). hears (ltb end stop') g (words_from t at end)) (row_adds kind row is p (byte_of kind ∷ xs) plain))
      (line_unended t at end stop' (added p (byte_of kind ∷ xs)) D c before x l e)

  pub plain_ended : (n : ℕ) → Plain kind → end < at → at ≤ stop' → fits_of c (byte_of kind) ≡ true → n ≡ size_of (byte_of kind)
      → BehindOperands t at end stop' (byte_of kind) first c before (Ok (added_of c n)) before
  unfolding BehindOperands
  plain_ended n plain past l fit size p row D xs mean is many call e =
      let bs : List ℕ = byte_of kind ∷ xs in
      line_same _ _ D (Ok (added_of c n)) before
      (ap (λ (g : Grammar Sofar). hears (ltb end stop') g (words_from t at end)) (row_adds kind row is p bs plain))
      (line_ended t at end stop' (added p bs) D (added_of c n) before past l
      (means_added c p bs n mean (omega (arith, row_size (byte_of kind) row is)) (omega (arith, fits_room c (byte_of kind) fit)))
      (e ∙ ap (sets D 6) (laid_added p bs)))

  -- a call, by what became of its lists
  module _ (is_call : kind ≡ Call) where
    twelve : byte_of kind ≡ 12
    twelve = ap byte_of is_call

    abbrev Heard-call : Sofar → List ℕ → Result ℕ Unread → List ℕ → Type 0
    Heard-call p bs r after = Took-bytes (hears (ltb end stop') (made p calls bs) (words_from t at end)) before (c.used + 4)
        (λ xs q. hears (ltb end stop') (stop (some (added p (bs ++ xs)))) (words_from t q end))
        (unwritten_of c CalleeK first + unwritten_of c CalleeM first) r after

    call_as : (xs : List ℕ) → (byte_of kind ≡ 12 → xs ≡ first ∷ unwritten_of c CalleeK first ∷ unwritten_of c CalleeM first ∷ [])
        → byte_of kind ∷ xs ≡ call_bytes first (unwritten_of c CalleeK first) (unwritten_of c CalleeM first)
    call_as xs call = ap (λ (x : ℕ). x ∷ xs) twelve ∙ ap (λ (x : List ℕ). 12 ∷ x) (call twelve)

    -- what the lists said of the line
    call_said : (r : Result ℕ Unread) (after : List ℕ) → ReadsLists t at end stop' first c before r after → (p : Sofar) (xs : List ℕ) → Means c p
        → (byte_of kind ≡ 12 → xs ≡ first ∷ unwritten_of c CalleeK first ∷ unwritten_of c CalleeM first ∷ [])
        → Heard-call p (byte_of kind ∷ xs) r after
    unfolding ReadsLists
    call_said r after lists p xs mean call = lists p mean (byte_of kind ∷ xs) (call_as xs call)

    call_line : (p : Sofar) (row : Row) (bs : List ℕ) → row_of (byte_of kind) ≡ some row
        → hears (ltb end stop') (made p row.meaning bs) (words_from t at end) ≡ hears (ltb end stop') (made p calls bs) (words_from t at end)
    call_line p row bs is = ap (λ (g : Grammar Sofar). hears (ltb end stop') g (words_from t at end)) (row_made kind row is p bs Call is_call)

    pub call_unread : (x : Unread) (after : List ℕ) → ReadsLists t at end stop' first c before (Err x) after
        → BehindOperands t at end stop' (byte_of kind) first c before (Err x) after
    unfolding BehindOperands LineAs Took-bytes
    call_unread x after lists p row D xs mean is many call h =
        call_line p row (byte_of kind ∷ xs) is ∙ call_said (Err x) after lists p xs mean call

    module _ (q : ℕ) (after : List ℕ) (lists : ReadsLists t at end stop' first c before (Ok q) after) where
      pub call_unended : (x : Unread) → q ≤ end → x ≡ Not → BehindOperands t at end stop' (byte_of kind) first c before (Err x) after
      unfolding BehindOperands Took-bytes
      call_unended x l e p row D xs mean is many call h =
          let bs : List ℕ = byte_of kind ∷ xs in
          let put : Put (hears (ltb end stop') (made p calls bs) (words_from t at end)) before (c.used + 4)
          (λ ys. hears (ltb end stop') (stop (some (added p (bs ++ ys)))) (words_from t q end))
          (unwritten_of c CalleeK first + unwritten_of c CalleeM first) after = call_said (Ok q) after lists p xs mean call in
          line_same _ _ D (Err x) after (call_line p row bs is ∙ put.is)
          (line_unended t q end stop' (added p (bs ++ put.bytes)) D c after x l e)

      pub call_ended : (n : ℕ) → end < q → q ≤ stop' → n ≡ 4 + unwritten_of c CalleeK first + unwritten_of c CalleeM first
          → BehindOperands t at end stop' (byte_of kind) first c before (Ok (added_of c n)) after
      unfolding BehindOperands Took-bytes
      call_ended n past l size p row D xs mean is many call h =
          let bs : List ℕ = byte_of kind ∷ xs in
          let K : ℕ = unwritten_of c CalleeK first in
          let M : ℕ = unwritten_of c CalleeM first in
          let put : Put (hears (ltb end stop') (made p calls bs) (words_from t at end)) before (c.used + 4)
          (λ ys. hears (ltb end stop') (stop (some (added p (bs ++ ys)))) (words_from t q end)) (K + M) after = call_said (Ok q) after lists p xs mean call in
          let ys : List ℕ = put.bytes in
          let as_call : bs ≡ call_bytes first K M = call_as xs call in
          let four : length bs ≡ 4 = ap length as_call in
          let len : length (bs ++ ys) ≡ n = omega (arith, length-append bs ys, put.many) in
          let at_six : 6 + length (laid p ++ bs) ≡ c.used + 4 = omega (arith, length-append (laid p) bs, mean.used) in
          let taken : hears (ltb end stop') (stop (some (added p (bs ++ ys)))) (words_from t q end) ≡ took (added p (bs ++ ys)) =
          ended_is t q end stop' (added p (bs ++ ys)) past l in
          let room : c.used + c.owed + (4 + K + M) ≤ 4096 =
          leb-true (c.used + c.owed + (4 + K + M)) 4096
          (call_room c p first K M (ltb end stop') (words_from t at end) (added p (bs ++ ys)) mean
          (ap (λ (x : List ℕ). hears (ltb end stop') (made p calls x) (words_from t at end)) (sym as_call) ∙ put.is ∙ taken)) in
          line_same _ _ D (Ok (added_of c n)) after (call_line p row bs is ∙ put.is)
          (line_ended t q end stop' (added p (bs ++ ys)) D (added_of c n) after past l
          (means_added c p (bs ++ ys) n mean len (omega arith))
          (put.stand ∙ ap (λ (x : List ℕ). sets x (c.used + 4) ys) h ∙ ap (λ (i : ℕ). sets (sets D 6 (laid p ++ bs)) i ys) (sym at_six)
          ∙ sets_behind D 6 (laid p ++ bs) ys ∙ ap (sets D 6) (append_assoc (laid p) bs ys ∙ laid_added p (bs ++ ys))))
