-- Texts of lines and of words: lists of words and of lines that are appended are texts that are; a row's words are put one by one, each behind its space.
use Rattle.std.proofs.Common.{Bool, true, false, List, [], ◌∷◌, ◌++◌, map, ◌≡◌, ℕ, zero, suc, refl, sym, ap, ◌∙◌, ◌+◌, ◌-◌, ◌*◌, ◌<◌, ◌≤◌}
use Rattle.std.proofs.Common.{length, get_or, take, drop, slice_range, drop-cons, drop_of_length-le, add-one, add-suc, append_assoc, append-nil, arith}
use Rattle.std.proofs.Math.Option.{Option, none, some}
use Rattle.std.proofs.lemmas.List.{replicate-append-replicate}
use Rattle.std.proofs.Math.ListN.{replicate}
use Rattle.rules.specs.declared.statements.Operand.{Operand}
use Rattle.rules.specs.Basics.{chosen, up_to, byte}
use Rattle.rules.specs.Words.{Text, space, newline, behind, join, written, decimal}
use Rattle.rules.specs.Names.{at, with}
use Rattle.rules.specs.Table.{Row, row_of, name_of}
use Rattle.rules.specs.Kinds.{operands_of}
use Rattle.rules.specs.Listing.{Line, spoken, silent, indented, listed, operands_in, words, fixed_line}
use Rattle.listing.specs.Lines.{said, spaces, call_line}

-- the words of a list, from number i on: the first of them and the rest; none past its end
module _ {A : Type 0} (f : A → Text) (xs : List A) (i : ℕ) where
  pub behind_next : (d : A) → i < length xs
      → behind space (map f (drop i xs)) ≡ (space ∷ f (get_or xs i d)) ++ behind space (map f (drop (i + 1) xs))
  behind_next d l = rw (add-one, drop-cons xs i d)

  pub behind_none : length xs ≤ i → behind space (map f (drop i xs)) ≡ []
  behind_none l = ap (λ ys. behind space (map f ys)) (drop_of_length-le xs l)

pub behind_append : (c : ℕ) (a b : Line) → behind c (a ++ b) ≡ behind c a ++ behind c b
behind_append c [] b = refl
behind_append c (w ∷ a) b = ap (λ (t : Text). c ∷ t) (ap (λ (t : Text). w ++ t) (behind_append c a b) ∙ sym (append_assoc w (behind c a) (behind c b)))

pub written_append : (a b : List Line) → written (a ++ b) ≡ written a ++ written b
written_append [] b = refl
written_append (l ∷ a) b =
    ap (λ (t : Text). join space l ++ (newline ∷ t)) (written_append a b) ∙ sym (append_assoc (join space l) (newline ∷ written a) (written b))

chosen_words : (b : Bool) (w : Text) (ws : Line) → behind space (chosen b ws (w ∷ ws)) ≡ behind space (chosen b [] (w ∷ [])) ++ behind space ws
chosen_words true w ws = refl
chosen_words false w ws = ap (λ (t : Text). space ∷ (t ++ behind space ws)) (sym (append-nil w))

-- the operands that stand from p on, from number i on
module _ (s : List ℕ) (p : ℕ) (os : List Operand) where
  pub operands_next : (i : ℕ) (d : Operand) → i < length os
      → behind space (words s (p + i) (drop i os))
      ≡ behind space (said (get_or os i d) (byte s (p + i))) ++ behind space (words s (p + (i + 1)) (drop (i + 1) os))
  operands_next i d l =
      ap (λ ys. behind space (words s (p + i) ys)) (drop-cons os i d l) ∙ either (get_or os i d)
      ∙ ap (λ (q : ℕ). behind space (said (get_or os i d) (byte s (p + i))) ++ behind space (words s q (drop (suc i) os))) (sym (add-suc p i))
      ∙ ap (λ (j : ℕ). behind space (said (get_or os i d) (byte s (p + i))) ++ behind space (words s (p + j) (drop j os))) (sym (add-one i))
    where
      either : (o : Operand) → behind space (words s (p + i) (o ∷ drop (suc i) os))
          ≡ behind space (said o (byte s (p + i))) ++ behind space (words s (suc (p + i)) (drop (suc i) os))
      either o = chosen_words (silent o) (spoken o (byte s (p + i))) (words s (suc (p + i)) (drop (suc i) os))

  pub operands_none : (i : ℕ) → length os ≤ i → behind space (words s (p + i) (drop i os)) ≡ []
  operands_none i l = ap (λ ys. behind space (words s (p + i) ys)) (drop_of_length-le os l)

-- a call's list that has numbers
pub list_some : (w : Text) (ns : List ℕ) → 0 < length ns → behind space (listed w ns) ≡ (space ∷ w) ++ behind space (map decimal ns)
list_some w [] l = absurd (omega arith)
list_some w (n ∷ ns) l = refl

-- what follows a first word that is indented
behind_indented : (n : ℕ) (w : Text) (ws : Line) → behind space (indented n (w ∷ ws)) ≡ space ∷ join space (indented n (w ∷ ws))
behind_indented zero w ws = refl
behind_indented (suc n) w ws = refl

pub spaces_next : (n : ℕ) → spaces (n + 1) ≡ spaces n ++ (space ∷ space ∷ [])
spaces_next n = let e : 2 * n + 2 ≡ 2 * (n + 1) = omega arith in sym (replicate-append-replicate (2 * n) 2 space ∙ ap (λ k. replicate k space) e)

-- an indent, a first word and the words behind it are a line
pub join_indented : (n : ℕ) (w : Text) (ws : Line) → spaces n ++ (w ++ behind space ws) ≡ join space (indented n (w ∷ ws))
join_indented zero w ws = refl
join_indented (suc n) w ws =
    let e : 2 * suc n ≡ suc (suc (2 * n)) = omega arith in
    ap (λ (k : ℕ). replicate k space ++ (w ++ behind space ws)) e
    ∙ ap (λ (t : Text). space ∷ space ∷ t) (join_indented n w ws)
    ∙ ap (λ (t : Text). space ∷ t) (sym (behind_indented n w ws))

-- the operands of a row
operands_are : (o : Option Row) → operands_in o ≡ elim o [ none ↦ [] | some r ↦ r.operands ]
operands_are none = refl
operands_are (some r) = refl

-- the fixed part of a statement at i: indent, name, operands
pub fixed_text : (s : List ℕ) (n i : ℕ) {b : ℕ} {os : List Operand} → b ≡ byte s i → os ≡ operands_of b
    → spaces n ++ (name_of b ++ behind space (words s (i + 1) os)) ≡ join space (indented n (fixed_line s i))
fixed_text s n i {b} e f =
    ap (λ ys. spaces n ++ (name_of b ++ behind space (words s (i + 1) ys))) (f ∙ sym (operands_are (row_of b)))
    ∙ join_indented n (name_of b) (words s (i + 1) (operands_in (row_of b)))
    ∙ ap (λ (c : ℕ). join space (indented n (name_of c ∷ words s (i + 1) (operands_in (row_of c))))) e
    ∙ ap (λ (j : ℕ). join space (indented n (name_of (byte s i) ∷ words s j (operands_in (row_of (byte s i)))))) (add-one i)

-- words behind a line are the line's last words
pub join_then : (n : ℕ) (w : Text) (ws vs : Line) → join space (indented n (w ∷ ws)) ++ behind space vs ≡ join space (indented n (w ∷ (ws ++ vs)))
join_then zero w ws vs = append_assoc w (behind space ws) (behind space vs) ∙ ap (λ t. w ++ t) (sym (behind_append space ws vs))
join_then (suc n) w ws vs =
    ap (λ t. space ∷ (t ++ behind space vs)) (behind_indented n w ws)
    ∙ ap (λ t. space ∷ space ∷ t) (join_then n w ws vs)
    ∙ ap (λ t. space ∷ t) (sym (behind_indented n w (ws ++ vs)))

-- bytes in a row
pub slice_up_to : (s : List ℕ) (i m : ℕ) → i + m ≤ length s → slice_range s i (i + m) ≡ up_to i m (byte s)
slice_up_to s i m l = let e : i + m - i ≡ m = omega arith in ap (λ k. take k (drop i s)) e ∙ go i m l
  where
    go : (i m : ℕ) → i + m ≤ length s → take m (drop i s) ≡ up_to i m (byte s)
    go i zero l = refl
    go i (suc m) l =
        let k : i < length s = omega arith in
        ap (take (suc m)) (drop-cons s i 0 k) ∙ ap (λ t. byte s i ∷ t) (go (suc i) m (omega arith))

-- a call's line: its fixed part, its places and its slots
module _ (s : List ℕ) (n i : ℕ) where
  abbrev slots_at : ℕ
  slots_at = i + 4 + byte s (i + 2)

  -- the lists, by the bytes of each
  abbrev lists : List ℕ → List ℕ → Text
  lists xs ys = join space (indented n (fixed_line s i)) ++ (behind space (listed at xs) ++ behind space (listed with ys))

  pub call_text : slots_at + byte s (i + 3) ≤ length s
      → lists (slice_range s (i + 4) slots_at) (slice_range s slots_at (slots_at + byte s (i + 3))) ++ (newline ∷ []) ≡ call_line s n i
  call_text l =
      let places : Line = listed at (up_to (i + 4) (byte s (i + 2)) (byte s)) in
      let slots : Line = listed with (up_to slots_at (byte s (i + 3)) (byte s)) in
      ap (λ xs. lists xs (slice_range s slots_at (slots_at + byte s (i + 3))) ++ (newline ∷ [])) (slice_up_to s (i + 4) (byte s (i + 2)) (omega arith))
      ∙ ap (λ ys. lists (up_to (i + 4) (byte s (i + 2)) (byte s)) ys ++ (newline ∷ [])) (slice_up_to s slots_at (byte s (i + 3)) l)
      ∙ ap (λ t. join space (indented n (fixed_line s i)) ++ t ++ (newline ∷ [])) (sym (behind_append space places slots))
      ∙ ap (λ t. t ++ (newline ∷ [])) (join_then n (name_of (byte s i)) (words s (suc i) (operands_in (row_of (byte s i)))) (places ++ slots))
