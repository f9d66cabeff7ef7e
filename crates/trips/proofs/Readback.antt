-- The bytes of a good tree are readable, and what is read has the tree's lines: each test of reading passes, for the tree is good.
use mathlib.Core.Bool.{Bool, true, false, ◌&&◌}
use mathlib.Core.List.{List, [], ◌∷◌, ◌++◌, append_assoc, append-nil, map}
use mathlib.Core.Option.{Option, some}
use mathlib.Core.Path.{◌≡◌, refl, sym, ap, subst, ◌∙◌}
use native.Mathlib.Nat.{add-zero, add-suc}
use native.Mathlib.Omega.{arith}
use Prim.Native.Nat.{ℕ, zero, suc, ◌+◌, ◌%◌, ◌<◌, ◌≤◌}
use lib.Dec.{eqb, ltb, leb, le→leb}
use lib.ListN.{get_or, length, length-append, length-replicate, replicate}
use Rattle.answers.specs.Check.{Check, ok, ◌>>=◌, ◌>>◌, need}
use Rattle.rules.specs.declared.program.FunctionHeader.{FunctionHeader}
use Rattle.rules.specs.declared.program.ProgramHeader.{ProgramHeader}
use Rattle.rules.specs.declared.statements.Operand.{Operand}
use Rattle.rules.specs.declared.statements.Operand.TheVariants.{Slot, Location}
use Rattle.rules.specs.Basics.{up_to, byte, word, has_mark}
use Rattle.rules.specs.Syntax.{Side, device, parameter, Place, Statement, op, if, while, call, Statements, done, ◌⨾◌, Block, block, Function, Program}
use Rattle.rules.specs.Words.{decimal}
use Rattle.rules.specs.Names as names
use Rattle.rules.specs.Names.{at, with, else}
use Rattle.rules.specs.Table.{Meaning, calls, Row, row_of, size, name_of}
use Rattle.rules.specs.Program.{Read, Scope, in_range, known, operands, meant, statement, statements, read_block, function_header, functions_at, read_program}
use Rattle.rules.specs.Listing.{head_line, Line, indented, listed, operands_in, words, fixed_line, statement_lines, statements_lines, block_lines, functions_lines}
use Rattle.rules.specs.Unlisting.{sized}
use Rattle.rules.proofs.Tests.{T→eq, below, eqb_same, is_below}
use Rattle.trips.proofs.Rows.{row_head, row_calls}
use Rattle.trips.proofs.Raw.{length_sized, sized_length, Raw, plain, called, fork, loop, Raws, end, ◌then◌, raw_bytes, raws_bytes, said, raw_line}
use Rattle.trips.proofs.Raw.{raw_lines, raws_lines, Within, Ranged, Operands, ranged_length, operands_length, Good, good_plain, good_called, good_fork}
use Rattle.trips.proofs.Raw.{good_loop, Goods, good_then, RawFunction, head_of, heads, functions_bytes, program_bytes, raw_functions, GoodFunctions}
use Rattle.trips.proofs.Raw.{a_function, ReadsBack}
use Rattle.trips.proofs.Running.{size_xs, length_heads}
use Rattle.trips.proofs.Placed.{At, at_end, at_left, at_right, at_byte, up_to_at, at_whole, stub, stubbed, map_snoc, ranges, operands_ranged}
use Rattle.trips.proofs.Placed.{words_said}
use Rattle.trips.proofs.Small.{raws_bytes_lem, bytes_append, bytes_sized, small_none, functions_bytes_lem}

leb_yes : (m n : ℕ) → m ≤ n → leb m n ≡ true
leb_yes m n h = T→eq (leb m n) (le→leb m n h)

ltb_no : (m n : ℕ) → n ≤ m → ltb m n ≡ false
ltb_no m n h = go (ltb m n) refl
  where
    go : (b : Bool) → ltb m n ≡ b → b ≡ false
    go true e = let l : m < n = below m n e in absurd (omega arith)
    go false e = refl

module _ (s : List ℕ) where
  pub moved : (i j : ℕ) (xs : List ℕ) → i ≡ j → At s i xs → At s j xs
  moved i j xs e h = subst (λ (k : ℕ). At s k xs) e h

  operands_ok : (S : Scope) (os : List Operand) (xs : List ℕ) (i n f : ℕ) → byte s (i + 1) ≡ f → Ranged (stubbed S) f os xs → At s (i + n) xs
      → operands s S i n os ≡ ok tt
  unfolding ◌>>◌
  operands_ok S [] [] i n f e h a = refl
  operands_ok S [] (x ∷ xs) i n f e h a = absurd h
  operands_ok S (o ∷ os) [] i n f e h a = absurd h
  operands_ok S (o ∷ os) (x ∷ xs) i n f e h a =
      let r = ap (λ (y : ℕ). in_range S y o (byte s (i + n))) e ∙ ap (λ (y : ℕ). in_range S f o y) a.0 ∙ ranges S f o x h.0 in
      ap (λ (b : Bool). need b 10 (i + n) >> operands s S i (suc n) os) r
      ∙ operands_ok S os xs i (suc n) f e h.1 (moved (suc (i + n)) (i + suc n) xs (sym (add-suc i n)) a.2)

  ranged_append : (S : Scope) (f : ℕ) (os ps : List Operand) (xs ys : List ℕ) → Ranged S f os xs → Ranged S f ps ys → Ranged S f (os ++ ps) (xs ++ ys)
  ranged_append S f [] ps [] ys h k = k
  ranged_append S f [] ps (x ∷ xs) ys h k = absurd h
  ranged_append S f (o ∷ os) ps [] ys h k = absurd h
  ranged_append S f (o ∷ os) ps (x ∷ xs) ys h k = (h.0, ranged_append S f os ps xs ys h.1 k)

  module _ (sd : Side) (S : Scope) where
    statement_is : (inner : ℕ → ℕ → Check (Read (Block sd))) (i e : ℕ) (r : Row) → row_of (byte s i) ≡ some r → i + size r ≤ e
        → operands s S i 1 r.operands ≡ ok tt
        → statement s sd S inner i e ≡ meant s sd S inner r.meaning i (i + size r) e
    unfolding ◌>>=◌ ◌>>◌
    statement_is inner i e r row fits ops =
        ap (λ (o : Option Row). known o i >>= λ r. need (leb (i + size r) e) 8 i
        >> (operands s S i 1 r.operands >> meant s sd S inner r.meaning i (i + size r) e)) row
        ∙ ap (λ (b : Bool). need b 8 i >> (operands s S i 1 r.operands >> meant s sd S inner r.meaning i (i + size r) e)) (leb_yes (i + size r) e fits)
        ∙ ap (λ (m : Check (Unit {0})). m >> meant s sd S inner r.meaning i (i + size r) e) ops

    -- the fixed part of a statement that stands at i, with rest behind it
    module _ (b : ℕ) (r : Row) (row : row_of b ≡ some r) (xs : List ℕ) (good : Operands (stubbed S) r.operands xs) (i : ℕ) (rest : List ℕ)
        (a : At s i (b ∷ (xs ++ rest))) where
      fixed_ops : operands s S i 1 r.operands ≡ ok tt
      fixed_ops =
          let x : At s (suc i) xs = at_left s xs rest (suc i) a.2 in
          let e : i + 1 ≡ suc i = omega arith in
          go r.operands xs (operands_ranged (stubbed S) r.operands xs (row_head b r row) good) (moved (suc i) (i + 1) xs (sym e) x)
        where
          go : (os : List Operand) (xs : List ℕ) → Ranged (stubbed S) (get_or xs 0 0) os xs → At s (i + 1) xs → operands s S i 1 os ≡ ok tt
          go [] [] h x = refl
          go [] (y ∷ ys) h x = absurd h
          go (o ∷ os) [] h x = absurd h
          go (o ∷ os) (y ∷ ys) h x = operands_ok S (o ∷ os) (y ∷ ys) i 1 y x.0 h x

      fixed_row : row_of (byte s i) ≡ some r
      fixed_row = ap row_of a.0 ∙ row

      pub fixed_line_lem : fixed_line s i ≡ raw_line b xs
      fixed_line_lem =
          ap (λ (y : ℕ). name_of y ∷ words s (suc i) (operands_in (row_of y))) a.0
          ∙ ap (λ (o : Option Row). name_of b ∷ words s (suc i) (operands_in o)) row
          ∙ ap (λ (l : Line). name_of b ∷ l)
          (words_said s r.operands xs (suc i) (at_left s xs rest (suc i) a.2) (operands_length (stubbed S) r.operands xs good))
          ∙ ap (λ (o : Option Row). name_of b ∷ said (operands_in o) xs) (sym row)

      fixed_rest : At s (i + size r) rest
      fixed_rest =
          let z : size r ≡ suc (length xs) = size_xs (stubbed S) r xs good in
          let e : suc i + length xs ≡ i + size r = omega arith in
          moved (suc i + length xs) (i + size r) rest e (at_right s xs rest (suc i) a.2)

    abbrev ReadOne : ℕ → ℕ → ℕ → Raw → Type 0
    ReadOne d i e r =
        (t : Statement sd) × (statement s sd S (read_block s sd S d) i e ≡ ok (record { it = t; next = i + length (raw_bytes r) }))
        × ((n : ℕ) → statement_lines s n t ≡ raw_lines n r)

    abbrev ReadMany : ℕ → ℕ → ℕ → ℕ → Raws → Type 0
    ReadMany d more i e rs =
        (ts : Statements sd) × (statements s sd S (read_block s sd S d) more i e ≡ ok ts) × ((n : ℕ) → statements_lines s n ts ≡ raws_lines n rs)

    abbrev ReadBlock : ℕ → ℕ → ℕ → Raws → Type 0
    ReadBlock d i limit rs =
        (b : Block sd) × (read_block s sd S (suc d) i limit ≡ ok (record { it = b; next = i + 2 + length (raws_bytes rs) }))
        × ((n : ℕ) → block_lines s n b ≡ raws_lines n rs)

    some_bytes : (r : Raw) → 1 ≤ length (raw_bytes r)
    some_bytes (plain b xs) = omega arith
    some_bytes (called b xs ls ms) = omega arith
    some_bytes (fork b xs q t) = omega arith
    some_bytes (loop b xs q) = omega arith

    -- the block at i of w bytes, from its statements
    abbrev block_of : ℕ → ℕ → Check (Statements sd) → Check (Read (Block sd))
    block_of i w m = m >>= λ b. ok (record { it = block i b; next = i + 2 + w })

    block_is : (d : ℕ) (rs : Raws) (i limit : ℕ) → At s i (sized (raws_bytes rs)) → i + 2 + length (raws_bytes rs) ≤ limit
        → ReadMany d (length (raws_bytes rs)) (i + 2) (i + 2 + length (raws_bytes rs)) rs → ReadBlock d i limit rs
    unfolding ◌>>=◌ ◌>>◌
    block_is d rs i limit a f r =
        let n : ℕ = length (raws_bytes rs) in
        let c : byte s (i + 1) ≡ length (raws_bytes rs) % 256 = ap (byte s) (add-suc i 0 ∙ ap suc (add-zero i)) ∙ a.2.0 in
        let w : word s i ≡ n = omega (arith, a.0, c) in
        let B : ℕ → Check (Statements sd) = λ w. statements s sd S (read_block s sd S d) w (i + 2) (i + 2 + w) in (
          block i r.0,
          ap (λ (w : ℕ). need (leb (i + 2) limit) 8 i >> (need (leb (i + 2 + w) limit) 8 i >> block_of i w (B w))) w
              ∙ ap (λ (b : Bool). need b 8 i >> (need (leb (i + 2 + n) limit) 8 i >> block_of i n (B n))) (leb_yes (i + 2) limit (omega arith))
              ∙ ap (λ (b : Bool). need b 8 i >> block_of i n (B n)) (leb_yes (i + 2 + n) limit f)
              ∙ ap (block_of i n) r.1,
          r.2,
        )

    inner_at : (i : ℕ) (bs rest : List ℕ) → At s i (sized bs ++ rest) → At s (i + 2) bs × At s i (sized bs) × At s (i + 2 + length bs) rest
    inner_at i bs rest a =
        let e : suc (suc i) ≡ i + 2 = omega arith in
        let f : i + length (sized bs) ≡ i + 2 + length bs = omega arith in (
          moved (suc (suc i)) (i + 2) bs e (at_left s bs rest (suc (suc i)) a.2.2),
          at_left s (sized bs) rest i a,
          moved (i + length (sized bs)) (i + 2 + length bs) rest f (at_right s (sized bs) rest i a),
        )

    inner_here : (i : ℕ) (bs : List ℕ) → At s i (sized bs) → At s (i + 2) bs
    inner_here i bs a = let e : suc (suc i) ≡ i + 2 = omega arith in moved (suc (suc i)) (i + 2) bs e a.2.2

    -- a call's lists
    ranged_f : (o : Operand) → ((f x : ℕ) → Within (stubbed S) 0 o x → Within (stubbed S) f o x) → (n : ℕ) (xs : List ℕ) (f : ℕ)
        → Ranged (stubbed S) 0 (replicate n o) xs → Ranged (stubbed S) f (replicate n o) xs
    ranged_f o w zero [] f h = tt
    ranged_f o w zero (x ∷ xs) f h = absurd h
    ranged_f o w (suc n) [] f h = absurd h
    ranged_f o w (suc n) (x ∷ xs) f h = (w f x h.0, ranged_f o w n xs f h.1)

    pub map_places : (p k : ℕ) → map (λ (l : Place sd). l.no) (up_to p k λ n. record { no = byte s n }) ≡ up_to p k (byte s)
    map_places p zero = refl
    map_places p (suc k) = ap (λ (z : List ℕ). byte s p ∷ z) (map_places (suc p) k)

    module _ (b : ℕ) (r : Row) (row : row_of b ≡ some r) (m : r.meaning ≡ calls) (xs : List ℕ) (o : Operands (stubbed S) r.operands xs)
        (ls ms : List ℕ)
        (hl : Ranged (stubbed S) 0 (replicate (get_or xs 1 0) Location) ls) (hm : Ranged (stubbed S) 0 (replicate (get_or xs 2 0) Slot) ms) (i e : ℕ)
        (a : At s i (b ∷ (xs ++ (ls ++ ms))))
        (l : i + suc (length (xs ++ (ls ++ ms))) ≤ e) (inner : ℕ → ℕ → Check (Read (Block sd))) where
      abbrev Called : ℕ → ℕ → Statement sd
      Called K M = call i (byte s (i + 1)) (up_to (i + size r) K λ n. record { no = byte s n }) (up_to (i + size r + K) M λ n. byte s n)

      called_is : (statement s sd S inner i e ≡ ok (record { it = Called (get_or xs 1 0) (get_or xs 2 0); next = i + length (b ∷ (xs ++ (ls ++ ms))) }))
          × ((n : ℕ) → statement_lines s n (Called (get_or xs 1 0) (get_or xs 2 0)) ≡ raw_lines n (called b xs ls ms))
      unfolding ◌>>=◌ ◌>>◌
      called_is =
          let K : ℕ = get_or xs 1 0 in
          let M : ℕ = get_or xs 2 0 in
          let z : size r ≡ suc (length xs) = size_xs (stubbed S) r xs o in
          let z₃ : length r.operands ≡ 3 = row_calls b r row m in
          let zx : length xs ≡ 3 = operands_length (stubbed S) r.operands xs o ∙ z₃ in
          let lk = ranged_length (stubbed S) 0 (replicate K Location) ls hl ∙ length-replicate K Location in
          let lm : length ms ≡ M = ranged_length (stubbed S) 0 (replicate M Slot) ms hm ∙ length-replicate M Slot in
          let lx : length (xs ++ (ls ++ ms)) ≡ length xs + length (ls ++ ms) = length-append xs (ls ++ ms) in
          let ly : length (ls ++ ms) ≡ length ls + length ms = length-append ls ms in
          let ax : At s (suc i) xs = at_left s xs (ls ++ ms) (suc i) a.2 in
          let i₂ : i + 2 ≡ suc i + 1 = omega arith in
          let i₃ : i + 3 ≡ suc i + 2 = omega arith in
          let ek : byte s (i + 2) ≡ K = ap (byte s) i₂ ∙ at_byte s xs (suc i) 1 ax (omega arith) in
          let em : byte s (i + 3) ≡ M = ap (byte s) i₃ ∙ at_byte s xs (suc i) 2 ax (omega arith) in
          let ar : At s (i + size r) (ls ++ ms) = fixed_rest b r row xs o i (ls ++ ms) a in
          let i₄ : i + size r ≡ i + 4 = omega arith in
          let al : At s (i + size r) ls = at_left s ls ms (i + size r) ar in
          let am = moved (i + size r + length ls) (i + size r + K) ms (ap (λ (n : ℕ). i + size r + n) lk) (at_right s ls ms (i + size r) ar) in
          let ops = operands_ok S (replicate K Location ++ replicate M Slot) (ls ++ ms) i 4 (byte s (i + 1)) refl
          (ranged_append (stubbed S) (byte s (i + 1)) (replicate K Location) (replicate M Slot) ls ms
          (ranged_f Location (λ f x h. h) K ls (byte s (i + 1)) hl) (ranged_f Slot (λ f x h. h) M ms (byte s (i + 1)) hm))
          (moved (i + size r) (i + 4) (ls ++ ms) i₄ ar) in
          let T : ℕ → ℕ → Read (Statement sd) = λ K M. record { it = Called K M; next = i + size r + K + M } in
          let C : ℕ → ℕ → Check (Read (Statement sd)) =
          λ K M. need (leb (i + size r + K + M) e) 8 i >> (operands s S i 4 (replicate K Location ++ replicate M Slot) >> ok (T K M)) in
          let P : List ℕ = map (λ (l : Place sd). l.no) (up_to (i + size r) K λ n. record { no = byte s n }) in
          let N : List ℕ = up_to (i + size r + K) M (byte s) in
          let fit : i + size r + K + M ≤ e = omega arith in
          let nx : i + size r + K + M ≡ i + suc (length (xs ++ (ls ++ ms))) = omega arith in
          let ul = map_places (i + size r) K ∙ ap (λ (n : ℕ). up_to (i + size r) n (byte s)) (sym lk) ∙ up_to_at s ls (i + size r) al in
          let um = ap (λ (n : ℕ). up_to (i + size r + K) n (byte s)) (sym lm) ∙ up_to_at s ms (i + size r + K) am in (
            statement_is inner i e r (fixed_row b r row xs o i (ls ++ ms) a) (omega arith) (fixed_ops b r row xs o i (ls ++ ms) a)
                ∙ ap (λ (m : Meaning). meant s sd S inner m i (i + size r) e) m
                ∙ ap (λ (k : ℕ). C k (byte s (i + 3))) ek ∙ ap (λ (k : ℕ). C K k) em
                ∙ ap (λ (b : Bool). need b 8 i >> (operands s S i 4 (replicate K Location ++ replicate M Slot) >> ok (T K M)))
                (leb_yes (i + size r + K + M) e fit)
                ∙ ap (λ (q : Check (Unit {0})). q >> ok (T K M)) ops
                ∙ ap (λ (p : ℕ). ok (record { it = Called K M; next = p })) nx,
            λ n. ap (λ (w : Line). indented n (w ++ (listed at P ++ listed with N)) ∷ []) (fixed_line_lem b r row xs o i (ls ++ ms) a)
                ∙ ap (λ (w : List ℕ). indented n (raw_line b xs ++ (listed at w ++ listed with N)) ∷ []) ul
                ∙ ap (λ (w : List ℕ). indented n (raw_line b xs ++ (listed at ls ++ listed with w)) ∷ []) um,
          )

    -- the statements behind the first; the statements at i, of which there are some or none
    abbrev further : ℕ → ℕ → ℕ → Read (Statement sd) → Check (Statements sd)
    further d more e t = statements s sd S (read_block s sd S d) more t.next e >>= λ rest. ok (t.it ⨾ rest)

    abbrev some_or_none : ℕ → ℕ → ℕ → ℕ → Bool → Check (Statements sd)
    some_or_none d more i e b = elim b [ false ↦ ok done | true ↦ statement s sd S (read_block s sd S d) i e >>= further d more e ]

    mutual
      unfolding ◌>>=◌ ◌>>◌

      read_raw : (d : ℕ) (r : Raw) → Good (stubbed S) d r → (i e : ℕ) → At s i (raw_bytes r) → i + length (raw_bytes r) ≤ e → ReadOne d i e r
      read_raw zero (fork b xs q t) given i e a l = elim given [ ]
      read_raw zero (loop b xs q) given i e a l = elim given [ ]
      read_raw d (plain b xs) (good_plain r f row m o) i e a l =
          let a' : At s i (b ∷ (xs ++ [])) = subst (λ (z : List ℕ). At s i (b ∷ z)) (sym (append-nil xs)) a in
          let z : size r ≡ suc (length xs) = size_xs (stubbed S) r xs o in (
            op i (f sd λ n. byte s (i + n)),
            statement_is (read_block s sd S d) i e r (fixed_row b r row xs o i [] a') (omega arith) (fixed_ops b r row xs o i [] a')
                ∙ ap (λ (m : Meaning). meant s sd S (read_block s sd S d) m i (i + size r) e) m
                ∙ ap (λ (p : ℕ). ok (record { it = op i (f sd λ n. byte s (i + n)); next = i + p })) z,
            λ n. ap (λ (w : Line). indented n w ∷ []) (fixed_line_lem b r row xs o i [] a'),
          )
      read_raw d (called b xs ls ms) (good_called r row m o hl hm) i e a l = (
        Called b r row m xs o ls ms hl hm i e a l (read_block s sd S d) (get_or xs 1 0) (get_or xs 2 0),
        (called_is b r row m xs o ls ms hl hm i e a l (read_block s sd S d)).0,
        (called_is b r row m xs o ls ms hl hm i e a l (read_block s sd S d)).1,
      )
      read_raw (suc d) (fork b xs q t) (good_fork r row m o gq gt) i e a l =
          let z : size r ≡ suc (length xs) = size_xs (stubbed S) r xs o in
          let rest : List ℕ = sized (raws_bytes q) ++ sized (raws_bytes t) in
          let lx = length-append xs rest in
          let ly = length_sized (sized (raws_bytes q)) (raws_bytes t) in
          let A = inner_at (i + size r) (raws_bytes q) (sized (raws_bytes t)) (fixed_rest b r row xs o i rest a) in
          let R =
          block_is d q (i + size r) e A.1 (omega arith)
          (read_raws d q gq (length (raws_bytes q)) (i + size r + 2) (i + size r + 2 + length (raws_bytes q)) (omega arith) refl A.0) in
          let Q = block_is d t (i + size r + 2 + length (raws_bytes q)) e A.2 (omega arith)
          (read_raws d t gt (length (raws_bytes t)) (i + size r + 2 + length (raws_bytes q) + 2)
          (i + size r + 2 + length (raws_bytes q) + 2 + length (raws_bytes t)) (omega arith) refl
          (inner_here (i + size r + 2 + length (raws_bytes q)) (raws_bytes t) A.2)) in
          let p : i + size r + 2 + length (raws_bytes q) + 2 + length (raws_bytes t) ≡ i + length (raw_bytes (fork b xs q t)) = omega arith in (
            if i (byte s (i + 1)) R.0 Q.0,
            statement_is (read_block s sd S (suc d)) i e r (fixed_row b r row xs o i rest a) (omega arith) (fixed_ops b r row xs o i rest a)
                ∙ ap (λ (m : Meaning). meant s sd S (read_block s sd S (suc d)) m i (i + size r) e) m
                ∙ ap (λ (c : Check (Read (Block sd))). c >>= λ b. read_block s sd S (suc d) b.next e >>= λ c. ok
                (record { it = if i (byte s (i + 1)) b.it c.it; next = c.next })) R.1
                ∙ ap (λ (c : Check (Read (Block sd))). c >>= λ c. ok (record { it = if i (byte s (i + 1)) R.0 c.it; next = c.next })) Q.1
                ∙ ap (λ (p : ℕ). ok (record { it = if i (byte s (i + 1)) R.0 Q.0; next = p })) p,
            λ n. ap (λ (w : Line). indented n w ∷ (block_lines s (suc n) R.0 ++ (indented n (else ∷ []) ∷ block_lines s (suc n) Q.0)))
                (fixed_line_lem b r row xs o i rest a)
                ∙ ap (λ (w : List Line). indented n (raw_line b xs) ∷ (w ++ (indented n (else ∷ []) ∷ block_lines s (suc n) Q.0))) (R.2 (suc n))
                ∙ ap (λ (w : List Line). indented n (raw_line b xs) ∷ (raws_lines (suc n) q ++ (indented n (else ∷ []) ∷ w))) (Q.2 (suc n)),
          )
      read_raw (suc d) (loop b xs q) (good_loop r row m o gq) i e a l =
          let z : size r ≡ suc (length xs) = size_xs (stubbed S) r xs o in
          let lx : length (xs ++ sized (raws_bytes q)) ≡ length xs + suc (suc (length (raws_bytes q))) = length_sized xs (raws_bytes q) in
          let A : At s (i + size r) (sized (raws_bytes q)) = fixed_rest b r row xs o i (sized (raws_bytes q)) a in
          let R =
          block_is d q (i + size r) e A (omega arith)
          (read_raws d q gq (length (raws_bytes q)) (i + size r + 2) (i + size r + 2 + length (raws_bytes q)) (omega arith) refl
          (inner_here (i + size r) (raws_bytes q) A)) in
          let p : i + size r + 2 + length (raws_bytes q) ≡ i + length (raw_bytes (loop b xs q)) = omega arith in (
            while i (byte s (i + 1)) R.0,
            statement_is (read_block s sd S (suc d)) i e r (fixed_row b r row xs o i (sized (raws_bytes q)) a) (omega arith)
                (fixed_ops b r row xs o i (sized (raws_bytes q)) a)
                ∙ ap (λ (m : Meaning). meant s sd S (read_block s sd S (suc d)) m i (i + size r) e) m
                ∙ ap (λ (c : Check (Read (Block sd))). c >>= λ b. ok (record { it = while i (byte s (i + 1)) b.it; next = b.next })) R.1
                ∙ ap (λ (p : ℕ). ok (record { it = while i (byte s (i + 1)) R.0; next = p })) p,
            λ n. ap (λ (w : Line). indented n w ∷ block_lines s (suc n) R.0) (fixed_line_lem b r row xs o i (sized (raws_bytes q)) a)
                ∙ ap (λ (w : List Line). indented n (raw_line b xs) ∷ w) (R.2 (suc n)),
          )

      read_raws : (d : ℕ) (rs : Raws) → Goods (stubbed S) d rs → (more i e : ℕ) → length (raws_bytes rs) ≤ more → e ≡ i + length (raws_bytes rs)
          → At s i (raws_bytes rs) → ReadMany d more i e rs
      read_raws d end g zero i e l q a = (done, refl, λ n. refl)
      read_raws d end g (suc more) i e l q a = (
        done,
        ap (some_or_none d more i e) (ltb_no i e (omega arith)),
        λ n. refl,
      )
      read_raws d (r then rs) g zero i e l q a = let b = some_bytes r in let c = length-append (raw_bytes r) (raws_bytes rs) in absurd (omega arith)
      read_raws d (r then rs) (good_then g gs) (suc more) i e l q a =
          let b : 1 ≤ length (raw_bytes r) = some_bytes r in
          let c : length (raw_bytes r ++ raws_bytes rs) ≡ length (raw_bytes r) + length (raws_bytes rs) = length-append (raw_bytes r) (raws_bytes rs) in
          let R : ReadOne d i e r = read_raw d r g i e (at_left s (raw_bytes r) (raws_bytes rs) i a) (omega arith) in
          let Q = read_raws d rs gs more (i + length (raw_bytes r)) e (omega arith) (omega arith) (at_right s (raw_bytes r) (raws_bytes rs) i a) in (
            R.0 ⨾ Q.0,
            ap (some_or_none d more i e) (is_below i e (omega arith))
                ∙ ap (λ (m : Check (Read (Statement sd))). m >>= further d more e) R.1
                ∙ ap (λ (m : Check (Statements sd)). m >>= λ rest. ok (R.0 ⨾ rest)) Q.1,
            λ n. ap (λ (w : List Line). w ++ statements_lines s n Q.0) (R.2 n) ∙ ap (λ (w : List Line). raw_lines n r ++ w) (Q.2 n),
          )

    read_block_lem : (d : ℕ) (rs : Raws) → Goods (stubbed S) d rs → (i limit : ℕ) → At s i (sized (raws_bytes rs))
        → i + 2 + length (raws_bytes rs) ≤ limit → ReadBlock d i limit rs
    read_block_lem d rs g i limit a l =
        block_is d rs i limit a l
        (read_raws d rs g (length (raws_bytes rs)) (i + 2) (i + 2 + length (raws_bytes rs)) (omega arith) refl (inner_here i (raws_bytes rs) a))

  -- functions one after the other
  abbrev ReadFunctions : List RawFunction → List Function → ℕ → Type 0
  ReadFunctions gs fs i =
      (rs : List Function) × (functions_at s (length gs) i fs ≡ ok (record { it = fs ++ rs; next = i + length (functions_bytes gs) }))
      × (map stub rs ≡ heads gs) × ((j : ℕ) → functions_lines s j rs ≡ raw_functions j gs)

  read_functions : (gs : List RawFunction) (hs : List Function) → GoodFunctions hs gs → (fs : List Function) → map stub fs ≡ hs → (i : ℕ)
      → At s i (functions_bytes gs) → ReadFunctions gs fs i
  unfolding ◌>>=◌ ◌>>◌
  read_functions [] hs g fs e i a = (
    [],
    ap (λ (z : List Function). ok (record { it = z; next = i })) (sym (append-nil fs))
        ∙ ap (λ (n : ℕ). ok (record { it = fs ++ []; next = n })) (sym (add-zero i)),
    refl,
    λ j. refl,
  )
  read_functions (f ∷ gs) hs (a_function hk hm hl body rest) fs e i a =
      let k : ℕ = f.k in
      let m : ℕ = f.m in
      let bb : List ℕ = raws_bytes f.body in
      let S : Scope = record { places = f.k; earlier = fs } in
      let i₁ : i + 1 ≡ suc i = omega arith in
      let i₂ : suc (suc i) ≡ i + 2 = omega arith in
      let ek : byte s i ≡ f.k = a.0 in
      let em : byte s (i + 1) ≡ f.m = ap (byte s) i₁ ∙ a.2.0 in
      let ab = moved (suc (suc i)) (i + 2) (sized bb ++ functions_bytes gs) i₂ a.2.2 in
      let asz : At s (i + 2) (sized bb) = at_left s (sized bb) (functions_bytes gs) (i + 2) ab in
      let ar = at_right s (sized bb) (functions_bytes gs) (i + 2) ab in
      let l₁ : i + 2 + suc (suc (length bb)) ≤ length s = at_end s (sized bb) (i + 2) asz in
      let l₂ = sized_length bb (functions_bytes gs) in
      let gb = subst (λ (z : List Function). Goods (record { places = f.k; earlier = z }) 7 f.body) (sym e) body in
      let R = read_block_lem parameter S 7 f.body gb (i + 2) (length s) asz (omega arith) in
      let g : Function = record { k = f.k; m = f.m; body = R.0 } in
      let p : ℕ = i + 2 + 2 + length bb in
      let pe : i + 2 + suc (suc (length bb)) ≡ i + 2 + 2 + length bb = omega arith in
      let Q =
      read_functions gs (hs ++ (head_of f.k f.m ∷ [])) rest (fs ++ (record { k = f.k; m = f.m; body = R.0 } ∷ []))
      (map_snoc fs g ∙ ap (λ (z : List Function). z ++ (head_of f.k f.m ∷ [])) e)
      (i + 2 + 2 + length bb) (moved (i + 2 + suc (suc (length bb))) (i + 2 + 2 + length bb) (functions_bytes gs) pe ar) in
      let n : ℕ = length gs in
      let body_read_lem : ℕ → ℕ → Check (Read (List Function)) =
      λ k m. read_block s parameter (record { places = k; earlier = fs }) 8 (i + 2) (length s) >>= λ b. functions_at s n b.next
      (fs ++ (record { k = k; m = m; body = b.it } ∷ [])) in
      let Hd : Bool → Bool → Check FunctionHeader = λ b c. need b 4 i >> (need c 4 (i + 1) >> ok (record { locations = f.k; arguments = f.m })) in
      let H : ℕ → ℕ → Check (Read (List Function)) = λ k m. function_header i k m >>= λ h. body_read_lem h.locations h.arguments in
      let nx : i + 2 + 2 + length bb + length (functions_bytes gs) ≡ i + length (functions_bytes (f ∷ gs)) = omega arith in (
        record { k = f.k; m = f.m; body = R.0 } ∷ Q.0,
        ap (λ (b : Bool). need b 8 i >> H (byte s i) (byte s (i + 1))) (leb_yes (i + 2) (length s) (omega arith))
            ∙ ap (λ (y : ℕ). H y (byte s (i + 1))) ek ∙ ap (λ (y : ℕ). H f.k y) em
            ∙ ap (λ (b : Bool). Hd b (leb f.m 8 && leb f.m f.k) >>= λ h. body_read_lem h.locations h.arguments) (leb_yes f.k 16 hk)
            ∙ ap (λ (b : Bool). Hd true (b && leb f.m f.k) >>= λ h. body_read_lem h.locations h.arguments) (leb_yes f.m 8 hm)
            ∙ ap (λ (b : Bool). Hd true b >>= λ h. body_read_lem h.locations h.arguments) (leb_yes f.m f.k hl)
            ∙ ap (λ (c : Check (Read (Block parameter))). c >>= λ b. functions_at s n b.next (fs ++ (record { k = f.k; m = f.m; body = b.it } ∷ [])))
            R.1
            ∙ Q.1
            ∙ ap (λ (z : List Function). ok (record { it = z; next = i + 2 + 2 + length bb + length (functions_bytes gs) }))
            (append_assoc fs (record { k = f.k; m = f.m; body = R.0 } ∷ []) Q.0)
            ∙ ap (λ (p : ℕ). ok (record { it = fs ++ (record { k = f.k; m = f.m; body = R.0 } ∷ Q.0); next = p })) nx,
        ap (λ (z : List Function). head_of f.k f.m ∷ z) Q.2,
        λ j. ap (λ (w : List Line). head_line j f.k f.m ∷ (w ++ functions_lines s (suc j) Q.0)) (R.2 1)
            ∙ ap (λ (w : List Line). head_line j f.k f.m ∷ (raws_lines 1 f.body ++ w)) (Q.3 (suc j)),
      )

-- A whole program.
program_is : (s : List ℕ) (n : ℕ) (fs : Read (List Function)) (b : Read (Block device)) → 8 ≤ length s → length s ≤ 4096 → has_mark s 0x53 ≡ true
    → eqb (word s 3) 1 ≡ true → byte s 5 ≡ n → n ≤ 15
    → functions_at s n 6 [] ≡ ok fs → read_block s device (record { places = 256; earlier = fs.it }) 8 fs.next (length s) ≡ ok b
    → b.next ≡ length s → read_program s ≡ ok (record { functions = fs.it; main = b.it })
unfolding ◌>>=◌ ◌>>◌
program_is s n fs b h₁ h₂ h₃ h₄ h₅ h₆ h₇ h₈ h₉ =
    let end_main : Read (Block device) → List Function → Check Program =
    λ b fs. need (eqb b.next (length s)) 8 b.next >> ok (record { functions = fs; main = b.it }) in
    let mains : Read (List Function) → Check Program =
    λ fs. read_block s device (record { places = 256; earlier = fs.it }) 8 fs.next (length s) >>= λ b. end_main b fs.it in
    let rest : ProgramHeader → Check Program = λ h. functions_at s h.functions 6 [] >>= mains in
    let Hd : Bool → ℕ → Check ProgramHeader = λ b n. need b 4 5 >> ok (record { functions = n }) in
    let f₀ : Check Program = Hd (leb (byte s 5) 15) (byte s 5) >>= rest in
    ap (λ (b : Bool). need b 1 0 >> (need (leb (length s) 4096) 4 0 >> (need (has_mark s 0x53) 2 0 >> (need (eqb (word s 3) 1) 3 3 >> f₀))))
    (leb_yes 8 (length s) h₁)
    ∙ ap (λ (b : Bool). need b 4 0 >> (need (has_mark s 0x53) 2 0 >> (need (eqb (word s 3) 1) 3 3 >> f₀))) (leb_yes (length s) 4096 h₂)
    ∙ ap (λ (b : Bool). need b 2 0 >> (need (eqb (word s 3) 1) 3 3 >> f₀)) h₃
    ∙ ap (λ (b : Bool). need b 3 3 >> f₀) h₄
    ∙ ap (λ (n : ℕ). Hd (leb n 15) n >>= rest) h₅
    ∙ ap (λ (b : Bool). Hd b n >>= rest) (leb_yes n 15 h₆)
    ∙ ap (λ (c : Check (Read (List Function))). c >>= mains) h₇
    ∙ ap (λ (c : Check (Read (Block device))). c >>= λ b. end_main b fs.it) h₈
    ∙ ap (λ (c : Bool). need c 8 b.next >> ok (record { functions = fs.it; main = b.it }))
    (ap (λ (n : ℕ). eqb n (length s)) h₉ ∙ eqb_same (length s))

pub reads_back : ReadsBack
reads_back q g =
    let s : List ℕ = program_bytes q in
    let gs : List RawFunction = q.functions in
    let F : List ℕ = functions_bytes gs in
    let mb : List ℕ = raws_bytes q.main in
    let w : At s 0 s = at_whole s [] in
    let a : At s 6 (functions_bytes gs ++ sized mb) = w.2.2.2.2.2.2 in
    let lp = length_sized F mb in
    let sh : length s ≤ 4096 = g.short in
    let few : length gs ≤ 15 = g.few in
    let R = read_functions s gs [] g.functions [] refl 6 (at_left s F (sized mb) 6 a) in
    let M : Scope = record { places = 256; earlier = R.0 } in
    let am = at_right s F (sized mb) 6 a in
    let gm = subst (λ (z : List Function). Goods (record { places = 256; earlier = z }) 7 q.main) (sym R.2) g.main in
    let Q = read_block_lem s device M 7 q.main gm (6 + length F) (length s) am (omega arith) in
    let ne : 6 + length F + 2 + length mb ≡ length s = omega arith in
    let HB = functions_bytes_lem gs [] g.functions small_none (omega arith) (omega arith) in
    let lh : length (heads gs) ≡ length gs = length_heads gs in
    let MB = raws_bytes_lem (record { places = 256; earlier = heads gs }) (omega arith, omega arith, HB.1) 7 q.main g.main (omega arith) in (
      record { functions = R.0; main = Q.0 },
      program_is s (length gs) (record { it = R.0; next = 6 + length F }) (record { it = Q.0; next = 6 + length F + 2 + length mb })
          (omega arith) sh refl refl refl few R.1 Q.1 ne,
      ap (λ (w : List Line). (names.program ∷ decimal 1 ∷ []) ∷ (w ++ ((names.main ∷ []) ∷ block_lines s 1 Q.0))) (R.3 0)
          ∙ ap (λ (w : List Line). (names.program ∷ decimal 1 ∷ []) ∷ (raw_functions 0 gs ++ ((names.main ∷ []) ∷ w))) (Q.2 1),
      (
        omega arith,
        (
          omega arith,
          (
            omega arith,
            (
              omega arith,
              (
                omega arith,
                (
                  omega arith,
                  bytes_append F (sized mb) HB.0 (bytes_sized mb (omega arith) MB),
                ),
              ),
            ),
          ),
        ),
      ),
    )
