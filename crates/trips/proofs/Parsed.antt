-- A readable file is the bytes of a good tree, and has its lines: what each test of reading let through is what makes the tree good.
use mathlib.Core.Bool.{Bool, true, false, ◌&&◌, false≢true}
use mathlib.Core.List.{List, [], ◌∷◌, ◌++◌, append_assoc, append-nil, map}
use mathlib.Core.Option.{Option, none, some}
use mathlib.Core.Path.{◌≡◌, refl, sym, ap, subst, ◌∙◌}
use native.Mathlib.Nat.{add-zero, add-suc, suc-add}
use native.Mathlib.Omega.{arith}
use Prim.Native.Nat.{ℕ, zero, suc, ◌+◌, ◌-◌, ◌%◌, ◌<◌, ◌≤◌}
use lib.Dec.{eqb, ltb, leb}
use lib.ListN.{length, length-append, length-replicate, replicate}
use Rattle.answers.specs.Check.{Check}
use Rattle.answers.proofs.Laws.{Holds, not_ok, by, holds_bind, holds_then, holds_need, holds_map, holds_at}
use Rattle.rules.specs.declared.program.FunctionHeader.{FunctionHeader}
use Rattle.rules.specs.declared.statements.Operand.{Operand}
use Rattle.rules.specs.declared.statements.Operand.TheVariants.{Slot, Location}
use Rattle.rules.specs.Basics.{all, up_to, byte, word, has_mark}
use Rattle.rules.specs.Syntax.{Side, device, parameter, Place, Statement, call, Statements, Block, Function, Program}
use Rattle.rules.specs.Words.{decimal}
use Rattle.rules.specs.Names as names
use Rattle.rules.specs.Names.{at, with, else}
use Rattle.rules.specs.Table.{Meaning, simple, branches, loops, calls, Row, row_of, size}
use Rattle.rules.specs.Program.{Read, Scope, in_range, known, operands, meant, statement, statements, read_block, function_header, program_header, functions_at}
use Rattle.rules.specs.Program.{read_program}
use Rattle.rules.specs.Listing.{head_line, Line, indented, listed, statement_lines, statements_lines, block_lines, functions_lines, program_lines}
use Rattle.rules.specs.Unlisting.{sized}
use Rattle.rules.proofs.Basics.{length_up_to, get_d_up_to}
use Rattle.rules.proofs.Tests.{eqb_true, at_most, not_below, and_left, and_right}
use Rattle.trips.specs.Trips.{Bytes}
use Rattle.trips.proofs.Grammars.{both}
use Rattle.trips.proofs.Rows.{head_spoken, is_operand, row_head, row_operands, row_calls}
use Rattle.trips.proofs.Raw.{length_sized, sized_length, Raw, plain, called, fork, loop, Raws, end, ◌then◌, raw_bytes, raws_bytes, raw_line, raw_lines}
use Rattle.trips.proofs.Raw.{raws_lines, Within, Ranged, Operands, Good, good_plain, good_called, good_fork, good_loop, Goods, good_end, good_then}
use Rattle.trips.proofs.Raw.{RawFunction, RawProgram, head_of, heads, functions_bytes, program_bytes, raw_functions, raw_program_lines, GoodFunctions}
use Rattle.trips.proofs.Raw.{no_functions, a_function, GoodProgram, Reads}
use Rattle.trips.proofs.Placed.{At, at_end, at_append, at_up_to, at_all, stub, stubbed, map_snoc, withins, ranged_operands}
use Rattle.trips.proofs.Readback.{moved, fixed_line_lem, map_places}

holds_choice : {A : Type 0} {P : A → Type 0} (b : Bool) {x y : Check A} → (b ≡ false → Holds P x) → (b ≡ true → Holds P y)
    → Holds P (elim b [ false ↦ x | true ↦ y ])
holds_choice false f g = f refl
holds_choice true f g = g refl

bytes_at : (s : List ℕ) → Bytes s → (i : ℕ) → byte s i < 256
bytes_at [] h zero = omega arith
bytes_at [] h (suc i) = omega arith
bytes_at (x ∷ s) h zero = h.0
bytes_at (x ∷ s) h (suc i) = bytes_at s h.1 i

known_row : (o : Option Row) (i : ℕ) → Holds (λ r. o ≡ some r) (known o i)
known_row none i = not_ok
known_row (some r) i = by refl

module _ (s : List ℕ) (bytes : Bytes s) where
  -- the bytes from i on, n of them
  abbrev part : ℕ → ℕ → List ℕ
  part i n = up_to i n (byte s)

  -- the operand bytes of a statement at i, by its row
  abbrev given : ℕ → Row → List ℕ
  given i r = part (i + 1) (length r.operands)

  operands_raw : (S : Scope) (i n : ℕ) (os : List Operand) → all is_operand os ≡ true
      → Holds (λ u. Ranged (stubbed S) (byte s (i + 1)) os (part (i + n) (length os))) (operands s S i n os)
  operands_raw S i n [] e = by tt
  operands_raw S i n (o ∷ os) e =
      let b : (is_operand o ≡ true) × (all is_operand os ≡ true) = both (is_operand o) (all is_operand os) e in
      holds_then (holds_need (in_range S (byte s (i + 1)) o (byte s (i + n))) 10 (i + n)) λ u h.
      holds_map (λ v r. (
        withins S (byte s (i + 1)) o (byte s (i + n)) b.0 h,
        subst
            (λ (j : ℕ). Ranged (stubbed S) (byte s (i + 1)) os (part j (length os))) (add-suc i n) r,
      )) (operands_raw S i (suc n) os b.1)

  ranged_split : (S : Scope) (f : ℕ) (os ps : List Operand) (j : ℕ) → Ranged S f (os ++ ps) (part j (length (os ++ ps)))
      → Ranged S f os (part j (length os)) × Ranged S f ps (part (j + length os) (length ps))
  ranged_split S f [] ps j h = (tt, subst (λ (k : ℕ). Ranged S f ps (part k (length ps))) (sym (add-zero j)) h)
  ranged_split S f (o ∷ os) ps j h =
      let r : Ranged S f os (part (suc j) (length os)) × Ranged S f ps (part (suc j + length os) (length ps)) = ranged_split S f os ps (suc j) h.1 in
      ((h.0, r.0), subst (λ (k : ℕ). Ranged S f ps (part k (length ps))) (suc-add j (length os) ∙ sym (add-suc j (length os))) r.1)

  all_replicate : (n : ℕ) (o : Operand) → is_operand o ≡ true → (os : List Operand) → all is_operand os ≡ true
      → all is_operand (replicate n o ++ os) ≡ true
  all_replicate zero o e os h = h
  all_replicate (suc n) o e os h = ap (λ (b : Bool). b && all is_operand (replicate n o ++ os)) e ∙ all_replicate n o e os h

  to_zero : (S : Scope) (o : Operand) → ((f x : ℕ) → Within S f o x → Within S 0 o x) → (n : ℕ) (xs : List ℕ) (f : ℕ)
      → Ranged S f (replicate n o) xs → Ranged S 0 (replicate n o) xs
  to_zero S o w zero [] f h = tt
  to_zero S o w zero (x ∷ xs) f h = absurd h
  to_zero S o w (suc n) [] f h = absurd h
  to_zero S o w (suc n) (x ∷ xs) f h = (w f x h.0, to_zero S o w n xs f h.1)

  -- operands of the statement at i
  first_operands : (S : Scope) (i : ℕ) (os : List Operand) → head_spoken os ≡ true → Ranged (stubbed S) (byte s (i + 1)) os (part (i + 1) (length os))
      → Operands (stubbed S) os (part (i + 1) (length os))
  first_operands S i [] e h = tt
  first_operands S i (o ∷ os) e h = ranged_operands (stubbed S) (o ∷ os) (part (i + 1) (suc (length os))) e h

  module _ (sd : Side) (S : Scope) where
    abbrev RawBlock : ℕ → ℕ → ℕ → Read (Block sd) → Type 0
    RawBlock depths i limit r =
        (d : ℕ) × (q : Raws) × (depths ≡ suc d) × Goods (stubbed S) d q × At s i (sized (raws_bytes q)) × (r.next ≡ i + 2 + length (raws_bytes q))
        × (r.next ≤ limit) × ((n : ℕ) → block_lines s n r.it ≡ raws_lines n q)

    abbrev RawStatement : ℕ → ℕ → ℕ → Read (Statement sd) → Type 0
    RawStatement d i e t =
        (r : Raw) × Good (stubbed S) d r × At s i (raw_bytes r) × (t.next ≡ i + length (raw_bytes r)) × (t.next ≤ e)
        × ((n : ℕ) → statement_lines s n t.it ≡ raw_lines n r)

    abbrev RawStatements : ℕ → ℕ → ℕ → Statements sd → Type 0
    RawStatements d i e ts =
        (q : Raws) × Goods (stubbed S) d q × At s i (raws_bytes q) × (i + length (raws_bytes q) ≡ e)
        × ((n : ℕ) → statements_lines s n ts ≡ raws_lines n q)

    -- the fixed part at i, in front of other bytes
    module _ (i : ℕ) (r : Row) (row : row_of (byte s i) ≡ some r) (fits : i + size r ≤ length s)
        (ops : Operands (stubbed S) r.operands (given i r)) where
      xs_length : length (given i r) ≡ length r.operands
      xs_length = length_up_to (i + 1) (length r.operands) (byte s)

      fixed_at : (rest : List ℕ) → At s (i + size r) rest → At s i (byte s i ∷ (given i r ++ rest))
      fixed_at rest a =
          let e : i + 1 ≡ suc i = omega arith in
          let n : ℕ = length r.operands in
          let f : i + size r ≡ suc i + length (given i r) = omega (arith, xs_length) in (
            refl,
            omega arith,
            at_append s (given i r) rest (suc i) (moved s (i + 1) (suc i) (given i r) e (at_up_to s n (i + 1) (omega arith)))
                (moved s (i + size r) (suc i + length (given i r)) rest f a),
          )

      fixed_size : (rest : List ℕ) → i + size r + length rest ≡ i + length (byte s i ∷ (given i r ++ rest))
      fixed_size rest = omega (arith, xs_length, length-append (given i r) rest)

    sized_at : (i : ℕ) (bs : List ℕ) → length bs ≡ word s i → At s (i + 2) bs → i + 2 ≤ length s → At s i (sized bs)
    sized_at i bs e a l =
        let h : byte s (i + 1) < 256 = bytes_at s bytes (i + 1) in
        let f : i + 1 ≡ suc i = omega arith in
        let g : i + 2 ≡ suc (suc i) = omega arith in
        let c : byte s (i + 1) ≡ length bs % 256 = omega arith in
        (omega arith, omega arith, (ap (byte s) (sym f) ∙ c, omega arith, moved s (i + 2) (suc (suc i)) bs g a))

    module _ (d : ℕ) (inner : (i limit : ℕ) → limit ≤ length s → Holds (RawBlock d i limit) (read_block s sd S d i limit)) where
      meant_raw : (i e : ℕ) (r : Row) → row_of (byte s i) ≡ some r → e ≤ length s → i + size r ≤ e
          → Operands (stubbed S) r.operands (given i r) → (m : Meaning) → r.meaning ≡ m
          → Holds (RawStatement d i e) (meant s sd S (read_block s sd S d) m i (i + size r) e)
      meant_raw i e r row w l o (simple f) m =
          let l' : i + size r ≤ length s = omega arith in
          let a : At s i (byte s i ∷ (given i r ++ [])) = fixed_at i r row l' o [] (omega arith) in
          let a' = subst (λ (z : List ℕ). At s i (byte s i ∷ z)) (append-nil (given i r)) a in
          let lx : length (given i r) ≡ length r.operands = xs_length i r row l' o in
          let nx : i + size r ≡ i + suc (length (given i r)) = omega arith in
          by (
            plain (byte s i) (given i r),
            good_plain r f row m o,
            a',
            nx,
            l,
            λ n. ap (λ (z : Line). indented n z ∷ [])
                (fixed_line_lem s sd S (byte s i) r row (given i r) o i [] a),
          )
      meant_raw i e r row w l o loops m =
          holds_bind (inner (i + size r) e w) λ b u.
          let l' : i + size r ≤ length s = omega arith in
          let a = fixed_at i r row l' o (sized (raws_bytes u.1)) u.4 in
          let z = fixed_size i r row l' o (sized (raws_bytes u.1)) in
          let nx : b.next ≡ i + length (byte s i ∷ (given i r ++ sized (raws_bytes u.1))) = omega (arith, u.5) in
          by (
            loop (byte s i) (given i r) u.1,
            subst (λ (k : ℕ). Good (stubbed S) k (loop (byte s i) (given i r) u.1)) (sym u.2) (good_loop r row m o u.3),
            a,
            nx,
            u.6,
            λ n. ap (λ (z : Line). indented n z ∷ block_lines s (suc n) b.it)
                (fixed_line_lem s sd S (byte s i) r row (given i r) o i (sized (raws_bytes u.1)) a)
                ∙ ap (λ (z : List Line). indented n (raw_line (byte s i) (given i r)) ∷ z) (u.7 (suc n)),
          )
      meant_raw i e r row w l o branches m =
          holds_bind (inner (i + size r) e w) λ b u.
          holds_bind (inner b.next e w) λ c v.
          let l' : i + size r ≤ length s = omega arith in
          let bs : List ℕ = sized (raws_bytes u.1) ++ sized (raws_bytes v.1) in
          let de : u.0 ≡ v.0 = (let p : d ≡ suc u.0 = u.2 in let q : d ≡ suc v.0 = v.2 in omega arith) in
          let pj : b.next ≡ i + size r + length (sized (raws_bytes u.1)) = omega (arith, u.5) in
          let ab =
          at_append s (sized (raws_bytes u.1)) (sized (raws_bytes v.1)) (i + size r) u.4
          (moved s b.next (i + size r + length (sized (raws_bytes u.1))) (sized (raws_bytes v.1)) pj v.4) in
          let a = fixed_at i r row l' o bs ab in
          let z = fixed_size i r row l' o bs in
          let lz = length_sized (sized (raws_bytes u.1)) (raws_bytes v.1) in
          let nx : c.next ≡ i + length (byte s i ∷ (given i r ++ bs)) = omega (arith, u.5, v.5) in
          by (
            fork (byte s i) (given i r) u.1 v.1,
            subst (λ (k : ℕ). Good (stubbed S) k (fork (byte s i) (given i r) u.1 v.1)) (sym u.2)
                (good_fork r row m o u.3 (subst (λ (k : ℕ). Goods (stubbed S) k v.1) (sym de) v.3)),
            a,
            nx,
            v.6,
            λ n. ap (λ (z : Line). indented n z ∷ (block_lines s (suc n) b.it ++ (indented n (else ∷ []) ∷ block_lines s (suc n) c.it)))
                (fixed_line_lem s sd S (byte s i) r row (given i r) o i bs a)
                ∙ ap (λ (z : List Line). indented n (raw_line (byte s i) (given i r)) ∷ (z ++ (indented n (else ∷ []) ∷ block_lines s (suc n) c.it)))
                (u.7 (suc n))
                ∙ ap (λ (z : List Line). indented n (raw_line (byte s i) (given i r)) ∷ (raws_lines (suc n) u.1 ++ (indented n (else ∷ []) ∷ z)))
                (v.7 (suc n)),
          )
      meant_raw i e r row w l o calls m =
          let k : ℕ = byte s (i + 2) in
          let j : ℕ = byte s (i + 3) in
          holds_then (holds_need (leb (i + size r + byte s (i + 2) + byte s (i + 3)) e) 8 i) λ u c.
          holds_then (operands_raw S i 4 (replicate (byte s (i + 2)) Location ++ replicate (byte s (i + 3)) Slot)
          (all_replicate (byte s (i + 2)) Location refl (replicate (byte s (i + 3)) Slot)
          (ap (all is_operand) (sym (append-nil (replicate (byte s (i + 3)) Slot))) ∙ all_replicate (byte s (i + 3)) Slot refl [] refl))) λ v t.
          by (called_raw i e r row w l o m (at_most (i + size r + byte s (i + 2) + byte s (i + 3)) e c) t)
        where
          called_raw : (i e : ℕ) (r : Row) → row_of (byte s i) ≡ some r → e ≤ length s → i + size r ≤ e
              → Operands (stubbed S) r.operands (given i r) → r.meaning ≡ calls
              → i + size r + byte s (i + 2) + byte s (i + 3) ≤ e
              → Ranged (stubbed S) (byte s (i + 1)) (replicate (byte s (i + 2)) Location ++ replicate (byte s (i + 3)) Slot)
              (part (i + 4) (length (replicate (byte s (i + 2)) Location ++ replicate (byte s (i + 3)) Slot)))
              → RawStatement d i e (record {
                it = call i (byte s (i + 1)) (up_to (i + size r) (byte s (i + 2)) λ n. record { no = byte s n })
                    (up_to (i + size r + byte s (i + 2)) (byte s (i + 3)) λ n. byte s n);
                next = i + size r + byte s (i + 2) + byte s (i + 3);
              })
          called_raw i e r row w l o m c t =
              let k : ℕ = byte s (i + 2) in
              let j : ℕ = byte s (i + 3) in
              let l' : i + size r ≤ length s = omega arith in
              let z₃ : length r.operands ≡ 3 = row_calls (byte s i) r row m in
              let i₄ : i + 4 ≡ i + size r = omega arith in
              let i₂ : i + 1 + 1 ≡ i + 2 = omega arith in
              let i₃ : i + 1 + 2 ≡ i + 3 = omega arith in
              let K = get_d_up_to (i + 1) (length r.operands) 1 (byte s) 0 (omega arith) ∙ ap (byte s) i₂ in
              let J = get_d_up_to (i + 1) (length r.operands) 2 (byte s) 0 (omega arith) ∙ ap (byte s) i₃ in
              let R = ranged_split (stubbed S) (byte s (i + 1)) (replicate k Location) (replicate j Slot) (i + 4) t in
              let ls : List ℕ = part (i + size r) k in
              let ms : List ℕ = part (i + size r + byte s (i + 2)) j in
              let lr : length (replicate k Location) ≡ byte s (i + 2) = length-replicate k Location in
              let mr : length (replicate j Slot) ≡ byte s (i + 3) = length-replicate j Slot in
              let le = ap (λ (n : ℕ). part (i + 4) n) lr ∙ ap (λ (n : ℕ). part n k) i₄ in
              let pe : i + 4 + length (replicate k Location) ≡ i + size r + byte s (i + 2) = omega arith in
              let me = ap (λ (n : ℕ). part (i + 4 + length (replicate k Location)) n) mr ∙ ap (λ (n : ℕ). part n j) pe in
              let hl =
              to_zero (stubbed S) Location (λ f x h. h) k ls (byte s (i + 1))
              (subst (λ (z : List ℕ). Ranged (stubbed S) (byte s (i + 1)) (replicate k Location) z) le R.0) in
              let hm =
              to_zero (stubbed S) Slot (λ f x h. h) j ms (byte s (i + 1))
              (subst (λ (z : List ℕ). Ranged (stubbed S) (byte s (i + 1)) (replicate j Slot) z) me R.1) in
              let hl' = subst (λ (n : ℕ). Ranged (stubbed S) 0 (replicate n Location) ls) (sym K) hl in
              let hm' = subst (λ (n : ℕ). Ranged (stubbed S) 0 (replicate n Slot) ms) (sym J) hm in
              let ll : length ls ≡ byte s (i + 2) = length_up_to (i + size r) k (byte s) in
              let lm = length_up_to (i + size r + byte s (i + 2)) j (byte s) in
              let ab = at_append s ls ms (i + size r) (at_up_to s k (i + size r) (omega arith))
              (moved s (i + size r + byte s (i + 2)) (i + size r + length ls) ms (ap (λ (n : ℕ). i + size r + n) (sym ll))
              (at_up_to s j (i + size r + byte s (i + 2)) (omega arith))) in
              let rest : List ℕ = part (i + size r) k ++ part (i + size r + byte s (i + 2)) j in
              let a = fixed_at i r row l' o rest ab in
              let z = fixed_size i r row l' o rest in
              let lz = length-append ls ms in
              let nx : i + size r + byte s (i + 2) + byte s (i + 3) ≡ i + length (byte s i ∷ (given i r ++ rest)) = omega arith in (
                called (byte s i) (given i r) ls ms,
                good_called r row m o hl' hm',
                a,
                nx,
                c,
                λ n. ap (λ (z : Line). indented n
                    (z ++ (listed at (map (λ (l : Place sd). l.no) (up_to (i + size r) k λ n. record { no = byte s n })) ++ listed with ms)) ∷ [])
                    (fixed_line_lem s sd S (byte s i) r row (given i r) o i rest a)
                    ∙ ap (λ (z : List ℕ). indented n (raw_line (byte s i) (given i r) ++ (listed at z ++ listed with ms)) ∷ [])
                    (map_places s sd S (i + size r) k),
              )

      statement_raw : (i e : ℕ) → e ≤ length s → Holds (RawStatement d i e) (statement s sd S (read_block s sd S d) i e)
      statement_raw i e w =
          holds_bind (known_row (row_of (byte s i)) i) λ r row.
          holds_then (holds_need (leb (i + size r) e) 8 i) λ u l.
          holds_then (operands_raw S i 1 r.operands (row_operands (byte s i) r row)) λ v h.
          meant_raw i e r row w (at_most (i + size r) e l) (first_operands S i r.operands (row_head (byte s i) r row) h) r.meaning refl

      some_more : (r : Raw) → 1 ≤ length (raw_bytes r)
      some_more (plain b xs) = omega arith
      some_more (called b xs ls ms) = omega arith
      some_more (fork b xs q t) = omega arith
      some_more (loop b xs q) = omega arith

      statements_raw : (more i e : ℕ) → e ≤ length s → i ≤ e → e - i ≤ more
          → Holds (RawStatements d i e) (statements s sd S (read_block s sd S d) more i e)
      statements_raw zero i e w l k = by (end, good_end, omega arith, omega arith, λ n. refl)
      statements_raw (suc more) i e w l k =
          holds_choice (ltb i e) (λ h. let z : e ≤ i = not_below i e h in by (end, good_end, omega arith, omega arith, λ n. refl)) λ h.
          holds_bind (statement_raw i e w) λ t u.
          let p : 1 ≤ length (raw_bytes u.0) = some_more u.0 in
          holds_bind (statements_raw more t.next e w u.4 (omega (arith, u.3))) λ ts v.
          let a =
          at_append s (raw_bytes u.0) (raws_bytes v.0) i u.2 (moved s t.next (i + length (raw_bytes u.0)) (raws_bytes v.0) u.3 v.2) in
          let z : i + length (raw_bytes u.0 ++ raws_bytes v.0) ≡ e = omega (arith, length-append (raw_bytes u.0) (raws_bytes v.0), u.3, v.3) in
          by (
            u.0 then v.0,
            good_then u.1 v.1,
            a,
            z,
            λ n. ap (λ (z : List Line). z ++ statements_lines s n ts) (u.5 n)
                ∙ ap (λ (z : List Line). raw_lines n u.0 ++ z) (v.4 n),
          )

    block_raw : (depths i limit : ℕ) → limit ≤ length s → Holds (RawBlock depths i limit) (read_block s sd S depths i limit)
    block_raw zero i limit w = holds_then (holds_need (leb (i + 2) limit) 8 i) λ u h. not_ok
    block_raw (suc d) i limit w =
        holds_then (holds_need (leb (i + 2) limit) 8 i) λ u h.
        holds_then (holds_need (leb (i + 2 + word s i) limit) 8 i) λ v k.
        let h' : i + 2 ≤ limit = at_most (i + 2) limit h in
        let k' : i + 2 + word s i ≤ limit = at_most (i + 2 + word s i) limit k in
        holds_bind (statements_raw d (block_raw d) (word s i) (i + 2) (i + 2 + word s i) (omega arith) (omega arith) (omega arith)) λ ts t.
        let e : length (raws_bytes t.0) ≡ word s i = omega (arith, t.3) in
        by (d, t.0, refl, t.1, sized_at i (raws_bytes t.0) e t.2 (omega arith), omega arith, k', t.4)

  -- functions
  abbrev RawFunctions : ℕ → List Function → ℕ → Read (List Function) → Type 0
  RawFunctions n fs i r =
      (gs : List RawFunction) × (rs : List Function) × (r.it ≡ fs ++ rs) × (length gs ≡ n) × GoodFunctions (map stub fs) gs
      × (map stub rs ≡ heads gs) × At s i (functions_bytes gs) × (r.next ≡ i + length (functions_bytes gs))
      × ((j : ℕ) → functions_lines s j rs ≡ raw_functions j gs)

  header_raw : (i k m : ℕ) → Holds (λ h. (h.locations ≡ k) × (h.arguments ≡ m) × (k ≤ 16) × (m ≤ 8) × (m ≤ k)) (function_header i k m)
  header_raw i k m =
      holds_then (holds_need (leb k 16) 4 i) λ u a.
      holds_then (holds_need (leb m 8 && leb m k) 4 (i + 1)) λ v b.
      by (refl, refl, at_most k 16 a, at_most m 8 (and_left (leb m 8) (leb m k) b), at_most m k (and_right (leb m 8) (leb m k) b))

  functions_raw : (n i : ℕ) (fs : List Function) → i ≤ length s → Holds (RawFunctions n fs i) (functions_at s n i fs)
  functions_raw zero i fs l = by ([], [], sym (append-nil fs), refl, no_functions, refl, l, sym (add-zero i), λ j. refl)
  functions_raw (suc n) i fs l =
      holds_then (holds_need (leb (i + 2) (length s)) 8 i) λ u h.
      holds_bind (header_raw i (byte s i) (byte s (i + 1))) λ H c.
      holds_bind (block_raw parameter (record { places = H.locations; earlier = fs }) 8 (i + 2) (length s) (omega arith)) λ b v.
      holds_map (λ r w. finish H c b v r w) (functions_raw n b.next (fs ++ (record { k = H.locations; m = H.arguments; body = b.it } ∷ [])) v.6)
    where
      finish : (H : FunctionHeader) → (H.locations ≡ byte s i) × (H.arguments ≡ byte s (i + 1)) × (byte s i ≤ 16) × (byte s (i + 1) ≤ 8)
          × (byte s (i + 1) ≤ byte s i) → (b : Read (Block parameter))
          → RawBlock parameter (record { places = H.locations; earlier = fs }) 8 (i + 2) (length s) b → (r : Read (List Function))
          → RawFunctions n (fs ++ (record { k = H.locations; m = H.arguments; body = b.it } ∷ [])) b.next r
          → RawFunctions (suc n) fs i r
      finish H c b v r w =
          let d7 : v.0 ≡ 7 = (let e : 8 ≡ suc v.0 = v.2 in omega arith) in
          let f : Function = record { k = H.locations; m = H.arguments; body = b.it } in
          let hk : H.locations ≤ 16 = omega (arith, c.0, c.2) in
          let hm : H.arguments ≤ 8 = omega (arith, c.1, c.3) in
          let hl : H.arguments ≤ H.locations = omega (arith, c.0, c.1, c.4) in
          let body = subst (λ (k : ℕ). Goods (record { places = H.locations; earlier = map stub fs }) k v.1) d7 v.3 in
          let rest = subst (λ (z : List Function). GoodFunctions z w.0) (map_snoc fs f) w.4 in
          let sz : List ℕ = sized (raws_bytes v.1) in
          let pe : b.next ≡ i + 2 + length sz = omega (arith, v.5) in
          let a₂ = at_append s sz (functions_bytes w.0) (i + 2) v.4 (moved s b.next (i + 2 + length sz) (functions_bytes w.0) pe w.6) in
          let e₂ : i + 2 ≡ suc (suc i) = omega arith in
          let e₁ : i + 1 ≡ suc i = omega arith in
          let le : i + 2 + length sz ≤ length s = at_end s sz (i + 2) v.4 in
          let a : At s i (functions_bytes (record { k = H.locations; m = H.arguments; body = v.1 } ∷ w.0)) = (
            sym c.0,
            omega arith,
            (ap (byte s) (sym e₁) ∙ sym c.1, omega arith, moved s (i + 2) (suc (suc i)) (sized (raws_bytes v.1) ++ functions_bytes w.0) e₂ a₂),
          ) in
          let lz = sized_length (raws_bytes v.1) (functions_bytes w.0) in
          let nx : r.next ≡ i + length (functions_bytes (record { k = H.locations; m = H.arguments; body = v.1 } ∷ w.0)) =
          omega (arith, w.7, v.5) in (
            record { k = H.locations; m = H.arguments; body = v.1 } ∷ w.0,
            record { k = H.locations; m = H.arguments; body = b.it } ∷ w.1,
            w.2 ∙ append_assoc fs (record { k = H.locations; m = H.arguments; body = b.it } ∷ []) w.1,
            ap suc w.3,
            a_function hk hm hl body rest,
            ap (λ (z : List Function). head_of H.locations H.arguments ∷ z) w.5,
            a,
            nx,
            λ j. ap (λ (z : List Line). head_line j H.locations H.arguments ∷ (z ++ functions_lines s (suc j) w.1)) (v.7 1)
                ∙ ap (λ (z : List Line). head_line j H.locations H.arguments ∷ (raws_lines 1 v.1 ++ z)) (w.8 (suc j)),
          )

  -- a program
  abbrev RawProgramOf : Program → Type 0
  RawProgramOf p = (q : RawProgram) × GoodProgram q × (program_bytes q ≡ s) × (raw_program_lines q ≡ program_lines s p)

  header_few : (f : ℕ) → Holds (λ h. (h.functions ≡ f) × (f ≤ 15)) (program_header f)
  header_few f = holds_then (holds_need (leb f 15) 4 5) λ u a. by (refl, at_most f 15 a)

  whole : (n : ℕ) → n ≡ byte s 5 → n ≤ 15 → 8 ≤ length s → length s ≤ 4096 → has_mark s 0x53 ≡ true → word s 3 ≡ 1
      → (fs : Read (List Function)) → RawFunctions n [] 6 fs → (b : Read (Block device))
      → RawBlock device (record { places = 256; earlier = fs.it }) 8 fs.next (length s) b → b.next ≡ length s
      → RawProgramOf (record { functions = fs.it; main = b.it })
  whole n en few l₁ l₂ mark version fs w b v last =
      let q : RawProgram = record { functions = w.0; main = v.1 } in
      let d7 : v.0 ≡ 7 = (let e : 8 ≡ suc v.0 = v.2 in omega arith) in
      let m₁ : (eqb (byte s 0) 0x51 ≡ true) × ((eqb (byte s 1) 0x4C && eqb (byte s 2) 0x53) ≡ true) = split_mark mark in
      let m₂ : (eqb (byte s 1) 0x4C ≡ true) × (eqb (byte s 2) 0x53 ≡ true) = both (eqb (byte s 1) 0x4C) (eqb (byte s 2) 0x53) m₁.1 in
      let c₀ : byte s 0 ≡ 0x51 = eqb_true (byte s 0) 0x51 m₁.0 in
      let c₁ : byte s 1 ≡ 0x4C = eqb_true (byte s 1) 0x4C m₂.0 in
      let c₂ : byte s 2 ≡ 0x53 = eqb_true (byte s 2) 0x53 m₂.1 in
      let c₃ : byte s 3 ≡ 0 = omega arith in
      let c₄ : byte s 4 ≡ 1 = omega arith in
      let c₅ : byte s 5 ≡ length w.0 = sym en ∙ sym w.3 in
      let F : List ℕ = functions_bytes w.0 in
      let ab = at_append s F (sized (raws_bytes v.1)) 6 w.6 (moved s fs.next (6 + length F) (sized (raws_bytes v.1)) w.7 v.4) in
      let a : At s 0 (program_bytes q) =
      (c₀, omega arith, (c₁, omega arith, (c₂, omega arith, (c₃, omega arith, (c₄, omega arith, (c₅, omega arith, ab)))))) in
      let lp = length_sized F (raws_bytes v.1) in
      let lq : length (program_bytes q) ≡ length s = omega (arith, w.7, v.5, last) in
      let hs : map stub fs.it ≡ heads w.0 = ap (map stub) w.2 ∙ w.5 in
      let gm =
      subst (λ (z : List Function). Goods (record { places = 256; earlier = z }) 7 v.1) hs
      (subst (λ (k : ℕ). Goods (record { places = 256; earlier = map stub fs.it }) k v.1) d7 v.3) in (
        record { functions = w.0; main = v.1 },
        record { few = omega (arith, w.3); functions = w.4; main = gm; short = omega arith },
        at_all s (program_bytes q) a lq,
        sym (ap (λ (z : List Function). (names.program ∷ decimal 1 ∷ []) ∷ (functions_lines s 0 z ++ ((names.main ∷ []) ∷ block_lines s 1 b.it)))
            w.2
            ∙ ap (λ (z : List Line). (names.program ∷ decimal 1 ∷ []) ∷ (z ++ ((names.main ∷ []) ∷ block_lines s 1 b.it))) (w.8 0)
            ∙ ap (λ (z : List Line). (names.program ∷ decimal 1 ∷ []) ∷ (raw_functions 0 w.0 ++ ((names.main ∷ []) ∷ z))) (v.7 1)),
      )
    where
      split_mark : has_mark s 0x53 ≡ true → (eqb (byte s 0) 0x51 ≡ true) × ((eqb (byte s 1) 0x4C && eqb (byte s 2) 0x53) ≡ true)
      split_mark h = go (eqb (byte s 0) 0x51) (eqb (byte s 1) 0x4C) (eqb (byte s 2) 0x53) h
        where
          go : (x y z : Bool) → (x && y && z) ≡ true → (x ≡ true) × ((y && z) ≡ true)
          go true true z h = (refl, h)
          go true false z h = absurd (false≢true h)
          go false y z h = absurd (false≢true h)

  program_raw : Holds RawProgramOf (read_program s)
  program_raw =
      holds_then (holds_need (leb 8 (length s)) 1 0) λ u₁ a₁.
      holds_then (holds_need (leb (length s) 4096) 4 0) λ u₂ a₂.
      holds_then (holds_need (has_mark s 0x53) 2 0) λ u₃ a₃.
      holds_then (holds_need (eqb (word s 3) 1) 3 3) λ u₄ a₄.
      let l₁ : 8 ≤ length s = at_most 8 (length s) a₁ in
      holds_bind (header_few (byte s 5)) λ h c.
      holds_bind (functions_raw h.functions 6 [] (omega arith)) λ fs g.
      holds_bind (block_raw device (record { places = 256; earlier = fs.it }) 8 fs.next (length s) (omega arith)) λ b v.
      holds_then (holds_need (eqb b.next (length s)) 8 b.next) λ u₅ a₅.
      by (whole h.functions c.0 (omega (arith, c.0, c.1)) l₁ (at_most (length s) 4096 a₂) a₃ (eqb_true (word s 3) 1 a₄) fs g b v
      (eqb_true b.next (length s) a₅))

pub reads : Reads
reads s p y h = holds_at (program_raw s y) h
