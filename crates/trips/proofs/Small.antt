-- The bytes of a good tree are below 256: operands are within their scope, and a length word is two bytes of a length below 65,536.
use mathlib.Core.List.{List, [], ◌∷◌, ◌++◌, append_assoc, append-nil}
use mathlib.Core.Option.{some}
use mathlib.Core.Path.{◌≡◌, sym, subst}
use native.Mathlib.Omega.{arith}
use Prim.Native.Nat.{ℕ, zero, suc, ◌+◌, ◌<◌, ◌≤◌}
use lib.ListN.{get_or, length, length-append, replicate}
use Rattle.rules.specs.declared.statements.Operand.{Operand}
use Rattle.rules.specs.declared.statements.Operand.TheVariants.{Slot, Location, Gate, Basis, Value, Callee, CalleeK, CalleeM, Nothing}
use Rattle.rules.specs.Syntax.{Function, function}
use Rattle.rules.specs.Table.{Row, table, row_of}
use Rattle.rules.specs.Program.{Scope}
use Rattle.rules.specs.Unlisting.{sized}
use Rattle.trips.specs.Trips.{Bytes}
use Rattle.trips.proofs.Rows.{byte_of_row}
use Rattle.trips.proofs.Raw.{length_sized, sized_length, Raw, plain, called, fork, loop, Raws, end, ◌then◌, raw_bytes, raws_bytes, Within, Ranged}
use Rattle.trips.proofs.Raw.{Operands, Good, good_plain, good_called, good_fork, good_loop, Goods, good_then, RawFunction, head_of, heads}
use Rattle.trips.proofs.Raw.{functions_bytes, GoodFunctions, a_function}

-- Bytes.
pub bytes_append : (xs ys : List ℕ) → Bytes xs → Bytes ys → Bytes (xs ++ ys)
bytes_append [] ys h k = k
bytes_append (x ∷ xs) ys h k = (h.0, bytes_append xs ys h.1 k)

pub bytes_sized : (bs : List ℕ) → length bs < 65536 → Bytes bs → Bytes (sized bs)
bytes_sized bs l h = (omega arith, (omega arith, h))

-- a scope's numbers are bytes
abbrev SmallHeads : List Function → Type 0
SmallHeads hs = (f : ℕ) → ((function hs f).k < 256) × ((function hs f).m < 256)

abbrev Small : Scope → Type 0
Small S = (S.places ≤ 256) × (length S.earlier ≤ 256) × SmallHeads S.earlier

pub small_none : SmallHeads []
small_none zero = (omega arith, omega arith)
small_none (suc f) = (omega arith, omega arith)

small_snoc : (hs : List Function) (k m : ℕ) → SmallHeads hs → k < 256 → m < 256 → SmallHeads (hs ++ (head_of k m ∷ []))
small_snoc [] k m h a b zero = (a, b)
small_snoc [] k m h a b (suc f) = small_none f
small_snoc (g ∷ hs) k m h a b zero = h 0
small_snoc (g ∷ hs) k m h a b (suc f) = small_snoc hs k m (λ n. h (suc n)) a b f

within_byte : (S : Scope) → Small S → (f : ℕ) (o : Operand) (x : ℕ) → Within S f o x → x < 256
within_byte S s f Slot x h = omega arith
within_byte S s f Location x h = omega (arith, s.0)
within_byte S s f Gate x h = omega arith
within_byte S s f Basis x h = omega arith
within_byte S s f Value x h = omega arith
within_byte S s f Callee x h = omega (arith, s.1)
within_byte S s f CalleeK x h = subst (λ (y : ℕ). y < 256) h (s.2 f).0
within_byte S s f CalleeM x h = subst (λ (y : ℕ). y < 256) h (s.2 f).1
within_byte S s f Nothing x h = omega arith

ranged_bytes : (S : Scope) → Small S → (f : ℕ) (os : List Operand) (xs : List ℕ) → Ranged S f os xs → Bytes xs
ranged_bytes S s f [] [] h = tt
ranged_bytes S s f [] (x ∷ xs) h = absurd h
ranged_bytes S s f (o ∷ os) [] h = absurd h
ranged_bytes S s f (o ∷ os) (x ∷ xs) h = (within_byte S s f o x h.0, ranged_bytes S s f os xs h.1)

operands_bytes : (S : Scope) → Small S → (os : List Operand) (xs : List ℕ) → Operands S os xs → Bytes xs
operands_bytes S s [] [] h = tt
operands_bytes S s [] (x ∷ xs) h = absurd h
operands_bytes S s (o ∷ os) [] h = absurd h
operands_bytes S s (o ∷ os) (x ∷ xs) h = (within_byte S s 0 o x h.0, ranged_bytes S s x os xs h.1)

row_byte : (b : ℕ) (r : Row) → row_of b ≡ some r → b < 256
row_byte b r e = let h : (i : ℕ) × (b ≡ suc i) × (i < length table) = byte_of_row b r e in omega (arith, h.1, h.2)

module _ (S : Scope) (sm : Small S) where
  mutual
    raw_bytes_lem : (d : ℕ) (r : Raw) → Good S d r → length (raw_bytes r) < 65536 → Bytes (raw_bytes r)
    raw_bytes_lem zero (fork b xs q t) given l = elim given [ ]
    raw_bytes_lem zero (loop b xs q) given l = elim given [ ]
    raw_bytes_lem d (plain b xs) (good_plain r f row m o) l = (row_byte b r row, operands_bytes S sm r.operands xs o)
    raw_bytes_lem d (called b xs ls ms) (good_called r row m o hl hm) l = (
      row_byte b r row,
      bytes_append xs (ls ++ ms) (operands_bytes S sm r.operands xs o)
          (bytes_append ls ms (ranged_bytes S sm 0 (replicate (get_or xs 1 0) Location) ls hl) (ranged_bytes S sm 0 (replicate (get_or xs 2 0) Slot) ms hm)),
    )
    raw_bytes_lem (suc d) (fork b xs q t) (good_fork r row m o gq gt) l =
        let lx = length-append xs (sized (raws_bytes q) ++ sized (raws_bytes t)) in
        let ly = length_sized (sized (raws_bytes q)) (raws_bytes t) in (
          row_byte b r row,
          bytes_append xs (sized (raws_bytes q) ++ sized (raws_bytes t)) (operands_bytes S sm r.operands xs o)
              (bytes_append (sized (raws_bytes q)) (sized (raws_bytes t)) (bytes_sized (raws_bytes q) (omega arith) (raws_bytes_lem d q gq (omega arith)))
              (bytes_sized (raws_bytes t) (omega arith) (raws_bytes_lem d t gt (omega arith)))),
        )
    raw_bytes_lem (suc d) (loop b xs q) (good_loop r row m o gq) l =
        let lx : length (xs ++ sized (raws_bytes q)) ≡ length xs + suc (suc (length (raws_bytes q))) = length_sized xs (raws_bytes q) in (
          row_byte b r row,
          bytes_append xs (sized (raws_bytes q)) (operands_bytes S sm r.operands xs o)
              (bytes_sized (raws_bytes q) (omega arith) (raws_bytes_lem d q gq (omega arith))),
        )

    pub raws_bytes_lem : (d : ℕ) (rs : Raws) → Goods S d rs → length (raws_bytes rs) < 65536 → Bytes (raws_bytes rs)
    raws_bytes_lem d end g l = tt
    raws_bytes_lem d (r then rs) (good_then g gs) l =
        let lx : length (raw_bytes r ++ raws_bytes rs) ≡ length (raw_bytes r) + length (raws_bytes rs) = length-append (raw_bytes r) (raws_bytes rs) in
        bytes_append (raw_bytes r) (raws_bytes rs) (raw_bytes_lem d r g (omega arith)) (raws_bytes_lem d rs gs (omega arith))

pub functions_bytes_lem : (gs : List RawFunction) (hs : List Function) → GoodFunctions hs gs → SmallHeads hs → length hs + length gs ≤ 256
    → length (functions_bytes gs) < 65536 → Bytes (functions_bytes gs) × SmallHeads (hs ++ heads gs)
functions_bytes_lem [] hs g s n l = (tt, subst (λ (z : List Function). SmallHeads z) (sym (append-nil hs)) s)
functions_bytes_lem (f ∷ gs) hs (a_function hk hm hl body rest) s n l =
    let lx = sized_length (raws_bytes f.body) (functions_bytes gs) in
    let lh : length (hs ++ (head_of f.k f.m ∷ [])) ≡ length hs + 1 = length-append hs (head_of f.k f.m ∷ []) in
    let k : f.k < 256 = omega arith in
    let m : f.m < 256 = omega arith in
    let R = functions_bytes_lem gs (hs ++ (head_of f.k f.m ∷ [])) rest (small_snoc hs f.k f.m s k m) (omega arith) (omega arith) in
    let b : Bytes (raws_bytes f.body) = raws_bytes_lem (record { places = f.k; earlier = hs }) (omega arith, omega arith, s) 7 f.body body (omega arith) in (
      (k, (m, bytes_append (sized (raws_bytes f.body)) (functions_bytes gs) (bytes_sized (raws_bytes f.body) (omega arith) b) R.0)),
      subst (λ (z : List Function). SmallHeads z) (append_assoc hs (head_of f.k f.m ∷ []) (heads gs)) R.1,
    )
