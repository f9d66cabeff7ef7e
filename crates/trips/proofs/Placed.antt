-- Bytes that stand at a position of a file; scopes and rows as reading has them and as raw trees have them.
use mathlib.Core.Bool.{true, not, false≢true}
use mathlib.Core.List.{List, [], ◌∷◌, ◌++◌, append_assoc, map}
use mathlib.Core.Path.{◌≡◌, refl, sym, ap, subst, ◌∙◌}
use native.Mathlib.Nat.{le_of_suc-le-suc, not-suc-le-zero, add-zero, zero-add, add-suc, suc-add}
use native.Mathlib.Omega.{arith}
use Prim.Native.Nat.{ℕ, zero, suc, ◌+◌, ◌<◌, ◌≤◌}
use lib.Dec.{eqb}
use lib.ListN.{get_or, length, length-append, length-map, get_or-map}
use lib.Seq.{ext_get_or, get_or-append_seam}
use Rattle.rules.specs.declared.statements.Operand.{Operand}
use Rattle.rules.specs.declared.statements.Operand.TheVariants.{Slot, Location, Gate, Basis, Value, Callee, CalleeK, CalleeM, Nothing}
use Rattle.rules.specs.Basics.{chosen, up_to, byte}
use Rattle.rules.specs.Syntax as syntax
use Rattle.rules.specs.Syntax.{Function, block, done}
use Rattle.rules.specs.Program.{Scope, in_range}
use Rattle.rules.specs.Listing.{spoken, silent, Line, words}
use Rattle.rules.proofs.Tests.{below, eqb_same, eqb_true, is_below}
use Rattle.trips.proofs.Rows.{head_spoken, is_operand}
use Rattle.trips.proofs.Raw.{said, Within, Ranged, Operands, head_of}

-- the bytes xs stand at i in s
abbrev pub At : List ℕ → ℕ → List ℕ → Type 0
At s i [] = i ≤ length s
At s i (x ∷ xs) = (byte s i ≡ x) × (i < length s) × At s (suc i) xs

module _ (s : List ℕ) where
  pub at_end : (xs : List ℕ) (i : ℕ) → At s i xs → i + length xs ≤ length s
  at_end [] i h = omega arith
  at_end (x ∷ xs) i h = let r : suc i + length xs ≤ length s = at_end xs (suc i) h.2 in omega arith

  pub at_left : (xs ys : List ℕ) (i : ℕ) → At s i (xs ++ ys) → At s i xs
  at_left [] ys i h = let r : i + length ys ≤ length s = at_end ys i h in omega arith
  at_left (x ∷ xs) ys i h = (h.0, h.1, at_left xs ys (suc i) h.2)

  pub at_right : (xs ys : List ℕ) (i : ℕ) → At s i (xs ++ ys) → At s (i + length xs) ys
  at_right [] ys i h = subst (λ (j : ℕ). At s j ys) (sym (add-zero i)) h
  at_right (x ∷ xs) ys i h = subst (λ (j : ℕ). At s j ys) (suc-add i (length xs) ∙ sym (add-suc i (length xs))) (at_right xs ys (suc i) h.2)

  pub at_append : (xs ys : List ℕ) (i : ℕ) → At s i xs → At s (i + length xs) ys → At s i (xs ++ ys)
  at_append [] ys i h k = subst (λ (j : ℕ). At s j ys) (add-zero i) k
  at_append (x ∷ xs) ys i h k =
      (h.0, h.1, at_append xs ys (suc i) h.2 (subst (λ (j : ℕ). At s j ys) (add-suc i (length xs) ∙ sym (suc-add i (length xs))) k))

  pub at_byte : (xs : List ℕ) (i n : ℕ) → At s i xs → n < length xs → byte s (i + n) ≡ get_or xs n 0
  at_byte [] i n h l = absurd (not-suc-le-zero l)
  at_byte (x ∷ xs) i zero h l = ap (byte s) (add-zero i) ∙ h.0
  at_byte (x ∷ xs) i (suc n) h l = ap (byte s) (add-suc i n ∙ sym (suc-add i n)) ∙ at_byte xs (suc i) n h.2 (le_of_suc-le-suc l)

  pub at_up_to : (n i : ℕ) → i + n ≤ length s → At s i (up_to i n (byte s))
  at_up_to zero i h = omega arith
  at_up_to (suc n) i h = (refl, omega arith, at_up_to n (suc i) (omega arith))

  pub up_to_at : (xs : List ℕ) (i : ℕ) → At s i xs → up_to i (length xs) (byte s) ≡ xs
  up_to_at [] i h = refl
  up_to_at (x ∷ xs) i h = ap (λ (y : ℕ). y ∷ up_to (suc i) (length xs) (byte s)) h.0 ∙ ap (λ (z : List ℕ). x ∷ z) (up_to_at xs (suc i) h.2)

  pub at_all : (xs : List ℕ) → At s 0 xs → length xs ≡ length s → xs ≡ s
  at_all xs h e = ext_get_or 0 xs s e λ i l. sym (ap (byte s) (sym (zero-add i)) ∙ at_byte xs 0 i h l)

pub at_whole : (s pre : List ℕ) → At (pre ++ s) (length pre) s
at_whole [] pre = omega (arith, length-append pre [])
at_whole (x ∷ s) pre =
    let l : length (pre ++ (x ∷ s)) ≡ length pre + suc (length s) = length-append pre (x ∷ s) in
    let e : length (pre ++ (x ∷ [])) ≡ suc (length pre) = omega (arith, length-append pre (x ∷ [])) in
    let r : At ((pre ++ (x ∷ [])) ++ s) (length (pre ++ (x ∷ []))) s = at_whole s (pre ++ (x ∷ [])) in (
      get_or-append_seam pre x s 0,
      omega arith,
      subst (λ (z : List ℕ). At z (suc (length pre)) s) (append_assoc pre (x ∷ []) s) (subst (λ (j : ℕ). At ((pre ++ (x ∷ [])) ++ s) j s) e r),
    )

-- Scopes without bodies.
abbrev pub stub : Function → Function
stub f = head_of f.k f.m

abbrev pub stubbed : Scope → Scope
stubbed S = record { places = S.places; earlier = map stub S.earlier }

pub map_snoc : (fs : List Function) (g : Function) → map stub (fs ++ (g ∷ [])) ≡ map stub fs ++ (stub g ∷ [])
map_snoc [] g = refl
map_snoc (f ∷ fs) g = ap (λ (z : List Function). stub f ∷ z) (map_snoc fs g)

stub_at : (fs : List Function) (f : ℕ) → syntax.function (map stub fs) f ≡ stub (syntax.function fs f)
stub_at fs f = get_or-map stub fs f (record { k = 0; m = 0; body = block 0 done })

-- in range, and within
pub ranges : (S : Scope) (f : ℕ) (o : Operand) (x : ℕ) → Within (stubbed S) f o x → in_range S f o x ≡ true
ranges S f Slot x h = is_below x 32 h
ranges S f Location x h = is_below x S.places h
ranges S f Gate x h = is_below x 4 h
ranges S f Basis x h = is_below x 2 h
ranges S f Value x h = is_below x 2 h
ranges S f Callee x h =
    let l : x < length S.earlier = subst (λ (n : ℕ). x < n) (length-map S.earlier stub) h in
    is_below x (length S.earlier) l
ranges S f CalleeK x h =
    let e : (syntax.function S.earlier f).k ≡ x = ap (λ (g : Function). g.k) (sym (stub_at S.earlier f)) ∙ h in
    ap (λ (y : ℕ). eqb x y) e ∙ eqb_same x
ranges S f CalleeM x h =
    let e : (syntax.function S.earlier f).m ≡ x = ap (λ (g : Function). g.m) (sym (stub_at S.earlier f)) ∙ h in
    ap (λ (y : ℕ). eqb x y) e ∙ eqb_same x
ranges S f Nothing x h = refl

pub withins : (S : Scope) (f : ℕ) (o : Operand) (x : ℕ) → is_operand o ≡ true → in_range S f o x ≡ true → Within (stubbed S) f o x
withins S f Slot x i h = below x 32 h
withins S f Location x i h = below x S.places h
withins S f Gate x i h = below x 4 h
withins S f Basis x i h = below x 2 h
withins S f Value x i h = below x 2 h
withins S f Callee x i h =
    subst (λ (n : ℕ). x < n) (sym (length-map S.earlier stub)) (below x (length S.earlier) h)
withins S f CalleeK x i h =
    ap (λ (g : Function). g.k) (stub_at S.earlier f)
    ∙ sym (eqb_true x (syntax.function S.earlier f).k h)
withins S f CalleeM x i h =
    ap (λ (g : Function). g.m) (stub_at S.earlier f)
    ∙ sym (eqb_true x (syntax.function S.earlier f).m h)
withins S f Nothing x i h = absurd (false≢true i)

-- the first operand does not ask for itself
first_within : (S : Scope) (o : Operand) → not (silent o) ≡ true → (f g x : ℕ) → Within S f o x → Within S g o x
first_within S Slot e f g x h = h
first_within S Location e f g x h = h
first_within S Gate e f g x h = h
first_within S Basis e f g x h = h
first_within S Value e f g x h = h
first_within S Callee e f g x h = h
first_within S CalleeK e f g x h = absurd (false≢true e)
first_within S CalleeM e f g x h = absurd (false≢true e)
first_within S Nothing e f g x h = absurd (false≢true e)

pub operands_ranged : (S : Scope) (os : List Operand) (xs : List ℕ) → head_spoken os ≡ true → Operands S os xs → Ranged S (get_or xs 0 0) os xs
operands_ranged S [] [] e h = tt
operands_ranged S [] (x ∷ xs) e h = absurd h
operands_ranged S (o ∷ os) [] e h = absurd h
operands_ranged S (o ∷ os) (x ∷ xs) e h = (first_within S o e 0 x x h.0, h.1)

pub ranged_operands : (S : Scope) (os : List Operand) (xs : List ℕ) → head_spoken os ≡ true → Ranged S (get_or xs 0 0) os xs → Operands S os xs
ranged_operands S [] [] e h = tt
ranged_operands S [] (x ∷ xs) e h = absurd h
ranged_operands S (o ∷ os) [] e h = absurd h
ranged_operands S (o ∷ os) (x ∷ xs) e h = (first_within S o e x 0 x h.0, h.1)

-- operands as they stand are said as the list says them
pub words_said : (s : List ℕ) (os : List Operand) (xs : List ℕ) (i : ℕ) → At s i xs → length xs ≡ length os → words s i os ≡ said os xs
words_said s [] [] i h e = refl
words_said s [] (x ∷ xs) i h e = refl
words_said s (o ∷ os) [] i h e = absurd (omega arith)
words_said s (o ∷ os) (x ∷ xs) i h e =
    let q : length xs ≡ length os = omega arith in
    ap (λ (z : Line). chosen (silent o) z (spoken o (byte s i) ∷ z)) (words_said s os xs (suc i) h.2 q)
    ∙ ap (λ (y : ℕ). chosen (silent o) (said os xs) (spoken o y ∷ said os xs)) h.0
