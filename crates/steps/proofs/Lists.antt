-- Laws of the lists that a call goes by, element by element: a test of all of them, no number twice, and lists made from a function.
use mathlib.Core.Bool.{Bool, not, ◌&&◌, ◌||◌}
use mathlib.Core.List.{List, [], ◌∷◌, map}
use mathlib.Core.Path.{◌≡◌, refl, sym, ap, ap₂, ◌∙◌}
use native.Mathlib.Decide.{ℕ_discrete}
use native.Mathlib.Nat.{add-zero}
use native.Mathlib.Omega.{arith}
use Prim.Native.Nat.{ℕ, zero, suc, ◌+◌, ◌-◌, ◌≤◌, ◌<◌}
use lib.Dec.{eqb}
use lib.ListN.{get_or, set, length, take, drop, length-map, get_or-map}
use Rattle.std.proofs.Math.Seq.{take-length}
use Rattle.std.proofs.lemmas.List.{length-drop, get_or-drop}
use lib.Seq.{get_or-take, get_or-set_same, get_or-set_other, length-take-le, ext_get_or}
use Rattle.std.specs.List.{list_all, list_any}
use Rattle.rules.specs.declared.place.Location.{Location}
use Rattle.rules.specs.Basics.{byte, all, any, up_to, distinct}
use Rattle.rules.specs.Syntax.{device, Place}
use Rattle.sets.specs.Bytes.{all_apart}
use Rattle.steps.specs.State.{place_of, location_at}
use Rattle.steps.specs.Calling.{given, numbers}

-- a list made from a function
module _ {A : Type 0} (f : ℕ → A) where
  pub length_up_to : (p m : ℕ) → length (up_to p m f) ≡ m
  length_up_to p zero = refl
  length_up_to p (suc m) = ap suc (length_up_to (suc p) m)

  pub get_d_up_to : (p m i : ℕ) (d : A) → i < m → get_or (up_to p m f) i d ≡ f (p + i)
  get_d_up_to p zero i d h = absurd (omega arith)
  get_d_up_to p (suc m) zero d h = ap f (sym (add-zero p))
  get_d_up_to p (suc m) (suc i) d h =
      let e : suc p + i ≡ p + suc i = omega arith in
      get_d_up_to (suc p) m i d (omega arith) ∙ ap f e

-- a slice of a file
pub slice_is : (s : List ℕ) (p m : ℕ) → p + m ≤ length s → take (p + m - p) (drop p s) ≡ up_to p m (byte s)
slice_is s p m h =
    let e : p + m - p ≡ m = omega arith in
    let l : length (take m (drop p s)) ≡ m = length-take-le m (drop p s) (omega (arith, length-drop p s)) in
    ap (λ (k : ℕ). take k (drop p s)) e
    ∙ ext_get_or 0 (take m (drop p s)) (up_to p m (byte s)) (l ∙ sym (length_up_to (byte s) p m)) λ i b.
    get_or-take m (drop p s) i 0 (omega (arith, l)) ∙ get_or-drop p s i 0 ∙ sym (get_d_up_to (byte s) p m i 0 (omega (arith, l)))

-- the first places of a call
pub given_length : (places : List Location) (k : ℕ) → length places ≡ 16 → k ≤ 16 → length (given places k) ≡ k
unfolding given
given_length places k e h = length-take-le k (map place_of places) (omega (arith, length-map places place_of))

pub given_at : (places : List Location) (k i : ℕ) → i < k → get_or (given places k) i (record { no = 0 }) ≡ place_of (location_at places i)
unfolding given
given_at places k i h = get_or-take k (map place_of places) i (record { no = 0 }) h ∙ get_or-map place_of places i (record { 0 = 0 })

-- a test of all locations is one of all places
pub tested : (P : ℕ → Bool) (ls : List Location) → list_all (λ (l : Location). P l.0) ls ≡ all (λ (l : Place device). P l.no) (map place_of ls)
tested P [] = refl
tested P (l ∷ ls) = ap (λ (b : Bool). P l.0 && b) (tested P ls)

-- nothing comes twice
any_is : (x : ℕ) (xs : List ℕ) → list_any (eqb x) xs ≡ any (eqb x) xs
any_is x [] = refl
any_is x (y ∷ ys) = ap (λ (b : Bool). eqb x y || b) (any_is x ys)

pub apart_is : (xs : List ℕ) → all_apart xs ≡ distinct xs
apart_is [] = refl
apart_is (x ∷ xs) = ap₂ (λ (a b : Bool). not a && b) (any_is x xs) (apart_is xs)

-- an array filled in order
pub filled_more : {A : Type 0} (f : ℕ → A) (xs : List A) (d : A) (i : ℕ) (x : A) → i < length xs → x ≡ f i → ((n : ℕ) → n < i → get_or xs n d ≡ f n)
    → (n : ℕ) → n < i + 1
    → get_or (set xs i x) n d ≡ f n
filled_more f xs d i x h e g n k = go (ℕ_discrete n i)
  where
    go : Dec (n ≡ i) → get_or (set xs i x) n d ≡ f n
    go (yes z) = ap (λ (m : ℕ). get_or (set xs i x) m d) z ∙ get_or-set_same xs i x d h ∙ e ∙ ap f (sym z)
    go (no z) = get_or-set_other xs i n x d z ∙ g n (omega (arith, z))

-- the numbers of so many locations, as they are written one by one, and as the rules have them
pub numbers_are : (ls : List Location) (ns : List ℕ) → length ls ≤ length ns → ((n : ℕ) → n < length ls → get_or ns n 0 ≡ (location_at ls n).0)
    → take (length ls) ns ≡ map (λ (l : Location). l.0) ls
numbers_are [] ns h e = refl
numbers_are (l ∷ ls) [] h e = absurd (omega arith)
numbers_are (l ∷ ls) (n ∷ ns) h e =
    ap₂ (λ (m : ℕ) (ms : List ℕ). m ∷ ms) (e 0 (omega arith)) (numbers_are ls ns (omega arith) λ k b. e (suc k) (omega arith))

pub numbers_of : (ls : List Location) → map (λ (l : Location). l.0) ls ≡ numbers (map place_of ls)
numbers_of [] = refl
numbers_of (l ∷ ls) = ap (λ (ns : List ℕ). l.0 ∷ ns) (numbers_of ls)

-- a test of all but the first n locations, which are a slice
dropped : (n : ℕ) (ls : List Location) → map place_of (drop n ls) ≡ drop n (map place_of ls)
dropped zero ls = refl
dropped (suc n) [] = refl
dropped (suc n) (l ∷ ls) = dropped n ls

pub rest_tested : (P : ℕ → Bool) (n : ℕ) (ls : List Location)
    → list_all (λ (l : Location). P l.0) (take (length ls - n) (drop n ls)) ≡ all (λ (l : Place device). P l.no) (drop n (map place_of ls))
rest_tested P n ls =
    let e : take (length ls - n) (drop n ls) ≡ drop n ls = ap (λ (m : ℕ). take m (drop n ls)) (sym (length-drop n ls)) ∙ take-length (drop n ls) in
    ap (list_all (λ (l : Location). P l.0)) e ∙ tested P (drop n ls) ∙ ap (all (λ (l : Place device). P l.no)) (dropped n ls)
