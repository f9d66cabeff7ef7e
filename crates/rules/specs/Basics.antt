-- Small functions on lists, tests and bytes, with no meaning of their own.
use Rattle.std.specs.Prelude.{Bool, true, false, not, ◌&&◌, ◌||◌, List, [], ◌∷◌, ℕ, zero, suc, ◌+◌, ◌*◌, eqb, get_or, set}

module _ {A : Type 0} where
  abbrev pub chosen : Bool → A → A → A
  chosen true a b = a
  chosen false a b = b

  abbrev pub all : (A → Bool) → List A → Bool
  all p [] = true
  all p (x ∷ xs) = p x && all p xs

  abbrev pub any : (A → Bool) → List A → Bool
  any p [] = false
  any p (x ∷ xs) = p x || any p xs

  -- equal lists, by a test of their elements
  abbrev pub same_list : (A → A → Bool) → List A → List A → Bool
  same_list f [] [] = true
  same_list f [] (y ∷ ys) = false
  same_list f (x ∷ xs) [] = false
  same_list f (x ∷ xs) (y ∷ ys) = f x y && same_list f xs ys

  -- f i, f (i + 1), .. : m of them
  abbrev pub up_to : ℕ → ℕ → (ℕ → A) → List A
  up_to i zero f = []
  up_to i (suc m) f = f i ∷ up_to (suc i) m f

  -- those of the list that the tests leave out
  abbrev pub without : List Bool → List A → List A
  without [] xs = []
  without (b ∷ bs) [] = []
  without (true ∷ bs) (x ∷ xs) = without bs xs
  without (false ∷ bs) (x ∷ xs) = x ∷ without bs xs

  -- the value stored at each of the numbers
  abbrev pub set_all : A → List ℕ → List A → List A
  set_all v [] φ = φ
  set_all v (n ∷ ns) φ = set (set_all v ns φ) n v

-- how many pass
abbrev pub how_many : {A : Type 0} → (A → Bool) → List A → ℕ
how_many p [] = 0
how_many p (x ∷ xs) = chosen (p x) 1 0 + how_many p xs

-- nothing comes twice
abbrev pub distinct : List ℕ → Bool
distinct [] = true
distinct (x ∷ xs) = not (any (eqb x) xs) && distinct xs

-- the first number that passes, from i on and m of them; i + m where none does
abbrev pub first_from : (ℕ → Bool) → ℕ → ℕ → ℕ
first_from p i zero = i
first_from p i (suc m) = elim (p i) [ true ↦ i | false ↦ first_from p (suc i) m ]

abbrev pub byte : List ℕ → ℕ → ℕ
byte s i = get_or s i 0

-- a u16, big-endian
abbrev pub word : List ℕ → ℕ → ℕ
word s i = byte s i * 256 + byte s (i + 1)

-- the mark: `QL` and a third letter
abbrev pub has_mark : List ℕ → ℕ → Bool
has_mark s letter = eqb (byte s 0) 0x51 && eqb (byte s 1) 0x4C && eqb (byte s 2) letter
