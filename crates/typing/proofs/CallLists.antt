-- A call by its lists: the parts of the file that the code has are the lists that the reader read, and what the code asks of them is what the rules ask
-- of the call.
use mathlib.Core.Bool.{Bool, false, ◌&&◌, ◌||◌}
use mathlib.Core.List.{List, [], ◌∷◌, map}
use mathlib.Core.Path.{◌≡◌, refl, sym, ap}
use native.Mathlib.Numerals.{add-one}
use native.Mathlib.Omega.{arith}
use Prim.Native.Nat.{ℕ, zero, suc, ◌+◌, ◌-◌, ◌≤◌, ◌<◌}
use lib.Dec.{eqb}
use lib.ListN.{get_or, length, drop, take, drop_of_length-le}
use lib.Seq.{drop-cons}
use Rattle.std.proofs.Math.Seq.{take-length}
use Rattle.std.proofs.lemmas.List.{length-drop}
use Rattle.std.specs.List.{list_all, list_any}
use Rattle.answers.specs.Check.{Check, ok, ◌>>=◌, ◌>>◌, need}
use Rattle.rules.specs.Basics.{all, any, distinct, up_to, byte}
use Rattle.rules.specs.Syntax.{Side, Place}
use Rattle.rules.specs.Slots.{slot, need_qubit, arguments_at}
use Rattle.rules.specs.Typing.{Env as Environment, Context, kinds}
use Rattle.sets.specs.Bytes.{all_apart}
use Rattle.sets.specs.declared.LocationSet.{LocationSet}
use Rattle.sets.specs.Sets.{has}
use Rattle.typing.specs.declared.env.Env.{Env}
use Rattle.typing.specs.Stands.{EnvIs, Within}
use Rattle.typing.specs.Calls.{places}

-- a part of the file, as the reader reads it
taken : (s : List ℕ) (a n : ℕ) → a + n ≤ length s → take n (drop a s) ≡ up_to a n (byte s)
taken s a zero h = refl
taken s a (suc n) h = rw (drop-cons s a 0 (omega arith)) (ap (λ (xs : List ℕ). byte s a ∷ xs) (taken s (suc a) n (omega arith)))

pub part : (s : List ℕ) (a n : ℕ) → a + n ≤ length s → take (a + n - a) (drop a s) ≡ up_to a n (byte s)
part s a n h = let q : a + n - a ≡ n = omega arith in rw q (taken s a n h)

to_end : (ls : List ℕ) (m : ℕ) → take (length ls - m) (drop m ls) ≡ drop m ls
to_end ls m = rw (sym (length-drop m ls)) (take-length (drop m ls))

pub places_up_to : (d : Side) (s : List ℕ) (a n : ℕ) → places d (up_to a n (byte s)) ≡ up_to a n (λ i. record { no = byte s i })
places_up_to d s a zero = refl
places_up_to d s a (suc n) = ap (λ (ps : List (Place d)). record { no = byte s a } ∷ ps) (places_up_to d s (suc a) n)

-- the tests of rows
any_row : (p : ℕ → Bool) (xs : List ℕ) → list_any p xs ≡ any p xs
any_row p [] = refl
any_row p (x ∷ xs) = ap (λ (b : Bool). p x || b) (any_row p xs)

pub apart_row : (xs : List ℕ) → distinct xs ≡ all_apart xs
apart_row [] = refl
apart_row (x ∷ xs) = rw (any_row (eqb x) xs, apart_row xs)

pub numbers : (d : Side) (ls : List ℕ) → map (λ (l : Place d). l.no) (places d ls) ≡ ls
numbers d [] = refl
numbers d (l ∷ ls) = ap (λ (ks : List ℕ). l ∷ ks) (numbers d ls)

module _ {d : Side} where
  pub all_row : (f : Place d → Bool) (g : ℕ → Bool) → ((l : ℕ) → f (record { no = l }) ≡ g l) → (ls : List ℕ) → all f (places d ls) ≡ list_all g ls
  all_row f g h [] = refl
  all_row f g h (l ∷ ls) = rw (h l, all_row f g h ls)

  pub drop_places : (n : ℕ) (ls : List ℕ) → drop n (places d ls) ≡ places d (drop n ls)
  drop_places zero ls = refl
  drop_places (suc n) [] = refl
  drop_places (suc n) (l ∷ ls) = drop_places n ls

-- the arguments, asked in turn: what is left to be asked from argument i on
module _ {d : Side} (C : Context d) (Γ : Environment d) (o : ℕ) (xs ls : List ℕ) where
  abbrev pub Left : ℕ → Check (Unit {0})
  Left i = arguments_at (kinds C Γ) o Γ.slots (drop i xs) (places d (drop i ls))

  pub left_one : (i : ℕ) → i < length xs → length xs ≤ length ls → {x : ℕ} → x ≡ get_or xs i 0
      → Left i ≡ (need_qubit (slot Γ.slots x) o >>= λ p. need (eqb p.no (get_or ls i 0)) 16 o >> Left (i + 1))
  left_one i h l e = rw (e, drop-cons xs i 0 h, drop-cons ls i 0 (omega arith), add-one i)

  pub left_none : (i : ℕ) → length xs ≤ i → ok tt ≡ Left i
  left_none i h = rw (drop_of_length-le xs {i = i} h)

-- the tests of a call's lists, as the code's sets have them
pub twice_row : (d : Side) (ls xs : List ℕ) → (distinct (map (λ (l : Place d). l.no) (places d ls)) && distinct xs) ≡ (all_apart ls && all_apart xs)
twice_row d ls xs = rw (numbers d ls, apart_row ls, apart_row xs)

module _ {d : Side} {n : ℕ} (ls : List ℕ) where
  pub inside_row : {inside : LocationSet} {C : Context d} → Within inside n C → all C.inside (places d ls) ≡ list_all (has inside) ls
  inside_row {inside} {C} w = all_row C.inside (has inside) (λ l. w.same (record { no = l })) ls

  pub free_row : {e : Env} {Γ : Environment d} (m : ℕ) → EnvIs n e Γ
      → all (λ (l : Place d). get_or Γ.free l.no false) (drop m (places d ls)) ≡ list_all (has e.free) (take (length ls - m) (drop m ls))
  free_row {e} {Γ} m is = rw (drop_places m ls, to_end ls m) (all_row (λ (l : Place d). get_or Γ.free l.no false) (has e.free) is.free (drop m ls))
