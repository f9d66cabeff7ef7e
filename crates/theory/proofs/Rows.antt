-- Laws of rows and of lists of tests. A part of the rules is a row of checks, and a row goes on where a check gives a value and ends where it refuses. So a
-- row and its list of tests agree test by test: where a test passes both go on, where it fails both have refused alike. `AsFirst m ts` says that the check
-- m refuses as the first test of ts that fails; each law here says how a longer row and a longer list are made of shorter ones.
use mathlib.Core.Bool.{Bool, true, false, ◌&&◌}
use mathlib.Core.List.{List, [], ◌∷◌, ◌++◌, map}
use mathlib.Core.Path.{◌≡◌, refl, sym, ap, subst, ◌∙◌}
use Prim.Native.Nat.{ℕ}
use Rattle.answers.specs.Check.{Check, ok, refused, refusal, ◌>>=◌, ◌>>◌, need}
use Rattle.answers.proofs.Laws.{Holds, not_ok, by, holds_bind, holds_then, holds_any, bind_assoc}
use Rattle.rules.specs.Basics.{all}
use Rattle.theory.specs.Tests.{Test, test, first_of, refusal_of}

-- a row in three parts
then_assoc : {A B C : Type 0} (m : Check A) (n : Check B) (k : Check C) → ((m >> n) >> k) ≡ (m >> (n >> k))
unfolding ◌>>◌
then_assoc (ok a) n k = refl
then_assoc (refused r) n k = refl

-- a value made of what a check gives refuses as the check
refusal_made : {A B : Type 0} (m : Check A) (f : A → B) → refusal_of (m >>= λ a. ok (f a)) ≡ refusal_of m
unfolding refusal_of ◌>>=◌ ◌>>◌
refusal_made (ok a) f = refl
refusal_made (refused r) f = refl

-- one list after another
first_of_append : (ts us : List Test) → first_of (ts ++ us) ≡ (first_of ts >> first_of us)
unfolding first_of ◌>>◌
first_of_append [] us = refl
first_of_append (t ∷ ts) us =
    let first : Check (Unit {0}) = need t.passes t.number t.place in
    ap (λ (m : Check (Unit {0})). first >> m) (first_of_append ts us) ∙ sym (then_assoc first (first_of ts) (first_of us))

-- what holds of a row's value, whatever its first check gave
pub past : {A B : Type 0} {P : B → Type 0} (m : Check A) {k : Check B} → Holds P k → Holds P (m >> k)
past m h = holds_then (holds_any m) λ a e. h

pub past_any : {A B : Type 0} {P : B → Type 0} (m : Check A) {f : A → Check B} → ((a : A) → Holds P (f a)) → Holds P (m >>= f)
past_any m h = holds_bind (holds_any m) λ a e. h a

pub record AsFirst {A : Type 0} (m : Check A) (ts : List Test) : Type 0 where
  pub same : refusal_of m ≡ first_of ts

pub end : {A : Type 0} (a : A) → AsFirst (ok a) []
unfolding refusal_of first_of ◌>>◌
end a = record { same = refl }

-- a test that heads a row heads the row's list
pub next : {A : Type 0} (b : Bool) (n o : ℕ) {m : Check A} {ts : List Test} → AsFirst m ts → AsFirst (need b n o >> m) (test b n o ∷ ts)
unfolding refusal_of first_of ◌>>◌
next true n o h = record { same = h.same }
next false n o h = record { same = refl }

-- a test that always passes, and one that always fails
pub passed : {A : Type 0} (n o : ℕ) {m : Check A} {ts : List Test} → AsFirst m ts → AsFirst m (test true n o ∷ ts)
unfolding first_of ◌>>◌
passed n o h = record { same = h.same }

pub fails : {A : Type 0} (n o : ℕ) (ts : List Test) → AsFirst {A = A} (refused (refusal n o)) (test false n o ∷ ts)
unfolding refusal_of first_of ◌>>◌
fails n o ts = record { same = refl }

-- a row that does not need what its first check gave
then_bind : {A B : Type 0} (m : Check A) (k : Check B) → (m >>= λ a. k) ≡ (m >> k)
unfolding ◌>>=◌ ◌>>◌
then_bind (ok a) k = refl
then_bind (refused r) k = refl

unneeded : {A B : Type 0} (m : Check A) (k : Check B) {ts : List Test} → AsFirst (m >>= λ a. k) ts → AsFirst (m >> k) ts
unneeded m k {ts = ts} h = subst (λ (n : Check _). AsFirst n ts) (then_bind m k) h

-- a value at a row's end
pub made : {A B : Type 0} {m : Check A} {ts : List Test} (f : A → B) → AsFirst m ts → AsFirst (m >>= λ a. ok (f a)) ts
made {m = m} f h = record { same = refusal_made m f ∙ h.same }

pub gives : {A B : Type 0} {m : Check A} {ts : List Test} (b : B) → AsFirst m ts → AsFirst (m >> ok b) ts
gives {m = m} b h = unneeded m (ok b) (made (λ a. b) h)

-- One row after another. What the first gave has the property P, and with it the second has its list.
followed : {A B : Type 0} {P : A → Type 0} {m : Check A} (f : A → Check B) (ts us : List Test) → refusal_of m ≡ first_of ts → Holds P m
    → ((a : A) → P a → AsFirst (f a) us) → refusal_of (m >>= f) ≡ (first_of ts >> first_of us)
unfolding refusal_of ◌>>=◌ ◌>>◌
followed f ts us e not_ok g = ap (λ (n : Check (Unit {0})). n >> first_of us) e
followed f ts us e (by {a = a} p) g = (g a p).same ∙ ap (λ (n : Check (Unit {0})). n >> first_of us) e

pub after_having : {A B : Type 0} {P : A → Type 0} {m : Check A} {f : A → Check B} {ts us : List Test} → Holds P m → AsFirst m ts
    → ((a : A) → P a → AsFirst (f a) us) → AsFirst (m >>= f) (ts ++ us)
after_having {f = f} {ts = ts} {us = us} p h g = record { same = followed f ts us h.same p g ∙ sym (first_of_append ts us) }

pub after : {A B : Type 0} {m : Check A} {f : A → Check B} {ts us : List Test} → AsFirst m ts
    → ((a : A) → AsFirst (f a) us) → AsFirst (m >>= f) (ts ++ us)
after {m = m} h g = after_having (holds_any m) h λ a e. g a

pub then : {A B : Type 0} {m : Check A} {k : Check B} {ts us : List Test} → AsFirst m ts → AsFirst k us → AsFirst (m >> k) (ts ++ us)
then {m = m} {k = k} h g = unneeded m k (after h λ a. g)

-- A header is a row of its own, and stands in the row as its tests: its first test, its value, and what is a row in a row.
pub next_in : {A B : Type 0} (b : Bool) (n o : ℕ) (m : Check A) (f : A → Check B) {ts : List Test} → AsFirst (m >>= f) ts
    → AsFirst ((need b n o >> m) >>= f) (test b n o ∷ ts)
unfolding refusal_of first_of ◌>>=◌ ◌>>◌
next_in true n o m f h = record { same = h.same }
next_in false n o m f h = record { same = refl }

pub value_in : {A B : Type 0} (a : A) (f : A → Check B) {ts : List Test} → AsFirst (f a) ts → AsFirst (ok a >>= f) ts
unfolding ◌>>=◌
value_in a f h = h

pub row_in : {A B C : Type 0} (m : Check A) (f : A → Check B) (g : B → Check C) {ts : List Test} → AsFirst (m >>= λ a. f a >>= g) ts
    → AsFirst ((m >>= f) >>= g) ts
row_in m f g {ts = ts} h = subst (λ (n : Check _). AsFirst n ts) (sym (bind_assoc m f g)) h

-- by a test, one row and its list or another row and its list
pub choice : {A : Type 0} (b : Bool) {m n : Check A} {ts us : List Test} → AsFirst m ts → AsFirst n us
    → AsFirst {A = A} (elim b [ false ↦ m | true ↦ n ]) (elim b [ false ↦ ts | true ↦ us ])
choice false g h = g
choice true g h = h

-- one test of two facts is a test of each, with the same number and place, and so is one test of all elements
pub both : (a b : Bool) (n o : ℕ) → AsFirst (need (a && b) n o) (test a n o ∷ test b n o ∷ [])
unfolding refusal_of first_of ◌>>◌
both true true n o = record { same = refl }
both true false n o = record { same = refl }
both false b n o = record { same = refl }

pub each : {X : Type 0} (p : X → Bool) (n o : ℕ) (xs : List X) → AsFirst (need (all p xs) n o) (map (λ x. test (p x) n o) xs)
each p n o [] = end tt
each p n o (x ∷ xs) = go (p x) (each p n o xs)
  where
    go : (b : Bool) → AsFirst (need (all p xs) n o) (map (λ x. test (p x) n o) xs)
        → AsFirst (need (b && all p xs) n o) (test b n o ∷ map (λ x. test (p x) n o) xs)
    go true h = passed n o h
    go false h = fails n o _
