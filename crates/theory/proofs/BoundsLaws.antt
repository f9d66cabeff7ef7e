-- Laws of `Within`, as those of `Holds`: what a row of checks stays within is a chain of these, a link for each check.
use mathlib.Core.Bool.{Bool, true, false, ◌&&◌}
use mathlib.Core.Path.{◌≡◌, refl}
use native.Mathlib.Omega.{arith}
use Prim.Native.Nat.{ℕ, ◌≤◌}
use lib.Dec.{leb}
use Rattle.answers.specs.Check.{Check, ok, refusal, ◌>>=◌, ◌>>◌, need, within}
use Rattle.answers.specs.declared.File.{File}
use Rattle.theory.specs.Bounds.{job_named, Given, Within, value, refusal as refuses}
use Rattle.rules.proofs.Tests.{at_most, and_left, and_right}

module _ {A B : Type 0} {Q : A → Type 0} {P : B → Type 0} where
  pub bind_within : {m : Check A} {f : A → Check B} → Within Q m → ((a : A) → Q a → Within P (f a)) → Within P (m >>= f)
  unfolding ◌>>=◌
  bind_within (value {a = a} h) g = g a h
  bind_within (refuses h) g = refuses h

  pub then_within : {m : Check A} {n : Check B} → Within Q m → ((a : A) → Q a → Within P n) → Within P (m >> n)
  unfolding ◌>>◌
  then_within (value {a = a} h) g = g a h
  then_within (refuses h) g = refuses h

-- any value
abbrev pub Any : {A : Type 0} → A → Type 0
Any a = Unit {0}

-- a refusal's number
abbrev numbered : ℕ → Bool
numbered n = leb 1 n && leb n 26

pub given : (n o : ℕ) → numbered n ≡ true → o ≤ 4096 → Given (refusal n o)
given n o h l = record {
  from_1 = at_most 1 n (and_left (leb 1 n) (leb n 26) h);
  to_26 = at_most n 26 (and_right (leb 1 n) (leb n 26) h);
  in_file = l;
  named = omega arith;
}

pub need_within : (b : Bool) (n o : ℕ) → numbered n ≡ true → o ≤ 4096 → Within (λ u. b ≡ true) (need b n o)
need_within true n o h l = value refl
need_within false n o h l = refuses (given n o h l)

-- the value is what the check gave
pub known_within : {A : Type 0} {P : A → Type 0} {m : Check A} → Within P m → Within (λ a. P a × (m ≡ ok a)) m
known_within (value h) = value (h, refl)
known_within (refuses h) = refuses h

pub file_within : {A : Type 0} {P : A → Type 0} {m : Check A} (f : File) → job_named f ≤ 2 → Within P m → Within P (within f m)
file_within f l (value h) = value h
file_within f l (refuses h) = refuses (record { from_1 = h.from_1; to_26 = h.to_26; in_file = h.in_file; named = l })

pub choice_within : {A : Type 0} {P : A → Type 0} (b : Bool) {x y : Check A}
    → Within P x → Within P y → Within P (elim b [ false ↦ x | true ↦ y ])
choice_within false h k = h
choice_within true h k = k
