-- The route call as a row of checks: what is asked before the search, then the search. Each exit of the code is one place of that row.
use mathlib.Core.Bool.{Bool, true, false, not, ◌||◌}
use mathlib.Core.List.{List}
use mathlib.Core.Option.{Option}
use mathlib.Core.Path.{◌≡◌, refl, sym, ap, ◌∙◌, fun_ext}
use native.Mathlib.Decide.{ℕ_discrete}
use native.Mathlib.Omega.{arith}
use Prim.Native.Nat.{ℕ, ◌≤◌, ◌<◌}
use borrow.Author.Tests.{eq-eqb, ne_eqb, eqb-true}
use lib.Dec.{eqb}
use lib.ListN.{length}
use Rattle.answers.specs.Check.{Check, ok, refused, refusal, ◌>>=◌, ◌>>◌, need, within}
use Rattle.answers.specs.declared.File.TheVariants.{Device}
use Rattle.answers.specs.declared.Refusal.{Refusal}
use Rattle.answers.specs.Said.{said}
use Rattle.std.specs.Prelude.{Option as Maybe, Some, None, Result, Ok, Err, OkIff, ok_or}
use Rattle.std.specs.Result.{result_ok}
use Rattle.answers.proofs.Laws.{ok_not_refused}
use Rattle.rules.specs.Device as rules
use Rattle.rules.specs.Device.{read_device}
use Rattle.rules.specs.Region.{Region, region_of, owns, free_in}
use Rattle.rules.specs.Path.{route}
use Rattle.rules.specs.Promises.{routed, route_written, route_of}
use Rattle.sets.specs.declared.LocationSet.{LocationSet}
use Rattle.sets.specs.Sets.{has}
use Rattle.device.specs.Reader.{Owned}
use Rattle.route.specs.declared.NoRoute.{NoRoute}
use Rattle.route.specs.declared.NoRoute.TheVariants.{NoPath, Short}
use Rattle.route.specs.Found.{found_said, fitted, Answers}
use Rattle.abwakiris.specs.Routing.{told, asked, Finds, Routes}

-- ---- the search
-- what the call answers for each answer of the search
abbrev pub answered : Result ℕ NoRoute → Result ℕ Refusal
answered (Ok n) = Ok n
answered (Err NoPath) = Err (refusal 21 0)
answered (Err Short) = Err (refusal 24 0)

-- both say the same
same_said : (f : Result ℕ NoRoute) → said (answered f) ≡ found_said f
same_said (Ok n) = refl
same_said (Err NoPath) = refl
same_said (Err Short) = refl

pub finds_as : (o : Option (List ℕ)) (before after : List ℕ) (f : Result ℕ NoRoute) (r : Result ℕ Refusal)
    → Answers o before f after → r ≡ answered f → Finds o before r after
finds_as o before after f r a q = rw (q, same_said f) a.said

-- ---- what is asked before it
some_not_none : {n : ℕ} → ◌≡◌ {A = Maybe ℕ} (Some n) None → ⊥
some_not_none e = let z : ◌≡◌ {A = ℕ} 1 0 = ap (λ (d : Maybe ℕ). elim d [ None ↦ 0 | Some x ↦ 1 ]) e in absurd (omega arith)

-- a number that no byte has
pub beyond : {E : Type 0} (x : ℕ) (r : Result ℕ E) → OkIff r (x < 256) x → ◌≡◌ {A = Maybe ℕ} (result_ok r) None → 256 ≤ x
beyond x (Ok l) h z = absurd (some_not_none z)
beyond x (Err e) h z = omega arith

-- an option that is none is refused as it says
pub refusal_is : (o : Maybe ℕ) → o ≡ None → (x e : Refusal) → ◌≡◌ {A = Result ℕ Refusal} (Err x) (ok_or o e) → x ≡ e
refusal_is o z x e q = let p : ◌≡◌ {A = Result ℕ Refusal} (Err x) (Err e) = q ∙ ap (λ (n : Maybe ℕ). ok_or n e) z in cc

module _ (inside : ℕ → Bool) (n : ℕ) (occupancy : List ℕ) (a b : ℕ) where
  pub asked_length : (length occupancy ≡ n → ⊥) → refused (refusal 26 0) ≡ asked inside n occupancy a b
  unfolding asked ◌>>◌
  asked_length h = rw (ne_eqb (length occupancy) n h) refl

  pub asked_first : length occupancy ≡ n → inside a ≡ false → refused (refusal 13 0) ≡ asked inside n occupancy a b
  unfolding asked ◌>>◌
  asked_first h i = rw (eq-eqb (length occupancy) n h, i) refl

  pub asked_second : length occupancy ≡ n → inside a ≡ true → inside b ≡ false → refused (refusal 13 1) ≡ asked inside n occupancy a b
  unfolding asked ◌>>◌
  asked_second h i j = rw (eq-eqb (length occupancy) n h, i, j) refl

  pub asked_equal : length occupancy ≡ n → inside a ≡ true → inside b ≡ true → a ≡ b → refused (refusal 15 0) ≡ asked inside n occupancy a b
  unfolding asked ◌>>◌
  asked_equal h i j e = rw (eq-eqb (length occupancy) n h, i, j, eq-eqb a b e) refl

  pub asked_ok : length occupancy ≡ n → inside a ≡ true → inside b ≡ true → (a ≡ b → ⊥) → ok tt ≡ asked inside n occupancy a b
  unfolding asked ◌>>◌
  asked_ok h i j e = rw (eq-eqb (length occupancy) n h, i, j, ne_eqb a b e) refl

  -- what was asked is so
  pub record Granted : Type 0 where
    pub long : length occupancy ≡ n
    pub first : inside a ≡ true
    pub second : inside b ≡ true

  pub granted : ok tt ≡ asked inside n occupancy a b → Granted
  unfolding asked ◌>>◌
  granted e = go (eqb (length occupancy) n) (inside a) (inside b) refl refl refl e
    where
      go : (t u v : Bool) → eqb (length occupancy) n ≡ t → inside a ≡ u → inside b ≡ v
          → ok tt ≡ (need t 26 0 >> (need u 13 0 >> (need v 13 1 >> need (not (eqb a b)) 15 0))) → Granted
      go true true true p q r e = record { long = eqb-true _ _ p; first = q; second = r }
      go false u v p q r e = ok_not_refused e
      go true false v p q r e = ok_not_refused e
      go true true false p q r e = ok_not_refused e

-- ---- in a region
module _ (R : Region) (owned : LocationSet) (O : Owned R owned) (n : ℕ) (occupancy : List ℕ) (a b : ℕ) where
  same_asked : asked (has owned) n occupancy a b ≡ asked (owns R) n occupancy a b
  same_asked = ap (λ (f : ℕ → Bool). asked f n occupancy a b) (fun_ext λ x. O.owned x)

  pub routes_refused : (x : Refusal) (before : List ℕ) → refused x ≡ asked (has owned) n occupancy a b
      → Routes R n occupancy a b before (Err x) before
  unfolding ◌>>◌
  routes_refused x before e = rw (sym (e ∙ same_asked)) refl

  pub routes_found : (free : LocationSet) → has free ≡ free_in R occupancy → ok tt ≡ asked (has owned) n occupancy a b
      → (before after : List ℕ) (r : Result ℕ Refusal)
      → Finds (route R (has free) a b) before r after → Routes R n occupancy a b before r after
  unfolding ◌>>◌
  routes_found free f e before after r h = rw (sym (e ∙ same_asked), sym f) h

-- ---- the whole
pub one_or_two : (j : ℕ) → (eqb j 1 || eqb j 2) ≡ true → j ≤ 2
one_or_two j e = go (ℕ_discrete j 1)
  where
    go : Dec (j ≡ 1) → j ≤ 2
    go (yes h) = omega arith
    go (no h) = let k = eqb-true j 2 (rw (ne_eqb j 1 h) at e) in omega arith

module _ (device : List ℕ) (job : ℕ) (occupancy : List ℕ) (a b : ℕ) (before : List ℕ) where
  pub route_no_job : (eqb job 1 || eqb job 2) ≡ false → told (Err (refusal 25 0)) before ≡ route_of device job occupancy a b before
  unfolding ◌>>◌
  route_no_job e = rw e refl

  pub route_no_device : (x : Refusal) → (eqb job 1 || eqb job 2) ≡ true → refused x ≡ within Device (read_device device)
      → told (Err x) before ≡ route_of device job occupancy a b before
  unfolding ◌>>◌ ◌>>=◌
  route_no_device x e q = rw (e, sym q) refl

  pub route_done : (D : rules.Device) → (eqb job 1 || eqb job 2) ≡ true → read_device device ≡ ok D → (r : Result ℕ Refusal) (after : List ℕ)
      → Routes (region_of D job) (length D.owners) occupancy a b before r after → told r after ≡ route_of device job occupancy a b before
  unfolding ◌>>◌ ◌>>=◌ asked fitted
  route_done D e q r after h = h ∙ ap (λ c. route_written before c) (in_order_lem ∙ sym whole)
    where
      R : Region
      R = region_of D job

      rest : Check (List ℕ)
      rest = fitted (route R (free_in R occupancy) a b) (length before)

      whole : ◌≡◌ {A = Check (List ℕ)} (routed device job occupancy a b (length before))
          (need (eqb (length occupancy) (length D.owners)) 26 0 >> (need (owns R a) 13 0 >> (need (owns R b) 13 1 >> (need (not (eqb a b)) 15 0 >> rest))))
      whole = rw (e, q) refl

      in_order_lem : ◌≡◌ {A = Check (List ℕ)} (asked (owns R) (length D.owners) occupancy a b >> rest)
          (need (eqb (length occupancy) (length D.owners)) 26 0 >> (need (owns R a) 13 0 >> (need (owns R b) 13 1 >> (need (not (eqb a b)) 15 0 >> rest))))
      in_order_lem = go (eqb (length occupancy) (length D.owners)) (owns R a) (owns R b)
        where
          go : (t u v : Bool) → ◌≡◌ {A = Check (List ℕ)} ((need t 26 0 >> (need u 13 0 >> (need v 13 1 >> need (not (eqb a b)) 15 0))) >> rest)
              (need t 26 0 >> (need u 13 0 >> (need v 13 1 >> (need (not (eqb a b)) 15 0 >> rest))))
          go true true true = refl
          go true true false = refl
          go true false v = refl
          go false u v = refl
