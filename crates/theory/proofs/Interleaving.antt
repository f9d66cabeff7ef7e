-- All the turns of the first job, then all of the next, and so on: a schedule that gives each job the same turns in the same order, so it ends as any
-- interleaving does. For any number of jobs; two jobs are a case.
use mathlib.Core.Path.{◌≡◌, refl, sym, ap, subst, ◌∙◌}
use mathlib.Core.List.{List, [], ◌∷◌, ◌++◌, append-nil}
use mathlib.Core.Logic.{◌≢◌}
use Prim.Native.Nat.{ℕ}
use mathlib.Core.Bool.{Bool, true, false, ◌||◌, false≢true}
use lib.Dec.{eqb}
use native.Mathlib.Decide.{ℕ_discrete}
use Rattle.rules.specs.Basics.{chosen, all, any, distinct}
use Rattle.rules.specs.Device.{Device}
use Rattle.rules.specs.Syntax.{Program}
use Rattle.rules.specs.Run.{Turn, started}
use Rattle.theory.specs.Interleaving.{turns_of, in_order, Alike, AnyInterleaving, TwoJobs}
use Rattle.rules.proofs.Tests.{eqb_same, eqb_other, and_left, and_right, and_both}
use Rattle.theory.proofs.Base.{distinct_head, distinct_tail}
use Rattle.theory.proofs.Isolation.{Ends, sound_started, isolation}

turns_append : (j : ℕ) (ts us : List Turn) → turns_of j (ts ++ us) ≡ turns_of j ts ++ turns_of j us
turns_append j [] us = refl
turns_append j (t ∷ ts) us = go (eqb t.job j) (turns_append j ts us)
  where
    go : (b : Bool) → turns_of j (ts ++ us) ≡ turns_of j ts ++ turns_of j us
        → chosen b (t ∷ turns_of j (ts ++ us)) (turns_of j (ts ++ us)) ≡ chosen b (t ∷ turns_of j ts) (turns_of j ts) ++ turns_of j us
    go true h = ap (λ r. t ∷ r) h
    go false h = h

-- the turns of a job among its own turns are all of them ..
turns_own : (j : ℕ) (ts : List Turn) → turns_of j (turns_of j ts) ≡ turns_of j ts
turns_own j [] = refl
turns_own j (t ∷ ts) = go (eqb t.job j) refl (turns_own j ts)
  where
    go : (b : Bool) → eqb t.job j ≡ b → turns_of j (turns_of j ts) ≡ turns_of j ts
        → turns_of j (chosen b (t ∷ turns_of j ts) (turns_of j ts)) ≡ chosen b (t ∷ turns_of j ts) (turns_of j ts)
    go true e h = rw e (ap (λ r. t ∷ r) h)
    go false e h = h

-- .. and among another job's turns there are none
turns_other : (i j : ℕ) (ts : List Turn) → i ≢ j → turns_of j (turns_of i ts) ≡ []
turns_other i j [] n = refl
turns_other i j (t ∷ ts) n = go (ℕ_discrete t.job i) (turns_other i j ts n)
  where
    go : Dec (t.job ≡ i) → turns_of j (turns_of i ts) ≡ [] → turns_of j (chosen (eqb t.job i) (t ∷ turns_of i ts) (turns_of i ts)) ≡ []
    go (yes e) h = rw (ap (λ x. eqb x i) e ∙ eqb_same i) (rw (eqb_other t.job j (λ q. n (sym e ∙ q))) h)
    go (no m) h = rw (eqb_other t.job i m) h

turns_in_order : (j : ℕ) (js : List ℕ) (ts : List Turn) → distinct js ≡ true → turns_of j (in_order js ts) ≡ chosen (any (eqb j) js) (turns_of j ts) []
turns_in_order j [] ts h = refl
turns_in_order j (i ∷ js) ts h =
    turns_append j (turns_of i ts) (in_order js ts) ∙ go (ℕ_discrete j i) (turns_in_order j js ts (distinct_tail i js h))
  where
    go : Dec (j ≡ i) → turns_of j (in_order js ts) ≡ chosen (any (eqb j) js) (turns_of j ts) []
        → turns_of j (turns_of i ts) ++ turns_of j (in_order js ts) ≡ chosen (eqb j i || any (eqb j) js) (turns_of j ts) []
    go (yes e) k =
        let off : any (eqb i) js ≡ false = distinct_head i js h in
        let rest : turns_of i (in_order js ts) ≡ [] = rw off at (rw e at k) in
        rw e (rw (eqb_same i) (rw rest (append-nil (turns_of i (turns_of i ts)) ∙ turns_own i ts)))
    go (no n) k = rw (eqb_other j i n) (rw (turns_other i j ts (λ e. n (sym e))) k)

-- a job that is none of the jobs has no turn
none_of : (j : ℕ) (js : List ℕ) (ts : List Turn) → all (λ (t : Turn). any (eqb t.job) js) ts ≡ true → any (eqb j) js ≡ false
    → turns_of j ts ≡ []
none_of j js [] h k = refl
none_of j js (t ∷ ts) h k = go (ℕ_discrete t.job j) (none_of j js ts (and_right (any (eqb t.job) js) _ h) k)
  where
    go : Dec (t.job ≡ j) → turns_of j ts ≡ [] → chosen (eqb t.job j) (t ∷ turns_of j ts) (turns_of j ts) ≡ []
    go (yes e) r = absurd (false≢true (sym k ∙ ap (λ x. any (eqb x) js) (sym e) ∙ and_left (any (eqb t.job) js) _ h))
    go (no n) r = rw (eqb_other t.job j n) r

same_turns : (js : List ℕ) (ts : List Turn) → distinct js ≡ true → all (λ (t : Turn). any (eqb t.job) js) ts ≡ true
    → (j : ℕ) → turns_of j ts ≡ turns_of j (in_order js ts)
same_turns js ts d h j = go (any (eqb j) js) refl ∙ sym (turns_in_order j js ts d)
  where
    go : (b : Bool) → any (eqb j) js ≡ b → turns_of j ts ≡ chosen (any (eqb j) js) (turns_of j ts) []
    go true e = rw e
    go false e = rw e (none_of j js ts h e)

alike : (D : Device) (programs : ℕ → Program) (ts us : List Turn) → Ends D programs ts us (started D programs) → Alike D programs ts us
alike D programs ts us E = record { device = E.device; jobs = E.jobs; told = E.told }

pub any_interleaving : AnyInterleaving
any_interleaving D programs js ts d h =
    alike D programs ts us (isolation D programs ts us (started D programs) (sound_started D programs) (same_turns js ts d h))
  where
    us : List Turn
    us = in_order js ts

-- the two tests of a turn say the same
or_none : (a b : Bool) → (a || b) ≡ true → (a || (b || false)) ≡ true
or_none true b h = refl
or_none false true h = refl
or_none false false h = h

one_of_two : (ts : List Turn) → all (λ (t : Turn). eqb t.job 1 || eqb t.job 2) ts ≡ true
    → all (λ (t : Turn). any (eqb t.job) (1 ∷ 2 ∷ [])) ts ≡ true
one_of_two [] h = refl
one_of_two (t ∷ ts) h =
    and_both _ _ (or_none (eqb t.job 1) (eqb t.job 2) (and_left here _ h)) (one_of_two ts (and_right here _ h))
  where
    here : Bool
    here = eqb t.job 1 || eqb t.job 2

pub two_jobs : TwoJobs
two_jobs D programs ts h =
    let in_order_lem : Alike D programs ts (turns_of 1 ts ++ (turns_of 2 ts ++ [])) = any_interleaving D programs (1 ∷ 2 ∷ []) ts refl (one_of_two ts h) in
    subst (λ (us : List Turn). Alike D programs ts (turns_of 1 ts ++ us)) (append-nil (turns_of 2 ts)) in_order_lem
