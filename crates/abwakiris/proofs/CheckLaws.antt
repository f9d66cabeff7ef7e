-- The check as a row: job, device, program, judgement. Each exit of the code is one place of that row.
use mathlib.Core.Bool.{true, false, ◌||◌}
use mathlib.Core.List.{List}
use mathlib.Core.Path.{◌≡◌, refl, sym, ap, ◌∙◌}
use Prim.Native.Nat.{ℕ}
use lib.Dec.{eqb}
use Rattle.answers.specs.Check.{Check, ok, refused, refusal, in_file, ◌>>=◌, ◌>>◌, within}
use Rattle.answers.specs.declared.Counted.{Counted}
use Rattle.answers.specs.declared.File.TheVariants.{Device, Program}
use Rattle.answers.specs.declared.Refusal.{Refusal}
use Rattle.answers.specs.Said.{said}
use Rattle.std.specs.Prelude.{Result, Ok, Err, IsErrAnd, MatchResult}
use Rattle.answers.proofs.Laws.{ok_not_refused}
use Rattle.rules.specs.Device as rules
use Rattle.rules.specs.Device.{read_device}
use Rattle.rules.specs.Region.{Region, region_of}
use Rattle.rules.specs.Syntax as syntax
use Rattle.rules.specs.Program.{read_program}
use Rattle.rules.specs.Promises.{judged, check_of}
use Rattle.abwakiris.specs.Checking.{checked_in}

-- ---- a judgement, and its refusal with the program's name
pub judgement_named : (job : ℕ) (j r : Result Counted Refusal) (Named : Refusal → Refusal → Type 0)
    → ((x y : Refusal) → Named x y → y ≡ in_file (Program job) x)
    → MatchResult j (λ a. r ≡ Ok a) (λ x. IsErrAnd r (Named x)) → said r ≡ within (Program job) (said j)
judgement_named job (Ok a) r Named named e = ap said e
judgement_named job (Err x) (Ok a) Named named e = absurd e
judgement_named job (Err x) (Err y) Named named e = ap refused (named x y e)

-- ---- a program as its reader answers
module _ (s : List ℕ) (job : ℕ) where
  abbrev Said : Check (Unit {0}) → Type 0
  Said a = a ≡ within (Program job) (read_program s >> ok tt)

  pub program_gives : Said (ok tt) → (p : syntax.Program) × (read_program s ≡ ok p)
  unfolding ◌>>◌
  program_gives e = go (read_program s) refl e
    where
      go : (m : Check syntax.Program) → read_program s ≡ m → ◌≡◌ {A = Check (Unit {0})} (ok tt) (within (Program job) (m >> ok tt))
          → (p : syntax.Program) × (read_program s ≡ ok p)
      go (ok p) q e = (p, q)
      go (refused x) q e = ok_not_refused e

  pub program_refuses : (x : Refusal) → Said (refused x) → refused x ≡ within (Program job) (read_program s)
  unfolding ◌>>◌
  program_refuses x e = go (read_program s) e
    where
      go : (m : Check syntax.Program) → ◌≡◌ {A = Check (Unit {0})} (refused x) (within (Program job) (m >> ok tt))
          → ◌≡◌ {A = Check syntax.Program} (refused x) (within (Program job) m)
      go (ok p) e = ok_not_refused (sym e)
      go (refused y) e = let q : x ≡ in_file (Program job) y = cc in ap refused q

  -- ---- after the device
  module _ (R : Region) where
    pub check_no_program : (x : Refusal) → Said (refused x) → refused x ≡ checked_in R s job
    unfolding checked_in ◌>>=◌
    check_no_program x e = rw (sym (program_refuses x e)) refl

    pub check_judged : (p : syntax.Program) → read_program s ≡ ok p → (m : Check Counted) → m ≡ within (Program job) (judged R p)
        → m ≡ checked_in R s job
    unfolding checked_in ◌>>=◌
    check_judged p q m e = e ∙ sym (rw q refl)

-- ---- the whole
module _ (device program : List ℕ) (job : ℕ) where
  pub check_no_job : (eqb job 1 || eqb job 2) ≡ false → refused (refusal 25 0) ≡ check_of device program job
  unfolding ◌>>◌
  check_no_job e = rw e refl

  pub check_no_device : (x : Refusal) → (eqb job 1 || eqb job 2) ≡ true → refused x ≡ within Device (read_device device)
      → refused x ≡ check_of device program job
  unfolding ◌>>◌ ◌>>=◌
  check_no_device x e q = rw (e, sym q) refl

  pub check_done : (D : rules.Device) → (eqb job 1 || eqb job 2) ≡ true → read_device device ≡ ok D
      → (m : Check Counted) → m ≡ checked_in (region_of D job) program job → m ≡ check_of device program job
  unfolding ◌>>◌ ◌>>=◌ checked_in
  check_done D e q m h = h ∙ sym (rw (e, q) refl)
