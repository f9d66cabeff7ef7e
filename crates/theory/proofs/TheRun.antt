-- Demand 3 and the moved counts, carried over to what the run call answers and writes. A schedule that is run is a list of turns, one a byte; its record
-- bytes, taken by job, are the bytes of the job's records; so what is known of turns and records is known of the bytes.
use mathlib.Core.Bool.{Bool, true, false, ◌&&◌, ◌||◌}
use mathlib.Core.List.{List, [], ◌∷◌, ◌++◌, map}
use mathlib.Core.Path.{◌≡◌, refl, sym, ap, ap₂, ◌∙◌, subst}
use native.Mathlib.Decide.{ℕ_discrete}
use native.Mathlib.Omega.{arith}
use Prim.Native.Nat.{ℕ, suc, ◌+◌, ◌*◌, ◌/◌, ◌%◌, ◌≤◌}
use borrow.Author.Tests.{eq-eqb, ne_eqb, leb-true, le-leb}
use lib.Dec.{eqb, leb}
use lib.ListN.{length, length-append}
use Rattle.answers.specs.Check.{Check, ok, refused, ◌>>=◌, ◌>>◌, need}
use Rattle.answers.specs.declared.File.TheVariants.{Device, Schedule, Program}
use Rattle.answers.specs.declared.Counted.{Counted}
use Rattle.answers.specs.declared.Moved.{Moved}
use Rattle.answers.proofs.Laws.{Holds, by, holds_bind, holds_then, holds_need, holds_map, holds_any, holds_within, holds_at, ok_not_refused}
use Rattle.rules.specs.Basics.{chosen, all}
use Rattle.rules.specs.Device as rules
use Rattle.rules.specs.Device.{read_device}
use Rattle.rules.specs.Region.{region_of}
use Rattle.rules.specs.Syntax as syntax
use Rattle.rules.specs.Program.{read_program}
use Rattle.rules.specs.Run.{Turn, turns, Machine, started, step_of, after, final, Told, records, record_bytes, moved_by}
use Rattle.rules.specs.Promises.{need_job, judged, check_of, over, Finished, ran, Ran, run_written, run_of}
use Rattle.theory.specs.Counts.{begin_with_zero}
use Rattle.theory.specs.Interleaving.{turns_of, records_of, Alike}
use Rattle.theory.specs.TheRun.{is_turn, turn_of, bytes_for, records_for, codes_for, of_job}
use Rattle.theory.specs.TheRun.{Files, CountsMoved, NotStuck, job_by_job, RunAlike, MovedInRuns, NeverStuckInRuns, RunsInOrder}
use Rattle.rules.proofs.Tests.{and_left, and_right, and_both}
use Rattle.theory.proofs.Accepted.{never_stuck}
use Rattle.theory.proofs.Counts.{moved_count}
use Rattle.theory.proofs.Interleaving.{two_jobs}

-- ---- the turns of a schedule
pub turn_bounds : (b : ℕ) → is_turn b ≡ true → (1 ≤ b / 16) × (b / 16 ≤ 2)
turn_bounds b e =
    let j : (leb 1 (b / 16) && leb (b / 16) 2) ≡ true = and_left _ (leb (b % 16) 1) e in
    (leb-true 1 (b / 16) (and_left (leb 1 (b / 16)) _ j), leb-true (b / 16) 2 (and_right (leb 1 (b / 16)) _ j))

from_ok : Check (List Turn) → List Turn
from_ok (ok us) = us
from_ok (refused x) = []

pub turns_sound : (s : List ℕ) (i : ℕ) (ts : List Turn) → turns 2 i s ≡ ok ts → (ts ≡ map turn_of s) × (all is_turn s ≡ true)
unfolding ◌>>◌ ◌>>=◌ from_ok
turns_sound [] i ts e = (ap from_ok (sym e), refl)
turns_sound (b ∷ s) i ts e = go (is_turn b) (turns 2 (suc i) s) refl (turns_sound s (suc i)) refl e
  where
    go : (t : Bool) (m : Check (List Turn)) → is_turn b ≡ t
        → ((us : List Turn) → turns 2 (suc i) s ≡ ok us → (us ≡ map turn_of s) × (all is_turn s ≡ true)) → turns 2 (suc i) s ≡ m
        → (need t 23 i >> (m >>= λ us. ok (turn_of b ∷ us))) ≡ ok ts → (ts ≡ map turn_of (b ∷ s)) × (all is_turn (b ∷ s) ≡ true)
    go false m p f q e = ok_not_refused (sym e)
    go true (refused x) p f q e = ok_not_refused (sym e)
    go true (ok us) p f q e =
        let r = f us q in
        (ap from_ok (sym e) ∙ ap (λ (vs : List Turn). turn_of b ∷ vs) r.0, and_both (is_turn b) (all is_turn s) p r.1)

turns_complete : (s : List ℕ) (i : ℕ) → all is_turn s ≡ true → turns 2 i s ≡ ok (map turn_of s)
unfolding ◌>>◌ ◌>>=◌
turns_complete [] i h = refl
turns_complete (b ∷ s) i h = rw (and_left (is_turn b) (all is_turn s) h, turns_complete s (suc i) (and_right (is_turn b) (all is_turn s) h)) refl

-- ---- a job's bytes
map_append : (xs ys : List ℕ) → map turn_of (xs ++ ys) ≡ map turn_of xs ++ map turn_of ys
map_append [] ys = refl
map_append (x ∷ xs) ys = ap (λ (ts : List Turn). turn_of x ∷ ts) (map_append xs ys)

turns_for : (j : ℕ) (s : List ℕ) → map turn_of (bytes_for j s) ≡ turns_of j (map turn_of s)
turns_for j [] = refl
turns_for j (b ∷ s) = go (eqb (b / 16) j) (turns_for j s)
  where
    go : (t : Bool) → map turn_of (bytes_for j s) ≡ turns_of j (map turn_of s)
        → map turn_of (chosen t (b ∷ bytes_for j s) (bytes_for j s)) ≡ chosen t (turn_of b ∷ turns_of j (map turn_of s)) (turns_of j (map turn_of s))
    go true e = ap (λ (ts : List Turn). turn_of b ∷ ts) e
    go false e = e

all_append : (p : ℕ → Bool) (xs ys : List ℕ) → all p xs ≡ true → all p ys ≡ true → all p (xs ++ ys) ≡ true
all_append p [] ys h k = k
all_append p (x ∷ xs) ys h k =
    and_both (p x) (all p (xs ++ ys)) (and_left (p x) (all p xs) h) (all_append p xs ys (and_right (p x) (all p xs) h) k)

all_for : (j : ℕ) (s : List ℕ) → all is_turn s ≡ true → all is_turn (bytes_for j s) ≡ true
all_for j [] h = refl
all_for j (b ∷ s) h = go (eqb (b / 16) j) (all_for j s (and_right (is_turn b) (all is_turn s) h))
  where
    go : (t : Bool) → all is_turn (bytes_for j s) ≡ true → all is_turn (chosen t (b ∷ bytes_for j s) (bytes_for j s)) ≡ true
    go true e = and_both (is_turn b) (all is_turn (bytes_for j s)) (and_left (is_turn b) (all is_turn s) h) e
    go false e = e

-- a turn is of job 1 or of job 2
which : (b : ℕ) → is_turn b ≡ true → (b / 16 ≡ 1 → ⊥) → b / 16 ≡ 2
which b h n = let t = turn_bounds b h in two (b / 16) t.0 t.1 n
  where
    two : (x : ℕ) → 1 ≤ x → x ≤ 2 → (x ≡ 1 → ⊥) → x ≡ 2
    two x a c n = omega (arith, a, c, n)

sizes_for : (s : List ℕ) → all is_turn s ≡ true → length (bytes_for 1 s) + length (bytes_for 2 s) ≡ length s
sizes_for [] h = refl
sizes_for (b ∷ s) h = go (ℕ_discrete (b / 16) 1) (sizes_for s (and_right (is_turn b) (all is_turn s) h))
  where
    not_two : b / 16 ≡ 1 → b / 16 ≡ 2 → ⊥
    not_two e f = omega (arith, e, f)

    go : Dec (b / 16 ≡ 1) → length (bytes_for 1 s) + length (bytes_for 2 s) ≡ length s
        → length (bytes_for 1 (b ∷ s)) + length (bytes_for 2 (b ∷ s)) ≡ length (b ∷ s)
    go (yes e) k = rw (eq-eqb (b / 16) 1 e, ne_eqb (b / 16) 2 (not_two e)) (omega (arith, k))
    go (no n) k = rw (ne_eqb (b / 16) 1 n, eq-eqb (b / 16) 2 (which b (and_left (is_turn b) (all is_turn s) h) n)) (omega (arith, k))

one_or_two : (s : List ℕ) → all is_turn s ≡ true → all (λ t. eqb t.job 1 || eqb t.job 2) (map turn_of s) ≡ true
one_or_two [] h = refl
one_or_two (b ∷ s) h = and_both _ _ (go (ℕ_discrete (b / 16) 1)) (one_or_two s (and_right (is_turn b) (all is_turn s) h))
  where
    go : Dec (b / 16 ≡ 1) → (eqb (b / 16) 1 || eqb (b / 16) 2) ≡ true
    go (yes e) = rw (eq-eqb (b / 16) 1 e) refl
    go (no n) = rw (ne_eqb (b / 16) 1 n, eq-eqb (b / 16) 2 (which b (and_left (is_turn b) (all is_turn s) h) n)) refl

-- ---- a job's record bytes
abbrev code : Told → ℕ
code r = r.told.code

-- a record's four bytes before others
abbrev quad : Told → List ℕ → List ℕ
quad r l = r.told.code ∷ r.told.edges ∷ r.told.offset / 256 ∷ r.told.offset % 256 ∷ l

module _ (D : rules.Device) (P : ℕ → syntax.Program) (j : ℕ) (rest : List ℕ) where
  records_for_lem : (s : List ℕ) (M : Machine)
      → records_for j s (record_bytes (records D P (map turn_of s) M) ++ rest) ≡ record_bytes (records_of j (records D P (map turn_of s) M))
  records_for_lem [] M = refl
  records_for_lem (b ∷ s) M = go (eqb (b / 16) j) (records_for_lem s (after D P (turn_of b) M))
    where
      r : Told
      r = record { job = b / 16; told = (step_of D P (turn_of b) M).answer }

      rs : List Told
      rs = records_of j (records D P (map turn_of s) (after D P (turn_of b) M))

      go : (t : Bool) {l : List ℕ} → l ≡ record_bytes rs → chosen t (quad r l) l ≡ record_bytes (chosen t (r ∷ rs) rs)
      go true e = ap (quad r) e
      go false e = e

  codes_for_lem : (s : List ℕ) (M : Machine)
      → codes_for j s (record_bytes (records D P (map turn_of s) M) ++ rest) ≡ map code (records_of j (records D P (map turn_of s) M))
  codes_for_lem [] M = refl
  codes_for_lem (b ∷ s) M = go (eqb (b / 16) j) (codes_for_lem s (after D P (turn_of b) M))
    where
      r : Told
      r = record { job = b / 16; told = (step_of D P (turn_of b) M).answer }

      rs : List Told
      rs = records_of j (records D P (map turn_of s) (after D P (turn_of b) M))

      go : (t : Bool) {l : List ℕ} → l ≡ map code rs → chosen t (r.told.code ∷ l) l ≡ map code (chosen t (r ∷ rs) rs)
      go true e = ap (λ (l : List ℕ). r.told.code ∷ l) e
      go false e = e

all_codes : (rs : List Told) → all (λ c. leb c 1) (map code rs) ≡ all (λ r. leb r.told.code 1) rs
all_codes [] = refl
all_codes (r ∷ rs) = ap (λ (t : Bool). leb r.told.code 1 && t) (all_codes rs)

-- ---- a run that is answered
module _ (device first second schedule : List ℕ) (room₁ room₂ : ℕ) where
  -- the files that it ran, and what its tests found
  pub record Bytewise : Type 0 where
    pub D : rules.Device
    pub p : syntax.Program
    pub q : syntax.Program
    pub device_reads : read_device device ≡ ok D
    pub first_reads : read_program first ≡ ok p
    pub second_reads : read_program second ≡ ok q
    pub short : leb (length schedule) 4096 ≡ true
    pub room : (leb (4 * length schedule) room₁ && leb (length D.owners) room₂) ≡ true
    pub all_turns : all is_turn schedule ≡ true

  answered : Holds (λ f. Bytewise) (ran device first second schedule room₁ room₂)
  answered =
      holds_bind (holds_within Device (holds_any (read_device device))) λ D a.
      holds_bind (holds_within (Program 1) (holds_any (read_program first))) λ p b.
      holds_bind (holds_within (Program 2) (holds_any (read_program second))) λ q c.
      holds_then (holds_within Schedule (holds_need (leb (length schedule) 4096) 22 0)) λ _ d.
      holds_bind (holds_within Schedule (holds_any (turns 2 0 schedule))) λ ts e.
      holds_then (holds_need (leb (4 * length schedule) room₁ && leb (length D.owners) room₂) 24 0) λ _ g.
      by (record {
        D = D;
        p = p;
        q = q;
        device_reads = a;
        first_reads = b;
        second_reads = c;
        short = d;
        room = g;
        all_turns = (turns_sound schedule 0 ts e).1;
      })

-- the run of a schedule of turns: its records, and the machine at the end
abbrev pub ran_by : rules.Device → (ℕ → syntax.Program) → List ℕ → Finished
ran_by D P s = record { records = records D P (map turn_of s) (started D P); machine = final D P (map turn_of s) (started D P) }

module _ (device first second : List ℕ) (D : rules.Device) (p q : syntax.Program)
    (a : read_device device ≡ ok D) (b : read_program first ≡ ok p) (c : read_program second ≡ ok q) (buffer map' : List ℕ) where
  pub run_of_lem : (schedule : List ℕ) → leb (length schedule) 4096 ≡ true
      → (leb (4 * length schedule) (length buffer) && leb (length D.owners) (length map')) ≡ true → all is_turn schedule ≡ true
      → run_of device first second schedule buffer map' ≡ run_written buffer map' (ok (ran_by D (of_job p q) schedule))
  unfolding ◌>>=◌ ◌>>◌
  run_of_lem schedule s r t = rw (a, b, c, s, turns_complete schedule 0 t, r) refl

written_ok : (records map : List ℕ) (c : Check Finished) (m : Moved) → (run_written records map c).answer ≡ ok m → (f : Finished) × (c ≡ ok f)
written_ok records map (ok f) m e = (f, refl)
written_ok records map (refused x) m e = ok_not_refused (sym e)

same_value : {A : Type 0} {c : Check A} {x y : A} → c ≡ ok x → c ≡ ok y → x ≡ y
same_value e f = cc

-- a program that the check accepts on a device
record Checked (device program : List ℕ) (j : ℕ) (n : Counted) : Type 0 where
  D : rules.Device
  p : syntax.Program
  device_reads : read_device device ≡ ok D
  program_reads : read_program program ≡ ok p
  accepted : judged (region_of D j) p ≡ ok n

checked : (device program : List ℕ) (j : ℕ) → Holds (Checked device program j) (check_of device program j)
checked device program j =
    holds_then (holds_any (need_job j)) λ _ _.
    holds_bind (holds_within Device (holds_any (read_device device))) λ D a.
    holds_bind (holds_within (Program j) (holds_any (read_program program))) λ p b.
    holds_within (Program j) (holds_map (λ n e. made D p n a b e) (holds_any (judged (region_of D j) p)))
  where
    made : (D : rules.Device) (p : syntax.Program) (n : Counted) → read_device device ≡ ok D → read_program program ≡ ok p
        → judged (region_of D j) p ≡ ok n → Checked device program j n
    made D p n a b e = record { D = D; p = p; device_reads = a; program_reads = b; accepted = e }

-- each job's file reads as its program
pub job_reads : (first second : List ℕ) (p q : syntax.Program) → read_program first ≡ ok p → read_program second ≡ ok q
    → (j : ℕ) → read_program (of_job first second j) ≡ ok (of_job p q j)
job_reads first second p q a b j = go (eqb j 1)
  where
    go : (t : Bool) → read_program (chosen t first second) ≡ ok (chosen t p q)
    go true = a
    go false = b

-- what a run that is answered answers and writes, its turns being those of the bytes
module _ (device first second schedule buffer map' : List ℕ) (m : Moved) (e : (run_of device first second schedule buffer map').answer ≡ ok m) where
  pub bytewise : Bytewise device first second schedule (length buffer) (length map')
  bytewise =
      let found = written_ok buffer map' (ran device first second schedule (length buffer) (length map')) m e in
      holds_at (answered device first second schedule (length buffer) (length map')) found.1

  abbrev B : Bytewise device first second schedule (length buffer) (length map')
  B = bytewise

  pub files : Files device first second schedule buffer map' bytewise.D bytewise.p bytewise.q
  files = record { device_reads = B.device_reads; first_reads = B.first_reads; second_reads = B.second_reads }

  -- a schedule of turns that is no longer runs on the same files and buffers
  pub run_with : (D : rules.Device) (p q : syntax.Program) → Files device first second schedule buffer map' D p q
      → (s : List ℕ) → length s ≤ length schedule → all is_turn s ≡ true
      → run_of device first second s buffer map' ≡ run_written buffer map' (ok (ran_by D (of_job p q) s))
  run_with D p q F s l u =
      let same_device : B.D ≡ D = same_value B.device_reads F.device_reads in
      let few : length schedule ≤ 4096 = leb-true (length schedule) 4096 B.short in
      let enough : 4 * length schedule ≤ length buffer = leb-true (4 * length schedule) (length buffer) (and_left _ _ B.room) in
      let for_map : leb (length D.owners) (length map') ≡ true =
      rw same_device at (and_right (leb (4 * length schedule) (length buffer)) _ B.room) in
      run_of_lem device first second D p q F.device_reads F.first_reads F.second_reads buffer map' s
      (le-leb (length s) 4096 (omega arith)) (and_both _ _ (le-leb (4 * length s) (length buffer) (omega arith)) for_map) u

  -- each job's program
  abbrev P : ℕ → syntax.Program
  P = of_job B.p B.q

  abbrev f : Finished
  f = ran_by B.D P schedule

  ran_as : run_of device first second schedule buffer map' ≡ run_written buffer map' (ok f)
  ran_as = run_with B.D B.p B.q files schedule (omega arith) B.all_turns

  -- a job's record bytes are those of its records, and its codes theirs
  its_records : (j : ℕ) → records_for j schedule (run_of device first second schedule buffer map').records ≡ record_bytes (records_of j f.records)
  its_records j = ap (λ (w : Ran). records_for j schedule w.records) ran_as ∙ records_for_lem B.D P j _ schedule (started B.D P)

  pub its_codes : (j : ℕ) → codes_for j schedule (run_of device first second schedule buffer map').records ≡ map code (records_of j f.records)
  its_codes j = ap (λ (w : Ran). codes_for j schedule w.records) ran_as ∙ codes_for_lem B.D P j _ schedule (started B.D P)

  -- ---- the moved counts
  its_moved : (j : ℕ) → moved_by j f.records ≡ begin_with_zero (records_for j schedule (run_of device first second schedule buffer map').records)
  its_moved j = moved_count j f.records ∙ ap begin_with_zero (sym (its_records j))

  counts_moved : CountsMoved device first second schedule buffer map' m
  counts_moved =
      let counted : m ≡ record { first = moved_by 1 f.records; second = moved_by 2 f.records } =
      same_value e (ap (λ (w : Ran). w.answer) ran_as) in
      record {
        first_moved = ap (λ (n : Moved). n.first) counted ∙ its_moved 1;
        second_moved = ap (λ (n : Moved). n.second) counted ∙ its_moved 2;
      }

  pub reads : (j : ℕ) → read_program (of_job first second j) ≡ ok (P j)
  reads j = job_reads first second B.p B.q B.first_reads B.second_reads j

  -- what the check accepts is accepted on the device and with the program of the run
  pub accepted_here : (j : ℕ) (a : Counted) → check_of device (of_job first second j) j ≡ ok a → judged (region_of B.D j) (P j) ≡ ok a
  accepted_here j a k =
      let C = holds_at (checked device (of_job first second j) j) k in
      let same_program : C.p ≡ P j = same_value C.program_reads (reads j) in
      let same_device : C.D ≡ B.D = same_value C.device_reads B.device_reads in
      let there : judged (region_of C.D j) (P j) ≡ ok a = rw same_program at C.accepted in
      rw same_device at there

  -- ---- never stuck
  not_stuck : NotStuck device first second schedule buffer map'
  not_stuck j a h k =
      ap (all (λ c. leb c 1)) (its_codes j) ∙ all_codes (records_of j f.records)
      ∙ never_stuck (of_job first second j) B.D P j a (reads j) (accepted_here j a k) (map turn_of schedule)

  -- ---- in order
  abbrev s : List ℕ
  s = job_by_job device first second schedule buffer map'

  abbrev g : Finished
  g = ran_by B.D P s

  turns_in_order : map turn_of s ≡ turns_of 1 (map turn_of schedule) ++ turns_of 2 (map turn_of schedule)
  turns_in_order =
      map_append (bytes_for 1 schedule) (bytes_for 2 schedule)
      ∙ ap₂ (λ (ts us : List Turn). ts ++ us) (turns_for 1 schedule) (turns_for 2 schedule)

  ends_alike : Alike B.D P (map turn_of schedule) (map turn_of s)
  ends_alike =
      subst (λ (ts : List Turn). Alike B.D P (map turn_of schedule) ts) (sym turns_in_order)
      (two_jobs B.D P (map turn_of schedule) (one_or_two schedule B.all_turns))

  ran_in_order : run_of device first second s buffer map' ≡ run_written buffer map' (ok g)
  ran_in_order =
      run_with B.D B.p B.q files s (omega (arith, length-append (bytes_for 1 schedule) (bytes_for 2 schedule), sizes_for schedule B.all_turns))
      (all_append is_turn (bytes_for 1 schedule) (bytes_for 2 schedule) (all_for 1 schedule B.all_turns) (all_for 2 schedule B.all_turns))

  moved_alike : (j : ℕ) → moved_by j g.records ≡ moved_by j f.records
  moved_alike j =
      moved_count j g.records ∙ ap (λ (rs : List Told). begin_with_zero (record_bytes rs)) (sym (ends_alike.told j)) ∙ sym (moved_count j f.records)

  run_alike : RunAlike device first second schedule buffer map' m
  run_alike =
      let alike : ◌≡◌ {A = Moved} (record { first = moved_by 1 g.records; second = moved_by 2 g.records })
      (record { first = moved_by 1 f.records; second = moved_by 2 f.records }) =
      λ i. record { first = moved_alike 1 i; second = moved_alike 2 i } in
      record {
        answers = ap (λ (w : Ran). w.answer) ran_in_order ∙ ap ok alike ∙ sym (ap (λ (w : Ran). w.answer) ran_as) ∙ e;
        maps = ap (λ (w : Ran). w.map) ran_in_order ∙ ap (λ (o : List ℕ). over o map') (sym ends_alike.device)
            ∙ sym (ap (λ (w : Ran). w.map) ran_as);
        told = λ j. ap (λ (w : Ran). records_for j s w.records) ran_in_order ∙ records_for_lem B.D P j _ s (started B.D P)
            ∙ ap record_bytes (sym (ends_alike.told j)) ∙ sym (its_records j);
      }

pub moved_in_runs : MovedInRuns
moved_in_runs device first second schedule buffer map' m e = counts_moved device first second schedule buffer map' m e

pub never_stuck_in_runs : NeverStuckInRuns
never_stuck_in_runs device first second schedule buffer map' m e = not_stuck device first second schedule buffer map' m e

pub runs_in_order : RunsInOrder
runs_in_order device first second schedule buffer map' m e = run_alike device first second schedule buffer map' m e
