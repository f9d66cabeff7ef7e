-- The check accepts exactly what T-Prog derives: typing is exact, and for a typed program the walk decides Figure 12, so each test of the check
-- passes exactly when the rules have their premise.
use mathlib.Core.Bool.{Bool, true, false, ◌||◌}
use mathlib.Core.Logic.{◌⊎◌, inl, inr}
use mathlib.Core.List.{List}
use mathlib.Core.Path.{◌≡◌, refl}
use Prim.Native.Nat.{ℕ, ◌≤◌}
use lib.Dec.{eqb, leb, le→leb}
use lib.ListN.{length}
use Rattle.answers.specs.Check.{ok, ◌>>=◌, ◌>>◌}
use Rattle.answers.specs.declared.Counted.{Counted}
use Rattle.answers.specs.declared.File.TheVariants.{Device, Program}
use Rattle.answers.proofs.Laws.{Holds, by, holds_bind, holds_then, holds_need, holds_any, holds_map, holds_within, holds_at}
use Rattle.rules.specs.Device as devices
use Rattle.rules.specs.Device.{read_device}
use Rattle.rules.specs.Region.{Region, region_of}
use Rattle.rules.specs.Syntax as trees
use Rattle.rules.specs.Program.{read_program}
use Rattle.rules.specs.Commands.{Commands, size_of, walk}
use Rattle.rules.specs.Typing.{Env, Typed, type_program, live_in}
use Rattle.rules.specs.Figures.{Connects, ProgramRule}
use Rattle.rules.specs.Promises.{judged, check_of}
use Rattle.theory.specs.WellRead.{ProgramRead}
use Rattle.theory.specs.Exact.{Accepts, ExactCheck, Derives}
use Rattle.rules.proofs.Tests.{T→eq, eqb_true, at_most}
use Rattle.theory.proofs.WellRead.{well_read}
use Rattle.theory.proofs.ExactTyping.{exact_typing}
use Rattle.theory.proofs.WalkDecides.{walk_decides}

-- what a program that was judged and accepted has
pub record Judged (R : Region) (p : trees.Program) (a : Counted) : Type 0 where
  pub commands : Commands trees.device
  pub ends : Env trees.device
  pub derived : ProgramRule R p ends commands
  pub count : size_of commands ≡ a.count
  pub live : live_in ends ≡ a.live
  pub small : a.count ≤ 65535

pub judged_sound : (R : Region) (size : ℕ) (p : trees.Program) → ProgramRead size p → Holds (Judged R p) (judged R p)
judged_sound R size p read =
    holds_bind (holds_any (type_program R.owned p)) λ t e.
    holds_then (holds_need (leb (size_of t.commands) 65535) 20 0) λ _ s.
    holds_then (holds_any (walk R R.owned t.commands)) λ L w.
    by (accepted t L ((exact_typing R.owned size p t read).0 e) s w)
  where
    accepted : (t : Typed trees.device) (L : List Bool) → Derives R.owned p t → leb (size_of t.commands) 65535 ≡ true
        → walk R R.owned t.commands ≡ ok L → Judged R p (record { count = size_of t.commands; live = live_in t.env })
    accepted t L d s w = record {
      commands = t.commands;
      ends = t.env;
      derived = record { signatures = d.signatures; functions = d.functions; main = d.main; left = L; connects = connected };
      count = refl;
      live = refl;
      small = at_most (size_of t.commands) 65535 s;
    }
      where
        connected : Connects R R.owned t.commands L
        connected = (walk_decides R size p t L read d).0 w

judged_complete : (R : Region) (size : ℕ) (a : Counted) (p : trees.Program) (Δ : Env trees.device) (c : Commands trees.device) → ProgramRead size p
    → ProgramRule R p Δ c
    → size_of c ≡ a.count → live_in Δ ≡ a.live → a.count ≤ 65535
    → judged R p ≡ ok a
unfolding ◌>>=◌ ◌>>◌
judged_complete R size a p Δ c read rule count live small =
    let t : Typed trees.device = record { env = Δ; commands = c } in
    let d : Derives R.owned p t = record { signatures = rule.signatures; functions = rule.functions; main = rule.main } in
    let typed : type_program R.owned p ≡ ok t = (exact_typing R.owned size p t read).1 d in
    let walked : walk R R.owned c ≡ ok rule.left = (walk_decides R size p t rule.left read d).1 rule.connects in
    let fits : leb (size_of c) 65535 ≡ true = rw count (T→eq _ (le→leb a.count 65535 small)) in
    rw (typed, fits, walked, count, live)

is_job : (job : ℕ) → (eqb job 1 || eqb job 2) ≡ true → (job ≡ 1) ⊎ (job ≡ 2)
is_job job h = go (eqb job 1) refl h
  where
    go : (b : Bool) → eqb job 1 ≡ b → (b || eqb job 2) ≡ true → (job ≡ 1) ⊎ (job ≡ 2)
    go true e k = inl (eqb_true job 1 e)
    go false e k = inr (eqb_true job 2 k)

a_job : (job : ℕ) → (job ≡ 1) ⊎ (job ≡ 2) → (eqb job 1 || eqb job 2) ≡ true
a_job job (inl e) = rw e
a_job job (inr e) = rw e

check_sound : (d p : List ℕ) (job : ℕ) → Holds (Accepts d p job) (check_of d p job)
check_sound d p job =
    holds_then (holds_need (eqb job 1 || eqb job 2) 25 0) λ _ j.
    holds_bind (holds_within Device (holds_any (read_device d))) λ D e.
    holds_bind (holds_within (Program job) (holds_any (read_program p))) λ q f.
    holds_within (Program job) (holds_map (λ n. accepts D q n j e f) (judged_sound (region_of D job) (length p) q (well_read p q f)))
  where
    accepts : (D : devices.Device) (q : trees.Program) (n : Counted) → (eqb job 1 || eqb job 2) ≡ true → read_device d ≡ ok D → read_program p ≡ ok q
        → Judged (region_of D job) q n → Accepts d p job n
    accepts D q n j e f a = record {
      a_job = is_job job j;
      the_device = D;
      the_program = q;
      device_reads = e;
      program_reads = f;
      commands = a.commands;
      ends = a.ends;
      derived = a.derived;
      count = a.count;
      live = a.live;
      small = a.small;
    }

check_complete : (d p : List ℕ) (job : ℕ) (n : Counted) → Accepts d p job n → check_of d p job ≡ ok n
unfolding ◌>>=◌ ◌>>◌
check_complete d p job n a =
    let R : Region = region_of a.the_device job in
    let q : trees.Program = a.the_program in
    let read : ProgramRead (length p) q = well_read p q a.program_reads in
    let accepted : judged R q ≡ ok n =
    judged_complete R (length p) n q a.ends a.commands read a.derived a.count a.live a.small in
    rw (a_job job a.a_job, a.device_reads, a.program_reads, accepted)

pub exact_check : ExactCheck
exact_check d p job n = ((λ e. holds_at (check_sound d p job) e), check_complete d p job n)
