-- The first refusal of a call. A call is a row of stages: a file read, what is asked of the call's own numbers, and what is asked of what the reads gave. Each
-- stage refuses as the list of its part, by the part's own law. So the call agrees with its stages one by one: where a stage gives a value both go on with
-- it, and where it refuses both have refused alike.
use mathlib.Core.Bool.{Bool, true, false, not, ◌&&◌}
use mathlib.Core.List.{List, [], ◌∷◌}
use mathlib.Core.Option.{Option, none, some}
use mathlib.Core.Path.{◌≡◌, refl, ap, subst}
use Prim.Native.Nat.{ℕ, ◌*◌}
use lib.Dec.{eqb, leb}
use lib.ListN.{length}
use Rattle.answers.specs.declared.File.{File}
use Rattle.answers.specs.declared.File.TheVariants.{Device, Schedule, Program}
use Rattle.answers.specs.Check.{Check, ok, refused, ◌>>=◌, ◌>>◌, need, within}
use Rattle.rules.specs.Device.{read_device}
use Rattle.rules.specs.Region.{region_of, owns, free_in}
use Rattle.rules.specs.Path.{route}
use Rattle.rules.specs.Program.{read_program}
use Rattle.rules.specs.Commands.{size_of, need_route, walk}
use Rattle.rules.specs.Typing.{type_program, live_in}
use Rattle.rules.specs.Run.{turns}
use Rattle.rules.specs.Promises.{need_job, check_of, routed, ran}
use Rattle.theory.specs.Tests.{first_of, refusal_of}
use Rattle.theory.specs.TypingOrder.{is_some}
use Rattle.theory.specs.WalkOrder.{walk_tests}
use Rattle.theory.specs.FirstRefusal.{given, first_stage, fits_in, check_stages, route_stages, run_stages, CheckOrder, RouteOrder, RunOrder}
use Rattle.theory.proofs.ReadingOrder.{device_order, program_order}
use Rattle.theory.proofs.TypingOrder.{typing_order}
use Rattle.theory.proofs.WalkOrder.{walk_order, schedule_order}

abbrev Stages : Type 0
Stages = List (Check (Unit {0}))

-- The check m refuses as the first of the stages ms that refuses.
record AsStages {A : Type 0} (m : Check A) (ms : Stages) : Type 0 where
  same : refusal_of m ≡ first_stage ms

stages_end : {A : Type 0} (a : A) → AsStages (ok a) []
unfolding refusal_of first_stage ◌>>◌
stages_end a = record { same = refl }

stages_next : {A : Type 0} (m : Check (Unit {0})) {k : Check A} {ms : Stages} → AsStages k ms → AsStages (m >> k) (m ∷ ms)
unfolding refusal_of first_stage ◌>>◌
stages_next (ok u) h = record { same = h.same }
stages_next (refused r) h = record { same = refl }

-- a stage said in other words
instead : {A : Type 0} {m : Check A} {n n' : Check (Unit {0})} {ms : Stages} → n ≡ n' → AsStages m (n ∷ ms) → AsStages m (n' ∷ ms)
instead {m = m} {ms = ms} e h = subst (λ (k : Check (Unit {0})). AsStages m (k ∷ ms)) e h

-- A file is read, and the reading refuses as n. The stages after it may need what it gave.
read : {A B : Type 0} (f : File) (m : Check A) {k : A → Check B} {ms : Stages} → ((a : A) → m ≡ ok a → AsStages (k a) ms)
    → AsStages (within f m >>= k) (within f (refusal_of m) ∷ ms)
unfolding refusal_of first_stage ◌>>=◌ ◌>>◌
read f (ok a) h = record { same = (h a refl).same }
read f (refused r) h = record { same = refl }

stages_read : {A B : Type 0} (f : File) (m : Check A) {n : Check (Unit {0})} {k : A → Check B} {ms : Stages} → refusal_of m ≡ n
    → ((a : A) → m ≡ ok a → AsStages (k a) ms) → AsStages (within f m >>= k) (within f n ∷ ms)
stages_read f m e h = instead (ap (within f) e) (read f m h)

-- Check: typing, 20 and 21, within one file
walked : {B C : Type 0} (f : File) (b : Bool) (w : Check B) (v : Check (Unit {0})) (c : C) → refusal_of w ≡ v
    → refusal_of (within f (need b 20 0 >> (w >> ok c))) ≡ first_stage (within f (need b 20 0) ∷ within f v ∷ [])
unfolding refusal_of first_stage ◌>>◌
walked f true (ok a) v c e = ap (λ (n : Check (Unit {0})). within f n >> ok tt) e
walked f true (refused r) v c e = ap (λ (n : Check (Unit {0})). within f n >> ok tt) e
walked f false w v c e = refl

stages_judged : {A B C : Type 0} (f : File) (m : Check A) (b : A → Bool) (w : A → Check B) (v : A → Check (Unit {0})) (c : A → C)
    → ((a : A) → refusal_of (w a) ≡ v a)
    → AsStages (within f (m >>= λ t. need (b t) 20 0 >> (w t >> ok (c t))))
    (within f (refusal_of m) ∷ given m (λ t. within f (need (b t) 20 0)) ∷ given m (λ t. within f (v t)) ∷ [])
unfolding refusal_of first_stage given ◌>>=◌ ◌>>◌
stages_judged f (ok a) b w v c h = record { same = walked f (b a) (w a) (v a) (c a) (h a) }
stages_judged f (refused r) b w v c h = record { same = refl }

check_row : (d p : List ℕ) (j : ℕ) → AsStages (check_of d p j) (check_stages d p j)
unfolding given
check_row d p j =
    stages_next (need_job j)
    (stages_read Device (read_device d) (device_order d) λ D e. rw e
    (stages_read (Program j) (read_program p) (program_order p) λ q h. rw h
    (let R = region_of D j in
    instead (ap (within (Program j)) (typing_order R.owned q))
    (stages_judged (Program j) (type_program R.owned q) (λ t. leb (size_of t.commands) 65535) (λ t. walk R R.owned t.commands)
    (λ t. first_of (walk_tests (λ l. l) R R.owned t.commands)) (λ t. record { count = size_of t.commands; live = live_in t.env })
    λ t. walk_order.main R R.owned t.commands))))

pub check_order : CheckOrder
check_order d p j = (check_row d p j).same

-- Route: 21 and 24 at the end
stages_route : (found : Option (List ℕ)) (room : ℕ)
    → AsStages (need_route found 0 >>= λ p. need (leb (length p) room) 24 0 >> ok p) (need (is_some found) 21 0 ∷ need (fits_in found room) 24 0 ∷ [])
unfolding refusal_of first_stage ◌>>=◌ ◌>>◌
stages_route none room = record { same = refl }
stages_route (some p) room = record { same = (stages_next (need (leb (length p) room) 24 0) (stages_end p)).same }

route_row : (d : List ℕ) (j : ℕ) (occupancy : List ℕ) (a b room : ℕ)
    → AsStages (routed d j occupancy a b room) (route_stages d j occupancy a b room)
unfolding given
route_row d j occupancy a b room =
    stages_next (need_job j)
    (stages_read Device (read_device d) (device_order d) λ D e. rw e
    (stages_next (need (eqb (length occupancy) (length D.owners)) 26 0)
    (stages_next (need (owns (region_of D j) a) 13 0)
    (stages_next (need (owns (region_of D j) b) 13 1)
    (stages_next (need (not (eqb a b)) 15 0)
    (stages_route (route (region_of D j) (free_in (region_of D j) occupancy) a b) room))))))

pub route_order : RouteOrder
route_order d j occupancy a b room = (route_row d j occupancy a b room).same

-- Run
run_row : (d p q schedule : List ℕ) (room₁ room₂ : ℕ) → AsStages (ran d p q schedule room₁ room₂) (run_stages d p q schedule room₁ room₂)
unfolding given
run_row d p q schedule room₁ room₂ =
    stages_read Device (read_device d) (device_order d) λ D e. rw e
    (stages_read (Program 1) (read_program p) (program_order p) λ x _.
    stages_read (Program 2) (read_program q) (program_order q) λ y _.
    stages_next (within Schedule (need (leb (length schedule) 4096) 22 0))
    (stages_read Schedule (turns 2 0 schedule) (schedule_order 2 schedule) λ ts _.
    stages_next (need (leb (4 * length schedule) room₁ && leb (length D.owners) room₂) 24 0) (stages_end _)))

pub run_order : RunOrder
run_order d p q schedule room₁ room₂ = (run_row d p q schedule room₁ room₂).same
