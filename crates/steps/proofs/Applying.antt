-- The occupancy map after an act. A location given back gets 0, which is what a map has past its end, so a store there changes nothing; a
-- location that is taken is one that the region owns, and so one that the map has.
use mathlib.Core.Bool.{Bool, true}
use mathlib.Core.List.{List, [], ◌∷◌}
use mathlib.Core.Path.{◌≡◌, refl, sym, ap, ◌∙◌, subst}
use native.Mathlib.Decide.{ℕ_discrete}
use native.Mathlib.Omega.{arith}
use Prim.Native.Nat.{ℕ, ◌≤◌, ◌<◌}
use lib.ListN.{get_or, set, length, take, replicate, length-set, length-replicate}
use lib.Seq.{get_or-set_same, get_or-set_other, get_or-take, length-take-le, ext_get_or}
use Rattle.answers.specs.Check.{Check, ok, refused}
use Rattle.answers.proofs.Laws.{Holds, by, holds_bind, holds_then, holds_need, holds_any}
use Rattle.rules.specs.Region.{Region, owns, free_in}
use Rattle.rules.specs.Syntax.{Side, device, Op, init, free, gate, measure, merge, new_ref, get_ref, set_ref, constant, op, if, while, call, Function, Program}
use Rattle.rules.specs.Slots as slots
use Rattle.rules.specs.Slots.{quiet, takes, gives, merges, perform}
use Rattle.rules.specs.Machine as rules
use Rattle.rules.specs.Machine.{Frame, Actual, locate, Item, run, return, Move, floor, move, stepped, step_items, step}
use Rattle.rules.specs.Run.{written}
use Rattle.rules.proofs.Tests.{and_left}
use Rattle.theory.proofs.Base.{true_in_range, get_d_set_default, get_d_replicate_default}
use Rattle.rules.specs.declared.place.Location.{Location}
use Rattle.steps.specs.declared.Act.{Act}
use Rattle.steps.specs.declared.Act.TheVariants.{Quiet, Takes, Gives}
use Rattle.steps.specs.declared.Stepped.{Stepped}
use Rattle.steps.specs.declared.job.Job.{Job}
use Rattle.steps.specs.Performing.{Maps}
use Rattle.steps.specs.Told.{act_of}
use Rattle.steps.specs.Applying.{Within, Applies}
use Rattle.steps.specs.Stepping.{Follows}

-- what the act is, and where
abbrev sort : Act → ℕ
sort Quiet = 0
sort (Takes l) = 1
sort (Gives l) = 2

abbrev where_at : Act → ℕ
where_at Quiet = 0
where_at (Takes l) = l.0
where_at (Gives l) = l.0

-- a store in both
stored : (map occ : List ℕ) (x v : ℕ) → x < 256 → x < length occ → Maps map occ → Maps (set map x v) (set occ x v)
stored map occ x v h k M = record { long = length-set map x v ∙ M.long; same = λ y. go y (ℕ_discrete y x) }
  where
    go : (y : ℕ) → Dec (y ≡ x) → get_or (set map x v) y 0 ≡ get_or (set occ x v) y 0
    go y (yes e) = subst (λ (z : ℕ). get_or (set map x v) z 0 ≡ get_or (set occ x v) z 0) (sym e)
        (get_or-set_same map x v 0 (omega (arith, M.long)) ∙ sym (get_or-set_same occ x v 0 k))
    go y (no n) = get_or-set_other map x y v 0 n ∙ M.same y ∙ sym (get_or-set_other occ x y v 0 n)

-- a store of 0, wherever
cleared : (map occ : List ℕ) (x : ℕ) → Maps map occ → Maps (set map x 0) (set occ x 0)
cleared map occ x M = record { long = length-set map x 0 ∙ M.long; same = λ y. go y (ℕ_discrete y x) }
  where
    go : (y : ℕ) → Dec (y ≡ x) → get_or (set map x 0) y 0 ≡ get_or (set occ x 0) y 0
    go y (yes e) = subst (λ (z : ℕ). get_or (set map x 0) z 0 ≡ get_or (set occ x 0) z 0) (sym e) (get_d_set_default map x 0 ∙ sym (get_d_set_default occ x 0))
    go y (no n) = get_or-set_other map x y 0 0 n ∙ M.same y ∙ sym (get_or-set_other occ x y 0 0 n)

module _ (act : Act) (j : ℕ) (map : List ℕ) where
  -- an act of another sort
  other : {P : Type 0} (a : slots.Act device) (b : Act) → act_of a ≡ act → act ≡ b → (sort (act_of a) ≡ sort b → ⊥) → P
  other a b e k n = absurd (n (ap sort (e ∙ k)))

  pub applied_quiet : act ≡ Quiet → Applies act j map map
  applied_quiet k quiet occ e w M = M
  applied_quiet k (takes q l) occ e w M = other (takes q l) Quiet e k (λ z. omega arith)
  applied_quiet k (gives l) occ e w M = other (gives l) Quiet e k (λ z. omega arith)
  applied_quiet k (merges b l c m) occ e w M = M

  pub applied_taken : (l : Location) → act ≡ Takes l → l.0 < 256 → Applies act j map (set map l.0 j)
  applied_taken l k h quiet occ e w M = other quiet (Takes l) e k (λ z. omega arith)
  applied_taken l k h (takes q p) occ e w M =
      let z : l.0 ≡ p.no = sym (ap where_at (e ∙ k)) in
      subst (λ (y : ℕ). Maps (set map l.0 j) (set occ y j)) z (stored map occ l.0 j h (omega arith) M)
  applied_taken l k h (gives p) occ e w M = other (gives p) (Takes l) e k (λ z. omega arith)
  applied_taken l k h (merges b p c m) occ e w M = other (merges b p c m) (Takes l) e k (λ z. omega arith)

  pub applied_given : (l : Location) → act ≡ Gives l → Applies act j map (set map l.0 0)
  applied_given l k quiet occ e w M = other quiet (Gives l) e k (λ z. omega arith)
  applied_given l k (takes q p) occ e w M = other (takes q p) (Gives l) e k (λ z. omega arith)
  applied_given l k (gives p) occ e w M =
      let z : l.0 ≡ p.no = sym (ap where_at (e ∙ k)) in
      subst (λ (y : ℕ). Maps (set map l.0 0) (set occ y 0)) z (cleared map occ l.0 M)
  applied_given l k (merges b p c m) occ e w M = other (merges b p c m) (Gives l) e k (λ z. omega arith)

pub length_written : (j : ℕ) (a : slots.Act device) (occ : List ℕ) → length (written j a occ) ≡ length occ
length_written j quiet occ = refl
length_written j (takes q l) occ = length-set occ l.no j
length_written j (gives l) occ = length-set occ l.no 0
length_written j (merges b l e k) occ = refl

-- the map of an empty device, and what the map has of the device's n locations
pub maps_empty : (n : ℕ) → Maps (replicate 256 0) (replicate n 0)
maps_empty n = record {
  long = length-replicate {A = ℕ} 256 0;
  same = λ x. get_d_replicate_default {A = ℕ} 256 x 0
      ∙ sym (get_d_replicate_default {A = ℕ} n x 0);
}

pub maps_first : (map occ : List ℕ) → length occ ≤ 256 → Maps map occ → take (length occ) map ≡ occ
maps_first map occ h M =
    let l : length (take (length occ) map) ≡ length occ = length-take-le (length occ) map (omega (arith, M.long)) in
    ext_get_or 0 (take (length occ) map) occ l λ i b. get_or-take (length occ) map i 0 (omega arith) ∙ M.same i

-- a step takes only a free location of the region
module _ (R : Region) (fs : List Function) (v : Bool) (occ : List ℕ) (n : ℕ) (h : length R.owned ≤ n) where
  free_within : (l : ℕ) → free_in R occ l ≡ true → l < n
  free_within l e = let k = true_in_range R.owned l (and_left (owns R l) _ e) in omega arith

  within_perform : {d : Side} (σ : Actual d) (o : ℕ) (φ : Frame) (a : Op d) → Holds (λ r. Within n r.act) (perform (floor R fs v (free_in R occ) σ) o φ a)
  within_perform σ o φ (init q x l) =
      holds_then (holds_any _) λ _ _. holds_then (holds_any _) λ _ _. holds_then (holds_need (free_in R occ (locate σ l).no) 14 o) λ _ p. by
      (free_within (locate σ l).no p)
  within_perform σ o φ (free x) = holds_bind (holds_any _) λ _ _. by tt
  within_perform σ o φ (gate g x) = holds_bind (holds_any _) λ _ _. by tt
  within_perform σ o φ (measure y b x) = holds_then (holds_any _) λ _ _. holds_bind (holds_any _) λ _ _. by tt
  within_perform σ o φ (merge y b x c z) =
      holds_then (holds_any _) λ _ _. holds_bind (holds_any _) λ _ _. holds_bind (holds_any _) λ _ _. holds_then (holds_any _) λ _ _. by tt
  within_perform σ o φ (new_ref r y) = holds_then (holds_any _) λ _ _. holds_bind (holds_any _) λ _ _. by tt
  within_perform σ o φ (get_ref y r) = holds_then (holds_any _) λ _ _. holds_bind (holds_any _) λ _ _. by tt
  within_perform σ o φ (set_ref r y) = holds_bind (holds_any _) λ _ _. holds_bind (holds_any _) λ _ _. by tt
  within_perform σ o φ (constant y b) = holds_then (holds_any _) λ _ _. by tt

  within_move : (φ : Frame) (φs : List Frame) (i : Item) (rest : List Item) → Holds (λ (m : Move). Within n m.act) (move R fs v (free_in R occ) φ φs i rest)
  within_move φ φs (run σ (op o a)) rest = holds_bind (within_perform σ o φ a) λ _ p. holds_bind (holds_any _) λ _ _. by p
  within_move φ φs (run σ (if o y b c)) rest = holds_bind (holds_any _) λ _ _. by tt
  within_move φ φs (run σ (while o r b)) rest = holds_bind (holds_any _) λ _ _. by tt
  within_move φ φs (run σ (call o f ls xs)) rest = holds_then (holds_any _) λ _ _. by tt
  within_move φ [] (return o ls xs) rest = by tt
  within_move φ (χ ∷ φs) (return o ls xs) rest = by tt

  within_stepped : (J : rules.Job) (o : ℕ) (m : Check Move) → Holds (λ (m : Move). Within n m.act) m → Within n (stepped J o m).act
  within_stepped J o (refused r) k = tt
  within_stepped J o (ok m) (by k) = k

  within_items : (φ : Frame) (φs : List Frame) (is : List Item) → Within n (step_items R fs v (free_in R occ) φ φs is).act
  within_items φ φs [] = tt
  within_items φ φs (i ∷ is) = within_stepped _ _ _ (within_move φ φs i is)

  -- so its act may be applied
  pub step_within : (J : rules.Job) → Within n (step R fs v (free_in R occ) J).act
  step_within J = within_items J.top J.below J.items

-- the map after a step that follows the rules', by what was applied
pub step_applied : (s : List ℕ) (p : Program) (R : Region) (v : Bool) (occ map after : List ℕ) (j : ℕ) (J : rules.Job) (i : Job) (r : Stepped)
    → length R.owned ≤ length occ → Maps map occ
    → Follows s p (step R p.functions v (free_in R occ) J) i r → Applies r.act j map after
    → Maps after (written j (step R p.functions v (free_in R occ) J).act occ)
step_applied s p R v occ map after j J i r h M F A = A (step R p.functions v (free_in R occ) J).act occ (sym F.2)
    (step_within R p.functions v occ (length occ) h J) M
