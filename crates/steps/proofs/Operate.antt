-- The operation to come, by its byte: what the code reads of it is what the statement that stands there is made of, so what the operation's function
-- tells is the move of that statement.
use mathlib.Core.Bool.{Bool}
use mathlib.Core.List.{List}
use mathlib.Core.Logic.{◌⊎◌, inl, inr}
use mathlib.Core.Path.{◌≡◌, sym, ap, ◌∙◌, subst}
use native.Mathlib.Omega.{arith}
use Prim.Native.Nat.{ℕ, ◌+◌, ◌<◌}
use lib.Dec.{eqb}
use lib.ListN.{length}
use Rattle.rules.specs.declared.statements.Kind.{Kind}
use Rattle.rules.specs.declared.statements.Kind.TheVariants.{Init, Magic, Free, Gate, Measure, Merge, Ref, Get, Set, If, While, Call, Bool as Truth}
use Rattle.rules.specs.Kinds.{byte_of}
use Rattle.rules.specs.declared.place.Location.{Location}
use Rattle.rules.specs.Basics.{byte}
use Rattle.rules.specs.Region.{Region, free_in}
use Rattle.rules.specs.Syntax.{Side, Op, init, free, gate, measure, merge, new_ref, get_ref, set_ref, constant, Statement, op, Function}
use Rattle.rules.specs.Machine.{Frame, Actual, Item, run, move}
use Rattle.sets.specs.declared.LocationSet.{LocationSet}
use Rattle.sets.specs.declared.rows.Rows.{Rows}
use Rattle.program.proofs.In.{statement_byte}
use Rattle.steps.specs.declared.job.Job.{Job}
use Rattle.steps.specs.State.{place_of, slots_of, located_in}
use Rattle.steps.specs.Performing.{Answer, Tells, Performs, Inits, Merges, Operable, Operates}
use Rattle.steps.proofs.Seen.{IsInit, IsFree, IsGate, IsMeasure, IsMerge, IsNew, IsGet, IsSet, IsConstant}
use Rattle.steps.proofs.Seen.{init_seen, free_seen, gate_seen, measure_seen, merge_seen, new_seen, get_seen, set_seen, constant_seen}

-- the statement's byte, by the kind that the code has found
pub byte_is : (k l : Kind) (b : ℕ) → byte_of k ≡ b → k ≡ l → b ≡ byte_of l
byte_is k l b e z = sym e ∙ ap byte_of z

pub init_byte : (k : Kind) (b : ℕ) → byte_of k ≡ b → (k ≡ Init) ⊎ (k ≡ Magic) → b < 3
init_byte k b e (inl z) = let f = byte_is k Init b e z in omega (arith, f)
init_byte k b e (inr z) = let f = byte_is k Magic b e z in omega (arith, f)

-- the statement that is known to be there
module _ {s : List ℕ} {at : ℕ} {j : Job} (O : Operable s at j) where
  pub byte_there : (0 < byte s at) × (byte s at < 14) × (at < length s)
  byte_there = let b = statement_byte O.here in (b.0, b.1, omega (arith, b.2, b.3))

  -- the last arm's kind: none of the three that are named beside it stands there
  pub last_arm_byte : (k : Kind) → byte_of k ≡ byte s at → (k ≡ Truth) ⊎ ((k ≡ If) ⊎ ((k ≡ While) ⊎ (k ≡ Call))) → byte s at ≡ 13
  last_arm_byte k e (inl z) = byte_is k Truth _ e z
  last_arm_byte k e (inr (inl z)) = absurd (O.no_if (byte_is k If _ e z))
  last_arm_byte k e (inr (inr (inl z))) = absurd (O.no_while (byte_is k While _ e z))
  last_arm_byte k e (inr (inr (inr z))) = absurd (O.no_call (byte_is k Call _ e z))

  -- a statement of a kind that is none of these nine, where no block's stands, is a constant's
  pub last_byte : (k : Kind) → byte_of k ≡ byte s at → (k ≡ Init → ⊥) → (k ≡ Magic → ⊥) → (k ≡ Free → ⊥)
      → (k ≡ Gate → ⊥) → (k ≡ Measure → ⊥) → (k ≡ Merge → ⊥) → (k ≡ Ref → ⊥) → (k ≡ Get → ⊥) → (k ≡ Set → ⊥)
      → byte s at ≡ 13
  last_byte k e a b c d f g h i l = grind arith

  pub init_there : byte s at < 3 → IsInit s O.S O.depths at O.t O.p
  init_there k = init_seen O.here k

  pub free_there : byte s at ≡ 3 → IsFree s O.S O.depths at O.t O.p
  free_there k = free_seen O.here k

  pub gate_there : byte s at ≡ 4 → IsGate s O.S O.depths at O.t O.p
  gate_there k = gate_seen O.here k

  pub measure_there : byte s at ≡ 5 → IsMeasure s O.S O.depths at O.t O.p
  measure_there k = measure_seen O.here k

  pub merge_there : byte s at ≡ 6 → IsMerge s O.S O.depths at O.t O.p
  merge_there k = merge_seen O.here k

  pub new_there : byte s at ≡ 7 → IsNew s O.S O.depths at O.t O.p
  new_there k = new_seen O.here k

  pub get_there : byte s at ≡ 8 → IsGet s O.S O.depths at O.t O.p
  get_there k = get_seen O.here k

  pub set_there : byte s at ≡ 9 → IsSet s O.S O.depths at O.t O.p
  set_there k = set_seen O.here k

  pub constant_there : byte s at ≡ 13 → IsConstant s O.S O.depths at O.t O.p
  constant_there k = constant_seen O.here k

-- the move of the statement, from that of its operation
module _ (s : List ℕ) (at : ℕ) (j : Job) (rows : Rows) (owned : LocationSet) (map : List ℕ) (v : Bool) (r : Answer) where
  stands : {d : Side} (t : Statement d) (a : (d : Side) → Op d) (σ : Actual d) (R : Region) (fs : List Function) (is_free : ℕ → Bool) (φs : List Frame)
      (rest : List Item) → t ≡ op at (a d)
      → Performs j.top.slots v a r → Tells r φs rest (move R fs v is_free (slots_of j.top.slots) φs (run σ t) rest)
  stands {d} t a σ R fs is_free φs rest k P =
      subst (λ (z : Statement d). Tells r φs rest (move R fs v is_free (slots_of j.top.slots) φs (run σ z) rest)) (sym k) (P d σ R fs is_free at φs rest)

  module _ (x : ℕ) (ex : x ≡ byte s (at + 1)) where
    pub free_goes : byte s at ≡ 3 → ((v : Bool) → Performs j.top.slots v (λ d. free x) r) → Operates s at j rows owned map v r
    free_goes k P d S depths t p σ R fs occ h N O W M φs rest =
        stands t (λ d. free (byte s (at + 1))) σ R fs (free_in R occ) φs rest (free_seen h k).2
        (subst (λ (z : ℕ). Performs j.top.slots v (λ d. free z) r) ex (P v))

    module _ (y : ℕ) (ey : y ≡ byte s (at + 2)) where
      pub new_goes : byte s at ≡ 7 → ((v : Bool) → Performs j.top.slots v (λ d. new_ref x y) r) → Operates s at j rows owned map v r
      new_goes k P d S depths t p σ R fs occ h N O W M φs rest =
          stands t (λ d. new_ref (byte s (at + 1)) (byte s (at + 2))) σ R fs (free_in R occ) φs rest (new_seen h k).3
          (subst (λ (z : ℕ). Performs j.top.slots v (λ d. new_ref z (byte s (at + 2))) r) ex
          (subst (λ (z : ℕ). Performs j.top.slots v (λ d. new_ref x z) r) ey (P v)))

      pub get_goes : byte s at ≡ 8 → ((v : Bool) → Performs j.top.slots v (λ d. get_ref x y) r) → Operates s at j rows owned map v r
      get_goes k P d S depths t p σ R fs occ h N O W M φs rest =
          stands t (λ d. get_ref (byte s (at + 1)) (byte s (at + 2))) σ R fs (free_in R occ) φs rest (get_seen h k).3
          (subst (λ (z : ℕ). Performs j.top.slots v (λ d. get_ref z (byte s (at + 2))) r) ex
          (subst (λ (z : ℕ). Performs j.top.slots v (λ d. get_ref x z) r) ey (P v)))

      pub set_goes : byte s at ≡ 9 → ((v : Bool) → Performs j.top.slots v (λ d. set_ref x y) r) → Operates s at j rows owned map v r
      set_goes k P d S depths t p σ R fs occ h N O W M φs rest =
          stands t (λ d. set_ref (byte s (at + 1)) (byte s (at + 2))) σ R fs (free_in R occ) φs rest (set_seen h k).3
          (subst (λ (z : ℕ). Performs j.top.slots v (λ d. set_ref z (byte s (at + 2))) r) ex
          (subst (λ (z : ℕ). Performs j.top.slots v (λ d. set_ref x z) r) ey (P v)))

      pub constant_goes : byte s at ≡ 13 → ((v : Bool) → Performs j.top.slots v (λ d. constant x (eqb y 1)) r) → Operates s at j rows owned map v r
      constant_goes k P d S depths t p σ R fs occ h N O W M φs rest =
          stands t (λ d. constant (byte s (at + 1)) (eqb (byte s (at + 2)) 1)) σ R fs (free_in R occ) φs rest (constant_seen h k).2
          (subst (λ (z : ℕ). Performs j.top.slots v (λ d. constant z (eqb (byte s (at + 2)) 1)) r) ex
          (subst (λ (z : ℕ). Performs j.top.slots v (λ d. constant x (eqb z 1)) r) ey (P v)))

      pub init_goes : byte s at < 3 → (l : Location) → l ≡ located_in j y → Inits j.top.slots x l owned map r → Operates s at j rows owned map v r
      init_goes k l el I d S depths t p σ R fs occ h N O W M φs rest =
          let f = init_seen h k in
          let n = N.named (byte s (at + 2)) f.2 ∙ ap (λ (z : ℕ). place_of (located_in j z)) (sym ey) ∙ ap place_of (sym el) in
          subst (λ (z : Statement d). Tells r φs rest (move R fs v (free_in R occ) (slots_of j.top.slots) φs (run σ z) rest)) (sym f.4)
          (subst (λ (z : ℕ). Tells r φs rest
          (move R fs v (free_in R occ) (slots_of j.top.slots) φs (run σ (op at (init f.3 z (record { no = byte s (at + 2) })))) rest)) ex
          (I d σ f.3 (record { no = byte s (at + 2) }) R fs v occ O M n at φs rest))

    module _ (y : ℕ) (ey : y ≡ byte s (at + 3)) where
      pub measure_goes : byte s at ≡ 5 → ((g : ℕ) → Performs j.top.slots v (λ d. measure x g y) r) → Operates s at j rows owned map v r
      measure_goes k P d S depths t p σ R fs occ h N O W M φs rest =
          stands t (λ d. measure (byte s (at + 1)) (byte s (at + 2)) (byte s (at + 3))) σ R fs (free_in R occ) φs rest (measure_seen h k).3
          (subst (λ (z : ℕ). Performs j.top.slots v (λ d. measure z (byte s (at + 2)) (byte s (at + 3))) r) ex
          (subst (λ (z : ℕ). Performs j.top.slots v (λ d. measure x (byte s (at + 2)) z) r) ey (P (byte s (at + 2)))))

      pub merge_goes : byte s at ≡ 6 → (z : ℕ) → z ≡ byte s (at + 5) → Merges j.top.slots x y z rows owned map v r
          → Operates s at j rows owned map v r
      merge_goes k z ez G d S depths t p σ R fs occ h N O W M φs rest =
          subst (λ (u : Statement d). Tells r φs rest (move R fs v (free_in R occ) (slots_of j.top.slots) φs (run σ u) rest)) (sym (merge_seen h k).4)
          (operands (byte s (at + 1)) (byte s (at + 3)) (byte s (at + 5)) ex ey ez)
        where
          operands : (x' y' z' : ℕ) → x ≡ x' → y ≡ y' → z ≡ z'
              → Tells r φs rest (move R fs v (free_in R occ) (slots_of j.top.slots) φs (run σ (op at (merge x' (byte s (at + 2)) y' (byte s (at + 4)) z')))
              rest)
          operands x' y' z' fx fy fz =
              subst (λ (u : ℕ). Tells r φs rest
              (move R fs v (free_in R occ) (slots_of j.top.slots) φs (run σ (op at (merge u (byte s (at + 2)) y' (byte s (at + 4)) z'))) rest)) fx
              (subst (λ (u : ℕ). Tells r φs rest
              (move R fs v (free_in R occ) (slots_of j.top.slots) φs (run σ (op at (merge x (byte s (at + 2)) u (byte s (at + 4)) z'))) rest)) fy
              (subst (λ (u : ℕ). Tells r φs rest
              (move R fs v (free_in R occ) (slots_of j.top.slots) φs (run σ (op at (merge x (byte s (at + 2)) y (byte s (at + 4)) u))) rest)) fz
              (G d σ (byte s (at + 2)) (byte s (at + 4)) R fs occ O W M at φs rest)))

  pub gate_goes : (x : ℕ) → x ≡ byte s (at + 2) → byte s at ≡ 4 → ((v : Bool) (g : ℕ) → Performs j.top.slots v (λ d. gate g x) r)
      → Operates s at j rows owned map v r
  gate_goes x ex k P d S depths t p σ R fs occ h N O W M φs rest =
      stands t (λ d. gate (byte s (at + 1)) (byte s (at + 2))) σ R fs (free_in R occ) φs rest (gate_seen h k).2
      (subst (λ (z : ℕ). Performs j.top.slots v (λ d. gate (byte s (at + 1)) z) r) ex (P v (byte s (at + 1))))
