-- What each kind of statement does to the walk, from what the code computed for it.
use mathlib.Core.Bool.{Bool, not, ◌&&◌, ◌||◌, cond}
use mathlib.Core.List.{List}
use mathlib.Core.Option.{Option, none, some}
use mathlib.Core.Path.{◌≡◌, sym, ap, ◌∙◌}
use native.Mathlib.Decide.{ℕ_discrete}
use native.Mathlib.Omega.{arith}
use Prim.Native.Nat.{ℕ, ◌+◌, ◌<◌}
use lib.Dec.{eqb}
use lib.ListN.{set, length}
use lib.Seq.{get_or-set_same, get_or-set_other}
use Rattle.std.specs.Prelude.{Ok, Err}
use Rattle.std.specs.Option.{is_none}
use Rattle.answers.specs.Check.{ok, refused, refusal, ◌>>=◌, ◌>>◌}
use Rattle.rules.specs.Basics.{byte}
use Rattle.rules.specs.Region.{Region}
use Rattle.rules.specs.Path.{route}
use Rattle.rules.specs.Syntax.{device, Place, Op, init, free, Statement, op}
use Rattle.rules.specs.Commands.{need_route}
use Rattle.route.specs.Found.{edges_of}
use Rattle.sets.specs.declared.LocationSet.{LocationSet}
use Rattle.sets.specs.Sets.{has}
use Rattle.device.specs.Reader.{RowsOf}
use Rattle.rules.proofs.Tests.{eqb_same, eqb_other}
use Rattle.program.proofs.In.{statement_view}
use Rattle.walking.specs.Walk.{Standing, Walker, put, taken, walk_op, walk_statement}
use Rattle.walking.specs.declared.walk.Walk.{Walk}
use Rattle.walking.specs.declared.walk.NoPath.{NoPath}
use Rattle.walking.specs.Quiet.{Silent}
use Rattle.walking.specs.Names.{Names, placed, named}
use Rattle.walking.specs.Stands.{no_path, standing, StatementAt, Over, StatementWalked}
use Rattle.walking.proofs.Steps.{Gives}
use Rattle.walking.proofs.Views.{view_init, view_free, view_merge, view_quiet}

-- a store in the frame, and sets that have the same
put_placed : (f : List ℕ) (x l : ℕ) → x < length f → placed (set f x l) ≡ put (placed f) x l
put_placed f x l r = λ i y. go y (ℕ_discrete y x) i
  where
    go : (y : ℕ) → Dec (y ≡ x) → placed (set f x l) y ≡ put (placed f) x l y
    go y (yes e) = rw (e, eqb_same x) (get_or-set_same f x l 0 r)
    go y (no d) = rw (eqb_other y x d) (get_or-set_other f x y l 0 d)

same_set : {F G : ℕ → Bool} → ((y : ℕ) → F y ≡ G y) → F ≡ G
same_set h = λ i y. h y i

-- what the test of a merge says of the walk
told : {A : Type 0} (st : A) (o : ℕ) (t : Bool) (r : Option (List ℕ)) → is_none (edges_of r) ≡ t
    → (need_route r o >> ok st) ≡ cond t (refused (refusal 21 o)) (ok st)
unfolding ◌>>◌
told st o t none q = rw (← q)
told st o t (some p) q = rw (← q)

-- The statement at p, in a block that the walk is over. The frame f and the set F are where the walk stands.
as_op : {w : Walk} {g : ℕ} {n : Names} {p : ℕ} (t : StatementAt w g n p) (R : Region) (W : Walker) (σ : Place t.side → Place device) (st : Standing)
    (a : Op t.side) → t.tree ≡ op p a → walk_statement R W σ t.tree st ≡ walk_op R W σ p a st
unfolding walk_statement
as_op t R W σ st a e = ap (λ (x : Statement t.side). walk_statement R W σ x st) e

module _ {w : Walk} {g : ℕ} {n : Names} {p : ℕ} {f : List ℕ} {F : LocationSet} where
  -- an init: its slot has its qubit at l, which is no longer free
  pub on_init : {l : ℕ} (G : LocationSet) → byte w.bytes.now p < 3 → length f ≡ 32 → l ≡ named n (byte w.bytes.now (p + 2))
      → ((y : ℕ) → has G y ≡ (not (eqb y l) && has F y)) → Gives w g n p f F (ok (standing (set f (byte w.bytes.now (p + 1)) l) G))
  unfolding walk_op
  on_init {l} G h z k d = record { gives = λ t R W σ O. go t R W σ O }
    where
      go : (t : StatementAt w g n p) (R : Region) (W : Walker) (σ : Place t.side → Place device)
          → Over R w.rows.now t.counts t.program.functions g t.scope n W σ
          → walk_statement R W σ t.tree (standing f F) ≡ ok (standing (set f (byte w.bytes.now (p + 1)) l) G)
      go t R W σ O =
          let v = view_init (statement_view t.stands) h in
          let x = byte w.bytes.now (p + 1) in
          let at : Place t.side = record { no = byte w.bytes.now (p + 2) } in
          let q : (σ at).no ≡ l = O.places at v.place ∙ sym k in
          let fs : put (placed f) x (σ at).no ≡ placed (set f x l) = ap (put (placed f) x) q ∙ sym (put_placed f x l (omega (arith, z, v.slot))) in
          let gs : taken (has F) (σ at).no ≡ has G = ap (taken (has F)) q ∙ sym (same_set d) in
          as_op t R W σ (standing f F) (init v.prepared x at) v.is ∙ (λ i. ok (record { frame = fs i; free = gs i }))

  -- a free: the location of its slot's qubit is free again
  pub on_free : (G : LocationSet) → byte w.bytes.now p ≡ 3 → ((y : ℕ) → has G y ≡ (eqb y (placed f (byte w.bytes.now (p + 1))) || has F y))
      → Gives w g n p f F (ok (standing f G))
  unfolding walk_op
  on_free G h d = record {
    gives = λ t R W σ O.
        let v = view_free (statement_view t.stands) h in
        as_op t R W σ (standing f F) (free (byte w.bytes.now (p + 1))) v.is ∙ (λ i. ok (record { frame = placed f; free = sym (same_set d) i }));
  }

  -- a merge, by whether a path joins its ends
  pub on_merge : {b : Bool} → byte w.bytes.now p ≡ 6
      → ((R : Region) → RowsOf R w.rows.now → no_path R (has F) (placed f (byte w.bytes.now (p + 3))) (placed f (byte w.bytes.now (p + 5))) ≡ b)
      → Gives w g n p f F (cond b (refused (refusal 21 p)) (ok (standing f F)))
  unfolding walk_op no_path
  on_merge {b} h e = record {
    gives = λ t R W σ O.
        let v = view_merge (statement_view t.stands) h in as_op t R W σ (standing f F) _ v.is ∙ told (standing f F) p b (route R _ _ _) (e R O.region);
  }

  pub on_quiet : Silent (byte w.bytes.now p) → Gives w g n p f F (ok (standing f F))
  on_quiet z = record {
    gives = λ t R W σ O. let v = view_quiet (statement_view t.stands) z in as_op t R W σ (standing f F) v.act v.is ∙ v.still R W σ (standing f F);
  }

  -- what an inner walk's answer says of its statement
  pub on_inner : {u : Unit {0}} {G : LocationSet} → StatementWalked w g n p f F (Ok u) G → Gives w g n p f F (ok (standing f G))
  unfolding ◌>>=◌
  on_inner h = record { gives = λ t R W σ O. sym (h.statement t R W σ O) }

  pub on_refused : {merge : NoPath} {G : LocationSet} → StatementWalked w g n p f F (Err merge) G → Gives w g n p f F (refused (refusal 21 merge.place))
  unfolding ◌>>=◌
  on_refused h = record { gives = λ t R W σ O. sym (h.statement t R W σ O) }
