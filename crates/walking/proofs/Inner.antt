-- Statements with blocks of their own, and calls. Their blocks stand where the statement says, and what the walks over these give is what the walk
-- over the statement gives. A callee's body stands where the table of bodies says, its places are the call's, and its frame on entry has argument i
-- at the call's location i.
use mathlib.Core.Bool.{Bool, true, false, cond}
use mathlib.Core.List.{List}
use mathlib.Core.Path.{◌≡◌, refl, sym, ap, subst, ◌∙◌}
use native.Mathlib.Decide.{dec_lt}
use native.Mathlib.Omega.{arith}
use Prim.Native.Nat.{ℕ, ◌+◌, ◌<◌, ◌≤◌}
use lib.Dec.{ltb}
use lib.ListN.{get_or, length, take}
use lib.Seq.{get_or-take, length-take-le}
use borrow.Author.Tests.{lt-ltb, le-ltb}
use Rattle.std.specs.Prelude.{Some, None, Result, Ok, Err, IsErrAnd}
use Rattle.answers.specs.Check.{Check, ok, ◌>>=◌, ◌>>◌}
use Rattle.rules.specs.Basics.{up_to, byte, word}
use Rattle.rules.specs.Region.{Region}
use Rattle.rules.specs.Syntax.{device, parameter, Place, param, at, Statement, Function, function}
use Rattle.sets.specs.declared.LocationSet.{LocationSet}
use Rattle.sets.specs.Sets.{has}
use Rattle.rules.proofs.Basics.{get_d_up_to}
use Rattle.program.specs.In.{BlockIn, scope_of}
use Rattle.program.specs.Heads.{entry}
use Rattle.program.specs.declared.functions.Head.{Head}
use Rattle.program.proofs.In.{statement_view}
use Rattle.walking.specs.Walk.{Standing, Walker, entered_at, walk_statement, walk_block}
use Rattle.walking.specs.declared.walk.Walk.{Walk}
use Rattle.walking.specs.declared.walk.NoPath.{NoPath}
use Rattle.walking.specs.Names.{Names, placed, named}
use Rattle.walking.specs.Stands.{standing, walk_said, kept, BlockAt, StatementAt, Over, BlockWalked, StatementWalked, CallWalked}
use Rattle.walking.proofs.Views.{view_if, view_while, view_call}
use Rattle.walking.proofs.Ends.{block_ends}

-- The blocks of an if and of a while.
module _ {w : Walk} {g : ℕ} {n : Names} {p : ℕ} where
  abbrev pub then_block : byte w.bytes.now p ≡ 10 → StatementAt w g n p → BlockAt w g n (p + 2)
  then_block h t =
      let v = view_if (statement_view t.stands) h in
      record {
        side = t.side;
        program = t.program;
        counts = t.counts;
        scope = t.scope;
        depths = t.depths;
        tree = v.then_block_lem;
        next = v.middle;
        body = t.body;
        stands = v.first;
      }

  abbrev pub else_block : {m : ℕ} → byte w.bytes.now p ≡ 10 → m ≡ p + 2 + 2 + word w.bytes.now (p + 2) → StatementAt w g n p → BlockAt w g n m
  else_block h e t =
      let v = view_if (statement_view t.stands) h in
      record {
        side = t.side;
        program = t.program;
        counts = t.counts;
        scope = t.scope;
        depths = t.depths;
        tree = v.else_block_lem;
        next = t.next;
        body = t.body;
        stands = subst (λ (i : ℕ). BlockIn w.bytes.now t.scope t.depths i v.else_block_lem t.next) ((block_ends v.first).0 ∙ sym e) v.second;
      }

  abbrev pub loop_block : byte w.bytes.now p ≡ 11 → StatementAt w g n p → BlockAt w g n (p + 2)
  loop_block h t =
      let v = view_while (statement_view t.stands) h in
      record {
        side = t.side;
        program = t.program;
        counts = t.counts;
        scope = t.scope;
        depths = t.depths;
        tree = v.inner;
        next = t.next;
        body = t.body;
        stands = v.first;
      }

-- what a `?` passes on
pub passed : {e : NoPath} (r : Result (Unit {0}) NoPath) → IsErrAnd r (λ x. x ≡ e) → r ≡ Err e
passed (Ok u) h = absurd h
passed (Err x) h = ap (λ y. Err y) h

-- what two walks after one another say, and one whose free locations are not taken over
both_said : (f : List ℕ) (r : Result (Unit {0}) NoPath) (G H : LocationSet)
    → kept f (walk_said r G) ≡ (ok (has G) >>= λ K. walk_said r H >> ok (record { frame = placed f; free = K }))
unfolding ◌>>=◌ ◌>>◌
both_said f (Ok u) G H = refl
both_said f (Err m) G H = refl

once_said : (f : List ℕ) (r : Result (Unit {0}) NoPath) (F G : LocationSet) → kept f (walk_said r F) ≡ (walk_said r G >> ok (standing f F))
unfolding ◌>>=◌ ◌>>◌
once_said f (Ok u) F G = refl
once_said f (Err m) F G = refl

module _ {w : Walk} {g : ℕ} {n : Names} {p : ℕ} (f : List ℕ) (F : LocationSet) where
  if_is : (h : byte w.bytes.now p ≡ 10) {m : ℕ} (e : m ≡ p + 2 + 2 + word w.bytes.now (p + 2)) (t : StatementAt w g n p)
      (R : Region) (W : Walker) (σ : Place t.side → Place device)
      → walk_statement R W σ t.tree (standing f F)
      ≡ (walk_block R W σ (then_block h t).tree (standing f F) >>= λ G.
      walk_block R W σ (else_block h e t).tree (standing f F) >> ok (record { frame = placed f; free = G }))
  unfolding walk_statement
  if_is h e t R W σ = let v = view_if (statement_view t.stands) h in ap (λ (x : Statement t.side). walk_statement R W σ x (standing f F)) v.is

  while_is : (h : byte w.bytes.now p ≡ 11) (t : StatementAt w g n p) (R : Region) (W : Walker) (σ : Place t.side → Place device)
      → walk_statement R W σ t.tree (standing f F) ≡ (walk_block R W σ (loop_block h t).tree (standing f F) >> ok (standing f F))
  unfolding walk_statement
  while_is h t R W σ = let v = view_while (statement_view t.stands) h in ap (λ (x : Statement t.side). walk_statement R W σ x (standing f F)) v.is

module _ {w : Walk} {g : ℕ} {n : Names} {p : ℕ} {f : List ℕ} {F : LocationSet} where
  -- both blocks walked: what the first left free, where the second found a path for each merge
  pub if_walked : {m : ℕ} {u : Unit {0}} {b : Result (Unit {0}) NoPath} {G H : LocationSet} → byte w.bytes.now p ≡ 10
      → m ≡ p + 2 + 2 + word w.bytes.now (p + 2) → BlockWalked w g n (p + 2) f F (Ok u) G → BlockWalked w g n m f F b H
      → StatementWalked w g n p f F b G
  if_walked {b = b} {G = G} {H = H} h e A B = record {
    statement = λ t R W σ o.
        both_said f b G H
        ∙ (λ i. A.block (then_block h t) R W σ o i >>= λ K. B.block (else_block h e t) R W σ o i >> ok (record { frame = placed f; free = K }))
        ∙ sym (if_is f F h e t R W σ);
  }

  -- the first refused
  pub if_refused : {merge : NoPath} {G : LocationSet} (H : LocationSet) → byte w.bytes.now p ≡ 10 → BlockWalked w g n (p + 2) f F (Err merge) G
      → StatementWalked w g n p f F (Err merge) H
  unfolding ◌>>=◌
  if_refused {merge} H h A = record {
    statement = λ t R W σ o.
        let on : (ℕ → Bool) → Check Standing = λ K. walk_block R W σ (else_block h refl t).tree (standing f F) >> ok (record { frame = placed f; free = K }) in
        ap (λ (q : Check (ℕ → Bool)). q >>= on) (A.block (then_block h t) R W σ o) ∙ sym (if_is f F h refl t R W σ);
  }

  -- a loop's body walked: what was free before it
  pub while_walked : {r : Result (Unit {0}) NoPath} {G : LocationSet} → byte w.bytes.now p ≡ 11 → BlockWalked w g n (p + 2) f F r G
      → StatementWalked w g n p f F r F
  while_walked {r} {G} h A = record {
    statement = λ t R W σ o.
        once_said f r F G ∙ ap (λ (m : Check (ℕ → Bool)). m >> ok (standing f F)) (A.block (loop_block h t) R W σ o) ∙ sym (while_is f F h t R W σ);
  }

-- A call, in a body that g functions come before. The callee is the function of its first operand.
module _ {w : Walk} {g : ℕ} {n : Names} {p : ℕ} (h : byte w.bytes.now p ≡ 12) (t : StatementAt w g n p) where
  abbrev functions : List Function
  functions = t.program.functions

  abbrev pub callee : ℕ
  callee = byte w.bytes.now (p + 1)

  -- it is before g, and has as many places as the call names
  pub callee_known : (callee < g) × (callee < length functions) × (byte w.bytes.now (p + 2) ≡ (function functions callee).k) × (byte w.bytes.now (p + 2) ≤ 16)
  callee_known =
      let v = view_call (statement_view t.stands) h in
      let B = t.body in
      let l : callee < length (take g functions) = subst (λ (fs : List Function). callee < length fs) B.earlier v.callee in
      let a : callee < g = omega (arith, l, length-take-le g functions B.reach) in
      let b : callee < length functions = omega (arith, a, B.reach) in
      let k : byte w.bytes.now (p + 2) ≡ (function functions callee).k
      = v.ks ∙ ap (λ (fs : List Function). (function fs callee).k) B.earlier ∙ ap (λ (q : Function). q.k) (get_or-take g functions callee _ a) in
      (a, b, k, omega (arith, k, (B.program.head callee b).0))

  -- its body, where the table says
  abbrev pub callee_block : (inner : Names) (x : Head) → x ≡ entry w.functions.now callee → BlockAt w callee inner x.body
  callee_block inner x e =
      let l = callee_known.1 in
      let P = t.body.program in
      let b = P.body callee l in
      record {
        side = parameter;
        program = t.program;
        counts = t.counts;
        scope = scope_of functions callee;
        depths = 8;
        tree = (function functions callee).body;
        next = b.0;
        body =
            record { program = P; offsets = t.body.offsets; reach = omega (arith, l); earlier = refl; room = λ q. (P.head callee l).0; table = t.body.table };
        stands = subst
            (λ (i : ℕ). BlockIn w.bytes.now (scope_of functions callee) 8 i (function functions callee).body b.0)
            (sym (t.body.offsets callee l) ∙ ap (λ (y : Head). y.body) (sym e))
            b.1;
      }

  -- the places that the call names
  abbrev places : List (Place t.side)
  places = up_to (p + 4) (byte w.bytes.now (p + 2)) λ i. record { no = byte w.bytes.now i }

  call_is : (fr : List ℕ) (F : LocationSet) (R : Region) (W : Walker) (σ : Place t.side → Place device)
      → walk_statement R W σ t.tree (standing fr F) ≡ kept fr (W callee (λ q. σ (at places q.no)) (has F))
  unfolding walk_statement
  call_is fr F R W σ = ap (λ (x : Statement t.side). walk_statement R W σ x (standing fr F)) (view_call (statement_view t.stands) h).is

  -- where they are
  place_named : {R : Region} {W : Walker} (σ : Place t.side → Place device) → Over R w.rows.now t.counts functions g t.scope n W σ
      → (i : ℕ) → i < byte w.bytes.now (p + 2) → (σ (at places i)).no ≡ named n (byte w.bytes.now (p + 4 + i))
  place_named σ O i l =
      let v = view_call (statement_view t.stands) h in
      ap (λ (q : Place t.side). (σ q).no) (get_d_up_to (p + 4) (byte w.bytes.now (p + 2)) i (λ j. record { no = byte w.bytes.now j }) _ l)
      ∙ O.places (record { no = byte w.bytes.now (p + 4 + i) }) (v.places i l)

module _ {w : Walk} {g : ℕ} {n : Names} {p : ℕ} where
  -- a callee without commands: the walk goes on as it stands
  pub call_quiet : (fr : List ℕ) (F : LocationSet) (h : byte w.bytes.now p ≡ 12) (t : StatementAt w g n p)
      → get_or t.counts (byte w.bytes.now (p + 1)) None ≡ Some 0 → (R : Region) (W : Walker) (σ : Place t.side → Place device)
      → Over R w.rows.now t.counts t.program.functions g t.scope n W σ → walk_statement R W σ t.tree (standing fr F) ≡ ok (standing fr F)
  unfolding ◌>>=◌
  call_quiet fr F h t z R W σ O =
      call_is h t fr F R W σ ∙ ap (kept fr) (O.callees.skips (callee h t) (callee_known h t).0 z (λ q. σ (at (places h t) q.no)) (has F))

-- what a call gives the walk over its callee: the callee's names are the call's, and its frame on entry has argument i at place i
pub record Entered (w : Walk) (n : Names) (p : ℕ) (inner : Names) (frame : List ℕ) : Type 0 where
  pub in_function : inner.main ≡ false
  pub named_so : (i : ℕ) → i < byte w.bytes.now (p + 2) → placed inner.at i ≡ named n (byte w.bytes.now (p + 4 + i))
  pub passed : (i : ℕ) → i < byte w.bytes.now (p + 2) → placed frame i ≡ named n (byte w.bytes.now (p + 4 + i))
  pub rest : (i : ℕ) → byte w.bytes.now (p + 2) ≤ i → placed frame i ≡ 0

-- A callee walked: its places are the call's, and on entry argument i is at place i.
module _ {w : Walk} {g : ℕ} {n : Names} {p : ℕ} {inner : Names} {x : Head} {frame : List ℕ} {F G : LocationSet} {r : Result (Unit {0}) NoPath}
    (h : byte w.bytes.now p ≡ 12) (E : Entered w n p inner frame) (e : x ≡ entry w.functions.now (byte w.bytes.now (p + 1)))
    (B : BlockWalked w (byte w.bytes.now (p + 1)) inner x.body frame F r G) where
  callee_walked : (fr : List ℕ) (t : StatementAt w g n p) (R : Region) (W : Walker) (σ : Place t.side → Place device)
      → Over R w.rows.now t.counts t.program.functions g t.scope n W σ → kept fr (walk_said r G) ≡ walk_statement R W σ t.tree (standing fr F)
  callee_walked fr t R W σ O =
      ap (kept fr) (B.block (callee_block h t inner x e) R W τ over
      ∙ ap (λ (q : ℕ → ℕ). walk_block R W τ (function fs f).body (record { frame = q; free = has F })) same
      ∙ sym (O.callees.walks f known.0 τ (has F)))
      ∙ sym (call_is h t fr F R W σ)
    where
      fs : List Function
      fs = t.program.functions

      f : ℕ
      f = byte w.bytes.now (p + 1)

      k : ℕ
      k = byte w.bytes.now (p + 2)

      known : (f < g) × (f < length fs) × (k ≡ (function fs f).k) × (k ≤ 16)
      known = callee_known h t

      τ : Place parameter → Place device
      τ q = σ (at (places h t) q.no)

      τ-named : (i : ℕ) → i < k → (τ (param i)).no ≡ named n (byte w.bytes.now (p + 4 + i))
      τ-named i l = place_named h t σ O i l

      over : Over R w.rows.now t.counts fs f (scope_of fs f) inner W τ
      over = record {
        region = O.region;
        callees = record { walks = λ j l. O.callees.walks j (omega (arith, l, known.0)); skips = λ j l. O.callees.skips j (omega (arith, l, known.0)) };
        places = λ q l. let z : q.no < k = omega (arith, known.2, l) in τ-named q.no z ∙ sym (E.named_so q.no z) ∙ rw E.in_function;
      }

      at_slot : (i : ℕ) → Dec (i < k) → placed frame i ≡ cond (ltb i (function fs f).k) (τ (param i)).no 0
      at_slot i (yes l) =
          let q : ltb i (function fs f).k ≡ true = lt-ltb i (function fs f).k (omega (arith, known.2)) in
          rw q (E.passed i l ∙ sym (τ-named i l))
      at_slot i (no l) =
          let q : ltb i (function fs f).k ≡ false = le-ltb i (function fs f).k (omega (arith, known.2)) in
          rw q (E.rest i (omega arith))

      same : placed frame ≡ (entered_at (function fs f).k τ (has F)).frame
      same = λ j i. at_slot i (dec_lt i k) j

  pub call_walked : CallWalked w g n p F r G
  call_walked = record { call = λ fr. record { statement = λ t R W σ O. callee_walked fr t R W σ O } }
