-- The loop over a block's statements. What is left of the block, walked from where the loop stands, ends as the whole block does: so where every
-- statement lets the walk on, the block's end gives what is free, and where one refuses, so does the block.
use mathlib.Core.Bool.{false}
use mathlib.Core.List.{List}
use mathlib.Core.Path.{◌≡◌, refl, sym, ap, subst, ◌∙◌}
use native.Mathlib.Omega.{arith}
use Prim.Native.Nat.{ℕ, ◌+◌, ◌<◌, ◌≤◌}
use lib.ListN.{length}
use Rattle.answers.specs.declared.Refusal.{Refusal}
use Rattle.answers.specs.Check.{Check, ok, refused, refusal, ◌>>=◌}
use Rattle.std.specs.Prelude.{Ok, Err}
use Rattle.rules.specs.Basics.{byte, word}
use Rattle.rules.specs.Region.{Region}
use Rattle.rules.specs.Syntax.{device, Place, Statements, Block}
use Rattle.sets.specs.declared.LocationSet.{LocationSet}
use Rattle.sets.specs.Sets.{has}
use Rattle.program.specs.In.{StatementsIn}
use Rattle.program.proofs.In.{block_in, statement_byte, statements_end, statements_next}
use Rattle.walking.specs.Walk.{Standing, Walker, walk_statement, walk_statements, walk_block}
use Rattle.walking.specs.declared.walk.Walk.{Walk}
use Rattle.walking.specs.declared.walk.NoPath.{NoPath}
use Rattle.walking.specs.Names.{Names}
use Rattle.walking.specs.Stands.{standing, BlockAt, StatementAt, StatementsAt, Over, BlockWalked}

-- every statement at p, walked with this frame and these locations free, gives m
pub record Gives (w : Walk) (g : ℕ) (n : Names) (p : ℕ) (f : List ℕ) (F : LocationSet) (m : Check Standing) : Type 0 where
  pub gives : (t : StatementAt w g n p) (R : Region) (W : Walker) (σ : Place t.side → Place device)
      → Over R w.rows.now t.counts t.program.functions g t.scope n W σ → walk_statement R W σ t.tree (standing f F) ≡ m

-- the statements of a block that ends at `stop`
abbrev pub statements_of : {w : Walk} {g : ℕ} {n : Names} {at : ℕ} (stop : ℕ) → stop ≡ at + 2 + word w.bytes.now at → BlockAt w g n at
    → StatementsAt w g n (at + 2) stop
statements_of {w = w} {at = at} stop e b =
    let k = block_in b.stands in
    record {
      side = b.side;
      program = b.program;
      counts = b.counts;
      scope = b.scope;
      depths = k.1;
      tree = k.0;
      body = b.body;
      stands = subst (λ (i : ℕ). StatementsIn w.bytes.now b.scope k.1 (at + 2) i k.0) (k.4 ∙ sym e) k.6;
    }

block_opens : {w : Walk} {g : ℕ} {n : Names} {at : ℕ} (stop : ℕ) (e : stop ≡ at + 2 + word w.bytes.now at) (b : BlockAt w g n at)
    (R : Region) (W : Walker) (σ : Place b.side → Place device) (st : Standing)
    → walk_block R W σ b.tree st ≡ walk_statements R W σ (statements_of stop e b).tree st
unfolding walk_statement
block_opens stop e b R W σ st = ap (λ (x : Block b.side). walk_block R W σ x st) (block_in b.stands).2

module _ (w : Walk) (g : ℕ) (n : Names) (from stop : ℕ) (f₀ : List ℕ) (F₀ : LocationSet) where
  -- from p on, standing so, what is left ends as all of the statements b does
  pub record Left (b : StatementsAt w g n from stop) (p : ℕ) (f : List ℕ) (F : LocationSet) : Type 0 where
    pub tree : Statements b.side
    pub stands : StatementsIn w.bytes.now b.scope b.depths p stop tree
    pub walks : (R : Region) (W : Walker) (σ : Place b.side → Place device) → Over R w.rows.now b.counts b.program.functions g b.scope n W σ
        → walk_statements R W σ b.tree (standing f₀ F₀) ≡ walk_statements R W σ tree (standing f F)

  -- and so for each
  pub record Rest (p : ℕ) (f : List ℕ) (F : LocationSet) : Type 0 where
    pub left : (b : StatementsAt w g n from stop) → Left b p f F

  pub rest_start : Rest from f₀ F₀
  rest_start = record { left = λ b. record { tree = b.tree; stands = b.stands; walks = λ R W σ o. refl } }

module _ {w : Walk} {g : ℕ} {n : Names} {from stop : ℕ} {f₀ : List ℕ} {F₀ : LocationSet} {p : ℕ} {f : List ℕ} {F : LocationSet} where
  -- the statement at p
  abbrev pub statement_in : (b : StatementsAt w g n from stop) → Left w g n from stop f₀ F₀ b p f F → p < stop → StatementAt w g n p
  statement_in b H l =
      let k = statements_next H.stands l in
      record { side = b.side; program = b.program; counts = b.counts; scope = b.scope; depths = b.depths; tree = k.0; next = k.1; body = b.body; stands = k.4 }

  -- where it lets the walk on
  pub left_on : {b : StatementsAt w g n from stop} {q : ℕ} {f' : List ℕ} {F' : LocationSet} (H : Left w g n from stop f₀ F₀ b p f F) (l : p < stop)
      → q ≡ (statement_in b H l).next
      → ((R : Region) (W : Walker) (σ : Place b.side → Place device) → Over R w.rows.now b.counts b.program.functions g b.scope n W σ
      → walk_statement R W σ (statement_in b H l).tree (standing f F) ≡ ok (standing f' F')) → Left w g n from stop f₀ F₀ b q f' F'
  unfolding walk_statement ◌>>=◌
  left_on {b} H l e h =
      let k = statements_next H.stands l in
      record {
        tree = k.2;
        stands = subst (λ (i : ℕ). StatementsIn w.bytes.now b.scope b.depths i stop k.2) (sym e) k.5;
        walks = λ R W σ o.
            H.walks R W σ o ∙ ap (λ (ts : Statements b.side). walk_statements R W σ ts (standing f F)) k.3
            ∙ ap (λ (m : Check Standing). m >>= λ st. walk_statements R W σ k.2 st) (h R W σ o);
      }

  module _ (H : Rest w g n from stop f₀ F₀ p f F) where
    abbrev pub statement_of : p < stop → StatementsAt w g n from stop → StatementAt w g n p
    statement_of l b = statement_in b (H.left b) l

    -- where every statement at p lets the walk on
    pub rest_on : {q : ℕ} {f' : List ℕ} {F' : LocationSet} → p < stop → ((t : StatementAt w g n p) → q ≡ t.next)
        → Gives w g n p f F (ok (standing f' F')) → Rest w g n from stop f₀ F₀ q f' F'
    rest_on l e h = record { left = λ b. left_on (H.left b) l (e (statement_of l b)) (h.gives (statement_of l b)) }

    -- where it refuses
    rest_refused : {r : Refusal} → p < stop → Gives w g n p f F (refused r)
        → (b : StatementsAt w g n from stop) (R : Region) (W : Walker) (σ : Place b.side → Place device)
        → Over R w.rows.now b.counts b.program.functions g b.scope n W σ → walk_statements R W σ b.tree (standing f₀ F₀) ≡ refused r
    unfolding walk_statement ◌>>=◌
    rest_refused l h b R W σ o =
        let k = statements_next (H.left b).stands l in
        (H.left b).walks R W σ o ∙ ap (λ (ts : Statements b.side). walk_statements R W σ ts (standing f F)) k.3
        ∙ ap (λ (m : Check Standing). m >>= λ st. walk_statements R W σ k.2 st) (h.gives (statement_of l b) R W σ o)

    -- at the block's end
    rest_ends : p ≡ stop → (b : StatementsAt w g n from stop) (R : Region) (W : Walker) (σ : Place b.side → Place device)
        → Over R w.rows.now b.counts b.program.functions g b.scope n W σ → walk_statements R W σ b.tree (standing f₀ F₀) ≡ ok (has F)
    unfolding walk_statement
    rest_ends e b R W σ o =
        (H.left b).walks R W σ o ∙ ap (λ (ts : Statements b.side). walk_statements R W σ ts (standing f F)) (statements_end (H.left b).stands e)

-- The whole block, from where the loop stands.
module _ {w : Walk} {g : ℕ} {n : Names} {at stop : ℕ} {f₀ : List ℕ} {F₀ : LocationSet} {p : ℕ} {f : List ℕ} {F : LocationSet}
    (H : Rest w g n (at + 2) stop f₀ F₀ p f F) (e : stop ≡ at + 2 + word w.bytes.now at) where
  pub block_refused : {merge : NoPath} (after : LocationSet) → p < stop → Gives w g n p f F (refused (refusal 21 merge.place))
      → BlockWalked w g n at f₀ F₀ (Err merge) after
  block_refused after l h = record {
    block = λ b R W σ o. sym (block_opens stop e b R W σ (standing f₀ F₀) ∙ rest_refused H l h (statements_of stop e b) R W σ o);
  }

  pub block_ended : {u : Unit {0}} → p ≡ stop → BlockWalked w g n at f₀ F₀ (Ok u) F
  block_ended l = record {
    block = λ b R W σ o. sym (block_opens stop e b R W σ (standing f₀ F₀) ∙ rest_ends H l (statements_of stop e b) R W σ o);
  }

-- where the loop stands, at p, with this frame and these locations free
pub record Loop (w : Walk) (g : ℕ) (n : Names) (at stop : ℕ) (f₀ : List ℕ) (F₀ : LocationSet) (p : ℕ) (f : List ℕ) (F : LocationSet) : Type 0 where
  pub starts : at + 2 ≤ p
  pub inside : p ≤ stop
  pub rest : Rest w g n (at + 2) stop f₀ F₀ p f F

-- A turn of the loop: the statement that it is at, and where this and the block end.
pub record Turn (w : Walk) (g : ℕ) (n : Names) (p stop : ℕ) : Type 0 where
  pub here : StatementAt w g n p
  pub inside : p < stop
  pub within : stop ≤ length w.bytes.now
  pub size : length w.bytes.now ≤ 4096
  pub further : p < here.next
  pub fits : here.next ≤ stop

pub turn : {w : Walk} {g : ℕ} {n : Names} {at stop : ℕ} {f₀ : List ℕ} {F₀ : LocationSet} {p : ℕ} {f : List ℕ} {F : LocationSet}
    → BlockAt w g n at → stop ≡ at + 2 + word w.bytes.now at → Loop w g n at stop f₀ F₀ p f F → (p ≡ stop → ⊥) → Turn w g n p stop
turn {stop = stop} {p = p} b e L d =
    let i : p < stop = omega (arith, L.inside, d) in
    let c = statements_of stop e b in
    let k = statements_next (L.rest.left c).stands i in
    record { here = statement_of L.rest i c; inside = i; within = c.stands.within; size = b.body.program.size; further = k.6; fits = k.7 }

-- where a block lies
pub block_bounds : {w : Walk} {g : ℕ} {n : Names} {at : ℕ} → BlockAt w g n at
    → (at + 2 + word w.bytes.now at ≤ length w.bytes.now) × (length w.bytes.now ≤ 4096)
block_bounds b = let k = block_in b.stands in (omega (arith, k.4, k.5), b.body.program.size)

-- and a statement
pub statement_bounds : {w : Walk} {g : ℕ} {n : Names} {at : ℕ} → StatementAt w g n at → (at < length w.bytes.now) × (length w.bytes.now ≤ 4096)
statement_bounds t = let k = statement_byte t.stands in (omega (arith, k.2, k.3), t.body.program.size)

-- its byte is that of a kind
pub statement_kind : {w : Walk} {g : ℕ} {n : Names} {at : ℕ} → StatementAt w g n at → (0 < byte w.bytes.now at) × (byte w.bytes.now at < 14)
statement_kind t = let k = statement_byte t.stands in (k.0, k.1)

-- a place byte below 16, where the names are those of a call
pub place_room : {w : Walk} {g : ℕ} {n : Names} {at b : ℕ} (t : StatementAt w g n at) → b < t.scope.places → n.main ≡ false → b < 16
place_room t l h = omega (arith, l, t.body.room h)
