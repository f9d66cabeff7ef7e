-- A typed program's walk over its tree is the walk over its commands. A typed body gives back only places of its own, so locations of the device;
-- the functions' commands solve the equations of the callees, each function's by those before it; and what has size 0 changes nothing.
use mathlib.Core.Bool.{Bool, true, false}
use mathlib.Core.List.{List, [], ◌∷◌}
use mathlib.Core.Logic.{⊎_elim}
use mathlib.Core.Path.{◌≡◌, refl, sym, ap, subst, ◌∙◌}
use native.Mathlib.Decide.{ℕ_discrete}
use native.Mathlib.Nat.{add-zero, zero-add}
use native.Mathlib.Omega.{arith}
use Prim.Native.Nat.{ℕ, zero, suc, ◌+◌, ◌≤◌, ◌<◌}
use lib.Dec.{ltb}
use lib.ListN.{get_or, set, length}
use Rattle.std.specs.Prelude.{Option, Some, None}
use Rattle.answers.specs.Check.{Check, ok, ◌>>◌}
use Rattle.rules.specs.Region.{Region}
use Rattle.rules.specs.Syntax.{Side, device, parameter, Place, at, Op, Statement, op, if, while, call, Statements, done, ◌⨾◌, Block, block, Function}
use Rattle.rules.specs.Syntax.{function, Program}
use Rattle.rules.specs.Slots.{unbound, qubit, bool, ref, slot}
use Rattle.rules.specs.Commands.{Commands, ε, alloc, release, connect, either, repeat, ◌then◌, commands_at, size_of, walk}
use Rattle.rules.specs.Typing.{Env, Typed, Signature, Context, signature, entry, body_context, signature_of, main_context}
use Rattle.rules.specs.Figures.{OpRule, T-Init, T-MInit, T-Free, T-Gate, T-Meas1, T-Meas2, T-MkRef, T-Deref, T-Assign, T-Bool, StatementRule, T-Op, T-If}
use Rattle.rules.specs.Figures.{T-While, T-Call, StatementsRule, T-Unit, T-Seq}
use Rattle.rules.specs.Figures.{BlockRule, T-Close, MainRule, T-Main, FunctionsRule, T-NoFun, T-Fundecl}
use Rattle.theory.specs.Exact.{Derives}
use Rattle.rules.proofs.Tests.{below, is_below}
use Rattle.theory.proofs.Base.{true_in_range, get_d_set_cases, get_d_replicate_default}
use Rattle.theory.proofs.Places.{at_at, at_same, all_at, same_qubit, unbound_qubit, signature_newest, signature_older, entry_qubit}
use Rattle.theory.proofs.Linear.{block_qubit}
use Rattle.walking.specs.Walk.{Walker, entered_at, walk_block, Callees}
use Rattle.walking.proofs.Sets.{walk_set, Gives, agree_done, sets_agree}
use Rattle.walking.proofs.Follow.{Agrees, Older, Keeps, Good, older_put, older_call, block_follows, main_block_follows}

-- Γ's qubits are at places of the body
pub record Inside {s : Side} (C : Context s) (Γ : Env s) : Type 0 where
  pub inside : (x : ℕ) (l : Place s) → slot Γ.slots x ≡ qubit l → C.inside l ≡ true

inside_older : {s : Side} {C : Context s} {Γ Δ : Env s} → Older Γ Δ → Inside C Γ → Inside C Δ
inside_older O I = record { inside = λ x l h. I.inside x l (O.was x l h) }

inside_init : {s : Side} (C : Context s) (Γ : Env s) (fs : List Bool) (y : ℕ) (k : Place s) → C.inside k ≡ true → Inside C Γ
    → Inside C (record { slots = set Γ.slots y (qubit k); free = fs })
inside_init {s} C Γ fs y k i I = record {
  inside =
      λ x l h.
      ⊎_elim
      (λ c. subst (λ (p : Place s). C.inside p ≡ true) (same_qubit _ k l c.1 h) i)
      (λ c. I.inside x l (sym c ∙ h))
      (get_d_set_cases Γ.slots y x (qubit k) unbound);
}

gives_then : {s : Side} (n : ℕ) (σ : Place s → Place device) (c d : Commands s) → Gives n (commands_at σ c) → Gives n (commands_at σ d)
    → Gives n (commands_at σ (c then d))
gives_then n σ ε d g h = h
gives_then n σ (alloc q l c) d g h = gives_then n σ c d g h
gives_then n σ (release l c) d g h = (g.0, gives_then n σ c d g.1 h)
gives_then n σ (connect o b l e k c) d g h = gives_then n σ c d g h
gives_then n σ (either a b c) d g h = (g.0, g.1, gives_then n σ c d g.2 h)
gives_then n σ (repeat a c) d g h = (g.0, gives_then n σ c d g.1 h)

-- what a caller knows of its callee: it gives back only its places, wherever these are, and ends with no qubit but its arguments
pub record Tidy (n : ℕ) (gs : List Signature) : Type 0 where
  pub gives : (f : ℕ) → f < length gs → (τ : Place parameter → Place device) → ((p : Place parameter) → p.no < (signature gs f).k → (τ p).no < n)
      → Gives n (commands_at τ (signature gs f).commands)
  pub keeps : (f : ℕ) → f < length gs → Keeps (signature gs f)

-- a body whose places are among n locations
module _ {s : Side} (n : ℕ) (σ : Place s → Place device) (C : Context s) (H : Tidy n C.functions)
    (room : (l : Place s) → C.inside l ≡ true → (σ l).no < n) where
  op_gives : (Γ : Env s) (o : ℕ) (a : Op s) {Δ : Env s} {c : Commands s} → OpRule C Γ o a Δ c → Inside C Γ → Gives n (commands_at σ c) × Inside C Δ
  op_gives Γ o a (T-Init {x = x} {l = l} u i p) I = (tt, inside_init C Γ _ x l i I)
  op_gives Γ o a (T-MInit {x = x} {l = l} u i p) I = (tt, inside_init C Γ _ x l i I)
  op_gives Γ o a (T-Free {x = x} {l = l} p) I = ((room l (I.inside x l p), tt), inside_older (older_put Γ _ x unbound refl) I)
  op_gives Γ o a (T-Gate p) I = (tt, I)
  op_gives Γ o a (T-Meas1 {y = y} u p) I = (tt, inside_older (older_put Γ _ y (bool tt) refl) I)
  op_gives Γ o a (T-Meas2 {y = y} u p q d) I = (tt, inside_older (older_put Γ _ y (bool tt) refl) I)
  op_gives Γ o a (T-MkRef {r = r} u p) I = (tt, inside_older (older_put Γ _ r (ref tt) refl) I)
  op_gives Γ o a (T-Deref {y = y} u p) I = (tt, inside_older (older_put Γ _ y (bool tt) refl) I)
  op_gives Γ o a (T-Assign {r = r} u p) I = (tt, inside_older (older_put Γ _ r (ref tt) refl) I)
  op_gives Γ o a (T-Bool {y = y} u) I = (tt, inside_older (older_put Γ _ y (bool tt) refl) I)

  mutual
    statement_gives : (t : Statement s) {Γ Δ : Env s} {c : Commands s} → StatementRule C Γ t Δ c → Inside C Γ → Gives n (commands_at σ c) × Inside C Δ
    statement_gives (op o a) {Γ = Γ} (T-Op j) I = op_gives Γ o a j I
    statement_gives (if o y b b') (T-If e j k) I = ((block_gives b j I, block_gives b' k I, tt), inside_older (record { was = block_qubit C b j }) I)
    statement_gives (while o r b) (T-While e j) I = ((block_gives b j I, tt), I)
    statement_gives (call o f ls xs) {Γ = Γ} (T-Call J) I =
        let g : Signature = signature C.functions f in (
          rw (at_at σ ls g.commands)
              (H.gives f J.earlier (λ p. σ (at ls p.no)) (λ p r. room (at ls p.no) (all_at C.inside ls p.no J.inside (omega (arith, J.locations))))),
          inside_older (older_call C Γ f ls xs (H.keeps f J.earlier) J) I,
        )

    statements_give : (ts : Statements s) {Γ Δ : Env s} {c : Commands s} → StatementsRule C Γ ts Δ c → Inside C Γ → Gives n (commands_at σ c)
    statements_give done T-Unit I = tt
    statements_give (t ⨾ ts) (T-Seq {c = c} {d = d} j k) I = let r = statement_gives t j I in gives_then n σ c d r.0 (statements_give ts k r.1)

    block_gives : (b : Block s) {Γ Δ : Env s} {c : Commands s} → BlockRule C Γ b Δ c → Inside C Γ → Gives n (commands_at σ c)
    block_gives (block o ts) (T-Close j e) I = statements_give ts j I

main_gives : (n : ℕ) (σ : Place device → Place device) (C : Context device) → Tidy n C.functions → ((l : Place device) → C.inside l ≡ true → (σ l).no < n)
    → (b : Block device) {Γ Δ : Env device} {c : Commands device} → MainRule C Γ b Δ c → Inside C Γ → Gives n (commands_at σ c)
main_gives n σ C H room (block o ts) (T-Main j) I = statements_give n σ C H room ts j I

-- the signature of a function among those before it and the newest
data Which (g : Signature) (gs : List Signature) (f : ℕ) : Type 0 where
  newest : f ≡ length gs → signature (g ∷ gs) f ≡ g → Which g gs f
  older : f < length gs → signature (g ∷ gs) f ≡ signature gs f → Which g gs f

which : (g : Signature) (gs : List Signature) (f : ℕ) → f < length (g ∷ gs) → Which g gs f
which g gs f h = go (ℕ_discrete f (length gs))
  where
    go : Dec (f ≡ length gs) → Which g gs f
    go (yes e) = newest e (signature_newest g gs f e)
    go (no d) = let l : f < length gs = omega arith in older l (signature_older g gs f l)

-- a typed function's slots on entry, and its end
entry_inside : (gs : List Signature) (g : Function) → g.m ≤ g.k → Inside (body_context gs g) (entry g)
entry_inside gs g h =
    record { inside = λ x l e. let q = entry_qubit g.m x l e in is_below l.no g.k (omega (arith, ap (λ (p : Place parameter). p.no) q.0, q.1)) }

body_keeps : (gs : List Signature) (g : Function) (d : Typed parameter) → BlockRule (body_context gs g) (entry g) g.body d.env d.commands
    → Keeps (signature_of g d)
body_keeps gs g d j = record { argument = λ i p h. (entry_qubit g.m i p (block_qubit (body_context gs g) g.body j i p h)).0 }

tidy_more : (n : ℕ) (gs : List Signature) (g : Function) (d : Typed parameter) → g.m ≤ g.k → BlockRule (body_context gs g) (entry g) g.body d.env d.commands
    → Tidy n gs → Tidy n (signature_of g d ∷ gs)
tidy_more n gs g d h j T = record { gives = λ f r. gives f (which (signature_of g d) gs f r); keeps = λ f r. keeps f (which (signature_of g d) gs f r) }
  where
    gives : (f : ℕ) → Which (signature_of g d) gs f → (τ : Place parameter → Place device)
        → ((p : Place parameter) → p.no < (signature (signature_of g d ∷ gs) f).k → (τ p).no < n)
        → Gives n (commands_at τ (signature (signature_of g d ∷ gs) f).commands)
    gives f (newest e q) τ a =
        rw q (block_gives n τ (body_context gs g) T (λ p i. a p (rw q (below p.no g.k i))) g.body j (entry_inside gs g h))
    gives f (older e q) τ a = rw q (T.gives f e τ (λ p i. a p (rw q i)))

    keeps : (f : ℕ) → Which (signature_of g d) gs f → Keeps (signature (signature_of g d ∷ gs) f)
    keeps f (newest e q) = rw q (body_keeps gs g d j)
    keeps f (older e q) = rw q (T.keeps f e)

-- every function has no more arguments than places
abbrev Arities : List Function → Type 0
Arities fs = (f : ℕ) → f < length fs → (function fs f).m ≤ (function fs f).k

functions_tidy : (n : ℕ) (fs : List Function) {gs hs : List Signature} → Arities fs → FunctionsRule fs gs hs → Tidy n gs → Tidy n hs
functions_tidy n [] a T-NoFun T = T
functions_tidy n (g ∷ fs) {gs = gs} a (T-Fundecl {d = d} j w) T =
    functions_tidy n fs (λ f h. a (suc f) (omega arith)) w (tidy_more n gs g d (a 0 (omega arith)) j T)

-- the signatures found first stay
signatures_stay : (fs : List Function) {gs hs : List Signature} → FunctionsRule fs gs hs → (f : ℕ) → f < length gs
    → (signature hs f ≡ signature gs f) × (f < length hs)
signatures_stay [] T-NoFun f h = (refl, h)
signatures_stay (g ∷ fs) {gs = gs} (T-Fundecl {d = d} j w) f h =
    let r = signatures_stay fs w f (omega arith) in
    (r.0 ∙ signature_older (signature_of g d) gs f h, r.1)

-- on entry each argument is where the frame says
entry_agrees : (g : Function) (τ : Place parameter → Place device) (F : ℕ → Bool) → g.m ≤ g.k → Agrees τ (entry g) (entered_at g.k τ F).frame
entry_agrees g τ F h = record {
  sits =
      λ x l e.
      let q = entry_qubit g.m x l e in
      let t : ltb x g.k ≡ true = is_below x g.k (omega (arith, q.1)) in
      rw t (ap (λ (p : Place parameter). (τ p).no) (sym q.0));
}

good_before : (R : Region) (W : Walker) (fs : List Function) {gs hs : List Signature} → FunctionsRule fs gs hs → Good R W hs → Good R W gs
good_before R W fs w G = record {
  by_commands_lem =
      λ f h τ F. let r = signatures_stay fs w f h in G.by_commands_lem f r.1 τ F ∙ ap (λ (g : Signature). walk_set R F (commands_at τ g.commands)) r.0;
  keeps = λ f h. let r = signatures_stay fs w f h in subst (λ (g : Signature). Keeps g) r.0 (G.keeps f r.1);
}

-- each function of fs, of which gs are the signatures before, is walked by its body
functions_walked : (R : Region) (W : Walker) (fs : List Function) {gs hs : List Signature} → Arities fs → FunctionsRule fs gs hs → Good R W hs → (f : ℕ)
    → f < length fs
    → (τ : Place parameter → Place device) (F : ℕ → Bool) → W (length gs + f) τ F ≡ walk_block R W τ (function fs f).body (entered_at (function fs f).k τ F)
functions_walked R W [] a w G f h τ F = absurd (omega arith)
functions_walked R W (g ∷ fs) {gs = gs} a (T-Fundecl {d = d} j w) G zero h τ F =
    let r = signatures_stay fs w (length gs) (omega arith) in
    let s : signature (signature_of g d ∷ gs) (length gs) ≡ signature_of g d = signature_newest (signature_of g d) gs (length gs) refl in
    let G' : Good R W gs = good_before R W (g ∷ fs) (T-Fundecl {d = d} j w) G in
    ap (λ (i : ℕ). W i τ F) (add-zero (length gs)) ∙ G.by_commands_lem (length gs) r.1 τ F
    ∙ ap (λ (e : Signature). walk_set R F (commands_at τ e.commands)) (r.0 ∙ s)
    ∙ sym (block_follows R W τ (body_context gs g) G' g.body j (entered_at g.k τ F) (entry_agrees g τ F (a 0 (omega arith))))
functions_walked R W (g ∷ fs) {gs = gs} a (T-Fundecl {d = d} j w) G (suc f) h τ F =
    let i : length gs + suc f ≡ length (signature_of g d ∷ gs) + f = omega arith in
    ap (λ (n : ℕ). W n τ F) i ∙ functions_walked R W fs (λ i r. a (suc i) (omega arith)) w G f (omega arith) τ F

-- no commands
no_commands : {s : Side} (c : Commands s) → size_of c ≡ 0 → c ≡ ε
no_commands ε h = refl
no_commands (alloc q l c) h = absurd (omega arith)
no_commands (release l c) h = absurd (omega arith)
no_commands (connect o b l e k c) h = absurd (omega arith)
no_commands (either a b c) h = absurd (omega arith)
no_commands (repeat a c) h = absurd (omega arith)

-- the functions walked by their commands
abbrev pub by_commands : Region → List Signature → Walker
by_commands R gs f τ F = walk_set R F (commands_at τ (signature gs f).commands)

no_signatures : {n : ℕ} → Tidy n []
no_signatures = record { gives = λ f h. absurd (omega arith); keeps = λ f h. absurd (omega arith) }

module _ (R : Region) (p : Program) (d : Typed device) (e : Derives R.owned p d) (a : Arities p.functions) where
  tidy : Tidy (length R.owned) e.signatures
  tidy = functions_tidy (length R.owned) p.functions a e.functions no_signatures

  good : Good R (by_commands R e.signatures) e.signatures
  good = record { by_commands_lem = λ f h τ F. refl; keeps = tidy.keeps }

  pub callees : (counts : List (Option ℕ))
      → ((f : ℕ) → f < length p.functions → get_or counts f None ≡ Some 0 → size_of (signature e.signatures f).commands ≡ 0)
      → Callees R p.functions counts (length p.functions) (by_commands R e.signatures)
  callees counts z = record {
    walks =
        λ f h τ F. ap (λ (i : ℕ). by_commands R e.signatures i τ F) (sym (zero-add f))
        ∙ functions_walked R (by_commands R e.signatures) p.functions a e.functions good f h τ F;
    skips = λ f h c τ F. ap (λ (b : Commands parameter). walk_set R F (commands_at τ b)) (no_commands (signature e.signatures f).commands (z f h c));
  }

  -- the walk over main's tree, all region locations free, against the walk over its commands
  pub main_follows : (f : ℕ → ℕ) (F : ℕ → Bool) → F ≡ (λ i. get_or R.owned i false)
      → (walk_block R (by_commands R e.signatures) (λ l. l) p.main (record { frame = f; free = F }) >> ok (tt {0})) ≡ (walk R R.owned d.commands >> ok tt)
  main_follows f F h =
      ap (λ (m : Check (ℕ → Bool)). m >> ok (tt {0}))
      (main_block_follows R (by_commands R e.signatures) (λ l. l) (main_context R.owned e.signatures) good p.main e.main (record { frame = f; free = F })
      (record { sits = λ x l q. unbound_qubit _ l (get_d_replicate_default 32 x unbound) q }))
      ∙ ap (λ (c : Commands device). walk_set R F c >> ok (tt {0})) (at_same d.commands)
      ∙ agree_done (sets_agree R d.commands F R.owned gives (record { long = refl; here = h }))
    where
      gives : Gives (length R.owned) d.commands
      gives = subst (λ (c : Commands device). Gives (length R.owned) c) (at_same d.commands)
          (main_gives (length R.owned) (λ l. l) (main_context R.owned e.signatures) tidy (λ l i. true_in_range R.owned l.no i) p.main e.main
          (record { inside = λ x l q. unbound_qubit _ l (get_d_replicate_default 32 x unbound) q }))
