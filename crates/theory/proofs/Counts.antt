-- The three claims on counts. A job's moved steps are counted record by record, and the records of other jobs count nothing. The size of a typed block
-- is the sum over its statements, by induction on the tree: commands after commands add their sizes, places do not change a size, and each operation
-- has its own. A function's callees come before it in the file, and the functions after it do not change what a number below its own stands for: so
-- its body has one size by the functions before it and by all of them.
use mathlib.Core.Bool.{Bool, true, false, ◌&&◌}
use mathlib.Core.List.{List, [], ◌∷◌, ◌++◌}
use mathlib.Core.Path.{◌≡◌, refl, sym, ap, ap₂, ◌∙◌}
use native.Mathlib.Nat.{add-zero, add-suc, suc-add, zero-add}
use native.Mathlib.Omega.{arith}
use Prim.Native.Nat.{ℕ, zero, suc, ◌+◌, ◌<◌}
use lib.Dec.{eqb}
use lib.ListN.{length, length-append}
use Rattle.rules.specs.Basics.{chosen}
use Rattle.rules.specs.Syntax.{Side, Place, Op, Statement, op, if, while, call, Statements, done, ◌⨾◌, Block, block, Function, function}
use Rattle.rules.specs.Commands.{Commands, ε, alloc, release, connect, either, repeat, ◌then◌, commands_at, size_of}
use Rattle.rules.specs.Typing.{Env, Signature, Context, signature, body_context, signature_of}
use Rattle.rules.specs.Figures.{OpRule, T-Init, T-MInit, T-Free, T-Gate, T-Meas1, T-Meas2, T-MkRef, T-Deref, T-Assign, T-Bool}
use Rattle.rules.specs.Figures.{StatementRule, T-Op, T-If, T-While, T-Call, StatementsRule, T-Unit, T-Seq}
use Rattle.rules.specs.Figures.{BlockRule, T-Close, T-Main, FunctionsRule, T-NoFun, T-Fundecl}
use Rattle.rules.specs.Program.{Scope}
use Rattle.rules.specs.Run.{record_bytes, moved_by}
use Rattle.theory.specs.WellRead.{StatementRead, op_read, if_read, while_read, call_read, StatementsRead, done_read, next_read}
use Rattle.theory.specs.WellRead.{BlockRead, block_read, FunctionsRead, none_read, function_read}
use Rattle.theory.specs.Interleaving.{records_of}
use Rattle.theory.specs.Counts.{begin_with_zero, MovedCount, op_size, statement_size, statements_size, block_size, BlockSize, MainSize, CalleeSize, callees}
use Rattle.theory.proofs.Places.{signature_newest, signature_older}

pub moved_count : MovedCount
moved_count j [] = refl
moved_count j (r ∷ rs) = go (eqb r.job j) (moved_count j rs)
  where
    go : (t : Bool) → moved_by j rs ≡ begin_with_zero (record_bytes (records_of j rs))
        → chosen (t && eqb r.told.code 0) 1 0 + moved_by j rs ≡ begin_with_zero (record_bytes (chosen t (r ∷ records_of j rs) (records_of j rs)))
    go true h = ap (λ (n : ℕ). chosen (eqb r.told.code 0) 1 0 + n) h
    go false h = zero-add (moved_by j rs) ∙ h

-- commands after commands add their sizes
size_then : {s : Side} (c d : Commands s) → size_of (c then d) ≡ size_of c + size_of d
size_then ε d = sym (zero-add (size_of d))
size_then (alloc q l c) d = let h = size_then c d in omega (arith, h)
size_then (release l c) d = let h = size_then c d in omega (arith, h)
size_then (connect o b l e k c) d = let h = size_then c d in omega (arith, h)
size_then (either a b c) d = let h = size_then c d in omega (arith, h)
size_then (repeat a c) d = let h = size_then c d in omega (arith, h)

-- places do not change a size
size_at : {s t : Side} (σ : Place s → Place t) (c : Commands s) → size_of (commands_at σ c) ≡ size_of c
size_at σ ε = refl
size_at σ (alloc q l c) = ap (λ (n : ℕ). 1 + n) (size_at σ c)
size_at σ (release l c) = ap (λ (n : ℕ). 1 + n) (size_at σ c)
size_at σ (connect o b l e k c) = ap (λ (n : ℕ). 1 + n) (size_at σ c)
size_at σ (either a b c) = ap₂ ◌+◌ (ap₂ (λ (m n : ℕ). 1 + m + n) (size_at σ a) (size_at σ b)) (size_at σ c)
size_at σ (repeat a c) = ap₂ (λ (m n : ℕ). 1 + m + n) (size_at σ a) (size_at σ c)

op_size_lem : {s : Side} {C : Context s} {Γ Δ : Env s} {o : ℕ} {a : Op s} {c : Commands s} → OpRule C Γ o a Δ c → size_of c ≡ op_size a
op_size_lem (T-Init e f g) = refl
op_size_lem (T-MInit e f g) = refl
op_size_lem (T-Free e) = refl
op_size_lem (T-Gate e) = refl
op_size_lem (T-Meas1 e f) = refl
op_size_lem (T-Meas2 e f g n) = refl
op_size_lem (T-MkRef e f) = refl
op_size_lem (T-Deref e f) = refl
op_size_lem (T-Assign e f) = refl
op_size_lem (T-Bool e) = refl

mutual
  statement_sum : {s : Side} (C : Context s) (t : Statement s) {Γ Δ : Env s} {c : Commands s} → StatementRule C Γ t Δ c
      → size_of c ≡ statement_size (callees C.functions) t
  statement_sum C (op o a) (T-Op r) = op_size_lem r
  statement_sum C (if o y b b') (T-If e r r') = let h = block_sum C b r in let k = block_sum C b' r' in omega (arith, h, k)
  statement_sum C (while o x b) (T-While e r) = let h = block_sum C b r in omega (arith, h)
  statement_sum C (call o f ls xs) (T-Call k) = size_at _ (signature C.functions f).commands

  statements_sum : {s : Side} (C : Context s) (ts : Statements s) {Γ Δ : Env s} {c : Commands s} → StatementsRule C Γ ts Δ c
      → size_of c ≡ statements_size (callees C.functions) ts
  statements_sum C done T-Unit = refl
  statements_sum C (t ⨾ ts) (T-Seq {c = c} {d = d} r rs) = size_then c d ∙ ap₂ ◌+◌ (statement_sum C t r) (statements_sum C ts rs)

  block_sum : {s : Side} (C : Context s) (b : Block s) {Γ Δ : Env s} {c : Commands s} → BlockRule C Γ b Δ c
      → size_of c ≡ block_size (callees C.functions) b
  block_sum C (block o ts) (T-Close r e) = statements_sum C ts r

pub block_size_lem : BlockSize
block_size_lem s C Γ Δ b c r = block_sum C b r

pub main_size : MainSize
main_size C Γ Δ (block o ts) c (T-Main r) = statements_sum C ts r

-- two lists of signatures that say the same of every function in scope give a read block one size
abbrev SameBelow : ℕ → List Signature → List Signature → Type 0
SameBelow n gs hs = (f : ℕ) → f < n → signature gs f ≡ signature hs f

mutual
  statement_same : {s : Side} (S : Scope) (gs hs : List Signature) → SameBelow (length S.earlier) gs hs → (t : Statement s) {d o p : ℕ}
      → StatementRead S d o p t → statement_size (callees gs) t ≡ statement_size (callees hs) t
  statement_same S gs hs e (op o a) (op_read r l) = refl
  statement_same S gs hs e (if o y b c) (if_read l r r') = ap₂ (λ (m n : ℕ). 1 + m + n) (block_same S gs hs e b r) (block_same S gs hs e c r')
  statement_same S gs hs e (while o x b) (while_read l r) = ap (λ (n : ℕ). 1 + n) (block_same S gs hs e b r)
  statement_same S gs hs e (call o f ls xs) (call_read r) = ap (λ (g : Signature). size_of g.commands) (e f r.earlier)

  statements_same : {s : Side} (S : Scope) (gs hs : List Signature) → SameBelow (length S.earlier) gs hs → (ts : Statements s) {d o p : ℕ}
      → StatementsRead S d o p ts → statements_size (callees gs) ts ≡ statements_size (callees hs) ts
  statements_same S gs hs e done done_read = refl
  statements_same S gs hs e (t ⨾ ts) (next_read r rs) = ap₂ ◌+◌ (statement_same S gs hs e t r) (statements_same S gs hs e ts rs)

  block_same : {s : Side} (S : Scope) (gs hs : List Signature) → SameBelow (length S.earlier) gs hs → (b : Block s) {d o p : ℕ} → BlockRead S d o p b
      → block_size (callees gs) b ≡ block_size (callees hs) b
  block_same S gs hs e (block o ts) (block_read r) = statements_same S gs hs e ts r

-- functions typed later change no earlier one
signature_kept : (fs : List Function) {gs hs : List Signature} → FunctionsRule fs gs hs → SameBelow (length gs) gs hs
signature_kept [] T-NoFun f h = refl
signature_kept (g ∷ fs) (T-Fundecl {gs = gs} {d = d} r rs) f h = sym (signature_older (signature_of g d) gs f h) ∙ signature_kept fs rs f (omega (arith, h))

-- with as many signatures as functions before them, function f of those that follow has number `length gs + f`
callee_from : (fs es : List Function) {o q : ℕ} {gs hs : List Signature} → length es ≡ length gs → FunctionsRead es o fs q → FunctionsRule fs gs hs
    → (f : ℕ) → f < length fs → size_of (signature hs (length gs + f)).commands ≡ block_size (callees hs) (function fs f).body
callee_from [] es e none_read T-NoFun f h = absurd (omega (arith, h))
callee_from (g ∷ fs) es e (function_read k m n b r) (T-Fundecl {gs = gs} {hs = hs} {d = d} t ts) zero h =
    ap (λ (i : ℕ). size_of (signature hs i).commands) (add-zero (length gs)) ∙ ap (λ (c : Signature). size_of c.commands) own
    ∙ block_sum (body_context gs g) g.body t ∙ block_same _ gs hs kept g.body b
  where
    own : signature hs (length gs) ≡ signature_of g d
    own = sym (signature_kept fs ts (length gs) (omega arith)) ∙ signature_newest (signature_of g d) gs (length gs) refl

    kept : SameBelow (length es) gs hs
    kept f l = signature_kept (g ∷ fs) (T-Fundecl t ts) f (omega (arith, e, l))
callee_from (g ∷ fs) es e (function_read k m n b r) (T-Fundecl {gs = gs} {hs = hs} {d = d} t ts) (suc f) h =
    ap (λ (i : ℕ). size_of (signature hs i).commands) (add-suc (length gs) f ∙ sym (suc-add (length gs) f))
    ∙ callee_from fs (es ++ (g ∷ [])) (omega (arith, length-append es (g ∷ []), e)) r ts f (omega (arith, h))

pub callee_size : CalleeSize
callee_size fs o q gs f r t h = ap (λ (i : ℕ). size_of (signature gs i).commands) (sym (zero-add f)) ∙ callee_from fs [] refl r t f h
