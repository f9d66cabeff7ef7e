-- The walk over commands with the free locations as a set. Where every location that a command gives back is one of the device's, it refuses as the
-- walk over a list does, or both end with the same locations free.
use mathlib.Core.Bool.{Bool, true, false}
use mathlib.Core.List.{List, [], ◌∷◌}
use mathlib.Core.Path.{◌≡◌, refl, sym, ap, ◌∙◌}
use native.Mathlib.Decide.{ℕ_discrete}
use native.Mathlib.Omega.{arith}
use Prim.Native.Nat.{ℕ, zero, suc, ◌<◌}
use lib.ListN.{get_or, set, length, length-set}
use lib.Seq.{get_or-set_same, get_or-set_other}
use Rattle.answers.specs.declared.Refusal.{Refusal}
use Rattle.answers.specs.Check.{Check, ok, refused, ◌>>=◌, ◌>>◌}
use Rattle.answers.proofs.Laws.{bind_assoc, bind_under}
use Rattle.rules.specs.Region.{Region}
use Rattle.rules.specs.Path.{route}
use Rattle.rules.specs.Syntax.{Side, device, Place}
use Rattle.rules.specs.Commands.{Commands, ε, alloc, release, connect, either, repeat, ◌then◌, commands_at, need_route, walk}
use Rattle.rules.proofs.Tests.{eqb_same, eqb_other}
use Rattle.walking.specs.Walk.{taken, given}

abbrev pub walk_set : Region → (ℕ → Bool) → Commands device → Check (ℕ → Bool)
walk_set R F ε = ok F
walk_set R F (alloc q l c) = walk_set R (taken F l.no) c
walk_set R F (release l c) = walk_set R (given F l.no) c
walk_set R F (connect o b l e k c) = need_route (route R F l.no k.no) o >> walk_set R F c
walk_set R F (either a b c) = walk_set R F a >>= λ G. walk_set R F b >> walk_set R G c
walk_set R F (repeat a c) = walk_set R F a >> walk_set R F c

then_bind : {A B C : Type 0} (m : Check A) (n : Check B) (f : B → Check C) → ((m >> n) >>= f) ≡ (m >> (n >>= f))
unfolding ◌>>=◌ ◌>>◌
then_bind (ok a) n f = refl
then_bind (refused r) n f = refl

-- commands one after the other
pub set_then : {s : Side} (R : Region) (σ : Place s → Place device) (c d : Commands s) (F : ℕ → Bool)
    → walk_set R F (commands_at σ (c then d)) ≡ (walk_set R F (commands_at σ c) >>= λ G. walk_set R G (commands_at σ d))
unfolding ◌>>=◌
set_then R σ ε d F = refl
set_then R σ (alloc q l c) d F = set_then R σ c d (taken F (σ l).no)
set_then R σ (release l c) d F = set_then R σ c d (given F (σ l).no)
set_then R σ (connect o b l e k c) d F =
    let r : Check (List ℕ) = need_route (route R F (σ l).no (σ k).no) o in
    ap (λ w. r >> w) (set_then R σ c d F) ∙ sym (then_bind r _ _)
set_then R σ (either a b c) d F =
    bind_under
    (walk_set R F (commands_at σ a))
    (λ G. ap (λ w. walk_set R F (commands_at σ b) >> w) (set_then R σ c d G) ∙ sym (then_bind (walk_set R F (commands_at σ b)) _ _))
    ∙ sym (bind_assoc (walk_set R F (commands_at σ a)) _ _)
set_then R σ (repeat a c) d F = ap (λ w. walk_set R F (commands_at σ a) >> w) (set_then R σ c d F) ∙ sym (then_bind (walk_set R F (commands_at σ a)) _ _)

-- every location that is given back is below n
abbrev pub Gives : ℕ → Commands device → Type 0
Gives n ε = Unit {0}
Gives n (alloc q l c) = Gives n c
Gives n (release l c) = (l.no < n) × Gives n c
Gives n (connect o b l e k c) = Gives n c
Gives n (either a b c) = Gives n a × Gives n b × Gives n c
Gives n (repeat a c) = Gives n a × Gives n c

-- the same locations free, of n
pub record Alike (n : ℕ) (F : ℕ → Bool) (L : List Bool) : Type 0 where
  pub long : length L ≡ n
  pub here : F ≡ λ i. get_or L i false

pub data Agree (n : ℕ) : Check (ℕ → Bool) → Check (List Bool) → Type 0 where
  both_no : {r : Refusal} → Agree n (refused r) (refused r)
  both_ok : {F : ℕ → Bool} {L : List Bool} → Alike n F L → Agree n (ok F) (ok L)

pub agree_done : {n : ℕ} {p : Check (ℕ → Bool)} {q : Check (List Bool)} → Agree n p q → (p >> ok (tt {0})) ≡ (q >> ok tt)
unfolding ◌>>◌
agree_done both_no = refl
agree_done (both_ok a) = refl

agree_bind : {n : ℕ} {p : Check (ℕ → Bool)} {q : Check (List Bool)} (k : (ℕ → Bool) → Check (ℕ → Bool)) (h : List Bool → Check (List Bool)) → Agree n p q
    → ((F : ℕ → Bool) (L : List Bool) → Alike n F L → Agree n (k F) (h L)) → Agree n (p >>= k) (q >>= h)
unfolding ◌>>=◌
agree_bind k h both_no f = both_no
agree_bind k h (both_ok a) f = f _ _ a

agree_then : {n : ℕ} {p : Check (ℕ → Bool)} {q : Check (List Bool)} {k : Check (ℕ → Bool)} {h : Check (List Bool)} → Agree n p q → Agree n k h
    → Agree n (p >> k) (q >> h)
unfolding ◌>>◌
agree_then both_no f = both_no
agree_then (both_ok a) f = f

agree_need : {A : Type 0} {n : ℕ} (m : Check A) {k : Check (ℕ → Bool)} {h : Check (List Bool)} → Agree n k h → Agree n (m >> k) (m >> h)
unfolding ◌>>◌
agree_need (ok a) f = f
agree_need (refused r) f = both_no

cleared : (L : List Bool) (l : ℕ) → get_or (set L l false) l false ≡ false
cleared [] l = refl
cleared (b ∷ L) zero = refl
cleared (b ∷ L) (suc l) = cleared L l

alike_taken : {n : ℕ} (F : ℕ → Bool) (L : List Bool) (l : ℕ) → Alike n F L → Alike n (taken F l) (set L l false)
alike_taken F L l A = record { long = length-set L l false ∙ A.long; here = λ i y. go y (ℕ_discrete y l) i }
  where
    go : (y : ℕ) → Dec (y ≡ l) → taken F l y ≡ get_or (set L l false) y false
    go y (yes e) = rw (e, eqb_same l) (sym (cleared L l))
    go y (no d) = rw (eqb_other y l d) (λ i. A.here i y) ∙ sym (get_or-set_other L l y false false d)

alike_given : {n : ℕ} (F : ℕ → Bool) (L : List Bool) (l : ℕ) → l < n → Alike n F L → Alike n (given F l) (set L l true)
alike_given F L l r A = record { long = length-set L l true ∙ A.long; here = λ i y. go y (ℕ_discrete y l) i }
  where
    go : (y : ℕ) → Dec (y ≡ l) → given F l y ≡ get_or (set L l true) y false
    go y (yes e) = rw (e, eqb_same l) (sym (get_or-set_same L l true false (omega (arith, A.long))))
    go y (no d) = rw (eqb_other y l d) (λ i. A.here i y) ∙ sym (get_or-set_other L l y true false d)

pub sets_agree : {n : ℕ} (R : Region) (c : Commands device) (F : ℕ → Bool) (L : List Bool) → Gives n c → Alike n F L → Agree n (walk_set R F c) (walk R L c)
sets_agree R ε F L g A = both_ok A
sets_agree R (alloc q l c) F L g A = sets_agree R c _ _ g (alike_taken F L l.no A)
sets_agree R (release l c) F L g A = sets_agree R c _ _ g.1 (alike_given F L l.no g.0 A)
sets_agree R (connect o b l e k c) F L g A =
    rw A.here (agree_need (need_route (route R (λ i. get_or L i false) l.no k.no) o) (sets_agree R c _ L g (record { long = A.long; here = refl })))
sets_agree R (either a b c) F L g A = agree_bind _ _ (sets_agree R a F L g.0 A) λ G M B. agree_then (sets_agree R b F L g.1 A) (sets_agree R c G M g.2 B)
sets_agree R (repeat a c) F L g A = agree_then (sets_agree R a F L g.0 A) (sets_agree R c F L g.1 A)
