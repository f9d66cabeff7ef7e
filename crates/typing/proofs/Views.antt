-- A statement by its byte. `View` says what the byte is by an equation; here the byte picks what is known, so that the arm of a match on it, or
-- a function for one kind, has its statement, its operands' bounds and where it ends.
use mathlib.Core.List.{List, [], ◌∷◌}
use mathlib.Core.Logic.{◌⊎◌, inl, inr}
use mathlib.Core.Path.{◌≡◌, refl, sym, ap, subst, ◌∙◌}
use Prim.Native.Nat.{ℕ, ◌+◌, ◌≤◌, ◌<◌}
use lib.Dec.{eqb}
use lib.ListN.{get_or, length}
use Rattle.rules.specs.declared.statements.Kind.{Kind}
use Rattle.rules.specs.declared.statements.Kind.TheVariants.{Init, Magic}
use Rattle.rules.specs.Basics.{up_to, byte}
use Rattle.rules.specs.Syntax.{Side, Preparation, plain, magic, init, free, gate, measure, merge, new_ref}
use Rattle.rules.specs.Syntax.{get_ref, set_ref, constant, Statement, op, if, while, call, Block, function}
use Rattle.rules.specs.Kinds.{byte_of}
use Rattle.rules.specs.Program.{Scope}
use Rattle.rules.specs.Table.{size_of}
use Rattle.program.specs.In.{BlockIn, View, is_init, is_magic, is_free, is_gate, is_measure}
use Rattle.program.specs.In.{is_merge, is_new, is_get, is_set, is_if, is_while, is_call, is_bool}

module _ {d : Side} (s : List ℕ) (S : Scope) (depths at : ℕ) (t : Statement d) (p : ℕ) where
  abbrev b : ℕ → ℕ
  b n = byte s (at + n)

  abbrev pub AInit : Type 0
  AInit = (q : Preparation) × (at + 3 ≤ length s) × (b 1 < 32) × (t ≡ op at (init q (b 1) (record { no = b 2 }))) × (p ≡ at + 3)

  abbrev pub AFree : Type 0
  AFree = (at + 2 ≤ length s) × (b 1 < 32) × (t ≡ op at (free (b 1))) × (p ≡ at + 2)

  abbrev pub AGate : Type 0
  AGate = (at + 3 ≤ length s) × (b 2 < 32) × (t ≡ op at (gate (b 1) (b 2))) × (p ≡ at + 3)

  abbrev pub AMeasure : Type 0
  AMeasure = (at + 4 ≤ length s) × (b 1 < 32) × (b 3 < 32) × (t ≡ op at (measure (b 1) (b 2) (b 3))) × (p ≡ at + 4)

  abbrev pub AMerge : Type 0
  AMerge = (at + 6 ≤ length s) × (b 1 < 32) × (b 3 < 32) × (b 5 < 32) × (t ≡ op at (merge (b 1) (b 2) (b 3) (b 4) (b 5))) × (p ≡ at + 6)

  abbrev pub ANew : Type 0
  ANew = (at + 3 ≤ length s) × (b 1 < 32) × (b 2 < 32) × (t ≡ op at (new_ref (b 1) (b 2))) × (p ≡ at + 3)

  abbrev pub AGet : Type 0
  AGet = (at + 3 ≤ length s) × (b 1 < 32) × (b 2 < 32) × (t ≡ op at (get_ref (b 1) (b 2))) × (p ≡ at + 3)

  abbrev pub ASet : Type 0
  ASet = (at + 3 ≤ length s) × (b 1 < 32) × (b 2 < 32) × (t ≡ op at (set_ref (b 1) (b 2))) × (p ≡ at + 3)

  abbrev pub AIf : Type 0
  AIf = (x y : Block d) × (q : ℕ) × (at + 2 ≤ length s) × (b 1 < 32) × BlockIn s S depths (at + 2) x q × BlockIn s S depths q y p × (t ≡ if at (b 1) x y)

  abbrev pub AWhile : Type 0
  AWhile = (x : Block d) × (at + 2 ≤ length s) × (b 1 < 32) × BlockIn s S depths (at + 2) x p × (t ≡ while at (b 1) x)

  -- the lists of a call are bounded byte by byte, and k and m are the callee's
  pub record ACall : Type 0 where
    pub fits : at + 4 + b 2 + b 3 ≤ length s
    pub callee : b 1 < length S.earlier
    pub k : b 2 ≡ (function S.earlier (b 1)).k
    pub m : b 3 ≡ (function S.earlier (b 1)).m
    pub slots : (i : ℕ) → i < b 3 → byte s (at + 4 + b 2 + i) < 32
    pub is : t ≡ call at (b 1) (up_to (at + 4) (b 2) λ i. record { no = byte s i }) (up_to (at + 4 + b 2) (b 3) λ i. byte s i)
    pub next : p ≡ at + 4 + b 2 + b 3

  abbrev pub ABool : Type 0
  ABool = (at + 3 ≤ length s) × (b 1 < 32) × (t ≡ op at (constant (b 1) (eqb (b 2) 1))) × (p ≡ at + 3)

  -- by byte, 0 first
  abbrev pub Shape : ℕ → Type 0
  Shape n = get_or (⊥ ∷ AInit ∷ AInit ∷ AFree ∷ AGate ∷ AMeasure ∷ AMerge ∷ ANew ∷ AGet ∷ ASet ∷ AIf ∷ AWhile ∷ ACall ∷ ABool ∷ []) n ⊥

-- every statement has the shape of its byte
module _ {d : Side} (s : List ℕ) (S : Scope) (depths at : ℕ) where
  here : (t : Statement d) (p n : ℕ) → byte s at ≡ n → Shape s S depths at t p n → Shape s S depths at t p (byte s at)
  here t p n e h = subst (λ (i : ℕ). Shape s S depths at t p i) (sym e) h

  shape_of : {t : Statement d} {p : ℕ} → View s S depths at t p → Shape s S depths at t p (byte s at)
  shape_of (is_init e l x k) = here _ _ 1 e (plain, l, x, refl, refl)
  shape_of (is_magic e l x k) = here _ _ 2 e (magic, l, x, refl, refl)
  shape_of (is_free e l x) = here _ _ 3 e (l, x, refl, refl)
  shape_of (is_gate e l g x) = here _ _ 4 e (l, x, refl, refl)
  shape_of (is_measure e l y c x) = here _ _ 5 e (l, y, x, refl, refl)
  shape_of (is_merge e l y c x f z) = here _ _ 6 e (l, y, x, z, refl, refl)
  shape_of (is_new e l r y) = here _ _ 7 e (l, r, y, refl, refl)
  shape_of (is_get e l y r) = here _ _ 8 e (l, y, r, refl, refl)
  shape_of (is_set e l r y) = here _ _ 9 e (l, r, y, refl, refl)
  shape_of (is_if e l y a c) = here _ _ 10 e (_, _, _, l, y, a, c, refl)
  shape_of (is_while e l r a) = here _ _ 11 e (_, l, r, a, refl)
  shape_of (is_call e l f k m ls xs) = here _ _ 12 e (record { fits = l; callee = f; k = k; m = m; slots = xs; is = refl; next = refl })
  shape_of (is_bool e l y v) = here _ _ 13 e (l, y, refl, refl)

pub shape_at : {d : Side} {s : List ℕ} {S : Scope} {depths at : ℕ} {t : Statement d} {p : ℕ} (n : ℕ) → View s S depths at t p → byte s at ≡ n
    → Shape s S depths at t p n
shape_at {s = s} {S} {depths} {at} {t} {p} n v e = subst (λ (i : ℕ). Shape s S depths at t p i) e (shape_of s S depths at v)

-- the shape of a kind, by what a match on it says
pub of_kind : {d : Side} {s : List ℕ} {S : Scope} {depths at : ℕ} {t : Statement d} {p : ℕ} {kind : Kind} (k : Kind) → View s S depths at t p
    → byte_of kind ≡ byte s at → kind ≡ k → Shape s S depths at t p (byte_of k)
of_kind k v e q = shape_at (byte_of k) v (sym e ∙ ap byte_of q)

-- the two kinds of init
pub made : {d : Side} {s : List ℕ} {S : Scope} {depths at : ℕ} {t : Statement d} {p : ℕ} {kind : Kind} → View s S depths at t p → byte_of kind ≡ byte s at
    → (kind ≡ Init) ⊎ (kind ≡ Magic) → AInit s S depths at t p
made v e (inl q) = of_kind Init v e q
made v e (inr q) = of_kind Magic v e q

-- where a statement of a kind ends that is its fixed part
pub sized : {kind : Kind} (k : Kind) (at : ℕ) {n : ℕ} → n ≡ size_of (byte_of kind) → kind ≡ k → at + size_of (byte_of k) ≡ at + n
sized k at e q = ap (λ (i : ℕ). at + i) (sym (e ∙ ap (λ (x : Kind). size_of (byte_of x)) q))

pub made_sized : {kind : Kind} (at : ℕ) {n : ℕ} → n ≡ size_of (byte_of kind) → (kind ≡ Init) ⊎ (kind ≡ Magic) → at + 3 ≡ at + n
made_sized at e (inl q) = sized Init at e q
made_sized at e (inr q) = sized Magic at e q
