-- Laws of the functions: the header and body of one, one law for each way that the code returns, by the definition's checks in their order; the
-- table that goes along with the list of functions read, column by column; and the functions left, which go along with the code's loop.
use mathlib.Core.Bool.{◌&&◌}
use mathlib.Core.List.{List, [], ◌∷◌, ◌++◌}
use mathlib.Core.Logic.{◌≢◌}
use mathlib.Core.Path.{◌≡◌, refl, sym, ap, ◌∙◌}
use native.Mathlib.Decide.{ℕ_discrete}
use native.Mathlib.Nat.{sub-zero}
use native.Mathlib.Omega.{arith}
use Prim.Native.Nat.{ℕ, zero, suc, ◌+◌, ◌-◌, ◌<◌, ◌≤◌}
use borrow.Author.Tests.{lt-leb, le-leb}
use lib.Dec.{leb}
use lib.ListN.{get_or, length, replicate, set, length-set, length-append}
use lib.Seq.{get_or-set_same, get_or-set_other, get_or_at}
use Rattle.std.specs.Prelude.{Ok, Err}
use Rattle.answers.specs.declared.Refusal.{Refusal}
use Rattle.answers.specs.Check.{Check, ok, refused, refusal, ◌>>=◌, ◌>>◌, need}
use Rattle.answers.proofs.Laws.{Holds, not_ok, by, holds_then, holds_bind, holds_need, holds_any, holds_at}
use Rattle.rules.specs.declared.program.FunctionHeader.{FunctionHeader}
use Rattle.rules.specs.Basics.{byte, word}
use Rattle.rules.specs.Syntax.{Side, parameter, Function, function}
use Rattle.rules.specs.Program.{Scope, Read, function_header, read_block, statements, functions_at}
use Rattle.program.specs.declared.functions.Head.{Head}
use Rattle.program.specs.declared.functions.FunctionTable.{FunctionTable}
use Rattle.program.specs.In.{offset_of}
use Rattle.program.specs.Reader.{next_of, block_past, Heads, no_head, no_functions, one_more, function_at, FunctionsAs}
use Rattle.program.proofs.PastLaws.{next_ok, next_refused, next_map}

-- The function at i.
module _ (s : List ℕ) (i : ℕ) (fs : List Function) where
  pub fn_short : length s < i + 2 → next_of (function_at s i fs) ≡ refused (refusal 8 i)
  unfolding function_at next_of ◌>>=◌ ◌>>◌
  fn_short h = rw (lt-leb (i + 2) (length s) h)

  module _ (h : i + 2 ≤ length s) where
    pub fn_head : (x : Refusal) → function_header i (byte s i) (byte s (i + 1)) ≡ refused x → next_of (function_at s i fs) ≡ refused x
    unfolding function_at next_of ◌>>=◌ ◌>>◌
    fn_head x e = rw (le-leb (i + 2) (length s) h, e)

    pub fn_body : (a : FunctionHeader) → function_header i (byte s i) (byte s (i + 1)) ≡ ok a
        → next_of (function_at s i fs) ≡ block_past s parameter (record { places = a.locations; earlier = fs }) 8 (i + 2) (length s)
    unfolding function_at block_past ◌>>=◌ ◌>>◌
    fn_body a e =
        let body = read_block s parameter (record { places = a.locations; earlier = fs }) 8 (i + 2) (length s) in
        rw (le-leb (i + 2) (length s) h, e) (next_map body _)

-- a block says where its length word stands
pub block_offset : (s : List ℕ) (d : Side) (S : Scope) (depths i limit : ℕ) → Holds (λ b. offset_of b.it ≡ i) (read_block s d S depths i limit)
block_offset s d S zero i limit = holds_then (holds_need (leb (i + 2) limit) 8 i) λ u a. not_ok
block_offset s d S (suc depths) i limit =
    holds_then (holds_need (leb (i + 2) limit) 8 i) λ u a.
    holds_then (holds_need (leb (i + 2 + word s i) limit) 8 i) λ u b.
    holds_bind (holds_any (statements s d S (read_block s d S depths) (word s i) (i + 2) (i + 2 + word s i))) λ b e.
    by refl

-- what a function that is read says of its bytes
pub record Headed (s : List ℕ) (i : ℕ) (f : Read Function) : Type 0 where
  pub ks : f.it.k ≡ byte s i
  pub ms : f.it.m ≡ byte s (i + 1)
  pub bodies : offset_of f.it.body ≡ i + 2

fn_headed : (s : List ℕ) (i : ℕ) (fs : List Function) → Holds (Headed s i) (function_at s i fs)
unfolding function_at
fn_headed s i fs =
    holds_then (holds_need (leb (i + 2) (length s)) 8 i) λ u a.
    holds_bind header λ h e.
    holds_bind (block_offset s parameter (record { places = h.locations; earlier = fs }) 8 (i + 2) (length s)) λ b eb.
    by (record { ks = e.0; ms = e.1; bodies = eb })
  where
    header : Holds (λ h. (h.locations ≡ byte s i) × (h.arguments ≡ byte s (i + 1))) (function_header i (byte s i) (byte s (i + 1)))
    header =
        holds_then (holds_need (leb (byte s i) 16) 4 i) λ u a.
        holds_then (holds_need (leb (byte s (i + 1)) 8 && leb (byte s (i + 1)) (byte s i)) 4 (i + 1)) λ u b.
        by (refl, refl)

-- The table.

-- it has a head for every function that a program may have
pub record Full (t : FunctionTable) : Type 0 where
  pub heads : length t.heads ≡ 16

zeros : (n g : ℕ) → get_or (replicate n no_head) g no_head ≡ no_head
zeros zero g = refl
zeros (suc n) zero = refl
zeros (suc n) (suc g) = zeros n g

pub heads_none : (t : FunctionTable) → t ≡ no_functions → Heads [] t
heads_none t e = rw e (record {
  count = refl;
  few = omega arith;
  ks = λ g. ap (λ (h : Head). h.locations) (zeros 16 g);
  ms = λ g. ap (λ (h : Head). h.arguments) (zeros 16 g);
  bodies = λ g h. absurd (omega arith);
})

pub full_none : (t : FunctionTable) → t ≡ no_functions → Full t
full_none t e = rw e (record { heads = refl })

-- one function more changes no other
other : (fs : List Function) (f : Function) (g : ℕ) → g ≢ length fs → function (fs ++ (f ∷ [])) g ≡ function fs g
other [] f zero n = absurd (n refl)
other [] f (suc g) n = refl
other (x ∷ xs) f zero n = refl
other (x ∷ xs) f (suc g) n = other xs f g (λ e. n (ap suc e))

-- what a head says of each function, with one function more
column : (F : Function → ℕ) (H : Head → ℕ) (hs : List Head) (n : ℕ) (head : Head) (fs : List Function) (f : Function) → n ≡ length fs
    → n < length hs → F f ≡ H head → (g : ℕ) → (g ≢ n → H (get_or hs g no_head) ≡ F (function fs g))
    → H (get_or (set hs n head) g no_head) ≡ F (function (fs ++ (f ∷ [])) g)
column F H hs n head fs f en l ev g old = go (ℕ_discrete g n)
  where
    go : Dec (g ≡ n) → H (get_or (set hs n head) g no_head) ≡ F (function (fs ++ (f ∷ [])) g)
    go (yes e) = rw e (ap H (get_or-set_same hs n head no_head l) ∙ sym ev ∙ ap F (sym (get_or_at fs f [] _ n (sym en))))
    go (no ne) = ap H (get_or-set_other hs n g head no_head ne) ∙ old ne ∙ ap F (sym (other fs f g (λ e. ne (e ∙ sym en))))

module _ (fs : List Function) (t : FunctionTable) (h : Heads fs t) (a : Full t) (u : FunctionTable) (head : Head)
    (eu : u ≡ one_more t head) (l : length fs < 15) where
  more_heads : (f : Function) → f.k ≡ head.locations → f.m ≡ head.arguments → offset_of f.body ≡ head.body
      → Heads (fs ++ (f ∷ [])) (one_more t head)
  more_heads f ek em eb =
      let n : length (fs ++ (f ∷ [])) ≡ length fs + 1 = length-append fs (f ∷ []) in
      let c : t.count ≡ length fs = h.count in
      let b : t.count < length t.heads = omega (arith, a.heads) in
      record {
        count = omega arith;
        few = omega arith;
        ks = λ g. column (λ x. x.k) (λ x. x.locations) t.heads t.count head fs f c b ek g (λ ne. h.ks g);
        ms = λ g. column (λ x. x.m) (λ x. x.arguments) t.heads t.count head fs f c b em g (λ ne. h.ms g);
        bodies = λ g k. column (λ x. offset_of x.body) (λ x. x.body) t.heads t.count head fs f c b eb g (λ ne. h.bodies g (omega arith));
      }

  pub heads_more : (f : Function) → f.k ≡ head.locations → f.m ≡ head.arguments → offset_of f.body ≡ head.body → Heads (fs ++ (f ∷ [])) u
  heads_more f ek em eb = rw eu (more_heads f ek em eb)

  pub full_more : Full u
  full_more = rw eu (record { heads = length-set t.heads t.count head ∙ a.heads })

-- The functions left.

regroup : {A B C D : Type 0} (m : Check (Unit {0})) (h : Check A) (r : A → Check B) (f : A → B → C) (g : C → Check D)
    → (m >> (h >>= λ a. r a >>= λ b. g (f a b))) ≡ ((m >> (h >>= λ a. r a >>= λ b. ok (f a b))) >>= g)
unfolding ◌>>=◌ ◌>>◌
regroup {B = B} (ok u) (ok a) r f g = go (r a)
  where
    go : (c : Check B) → (c >>= λ b. g (f a b)) ≡ ((c >>= λ b. ok (f a b)) >>= g)
    go (ok b) = refl
    go (refused x) = refl
regroup (ok u) (refused x) r f g = refl
regroup (refused x) h r f g = refl

first_of : (s : List ℕ) (n i : ℕ) (fs : List Function)
    → functions_at s (suc n) i fs ≡ (function_at s i fs >>= λ f. functions_at s n f.next (fs ++ (f.it ∷ [])))
unfolding function_at
first_of s n i fs =
    regroup (need (leb (i + 2) (length s)) 8 i) (function_header i (byte s i) (byte s (i + 1)))
    (λ h. read_block s parameter (record { places = h.locations; earlier = fs }) 8 (i + 2) (length s))
    (λ h b. record { it = record { k = h.locations; m = h.arguments; body = b.it }; next = b.next })
    (λ f. functions_at s n f.next (fs ++ (f.it ∷ [])))

-- what a loop over the functions keeps: so many are read, with these heads, and the functions left from the position on give what is asked
pub record FunctionsLeft (s : List ℕ) (m : Check (Read (List Function))) (n p i : ℕ) (t : FunctionTable) : Type 0 where
  pub read : List Function
  pub heads : Heads read t
  pub full : Full t
  pub many : length read ≡ i
  pub same : m ≡ functions_at s (n - i) p read

pub left_start : (s : List ℕ) (n p : ℕ) (t : FunctionTable) → t ≡ no_functions → FunctionsLeft s (functions_at s n p []) n p 0 t
left_start s n p t e = record {
  read = [];
  heads = heads_none t e;
  full = full_none t e;
  many = refl;
  same = ap (λ (c : ℕ). functions_at s c p []) (sym (sub-zero n));
}

module _ (s : List ℕ) (m : Check (Read (List Function))) (n p i : ℕ) (t : FunctionTable) (h : FunctionsLeft s m n p i t) where
  pub left_end : n ≤ i → FunctionsAs m (Ok (record { table = t; next = p }))
  unfolding next_of ◌>>=◌
  left_end l = record { answers = sym (ap next_of given); tables = λ fs e. heads_of fs (sym e ∙ given) }
    where
      given : m ≡ ok (record { it = h.read; next = p })
      given = let z : n - i ≡ 0 = omega arith in h.same ∙ rw z

      heads_of : (fs : Read (List Function)) → ok fs ≡ ok (record { it = h.read; next = p }) → Heads fs.it t
      heads_of fs e = let w : fs ≡ record { it = h.read; next = p } = cc in rw w h.heads

  by_first : i < n → m ≡ (function_at s p h.read >>= λ f. functions_at s (n - (i + 1)) f.next (h.read ++ (f.it ∷ [])))
  by_first l =
      let z : n - i ≡ suc (n - (i + 1)) = omega arith in
      h.same ∙ ap (λ (c : ℕ). functions_at s c p h.read) z ∙ first_of s (n - (i + 1)) p h.read

  pub left_refused : i < n → (x : Refusal) → next_of (function_at s p h.read) ≡ refused x → FunctionsAs m (Err x)
  unfolding next_of ◌>>=◌
  left_refused l x e = record { answers = sym (ap next_of given); tables = λ fs f. tt }
    where
      given : m ≡ refused x
      given = by_first l ∙ rw (next_refused (function_at s p h.read) x e)

  -- the head of the function at a position
  abbrev head_at : ℕ → Head
  head_at o = record { locations = byte s o; arguments = byte s (o + 1); body = o + 2 }

  pub left_more : i < n → n ≤ 15 → (q : ℕ) (u : FunctionTable) → next_of (function_at s p h.read) ≡ ok q
      → u ≡ one_more t (head_at p) → FunctionsLeft s m n q (i + 1) u
  unfolding ◌>>=◌
  left_more l few q u e eu = let (f, ef, en) = next_ok (function_at s p h.read) q e in go f ef en (holds_at (fn_headed s p h.read) ef)
    where
      go : (f : Read Function) → function_at s p h.read ≡ ok f → f.next ≡ q → Headed s p f → FunctionsLeft s m n q (i + 1) u
      go f ef en b =
          let c : length h.read < 15 = omega (arith, h.many) in
          record {
            read = h.read ++ (f.it ∷ []);
            heads = heads_more h.read t h.heads h.full u (head_at p) eu c f.it b.ks b.ms b.bodies;
            full = full_more h.read t h.heads h.full u (head_at p) eu c;
            many = length-append h.read (f.it ∷ []) ∙ ap (λ (c : ℕ). c + 1) h.many;
            same = by_first l ∙ rw (ef, en);
          }
