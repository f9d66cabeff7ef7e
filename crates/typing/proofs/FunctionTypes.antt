-- The functions in file order. When the first f of them are typed, typing goes on with the rest and with their signatures, and the code knows of
-- each which arguments it ends with: one more function adds its own.
use mathlib.Core.Bool.{Bool, false, ◌||◌, or-false}
use mathlib.Core.List.{List, [], ◌∷◌}
use mathlib.Core.Path.{◌≡◌, refl, sym, ap, subst, ◌∙◌}
use native.Mathlib.Decide.{ℕ_discrete}
use native.Mathlib.Numerals.{add-one}
use native.Mathlib.Omega.{arith}
use Prim.Native.Nat.{ℕ, suc, ◌+◌, ◌*◌, ◌≤◌, ◌<◌}
use borrow.Author.Tests.{eq-eqb, ne_eqb, ltb-true}
use lib.Dec.{ltb}
use lib.ListN.{length, take, drop, drop_of_length-le}
use lib.Seq.{get_or-take, length-take-le, drop-cons}
use Rattle.answers.specs.declared.Refusal.{Refusal}
use Rattle.answers.specs.Check.{Check}
use Rattle.std.proofs.Common.{Bor}
use Rattle.std.specs.Prelude.{Result, Ok, Err}
use Rattle.program.specs.In.{BlockIn, ProgramIn, offset_of, scope_of, main_scope}
use Rattle.rules.specs.Syntax.{parameter, param, block, done, Function, function, Program}
use Rattle.rules.specs.Slots.{slot, is_qubit_at}
use Rattle.rules.specs.Typing.{Typed as TypedBlock, Signature, signature, entry, body_context, signature_of, type_block, type_functions}
use Rattle.sets.specs.declared.LocationSet.{LocationSet}
use Rattle.sets.specs.Sets.{has}
use Rattle.typing.specs.declared.env.Env.{Env}
use Rattle.typing.specs.declared.env.Typed.{Typed}
use Rattle.typing.specs.declared.endings.Endings.{Endings}
use Rattle.typing.specs.Stands.{EnvIs, Knows}
use Rattle.typing.specs.Cases.{BlockCase, BlockTyped}
use Rattle.typing.specs.Functions.{Remembers, Learns, learns, stops}
use Rattle.typing.proofs.Answering.{Passed, passed, refused_is}
use Rattle.typing.proofs.Rows.{first_gives, first_refused}

pub record Upto (fs : List Function) (f : ℕ) (e : Endings) : Type 0 where
  pub gs : List Signature
  pub long : length gs ≡ f
  pub so : type_functions [] fs ≡ type_functions gs (drop f fs)
  pub same : (h : ℕ) → h < f → (signature gs h).m ≡ (function fs h).m
  pub kept : (h i : ℕ) → h < f → i < (function fs h).m → has e.kept (8 * h + i) ≡ is_qubit_at (slot (signature gs h).ends.slots i) (param i)
  pub none : (y : ℕ) → 8 * f ≤ y → has e.kept y ≡ false

pub upto_none : (fs : List Function) {e : Endings} → ((y : ℕ) → has e.kept y ≡ false) → Upto fs 0 e
upto_none fs h = record { gs = []; long = refl; so = refl; same = λ j l. absurd (omega arith); kept = λ j i l k. absurd (omega arith); none = λ y l. h y }

module _ (bytes : Bor (List ℕ)) {p : Program} (P : ProgramIn bytes.now p) {f : ℕ} {e : Endings} (u : Upto p.functions f e) where
  -- what a body knows that may call the first f
  known : (places : ℕ) (before : List Function) → length before ≡ f → f ≤ length p.functions → ((h : ℕ) → h < f → function before h ≡ function p.functions h)
      → Knows e (record { places = places; earlier = before }) u.gs
  known places before l k q = record {
    few = omega (arith, l, P.few);
    most = λ h n.
        let m = P.head h (omega arith) in
        let g = ap (λ (x : Function). x.m) (q h (omega arith)) in
        let i = ap (λ (x : Function). x.k) (q h (omega arith)) in
        (omega (arith, m.1, g), omega (arith, m.2, g, i));
    same = λ h n. u.same h (omega arith) ∙ ap (λ (x : Function). x.m) (sym (q h (omega arith)));
    kept = λ h i n m. u.kept h i (omega arith) (omega (arith, ap (λ (x : Function). x.m) (q h (omega arith))));
  }

  pub known_main : f ≡ length p.functions → Knows e (main_scope p.functions) u.gs
  known_main h = known 256 p.functions (sym h) (omega arith) (λ i l. refl)

  module _ (l : f < length p.functions) where
    abbrev pub it : Function
    it = function p.functions f

    -- typing goes on with this function
    next_one : type_functions [] p.functions ≡ type_functions u.gs (it ∷ drop (suc f) p.functions)
    next_one = u.so ∙ ap (type_functions u.gs) (drop-cons p.functions f (record { k = 0; m = 0; body = block 0 done }) l)

    pub known_body : Knows e (scope_of p.functions f) u.gs
    known_body = known it.k (take f p.functions) (length-take-le f p.functions (omega arith)) (omega arith) (λ h n. get_or-take f p.functions h _ n)

    module _ {k m at : ℕ} (q : k ≡ it.k) (w : m ≡ it.m) (o : at ≡ offset_of it.body) (inside : LocationSet) (first : (y : ℕ) → has inside y ≡ ltb y k)
        {env : Env} (entered : (g : Function) → g.k ≡ k → g.m ≡ m → EnvIs k env (entry g)) where
      abbrev pub body_case : BlockCase (record { bytes = bytes; endings = e; inside = inside }) env at
      body_case = record {
        side = parameter;
        scope = scope_of p.functions f;
        depths = 8;
        it = it.body;
        next = (P.body f l).0;
        places = k;
        context = body_context u.gs it;
        entry = entry it;
        stands = subst (λ (i : ℕ). BlockIn bytes.now (scope_of p.functions f) 8 i it.body (P.body f l).0) (sym o) (P.body f l).1;
        within = record { same = λ x. ap (ltb x.no) (sym q) ∙ sym (first x.no); few = λ x h. ltb-true x k (sym (first x) ∙ h) };
        knows = known_body;
        is = entered it (sym q) (sym w);
      }

      abbrev typing : Check (TypedBlock parameter)
      typing = type_block (body_context u.gs it) (entry it) it.body

      pub function_refused : {z : Refusal} {r : Result Endings Refusal}
          → BlockTyped (record { bytes = bytes; endings = e; inside = inside }) env at (Err z) → r ≡ Err z
          → Learns p.functions (type_functions [] p.functions) r
      function_refused a h = stops (next_one ∙ sym (first_refused _ (refused_is (a body_case)))) h

      module _ {r : Typed} (a : BlockTyped (record { bytes = bytes; endings = e; inside = inside }) env at (Ok r)) where
        abbrev past : Passed k (P.body f l).0 typing r
        past = passed (a body_case)

        abbrev typed : TypedBlock parameter
        typed = past.typed

        module _ {after : Endings} (g : Remembers e f m r.env after) where
          abbrev one_more : List Signature
          one_more = signature_of it typed ∷ u.gs

          last_is : signature one_more f ≡ signature_of it typed
          last_is = rw (eq-eqb f (length u.gs) (sym u.long))

          lower_is : (i : ℕ) → i < f → signature one_more i ≡ signature u.gs i
          lower_is i c = rw (ne_eqb i (length u.gs) (λ z. absurd (omega (arith, z, u.long))))

          so_next : type_functions [] p.functions ≡ type_functions one_more (drop (f + 1) p.functions)
          so_next = next_one ∙ sym (first_gives _ past.gives (ap (λ (i : ℕ). type_functions one_more (drop i p.functions)) (add-one f)))

          same_next : (i : ℕ) → i < f + 1 → Dec (i ≡ f) → (signature one_more i).m ≡ (function p.functions i).m
          same_next i z (yes c) = subst (λ (i' : ℕ). (signature one_more i').m ≡ (function p.functions i').m) (sym c) (ap (λ (x : Signature). x.m) last_is)
          same_next i z (no c) = ap (λ (x : Signature). x.m) (lower_is i (omega arith)) ∙ u.same i (omega arith)

          most : it.m ≤ 8
          most = (P.head f l).1

          kept_last : (i : ℕ) → i < it.m → has after.kept (8 * f + i) ≡ is_qubit_at (slot typed.env.slots i) (param i)
          kept_last i c =
              g.its k typed.env past.is i (omega arith)
              ∙ ap (λ (b : Bool). is_qubit_at (slot typed.env.slots i) (param i) || b) (u.none (8 * f + i) (omega arith))
              ∙ or-false _

          kept_next : (j i : ℕ) → j < f + 1 → i < (function p.functions j).m → Dec (j ≡ f)
              → has after.kept (8 * j + i) ≡ is_qubit_at (slot (signature one_more j).ends.slots i) (param i)
          kept_next j i y b (yes c) =
              subst
              (λ (j' : ℕ). i < (function p.functions j').m
              → has after.kept (8 * j' + i) ≡ is_qubit_at (slot (signature one_more j').ends.slots i) (param i))
              (sym c)
              (λ z. kept_last i z ∙ ap (λ (x : Signature). is_qubit_at (slot x.ends.slots i) (param i)) (sym last_is)) b
          kept_next j i y b (no c) =
              let z = (P.head j (omega arith)).1 in
              g.lower (8 * j + i) (omega arith) ∙ u.kept j i (omega arith) b
              ∙ ap (λ (x : Signature). is_qubit_at (slot x.ends.slots i) (param i)) (sym (lower_is j (omega arith)))

          pub upto_one : Upto p.functions (f + 1) after
          upto_one = record {
            gs = one_more;
            long = omega (arith, u.long);
            so = so_next;
            same = λ i c. same_next i c (ℕ_discrete i f);
            kept = λ j i c b. kept_next j i c b (ℕ_discrete j f);
            none = λ y c. g.higher y (omega (arith, most, w)) ∙ u.none y (omega arith);
          }

  pub upto_all : length p.functions ≤ f → f ≤ length p.functions → {r : Result Endings Refusal} → r ≡ Ok e
      → Learns p.functions (type_functions [] p.functions) r
  upto_all l k h = learns (u.so ∙ rw (drop_of_length-le p.functions l)) h (known_main (omega arith))
