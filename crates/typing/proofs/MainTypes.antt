-- Main, with the functions learnt: its places are the region's, all of them free. Its statements alone say how it is typed, since its closing
-- refuses nothing and forgets no qubit.
use mathlib.Core.Bool.{true, false, true≢false}
use mathlib.Core.List.{List, []}
use mathlib.Core.Path.{◌≡◌, refl, sym, ap, subst, ◌∙◌}
use native.Mathlib.Decide.{dec_lt}
use native.Mathlib.Omega.{arith}
use Prim.Native.Nat.{ℕ, ◌<◌}
use lib.ListN.{get_or, length, replicate, get_or-replicate, get_or-eq_default}
use Rattle.std.proofs.Common.{Bor}
use Rattle.std.specs.Prelude.{Ok, Err}
use Rattle.answers.specs.declared.Refusal.{Refusal}
use Rattle.answers.specs.Check.{Check, ok, refused, ◌>>=◌}
use Rattle.device.specs.Reader.{Owned}
use Rattle.program.specs.In.{BlockIn, ProgramIn, offset_of, main_scope}
use Rattle.rules.specs.Basics.{up_to}
use Rattle.rules.specs.Region.{Region}
use Rattle.rules.specs.Syntax.{Side, device, Block, block, Function, Program}
use Rattle.rules.specs.Slots.{unbound}
use Rattle.rules.specs.Typing.{Kind, Env as Environment, Signature, Context, main_context, start, closed, type_statements, type_functions, type_main}
use Rattle.sets.specs.declared.LocationSet.{LocationSet}
use Rattle.sets.specs.Sets.{has}
use Rattle.sets.proofs.SetLaws.{high_off}
use Rattle.typing.specs.declared.slots.Slot.TheVariants.{Unbound}
use Rattle.typing.specs.declared.env.Env.{Env}
use Rattle.typing.specs.declared.env.Typed.{Typed}
use Rattle.typing.specs.declared.endings.Endings.{Endings}
use Rattle.typing.specs.Stands.{kind_of, EnvIs, Knows}
use Rattle.typing.specs.Cases.{in_block, BlockCase, StatementsTyped}
use Rattle.typing.specs.Functions.{Learns, learns, stops, typing}
use Rattle.typing.proofs.Lists.{length_up_to, get_d_up_to_zero}
use Rattle.typing.proofs.LiveSlots.{live_of, live_narrowed}
use Rattle.typing.proofs.Answering.{passed, refused_is}

-- what was learnt
pub record Knew (fs : List Function) (m : Check (List Signature)) (e : Endings) : Type 0 where
  pub gs : List Signature
  pub gives : ok gs ≡ m
  pub knows : Knows e (main_scope fs) gs

pub knew : {fs : List Function} {m : Check (List Signature)} {e : Endings} → Learns fs m (Ok e) → Knew fs m e
knew {fs} {e = e} (learns {gs = gs} {e = f} h k n) =
    let same : e ≡ f = cc in
    record { gs = gs; gives = sym h; knows = subst (λ (x : Endings). Knows x (main_scope fs) gs) (sym same) n }
knew (stops h k) = let z : ◌≡◌ {A = ℕ} 0 1 = cc in absurd (omega arith)

not_learnt : {fs : List Function} {m : Check (List Signature)} {z : Refusal} → Learns fs m (Err z) → refused z ≡ m
not_learnt (learns h k n) = let y : ◌≡◌ {A = ℕ} 0 1 = cc in absurd (omega arith)
not_learnt {z = z} (stops {z = y} h k) = let same : z ≡ y = cc in ap refused same ∙ sym h

-- a set of locations is some region's
pub some_region : LocationSet → Region
some_region s = record { owned = up_to 0 256 (has s); edges = [] }

pub some_owned : (s : LocationSet) → Owned (some_region s) s
unfolding some_region
some_owned s = record { owned = λ x. go x (dec_lt x 256) }
  where
    go : (x : ℕ) → Dec (x < 256) → has s x ≡ get_or (up_to 0 256 (has s)) x false
    go x (yes l) = sym (get_d_up_to_zero 256 x (has s) false l)
    go x (no l) = high_off s x (omega arith) ∙ sym (get_or-eq_default (up_to 0 256 (has s)) false {n = x} (omega (arith, length_up_to 0 256 (has s))))

-- main's block by its statements
main_closed : (C : Context device) (Γ : Environment device) (x : Block device)
    → type_main C Γ x ≡ (type_statements C Γ (in_block x) >>= λ d. ok (closed Γ d))
main_closed C Γ (block o ts) = refl

module _ {owned : LocationSet} {R : Region} (own : Owned R owned) where
  -- an owned location is in the region's list
  pub owned_low : (l : ℕ) → has owned l ≡ true → l < length R.owned
  owned_low l h = go (dec_lt l (length R.owned))
    where
      go : Dec (l < length R.owned) → l < length R.owned
      go (yes k) = k
      go (no k) = absurd (true≢false (sym h ∙ own.owned l ∙ get_or-eq_default R.owned false (omega arith)))

  pub start_is : {env : Env} → env ≡ record { slots = replicate 32 Unbound; free = owned } → EnvIs (length R.owned) env (start R.owned)
  start_is h = rw h (record {
    count = refl;
    long = refl;
    wide = refl;
    slots = λ x l. get_or-replicate {A = Kind device} 32 x unbound unbound l ∙ ap (kind_of device) (sym (get_or-replicate 32 x Unbound Unbound l));
    there = λ x j l q. let e = get_or-replicate 32 x Unbound Unbound l in let z : ◌≡◌ {A = ℕ} 0 1 = cc in absurd (omega arith);
    free = λ l. sym (own.owned l);
  })

  module _ (bytes : Bor (List ℕ)) {p : Program} (P : ProgramIn bytes.now p) {e : Endings} (k : Knew p.functions (type_functions [] p.functions) e)
      {env : Env} (s : env ≡ record { slots = replicate 32 Unbound; free = owned }) {main : ℕ} (o : main ≡ offset_of p.main) where
    abbrev pub main_case : BlockCase (record { bytes = bytes; endings = e; inside = owned }) env main
    main_case = record {
      side = device;
      scope = main_scope p.functions;
      depths = 8;
      it = p.main;
      next = length bytes.now;
      places = length R.owned;
      context = main_context R.owned k.gs;
      entry = start R.owned;
      stands = subst (λ (i : ℕ). BlockIn bytes.now (main_scope p.functions) 8 i p.main (length bytes.now)) (sym o) P.main;
      within = record { same = λ l. sym (own.owned l.no); few = owned_low };
      knows = k.knows;
      is = start_is s;
    }

    -- what the code counts before the closing is what main's closed environment has
    pub main_typed : {r : Typed} → StatementsTyped (record { bytes = bytes; endings = e; inside = owned }) env main (Ok r) → {n : ℕ}
        → ((d : Side) (i : ℕ) (Γ : Environment d) → EnvIs i r.env Γ → n ≡ live_of Γ.slots) → ok n ≡ typing R.owned p
    unfolding ◌>>=◌
    main_typed a c =
        let u = passed (a main_case) in
        let same = live_narrowed (start R.owned).slots u.typed.env.slots u.is.long in
        rw (sym k.gives, main_closed (main_context R.owned k.gs) (start R.owned) p.main, sym u.gives) (ap ok (c device _ u.typed.env u.is ∙ sym same))

    pub main_refused : {z : Refusal} → StatementsTyped (record { bytes = bytes; endings = e; inside = owned }) env main (Err z) → refused z ≡ typing R.owned p
    unfolding ◌>>=◌
    main_refused a = rw (sym k.gives, main_closed (main_context R.owned k.gs) (start R.owned) p.main, sym (refused_is (a main_case)))

pub functions_refused : (R : Region) (p : Program) {z : Refusal} → Learns p.functions (type_functions [] p.functions) (Err z) → refused z ≡ typing R.owned p
unfolding ◌>>=◌
functions_refused R p h = rw (sym (not_learnt h))
