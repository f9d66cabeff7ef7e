-- A call statement: what reading saw to, and its answer from what the call asked and from the environment after it.
use mathlib.Core.Bool.{Bool, true, false, ◌&&◌, false≢true}
use mathlib.Core.List.{List, [], ◌∷◌}
use mathlib.Core.Path.{◌≡◌, refl, sym, ap, ◌∙◌}
use native.Mathlib.Omega.{arith}
use Prim.Native.Nat.{ℕ, zero, suc, ◌+◌, ◌*◌, ◌≤◌, ◌<◌}
use lib.ListN.{get_or, length}
use Rattle.std.specs.Prelude.{Result, Ok, Err}
use Rattle.answers.specs.declared.Refusal.{Refusal}
use Rattle.answers.specs.Check.{Check, ok, refused}
use Rattle.answers.proofs.Laws.{holds_then, holds_need, holds_map, holds_any, holds_at}
use Rattle.program.proofs.In.{statement_view}
use Rattle.rules.specs.Basics.{all, byte}
use Rattle.rules.specs.Syntax.{Side, Place, Statement, call}
use Rattle.rules.specs.Slots.{callable}
use Rattle.rules.specs.Typing.{Env as Environment, Signature, signature, Context, kinds, after_call, type_statement}
use Rattle.sets.specs.Sets.{has}
use Rattle.typing.specs.declared.body.Body.{Body}
use Rattle.typing.specs.declared.calls.Call.{Call}
use Rattle.typing.specs.declared.env.Env.{Env}
use Rattle.typing.specs.declared.env.Typed.{Typed}
use Rattle.typing.specs.Stands.{EnvIs, Answers}
use Rattle.typing.specs.Cases.{StatementCase}
use Rattle.typing.specs.Calls.{places, CallAt, CallIs, Ends}
use Rattle.typing.proofs.Answering.{answered}
use Rattle.typing.proofs.CallLists.{places_up_to}
use Rattle.typing.proofs.Lists.{length_up_to}
use Rattle.typing.proofs.Rows.{then_gives, then_refused, accepts, refuses}
use Rattle.typing.proofs.Views.{ACall, shape_at}

and_first : (a b : Bool) → (a && b) ≡ true → a ≡ true
and_first true b h = refl
and_first false b h = h

and_second : (a b : Bool) → (a && b) ≡ true → b ≡ true
and_second true b h = h
and_second false b h = absurd (false≢true h)

-- a test that passes at all of a row passes at each
all_at : {d : Side} (t : Place d → Bool) (ls : List ℕ) (i : ℕ) → all t (places d ls) ≡ true → i < length ls → t (record { no = get_or ls i 0 }) ≡ true
all_at t [] i h l = absurd (omega arith)
all_at t (l ∷ ls) zero h m = and_first (t (record { no = l })) _ h
all_at t (l ∷ ls) (suc i) h m = all_at t ls i (and_second (t (record { no = l })) _ h) (omega arith)

-- a call that asks no more has its locations inside
inside_all : {d : Side} (C : Context d) (Γ : Environment d) (o : ℕ) (ls : List (Place d)) (xs : List ℕ)
    → ok tt ≡ callable (kinds C Γ) o Γ.slots ls xs → all C.inside ls ≡ true
inside_all C Γ o ls xs e = holds_at (holds_then (holds_need (all C.inside ls) 13 o) λ u h. holds_map (λ v k. h) (holds_any _)) (sym e)

module _ {body : Body} {env : Env} {at : ℕ} (t : StatementCase body env at) (b : byte body.bytes.now at ≡ 12) where
  abbrev s : List ℕ
  s = body.bytes.now

  shape : ACall s t.scope t.depths at t.it t.next
  shape = shape_at 12 (statement_view t.stands) b

  pub call_at : CallAt s at
  call_at =
      let h = shape in
      let m = t.knows.most (byte s (at + 1)) h.callee in
      record {
        fits = h.fits;
        callee = omega (arith, h.callee, t.knows.few);
        most = omega (arith, m.0, h.m);
        fewer = omega (arith, m.1, h.m, h.k);
        slots = h.slots;
      }

  module _ {c : Call} (is : CallIs s at c) where
    places_long : length c.places.now ≡ byte s (at + 2)
    places_long = ap (λ (ls : List ℕ). length ls) is.places ∙ length_up_to (at + 4) (byte s (at + 2)) (byte s)

    slots_long : length c.slots.now ≡ byte s (at + 3)
    slots_long = ap (λ (ls : List ℕ). length ls) is.slots ∙ length_up_to (at + 4 + byte s (at + 2)) (byte s (at + 3)) (byte s)

    pub call_fits : at + 4 + length c.places.now + length c.slots.now ≤ length s
    call_fits = omega (arith, places_long, slots_long, shape.fits)

    -- the statement in the call's own lists
    abbrev callee : Signature
    callee = signature t.context.functions (byte s (at + 1))

    abbrev asks : Check (Unit {0})
    asks = callable (kinds t.context t.entry) at t.entry.slots (places t.side c.places.now) c.slots.now

    abbrev pub it : Statement t.side
    it = call at (byte s (at + 1)) (places t.side c.places.now) c.slots.now

    it_is : t.it ≡ it
    it_is = shape.is ∙ rw (is.places, is.slots, places_up_to t.side s (at + 4) (byte s (at + 2)))

    next_is : t.next ≡ at + 4 + length c.places.now + length c.slots.now
    next_is = omega (arith, shape.next, places_long, slots_long)

    -- a call that asks no more has its locations inside
    ends : ok tt ≡ asks → Ends c body.endings t.places callee
    ends q =
        let h = shape in
        record {
          same = t.knows.same (byte s (at + 1)) h.callee ∙ sym h.m ∙ sym slots_long;
          kept = λ i l.
              ap (λ (f : ℕ). has body.endings.kept (8 * f + i)) is.callee ∙ t.knows.kept (byte s (at + 1)) i h.callee (omega (arith, h.m, slots_long));
          within = λ i l.
              let inside = inside_all t.context t.entry at (places t.side c.places.now) c.slots.now q in
              t.within.few _ (sym (t.within.same (record { no = get_or c.places.now i 0 })) ∙ all_at t.context.inside c.places.now i inside l);
        }

    pub call_refused : {z : Refusal} {r : Result Typed Refusal} → refused z ≡ asks → r ≡ Err z
        → Answers t.places t.next (type_statement t.context t.entry t.it) r
    call_refused q y = answered t it (refuses (then_refused _ q) y) it_is next_is

    pub call_goes : {r : Typed} → ok tt ≡ asks
        → (Ends c body.endings t.places callee → EnvIs t.places r.env (after_call callee (places t.side c.places.now) c.slots.now t.entry))
        → r.next ≡ at + 4 + length c.places.now + length c.slots.now → Answers t.places t.next (type_statement t.context t.entry t.it) (Ok r)
    call_goes q after n = answered t it (accepts (then_gives q refl) n (after (ends q))) it_is next_is
