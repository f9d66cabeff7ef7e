-- An if and a while: the cases of their blocks, and their answers from those of the blocks.
use mathlib.Core.Bool.{Bool, true, false}
use mathlib.Core.List.{List}
use mathlib.Core.Path.{◌≡◌, refl, sym, ap, subst, ◌∙◌}
use native.Mathlib.Omega.{arith}
use Prim.Native.Nat.{ℕ, ◌+◌, ◌≤◌, ◌<◌}
use lib.ListN.{length}
use Rattle.std.specs.Prelude.{Result, Ok, Err}
use Rattle.answers.specs.declared.Refusal.{Refusal}
use Rattle.answers.specs.Check.{Check, ok, refused, refusal}
use Rattle.program.specs.In.{BlockIn}
use Rattle.program.proofs.In.{statement_view, block_in}
use Rattle.rules.specs.Basics.{byte}
use Rattle.rules.specs.Syntax.{Side, if, while, Block}
use Rattle.rules.specs.Slots.{slot, need_bool, need_ref}
use Rattle.rules.specs.Typing.{Env as Environment, same_env, type_block, type_statement}
use Rattle.typing.specs.declared.body.Body.{Body}
use Rattle.typing.specs.declared.env.Env.{Env}
use Rattle.typing.specs.declared.env.Typed.{Typed}
use Rattle.typing.specs.Stands.{EnvIs, Answers}
use Rattle.typing.specs.Cases.{BlockCase, BlockTyped, StatementCase}
use Rattle.typing.proofs.Answering.{Passed, passed, refused_is, answered}
use Rattle.typing.proofs.Rows.{first_gives, first_refused, then_gives, then_refused, need_yes, need_no, accepts, refuses, refuses_as}
use Rattle.typing.proofs.Views.{AIf, AWhile, shape_at}

-- the test of two environments, for every two that they stand for
abbrev pub Same : Env → Env → Bool → Type 0
Same a b t = (d : Side) (n : ℕ) (Γ Δ : Environment d) → EnvIs n a Γ → EnvIs n b Δ → t ≡ same_env Γ Δ

module _ {body : Body} {env : Env} {at : ℕ} (t : StatementCase body env at) where
  abbrev s : List ℕ
  s = body.bytes.now

  -- a block of the statement, typed with what the statement is typed with
  abbrev inner : (j : ℕ) (x : Block t.side) (q : ℕ) → BlockIn s t.scope t.depths j x q → BlockCase body env j
  inner j x q h = record {
    side = t.side;
    scope = t.scope;
    depths = t.depths;
    it = x;
    next = q;
    places = t.places;
    context = t.context;
    entry = t.entry;
    stands = h;
    within = t.within;
    knows = t.knows;
    is = t.is;
  }

  abbrev Typed_as : Result Typed Refusal → Type 0
  Typed_as r = Answers t.places t.next (type_statement t.context t.entry t.it) r

  -- what is asked of a slot, by the byte that names it
  module _ {m : Check (Unit {0})} {x y : ℕ} (e : x ≡ y) where
    pub bool_at : m ≡ need_bool (slot t.entry.slots x) at → m ≡ need_bool (slot t.entry.slots y) at
    bool_at h = h ∙ ap (λ (i : ℕ). need_bool (slot t.entry.slots i) at) e

    pub reference_at : m ≡ need_ref (slot t.entry.slots x) at → m ≡ need_ref (slot t.entry.slots y) at
    reference_at h = h ∙ ap (λ (i : ℕ). need_ref (slot t.entry.slots i) at) e

  module _ (b : byte s at ≡ 10) where
    pub an_if : AIf s t.scope t.depths at t.it t.next
    an_if = shape_at 10 (statement_view t.stands) b

    abbrev pub then_case : BlockCase body env (at + 2)
    then_case = inner (at + 2) an_if.0 an_if.2 an_if.5

    if_is : {r : Result Typed Refusal} → Answers t.places t.next (type_statement t.context t.entry (if at (byte s (at + 1)) an_if.0 an_if.1)) r → Typed_as r
    if_is a = answered t (if at (byte s (at + 1)) an_if.0 an_if.1) a an_if.7 refl

    pub if_no : {z : Refusal} {r : Result Typed Refusal} → refused z ≡ need_bool (slot t.entry.slots (byte s (at + 1))) at → r ≡ Err z → Typed_as r
    if_no e q = if_is (refuses (then_refused _ e) q)

    module _ (e : ok tt ≡ need_bool (slot t.entry.slots (byte s (at + 1))) at) where
      pub if_stops : {z : Refusal} {r : Result Typed Refusal} → BlockTyped body env (at + 2) (Err z) → r ≡ Err z → Typed_as r
      if_stops a q = if_is (refuses (then_gives e (first_refused _ (refused_is (a then_case)))) q)

      module _ {first : Typed} (a : BlockTyped body env (at + 2) (Ok first)) where
        abbrev u : Passed t.places an_if.2 (type_block t.context t.entry an_if.0) first
        u = passed (a then_case)

        abbrev pub else_case : BlockCase body env first.next
        else_case = inner first.next an_if.1 t.next (subst (λ (i : ℕ). BlockIn s t.scope t.depths i an_if.1 t.next) (sym u.here) an_if.6)

        pub middle_moves : (at + 2 < first.next) × (first.next ≤ length s)
        middle_moves = let k = block_in an_if.5 in (omega (arith, u.here, k.4), omega (arith, u.here, k.5))

        pub else_stops : {z : Refusal} {r : Result Typed Refusal} → BlockTyped body env first.next (Err z) → r ≡ Err z → Typed_as r
        else_stops c q =
            if_is (refuses (then_gives e (first_gives _ u.gives (first_refused _ (refused_is (c else_case))))) q)

        module _ {second : Typed} (c : BlockTyped body env first.next (Ok second)) {same : Bool} (h : Same first.env second.env same) where
          abbrev v : Passed t.places t.next (type_block t.context t.entry an_if.1) second
          v = passed (c else_case)

          pub if_differs : {z : Refusal} → z ≡ refusal 18 at → same ≡ false → Typed_as (Err z)
          if_differs q k =
              if_is
              (refuses_as
              (then_gives e (first_gives _ u.gives (first_gives _ v.gives (then_refused _ (need_no 18 at q (sym (h t.side t.places _ _ u.is v.is) ∙ k)))))))

          pub if_joins : {r : Typed} → r.next ≡ second.next → r.env ≡ first.env → same ≡ true → Typed_as (Ok r)
          if_joins {r} p q k =
              if_is
              (accepts
              (then_gives e (first_gives _ u.gives (first_gives _ v.gives (then_gives (need_yes 18 at (sym (h t.side t.places _ _ u.is v.is) ∙ k)) refl))))
              (p ∙ v.here) (subst (λ (w : Env). EnvIs t.places w u.typed.env) (sym q) u.is))

  module _ (b : byte s at ≡ 11) where
    pub a_while : AWhile s t.scope t.depths at t.it t.next
    a_while = shape_at 11 (statement_view t.stands) b

    abbrev pub body_case : BlockCase body env (at + 2)
    body_case = inner (at + 2) a_while.0 t.next a_while.3

    while_is : {r : Result Typed Refusal} → Answers t.places t.next (type_statement t.context t.entry (while at (byte s (at + 1)) a_while.0)) r → Typed_as r
    while_is a = answered t (while at (byte s (at + 1)) a_while.0) a a_while.4 refl

    pub while_no : {z : Refusal} {r : Result Typed Refusal} → refused z ≡ need_ref (slot t.entry.slots (byte s (at + 1))) at → r ≡ Err z → Typed_as r
    while_no e q = while_is (refuses (then_refused _ e) q)

    module _ (e : ok tt ≡ need_ref (slot t.entry.slots (byte s (at + 1))) at) where
      pub while_stops : {z : Refusal} {r : Result Typed Refusal} → BlockTyped body env (at + 2) (Err z) → r ≡ Err z → Typed_as r
      while_stops a q = while_is (refuses (then_gives e (first_refused _ (refused_is (a body_case)))) q)

      module _ {inside : Typed} (a : BlockTyped body env (at + 2) (Ok inside)) {same : Bool} (h : Same inside.env env same) where
        abbrev w : Passed t.places t.next (type_block t.context t.entry a_while.0) inside
        w = passed (a body_case)

        pub while_changes : {z : Refusal} → z ≡ refusal 19 at → same ≡ false → Typed_as (Err z)
        while_changes q k =
            while_is
            (refuses_as
            (then_gives e (first_gives _ w.gives (then_refused _ (need_no 19 at q (sym (h t.side t.places _ _ w.is t.is) ∙ k))))))

        pub while_again : {r : Typed} → r.next ≡ inside.next → r.env ≡ env → same ≡ true → Typed_as (Ok r)
        while_again {r} p q k =
            while_is
            (accepts (then_gives e (first_gives _ w.gives (then_gives (need_yes 19 at (sym (h t.side t.places _ _ w.is t.is) ∙ k)) refl)))
            (p ∙ w.here) (subst (λ (x : Env). EnvIs t.places x t.entry) (sym q) t.is))
