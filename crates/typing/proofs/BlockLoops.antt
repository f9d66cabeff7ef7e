-- The loop over a block's statements. It stands before the statements that are left, with an environment for them: what these are typed to is
-- what the whole block's statements are typed to, but for commands. A block's closing comes after, and main's own block does without it.
use mathlib.Core.List.{List}
use mathlib.Core.Path.{◌≡◌, refl, sym, subst, ◌∙◌}
use native.Mathlib.Omega.{arith}
use Prim.Native.Nat.{ℕ, ◌+◌, ◌≤◌, ◌<◌}
use lib.ListN.{length}
use Rattle.std.specs.Prelude.{Result, Ok, Err}
use Rattle.answers.specs.declared.Refusal.{Refusal}
use Rattle.answers.specs.Check.{◌>>=◌}
use Rattle.program.specs.In.{StatementsIn}
use Rattle.program.proofs.In.{block_in, statements_end, statements_next}
use Rattle.rules.specs.Basics.{word}
use Rattle.rules.specs.Syntax.{Statement, Statements, Block}
use Rattle.rules.specs.Typing.{Env as Environment, Typed as TypedBlock, close, type_statement, type_statements, type_block}
use Rattle.typing.specs.declared.body.Body.{Body}
use Rattle.typing.specs.declared.env.Env.{Env}
use Rattle.typing.specs.declared.env.Typed.{Typed}
use Rattle.typing.specs.Stands.{EnvIs, Answers}
use Rattle.typing.specs.Cases.{in_block, BlockCase, StatementsTyped, StatementCase, StatementTyped}
use Rattle.typing.proofs.Answering.{Passed, passed, refused_is, any_commands, answers_as}
use Rattle.typing.proofs.Rows.{first_gives, first_refused, accepts, refuses}

-- where a block ends
pub block_end : {body : Body} {env : Env} {at : ℕ} (b : BlockCase body env at) → (b.next ≡ at + 2 + word body.bytes.now at) × (b.next ≤ length body.bytes.now)
block_end b = ((block_in b.stands).4, (block_in b.stands).5)

module _ {body : Body} {env : Env} {at : ℕ} (b : BlockCase body env at) (stop : ℕ) where
  abbrev s : List ℕ
  s = body.bytes.now

  -- what the statements from a position on are typed to, with an environment there
  abbrev Rest : Environment b.side → Statements b.side → ℕ → Result Typed Refusal → Type 0
  Rest Γ ts q r = Answers b.places q (type_statements b.context Γ ts) r

  -- the block's statements
  abbrev All : ℕ → Result Typed Refusal → Type 0
  All q r = Rest b.entry (in_block b.it) q r

  pub record Onward (now : Typed) : Type 0 where
    pub depths : ℕ
    pub left : Statements b.side
    pub stands : StatementsIn s b.scope depths now.next stop left
    pub env_now : Environment b.side
    pub is : EnvIs b.places now.env env_now
    pub so : (q : ℕ) (r : Result Typed Refusal) → Rest env_now left q r → All q r

  pub start : stop ≡ at + 2 + word s at → Onward (record { next = at + 2; env = env })
  start h =
      let k = block_in b.stands in
      record {
        depths = k.1;
        left = k.0;
        stands = subst (λ (i : ℕ). StatementsIn s b.scope k.1 (at + 2) i k.0) (k.4 ∙ sym h) k.6;
        env_now = b.entry;
        is = b.is;
        so = λ q r a. subst (λ (x : Block b.side). Rest b.entry (in_block x) q r) (sym k.2) a;
      }

  module _ {now : Typed} (o : Onward now) where
    pub ends : stop ≡ at + 2 + word s at → now.next ≡ stop → All b.next (Ok now)
    ends w q =
        let here : now.next ≡ b.next = q ∙ w ∙ sym (block_end b).0 in
        let none : Rest o.env_now o.left b.next (Ok now) = rw (statements_end o.stands q) (accepts refl here o.is) in
        o.so b.next (Ok now) none

    module _ (l : now.next < stop) where
      -- the next statement, where it ends, and the rest
      abbrev pub one : Statement b.side
      one = (statements_next o.stands l).0

      abbrev pub one_end : ℕ
      one_end = (statements_next o.stands l).1

      abbrev rest : Statements b.side
      rest = (statements_next o.stands l).2

      abbrev pub statement_case : StatementCase body now.env now.next
      statement_case = record {
        side = b.side;
        scope = b.scope;
        depths = o.depths;
        it = one;
        next = one_end;
        places = b.places;
        context = b.context;
        entry = o.env_now;
        stands = (statements_next o.stands l).4;
        within = b.within;
        knows = b.knows;
        is = o.is;
      }

      pub stops : {z : Refusal} {r : Result Typed Refusal} → StatementTyped body now.env now.next (Err z) → r ≡ Err z → All b.next r
      stops {z} {r} a q =
          let first = first_refused _ (refused_is (a statement_case)) in
          let here : Rest o.env_now o.left b.next r = rw (statements_next o.stands l).3 (refuses first q) in
          o.so b.next r here

      module _ {r : Typed} (a : StatementTyped body now.env now.next (Ok r)) where
        abbrev done : Passed b.places one_end (type_statement b.context o.env_now one) r
        done = passed (a statement_case)

        pub moves : (now.next < r.next) × (r.next ≤ stop)
        moves = let u = done.here in let n = (statements_next o.stands l).6 in let m = (statements_next o.stands l).7 in (omega arith, omega arith)

        pub onward : Onward r
        onward = record {
          depths = o.depths;
          left = rest;
          stands = subst (λ (i : ℕ). StatementsIn s b.scope o.depths i stop rest) (sym done.here) (statements_next o.stands l).5;
          env_now = done.typed.env;
          is = done.is;
          so = λ k v w.
              o.so k v (rw (statements_next o.stands l).3 (answers_as (first_gives _ done.gives refl) (any_commands _ w)));
        }

-- A block whose statements are typed: its closing, or their refusal. Its length word is at `at`, which is where its closing refuses.
module _ {body : Body} {env : Env} {at : ℕ} (b : BlockCase body env at) where
  abbrev Whole : Block b.side → Result Typed Refusal → Type 0
  Whole x r = Answers b.places b.next (type_block b.context b.entry x) r

  abbrev Closing : Block b.side → Result Typed Refusal → Type 0
  Closing x r = Answers b.places b.next (type_statements b.context b.entry (in_block x) >>= close at b.entry) r

  whole : {r : Result Typed Refusal} → Closing b.it r → Whole b.it r
  whole {r} = subst (λ (x : Block b.side). Closing x r → Whole x r) (sym (block_in b.stands).2) (λ a. a)

  pub closes : {t : Typed} {r : Result Typed Refusal} → StatementsTyped body env at (Ok t)
      → ((u : TypedBlock b.side) → EnvIs b.places t.env u.env → Answers b.places t.next (close at b.entry u) r) → Whole b.it r
  closes {r = r} a c =
      let u = passed (a b) in
      let end = subst (λ (i : ℕ). Answers b.places i (close at b.entry u.typed) r) u.here (c u.typed u.is) in
      whole (answers_as (first_gives _ u.gives refl) end)

  pub unclosed : {z : Refusal} {r : Result Typed Refusal} → StatementsTyped body env at (Err z) → r ≡ Err z → Whole b.it r
  unclosed a q = whole (refuses (first_refused _ (refused_is (a b))) q)
