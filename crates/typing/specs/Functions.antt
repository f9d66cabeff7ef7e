-- What is known of the functions: after one more, and after them all.
use Rattle.std.specs.Prelude.{Bool, ◌||◌, Result, Ok, Err, List, ◌≡◌, ℕ, ◌+◌, ◌*◌, ◌≤◌, ◌<◌}
use Rattle.answers.specs.declared.Refusal.{Refusal}
use Rattle.answers.specs.Check.{Check, ok, refused, ◌>>=◌}
use Rattle.program.specs.In.{main_scope}
use Rattle.rules.specs.Syntax.{parameter, param, Function, Program}
use Rattle.rules.specs.Slots.{slot, is_qubit_at}
use Rattle.rules.specs.Typing.{Env as Environment, Signature, type_program, live_in}
use Rattle.sets.specs.Sets.{has}
use Rattle.typing.specs.declared.env.Env.{Env}
use Rattle.typing.specs.declared.endings.Endings.{Endings}
use Rattle.typing.specs.Stands.{EnvIs, Knows}

-- function f has m arguments and ends with env
pub record Remembers (before : Endings) (f m : ℕ) (env : Env) (after : Endings) : Type 0 where
  pub lower : (y : ℕ) → y < 8 * f → has after.kept y ≡ has before.kept y
  pub higher : (y : ℕ) → 8 * f + m ≤ y → has after.kept y ≡ has before.kept y
  pub its : (n : ℕ) (Γ : Environment parameter) → EnvIs n env Γ → (i : ℕ) → i < m
      → has after.kept (8 * f + i) ≡ (is_qubit_at (slot Γ.slots i) (param i) || has before.kept (8 * f + i))

-- the functions fs, typed: what main may know of them, or the refusal
pub data Learns (fs : List Function) (m : Check (List Signature)) (r : Result Endings Refusal) : Type 0 where
  learns : {gs : List Signature} {e : Endings} → m ≡ ok gs → r ≡ Ok e → Knows e (main_scope fs) gs → Learns fs m r
  stops : {z : Refusal} → m ≡ refused z → r ≡ Err z → Learns fs m r

-- the typing of a program: the number left live, or its refusal
abbrev pub typing : List Bool → Program → Check ℕ
typing owned p = do
  t ← type_program owned p
  ok (live_in t.env)
