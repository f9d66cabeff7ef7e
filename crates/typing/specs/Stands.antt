-- What the values of the code stand for in the rules: a slot, an environment, the places inside, what is known of the functions before, an answer.
use Rattle.std.specs.Prelude.{Bool, true, false, not, ◌&&◌, List, ◌≡◌, ℕ, ◌+◌, ◌*◌, ◌≤◌, ◌<◌, get_or, set, length, Option, Some, None, Result, Ok, Err}
use Rattle.answers.specs.declared.Refusal.{Refusal}
use Rattle.answers.specs.Check.{Check, ok, refused}
use Rattle.rules.specs.Basics.{chosen}
use Rattle.rules.specs.Syntax.{Side, device, Place, param, function}
use Rattle.rules.specs.Program.{Scope}
use Rattle.rules.specs.Slots.{unbound, qubit, bool, ref, slot, is_classical, is_qubit_at}
use Rattle.rules.specs.Typing.{Kind, Env as Environment, Typed as TypedBlock, Signature, signature, Context}
use Rattle.sets.specs.declared.LocationSet.{LocationSet}
use Rattle.sets.specs.Sets.{has}
use Rattle.typing.specs.declared.slots.Slot.{Slot}
use Rattle.typing.specs.declared.slots.Slot.TheVariants.{Unbound, Qubit, Bool as ABool, Reference}
use Rattle.typing.specs.declared.env.Env.{Env}
use Rattle.typing.specs.declared.env.Typed.{Typed}
use Rattle.typing.specs.declared.endings.Endings.{Endings}

-- a slot, on either side: the number is the place's in its own body
abbrev pub kind_of : (d : Side) → Slot → Kind d
kind_of d Unbound = unbound
kind_of d (Qubit l) = qubit (record { no = l })
kind_of d ABool = bool tt
kind_of d Reference = ref tt

-- the place of the qubit that a slot holds
abbrev pub place_of : Slot → Option ℕ
place_of Unbound = None
place_of (Qubit l) = Some l
place_of ABool = None
place_of Reference = None

abbrev pub holds_qubit : Slot → Bool
holds_qubit Unbound = false
holds_qubit (Qubit l) = true
holds_qubit ABool = false
holds_qubit Reference = false

abbrev pub slot_of : Env → ℕ → Slot
slot_of e x = get_or e.slots x Unbound

abbrev pub bound : Env → ℕ → Slot → Env
bound e x v = record { slots = set e.slots x v; free = e.free }

-- what a block leaves in a slot, from what the slot held on entry
abbrev pub left_of : Slot → Slot → Slot
left_of v w = chosen (is_classical (kind_of device w) && not (is_classical (kind_of device v))) Unbound w

-- An environment, of a body that has so many places: slot by slot and place by place. A qubit is at one of the places.
pub record EnvIs {d : Side} (places : ℕ) (e : Env) (Γ : Environment d) : Type 0 where
  pub count : length e.slots ≡ 32
  pub long : length Γ.slots ≡ 32
  pub wide : length Γ.free ≡ places
  pub slots : (x : ℕ) → x < 32 → slot Γ.slots x ≡ kind_of d (slot_of e x)
  pub there : (x l : ℕ) → x < 32 → slot_of e x ≡ Qubit l → l < places
  pub free : (l : ℕ) → get_or Γ.free l false ≡ has e.free l

-- the set holds the places that are inside, and they are places of the body
pub record Within {d : Side} (inside : LocationSet) (places : ℕ) (C : Context d) : Type 0 where
  pub same : (l : Place d) → C.inside l ≡ has inside l.no
  pub few : (l : ℕ) → has inside l ≡ true → l < places

-- of each function that the body may call, which arguments it ends with: number 8 * f + i for argument i of function f
pub record Knows (endings : Endings) (S : Scope) (gs : List Signature) : Type 0 where
  pub few : length S.earlier ≤ 15
  pub most : (f : ℕ) → f < length S.earlier → ((function S.earlier f).m ≤ 8) × ((function S.earlier f).m ≤ (function S.earlier f).k)
  pub same : (f : ℕ) → f < length S.earlier → (signature gs f).m ≡ (function S.earlier f).m
  pub kept : (f i : ℕ) → f < length S.earlier → i < (function S.earlier f).m
      → has endings.kept (8 * f + i) ≡ is_qubit_at (slot (signature gs f).ends.slots i) (param i)

-- what a test for a qubit says: its place, or the refusal
abbrev pub place_said : {d : Side} → Result ℕ Refusal → Check (Place d)
place_said (Ok l) = ok (record { no = l })
place_said (Err z) = refused z

-- what was typed up to p: its environment, or its refusal
pub data Answers {d : Side} (places p : ℕ) (m : Check (TypedBlock d)) (r : Result Typed Refusal) : Type 0 where
  goes : {t : TypedBlock d} {e : Typed} → m ≡ ok t → r ≡ Ok e → e.next ≡ p → EnvIs places e.env t.env → Answers places p m r
  stops : {z : Refusal} → m ≡ refused z → r ≡ Err z → Answers places p m r
