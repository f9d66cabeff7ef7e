-- The paper's rules, narrowed as the document says, under the paper's names: Figures 10, 11 and 14 derive typings, Figure 12 command sequences.
-- Statements 8 and 13 are house forms (T-Deref bound to a slot, T-Bool). Each command stands before those that follow it, as in Definition 3, so
-- C-Concat is part of every rule of Figure 12.
use Rattle.std.specs.Prelude.{Bool, true, false, List, [], ◌∷◌, map, ◌≢◌, ◌≡◌, ℕ, ◌<◌, get_or, set, length, drop}
use Rattle.rules.specs.Basics.{all, up_to, distinct}
use Rattle.rules.specs.Region.{Region}
use Rattle.rules.specs.Path.{Path}
use Rattle.rules.specs.Syntax.{Side, device, parameter, Place, at, Preparation, plain, magic}
use Rattle.rules.specs.Syntax.{Op, init, free, gate, measure, merge, new_ref, get_ref, set_ref, constant}
use Rattle.rules.specs.Syntax.{Statement, op, if, while, call, Statements, done, ◌⨾◌, Block, block, Function, Program}
use Rattle.rules.specs.Slots.{unbound, qubit, bool, ref, slot}
use Rattle.rules.specs.Commands.{Commands, ε, alloc, release, connect, either, repeat, ◌then◌, commands_at}
use Rattle.rules.specs.Typing.{Kind, Env, Typed, Signature, Context, signature, all_stay, narrowed, entry, body_context, signature_of, main_context, start}

-- each value stored at its number
abbrev pub stored : {A : Type 0} → List A → List ℕ → List A → List A
stored [] ns φ = φ
stored (v ∷ vs) [] φ = φ
stored (v ∷ vs) (n ∷ ns) φ = set (stored vs ns φ) n v

module _ {s : Side} where
  abbrev pub bind : Env s → ℕ → Kind s → Env s
  bind Γ x v = record { slots = set Γ.slots x v; free = Γ.free }

  abbrev pub take : Env s → Place s → Env s
  take Γ l = record { slots = Γ.slots; free = set Γ.free l.no false }

  abbrev pub give : Env s → Place s → Env s
  give Γ l = record { slots = Γ.slots; free = set Γ.free l.no true }

  abbrev pub Free : Env s → Place s → Type 0
  Free Γ l = get_or Γ.free l.no false ≡ true

  -- a callee's kind at the call's places
  abbrev pub kind_at : List (Place s) → Kind parameter → Kind s
  kind_at ls unbound = unbound
  kind_at ls (qubit p) = qubit (at ls p.no)
  kind_at ls (bool b) = bool b
  kind_at ls (ref b) = ref b

  -- T-Call's environment: the callee's, its parameters turned into the call's places, stands for what the call named
  abbrev pub substituted : Signature → List (Place s) → List ℕ → Env s → Env s
  substituted g ls xs Γ = record {
    slots = stored (up_to 0 g.m λ i. kind_at ls (slot g.ends.slots i)) xs Γ.slots;
    free = stored g.ends.free (map (λ l. l.no) ls) Γ.free;
  }

  -- `Γ ⊢ a ⇒ Δ | c` for an operation at offset o
  pub data OpRule (C : Context s) (Γ : Env s) (o : ℕ) : Op s → Env s → Commands s → Type 0 where
    T-Init : {x : ℕ} {l : Place s} → slot Γ.slots x ≡ unbound → C.inside l ≡ true → Free Γ l
        → OpRule C Γ o (init plain x l) (bind (take Γ l) x (qubit l)) (alloc plain l ε)
    T-MInit : {x : ℕ} {l : Place s} → slot Γ.slots x ≡ unbound → C.inside l ≡ true → Free Γ l
        → OpRule C Γ o (init magic x l) (bind (take Γ l) x (qubit l)) (alloc magic l ε)
    T-Free : {x : ℕ} {l : Place s} → slot Γ.slots x ≡ qubit l → OpRule C Γ o (free x) (bind (give Γ l) x unbound) (release l ε)
    T-Gate : {g x : ℕ} {l : Place s} → slot Γ.slots x ≡ qubit l → OpRule C Γ o (gate g x) Γ ε
    T-Meas1 : {y b x : ℕ} {l : Place s} → slot Γ.slots y ≡ unbound → slot Γ.slots x ≡ qubit l
        → OpRule C Γ o (measure y b x) (bind Γ y (bool tt)) ε
    T-Meas2 : {y b x e z : ℕ} {l k : Place s} → slot Γ.slots y ≡ unbound → slot Γ.slots x ≡ qubit l → slot Γ.slots z ≡ qubit k
        → x ≢ z
        → OpRule C Γ o (merge y b x e z) (bind Γ y (bool tt)) (connect o b l e k ε)
    T-MkRef : {r y : ℕ} → slot Γ.slots r ≡ unbound → slot Γ.slots y ≡ bool tt → OpRule C Γ o (new_ref r y) (bind Γ r (ref tt)) ε
    T-Deref : {y r : ℕ} → slot Γ.slots y ≡ unbound → slot Γ.slots r ≡ ref tt → OpRule C Γ o (get_ref y r) (bind Γ y (bool tt)) ε
    T-Assign : {r y : ℕ} → slot Γ.slots r ≡ ref tt → slot Γ.slots y ≡ bool tt → OpRule C Γ o (set_ref r y) (bind Γ r (ref tt)) ε
    T-Bool : {y : ℕ} {v : Bool} → slot Γ.slots y ≡ unbound → OpRule C Γ o (constant y v) (bind Γ y (bool tt)) ε

  -- argument i is a qubit at location i
  pub data Arguments (Γ : Env s) : List ℕ → List (Place s) → Type 0 where
    no_more : {ls : List (Place s)} → Arguments Γ [] ls
    and : {x : ℕ} {xs : List ℕ} {l : Place s} {ls : List (Place s)} → slot Γ.slots x ≡ qubit l → Arguments Γ xs ls
        → Arguments Γ (x ∷ xs) (l ∷ ls)

  pub record Callable (C : Context s) (Γ : Env s) (f : ℕ) (ls : List (Place s)) (xs : List ℕ) : Type 0 where
    pub earlier : f < length C.functions
    pub locations : length ls ≡ (signature C.functions f).k
    pub slots : length xs ≡ (signature C.functions f).m
    pub inside : all C.inside ls ≡ true
    pub different : distinct (map (λ l. l.no) ls) ≡ true
    pub different_slots : distinct xs ≡ true
    pub arguments : Arguments Γ xs ls
    pub others_free : all (λ l. get_or Γ.free l.no false) (drop (length xs) ls) ≡ true

mutual
  pub data StatementRule {s : Side} (C : Context s) : Env s → Statement s → Env s → Commands s → Type 0 where
    T-Op : {Γ Δ : Env s} {o : ℕ} {a : Op s} {c : Commands s} → OpRule C Γ o a Δ c → StatementRule C Γ (op o a) Δ c
    T-If : {Γ Δ : Env s} {o y : ℕ} {b b' : Block s} {c c' : Commands s} → slot Γ.slots y ≡ bool tt → BlockRule C Γ b Δ c
        → BlockRule C Γ b' Δ c'
        → StatementRule C Γ (if o y b b') Δ (either c c' ε)
    T-While : {Γ : Env s} {o r : ℕ} {b : Block s} {c : Commands s} → slot Γ.slots r ≡ ref tt → BlockRule C Γ b Γ c
        → StatementRule C Γ (while o r b) Γ (repeat c ε)
    T-Call : {Γ : Env s} {o f : ℕ} {ls : List (Place s)} {xs : List ℕ} → Callable C Γ f ls xs
        → StatementRule C Γ (call o f ls xs) (substituted (signature C.functions f) ls xs Γ)
        (commands_at (λ p. at ls p.no) (signature C.functions f).commands)

  pub data StatementsRule {s : Side} (C : Context s) : Env s → Statements s → Env s → Commands s → Type 0 where
    T-Unit : {Γ : Env s} → StatementsRule C Γ done Γ ε
    T-Seq : {Γ Δ Ε : Env s} {t : Statement s} {ts : Statements s} {c d : Commands s} → StatementRule C Γ t Δ c → StatementsRule C Δ ts Ε d
        → StatementsRule C Γ (t ⨾ ts) Ε (c then d)

  -- the last rule of Figure 14, as the document narrows it: only at a block's end, where bools and references go and no new qubit stays
  pub data BlockRule {s : Side} (C : Context s) : Env s → Block s → Env s → Commands s → Type 0 where
    T-Close : {Γ Δ : Env s} {o : ℕ} {ts : Statements s} {c : Commands s} → StatementsRule C Γ ts Δ c → all_stay Γ.slots Δ.slots ≡ true
        → BlockRule C Γ (block o ts) (record { slots = narrowed Γ.slots Δ.slots; free = Δ.free }) c

-- at the end of main's block bools and references go too, and any qubit may stay: T-Prog asks nothing of the environment that main ends with
pub data MainRule (C : Context device) : Env device → Block device → Env device → Commands device → Type 0 where
  T-Main : {Γ Δ : Env device} {o : ℕ} {ts : Statements device} {c : Commands device} → StatementsRule C Γ ts Δ c
      → MainRule C Γ (block o ts) (record { slots = narrowed Γ.slots Δ.slots; free = Δ.free }) c

-- each function by those before it
pub data FunctionsRule : List Function → List Signature → List Signature → Type 0 where
  T-NoFun : {gs : List Signature} → FunctionsRule [] gs gs
  T-Fundecl : {g : Function} {fs : List Function} {gs hs : List Signature} {d : Typed parameter}
      → BlockRule (body_context gs g) (entry g) g.body d.env d.commands → FunctionsRule fs (signature_of g d ∷ gs) hs
      → FunctionsRule (g ∷ fs) gs hs

-- `G | L ⊢ l ~ k`: a path over free locations of the region joins the ends
abbrev pub Linked : Region → List Bool → Place device → Place device → Type 0
Linked R L l k = (p : List ℕ) × Path R (λ i. get_or L i false) l.no k.no p

-- Figure 12
pub data Connects (R : Region) : List Bool → Commands device → List Bool → Type 0 where
  C-Empty : {L : List Bool} → Connects R L ε L
  C-Alloc : {L M : List Bool} {q : Preparation} {l : Place device} {c : Commands device} → get_or L l.no false ≡ true
      → Connects R (set L l.no false) c M
      → Connects R L (alloc q l c) M
  C-Free : {L M : List Bool} {l : Place device} {c : Commands device} → Connects R (set L l.no true) c M → Connects R L (release l c) M
  C-Merge : {L M : List Bool} {o b e : ℕ} {l k : Place device} {c : Commands device} → Linked R L l k → Connects R L c M
      → Connects R L (connect o b l e k c) M
  C-If : {L M N : List Bool} {a b c : Commands device} → Connects R L a M → Connects R L b M → Connects R M c N → Connects R L (either a b c) N
  C-Loop : {L M : List Bool} {a c : Commands device} → Connects R L a L → Connects R L c M → Connects R L (repeat a c) M

-- T-Prog, for the region of a job: functions and main are typed, all region locations free, and the commands connect. Main ends with `ends`, and the
-- qubits in it are those left live.
pub record ProgramRule (R : Region) (p : Program) (ends : Env device) (c : Commands device) : Type 0 where
  pub signatures : List Signature
  pub functions : FunctionsRule p.functions [] signatures
  pub main : MainRule (main_context R.owned signatures) (start R.owned) p.main ends c
  pub left : List Bool
  pub connects : Connects R R.owned c left
