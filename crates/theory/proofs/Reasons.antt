-- What an operation, a call and a step are refused with: one of the document's reasons, 11 to 16 or 21, at the statement's offset. So a record's first byte
-- tells moved (0), finished (1) and the reason apart, and typing refuses an operation where it stands. All of these are rows of a few checks, and a row
-- refuses with what one of its checks refuses with.
use mathlib.Core.Bool.{Bool, true, false, not, ◌&&◌}
use mathlib.Core.List.{List, [], ◌∷◌, map}
use mathlib.Core.Logic.{inl, inr}
use mathlib.Core.Option.{Option, none, some}
use mathlib.Core.Path.{◌≡◌, refl, ap, subst}
use native.Mathlib.Omega.{arith}
use Prim.Native.Nat.{ℕ, ◌≤◌}
use lib.Dec.{eqb}
use lib.ListN.{length, drop}
use Rattle.answers.specs.declared.Refusal.{Refusal}
use Rattle.answers.specs.Check.{Check, ok, refused, refusal, ◌>>=◌, ◌>>◌, need}
use Rattle.answers.proofs.Laws.{ok_not_refused}
use Rattle.rules.specs.Basics.{all, distinct}
use Rattle.rules.specs.Region.{Region}
use Rattle.rules.specs.Path.{route}
use Rattle.rules.specs.Syntax.{Side, device, Place, Op, init, free, gate, measure, merge, new_ref, get_ref, set_ref, constant, op, if, while, call, Function}
use Rattle.rules.specs.Slots.{Slot, unbound, qubit, bool, ref, slot, need_qubit, need_bool, need_ref, Setting}
use Rattle.rules.specs.Slots.{Act, quiet, takes, gives, merges, perform, arguments_at, callable}
use Rattle.rules.specs.Commands.{need_route}
use Rattle.rules.specs.Machine.{Frame, locate, Item, run, return, item_offset, floor, edges_of, move}
use Rattle.theory.specs.TheRun.{Reason}

-- a reason is neither moved nor finished
pub reason_above : {n : ℕ} → Reason n → 2 ≤ n
reason_above (inl h) = let z = h.0 in omega arith
reason_above (inr h) = omega arith

pub reason_few : {n : ℕ} → Reason n → n ≤ 21
reason_few (inl h) = let z = h.1 in omega arith
reason_few (inr h) = omega arith

-- what stands at o gives a value, or is refused at o for a reason
pub data Reasoned {A : Type 0} (o : ℕ) : Check A → Type 0 where
  gives_value : {a : A} → Reasoned o (ok a)
  reason : {n : ℕ} → Reason n → Reasoned o (refused (refusal n o))

-- the reasons, by the words of their numbers
kind : Reason 11
kind = inl (omega arith, omega arith)

bound : Reason 12
bound = inl (omega arith, omega arith)

outside : Reason 13
outside = inl (omega arith, omega arith)

taken : Reason 14
taken = inl (omega arith, omega arith)

twice : Reason 15
twice = inl (omega arith, omega arith)

elsewhere : Reason 16
elsewhere = inl (omega arith, omega arith)

no_path : Reason 21
no_path = inr refl

then_row : {A B : Type 0} {o : ℕ} {m : Check A} {n : Check B} → Reasoned o m → Reasoned o n → Reasoned o (m >> n)
unfolding ◌>>◌
then_row gives_value k = k
then_row (reason h) k = reason h

bind_row : {A B : Type 0} {o : ℕ} {m : Check A} {f : A → Check B} → Reasoned o m → ((a : A) → Reasoned o (f a)) → Reasoned o (m >>= f)
unfolding ◌>>=◌
bind_row (gives_value {a = a}) k = k a
bind_row (reason h) k = reason h

need_row : (b : Bool) (n o : ℕ) → Reason n → Reasoned o (need b n o)
need_row true n o h = gives_value
need_row false n o h = reason h

refuses : {A : Type 0} (n o : ℕ) → Reason n → Reasoned {A = A} o (refused (refusal n o))
refuses n o h = reason h

number_of : {A : Type 0} → Check A → ℕ
number_of (ok a) = 0
number_of (refused r) = r.number

pub reason_of : {A : Type 0} {o : ℕ} {m : Check A} {r : Refusal} → Reasoned o m → m ≡ refused r → Reason r.number
unfolding number_of
reason_of gives_value e = ok_not_refused e
reason_of (reason h) e = subst Reason (ap number_of e) h

module _ {t : Side} {B : Type 0} where
  qubit_row : (v : Slot t B) (o : ℕ) → Reasoned o (need_qubit v o)
  qubit_row unbound o = refuses 11 o kind
  qubit_row (qubit l) o = gives_value
  qubit_row (bool b) o = refuses 11 o kind
  qubit_row (ref b) o = refuses 11 o kind

  pub bool_row : (v : Slot t B) (o : ℕ) → Reasoned o (need_bool v o)
  bool_row unbound o = refuses 11 o kind
  bool_row (qubit l) o = refuses 11 o kind
  bool_row (bool b) o = gives_value
  bool_row (ref b) o = refuses 11 o kind

  pub ref_row : (v : Slot t B) (o : ℕ) → Reasoned o (need_ref v o)
  ref_row unbound o = refuses 11 o kind
  ref_row (qubit l) o = refuses 11 o kind
  ref_row (bool b) o = refuses 11 o kind
  ref_row (ref b) o = gives_value

route_row : (p : Option (List ℕ)) (o : ℕ) → Reasoned o (need_route p o)
route_row none o = refuses 21 o no_path
route_row (some p) o = gives_value

module _ {s t : Side} {B : Type 0} (W : Setting s t B) (o : ℕ) (φ : List (Slot t B)) where
  bindable : (x : ℕ) → Reasoned o (need (W.may_bind (slot φ x)) 12 o)
  bindable x = need_row (W.may_bind (slot φ x)) 12 o bound

  pub perform_row : (a : Op s) → Reasoned o (perform W o φ a)
  perform_row (init q x l) =
      then_row (bindable x)
      (then_row (need_row (W.inside (W.named l)) 13 o outside) (then_row (need_row (W.is_free (W.named l)) 14 o taken) gives_value))
  perform_row (free x) = bind_row (qubit_row (slot φ x) o) λ l. gives_value
  perform_row (gate g x) = bind_row (qubit_row (slot φ x) o) λ l. gives_value
  perform_row (measure y b x) = then_row (bindable y) (bind_row (qubit_row (slot φ x) o) λ l. gives_value)
  perform_row (merge y b x e z) =
      then_row (bindable y)
      (bind_row (qubit_row (slot φ x) o) λ l. bind_row (qubit_row (slot φ z) o) λ k. then_row (need_row (not (eqb x z)) 15 o twice) gives_value)
  perform_row (new_ref r y) = then_row (bindable r) (bind_row (bool_row (slot φ y) o) λ v. gives_value)
  perform_row (get_ref y r) = then_row (bindable y) (bind_row (ref_row (slot φ r) o) λ v. gives_value)
  perform_row (set_ref r y) = bind_row (ref_row (slot φ r) o) λ old. bind_row (bool_row (slot φ y) o) λ v. gives_value
  perform_row (constant y v) = then_row (bindable y) gives_value

  arguments_row : (xs : List ℕ) (ls : List (Place t)) → Reasoned o (arguments_at W o φ xs ls)
  arguments_row [] ls = gives_value
  arguments_row (x ∷ xs) [] = gives_value
  arguments_row (x ∷ xs) (l ∷ ls) =
      bind_row (qubit_row (slot φ x) o) λ k. then_row (need_row (eqb k.no l.no) 16 o elsewhere) (arguments_row xs ls)

  pub callable_row : (ls : List (Place t)) (xs : List ℕ) → Reasoned o (callable W o φ ls xs)
  callable_row ls xs =
      then_row (need_row (all W.inside ls) 13 o outside)
      (then_row (need_row (distinct (map (λ l. l.no) ls) && distinct xs) 15 o twice)
      (then_row (arguments_row xs ls) (need_row (all W.is_free (drop (length xs) ls)) 14 o taken)))

module _ (R : Region) (fs : List Function) (v : Bool) (free' : ℕ → Bool) where
  edges_row : (a : Act device) (o : ℕ) → Reasoned o (edges_of R fs v free' a o)
  edges_row quiet o = gives_value
  edges_row (takes q l) o = gives_value
  edges_row (gives l) o = gives_value
  edges_row (merges b l e k) o = bind_row (route_row (route R free' l.no k.no) o) λ p. gives_value

  -- a step that is refused has a reason
  pub move_reasoned : (φ : Frame) (φs : List Frame) (i : Item) (is : List Item) → Reasoned (item_offset i) (move R fs v free' φ φs i is)
  move_reasoned φ φs (run σ (op o a)) is =
      bind_row (perform_row (floor R fs v free' σ) o φ a) λ d. bind_row (edges_row d.act o) λ e. gives_value
  move_reasoned φ φs (run σ (if o y b c)) is = bind_row (bool_row (slot φ y) o) λ w. gives_value
  move_reasoned φ φs (run σ (while o r b)) is = bind_row (ref_row (slot φ r) o) λ w. gives_value
  move_reasoned φ φs (run σ (call o f ls xs)) is = then_row (callable_row (floor R fs v free' σ) o φ (map (locate σ) ls) xs) gives_value
  move_reasoned φ [] (return o ls xs) is = gives_value
  move_reasoned φ (χ ∷ φs) (return o ls xs) is = gives_value
