-- The turns dealt out one by one, in the manner of what is still to come: the records of the rest, written after those that are written, the machine that
-- the rest ends with, and the moved steps of the rest on top of those counted are those of the whole.
use mathlib.Core.Bool.{◌&&◌}
use mathlib.Core.List.{List, ◌∷◌, map}
use mathlib.Core.Path.{◌≡◌, refl, sym, ap, ◌∙◌}
use native.Mathlib.Omega.{arith}
use Prim.Native.Nat.{ℕ, suc, ◌+◌, ◌*◌, ◌/◌, ◌≤◌, ◌<◌}
use lib.Dec.{eqb}
use lib.ListN.{length, drop, drop_of_length-le}
use lib.Seq.{sets, length-sets, drop-cons}
use Rattle.rules.specs.Basics.{byte, chosen}
use Rattle.rules.specs.Device.{Device}
use Rattle.rules.specs.Syntax.{Program}
use Rattle.rules.specs.Run as run
use Rattle.rules.specs.Run.{Turn, Told, step_of, after, final, records, record_bytes, moved_by}
use Rattle.steps.specs.declared.Record.{Record}
use Rattle.steps.specs.Told.{record_of}
use Rattle.theory.specs.TheRun.{turn_of}
use Rattle.machine.specs.declared.turn.Players.{Players}
use Rattle.machine.specs.declared.turn.Machine.{Machine}
use Rattle.machine.specs.Running.{bytes_of, programs, Both, Holds, Turns, Dealt, Deals}
use Rattle.machine.proofs.Writing.{four_more}

-- what a record counts for job j
abbrev pub counts : ℕ → ℕ → Record → ℕ
counts b j r = chosen (eqb (b / 16) j && eqb r.code 0) 1 0

module _ (c : Players) (schedule before : List ℕ) (D : Device) (p q : Program) (M₀ : run.Machine) where
  -- the records from byte number i on
  abbrev ahead : ℕ → run.Machine → List Told
  ahead i M = records D (programs p q) (map turn_of (drop i schedule)) M

  -- i turns are dealt, the machine is m, ones and twos are the moved steps, now are the record bytes
  pub record Going (i : ℕ) (m : Machine) (ones twos : ℕ) (now : List ℕ) : Type 0 where
    pub M : run.Machine
    pub holds : Holds c D p q M m
    pub written : sets before 0 (record_bytes (records D (programs p q) (map turn_of schedule) M₀)) ≡ sets now (4 * i)
        (record_bytes (records D (programs p q) (map turn_of (drop i schedule)) M))
    pub ends : final D (programs p q) (map turn_of schedule) M₀ ≡ final D (programs p q) (map turn_of (drop i schedule)) M
    pub first : moved_by 1 (records D (programs p q) (map turn_of schedule) M₀) ≡ ones + moved_by 1 (records D (programs p q) (map turn_of (drop i schedule)) M)
    pub second : moved_by 2 (records D (programs p q) (map turn_of schedule) M₀) ≡ twos + moved_by 2
        (records D (programs p q) (map turn_of (drop i schedule)) M)

  pub going_start : (m : Machine) → Holds c D p q M₀ m → Going 0 m 0 0 before
  going_start m H = record { M = M₀; holds = H; written = refl; ends = refl; first = omega arith; second = omega arith }

  pub going_on : (i : ℕ) (m : Machine) (ones twos : ℕ) (now : List ℕ) (n : Machine) (r : Record) → i < length schedule → Both c D p q → Going i m ones twos now
      → Turns c m (byte schedule i) n r
      → Going (i + 1) n (ones + counts (byte schedule i) 1 r) (twos + counts (byte schedule i) 2 r) (sets now (4 * i) (bytes_of r))
  going_on i m ones twos now n r h B G T =
      let b : ℕ = byte schedule i in
      let N : run.Machine = after D (programs p q) (turn_of b) G.M in
      let t = T D p q G.M B G.holds in
      let e : drop i schedule ≡ b ∷ drop (i + 1) schedule = drop-cons schedule i 0 h ∙ ap (λ (k : ℕ). b ∷ drop k schedule) (plus_one i) in
      record {
        M = N;
        holds = t.0;
        written = G.written ∙ ap (λ (ss : List ℕ). sets now (4 * i) (record_bytes (records D (programs p q) (map turn_of ss) G.M))) e
            ∙ four_more now (4 * i) (4 * (i + 1)) (record_of (step_of D (programs p q) (turn_of b) G.M).answer) (record_bytes (ahead (i + 1) N)) (four_on i)
            ∙ ap (λ (w : Record). sets (sets now (4 * i) (bytes_of w)) (4 * (i + 1)) (record_bytes (ahead (i + 1) N))) (sym t.1);
        ends = G.ends ∙ ap (λ (ss : List ℕ). final D (programs p q) (map turn_of ss) G.M) e;
        first = G.first ∙ ap (λ (ss : List ℕ). ones + moved_by 1 (records D (programs p q) (map turn_of ss) G.M)) e
            ∙ ap (λ (w : Record). ones + (counts b 1 w + moved_by 1 (ahead (i + 1) N))) (sym t.1) ∙ together ones (counts b 1 r) _;
        second = G.second ∙ ap (λ (ss : List ℕ). twos + moved_by 2 (records D (programs p q) (map turn_of ss) G.M)) e
            ∙ ap (λ (w : Record). twos + (counts b 2 w + moved_by 2 (ahead (i + 1) N))) (sym t.1) ∙ together twos (counts b 2 r) _;
      }
    where
      plus_one : (k : ℕ) → suc k ≡ k + 1
      plus_one k = omega arith

      four_on : (k : ℕ) → 4 * (k + 1) ≡ 4 * k + 4
      four_on k = omega arith

      together : (x y z : ℕ) → x + (y + z) ≡ x + y + z
      together x y z = omega arith

  pub going_done : (i : ℕ) (m : Machine) (ones twos : ℕ) (now : List ℕ) → length schedule ≤ i → Going i m ones twos now
      → Dealt c D p q M₀ (map turn_of schedule) before m (record { first = ones; second = twos }) now
  going_done i m ones twos now h G =
      let e = drop_of_length-le schedule h in
      let f : final D (programs p q) (map turn_of schedule) M₀ ≡ G.M = G.ends ∙ ap (λ (ss : List ℕ). final D (programs p q) (map turn_of ss) G.M) e in
      record {
        written = sym (G.written ∙ ap (λ (ss : List ℕ). sets now (4 * i) (record_bytes (records D (programs p q) (map turn_of ss) G.M))) e);
        maps = rw f G.holds.maps;
        long = rw f G.holds.long;
        first = sym (G.first ∙ ap (λ (ss : List ℕ). ones + moved_by 1 (records D (programs p q) (map turn_of ss) G.M)) e ∙ none_more ones);
        second = sym (G.second ∙ ap (λ (ss : List ℕ). twos + moved_by 2 (records D (programs p q) (map turn_of ss) G.M)) e ∙ none_more twos);
      }
    where
      none_more : (k : ℕ) → k + 0 ≡ k
      none_more k = omega arith

-- ---- the loop over the schedule, whatever the device, the programs and the machine are that the code's stand for
module _ (c : Players) (schedule before : List ℕ) (m₀ : Machine) where
  pub record Under (i : ℕ) (m : Machine) (ones twos : ℕ) (now : List ℕ) : Type 0 where
    pub few_ones : ones ≤ i
    pub few_twos : twos ≤ i
    pub long : length now ≡ length before
    pub going : (D : Device) (p q : Program) (M₀ : run.Machine) → Both c D p q → Holds c D p q M₀ m₀
        → Going c schedule before D p q M₀ i m ones twos now

  pub under_start : Under 0 m₀ 0 0 before
  under_start = record {
    few_ones = omega arith;
    few_twos = omega arith;
    long = refl;
    going = λ D p q M B H. going_start c schedule before D p q M m₀ H;
  }

  pub under_on : (i : ℕ) (m : Machine) (ones twos x y : ℕ) (now next : List ℕ) (n : Machine) (r : Record) → Under i m ones twos now → i < length schedule
      → Turns c m (byte schedule i) n r
      → x ≡ counts (byte schedule i) 1 r → x ≤ 1 → y ≡ counts (byte schedule i) 2 r → y ≤ 1 → next ≡ sets now (4 * i) (bytes_of r)
      → Under (i + 1) n (ones + x) (twos + y) next
  under_on i m ones twos x y now next n r U h T e k f l g = record {
    few_ones = let a = U.few_ones in omega (arith, a, k);
    few_twos = let a = U.few_twos in omega (arith, a, l);
    long = rw g (length-sets now (4 * i) (bytes_of r) ∙ U.long);
    going = λ D p q M B H. rw (e, f, g) (going_on c schedule before D p q M i m ones twos now n r h B (U.going D p q M B H) T);
  }

  pub under_done : (i : ℕ) (m : Machine) (ones twos : ℕ) (now : List ℕ) → length schedule ≤ i → Under i m ones twos now
      → Deals c m₀ schedule before m (record { first = ones; second = twos }) now
  under_done i m ones twos now h U D p q M B H = going_done c schedule before D p q M i m ones twos now h (U.going D p q M B H)
