-- What is asked of a schedule is that it is short and that no byte is no turn; the first that is none is told.
use mathlib.Core.Bool.{Bool, true, false}
use mathlib.Core.List.{List, [], ◌∷◌, map}
use mathlib.Core.Path.{◌≡◌, refl, sym, ap, ◌∙◌, subst}
use native.Mathlib.Decide.{dec_le}
use native.Mathlib.Omega.{arith}
use Prim.Native.Nat.{ℕ, zero, suc, ◌+◌, ◌≤◌, ◌<◌}
use borrow.Author.Tests.{le-leb, lt-leb}
use lib.ListN.{length}
use Rattle.std.specs.Prelude.{Option, Some, None, not, position}
use Rattle.std.specs.List.{position_from}
use Rattle.std.proofs.lemmas.Iterator.Adapters.{position_from-zero}
use Rattle.answers.specs.Check.{Check, ok, refused, refusal, in_file, ◌>>=◌, ◌>>◌, need, within}
use Rattle.answers.specs.declared.File.TheVariants.{Schedule}
use Rattle.answers.proofs.Laws.{ok_not_refused}
use Rattle.rules.specs.Basics.{all, byte}
use Rattle.rules.specs.Run.{Turn, turns}
use Rattle.rules.proofs.Tests.{and_left, and_right}
use Rattle.theory.proofs.TheRun.{turns_sound}
use Rattle.theory.specs.TheRun.{is_turn, turn_of}
use Rattle.machine.specs.Scheduled.{scheduled}

-- ---- from byte i on
unfoldable asked : ℕ → List ℕ → Check (Unit {0})
asked i s = within Schedule (turns 2 i s) >> ok tt

pub too_long : (s : List ℕ) → 4096 < length s → refused (in_file Schedule (refusal 22 0)) ≡ scheduled s
unfolding scheduled ◌>>◌ asked
too_long s h = rw (lt-leb (length s) 4096 h) refl

in_time : (s : List ℕ) → length s ≤ 4096 → scheduled s ≡ asked 0 s
unfolding scheduled ◌>>◌ asked
in_time s h = rw (le-leb (length s) 4096 h) refl

-- ---- the first byte that is no turn
abbrev pub no_turn : ℕ → Bool
no_turn b = not (is_turn b)

-- what is answered, where it stands at i, and where there is none
abbrev pub told : Option ℕ → Check (Unit {0})
told None = ok tt
told (Some i) = refused (in_file Schedule (refusal 23 i))

first_told : (s : List ℕ) (i : ℕ) → told (position_from no_turn i s) ≡ asked i s
unfolding asked ◌>>◌ ◌>>=◌
first_told [] i = refl
first_told (b ∷ s) i = by (is_turn b) refl (first_told s (suc i))
  where
    rest : Check (List Turn)
    rest = turns 2 (suc i) s >>= λ ts. ok (turn_of b ∷ ts)

    opened : turns 2 i (b ∷ s) ≡ (need (is_turn b) 23 i >> rest)
    opened = refl

    next : (m : Check (List Turn))
        → ◌≡◌ {A = Check (Unit {0})} (within Schedule m >> ok tt) (within Schedule (m >>= λ ts. ok (turn_of b ∷ ts)) >> ok tt)
    next (ok ts) = refl
    next (refused x) = refl

    by : (v : Bool) → is_turn b ≡ v → told (position_from no_turn (suc i) s) ≡ asked (suc i) s
        → told (position_from no_turn i (b ∷ s)) ≡ asked i (b ∷ s)
    by true e later =
        let k : suc i ≡ i + 1 = omega arith in
        rw (opened, e) (subst (λ (j : ℕ). told (position_from no_turn j s) ≡ asked (suc i) s) k later ∙ next (turns 2 (suc i) s))
    by false e later = rw (opened, e) refl

pub first_decides : (s : List ℕ) → length s ≤ 4096 → told (position no_turn s) ≡ scheduled s
first_decides s h = ap told (position_from-zero no_turn s) ∙ first_told s 0 ∙ sym (in_time s h)

-- ---- a schedule that may be run: its turns are those of its bytes
each_turn : (s : List ℕ) → all is_turn s ≡ true → (k : ℕ) → k < length s → is_turn (byte s k) ≡ true
each_turn [] h k l = absurd (omega (arith, l))
each_turn (b ∷ s) h zero l = and_left (is_turn b) (all is_turn s) h
each_turn (b ∷ s) h (suc k) l = each_turn s (and_right (is_turn b) (all is_turn s) h) k (omega (arith, l))

pub record Scheduled (s : List ℕ) : Type 0 where
  pub short : length s ≤ 4096
  pub turns_so : turns 2 0 s ≡ ok (map turn_of s)
  pub all_turns : (i : ℕ) → i < length s → is_turn (byte s i) ≡ true

pub may_run : (s : List ℕ) → ok tt ≡ scheduled s → Scheduled s
unfolding scheduled ◌>>◌ asked
may_run s e = long (dec_le (length s) 4096)
  where
    go : (h : length s ≤ 4096) (m : Check (List Turn)) → turns 2 0 s ≡ m → ◌≡◌ {A = Check (Unit {0})} (ok tt) (within Schedule m >> ok tt) → Scheduled s
    go h (ok ts) q e = let r = turns_sound s 0 ts q in record { short = h; turns_so = q ∙ ap ok r.0; all_turns = each_turn s r.1 }
    go h (refused x) q e = ok_not_refused e

    long : Dec (length s ≤ 4096) → Scheduled s
    long (yes h) = go h (turns 2 0 s) refl (e ∙ in_time s h)
    long (no h) = ok_not_refused (e ∙ sym (too_long s (omega (arith, h))))
