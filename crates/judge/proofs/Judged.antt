-- What typing, the count and the walk say of a program is what the judgement says. Typing accepts what the rules derive, so the sizes that the count sums
-- up are those of the commands derived, and the walk goes over those commands.
use mathlib.Core.Bool.{Bool, true}
use mathlib.Core.List.{List}
use mathlib.Core.Path.{◌≡◌, refl, sym, ap, ◌∙◌}
use native.Mathlib.Decide.{dec_le}
use native.Mathlib.Omega.{arith}
use Prim.Native.Nat.{ℕ, ◌≤◌, ◌<◌, min}
use borrow.Author.Tests.{le-leb, lt-leb}
use lib.Dec.{leb}
use lib.ListN.{length, get_or}
use Rattle.std.specs.Prelude.{Some, None}
use Rattle.answers.specs.Check.{Check, ok, refused, refusal, ◌>>=◌, ◌>>◌, need}
use Rattle.answers.specs.declared.Refusal.{Refusal}
use Rattle.answers.proofs.Laws.{ok_not_refused}
use Rattle.answers.specs.declared.Counted.{Counted as Answer}
use Rattle.counting.specs.declared.Counted.{Counted}
use Rattle.counting.specs.Counting.{cap, Sizes, Counts}
use Rattle.rules.specs.Region.{Region}
use Rattle.rules.specs.Syntax.{device, Program}
use Rattle.rules.specs.Program.{read_program}
use Rattle.rules.specs.Commands.{size_of, walk}
use Rattle.rules.specs.Typing.{Typed, signature, type_program, live_in}
use Rattle.rules.specs.Promises.{judged}
use Rattle.theory.specs.Counts.{callees, block_size}
use Rattle.theory.specs.Exact.{Derives}
use Rattle.theory.proofs.Counts.{main_size, callee_size}
use Rattle.theory.proofs.ExactTyping.{exact_typing}
use Rattle.theory.proofs.WellRead.{well_read}
use Rattle.typing.specs.Functions.{typing}

-- a capped count is too large exactly where the count is
capped_small : (n : ℕ) → cap n ≤ 65535 → cap n ≡ n
capped_small n h = go (dec_le n 65536)
  where
    go : Dec (n ≤ 65536) → min n 65536 ≡ n
    go (yes l) = omega arith
    go (no l) = absurd (omega (arith, l, h))

capped_large : (n : ℕ) → 65535 < cap n → 65535 < n
capped_large n h = omega (arith, h)

zero_capped : (n : ℕ) → cap n ≡ 0 → n ≡ 0
zero_capped n h = omega (arith, h)

-- 20, 21 and the answer of a typed program
abbrev counts : Region → Typed device → Check Answer
counts R t =
    need (leb (size_of t.commands) 65535) 20 0 >> (walk R R.owned t.commands >> ok (record { count = size_of t.commands; live = live_in t.env }))

-- a refusal, whatever was asked for
refused_as : {A B : Type 0} {x y : Refusal} → ◌≡◌ {A = Check A} (refused x) (refused y) → ◌≡◌ {A = Check B} (refused x) (refused y)
refused_as {x = x} {y = y} e = let q : x ≡ y = cc in ap refused q

module _ (R : Region) (p : Program) where
  pub not_typed : (x : Refusal) → refused x ≡ typing R.owned p → refused x ≡ judged R p
  unfolding ◌>>◌ ◌>>=◌
  not_typed x e = go (type_program R.owned p) e
    where
      go : (m : Check (Typed device)) → ◌≡◌ {A = Check ℕ} (refused x) (m >>= λ t. ok (live_in t.env)) → refused x ≡ (m >>= counts R)
      go (ok d) e = ok_not_refused (sym e)
      go (refused y) e = refused_as e

  -- a typed program, with what the rules derive for it and the number that it leaves live
  pub record Judgeable (live : ℕ) : Type 0 where
    pub typed : Typed device
    pub types : type_program R.owned p ≡ ok typed
    pub derives : Derives R.owned p typed
    pub leaves : live ≡ live_in typed.env

  pub judgeable : (s : List ℕ) (live : ℕ) → read_program s ≡ ok p → ok live ≡ typing R.owned p → Judgeable live
  unfolding ◌>>=◌
  judgeable s live r e = go (type_program R.owned p) refl e
    where
      go : (m : Check (Typed device)) → type_program R.owned p ≡ m
          → ◌≡◌ {A = Check ℕ} (ok live) (m >>= λ t. ok (live_in t.env)) → Judgeable live
      go (ok d) q e = record { typed = d; types = q; derives = (exact_typing R.owned (length s) p d (well_read s p r)).0 q; leaves = cc }
      go (refused y) q e = ok_not_refused e

  module _ (s : List ℕ) (r : read_program s ≡ ok p) {live : ℕ} (j : Judgeable live) where
    abbrev pub sizes : ℕ → ℕ
    sizes = callees j.derives.signatures

    -- the derived commands' sizes fit the functions' bodies ..
    pub sizes_fit : Sizes p sizes
    sizes_fit = record { size = λ f h. callee_size p.functions 6 _ j.derives.signatures f (well_read s p r).functions j.derives.functions h }

    -- .. and main's
    commands_size : size_of j.typed.commands ≡ block_size sizes p.main
    commands_size = main_size _ _ _ p.main j.typed.commands j.derives.main

    module _ (c : Counted) (C : Counts p sizes c) where
      main_count : c.main ≡ cap (size_of j.typed.commands)
      main_count = C.main ∙ ap cap (sym commands_size)

      pub no_commands : (f : ℕ) → f < length p.functions → get_or c.functions f None ≡ Some 0
          → size_of (signature j.derives.signatures f).commands ≡ 0
      no_commands f h z = let q : Some (cap (sizes f)) ≡ Some 0 = sym (C.functions f h) ∙ z in zero_capped _ cc

      pub too_many : 65535 < c.main → refused (refusal 20 0) ≡ judged R p
      unfolding ◌>>◌ ◌>>=◌
      too_many h =
          let l : 65535 < size_of j.typed.commands = capped_large _ (rw main_count at h) in
          rw (j.types, lt-leb (size_of j.typed.commands) 65535 l) refl

      count_is : c.main ≤ 65535 → c.main ≡ size_of j.typed.commands
      count_is h = main_count ∙ capped_small _ (rw main_count at h)

      few : c.main ≤ 65535 → leb (size_of j.typed.commands) 65535 ≡ true
      few h = le-leb _ _ (rw (count_is h) at h)

      pub no_path : c.main ≤ 65535 → (x : Refusal) → ◌≡◌ {A = Check (Unit {0})} (refused x) (walk R R.owned j.typed.commands >> ok tt)
          → refused x ≡ judged R p
      unfolding ◌>>◌ ◌>>=◌
      no_path h x e = go (walk R R.owned j.typed.commands) refl e
        where
          go : (m : Check (List Bool)) → walk R R.owned j.typed.commands ≡ m → ◌≡◌ {A = Check (Unit {0})} (refused x) (m >> ok tt)
              → refused x ≡ judged R p
          go (ok L) q e = ok_not_refused (sym e)
          go (refused y) q e = rw (j.types, few h, q) (refused_as e)

      abbrev answer : Answer
      answer = record { count = c.main; live = live }

      pub accepted : c.main ≤ 65535 → ◌≡◌ {A = Check (Unit {0})} (ok tt) (walk R R.owned j.typed.commands >> ok tt) → ok answer ≡ judged R p
      unfolding ◌>>◌ ◌>>=◌
      accepted h e = go (walk R R.owned j.typed.commands) refl e
        where
          go : (m : Check (List Bool)) → walk R R.owned j.typed.commands ≡ m → ◌≡◌ {A = Check (Unit {0})} (ok tt) (m >> ok tt)
              → ok answer ≡ judged R p
          go (ok L) q e = ap ok (λ i. record { count = count_is h i; live = j.leaves i }) ∙ sym (rw (j.types, few h, q) refl)
          go (refused y) q e = ok_not_refused e
