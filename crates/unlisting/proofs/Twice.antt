-- The text is read twice: once to count, and where the buffer is long enough once more into it. Both readings are those of the definition, so the second gives
-- what the first counted.
use mathlib.Core.Bool.{Bool, true, false}
use mathlib.Core.List.{List, ◌++◌}
use mathlib.Core.Path.{◌≡◌, refl, sym, ap, ◌∙◌}
use native.Mathlib.Nat.{zero-add}
use native.Mathlib.Omega.{arith}
use Prim.Native.Nat.{ℕ, ◌+◌, ◌<◌, ◌≤◌}
use borrow.Author.Tests.{le-leb, lt-leb}
use lib.Dec.{leb}
use lib.ListN.{length, drop}
use lib.Seq.{sets, sets-eq}
use Rattle.answers.specs.Check.{Check, ok, refused, refusal, within, ◌>>=◌, ◌>>◌, need}
use Rattle.answers.specs.Said.{said}
use Rattle.answers.specs.declared.File.TheVariants.{Listing}
use Rattle.answers.specs.declared.Refusal.{Refusal}
use Rattle.std.specs.Prelude.{Result, Err}
use Rattle.rules.specs.Words.{Text}
use Rattle.rules.specs.Unlisting.{unlisted}
use Rattle.rules.specs.Promises.{over, Copied, copied, read_listing_of}
use Rattle.listing.specs.Whole.{told}
use Rattle.unlisting.specs.Lines.{length_of}

-- what stands at a buffer's start where it is long enough
over_sets : (s buffer : List ℕ) → length s ≤ length buffer → sets buffer 0 s ≡ over s buffer
over_sets s buffer h =
    let z : 0 + length s ≡ length s = zero-add (length s) in
    sets-eq s buffer 0 (omega arith) ∙ ap (λ (n : ℕ). s ++ drop n buffer) z

-- the promise, over what reading gave
abbrev promised : Check (List ℕ) → List ℕ → Copied
promised m buffer = copied buffer (within Listing m >>= λ s. need (leb (length s) (length buffer)) 24 0 >> ok s)

abbrev answered : Check ℕ → List ℕ → Copied
answered a after = record { answer = a; buffer = after }

module _ (t : Text) (buffer : List ℕ) where
  -- 27
  pub counted_no : (x : Refusal) → refused x ≡ length_of (within Listing (unlisted t)) → (r : Result ℕ Refusal) → said r ≡ refused x
      → told r buffer ≡ read_listing_of t buffer
  unfolding length_of ◌>>=◌ ◌>>◌
  counted_no x h r e = ap (λ (a : Check ℕ). answered a buffer) e ∙ go (unlisted t) h
    where
      go : (m : Check (List ℕ)) → refused x ≡ length_of (within Listing m) → answered (refused x) buffer ≡ promised m buffer
      go (ok s) q = absurd (let z : ◌≡◌ {A = ℕ} 0 1 = cc in omega arith)
      go (refused y) q = ap (λ (a : Check ℕ). answered a buffer) q

  module _ (n : ℕ) (h : ok n ≡ length_of (within Listing (unlisted t))) where
    -- 24
    pub counted_short : (x : Refusal) → length buffer < n → x ≡ refusal 24 0 → told (Err x) buffer ≡ read_listing_of t buffer
    unfolding length_of ◌>>=◌ ◌>>◌
    counted_short x l f = go (unlisted t) h
      where
        go : (m : Check (List ℕ)) → ok n ≡ length_of (within Listing m) → told (Err x) buffer ≡ promised m buffer
        go (ok s) q =
            let z : n ≡ length s = cc in
            let b : leb (length s) (length buffer) ≡ false = lt-leb (length s) (length buffer) (omega arith) in
            ap (λ (y : Refusal). answered (refused y) buffer) f ∙ ap (λ (v : Bool). copied buffer (need v 24 0 >> ok s)) (sym b)
        go (refused y) q = absurd (let z : ◌≡◌ {A = ℕ} 0 1 = cc in omega arith)

    -- the second reading
    pub counted_written : n ≤ length buffer → (r : Result ℕ Refusal) (after : List ℕ) → said r ≡ length_of (within Listing (unlisted t))
        → ((s : List ℕ) → unlisted t ≡ ok s → after ≡ sets buffer 0 s) → told r after ≡ read_listing_of t buffer
    unfolding length_of ◌>>=◌ ◌>>◌
    counted_written l r after = go (unlisted t) h
      where
        go : (m : Check (List ℕ)) → ok n ≡ length_of (within Listing m) → said r ≡ length_of (within Listing m)
            → ((s : List ℕ) → m ≡ ok s → after ≡ sets buffer 0 s) → told r after ≡ promised m buffer
        go (ok s) q a k =
            let z : n ≡ length s = cc in
            let b : leb (length s) (length buffer) ≡ true = le-leb (length s) (length buffer) (omega arith) in
            ap (λ (x : Check ℕ). answered x after) a ∙ ap (answered (ok (length s))) (k s refl ∙ over_sets s buffer (omega arith))
            ∙ ap (λ (v : Bool). copied buffer (need v 24 0 >> ok s)) (sym b)
        go (refused y) q a k = absurd (let z : ◌≡◌ {A = ℕ} 0 1 = cc in omega arith)
