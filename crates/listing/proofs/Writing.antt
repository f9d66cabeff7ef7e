-- The call's answers: a program's own refusal, 24 where the listing is longer than the buffer, and the listing over the buffer's start.
use Rattle.std.proofs.Common.{Bool, true, false, List, ◌≡◌, ℕ, sym, ap, ◌∙◌, ◌^◌, ◌<◌, ◌≤◌, length, arith}
use Rattle.std.specs.Prelude.{Ok, Err}
use borrow.Author.Tests.{lt-leb, le-leb}
use lib.Dec.{leb}
use Rattle.answers.specs.declared.Refusal.{Refusal}
use Rattle.answers.specs.declared.File.TheVariants.{Program as ProgramOf}
use Rattle.answers.specs.Check.{Check, ok, refused, refusal, in_file, ◌>>=◌, ◌>>◌, need, within}
use Rattle.answers.proofs.Laws.{ok_not_refused}
use Rattle.rules.specs.Syntax.{Program}
use Rattle.rules.specs.Words.{Text, written}
use Rattle.rules.specs.Program.{read_program}
use Rattle.rules.specs.Listing.{program_lines, listing}
use Rattle.rules.specs.Promises.{Copied, copied, write_listing_of}
use Rattle.listing.specs.Puts.{Fills}
use Rattle.listing.specs.Whole.{told}
use Rattle.listing.proofs.Filling.{fills_end, fills_over}

module _ (s buffer : List ℕ) where
  -- a file with a listing
  module _ {t : Text} (e : listing s ≡ ok t) where
    fits : (b : Bool) → leb (length t) (length buffer) ≡ b → write_listing_of s buffer ≡ copied buffer (need b 24 0 >> ok t)
    unfolding ◌>>=◌
    fits b f =
        ap (λ (m : Check Text). copied buffer (within (ProgramOf 0) m >>= λ u. need (leb (length u) (length buffer)) 24 0 >> ok u)) e
        ∙ ap (λ (x : Bool). copied buffer (need x 24 0 >> ok t)) f

    pub short_exit : {a b : List ℕ} {n : ℕ} {x : Refusal} → Fills a t n b → length buffer < n → x ≡ refusal 24 0
        → told (Err x) buffer ≡ write_listing_of s buffer
    unfolding ◌>>◌
    short_exit f l g =
        let n = fills_end f in
        ap (λ (y : Refusal). told (Err y) buffer) g ∙ sym (fits false (lt-leb (length t) (length buffer) (omega arith)))

    pub written_exit : {a b after : List ℕ} {n r : ℕ} → Fills a t n b → n ≤ length buffer → length buffer < 2 ^ 63 → Fills buffer t r after
        → told (Ok r) after ≡ write_listing_of s buffer
    unfolding ◌>>◌
    written_exit {after = after} f l m h =
        let n = fills_end f in
        let r = fills_end h in
        let o = fills_over h (omega arith) m in
        ap (λ (i : ℕ). told (Ok i) after) o.0
        ∙ ap (λ (b : List ℕ). told (Ok (length t)) b) o.1
        ∙ sym (fits true (le-leb (length t) (length buffer) (omega arith)))

-- what reading a file for no job said
abbrev Said : Check (Unit {0}) → Check Program → Type 0
Said said m = said ≡ within (ProgramOf 0) (m >> ok tt)

-- a file that is no program
pub refused_exit : (s buffer : List ℕ) (x : Refusal) → Said (refused x) (read_program s)
    → told (Err x) buffer ≡ write_listing_of s buffer
unfolding ◌>>◌ ◌>>=◌
refused_exit s buffer x e = go (read_program s) e
  where
    -- the call, by what reading gave
    call : Check Program → Copied
    call m =
        copied buffer
        (within (ProgramOf 0) (m >>= λ p. ok (written (program_lines s p))) >>= λ t. need (leb (length t) (length buffer)) 24 0 >> ok t)

    go : (m : Check Program) → Said (refused x) m → told (Err x) buffer ≡ call m
    go (ok p) g = ok_not_refused (sym g)
    go (refused r) g = let q : x ≡ in_file (ProgramOf 0) r = cc in ap (λ (y : Refusal). told (Err y) buffer) q
