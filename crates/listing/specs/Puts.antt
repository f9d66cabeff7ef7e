-- Text that is put where a writer stands, character by character. A character past the buffer's end goes nowhere, and the position is counted on, so that
-- putting a text measures it whatever the buffer is.
use Rattle.std.specs.Prelude.{List, [], ◌∷◌, ◌≡◌, ℕ, ◌+◌, ◌-◌, ◌^◌, set, min, length}
use Rattle.std.proofs.lemmas.List.Edits.{sets}
use Rattle.rules.specs.Words.{Text}
use Rattle.listing.specs.declared.writer.Writer.{Writer}

-- what a buffer holds, and where a text ends in it
pub record Page : Type 0 where
  pub bytes : List ℕ
  pub end : ℕ

abbrev pub page : Writer → Page
page w = record { bytes = w.buffer.now; end = w.end }

-- a position is a 64-bit number, and stays at the last of them
abbrev pub put_one : ℕ → Page → Page
put_one c p = record { bytes = set p.bytes p.end c; end = min (p.end + 1) (2 ^ 64 - 1) }

abbrev pub put_all : Text → Page → Page
put_all [] p = p
put_all (c ∷ t) p = put_all t (put_one c p)

-- the text is put into the writer's buffer, which it keeps
pub record Puts (before : Writer) (text : Text) (after : Writer) : Type 0 where
  pub same_buffer : after.buffer.ghost_name ≡ before.buffer.ghost_name
  pub page_after : page after ≡ put_all text (page before)

-- a text is put into a buffer from `at` on, up to r
pub record PutsAt (before : List ℕ) (at : ℕ) (text : Text) (r : ℕ) (after : List ℕ) : Type 0 where
  pub bytes : after ≡ sets before at text
  pub end : r ≡ at + length text

-- a text is put into a buffer from its start on, up to r
pub record Fills (before : List ℕ) (text : Text) (r : ℕ) (after : List ℕ) : Type 0 where
  pub filled : record { bytes = after; end = r } ≡ put_all text (record { bytes = before; end = 0 })
