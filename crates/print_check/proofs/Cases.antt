-- What is printed at the edges: no byte, 8,192 bytes of which a device has none, and any bundle of more bytes.
use Rattle.std.proofs.Common.{List, [], ◌∷◌, ◌≡◌, ℕ, ◌<◌, refl, sym, length, replicate}
use Rattle.answers.specs.Check.{◌>>=◌, ◌>>◌}
use Rattle.print_check.specs.Printed.{fits, files, decimal_by, numbers_line, printed_for, printed}
use Rattle.print_check.proofs.BundleLaws.{bad_long}
use Rattle.print_check.proofs.LineLaws.{line_bad}

none : printed [] ≡ 0x42 ∷ 0x41 ∷ 0x44 ∷ 0x0A ∷ []
unfolding fits files printed_for
none = refl

-- `NO 1 0`
full : printed (0 ∷ 0 ∷ 0x1F ∷ 0xFC ∷ replicate 8188 0) ≡ 0x4E ∷ 0x4F ∷ 0x20 ∷ 0x31 ∷ 0x20 ∷ 0x30 ∷ 0x0A ∷ []
unfolding fits files decimal_by numbers_line printed_for ◌>>=◌ ◌>>◌
full = refl

long : (s : List ℕ) → 8192 < length s → printed s ≡ 0x42 ∷ 0x41 ∷ 0x44 ∷ 0x0A ∷ []
long s h = sym (line_bad s (bad_long s h))
