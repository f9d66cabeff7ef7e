-- What the iterator over the bits of a word gives at each call.
use Rattle.std.specs.Prelude.{Option, MatchOption, ◌≡◌, ℕ}
use Rattle.sets.specs.declared.words.Bits.{Bits}
use Rattle.sets.specs.Sets.{Lowest, Cleared}

-- the lowest bit of what is left, and what is left then; nothing where no bit is left
abbrev pub next_bit : Bits → Option ℕ → Bits → Type 0
next_bit s r t = MatchOption r ((s.0 ≡ 0) × (t.0 ≡ 0)) (λ x. Lowest s.0 x × Cleared s.0 t.0)
