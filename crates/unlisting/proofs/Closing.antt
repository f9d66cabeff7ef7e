-- A block ends: its length word is put where 0 has stood, in front of its bytes. The numbers say where that is, and the bytes behind it are the block's.
use mathlib.Core.List.{List, [], ◌∷◌, ◌++◌, append_assoc}
use mathlib.Core.Path.{◌≡◌, refl, ap, ◌∙◌}
use native.Mathlib.Omega.{arith}
use Prim.Native.Nat.{ℕ, ◌+◌, ◌-◌, ◌/◌, ◌%◌, ◌<◌, ◌≤◌}
use lib.ListN.{get_or, length, length-append}
use lib.Seq.{sets}
use Rattle.rules.specs.Unlisting.{Opened, Sofar, sized}
use Rattle.standing.specs.declared.state.Open.{Open}
use Rattle.standing.specs.declared.state.Standing.{Standing}
use Rattle.standing.specs.Numbers.{no_block}
use Rattle.standing.specs.Means.{outside, laid, Blocks, Means}
use Rattle.unlisting.specs.Lines.{Closes}
use Rattle.standing.proofs.Meaning.{sets_word, block_depth, block_blocks, block_used}

-- what is kept of the innermost block
abbrev pub innermost_open : Standing → Open
innermost_open c = get_or c.blocks (c.depth - 1) no_block

module _ (c : Standing) (p : Sofar) (b : Opened) (bs : List Opened) (m : Means c p) (e : p.open_blocks ≡ b ∷ bs) where
  -- where the innermost block's length word stands
  block_word : (innermost_open c).word ≡ 6 + length (outside bs ++ b.before)
  unfolding Blocks
  block_word =
      let d : c.depth - 1 ≡ length bs = omega (arith, block_depth c p b bs m e) in
      ap (λ (i : ℕ). (get_or c.blocks i no_block).word) d ∙ ap (λ (x : Open). x.word) (block_blocks c p b bs m e).0

  -- how many bytes stand behind it
  block_long : c.used - (innermost_open c).word - 2 ≡ length p.bytes
  block_long = omega (arith, block_word, block_used c p b bs m e, length-append (outside bs) b.before)

  -- whether its else is due
  pub block_due : (innermost_open c).due ≡ b.due
  unfolding Blocks
  block_due =
      let d : c.depth - 1 ≡ length bs = omega (arith, block_depth c p b bs m e) in
      ap (λ (i : ℕ). (get_or c.blocks i no_block).due) d ∙ ap (λ (x : Open). x.due) (block_blocks c p b bs m e).0

-- an open block is there
pub innermost : (c : Standing) (p : Sofar) → Means c p → 0 < c.depth → (b : Opened) × (bs : List Opened) × (p.open_blocks ≡ b ∷ bs)
innermost c p m l = go p.open_blocks m.depth
  where
    go : (os : List Opened) → c.depth ≡ length os → (b : Opened) × (bs : List Opened) × (os ≡ b ∷ bs)
    go [] d = absurd (omega arith)
    go (b ∷ bs) d = (b, bs, refl)

pub innermost_word : (c : Standing) (p : Sofar) → Means c p → 0 < c.depth → (innermost_open c).word + 2 ≤ c.used
innermost_word c p m l =
    let i : (b : Opened) × (bs : List Opened) × (p.open_blocks ≡ b ∷ bs) = innermost c p m l in
    omega (arith, block_word c p i.0 i.1 m i.2, block_used c p i.0 i.1 m i.2, length-append (outside i.1) i.0.before)

-- the bytes laid down, with the length word apart
laid_around : (X B Y : List ℕ) (v w : ℕ) (Z : List ℕ) → ((X ++ (B ++ (v ∷ w ∷ []))) ++ Y) ++ Z ≡ (X ++ B) ++ (v ∷ w ∷ (Y ++ Z))
laid_around X B Y v w Z = simp append_assoc

-- the length word put
abbrev two_bytes : ℕ → List ℕ
two_bytes n = n / 256 ∷ n % 256 ∷ []

pub closes_by : (c : Standing) (before after : List ℕ)
    → (let w : ℕ = (innermost_open c).word in after ≡ sets before w (two_bytes (c.used - w - 2))) → Closes c before after
unfolding Closes
closes_by c before after h = λ p b bs D more m e q.
    let X : List ℕ = outside bs ++ b.before in
    let around : laid p ++ more ≡ X ++ (0 ∷ 0 ∷ (p.bytes ++ more)) =
    ap (λ (os : List Opened). (outside os ++ p.bytes) ++ more) e ∙ laid_around (outside bs) b.before p.bytes 0 0 more in
    h
    ∙ ap (λ (n : ℕ). sets before ((innermost_open c).word) (two_bytes n)) (block_long c p b bs m e)
    ∙ ap (λ (w : ℕ). sets before w (two_bytes (length p.bytes))) (block_word c p b bs m e)
    ∙ ap (λ (l : List ℕ). sets l (6 + length X) (two_bytes (length p.bytes))) (q ∙ ap (sets D 6) around)
    ∙ sets_word D 6 X 0 0 (length p.bytes / 256) (length p.bytes % 256) (p.bytes ++ more)
    ∙ ap (sets D 6) (append_assoc (outside bs) b.before (sized p.bytes ++ more))
