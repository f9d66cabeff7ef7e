use Rattle.std.proofs.Common.{ℕ, ◌+◌, ◌<◌, ◌≡◌, List, [], ◌∷◌, length, get_or, take, set, sym, ap, ◌∙◌, arith}
use Rattle.std.proofs.lemmas.List.{length-take-le, take_more, take_all}
use Rattle.std.proofs.lemmas.List.Edits.{sets}
use Rattle.standing.proofs.Meaning.{sets_behind}
use Rattle.unlisting.proofs.lines.put_bytes.Goals as goal

one_more : (D bytes : List ℕ) (at i : ℕ) → i < length bytes
    → set (sets D at (take i bytes)) (at + i) (get_or bytes i 0) ≡ sets D at (take (i + 1) bytes)
one_more D bytes at i l =
    let long : length (take i bytes) ≡ i = length-take-le i bytes (omega arith) in
    ap (λ (k : ℕ). set (sets D at (take i bytes)) (at + k) (get_or bytes i 0)) (sym long)
    ∙ sets_behind D at (take i bytes) (get_or bytes i 0 ∷ []) ∙ ap (sets D at) (sym (take_more bytes i 0 l))

pub loop-i-preserved : goal.loop-i-preserved
loop-i-preserved c =
    let a = c.args in
    c.put.ensures ∙ ap (λ (out : List ℕ). set out (a.at + c.loop-i.i) (get_or a.bytes.now c.loop-i.i 0)) c.loop-i.invariant
    ∙ one_more a.out.now a.bytes.now a.at c.loop-i.i c.loop-i-test.true

pub returns : goal.returns
returns c =
    let a = c.args in
    c.loop-i.invariant ∙ ap (sets a.out.now a.at) (take_all c.loop-i.i a.bytes.now c.loop-i-test.false)
