-- A text that is put from a buffer's start on: where it ends, and what the buffer holds where it has room. A position stays at the last 64-bit number, which
-- is past every buffer's end.
use Rattle.std.proofs.Common.{List, [], ◌∷◌, ◌++◌, ◌≡◌, ℕ, suc, refl, ap, ◌∙◌, ◌+◌, ◌-◌, ◌^◌, ◌≤◌, ◌<◌, min, length, set, drop, zero-add, arith}
use Rattle.std.proofs.lemmas.List.Edits.{sets, sets-eq}
use Rattle.rules.specs.Words.{Text}
use Rattle.rules.specs.Promises.{over}
use Rattle.listing.specs.Puts.{Page, put_one, put_all, Fills}

end_is : (t : Text) (p : Page) → p.end ≤ 2 ^ 64 - 1 → (put_all t p).end ≡ min (p.end + length t) (2 ^ 64 - 1)
end_is [] p l = omega arith
end_is (c ∷ t) p l = end_is t (put_one c p) (omega arith) ∙ omega arith

bytes_are : (t : Text) (p : Page) → p.end + length t ≤ 2 ^ 64 - 1 → (put_all t p).bytes ≡ sets p.bytes p.end t
bytes_are [] p l = refl
bytes_are (c ∷ t) p l =
    let e : min (p.end + 1) (2 ^ 64 - 1) ≡ suc p.end = omega arith in
    bytes_are t (put_one c p) (omega arith) ∙ ap (λ (i : ℕ). sets (set p.bytes p.end c) i t) e

module _ {before after : List ℕ} {t : Text} {r : ℕ} (f : Fills before t r after) where
  pub fills_end : r ≡ min (length t) (2 ^ 64 - 1)
  fills_end = ap (λ p. p.end) f.filled ∙ end_is t (record { bytes = before; end = 0 }) (omega arith) ∙ omega arith

  -- where it ends in the buffer it is put over the buffer's start
  pub fills_over : r ≤ length before → length before < 2 ^ 63 → (r ≡ length t) × (after ≡ over t before)
  fills_over l h =
      let e = fills_end in
      let k : r ≡ length t = omega arith in
      let m : 0 + length t ≤ length before = omega arith in (
        k,
        ap (λ p. p.bytes) f.filled ∙ bytes_are t (record { bytes = before; end = 0 }) (omega arith) ∙ sets-eq t before 0 m
            ∙ ap (λ (i : ℕ). t ++ drop i before) (zero-add (length t)),
      )
