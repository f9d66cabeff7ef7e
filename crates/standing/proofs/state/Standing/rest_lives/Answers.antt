-- Operand number n stands behind number n - 1; number 0, the statement's byte, is no operand.
use Rattle.std.proofs.Common.{ℕ, zero, suc, ◌+◌, ◌-◌, ◌≡◌, ap, ◌∙◌, arith}
use Rattle.rules.specs.declared.statements.Kind.{Kind}
use Rattle.rules.specs.Kinds.{byte_of}
use Rattle.standing.specs.declared.state.Standing.{Standing}
use Rattle.standing.specs.Numbers.{rest_lives}
use Rattle.standing.proofs.state.Standing.rest_lives.Goals as goal

module _ (s : Standing) (f : ℕ) where
  with_byte : (k : Kind) → rest_lives s (byte_of k) 1 f ≡ rest_lives s (byte_of k) 0 f
  with_byte k = grind arith

  with_operand : (k : Kind) (n m : ℕ) → m ≡ n - 1 → rest_lives s (byte_of k) (m + 1) f ≡ rest_lives s (byte_of k) n f
  with_operand k zero m e = ap (λ (i : ℕ). rest_lives s (byte_of k) i f) (omega arith) ∙ with_byte k
  with_operand k (suc n) m e = ap (λ (i : ℕ). rest_lives s (byte_of k) i f) (omega arith)

pub returns : goal.returns
returns c =
    let a = c.args in
    c.lives_behind.ensures ∙ with_operand a.self.now a.first a.kind a.n _ c.saturating_sub.ensures
