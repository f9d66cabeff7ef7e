-- What the walk needs of the kinds that it tells apart: which bytes they have.
use mathlib.Core.Logic.{◌⊎◌, inl, inr, ⊎_elim, ◌≢◌}
use mathlib.Core.Path.{◌≡◌, refl, sym, ap, ◌∙◌}
use native.Mathlib.Omega.{arith}
use Prim.Native.Nat.{ℕ, ◌<◌}
use Rattle.rules.specs.declared.statements.Kind.{Kind}
use Rattle.rules.specs.declared.statements.Kind.TheVariants.{Init, Magic, Free, Gate, Measure, Merge, Ref, Get, Set, Bool}
use Rattle.rules.specs.Kinds.{byte_of}
use Rattle.walking.specs.Quiet.{Silent}

pub byte_as : {k n : Kind} {b : ℕ} → byte_of k ≡ b → k ≡ n → b ≡ byte_of n
byte_as e h = sym e ∙ ap byte_of h

pub init_byte : {k : Kind} {b : ℕ} → byte_of k ≡ b → (k ≡ Init) ⊎ (k ≡ Magic) → b < 3
init_byte e = ⊎_elim (λ h. omega (arith, byte_as e h)) (λ h. omega (arith, byte_as e h))

-- an operation: it has no block, and calls nothing
pub operation_byte : (k : Kind) (b : ℕ) → byte_of k ≡ b
    → (k ≡ Init) ⊎ ((k ≡ Magic) ⊎ ((k ≡ Free) ⊎ ((k ≡ Gate) ⊎ ((k ≡ Measure) ⊎ ((k ≡ Merge) ⊎ ((k ≡ Ref) ⊎ ((k ≡ Get) ⊎ ((k ≡ Set) ⊎ (k ≡ Bool)))))))))
    → (b ≢ 10) × (b ≢ 11) × (b ≢ 12)
operation_byte k b e h = (λ f. grind arith, λ f. grind arith, λ f. grind arith)

-- an operation without a command
abbrev pub IsSilent : Kind → Type 0
IsSilent k = (k ≡ Gate) ⊎ ((k ≡ Measure) ⊎ ((k ≡ Ref) ⊎ ((k ≡ Get) ⊎ ((k ≡ Set) ⊎ (k ≡ Bool)))))

-- by its byte
silent_at : (n : ℕ) {b : ℕ} → 3 < n → n ≢ 6 → (n < 10) ⊎ (n ≡ 13) → b ≡ n → Silent b
silent_at n l d m e = record {
  above = omega (arith, l, e);
  no_merge = λ h. d (sym e ∙ h);
  no_inner = λ h. ⊎_elim (λ k. omega (arith, h, k, e)) (λ k. omega (arith, h, k, e)) m;
  known = ⊎_elim (λ k. omega (arith, k, e)) (λ k. omega (arith, k, e)) m;
}

pub silent : {k : Kind} {b : ℕ} → byte_of k ≡ b → IsSilent k → Silent b
silent e =
    ⊎_elim (λ h. silent_at 4 (omega arith) (λ d. omega (arith, d)) (inl (omega arith)) (byte_as e h))
    (⊎_elim (λ h. silent_at 5 (omega arith) (λ d. omega (arith, d)) (inl (omega arith)) (byte_as e h))
    (⊎_elim (λ h. silent_at 7 (omega arith) (λ d. omega (arith, d)) (inl (omega arith)) (byte_as e h))
    (⊎_elim (λ h. silent_at 8 (omega arith) (λ d. omega (arith, d)) (inl (omega arith)) (byte_as e h))
    (⊎_elim (λ h. silent_at 9 (omega arith) (λ d. omega (arith, d)) (inl (omega arith)) (byte_as e h))
    (λ h. silent_at 13 (omega arith) (λ d. omega (arith, d)) (inr refl) (byte_as e h))))))
