-- The owners of a device that was read are its file's owner bytes, n of them from byte 9 on.
use mathlib.Core.List.{List, ◌∷◌}
use mathlib.Core.Path.{◌≡◌, refl, sym, ap, subst, ◌∙◌}
use native.Mathlib.Nat.{add-zero}
use native.Mathlib.Omega.{arith}
use Prim.Native.Nat.{ℕ, zero, suc, ◌+◌, ◌<◌}
use lib.Dec.{leb}
use lib.ListN.{length, get_or}
use Rattle.answers.specs.Check.{ok}
use Rattle.answers.proofs.Laws.{Holds, by, holds_bind, holds_then, holds_need, holds_any, holds_at}
use Rattle.rules.specs.Basics.{byte, word}
use Rattle.rules.specs.Device.{Device, device_header, owners, read_device}

-- m bytes from i on
pub record BytesFrom (s : List ℕ) (i m : ℕ) (ws : List ℕ) : Type 0 where
  pub many : length ws ≡ m
  pub each : (l : ℕ) → l < m → get_or ws l 0 ≡ byte s (i + l)

bytes_from : (s : List ℕ) (i m : ℕ) → Holds (BytesFrom s i m) (owners s i m)
bytes_from s i zero = by (record { many = refl; each = λ l h. absurd (omega arith) })
bytes_from s i (suc m) =
    holds_then (holds_need (leb (byte s i) 2) 6 i) λ _ _.
    holds_bind (bytes_from s (suc i) m) λ ws B.
    by (record { many = ap suc B.many; each = λ l h. at l h B })
  where
    at : (l : ℕ) {ws : List ℕ} → l < suc m → BytesFrom s (suc i) m ws → get_or (byte s i ∷ ws) l 0 ≡ byte s (i + l)
    at zero h B = ap (byte s) (sym (add-zero i))
    at (suc l) h B = B.each l (omega arith) ∙ ap (byte s) (omega arith)

header_says : (n e : ℕ) → Holds (λ h. h.locations ≡ n) (device_header n e)
header_says n e = holds_then (holds_any _) λ _ _. holds_then (holds_any _) λ _ _. by refl

device_owners : (s : List ℕ) → Holds (λ D. BytesFrom s 9 (word s 5) D.owners) (read_device s)
device_owners s =
    holds_then (holds_any _) λ _ _.
    holds_then (holds_any _) λ _ _.
    holds_then (holds_any _) λ _ _.
    holds_bind (header_says (word s 5) (word s 7)) λ h n.
    holds_then (holds_any _) λ _ _.
    holds_bind (bytes_from s 9 h.locations) λ ws B.
    holds_bind (holds_any _) λ es _.
    by (subst (λ (m : ℕ). BytesFrom s 9 m ws) n B)

pub owner_bytes : (s : List ℕ) (D : Device) → read_device s ≡ ok D → BytesFrom s 9 (word s 5) D.owners
owner_bytes s D e = holds_at (device_owners s) e
