-- The reader as a row of checks, with a law for each of its exits. The definition makes the device and then takes its numbers; since owners and edges are
-- as many as the header says, testing them and handing on the header comes to the same.
use mathlib.Core.Bool.{true, false, ◌&&◌}
use mathlib.Core.List.{List}
use mathlib.Core.Option.{none}
use mathlib.Core.Path.{◌≡◌, refl, sym, ap, ap₂, ◌∙◌}
use native.Mathlib.Omega.{arith}
use Prim.Native.Nat.{ℕ, ◌+◌, ◌*◌, ◌≤◌, ◌<◌}
use borrow.Author.Tests.{leb-true, le-leb, lt-leb, eq-eqb, ne_eqb}
use lib.Dec.{eqb, leb}
use lib.ListN.{length}
use Rattle.answers.proofs.Laws.{Holds, by, holds_then, holds_need, holds_map, holds_at, bind_assoc, bind_under}
use Rattle.answers.specs.Check.{Check, ok, refused, refusal, ◌>>=◌, ◌>>◌, need}
use Rattle.answers.specs.declared.Refusal.{Refusal}
use Rattle.rules.specs.Basics.{word, has_mark}
use Rattle.rules.specs.Device.{Edge, Device, device_header, owners, edges}
use Rattle.rules.specs.declared.device.DeviceHeader.{DeviceHeader}
use Rattle.sets.proofs.Bools.{and_both}
use Rattle.device.specs.Parts.{tested, body_read}
use Rattle.device.specs.Reader.{device_read}
use Rattle.device.proofs.OwnerLaws.{owners_are}
use Rattle.device.proofs.EdgeLaws.{edges_are}

-- the numbers of a device
abbrev pub numbers : Device → Check DeviceHeader
numbers D = ok (record { locations = length D.owners; edges = length D.edges })

module _ (h : DeviceHeader) where
  same_numbers : (w : Check (List ℕ)) (d : Check (List Edge)) → Holds (λ ws. length ws ≡ h.locations) w → Holds (λ es. length es ≡ h.edges) d
      → ((w >>= λ ws. d >>= λ es. ok (record { owners = ws; edges = es })) >>= numbers) ≡ (tested w >> (tested d >> ok h))
  unfolding ◌>>=◌ ◌>>◌ tested
  same_numbers (refused x) d p q = refl
  same_numbers (ok ws) (refused x) p q = refl
  same_numbers (ok ws) (ok es) (by p) (by q) = ap₂ (λ (n e : ℕ). ok (record { locations = n; edges = e })) p q

then_bind : {A B C : Type 0} (m : Check A) (n : Check B) (f : B → Check C) → ((m >> n) >>= f) ≡ (m >> (n >>= f))
unfolding ◌>>=◌ ◌>>◌
then_bind (ok a) n f = refl
then_bind (refused r) n f = refl

module _ (s : List ℕ) where
  -- what comes after the header, with the numbers taken at its end
  body_is : (h : DeviceHeader)
      → ((need (eqb (length s) (9 + h.locations + 2 * h.edges)) 5 0
      >> (owners s 9 h.locations >>= λ ws. edges s h.locations none (9 + h.locations) h.edges >>= λ es. ok (record { owners = ws; edges = es })))
      >>= numbers)
      ≡ body_read s h
  unfolding body_read
  body_is h =
      then_bind (need (eqb (length s) (9 + h.locations + 2 * h.edges)) 5 0) _ numbers
      ∙ ap (λ (m : Check DeviceHeader). need (eqb (length s) (9 + h.locations + 2 * h.edges)) 5 0 >> m)
      (same_numbers h _ _ (holds_map (λ ws o. o.long) (owners_are s 9 h.locations))
      (holds_map (λ es a. a.long) (edges_are s h.locations none (9 + h.locations) h.edges)))

  device_is : device_read s
      ≡ (need (leb 9 (length s)) 1 0 >> (need (has_mark s 0x47) 2 0 >> (need (eqb (word s 3) 1) 3 3 >> (device_header (word s 5) (word s 7) >>= body_read s))))
  unfolding device_read
  device_is =
      then_bind (need (leb 9 (length s)) 1 0) _ numbers
      ∙ ap (λ (m : Check DeviceHeader). need (leb 9 (length s)) 1 0 >> m)
      (then_bind (need (has_mark s 0x47) 2 0) _ numbers
      ∙ ap (λ (m : Check DeviceHeader). need (has_mark s 0x47) 2 0 >> m)
      (then_bind (need (eqb (word s 3) 1) 3 3) _ numbers
      ∙ ap (λ (m : Check DeviceHeader). need (eqb (word s 3) 1) 3 3 >> m)
      (bind_assoc (device_header (word s 5) (word s 7)) _ numbers ∙ bind_under (device_header (word s 5) (word s 7)) body_is)))

  -- ---- the exits before the body
  pub read_short : length s < 9 → refused (refusal 1 0) ≡ device_read s
  unfolding ◌>>◌
  read_short h = sym (device_is ∙ rw (lt-leb 9 (length s) h))

  module _ (long : 9 ≤ length s) where
    pub read_mark : has_mark s 0x47 ≡ false → refused (refusal 2 0) ≡ device_read s
    unfolding ◌>>◌
    read_mark h = sym (device_is ∙ rw (le-leb 9 (length s) long, h))

    module _ (mark : has_mark s 0x47 ≡ true) where
      pub read_version : (word s 3 ≡ 1 → ⊥) → refused (refusal 3 3) ≡ device_read s
      unfolding ◌>>◌
      read_version h = sym (device_is ∙ rw (le-leb 9 (length s) long, mark, ne_eqb (word s 3) 1 h))

      module _ (version : word s 3 ≡ 1) where
        past : device_read s ≡ (device_header (word s 5) (word s 7) >>= body_read s)
        unfolding ◌>>◌
        past = device_is ∙ rw (le-leb 9 (length s) long, mark, eq-eqb (word s 3) 1 version)

        module _ (n e : ℕ) (en : n ≡ word s 5) (ee : e ≡ word s 7) where
          header : device_read s ≡ (device_header n e >>= body_read s)
          header = past ∙ ap₂ (λ (n e : ℕ). device_header n e >>= body_read s) (sym en) (sym ee)

          pub read_header : (x : Refusal) → refused x ≡ device_header n e → refused x ≡ device_read s
          unfolding ◌>>=◌
          read_header x q = sym (header ∙ ap (λ (m : Check DeviceHeader). m >>= body_read s) (sym q))

          pub read_past : (h : DeviceHeader) → ok h ≡ device_header n e → device_read s ≡ body_read s h
          unfolding ◌>>=◌
          read_past h q = header ∙ ap (λ (m : Check DeviceHeader). m >>= body_read s) (sym q)

  -- ---- the exits of the body
  module _ (h : DeviceHeader) where
    pub body_length : (length s ≡ 9 + h.locations + 2 * h.edges → ⊥) → refused (refusal 5 0) ≡ body_read s h
    unfolding body_read ◌>>◌
    body_length n = sym (rw (ne_eqb (length s) (9 + h.locations + 2 * h.edges) n))

    module _ (long : length s ≡ 9 + h.locations + 2 * h.edges) where
      pub body_owners : (x : Refusal) → refused x ≡ tested (owners s 9 h.locations) → refused x ≡ body_read s h
      unfolding body_read ◌>>◌
      body_owners x e = sym (rw (eq-eqb (length s) (9 + h.locations + 2 * h.edges) long, ← e))

      pub body_edges : (x : Refusal) → ok tt ≡ tested (owners s 9 h.locations)
          → refused x ≡ tested (edges s h.locations none (9 + h.locations) h.edges) → refused x ≡ body_read s h
      unfolding body_read ◌>>◌
      body_edges x o e = sym (rw (eq-eqb (length s) (9 + h.locations + 2 * h.edges) long, ← o, ← e))

      pub body_read_lem : ok tt ≡ tested (owners s 9 h.locations) → ok tt ≡ tested (edges s h.locations none (9 + h.locations) h.edges)
          → ok h ≡ body_read s h
      unfolding body_read ◌>>◌
      body_read_lem o e = sym (rw (eq-eqb (length s) (9 + h.locations + 2 * h.edges) long, ← o, ← e))

-- ---- what a header is, once it is made
pub record HeaderIs (n e : ℕ) (h : DeviceHeader) : Type 0 where
  pub locations : h.locations ≡ n
  pub edges : h.edges ≡ e
  pub some : 1 ≤ n
  pub few : n ≤ 256
  pub few_edges : e ≤ 1024

pub header_is : (n e : ℕ) → Holds (HeaderIs n e) (device_header n e)
header_is n e =
    holds_then (holds_need (leb 1 n && leb n 256) 4 5) λ u p. holds_then (holds_need (leb e 1024) 4 7) λ v q.
    let b = and_both (leb 1 n) (leb n 256) p in
    by (record { locations = refl; edges = refl; some = leb-true 1 n b.0; few = leb-true n 256 b.1; few_edges = leb-true e 1024 q })

pub made_few : (n e : ℕ) (h : DeviceHeader) → ok h ≡ device_header n e → (h.locations ≤ 256) × (h.edges ≤ 1024)
made_few n e h q = let k = holds_at (header_is n e) (sym q) in (omega arith, omega arith)
