-- What a device is that was read, in the bytes of its file: this takes it apart for all who hold `Reads`. Reading is a row of checks, so what it gives is
-- what its checks let through.
use mathlib.Core.Bool.{Bool, true, false, ◌&&◌}
use mathlib.Core.List.{List, [], ◌∷◌, map}
use mathlib.Core.Logic.{⊎_elim}
use mathlib.Core.Option.{none}
use mathlib.Core.Path.{◌≡◌, refl, sym, ap, ◌∙◌}
use native.Mathlib.Omega.{arith}
use Prim.Native.Nat.{ℕ, zero, suc, ◌+◌, ◌*◌, ◌≤◌, ◌<◌}
use borrow.Author.Tests.{eqb-true, ltb-true, lt-ltb, le-ltb}
use lib.Dec.{eqb, ltb, leb}
use lib.ListN.{length, get_or, length-map, get_or-eq_default}
use Rattle.answers.proofs.Laws.{Holds, by, holds_bind, holds_then, holds_need, holds_at, ok_not_refused}
use Rattle.answers.specs.Check.{Check, ok, refused, ◌>>=◌, in_file, within}
use Rattle.answers.specs.declared.File.{File}
use Rattle.answers.specs.declared.Refusal.{Refusal}
use Rattle.rules.specs.Basics.{byte, word, has_mark}
use Rattle.rules.specs.Device.{Edge, Device, read_device}
use Rattle.rules.specs.Region.{region_of, owns}
use Rattle.rules.specs.declared.device.DeviceHeader.{DeviceHeader}
use Rattle.std.proofs.Math.Logic.{∥∥₁_elim}
use Rattle.std.specs.Coded.{le_prop, Coded-set, coded_ℕ}
use Rattle.sets.proofs.Bools.{and_both, side}
use Rattle.device.specs.Parts.{edge_at, owned_by}
use Rattle.device.specs.Reader.{Reads, device_read}
use Rattle.device.proofs.OwnerLaws.{owners_are}
use Rattle.device.proofs.EdgeLaws.{edges_are}
use Rattle.device.proofs.HeaderLaws.{numbers, header_is}

-- D is what the bytes s of a device file with n locations and e edges say
pub record Known (s : List ℕ) (n e : ℕ) (D : Device) : Type 0 where
  pub locations : length D.owners ≡ n
  pub edges : length D.edges ≡ e
  pub some : 1 ≤ n
  pub few : n ≤ 256
  pub few_edges : e ≤ 1024
  pub long : length s ≡ 9 + n + 2 * e
  pub owner : (x : ℕ) → x < n → get_or D.owners x 0 ≡ byte s (9 + x)
  pub owner_few : (x : ℕ) → x < n → byte s (9 + x) ≤ 2
  pub edge : (i : ℕ) (d : Edge) → i < e → get_or D.edges i d ≡ edge_at s (9 + n + 2 * i)
  pub edge_rises : (i : ℕ) → i < e → byte s (9 + n + 2 * i) < byte s (9 + n + 2 * i + 1)
  pub edge_within : (i : ℕ) → i < e → byte s (9 + n + 2 * i + 1) < n

device_known : (s : List ℕ) → Holds (λ D. Known s (length D.owners) (length D.edges) D) (read_device s)
device_known s =
    holds_then (holds_need (leb 9 (length s)) 1 0) λ u a.
    holds_then (holds_need (has_mark s 0x47) 2 0) λ u b.
    holds_then (holds_need (eqb (word s 3) 1) 3 3) λ u c.
    holds_bind (header_is (word s 5) (word s 7)) λ h l.
    holds_then (holds_need (eqb (length s) (9 + h.locations + 2 * h.edges)) 5 0) λ u d.
    holds_bind (owners_are s 9 h.locations) λ ws o.
    holds_bind (edges_are s h.locations none (9 + h.locations) h.edges) λ es t.
    by
    (rw (o.long, t.long)
    record {
      locations = o.long;
      edges = t.long;
      some = omega arith;
      few = omega arith;
      few_edges = omega arith;
      long = eqb-true _ _ d;
      owner = o.each;
      owner_few = o.few;
      edge = t.each;
      edge_rises = t.rises;
      edge_within = t.within;
    })

map_at : (f : ℕ → Bool) (ws : List ℕ) (x : ℕ) → x < length ws → get_or (map f ws) x false ≡ f (get_or ws x 0)
map_at f [] x h = absurd (omega arith)
map_at f (w ∷ ws) zero h = refl
map_at f (w ∷ ws) (suc x) h = map_at f ws x (omega arith)

module _ {s : List ℕ} {h : DeviceHeader} {D : Device} (r : Reads s h D) where
  pub known : Known s h.locations h.edges D
  known = rw (r.locations, r.edges) (holds_at (device_known s) r.reads)

  -- the locations of a job, by the owner bytes
  pub owns_is : (j x : ℕ) → owns (region_of D j) x ≡ (ltb x h.locations && owned_by s j x)
  owns_is j x =
      let k = known in
      ⊎_elim
      (λ l. rw (lt-ltb x h.locations l) (map_at (λ w. eqb w j) D.owners x (omega arith) ∙ ap (λ (w : ℕ). eqb w j) (k.owner x l)))
      (λ l. rw (le-ltb x h.locations l) (past l))
      (side x h.locations)
    where
      past : h.locations ≤ x → get_or (map (λ w. eqb w j) D.owners) x false ≡ false
      past l =
          let k = known in
          get_or-eq_default (map (λ w. eqb w j) D.owners) false (rw (length-map D.owners (λ w. eqb w j)) (omega arith))

  pub owns_lt : (j x : ℕ) → owns (region_of D j) x ≡ true → x < h.locations
  owns_lt j x e = ltb-true x h.locations (and_both (ltb x h.locations) (owned_by s j x) (sym (owns_is j x) ∙ e)).0

  pub owns_byte : (j x : ℕ) → x < h.locations → owns (region_of D j) x ≡ owned_by s j x
  owns_byte j x l = owns_is j x ∙ rw (lt-ltb x h.locations l)

  -- the bytes read as one device
  pub same_device : {D' : Device} → read_device s ≡ ok D' → D ≡ D'
  same_device e = let f = r.reads in cc

  pub reads_as : {D' : Device} → read_device s ≡ ok D' → Reads s h D'
  reads_as e =
      let d = same_device e in
      record {
        reads = e;
        locations = r.locations ∙ ap (λ (C : Device). length C.owners) d;
        edges = r.edges ∙ ap (λ (C : Device). length C.edges) d;
      }

-- ---- what an answer of the reader says of the device, whatever file is named
pub read_gives : (s : List ℕ) (f : File) (h : DeviceHeader) → ok h ≡ within f (device_read s) → (D : Device) × Reads s h D
unfolding device_read ◌>>=◌
read_gives s f h q = go (read_device s) refl q
  where
    go : (m : Check Device) → read_device s ≡ m → ok h ≡ within f (m >>= numbers) → (D : Device) × Reads s h D
    go (ok D) e q =
        let p : h ≡ record { locations = length D.owners; edges = length D.edges } = cc in
        (D, record { reads = e; locations = ap (λ (g : DeviceHeader). g.locations) p; edges = ap (λ (g : DeviceHeader). g.edges) p })
    go (refused x) e q = ok_not_refused q

pub read_refuses : (s : List ℕ) (f : File) (x : Refusal) → refused x ≡ within f (device_read s) → refused x ≡ within f (read_device s)
unfolding device_read ◌>>=◌
read_refuses s f x q = go (read_device s) q
  where
    go : (m : Check Device) → refused x ≡ within f (m >>= numbers) → refused x ≡ within f m
    go (ok D) q = ok_not_refused (sym q)
    go (refused y) q = let p : x ≡ in_file f y = cc in ap refused p

-- what the bytes of a device file bound, whichever device they say
pub record Sound (s : List ℕ) (h : DeviceHeader) : Type 0 where
  pub few : h.locations ≤ 256
  pub few_edges : h.edges ≤ 1024
  pub long : length s ≡ 9 + h.locations + 2 * h.edges
  pub edge_rises : (i : ℕ) → i < h.edges → byte s (9 + h.locations + 2 * i) < byte s (9 + h.locations + 2 * i + 1)
  pub edge_within : (i : ℕ) → i < h.edges → byte s (9 + h.locations + 2 * i + 1) < h.locations

pub sound : {s : List ℕ} {h : DeviceHeader} → ∥ ((D : Device) × Reads s h D) ∥₁ → Sound s h
sound t = record {
  few = ∥∥₁_elim t le_prop (λ q. (known q.1).few);
  few_edges = ∥∥₁_elim t le_prop (λ q. (known q.1).few_edges);
  long = ∥∥₁_elim t (Coded-set coded_ℕ _ _) (λ q. (known q.1).long);
  edge_rises = λ i l. ∥∥₁_elim t le_prop (λ q. (known q.1).edge_rises i l);
  edge_within = λ i l. ∥∥₁_elim t le_prop (λ q. (known q.1).edge_within i l);
}
