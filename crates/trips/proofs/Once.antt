-- 27 stands at one place: what the definition asks of it holds of one place only, so the reader refuses there exactly.
use mathlib.Core.Bool.{true, false, false≢true}
use mathlib.Core.List.{List, [], ◌∷◌, ◌++◌, append_assoc, append-nil}
use mathlib.Core.Logic.{◌⊎◌, inl, inr}
use mathlib.Core.Path.{◌≡◌, refl, sym, ap, subst, ◌∙◌}
use native.Mathlib.Omega.{arith}
use Prim.Native.Nat.{ℕ}
use lib.ListN.{length}
use Rattle.answers.specs.declared.Refusal.{Refusal}
use Rattle.answers.specs.Check.{ok, refused, refusal}
use Rattle.answers.proofs.Laws.{ok_or_refused}
use Rattle.rules.specs.Words.{Text, newline}
use Rattle.rules.specs.Listing.{listing}
use Rattle.rules.specs.Unlisting.{unlisted}
use Rattle.trips.specs.Trips.{Bytes, Begins, Unbroken, Whole, OneLine, Stops, at_line, at_end, RefusesExactly}
use Rattle.trips.proofs.Grammars.{Longer, longer}
use Rattle.trips.proofs.Listings.{only_listings, refuses}

begins_front : (p q : Text) → Begins (p ++ q) → Begins p
begins_front p q b = (b.0, q ++ b.1, b.2, b.3 ∙ ap ok (append_assoc p q b.1))

cancel : (p q r : Text) → p ++ q ≡ p ++ r → q ≡ r
cancel [] q r e = e
cancel (x ∷ p) q r e = cancel p q r (let h : x ∷ (p ++ q) ≡ x ∷ (p ++ r) = e in let t : p ++ q ≡ p ++ r = cc in t)

none_mid : {X : Type 0} (p : Text) (c : ℕ) (r : Text) → [] ≡ p ++ (c ∷ r) → X
none_mid [] c r e = let z : ◌≡◌ {A = ℕ} 0 1 = cc in absurd (omega arith)
none_mid (x ∷ p) c r e = let z : ◌≡◌ {A = ℕ} 0 1 = cc in absurd (omega arith)

broken : {X : Type 0} (p z : Text) → Unbroken (p ++ (newline ∷ z)) → X
broken [] z h = let e : true ≡ false = h.0 in absurd (false≢true (sym e))
broken (x ∷ p) z h = broken p z h.1

-- what ends in a newline ends so behind any front of it
last_newline : (b : Text) (x : ℕ) (z v : Text) → b ++ (x ∷ z) ≡ v ++ (newline ∷ []) → (u : Text) × (x ∷ z ≡ u ++ (newline ∷ []))
last_newline [] x z v e = (v, e)
last_newline (y ∷ b) x z [] e = none_mid b x z (let h : y ∷ (b ++ (x ∷ z)) ≡ newline ∷ [] = e in let t : [] ≡ b ++ (x ∷ z) = cc in t)
last_newline (y ∷ b) x z (w ∷ v) e = last_newline b x z v (let h = e in let t : b ++ (x ∷ z) ≡ v ++ (newline ∷ []) = cc in t)

-- whole lines that reach into a line have all of it
covers : (l a : Text) → OneLine l a → (u rest : Text) → l ++ a ≡ (u ++ (newline ∷ [])) ++ rest → (z : Text) × (u ++ (newline ∷ []) ≡ l ++ z)
covers l a (inr o) u rest e =
    let q : l ≡ u ++ (newline ∷ rest) = sym (append-nil l) ∙ ap (λ (t : Text). l ++ t) (sym o.1) ∙ e ∙ append_assoc u (newline ∷ []) rest in
    broken u rest (subst (λ (t : Text). Unbroken t) q o.0)
covers l a (inl o) u rest e =
    go (longer o.0 (newline ∷ a) u (newline ∷ rest)
    (sym (append_assoc o.0 (newline ∷ []) a) ∙ ap (λ (t : Text). t ++ a) (sym o.2) ∙ e ∙ append_assoc u (newline ∷ []) rest))
  where
    same_front : (z : Text) → o.0 ≡ u ++ z → (z : Text) × (u ++ (newline ∷ []) ≡ l ++ z)
    same_front [] q = ([], ap (λ (t : Text). t ++ (newline ∷ [])) (sym (append-nil u) ∙ sym q) ∙ sym o.2 ∙ sym (append-nil l))
    same_front (c ∷ z) q =
        let k = sym (append_assoc o.0 (newline ∷ []) a) ∙ ap (λ (t : Text). t ++ a) (sym o.2) ∙ e ∙ append_assoc u (newline ∷ []) rest in
        let m =
        cancel u ((c ∷ z) ++ (newline ∷ a)) (newline ∷ rest)
        (sym (append_assoc u (c ∷ z) (newline ∷ a)) ∙ ap (λ (t : Text). t ++ (newline ∷ a)) (sym q) ∙ k) in
        let n : c ≡ newline = cc in
        broken u z (subst (λ (t : Text). Unbroken t) (q ∙ ap (λ (y : ℕ). u ++ (y ∷ z)) n) o.1)

    go : Longer o.0 (newline ∷ a) u (newline ∷ rest) → (z : Text) × (u ++ (newline ∷ []) ≡ l ++ z)
    go (inl q) = same_front q.0 q.1
    go (inr q) =
        let n : newline ≡ q.0 = (let k : newline ∷ a ≡ q.0 ∷ (q.1 ++ (newline ∷ rest)) = q.3 in cc) in (
          q.1 ++ (newline ∷ []),
          ap (λ (t : Text). t ++ (newline ∷ [])) (q.2 ∙ ap (λ (y : ℕ). o.0 ++ (y ∷ q.1)) (sym n))
              ∙ append_assoc o.0 (newline ∷ q.1) (newline ∷ [])
              ∙ sym (append_assoc o.0 (newline ∷ []) (q.1 ++ (newline ∷ []))) ∙ ap (λ (t : Text). t ++ (q.1 ++ (newline ∷ []))) (sym o.2),
        )

-- a later line start begins nothing where an earlier line does not
later : {X : Type 0} (b l a b' : Text) → OneLine l a → (Begins (b ++ l) → ⊥) → Whole b' → Begins b' → (x : ℕ) (z rest : Text)
    → b' ≡ b ++ (x ∷ z) → l ++ a ≡ x ∷ (z ++ rest) → X
later b l a b' o n (inl e) g x z rest p q = none_mid b x z (sym e ∙ p)
later b l a b' o n (inr w) g x z rest p q =
    let u : (u : Text) × (x ∷ z ≡ u ++ (newline ∷ [])) = last_newline b x z w.0 (sym p ∙ w.1) in
    let c : (y : Text) × (u.0 ++ (newline ∷ []) ≡ l ++ y) = covers l a o u.0 rest (q ∙ ap (λ (t : Text). t ++ rest) u.1) in
    absurd (n (begins_front (b ++ l) c.0
    (subst (λ (t : Text). Begins t) (p ∙ ap (λ (t : Text). b ++ t) (u.1 ∙ c.1) ∙ sym (append_assoc b l c.0)) g)))

one_stop : (t : Text) (x y : ℕ) → Stops t x → Stops t y → x ≡ y
one_stop t x y (at_end g n) (at_end g' n') = refl
one_stop t x y (at_end g n) (at_line b l a e w o h k) =
    absurd (k (begins_front (b ++ l) a (subst (λ (s : Text). Begins s) (e ∙ sym (append_assoc b l a)) g)))
one_stop t x y (at_line b l a e w o h k) (at_end g n) =
    absurd (k (begins_front (b ++ l) a (subst (λ (s : Text). Begins s) (e ∙ sym (append_assoc b l a)) g)))
one_stop t x y (at_line b l a e w o h k) (at_line b' l' a' e' w' o' h' k') = go (longer b (l ++ a) b' (l' ++ a') (sym e ∙ e'))
  where
    front : (z : Text) → b ≡ b' ++ z → length b ≡ length b'
    front [] q = ap length (q ∙ append-nil b')
    front (c ∷ z) q =
        let m =
        sym (cancel b' ((c ∷ z) ++ (l ++ a)) (l' ++ a')
        (sym (append_assoc b' (c ∷ z) (l ++ a)) ∙ ap (λ (s : Text). s ++ (l ++ a)) (sym q) ∙ sym e ∙ e')) in
        later b' l' a' b o' k' w h c z (l ++ a) q m

    go : Longer b (l ++ a) b' (l' ++ a') → length b ≡ length b'
    go (inl q) = front q.0 q.1
    go (inr q) = later b l a b' o k w' h' q.0 q.1 (l' ++ a') q.2 q.3

stops_not_listed : (t : Text) (x : ℕ) → Stops t x → (s : List ℕ) → Bytes s → listing s ≡ ok t → ⊥
stops_not_listed t x (at_end g n) s y h = n s y h
stops_not_listed t x (at_line b l a e w o g k) s y h = k (s, a, y, h ∙ ap ok (e ∙ sym (append_assoc b l a)))

pub refuses_exactly : RefusesExactly
refuses_exactly t x = (there, back)
  where
    there : unlisted t ≡ refused (refusal 27 x) → Stops t x
    there h =
        let r : (y : ℕ) × (refusal 27 x ≡ refusal 27 y) × Stops t y = refuses t (refusal 27 x) h in
        let e : r.0 ≡ x = sym (ap (λ (q : Refusal). q.place) r.1) in
        subst (λ (z : ℕ). Stops t z) e r.2

    back : Stops t x → unlisted t ≡ refused (refusal 27 x)
    back h = go (ok_or_refused (unlisted t))
      where
        go : ((s : List ℕ) × (unlisted t ≡ ok s)) ⊎ ((r : Refusal) × (unlisted t ≡ refused r)) → unlisted t ≡ refused (refusal 27 x)
        go (inl q) = let l : Bytes q.0 × (listing q.0 ≡ ok t) = only_listings t q.0 q.1 in absurd (stops_not_listed t x h q.0 l.0 l.1)
        go (inr q) =
            let r : (y : ℕ) × (q.0 ≡ refusal 27 y) × Stops t y = refuses t q.0 q.1 in
            q.1 ∙ ap refused (r.1 ∙ ap (refusal 27) (one_stop t r.0 x r.2 h))
