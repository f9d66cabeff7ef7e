-- One statement more behind others, one function more behind others: bytes, lines, and that they are good.
use mathlib.Core.List.{List, [], ◌∷◌, ◌++◌, append_assoc, append-nil}
use mathlib.Core.Path.{◌≡◌, refl, sym, ap, subst, ◌∙◌}
use native.Mathlib.Nat.{add-zero, add-suc, suc-add}
use Prim.Native.Nat.{ℕ, suc, ◌+◌, ◌≤◌}
use lib.ListN.{length}
use Rattle.rules.specs.Syntax.{Function}
use Rattle.rules.specs.Program.{Scope}
use Rattle.rules.specs.Listing.{head_line, Line}
use Rattle.rules.specs.Unlisting.{sized}
use Rattle.trips.proofs.Raw.{Raw, Raws, end, ◌then◌, raw_bytes, raws_bytes, raw_lines, raws_lines, Good, Goods, good_end, good_then, RawFunction, head_of}
use Rattle.trips.proofs.Raw.{heads, functions_bytes, raw_functions, GoodFunctions, no_functions, a_function}

-- One tree more.
abbrev pub snoc : Raws → Raw → Raws
snoc end r = r then end
snoc (t then ts) r = t then snoc ts r

pub snoc_bytes : (rs : Raws) (r : Raw) → raws_bytes (snoc rs r) ≡ raws_bytes rs ++ raw_bytes r
snoc_bytes end r = append-nil (raw_bytes r)
snoc_bytes (t then ts) r = ap (λ (z : List ℕ). raw_bytes t ++ z) (snoc_bytes ts r) ∙ sym (append_assoc (raw_bytes t) (raws_bytes ts) (raw_bytes r))

pub snoc_lines : (n : ℕ) (rs : Raws) (r : Raw) → raws_lines n (snoc rs r) ≡ raws_lines n rs ++ raw_lines n r
snoc_lines n end r = append-nil (raw_lines n r)
snoc_lines n (t then ts) r =
    ap (λ (z : List Line). raw_lines n t ++ z) (snoc_lines n ts r) ∙ sym (append_assoc (raw_lines n t) (raws_lines n ts) (raw_lines n r))

pub snoc_good : (S : Scope) (d : ℕ) (rs : Raws) (r : Raw) → Goods S d rs → Good S d r → Goods S d (snoc rs r)
snoc_good S d end r h g = good_then g good_end
snoc_good S d (t then ts) r (good_then h hs) g = good_then h (snoc_good S d ts r hs g)

-- One function more.
pub heads_snoc : (fs : List RawFunction) (f : RawFunction) → heads (fs ++ (f ∷ [])) ≡ heads fs ++ (head_of f.k f.m ∷ [])
heads_snoc [] f = refl
heads_snoc (g ∷ gs) f = ap (λ (z : List Function). head_of g.k g.m ∷ z) (heads_snoc gs f)

pub functions_bytes_snoc : (fs : List RawFunction) (f : RawFunction)
    → functions_bytes (fs ++ (f ∷ [])) ≡ functions_bytes fs ++ (f.k ∷ f.m ∷ sized (raws_bytes f.body))
functions_bytes_snoc [] f = append-nil (f.k ∷ f.m ∷ sized (raws_bytes f.body))
functions_bytes_snoc (g ∷ gs) f =
    ap (λ (z : List ℕ). (g.k ∷ g.m ∷ sized (raws_bytes g.body)) ++ z) (functions_bytes_snoc gs f)
    ∙ sym (append_assoc (g.k ∷ g.m ∷ sized (raws_bytes g.body)) (functions_bytes gs) (f.k ∷ f.m ∷ sized (raws_bytes f.body)))

pub functions_lines_snoc : (i : ℕ) (fs : List RawFunction) (f : RawFunction)
    → raw_functions i (fs ++ (f ∷ [])) ≡ raw_functions i fs ++ (head_line (i + length fs) f.k f.m ∷ raws_lines 1 f.body)
functions_lines_snoc i [] f =
    ap (λ (j : ℕ). head_line j f.k f.m ∷ (raws_lines 1 f.body ++ [])) (sym (add-zero i))
    ∙ ap (λ (z : List Line). head_line (i + 0) f.k f.m ∷ z) (append-nil (raws_lines 1 f.body))
functions_lines_snoc i (g ∷ gs) f =
    ap (λ (z : List Line). head_line i g.k g.m ∷ (raws_lines 1 g.body ++ z))
    (functions_lines_snoc (suc i) gs f
    ∙ ap (λ (j : ℕ). raw_functions (suc i) gs ++ (head_line j f.k f.m ∷ raws_lines 1 f.body))
    (suc-add i (length gs) ∙ sym (add-suc i (length gs))))
    ∙ ap (λ (z : List Line). head_line i g.k g.m ∷ z)
    (sym (append_assoc (raws_lines 1 g.body) (raw_functions (suc i) gs) (head_line (i + suc (length gs)) f.k f.m ∷ raws_lines 1 f.body)))

pub functions_good_snoc : (hs : List Function) (fs : List RawFunction) (f : RawFunction) → GoodFunctions hs fs → f.k ≤ 16 → f.m ≤ 8
    → f.m ≤ f.k → Goods (record { places = f.k; earlier = hs ++ heads fs }) 7 f.body
    → GoodFunctions hs (fs ++ (f ∷ []))
functions_good_snoc hs [] f g i j k b =
    a_function i j k (subst (λ (z : List Function). Goods (record { places = f.k; earlier = z }) 7 f.body) (append-nil hs) b) no_functions
functions_good_snoc hs (t ∷ ts) f (a_function p q r s g) i j k b =
    a_function p q r s (functions_good_snoc (hs ++ (head_of t.k t.m ∷ [])) ts f g i j k
    (subst (λ (z : List Function). Goods (record { places = f.k; earlier = z }) 7 f.body)
    (sym (append_assoc hs (head_of t.k t.m ∷ []) (heads ts))) b))
