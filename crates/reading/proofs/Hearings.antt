-- Laws of what is heard: a word that stands before others is looked for among those offered; the last of an unfinished line begins one behind which some line
-- goes on; and what one of several grammars hears is what they take, or whether one starts so.
use mathlib.Core.Bool.{Bool, true, false, ◌&&◌, false≢true}
use mathlib.Core.List.{List, [], ◌∷◌, ◌++◌}
use mathlib.Core.Logic.{inl, inr}
use mathlib.Core.Option.{Option, none, some}
use mathlib.Core.Path.{◌≡◌, refl, ap, ◌∙◌}
use native.Mathlib.Omega.{arith}
use Prim.Native.Nat.{ℕ, zero, suc}
use lib.Dec.{eqb}
use lib.ListN.{get_or, length}
use Rattle.rules.specs.Basics.{chosen, same_list}
use Rattle.rules.specs.Words.{Text, opens, place}
use Rattle.rules.specs.Grammar.{Grammar, stop, ask, word, takes, starts, live, some_below, takes_one, starts_one}
use Rattle.rules.specs.Unlisting.{indent}
use Rattle.reading.specs.Hearing.{Hearing, not, begun, took, hears, hears_one, Further}

abbrev option : Bool → Option ℕ
option true = some 0
option false = none

module _ {A : Type 0} where
  abbrev pub heard : Option A → Hearing A
  heard none = not
  heard (some a) = took a

  -- the only word offered is there or not
  abbrev only_at : Bool → Hearing A → Hearing A
  only_at true h = h
  only_at false h = not

  pub begun_not_not : ◌≡◌ {A = Hearing A} begun not → ⊥
  begun_not_not q = let z : ◌≡◌ {A = ℕ} 0 1 = cc in omega arith

  pub took_not_not : (a : A) → took a ≡ not → ⊥
  took_not_not a q = let z : ◌≡◌ {A = ℕ} 0 1 = cc in omega arith

  -- a word before others, or the last of a whole line
  pub hears_ask : (whole : Bool) (e : Option A) (vs : List Text) (k : ℕ → Grammar A) (w : Text) (ws : List Text) → Further whole ws
      → hears whole (ask e vs k) (w ∷ ws) ≡ elim (place w vs) [ none ↦ not | some i ↦ hears whole (k i) ws ]
  unfolding hears Further
  hears_ask true e vs k w ws f = go (place w vs)
    where
      go : (o : Option ℕ) → ◌≡◌ {A = Hearing A} (heard (elim o [ none ↦ none | some i ↦ takes (k i) ws ]))
          (elim o [ none ↦ not | some i ↦ heard (takes (k i) ws) ])
      go none = refl
      go (some i) = refl
  hears_ask false e vs k w ws (inl f) = absurd (false≢true f)
  hears_ask false e vs k w [] (inr f) = absurd (empty_not_more f.0 f.1 f.2)
    where
      empty_not_more : (v : Text) (vs : List Text) → [] ≡ v ∷ vs → ⊥
      empty_not_more v vs q = let z : ◌≡◌ {A = ℕ} 0 (suc (length vs)) = ap length q in omega arith
  hears_ask false e vs k w (x ∷ ws) (inr f) = go (place w vs)
    where
      go : (o : Option ℕ) → ◌≡◌ {A = Hearing A} (chosen (elim o [ none ↦ false | some i ↦ starts (k i) (x ∷ ws) ]) begun not)
          (elim o [ none ↦ not | some i ↦ chosen (starts (k i) (x ∷ ws)) begun not ])
      go none = refl
      go (some i) = refl

  -- no word is left where one must stand
  pub hears_nothing : (whole : Bool) (vs : List Text) (k : ℕ → Grammar A) → hears whole (ask none vs k) [] ≡ not
  unfolding hears
  hears_nothing true vs k = refl
  hears_nothing false vs k = refl

  -- the last word of an unfinished line
  pub hears_unfinished : (e : Option A) (vs : List Text) (k : ℕ → Grammar A) (u : Text)
      → hears false (ask e vs k) (u ∷ []) ≡ chosen (some_below (length vs) λ i. opens u (get_or vs i []) && live (k i)) begun not
  unfolding hears
  hears_unfinished e vs k u = refl

  -- the line must end here
  pub hears_end : (a : A) → hears true (stop (some a)) [] ≡ took a
  unfolding hears
  hears_end a = refl

  pub hears_more : (whole : Bool) (e : Option A) (w : Text) (ws : List Text) → hears whole (stop e) (w ∷ ws) ≡ not
  unfolding hears
  hears_more true e w ws = refl
  hears_more false e w ws = refl

  -- one word that must stand here
  only_word : (whole : Bool) (g : Grammar A) (ws : List Text) (b : Bool)
      → ◌≡◌ {A = Hearing A} (elim (option b) [ none ↦ not | some i ↦ hears whole g ws ]) (only_at b (hears whole g ws))
  only_word whole g ws true = refl
  only_word whole g ws false = refl

  pub hears_word : (whole : Bool) (v : Text) (g : Grammar A) (w : Text) (ws : List Text) → Further whole ws → same_list eqb w v ≡ true
      → hears whole (word v g) (w ∷ ws) ≡ hears whole g ws
  hears_word whole v g w ws f e =
      hears_ask whole none (v ∷ []) (λ i. g) w ws f ∙ only_word whole g ws (same_list eqb w v)
      ∙ ap (λ (b : Bool). only_at b (hears whole g ws)) e

  pub hears_other : (whole : Bool) (v : Text) (g : Grammar A) (w : Text) (ws : List Text) → Further whole ws → same_list eqb w v ≡ false
      → hears whole (word v g) (w ∷ ws) ≡ not
  hears_other whole v g w ws f e =
      hears_ask whole none (v ∷ []) (λ i. g) w ws f ∙ only_word whole g ws (same_list eqb w v)
      ∙ ap (λ (b : Bool). only_at b (hears whole g ws)) e

  pub hears_word_begun : (v : Text) (g : Grammar A) (u : Text) → hears false (word v g) (u ∷ []) ≡ chosen (opens u v && live g) begun not
  hears_word_begun v g u = hears_unfinished none (v ∷ []) (λ i. g) u ∙ go (opens u v && live g)
    where
      go : (b : Bool) → ◌≡◌ {A = Hearing A} (chosen (elim b [ true ↦ true | false ↦ false ]) begun not) (chosen b begun not)
      go true = refl
      go false = refl

  pub live_word : (w : Text) (g : Grammar A) → live (word w g) ≡ live g
  live_word w g = go (live g)
    where
      go : (b : Bool) → ◌≡◌ {A = Bool} (elim b [ true ↦ true | false ↦ false ]) b
      go true = refl
      go false = refl

  pub live_indent : (d : ℕ) (g : Grammar A) → live (indent d g) ≡ live g
  live_indent zero g = refl
  live_indent (suc d) g = live_word [] (word [] (indent d g)) ∙ live_word [] (indent d g) ∙ live_indent d g

  -- several grammars
  pub hears_one_lem : (whole : Bool) (g : Grammar A) (ws : List Text) → hears_one whole (g ∷ []) ws ≡ hears whole g ws
  unfolding hears_one
  hears_one_lem whole g ws = go (hears whole g ws)
    where
      go : (h : Hearing A) → ◌≡◌ {A = Hearing A} (elim h [ not ↦ not | begun ↦ begun | took a ↦ took a ]) h
      go not = refl
      go begun = refl
      go (took a) = refl

  -- the first hears nothing, so that the others are asked; or it is what is heard
  pub hears_others : (whole : Bool) (g : Grammar A) (gs : List (Grammar A)) (ws : List Text) → hears whole g ws ≡ not
      → hears_one whole (g ∷ gs) ws ≡ hears_one whole gs ws
  unfolding hears_one
  hears_others whole g gs ws e = ap (λ (h : Hearing A). elim h [ not ↦ hears_one whole gs ws | begun ↦ begun | took a ↦ took a ]) e

  pub hears_first : (whole : Bool) (g : Grammar A) (gs : List (Grammar A)) (ws : List Text) → hears_one whole gs ws ≡ not
      → hears_one whole (g ∷ gs) ws ≡ hears whole g ws
  unfolding hears_one
  hears_first whole g gs ws e = go (hears whole g ws)
    where
      go : (h : Hearing A) → ◌≡◌ {A = Hearing A} (elim h [ not ↦ hears_one whole gs ws | begun ↦ begun | took a ↦ took a ]) h
      go not = e
      go begun = refl
      go (took a) = refl

  pub hears_begun : (whole : Bool) (g : Grammar A) (gs : List (Grammar A)) (ws : List Text) → hears whole g ws ≡ begun
      → hears_one whole (g ∷ gs) ws ≡ begun
  unfolding hears_one
  hears_begun whole g gs ws e = ap (λ (h : Hearing A). elim h [ not ↦ hears_one whole gs ws | begun ↦ begun | took a ↦ took a ]) e

  pub hears_both : (whole : Bool) (gs hs : List (Grammar A)) (ws : List Text) → hears_one whole gs ws ≡ not
      → hears_one whole (gs ++ hs) ws ≡ hears_one whole hs ws
  unfolding hears_one
  hears_both whole [] hs ws e = refl
  hears_both whole (g ∷ gs) hs ws e = go (hears whole g ws) (hears_both whole gs hs ws) e
    where
      go : (h : Hearing A) → (hears_one whole gs ws ≡ not → hears_one whole (gs ++ hs) ws ≡ hears_one whole hs ws)
          → ◌≡◌ {A = Hearing A} (elim h [ not ↦ hears_one whole gs ws | begun ↦ begun | took a ↦ took a ]) not
          → ◌≡◌ {A = Hearing A} (elim h [ not ↦ hears_one whole (gs ++ hs) ws | begun ↦ begun | took a ↦ took a ]) (hears_one whole hs ws)
      go not rec e = rec e
      go begun rec e = absurd (begun_not_not e)
      go (took a) rec e = absurd (took_not_not a e)

  -- what the grammars take, and whether one starts so
  pub hears_taken : (gs : List (Grammar A)) (ws : List Text) → hears_one true gs ws ≡ heard (takes_one gs ws)
  unfolding hears_one hears
  hears_taken [] ws = refl
  hears_taken (g ∷ gs) ws = go (takes g ws) (hears_taken gs ws)
    where
      go : (o : Option A) → hears_one true gs ws ≡ heard (takes_one gs ws)
          → ◌≡◌ {A = Hearing A} (elim (heard o) [ not ↦ hears_one true gs ws | begun ↦ begun | took a ↦ took a ])
          (heard (elim o [ none ↦ takes_one gs ws | some a ↦ some a ]))
      go none rec = rec
      go (some a) rec = refl

  pub hears_started : (gs : List (Grammar A)) (ws : List Text) → hears_one false gs ws ≡ chosen (starts_one gs ws) begun not
  unfolding hears_one hears
  hears_started [] ws = refl
  hears_started (g ∷ gs) ws = go (starts g ws) (hears_started gs ws)
    where
      go : (b : Bool) → hears_one false gs ws ≡ chosen (starts_one gs ws) begun not
          → ◌≡◌ {A = Hearing A} (elim (chosen {A = Hearing A} b begun not) [ not ↦ hears_one false gs ws | begun ↦ begun | took a ↦ took a ])
          (chosen (elim b [ true ↦ true | false ↦ starts_one gs ws ]) begun not)
      go true rec = refl
      go false rec = rec
