-- The theorems, from three facts about the lines that may follow: the words that they offer are clean and differ (`proper`), the lines of a readable
-- program are followed to its file (`forth`), and lines that were followed begin those of a readable program (`back`).
use mathlib.Core.Bool.{Bool, true, false, false≢true}
use mathlib.Core.List.{List, [], ◌∷◌, ◌++◌, append_assoc, append-nil}
use mathlib.Core.Logic.{inl, inr}
use mathlib.Core.Option.{Option, none, some}
use mathlib.Core.Path.{◌≡◌, refl, sym, ap, subst, ◌∙◌}
use native.Mathlib.Omega.{arith}
use Prim.Native.Nat.{ℕ, suc, ◌+◌}
use lib.ListN.{length, length-append}
use Rattle.answers.specs.declared.Refusal.{Refusal}
use Rattle.answers.specs.Check.{Check, ok, refused, refusal, ◌>>=◌, ◌>>◌, need}
use Rattle.answers.proofs.Laws.{ok_not_refused}
use Rattle.rules.specs.Syntax.{Program}
use Rattle.rules.specs.Words.{Text, space, newline, split, join, written}
use Rattle.rules.specs.Program.{read_program}
use Rattle.rules.specs.Listing.{Line, program_lines, listing}
use Rattle.rules.specs.Grammar.{Grammar, takes, starts, takes_one, starts_one}
use Rattle.rules.specs.Unlisting.{Sofar, State, fresh, sofar, lines, file, ending, follow, unlisted}
use Rattle.trips.specs.Trips.{Bytes, Begins, RoundTrip, OnlyListings, OneProgram, Stops, at_line, at_end, Refuses}
use Rattle.trips.proofs.Texts.{Free, AllFree, split_shape, join_split, split_free, split_seam, peel}
use Rattle.trips.proofs.Grammars.{none_not_some, Longer, longer, CleanLine, Proper, takes_clean, starts_begun, begun_starts}
use Rattle.trips.proofs.Lines.{CleanWords, CleanLines, line_free, split_line, nil_not_mid, written_front, written_append, written_line, whole}
use Rattle.trips.proofs.Lines.{unbroken}

-- Lines one after the other.
abbrev pub run : State → List Line → Option State
run σ [] = some σ
run σ (l ∷ ls) = elim (takes_one (lines σ) l) [ none ↦ none | some p ↦ run (sofar p) ls ]

pub run_next : (σ : State) (l : Line) (ls : List Line) (p : Sofar) → takes_one (lines σ) l ≡ some p → run σ (l ∷ ls) ≡ run (sofar p) ls
run_next σ l ls p e = ap (λ (o : Option Sofar). elim o [ none ↦ none | some q ↦ run (sofar q) ls ]) e

pub ran : (σ τ : State) (l : Line) (ls : List Line) → run σ (l ∷ ls) ≡ some τ
    → (p : Sofar) × (takes_one (lines σ) l ≡ some p) × (run (sofar p) ls ≡ some τ)
ran σ τ l ls h = go (takes_one (lines σ) l) refl h
  where
    go : (o : Option Sofar) → takes_one (lines σ) l ≡ o → elim o [ none ↦ none | some q ↦ run (sofar q) ls ] ≡ some τ
        → (p : Sofar) × (takes_one (lines σ) l ≡ some p) × (run (sofar p) ls ≡ some τ)
    go none e k = none_not_some k
    go (some p) e k = (p, e, k)

pub run_on : (σ τ : State) (ls ms : List Line) → run σ ls ≡ some τ → run σ (ls ++ ms) ≡ run τ ms
run_on σ τ [] ms h = ap (λ (ρ : State). run ρ ms) (let e : some σ ≡ some τ = h in cc)
run_on σ τ (l ∷ ls) ms h =
    let r : (p : Sofar) × (takes_one (lines σ) l ≡ some p) × (run (sofar p) ls ≡ some τ) = ran σ τ l ls h in
    run_next σ l (ls ++ ms) r.0 r.1 ∙ run_on (sofar r.0) τ ls ms r.2

-- what a listing is
pub listing_of : (s : List ℕ) (t : Text) → listing s ≡ ok t → (p : Program) × (read_program s ≡ ok p) × (t ≡ written (program_lines s p))
unfolding ◌>>=◌
listing_of s t h = go (read_program s) refl h
  where
    go : (m : Check Program) → read_program s ≡ m → (m >>= λ p. ok (written (program_lines s p))) ≡ ok t
        → (p : Program) × (read_program s ≡ ok p) × (t ≡ written (program_lines s p))
    go (ok p) e k = (p, e, (let f : ok (written (program_lines s p)) ≡ ok t = k in cc))
    go (refused r) e k = ok_not_refused (sym k)

is_listing : (s : List ℕ) (p : Program) → read_program s ≡ ok p → listing s ≡ ok (written (program_lines s p))
unfolding ◌>>=◌
is_listing s p e = ap (λ (m : Check Program). m >>= λ q. ok (written (program_lines s q))) e

-- the lines that may follow offer clean words that differ, and none of them is empty
abbrev pub AllProper : List (Grammar Sofar) → Type 0
AllProper [] = Unit {0}
AllProper (g ∷ gs) = Proper g × (takes g [] ≡ none) × AllProper gs

one_clean : (gs : List (Grammar Sofar)) → AllProper gs → (l : Line) (p : Sofar) → takes_one gs l ≡ some p → CleanWords l
one_clean [] h l p e = none_not_some e
one_clean (g ∷ gs) h l p e = go l (takes g l) refl e (λ k. one_clean gs h.2 l p k)
  where
    go : (l : Line) (o : Option Sofar) → takes g l ≡ o → elim o [ none ↦ takes_one gs l | some a ↦ some a ] ≡ some p
        → (takes_one gs l ≡ some p → CleanWords l) → CleanWords l
    go l none f k rec = rec k
    go [] (some a) f k rec = none_not_some (sym h.1 ∙ f)
    go (w ∷ ws) (some a) f k rec = (w, ws, refl, takes_clean g h.0 (w ∷ ws) a f)

one_starts : (gs : List (Grammar Sofar)) → AllProper gs → (w : Text) (ws : List Text) (p : Sofar) → takes_one gs (w ∷ ws) ≡ some p
    → CleanLine (w ∷ ws) → (l y : Text)
    → join space (w ∷ ws) ≡ l ++ y → starts_one gs (split space l) ≡ true
one_starts [] h w ws p e c l y j = none_not_some e
one_starts (g ∷ gs) h w ws p e c l y j = go (takes g (w ∷ ws)) refl e (λ k. one_starts gs h.2 w ws p k c l y j)
  where
    still : (b : Bool) → starts_one gs (split space l) ≡ true → elim b [ true ↦ true | false ↦ starts_one gs (split space l) ] ≡ true
    still true r = refl
    still false r = r

    go : (o : Option Sofar) → takes g (w ∷ ws) ≡ o → elim o [ none ↦ takes_one gs (w ∷ ws) | some a ↦ some a ] ≡ some p
        → (takes_one gs (w ∷ ws) ≡ some p → starts_one gs (split space l) ≡ true)
        → elim (starts g (split space l)) [ true ↦ true | false ↦ starts_one gs (split space l) ] ≡ true
    go none f k rec = still (starts g (split space l)) (rec k)
    go (some a) f k rec = ap (λ (b : Bool). elim b [ true ↦ true | false ↦ starts_one gs (split space l) ]) (begun_starts g w ws a f c l y j)

abbrev OneBegun : List (Grammar Sofar) → List Text → Type 0
OneBegun gs us =
    (w : Text) × (ws : List Text) × (p : Sofar) × (y : Text) × (takes_one gs (w ∷ ws) ≡ some p) × (join space (w ∷ ws) ≡ join space us ++ y)

one_begun : (gs : List (Grammar Sofar)) → AllProper gs → (us : List Text) → starts_one gs us ≡ true → OneBegun gs us
one_begun [] h us e = absurd (false≢true e)
one_begun (g ∷ gs) h us e = go (starts g us) refl e (λ k. one_begun gs h.2 us k)
  where
    later : (w : Text) (ws : List Text) (p : Sofar) → takes_one gs (w ∷ ws) ≡ some p → (q : Sofar) × (takes_one (g ∷ gs) (w ∷ ws) ≡ some q)
    later w ws p e = at (takes g (w ∷ ws))
      where
        at : (o : Option Sofar) → (q : Sofar) × (elim o [ none ↦ takes_one gs (w ∷ ws) | some a ↦ some a ] ≡ some q)
        at none = (p, e)
        at (some a) = (a, refl)

    go : (b : Bool) → starts g us ≡ b → elim b [ true ↦ true | false ↦ starts_one gs us ] ≡ true → (starts_one gs us ≡ true → OneBegun gs us)
        → OneBegun (g ∷ gs) us
    go true f k rec =
        let r = starts_begun g h.0 us f in
        (r.0, r.1, r.2, r.3, ap (λ (o : Option Sofar). elim o [ none ↦ takes_one gs (r.0 ∷ r.1) | some a ↦ some a ]) r.4, r.5)
    go false f k rec =
        let r : OneBegun gs us = rec k in
        let q : (q : Sofar) × (takes_one (g ∷ gs) (r.0 ∷ r.1) ≡ some q) = later r.0 r.1 r.2 r.4 in
        (r.0, r.1, q.0, r.3, q.1, r.5)

-- the three facts
abbrev pub ProperLines : Type 0
ProperLines = (σ : State) → AllProper (lines σ)

abbrev pub Forth : Type 0
Forth =
    (s : List ℕ) (p : Program) → Bytes s → read_program s ≡ ok p → (σ : State) × (run fresh (program_lines s p) ≡ some σ) × (file σ ≡ some s)

abbrev pub Back : Type 0
Back = (ls : List Line) (σ : State) → run fresh ls ≡ some σ
    → (s : List ℕ) × (p : Program) × (more : List Line) × (read_program s ≡ ok p) × (program_lines s p ≡ ls ++ more)
    × ((z : List ℕ) → file σ ≡ some z → (z ≡ s) × (more ≡ [])) × Bytes s

module _ (proper : ProperLines) (forth : Forth) (back : Back) where
  run_clean : (ls : List Line) (σ τ : State) → run σ ls ≡ some τ → CleanLines ls
  run_clean [] σ τ h = tt
  run_clean (l ∷ ls) σ τ h =
      let r : (p : Sofar) × (takes_one (lines σ) l ≡ some p) × (run (sofar p) ls ≡ some τ) = ran σ τ l ls h in
      let c : CleanWords l = one_clean (lines σ) (proper σ) l r.0 r.1 in
      (c.0, c.1, c.2, c.3, run_clean ls (sofar r.0) τ r.2)

  -- lines that are written are followed as they run
  follow_next : (o : ℕ) (σ : State) (l : Text) (q : List Text) (m : Text) (ms : List Text) → q ≡ m ∷ ms → (p : Sofar)
      → takes_one (lines σ) (split space l) ≡ some p
      → follow o σ (l ∷ q) ≡ follow (o + length l + 1) (sofar p) q
  follow_next o σ l q m ms e p h =
      ap (λ (r : List Text). follow o σ (l ∷ r)) e
      ∙ ap (λ (a : Option Sofar). elim a [ none ↦ refused (refusal 27 o) | some p ↦ follow (o + length l + 1) (sofar p) (m ∷ ms) ]) h
      ∙ ap (λ (r : List Text). follow (o + length l + 1) (sofar p) r) (sym e)

  follow_written : (ls : List Line) (σ τ : State) → CleanLines ls → run σ ls ≡ some τ → (o : ℕ)
      → (x : ℕ) × (follow o σ (split newline (written ls)) ≡ ending x τ [])
  follow_written [] σ τ h e o = let f : some σ ≡ some τ = e in let q : σ ≡ τ = cc in (o, ap (λ (ρ : State). ending o ρ []) q)
  follow_written (l ∷ ls) σ τ h e o =
      let r : (p : Sofar) × (takes_one (lines σ) l ≡ some p) × (run (sofar p) ls ≡ some τ) = ran σ τ l ls e in
      let sl : split space (join space l) ≡ l = ap (λ (k : Line). split space (join space k)) h.2 ∙ split_line h.0 h.1 h.3 ∙ sym h.2 in
      let fl : Free newline (join space l) = subst (λ (k : Line). Free newline (join space k)) (sym h.2) (line_free (h.0 ∷ h.1) h.3) in
      let sh : (p : Text) × (ps : List Text) × (split newline (written ls) ≡ p ∷ ps) = split_shape newline (written ls) in
      let i = follow_written ls (sofar r.0) τ h.4 r.2 (o + length (join space l) + 1) in (
        i.0,
        ap (follow o σ) (split_seam newline (join space l) fl (written ls))
            ∙ follow_next o σ (join space l) (split newline (written ls)) sh.0 sh.1 sh.2 r.0 (ap (takes_one (lines σ)) sl ∙ r.1) ∙ i.1,
      )

  pub round_trip : RoundTrip
  round_trip s t y h =
      let l : (p : Program) × (read_program s ≡ ok p) × (t ≡ written (program_lines s p)) = listing_of s t h in
      let f : (σ : State) × (run fresh (program_lines s l.0) ≡ some σ) × (file σ ≡ some s) = forth s l.0 y l.1 in
      let r = follow_written (program_lines s l.0) fresh f.0 (run_clean (program_lines s l.0) fresh f.0 f.1) f.1 0 in
      ap unlisted l.2 ∙ r.1 ∙ ap (λ (o : Option (List ℕ)). elim o [ none ↦ refused (refusal 27 r.0) | some z ↦ ok z ]) f.2

  pub one_program : OneProgram
  one_program s z t a b h k = let e : ok s ≡ ok z = sym (round_trip s t a h) ∙ round_trip z t b k in cc

  -- a text that is read is written by the lines that were followed
  abbrev Followed : State → Text → List ℕ → Type 0
  Followed σ t s = (ls : List Line) × (τ : State) × (run σ ls ≡ some τ) × (file τ ≡ some s) × (t ≡ written ls)

  not_ok_refused : {X : Type 0} (b : Bool) (n o : ℕ) (r : Refusal) (s : List ℕ) → (need b n o >> refused r) ≡ ok s → X
  unfolding ◌>>◌
  not_ok_refused true n o r s e = ok_not_refused (sym e)
  not_ok_refused false n o r s e = ok_not_refused (sym e)

  followed : (ps : List Text) (o : ℕ) (σ : State) (s : List ℕ) → follow o σ ps ≡ ok s → Followed σ (join newline ps) s
  followed [] o σ s h = ok_not_refused (sym h)
  followed ([] ∷ []) o σ s h = go (file σ) refl h
    where
      go : (f : Option (List ℕ)) → file σ ≡ f → elim f [ none ↦ refused (refusal 27 o) | some z ↦ ok z ] ≡ ok s → Followed σ [] s
      go none e k = ok_not_refused (sym k)
      go (some z) e k = ([], σ, refl, e ∙ ap some (let f : ok z ≡ ok s = k in cc), refl)
  followed ((x ∷ u) ∷ []) o σ s h = not_ok_refused (starts_one (lines σ) (split space (x ∷ u))) 27 o (refusal 27 (o + suc (length u))) s h
  followed (l ∷ (m ∷ ls)) o σ s h = go (takes_one (lines σ) (split space l)) refl h (λ p k. followed (m ∷ ls) (o + length l + 1) (sofar p) s k)
    where
      go : (a : Option Sofar) → takes_one (lines σ) (split space l) ≡ a
          → elim a [ none ↦ refused (refusal 27 o) | some p ↦ follow (o + length l + 1) (sofar p) (m ∷ ls) ] ≡ ok s
          → ((p : Sofar) → follow (o + length l + 1) (sofar p) (m ∷ ls) ≡ ok s → Followed (sofar p) (join newline (m ∷ ls)) s)
          → Followed σ (join newline (l ∷ (m ∷ ls))) s
      go none e k rec = ok_not_refused (sym k)
      go (some p) e k rec =
          let r : Followed (sofar p) (join newline (m ∷ ls)) s = rec p k in (
            split space l ∷ r.0,
            r.1,
            run_next σ (split space l) r.0 p e ∙ r.2,
            r.3,
            ap (λ (t : Text). l ++ (newline ∷ t)) r.4 ∙ ap (λ (t : Text). t ++ (newline ∷ written r.0)) (sym (join_split space l)),
          )

  pub only_listings : OnlyListings
  only_listings t s h =
      let f : Followed fresh (join newline (split newline t)) s = followed (split newline t) 0 fresh s h in
      let b = back f.0 f.1 f.2 in
      let e : (s ≡ b.0) × (b.2 ≡ []) = b.5 s f.3 in
      let w = ap written (b.4 ∙ ap (λ (m : List Line). f.0 ++ m) e.1 ∙ append-nil f.0) ∙ sym f.4 ∙ join_split newline t in
      (subst (λ (x : List ℕ). Bytes x) (sym e.0) b.6, ap listing e.0 ∙ is_listing b.0 b.1 b.3 ∙ ap ok w)

  -- Refusals.
  begins_run : (ls : List Line) (σ : State) → run fresh ls ≡ some σ → (t z : Text) → written ls ≡ t ++ z → Begins t
  begins_run ls σ h t z e =
      let b = back ls σ h in (
        b.0,
        z ++ written b.2,
        b.6,
        is_listing b.0 b.1 b.3
            ∙ ap ok (ap written b.4 ∙ written_append ls b.2 ∙ ap (λ (u : Text). u ++ written b.2) e ∙ append_assoc t z (written b.2)),
      )

  -- a listing that begins with lines that were followed goes on with lines that may follow
  goes_on : (ls : List Line) (σ : State) → run fresh ls ≡ some σ → (s : List ℕ) (t : Text) → Bytes s → listing s ≡ ok (written ls ++ t)
      → (more : List Line) × (τ : State) × (run σ more ≡ some τ) × (file τ ≡ some s) × (written more ≡ t) × CleanLines more
  goes_on ls σ h s t y k =
      let l : (p : Program) × (read_program s ≡ ok p) × (written ls ++ t ≡ written (program_lines s p)) = listing_of s (written ls ++ t) k in
      let f : (τ : State) × (run fresh (program_lines s l.0) ≡ some τ) × (file τ ≡ some s) = forth s l.0 y l.1 in
      let w = written_front ls (program_lines s l.0) (run_clean ls fresh σ h) (run_clean (program_lines s l.0) fresh f.0 f.1) t (sym l.2) in
      let r : run σ w.0 ≡ some f.0 = sym (run_on fresh σ ls w.0 h) ∙ ap (run fresh) (sym w.1) ∙ f.1 in
      (w.0, f.0, r, f.2, w.2, run_clean w.0 σ f.0 r)

  -- no listing goes on with a line that may not follow, nor with an unfinished one that begins none
  no_line : (ls : List Line) (σ : State) → run fresh ls ≡ some σ → (l : Text) → Free newline l → takes_one (lines σ) (split space l) ≡ none
      → Begins (written ls ++ (l ++ (newline ∷ []))) → ⊥
  no_line ls σ h l free e b =
      let g =
      goes_on ls σ h b.0 (l ++ (newline ∷ b.1)) b.2
      (b.3 ∙ ap ok (append_assoc (written ls) (l ++ (newline ∷ [])) b.1
      ∙ ap (λ (u : Text). written ls ++ u) (append_assoc l (newline ∷ []) b.1))) in
      go g.0 g.1 g.2 g.4 g.5
    where
      go : (more : List Line) (τ : State) → run σ more ≡ some τ → written more ≡ l ++ (newline ∷ b.1) → CleanLines more → ⊥
      go [] τ r w c = nil_not_mid l newline b.1 w
      go (a ∷ more) τ r w c =
          let fa : Free newline (join space a) = subst (λ (k : Line). Free newline (join space k)) (sym c.2) (line_free (c.0 ∷ c.1) c.3) in
          let q : (join space a ≡ l) × (written more ≡ b.1) = peel newline (join space a) l fa free (written more) b.1 w in
          let n : (p : Sofar) × (takes_one (lines σ) a ≡ some p) × (run (sofar p) more ≡ some τ) = ran σ τ a more r in
          let sa = ap (λ (k : Line). split space (join space k)) c.2 ∙ split_line c.0 c.1 c.3 ∙ sym c.2 in
          none_not_some (sym e ∙ ap (λ (t : Text). takes_one (lines σ) (split space t)) (sym q.0) ∙ ap (takes_one (lines σ)) sa ∙ n.1)

  mid_free : {X : Type 0} (p : Text) (z : Text) → Free newline (p ++ (newline ∷ z)) → X
  mid_free [] z h = let e : true ≡ false = h.0 in absurd (false≢true (sym e))
  mid_free (x ∷ p) z h = mid_free p z h.1

  no_start : (ls : List Line) (σ : State) → run fresh ls ≡ some σ → (x : ℕ) (u : Text) → Free newline (x ∷ u)
      → starts_one (lines σ) (split space (x ∷ u)) ≡ false → Begins (written ls ++ (x ∷ u)) → ⊥
  no_start ls σ h x u free e b =
      let g = goes_on ls σ h b.0 ((x ∷ u) ++ b.1) b.2 (b.3 ∙ ap ok (append_assoc (written ls) (x ∷ u) b.1)) in
      go g.0 g.1 g.2 g.4 g.5
    where
      here : (w : Text) (ws : List Text) → CleanLine (w ∷ ws) → (p : Sofar) → takes_one (lines σ) (w ∷ ws) ≡ some p → (more : List Line)
          → Longer (join space (w ∷ ws)) (newline ∷ written more) (x ∷ u) b.1 → ⊥
      here w ws c p t more (inl q) = absurd (false≢true (sym e ∙ one_starts (lines σ) (proper σ) w ws p t c (x ∷ u) q.0 q.1))
      here w ws c p t more (inr q) =
          let y : newline ≡ q.0 = (let k : newline ∷ written more ≡ q.0 ∷ (q.1 ++ b.1) = q.3 in cc) in
          mid_free (join space (w ∷ ws)) q.1
          (subst (λ (t : Text). Free newline t) (q.2 ∙ ap (λ (n : ℕ). join space (w ∷ ws) ++ (n ∷ q.1)) (sym y)) free)

      go : (more : List Line) (τ : State) → run σ more ≡ some τ → written more ≡ (x ∷ u) ++ b.1 → CleanLines more → ⊥
      go [] τ r w c = nil_not_mid [] x (u ++ b.1) w
      go (a ∷ more) τ r w c =
          let n : (p : Sofar) × (takes_one (lines σ) a ≡ some p) × (run (sofar p) more ≡ some τ) = ran σ τ a more r in
          here c.0 c.1 c.3 n.0 (ap (takes_one (lines σ)) (sym c.2) ∙ n.1) more
          (longer (join space (c.0 ∷ c.1)) (newline ∷ written more) (x ∷ u) b.1
          (ap (λ (k : Line). join space k ++ (newline ∷ written more)) (sym c.2) ∙ w))

  -- a listing ends in a newline
  no_last : (L : List Line) → CleanLines L → (ls : List Line) → CleanLines ls → (x : ℕ) (u : Text) → Free newline (x ∷ u)
      → written L ≡ written ls ++ (x ∷ u) → ⊥
  no_last L cL ls cl x u free e = let w = written_front ls L cl cL (x ∷ u) e in go w.0 w.2
    where
      go : (more : List Line) → written more ≡ x ∷ u → ⊥
      go [] k = nil_not_mid [] x u k
      go (a ∷ more) k = mid_free (join space a) (written more) (subst (λ (t : Text). Free newline t) (sym k) free)

  abbrev Stopped : Text → Refusal → Type 0
  Stopped t r = (x : ℕ) × (r ≡ refusal 27 x) × Stops t x

  stopped_at : (t u : Text) (r : Refusal) → u ≡ t → Stopped u r → Stopped t r
  stopped_at t u r e h = subst (λ (v : Text). Stopped v r) e h

  refused_is : (r q : Refusal) → ◌≡◌ {A = Check (List ℕ)} (refused r) (refused q) → q ≡ r
  refused_is r q e = cc

  unfinished : (ls : List Line) (σ : State) → run fresh ls ≡ some σ → (x : ℕ) (u : Text) → Free newline (x ∷ u) → (o : ℕ)
      → o ≡ length (written ls) → (r : Refusal) (b : Bool)
      → starts_one (lines σ) (split space (x ∷ u)) ≡ b
      → ◌≡◌ {A = Check (List ℕ)} (need b 27 o >> refused (refusal 27 (o + suc (length u)))) (refused r) → Stopped (written ls ++ ((x ∷ u) ++ [])) r
  unfolding ◌>>◌
  unfinished ls σ h x u free o eo r false e k = (
    length (written ls),
    refused_is (refusal 27 o) r k ∙ ap (refusal 27) eo,
    at_line (written ls) (x ∷ u) [] refl (whole ls) (inr (unbroken (x ∷ u) free, refl, λ z. nil_not_mid [] x u (sym z)))
        (begins_run ls σ h (written ls) [] (sym (append-nil (written ls)))) (no_start ls σ h x u free e),
  )
  unfinished ls σ h x u free o eo r true e k =
      let g : OneBegun (lines σ) (split space (x ∷ u)) = one_begun (lines σ) (proper σ) (split space (x ∷ u)) e in
      let w : Line = g.0 ∷ g.1 in
      let rw₁ : run fresh (ls ++ (w ∷ [])) ≡ some (sofar g.2) = run_on fresh σ ls (w ∷ []) h ∙ run_next σ w [] g.2 g.4 in
      let j : join space w ≡ (x ∷ u) ++ g.3 = g.5 ∙ ap (λ (t : Text). t ++ g.3) (join_split space (x ∷ u)) in
      let t =
      written_append ls (w ∷ []) ∙ ap (λ (v : Text). written ls ++ (v ++ (newline ∷ []))) j
      ∙ ap (λ (v : Text). written ls ++ v) (append_assoc (x ∷ u) g.3 (newline ∷ []))
      ∙ sym (append_assoc (written ls) (x ∷ u) (g.3 ++ (newline ∷ [])))
      ∙ ap (λ (v : Text). (written ls ++ v) ++ (g.3 ++ (newline ∷ []))) (sym (append-nil (x ∷ u))) in
      let n : o + suc (length u) ≡ length (written ls ++ ((x ∷ u) ++ [])) =
      omega (arith, length-append (written ls) ((x ∷ u) ++ []), length-append u []) in (
        length (written ls ++ ((x ∷ u) ++ [])),
        refused_is (refusal 27 (o + suc (length u))) r k ∙ ap (refusal 27) n,
        at_end (begins_run (ls ++ (w ∷ [])) (sofar g.2) rw₁ (written ls ++ ((x ∷ u) ++ [])) (g.3 ++ (newline ∷ [])) t) λ s y q.
            let li = listing_of s (written ls ++ ((x ∷ u) ++ [])) q in
            let f : (τ : State) × (run fresh (program_lines s li.0) ≡ some τ) × (file τ ≡ some s) = forth s li.0 y li.1 in
            no_last (program_lines s li.0) (run_clean (program_lines s li.0) fresh f.0 f.1) ls (run_clean ls fresh σ h) x u free
            (sym li.2 ∙ ap (λ (v : Text). written ls ++ v) (append-nil (x ∷ u))),
      )

  stops : (ps : List Text) → AllFree newline ps → (p₀ : Text) (ps₀ : List Text) → ps ≡ p₀ ∷ ps₀ → (ls : List Line) (σ : State)
      → run fresh ls ≡ some σ → (o : ℕ) → o ≡ length (written ls) → (r : Refusal)
      → follow o σ ps ≡ refused r → Stopped (written ls ++ join newline ps) r
  stops [] fr p₀ ps₀ sh ls σ h o eo r e = let z : ◌≡◌ {A = ℕ} 0 1 = cc in absurd (omega arith)
  stops ([] ∷ []) fr p₀ ps₀ sh ls σ h o eo r e = go (file σ) refl e
    where
      none_lists : file σ ≡ none → (s : List ℕ) → Bytes s → listing s ≡ ok (written ls ++ []) → ⊥
      none_lists f s y k =
          let g = goes_on ls σ h s [] y k in
          end g.0 g.1 g.2 g.3 g.4
        where
          end : (more : List Line) (τ : State) → run σ more ≡ some τ → file τ ≡ some s → written more ≡ [] → ⊥
          end [] τ r q w = let eσ : some σ ≡ some τ = r in let es : σ ≡ τ = cc in none_not_some (sym f ∙ ap file es ∙ q)
          end (a ∷ more) τ r q w = nil_not_mid (join space a) newline (written more) (sym w)

      go : (f : Option (List ℕ)) → file σ ≡ f → ◌≡◌ {A = Check (List ℕ)} (elim f [ none ↦ refused (refusal 27 o) | some z ↦ ok z ]) (refused r)
          → Stopped (written ls ++ []) r
      go none f k = (
        length (written ls ++ []),
        refused_is (refusal 27 o) r k ∙ ap (refusal 27) (eo ∙ ap length (sym (append-nil (written ls)))),
        at_end (begins_run ls σ h (written ls ++ []) [] (sym (append-nil (written ls)) ∙ sym (append-nil (written ls ++ [])))) (none_lists f),
      )
      go (some z) f k = ok_not_refused k
  stops ((x ∷ u) ∷ []) fr p₀ ps₀ sh ls σ h o eo r e = unfinished ls σ h x u fr.0 o eo r (starts_one (lines σ) (split space (x ∷ u))) refl e
  stops (l ∷ (m ∷ ps)) fr p₀ ps₀ sh ls σ h o eo r e =
      go (takes_one (lines σ) (split space l)) refl e
      (λ p k n q. stops (m ∷ ps) fr.1 m ps refl (ls ++ (split space l ∷ [])) (sofar p) n (o + length l + 1) q r k)
    where
      go : (a : Option Sofar) → takes_one (lines σ) (split space l) ≡ a
          → ◌≡◌ {A = Check (List ℕ)} (elim a [ none ↦ refused (refusal 27 o) | some p ↦ follow (o + length l + 1) (sofar p) (m ∷ ps) ]) (refused r)
          → ((p : Sofar) → follow (o + length l + 1) (sofar p) (m ∷ ps) ≡ refused r → run fresh (ls ++ (split space l ∷ [])) ≡ some (sofar p)
          → o + length l + 1 ≡ length (written (ls ++ (split space l ∷ [])))
          → Stopped (written (ls ++ (split space l ∷ [])) ++ join newline (m ∷ ps)) r) → Stopped (written ls ++ join newline (l ∷ (m ∷ ps))) r
      go none f k rec = (
        length (written ls),
        refused_is (refusal 27 o) r k ∙ ap (refusal 27) eo,
        at_line (written ls) (l ++ (newline ∷ [])) (join newline (m ∷ ps))
            (ap (λ (v : Text). written ls ++ v) (sym (append_assoc l (newline ∷ []) (join newline (m ∷ ps))))) (whole ls)
            (inl (l, unbroken l fr.0, refl)) (begins_run ls σ h (written ls) [] (sym (append-nil (written ls)))) (no_line ls σ h l fr.0 f),
      )
      go (some p) f k rec =
          let n = run_on fresh σ ls (split space l ∷ []) h ∙ run_next σ (split space l) [] p f in
          let w = sym (append-nil (written (ls ++ (split space l ∷ [])))) ∙ written_line ls l [] in
          let q : o + length l + 1 ≡ length (written (ls ++ (split space l ∷ []))) =
          omega (arith, ap length w, length-append (written ls) (l ++ (newline ∷ [])), length-append l (newline ∷ [])) in
          stopped_at (written ls ++ join newline (l ∷ (m ∷ ps))) (written (ls ++ (split space l ∷ [])) ++ join newline (m ∷ ps)) r
          (written_line ls l (join newline (m ∷ ps))) (rec p k n q)

  pub refuses : Refuses
  refuses t r h =
      let sh : (p : Text) × (ps : List Text) × (split newline t ≡ p ∷ ps) = split_shape newline t in
      stopped_at t (join newline (split newline t)) r (join_split newline t)
      (stops (split newline t) (split_free newline t) sh.0 sh.1 sh.2 [] fresh refl 0 refl r h)
