-- The loop over lines goes along the definition: each line that was taken leads to the next state, the first that was not is refused at its start, and an
-- unfinished one that begins a line at the text's end.
use mathlib.Core.Bool.{Bool, true, false}
use mathlib.Core.List.{List, [], ◌∷◌}
use mathlib.Core.Option.{Option, none, some}
use mathlib.Core.Path.{◌≡◌, refl, sym, ap, subst, ◌∙◌}
use native.Mathlib.Omega.{arith}
use Prim.Native.Nat.{ℕ, suc, ◌+◌, ◌<◌, ◌≤◌}
use borrow.Author.Tests.{ltb-true, ltb-false, le-leb}
use lib.Dec.{ltb, leb}
use lib.ListN.{get_or, length, drop, drop_of_length-le}
use lib.Seq.{sets}
use Rattle.std.specs.Prelude.{Result, Ok, Err}
use Rattle.answers.specs.Check.{Check, ok, refused, refusal, in_file, within, need, ◌>>=◌, ◌>>◌}
use Rattle.answers.specs.Said.{said}
use Rattle.answers.specs.declared.File.TheVariants.{Listing}
use Rattle.answers.specs.declared.Refusal.{Refusal}
use Rattle.rules.specs.Basics.{chosen}
use Rattle.rules.specs.Words.{Text, space, newline, split}
use Rattle.rules.specs.Grammar.{takes_one, starts_one}
use Rattle.rules.specs.Unlisting.{Sofar, State, fresh, sofar, lines, ending, follow, unlisted}
use Rattle.reading.specs.Cursor.{part, words_from, LineEnd}
use Rattle.reading.specs.Hearing.{Hearing, not, begun, took, hears_one}
use Rattle.standing.specs.declared.state.Standing.{Standing}
use Rattle.reading.specs.declared.line.Line.{Line}
use Rattle.reading.specs.declared.cursor.Unread.{Unread}
use Rattle.reading.specs.declared.cursor.Unread.TheVariants.{Not, Begun}
use Rattle.standing.specs.Numbers.{fresh_of}
use Rattle.standing.specs.Means.{laid_at, Stands}
use Rattle.stating.specs.Statements.{TookLine, LineAs}
use Rattle.unlisting.specs.Lines.{ReadsAny, Ended, EndAs, Ends, Stop, length_of}
use Rattle.reading.proofs.Hearings.{heard, hears_taken, hears_started}
use Rattle.reading.proofs.Indenting.{part_some}
use Rattle.reading.proofs.Spellings.{split_shape}
use Rattle.reading.proofs.Splitting.{length_part}

-- what is heard of what was taken, and of whether it starts so
taken_none : (o : Option Sofar) → heard o ≡ not → o ≡ none
taken_none none e = refl
taken_none (some a) e = absurd (let z : ◌≡◌ {A = ℕ} 0 1 = cc in omega arith)

taken_some : (o : Option Sofar) (p : Sofar) → heard o ≡ took p → o ≡ some p
taken_some none p e = absurd (let z : ◌≡◌ {A = ℕ} 0 1 = cc in omega arith)
taken_some (some a) p e = let z : a ≡ p = cc in ap some z

taken_begun : (o : Option Sofar) → heard o ≡ begun → ⊥
taken_begun none e = let z : ◌≡◌ {A = ℕ} 0 1 = cc in omega arith
taken_begun (some a) e = let z : ◌≡◌ {A = ℕ} 0 1 = cc in omega arith

starts_not : (b : Bool) → ◌≡◌ {A = Hearing Sofar} (chosen b begun not) not → b ≡ false
starts_not true e = absurd (let z : ◌≡◌ {A = ℕ} 0 1 = cc in omega arith)
starts_not false e = refl

starts_so : (b : Bool) → ◌≡◌ {A = Hearing Sofar} (chosen b begun not) begun → b ≡ true
starts_so true e = refl
starts_so false e = absurd (let z : ◌≡◌ {A = ℕ} 0 1 = cc in omega arith)

starts_took : (b : Bool) (p : Sofar) → ◌≡◌ {A = Hearing Sofar} (chosen b begun not) (took p) → ⊥
starts_took true p e = let z : ◌≡◌ {A = ℕ} 0 1 = cc in omega arith
starts_took false p e = let z : ◌≡◌ {A = ℕ} 0 1 = cc in omega arith

-- what follows a line at `at` that was taken, or was not
abbrev next : ℕ → ℕ → List Text → Option Sofar → Check (List ℕ)
next at n ls none = refused (refusal 27 at)
next at n ls (some p) = follow n (sofar p) ls

follow_line : (at : ℕ) (σ : State) (l m : Text) (ls : List Text) (o : Option Sofar) → takes_one (lines σ) (split space l) ≡ o
    → follow at σ (l ∷ (m ∷ ls)) ≡ next at (at + length l + 1) (m ∷ ls) o
follow_line at σ l m ls none e =
    ap (λ (a : Option Sofar). elim a [ none ↦ refused (refusal 27 at) | some p ↦ follow (at + length l + 1) (sofar p) (m ∷ ls) ]) e
follow_line at σ l m ls (some q) e =
    ap (λ (a : Option Sofar). elim a [ none ↦ refused (refusal 27 at) | some p ↦ follow (at + length l + 1) (sofar p) (m ∷ ls) ]) e

module _ (t : Text) (out₀ : List ℕ) where
  abbrev pub Promised : Result ℕ Refusal → List ℕ → Type 0
  Promised r out = (said r ≡ length_of (within Listing (unlisted t))) × ((s : List ℕ) → unlisted t ≡ ok s → out ≡ sets out₀ 0 s)

  -- the text is refused
  promised_no : (x : ℕ) → unlisted t ≡ refused (refusal 27 x) → (r : Refusal) → r ≡ in_file Listing (refusal 27 x)
      → (out : List ℕ) → Promised (Err r) out
  unfolding length_of ◌>>=◌
  promised_no x e r q out = (
    ap refused q ∙ ap (λ (m : Check (List ℕ)). length_of (within Listing m)) (sym e),
    λ s h. absurd (let z : ◌≡◌ {A = ℕ} 0 1 = cc in omega arith),
  )

  -- the lines before `at` have been read
  pub record Followed (at : ℕ) (c : Standing) (out : List ℕ) : Type 0 where
    pub state : State
    pub stands : Stands c state
    pub same : unlisted t ≡ follow at state (split newline (drop at t))
    pub stand : out ≡ sets out₀ 6 (laid_at state)

  pub followed_none : (c : Standing) → c ≡ fresh_of → Followed 0 c out₀
  unfolding Stands
  followed_none c e = record { state = fresh; stands = e; same = refl; stand = refl }

  module _ (at : ℕ) (c : Standing) (out : List ℕ) (F : Followed at c out) (l : at < length t) (line : Line) (of : line.text.now ≡ t) (in₁ : at ≤ line.end)
      (L : LineEnd t at line.end) (S : Stop t line.end line.stop) where
    abbrev σ : State
    σ = F.state

    abbrev end : ℕ
    end = line.end

    abbrev stop : ℕ
    stop = line.stop

    in₂ : end ≤ length t
    in₂ = omega (arith, S.from, S.within)

    -- what one of the lines that may follow is to the words of this one
    is : (r : Result Standing Unread) (after : List ℕ) → ReadsAny line.text.now at line.end line.stop c out r after → (whole : Bool)
        → ltb end (length t) ≡ whole
        → LineAs (hears_one whole (lines σ) (split space (part t at end))) out₀ r after
    unfolding ReadsAny words_from
    is r after R whole w =
        let z : leb at end ≡ true = le-leb at end in₁ in
        subst (λ (ws : List Text). LineAs (hears_one whole (lines σ) ws) out₀ r after)
        (ap (λ (b : Bool). chosen b (split space (part t at end)) []) z)
        (subst (λ (b : Bool). LineAs (hears_one b (lines σ) (words_from t at end)) out₀ r after) (S.whole ∙ w)
        (subst (λ (u : Text). ReadsAny u at end stop c out r after) of R σ out₀ F.stands F.stand))

    abbrev words : List Text
    words = split space (part t at end)

    -- more lines follow: this one is taken or not
    whole_line : ltb end (length t) ≡ true → (o : Option Sofar) → takes_one (lines σ) words ≡ o
        → unlisted t ≡ next at (end + 1) (split newline (drop (end + 1) t)) o
    unfolding LineEnd
    whole_line b o e =
        let more : (p : Text) × (ps : List Text) × (split newline (drop (end + 1) t) ≡ p ∷ ps) = split_shape newline (drop (end + 1) t) in
        let k : at + length (part t at end) + 1 ≡ end + 1 = omega (arith, length_part t at end in₁ in₂) in
        F.same ∙ ap (follow at σ) (L ∙ ap (λ (v : Bool). part t at end ∷ chosen v (split newline (drop (end + 1) t)) []) b
        ∙ ap (λ (ps : List Text). part t at end ∷ ps) more.2)
        ∙ follow_line at σ (part t at end) more.0 more.1 o e
        ∙ ap (λ (n : ℕ). next at n (more.0 ∷ more.1) o) k ∙ ap (λ (ls : List Text). next at (end + 1) ls o) (sym more.2)

    -- the last line, which is unfinished
    last_line : ltb end (length t) ≡ false → (b : Bool) → starts_one (lines σ) words ≡ b
        → unlisted t ≡ chosen b (refused (refusal 27 (length t))) (refused (refusal 27 at))
    unfolding LineEnd ◌>>◌
    last_line w b e =
        let h : length t ≤ end = ltb-false end (length t) w in
        let k : at + length (part t at end) ≡ length t = omega (arith, length_part t at end in₁ in₂) in
        let f : part t at end ≡ get_or t at 0 ∷ part t (suc at) end = part_some t at end (omega arith) in₂ in
        F.same ∙ ap (follow at σ) (L ∙ ap (λ (v : Bool). part t at end ∷ chosen v (split newline (drop (end + 1) t)) []) w)
        ∙ last (part t at end) (get_or t at 0) (part t (suc at) end) f b e k
      where
        last : (p : Text) (x : ℕ) (u : Text) → p ≡ x ∷ u → (b : Bool) → starts_one (lines σ) (split space p) ≡ b → at + length p ≡ length t
            → ending at σ p ≡ chosen b (refused (refusal 27 (length t))) (refused (refusal 27 at))
        last [] x u f b e k = absurd (let z : ◌≡◌ {A = ℕ} 0 (suc (length u)) = ap length f in omega arith)
        last (y ∷ p) x u f true e k =
            ap (λ (v : Bool). need v 27 at >> refused (refusal 27 (at + suc (length p)))) e
            ∙ ap (λ (n : ℕ). refused (refusal 27 n)) k
        last (y ∷ p) x u f false e k = ap (λ (v : Bool). need v 27 at >> refused (refusal 27 (at + suc (length p)))) e

    -- a line that is none, and an unfinished one that begins a line
    line_no : (after : List ℕ) → ReadsAny line.text.now at line.end line.stop c out (Err Not) after → unlisted t ≡ refused (refusal 27 at)
    unfolding LineAs
    line_no after R = go (ltb end (length t)) refl
      where
        go : (w : Bool) → ltb end (length t) ≡ w → unlisted t ≡ refused (refusal 27 at)
        go true w = whole_line w none (taken_none (takes_one (lines σ) words) (sym (hears_taken (lines σ) words) ∙ is _ after R true w))
        go false w = last_line w false (starts_not (starts_one (lines σ) words) (sym (hears_started (lines σ) words) ∙ is _ after R false w))

    line_starts : (after : List ℕ) → ReadsAny line.text.now at line.end line.stop c out (Err Begun) after → unlisted t ≡ refused (refusal 27 (length t))
    unfolding LineAs
    line_starts after R = go (ltb end (length t)) refl
      where
        go : (w : Bool) → ltb end (length t) ≡ w → unlisted t ≡ refused (refusal 27 (length t))
        go true w = absurd (taken_begun (takes_one (lines σ) words) (sym (hears_taken (lines σ) words) ∙ is _ after R true w))
        go false w = last_line w true (starts_so (starts_one (lines σ) words) (sym (hears_started (lines σ) words) ∙ is _ after R false w))

    pub refused_line : (after : List ℕ) → ReadsAny line.text.now at line.end line.stop c out (Err Not) after
        → (r : Refusal) → r ≡ in_file Listing (refusal 27 at) → (o : List ℕ) → Promised (Err r) o
    refused_line after R r q o = promised_no at (line_no after R) r q o

    pub refused_last : (after : List ℕ) → ReadsAny line.text.now at line.end line.stop c out (Err Begun) after
        → (r : Refusal) → r ≡ in_file Listing (refusal 27 (length t)) → (o : List ℕ) → Promised (Err r) o
    refused_last after R r q o = promised_no (length t) (line_starts after R) r q o

    -- a line that was taken leads to the next state
    pub line_took : (s : Standing) (after : List ℕ) → ReadsAny line.text.now at line.end line.stop c out (Ok s) after → Followed line.stop s after
    unfolding LineAs Stands
    line_took s after R = go (ltb end (length t)) refl
      where
        go : (w : Bool) → ltb end (length t) ≡ w → Followed stop s after
        go true w =
            let T : TookLine (hears_one true (lines σ) words) out₀ s after = is _ after R true w in
            let z : end + 1 ≡ stop = omega (arith, ltb-true end stop (S.whole ∙ w), S.near) in
            record {
              state = sofar T.program;
              stands = T.means;
              same = whole_line w (some T.program) (taken_some (takes_one (lines σ) words) T.program (sym (hears_taken (lines σ) words) ∙ T.is))
                  ∙ ap (λ (n : ℕ). follow n (sofar T.program) (split newline (drop n t))) z;
              stand = T.stand;
            }
        go false w =
            let T : TookLine (hears_one false (lines σ) words) out₀ s after = is _ after R false w in
            absurd (starts_took (starts_one (lines σ) words) T.program (sym (hears_started (lines σ) words) ∙ T.is))

  -- the text has ended
  module _ (at : ℕ) (c : Standing) (out : List ℕ) (F : Followed at c out) (l : length t ≤ at) (b : Bool) (after : List ℕ) (E : Ends c out b after) where
    abbrev at_end : State
    at_end = F.state

    -- what the text is where its end makes a file, or none
    abbrev ends : Option (List ℕ) → Check (List ℕ)
    ends none = refused (refusal 27 at)
    ends (some s) = ok s

    no_more : unlisted t ≡ ending at at_end []
    no_more = F.same ∙ ap (λ (u : Text). follow at at_end (split newline u)) (drop_of_length-le t l)

    as_end : (v : Bool) → b ≡ v → EndAs at_end c out₀ v after
    unfolding Ends
    as_end v e = subst (λ (x : Bool). EndAs at_end c out₀ x after) e (E at_end out₀ F.stands F.stand)

    end_no : b ≡ false → unlisted t ≡ refused (refusal 27 at)
    unfolding EndAs
    end_no e = no_more ∙ ap (λ (o : Option (List ℕ)). ends o) (as_end false e)

    pub refused_end : b ≡ false → (r : Refusal) → r ≡ in_file Listing (refusal 27 at) → (o : List ℕ) → Promised (Err r) o
    refused_end e r q o = promised_no at (end_no e) r q o

    pub end_yes : b ≡ true → Promised (Ok c.used) after
    unfolding EndAs length_of ◌>>=◌
    end_yes e =
        let X : Ended at_end c out₀ after = as_end true e in
        let f : unlisted t ≡ ok X.bytes = no_more ∙ ap (λ (o : Option (List ℕ)). ends o) X.is in (
          ap (λ (n : ℕ). ok n) (sym X.many) ∙ ap (λ (m : Check (List ℕ)). length_of (within Listing m)) (sym f),
          λ s h. let z : X.bytes ≡ s = cc in X.stand ∙ ap (sets out₀ 0) z,
        )
