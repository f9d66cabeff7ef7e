-- The text has ended. In main the open blocks end one by one, unless an else is due, and the header is put before the bytes. The program that a block's
-- end makes goes on to the same file.
use mathlib.Core.Bool.{Bool, true, false, false≢true}
use mathlib.Core.List.{List, [], ◌∷◌, ◌++◌, append-nil}
use mathlib.Core.Option.{Option, none, some}
use mathlib.Core.Path.{◌≡◌, refl, sym, ap, subst, ◌∙◌}
use native.Mathlib.Omega.{arith}
use Prim.Native.Nat.{ℕ, suc, ◌+◌, ◌<◌, ◌≤◌}
use lib.ListN.{length, set}
use lib.Seq.{sets}
use Rattle.rules.specs.Syntax.{Function}
use Rattle.rules.specs.Unlisting.{Opened, Sofar, State, fresh, sofar, sized, ended, header, file}
use Rattle.standing.specs.Numbers.{fresh_of, closed_of}
use Rattle.standing.specs.Means.{outside, laid, laid_at, After, Means, Stands}
use Rattle.unlisting.specs.Lines.{Closes, Ends, EndAs}
use Rattle.standing.specs.declared.state.Standing.{Standing}
use Rattle.unlisting.proofs.Closing.{innermost, innermost_open, block_due}
use Rattle.standing.proofs.Meaning.{means_closed, set_before}
use Rattle.unlisting.proofs.Tops.{none_open, before_main, in_main}

-- From the numbers and the buffer at first, blocks have been ended up to these: every state that those stood for goes on from a program that these mean.
pub record Ending (c₀ : Standing) (out₀ : List ℕ) (c : Standing) (out : List ℕ) : Type 0 where
  pub main : c.in_main ≡ true
  pub program : (p : Sofar) × Means c p
  pub used : c.used ≡ c₀.used
  pub goes : (σ : State) (D : List ℕ) → Stands c₀ σ → out₀ ≡ sets D 6 (laid_at σ)
      → (p : Sofar) × Means c p × (out ≡ sets D 6 (laid p)) × (file σ ≡ file (sofar p))

-- a run of bytes put before another
sets_before : (D : List ℕ) (i j : ℕ) (X Y : List ℕ) → j + length X ≤ i → sets (sets D i Y) j X ≡ sets (sets D j X) i Y
sets_before D i j [] Y l = refl
sets_before D i j (x ∷ X) Y l =
    ap (λ (E : List ℕ). sets E (suc j) X) (set_before D i j x Y (omega arith)) ∙ sets_before (set D j x) i (suc j) X Y (omega arith)

-- before main a file has not ended
pub not_in_main : (c : Standing) (before after : List ℕ) → c.in_main ≡ false → Ends c before false after
unfolding Ends EndAs Stands
not_in_main c before after i = λ σ D s b. go σ s
  where
    go : (σ : State) → Stands c σ → file σ ≡ none
    go fresh s = refl
    go (sofar p) m =
        ap {B = Option (List ℕ)} (λ (x : Option (List Function)). elim x [
          | some fs ↦ none
          | none ↦ elim (ended p.open_blocks p.bytes) [ none ↦ none | some bs ↦ some (header (length p.scope.earlier) ++ bs) ]
        ]) (before_main c p m i).1

-- in main, at first
pub ending_first : (c : Standing) (out : List ℕ) → c.in_main ≡ true → (σ : State) × Stands c σ → Ending c out c out
unfolding Stands
ending_first c out i s = record {
  main = i;
  program = some_program s.0 s.1;
  used = refl;
  goes = goes;
}
  where
    fresh_not : c ≡ fresh_of → ⊥
    fresh_not e = false≢true (sym (ap (λ (x : Standing). x.in_main) e) ∙ i)

    some_program : (σ : State) → Stands c σ → (p : Sofar) × Means c p
    some_program fresh e = absurd (fresh_not e)
    some_program (sofar p) m = (p, m)

    goes : (σ : State) (D : List ℕ) → Stands c σ → out ≡ sets D 6 (laid_at σ)
        → (p : Sofar) × Means c p × (out ≡ sets D 6 (laid p)) × (file σ ≡ file (sofar p))
    goes fresh D e b = absurd (fresh_not e)
    goes (sofar p) D m b = (p, m, b, refl)

-- the file of a program in main
abbrev filed : ℕ → Option (List ℕ) → Option (List ℕ)
filed n o = elim o [ none ↦ none | some bs ↦ some (header n ++ bs) ]

file_in_main : (p : Sofar) → p.after ≡ none → file (sofar p) ≡ filed (length p.scope.earlier) (ended p.open_blocks p.bytes)
file_in_main p a =
    ap {B = Option (List ℕ)} (λ (x : Option (List Function)). elim x [
      | some fs ↦ none
      | none ↦ filed (length p.scope.earlier) (ended p.open_blocks p.bytes)
    ]) a

-- the innermost block has ended
ended_block : (b : Opened) (bs : List Opened) (bytes : List ℕ) (due : Bool) → b.due ≡ due
    → ended (b ∷ bs) bytes ≡ elim due [ true ↦ none | false ↦ ended bs (b.before ++ sized bytes) ]
ended_block b bs bytes due e = ap {B = Option (List ℕ)} (λ (x : Bool). elim x [ true ↦ none | false ↦ ended bs (b.before ++ sized bytes) ]) e

module _ (c₀ : Standing) (out₀ : List ℕ) (c : Standing) (out : List ℕ) (h : Ending c₀ out₀ c out) where
  -- the functions are those that main may call
  functions_earlier : (p : Sofar) → Means c p → c.functions ≡ length p.scope.earlier
  unfolding After
  functions_earlier p m =
      let a : After c none = subst (After c) (in_main c p m h.main) m.after in
      a.1 ∙ m.callees

  pub ending_few : c.functions ≤ 15
  ending_few = omega (arith, functions_earlier h.program.0 h.program.1, h.program.1.heads.few)

  -- an else is due
  pub ending_due : (after : List ℕ) → 0 < c.depth → (innermost_open c).due ≡ true → Ends c₀ out₀ false after
  unfolding Ends EndAs
  ending_due after l u = λ σ D s b.
      let g : (p : Sofar) × Means c p × (out ≡ sets D 6 (laid p)) × (file σ ≡ file (sofar p)) = h.goes σ D s b in
      let p : Sofar = g.0 in
      let n : ℕ = length p.scope.earlier in
      let i : (b : Opened) × (bs : List Opened) × (p.open_blocks ≡ b ∷ bs) = innermost c p g.1 l in
      g.3 ∙ file_in_main p (in_main c p g.1 h.main)
      ∙ ap (λ (os : List Opened). filed n (ended os p.bytes)) i.2
      ∙ ap (filed n) (ended_block i.0 i.1 p.bytes true (sym (block_due c p i.0 i.1 g.1 i.2) ∙ u))

  -- a block ends
  module _ (d : Standing) (next : List ℕ) (l : 0 < c.depth) (u : (innermost_open c).due ≡ false) (k : Closes c out next)
      (e : d ≡ closed_of c) where
    after_block : (p : Sofar) → Means c p → (D : List ℕ) → out ≡ sets D 6 (laid p)
        → (q : Sofar) × Means (closed_of c) q × (next ≡ sets D 6 (laid q)) × (file (sofar p) ≡ file (sofar q))
    unfolding Closes
    after_block p m D b =
        let i : (b : Opened) × (bs : List Opened) × (p.open_blocks ≡ b ∷ bs) = innermost c p m l in
        let o : Opened = i.0 in
        let os : List Opened = i.1 in
        let due : o.due ≡ false = sym (block_due c p o os m i.2) ∙ u in
        let n : ℕ = length p.scope.earlier in
        let q : Sofar = record { scope = p.scope; after = p.after; open_blocks = os; bytes = o.before ++ sized p.bytes } in
        let a : p.after ≡ none = in_main c p m h.main in (
          q,
          means_closed c p o os m i.2 due,
          k p o os D [] m i.2 (b ∙ ap (sets D 6) (sym (append-nil (laid p))))
              ∙ ap (λ (Y : List ℕ). sets D 6 (outside os ++ (o.before ++ Y))) (append-nil (sized p.bytes)),
          file_in_main p a ∙ ap (λ (x : List Opened). filed n (ended x p.bytes)) i.2 ∙ ap (filed n) (ended_block o os p.bytes false due)
              ∙ sym (file_in_main q a),
        )

    ending_closed : Ending c₀ out₀ (closed_of c) next
    ending_closed = record {
      main = h.main;
      program = closed_program h.program.0 h.program.1;
      used = h.used;
      goes = λ σ D s b. onwards σ (h.goes σ D s b);
    }
      where
        closed_program : (p : Sofar) → Means c p → (q : Sofar) × Means (closed_of c) q
        closed_program p m =
            let i : (b : Opened) × (bs : List Opened) × (p.open_blocks ≡ b ∷ bs) = innermost c p m l in
            (_, means_closed c p i.0 i.1 m i.2 (sym (block_due c p i.0 i.1 m i.2) ∙ u))

        onwards : (σ : State) {D : List ℕ} → (p : Sofar) × Means c p × (out ≡ sets D 6 (laid p)) × (file σ ≡ file (sofar p))
            → (q : Sofar) × Means (closed_of c) q × (next ≡ sets D 6 (laid q)) × (file σ ≡ file (sofar q))
        onwards σ {D} g =
            let q : (q : Sofar) × Means (closed_of c) q × (next ≡ sets D 6 (laid q)) × (file (sofar g.0) ≡ file (sofar q)) =
            after_block g.0 g.1 D g.2 in
            (q.0, q.1, q.2, g.3 ∙ q.3)

    pub ending_next : Ending c₀ out₀ d next
    ending_next = subst (λ (x : Standing). Ending c₀ out₀ x next) (sym e) ending_closed

  -- no block is open, and the header is put
  pub ending_header : (after : List ℕ) → c.depth ≡ 0 → after ≡ sets out 0 (header c.functions) → Ends c₀ out₀ true after
  unfolding Ends EndAs
  ending_header after l put = λ σ D s b.
      let g : (p : Sofar) × Means c p × (out ≡ sets D 6 (laid p)) × (file σ ≡ file (sofar p)) = h.goes σ D s b in
      let p : Sofar = g.0 in
      let m : Means c p = g.1 in
      let none : p.open_blocks ≡ [] = none_open c p m l in
      let n : c.functions ≡ length p.scope.earlier = functions_earlier p m in
      record {
        bytes = header (length p.scope.earlier) ++ p.bytes;
        is = g.3 ∙ file_in_main p (in_main c p m h.main)
            ∙ ap (λ (os : List Opened). filed (length p.scope.earlier) (ended os p.bytes)) none;
        many = sym (sym h.used ∙ m.used ∙ ap (λ (os : List Opened). 6 + length (outside os ++ p.bytes)) none ∙ omega arith);
        stand = put ∙ ap (λ (k : ℕ). sets out 0 (header k)) n
            ∙ ap (λ (E : List ℕ). sets E 0 (header (length p.scope.earlier)))
            (g.2 ∙ ap (λ (os : List Opened). sets D 6 (outside os ++ p.bytes)) none)
            ∙ sets_before D 6 0 (header (length p.scope.earlier)) p.bytes (omega arith);
      }
