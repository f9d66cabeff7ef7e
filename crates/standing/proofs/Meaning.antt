-- The numbers still mean the program behind each kind of line. A block's place in the lists of numbers is its depth, so that a block opened, turned or ended
-- leaves those outside it as they were. The bytes laid down are as many as before, but for those that a line adds.
use mathlib.Core.Bool.{Bool, true, false}
use mathlib.Core.List.{List, [], ◌∷◌, ◌++◌}
use mathlib.Core.Logic.{◌⊎◌, inl, inr}
use mathlib.Core.Option.{Option, none, some}
use mathlib.Core.Path.{◌≡◌, refl, sym, ap, subst, ◌∙◌}
use native.Mathlib.Nat.{eq-or-lt_of_le}
use native.Mathlib.Omega.{arith}
use Prim.Native.Nat.{ℕ, suc, ◌+◌, ◌-◌, ◌<◌, ◌≤◌}
use lib.ListN.{get_or, set, length, length-append, length-set, get_or-append}
use lib.Seq.{sets, set_comm, set-set, get_or-set_same, get_or-set_other, get_or-append_seam}
use Rattle.rules.specs.Basics.{chosen}
use Rattle.rules.specs.Syntax.{Function, function, block, done}
use Rattle.rules.specs.Unlisting.{Opened, Sofar, sized, owed, pending, least, added, opened, function_begun, main_begun, program_begun, else_begun}
use Rattle.standing.specs.declared.state.Head.{Head}
use Rattle.standing.specs.declared.state.Open.{Open}
use Rattle.standing.specs.declared.state.Standing.{Standing}
use Rattle.standing.specs.Numbers.{no_head, no_block, head_of, Short, Few, fresh_of, begun_of, added_of, opened_of, closed_of, turned_of, function_of, main_of}
use Rattle.standing.specs.Means.{outside, laid, Heads, Blocks, After, Means}

-- Numbers that mean a program are small, and few.
pub means_short : (c : Standing) (p : Sofar) → Means c p → Short c
means_short c p m = (omega (arith, m.fits), omega (arith, m.fits))

pub means_few : (c : Standing) (p : Sofar) → Means c p → Few c
means_few c p m = (m.most, omega (arith, m.callees, m.heads.few))

-- Lines inside functions and main change only what is known of blocks and bytes.
abbrev inside : Standing → ℕ → List Open → ℕ → ℕ → Standing
inside c depth blocks used due = record c { depth = depth; blocks = blocks; used = used; owed = due }

abbrev within : Sofar → List Opened → List ℕ → Sofar
within p bs bytes = record { scope = p.scope; after = p.after; open_blocks = bs; bytes = bytes }

-- the heads of functions where those kept are the same
heads_kept : (c d : Standing) (fs : List Function) → ((g : ℕ) → g < length fs → head_of d g ≡ head_of c g) → Heads c fs → Heads d fs
heads_kept c d fs k h = record {
  locations = λ g l. ap (λ (x : Head). x.locations) (k g l) ∙ h.locations g l;
  arguments = λ g l. ap (λ (x : Head). x.arguments) (k g l) ∙ h.arguments g l;
  few = h.few;
  most_k = h.most_k;
  most_m = h.most_m;
}

-- one function more
module _ (c : Standing) (fs : List Function) (f : Function) (few : length fs < 15) (k : f.k ≤ 16) (m : f.m ≤ 8) (n : c.functions ≡ length fs)
    (long : length c.heads ≡ 16) (h : Heads c fs) where
  more_same : (g : ℕ) → g < length fs → function (fs ++ (f ∷ [])) g ≡ function fs g
  more_same g l = get_or-append fs (f ∷ []) (record { k = 0; m = 0; body = block 0 done }) g l

  more_last : (g : ℕ) → g ≡ length fs → function (fs ++ (f ∷ [])) g ≡ f
  more_last g e = ap (function (fs ++ (f ∷ []))) e ∙ get_or-append_seam fs f [] (record { k = 0; m = 0; body = block 0 done })

  -- by the last function or another
  more_by : {P : ℕ → Type 0} → ((g : ℕ) → g < length fs → P g) → ((g : ℕ) → g ≡ length fs → P g) → (g : ℕ)
      → g < length (fs ++ (f ∷ [])) → P g
  more_by {P} old new g l = go (eq-or-lt_of_le (omega (arith, length-append fs (f ∷ []))))
    where
      go : (g ≡ length fs) ⊎ (g < length fs) → P g
      go (inl e) = new g e
      go (inr e) = old g e

  abbrev head : Head
  head = record { locations = f.k; arguments = f.m }

  pub last_head : head_of (function_of c f.k f.m) c.functions ≡ head
  last_head = get_or-set_same c.heads c.functions head no_head (omega (arith, long))

  heads_old : Heads (function_of c f.k f.m) fs
  heads_old = heads_kept c (function_of c f.k f.m) fs (λ g l. get_or-set_other c.heads c.functions g head no_head (λ e. omega arith)) h

  heads_more : Heads (function_of c f.k f.m) (fs ++ (f ∷ []))
  heads_more = record {
    locations = more_by {P = λ (g : ℕ). (head_of (function_of c f.k f.m) g).locations ≡ (function (fs ++ (f ∷ [])) g).k}
        (λ g l. heads_old.locations g l ∙ ap (λ (x : Function). x.k) (sym (more_same g l)))
        (λ g e. ap (λ (i : ℕ). (head_of (function_of c f.k f.m) i).locations) (e ∙ sym n) ∙ ap (λ (x : Head). x.locations) last_head
        ∙ ap (λ (x : Function). x.k) (sym (more_last g e)));
    arguments = more_by {P = λ (g : ℕ). (head_of (function_of c f.k f.m) g).arguments ≡ (function (fs ++ (f ∷ [])) g).m}
        (λ g l. heads_old.arguments g l ∙ ap (λ (x : Function). x.m) (sym (more_same g l)))
        (λ g e. ap (λ (i : ℕ). (head_of (function_of c f.k f.m) i).arguments) (e ∙ sym n) ∙ ap (λ (x : Head). x.arguments) last_head
        ∙ ap (λ (x : Function). x.m) (sym (more_last g e)));
    few = omega (arith, length-append fs (f ∷ []));
    most_k = more_by {P = λ (g : ℕ). (function (fs ++ (f ∷ [])) g).k ≤ 16}
        (λ g l. rw (more_same g l) (h.most_k g l)) (λ g e. rw (more_last g e) k);
    most_m = more_by {P = λ (g : ℕ). (function (fs ++ (f ∷ [])) g).m ≤ 8}
        (λ g l. rw (more_same g l) (h.most_m g l)) (λ g e. rw (more_last g e) m);
  }

-- open blocks, likewise
blocks_kept : (c d : Standing) (bs : List Opened) → ((i : ℕ) → i < length bs → get_or d.blocks i no_block ≡ get_or c.blocks i no_block)
    → Blocks c bs → Blocks d bs
unfolding Blocks
blocks_kept c d [] k h = tt
blocks_kept c d (b ∷ bs) k h = (k (length bs) (omega arith) ∙ h.0, blocks_kept c d bs (λ i l. k i (omega arith)) h.1)

-- how many bytes are laid down
outside_length : (b : Opened) (bs : List Opened) → length (outside (b ∷ bs)) ≡ length (outside bs) + length b.before + 2
outside_length b bs = omega (arith, length-append (outside bs) (b.before ++ (0 ∷ 0 ∷ [])), length-append b.before (0 ∷ 0 ∷ []))

laid_length : (bs : List Opened) (bytes : List ℕ) → length (outside bs ++ bytes) ≡ length (outside bs) + length bytes
laid_length bs bytes = length-append (outside bs) bytes

-- those laid down outside a block are owed bytes of the file
pub outside_owed : (bs : List Opened) → length (outside bs) ≤ owed bs
outside_owed [] = omega arith
outside_owed (b ∷ bs) = omega (arith, outside_owed bs, outside_length b bs)

-- no function, and no block
heads_none : (c : Standing) → Heads c []
heads_none c = record {
  locations = λ g l. absurd (omega arith);
  arguments = λ g l. absurd (omega arith);
  few = omega arith;
  most_k = λ g l. absurd (omega arith);
  most_m = λ g l. absurd (omega arith);
}

pub means_begun : Means (begun_of fresh_of) program_begun
unfolding Blocks After
means_begun = record {
  started = refl;
  places = refl;
  most = omega arith;
  callees = refl;
  heads = heads_none (begun_of fresh_of);
  after = (refl, refl, heads_none (begun_of fresh_of));
  depth = refl;
  deep = omega arith;
  blocks = tt;
  used = refl;
  owed = refl;
  fits = omega arith;
  heads_long = refl;
  blocks_long = refl;
}

module _ (c : Standing) (p : Sofar) where
  after_inside : (depth : ℕ) (blocks : List Open) (used due : ℕ) (a : Option (List Function)) → After c a → After (inside c depth blocks used due) a
  unfolding After
  after_inside depth blocks used due none h = h
  after_inside depth blocks used due (some fs) h = (h.0, h.1, heads_kept c (inside c depth blocks used due) fs (λ g l. refl) h.2)

  -- what a line inside changes
  means_inside : (depth : ℕ) (blocks : List Open) (used due : ℕ) (bs : List Opened) (bytes : List ℕ) → Means c p
      → depth ≡ length bs → depth ≤ 8 → Blocks (inside c depth blocks used due) bs → used ≡ 6 + length (laid (within p bs bytes))
      → used + due ≡ least (within p bs bytes) → used + due ≤ 4096 → length blocks ≡ 8 → Means (inside c depth blocks used due) (within p bs bytes)
  means_inside depth blocks used due bs bytes m e l h u o f w = record {
    started = m.started;
    places = m.places;
    most = m.most;
    callees = m.callees;
    heads = heads_kept c (inside c depth blocks used due) p.scope.earlier (λ g l. refl) m.heads;
    after = after_inside depth blocks used due p.after m.after;
    depth = e;
    deep = l;
    blocks = h;
    used = u;
    owed = o;
    fits = f;
    heads_long = m.heads_long;
    blocks_long = w;
  }

  pub means_added : (bs : List ℕ) (n : ℕ) → Means c p → length bs ≡ n → c.used + c.owed + n ≤ 4096 → Means (added_of c n) (added p bs)
  means_added bs n m e r =
      let a : length (p.bytes ++ bs) ≡ length p.bytes + length bs = length-append p.bytes bs in
      let l : length (outside p.open_blocks ++ p.bytes) ≡ length (outside p.open_blocks) + length p.bytes =
      length-append (outside p.open_blocks) p.bytes in
      let k : length (outside p.open_blocks ++ (p.bytes ++ bs)) ≡ length (outside p.open_blocks) + length (p.bytes ++ bs) =
      length-append (outside p.open_blocks) (p.bytes ++ bs) in
      means_inside c.depth c.blocks (c.used + n) c.owed p.open_blocks (p.bytes ++ bs) m m.depth m.deep
      (blocks_kept c (added_of c n) p.open_blocks (λ i l. refl) m.blocks)
      (omega (arith, m.used)) (omega (arith, m.owed)) (omega arith) m.blocks_long

  pub means_opened : (bs : List ℕ) (n : ℕ) (due : Bool) → Means c p → length bs ≡ n → c.depth < 8
      → c.used + c.owed + n + (2 + chosen due 2 0) ≤ 4096 → Means (opened_of c n due) (opened p due bs)
  unfolding Blocks
  means_opened bs n due m e d r =
      let b : Opened = record { before = p.bytes ++ bs; due = due } in
      let os : List Opened = p.open_blocks in
      let a : length (p.bytes ++ bs) ≡ length p.bytes + length bs = length-append p.bytes bs in
      let l : length (outside os ++ p.bytes) ≡ length (outside os) + length p.bytes = laid_length os p.bytes in
      let k : length (outside os ++ (p.bytes ++ bs)) ≡ length (outside os) + length (p.bytes ++ bs) = laid_length os (p.bytes ++ bs) in
      let o : length (outside (b ∷ os)) ≡ length (outside os) + length (p.bytes ++ bs) + 2 = outside_length b os in
      let z : length (outside (b ∷ os) ++ []) ≡ length (outside (b ∷ os)) + 0 = laid_length (b ∷ os) [] in
      let new : Open = record { due = due; word = c.used + n } in
      let place : c.used + n ≡ 6 + length (outside os ++ (p.bytes ++ bs)) = omega (arith, m.used) in
      means_inside (c.depth + 1) (set c.blocks c.depth new) (c.used + n + 2) (c.owed + chosen due 2 0) (b ∷ os) [] m (omega (arith, m.depth)) (omega arith) (
        rw (sym m.depth) (get_or-set_same c.blocks c.depth new no_block (omega (arith, m.blocks_long)) ∙ ap (λ (x : ℕ). record { due = due; word = x }) place),
        blocks_kept c (opened_of c n due) os (λ i l. get_or-set_other c.blocks c.depth i new no_block (λ q. omega (arith, m.depth))) m.blocks,
      )
      (omega (arith, m.used)) (omega (arith, m.owed)) (omega arith) (length-set c.blocks c.depth new ∙ m.blocks_long)

  -- the innermost block's numbers
  pub block_used : (b : Opened) (bs : List Opened) → Means c p → p.open_blocks ≡ b ∷ bs
      → c.used ≡ 6 + (length (outside bs) + length b.before + 2 + length p.bytes)
  block_used b bs m e =
      m.used ∙ ap (λ (os : List Opened). 6 + length (outside os ++ p.bytes)) e
      ∙ omega (arith, laid_length (b ∷ bs) p.bytes, outside_length b bs)

  pub block_owed : (b : Opened) (bs : List Opened) → Means c p → p.open_blocks ≡ b ∷ bs
      → c.used + c.owed ≡ 6 + length p.bytes + (length b.before + 2 + chosen b.due 2 0 + owed bs) + pending p.after
  block_owed b bs m e = m.owed ∙ ap (λ (os : List Opened). 6 + length p.bytes + owed os + pending p.after) e

  pub block_depth : (b : Opened) (bs : List Opened) → Means c p → p.open_blocks ≡ b ∷ bs → c.depth ≡ suc (length bs)
  block_depth b bs m e = m.depth ∙ ap length e

  pub block_blocks : (b : Opened) (bs : List Opened) → Means c p → p.open_blocks ≡ b ∷ bs → Blocks c (b ∷ bs)
  block_blocks b bs m e = subst (λ (os : List Opened). Blocks c os) e m.blocks

  pub means_closed : (b : Opened) (bs : List Opened) → Means c p → p.open_blocks ≡ b ∷ bs → b.due ≡ false
      → Means (closed_of c) (record { scope = p.scope; after = p.after; open_blocks = bs; bytes = b.before ++ sized p.bytes })
  unfolding Blocks
  means_closed b bs m e f =
      let d : c.depth ≡ suc (length bs) = block_depth b bs m e in
      let u : c.used ≡ 6 + (length (outside bs) + length b.before + 2 + length p.bytes) = block_used b bs m e in
      let o : c.used + c.owed ≡ 6 + length p.bytes + (length b.before + 2 + chosen b.due 2 0 + owed bs) + pending p.after =
      block_owed b bs m e in
      let z : chosen {A = ℕ} b.due 2 0 ≡ 0 = ap (λ (x : Bool). chosen x 2 0) f in
      let a : length (b.before ++ sized p.bytes) ≡ length b.before + length (sized p.bytes) = length-append b.before (sized p.bytes) in
      means_inside (c.depth - 1) c.blocks c.used c.owed bs (b.before ++ sized p.bytes) m (omega arith) (omega (arith, m.deep))
      (blocks_kept c (closed_of c) bs (λ i l. refl) (block_blocks b bs m e).1)
      (omega (arith, laid_length bs (b.before ++ sized p.bytes))) (omega arith) m.fits m.blocks_long

  pub means_turned : (b : Opened) (bs : List Opened) → Means c p → p.open_blocks ≡ b ∷ bs → b.due ≡ true
      → Means (turned_of c) (else_begun p.scope p.after b bs p.bytes)
  unfolding Blocks
  means_turned b bs m e f =
      let new : Opened = record { before = b.before ++ sized p.bytes; due = false } in
      let d : c.depth ≡ suc (length bs) = block_depth b bs m e in
      let i : c.depth - 1 ≡ length bs = omega arith in
      let u : c.used ≡ 6 + (length (outside bs) + length b.before + 2 + length p.bytes) = block_used b bs m e in
      let o : c.used + c.owed ≡ 6 + length p.bytes + (length b.before + 2 + chosen b.due 2 0 + owed bs) + pending p.after =
      block_owed b bs m e in
      let z : chosen {A = ℕ} b.due 2 0 ≡ 2 = ap (λ (x : Bool). chosen x 2 0) f in
      let a : length (b.before ++ sized p.bytes) ≡ length b.before + length (sized p.bytes) = length-append b.before (sized p.bytes) in
      let w : length (outside bs ++ (b.before ++ sized p.bytes)) ≡ length (outside bs) + length (b.before ++ sized p.bytes) =
      laid_length bs (b.before ++ sized p.bytes) in
      let x : length (outside (new ∷ bs) ++ []) ≡ length (outside (new ∷ bs)) + 0 = laid_length (new ∷ bs) [] in
      let y : length (outside (new ∷ bs)) ≡ length (outside bs) + length (b.before ++ sized p.bytes) + 2 = outside_length new bs in
      let v : length (outside bs) ≤ owed bs = outside_owed bs in
      let opens : Open = record { due = false; word = c.used } in
      let place : c.used ≡ 6 + length (outside bs ++ (b.before ++ sized p.bytes)) = omega arith in
      means_inside c.depth (set c.blocks (c.depth - 1) opens) (c.used + 2) (c.owed - 2) (new ∷ bs) [] m d m.deep (
        rw (sym i) (get_or-set_same c.blocks (c.depth - 1) opens no_block (omega (arith, m.blocks_long, m.deep))
            ∙ ap (λ (x : ℕ). record { due = false; word = x }) place),
        blocks_kept c (turned_of c) bs (λ j l. get_or-set_other c.blocks (c.depth - 1) j opens no_block (λ q. omega arith)) (block_blocks b bs m e).1,
      )
      (omega arith) (omega arith) (omega (arith, m.fits)) (length-set c.blocks (c.depth - 1) opens ∙ m.blocks_long)

  -- outside blocks: the bytes are those of the functions so far, main's length word is owed, and what is known of functions is theirs
  pub top_used : Means c p → p.open_blocks ≡ [] → c.used ≡ 6 + length p.bytes
  top_used m e = m.used ∙ ap (λ (os : List Opened). 6 + length (outside os ++ p.bytes)) e

  pub top_owed : (fs : List Function) → Means c p → p.open_blocks ≡ [] → p.after ≡ some fs → c.owed ≡ 2
  top_owed fs m e a =
      let o : c.used + c.owed ≡ 6 + length p.bytes + 0 + 2 =
      m.owed ∙ ap (λ (os : List Opened). 6 + length p.bytes + owed os + pending p.after) e
      ∙ ap (λ (x : Option (List Function)). 6 + length p.bytes + 0 + pending x) a in
      omega (arith, top_used m e)

  pub top_after : (fs : List Function) → Means c p → p.after ≡ some fs → After c (some fs)
  top_after fs m a = subst (λ (x : Option (List Function)). After c x) a m.after

  pub means_function : (fs : List Function) (k m : ℕ) → Means c p → p.open_blocks ≡ [] → p.after ≡ some fs → length fs < 15 → k ≤ 16
      → m ≤ 8 → c.used + 6 ≤ 4096 → Means (function_of c k m) (function_begun fs p.bytes k m)
  unfolding Blocks After
  means_function fs k m h e a f l g r =
      let new : Function = record { k = k; m = m; body = block 0 done } in
      let b : Opened = record { before = p.bytes ++ (k ∷ m ∷ []); due = false } in
      let u : c.used ≡ 6 + length p.bytes = top_used h e in
      let o : c.owed ≡ 2 = top_owed fs h e a in
      let t : After c (some fs) = top_after fs h a in
      let n : c.functions ≡ length fs = t.1 in
      let w : length (p.bytes ++ (k ∷ m ∷ [])) ≡ length p.bytes + 2 = length-append p.bytes (k ∷ m ∷ []) in
      let x : length (outside (b ∷ [])) ≡ 0 + length (p.bytes ++ (k ∷ m ∷ [])) + 2 = outside_length b [] in
      let y : length (outside (b ∷ []) ++ []) ≡ length (outside (b ∷ [])) + 0 = laid_length (b ∷ []) [] in
      let head : Head = record { locations = k; arguments = m } in
      let opens : Open = record { due = false; word = c.used + 2 } in
      let place : c.used + 2 ≡ 6 + length (outside [] ++ (p.bytes ++ (k ∷ m ∷ []))) = omega arith in
      record {
        started = h.started;
        places = refl;
        most = omega arith;
        callees = n;
        heads = heads_old c fs new f l g n h.heads_long t.2;
        after = (t.0, omega (arith, length-append fs (new ∷ [])), heads_more c fs new f l g n h.heads_long t.2);
        depth = refl;
        deep = omega arith;
        blocks = (
          get_or-set_same c.blocks 0 opens no_block (omega (arith, h.blocks_long)) ∙ ap (λ (x : ℕ). record { due = false; word = x }) place,
          tt,
        );
        used = omega arith;
        owed = omega arith;
        fits = omega arith;
        heads_long = length-set c.heads c.functions head ∙ h.heads_long;
        blocks_long = length-set c.blocks 0 opens ∙ h.blocks_long;
      }

  pub means_main : (fs : List Function) → Means c p → p.open_blocks ≡ [] → p.after ≡ some fs → Means (main_of c) (main_begun fs p.bytes)
  unfolding Blocks After
  means_main fs h e a =
      let b : Opened = record { before = p.bytes; due = false } in
      let u : c.used ≡ 6 + length p.bytes = top_used h e in
      let o : c.owed ≡ 2 = top_owed fs h e a in
      let t : After c (some fs) = top_after fs h a in
      let x : length (outside (b ∷ [])) ≡ 0 + length p.bytes + 2 = outside_length b [] in
      let y : length (outside (b ∷ []) ++ []) ≡ length (outside (b ∷ [])) + 0 = laid_length (b ∷ []) [] in
      let opens : Open = record { due = false; word = c.used } in
      record {
        started = h.started;
        places = refl;
        most = omega arith;
        callees = t.1;
        heads = heads_kept c (main_of c) fs (λ g l. refl) t.2;
        after = (refl, refl);
        depth = refl;
        deep = omega arith;
        blocks = (
          get_or-set_same c.blocks 0 opens no_block (omega (arith, h.blocks_long)) ∙ ap (λ (x : ℕ). record { due = false; word = x }) u,
          tt,
        );
        used = omega arith;
        owed = omega arith;
        fits = omega (arith, h.fits);
        heads_long = h.heads_long;
        blocks_long = length-set c.blocks 0 opens ∙ h.blocks_long;
      }

-- bytes put behind others
pub sets_behind : (D : List ℕ) (i : ℕ) (X Y : List ℕ) → sets (sets D i X) (i + length X) Y ≡ sets D i (X ++ Y)
sets_behind D i [] Y = ap (λ (k : ℕ). sets D k Y) (omega arith)
sets_behind D i (x ∷ X) Y =
    ap (λ (k : ℕ). sets (sets (set D i x) (suc i) X) k Y) (omega arith) ∙ sets_behind (set D i x) (suc i) X Y

-- a byte put before a run of others
pub set_before : (D : List ℕ) (i j a : ℕ) (Y : List ℕ) → j < i → set (sets D i Y) j a ≡ sets (set D j a) i Y
set_before D i j a [] l = refl
set_before D i j a (y ∷ Y) l =
    set_before (set D i y) (suc i) j a Y (omega arith) ∙ ap (λ (E : List ℕ). sets E (suc i) Y) (set_comm D i j y a (λ e. omega arith))

-- a length word inside is overwritten
pub sets_word : (D : List ℕ) (i : ℕ) (X : List ℕ) (v w a b : ℕ) (Y : List ℕ)
    → sets (sets D i (X ++ (v ∷ w ∷ Y))) (i + length X) (a ∷ b ∷ []) ≡ sets D i (X ++ (a ∷ b ∷ Y))
sets_word D i X v w a b Y =
    ap (λ (E : List ℕ). sets E k (a ∷ b ∷ [])) (sym (sets_behind D i X (v ∷ w ∷ Y)))
    ∙ over
    ∙ sets_behind D i X (a ∷ b ∷ Y)
  where
    k : ℕ
    k = i + length X

    E : List ℕ
    E = sets D i X

    over : sets (sets E k (v ∷ w ∷ Y)) k (a ∷ b ∷ []) ≡ sets E k (a ∷ b ∷ Y)
    over =
        ap (λ (F : List ℕ). set F (suc k) b) (set_before (set (set E k v) (suc k) w) (suc (suc k)) k a Y (omega arith))
        ∙ set_before (set (set (set E k v) (suc k) w) k a) (suc (suc k)) (suc k) b Y (omega arith)
        ∙ ap (λ (F : List ℕ). sets (set F (suc k) b) (suc (suc k)) Y) (set_comm (set E k v) (suc k) k w a (λ e. omega arith))
        ∙ ap (λ (F : List ℕ). sets F (suc (suc k)) Y) (set-set (set (set E k v) k a) (suc k) w b)
        ∙ ap (λ (F : List ℕ). sets (set F (suc k) b) (suc (suc k)) Y) (set-set E k v a)
