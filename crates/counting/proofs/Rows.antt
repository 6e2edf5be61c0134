-- The rows of counts, filled one after another.
use mathlib.Core.Path.{◌≡◌, refl, sym, ap, ◌∙◌, subst}
use mathlib.Core.List.{List, ◌++◌}
use mathlib.Core.Logic.{◌⊎◌, inl, inr, ◌≢◌}
use mathlib.Core.Bool.{true, false}
use Prim.Native.Nat.{ℕ, zero, suc, ◌+◌, ◌-◌, ◌*◌, ◌<◌, ◌≤◌}
use native.Mathlib.Numerals.{add-one}
use native.Mathlib.Omega.{arith}
use native.Mathlib.Decide.{ℕ_discrete}
use lib.ListN.{length, drop, take, get_or, set, replicate, length-take, get_or-eq_default, get_or-replicate, length-replicate}
use lib.Seq.{get_or-set_same, get_or-set_other, get_or-take, get_or-drop}
use Rattle.pcrl.specs.Sheet.{Proc, Process, Sheet, right, no_process}
use Rattle.pcrl.specs.Circles.{at_head}
use Rattle.laws.specs.Places.{lt_or_le}
use Rattle.nodes.specs.Layout.{enc}
use Rattle.checker.specs.Circles.{is_in, SetOf, HeadsOf}
use Rattle.counting.specs.declared.Counted.{Counted}
use Rattle.counting.specs.Limits.{row_width, counts_room, cut, row}
use Rattle.counting.specs.Count.{count_by, cut_cut, cut_known}
use Rattle.counting.specs.Heads.{called}
use Rattle.counting.specs.Counting.{Counts, Placed, RowsRight, Tallied, PartOf, SameIn, Unchanged, NextCount}
use Rattle.counting.proofs.AtHead.{same_heads}

pub row_at : (base : ℕ) (l : List ℕ) (k : ℕ) → k < row_width → get_or (row base l) k 0 ≡ get_or l (base + k) 0
unfolding row
row_at base l k h = get_or-take row_width (drop base l) k 0 h ∙ get_or-drop base l k 0

pub row_end : (base : ℕ) (l : List ℕ) (k : ℕ) → row_width ≤ k → get_or (row base l) k 0 ≡ 0
unfolding row
row_end base l k h = get_or-eq_default (take row_width (drop base l)) 0 (omega (arith, length-take row_width (drop base l)))

module _ (H : Sheet) (few : length H.procs ≤ row_width) where
  -- a process that is not there has no head
  none_past : (g k : ℕ) → length H.procs ≤ k → called H g k ≡ 0
  unfolding called right count_by
  none_past zero k h = refl
  none_past (suc g) k h = ap (λ (e : Process). count_by (called H g) e.right) (get_or-eq_default H.procs no_process h)

  -- a row read at any process
  row_is : (f : ℕ) (l : List ℕ) → RowsRight H f l → (g : ℕ) → g ≤ f → (k : ℕ) → get_or (row (row_width * g) l) k 0 ≡ cut (called H g k)
  unfolding cut
  row_is f l t g h k = go (lt_or_le k row_width)
    where
      go : (k < row_width) ⊎ (row_width ≤ k) → get_or (row (row_width * g) l) k 0 ≡ cut (called H g k)
      go (inl a) = row_at (row_width * g) l k a ∙ t g h k a
      go (inr a) = row_end (row_width * g) l k a ∙ sym (ap cut (none_past g k (omega arith)))

  -- the count of a term by a row is that of its heads
  counts_right : (f : ℕ) (l : List ℕ) → RowsRight H f l → (g : ℕ) → g ≤ f → (p : Proc) → cut (count_by (λ k. get_or (row (row_width * g) l) k 0) p) ≡ cut (count_by (called H g) p)
  counts_right f l t g h p = cut_known (λ k. get_or (row (row_width * g) l) k 0) (called H g) (λ k. ap cut (row_is f l t g h k) ∙ cut_cut (called H g k)) p

  pub row_counts : (f : ℕ) (l : List ℕ) → Tallied H f l → (g : ℕ) → g ≤ f → (p : Proc) → cut (count_by (λ k. get_or (row (row_width * g) l) k 0) p) ≡ cut (count_by (called H g) p)
  row_counts f l t = counts_right f l t.rows

  -- a right side counted by row f
  pub counted_next : (cells : List ℕ) (at : ℕ) (t : List ℕ) (f k : ℕ) (r : Counted) → Counts cells (row (row_width * f) t) at r
      → (rest : List ℕ) → drop at cells ≡ enc false (right H k) ++ rest → RowsRight H f t → r.heads ≡ cut (called H (suc f) k)
  unfolding called
  counted_next cells at t f k r c rest e rows = (c false (right H k) rest e).0 ∙ counts_right f t rows f (omega arith) (right H k)

  -- no process at the head of a right side has another count in row f than in the row before it
  pub kept_next : (t : List ℕ) (f g k set same : ℕ) → f ≡ g + 1 → k < row_width → PartOf set same → SetOf set (at_head (right H k)) → SameIn t g same → RowsRight H f t
      → get_or t (row_width * f + k) 0 ≡ cut (called H (suc f) k)
  unfolding called
  kept_next t f g k set same e w part is_set alike rows =
      rows f (omega arith) k w ∙ ap (λ (x : ℕ). cut (called H x k)) (e ∙ add-one g) ∙ same_heads (called H g) (called H f) (right H k) (λ j h. each j h (lt_or_le j row_width))
    where
      each : (j : ℕ) → is_in j (at_head (right H k)) ≡ true → (j < row_width) ⊎ (row_width ≤ j) → cut (called H g j) ≡ cut (called H f j)
      each j h (inl a) = sym (rows g (omega arith) j a) ∙ sym (alike j a (part j (is_set j (omega arith) ∙ h))) ∙ ap (λ (x : ℕ). get_or t (row_width * x + j) 0) (sym e) ∙ rows f (omega arith) j a
      each j h (inr a) = ap cut (none_past g j (omega arith)) ∙ sym (ap cut (none_past f j (omega arith)))

  -- the first k of the next row are right
  pub record Filled (f : ℕ) (o t : List ℕ) (k : ℕ) : Type 0 where
    pub old : (j : ℕ) → j < row_width * (f + 1) → get_or t j 0 ≡ get_or o j 0
    pub done : (j : ℕ) → j < k → get_or t (row_width * (f + 1) + j) 0 ≡ cut (called H (suc f) j)
    pub zeros : (j : ℕ) → k ≤ j → get_or t (row_width * (f + 1) + j) 0 ≡ 0

  pub filled_none : (f : ℕ) (o : List ℕ) → Tallied H f o → Filled f o o 0
  filled_none f o t = record { old = λ j h. refl; done = λ j h. absurd (omega arith); zeros = λ j h. t.zeros (row_width * (f + 1) + j) (omega arith) }

  pub filled_more : (f : ℕ) (o t : List ℕ) (k v : ℕ) → length t ≡ counts_room → f < 17 → k < length H.procs → Filled f o t k → v ≡ cut (called H (suc f) k) → Filled f o (set t (row_width * (f + 1) + k) v) (k + 1)
  filled_more f o t k v len fl kl g e = record {
    old = λ j h. get_or-set_other t (row_width * (f + 1) + k) j v 0 (other j (row_width * (f + 1) + k) (omega arith)) ∙ g.old j h;
    done = λ j h. low j h (ℕ_discrete j k);
    zeros = λ j h. get_or-set_other t (row_width * (f + 1) + k) (row_width * (f + 1) + j) v 0 (λ e. omega arith) ∙ g.zeros j (omega arith);
  }
    where
      other : (a b : ℕ) → a < b → a ≢ b
      other a b h e = omega arith

      low : (j : ℕ) → j < k + 1 → Dec (j ≡ k) → get_or (set t (row_width * (f + 1) + k) v) (row_width * (f + 1) + j) 0 ≡ cut (called H (suc f) j)
      low j h (yes z) = rw z (get_or-set_same t (row_width * (f + 1) + k) v 0 (omega arith) ∙ e)
      low j h (no ne) = get_or-set_other t (row_width * (f + 1) + k) (row_width * (f + 1) + j) v 0 (λ e. ne (omega arith)) ∙ g.done j (let z : j ≢ k = ne in omega arith)

  -- what row f + 1 is made of stands as it was
  module _ (f : ℕ) (o t : List ℕ) (k : ℕ) (r : Filled f o t k) where
    rows_kept : RowsRight H f o → RowsRight H f t
    rows_kept right g h j w = r.old (row_width * g + j) (omega arith) ∙ right g h j w

    unchanged_kept : (same : ℕ) → Unchanged o f same → Unchanged t f same
    unchanged_kept same u g e j w b = r.old (row_width * (g + 1) + j) (omega arith) ∙ u g e j w b ∙ sym (r.old (row_width * g + j) (omega arith))

  pub filled_next : (cells starts sets : List ℕ) (n f : ℕ) (o t : List ℕ) (k at same v : ℕ) → length H.procs ≡ n → Placed H cells starts → HeadsOf H n sets → Unchanged o f same → Tallied H f o
      → length t ≡ counts_room → f < 17 → k < n → at ≡ get_or starts k 0 → NextCount cells at t f k (get_or sets k 0) same v
      → Filled f o t k → Filled f o (set t (row_width * (f + 1) + k) v) (k + 1)
  unfolding right
  filled_next cells starts sets n f o t k at same v e placed heads u tl len fl kl z next r =
      let p = placed k (omega arith) in
      filled_more f o t k v len fl (omega arith) r (next H few (p.0, ap (λ (x : ℕ). drop x cells) z ∙ p.1) (heads k kl) (unchanged_kept f o t k r same u) (rows_kept f o t k r tl.rows))

  pub filled_all : (f : ℕ) (o t : List ℕ) → Tallied H f o → Filled f o t (length H.procs) → Tallied H (f + 1) t
  unfolding cut
  filled_all f o t tl g = record { rows = λ h l k w. row_of h l k w (lt_or_le h (f + 1)); zeros = λ j l. past j l }
    where
      new : (k : ℕ) → (k < length H.procs) ⊎ (length H.procs ≤ k) → get_or t (row_width * (f + 1) + k) 0 ≡ cut (called H (suc f) k)
      new k (inl a) = g.done k a
      new k (inr a) = g.zeros k a ∙ sym (ap cut (none_past (suc f) k a))

      row_of : (h : ℕ) → h ≤ f + 1 → (k : ℕ) → k < row_width → (h < f + 1) ⊎ (f + 1 ≤ h) → get_or t (row_width * h + k) 0 ≡ cut (called H h k)
      row_of h l k w (inl a) = g.old (row_width * h + k) (omega arith) ∙ tl.rows h (omega arith) k w
      row_of h l k w (inr a) =
          let z : h ≡ suc f = omega arith in
          subst (λ (x : ℕ). get_or t (row_width * x + k) 0 ≡ cut (called H x k)) (sym z) (let y : row_width * suc f + k ≡ row_width * (f + 1) + k = omega arith in ap (λ (x : ℕ). get_or t x 0) y ∙ new k (lt_or_le k (length H.procs)))

      past : (j : ℕ) → row_width * (f + 1 + 1) ≤ j → get_or t j 0 ≡ 0
      past j l =
          let z : j ≡ row_width * (f + 1) + (j - row_width * (f + 1)) = omega arith in
          ap (λ (x : ℕ). get_or t x 0) z ∙ g.zeros (j - row_width * (f + 1)) (omega arith)

  pub tallied_none : (l : List ℕ) → ((j : ℕ) → get_or l j 0 ≡ 0) → Tallied H 0 l
  unfolding called cut
  tallied_none l z = record { rows = λ g h k w. z (row_width * g + k) ∙ zero_row g k (omega arith); zeros = λ j h. z j }
    where
      zero_row : (g k : ℕ) → g ≡ 0 → 0 ≡ cut (called H g k)
      zero_row zero k e = refl
      zero_row (suc g) k e = absurd (omega arith)

pub zeros_none : (n : ℕ) (k : ℕ) → ◌≡◌ {A = ℕ} (get_or (replicate n 0) k 0) 0
zeros_none n k = go (lt_or_le k n)
  where
    go : (k < n) ⊎ (n ≤ k) → ◌≡◌ {A = ℕ} (get_or (replicate n 0) k 0) 0
    go (inl h) = get_or-replicate n k 0 0 h
    go (inr h) = (let z : length (replicate {A = ℕ} n 0) ≤ k = omega (arith, length-replicate {A = ℕ} n 0) in get_or-eq_default (replicate {A = ℕ} n 0) 0 z)
