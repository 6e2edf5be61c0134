-- What is remembered stays right, and is right for the walk.
use mathlib.Core.Path.{◌≡◌, refl, sym, ap, ◌∙◌, subst}
use mathlib.Core.List.{List, [], ◌∷◌}
use mathlib.Core.Bool.{true}
use mathlib.Core.Logic.{◌⊎◌, inl, inr}
use Prim.Native.Nat.{ℕ, ◌+◌, ◌*◌, ◌%◌, ◌<◌, ◌≤◌}
use native.Mathlib.Omega.{arith}
use native.Mathlib.Decide.{ℕ_discrete}
use native.Mathlib.Nat.{eq-or-lt_of_le}
use lib.ListN.{length, drop, get_or, set, replicate, get_or-replicate, length-replicate}
use lib.Seq.{get_or-set_same, get_or-set_other}
use Rattle.laws.specs.Places.{lt_or_le}
use Rattle.nodes.specs.declared.Node.{Node}
use Rattle.nodes.specs.Layout.{byte_limit, seq_kind}
use Rattle.nodes.specs.Views.{On, Views}
use Rattle.counting.specs.declared.Counted.{Counted}
use Rattle.counting.specs.Limits.{row_width, row}
use Rattle.counting.specs.Counting.{Counts}
use Rattle.contexts.specs.declared.Spot.{Spot}
use Rattle.contexts.specs.declared.Side.{Side}
use Rattle.contexts.specs.Steps.{RestAt}
use Rattle.heads.specs.declared.alternatives.Ahead.{Ahead}
use Rattle.heads.specs.declared.remembered.Arrival.{Arrival}
use Rattle.heads.specs.Progress.{Parted, Looked, SecondSide, side_spot, Past}
use Rattle.heads.specs.Memory.{entry_cells, entries, Finds, entry_at, found, EntryRight, Remembers, EntryPut, FoundFor, memory_room}
use Rattle.heads.proofs.Walking.{passed}

-- AN ENTRY IS PUT

-- its first j cells are put
abbrev pub Putting : List ℕ → List ℕ → List ℕ → ℕ → ℕ → Type 0
Putting l₀ l e i j = (j ≤ entry_cells) × ((x : ℕ) → x < j → get_or l (entry_cells * i + x) 0 ≡ get_or e x 0) × ((x : ℕ) → (x < entry_cells * i) ⊎ (entry_cells * i + entry_cells ≤ x) → get_or l x 0 ≡ get_or l₀ x 0)

pub put_more : (l₀ l e : List ℕ) (i j : ℕ) → entry_cells * i + j < length l → j < entry_cells → Putting l₀ l e i j → Putting l₀ (set l (entry_cells * i + j) (get_or e j 0)) e i (j + 1)
put_more l₀ l e i j inside more (few, these, others) = (omega arith, λ x t. here x (eq-or-lt_of_le (before x t)), λ x t. get_or-set_other l (entry_cells * i + j) x (get_or e j 0) 0 (apart x t) ∙ others x t)
  where
    before : (x : ℕ) → x < j + 1 → x ≤ j
    before x t = omega arith

    here : (x : ℕ) → (x ≡ j) ⊎ (x < j) → get_or (set l (entry_cells * i + j) (get_or e j 0)) (entry_cells * i + x) 0 ≡ get_or e x 0
    here x (inl q) = subst (λ (y : ℕ). get_or (set l (entry_cells * i + j) (get_or e j 0)) (entry_cells * i + y) 0 ≡ get_or e y 0) (sym q) (get_or-set_same l (entry_cells * i + j) (get_or e j 0) 0 inside)
    here x (inr t) = get_or-set_other l (entry_cells * i + j) (entry_cells * i + x) (get_or e j 0) 0 (λ q. omega arith) ∙ these x t

    apart : (x : ℕ) → (x < entry_cells * i) ⊎ (entry_cells * i + entry_cells ≤ x) → x ≡ entry_cells * i + j → ⊥
    apart x (inl t) q = omega arith
    apart x (inr t) q = omega arith

-- the cells of an entry, one by one
same_entry : (l : List ℕ) (i x₀ x₁ x₂ x₃ x₄ x₅ x₆ x₇ x₈ : ℕ) → get_or l (entry_cells * i) 0 ≡ x₀ → get_or l (entry_cells * i + 1) 0 ≡ x₁ → get_or l (entry_cells * i + 2) 0 ≡ x₂ → get_or l (entry_cells * i + 3) 0 ≡ x₃ → get_or l (entry_cells * i + 4) 0 ≡ x₄ → get_or l (entry_cells * i + 5) 0 ≡ x₅
    → get_or l (entry_cells * i + 6) 0 ≡ x₆ → get_or l (entry_cells * i + 7) 0 ≡ x₇ → get_or l (entry_cells * i + 8) 0 ≡ x₈ → entry_at l i ≡ x₀ ∷ x₁ ∷ x₂ ∷ x₃ ∷ x₄ ∷ x₅ ∷ x₆ ∷ x₇ ∷ x₈ ∷ []
same_entry l i x₀ x₁ x₂ x₃ x₄ x₅ x₆ x₇ x₈ e₀ e₁ e₂ e₃ e₄ e₅ e₆ e₇ e₈ = cc

module _ (cells counts l l' : List ℕ) (i : ℕ) (e : List ℕ) (rm : Remembers cells counts l) (low : i < entries) (same : length l' ≡ length l) (put : EntryPut l i e l') where
  put_here : entry_at l' i ≡ get_or e 0 0 ∷ get_or e 1 0 ∷ get_or e 2 0 ∷ get_or e 3 0 ∷ get_or e 4 0 ∷ get_or e 5 0 ∷ get_or e 6 0 ∷ get_or e 7 0 ∷ get_or e 8 0 ∷ []
  put_here =
      let at : entry_cells * i + 0 ≡ entry_cells * i = omega arith in
      same_entry l' i (get_or e 0 0) (get_or e 1 0) (get_or e 2 0) (get_or e 3 0) (get_or e 4 0) (get_or e 5 0) (get_or e 6 0) (get_or e 7 0) (get_or e 8 0)
      (subst (λ (x : ℕ). get_or l' x 0 ≡ get_or e 0 0) at (put.0 0 (omega arith))) (put.0 1 (omega arith)) (put.0 2 (omega arith)) (put.0 3 (omega arith)) (put.0 4 (omega arith)) (put.0 5 (omega arith)) (put.0 6 (omega arith)) (put.0 7 (omega arith)) (put.0 8 (omega arith))

  put_there : (j : ℕ) → (j ≡ i → ⊥) → entry_at l' j ≡ entry_at l j
  put_there j n =
      let k = entry_cells * j in
      same_entry l' j (get_or l k 0) (get_or l (k + 1) 0) (get_or l (k + 2) 0) (get_or l (k + 3) 0) (get_or l (k + 4) 0) (get_or l (k + 5) 0) (get_or l (k + 6) 0) (get_or l (k + 7) 0) (get_or l (k + 8) 0)
      (put.1 k (apart 0 k (omega arith) (omega arith))) (put.1 (k + 1) (apart 1 (k + 1) refl (omega arith))) (put.1 (k + 2) (apart 2 (k + 2) refl (omega arith))) (put.1 (k + 3) (apart 3 (k + 3) refl (omega arith))) (put.1 (k + 4) (apart 4 (k + 4) refl (omega arith)))
      (put.1 (k + 5) (apart 5 (k + 5) refl (omega arith))) (put.1 (k + 6) (apart 6 (k + 6) refl (omega arith))) (put.1 (k + 7) (apart 7 (k + 7) refl (omega arith))) (put.1 (k + 8) (apart 8 (k + 8) refl (omega arith)))
    where
      side : (j < i) ⊎ (i < j)
      side = by (lt_or_le j i)
        where
          by : (j < i) ⊎ (i ≤ j) → (j < i) ⊎ (i < j)
          by (inl t) = inl t
          by (inr t) = inr (omega (arith, n))

      apart : (x y : ℕ) → y ≡ entry_cells * j + x → x < entry_cells → (y < entry_cells * i) ⊎ (entry_cells * i + entry_cells ≤ y)
      apart x y q t = go side
        where
          go : (j < i) ⊎ (i < j) → (y < entry_cells * i) ⊎ (entry_cells * i + entry_cells ≤ y)
          go (inl h) = inl (omega arith)
          go (inr h) = inr (omega arith)

  pub remembers_put : EntryRight cells counts (get_or e 0 0 ∷ get_or e 1 0 ∷ get_or e 2 0 ∷ get_or e 3 0 ∷ get_or e 4 0 ∷ get_or e 5 0 ∷ get_or e 6 0 ∷ get_or e 7 0 ∷ get_or e 8 0 ∷ []) → Remembers cells counts l'
  remembers_put right = record { long = same ∙ rm.long; right = λ j t. at j t (ℕ_discrete j i) }
    where
      at : (j : ℕ) → j < entries → Dec (j ≡ i) → EntryRight cells counts (entry_at l' j)
      at j t (yes q) = subst (λ (x : ℕ). EntryRight cells counts (entry_at l' x)) (sym q) (subst (λ (x : List ℕ). EntryRight cells counts x) (sym put_here) right)
      at j t (no n) = subst (λ (x : List ℕ). EntryRight cells counts x) (sym (put_there j n)) (rm.right j t)

-- at the start nothing is remembered
pub remembers_none : (cells counts : List ℕ) → Remembers cells counts (replicate memory_room 0)
remembers_none cells counts = record { long = length-replicate {A = ℕ} memory_room 0; right = λ i t some. absurd (omega (arith, get_or-replicate {A = ℕ} memory_room (entry_cells * i + 2) 0 0 (omega arith))) }

-- WHAT IS FOUND

module _ (cells counts : List ℕ) where
  pub finds_by : (base heads p : ℕ) (f : Arrival) → Finds cells counts base heads p f → (x₀ x₁ x₂ x₃ x₄ x₅ x₆ x₇ x₈ : ℕ) → x₀ ≡ p → x₁ ≡ base → x₂ ≡ heads → x₃ ≡ f.at → x₄ ≡ f.own → x₅ ≡ f.next → x₆ ≡ f.a.next → x₇ ≡ f.a.heads → x₈ ≡ f.a.own
      → Finds cells counts x₁ x₂ x₀ (record { at = x₃; own = x₄; next = x₅; a = record { next = x₆; heads = x₇; own = x₈ }; work = 0 })
  finds_by base heads p f fd x₀ x₁ x₂ x₃ x₄ x₅ x₆ x₇ x₈ e₀ e₁ e₂ e₃ e₄ e₅ e₆ e₇ e₈ = record {
    inside = omega (arith, fd.inside);
    reaches = rw (e₀, e₁, e₂, e₃, e₄) fd.reaches;
    counted = λ h. rw (e₁, e₅, e₆, e₇, e₈) (fd.counted (omega arith));
  }

  pub recalled : (l : List ℕ) (i p base heads : ℕ) (r : Arrival) → Remembers cells counts l → i < entries → FoundFor l i p base heads → r ≡ found (entry_at l i) → Finds cells counts base heads p r
  recalled l i p base heads r rm low (some, ep, eb, eh) e =
      subst (λ (x : Arrival). Finds cells counts base heads p x) (sym e) (subst (λ (x : ℕ). Finds cells counts base heads x (found (entry_at l i))) ep (subst (λ (x : ℕ). Finds cells counts base x (get_or l (entry_cells * i) 0) (found (entry_at l i))) eh (subst (λ (x : ℕ). Finds cells counts x (get_or l (entry_cells * i + 2) 0) (get_or l (entry_cells * i) 0) (found (entry_at l i))) eb (rm.right i low some))))

  -- what is found, as the walk goes on there
  module _ (heads : ℕ) (s : Spot) (f : Arrival) (fd : Finds cells counts (row_width * s.fuel) heads s.at f) (small : s.c < byte_limit) (t : Spot)
      (et : t ≡ side_spot s (record { second = true; at = f.at; c = (s.c + f.own % byte_limit) % byte_limit })) (b : Node) (on : On f.at b) (vw : Views cells f.at b) where
    pub found_past : Past cells counts heads s t
    found_past =
        let number : (s.c + f.own) % byte_limit ≡ (s.c + f.own % byte_limit) % byte_limit = omega arith in
        subst (λ (x : Spot). Past cells counts heads s x) (sym et) (subst (λ (x : ℕ). Past cells counts heads s (side_spot s (record { second = true; at = f.at; c = x }))) number (fd.reaches s refl refl small))

    pub found_looked : (a : Counted) → (Parted b.kind → (b.next ≤ a.next) × Counts cells (row (row_width * s.fuel) counts) b.next a) → Looked cells counts (record { s = t; d = b; a = a })
    found_looked a k = subst (λ (x : Spot). Looked cells counts (record { s = x; d = b; a = a })) (sym et) (record { inside = fd.inside; on = on; views = vw; counts_first = k })

    pub found_used : (b.next ≡ f.next) × (Parted b.kind → f.next ≤ f.a.next) → Parted b.kind → (b.next ≤ f.a.next) × Counts cells (row (row_width * s.fuel) counts) b.next f.a
    found_used (e, l) k = (omega (arith, l k), subst (λ (x : ℕ). Counts cells (row (row_width * s.fuel) counts) x f.a) (sym e) (fd.counted (l k)))

  -- where the rest of a sequence stands
  pub rest_at : (g : Ahead) (e : Side) → Looked cells counts g → SecondSide g e → g.d.kind ≡ seq_kind → RestAt cells g.d.next g.s e
  rest_at g e lo se is p rest place =
      let q = passed cells (row (row_width * g.s.fuel) counts) g.d.next g.a (lo.counts_first (inr is)).1 p rest place in
      (λ few. let own = q.0 (omega arith) in omega (arith, se.2 (omega arith)), subst (λ (x : ℕ). drop x cells ≡ rest) (sym (ap (λ (x : Side). x.at) se.0)) q.1)
