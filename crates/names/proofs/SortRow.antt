-- A row of sorts' numbers: each is written behind those before it, and their count at the front at last.
use mathlib.Core.Path.{◌≡◌, refl, sym, ◌∙◌}
use mathlib.Core.List.{List, ◌∷◌}
use mathlib.Core.Option.{none, some}
use Rattle.std.specs.Prelude.{Some, None}
use Prim.Native.Nat.{ℕ, ◌+◌, ◌≤◌, ◌<◌}
use native.Mathlib.Omega.{arith}
use lib.ListN.{length, drop, get_or, set, length-set}
use lib.Seq.{take-set-le, get_or-set_same, get_or-set_other}
use Rattle.pcrl.specs.Tree.{Name}
use Rattle.pcrl.specs.Names.{number_of}
use Rattle.nodes.specs.Held.{SortsAt}
use Rattle.names.specs.NameCells.{declared_at, names_at}
use Rattle.names.specs.Rows.{Kept, Yields, sorts_at, numbered}
use Rattle.names.proofs.Lists.{mapped_length}
use Rattle.names.proofs.Filled.{Gone, gone_none, gone_stops, gone_goes, gone_yields}

pub kept_all : (p : ℕ) (l : List ℕ) → Kept p l l
kept_all p l = record { same = refl; before = refl }

pub kept_set : (p : ℕ) (l m : List ℕ) (q v : ℕ) → Kept p l m → p ≤ q → Kept p l (set m q v)
kept_set p l m q v k h = record { same = length-set m q v ∙ k.same; before = take-set-le p m q v h ∙ k.before }

-- the j-th number of the row at p
abbrev pub Numbered : List ℕ → ℕ → ℕ → ℕ → Type 0
Numbered rows p D j = get_or rows (p + 1 + j) 0 ≡ D

module _ (sorts : List Name) where
  -- so far the first k of the names have their numbers in the row
  abbrev pub RowGone : List ℕ → ℕ → List Name → ℕ → Type 0
  RowGone rows p xs k = Gone (λ x. number_of x sorts) 0 (Numbered rows p) xs k

  pub row_starts : (rows : List ℕ) (p : ℕ) (xs : List Name) → RowGone rows p xs 0
  row_starts rows p xs = gone_none (λ x. number_of x sorts) 0 (Numbered rows p) xs

  pub row_stops : (X : List ℕ → ℕ → Type 0) (rows : List ℕ) (p : ℕ) (xs m : List Name) (k : ℕ) (x : Name) → RowGone rows p xs k → drop k xs ≡ x ∷ m
      → number_of x sorts ≡ none → Yields X (numbered sorts xs) None
  row_stops X rows p xs m k x g e h = rw (gone_stops (λ x. number_of x sorts) 0 (Numbered rows p) xs m k x g e h) tt

  pub row_goes : (rows : List ℕ) (p : ℕ) (xs : List Name) (k q : ℕ) (x : Name) (i : ℕ) → q ≡ p + 1 + k → q < length rows → RowGone rows p xs k → drop k xs ≡ x ∷ drop (k + 1) xs
      → number_of x sorts ≡ some i → RowGone (set rows q i) p xs (k + 1)
  row_goes rows p xs k q x i hq room g e h =
      gone_goes (λ x. number_of x sorts) 0 (Numbered rows p) (Numbered (set rows q i) p) xs k x i g e h
      (λ D j l z. get_or-set_other rows q (p + 1 + j) i 0 (λ w. omega arith) ∙ z)
      (rw (← hq) (get_or-set_same rows q i 0 room))

  pub row_ends : (X : List ℕ → ℕ → Type 0) (rows : List ℕ) (p : ℕ) (xs : List Name) (k q : ℕ) → p < length rows → RowGone rows p xs k → length xs ≤ k
      → ((Ds : List ℕ) → length Ds ≡ k → SortsAt Ds (set rows p k) p → X Ds q) → Yields X (numbered sorts xs) (Some q)
  row_ends X rows p xs k q room g l x =
      gone_yields (λ x. number_of x sorts) 0 (Numbered rows p) X xs k q g l
      (λ Ds n h. x Ds n (record {
        many = get_or-set_same rows p k 0 room ∙ sym n;
        each = λ i o. get_or-set_other rows p (p + 1 + i) k 0 (λ w. omega arith) ∙ h i (omega arith);
      }))

pub sorts_length : (s cells sorts : List ℕ) → length (sorts_at s cells sorts) ≡ length sorts + 1
unfolding sorts_at names_at
sorts_length s cells sorts = let e = mapped_length (declared_at s cells) sorts (length sorts) (omega arith) in omega arith
