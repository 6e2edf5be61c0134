-- A name is one of some names or not.
use mathlib.Core.Path.{◌≡◌, refl, sym, ◌∙◌}
use mathlib.Core.List.{List, [], ◌∷◌, map}
use mathlib.Core.Bool.{Bool, true, false}
use Prim.Native.Nat.{ℕ, suc, ◌<◌, ◌≤◌}
use Rattle.std.specs.Option.{is_some}
use Rattle.std.specs.Prelude.{Option, Some}
use lib.ListN.{length, get_or, drop, drop_of_length-le}
use lib.Seq.{drop-cons}
use Rattle.pcrl.specs.Tests.{same?, among, distinct}
use Rattle.pcrl.specs.Tokens.{words}
use Rattle.lexer.specs.Classes.{sign_cell}
use Rattle.lexer.specs.Cells.{first_word}

-- ONE OF SOME NAMES

module _ (l m : List ℕ) (ms : List (List ℕ)) where
  among_by : Dec (l ≡ m) → Bool
  among_by d = elim d [ yes e ↦ true | no h ↦ among l ms ]

  by_yes : (d : Dec (l ≡ m)) → l ≡ m → among_by d ≡ true
  unfolding among_by
  by_yes (yes k) e = refl
  by_yes (no k) e = absurd (k e)

  by_no : (d : Dec (l ≡ m)) → ¬ (l ≡ m) → among_by d ≡ among l ms
  unfolding among_by
  by_no (yes k) n = absurd (n k)
  by_no (no k) n = refl

  pub among_first : l ≡ m → among l (m ∷ ms) ≡ true
  unfolding among among_by
  among_first e = by_yes (same? l m) e

  pub among_later : ¬ (l ≡ m) → among l (m ∷ ms) ≡ among l ms
  unfolding among among_by
  among_later n = by_no (same? l m) n

pub among_none : (l : List ℕ) → among l [] ≡ false
unfolding among
among_none l = refl

-- the names at places, from the k-th on
module _ (name : ℕ → List ℕ) (places : List ℕ) (k : ℕ) where
  names_more : k < length places → map name (drop k places) ≡ name (get_or places k 0) ∷ map name (drop (suc k) places)
  names_more h = rw (drop-cons places k 0 h)

  names_none : length places ≤ k → map name (drop k places) ≡ []
  names_none h = rw (drop_of_length-le places {i = k} h)

  pub found_among : (l m : List ℕ) → k < length places → m ≡ name (get_or places k 0) → l ≡ m → among l (map name (drop k places)) ≡ true
  found_among l m h z e = rw (names_more h) (among_first l (name (get_or places k 0)) (map name (drop (suc k) places)) (e ∙ z))

  pub passed_among : (l m : List ℕ) (j : ℕ) → j ≡ suc k → k < length places → m ≡ name (get_or places k 0) → ¬ (l ≡ m) → among l (map name (drop k places)) ≡ among l (map name (drop j places))
  passed_among l m j w h z n = rw (w, names_more h) (among_later l (name (get_or places k 0)) (map name (drop (suc k) places)) (λ e. n (e ∙ sym z)))

  pub none_among : (l : List ℕ) → length places ≤ k → among l (map name (drop k places)) ≡ false
  none_among l h = rw (names_none h) (among_none l)

  pub not_distinct : (l : List ℕ) (j : ℕ) → j ≡ suc k → k < length places → l ≡ name (get_or places k 0) → among l (map name (drop j places)) ≡ true → distinct (map name (drop k places)) ≡ false
  unfolding distinct
  not_distinct l j w h z e = let f : among (name (get_or places k 0)) (map name (drop (suc k) places)) ≡ true = rw (← w, ← z) e in rw (names_more h, f)

  pub distinct_more : (l : List ℕ) (j : ℕ) → j ≡ suc k → k < length places → l ≡ name (get_or places k 0) → among l (map name (drop j places)) ≡ false
      → distinct (map name (drop k places)) ≡ distinct (map name (drop j places))
  unfolding distinct
  distinct_more l j w h z e = let f : among (name (get_or places k 0)) (map name (drop (suc k) places)) ≡ false = rw (← w, ← z) e in rw (w, names_more h, f)

  pub distinct_none : length places ≤ k → distinct (map name (drop k places)) ≡ true
  unfolding distinct
  distinct_none h = rw (names_none h)

-- a word has a cell
cell_among : (c : ℕ) (vs : List (List ℕ)) (w : List ℕ) → is_some (sign_cell c vs w) ≡ among w vs
unfolding sign_cell among
cell_among c [] w = refl
cell_among c (v ∷ vs) w = go (same? w v) (cell_among (suc c) vs w)
  where
    go : (d : Dec (w ≡ v)) → is_some (sign_cell (suc c) vs w) ≡ among w vs
        → is_some (elim d as (λ x. Option ℕ) [ yes e ↦ Some c | no n ↦ sign_cell (suc c) vs w ]) ≡ elim d as (λ x. Bool) [ yes e ↦ true | no n ↦ among w vs ]
    go (yes e) k = refl
    go (no n) k = k

pub word_among : (w : List ℕ) → is_some (sign_cell first_word words w) ≡ among w words
word_among w = cell_among first_word words w
