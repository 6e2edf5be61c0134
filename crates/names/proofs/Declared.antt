-- The declared names in one array: the names of its cells are those of all lines, kind after kind; with Bool they are `declared`.
use mathlib.Core.Path.{◌≡◌, refl, sym, ◌∙◌, ap}
use mathlib.Core.List.{List, ◌++◌, map, append_assoc, map-append}
use Prim.Native.Nat.{ℕ}
use lib.ListN.{length}
use lib.Seq.{take-length}
use Rattle.names.specs.NameCells.{name_at, name_cell, declared_at, names_at}
use Rattle.laws.specs.Lists.{map_twice}

module _ (s cells : List ℕ) where
  named_cells : (places : List ℕ) → map (name_at s) (map (name_cell cells) places) ≡ names_at s cells places (length places)
  unfolding names_at declared_at
  named_cells places = map_twice (name_at s) (name_cell cells) (declared_at s cells) (λ p. refl) places ∙ ap (map (declared_at s cells)) (sym (take-length places))

  -- four kinds, one behind the other
  pub four_gathered : (a b c d l₁ l₂ l₃ l₄ : List ℕ) → l₁ ≡ map (name_cell cells) a → l₂ ≡ l₁ ++ map (name_cell cells) b → l₃ ≡ l₂ ++ map (name_cell cells) c → l₄ ≡ l₃ ++ map (name_cell cells) d
      → map (name_at s) l₄ ≡ names_at s cells a (length a) ++ (names_at s cells b (length b) ++ (names_at s cells c (length c) ++ names_at s cells d (length d)))
  four_gathered a b c d l₁ l₂ l₃ l₄ e₁ e₂ e₃ e₄ = rw (e₄, e₃, e₂, e₁) (simp (map-append, append_assoc, named_cells))
