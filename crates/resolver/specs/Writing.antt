-- Cells written one after another into an array, from a place on, if there is room.
use Rattle.std.specs.Prelude.{◌≡◌, List, ◌++◌, ℕ, ◌+◌, ◌≤◌, min, length, take}
use Rattle.nodes.specs.Layout.{cell_limit}

-- Behind those before w the cells of e were written, up to w'.
pub record Written (e : List ℕ) (w : ℕ) (o : List ℕ) (w' : ℕ) (o' : List ℕ) : Type 0 where
  pub next : w' ≡ w + length e
  pub same : length o' ≡ length o
  pub cells : take w' o' ≡ take w o ++ e

-- They were, if there was room, at places that a cell can hold.
pub record Writes (e : List ℕ) (w : ℕ) (o : List ℕ) (w' : ℕ) (o' : List ℕ) : Type 0 where
  pub with_room : w + length e ≤ min (length o) cell_limit → Written e w o w' o'
