-- The values of a label in brackets, as the walk prints them.
use Rattle.std.specs.Prelude.{List, [], ◌∷◌, ◌++◌, ℕ}
use Rattle.pcrl.specs.Text.{bytes}
use Rattle.pcrl.specs.Walk.{values_text}

unfoldable pub bracketed : List ℕ → List ℕ
bracketed [] = []
bracketed (v ∷ vs) = bytes "(" ++ (values_text (v ∷ vs) ++ bytes ")")
