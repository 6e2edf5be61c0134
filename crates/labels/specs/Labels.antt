-- The label of an action's byte and its values.
use Rattle.std.specs.Prelude.{List, ℕ}
use Rattle.pcrl.specs.Sheet.{Sig}
use Rattle.pcrl.specs.Label.{Label, label}
use Rattle.firing.specs.Fires.{act_of}

unfoldable pub label_of : Sig → ℕ → List ℕ → Label
label_of S a vs = label S (act_of a) vs
