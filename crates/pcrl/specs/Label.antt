-- #104: "A label is from now on the name, the names of its sorts and the values." "tau is a label."
use Rattle.std.specs.Prelude.{List, map, ℕ, get_or}
use Rattle.pcrl.specs.Tree.{Name}
use Rattle.pcrl.specs.Sheet.{Act, tau, action, Sig, no_action, sort_name, takes_of}

pub data Label : Type 0 where
  silent : Label
  named : Name → List Name → List ℕ → Label

unfoldable pub label : Sig → Act → List ℕ → Label
label S tau vs = silent
label S (action a) vs = named (get_or S.acts a no_action).name (map (sort_name S) (takes_of S (action a))) vs
