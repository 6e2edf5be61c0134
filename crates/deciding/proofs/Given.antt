-- Of states given by bytes equality to n steps is decided, and so is whether a run bears some labels.
use Rattle.std.specs.Prelude.{List, ℕ}
use Rattle.pcrl.specs.Limits.{frame_width}
use Rattle.pcrl.specs.Label.{Label}
use Rattle.pcrl.specs.Equality.{Equal, Run}
use Rattle.pcrl.specs.States.{State}
use Rattle.deciding.specs.Labels.{same_label?}
use Rattle.deciding.specs.Listed.{Listed, bears?}
use Rattle.deciding.proofs.Listed.{equal?}
use Rattle.deciding.proofs.StatesListed.{states_listed}
use Rattle.deciding.specs.Given.{Given, sheet_given, table_given, states_given, given_guarded}

abbrev pub given_listed : (g : Given) → Listed (states_given g)
given_listed g = states_listed frame_width (sheet_given g) (table_given g) (given_guarded g)

unfoldable pub equal_given? : (g h : Given) (n : ℕ) (s t : State) → Dec (Equal (states_given g) (states_given h) n s t)
equal_given? g h = equal? (states_given g) (states_given h) same_label? (given_listed g) (given_listed h)

unfoldable pub bears_given? : (g : Given) (ls : List Label) (s : State) → Dec ((t : State) × Run (states_given g) s ls t)
bears_given? g = bears? same_label? (given_listed g)
