-- For all states of accepted sheets and their tables, equality to n steps is decided, and so is whether a run bears some labels.
use Rattle.std.specs.Prelude.{List, ℕ}
use Rattle.pcrl.specs.Limits.{frame_width}
use Rattle.pcrl.specs.Label.{Label}
use Rattle.pcrl.specs.Equality.{Equal, Run}
use Rattle.pcrl.specs.States.{State}
use Rattle.theory.specs.Questions.{accepted_all}
use Rattle.theory.specs.Demand.{AcceptedSheet, states}
use Rattle.deciding.specs.Labels.{same_label?}
use Rattle.deciding.specs.Listed.{Listed, bears?}
use Rattle.deciding.proofs.Listed.{equal?}
use Rattle.deciding.proofs.StatesListed.{states_listed}

abbrev pub accepted_listed : (A : AcceptedSheet) → Listed (states A)
accepted_listed A = states_listed frame_width A.sheet A.table (accepted_all A.bytes A.sheet A.read).no_circle

unfoldable pub equal_states? : (A B : AcceptedSheet) (n : ℕ) (s t : State) → Dec (Equal (states A) (states B) n s t)
equal_states? A B = equal? (states A) (states B) same_label? (accepted_listed A) (accepted_listed B)

unfoldable pub bears_labels? : (A : AcceptedSheet) (ls : List Label) (s : State) → Dec ((t : State) × Run (states A) s ls t)
bears_labels? A = bears? same_label? (accepted_listed A)
