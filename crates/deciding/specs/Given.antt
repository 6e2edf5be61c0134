-- States given by bytes, of a sheet or of a table file, with equality and runs decided: what vectors are computed by.
use Rattle.std.specs.Prelude.{◌≡◌, refl, List, [], ℕ, T as Holds}
use Rattle.pcrl.specs.Limits.{frame_width}
use Rattle.pcrl.specs.Result.{Result, refused, accepted, refusal}
use Rattle.pcrl.specs.Sheet.{Sheet, call}
use Rattle.pcrl.specs.Label.{Label}
use Rattle.pcrl.specs.Table.{Table, with_names}
use Rattle.pcrl.specs.Circles.{passed_after, all_true, guarded}
use Rattle.pcrl.specs.Stack.{Frame, padded}
use Rattle.pcrl.specs.Terms.{still}
use Rattle.pcrl.specs.Equality.{System}
use Rattle.pcrl.specs.States.{State, of_term, of_stack, system, stands_for}
use Rattle.pcrl.specs.Answers.{sheet_read, table_made, table_checked, start_stack}
use Rattle.theory.specs.Questions.{accepted_all}

pub data Given : Type 0 where
  a_sheet a_file : List ℕ → Given

-- what stands for a sheet or a table where the bytes are refused
abbrev pub no_sheet : Sheet
no_sheet = record { sig = record { sorts = []; sort_names = []; funcs = []; acts = [] }; procs = []; start = (0, []) }

abbrev pub no_table : Table
no_table = record { layout = with_names; sig = no_sheet.sig; equations = []; start = (0, []) }

unfoldable pub or_else : {A : Type 0} → A → Result A → A
or_else d (refused n) = d
or_else d (accepted a) = a

unfoldable pub table_answer : Given → Result Table
table_answer (a_sheet s) = table_made s
table_answer (a_file f) = table_checked f

unfoldable pub sheet_given : Given → Sheet
sheet_given (a_sheet s) = or_else no_sheet (sheet_read s)
sheet_given (a_file f) = no_sheet

unfoldable pub table_given : Given → Table
table_given g = or_else no_table (table_answer g)

-- 0, or the number of the question that the bytes fail
unfoldable pub refusal_of : Given → ℕ
refusal_of g = refusal (table_answer g)

abbrev pub states_given : Given → System Label
states_given g = system frame_width (sheet_given g) (table_given g)

-- STATES: the stack of the start, the call of init as a term, a frame of a stack by its equation and values, and the term that a state stands for
unfoldable pub start_of : Given → State
start_of g = of_stack (start_stack frame_width (table_given g))

unfoldable pub start_call : Given → State
start_call g = of_term (still (call (sheet_given g).start.0 (sheet_given g).start.1))

unfoldable pub frame_given : ℕ → List ℕ → Frame
frame_given e vs = record { number = e; values = padded frame_width vs }

unfoldable pub term_for : Given → State → State
term_for g s = stands_for (sheet_given g) s

pub given_guarded : (g : Given) → Holds (guarded (sheet_given g))
unfolding sheet_given or_else guarded passed_after all_true
given_guarded (a_sheet s) = go (sheet_read s) refl
  where
    go : (r : Result Sheet) → sheet_read s ≡ r → Holds (guarded (or_else no_sheet r))
    go (refused n) e = tt
    go (accepted H) e = (accepted_all s H e).no_circle
given_guarded (a_file f) = tt
