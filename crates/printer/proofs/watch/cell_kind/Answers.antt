-- `printer::watch::cell_kind`: a name, a numeral, the two marks, and any other.
use native.Mathlib.Omega.{arith}
use Rattle.printer.proofs.WatchLaws.{name_kind, value_kind, equals_kind, not_kind, other_kind}
use Rattle.printer.proofs.watch.cell_kind.Goals as goal

pub returns-then-c-ge-FIRST_NAME : goal.returns-then-c-ge-FIRST_NAME
returns-then-c-ge-FIRST_NAME c = λ s. name_kind s c.args.c (omega arith)

pub returns-then-c-ge-FIRST_NUMERAL : goal.returns-then-c-ge-FIRST_NUMERAL
returns-then-c-ge-FIRST_NUMERAL c = λ s. value_kind s c.args.c (omega arith) (omega arith)

pub returns-in-131 : goal.returns-in-131
returns-in-131 c = λ s. equals_kind s c.args.c c.in-131.is

pub returns-in-33 : goal.returns-in-33
returns-in-33 c = λ s. not_kind s c.args.c c.in-33.is

pub returns-in_default : goal.returns-in_default
returns-in_default c = λ s. other_kind s c.args.c (omega arith) (λ e. omega arith) (λ e. omega arith)
