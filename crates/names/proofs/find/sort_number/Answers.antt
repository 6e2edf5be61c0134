-- Bool stands before the sorts that lines declare.
use native.Mathlib.Omega.{arith}
use Rattle.pcrl.specs.Text.{bytes}
use Rattle.laws.specs.Says.{said_yes, said_no}
use Rattle.names.specs.NameCells.{name_at, names_at}
use Rattle.names.proofs.Numbers.{found_first, found_next, found_nowhere}
use Rattle.names.proofs.find.sort_number.Goals as goal

pub returns-then-is_bool : goal.returns-then-is_bool
returns-then-is_bool c = record { most = omega arith; number = found_first (name_at c.args.s.now c.args.c) (bytes "Bool") (names_at c.args.s.now c.args.cells.now c.args.places.now c.args.count) (said_yes _ c.is_bool.ensures c.if-is_bool.true) }

pub returns-in_err-i-clause-number : goal.returns-in_err-i-clause-number
returns-in_err-i-clause-number c = rw c.from_residual.ensures (found_nowhere (name_at c.args.s.now c.args.c) (bytes "Bool") (names_at c.args.s.now c.args.cells.now c.args.places.now c.args.count) (said_no _ c.is_bool.ensures c.if-is_bool.false) c.in_err-i.ensures.number)

pub returns-clause-number : goal.returns-clause-number
returns-clause-number c = found_next (name_at c.args.s.now c.args.c) (bytes "Bool") (names_at c.args.s.now c.args.cells.now c.args.places.now c.args.count) c.in_ok-i.i (said_no _ c.is_bool.ensures c.if-is_bool.false) c.in_ok-i.ensures.number
