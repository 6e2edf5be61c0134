-- `lexer::brackets::open_behind`: the two brackets' cells, and any other.
use Prim.Native.Nat.{◌-◌}
use native.Mathlib.Omega.{arith}
use Rattle.lexer.proofs.Depth.{at_open, at_close, at_other}
use Rattle.lexer.proofs.brackets.open_behind.Goals as goal

pub returns-in-40 : goal.returns-in-40
returns-in-40 c = λ s. at_open s c.args.n c.args.c c.in-40.is

pub returns-then-n-eq0 : goal.returns-then-n-eq0
returns-then-n-eq0 c = λ s. at_close s c.args.n c.args.c 0 c.in-41.is (omega arith)

pub returns-else-n-eq0 : goal.returns-else-n-eq0
returns-else-n-eq0 c = λ s. at_close s c.args.n c.args.c (c.args.n - 1) c.in-41.is (omega arith)

pub returns-in_default : goal.returns-in_default
returns-in_default c = λ s. at_other s c.args.n c.args.c (search) (search)
