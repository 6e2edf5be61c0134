-- `lexer::brackets::opens`: the opening bracket's cell, and any other.
use native.Mathlib.Omega.{arith}
use Rattle.lexer.proofs.Depth.{opens_one, opens_none}
use Rattle.lexer.proofs.brackets.opens.Goals as goal

pub returns-in-40 : goal.returns-in-40
returns-in-40 c = (omega arith, λ s n. opens_one s n c.args.c c.in-40.is)

pub returns-in_default : goal.returns-in_default
returns-in_default c = (omega arith, λ s n. opens_none s n c.args.c (search))
