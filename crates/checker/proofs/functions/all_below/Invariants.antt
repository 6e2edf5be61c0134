use Rattle.checker.proofs.FunctionValues.{BelowLeft}
use Rattle.checker.proofs.functions.all_below.Given as goal

abbrev pub invariant-loop-i : goal.invariant-loop-i
invariant-loop-i l = BelowLeft l.values l.from l.to l.size l.i
