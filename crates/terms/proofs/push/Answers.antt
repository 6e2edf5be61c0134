-- One more sort in front.
use mathlib.Core.Path.{refl}
use native.Mathlib.Omega.{arith}
use Rattle.terms.proofs.Stack.{push_at}
use Rattle.terms.proofs.push.Goals as goal

pub returns : goal.returns
returns c = let a = c.args in (push_at a.sorts.now a.top a.v (omega arith) (omega arith), refl)
