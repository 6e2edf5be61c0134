-- `with_call` adds the process of a call to a set, and nothing for another node.
use native.Mathlib.Omega.{arith}
use Rattle.checker.proofs.Sets.{with_other, with_far, with_process}
use Rattle.checker.proofs.circles.with_call.Goals as goal

pub returns-then-kind-ne-CALL : goal.returns-then-kind-ne-CALL
returns-then-kind-ne-CALL c = with_other c.args.set c.args.kind c.args.number (λ z. omega arith)

pub returns-then-number-ge-MAX_SCOPE : goal.returns-then-number-ge-MAX_SCOPE
returns-then-number-ge-MAX_SCOPE c = with_far c.args.set c.args.kind c.args.number (omega arith)

pub returns : goal.returns
returns c = with_process c.args.set c.args.kind c.args.number c.with_bit.result (omega arith) c.with_bit.ensures
