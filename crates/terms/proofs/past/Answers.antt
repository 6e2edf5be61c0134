-- A node is a byte, and `==` has the byte of its sort behind it.
use Prim.Native.Nat.{◌+◌}
use native.Mathlib.Omega.{arith}
use Rattle.terms.proofs.NextNode.{equal_past, found_equal, node_past}
use Rattle.terms.proofs.past.Goals as goal

pub returns-then-j-s : goal.returns-then-j-s
returns-then-j-s c = let a = c.args in equal_past a.s.now a.i (a.i + 1) (omega arith) (omega arith) (omega arith) (a.i + 1 + 1) (omega arith)

pub returns-else-j-s : goal.returns-else-j-s
returns-else-j-s c = λ x ys e. let a = c.args in let z = (found_equal a.s.now a.i (a.i + 1) (omega arith) (omega arith) (omega arith) x ys e).2 in absurd (omega arith)

pub returns-else-wide-eq-EQUAL_CODE : goal.returns-else-wide-eq-EQUAL_CODE
returns-else-wide-eq-EQUAL_CODE c = let a = c.args in node_past a.s.now a.i (omega arith) (λ e. omega arith) (a.i + 1) (omega arith)
