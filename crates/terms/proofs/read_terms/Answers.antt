-- One term a turn: what is left to read is a term for each of the sorts that are left.
use mathlib.Core.Path.{◌∙◌, refl}
use Prim.Native.Nat.{◌+◌}
use native.Mathlib.Omega.{arith}
use lib.ListN.{drop}
use Rattle.pcrl.specs.Decode.{read_term}
use Rattle.terms.proofs.Rests.{each_done, each_fail, each_pass}
use Rattle.terms.proofs.read_terms.Goals as goal

pub loop-d-init : goal.loop-d-init
loop-d-init c = λ S k. refl

pub returns-in_err-i : goal.returns-in_err-i
returns-in_err-i c = λ S k. rw c.from_residual.ensures (c.loop-d.invariant S k ∙ each_fail (read_term S c.args.scope.now) c.args.sorts.now 0 c.loop-d.d-index (drop c.loop-d.i c.args.s.now) (omega arith) (c.in_err-i.ensures S k))

pub loop-d-preserved : goal.loop-d-preserved
loop-d-preserved c = λ S k. c.loop-d.invariant S k ∙ each_pass (read_term S c.args.scope.now) c.args.sorts.now 0 c.loop-d.d-index (c.loop-d.d-index + 1) (drop c.loop-d.i c.args.s.now) _ (omega arith) (omega arith) (c.in_ok-i.ensures S k)

pub returns : goal.returns
returns c = λ S k. c.loop-d.invariant S k ∙ each_done (read_term S c.args.scope.now) c.args.sorts.now 0 _ (drop c.loop-d.i c.args.s.now) (omega arith)
