-- `with_if` adds a process that passes.
use mathlib.Core.Path.{ap, sym, ◌∙◌}
use mathlib.Core.Bool.{Bool}
use lib.Dec.{eqb}
use Rattle.pcrl.specs.Tests.{and, or}
use Rattle.laws.specs.Booleans.{or_false}
use Rattle.nodes.specs.Bits.{bit}
use Rattle.checker.proofs.circles.with_if.Goals as goal

pub returns-then-passes : goal.returns-then-passes
returns-then-passes c = λ i. c.with_bit.ensures i ∙ ap (λ (t : Bool). or (bit i c.args.set) (and t (eqb i c.args.k))) (sym c.if-passes.true)

pub returns : goal.returns
returns c = λ i. sym (ap (λ (t : Bool). or (bit i c.args.set) (and t (eqb i c.args.k))) c.if-passes.false ∙ or_false (bit i c.args.set))
