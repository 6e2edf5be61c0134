-- Every size so far is right: that of the next line is, or it is not.
use mathlib.Core.Path.{ap, ◌∙◌}
use Prim.Native.Nat.{◌+◌}
use native.Mathlib.Omega.{arith}
use lib.ListN.{get_or}
use Rattle.pcrl.specs.Limits.{max_size}
use Rattle.pcrl.specs.Tests.{Between}
use Rattle.names.specs.Items.{numeral_at}
use Rattle.names.proofs.Lists.{checked_none, checked_on, checked_not, checked_all}
use Rattle.names.proofs.counts.sizes_right.Goals as goal

pub loop-p-init : goal.loop-p-init
loop-p-init c = checked_none (λ p. Between 1 max_size (numeral_at c.args.cells.now (p + 2))) c.args.sorts.now

pub overflow_add-wide : goal.overflow_add-wide
overflow_add-wide c = omega (arith, c.wide.ensures)

pub returns-then-v-le-FIRST_NUMERAL : goal.returns-then-v-le-FIRST_NUMERAL
returns-then-v-le-FIRST_NUMERAL c = let v = c.peek-v.ensures ∙ ap (λ p. get_or c.args.cells.now (p + 2) 0) c.wide.ensures.0 in checked_not (λ p. Between 1 max_size (numeral_at c.args.cells.now (p + 2))) c.args.sorts.now c.loop-p.p-index c.loop-p-test.true c.loop-p.invariant (λ b. omega arith)

pub returns-then-v : goal.returns-then-v
returns-then-v c = let v = c.peek-v.ensures ∙ ap (λ p. get_or c.args.cells.now (p + 2) 0) c.wide.ensures.0 in checked_not (λ p. Between 1 max_size (numeral_at c.args.cells.now (p + 2))) c.args.sorts.now c.loop-p.p-index c.loop-p-test.true c.loop-p.invariant (λ b. omega arith)

pub loop-p-preserved : goal.loop-p-preserved
loop-p-preserved c = let v = c.peek-v.ensures ∙ ap (λ p. get_or c.args.cells.now (p + 2) 0) c.wide.ensures.0 in checked_on (λ p. Between 1 max_size (numeral_at c.args.cells.now (p + 2))) c.args.sorts.now c.loop-p.p-index c.loop-p-test.true c.loop-p.invariant (omega arith, omega arith)

pub returns : goal.returns
returns c = checked_all (λ p. Between 1 max_size (numeral_at c.args.cells.now (p + 2))) c.args.sorts.now c.loop-p.p-index c.loop-p-test.false c.loop-p.invariant
