-- The items are counted up to the tag at the end: done and left together are the whole count.
use native.Mathlib.Omega.{arith}
use mathlib.Core.Path.{◌≡◌, sym, ◌∙◌}
use Rattle.names.proofs.Items.{counting_starts, counting_ends, counting_goes, counting_full}
use Rattle.names.proofs.counts.items.Goals as goal

pub loop-n-init : goal.loop-n-init
loop-n-init c = (omega arith, counting_starts c.args.cells.now c.args.step c.args.at c.args.most)

pub returns-then-peek-eq-END_TAG : goal.returns-then-peek-eq-END_TAG
returns-then-peek-eq-END_TAG c = record { most = omega arith; count = counting_ends c.args.cells.now c.args.step c.args.at c.args.most c.loop-n.p c.loop-n.n c.loop-n.invariant.1 (sym c.peek.ensures ∙ c.if-peek-eq-END_TAG.true) }

pub overflow_add-p : goal.overflow_add-p
overflow_add-p c = omega (arith, c.loop-n.invariant.1.near)

pub loop-n-preserved : goal.loop-n-preserved
loop-n-preserved c = (omega arith, counting_goes c.args.cells.now c.args.step c.args.at c.args.most c.loop-n.p c.loop-n.n (omega (arith, c.requires)) c.loop-n-test.true c.loop-n.invariant.1 (λ e. c.if-peek-eq-END_TAG.false (c.peek.ensures ∙ e)))

pub returns : goal.returns
returns c =
    let z : c.args.most ≡ c.loop-n.n = omega arith in
    record { most = omega arith; count = z ∙ counting_full c.args.cells.now c.args.step c.args.at c.args.most c.loop-n.p c.loop-n.n c.loop-n-test.false c.loop-n.invariant.1 }
