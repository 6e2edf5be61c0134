-- The loop's invariant: what is left to close follows from the whole.
use native.Mathlib.Omega.{arith}
use mathlib.Core.Path.{refl, ◌∙◌}
use Rattle.clauses.proofs.Closing.{closing_start, closing_mark, closing_bracket, closing_end}
use Rattle.texts.proofs.Writing.{wrote_fits}
use Rattle.clauses.proofs.operands.close.Goals as goal

pub loop-o-init : goal.loop-o-init
loop-o-init c = (omega arith, (refl, λ bs e. closing_start _ _ _ bs e))

pub returns-then-o-eq1 : goal.returns-then-o-eq1
returns-then-o-eq1 c =
    let a = c.args in
    let now = c.loop-o in
    let w = c.put_joint.ensures in
    let f = wrote_fits _ _ _ _ _ w in
    record { at_in_bounds = (omega (arith, f, w.same, now.invariant.1.0), w.same ∙ now.invariant.1.0); closes = λ bs e. closing_mark a.out.now a.at bs now.out now.p now.o _ _ _ (now.invariant.1.1 bs e) (omega arith) (omega arith) w c.kept-k.ensures }

pub loop-o-preserved : goal.loop-o-preserved
loop-o-preserved c =
    let a = c.args in
    let now = c.loop-o in
    let w = c.put_byte-p.ensures in (
      wrote_fits _ _ _ _ _ w,
      (w.same ∙ now.invariant.1.0, λ bs e. closing_bracket a.out.now a.at bs now.out now.p now.o _ _ (now.invariant.1.1 bs e) (omega arith) (λ z. omega arith) now.invariant.0 w),
    )

pub returns : goal.returns
returns c =
    let a = c.args in
    let now = c.loop-o in
    record { at_in_bounds = (omega arith, now.invariant.1.0); closes = λ bs e. closing_end a.out.now a.at bs now.out now.p now.o (now.invariant.1.1 bs e) (λ z. omega arith) now.invariant.0 }
