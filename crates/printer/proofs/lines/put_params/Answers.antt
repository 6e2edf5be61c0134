-- The loop's invariant: the parameters behind the first that were passed are written.
use native.Mathlib.Omega.{arith}
use mathlib.Core.Path.{sym, ◌∙◌}
use mathlib.Core.List.{[], ◌++◌}
use Prim.Native.Nat.{◌-◌}
use lib.ListN.{drop}
use Rattle.pcrl.specs.Text.{bytes}
use Rattle.texts.proofs.Writing.{wrote_nothing, wrote_more, wrote_fits, wrote_as}
use Rattle.printer.specs.Lines.{param_by}
use Rattle.printer.proofs.Chained.{four}
use Rattle.printer.proofs.Params.{bracketed_none, bracketed_numbered, numbered_next, start_none}
use Rattle.printer.proofs.lines.put_params.Goals as goal

pub returns-then-sorts-eq0 : goal.returns-then-sorts-eq0
returns-then-sorts-eq0 c = let a = c.args in wrote_as _ _ [] _ _ _ (bracketed_none a.sorts.now (param_by a.l.now) (omega arith)) (wrote_nothing a.out.now a.at (omega (arith, c.requires)))

pub put_byte-a-requires : goal.put_byte-a-requires
put_byte-a-requires c = omega (arith, c.requires)

pub put_param-p-requires : goal.put_param-p-requires
put_param-p-requires c = wrote_fits _ _ _ _ _ c.put_byte-a.ensures

pub loop-i-init : goal.loop-i-init
loop-i-init c = let a = c.args in wrote_as _ _ [] _ _ _ (start_none (λ k x. bytes "," ++ param_by a.l.now k x) (drop 1 a.sorts.now)) (wrote_nothing _ _ (wrote_fits _ _ _ _ _ c.put_param-p.ensures))

pub put_byte-q-requires : goal.put_byte-q-requires
put_byte-q-requires c = wrote_fits _ _ _ _ _ c.loop-i.invariant

pub put_param-p-requires-in-loop-i : goal.put_param-p-requires-in-loop-i
put_param-p-requires-in-loop-i c = wrote_fits _ _ _ _ _ c.put_byte-q.ensures

pub loop-i-preserved : goal.loop-i-preserved
loop-i-preserved c =
    let a = c.args in
    let now = c.loop-i in
    let test = c.loop-i-test in
    let wrote = now.invariant in
    wrote_as _ _ _ _ _ _ (sym (numbered_next (λ k x. bytes "," ++ param_by a.l.now k x) a.sorts.now now.i (omega arith) (omega (arith, test))))
    (wrote_more _ _ _ now.out now.p _ _ _ (wrote_fits _ _ _ _ _ c.put_param-p.ensures) wrote (wrote_more now.out now.p _ _ _ _ _ _ (wrote_fits _ _ _ _ _ wrote) c.put_byte-q.ensures c.put_param-p-in-loop-i.ensures))

pub put_byte-requires : goal.put_byte-requires
put_byte-requires c = wrote_fits _ _ _ _ _ c.loop-i.invariant

pub shape_of-out : goal.shape_of-out
shape_of-out c = c.put_byte.ensures.same ∙ (c.loop-i.invariant.same ∙ (c.put_param-p.ensures.same ∙ c.put_byte-a.ensures.same))

pub returns : goal.returns
returns c =
    let a = c.args in
    wrote_as _ _ _ _ _ _ (bracketed_numbered (param_by a.l.now) a.sorts.now (c.loop-i.i - 1) (omega arith) (omega arith))
    (four _ _ _ _ _ _ _ _ _ _ _ _ _ _ (omega (arith, c.requires)) c.put_byte-a.ensures c.put_param-p.ensures c.loop-i.invariant c.put_byte.ensures)
