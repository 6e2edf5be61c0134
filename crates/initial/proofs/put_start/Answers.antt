-- The process's number, and behind it the values of the call's data.
use native.Mathlib.Omega.{arith}
use Rattle.initial.proofs.Started.{no_start, start_no_room, start_put}
use Rattle.std.specs.Prelude.{Some}
use Rattle.initial.proofs.put_start.Goals as goal

pub returns-then-at-cells : goal.returns-then-at-cells
returns-then-at-cells c = let a = c.args in no_start a.sizes.now a.funcs.now a.values.now a.places.now a.cells.now a.at a.w a.out.now (omega arith) (Some a.w) a.out.now

pub returns-in_err-v : goal.returns-in_err-v
returns-in_err-v c = let a = c.args in rw c.from_residual.ensures (start_no_room a.sizes.now a.funcs.now a.values.now a.places.now a.cells.now a.at a.w a.out.now c.low.result c.put.new.out c.in_err-v.ensures)

pub returns : goal.returns
returns c = let a = c.args in let n = c.node_at-d in let b = c.low in let u = c.in_ok-v in let e = c.min-end in let t = c.evaluate-t in let v = c.put_values in
    start_put a.sizes.now a.funcs.now a.values.now a.places.now a.cells.now a.at a.w a.out.now n.result b.result u.v c.put.new.out e.result t.result t.new.cells v.result v.new.out
    n.ensures.on n.ensures.views b.ensures u.ensures e.ensures t.ensures v.ensures
