-- The size, and behind it the name: Bool's, or that of the cell.
use native.Mathlib.Omega.{arith}
use Rattle.emit.proofs.SignatureLaws.{bool_put, other_put, sort_no_room}
use Rattle.emit.proofs.signature.put_sort.Goals as goal

pub returns-in_err-v : goal.returns-in_err-v
returns-in_err-v c = let a = c.args in rw c.from_residual.ensures (sort_no_room c.in_err-v.ensures a.s.now a.sizes.now a.names.now a.d)

pub returns-then-d-eq-BOOL : goal.returns-then-d-eq-BOOL
returns-then-d-eq-BOOL c =
    let a = c.args in
    let name = c.put_row in
    bool_put a.w a.out.now name.result name.new.out c.in_ok-v.v c.put.new.out a.s.now a.sizes.now a.names.now a.d c.peek.result (omega arith) c.peek.ensures c.in_ok-v.ensures name.ensures

pub returns : goal.returns
returns c =
    let a = c.args in
    let name = c.put_name in
    other_put a.w a.out.now name.result name.new.out c.in_ok-v.v c.put.new.out a.s.now a.sizes.now a.names.now a.d c.peek.result c.peek-2.result (omega arith) c.peek.ensures c.peek-2.ensures c.in_ok-v.ensures name.ensures
