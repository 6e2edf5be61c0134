-- Its row, the sort that it gives, and its values, which end where the next one's begin.
use mathlib.Core.Path.{◌∙◌, ap₂}
use Prim.Native.Nat.{ℕ, ◌-◌}
use Rattle.emit.proofs.SignatureLaws.{func_put, func_none, func_no_room}
use Rattle.emit.proofs.signature.put_func.Goals as goal

pub returns-in_err-a : goal.returns-in_err-a
returns-in_err-a c = let a = c.args in rw c.from_residual.ensures (func_none a.funcs.now a.values.now a.places.now a.i a.w a.out.now c.put_row.new.out c.in_err-a.ensures)

pub returns-in_err-b : goal.returns-in_err-b
returns-in_err-b c = let a = c.args in rw c.from_residual-in_err-b.ensures (func_no_room a.funcs.now a.values.now a.places.now a.i c.peek.result a.w a.out.now c.in_ok-a.a c.put_row.new.out c.put.new.out c.in_ok-a.ensures c.in_err-b.ensures)

pub returns : goal.returns
returns c = func_put c.args.w c.args.out.now c.copy.result c.copy.new.out c.in_ok-a.a c.put_row.new.out c.args.funcs.now c.args.values.now c.args.places.now c.args.i
    c.peek.result c.cell-from.result c.saturating_sub.result c.in_ok-b.b c.put.new.out c.peek.ensures c.cell-from.ensures.0 (c.saturating_sub.ensures ∙ ap₂ (λ (a b : ℕ). a - b) c.cell.ensures.0 c.cell-from.ensures.0)
    c.in_ok-a.ensures c.in_ok-b.ensures c.copy.ensures
