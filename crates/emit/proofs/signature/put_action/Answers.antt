-- The name, and behind it the row.
use Rattle.emit.proofs.SignatureLaws.{action_put, action_none}
use Rattle.emit.proofs.signature.put_action.Goals as goal

pub returns-in_err-v : goal.returns-in_err-v
returns-in_err-v c = let a = c.args in rw c.from_residual.ensures (action_none a.s.now a.acts.now a.names.now a.b a.i c.peek.result a.w a.out.now c.put_name.new.out c.peek.ensures c.in_err-v.ensures)

pub returns : goal.returns
returns c = action_put c.args.w c.args.out.now c.put_row.result c.put_row.new.out c.in_ok-v.v c.put_name.new.out c.args.s.now c.args.acts.now c.args.names.now c.args.b c.args.i c.peek.result c.peek.ensures c.in_ok-v.ensures c.put_row.ensures
