-- A name is the run of name bytes at its place.
use Rattle.emit.proofs.SignatureLaws.{name_put, name_no_room}
use Rattle.emit.proofs.signature.put_name.Goals as goal

pub returns-in_err-v : goal.returns-in_err-v
returns-in_err-v c = rw c.from_residual.ensures (name_no_room c.in_err-v.ensures c.args.s.now c.args.c)

pub returns : goal.returns
returns c = name_put c.args.w c.args.out.now c.copy.result c.copy.new.out c.in_ok-v.v c.put.new.out c.args.s.now c.args.c c.first_byte-p.result c.run-n.result c.low.result c.first_byte-p.ensures.0 c.run-n.ensures c.low.ensures c.in_ok-v.ensures c.copy.ensures
