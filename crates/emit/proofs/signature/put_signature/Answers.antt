-- Sorts, functions and actions, one behind another.
use Rattle.std.specs.Prelude.{None}
use Rattle.emit.proofs.Putting.{no_room_first, no_room_then}
use Rattle.emit.proofs.SignatureLaws.{puts_behind}
use Rattle.emit.proofs.Signed.{signature_put}
use Rattle.emit.proofs.signature.put_signature.Goals as goal

pub returns-in_err-x : goal.returns-in_err-x
returns-in_err-x c =
    let a = c.args in
    rw c.from_residual.ensures (signature_put a.s.now a.sizes.now a.funcs.now a.values.now a.places.now a.acts.now a.names.now a.b a.n a.w a.out.now None c.put_sorts.new.out (no_room_first _ c.in_err-x.ensures))

pub returns-in_err-y : goal.returns-in_err-y
returns-in_err-y c =
    let a = c.args in
    rw c.from_residual-in_err-y.ensures (signature_put a.s.now a.sizes.now a.funcs.now a.values.now a.places.now a.acts.now a.names.now a.b a.n a.w a.out.now None c.put_funcs.new.out (no_room_then c.in_ok-x.ensures (no_room_first _ c.in_err-y.ensures)))

pub returns : goal.returns
returns c =
    let a = c.args in
    let l = c.put_actions in
    signature_put a.s.now a.sizes.now a.funcs.now a.values.now a.places.now a.acts.now a.names.now a.b a.n a.w a.out.now l.result l.new.out
    (puts_behind a.w a.out.now l.result l.new.out _ _ c.in_ok-x.x c.put_sorts.new.out c.in_ok-x.ensures (puts_behind c.in_ok-x.x c.put_sorts.new.out l.result l.new.out _ _ c.in_ok-y.y c.put_funcs.new.out c.in_ok-y.ensures l.ensures))
