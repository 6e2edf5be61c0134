-- The count, and behind it the first i of them.
use mathlib.Core.Path.{◌∙◌}
use mathlib.Core.List.{[]}
use native.Mathlib.Omega.{arith}
use Rattle.emit.specs.Bytes.{action_bytes, counted_bytes}
use Rattle.emit.proofs.Putting.{puts_none, concatenated_none, concatenated_more, counted_put, counted_no_room}
use Rattle.emit.proofs.SignatureLaws.{counted_none}
use Rattle.emit.proofs.signature.put_actions.Goals as goal

pub returns-in_err-v : goal.returns-in_err-v
returns-in_err-v c = let a = c.args in rw c.from_residual.ensures (counted_none c.in_err-v.ensures (action_bytes a.s.now a.acts.now a.names.now a.b) a.n)

pub loop-i-init : goal.loop-i-init
loop-i-init c =
    let a = c.args in
    let o = c.put.new.out in
    let v = c.in_ok-v.v in
    (omega arith, concatenated_none [] (action_bytes a.s.now a.acts.now a.names.now a.b) v o v o (puts_none v o))

pub returns-in_err-v-2 : goal.returns-in_err-v-2
unfolding counted_bytes
returns-in_err-v-2 c =
    let a = c.args in
    let l = c.loop-i in
    rw c.from_residual-in_err-v-2.ensures
    (counted_no_room (action_bytes a.s.now a.acts.now a.names.now a.b) a.n c.low.result l.i a.w a.out.now c.in_ok-v.v c.put.new.out l.v l.out c.put_action.new.out (omega arith) c.in_ok-v.ensures l.invariant.1 c.in_err-v-2.ensures)

pub loop-i-preserved : goal.loop-i-preserved
loop-i-preserved c =
    let a = c.args in
    let l = c.loop-i in
    (omega arith, concatenated_more [] (action_bytes a.s.now a.acts.now a.names.now a.b) c.in_ok-v.v c.put.new.out l.i l.v l.out c.in_ok-v-2.v c.put_action.new.out l.invariant.1 c.in_ok-v-2.ensures)

pub shape_of-out : goal.shape_of-out
shape_of-out c = c.loop-i.invariant.1.same ∙ c.put.auto.out

pub returns : goal.returns
unfolding counted_bytes
returns c =
    let a = c.args in
    let l = c.loop-i in
    counted_put (action_bytes a.s.now a.acts.now a.names.now a.b) a.n c.low.result l.i a.w a.out.now c.in_ok-v.v c.put.new.out l.v l.out c.low.ensures (omega arith) c.in_ok-v.ensures l.invariant.1
