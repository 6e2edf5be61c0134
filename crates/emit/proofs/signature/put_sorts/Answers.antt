-- Hex F2, the count, and behind them the first d of the sorts.
use Rattle.std.specs.Prelude.{Some, None}
use mathlib.Core.Path.{◌∙◌}
use mathlib.Core.List.{[]}
use native.Mathlib.Omega.{arith}
use Rattle.emit.specs.Bytes.{sort_bytes, counted_bytes}
use Rattle.emit.proofs.Putting.{puts_none, concatenated_none, concatenated_more, counted_put, counted_no_room}
use Rattle.emit.proofs.SignatureLaws.{sorts_none, counted_none, sorts_behind}
use Rattle.emit.proofs.signature.put_sorts.Goals as goal

pub returns-in_err-a : goal.returns-in_err-a
returns-in_err-a c = let a = c.args in rw c.from_residual.ensures (sorts_none c.in_err-a.ensures a.s.now a.sizes.now a.names.now a.n)

pub returns-in_err-v : goal.returns-in_err-v
returns-in_err-v c =
    let a = c.args in
    rw c.from_residual-in_err-v.ensures (sorts_behind a.s.now a.sizes.now a.names.now a.n a.w a.out.now c.in_ok-a.a c.put.new.out None c.put-2.new.out c.in_ok-a.ensures (counted_none c.in_err-v.ensures (sort_bytes a.s.now a.sizes.now a.names.now) a.n))

pub loop-d-init : goal.loop-d-init
loop-d-init c =
    let a = c.args in
    let o = c.put-2.new.out in
    let v = c.in_ok-v.v in
    (omega arith, concatenated_none [] (sort_bytes a.s.now a.sizes.now a.names.now) v o v o (puts_none v o))

pub returns-in_err-v-2 : goal.returns-in_err-v-2
unfolding counted_bytes
returns-in_err-v-2 c =
    let a = c.args in
    let l = c.loop-d in
    rw c.from_residual-in_err-v-2.ensures
    (sorts_behind a.s.now a.sizes.now a.names.now a.n a.w a.out.now c.in_ok-a.a c.put.new.out None c.put_sort.new.out c.in_ok-a.ensures
    (counted_no_room (sort_bytes a.s.now a.sizes.now a.names.now) a.n c.low.result l.d c.in_ok-a.a c.put.new.out c.in_ok-v.v c.put-2.new.out l.v l.out c.put_sort.new.out (omega arith) c.in_ok-v.ensures l.invariant.1 c.in_err-v-2.ensures))

pub loop-d-preserved : goal.loop-d-preserved
loop-d-preserved c =
    let a = c.args in
    let l = c.loop-d in
    (omega arith, concatenated_more [] (sort_bytes a.s.now a.sizes.now a.names.now) c.in_ok-v.v c.put-2.new.out l.d l.v l.out c.in_ok-v-2.v c.put_sort.new.out l.invariant.1 c.in_ok-v-2.ensures)

pub shape_of-out : goal.shape_of-out
shape_of-out c = c.loop-d.invariant.1.same ∙ c.put-2.auto.out ∙ c.put.auto.out

pub returns : goal.returns
unfolding counted_bytes
returns c =
    let a = c.args in
    let l = c.loop-d in
    sorts_behind a.s.now a.sizes.now a.names.now a.n a.w a.out.now c.in_ok-a.a c.put.new.out (Some l.v) l.out c.in_ok-a.ensures
    (counted_put (sort_bytes a.s.now a.sizes.now a.names.now) a.n c.low.result l.d c.in_ok-a.a c.put.new.out c.in_ok-v.v c.put-2.new.out l.v l.out c.low.ensures (omega arith) c.in_ok-v.ensures l.invariant.1)
