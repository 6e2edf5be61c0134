-- The first k rows are put.
use mathlib.Core.Path.{◌≡◌, subst}
use Prim.Native.Nat.{ℕ, ◌*◌}
use native.Mathlib.Omega.{arith}
use mathlib.Core.List.{[]}
use Rattle.pcrl.specs.Blocks.{concatenated}
use Rattle.nodes.specs.Held.{proc_width}
use Rattle.emit.specs.Putting.{PutsTo}
use Rattle.emit.specs.Bytes.{row_bytes}
use Rattle.emit.proofs.Putting.{puts_none, concatenated_none, concatenated_more, concatenated_no_room}
use Rattle.parts.proofs.sheet_parts.put_written.Goals as goal

pub loop-k-init : goal.loop-k-init
loop-k-init c = let a = c.args in (omega arith, concatenated_none [] (λ j. row_bytes a.procs.now (proc_width * j)) a.w a.out.now a.w a.out.now (puts_none a.w a.out.now))

pub overflow_mul-k : goal.overflow_mul-k
overflow_mul-k c = omega (arith, c.requires)

pub returns-in_err-v : goal.returns-in_err-v
returns-in_err-v c =
    let a = c.args in let l = c.loop-k in
    rw c.from_residual.ensures (concatenated_no_room (λ j. row_bytes a.procs.now (proc_width * j)) a.n l.k a.w a.out.now l.v l.out c.put_row.new.out (omega arith) l.invariant.1 c.in_err-v.ensures)

pub loop-k-preserved : goal.loop-k-preserved
loop-k-preserved c =
    let a = c.args in let l = c.loop-k in
    (omega arith, concatenated_more [] (λ j. row_bytes a.procs.now (proc_width * j)) a.w a.out.now l.k l.v l.out c.in_ok-v.v c.put_row.new.out l.invariant.1 c.in_ok-v.ensures)

pub shape_of-out : goal.shape_of-out
shape_of-out c = c.loop-k.invariant.1.same

pub returns : goal.returns
returns c =
    let a = c.args in let l = c.loop-k in let e : l.k ≡ a.n = omega arith in
    subst (λ (i : ℕ). PutsTo (concatenated i (λ j. row_bytes a.procs.now (proc_width * j))) a.w a.out.now l.v l.out) e l.invariant.1
