-- The bytes of one frame over those of another.
use native.Mathlib.Omega.{arith}
use mathlib.Core.Path.{ap, ◌∙◌}
use Prim.Native.Nat.{◌+◌, ◌-◌, ◌*◌}
use Rattle.pcrl.specs.Limits.{frame_width}
use Rattle.stacks.specs.Lent.{frames_in}
use Rattle.stacks.proofs.Views.{frames_put, pasted}
use Rattle.stacks.proofs.put.Goals as goal

pub returns : goal.returns
returns c =
    let a = c.args in
    let i = a.i * 5 in
    let j = a.j * 5 in
    ap (frames_in frame_width) (pasted a.frames.now a.others.now _ i j (i + 5 - i) (j + 5 - j) 5 (omega arith) (omega arith) (omega arith) c.copy_from_slice.ensures.after)
    ∙ frames_put frame_width a.frames.now a.others.now a.i j (omega arith) (omega arith) (omega arith)
