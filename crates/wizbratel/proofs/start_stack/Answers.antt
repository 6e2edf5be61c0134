-- A start on the same frames in bytes; on none where no 64 frames are lent.
use native.Mathlib.Omega.{arith}
use mathlib.Core.List.{List}
use Prim.Native.Nat.{ℕ}
use Rattle.pcrl.specs.Stack as pcrl
use Rattle.pcrl.specs.Answers.{Reply, started}
use Rattle.wizbratel.proofs.Replying.{started_unread, replied_back}
use Rattle.wizbratel.proofs.start_stack.Goals as goal

pub returns : goal.returns
returns c = λ xs d e kept.
    let a = c.args in
    replied_back (λ (fs : List pcrl.Frame). started a.file.now fs d) d (started_unread a.file.now d) xs c.from_bytes-begun.result.frames a.s.frames a.count c.to_bytes.new.bytes c.start-depth.new.frames e kept (omega arith) (omega (arith, c.to_bytes.auto.bytes)) c.to_bytes.ensures
    c.start-depth.auto.frames c.from_bytes-begun.ensures _ _ (c.start-depth.ensures d)
