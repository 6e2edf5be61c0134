-- The question put to the same frames in bytes; to none where no 64 frames are lent.
use native.Mathlib.Omega.{arith}
use mathlib.Core.Path.{ap, ◌∙◌}
use mathlib.Core.List.{List}
use Prim.Native.Nat.{ℕ}
use Rattle.pcrl.specs.Result.{Result}
use Rattle.pcrl.specs.Stack as pcrl
use Rattle.pcrl.specs.Ask.{Answer}
use Rattle.pcrl.specs.Answers.{Reply, asked}
use Rattle.asking.specs.Encoding.{answer_after}
use Rattle.wizbratel.proofs.Replying.{asked_unread, replied_back, answer_same}
use Rattle.wizbratel.proofs.ask_stack.Goals as goal

pub returns : goal.returns
returns c = λ xs e kept.
    let a = c.args in
    let X : List pcrl.Frame → Reply Answer = (λ (fs : List pcrl.Frame). asked a.file.now fs a.depth a.k) in
    let u = asked_unread a.file.now a.depth a.k in
    let ys = c.from_bytes-left.result.frames in (
      replied_back X a.depth u xs ys a.s.frames a.count c.to_bytes.new.bytes c.ask-told.new.frames e kept (omega arith) (omega (arith, c.to_bytes.auto.bytes)) c.to_bytes.ensures
          c.ask-told.auto.frames c.from_bytes-left.ensures _ _ c.ask-told.ensures.0,
      c.ask-told.ensures.1 ∙ ap (λ (x : Result Answer). answer_after x a.out.now) (answer_same X a.depth u xs ys a.s.frames a.count c.to_bytes.new.bytes c.ask-told.new.frames e kept (omega arith) (omega (arith, c.to_bytes.auto.bytes)) c.to_bytes.ensures),
    )
