-- The questions put to the same frames in bytes; to none where no 64 frames are lent.
use native.Mathlib.Omega.{arith}
use mathlib.Core.Path.{ap, ◌∙◌}
use mathlib.Core.List.{List}
use Prim.Native.Nat.{ℕ}
use Rattle.pcrl.specs.Result.{Result}
use Rattle.pcrl.specs.Stack as pcrl
use Rattle.pcrl.specs.Ask.{Answer}
use Rattle.pcrl.specs.Answers.{Reply, asked_all}
use Rattle.asking.specs.Encoding.{answers_after}
use Rattle.stepping.specs.Promises.{put_questions}
use Rattle.wizbratel.proofs.Replying.{all_unread, replied_back, answer_same}
use Rattle.wizbratel.proofs.ask_all_stack.Goals as goal

pub returns : goal.returns
returns c = λ xs e kept.
    let a = c.args in
    let X : List pcrl.Frame → Reply (List Answer) = (λ (fs : List pcrl.Frame). asked_all a.file.now fs a.depth (put_questions a.ks.now a.out.now)) in
    let u = all_unread a.file.now a.depth (put_questions a.ks.now a.out.now) in
    let ys = c.from_bytes-last.result.frames in (
      replied_back X a.depth u xs ys a.s.frames a.count c.to_bytes.new.bytes c.ask_all-all.new.frames e kept (omega arith) (omega (arith, c.to_bytes.auto.bytes)) c.to_bytes.ensures
          c.ask_all-all.auto.frames c.from_bytes-last.ensures _ _ c.ask_all-all.ensures.0,
      c.ask_all-all.ensures.1 ∙ ap (λ (x : Result (List Answer)). answers_after x a.out.now) (answer_same X a.depth u xs ys a.s.frames a.count c.to_bytes.new.bytes c.ask_all-all.new.frames e kept (omega arith) (omega (arith, c.to_bytes.auto.bytes)) c.to_bytes.ensures),
    )
