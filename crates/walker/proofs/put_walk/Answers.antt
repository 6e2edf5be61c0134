-- The loop's invariant: the lines written, and the frames and depth from which the walk goes on.
use native.Mathlib.Omega.{arith}
use mathlib.Core.Path.{◌≡◌, refl, sym, ap, ap₂, ◌∙◌, subst}
use Prim.Native.Nat.{ℕ, ◌+◌, ◌%◌}
use Rattle.pcrl.specs.Limits.{frame_width}
use Rattle.pcrl.specs.Walk.{step_line, text_line}
use Rattle.stacks.specs.Lent.{frames_in}
use Rattle.asking.specs.Replies.{label_told}
use Rattle.texts.proofs.Writing.{wrote_as}
use Rattle.walker.specs.declared.Walk.{Walk}
use Rattle.walker.specs.Moves.{stepped_by}
use Rattle.walker.proofs.Moving.{step_moves}
use Rattle.walker.proofs.Walking.{Walking, walking_start, walking_on, ends_refused, ends_ended, ends_stuck, closes_ended, closes_more}
use Rattle.walker.proofs.put_walk.Goals as goal

pub loop-i-init : goal.loop-i-init
loop-i-init c = ((refl, (refl, (omega arith, (omega arith, refl)))), λ T right x e. walking_start T right _ _ e)

pub ask_first-r-requires : goal.ask_first-r-requires
ask_first-r-requires c = omega (arith, c.loop-i.invariant.0, c.requires)

pub returns-in-Ended : goal.returns-in-Ended
unfolding text_line
returns-in-Ended c = λ T right x e.
    let here = c.loop-i in
    let ask = c.ask_first-r in
    let g = here.invariant.1 T right x e in
    ends_ended T right c.args.out.now _ here.w.depth here.i here.out here.at g (omega (arith, c.loop-i-test)) _ (rw c.in-Ended.is at (ask.ensures.1 T right x g.right)) _ _ c.put_bytes.ensures

pub returns-in-Nothing : goal.returns-in-Nothing
unfolding text_line
returns-in-Nothing c = λ T right x e.
    let here = c.loop-i in
    let ask = c.ask_first-r in
    let g = here.invariant.1 T right x e in
    ends_stuck T right c.args.out.now _ here.w.depth here.i here.out here.at g (omega (arith, c.loop-i-test)) _ (rw c.in-Nothing.is at (ask.ensures.1 T right x g.right)) _ _ c.put_bytes-in-Nothing.ensures

pub returns-in-TooDeep : goal.returns-in-TooDeep
unfolding text_line
returns-in-TooDeep c = λ T right x e.
    let here = c.loop-i in
    let ask = c.ask_first-r in
    let g = here.invariant.1 T right x e in
    ends_refused T right c.args.out.now _ here.w.depth here.i here.out here.at g (omega (arith, c.loop-i-test)) _ (rw c.in-TooDeep.is at (ask.ensures.1 T right x g.right)) _ _ c.put_bytes-in-TooDeep.ensures

pub loop-i-preserved : goal.loop-i-preserved
loop-i-preserved c =
    let here = c.loop-i in
    let w = here.w in
    let ask = c.ask_first-r in
    let r = c.in-Stepped.step in
    let is = c.in-Stepped.is in
    let taken : w.taken ≡ here.i = here.invariant.0.1.1.1.1 in
    let now : c.stepped-w.result ≡ stepped_by w r = c.stepped-w.ensures ∙ sym (step_moves w r (omega (arith, c.loop-i-test))) in
    let depth : c.stepped-w.result.depth ≡ r.depth = ap (λ (y : Walk). y.depth) now in
    let more : c.stepped-w.result.taken ≡ w.taken + 1 = ap (λ (y : Walk). y.taken) now in
    let limit = rw is at ask.ensures.0 in (
      (ask.auto.frames ∙ here.invariant.0.0, (c.put_step-at.auto.out ∙ here.invariant.0.1.0, (omega arith, (omega (arith, c.put_step-at.ensures.0, c.put_step-at.auto.out), omega arith)))),
      λ T right x e.
          let g = here.invariant.1 T right x e in
          let i : (here.i + 1) % 256 ≡ here.i + 1 = omega (arith, c.loop-i-test) in
          let d : r.depth % 256 ≡ r.depth = omega arith in
          subst (λ (n : ℕ). Walking T c.args.out.now (frames_in frame_width ask.new.frames) n (here.i + 1) c.put_step-at.new.out c.put_step-at.result) (sym depth)
          (walking_on T right c.args.out.now _ w.depth here.i here.out here.at g (omega (arith, c.loop-i-test)) (frames_in frame_width ask.new.frames) r (rw is at (ask.ensures.1 T right x g.right)) _ _
          (wrote_as _ _ _ _ _ _ (ap₂ (λ (y z : ℕ). step_line y (label_told T.sig r) z) i d) (c.put_step-at.ensures.1 T x))),
    )

pub returns-then-w-eq0 : goal.returns-then-w-eq0
unfolding text_line
returns-then-w-eq0 c = λ T right x e.
    let here = c.loop-i in
    closes_ended T right c.args.out.now _ here.w.depth here.i here.out here.at (here.invariant.1 T right x e) (omega (arith, c.loop-i-test)) (omega (arith, c.if-w-eq0)) _ _ c.put_bytes-then-w-eq0.ensures

pub returns : goal.returns
unfolding text_line
returns c = λ T right x e.
    let here = c.loop-i in
    closes_more T right c.args.out.now _ here.w.depth here.i here.out here.at (here.invariant.1 T right x e) (omega (arith, c.loop-i-test)) (omega (arith, c.if-w-eq0)) _ _ c.put_bytes-2.ensures
