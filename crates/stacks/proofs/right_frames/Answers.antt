-- The unused bytes are zero, and the used frames passed so far are right.
use native.Mathlib.Omega.{arith}
use mathlib.Core.Path.{◌≡◌, sym, ap, subst, ◌∙◌}
use Prim.Native.Nat.{ℕ, ◌+◌, ◌-◌, ◌*◌, ◌/◌, ◌<◌, ◌≤◌}
use native.Mathlib.Decide.{ℕ_discrete}
use lib.ListN.{take, drop, get_or, length-take, length-drop}
use Rattle.pcrl.specs.Limits.{frame_width, stack_limit}
use Rattle.pcrl.specs.Stack.{Frame, RightFrame}
use Rattle.laws.specs.Says.{Says, said_yes, said_no}
use Rattle.stacks.specs.Lent.{frame_bytes, frame_at}
use Rattle.stacks.proofs.RightFrameLaws.{byte_in, known, frame_cut, zero_frame_at, zero_bytes_at, all_right, used_right, unused_zero, wrong_count, too_deep}
use Rattle.stacks.proofs.right_frames.Goals as goal

pub returns-then-frames-ne-STACK_LIMIT : goal.returns-then-frames-ne-STACK_LIMIT
returns-then-frames-ne-STACK_LIMIT c = λ T x. wrong_count frame_width stack_limit T c.args.frames.now c.args.depth (λ e. omega arith)

pub returns-then-depth-gt-STACK_LIMIT : goal.returns-then-depth-gt-STACK_LIMIT
returns-then-depth-gt-STACK_LIMIT c = λ T x. too_deep frame_width stack_limit T c.args.frames.now c.args.depth (omega arith)

pub returns-then-not-zeros : goal.returns-then-not-zeros
returns-then-not-zeros c = λ T x r.
    let fs = c.args.frames.now in let d = c.args.depth in
    said_no c.zeros.result c.zeros.ensures c.if-not-zeros.true (λ j h.
    let b : j < 320 - d * 5 = omega (arith, length-take (320 - d * 5) (drop (d * 5) fs)) in
    let k = d * 5 + j in
    let i : d ≤ k / 5 = omega arith in
    let e : k - d * 5 ≡ j = omega arith in
    ap (λ (x : ℕ). get_or (take (320 - d * 5) (drop (d * 5) fs)) x 0) (sym e) ∙ byte_in fs (d * 5) (320 - d * 5) k (omega arith) (omega arith)
    ∙ zero_bytes_at frame_width fs (k / 5 * 5) (omega arith) (unused_zero frame_width stack_limit T fs d (omega arith) (omega arith) r (k / 5) i (omega arith)) k (omega arith) (omega arith))

pub loop-i-init : goal.loop-i-init
loop-i-init c = (omega arith, λ T k j w. absurd (omega arith))

pub right_frame-requires : goal.right_frame-requires
right_frame-requires c = simp (length-take, length-drop) (omega arith)

pub returns-then-not-right_frame : goal.returns-then-not-right_frame
returns-then-not-right_frame c = λ T x r.
    let fs = c.args.frames.now in
    let i = c.loop-i.i in
    let k = known T c.args.s.now c.args.index _ _ x c.part-sizes.ensures c.part-params.ensures in
    let five : i * 5 + 5 - i * 5 ≡ 5 = omega arith in
    let cut = frame_cut frame_width fs _ (i * 5) (ap (λ (n : ℕ). take n (drop (i * 5) fs)) five) in
    said_no c.right_frame.result (subst (λ (f : Frame). Says c.right_frame.result (RightFrame frame_width T f)) cut (c.right_frame.ensures T k)) c.if-not-right_frame.true
    (used_right frame_width stack_limit T fs c.args.depth (omega arith) (omega arith) r i (omega arith))

pub loop-i-preserved : goal.loop-i-preserved
loop-i-preserved c = let fs = c.args.frames.now in
    let i = c.loop-i.i in
    let five : i * 5 + 5 - i * 5 ≡ 5 = omega arith in
    let cut = frame_cut frame_width fs _ (i * 5) (ap (λ (n : ℕ). take n (drop (i * 5) fs)) five) in (
      omega arith,
      λ T k j w. elim (ℕ_discrete j i) [
        | yes e ↦ subst (λ (m : ℕ). RightFrame frame_width T (frame_at frame_width fs (m * frame_bytes frame_width))) (sym e)
            (said_yes c.right_frame.result (subst (λ (f : Frame). Says c.right_frame.result (RightFrame frame_width T f)) cut (c.right_frame.ensures T k)) c.if-not-right_frame.false)
        | no n ↦ c.loop-i.invariant.1 T k j (omega arith)
      ],
    )

pub returns : goal.returns
returns c = λ T x.
    let fs = c.args.frames.now in
    let k = known T c.args.s.now c.args.index _ _ x c.part-sizes.ensures c.part-params.ensures in
    let d = c.args.depth in
    let zero = said_yes c.zeros.result c.zeros.ensures c.if-not-zeros.false in
    all_right frame_width stack_limit T fs c.args.depth (omega arith) (omega arith) (λ i w. c.loop-i.invariant.1 T k i (omega arith)) (λ i l h. zero_frame_at frame_width fs (i * 5) (omega arith) (λ m u v.
    sym (byte_in fs (d * 5) (320 - d * 5) m (omega arith) (omega arith)) ∙ zero (m - d * 5) (omega (arith, length-take (320 - d * 5) (drop (d * 5) fs), length-drop (d * 5) fs))))
