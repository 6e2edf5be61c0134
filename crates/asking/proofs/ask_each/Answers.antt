-- The loop's invariant: what was answered and stands in the bytes, and what is still to be asked of the frames and depth left.
use native.Mathlib.Omega.{arith}
use mathlib.Core.Path.{◌≡◌, refl, ◌∙◌}
use Prim.Native.Nat.{◌+◌, ◌-◌, ◌*◌, ◌≤◌}
use lib.ListN.{length, get_or}
use Rattle.pcrl.specs.Limits.{frame_width, stack_limit}
use Rattle.stacks.specs.Lent.{frames_in}
use Rattle.firing.proofs.Indexing.{known_table, acts_at}
use borrow.Rule.Slice.PartMut.{same_len_mid}
use Rattle.blocks.proofs.Fronts.{length_cut}
use Rattle.asking.specs.Encoding.{answer_bytes, encode_answer}
use Rattle.asking.specs.Replies.{answer_told, depth_after}
use Rattle.asking.proofs.Stepping.{first_depth}
use Rattle.asking.proofs.InTurn.{going_start, going_on, going_end}
use Rattle.asking.proofs.ask_each.Goals as goal

pub names_of-names-requires : goal.names_of-names-requires
names_of-names-requires c = c.requires.0

pub loop-i-init : goal.loop-i-init
loop-i-init c = ((refl, (refl, (omega (arith, c.requires), omega arith))), λ T x y n p. going_start T _ _ _ _ p)

pub ask-told-requires : goal.ask-told-requires
ask-told-requires c = omega (arith, c.loop-i.invariant.0, c.requires)

pub loop-i-preserved : goal.loop-i-preserved
loop-i-preserved c = let a = c.args in
    let l = c.loop-i in
    let i = l.i in
    let out = l.out in
    let inv = l.invariant in
    let ask = c.ask-told in
    let wide : i * 72 + 72 - i * 72 ≡ answer_bytes = omega arith in
    let room : i * 72 + 72 ≤ length out = omega (arith, c.loop-i-test, inv.0, c.requires) in
    let cut = length_cut 72 i out room in (
      (ask.auto.frames ∙ inv.0.0, (same_len_mid (i * 72) (i * 72 + 72 - i * 72) out c.copy_from_slice.new.self c.copy_from_slice.ensures.len ∙ inv.0.1.0, (omega (arith, ask.ensures.0, c.depth_after-d.ensures), omega (arith, c.loop-i-test)))),
      λ T x y n p.
          let g = inv.1 T x y n p in
          let told = ask.result in
          let fits : depth_after 0 told ≤ stack_limit = first_depth l.d told ask.ensures.0 in
          let coded : c.encode-bytes.result ≡ encode_answer (answer_told T.sig told) = c.encode-bytes.ensures T x.right y n fits in
          going_on T a.ks.now (frames_in frame_width a.frames.now) a.depth a.out.now x.right i (frames_in frame_width l.frames) l.d out g (omega (arith, c.loop-i-test))
          (get_or a.ks.now i 0) told (frames_in frame_width ask.new.frames) c.copy_from_slice.new.self refl (ask.ensures.1 T x g.right) (c.copy_from_slice.ensures.after ∙ coded) c.depth_after-d.result c.depth_after-d.ensures (i * 72) (i * 72 + 72 - i * 72) refl wide,
    )

pub shape_of-frames : goal.shape_of-frames
shape_of-frames c = c.loop-i.invariant.0.0

pub shape_of-out : goal.shape_of-out
shape_of-out c = c.loop-i.invariant.0.1.0

pub returns : goal.returns
returns c = λ T r x p. let a = c.args in going_end T a.ks.now (frames_in frame_width a.frames.now) a.depth a.out.now c.loop-i.i (frames_in frame_width c.loop-i.frames) c.loop-i.d c.loop-i.out (c.loop-i.invariant.1 T (known_table T a.s.now a.index x r) (acts_at T a.s.now a.index x) (c.names_of-names.ensures T r x) p) (omega arith)
