-- Refused by 12 to 14, by 15, or answered one by one.
use native.Mathlib.Omega.{arith}
use mathlib.Core.Path.{◌≡◌, ap}
use Prim.Native.Nat.{ℕ, ◌-◌}
use lib.ListN.{take, length-take}
use Rattle.std.proofs.lemmas.Result.{err_from_is_err_and}
use Rattle.pcrl.specs.Limits.{frame_width}
use Rattle.stacks.specs.Lent.{frames_in}
use Rattle.stepping.specs.Promises.{put_questions}
use Rattle.stepping.proofs.Loading.{load_refused, load_count}
use Rattle.stepping.proofs.Readiness.{ready, not_ready, ready_count}
use Rattle.stepping.proofs.Lending.{front_fits, front_right, all_done}
use Rattle.stepping.proofs.Answering.{read_no_table, list_refused}
use Rattle.stepping.proofs.ask_all_in.Goals as goal

pub returns-in_err-f : goal.returns-in_err-f
returns-in_err-f c =
    let a = c.args in
    let fs = frames_in frame_width a.frames.now in
    let p = err_from_is_err_and c.from_residual.result c.from_residual.ensures.1 in
    rw (p.1, p.2) (list_refused a.file.now fs a.depth _ (read_no_table a.file.now fs a.depth _ (load_refused _ c.load.new.stream _ c.in_err-f.ensures)) (put_questions a.ks.now a.out.now) a.out.now)

pub slice_bounds-right_frames-end : goal.slice_bounds-right_frames-end
slice_bounds-right_frames-end c = load_count _ c.load.new.stream _ c.in_ok-f.ensures

pub returns-then-not-right_frames : goal.returns-then-not-right_frames
returns-then-not-right_frames c =
    let a = c.args in
    list_refused a.file.now (frames_in frame_width a.frames.now) a.depth 15
    (not_ready a.file.now c.load.new.stream a.frames.now a.depth c.in_ok-f.f c.in_ok-f.ensures c.right_frames.result c.right_frames.ensures c.if-not-right_frames.true)
    (put_questions a.ks.now a.out.now) a.out.now

pub slice_bounds-ask_each-end : goal.slice_bounds-ask_each-end
slice_bounds-ask_each-end c = load_count _ c.load.new.stream _ c.in_ok-f.ensures

pub slice_bounds-ask_each-end-2 : goal.slice_bounds-ask_each-end-2
slice_bounds-ask_each-end-2 c =
    let a = c.args in
    let y = ready a.file.now c.load.new.stream a.frames.now a.depth c.in_ok-f.f c.in_ok-f.ensures c.right_frames.result c.right_frames.ensures c.if-not-right_frames.false in
    omega (arith, (ready_count a.file.now a.frames.now a.depth _ _ y).0)

pub ask_each-last-requires : goal.ask_each-last-requires
ask_each-last-requires c =
    let a = c.args in
    let y = ready a.file.now c.load.new.stream a.frames.now a.depth c.in_ok-f.f c.in_ok-f.ensures c.right_frames.result c.right_frames.ensures c.if-not-right_frames.false in
    let f = front_fits a.file.now a.frames.now a.depth _ _ y in
    (rw (length-take (c.in_ok-f.f.count - 0) c.load.new.stream) (omega (arith, c.load.auto.stream, c.requires.1)), (f.0, (f.1, rw (length-take (c.min-count.result - 0) a.ks.now) (omega (arith, c.min-count.ensures)))))

pub returns : goal.returns
returns c =
    let a = c.args in
    let y = ready a.file.now c.load.new.stream a.frames.now a.depth c.in_ok-f.f c.in_ok-f.ensures c.right_frames.result c.right_frames.ensures c.if-not-right_frames.false in
    let n : c.min-count.result - 0 ≡ c.min-count.result = omega arith in
    let e = c.ask_each-last in
    all_done a.file.now a.frames.now a.depth _ _ y e.new.frames e.auto.frames a.ks.now a.out.now e.new.out (take (c.min-count.result - 0) a.ks.now) c.min-count.result e.result c.min-count.ensures
    (ap (λ (m : ℕ). take m a.ks.now) n) (e.ensures y.table y.right_table y.indexed (front_right a.file.now a.frames.now a.depth _ _ y))
