-- Refused by 12 to 14, by 15, or started.
use native.Mathlib.Omega.{arith}
use mathlib.Core.Path.{◌≡◌, subst}
use Prim.Native.Nat.{ℕ, ◌-◌}
use lib.ListN.{take}
use Rattle.std.proofs.lemmas.Result.{err_from_is_err_and}
use Rattle.tables.specs.Indexed.{Indexed}
use Rattle.stepping.proofs.Loading.{load_refused, load_accepted, load_count}
use Rattle.stepping.proofs.Lending.{started_done}
use Rattle.stepping.proofs.Answering.{start_no_table, start_no_stack}
use Rattle.stepping.proofs.start_in.Goals as goal

pub returns-in_err-f : goal.returns-in_err-f
returns-in_err-f c =
    let p = err_from_is_err_and c.from_residual.result c.from_residual.ensures.1 in
    rw (p.1, p.2) (λ d. start_no_table c.args.file.now c.args.frames.now d _ (load_refused _ c.load.new.stream _ c.in_err-f.ensures))

pub returns-then-frames-ne-LIMIT : goal.returns-then-frames-ne-LIMIT
returns-then-frames-ne-LIMIT c = λ d.
    let (T, checked, (right, x)) = load_accepted _ c.load.new.stream _ c.in_ok-f.ensures in
    start_no_stack c.args.file.now c.args.frames.now d T checked (λ e. omega (arith, c.if-frames-ne-LIMIT))

pub slice_bounds-start-end : goal.slice_bounds-start-end
slice_bounds-start-end c = load_count _ c.load.new.stream _ c.in_ok-f.ensures

pub returns : goal.returns
returns c = λ d.
    let l = c.in_ok-f.f in
    let n : l.count ≡ l.count - 0 = omega arith in
    let (T, checked, (right, x)) = load_accepted _ c.load.new.stream l c.in_ok-f.ensures in
    started_done c.args.file.now c.args.frames.now d T checked (omega (arith, c.if-frames-ne-LIMIT)) c.start.new.frames c.start.auto.frames
    (c.start.ensures T right (subst (λ (m : ℕ). Indexed T (take m c.load.new.stream) l.index) n x))
