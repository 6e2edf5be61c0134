-- Each process gets its row, its cells behind those before, and where they begin; a name that is not as it must be ends it.
use mathlib.Core.Path.{◌≡◌, refl, ◌∙◌}
use Prim.Native.Nat.{◌+◌, ◌-◌, ◌*◌, ◌≤◌}
use native.Mathlib.Omega.{arith}
use lib.ListN.{length, drop, set, length-drop}
use lib.Seq.{length-take-le}
use Rattle.nodes.specs.Held.{proc_width}
use Rattle.names.specs.NameList.{names_in, kinds_in}
use Rattle.sheets.proofs.ProcessesLaws.{with_row, row_kept, row_placed, stays_on, procs_start, procs_end, procs_stop, procs_go}
use Rattle.sheets.proofs.processes.processes.Goals as goal

pub loop-k-init : goal.loop-k-init
loop-k-init c = (record { cells_same = refl; rows_many = refl; starts_many = refl }, procs_start c.args.s.now c.args.raw.now c.args.procs.now (names_in c.args.declared.now) (kinds_in c.args.declared.now) c.args.funcs.now _ c.args.out.now _)

pub offset_bounds-starts-k : goal.offset_bounds-starts-k
offset_bounds-starts-k c = omega (arith, c.loop-k-test.true)

pub bounds-starts-k : goal.bounds-starts-k
bounds-starts-k c = omega (arith, c.loop-k-test.true, c.requires)

pub offset_bounds-procs-k : goal.offset_bounds-procs-k
offset_bounds-procs-k c = omega (arith, c.loop-k-test.true)

pub bounds-procs-k : goal.bounds-procs-k
bounds-procs-k c = c.loop-k-test.true

pub overflow_mul-at : goal.overflow_mul-at
overflow_mul-at c = omega (arith, c.loop-k-test.true, c.requires.2, c.loop-k.invariant.0.rows_many)

pub overflow_add-at : goal.overflow_add-at
overflow_add-at c = omega (arith, c.loop-k-test.true, c.requires.2, c.loop-k.invariant.0.rows_many)

pub slice_bounds-process-count : goal.slice_bounds-process-count
slice_bounds-process-count c = omega (arith, c.loop-k-test.true, c.requires.2, c.loop-k.invariant.0.rows_many)

pub slice_bounds-rows-start : goal.slice_bounds-rows-start
slice_bounds-rows-start c = omega (arith, c.loop-k-test.true, c.requires.2, c.loop-k.invariant.0.rows_many)

pub slice_bounds-rows-end : goal.slice_bounds-rows-end
slice_bounds-rows-end c = omega (arith, c.loop-k-test.true, c.requires.2, c.loop-k.invariant.0.rows_many)

pub process-requires : goal.process-requires
process-requires c =
    let loop = c.loop-k in
    let here = c.loop-k-test.true in
    let few = c.requires.2 in
    let at = proc_width * loop.k in
    let row = length-take-le (at + proc_width - at) (drop at loop.rows) (omega (arith, loop.invariant.0.rows_many, length-drop at loop.rows)) in
    (c.requires.0, c.requires.1, c.wide.ensures.1, omega (arith, row))

pub loop-k-preserved : goal.loop-k-preserved
loop-k-preserved c =
    let process = c.process in
    let held = c.loop-k.invariant.0 in
    let row = process.new.row in
    let loop = c.loop-k in
    let at = proc_width * loop.k in
    let room : at + (at + proc_width - at) ≤ length loop.rows = omega (arith, c.loop-k-test.true, c.requires.2, loop.invariant.0.rows_many) in
    let many : length row ≡ at + proc_width - at = process.auto.row ∙ length-take-le (at + proc_width - at) (drop at loop.rows) (omega (arith, room, length-drop at loop.rows)) in
    let rows = with_row loop.rows row at (at + proc_width - at) room many in
    let out = process.new.out in
    let few = c.requires.2 in
    let taken = c.loop-k-test.true in
    let cells = process.auto.out in (
      stays_on c.args.out.now c.loop-k.rows rows c.loop-k.out out c.loop-k.starts c.loop-k.k c.short.result held (row_kept loop.rows row at (at + proc_width - at) room many).same cells,
      procs_go c.args.s.now c.args.raw.now c.args.procs.now (names_in c.args.declared.now) (kinds_in c.args.declared.now) c.args.funcs.now c.loop-k.rows rows row c.loop-k.out out c.loop-k.starts c.loop-k.w c.loop-k.k c.wide.result c.in_ok-r.r taken cells c.wide.ensures.0 c.loop-k.invariant.1 c.in_ok-r.ensures
          c.short.result (omega (arith, held.starts_many)) (omega (arith, c.requires.3, held.cells_same)) c.short.ensures (row_kept loop.rows row at (at + proc_width - at) room many) (λ Ds h. row_placed loop.rows row at (at + proc_width - at) room many Ds (omega arith)),
    )

pub shape_of-out-in_err-r : goal.shape_of-out-in_err-r
shape_of-out-in_err-r c = c.process.auto.out ∙ c.loop-k.invariant.0.cells_same

pub returns-in_err-r : goal.returns-in_err-r
returns-in_err-r c =
    let process = c.process in
    rw c.from_residual.ensures (procs_stop c.args.s.now c.args.raw.now c.args.procs.now (names_in c.args.declared.now) (kinds_in c.args.declared.now) c.args.funcs.now c.loop-k.rows process.new.row c.loop-k.out process.new.out c.loop-k.starts c.loop-k.w c.loop-k.k c.wide.result
    c.loop-k-test.true process.auto.out c.wide.ensures.0 c.loop-k.invariant.1 c.in_err-r.ensures)

pub shape_of-out : goal.shape_of-out
shape_of-out c = c.loop-k.invariant.0.cells_same

pub returns : goal.returns
returns c =
    procs_end c.args.s.now c.args.raw.now c.args.procs.now (names_in c.args.declared.now) (kinds_in c.args.declared.now) c.args.funcs.now c.loop-k.rows c.loop-k.out c.loop-k.starts c.loop-k.w c.loop-k.k c.loop-k-test.false c.loop-k.invariant.1
