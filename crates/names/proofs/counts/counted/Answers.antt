-- The counts, then the sizes, then the parameters.
use native.Mathlib.Omega.{arith}
use mathlib.Core.Path.{◌≡◌, ap}
use mathlib.Core.Logic.{inl, inr}
use Prim.Native.Nat.{ℕ, ◌-◌}
use lib.ListN.{take}
use Rattle.laws.specs.Says.{said_yes, said_no}
use Rattle.names.proofs.Rooms.{rooms}
use Rattle.names.proofs.Counted.{too_many, sizes_wrong, counted_says}
use Rattle.names.proofs.counts.counted.Goals as goal

pub returns-then-n-gt-MAX_SORT_LINES : goal.returns-then-n-gt-MAX_SORT_LINES
returns-then-n-gt-MAX_SORT_LINES c = λ s R st. too_many s c.args.cells.now c.args.lines R st (inl c.if-n-gt-MAX_SORT_LINES.true)

pub returns-then-lines-gt-MAX_FUNCTIONS : goal.returns-then-lines-gt-MAX_FUNCTIONS
returns-then-lines-gt-MAX_FUNCTIONS c = λ s R st. too_many s c.args.cells.now c.args.lines R st (inr (inl c.if-lines-gt-MAX_FUNCTIONS.true))

pub returns-then-lines-gt-MAX_ACTIONS : goal.returns-then-lines-gt-MAX_ACTIONS
returns-then-lines-gt-MAX_ACTIONS c = λ s R st. too_many s c.args.cells.now c.args.lines R st (inr (inr (inl c.if-lines-gt-MAX_ACTIONS.true)))

pub returns-then-m-gt-MAX_PROCESSES : goal.returns-then-m-gt-MAX_PROCESSES
returns-then-m-gt-MAX_PROCESSES c = λ s R st. too_many s c.args.cells.now c.args.lines R st (inr (inr (inr c.if-m-gt-MAX_PROCESSES.true)))

pub slice_bounds-sizes_right-end : goal.slice_bounds-sizes_right-end
slice_bounds-sizes_right-end c = omega (arith, (rooms c.args.lines _ c.well_formed.1.0).sorts)

pub returns-then-not-sizes_right : goal.returns-then-not-sizes_right
returns-then-not-sizes_right c = λ s R st.
    let z : c.args.lines.sort_count - 0 ≡ c.args.lines.sort_count = omega arith in
    sizes_wrong s c.args.cells.now c.args.lines (rooms c.args.lines _ c.well_formed.1.0) R st _ c.if-n-gt-MAX_SORT_LINES.false (ap (λ (n : ℕ). take n c.args.lines.sorts) z) (said_no c.sizes_right.result c.sizes_right.ensures c.if-not-sizes_right.true)

pub slice_bounds-params_few-end : goal.slice_bounds-params_few-end
slice_bounds-params_few-end c = omega (arith, (rooms c.args.lines _ c.well_formed.1.0).procs)

pub returns : goal.returns
returns c = λ s R st.
    let z : c.args.lines.sort_count - 0 ≡ c.args.lines.sort_count = omega arith in
    let y : c.args.lines.proc_count - 0 ≡ c.args.lines.proc_count = omega arith in
    counted_says s c.args.cells.now c.args.lines (rooms c.args.lines _ c.well_formed.1.0) R st _ c.if-n-gt-MAX_SORT_LINES.false (ap (λ (n : ℕ). take n c.args.lines.sorts) z) _ c.if-m-gt-MAX_PROCESSES.false (ap (λ (n : ℕ). take n c.args.lines.procs) y) c.params_few.result
    c.if-lines-gt-MAX_FUNCTIONS.false c.if-lines-gt-MAX_ACTIONS.false (said_yes c.sizes_right.result c.sizes_right.ensures c.if-not-sizes_right.false) c.params_few.ensures
