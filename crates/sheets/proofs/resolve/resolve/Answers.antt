-- The lines of each kind are the front of the array in which the parser recorded them.
use native.Mathlib.Omega.{arith}
use Rattle.names.proofs.Rooms.{rooms}
use Rattle.sheets.proofs.FoundLaws.{found_resolve}
use Rattle.sheets.proofs.resolve.resolve.Goals as goal

pub slice_bounds-resolve_lines-end : goal.slice_bounds-resolve_lines-end
slice_bounds-resolve_lines-end c =
    omega (arith, (rooms c.args.lines _ c.well_formed.1.1.0).sorts, c.requires.0.sorts_few)

pub slice_bounds-resolve_lines-end-2 : goal.slice_bounds-resolve_lines-end-2
slice_bounds-resolve_lines-end-2 c =
    omega (arith, (rooms c.args.lines _ c.well_formed.1.1.0).funcs, c.requires.0.funcs_few)

pub slice_bounds-resolve_lines-end-3 : goal.slice_bounds-resolve_lines-end-3
slice_bounds-resolve_lines-end-3 c =
    omega (arith, (rooms c.args.lines _ c.well_formed.1.1.0).acts, c.requires.0.acts_few)

pub slice_bounds-resolve_lines-end-4 : goal.slice_bounds-resolve_lines-end-4
slice_bounds-resolve_lines-end-4 c =
    omega (arith, (rooms c.args.lines _ c.well_formed.1.1.0).procs, c.requires.0.procs_few)

pub returns : goal.returns
returns c =
    found_resolve c.args.s.now c.args.raw.now c.args.lines c.resolve_lines.new.values c.resolve_lines.new.out
    c.resolve_lines.result c.wide.result (rooms c.args.lines _ c.well_formed.1.1.0) c.requires.0 c.wide.ensures.0 c.resolve_lines.ensures
