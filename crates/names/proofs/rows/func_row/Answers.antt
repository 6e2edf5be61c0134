-- The sorts that it takes, and the sort that it gives behind them.
use mathlib.Core.Path.{◌≡◌, ◌∙◌, ap}
use Prim.Native.Nat.{ℕ, suc, ◌+◌, ◌*◌}
use native.Mathlib.Omega.{arith}
use lib.ListN.{length, length-set}
use Rattle.pcrl.specs.Names.{number_of}
use Rattle.nodes.specs.Held.{SortsAt}
use Rattle.names.specs.NameCells.{name_at}
use Rattle.names.specs.Rows.{sorts_at}
use Rattle.names.proofs.SortRow.{kept_set}
use Rattle.names.proofs.Numbers.{is_found, not_found}
use Rattle.names.proofs.FuncLine.{takes_unknown, gives_unknown, func_known}
use Rattle.names.proofs.rows.func_row.Goals as goal

pub overflow_add-at : goal.overflow_add-at
overflow_add-at c = omega (arith, c.requires)

pub sort_row-requires : goal.sort_row-requires
sort_row-requires c = (omega (arith, c.requires), omega (arith, c.requires), omega (arith, c.requires))

pub shape_of-rows-in_err-q : goal.shape_of-rows-in_err-q
shape_of-rows-in_err-q c = c.sort_row.auto.rows

pub returns-in_err-q : goal.returns-in_err-q
returns-in_err-q c =
    let rows = c.sort_row.new.rows in
    rw c.from_residual.ensures (record {
      kept = c.in_err-q.ensures.kept;
      near = tt;
      row = takes_unknown c.args.s.now c.args.cells.now c.args.sorts.now c.args.at c.args.p (λ Ds q. (q ≡ c.args.at + 2 + 2 * length Ds + 1) × SortsAt Ds rows c.args.p) rows c.in_err-q.ensures.row;
    })

pub shape_of-rows-in_err-d : goal.shape_of-rows-in_err-d
shape_of-rows-in_err-d c = c.sort_row.auto.rows

pub returns-in_err-d : goal.returns-in_err-d
unfolding sorts_at
returns-in_err-d c =
    let a = c.args in
    let rows = c.sort_row.new.rows in
    let number = not_found (number_of (name_at a.s.now c.peek.result) (sorts_at a.s.now a.cells.now a.sorts.now)) c.in_err-d.ensures.number in
    rw c.from_residual-in_err-d.ensures (record {
      kept = c.in_ok-q.ensures.kept;
      near = tt;
      row = gives_unknown a.s.now a.cells.now a.sorts.now a.at a.p rows c.in_ok-q.q c.in_ok-q.ensures.row rows (rw (← c.peek.ensures) number);
    })

pub overflow_cast-rows : goal.overflow_cast-rows
overflow_cast-rows c = omega (arith, c.requires, c.in_ok-d.ensures.most)

pub overflow_add-rows : goal.overflow_add-rows
overflow_add-rows c = omega (arith, c.requires)

pub bounds-rows-p : goal.bounds-rows-p
bounds-rows-p c = omega (arith, c.requires, c.sort_row.auto.rows)

pub overflow_add-result : goal.overflow_add-result
overflow_add-result c = omega (arith, c.requires, c.in_ok-q.ensures.near)

pub shape_of-rows : goal.shape_of-rows
shape_of-rows c = length-set c.sort_row.new.rows (c.args.p + 3) c.in_ok-d.d ∙ c.sort_row.auto.rows

pub returns : goal.returns
unfolding sorts_at
returns c =
    let a = c.args in
    let rows = c.sort_row.new.rows in
    let number = is_found (number_of (name_at a.s.now c.peek.result) (sorts_at a.s.now a.cells.now a.sorts.now)) c.in_ok-d.d c.in_ok-d.ensures.number in
    record {
      kept = kept_set a.p a.rows.now rows (a.p + 3) c.in_ok-d.d c.in_ok-q.ensures.kept (omega arith);
      near = omega (arith, c.requires, c.in_ok-q.ensures.near);
      row = func_known a.s.now a.cells.now a.sorts.now a.at a.p rows c.in_ok-q.q c.in_ok-q.ensures.row c.in_ok-d.d (rw (← c.peek.ensures) number) (omega (arith, c.requires, c.sort_row.auto.rows));
    }
