-- `counting::known` meets its contract.
use native.Mathlib.Omega.{arith}
use mathlib.Core.Path.{sym, ◌∙◌}
use Rattle.counting.proofs.Rows.{row_at, row_end}
use Rattle.counting.proofs.known.Goals as goal

pub returns-then-k-lt-ROW : goal.returns-then-k-lt-ROW
returns-then-k-lt-ROW c =
    (c.cell.ensures.0 ∙ sym (row_at c.args.base c.args.counts.now c.args.k (omega arith)), c.cell.ensures.1)

pub returns-else-k-lt-ROW : goal.returns-else-k-lt-ROW
returns-else-k-lt-ROW c =
    (sym (row_end c.args.base c.args.counts.now c.args.k (omega arith)), omega arith)
