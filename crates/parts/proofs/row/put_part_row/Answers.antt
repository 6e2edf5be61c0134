-- Three numbers, if they are there.
use native.Mathlib.Omega.{arith}
use lib.ListN.{length-set}
use Rattle.parts.proofs.RowLaws.{row_none, row_written}
use Rattle.parts.proofs.row.put_part_row.Goals as goal

pub bounds-rows-i-then-k-rows : goal.bounds-rows-i-then-k-rows
bounds-rows-i-then-k-rows c = simp length-set (omega arith)

pub bounds-rows-i-then-k-rows-2 : goal.bounds-rows-i-then-k-rows-2
bounds-rows-i-then-k-rows-2 c = simp length-set (omega arith)

pub returns-then-k-rows : goal.returns-then-k-rows
returns-then-k-rows c = let a = c.args in row_written a.rows.now a.k a.place a.scope a.bits c.word.result c.word-then-k-rows.result (omega arith) c.word.ensures c.word-then-k-rows.ensures

pub returns-else-k-rows : goal.returns-else-k-rows
returns-else-k-rows c = let a = c.args in row_none a.rows.now a.k a.place a.scope a.bits (omega arith)
