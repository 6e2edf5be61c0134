-- Four bits more, below the limit.
use native.Mathlib.Omega.{arith}
use Rattle.clauses.proofs.Marks.{marked_none, marked_bracket, marked_plain}
use Rattle.clauses.proofs.operands.marked.Goals as goal

pub returns-then-opens-ge-LIMIT : goal.returns-then-opens-ge-LIMIT
returns-then-opens-ge-LIMIT c = λ k bs e f. let a = c.args in marked_none a.opens a.m a.place k bs e f (omega arith)

pub returns-then-m-place : goal.returns-then-m-place
returns-then-m-place c = λ k bs e f. let a = c.args in marked_bracket a.opens a.m a.place k bs e f (omega arith) (omega arith)

pub returns : goal.returns
returns c = λ k bs e f. let a = c.args in marked_plain a.opens a.m a.place k bs e f (omega arith) (omega arith)
