-- `lexer::brackets::opened`: with as many open as were opened so far, the most from here on is no less than the most of all.
use native.Mathlib.Omega.{arith}
use Rattle.lexer.specs.Cells.{cell_token}
use Rattle.lexer.proofs.Depth.{opened_step, open_end}
use Rattle.lexer.proofs.brackets.opened.Goals as goal

pub loop-c-preserved : goal.loop-c-preserved
loop-c-preserved c = let a = c.args in let here = c.loop-c in
    (omega arith, λ s. let before = here.invariant.1 s in omega (arith, opened_step (cell_token s) a.cells.now here.c-index here.count c.opens-count.result (omega arith) (c.opens-count.ensures.1 s here.count)))

pub returns : goal.returns
returns c = λ s. let before = c.loop-c.invariant.1 s in omega (arith, open_end (cell_token s) c.args.cells.now c.loop-c.c-index c.loop-c.count (omega arith))
