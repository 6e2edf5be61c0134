-- `lexer::brackets::shallow`: above the limit, the most from here on is the most of all.
use mathlib.Core.List.{map}
use mathlib.Core.Path.{sym, ◌∙◌}
use Prim.Native.Nat.{◌+◌}
use native.Mathlib.Omega.{arith}
use Rattle.lexer.specs.Cells.{cell_token}
use Rattle.lexer.proofs.Depth.{few_open, open_step, too_deep, never_deep}
use Rattle.lexer.proofs.brackets.shallow.Goals as goal

pub returns-then-wide-le-MAX_OPEN : goal.returns-then-wide-le-MAX_OPEN
returns-then-wide-le-MAX_OPEN c = λ s. few_open (map (cell_token s) c.args.cells.now) c.opened.result (c.opened.ensures s) (omega arith)

pub returns-then-count-gt-MAX_OPEN : goal.returns-then-count-gt-MAX_OPEN
returns-then-count-gt-MAX_OPEN c = λ s. too_deep (cell_token s) c.args.cells.now (c.loop-c.c-index + 1) c.open_behind-count.result
    (sym (open_step (cell_token s) c.args.cells.now c.loop-c.c-index c.loop-c.count c.open_behind-count.result (omega arith) (omega arith) (c.open_behind-count.ensures s)) ∙ c.loop-c.invariant.1 s)
    (omega arith)

pub loop-c-preserved : goal.loop-c-preserved
loop-c-preserved c = (omega arith, λ s. sym (open_step (cell_token s) c.args.cells.now c.loop-c.c-index c.loop-c.count c.open_behind-count.result (omega arith) (omega arith) (c.open_behind-count.ensures s)) ∙ c.loop-c.invariant.1 s)

pub returns : goal.returns
returns c = λ s. never_deep (cell_token s) c.args.cells.now c.loop-c.c-index c.loop-c.count (c.loop-c.invariant.1 s) (omega arith) (omega arith)
