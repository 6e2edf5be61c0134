-- `lexer::bytes::Cursor::skip`: the place and the separators left lead to the same place.
use mathlib.Core.Path.{sym, ◌∙◌}
use native.Mathlib.Omega.{arith}
use lib.ListN.{get_or}
use Rattle.pcrl.specs.Bytes.{separator}
use Rattle.lexer.proofs.Runs.{run_end, run_more, run_stop, no_separator}
use Rattle.lexer.proofs.bytes.Cursor.skip.Goals as goal

pub returns-then-b-gt32 : goal.returns-then-b-gt32
returns-then-b-gt32 c = omega (arith, run_stop separator c.args.s.now c.loop-at.at (omega arith) (no_separator (get_or c.args.s.now c.loop-at.at 0) (λ e. omega arith) (λ e. omega arith)))

pub returns-then-not-separator : goal.returns-then-not-separator
returns-then-not-separator c = omega (arith, run_stop separator c.args.s.now c.loop-at.at (omega arith) (sym c.separator.ensures ∙ c.if-not-separator.true))

pub loop-at-preserved-then-at-start-eq-FEW : goal.loop-at-preserved-then-at-start-eq-FEW
loop-at-preserved-then-at-start-eq-FEW c = let m = run_more separator c.args.s.now c.loop-at.at (omega arith) (sym c.separator.ensures ∙ c.if-not-separator.false) in (omega arith, omega arith)

pub loop-at-preserved : goal.loop-at-preserved
loop-at-preserved c = let m = run_more separator c.args.s.now c.loop-at.at (omega arith) (sym c.separator.ensures ∙ c.if-not-separator.false) in (omega arith, omega arith)

pub returns : goal.returns
returns c = omega (arith, run_end separator c.args.s.now c.loop-at.at (omega arith))
