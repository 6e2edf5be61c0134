-- `lexer::bytes::run`: no run is longer than what is left of the bytes.
use mathlib.Core.Path.{sym}
use native.Mathlib.Omega.{arith}
use Rattle.lexer.specs.Classes.{in_classes}
use Rattle.lexer.proofs.Runs.{run_end, run_fits}
use Rattle.lexer.proofs.bytes.run.Goals as goal

pub returns-then-s-at : goal.returns-then-s-at
returns-then-s-at c = let a = c.args in sym (run_end (in_classes a.lo a.hi) a.s.now a.at (omega arith))

pub returns : goal.returns
returns c = let a = c.args in omega (arith, run_fits (in_classes a.lo a.hi) a.s.now a.at)
