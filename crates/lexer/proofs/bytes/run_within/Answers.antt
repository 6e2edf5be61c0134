-- `lexer::bytes::run_within`: what is counted and what is left to count is the whole run, or the bound is reached.
use mathlib.Core.Path.{◌≡◌}
use mathlib.Core.Bool.{false}
use lib.ListN.{get_or}
use native.Mathlib.Omega.{arith}
use Rattle.lexer.specs.Classes.{in_classes}
use Rattle.lexer.proofs.Runs.{run_fits, run_more, run_stop, within_low, within_high, within_both}
use Rattle.lexer.proofs.bytes.run_within.Goals.{then-k-lo-via-then-k-lo, then-k-lo-via-else-k-lo+then-hi-k}
use Rattle.lexer.proofs.bytes.run_within.Goals as goal

pub returns-then-k-lo : goal.returns-then-k-lo
returns-then-k-lo c = let a = c.args in let i = c.loop-i.i in
    let out : in_classes a.lo a.hi (get_or a.s.now i 0) ≡ false
    = elim c.then-k-lo.branch [
      | then-k-lo-via-then-k-lo w ↦ within_low a.lo a.hi _ (omega arith)
      | then-k-lo-via-else-k-lo+then-hi-k w ↦ within_high a.lo a.hi _ (omega arith) (omega arith)
    ] in
    omega (arith, run_stop (in_classes a.lo a.hi) a.s.now i (omega arith) out)

pub loop-i-preserved : goal.loop-i-preserved
loop-i-preserved c = let a = c.args in let i = c.loop-i.i in
    let m = run_more (in_classes a.lo a.hi) a.s.now i (omega arith) (within_both a.lo a.hi _ (omega arith) (omega arith)) in
    (omega arith, omega arith, omega arith)

pub returns : goal.returns
returns c = let a = c.args in omega (arith, run_fits (in_classes a.lo a.hi) a.s.now a.at)
