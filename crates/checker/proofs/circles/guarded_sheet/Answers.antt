-- `guarded_sheet` is question 9: all processes are among those that passed after the last round.
use native.Mathlib.Omega.{arith}
use Rattle.checker.proofs.Rounds.{sets_held, guarded_is}
use Rattle.checker.proofs.circles.guarded_sheet.Goals as goal

pub returns-then-n-gt-MAX_PROCESSES : goal.returns-then-n-gt-MAX_PROCESSES
returns-then-n-gt-MAX_PROCESSES c = λ H procs held. let z = held.few_procs in absurd (omega arith)

pub returns : goal.returns
returns c = λ H procs held. guarded_is H procs c.args.cells.now c.args.starts.now c.args.n c.head_sets-sets.result c.all_processes.result c.passed_after-passed.result c.all_passed.result held (sets_held H procs c.args.cells.now c.args.starts.now c.args.n c.head_sets-sets.result held c.head_sets-sets.ensures.sets_at) c.passed_after-passed.ensures c.all_processes.ensures c.all_passed.ensures
