-- `rightly_sorted` is question 8: functions, processes and init, one after another.
use native.Mathlib.Omega.{arith}
use lib.ListN.{replicate}
use Rattle.checker.proofs.Sheets.{functions_wrong, processes_wrong, init_says}
use Rattle.checker.proofs.sorts.rightly_sorted.Goals as goal

pub returns-then-n-gt-MAX_FUNCTIONS : goal.returns-then-n-gt-MAX_FUNCTIONS
returns-then-n-gt-MAX_FUNCTIONS c = λ H h. let z = h.signature.few_funcs in absurd (omega arith)

pub returns-then-n-gt-MAX_PROCESSES : goal.returns-then-n-gt-MAX_PROCESSES
returns-then-n-gt-MAX_PROCESSES c = λ H h. let z = h.processes.few_procs in absurd (omega arith)

pub returns-then-not-functions_complete : goal.returns-then-not-functions_complete
returns-then-not-functions_complete c = functions_wrong c.args.sizes.now c.args.funcs.now c.args.values.now c.args.places.now c.args.acts.now c.args.procs.now c.args.cells.now c.args.starts.now c.args.n c.functions_complete.result c.functions_complete.ensures c.if-not-functions_complete.true

pub returns-then-not-processes_right : goal.returns-then-not-processes_right
returns-then-not-processes_right c = processes_wrong c.args.sizes.now c.args.funcs.now c.args.values.now c.args.places.now c.args.acts.now c.args.procs.now c.args.cells.now c.args.starts.now c.args.n c.functions_complete.result c.functions_complete.ensures c.if-not-functions_complete.false c.processes_right.result c.processes_right.ensures c.if-not-processes_right.true

pub returns : goal.returns
returns c = init_says c.args.sizes.now c.args.funcs.now c.args.values.now c.args.places.now c.args.acts.now c.args.procs.now c.args.cells.now c.args.starts.now c.args.n c.functions_complete.result c.functions_complete.ensures c.if-not-functions_complete.false c.processes_right.result c.processes_right.ensures c.if-not-processes_right.false (replicate 32 0) c.term_right.result c.term_right.ensures
