-- `processes_right`: every right side is rightly sorted. Invariant: those before k are.
use Prim.Native.Nat.{ℕ}
use native.Mathlib.Omega.{arith}
use mathlib.Core.Path.{subst}
use Rattle.checker.specs.Sorts.{TermSays}
use Rattle.checker.proofs.Sheets.{processes_failed, processes_more, processes_done}
use Rattle.checker.proofs.sorts.processes_right.Goals as goal

pub loop-k-init : goal.loop-k-init
loop-k-init c = (omega arith, λ H kn h i l. absurd (omega arith))

pub term_right-requires : goal.term_right-requires
term_right-requires c = c.params_of-scope.ensures.sorts_len

pub returns-then-not-term_right : goal.returns-then-not-term_right
returns-then-not-term_right c = processes_failed c.args.cells.now c.args.starts.now c.args.sizes.now c.args.funcs.now c.args.acts.now c.args.procs.now c.args.n c.loop-k.k (omega arith) c.params_of-scope.result c.params_of-scope.ensures.params_in_scope c.term_right.result (subst (λ (x : ℕ). TermSays c.args.cells.now x c.params_of-scope.result c.args.sizes.now c.args.funcs.now c.args.acts.now c.args.procs.now c.args.n c.term_right.result) c.cell-at.ensures.0 c.term_right.ensures) c.if-not-term_right.true

pub loop-k-preserved : goal.loop-k-preserved
loop-k-preserved c = (omega arith, processes_more c.args.cells.now c.args.starts.now c.args.sizes.now c.args.funcs.now c.args.acts.now c.args.procs.now c.args.n c.loop-k.k (omega arith) c.params_of-scope.result c.params_of-scope.ensures.params_in_scope c.term_right.result (subst (λ (x : ℕ). TermSays c.args.cells.now x c.params_of-scope.result c.args.sizes.now c.args.funcs.now c.args.acts.now c.args.procs.now c.args.n c.term_right.result) c.cell-at.ensures.0 c.term_right.ensures) c.if-not-term_right.false c.loop-k.invariant.1)

pub returns : goal.returns
returns c = processes_done c.args.cells.now c.args.starts.now c.args.sizes.now c.args.funcs.now c.args.acts.now c.args.procs.now c.args.n c.loop-k.k (omega arith) c.loop-k.invariant.1
