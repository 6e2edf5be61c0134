-- `printer::watch::apart`: watched from here on in the state so far, the cells end as they do watched from the first on.
use mathlib.Core.Path.{refl, ◌∙◌, ap}
use Prim.Native.Nat.{◌+◌}
use native.Mathlib.Omega.{arith}
use Rattle.printing.specs.Watched as W
use Rattle.lexer.specs.Cells.{cell_token}
use Rattle.printer.specs.Watching.{state_of}
use Rattle.printer.proofs.WatchLaws.{watches_next, was_met, never_met, unmet_state}
use Rattle.printer.proofs.watch.apart.Goals as goal

pub loop-c-init : goal.loop-c-init
unfolding W.unmet
loop-c-init c = (refl, λ s. refl)

pub next-state-requires : goal.next-state-requires
next-state-requires c = c.loop-c.invariant.0

pub returns-in-Met : goal.returns-in-Met
returns-in-Met c = λ s.
    let a = c.args in
    let here = c.loop-c in
    let state = c.next-state.result in
    was_met (cell_token s) a.cells.now (here.c-index + 1) state c.in-Met.is (watches_next (cell_token s) a.cells.now here.c-index here.state state (omega arith) (c.next-state.ensures ∙ ap (W.next (state_of here.state)) (c.cell_kind.ensures s)) (here.invariant.1 s))

pub loop-c-preserved : goal.loop-c-preserved
loop-c-preserved c =
    let a = c.args in
    let here = c.loop-c in
    let state = c.next-state.result in
    (unmet_state state c.in_default.not-Met, λ s. watches_next (cell_token s) a.cells.now here.c-index here.state state (omega arith) (c.next-state.ensures ∙ ap (W.next (state_of here.state)) (c.cell_kind.ensures s)) (here.invariant.1 s))

pub returns : goal.returns
returns c = λ s. let a = c.args in let here = c.loop-c in never_met (cell_token s) a.cells.now here.c-index here.state (omega arith) here.invariant.0 (here.invariant.1 s)
