-- The number is an action's, or a process's behind all actions.
use native.Mathlib.Omega.{arith}
use Prim.Native.Nat.{◌-◌}
use Rattle.pcrl.specs.Names.{number_of}
use Rattle.names.specs.NameCells.{name_at}
use Rattle.names.specs.NameKinds.{acts_in, procs_in}
use Rattle.names.specs.NameList.{names_in, kinds_in}
use Rattle.resolver.proofs.Lookup.{an_action, no_action, a_process, neither_action, neither_process}
use Rattle.resolver.proofs.NamedLaws.{naming_action, naming_process, naming_none}
use Rattle.resolver.proofs.process.named.Goals as goal

pub returns-in_err-i : goal.returns-in_err-i
returns-in_err-i c =
    let q = c.requires in
    let s = c.args.s.now in
    let l = c.args.declared.now in
    let x = name_at s c.args.x in
    let number = c.in_err-i.ensures.number in
    rw c.from_residual.ensures (naming_none c.args.after (number_of x (acts_in s (names_in l) (kinds_in l))) (number_of x (procs_in s (names_in l) (kinds_in l))) (neither_action s l q.2 x number) (neither_process s l q.2 x number))

pub returns-then-i-acts : goal.returns-then-i-acts
returns-then-i-acts c =
    let q = c.requires in
    let s = c.args.s.now in
    let l = c.args.declared.now in
    let x = name_at s c.args.x in
    let i = c.in_ok-i.i in
    naming_action c.args.after (number_of x (acts_in s (names_in l) (kinds_in l))) (number_of x (procs_in s (names_in l) (kinds_in l))) i c.first_cell.result (an_action s l q.2 x i c.in_ok-i.ensures.number (omega (arith, c.cell-acts.ensures, c.if-i-acts.true))) c.first_cell.ensures

pub returns : goal.returns
returns c =
    let q = c.requires in
    let s = c.args.s.now in
    let l = c.args.declared.now in
    let x = name_at s c.args.x in
    let i = c.in_ok-i.i in
    let acts = c.cell-acts.ensures in
    let number = c.in_ok-i.ensures.number in
    naming_process c.args.after (number_of x (acts_in s (names_in l) (kinds_in l))) (number_of x (procs_in s (names_in l) (kinds_in l))) (i - (kinds_in l).acts) c.first_cell-2.result
    (no_action s l q.2 x i number (omega (arith, c.if-i-acts.false))) (a_process s l q.2 x i number (omega (arith, c.if-i-acts.false)) c.in_ok-i.ensures.most) (let z = c.first_cell-2.ensures in omega arith)
