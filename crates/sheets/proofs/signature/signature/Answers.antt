-- The rows of sorts, functions and actions are those that the lines resolve to; or some name in them is no sort.
use mathlib.Core.Path.{subst}
use mathlib.Core.Bool.{Bool}
use Rattle.names.specs.Rows.{ActRows, FuncRows}
use Rattle.sheets.proofs.SignatureLaws.{no_functions, no_actions, signature_read}
use Rattle.sheets.proofs.signature.signature.Goals as goal

pub returns-then-not-func_rows : goal.returns-then-not-func_rows
returns-then-not-func_rows c =
    let a = c.args in
    let f = c.func_rows in
    no_functions a.s.now a.raw.now a.sorts.now a.funcs.now a.acts.now f.new.values c.sizes.new.out f.new.rows f.new.places f.new.rows
    (subst (λ (t : Bool). FuncRows a.s.now a.raw.now a.sorts.now a.funcs.now f.new.rows f.new.values f.new.places t) c.if-not-func_rows.true f.ensures)

pub returns-then-not-act_rows : goal.returns-then-not-act_rows
returns-then-not-act_rows c =
    let a = c.args in
    let f = c.func_rows in
    let g = c.act_rows in
    no_actions a.s.now a.raw.now a.sorts.now a.funcs.now a.acts.now f.new.values c.sizes.new.out f.new.rows f.new.places g.new.rows
    (subst (λ (t : Bool). FuncRows a.s.now a.raw.now a.sorts.now a.funcs.now f.new.rows f.new.values f.new.places t) c.if-not-func_rows.false f.ensures)
    (subst (λ (t : Bool). ActRows a.s.now a.raw.now a.sorts.now a.acts.now g.new.rows t) c.if-not-act_rows.true g.ensures)

pub returns : goal.returns
returns c =
    let a = c.args in
    let f = c.func_rows in
    let g = c.act_rows in
    signature_read a.s.now a.raw.now a.sorts.now a.funcs.now a.acts.now f.new.values c.sizes.new.out f.new.rows f.new.places g.new.rows c.requires.0 c.requires.1 c.requires.2 c.sizes.ensures
    (subst (λ (t : Bool). FuncRows a.s.now a.raw.now a.sorts.now a.funcs.now f.new.rows f.new.values f.new.places t) c.if-not-func_rows.false f.ensures)
    (subst (λ (t : Bool). ActRows a.s.now a.raw.now a.sorts.now a.acts.now g.new.rows t) c.if-not-act_rows.false g.ensures)
