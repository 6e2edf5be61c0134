-- The arity stands at the function's place; a bracket doubles the number.
use native.Mathlib.Omega.{arith}
use mathlib.Core.Path.{◌≡◌, refl, sym, ap, ◌∙◌}
use Prim.Native.Nat.{ℕ, ◌-◌}
use lib.ListN.{get_or}
use Rattle.clauses.specs.Brackets.{Mark, number}
use Rattle.clauses.proofs.Marks.{deeper_mark, deeper_none, deeper_bracket}
use Rattle.clauses.proofs.data.opened.Goals as goal

pub returns-then-peek-ne1 : goal.returns-then-peek-ne1
unfolding number
returns-then-peek-ne1 c = λ bs e.
    let a = c.args in
    let i : c.wide.result - 64 ≡ a.b - 64 = omega (arith, c.wide.ensures.0) in
    let p : c.cell-p.result ≡ get_or a.funcs.now (a.b - 64) 0 = c.cell-p.ensures.0 ∙ ap (λ (k : ℕ). get_or a.funcs.now k 0) i in
    deeper_mark a.s.now (get_or a.funcs.now (a.b - 64) 0) _ bs (λ h. c.if-peek-ne1.true (c.peek.ensures ∙ ap (λ (k : ℕ). get_or a.s.now k 0) p ∙ h)) (c.marked.ensures Mark.comma bs refl e)

pub returns-then-opens-ge-LIMIT : goal.returns-then-opens-ge-LIMIT
returns-then-opens-ge-LIMIT c = λ bs e.
    let a = c.args in
    let i : c.wide.result - 64 ≡ a.b - 64 = omega (arith, c.wide.ensures.0) in
    let p : c.cell-p.result ≡ get_or a.funcs.now (a.b - 64) 0 = c.cell-p.ensures.0 ∙ ap (λ (k : ℕ). get_or a.funcs.now k 0) i in
    deeper_none a.s.now (get_or a.funcs.now (a.b - 64) 0) a.opens bs (ap (λ (k : ℕ). get_or a.s.now k 0) (sym p) ∙ sym c.peek.ensures ∙ c.if-peek-ne1.false) e (omega arith)

pub returns : goal.returns
returns c = λ bs e.
    let a = c.args in
    let i : c.wide.result - 64 ≡ a.b - 64 = omega (arith, c.wide.ensures.0) in
    let p : c.cell-p.result ≡ get_or a.funcs.now (a.b - 64) 0 = c.cell-p.ensures.0 ∙ ap (λ (k : ℕ). get_or a.funcs.now k 0) i in
    deeper_bracket a.s.now (get_or a.funcs.now (a.b - 64) 0) a.opens bs (ap (λ (k : ℕ). get_or a.s.now k 0) (sym p) ∙ sym c.peek.ensures ∙ c.if-peek-ne1.false) e (omega arith)
