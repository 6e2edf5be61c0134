-- One answer for each kind of byte: a value, a variable in scope or not, a written function that is there or not.
use mathlib.Core.Path.{◌∙◌, ◌≡◌, ap}
use Prim.Native.Nat.{◌+◌, ◌-◌, ℕ}
use native.Mathlib.Omega.{arith}
use lib.ListN.{get_or}
use Rattle.terms.proofs.Nodes.{fits_function, fits_value, fits_variable, no_function, no_variable, size_is}
use Rattle.terms.proofs.fits.Goals as goal

pub returns-then-n-lt-VARIABLE_CODE : goal.returns-then-n-lt-VARIABLE_CODE
returns-then-n-lt-VARIABLE_CODE c = λ S k.
    let a = c.args in
    fits_value S a.scope.now a.b a.d c.peek.result (size_is S a.s.now a.sizes.now a.funcs.now k a.d c.wide.result c.peek.result c.wide.ensures.0 c.peek.ensures) (omega arith)

pub returns-then-i-scope : goal.returns-then-i-scope
returns-then-i-scope c = λ S k.
    let a = c.args in
    let z = c.wide-n.ensures.0 in
    fits_variable S a.scope.now a.b a.d _ (ap (λ (i : ℕ). get_or a.scope.now (i - 0x20) 0) z) (omega arith) (omega arith) (omega arith)

pub returns-then-n-lt-FUNCTION_CODE : goal.returns-then-n-lt-FUNCTION_CODE
returns-then-n-lt-FUNCTION_CODE c = λ S k. let a = c.args in no_variable S a.scope.now a.b a.d (omega arith) (omega arith) (omega arith)

pub returns-then-f-funcs : goal.returns-then-f-funcs
returns-then-f-funcs c = λ S k.
    let a = c.args in
    let f = c.wide-n.result - 0x40 in
    let p = get_or a.funcs.now f 0 in
    let q = c.cell-p.ensures.0 in
    let z : c.cell-p.result + 1 + c.wide-then-f-funcs.result ≡ p + 1 + get_or a.s.now p 0 = simp (c.wide-then-f-funcs.ensures.0 ∙ c.peek-then-f-funcs.ensures, q) in
    fits_function S a.s.now a.sizes.now a.funcs.now k f a.scope.now a.b a.d (omega arith) (omega arith) c.peek-then-f-funcs-2.result (c.peek-then-f-funcs-2.ensures ∙ ap (λ (i : ℕ). get_or a.s.now i 0) z) (omega arith)

pub returns : goal.returns
returns c = λ S k. let a = c.args in no_function S a.s.now a.sizes.now a.funcs.now k (c.wide-n.result - 0x40) a.scope.now a.b a.d (omega arith) (omega arith) (omega arith)
