-- A byte is a value, a variable, a function of one or two arguments, whose values stand behind its result, or an operator.
use native.Mathlib.Omega.{arith}
use Prim.Native.Nat.{ℕ, ◌+◌, ◌-◌, ◌*◌}
use mathlib.Core.Path.{◌≡◌, sym, ◌∙◌, ap, ap₂}
use lib.ListN.{get_or}
use Rattle.terms.specs.Stands.{size_in}
use Rattle.evaluation.specs.Run.{operator_worth}
use Rattle.evaluation.proofs.Bytes.{worth_value, worth_variable, worth_one, worth_two, worth_operator}
use Rattle.evaluation.proofs.worth.Goals as goal

pub returns-then-n-lt-VARIABLE : goal.returns-then-n-lt-VARIABLE
returns-then-n-lt-VARIABLE c = let a = c.args in worth_value a.s.now a.funcs.now a.e.now a.b a.x _ _ (omega (arith, c.wide-n.ensures.0))

pub returns-then-n-lt-FUNCTION : goal.returns-then-n-lt-FUNCTION
returns-then-n-lt-FUNCTION c = let a = c.args in let w = c.wide-n in let z : w.result - 32 ≡ a.b - 32 = omega (arith, w.ensures.0) in
    c.peek.ensures ∙ ap (λ (i : ℕ). get_or a.e.now i 0) z ∙ worth_variable a.s.now a.funcs.now a.e.now a.b a.x _ _ (omega (arith, w.ensures.0)) (omega (arith, w.ensures.0))

pub returns-then-peek-eq1 : goal.returns-then-peek-eq1
returns-then-peek-eq1 c = let a = c.args in let w = c.wide-n in let p = c.cell-p in let z : w.result - 64 ≡ a.b - 64 = omega (arith, w.ensures.0) in
    let y : p.result + 3 + c.wide.result ≡ p.result + 3 + a.x = omega (arith, c.wide.ensures.0) in
    c.peek-then-peek-eq1.ensures ∙ ap (λ (i : ℕ). get_or a.s.now i 0) y
    ∙ worth_one a.s.now a.funcs.now a.e.now a.b a.x _ _ p.result (omega (arith, w.ensures.0)) (omega (arith, w.ensures.0)) (p.ensures.0 ∙ ap (λ (i : ℕ). get_or a.funcs.now i 0) z) (sym c.peek-then-n-lt-NOT.ensures ∙ c.if-peek-eq1.true)

pub returns-then-n-lt-NOT : goal.returns-then-n-lt-NOT
returns-then-n-lt-NOT c = let a = c.args in let w = c.wide-n in let p = c.cell-p in let z : w.result - 64 ≡ a.b - 64 = omega (arith, w.ensures.0) in
    let i : c.row-i.result ≡ a.x * size_in a.funcs.now (get_or a.s.now (p.result + 2) 0) + get_or a.stack.now a.t 0 =
    c.row-i.ensures.0 ∙ ap₂ (λ (n y : ℕ). a.x * n + y) (c.size_of.ensures ∙ ap (size_in a.funcs.now) c.peek-d.ensures) c.peek-y.ensures in
    c.peek-then-n-lt-NOT-2.ensures
    ∙ worth_two a.s.now a.funcs.now a.e.now a.b a.x (get_or a.stack.now a.t 0) _ p.result c.row-i.result (omega (arith, w.ensures.0)) (omega (arith, w.ensures.0)) (p.ensures.0 ∙ ap (λ (i : ℕ). get_or a.funcs.now i 0) z) (λ h. c.if-peek-eq1.false (c.peek-then-n-lt-NOT.ensures ∙ h)) i

pub operator_worth-requires : goal.operator_worth-requires
operator_worth-requires c = omega (arith, c.wide-n.ensures.0)

pub returns : goal.returns
returns c = let a = c.args in let w = c.wide-n in let z : w.result - 96 ≡ a.b - 96 = omega (arith, w.ensures.0) in
    c.operator_worth.ensures ∙ ap (λ (n : ℕ). operator_worth n a.x c.peek-2.result c.peek-3.result) z
    ∙ ap₂ (λ (x y : ℕ). operator_worth (a.b - 96) a.x x y) c.peek-2.ensures c.peek-3.ensures
    ∙ worth_operator a.s.now a.funcs.now a.e.now a.b a.x (get_or a.stack.now a.t 0) (get_or a.stack.now (a.t + 1) 0) (omega (arith, w.ensures.0))
