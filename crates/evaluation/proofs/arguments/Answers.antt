-- A byte below the functions has no arguments; the arity of a written function stands at its place.
use native.Mathlib.Omega.{arith}
use Prim.Native.Nat.{ℕ, ◌-◌}
use mathlib.Core.Path.{◌≡◌, sym, ◌∙◌, ap}
use lib.ListN.{get_or}
use Rattle.evaluation.specs.Run.{operator_count}
use Rattle.evaluation.proofs.Bytes.{no_arguments, one_argument, two_arguments, operator_arguments}
use Rattle.evaluation.proofs.arguments.Goals as goal

pub returns-then-n-lt-FUNCTION : goal.returns-then-n-lt-FUNCTION
returns-then-n-lt-FUNCTION c = let a = c.args in (no_arguments a.s.now a.funcs.now a.b (omega (arith, c.wide-n.ensures.0)), omega arith)

pub returns-then-peek-eq1 : goal.returns-then-peek-eq1
returns-then-peek-eq1 c = let a = c.args in let w = c.wide-n in let p = c.cell-p in let z : w.result - 64 ≡ a.b - 64 = omega (arith, w.ensures.0) in (
  one_argument a.s.now a.funcs.now a.b p.result (omega (arith, w.ensures.0)) (omega (arith, w.ensures.0)) (p.ensures.0 ∙ ap (λ (i : ℕ). get_or a.funcs.now i 0) z) (sym c.peek.ensures ∙ c.if-peek-eq1.true),
  omega arith,
)

pub returns-then-n-lt-NOT : goal.returns-then-n-lt-NOT
returns-then-n-lt-NOT c = let a = c.args in let w = c.wide-n in let p = c.cell-p in let z : w.result - 64 ≡ a.b - 64 = omega (arith, w.ensures.0) in (
  two_arguments a.s.now a.funcs.now a.b p.result (omega (arith, w.ensures.0)) (omega (arith, w.ensures.0)) (p.ensures.0 ∙ ap (λ (i : ℕ). get_or a.funcs.now i 0) z) (λ h. c.if-peek-eq1.false (c.peek.ensures ∙ h)),
  omega arith,
)

pub returns : goal.returns
returns c = let a = c.args in let w = c.wide-n in let z : w.result - 96 ≡ a.b - 96 = omega (arith, w.ensures.0) in (
  c.operator_arguments.ensures.0 ∙ ap operator_count z ∙ operator_arguments a.s.now a.funcs.now a.b (omega (arith, w.ensures.0)),
  omega (arith, c.operator_arguments.ensures.1),
)
