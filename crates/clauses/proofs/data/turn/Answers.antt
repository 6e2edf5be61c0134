-- By the kinds of a byte: only behind a value or a variable something is written.
use native.Mathlib.Omega.{arith}
use mathlib.Core.Path.{◌≡◌, refl, ap, ◌∙◌}
use Prim.Native.Nat.{ℕ, ◌-◌}
use Rattle.clauses.specs.Brackets.{number, operator_mark}
use Rattle.clauses.proofs.TermText.{number_small}
use Rattle.clauses.proofs.Marks.{operator_some, turns_leaf, turns_function, turns_not, turns_joint}
use Rattle.clauses.proofs.data.turn.Goals as goal

pub returns-then-n-lt-FUNCTION_CODE : goal.returns-then-n-lt-FUNCTION_CODE
returns-then-n-lt-FUNCTION_CODE c =
    let a = c.args in
    let n = c.wide-n.ensures.0 in
    let said = c.close.ensures in
    record { at_in_bounds = said.at_in_bounds; turns = λ bs e. turns_leaf a.s.now a.funcs.now a.b a.place a.out.now a.at bs _ _ _ _ (omega arith) (said.closes bs e) }

pub returns-then-n-lt-NOT_CODE : goal.returns-then-n-lt-NOT_CODE
returns-then-n-lt-NOT_CODE c =
    let a = c.args in
    let n = c.wide-n.ensures.0 in
    record { at_in_bounds = (omega arith, refl); turns = λ bs e. turns_function a.s.now a.funcs.now a.b a.place a.out.now a.at bs (omega arith) _ (omega arith) (omega arith) (c.opened.ensures bs e) }

pub returns-then-n-eq-NOT_CODE : goal.returns-then-n-eq-NOT_CODE
returns-then-n-eq-NOT_CODE c =
    let a = c.args in
    let n = c.wide-n.ensures.0 in
    record { at_in_bounds = (omega arith, refl); turns = λ bs e. turns_not a.s.now a.funcs.now a.b a.place a.out.now a.at bs (omega arith) a.opens (omega arith) e }

pub marked-requires : goal.marked-requires
marked-requires c = omega (arith, c.joint-m.ensures, number_small (operator_mark (c.wide-n.result - 96 - 1)))

pub first_place-requires : goal.first_place-requires
first_place-requires c = omega (arith, c.joint-m.ensures, operator_some (c.wide-n.result - 96 - 1))

pub returns : goal.returns
returns c =
    let a = c.args in
    let n = c.wide-n.ensures.0 in
    let m : c.joint-m.result ≡ number (operator_mark (a.b - 96 - 1)) = c.joint-m.ensures ∙ ap (λ (k : ℕ). number (operator_mark (k - 96 - 1))) n in
    record { at_in_bounds = (omega arith, refl); turns = λ bs e. turns_joint a.s.now a.funcs.now a.b a.place a.out.now a.at bs (omega arith) _ _ (omega arith) (c.marked.ensures _ bs m e) (c.first_place.ensures _ m) }
