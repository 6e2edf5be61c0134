-- A byte is a value, a variable, a function of one or two arguments, whose values stand behind its result, or an operator.
use native.Mathlib.Omega.{arith}
use Prim.Native.Nat.{ℕ, ◌+◌, ◌-◌, min}
use mathlib.Core.Path.{◌≡◌, refl, sym, ap, ◌∙◌}
use mathlib.Core.List.{List}
use lib.ListN.{get_or}
use Rattle.evaluation.specs.Rows.{lane_env}
use Rattle.pcrl.specs.Stream.{variable_code}
use Rattle.terms.specs.Stands.{size_in}
use Rattle.evaluation.specs.Run.{operator_count}
use Rattle.evaluation.proofs.Bytes.{no_arguments, one_argument, two_arguments, operator_arguments}
use Rattle.evaluation.proofs.LaneLaws.{put_fewer, mark_put, put_value, put_variable, lane_fast, lane_slow, lane_other, put_one, put_two, put_operator}
use Rattle.evaluation.proofs.rows.node.Goals as goal

pub returns-then-c-lt-VARIABLE : goal.returns-then-c-lt-VARIABLE
returns-then-c-lt-VARIABLE c = let a = c.args in let n = c.wide-c in let d = c.onto-d in let env : ℕ → List ℕ = (λ (i : ℕ). lane_env a.e.now a.u a.v a.slow.now a.fast.now i) in
    (d.ensures.1, (d.ensures.0 ∙ ap (λ (k : ℕ). min (a.t + k) 17 - 1) (no_arguments a.s.now a.funcs.now a.b (omega (arith, n.ensures.0))), λ h k w. let p = put_fewer a.n 128 a.rows.now d.result _ _ (omega arith) c.fill.ensures in (put_value a.n a.s.now a.funcs.now env a.b n.result a.t a.rows.now _ d.result n.ensures.0 (omega arith) p, mark_put 128 a.rows.now a.marks.now d.result _ _ 0 (omega arith) (omega (arith, d.ensures.1)) (λ e. (omega arith, λ i. refl)) c.fill.ensures w)))

pub returns-then-i-v : goal.returns-then-i-v
returns-then-i-v c = let a = c.args in let n = c.wide-c in let d = c.onto-d-then-c-lt-FUNCTION in let env : ℕ → List ℕ = (λ (i : ℕ). lane_env a.e.now a.u a.v a.slow.now a.fast.now i) in
    (d.ensures.1, (d.ensures.0 ∙ ap (λ (k : ℕ). min (a.t + k) 17 - 1) (no_arguments a.s.now a.funcs.now a.b (omega (arith, n.ensures.0))), λ h k w. let p = put_fewer a.n 128 a.rows.now d.result _ _ (omega arith) c.copy.ensures in (put_variable a.n a.s.now a.funcs.now env a.b n.result a.t a.rows.now _ d.result n.ensures.0 _ (omega arith) (omega arith) (λ i. lane_fast a.e.now a.u a.v a.slow.now a.fast.now i (n.result - variable_code) k c.if-i-v.true) p, mark_put a.n a.rows.now a.marks.now d.result _ _ 1 (omega arith) (omega (arith, d.ensures.1)) (λ e. absurd (omega arith)) p w)))

pub returns-then-i-u : goal.returns-then-i-u
returns-then-i-u c = let a = c.args in let n = c.wide-c in let d = c.onto-d-then-c-lt-FUNCTION in let env : ℕ → List ℕ = (λ (i : ℕ). lane_env a.e.now a.u a.v a.slow.now a.fast.now i) in
    (d.ensures.1, (d.ensures.0 ∙ ap (λ (k : ℕ). min (a.t + k) 17 - 1) (no_arguments a.s.now a.funcs.now a.b (omega (arith, n.ensures.0))), λ h k w. let p = put_fewer a.n 128 a.rows.now d.result _ _ (omega arith) c.copy-then-i-u.ensures in (put_variable a.n a.s.now a.funcs.now env a.b n.result a.t a.rows.now _ d.result n.ensures.0 _ (omega arith) (omega arith) (λ i. lane_slow a.e.now a.u a.v a.slow.now a.fast.now i (n.result - variable_code) h c.if-i-v.false c.if-i-u.true) p, mark_put a.n a.rows.now a.marks.now d.result _ _ 1 (omega arith) (omega (arith, d.ensures.1)) (λ e. absurd (omega arith)) p w)))

pub returns-then-c-lt-FUNCTION : goal.returns-then-c-lt-FUNCTION
returns-then-c-lt-FUNCTION c = let a = c.args in let n = c.wide-c in let d = c.onto-d-then-c-lt-FUNCTION in let env : ℕ → List ℕ = (λ (i : ℕ). lane_env a.e.now a.u a.v a.slow.now a.fast.now i) in
    (d.ensures.1, (d.ensures.0 ∙ ap (λ (k : ℕ). min (a.t + k) 17 - 1) (no_arguments a.s.now a.funcs.now a.b (omega (arith, n.ensures.0))), λ h k w. let p = put_fewer a.n 128 a.rows.now d.result _ _ (omega arith) c.fill-then-c-lt-FUNCTION.ensures in (put_variable a.n a.s.now a.funcs.now env a.b n.result a.t a.rows.now _ d.result n.ensures.0 _ (omega arith) (omega arith) (λ i. c.peek.ensures ∙ lane_other a.e.now a.u a.v a.slow.now a.fast.now i (n.result - variable_code) c.if-i-v.false c.if-i-u.false) p, mark_put 128 a.rows.now a.marks.now d.result _ _ 0 (omega arith) (omega (arith, d.ensures.1)) (λ e. (omega arith, λ i. refl)) c.fill-then-c-lt-FUNCTION.ensures w)))

pub returns-then-peek-eq1 : goal.returns-then-peek-eq1
returns-then-peek-eq1 c = let a = c.args in let n = c.wide-c in let d = c.onto-d-then-peek-eq1 in let env : ℕ → List ℕ = (λ (i : ℕ). lane_env a.e.now a.u a.v a.slow.now a.fast.now i) in
    (d.ensures.1, (d.ensures.0 ∙ ap (λ (k : ℕ). min (a.t + k) 17 - 1) (one_argument a.s.now a.funcs.now a.b c.cell-p.result (omega arith) (omega arith) (c.cell-p.ensures.0 ∙ (let z : n.result - 64 ≡ a.b - 64 = omega (arith, n.ensures.0) in ap (λ (i : ℕ). get_or a.funcs.now i 0) z)) (sym c.peek-then-c-lt-NOT.ensures ∙ c.if-peek-eq1.true)), λ h k w. let y = c.unary.ensures w in (put_one a.n a.s.now a.funcs.now env a.b n.result a.t a.rows.now _ d.result n.ensures.0 c.cell-p.result (omega arith) (omega arith) c.cell-p.ensures.0 (sym c.peek-then-c-lt-NOT.ensures ∙ c.if-peek-eq1.true) y.0, y.1)))

pub returns-then-c-lt-NOT : goal.returns-then-c-lt-NOT
returns-then-c-lt-NOT c = let a = c.args in let n = c.wide-c in let d = c.onto-d-then-c-lt-NOT in let env : ℕ → List ℕ = (λ (i : ℕ). lane_env a.e.now a.u a.v a.slow.now a.fast.now i) in
    (d.ensures.1, (d.ensures.0 ∙ ap (λ (k : ℕ). min (a.t + k) 17 - 1) (two_arguments a.s.now a.funcs.now a.b c.cell-p.result (omega arith) (omega arith) (c.cell-p.ensures.0 ∙ (let z : n.result - 64 ≡ a.b - 64 = omega (arith, n.ensures.0) in ap (λ (i : ℕ). get_or a.funcs.now i 0) z)) (λ q. c.if-peek-eq1.false (c.peek-then-c-lt-NOT.ensures ∙ q))), λ h k w. let y = c.binary.ensures w in (put_two a.n a.s.now a.funcs.now env a.b n.result a.t a.rows.now _ d.result n.ensures.0 c.cell-p.result (omega arith) (omega arith) c.cell-p.ensures.0 c.size_of-width.result (λ q. c.if-peek-eq1.false (c.peek-then-c-lt-NOT.ensures ∙ q)) (c.size_of-width.ensures ∙ ap (size_in a.funcs.now) c.peek-then-c-lt-NOT-2.ensures) y.0, y.1)))

pub returns : goal.returns
returns c = let a = c.args in let n = c.wide-c in let d = c.onto-d-2 in let env : ℕ → List ℕ = (λ (i : ℕ). lane_env a.e.now a.u a.v a.slow.now a.fast.now i) in
    (d.ensures.1, (d.ensures.0 ∙ ap (λ (k : ℕ). min (a.t + k) 17 - 1) (c.operator_arguments.ensures.0 ∙ (let z : n.result - 96 ≡ a.b - 96 = omega (arith, n.ensures.0) in ap operator_count z) ∙ operator_arguments a.s.now a.funcs.now a.b (omega arith)), λ h k w. let p = put_fewer a.n 128 a.rows.now d.result _ _ (omega arith) c.operator.ensures in (put_operator a.n a.s.now a.funcs.now env a.b n.result a.t a.rows.now _ d.result n.ensures.0 (omega arith) p, mark_put a.n a.rows.now a.marks.now d.result _ _ 1 (omega arith) (omega (arith, d.ensures.1)) (λ e. absurd (omega arith)) p w)))
