-- By the kinds of a byte.
use lib.ListN.{get_or}
use Rattle.lettering.specs.Named.{funcs_place, vars_place}
use native.Mathlib.Omega.{arith}
use Rattle.texts.proofs.Writing.{wrote_more, wrote_as}
use Rattle.clauses.proofs.Marks.{value_text, variable_text, function_text}
use Rattle.clauses.proofs.data.put_node.Goals as goal

pub returns-then-n-lt-VARIABLE_CODE : goal.returns-then-n-lt-VARIABLE_CODE
returns-then-n-lt-VARIABLE_CODE c =
    let a = c.args in
    let n = c.wide-n in
    wrote_as a.out.now a.at _ _ _ _ (value_text (get_or a.l.now funcs_place 0) (get_or a.l.now vars_place 0) a.place a.b n.result n.ensures.0 (omega (arith, n.ensures))) c.put_decimal.ensures

pub returns-then-n-lt-FUNCTION_CODE : goal.returns-then-n-lt-FUNCTION_CODE
returns-then-n-lt-FUNCTION_CODE c =
    let a = c.args in
    let n = c.wide-n in
    wrote_as a.out.now a.at _ _ _ _ (variable_text (get_or a.l.now funcs_place 0) (get_or a.l.now vars_place 0) a.place a.b n.result n.ensures.0 (omega (arith, n.ensures)) (omega (arith, n.ensures))) c.put_name.ensures

pub returns-then-n-lt-NOT_CODE : goal.returns-then-n-lt-NOT_CODE
returns-then-n-lt-NOT_CODE c =
    let a = c.args in
    let n = c.wide-n in
    wrote_as a.out.now a.at _ _ _ _ (function_text (get_or a.l.now funcs_place 0) (get_or a.l.now vars_place 0) a.place a.b n.result n.ensures.0 (omega (arith, n.ensures)) (omega (arith, n.ensures)))
    (wrote_more a.out.now a.at _ _ _ _ _ _ (omega arith) c.put_name-a.ensures c.put_byte.ensures)

pub returns : goal.returns
returns c =
    let a = c.args in
    let n = c.wide-n in
    let w = c.put_operator.ensures (get_or a.l.now funcs_place 0) (get_or a.l.now vars_place 0) in
    rw n.ensures.0 at w
