-- Each way out by its law.
use Rattle.std.specs.Prelude.{Some, None}
use Rattle.std.proofs.lemmas.Result.{err_from_is_err_and}
use native.Mathlib.Omega.{arith}
use Rattle.laws.specs.Says.{said_yes, said_no}
use Rattle.refusals.specs.declared.Refusal.TheVariants.{NotWithin, NoRoom}
use Rattle.sheets.specs.Resolving.{arrays}
use Rattle.linear.proofs.Streams.{some_of, none_of, sig_as, out_many, out_sig, out_params, out_marks, out_count, out_summands, in_table}
use Rattle.linear.proofs.write_stream.Goals as goal

pub returns-then-total-gt-MAX_EQUATIONS : goal.returns-then-total-gt-MAX_EQUATIONS
unfolding arrays
returns-then-total-gt-MAX_EQUATIONS c = let a = c.args in let n = a.sheet.now.outline in out_many a.s.now (arrays a.sheet.now a.values.now a.cells.now) a.sheet.now.names n a.out.now c.count_equations-total.result c.count_equations-total.ensures NotWithin a.out.now (omega arith)

pub returns-in_err-a : goal.returns-in_err-a
unfolding arrays
returns-in_err-a c =
    let a = c.args in
    let n = a.sheet.now.outline in
    let p = err_from_is_err_and c.from_residual.result c.from_residual.ensures.1 in
    let z = none_of c.put_signature.result NoRoom _ c.in_err-a.ensures.value in
    rw (p.1, p.2, z.1) (out_sig a.s.now (arrays a.sheet.now a.values.now a.cells.now) a.sheet.now.names n a.out.now c.count_equations-total.result c.count_equations-total.ensures c.put_signature.new.out (sig_as a.s.now (arrays a.sheet.now a.values.now a.cells.now) a.sheet.now.names n a.out.now c.saturating_sub.result c.put_signature.result None c.put_signature.new.out c.saturating_sub.ensures z.0 c.put_signature.ensures))

pub returns-then-p-gt-MAX_EQUATIONS : goal.returns-then-p-gt-MAX_EQUATIONS
unfolding arrays
returns-then-p-gt-MAX_EQUATIONS c = let a = c.args in let n = a.sheet.now.outline in out_count a.s.now (arrays a.sheet.now a.values.now a.cells.now) a.sheet.now.names n a.out.now c.count_equations-total.result c.count_equations-total.ensures (let i = c.if-total-gt-MAX_EQUATIONS in omega arith) a.rows.now (let z = c.requires.1 in omega arith) c.in_ok-a.a c.put_signature.new.out (sig_as a.s.now (arrays a.sheet.now a.values.now a.cells.now) a.sheet.now.names n a.out.now c.saturating_sub.result c.put_signature.result (Some c.in_ok-a.a) c.put_signature.new.out c.saturating_sub.ensures (some_of c.put_signature.result NoRoom c.in_ok-a.a c.in_ok-a.ensures.value) c.put_signature.ensures) c.put_param_lists-p.result c.put_param_lists-p.new.rows c.put_param_lists-p.new.out c.put_param_lists-p.ensures NotWithin (omega arith)

pub returns-then-not-few_marks : goal.returns-then-not-few_marks
unfolding arrays
returns-then-not-few_marks c = let a = c.args in let n = a.sheet.now.outline in out_marks a.s.now (arrays a.sheet.now a.values.now a.cells.now) a.sheet.now.names n a.out.now c.count_equations-total.result c.count_equations-total.ensures (let i = c.if-total-gt-MAX_EQUATIONS in omega arith) a.rows.now (let z = c.requires.1 in omega arith) c.in_ok-a.a c.put_signature.new.out (sig_as a.s.now (arrays a.sheet.now a.values.now a.cells.now) a.sheet.now.names n a.out.now c.saturating_sub.result c.put_signature.result (Some c.in_ok-a.a) c.put_signature.new.out c.saturating_sub.ensures (some_of c.put_signature.result NoRoom c.in_ok-a.a c.in_ok-a.ensures.value) c.put_signature.ensures) c.put_param_lists-p.result c.put_param_lists-p.new.rows c.put_param_lists-p.new.out c.put_param_lists-p.ensures NotWithin (said_no c.few_marks.result c.few_marks.ensures c.if-not-few_marks.true)

pub returns-in_err-w : goal.returns-in_err-w
unfolding arrays
returns-in_err-w c =
    let a = c.args in
    let n = a.sheet.now.outline in
    let p = err_from_is_err_and c.from_residual-in_err-w.result c.from_residual-in_err-w.ensures.1 in
    let z = none_of c.put_param_lists-p.result.w NoRoom _ c.in_err-w.ensures.value in
    rw (p.1, p.2, z.1) (out_params a.s.now (arrays a.sheet.now a.values.now a.cells.now) a.sheet.now.names n a.out.now c.count_equations-total.result c.count_equations-total.ensures (let i = c.if-total-gt-MAX_EQUATIONS in omega arith) a.rows.now (let z = c.requires.1 in omega arith) c.in_ok-a.a c.put_signature.new.out (sig_as a.s.now (arrays a.sheet.now a.values.now a.cells.now) a.sheet.now.names n a.out.now c.saturating_sub.result c.put_signature.result (Some c.in_ok-a.a) c.put_signature.new.out c.saturating_sub.ensures (some_of c.put_signature.result NoRoom c.in_ok-a.a c.in_ok-a.ensures.value) c.put_signature.ensures) c.put_param_lists-p.result c.put_param_lists-p.new.rows c.put_param_lists-p.new.out c.put_param_lists-p.ensures z.0)

pub returns-in_err-d : goal.returns-in_err-d
unfolding arrays
returns-in_err-d c =
    let a = c.args in
    let n = a.sheet.now.outline in
    let p = err_from_is_err_and c.from_residual-in_err-d.result c.from_residual-in_err-d.ensures.1 in
    rw (p.1, p.2) (out_summands a.s.now (arrays a.sheet.now a.values.now a.cells.now) a.sheet.now.names n a.out.now c.count_equations-total.result c.count_equations-total.ensures (let i = c.if-total-gt-MAX_EQUATIONS in omega arith) a.rows.now (let z = c.requires.1 in omega arith) c.in_ok-a.a c.put_signature.new.out (sig_as a.s.now (arrays a.sheet.now a.values.now a.cells.now) a.sheet.now.names n a.out.now c.saturating_sub.result c.put_signature.result (Some c.in_ok-a.a) c.put_signature.new.out c.saturating_sub.ensures (some_of c.put_signature.result NoRoom c.in_ok-a.a c.in_ok-a.ensures.value) c.put_signature.ensures) c.put_param_lists-p.result c.put_param_lists-p.new.rows c.put_param_lists-p.new.out c.put_param_lists-p.ensures c.in_ok-w.w (some_of c.put_param_lists-p.result.w NoRoom c.in_ok-w.w c.in_ok-w.ensures.value) _ c.put_summands.new.out c.in_err-d.ensures)

pub returns : goal.returns
unfolding arrays
returns c =
    let a = c.args in
    let n = a.sheet.now.outline in
    rw c.ok_or-3.ensures.value (in_table a.s.now (arrays a.sheet.now a.values.now a.cells.now) a.sheet.now.names n a.out.now c.count_equations-total.result c.count_equations-total.ensures (let i = c.if-total-gt-MAX_EQUATIONS in omega arith) a.rows.now (let z = c.requires.1 in omega arith) c.in_ok-a.a c.put_signature.new.out (sig_as a.s.now (arrays a.sheet.now a.values.now a.cells.now) a.sheet.now.names n a.out.now c.saturating_sub.result c.put_signature.result (Some c.in_ok-a.a) c.put_signature.new.out c.saturating_sub.ensures (some_of c.put_signature.result NoRoom c.in_ok-a.a c.in_ok-a.ensures.value) c.put_signature.ensures) c.put_param_lists-p.result c.put_param_lists-p.new.rows c.put_param_lists-p.new.out c.put_param_lists-p.ensures c.in_ok-w.w (some_of c.put_param_lists-p.result.w NoRoom c.in_ok-w.w c.in_ok-w.ensures.value) c.in_ok-d.d c.put_summands.new.out c.in_ok-d.ensures c.put_start.result c.put_start.new.out c.requires.2 (said_yes c.few_marks.result c.few_marks.ensures c.if-not-few_marks.false) c.put_start.ensures)
