-- `lexer::token::numeral`: no leading zero, and the capped value.
use mathlib.Core.Logic.{inl, inr}
use native.Mathlib.Omega.{arith}
use Rattle.pcrl.specs.Tokens.{value_of}
use Rattle.lexer.proofs.Reading.{reads_zero, reads_over, reads_numeral, capped_low}
use Rattle.lexer.proofs.token.numeral.Goals.{else-t-ne1-via-then-t-ne1+else-peek-le48, else-t-ne1-via-else-t-ne1}
use Rattle.lexer.proofs.token.numeral.Goals as goal

pub returns-then-peek-le48-clause-reads : goal.returns-then-peek-le48-clause-reads
returns-then-peek-le48-clause-reads c = λ s. reads_zero s c.args.t.now c.if-t-ne1.true (omega arith)

pub returns-in_err-v-clause-reads : goal.returns-in_err-v-clause-reads
returns-in_err-v-clause-reads c = rw c.from_residual.ensures (λ s. reads_over s c.args.t.now (elim c.else-t-ne1.branch [ else-t-ne1-via-then-t-ne1+else-peek-le48 w ↦ inl (omega arith) | else-t-ne1-via-else-t-ne1 w ↦ inr w.if-t-ne1.false ]) c.in_err-v.ensures)

pub overflow_add-result : goal.overflow_add-result
overflow_add-result c = omega (arith, capped_low c.in_ok-v.v (value_of 0 c.args.t.now) c.in_ok-v.ensures)

pub returns-clause-reads : goal.returns-clause-reads
returns-clause-reads c = λ s. reads_numeral s c.args.t.now (elim c.else-t-ne1.branch [ else-t-ne1-via-then-t-ne1+else-peek-le48 w ↦ inl (omega arith) | else-t-ne1-via-else-t-ne1 w ↦ inr w.if-t-ne1.false ]) c.in_ok-v.v c.in_ok-v.ensures
