-- The readers of data meet their contracts, each way through by a law of `DataLaws` or `Operands`; recursion goes through brackets, and the tokens left fall.
use mathlib.Core.Path.{refl, sym, ◌∙◌}
use Prim.Native.Nat.{◌+◌}
use lib.ListN.{length}
use native.Mathlib.Omega.{arith}
use Rattle.laws.specs.Places.{get_or_positive}
use Rattle.parser.proofs.Reaching.{closed_answer, past_end, past_meets, put_any, reaches, answer, some_answer, no_answer}
use Rattle.parser.proofs.Going.{goes_then}
use Rattle.parser.proofs.Operands.{joins_then, or_last, or_more, data_read, and_last, and_more, conjunction_read}
use Rattle.parser.proofs.DataLaws.{comparison_alone, comparison_equal, negation_atom, negation_not, atom_nest, atom_none, atom_value, atom_variable, atom_apply, list_one, list_more}
use Rattle.parser.proofs.data.+atom_comparison_conjunction_data_list_data_term_negation.Goals as goal

pub atom-returns-in_err-a-clause-read : goal.atom-returns-in_err-a-clause-read
atom-returns-in_err-a-clause-read t c =
    rw c.from_residual.ensures (λ s f l. no_answer (omega arith) (atom_nest s c.args.toks.now c.args.at (sym c.peek-t.ensures ∙ c.if-t-eq-OPEN.true) c.put-v.ensures (omega arith) (λ g k. reaches (c.in_err-a.ensures.read s g k)) (omega arith) (past_meets c.args.toks.now 41 (omega arith)) f l))

pub atom-returns-then-t-eq-OPEN-clause-read : goal.atom-returns-then-t-eq-OPEN-clause-read
atom-returns-then-t-eq-OPEN-clause-read t c =
    λ s f l. closed_answer c.closed.ensures.read (λ e b x. atom_nest s c.args.toks.now c.args.at (sym c.peek-t.ensures ∙ c.if-t-eq-OPEN.true) c.put-v.ensures (omega (arith, c.in_ok-a.ensures.ahead)) (λ g k. reaches (c.in_ok-a.ensures.read s g k)) b x f l)

pub atom-returns-then-t-lt-FIRST_NUMERAL-clause-read : goal.atom-returns-then-t-lt-FIRST_NUMERAL-clause-read
atom-returns-then-t-lt-FIRST_NUMERAL-clause-read t c =
    λ s f l. no_answer (omega arith) (atom_none s c.args.toks.now c.args.at (λ e. c.if-t-eq-OPEN.false (c.peek-t.ensures ∙ e)) {end = length c.args.toks.now + 1} {w' = 0} {o' = c.args.out.now} (omega arith) (omega arith) f l)

pub atom-returns-then-t-lt-FIRST_NAME-clause-read : goal.atom-returns-then-t-lt-FIRST_NAME-clause-read
atom-returns-then-t-lt-FIRST_NAME-clause-read t c =
    let l = get_or_positive c.args.toks.now c.args.at (omega arith) in
    λ s f k. some_answer _ (omega arith) (atom_value s c.args.toks.now c.args.at c.peek-t.ensures c.put.ensures c.put-v-then-t-lt-FIRST_NAME.ensures (omega arith) (omega arith) f k)

pub atom-returns-then-peek-ne-OPEN-clause-read : goal.atom-returns-then-peek-ne-OPEN-clause-read
atom-returns-then-peek-ne-OPEN-clause-read t c =
    let l = get_or_positive c.args.toks.now c.args.at (omega arith) in
    λ s f k. some_answer _ (omega arith) (atom_variable s c.args.toks.now c.args.at c.peek-t.ensures c.put-d.ensures c.put-x.ensures (omega arith) (λ e. c.if-peek-ne-OPEN.true (c.peek.ensures ∙ e)) f k)

pub atom-returns-clause-read : goal.atom-returns-clause-read
atom-returns-clause-read t c =
    λ s f k. answer _ c.data_list.result c.data_list.ensures.ahead (atom_apply s c.args.toks.now c.args.at c.peek-t.ensures c.put-d.ensures c.put-x.ensures (omega arith) (sym c.peek.ensures ∙ c.if-peek-ne-OPEN.false) c.put-2.ensures (λ g k. reaches (c.data_list.ensures.read s g k)) f k)

pub comparison-returns-in_err-a-clause-read : goal.comparison-returns-in_err-a-clause-read
comparison-returns-in_err-a-clause-read t c =
    rw c.from_residual.ensures (λ s f l. no_answer (omega arith) (comparison_alone s c.args.toks.now c.args.at c.put-v.ensures (omega arith) (λ g k. reaches (c.in_err-a.ensures.read s g k)) (past_end c.args.toks.now 131 (omega arith)) f l))

pub comparison-returns-then-peek-ne-SAME-clause-read : goal.comparison-returns-then-peek-ne-SAME-clause-read
comparison-returns-then-peek-ne-SAME-clause-read t c =
    λ s f l. some_answer _ (omega (arith, c.in_ok-a.ensures.ahead)) (comparison_alone s c.args.toks.now c.args.at c.put-v.ensures (omega (arith, c.in_ok-a.ensures.ahead)) (λ g k. reaches (c.in_ok-a.ensures.read s g k)) (λ e. c.if-peek-ne-SAME.true (c.peek.ensures ∙ e)) f l)

pub comparison-returns-clause-read : goal.comparison-returns-clause-read
comparison-returns-clause-read t c =
    λ s f l. answer _ c.negation-2.result c.negation-2.ensures.ahead (comparison_equal s c.args.toks.now c.args.at c.put-v.ensures (omega (arith, c.in_ok-a.ensures.ahead)) (λ g k. reaches (c.in_ok-a.ensures.read s g k)) (sym c.peek.ensures ∙ c.if-peek-ne-SAME.false) c.put.ensures (λ g k. reaches (c.negation-2.ensures.read s g k)) f l)

pub conjunction-returns-in_err-a-clause-read : goal.conjunction-returns-in_err-a-clause-read
conjunction-returns-in_err-a-clause-read t c =
    rw c.from_residual.ensures (λ s f l. no_answer (omega arith) (conjunction_read s c.args.toks.now c.args.at c.put-v.ensures ((c.loop-a.invariant.1 s).on (and_last s c.args.toks.now c.loop-a.from (omega arith) (λ g k. reaches (c.in_err-a.ensures.read s g k)) (past_end c.args.toks.now 132 (omega arith)))) (λ i. absurd (omega arith)) (λ l. refl) (put_any _ c.args.w _) f l))

pub conjunction-returns-then-peek-ne-AND-clause-read : goal.conjunction-returns-then-peek-ne-AND-clause-read
conjunction-returns-then-peek-ne-AND-clause-read t c =
    λ s f l. some_answer _ (omega (arith, c.in_ok-a.ensures.ahead)) (conjunction_read s c.args.toks.now c.args.at c.put-v.ensures ((c.loop-a.invariant.1 s).on (and_last s c.args.toks.now c.loop-a.from (omega (arith, c.in_ok-a.ensures.ahead)) (λ g k. reaches (c.in_ok-a.ensures.read s g k)) (λ e. c.if-peek-ne-AND.true (c.peek.ensures ∙ e)))) (λ i. omega (arith, c.in_ok-a.ensures.ahead)) (λ l. omega (arith, c.counted.ensures (omega arith))) c.put.ensures f l)

pub conjunction-loop-a-preserved : goal.conjunction-loop-a-preserved
conjunction-loop-a-preserved t c =
    let l = get_or_positive c.args.toks.now c.in_ok-a.a.at (omega arith) in (
      omega (arith, c.in_ok-a.ensures.ahead),
      λ s. joins_then (c.loop-a.invariant.1 s) (record { on = and_more s c.args.toks.now c.loop-a.from (omega (arith, c.in_ok-a.ensures.ahead)) (λ g k. reaches (c.in_ok-a.ensures.read s g k)) (sym c.peek.ensures ∙ c.if-peek-ne-AND.false) }),
    )

pub data_term-returns-in_err-a-clause-read : goal.data_term-returns-in_err-a-clause-read
data_term-returns-in_err-a-clause-read t c =
    rw c.from_residual.ensures (λ s f l. no_answer (omega arith) (data_read s c.args.toks.now c.args.at c.put-v.ensures ((c.loop-a.invariant.1 s).on (or_last s c.args.toks.now c.loop-a.from (omega arith) (λ g k. reaches (c.in_err-a.ensures.read s g k)) (past_end c.args.toks.now 133 (omega arith)))) (λ i. absurd (omega arith)) (λ l. refl) (put_any _ c.args.w _) f l))

pub data_term-returns-then-peek-ne-OR-clause-read : goal.data_term-returns-then-peek-ne-OR-clause-read
data_term-returns-then-peek-ne-OR-clause-read t c =
    λ s f l. some_answer _ (omega (arith, c.in_ok-a.ensures.ahead)) (data_read s c.args.toks.now c.args.at c.put-v.ensures ((c.loop-a.invariant.1 s).on (or_last s c.args.toks.now c.loop-a.from (omega (arith, c.in_ok-a.ensures.ahead)) (λ g k. reaches (c.in_ok-a.ensures.read s g k)) (λ e. c.if-peek-ne-OR.true (c.peek.ensures ∙ e)))) (λ i. omega (arith, c.in_ok-a.ensures.ahead)) (λ l. omega (arith, c.counted.ensures (omega arith))) c.put.ensures f l)

pub data_term-loop-a-preserved : goal.data_term-loop-a-preserved
data_term-loop-a-preserved t c =
    let l = get_or_positive c.args.toks.now c.in_ok-a.a.at (omega arith) in (
      omega (arith, c.in_ok-a.ensures.ahead),
      λ s. joins_then (c.loop-a.invariant.1 s) (record { on = or_more s c.args.toks.now c.loop-a.from (omega (arith, c.in_ok-a.ensures.ahead)) (λ g k. reaches (c.in_ok-a.ensures.read s g k)) (sym c.peek.ensures ∙ c.if-peek-ne-OR.false) }),
    )

pub data_list-returns-in_err-a-clause-read : goal.data_list-returns-in_err-a-clause-read
data_list-returns-in_err-a-clause-read t c =
    rw c.from_residual.ensures (λ s f l. no_answer (omega arith) ((c.loop-a.invariant.1 s).on (list_one s c.args.toks.now c.loop-a.from c.put-u.ensures (omega arith) (λ g k. reaches (c.in_err-a.ensures.read s g k)) (past_end c.args.toks.now 44 (omega arith)) (omega arith) (past_meets c.args.toks.now 41 (omega arith))) f l))

pub data_list-returns-then-peek-ne-COMMA-clause-read : goal.data_list-returns-then-peek-ne-COMMA-clause-read
data_list-returns-then-peek-ne-COMMA-clause-read t c =
    λ s f l. closed_answer c.closed.ensures.read (λ e b x. (c.loop-a.invariant.1 s).on (list_one s c.args.toks.now c.loop-a.from c.put-u.ensures (omega (arith, c.in_ok-a.ensures.ahead)) (λ g k. reaches (c.in_ok-a.ensures.read s g k)) (λ e. c.if-peek-ne-COMMA.true (c.peek.ensures ∙ e)) b x) f l)

pub data_list-loop-a-preserved : goal.data_list-loop-a-preserved
data_list-loop-a-preserved t c =
    let l = get_or_positive c.args.toks.now c.in_ok-a.a.at (omega arith) in (
      omega (arith, c.in_ok-a.ensures.ahead),
      λ s. goes_then (c.loop-a.invariant.1 s) (record { on = list_more s c.args.toks.now c.loop-a.from c.put-u.ensures (omega (arith, c.in_ok-a.ensures.ahead)) (λ g k. reaches (c.in_ok-a.ensures.read s g k)) (sym c.peek.ensures ∙ c.if-peek-ne-COMMA.false) c.put.ensures }),
    )

pub negation-loop-out-preserved : goal.negation-loop-out-preserved
negation-loop-out-preserved t c = (
  omega arith,
  λ s. goes_then (c.loop-out.invariant.1 s) (record { on = negation_not s c.args.toks.now c.loop-out.from (sym c.peek.ensures ∙ c.loop-out-test.true) c.put-v.ensures }),
)

pub negation-returns-clause-read : goal.negation-returns-clause-read
negation-returns-clause-read t c =
    λ s f l. answer _ c.atom.result c.atom.ensures.ahead ((c.loop-out.invariant.1 s).on (negation_atom s c.args.toks.now c.loop-out.from (λ e. c.loop-out-test.false (c.peek.ensures ∙ e)) (λ g k. reaches (c.atom.ensures.read s g k))) f l)
