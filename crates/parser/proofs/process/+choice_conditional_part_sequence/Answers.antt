-- `process::choice`, `conditional`, `sequence` and `part` meet their contracts, each way through by a law of `ProcessLaws`.
use mathlib.Core.Path.{sym, ◌∙◌}
use mathlib.Core.List.{[]}
use Prim.Native.Nat.{◌+◌}
use native.Mathlib.Omega.{arith}
use lib.ListN.{length}
use Rattle.laws.specs.Places.{get_or_positive}
use Rattle.parser.proofs.Reaching.{closed_answer, past_end, past_meets, meets, reaches, after, answer, some_answer, no_answer, none_answer}
use Rattle.parser.proofs.Going.{goes_then}
use Rattle.parser.proofs.ProcessLaws.{choice_only, choice_plus, conditional_plain, conditional_cond, sequence_last, sequence_then, part_delta, part_tau, part_sum, part_group, part_named}
use Rattle.parser.proofs.process.+choice_conditional_part_sequence.Goals as goal

pub choice-returns-in_err-a-clause-read : goal.choice-returns-in_err-a-clause-read
choice-returns-in_err-a-clause-read t c =
    rw c.from_residual.ensures (λ s f l. no_answer (omega arith) ((c.loop-a.invariant.1 s).on (choice_only s c.args.toks.now c.loop-a.from c.put-u.ensures (omega arith) (λ g k. reaches (c.in_err-a.ensures.read s g k)) (past_end c.args.toks.now 43 (omega arith))) f l))

pub choice-returns-then-peek-ne-PLUS-clause-read : goal.choice-returns-then-peek-ne-PLUS-clause-read
choice-returns-then-peek-ne-PLUS-clause-read t c =
    λ s f l. some_answer _ (omega (arith, c.in_ok-a.ensures.ahead)) ((c.loop-a.invariant.1 s).on (choice_only s c.args.toks.now c.loop-a.from c.put-u.ensures (omega (arith, c.in_ok-a.ensures.ahead)) (λ g k. reaches (c.in_ok-a.ensures.read s g k)) (λ e. c.if-peek-ne-PLUS.true (c.peek.ensures ∙ e))) f l)

pub choice-loop-a-preserved : goal.choice-loop-a-preserved
choice-loop-a-preserved t c = (
  omega (arith, c.in_ok-a.ensures.ahead),
  λ s. goes_then (c.loop-a.invariant.1 s) (record { on = choice_plus s c.args.toks.now c.loop-a.from c.put-u.ensures (omega (arith, c.in_ok-a.ensures.ahead)) (λ g k. reaches (c.in_ok-a.ensures.read s g k)) (sym c.peek.ensures ∙ c.if-peek-ne-PLUS.false) c.put.ensures }),
)

pub sequence-returns-in_err-a-clause-read : goal.sequence-returns-in_err-a-clause-read
sequence-returns-in_err-a-clause-read t c =
    rw c.from_residual.ensures (λ s f l. no_answer (omega arith) ((c.loop-a.invariant.1 s).on (sequence_last s c.args.toks.now c.loop-a.from c.put-u.ensures (omega arith) (λ g k. reaches (c.in_err-a.ensures.read s g k)) (past_end c.args.toks.now 46 (omega arith))) f l))

pub sequence-returns-then-peek-ne-DOT-clause-read : goal.sequence-returns-then-peek-ne-DOT-clause-read
sequence-returns-then-peek-ne-DOT-clause-read t c =
    λ s f l. some_answer _ (omega (arith, c.in_ok-a.ensures.ahead)) ((c.loop-a.invariant.1 s).on (sequence_last s c.args.toks.now c.loop-a.from c.put-u.ensures (omega (arith, c.in_ok-a.ensures.ahead)) (λ g k. reaches (c.in_ok-a.ensures.read s g k)) (λ e. c.if-peek-ne-DOT.true (c.peek.ensures ∙ e))) f l)

pub sequence-loop-a-preserved : goal.sequence-loop-a-preserved
sequence-loop-a-preserved t c = (
  omega (arith, c.in_ok-a.ensures.ahead),
  λ s. goes_then (c.loop-a.invariant.1 s) (record { on = sequence_then s c.args.toks.now c.loop-a.from c.put-u.ensures (omega (arith, c.in_ok-a.ensures.ahead)) (λ g k. reaches (c.in_ok-a.ensures.read s g k)) (sym c.peek.ensures ∙ c.if-peek-ne-DOT.false) c.put.ensures }),
)

pub conditional-returns-in_err-a-clause-read : goal.conditional-returns-in_err-a-clause-read
conditional-returns-in_err-a-clause-read t c =
    rw c.from_residual.ensures (λ s f l. no_answer (omega arith) (conditional_plain s c.args.toks.now c.args.at c.put-v.ensures (omega arith) (λ g k. reaches (c.in_err-a.ensures.read s g k)) (past_end c.args.toks.now 129 (omega arith)) f l))

pub conditional-returns-then-peek-ne-IF-clause-read : goal.conditional-returns-then-peek-ne-IF-clause-read
conditional-returns-then-peek-ne-IF-clause-read t c =
    λ s f l. some_answer _ (omega (arith, c.in_ok-a.ensures.ahead)) (conditional_plain s c.args.toks.now c.args.at c.put-v.ensures (omega (arith, c.in_ok-a.ensures.ahead)) (λ g k. reaches (c.in_ok-a.ensures.read s g k)) (λ e. c.if-peek-ne-IF.true (c.peek.ensures ∙ e)) f l)

pub conditional-returns-in_err-d-clause-read : goal.conditional-returns-in_err-d-clause-read
conditional-returns-in_err-d-clause-read t c =
    rw c.from_residual-in_err-d.ensures (λ s f l. none_answer (conditional_cond s c.args.toks.now c.args.at c.put-v.ensures (omega (arith, c.in_ok-a.ensures.ahead)) (λ g k. reaches (c.in_ok-a.ensures.read s g k)) (sym c.peek.ensures ∙ c.if-peek-ne-IF.false) {at₅ = length c.args.toks.now + 1} {at₆ = length c.args.toks.now + 1} {w₆ = 0} {o₆ = []} c.put.ensures (omega arith) (λ g k. reaches (c.in_err-d.ensures.read s g k)) (omega arith) (past_meets c.args.toks.now 130 (omega arith)) (omega arith) (λ i. absurd (omega arith)) f l))

pub conditional-returns-in_err-e-clause-read : goal.conditional-returns-in_err-e-clause-read
conditional-returns-in_err-e-clause-read t c =
    rw c.from_residual-in_err-e.ensures (λ s f l. none_answer (conditional_cond s c.args.toks.now c.args.at c.put-v.ensures (omega (arith, c.in_ok-a.ensures.ahead)) (λ g k. reaches (c.in_ok-a.ensures.read s g k)) (sym c.peek.ensures ∙ c.if-peek-ne-IF.false) {at₆ = length c.args.toks.now + 1} {w₆ = 0} {o₆ = []} c.put.ensures (omega (arith, c.in_ok-d.ensures.ahead)) (λ g k. reaches (c.in_ok-d.ensures.read s g k)) (omega (arith, c.in_ok-d.ensures.ahead)) (meets c.in_err-e.ensures.read) (omega arith) (λ i. absurd (omega arith)) f l))

pub conditional-returns-clause-read : goal.conditional-returns-clause-read
conditional-returns-clause-read t c =
    λ s f l. answer _ c.sequence-2.result c.sequence-2.ensures.ahead (conditional_cond s c.args.toks.now c.args.at c.put-v.ensures (omega (arith, c.in_ok-a.ensures.ahead)) (λ g k. reaches (c.in_ok-a.ensures.read s g k)) (sym c.peek.ensures ∙ c.if-peek-ne-IF.false) c.put.ensures (omega (arith, c.in_ok-d.ensures.ahead)) (λ g k. reaches (c.in_ok-d.ensures.read s g k)) (omega (arith, c.in_ok-d.ensures.ahead, c.in_ok-e.ensures.ahead)) (meets c.in_ok-e.ensures.read) (after _ _ c.sequence-2.result c.sequence-2.ensures.ahead) (λ i. (λ g k. reaches (c.sequence-2.ensures.read s g k))) f l)

pub part-returns-then-t-eq-DELTA-clause-read : goal.part-returns-then-t-eq-DELTA-clause-read
part-returns-then-t-eq-DELTA-clause-read t c =
    let l = get_or_positive c.args.toks.now c.args.at (omega arith) in
    λ s f k. some_answer _ (omega arith) (part_delta s c.args.toks.now c.args.at c.put.ensures (sym c.peek-t.ensures ∙ c.if-t-eq-DELTA.true) f k)

pub part-returns-then-t-eq-TAU-clause-read : goal.part-returns-then-t-eq-TAU-clause-read
part-returns-then-t-eq-TAU-clause-read t c =
    let l = get_or_positive c.args.toks.now c.args.at (omega arith) in
    λ s f k. some_answer _ (omega arith) (part_tau s c.args.toks.now c.args.at (λ e. c.if-t-eq-DELTA.false (c.peek-t.ensures ∙ e)) c.put-then-t-eq-TAU.ensures (sym c.peek-t.ensures ∙ c.if-t-eq-TAU.true) f k)

pub part-returns-in_err-h-clause-read : goal.part-returns-in_err-h-clause-read
part-returns-in_err-h-clause-read t c =
    rw c.from_residual.ensures (λ s f l. none_answer (part_sum s c.args.toks.now c.args.at (λ e. c.if-t-eq-DELTA.false (c.peek-t.ensures ∙ e)) (λ e. c.if-t-eq-TAU.false (c.peek-t.ensures ∙ e)) {at₃ = length c.args.toks.now + 1} {w₃ = 0} {at₄ = length c.args.toks.now + 1} {o₃ = []} c.put-v.ensures (sym c.peek-t.ensures ∙ c.if-t-eq-SUM.true) (omega arith) (reaches (c.in_err-h.ensures.read s 1 (omega arith))) (omega arith) (λ i. absurd (omega arith)) (omega arith) (past_meets c.args.toks.now 41 (omega arith)) f l))

pub part-returns-in_err-a-clause-read : goal.part-returns-in_err-a-clause-read
part-returns-in_err-a-clause-read t c =
    rw c.from_residual-in_err-a.ensures (λ s f l. no_answer (omega arith) (part_sum s c.args.toks.now c.args.at (λ e. c.if-t-eq-DELTA.false (c.peek-t.ensures ∙ e)) (λ e. c.if-t-eq-TAU.false (c.peek-t.ensures ∙ e)) c.put-v.ensures (sym c.peek-t.ensures ∙ c.if-t-eq-SUM.true) (omega (arith, c.in_ok-h.ensures.ahead)) (reaches (c.in_ok-h.ensures.read s 1 (omega arith))) (omega arith) (λ i. (λ g k. reaches (c.in_err-a.ensures.read s g k))) (omega arith) (past_meets c.args.toks.now 41 (omega arith)) f l))

pub part-returns-then-t-eq-SUM-clause-read : goal.part-returns-then-t-eq-SUM-clause-read
part-returns-then-t-eq-SUM-clause-read t c =
    λ s f l. closed_answer c.closed.ensures.read (λ e b x. part_sum s c.args.toks.now c.args.at (λ e. c.if-t-eq-DELTA.false (c.peek-t.ensures ∙ e)) (λ e. c.if-t-eq-TAU.false (c.peek-t.ensures ∙ e)) c.put-v.ensures (sym c.peek-t.ensures ∙ c.if-t-eq-SUM.true) (omega (arith, c.in_ok-h.ensures.ahead)) (reaches (c.in_ok-h.ensures.read s 1 (omega arith))) (omega (arith, c.in_ok-a.ensures.ahead)) (λ i. (λ g k. reaches (c.in_ok-a.ensures.read s g k))) b x f l)

pub part-returns-in_err-a-2-clause-read : goal.part-returns-in_err-a-2-clause-read
part-returns-in_err-a-2-clause-read t c =
    rw c.from_residual-in_err-a-2.ensures (λ s f l. no_answer (omega arith) (part_group s c.args.toks.now c.args.at (λ e. c.if-t-eq-DELTA.false (c.peek-t.ensures ∙ e)) (λ e. c.if-t-eq-TAU.false (c.peek-t.ensures ∙ e)) (λ e. c.if-t-eq-SUM.false (c.peek-t.ensures ∙ e)) c.put-v-then-t-eq-OPEN.ensures (sym c.peek-t.ensures ∙ c.if-t-eq-OPEN.true) (omega arith) (λ g k. reaches (c.in_err-a-2.ensures.read s g k)) (omega arith) (past_meets c.args.toks.now 41 (omega arith)) f l))

pub part-returns-then-t-eq-OPEN-clause-read : goal.part-returns-then-t-eq-OPEN-clause-read
part-returns-then-t-eq-OPEN-clause-read t c =
    λ s f l. closed_answer c.closed-then-t-eq-OPEN.ensures.read (λ e b x. part_group s c.args.toks.now c.args.at (λ e. c.if-t-eq-DELTA.false (c.peek-t.ensures ∙ e)) (λ e. c.if-t-eq-TAU.false (c.peek-t.ensures ∙ e)) (λ e. c.if-t-eq-SUM.false (c.peek-t.ensures ∙ e)) c.put-v-then-t-eq-OPEN.ensures (sym c.peek-t.ensures ∙ c.if-t-eq-OPEN.true) (omega (arith, c.in_ok-a-2.ensures.ahead)) (λ g k. reaches (c.in_ok-a-2.ensures.read s g k)) b x f l)

pub part-returns-clause-read : goal.part-returns-clause-read
part-returns-clause-read t c =
    λ s f l. answer _ c.named.result c.named.ensures.ahead (part_named s c.args.toks.now c.args.at (λ e. c.if-t-eq-DELTA.false (c.peek-t.ensures ∙ e)) (λ e. c.if-t-eq-TAU.false (c.peek-t.ensures ∙ e)) (λ e. c.if-t-eq-SUM.false (c.peek-t.ensures ∙ e)) (λ e. c.if-t-eq-OPEN.false (c.peek-t.ensures ∙ e)) (λ g k. reaches (c.named.ensures.read s g k)) f l)
