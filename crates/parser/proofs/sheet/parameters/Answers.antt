-- `sheet::parameters` meets its contract. The invariant: the reader goes on from a later place.
use mathlib.Core.Path.{sym, ◌∙◌}
use mathlib.Core.List.{[]}
use Prim.Native.Nat.{◌+◌}
use native.Mathlib.Omega.{arith}
use lib.ListN.{length}
use Rattle.parser.proofs.Reaching.{past_end, past_meets, put_any, meets, reaches, answer_at, no_answer}
use Rattle.parser.proofs.Going.{goes_then}
use Rattle.parser.proofs.LineLaws.{parameters_last, parameters_more}
use Rattle.parser.proofs.sheet.parameters.Goals as goal

pub returns-in_err-x-clause-read : goal.returns-in_err-x-clause-read
returns-in_err-x-clause-read c =
    rw c.from_residual.ensures (λ s f l. no_answer (omega arith) ((c.loop-x.invariant.2 s).on (parameters_last s c.args.toks.now c.loop-x.from {at₃ = length c.args.toks.now + 1} {at₄ = length c.args.toks.now + 1} {w₄ = 0} {o₄ = []} c.put-u.ensures (omega arith) (reaches (c.in_err-x.ensures.read s 1 (omega arith))) (omega arith) (past_meets c.args.toks.now 58 (omega arith)) (omega arith) (λ i. absurd (omega arith)) (past_end c.args.toks.now 44 (omega arith)) (omega arith) (past_meets c.args.toks.now 41 (omega arith)) (put_any _ _ 18)) f l))

pub returns-in_err-c-clause-read : goal.returns-in_err-c-clause-read
returns-in_err-c-clause-read c =
    rw c.from_residual-in_err-c.ensures (λ s f l. no_answer (omega arith) ((c.loop-x.invariant.2 s).on (parameters_last s c.args.toks.now c.loop-x.from {at₄ = length c.args.toks.now + 1} {w₄ = 0} {o₄ = []} c.put-u.ensures (omega (arith, c.in_ok-x.ensures.ahead)) (reaches (c.in_ok-x.ensures.read s 1 (omega arith))) (omega (arith, c.in_ok-x.ensures.ahead)) (meets c.in_err-c.ensures.read) (omega arith) (λ i. absurd (omega arith)) (past_end c.args.toks.now 44 (omega arith)) (omega arith) (past_meets c.args.toks.now 41 (omega arith)) (put_any _ _ 18)) f l))

pub returns-in_err-d-clause-read : goal.returns-in_err-d-clause-read
returns-in_err-d-clause-read c =
    rw c.from_residual-in_err-d.ensures (λ s f l. no_answer (omega arith) ((c.loop-x.invariant.2 s).on (parameters_last s c.args.toks.now c.loop-x.from c.put-u.ensures (omega (arith, c.in_ok-x.ensures.ahead)) (reaches (c.in_ok-x.ensures.read s 1 (omega arith))) (omega (arith, c.in_ok-x.ensures.ahead, c.in_ok-c.ensures.ahead)) (meets c.in_ok-c.ensures.read) (omega arith) (λ i. (reaches (c.in_err-d.ensures.read s 1 (omega arith)))) (past_end c.args.toks.now 44 (omega arith)) (omega arith) (past_meets c.args.toks.now 41 (omega arith)) (put_any _ _ 18)) f l))

pub returns-in_err-at-clause-read : goal.returns-in_err-at-clause-read
returns-in_err-at-clause-read c =
    rw c.from_residual-in_err-at.ensures (λ s f l. no_answer (omega arith) ((c.loop-x.invariant.2 s).on (parameters_last s c.args.toks.now c.loop-x.from c.put-u.ensures (omega (arith, c.in_ok-x.ensures.ahead)) (reaches (c.in_ok-x.ensures.read s 1 (omega arith))) (omega (arith, c.in_ok-x.ensures.ahead, c.in_ok-c.ensures.ahead)) (meets c.in_ok-c.ensures.read) (omega (arith, c.in_ok-d.ensures.ahead)) (λ i. (reaches (c.in_ok-d.ensures.read s 1 (omega arith)))) (λ e. c.if-peek-ne-COMMA.true (c.peek.ensures ∙ e)) (omega (arith, c.in_ok-d.ensures.ahead)) (meets c.in_err-at.ensures.read) (put_any _ _ 18)) f l))

pub returns-then-peek-ne-COMMA-clause-read : goal.returns-then-peek-ne-COMMA-clause-read
returns-then-peek-ne-COMMA-clause-read c =
    λ s f l. answer_at c.ended.result c.ended.ensures.place (omega (arith, c.in_ok-at.ensures.ahead)) ((c.loop-x.invariant.2 s).on (parameters_last s c.args.toks.now c.loop-x.from c.put-u.ensures (omega (arith, c.in_ok-x.ensures.ahead)) (reaches (c.in_ok-x.ensures.read s 1 (omega arith))) (omega (arith, c.in_ok-x.ensures.ahead, c.in_ok-c.ensures.ahead)) (meets c.in_ok-c.ensures.read) (omega (arith, c.in_ok-d.ensures.ahead)) (λ i. (reaches (c.in_ok-d.ensures.read s 1 (omega arith)))) (λ e. c.if-peek-ne-COMMA.true (c.peek.ensures ∙ e)) (omega (arith, c.in_ok-d.ensures.ahead, c.in_ok-at.ensures.ahead)) (meets c.in_ok-at.ensures.read) c.ended.ensures.cell) f l)

pub loop-x-preserved : goal.loop-x-preserved
loop-x-preserved c = (
  omega (arith, c.in_ok-x.ensures.ahead, c.in_ok-c.ensures.ahead, c.in_ok-d.ensures.ahead),
  omega (arith, c.loop-x.invariant.1, c.put-u.auto.out, c.name.auto.out, c.name-in-loop-x.auto.out),
  λ s. goes_then (c.loop-x.invariant.2 s) (record { on = parameters_more s c.args.toks.now c.loop-x.from c.put-u.ensures (omega (arith, c.in_ok-x.ensures.ahead)) (reaches (c.in_ok-x.ensures.read s 1 (omega arith))) (omega (arith, c.in_ok-x.ensures.ahead, c.in_ok-c.ensures.ahead)) (meets c.in_ok-c.ensures.read) (omega (arith, c.in_ok-d.ensures.ahead)) (λ i. (reaches (c.in_ok-d.ensures.read s 1 (omega arith)))) (sym c.peek.ensures ∙ c.if-peek-ne-COMMA.false) }),
)
