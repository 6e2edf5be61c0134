-- `sheet::init_line` meets its contract: a call whose names all have brackets is the definition's init line.
use native.Mathlib.Omega.{arith}
use Rattle.parser.proofs.Reaching.{reaches, some_answer, no_answer, none_answer}
use Rattle.parser.proofs.InitRead.{init_lost, init_read, init_refused}
use Rattle.parser.proofs.sheet.init_line.Goals as goal

pub returns-in_err-a-clause-read : goal.returns-in_err-a-clause-read
returns-in_err-a-clause-read c =
    rw c.from_residual.ensures (λ s f l. no_answer (omega arith) (init_lost s c.args.toks.now c.args.at c.put-v.ensures (λ g k. reaches (c.in_err-a.ensures.read s g k)) (omega arith) f l))

pub returns-then-not-all_called-clause-read : goal.returns-then-not-all_called-clause-read
returns-then-not-all_called-clause-read c =
    λ s f l. none_answer (init_refused s c.args.toks.now c.args.at c.put-v.ensures (λ g k. reaches (c.in_ok-a.ensures.read s g k)) (omega (arith, c.in_ok-a.ensures.ahead)) (c.all_called.ensures s) c.if-not-all_called.true (omega arith) f l)

pub returns-clause-read : goal.returns-clause-read
returns-clause-read c =
    λ s f l. some_answer _ (omega (arith, c.in_ok-a.ensures.ahead)) (init_read s c.args.toks.now c.args.at c.put-v.ensures (λ g k. reaches (c.in_ok-a.ensures.read s g k)) (omega (arith, c.in_ok-a.ensures.ahead)) (c.all_called.ensures s) c.if-not-all_called.false f l)
