-- Nothing, or delta and the condition.
use native.Mathlib.Omega.{arith}
use Rattle.clauses.proofs.Upto.{wrote_ends, ends_none, ends_more}
use Rattle.clauses.proofs.ConditionLaws.{first_put_none, first_put_whole}
use Rattle.clauses.proofs.put_first.Goals as goal

pub returns-then-peek-ne0 : goal.returns-then-peek-ne0
returns-then-peek-ne0 c = let test = c.if-peek-ne0 in let room = c.requires.0 in
    record { ends = ends_none room; cond_put = first_put_none _ _ _ _ _ _ room c.peek.result c.peek.ensures (λ e. omega arith) }

pub returns : goal.returns
returns c = let test = c.if-peek-ne0 in let w = c.put_bytes-a.ensures in let d = c.put_condition.ensures in
    record { ends = ends_more (wrote_ends w) d.ends; cond_put = first_put_whole _ _ _ _ _ _ c.requires.0 c.peek.result c.peek.ensures _ _ _ _ (omega arith) w d.cond_put }
