-- Nothing, or the condition and delta.
use native.Mathlib.Omega.{arith}
use Rattle.clauses.proofs.Upto.{wrote_ends, ends_none, ends_more}
use Rattle.clauses.proofs.ConditionLaws.{second_put_none, second_put_whole}
use Rattle.clauses.proofs.put_second.Goals as goal

pub returns-then-peek-eq0 : goal.returns-then-peek-eq0
returns-then-peek-eq0 c = let test = c.if-peek-eq0 in let room = c.requires.0 in
    record { ends = ends_none room; cond_put = second_put_none _ _ _ _ _ _ room c.peek.result c.peek.ensures (omega arith) }

pub returns : goal.returns
returns c = let test = c.if-peek-eq0 in let w = c.put_bytes.ensures in let d = c.put_condition-a.ensures in
    record { ends = ends_more d.ends (wrote_ends w); cond_put = second_put_whole _ _ _ _ _ _ c.requires.0 c.peek.result c.peek.ensures _ _ _ _ (λ e. omega arith) d.cond_put w }
