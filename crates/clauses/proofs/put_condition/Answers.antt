-- A condition that stands in the stream begins inside it, so its term stands behind the wanted value.
use mathlib.Core.Path.{ap}
use Prim.Native.Nat.{ℕ, ◌+◌}
use Rattle.clauses.proofs.Upto.{wrote_ends, ends_more, within_ends}
use Rattle.clauses.proofs.ConditionLaws.{condition_put}
use Rattle.clauses.proofs.put_condition.Goals as goal

pub returns : goal.returns
returns c = let first = c.put_bytes-a.ensures in let term = c.put_term-r.ensures in let last = c.put_bytes.ensures in
    record { ends = ends_more (ends_more (wrote_ends first) (within_ends term.within)) (wrote_ends last); cond_put = condition_put _ _ _ _ _ _ c.requires.0 _ _ _ _ _ _ _ (ap (λ (x : ℕ). x + 1) c.min-b.ensures) first term.puts last }
