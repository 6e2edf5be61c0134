-- The search from the first assignment on.
use native.Mathlib.Omega.{arith}
use Rattle.std.proofs.lemmas.Result.{IfOk-weaker}
use Rattle.assignments.proofs.Passing.{from_first}
use Rattle.assignments.proofs.one_part.find_in.Goals as goal

pub find_from-requires : goal.find_from-requires
find_from-requires c = let q = c.requires in (q.0, (q.1.0, (q.1.1.0, (q.1.1.1.0, (omega (arith, q.1.1.1.1.0), q.1.1.1.1.1)))))

pub returns : goal.returns
returns c = let r = c.find_from in (IfOk-weaker r.result _ _ (λ at h. omega (arith, h, c.requires.1.1.1.1.0)) r.ensures.0, (r.ensures.1.0, λ l e part. from_first _ _ _ r.result (r.ensures.1.1 l e part)))
