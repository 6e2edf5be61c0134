-- Around the gap, or through all assignments.
use native.Mathlib.Omega.{arith}
use Rattle.std.proofs.lemmas.Option.{MatchOption-at_some}
use Rattle.std.proofs.lemmas.Result.{IfOk-weaker}
use Rattle.assignments.proofs.gaps.find_once.Goals as goal

pub returns-in-Some : goal.returns-in-Some
returns-in-Some c = (c.find_around.ensures.0, (c.find_around.ensures.1.0, λ l m ge te part gapped. c.find_around.ensures.1.1 l m ge te part (MatchOption-at_some _ _ c.in-Some.gap c.in-Some.is gapped)))

pub find_in-requires : goal.find_in-requires
find_in-requires c = let q = c.requires in (q.0, (q.1.0, (q.1.1.0, (q.1.1.1.0, (q.1.1.1.1.0, (q.1.1.1.1.1.0, q.1.1.1.1.1.1.0))))))

pub returns-in-None : goal.returns-in-None
returns-in-None c = (IfOk-weaker c.find_in.result _ _ (λ at h. omega (arith, h)) c.find_in.ensures.0, (c.find_in.ensures.1.0, λ l m ge te part gapped. c.find_in.ensures.1.1 l ge part))
