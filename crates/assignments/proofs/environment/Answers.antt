-- Four stores behind the parameters.
use native.Mathlib.Omega.{arith}
use Rattle.assignments.proofs.Counter.{put, per_sum_length, per_variable_length}
use Rattle.assignments.proofs.environment.Goals as goal

pub returns : goal.returns
returns c = let l = per_variable_length c.args.params _ c.well_formed.0 in put c.args.p c.args.params.at c.args.w.at (omega (arith, c.requires.0)) c.requires.1 (per_sum_length c.args.w _ c.well_formed.1.1.0)
