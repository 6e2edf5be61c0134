-- The pieces of a summand stand one behind another; each is read where the one before it ends.
use mathlib.Core.Path.{ap, ◌∙◌}
use Prim.Native.Nat.{ℕ, ◌+◌}
use native.Mathlib.Omega.{arith}
use Rattle.clauses.proofs.Upto.{wrote_ends, ends_more, within_ends}
use Rattle.clauses.proofs.SummandLaws.{summand_put}
use Rattle.clauses.proofs.put_summand.Goals as goal

pub put_before-b-requires : goal.put_before-b-requires
put_before-b-requires c = let e = c.put_sums-a.ensures.ends in (omega (arith, e.fits, e.same), (c.requires.1.0, c.conditions-c.ensures.0))

pub put_action-d-requires : goal.put_action-d-requires
put_action-d-requires c = let e = c.put_before-b.ensures.ends in (omega (arith, e.fits, e.same), (c.requires.1.0, omega (arith, c.conditions-c.ensures.1.0)))

pub put_calls-e-requires : goal.put_calls-e-requires
put_calls-e-requires c = let e = c.put_action-d.ensures.within in (omega (arith, e.fits, e.same), (c.requires.1.0, omega (arith, e.inside, c.requires.1.0, c.conditions-c.ensures.1.0)))

pub put_behind-f-requires : goal.put_behind-f-requires
put_behind-f-requires c = let e = c.put_calls-e.ensures.ends in (omega (arith, e.fits, e.same), (c.requires.1.0, c.conditions-c.ensures.0))

pub put_run-requires : goal.put_run-requires
put_run-requires c = let e = c.put_behind-f.ensures.ends in omega (arith, e.fits, e.same)

pub shape_of-out : goal.shape_of-out
shape_of-out c = c.put_run.ensures.same ∙ c.put_behind-f.ensures.ends.same ∙ c.put_calls-e.ensures.ends.same ∙ c.put_action-d.ensures.within.same ∙ c.put_before-b.ensures.ends.same ∙ c.put_sums-a.ensures.ends.same

pub returns : goal.returns
returns c = let sums = c.put_sums-a.ensures in let before = c.put_before-b.ensures in let act = c.put_action-d.ensures in let calls = c.put_calls-e.ensures in let behind = c.put_behind-f.ensures in let closing = c.put_run.ensures in let args = c.args in let em = c.wide-m.ensures.0 ∙ c.peek.ensures in
    record { ends = (ends_more (ends_more (ends_more (ends_more (ends_more sums.ends before.ends) (within_ends act.within)) calls.ends) behind.ends) (wrote_ends closing), omega (arith, c.min.ensures)); summand_put = summand_put _ _ _ _ _ _ _ _ _ c.requires.0 _ _ _ _ _ _ _ _ _ _ _ _ _ _ _ _ em (ap (λ (x : ℕ). args.from + 1 + x) em) c.conditions-c.ensures.1.1 sums.sums_put before.conds_put act.action_put calls.calls_put behind.conds_put closing c.min.ensures }
