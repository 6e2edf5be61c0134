-- A point, the name of the equation and its terms.
use mathlib.Core.Path.{ap, ◌∙◌}
use Prim.Native.Nat.{ℕ}
use lib.ListN.{get_or}
use Rattle.clauses.proofs.Upto.{wrote_ends, ends_more, within_more}
use Rattle.clauses.proofs.CallLaws.{call_put}
use Rattle.clauses.proofs.put_call.Goals as goal

pub returns : goal.returns
returns c = let args = c.args in let point = c.put_byte-a.ensures in let name = c.put_name-b.ensures in let t = c.put_terms.ensures in
    record { within = within_more (ends_more (wrote_ends point) (wrote_ends name)) t.within; call_put = call_put _ _ _ _ _ _ _ c.requires.0 c.wide-e.result _ _ _ _ _ _ _ (c.wide-e.ensures.0 ∙ c.peek.ensures) c.wide-e.ensures.1 (c.wide-k.ensures.0 ∙ c.peek-2.ensures ∙ ap (λ (x : ℕ). get_or args.s.now x 0) c.cell.ensures.0) point name t.puts }
