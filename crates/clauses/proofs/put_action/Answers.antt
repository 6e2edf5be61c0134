-- tau, or a name and its terms.
use mathlib.Core.Path.{refl, ap, ◌∙◌}
use Prim.Native.Nat.{ℕ, ◌+◌}
use native.Mathlib.Omega.{arith}
use lib.ListN.{get_or}
use Rattle.clauses.proofs.Upto.{wrote_ends, within_more}
use Rattle.clauses.proofs.CallLaws.{tau_put, named_put}
use Rattle.clauses.proofs.put_action.Goals as goal

pub returns-then-b : goal.returns-then-b
returns-then-b c = let test = c.if-b in let w = c.put_bytes.ensures in let e = wrote_ends w in
    record { within = record { fits = e.fits; same = e.same; inside = omega arith }; action_put = tau_put _ _ _ _ _ _ _ c.requires.0 c.peek-b.result c.peek-b.ensures _ _ (omega arith) refl w }

pub returns : goal.returns
returns c = let test = c.if-b in let args = c.args in let w = c.put_bytes-a.ensures in let t = c.put_terms.ensures in let p = c.cell-p in
    record { within = within_more (wrote_ends w) t.within; action_put = named_put _ _ _ _ _ _ _ c.requires.0 c.peek-b.result c.peek-b.ensures p.result _ _ _ _ _ _ (λ e. omega arith) (p.ensures.0 ∙ ap (λ (x : ℕ). get_or args.acts.now x 0) c.wide.ensures.0) (c.wide-n.ensures.0 ∙ c.peek-2.ensures ∙ ap (λ (x : ℕ). get_or args.s.now (p.result + 1 + x) 0) (c.wide-2.ensures.0 ∙ c.peek.ensures)) c.list_at.ensures w t.puts }
