-- `contexts::step` meets its contract: what each step down says.
use native.Mathlib.Omega.{arith}
use Rattle.std.proofs.lemmas.Option.{IfSome_then}
use Rattle.contexts.specs.Spots.{arrays}
use Rattle.contexts.proofs.Spotting.{kept_same}
use Rattle.contexts.proofs.Down.{fails, other_none}
use Rattle.contexts.proofs.step.Goals as goal

pub returns-then-d-eq-SUM : goal.returns-then-d-eq-SUM
returns-then-d-eq-SUM c = let q = c.requires.place in
    let o = q.1 in record {
      bound = IfSome_then c.down_sum.result c.down_sum.ensures.stays (λ r y. y _ _ q.3);
      fuel_value = IfSome_then c.down_sum.result c.down_sum.ensures.fuel_value (λ r y. (y.0, omega (arith, y.1, o.on)));
      step_down = λ conds starts counts firsts n₁ n₂ n₃ n₄. c.down_sum.ensures.sum_down c.args.cells.now starts counts firsts conds c.args.calls.now q.2 (omega arith);
    }

pub returns-then-d-eq-SEQ : goal.returns-then-d-eq-SEQ
returns-then-d-eq-SEQ c = let q = c.requires.place in
    let rest_at = c.requires.rooms.3 in
    let o = q.1 in record {
      bound = IfSome_then c.down_seq.result c.down_seq.ensures.bound (λ r y. y _ q.3);
      fuel_value = IfSome_then c.down_seq.result c.down_seq.ensures.fuel_value (λ r y. (y.0, omega (arith, y.1, o.on)));
      step_down = λ conds starts counts firsts n₁ n₂ n₃ n₄. c.down_seq.ensures.seq_down starts counts firsts c.args.vars.now conds q.2 (omega arith) (rest_at (omega arith));
    }

pub returns : goal.returns
returns c = let q = c.requires.place in
    let i = c.if-d-eq-SUM.false in
    let j = c.if-d-eq-SEQ.false in record {
      bound = tt;
      fuel_value = tt;
      step_down = λ conds starts counts firsts n₁ n₂ n₃ n₄. fails c.args.cells.now starts counts firsts c.args.s (arrays c.args.slots.now c.args.vars.now conds c.args.calls.now) (other_none c.args.cells.now starts counts firsts c.args.s (arrays c.args.slots.now c.args.vars.now conds c.args.calls.now) c.args.d q.2 (λ z. i z) (λ z. j z) n₁ n₂ n₃ n₄) _ (kept_same c.args.s _);
    }
