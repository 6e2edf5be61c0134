-- The items that are left at each turn are as many as are needed.
use Prim.Native.Nat.{ℕ, ◌+◌, ◌-◌}
use native.Mathlib.Omega.{arith}
use mathlib.Core.Path.{◌≡◌, ap, ◌∙◌, subst}
use Rattle.resolver.specs.Raw.{kids_of, tokens_of}
use Rattle.resolver.proofs.Items.{SkipLeft, skip_start, skip_step, skip_done, skip_stuck}
use Rattle.resolver.proofs.cells.skip.Goals as goal

pub loop-need-init : goal.loop-need-init
loop-need-init c = (omega arith, skip_start c.args.raw.now c.args.at)

pub returns-then-p-raw : goal.returns-then-p-raw
returns-then-p-raw c = record { on = omega arith; skips = skip_stuck c.args.raw.now c.args.at c.loop-need.p c.loop-need.need c.loop-need.invariant.1 (omega arith) (omega arith) }

pub loop-need-preserved : goal.loop-need-preserved
loop-need-preserved c =
    let k = c.kids.ensures.0 ∙ ap kids_of c.peek-k.ensures in
    let n = c.tokens.ensures.0 ∙ ap tokens_of c.peek-k.ensures in
    let a = c.wide.ensures.0 in
    let b = c.wide-in-loop-need.ensures.0 in
    (omega arith, skip_step c.args.raw.now c.args.at c.loop-need.p c.loop-need.need c.loop-need.invariant.1 (omega arith) _ _ (ap (λ x. c.loop-need.need - 1 + x) (a ∙ k)) (ap (λ x. c.loop-need.p + 1 + x) (b ∙ n)))

pub returns : goal.returns
returns c =
    let e : c.loop-need.need ≡ 0 = omega arith in
    record { on = omega arith; skips = skip_done c.args.raw.now c.args.at c.loop-need.p (subst (λ (x : ℕ). SkipLeft c.args.raw.now c.args.at c.loop-need.p x) e c.loop-need.invariant.1) }
