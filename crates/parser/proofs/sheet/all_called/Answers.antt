-- `sheet::all_called` meets its contract. The invariant: what is still to be seen decides.
use mathlib.Core.Path.{◌≡◌, ap, ◌∙◌, subst}
use mathlib.Core.Bool.{not}
use native.Mathlib.Omega.{arith}
use Rattle.parser.proofs.InitLaws.{Still, still_start, still_next, still_bare, still_end}
use Rattle.parser.proofs.sheet.all_called.Goals as goal

pub loop-i-init : goal.loop-i-init
loop-i-init c = (
  omega arith,
  omega arith,
  λ s. still_start s c.args.toks.now c.args.from c.args.to,
)

pub returns-then-bare : goal.returns-then-bare
returns-then-bare c =
    let at-loop = c.loop-i in
    let at_bare = c.bare in
    let at-if1 = c.if-bare in
    λ s. still_bare s c.args.toks.now c.args.from c.args.to at-loop.i (omega arith) (omega arith) (at_bare.ensures s ∙ ap not at-if1.true) (at-loop.invariant.2 s)

pub loop-i-preserved : goal.loop-i-preserved
loop-i-preserved c =
    let at-loop = c.loop-i in
    let at_bare = c.bare in
    let at-if1 = c.if-bare in (
      omega arith,
      omega arith,
      λ s. still_next s c.args.toks.now c.args.from c.args.to at-loop.i (omega arith) (omega arith) (at_bare.ensures s ∙ ap not at-if1.false) (at-loop.invariant.2 s),
    )

pub returns : goal.returns
returns c =
    let at-loop = c.loop-i in
    let e : at-loop.i ≡ c.args.to = omega arith in
    λ s. still_end s c.args.toks.now c.args.from c.args.to (subst (λ k. Still s c.args.toks.now c.args.from c.args.to k) e (at-loop.invariant.2 s))
