-- `heads::alternatives::pass_idle` meets its contract: each round passes one of them.
use native.Mathlib.Omega.{arith}
use Prim.Native.Nat.{ℕ}
use Rattle.heads.proofs.Reaching.{reaches_same, reaches_idle}
use Rattle.heads.proofs.alternatives.pass_idle.Goals as goal

pub loop-q-init : goal.loop-q-init
loop-q-init c = let a = c.args in (omega arith, c.requires.0, λ (heads : ℕ). reaches_same a.cells.now a.counts.now a.base heads a.at)

pub behind_idle-requires : goal.behind_idle-requires
behind_idle-requires c = (c.loop-q.invariant.1, c.requires.1)

pub loop-q-smaller : goal.loop-q-smaller
loop-q-smaller c = let i = c.loop-q.invariant in let u = c.in-Some.ensures in omega (arith, u.0, u.1)

pub loop-q-preserved : goal.loop-q-preserved
loop-q-preserved c = let a = c.args in let i = c.loop-q.invariant in let u = c.in-Some.ensures in (omega (arith, u.0), u.1, λ (heads : ℕ). reaches_idle a.cells.now a.counts.now a.base heads i.1 (i.2 heads) u.2)

pub returns : goal.returns
returns c = c.loop-q.invariant
