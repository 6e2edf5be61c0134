-- Nothing, or a colon.
use mathlib.Core.List.{[]}
use native.Mathlib.Omega.{arith}
use Rattle.texts.proofs.Writing.{wrote_nothing, wrote_as}
use Rattle.declarations.proofs.Chains.{no_colon, some_colon}
use Rattle.declarations.proofs.put_colon.Goals as goal

pub returns-then-n-eq0 : goal.returns-then-n-eq0
returns-then-n-eq0 c = let a = c.args in wrote_as a.out.now a.at [] _ _ _ (no_colon a.n (omega arith)) (wrote_nothing a.out.now a.at (omega (arith, c.requires)))

pub returns : goal.returns
returns c = let a = c.args in wrote_as a.out.now a.at _ _ _ _ (some_colon a.n (omega arith)) c.put_byte.ensures
