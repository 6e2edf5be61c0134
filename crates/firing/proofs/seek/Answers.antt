-- Where there are no conditions each assignment meets them; else they are opened, and the search is theirs.
use native.Mathlib.Omega.{arith}
use mathlib.Core.Path.{refl}
use Rattle.firing.proofs.Seeking.{seeks_any, seeks_met}
use Rattle.firing.proofs.seek.Goals as goal

pub returns-then-peek-eq0 : goal.returns-then-peek-eq0
returns-then-peek-eq0 c = let a = c.args in (omega (arith, c.requires.1.1.1.0), seeks_any a.s.now a.funcs.now a.first.at a.z.at a.p a.at a.k _ (omega (arith, c.peek.ensures)) refl c.find_any.ensures)

pub returns-else-peek-eq0 : goal.returns-else-peek-eq0
returns-else-peek-eq0 c = let a = c.args in (c.conditions-c.ensures.1.0, seeks_met a.s.now a.funcs.now a.first.at a.z.at a.p a.at a.k _ c.conditions-c.result refl c.conditions-c.ensures.1.1 c.find.ensures)
