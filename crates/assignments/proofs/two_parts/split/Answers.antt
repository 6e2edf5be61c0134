-- The first level where the conditions are apart.
use native.Mathlib.Omega.{arith}
use Rattle.assignments.proofs.two_parts.split.Goals as goal

pub apart_at-x-requires : goal.apart_at-x-requires
apart_at-x-requires c = (c.requires.0, (c.requires.1.0, (c.requires.1.1, omega arith)))

pub returns-then-is_some : goal.returns-then-is_some
returns-then-is_some c = c.apart_at-x.ensures

pub apart_at-y-requires : goal.apart_at-y-requires
apart_at-y-requires c = (c.requires.0, (c.requires.1.0, (c.requires.1.1, omega arith)))

pub returns-then-is_some-2 : goal.returns-then-is_some-2
returns-then-is_some-2 c = c.apart_at-y.ensures

pub apart_at-requires : goal.apart_at-requires
apart_at-requires c = (c.requires.0, (c.requires.1.0, (c.requires.1.1, omega arith)))

pub returns : goal.returns
returns c = c.apart_at.ensures
