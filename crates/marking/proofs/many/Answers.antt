-- The bits that are set are the marks.
use native.Mathlib.Omega.{arith}
use lib.Count.{ones-le}
use Rattle.marking.proofs.MarkLaws.{bits_count}
use Rattle.marking.proofs.many.Goals as goal

pub overflow_cast-result : goal.overflow_cast-result
overflow_cast-result c = let m = c.args.m in omega (arith, ones-le 32 m c.ranges.m.fits)

pub returns : goal.returns
returns c = let m = c.args.m in bits_count 32 m c.ranges.m.fits
