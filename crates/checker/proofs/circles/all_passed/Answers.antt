-- `all_passed`: all of a set have passed if its union with those that have is no more.
use Rattle.checker.proofs.Sets.{union_same}
use Rattle.checker.proofs.circles.all_passed.Goals as goal

pub returns : goal.returns
returns c = union_same c.args.heads c.args.passed c.ranges.heads.fits c.ranges.passed.fits
