-- `heads::count_heads` meets its contract.
use Rattle.heads.proofs.Walking.{counted}
use Rattle.heads.proofs.count_heads.Goals as goal

pub returns : goal.returns
returns c =
    λ H F b p rest σ m k few t l e. counted c.args.cells.now c.args.counts.now c.args.at c.args.fuel c.count-a.result c.count-a.ensures.counts H F b p rest σ m k few t l e
