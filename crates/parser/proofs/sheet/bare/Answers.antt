-- `sheet::bare` meets its contract.
use native.Mathlib.Omega.{arith}
use Rattle.parser.proofs.InitLaws.{called_low, called_told}
use Rattle.parser.proofs.sheet.bare.Goals as goal

pub returns-then-peek-lt-FIRST_NAME : goal.returns-then-peek-lt-FIRST_NAME
returns-then-peek-lt-FIRST_NAME c =
    λ s. called_low s c.args.toks.now c.args.at (omega arith)

pub returns : goal.returns
returns c =
    let at-peek2 = c.peek-2 in
    λ s. called_told s c.args.toks.now c.args.at (omega arith) at-peek2.result at-peek2.ensures
