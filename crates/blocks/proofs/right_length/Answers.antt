-- Each test that fails shows that the length is not right; past all three it is.
use mathlib.Core.Path.{◌≡◌}
use Prim.Native.Nat.{◌%◌}
use native.Mathlib.Omega.{arith}
use lib.Dec.{eqb}
use Rattle.pcrl.specs.Tests.{Between}
use Rattle.pcrl.specs.Blocks.{block_bytes, max_file}
use Rattle.laws.specs.Says.{says_both, says_eq}
use Rattle.blocks.proofs.right_length.Goals as goal

pub returns-then-n-lt-BLOCK : goal.returns-then-n-lt-BLOCK
returns-then-n-lt-BLOCK c = λ h. omega arith

pub returns-then-n-gt-MAX_FILE : goal.returns-then-n-gt-MAX_FILE
returns-then-n-gt-MAX_FILE c = λ h. omega arith

pub returns : goal.returns
returns c =
    let n = c.args.n in
    let between : Between block_bytes max_file n = (omega arith, omega arith) in
    says_both (eqb (n % 512) 0) (n % 512 ≡ 0) between (says_eq (n % 512) 0)
