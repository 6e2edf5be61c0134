-- Each question is put, and its answer is that of the rules.
use mathlib.Core.Path.{refl}
use native.Mathlib.Omega.{arith}
use Rattle.pcrl.specs.Blocks.{RightLength}
use Rattle.laws.specs.Says.{said_yes, said_no}
use Rattle.blocks.proofs.Reading.{opens_12, opens_13, opens_all}
use Rattle.blocks.proofs.read_file.Goals as goal

pub returns-then-not-right_length : goal.returns-then-not-right_length
unfolding RightLength
returns-then-not-right_length c =
    let a = c.args in
    opens_12 a.file.now a.out.now a.out.now (said_no c.right_length.result c.right_length.ensures c.if-not-right_length.true)

pub read_blocks-requires : goal.read_blocks-requires
unfolding RightLength
read_blocks-requires c =
    let right = said_yes c.right_length.result c.right_length.ensures c.if-not-right_length.false in
    (right, omega (arith, right.0, c.requires))

pub returns-then-not-read_blocks : goal.returns-then-not-read_blocks
unfolding RightLength
returns-then-not-read_blocks c =
    let a = c.args in
    let blocks = c.read_blocks in
    let right = said_yes c.right_length.result c.right_length.ensures c.if-not-right_length.false in
    opens_13 a.file.now a.out.now blocks.new.out _ right blocks.ensures c.if-not-read_blocks.true

pub returns : goal.returns
unfolding RightLength
returns c =
    let a = c.args in
    let blocks = c.read_blocks in
    let right = said_yes c.right_length.result c.right_length.ensures c.if-not-right_length.false in
    opens_all a.file.now a.out.now blocks.new.out _ _ right blocks.ensures c.if-not-read_blocks.false refl
