-- The blocks before i are right, and their stream bytes stand over the front of the lent bytes; block i is tested, and its bytes are copied behind them.
use native.Mathlib.Omega.{arith}
use Rattle.pcrl.specs.Blocks.{RightLength}
use Rattle.blocks.proofs.Reading.{read_none, length_it, stream_fits, read_more, read_wrong, read_all}
use Rattle.blocks.proofs.read_blocks.Goals as goal

pub loop-i-init : goal.loop-i-init
loop-i-init c = read_none c.args.file.now c.args.out.now

pub right_block-requires : goal.right_block-requires
unfolding RightLength
right_block-requires c =
    let l = c.loop-i in
    let a = c.args in
    let p = c.requires in
    (length_it a.file.now a.out.now l.out l.i p.0 p.1 (omega arith) l.invariant, omega arith, omega arith)

pub returns-then-not-right_block : goal.returns-then-not-right_block
returns-then-not-right_block c =
    let l = c.loop-i in
    let a = c.args in
    let p = c.requires in
    read_wrong a.file.now a.out.now l.out l.i p.0 p.1 (omega arith) l.invariant c.right_block.result c.right_block.ensures l.out c.if-not-right_block.true

pub slice_bounds-copy-end-in-loop-i : goal.slice_bounds-copy-end-in-loop-i
slice_bounds-copy-end-in-loop-i c =
    let l = c.loop-i in
    let a = c.args in
    let p = c.requires in
    omega (arith, length_it a.file.now a.out.now l.out l.i p.0 p.1 (omega arith) l.invariant)

pub copy-requires : goal.copy-requires
copy-requires c =
    let l = c.loop-i in
    let a = c.args in
    let p = c.requires in
    stream_fits a.file.now a.out.now l.out l.i p.0 p.1 (omega arith) l.invariant

pub loop-i-preserved : goal.loop-i-preserved
loop-i-preserved c =
    let l = c.loop-i in
    let a = c.args in
    let p = c.requires in
    read_more a.file.now a.out.now l.out l.i p.0 p.1 (omega arith) l.invariant c.right_block.result c.right_block.ensures c.copy.new.s c.if-not-right_block.false c.copy.ensures

pub returns : goal.returns
returns c = read_all c.args.file.now c.args.out.now c.loop-i.out c.loop-i.i (omega arith) c.loop-i.invariant
