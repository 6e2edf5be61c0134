-- The blocks before i stand over the front of the lent bytes; block i is written behind them.
use native.Mathlib.Omega.{arith}
use Rattle.pcrl.specs.Blocks.{blocks_for}
use Rattle.blocks.proofs.Joined.{laid_none}
use Rattle.blocks.proofs.Writing.{block_of_stream, block_fits, write_more, write_all}
use Rattle.blocks.proofs.write_blocks.Goals as goal

pub loop-i-init : goal.loop-i-init
loop-i-init c = laid_none c.args.count (block_of_stream c.args.stream.now c.args.count) c.args.out.now

pub slice_bounds-write_block-count-in-loop-i : goal.slice_bounds-write_block-count-in-loop-i
unfolding blocks_for
slice_bounds-write_block-count-in-loop-i c = omega arith

pub slice_bounds-write_block-start-in-loop-i : goal.slice_bounds-write_block-start-in-loop-i
unfolding blocks_for
slice_bounds-write_block-start-in-loop-i c = omega arith

pub write_block-requires : goal.write_block-requires
write_block-requires c =
    let l = c.loop-i in
    let a = c.args in
    let p = c.requires in
    block_fits a.stream.now a.out.now l.out a.count l.i c.min-to.result p.1 p.2 (omega arith) c.min-to.ensures l.invariant

pub loop-i-preserved : goal.loop-i-preserved
loop-i-preserved c =
    let l = c.loop-i in
    let a = c.args in
    let p = c.requires in
    write_more a.stream.now a.out.now l.out a.count l.i c.min-to.result p.1 p.2 (omega arith) c.min-to.ensures l.invariant c.write_block.new.block c.write_block.ensures

pub returns : goal.returns
returns c =
    let l = c.loop-i in
    let a = c.args in
    let p = c.requires in
    write_all a.stream.now a.out.now l.out a.count l.i p.1 (omega arith) l.invariant
