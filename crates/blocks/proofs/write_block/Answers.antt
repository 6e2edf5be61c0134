-- Each lent part comes back written; together they make the block, by the law of the four parts.
use Rattle.blocks.proofs.Block.{block_written}
use Rattle.blocks.proofs.write_block.Goals as goal

pub returns : goal.returns
returns c =
    let a = c.args in
    block_written a.block.now a.stream.now c.head.new.h c.copy.new.s c.fill.new.s c.tail.new.t a.number a.count _
    c.requires.0 c.requires.1 c.head.ensures c.copy.ensures c.fill.ensures c.crc16-x.ensures c.tail.ensures
