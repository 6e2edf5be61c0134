use Rattle.blocks.proofs.Joined.{Laid}
use Rattle.blocks.proofs.Writing.{block_of_stream}
use Rattle.blocks.proofs.write_blocks.Given as goal

abbrev pub invariant-loop-i : goal.invariant-loop-i
invariant-loop-i l = Laid l.count (block_of_stream l.stream l.count) l.initial.out l.out l.i
