use Rattle.blocks.proofs.Reading.{Read}
use Rattle.blocks.proofs.read_blocks.Given as goal

abbrev pub invariant-loop-i : goal.invariant-loop-i
invariant-loop-i l = Read l.file l.initial.out l.out l.i
