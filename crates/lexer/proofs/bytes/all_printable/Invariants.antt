use Rattle.std.specs.Slice.Iter.{chunks_rest}
use Rattle.pcrl.specs.Bytes.{Printable}
use Rattle.lexer.proofs.bytes.all_printable.Given as goal

-- The blocks passed are printable: so are all bytes, if and only if those to come are.
abbrev pub invariant-loop-block : goal.invariant-loop-block
invariant-loop-block l =
    (goal.iterator-loop-block).can_next l.block-iterator × (goal.iterator-loop-block).is_finite l.block-iterator
    × (Printable (chunks_rest l.block-iterator) → Printable l.s) × (Printable l.s → Printable (chunks_rest l.block-iterator))
