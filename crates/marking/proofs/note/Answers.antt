-- A variable below n is noted, and no other bit is changed.
use mathlib.Core.Path.{refl}
use native.Mathlib.Omega.{arith}
use Rattle.marking.proofs.MarkLaws.{note_other, note_far, note_variable, note_high}
use Rattle.marking.proofs.note.Goals as goal

pub returns-then-tag-ne-VARIABLE : goal.returns-then-tag-ne-VARIABLE
returns-then-tag-ne-VARIABLE c = record {
  notes = note_other c.args.m c.args.tag c.args.number c.args.n (λ z. omega arith);
  high_bits = λ i h. refl;
}

pub returns-then-number-n : goal.returns-then-number-n
returns-then-number-n c = record {
  notes = note_far c.args.m c.args.tag c.args.number c.args.n (omega arith);
  high_bits = λ i h. refl;
}

pub returns : goal.returns
returns c = record {
  notes = note_variable c.args.m c.args.tag c.args.number c.args.n _ (omega arith) c.with_bit.ensures;
  high_bits = note_high c.args.m c.args.number c.args.n _ (omega arith) c.with_bit.ensures;
}
