-- What a slot says of its term; else one node, of one byte or, for `==`, two.
use native.Mathlib.Omega.{arith}
use Rattle.putting.proofs.PutLaws.{share_one, share_two, share_slot}
use Rattle.putting.proofs.share_of.Goals as goal

pub returns-then-number-ge-EQUAL : goal.returns-then-number-ge-EQUAL
returns-then-number-ge-EQUAL c = let a = c.args in record {
  nodes_lt_byte_limit = omega arith;
  shares = share_two a.slots.now a.n a.tag a.number (λ z. omega arith) (omega arith);
}

pub returns-then-tag-ne-VARIABLE : goal.returns-then-tag-ne-VARIABLE
returns-then-tag-ne-VARIABLE c = let a = c.args in record {
  nodes_lt_byte_limit = omega arith;
  shares = share_one a.slots.now a.n a.tag a.number (λ z. omega arith) (omega arith);
}

pub returns : goal.returns
returns c = let a = c.args in record {
  nodes_lt_byte_limit = omega arith;
  shares = share_slot a.slots.now a.n a.tag a.number c.cell-k.result c.cell-l.result (omega arith) c.cell-k.ensures.0 c.cell-l.ensures.0;
}
