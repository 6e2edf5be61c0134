-- `heads::alternatives::look` meets its contract.
use native.Mathlib.Omega.{arith}
use Rattle.heads.proofs.Passing.{past_same}
use Rattle.heads.proofs.Remembering.{found_past, found_looked, found_used}
use Rattle.heads.proofs.alternatives.look.Goals as goal

pub overflow_mul-base : goal.overflow_mul-base
overflow_mul-base c = let q = c.requires in omega arith

pub node_at-d-requires : goal.node_at-d-requires
node_at-d-requires c = c.requires.0

pub returns-then-not-parted : goal.returns-then-not-parted
returns-then-not-parted c = let a = c.args in record {
  looked = record { inside = c.requires.0; on = c.node_at-d.ensures.on; views = c.node_at-d.ensures.views; counts_first = λ t. absurd (c.parted.ensures c.if-not-parted.true t) };
  past = past_same a.cells.now a.counts.now a.heads a.s;
  remembers = c.requires.3;
}

pub recall-f-requires : goal.recall-f-requires
recall-f-requires c = let q = c.requires in (q.0, omega arith, q.3)

pub overflow_add-e : goal.overflow_add-e
overflow_add-e c = let q = c.requires in omega arith

pub node_at-b-requires : goal.node_at-b-requires
node_at-b-requires c = c.recall-f.ensures.0.inside

pub shape_of-remembered-then-usable : goal.shape_of-remembered-then-usable
shape_of-remembered-then-usable c = c.recall-f.auto.remembered

pub returns-then-usable : goal.returns-then-usable
returns-then-usable c = let a = c.args in let f = c.recall-f.result in let fd = c.recall-f.ensures.0 in let t = c.beside-t in let b = c.node_at-b in record {
  looked = found_looked a.cells.now a.counts.now a.heads a.s f fd c.requires.2 t.result t.ensures b.result b.ensures.on b.ensures.views f.a (found_used a.cells.now a.counts.now a.heads a.s f fd c.requires.2 t.result t.ensures b.result b.ensures.on b.ensures.views (c.usable.ensures c.if-usable.true));
  past = found_past a.cells.now a.counts.now a.heads a.s f fd c.requires.2 t.result t.ensures b.result b.ensures.on b.ensures.views;
  remembers = c.recall-f.ensures.1;
}

pub first_part-a-requires : goal.first_part-a-requires
first_part-a-requires c = let q = c.requires in omega arith

pub shape_of-remembered : goal.shape_of-remembered
shape_of-remembered c = c.recall-f.auto.remembered

pub returns : goal.returns
returns c = let a = c.args in let f = c.recall-f.result in let fd = c.recall-f.ensures.0 in let t = c.beside-t in let b = c.node_at-b in let k = c.first_part-a in record {
  looked = found_looked a.cells.now a.counts.now a.heads a.s f fd c.requires.2 t.result t.ensures b.result b.ensures.on b.ensures.views k.result (λ x. (k.ensures.heads_le_most_heads.2 x, k.ensures.counts (omega (arith, b.ensures.on.on)) (k.ensures.heads_le_most_heads.2 x)));
  past = found_past a.cells.now a.counts.now a.heads a.s f fd c.requires.2 t.result t.ensures b.result b.ensures.on b.ensures.views;
  remembers = c.recall-f.ensures.1;
}
