-- Marks, row, and the parameters where there was room before.
use Rattle.std.specs.Prelude.{None}
use Rattle.pcrl.specs.Parts.{marked}
use Rattle.pcrl.specs.Stream.{encode_numbers}
use Rattle.nodes.specs.Scoped.{max_scope}
use Rattle.marking.specs.Marks.{bits}
use Rattle.parts.proofs.BehindLaws.{from_some, from_nowhere}
use Rattle.parts.proofs.NotedLaws.{note_put}
use Rattle.parts.proofs.right_side.note.Goals as goal

pub returns-in-Some : goal.returns-in-Some
returns-in-Some c =
    let a = c.args in
    let m = c.marks-m in
    let p = c.put_params in
    let put = from_some (encode_numbers (marked (bits max_scope m.result) a.sorts.now)) a.w a.out.now p.result p.new.out c.in-Some.v c.in-Some.is p.ensures in
    record {
      rows_kept = c.put_part_row.ensures.kept;
      notes = note_put a.cells.now a.sorts.now a.rows.now a.out.now a.at a.n a.k a.w m.result c.put_part_row.new.rows p.new.out p.result
          c.requires.0 c.requires.1 m.ensures.marked m.ensures.high_bits c.put_part_row.ensures put;
    }

pub returns-in-None : goal.returns-in-None
returns-in-None c =
    let a = c.args in
    let m = c.marks-m in
    let put = from_nowhere (encode_numbers (marked (bits max_scope m.result) a.sorts.now)) a.w a.out.now c.in-None.is in
    record {
      rows_kept = c.put_part_row.ensures.kept;
      notes = note_put a.cells.now a.sorts.now a.rows.now a.out.now a.at a.n a.k a.w m.result c.put_part_row.new.rows a.out.now None
          c.requires.0 c.requires.1 m.ensures.marked m.ensures.high_bits c.put_part_row.ensures put;
    }
