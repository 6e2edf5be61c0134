-- Number, label, depth and a line feed, one behind another.
use native.Mathlib.Omega.{arith}
use mathlib.Core.List.{◌++◌}
use Prim.Native.Nat.{◌%◌}
use Rattle.pcrl.specs.Text.{bytes, decimal}
use Rattle.pcrl.specs.Walk.{label_text}
use Rattle.labels.specs.Labels.{label_of}
use Rattle.texts.proofs.Writing.{wrote_more, wrote_as}
use Rattle.texts.proofs.Values.{line_is}
use Rattle.texts.proofs.put_line.Goals as goal

pub returns : goal.returns
returns c = (
  omega (arith, c.put_byte.ensures.place, c.put_decimal-e.auto.out, c.put_byte-d.auto.out, c.put_label-c.auto.out, c.put_byte-b.auto.out, c.put_decimal-a.auto.out),
  λ T x.
      let a = c.args in
      let o = a.out.now in
      let l = label_of T.sig a.action a.vs.now in
      let i = a.i % 256 in
      let d = a.depth % 256 in
      wrote_as _ _ (((((decimal i ++ bytes " ") ++ label_text l) ++ bytes " ") ++ decimal d) ++ bytes "\n") _ _ _ (line_is i l d)
      (wrote_more o a.at ((((decimal i ++ bytes " ") ++ label_text l) ++ bytes " ") ++ decimal d) c.put_decimal-e.new.out c.put_decimal-e.result (bytes "\n") _ _ (omega (arith, c.requires))
      (wrote_more o a.at (((decimal i ++ bytes " ") ++ label_text l) ++ bytes " ") c.put_byte-d.new.out c.put_byte-d.result (decimal d) _ _ (omega (arith, c.requires))
      (wrote_more o a.at ((decimal i ++ bytes " ") ++ label_text l) c.put_label-c.new.out c.put_label-c.result (bytes " ") _ _ (omega (arith, c.requires))
      (wrote_more o a.at (decimal i ++ bytes " ") c.put_byte-b.new.out c.put_byte-b.result (label_text l) _ _ (omega (arith, c.requires))
      (wrote_more o a.at (decimal i) c.put_decimal-a.new.out c.put_decimal-a.result (bytes " ") _ _ (omega (arith, c.requires)) c.put_decimal-a.ensures c.put_byte-b.ensures)
      (c.put_label-c.ensures.1 T x)) c.put_byte-d.ensures) c.put_decimal-e.ensures) c.put_byte.ensures),
)
