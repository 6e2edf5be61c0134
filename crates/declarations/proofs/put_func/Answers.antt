-- Five pieces; the function's parts stand in the stream.
use native.Mathlib.Omega.{arith}
use mathlib.Core.Path.{ap, ◌∙◌}
use lib.ListN.{length}
use Rattle.texts.proofs.Writing.{wrote_fits, wrote_as}
use Rattle.pcrl.specs.Right.{RightFunc}
use Rattle.declarations.proofs.Chains.{five, values_joined}
use Rattle.declarations.proofs.Functions.{takes_list, gives_there}
use Rattle.declarations.proofs.Declared.{func_line}
use Rattle.declarations.proofs.put_func.Goals as goal

pub returns : goal.returns
unfolding RightFunc
returns c =
    let a = c.args in
    let pre = c.requires in
    let all = five _ _ _ _ _ _ _ _ _ _ _ _ _ _ _ _ _ (omega (arith, pre)) c.put_func_head-a.ensures c.put_sort-b.ensures c.put_byte-c.ensures (wrote_as _ _ _ _ _ _ (values_joined c.values_at.result.now) c.put_values-d.ensures) c.put_byte.ensures in
    let fits = wrote_fits _ _ _ _ _ all in record {
      upper_bound = (omega (arith, fits, all.same), all.same);
      wrote = λ S g k r x f h.
          let takes = c.list_at-takes.ensures ∙ takes_list a.s.now a.from g h in
          wrote_as _ _ _ _ _ _
          (func_line S a.l.now x a.f g _ _ _ f r.0.1 r.1.0 takes (c.peek-gives.ensures ∙ gives_there a.s.now a.from g h _ (ap length takes)) (c.values_at.ensures S g k r h))
          all;
    }
