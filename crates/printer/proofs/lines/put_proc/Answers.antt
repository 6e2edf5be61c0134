-- Three pieces; the equation's sorts and summands stand in the stream.
use native.Mathlib.Omega.{arith}
use mathlib.Core.Path.{◌≡◌, sym, ap, ◌∙◌}
use Prim.Native.Nat.{ℕ}
use lib.ListN.{length, drop}
use Rattle.texts.proofs.Writing.{wrote_fits, wrote_as}
use Rattle.pcrl.specs.Table.{equation, params_of}
use Rattle.terms.specs.Stands.{list_at}
use Rattle.printer.proofs.Chained.{three}
use Rattle.printer.proofs.Params.{proc_line}
use Rattle.printer.proofs.Known.{sorts_at, few_sorts, small_sorts, right_summands, small_number}
use Rattle.printer.proofs.lines.put_proc.Goals as goal

pub returns : goal.returns
returns c =
    let a = c.args in
    let head = c.put_proc_head-a.ensures in
    let right = c.put_right-b.ensures in
    let last = c.put_byte.ensures in
    let fits = wrote_fits _ _ _ _ _ last in
    record {
      upper_bound = (omega (arith, fits, last.same, right.upper_bound.1, head.same), last.same ∙ (right.upper_bound.1 ∙ head.same));
      wrote = λ T k x below.
          let s = a.s.now in
          let sorts = c.list_at-sorts.ensures ∙ ap (list_at s) c.cell.ensures.0 ∙ sorts_at T s a.funcs.now a.acts.now a.params.now a.rows.now k a.e below in
          let few = few_sorts T s a.funcs.now a.acts.now a.params.now a.rows.now k a.e below in
          let long = ap length sorts in
          let n : c.min-n.result ≡ length (equation T a.e).params = let z = c.min-n.ensures in omega arith in
          let row = k.rows_at a.e below in
          let there = ap (λ (q : ℕ). drop q s) c.cell-2.ensures.0 ∙ row.1 in
          let wrote = right.wrote T.sig (params_of T.equations) (equation T a.e).params (equation T a.e).summands row.0 k.terms k.parts (right_summands T s a.funcs.now a.acts.now a.params.now a.rows.now k a.e below) (sym n) (omega arith) x there in
          wrote_as _ _ _ _ _ _ (proc_line T.sig a.l.now x a.e (equation T a.e) _ _ (small_number T s a.funcs.now a.acts.now a.params.now a.rows.now k a.e below) sorts n few (small_sorts T s a.funcs.now a.acts.now a.params.now a.rows.now k a.e below))
          (three _ _ _ _ _ _ _ _ _ _ _ (omega (arith, c.requires)) head wrote last);
    }
