-- Five pieces, each from what is known of the table.
use native.Mathlib.Omega.{arith}
use mathlib.Core.Path.{sym, subst, ◌∙◌}
use Prim.Native.Nat.{ℕ}
use Rattle.pcrl.specs.Table.{params_of}
use Rattle.pcrl.specs.Stream.{encode_start}
use Rattle.terms.specs.Stands.{Stands}
use Rattle.firing.proofs.Indexing.{known_table}
use Rattle.texts.proofs.Writing.{wrote_as}
use Rattle.declarations.proofs.Chains.{five}
use Rattle.printer.proofs.Known.{start_inside}
use Rattle.printer.proofs.Whole.{few_funcs, right_acts, whole_text}
use Rattle.printer.proofs.put_text.Goals as goal

pub put_funcs-b-requires : goal.put_funcs-b-requires
put_funcs-b-requires c = (omega (arith, c.put_sorts-a.ensures.upper_bound), omega (arith, c.requires))

pub put_acts-c-requires : goal.put_acts-c-requires
put_acts-c-requires c = (omega (arith, c.put_funcs-b.ensures.upper_bound), omega (arith, c.requires))

pub put_procs-d-requires : goal.put_procs-d-requires
put_procs-d-requires c = (omega (arith, c.put_acts-c.ensures.upper_bound), omega (arith, c.requires))

pub put_init-requires : goal.put_init-requires
put_init-requires c = (omega (arith, c.put_procs-d.ensures.upper_bound), (omega (arith, c.requires), omega (arith, c.requires, c.min.ensures)))

pub returns : goal.returns
returns c =
    let a = c.args in
    let sorts = c.put_sorts-a.ensures in
    let funcs = c.put_funcs-b.ensures in
    let acts = c.put_acts-c.ensures in
    let procs = c.put_procs-d.ensures in
    let init = c.put_init.ensures in
    record {
      upper_bound = (omega (arith, init.upper_bound, procs.upper_bound.1, acts.upper_bound.1, funcs.upper_bound.1, sorts.upper_bound.1), init.upper_bound.1 ∙ (procs.upper_bound.1 ∙ (acts.upper_bound.1 ∙ (funcs.upper_bound.1 ∙ sorts.upper_bound.1))));
      wrote = λ U right n x.
          let s = a.s.now in
          let k = known_table U s a.index n right in
          let funcs-few = few_funcs U k.right in
          let start = subst (λ (p : ℕ). Stands s p (encode_start U.start)) (sym c.min.ensures) (start_inside s a.index.start U.start n.parts.start_stands) in
          wrote_as _ _ _ _ _ _ (whole_text U k.right)
          (five _ _ _ _ _ _ _ _ _ _ _ _ _ _ _ _ _ (omega arith) (sorts.wrote U.sig s k.terms x n.sorts_are) (funcs.wrote U.sig k.terms (omega arith) x n.functions_are) (acts.wrote U.sig (params_of U.equations) a.index.params k.parts (right_acts U k.right) x n.actions_are) (procs.wrote U k x n.equations_are) (init.wrote U a.index.funcs a.index.acts a.index.rows k x start));
    }
