-- The loop's invariant: the cells of the sorts passed have their names.
use native.Mathlib.Omega.{arith}
use mathlib.Core.Path.{refl, ap, ◌∙◌}
use Prim.Native.Nat.{ℕ, ◌*◌}
use Rattle.texts.proofs.Writing.{wrote_as}
use Rattle.lettering.specs.SortNames.{name_cell}
use Rattle.lettering.specs.Named.{cell_of, name_by}
use Rattle.lettering.proofs.Cells.{cells_none, cells_more}
use Rattle.lettering.proofs.put_names.Invariants.{name}
use Rattle.lettering.proofs.put_names.Goals as goal

pub loop-d-init : goal.loop-d-init
loop-d-init c = (omega arith, (refl, λ short. cells_none _ c.args.out.now))

pub put_one-requires : goal.put_one-requires
put_one-requires c = omega (arith, c.min-m.ensures, c.loop-d.invariant.1.0, c.cell.ensures.1)

pub loop-d-preserved : goal.loop-d-preserved
loop-d-preserved c =
    let a = c.args in
    let now = c.loop-d in
    let test = c.loop-d-test in
    let place = c.cell.ensures.0 in
    let most = c.min-m.ensures in
    let f = name a.s.now a.sorts.now a.named a.n in
    let w = wrote_as now.out (name_cell * now.d) _ (cell_of (f now.d)) _ _ (ap (λ (p : ℕ). cell_of (name_by a.named a.s.now p a.n now.d)) place) c.put_one.ensures in
    (omega (arith, test), (w.same ∙ now.invariant.1.0, λ short. cells_more f now.d now.out _ _ (omega (arith, now.invariant.1.0, c.requires)) (omega (arith, test, most)) (λ D h. short D (omega (arith, test))) w (now.invariant.1.1 short)))

pub shape_of-out : goal.shape_of-out
shape_of-out c = c.loop-d.invariant.1.0

pub returns : goal.returns
returns c =
    let a = c.args in
    let now = c.loop-d in
    let f = name a.s.now a.sorts.now a.named a.n in
    record {
      out_len_unchanged = now.invariant.1.0;
      cells_in = λ short D h. now.invariant.1.1 (λ E k. short E (omega (arith, c.min-m.ensures))) D (omega (arith, c.loop-d-test, c.min-m.ensures));
    }
