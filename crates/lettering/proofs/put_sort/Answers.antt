-- The name stands in its cell.
use mathlib.Core.Path.{ap, ◌∙◌}
use Prim.Native.Nat.{ℕ, ◌*◌}
use Rattle.terms.specs.Stands.{list_at}
use Rattle.texts.proofs.Writing.{wrote_as}
use Rattle.lettering.specs.SortNames.{name_cell}
use Rattle.lettering.specs.Named.{sort_by}
use Rattle.lettering.proofs.put_sort.Goals as goal

pub returns : goal.returns
returns c =
    let a = c.args in
    wrote_as a.out.now a.at _ (sort_by a.l.now a.d) _ _ (c.list_at.ensures ∙ ap (λ (d : ℕ). list_at a.l.now (name_cell * d)) c.wide.ensures.0) c.put_bytes.ensures
