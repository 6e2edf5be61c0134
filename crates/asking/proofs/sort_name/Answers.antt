-- A sort's name stands in its cell.
use mathlib.Core.Path.{ap, ◌∙◌}
use native.Mathlib.Omega.{arith}
use Prim.Native.Nat.{ℕ, ◌*◌}
use Rattle.terms.specs.Stands.{list_at}
use Rattle.lettering.specs.SortNames.{name_cell}
use Rattle.asking.proofs.SortLaws.{sort_there, no_sort}
use Rattle.asking.proofs.sort_name.Goals as goal

pub returns-then-sorts-i : goal.returns-then-sorts-i
returns-then-sorts-i c = λ S there sorts. no_sort S c.args.sorts.now c.args.i (omega (arith, c.if-sorts-i))

pub returns : goal.returns
returns c = λ S there sorts.
    let a = c.args in
    c.list_at.ensures ∙ ap (λ (d : ℕ). list_at a.names.now (name_cell * d)) c.wide.ensures.0 ∙ sort_there S a.names.now there a.sorts.now sorts a.i (omega (arith, c.if-sorts-i))
