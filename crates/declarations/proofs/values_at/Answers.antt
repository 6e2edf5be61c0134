-- The part of the stream behind the sorts and the result.
use mathlib.Core.Path.{sym, ap, subst, ◌∙◌}
use Prim.Native.Nat.{ℕ, ◌+◌}
use lib.ListN.{length}
use Rattle.terms.specs.Stands.{Stands}
use Rattle.declarations.proofs.Functions.{takes_list, values_stand}
use Rattle.declarations.proofs.values_at.Goals as goal

pub returns : goal.returns
returns c = λ S g k r h.
    let a = c.args in
    let takes = c.list_at-takes.ensures ∙ takes_list a.s.now a.from g h in
    let place = ap (λ (n : ℕ). a.from + 2 + n) (ap length takes) in
    c.bytes_at.ensures g.values (subst (λ (q : ℕ). Stands a.s.now q g.values) (sym place) (values_stand a.s.now a.from g h)) (sym (c.many_values.ensures.1 S a.s.now g k r takes))
