-- The bytes of the start, spread over the frames.
use native.Mathlib.Omega.{arith}
use mathlib.Core.Path.{◌≡◌, ap, ◌∙◌}
use mathlib.Core.List.{List}
use Prim.Native.Nat.{ℕ, ◌+◌}
use lib.ListN.{length, get_or}
use Rattle.terms.specs.Stands.{list_at}
use Rattle.stacks.proofs.StartLaws.{started_frames}
use Rattle.stacks.proofs.start.Goals as goal

pub returns : goal.returns
returns c = λ T r x.
    let a = c.args in
    let s = a.s.now in
    let place : c.cell.result ≡ get_or a.index.params c.peek.result 0 = c.cell.ensures.0 ∙ ap (λ (i : ℕ). get_or a.index.params i 0) c.wide.ensures.0 in
    started_frames T s a.index r x c.peek.result _ _ _ c.peek.ensures (ap (λ (l : List ℕ). 1 + length l) (c.list_at-params.ensures ∙ ap (list_at s) place)) c.part.ensures
    (c.spread.auto.out ∙ c.requires) (λ i w. c.spread.ensures i (omega (arith, c.requires)))
