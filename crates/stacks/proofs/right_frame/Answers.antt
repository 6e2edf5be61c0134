-- The equation is there, and the values fit its parameters.
use native.Mathlib.Omega.{arith}
use mathlib.Core.Path.{◌≡◌, ap, ◌∙◌}
use Prim.Native.Nat.{ℕ, ◌-◌}
use lib.ListN.{length, drop, get_or, length-drop}
use lib.Seq.{take_all}
use Rattle.pcrl.specs.Limits.{frame_width}
use Rattle.terms.specs.Stands.{list_at}
use Rattle.stacks.proofs.RightFrameLaws.{no_equation_there, frame_says}
use Rattle.stacks.proofs.right_frame.Goals as goal

pub returns-then-params-e : goal.returns-then-params-e
returns-then-params-e c = λ T k. no_equation_there frame_width T _ _ _ k c.args.f.now c.requires (omega (arith, c.wide-e.ensures.0))

pub returns : goal.returns
returns c = λ T k.
    let a = c.args in
    let f = a.f.now in
    let ps = a.params.now in
    let e : c.cell.result ≡ get_or ps (get_or f 0 0) 0 = c.cell.ensures.0 ∙ ap (λ (x : ℕ). get_or ps x 0) c.wide-e.ensures.0 in
    frame_says frame_width T a.s.now a.sizes.now ps k f c.requires c.fitting.result _ _ (omega (arith, c.wide-e.ensures.0)) (c.list_at.ensures ∙ ap (list_at a.s.now) e)
    (take_all (length f - 1) (drop 1 f) (omega (arith, length-drop 1 f))) c.fitting.ensures
