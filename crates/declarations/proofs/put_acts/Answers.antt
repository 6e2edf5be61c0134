-- The loop's invariant: the lines of the actions passed are written.
use native.Mathlib.Omega.{arith}
use mathlib.Core.Path.{refl, sym, ap, subst, ◌∙◌}
use mathlib.Core.List.{List}
use Prim.Native.Nat.{ℕ, ◌<◌}
use lib.ListN.{length, get_or}
use lib.Seq.{take_all}
use Rattle.texts.proofs.Writing.{wrote_nothing, wrote_more, wrote_as}
use Rattle.pcrl.specs.Reader.{all}
use Rattle.laws.specs.Every.{every_at}
use Rattle.rendering.specs.Texts.{act_line_text}
use Rattle.rendering.specs.TextLaws.{all_more}
use Rattle.pcrl.specs.Sheet.{Action, no_action}
use Rattle.pcrl.specs.Right.{RightAction}
use Rattle.pcrl.specs.Stream.{encode_action}
use Rattle.terms.specs.Stands.{Stands}
use Rattle.declarations.proofs.put_acts.Goals as goal

pub loop-i-init : goal.loop-i-init
unfolding all
loop-i-init c = (omega arith, ((omega (arith, c.requires), refl), λ S Ps params k r x e. wrote_nothing _ _ (omega (arith, c.requires))))

pub put_act-p-requires : goal.put_act-p-requires
put_act-p-requires c = (omega (arith, c.loop-i.invariant.1.0), (omega (arith, c.requires), omega (arith, c.cell.ensures.1)))

pub loop-i-preserved : goal.loop-i-preserved
loop-i-preserved c =
    let a = c.args in
    let now = c.loop-i in
    let test = c.loop-i-test in
    let next = c.put_act-p.ensures in (
      omega (arith, test),
      (
        (omega (arith, next.upper_bound, now.invariant.1.0), next.upper_bound.1 ∙ now.invariant.1.0.1),
        λ S Ps params k r x e.
            let inside : now.i < length S.acts = omega (arith, test) in
            let b = get_or S.acts now.i no_action in
            let right = every_at (RightAction S.sorts) S.acts no_action now.i r inside in
            let there = subst (λ (q : ℕ). Stands a.s.now q (encode_action b)) (sym c.cell.ensures.0) (k.act_at now.i inside) in
            wrote_as _ _ _ _ _ _ (sym (all_more (act_line_text S) S.acts no_action now.i inside))
            (wrote_more _ _ _ now.out now.p _ _ _ (omega (arith, c.requires)) (now.invariant.1.1 S Ps params k r x e) (next.wrote S b right x there)),
      ),
    )

pub shape_of-out : goal.shape_of-out
shape_of-out c = c.loop-i.invariant.1.0.1

pub returns : goal.returns
returns c =
    let now = c.loop-i in
    record {
      upper_bound = (omega (arith, now.invariant.1.0), now.invariant.1.0.1);
      wrote = λ S Ps params k r x e. wrote_as _ _ _ _ _ _ (ap (λ (fs : List Action). all (act_line_text S) fs) (take_all now.i S.acts (omega arith))) (now.invariant.1.1 S Ps params k r x e);
    }
