-- The loop's invariant: the lines of the sorts passed are written.
use native.Mathlib.Omega.{arith}
use mathlib.Core.Path.{◌≡◌, refl, sym, ap, ◌∙◌}
use mathlib.Core.List.{List}
use Prim.Native.Nat.{ℕ, suc, ◌+◌, ◌-◌, ◌%◌, ◌<◌}
use lib.ListN.{length, take, drop, length-drop}
use lib.Seq.{take_all}
use Rattle.pcrl.specs.Reader.{all}
use Rattle.pcrl.specs.Printer.{numbered}
use Rattle.rendering.specs.Texts.{concat, sort_line_text}
use Rattle.rendering.specs.TextLaws.{numbered_more}
use Rattle.texts.proofs.Writing.{wrote_nothing, wrote_more, wrote_fits, wrote_as}
use Rattle.declarations.proofs.Declared.{sort_line}
use Rattle.declarations.proofs.put_sorts.Goals as goal

pub loop-i-init : goal.loop-i-init
unfolding numbered concat all
loop-i-init c = ((omega (arith, c.requires), refl), λ S s k x e. wrote_nothing _ _ (omega (arith, c.requires)))

pub put_sort_line-p-requires : goal.put_sort_line-p-requires
put_sort_line-p-requires c = omega (arith, c.loop-i.invariant.0)

pub loop-i-preserved : goal.loop-i-preserved
loop-i-preserved c =
    let a = c.args in
    let now = c.loop-i in
    let test = c.loop-i-test in
    let next = c.put_sort_line-p.ensures in
    let fits = wrote_fits _ _ _ _ _ next in
    let i = now.i - 1 in (
      (fits, next.same ∙ now.invariant.0.1),
      λ S s k x e.
          let inside : suc i < length S.sorts = omega (arith, test) in
          let f = sort_line_text S in
          let l = drop 1 S.sorts in
          wrote_as _ _ _ _ _ _ (sym (ap (λ (n : ℕ). concat (numbered f 1 (take n l))) (let z : now.i + 1 - 1 ≡ i + 1 = omega arith in z) ∙ numbered_more f 1 l 0 i (omega (arith, length-drop 1 S.sorts))))
          (wrote_more _ _ _ now.out now.p _ _ _ (omega (arith, c.requires)) (now.invariant.1 S s k x e) (wrote_as _ _ _ _ _ _ (sort_line S a.l.now x s a.funcs.now k i c.low-d.result c.size_of.result inside (c.low-d.ensures ∙ ap (λ (n : ℕ). n % 256) (let z : now.i ≡ i + 1 = omega arith in z)) c.size_of.ensures) next)),
    )

pub shape_of-out : goal.shape_of-out
shape_of-out c = c.loop-i.invariant.0.1

pub returns : goal.returns
returns c =
    let now = c.loop-i in
    record {
      upper_bound = (omega (arith, now.invariant.0), now.invariant.0.1);
      wrote = λ S s k x e. wrote_as _ _ _ _ _ _ (ap (λ (l : List ℕ). concat (numbered (sort_line_text S) 1 l)) (take_all (now.i - 1) (drop 1 S.sorts) (omega (arith, c.loop-i-test, length-drop 1 S.sorts)))) (now.invariant.1 S s k x e);
    }
