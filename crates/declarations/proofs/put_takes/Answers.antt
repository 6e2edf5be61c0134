-- The loop's invariant: the sorts passed are written.
use native.Mathlib.Omega.{arith}
use mathlib.Core.Path.{sym, ap, ◌∙◌}
use mathlib.Core.List.{[], List, ◌++◌, map}
use Prim.Native.Nat.{ℕ}
use Rattle.pcrl.specs.Text.{bytes}
use Rattle.texts.proofs.Writing.{wrote_nothing, wrote_more, wrote_fits, wrote_as}
use Rattle.declarations.proofs.Chains.{empty_of, tail_start, tail_end}
use Rattle.lettering.specs.Named.{sort_by}
use Rattle.declarations.specs.Lines.{takes_by}
use Rattle.rendering.specs.Texts.{joined_text}
use Rattle.rendering.specs.TextLaws.{tail_more}
use Rattle.declarations.proofs.put_takes.Goals as goal

pub returns-then-sorts-eq0 : goal.returns-then-sorts-eq0
unfolding joined_text takes_by
returns-then-sorts-eq0 c = let a = c.args in wrote_as a.out.now a.at [] _ _ _ (sym (ap (λ (x : List ℕ). joined_text (bytes "#") (map (sort_by a.l.now) x)) (empty_of a.sorts.now (omega arith)))) (wrote_nothing a.out.now a.at (omega (arith, c.requires)))

pub put_sort-p-requires : goal.put_sort-p-requires
put_sort-p-requires c = omega (arith, c.requires)

pub loop-i-init : goal.loop-i-init
loop-i-init c = let a = c.args in (omega arith, (omega arith, wrote_as _ _ [] _ _ _ (tail_start (λ x. bytes "#" ++ (sort_by a.l.now) x) a.sorts.now) (wrote_nothing _ _ (wrote_fits _ _ _ _ _ c.put_sort-p.ensures))))

pub put_byte-q-requires : goal.put_byte-q-requires
put_byte-q-requires c = wrote_fits _ _ _ _ _ c.loop-i.invariant.1.1

pub put_sort-p-requires-in-loop-i : goal.put_sort-p-requires-in-loop-i
put_sort-p-requires-in-loop-i c = wrote_fits _ _ _ _ _ c.put_byte-q.ensures

pub loop-i-preserved : goal.loop-i-preserved
loop-i-preserved c =
    let a = c.args in
    let now = c.loop-i in
    let test = c.loop-i-test in
    let wrote = now.invariant.1.1 in
    let fits = wrote_fits _ _ _ _ _ wrote in (
      omega arith,
      (
        omega (arith, test),
        wrote_as _ _ _ _ _ _ (sym (tail_more (λ x. bytes "#" ++ (sort_by a.l.now) x) a.sorts.now 0 now.i now.invariant.0 (omega (arith, test))))
            (wrote_more _ _ _ now.out now.p _ _ _ (wrote_fits _ _ _ _ _ c.put_sort-p.ensures) wrote (wrote_more now.out now.p _ _ _ _ _ _ fits c.put_byte-q.ensures c.put_sort-p-in-loop-i.ensures)),
      ),
    )

pub shape_of-out : goal.shape_of-out
shape_of-out c = c.loop-i.invariant.1.1.same ∙ c.put_sort-p.ensures.same

pub returns : goal.returns
unfolding takes_by
returns c =
    let a = c.args in
    wrote_as a.out.now a.at _ _ _ _ (tail_end (bytes "#") (sort_by a.l.now) a.sorts.now c.loop-i.i (omega arith) (omega arith))
    (wrote_more a.out.now a.at _ _ _ _ _ _ (omega (arith, c.requires)) c.put_sort-p.ensures c.loop-i.invariant.1.1)
