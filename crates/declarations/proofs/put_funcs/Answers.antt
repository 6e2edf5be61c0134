-- The loop's invariant: the lines of the functions passed are written.
use native.Mathlib.Omega.{arith}
use mathlib.Core.Path.{◌≡◌, refl, sym, ap, subst, ◌∙◌}
use mathlib.Core.List.{List, ◌++◌}
use Prim.Native.Nat.{ℕ, ◌+◌, ◌<◌}
use lib.ListN.{length, take}
use lib.Seq.{take_all}
use Rattle.texts.proofs.Writing.{wrote_nothing, wrote_more, wrote_as}
use Rattle.pcrl.specs.Reader.{all}
use Rattle.pcrl.specs.Printer.{numbered}
use Rattle.laws.specs.Every.{every_at}
use Rattle.rendering.specs.Texts.{concat, func_line_text}
use Rattle.rendering.specs.TextLaws.{numbered_more}
use Rattle.pcrl.specs.Sheet.{Func, no_func, func}
use Rattle.pcrl.specs.Right.{RightFunc}
use Rattle.pcrl.specs.Stream.{encode_func}
use Rattle.terms.specs.Stands.{Stands}
use Rattle.declarations.proofs.put_funcs.Goals as goal

pub loop-f-init : goal.loop-f-init
unfolding numbered concat all
loop-f-init c = (omega arith, ((omega (arith, c.requires), refl), λ S k few x e. wrote_nothing _ _ (omega (arith, c.requires))))

pub put_func-p-requires : goal.put_func-p-requires
put_func-p-requires c = (omega (arith, c.loop-f.invariant.1.0), (omega (arith, c.requires), omega (arith, c.cell.ensures.1)))

pub loop-f-preserved : goal.loop-f-preserved
unfolding func
loop-f-preserved c =
    let a = c.args in
    let now = c.loop-f in
    let test = c.loop-f-test in
    let next = c.put_func-p.ensures in (
      omega (arith, test),
      (
        (omega (arith, next.upper_bound, now.invariant.1.0), next.upper_bound.1 ∙ now.invariant.1.0.1),
        λ S k few x e.
            let inside : now.f < length S.funcs = omega (arith, test) in
            let start : 0 + now.f ≡ now.f = omega arith in
            let g = func S now.f in
            let right = every_at (RightFunc S.sorts) S.funcs no_func now.f k.right_funcs inside in
            let there = subst (λ (q : ℕ). Stands a.s.now q (encode_func g)) (sym c.cell.ensures.0) (k.func_at now.f inside) in
            wrote_as _ _ _ _ _ _ (sym (numbered_more (func_line_text S) 0 S.funcs no_func now.f inside ∙ ap (λ (i : ℕ). concat (numbered (func_line_text S) 0 (take now.f S.funcs)) ++ func_line_text S i g) start))
            (wrote_more _ _ _ now.out now.p _ _ _ (omega (arith, c.requires)) (now.invariant.1.1 S k few x e) (next.wrote S g k right x (omega arith) there)),
      ),
    )

pub shape_of-out : goal.shape_of-out
shape_of-out c = c.loop-f.invariant.1.0.1

pub returns : goal.returns
returns c =
    let now = c.loop-f in
    record {
      upper_bound = (omega (arith, now.invariant.1.0), now.invariant.1.0.1);
      wrote = λ S k few x e. wrote_as _ _ _ _ _ _ (ap (λ (fs : List Func). concat (numbered (func_line_text S) 0 fs)) (take_all now.f S.funcs (omega arith))) (now.invariant.1.1 S k few x e);
    }
