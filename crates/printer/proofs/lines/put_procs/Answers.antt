-- The loop's invariant: the lines of the equations passed are written.
use native.Mathlib.Omega.{arith}
use mathlib.Core.Path.{◌≡◌, refl, sym, ap, ◌∙◌}
use mathlib.Core.List.{List, ◌++◌}
use Prim.Native.Nat.{ℕ, ◌+◌, ◌<◌}
use lib.ListN.{length, take}
use lib.Seq.{take_all}
use Rattle.texts.proofs.Writing.{wrote_nothing, wrote_more, wrote_as}
use Rattle.pcrl.specs.Reader.{all}
use Rattle.pcrl.specs.Table.{Equation, no_equation, equation}
use Rattle.pcrl.specs.Printer.{numbered}
use Rattle.rendering.specs.Texts.{concat, proc_line_text}
use Rattle.rendering.specs.TextLaws.{numbered_more}
use Rattle.printer.proofs.lines.put_procs.Goals as goal

pub loop-e-init : goal.loop-e-init
unfolding numbered concat all
loop-e-init c = (omega arith, ((omega (arith, c.requires), refl), λ T k x m. wrote_nothing _ _ (omega (arith, c.requires))))

pub put_proc-p-requires : goal.put_proc-p-requires
put_proc-p-requires c = (omega (arith, c.loop-e.invariant.1.0), omega (arith, c.requires))

pub loop-e-preserved : goal.loop-e-preserved
unfolding equation
loop-e-preserved c =
    let a = c.args in
    let now = c.loop-e in
    let test = c.loop-e-test in
    let next = c.put_proc-p.ensures in (
      omega (arith, test),
      (
        (omega (arith, next.upper_bound, now.invariant.1.0), next.upper_bound.1 ∙ now.invariant.1.0.1),
        λ T k x m.
            let inside : now.e < length T.equations = omega (arith, test) in
            let start : 0 + now.e ≡ now.e = omega arith in
            let q = equation T now.e in
            let f = proc_line_text T.sig in
            wrote_as _ _ _ _ _ _ (sym (numbered_more f 0 T.equations no_equation now.e inside ∙ ap (λ (i : ℕ). concat (numbered f 0 (take now.e T.equations)) ++ f i q) start))
            (wrote_more _ _ _ now.out now.p _ _ _ (omega (arith, c.requires)) (now.invariant.1.1 T k x m) (next.wrote T k x inside)),
      ),
    )

pub shape_of-out : goal.shape_of-out
shape_of-out c = c.loop-e.invariant.1.0.1

pub returns : goal.returns
returns c =
    let now = c.loop-e in
    record { upper_bound = (omega (arith, now.invariant.1.0), now.invariant.1.0.1); wrote = λ T k x m. wrote_as _ _ _ _ _ _ (ap (λ (qs : List Equation). concat (numbered (proc_line_text T.sig) 0 qs)) (take_all now.e T.equations (omega arith))) (now.invariant.1.1 T k x m) }
