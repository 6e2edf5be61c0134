-- Each condition is put in its part.
use native.Mathlib.Omega.{arith}
use Prim.Native.Nat.{◌-◌}
use mathlib.Core.Path.{refl}
use lib.ListN.{get_or, length-set}
use Rattle.evaluation.specs.Run.{peak}
use Rattle.pcrl.specs.Limits.{max_conditions}
use Rattle.assignments.specs.Conditions.{code}
use Rattle.assignments.proofs.Separating.{parting_none, parting_late, parting_early, parting_all, grain_more, zeros}
use Rattle.assignments.proofs.two_parts.parted.Goals as goal
use Rattle.assignments.proofs.two_parts.parted.Goals.{then-w-b, else-w-b}

pub loop-i-init : goal.loop-i-init
loop-i-init c = let a = c.args in (refl, (refl, (c.requires.1.1.1.0, (c.requires.1.1.1.1.0, (parting_none a.s.now a.p a.c.now.froms a.c.now.ends a.c.now.blocks a.c.now.count a.b _ _ _ _ (zeros max_conditions) (zeros max_conditions), λ sizes reach lowest e r. (0, e))))))

pub loop-i-preserved : goal.loop-i-preserved
loop-i-preserved c = let a = c.args in let l = c.loop-i in let v = l.invariant in
    elim c.if-w-b.branch [
      | then-w-b w ↦ rw (w.early-is, w.late-is, w.grain-is, w.low-is) (
        v.0,
        (
          simp length-set v.1.0,
          (
            v.1.1.0,
            (
              v.1.1.1.0,
              (
                parting_late a.s.now a.p a.c.now.froms a.c.now.ends a.c.now.blocks a.c.now.count a.b l.early l.late l.grain l.low l.i v.1.1.1.1.0 (get_or a.c.now.blocks l.i 0) c.wide_block-w.result refl c.wide_block-w.ensures.0 c.loop-i-test.true (omega (arith, v.1.0, c.requires.1.0)) w.if-w-b.true w.term_low.result w.min-low.result w.term_low.ensures w.min-low.ensures,
                v.1.1.1.1.1,
              ),
            ),
          ),
        ),
      )
      | else-w-b w ↦ rw (w.early-is, w.late-is, w.grain-is, w.low-is) (
        simp length-set v.0,
        (
          v.1.0,
          (
            omega (arith, w.min-grain.ensures, v.1.1.0, c.requires.1.1.0),
            (
              omega (arith, w.min-grain.ensures, v.1.1.1.0),
              (
                parting_early a.s.now a.p a.c.now.froms a.c.now.ends a.c.now.blocks a.c.now.count a.b l.early l.late l.grain l.low l.i v.1.1.1.1.0 (get_or a.c.now.blocks l.i 0) c.wide_block-w.result refl c.wide_block-w.ensures.0 c.loop-i-test.true (omega (arith, v.0, c.requires.1.0)) (omega arith) w.min-grain.result w.min-grain.ensures,
                λ sizes reach lowest e r. grain_more sizes l.grain c.wide_block-w.result (get_or a.c.now.blocks l.i 0) (peak (code a.s.now (get_or a.c.now.froms l.i 0) (get_or a.c.now.ends l.i 0)) - a.p) w.min-grain.result c.wide_block-w.ensures.0 (r l.i c.loop-i-test.true).block_is w.min-grain.ensures (v.1.1.1.1.1 sizes reach lowest e r),
              ),
            ),
          ),
        ),
      )
    ]

pub returns-then-apart : goal.returns-then-apart
returns-then-apart c = let a = c.args in let l = c.loop-i in let v = l.invariant in (
  (v.1.1.0, v.1.1.1.0),
  λ sizes reach lowest z len et eb ready.
      parting_all a.s.now a.p sizes a.c.now.froms a.c.now.ends a.c.now.blocks a.c.now.count a.b a.l reach lowest _ l.i (λ i h. (z i (omega arith)).0) ready eb c.if-apart.true (omega arith) (v.1.1.1.1.1 sizes reach lowest et ready) v.1.1.1.1.0,
)
