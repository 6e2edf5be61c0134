-- The value last found and the stack below it read like the values of the bytes gone through.
use lib.ListN.{replicate, drop, take, length-set}
use native.Mathlib.Omega.{arith}
use Prim.Native.Nat.{ℕ, ◌-◌}
use mathlib.Core.Path.{◌≡◌, refl, ◌∙◌, ap}
use Rattle.evaluation.specs.Run.{run, top}
use Rattle.evaluation.proofs.Bytes.{run_start, run_again}
use Rattle.evaluation.proofs.value.Goals as goal

pub returns-then-end-at : goal.returns-then-end-at
returns-then-end-at c = λ h k l. absurd (omega arith)

pub returns-then-s-end : goal.returns-then-s-end
returns-then-s-end c = λ h k l. absurd (omega arith)

pub returns-then-end-at-gt-MAX_TERM : goal.returns-then-end-at-gt-MAX_TERM
returns-then-end-at-gt-MAX_TERM c = λ h k l. absurd (omega arith)

pub loop-i-init : goal.loop-i-init
loop-i-init c = (omega arith, (omega arith, (refl, (omega arith, (omega arith, run_start c.args.s.now c.args.funcs.now c.args.e.now c.args.s.now (replicate 48 0) c.args.end (c.args.end - c.args.end) (omega arith) refl)))))

pub taken-t-requires : goal.taken-t-requires
taken-t-requires c = (omega arith, (omega arith, c.arguments.ensures.1))

pub loop-i-preserved : goal.loop-i-preserved
loop-i-preserved c = let a = c.args in let l = c.loop-i in let v = l.invariant in (
  omega arith,
  (
    omega arith,
    (
      simp length-set v.1.1.0,
      (
        omega (arith, c.taken-t.ensures),
        (
          omega (arith, c.taken-t.ensures),
          run_again a.s.now a.funcs.now a.e.now a.s.now l.stack l.i a.end l.t c.arguments.result c.taken-t.result c.worth-v.result l.x
              v.1.1.0 (omega arith) (omega arith) (omega arith) (omega arith) (omega arith) v.1.1.1.1.1 c.worth-v.ensures c.arguments.ensures.0 c.taken-t.ensures,
        ),
      ),
    ),
  ),
)

pub returns : goal.returns
returns c = λ h k m. let a = c.args in let l = c.loop-i in let z : l.i ≡ a.at = omega arith in
    l.invariant.1.1.1.1.1 0 ∙ ap (λ (y : ℕ). top (run a.s.now a.funcs.now a.e.now (take (a.end - y) (drop y a.s.now)))) z
