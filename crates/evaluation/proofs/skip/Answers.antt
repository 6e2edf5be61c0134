-- The terms that are still wanted are counted: what is left to go over follows from the definition, byte by byte.
use native.Mathlib.Omega.{arith}
use Prim.Native.Nat.{ℕ, ◌+◌, ◌-◌}
use mathlib.Core.Path.{◌≡◌, ◌∙◌, ap}
use lib.ListN.{drop, get_or}
use Rattle.evaluation.specs.Run.{extent, argument_count}
use Rattle.evaluation.proofs.Bytes.{extent_step, extent_none, extent_end}
use Rattle.pcrl.specs.Decode.{node_of}
use Rattle.evaluation.proofs.skip.Goals as goal

pub loop-i-init : goal.loop-i-init
loop-i-init c = (omega arith, (omega arith, (omega (arith, c.wide-need.ensures), ap (λ (k : ℕ). c.args.at + extent c.args.s.now c.args.funcs.now (drop c.args.at c.args.s.now) k) c.wide-need.ensures.0)))

pub returns-then-need-eq0 : goal.returns-then-need-eq0
returns-then-need-eq0 c = let e : extent c.args.s.now c.args.funcs.now (drop c.loop-i.i c.args.s.now) c.loop-i.need ≡ 0 = ap (extent c.args.s.now c.args.funcs.now (drop c.loop-i.i c.args.s.now)) c.if-need-eq0.true ∙ extent_none c.args.s.now c.args.funcs.now (drop c.loop-i.i c.args.s.now) in
    let v = c.loop-i.invariant in (omega arith, (omega arith, omega arith))

pub overflow_add-need : goal.overflow_add-need
overflow_add-need c = omega (arith, c.arguments.ensures.1)

pub loop-i-preserved : goal.loop-i-preserved
loop-i-preserved c = let i = c.loop-i.i in let n = c.loop-i.need in let s = c.args.s.now in let fs = c.args.funcs.now in
    let st = extent_step s fs s i n c.loop-i-test.true (omega arith) in
    let q : extent s fs (drop (i + 1) s) (n - 1 + c.arguments.result) ≡ extent s fs (drop (i + 1) s) (n - 1 + argument_count s fs (node_of (get_or s i 0))) = ap (λ (k : ℕ). extent s fs (drop (i + 1) s) (n - 1 + k)) c.arguments.ensures.0 in
    let v = c.loop-i.invariant in
    (omega arith, (omega arith, (omega (arith, c.arguments.ensures.1), omega arith)))

pub returns : goal.returns
returns c = let z = extent_end c.args.s.now c.args.funcs.now c.args.s.now c.loop-i.i c.loop-i.need c.loop-i-test.false in let v = c.loop-i.invariant in (omega (arith, c.max.ensures), (omega (arith, c.max.ensures), omega (arith, c.max.ensures)))
