-- The first i elements are put.
use mathlib.Core.Path.{◌≡◌, subst}
use Prim.Native.Nat.{ℕ}
use native.Mathlib.Omega.{arith}
use mathlib.Core.List.{◌∷◌, []}
use Rattle.emit.specs.Putting.{PutsTo}
use Rattle.emit.specs.Bytes.{part}
use Rattle.emit.proofs.Copied.{part_none, part_more, part_no_room}
use Rattle.emit.proofs.bytes.copy.Goals as goal

pub loop-i-init : goal.loop-i-init
loop-i-init c = (omega arith, part_none c.args.s.now c.args.a c.args.w c.args.out.now)

pub returns-in_err-v : goal.returns-in_err-v
returns-in_err-v c =
    let l = c.loop-i in
    let a = c.args in
    rw c.from_residual.ensures (part_no_room a.s.now a.a a.n l.i a.w a.out.now l.v l.out c.put.new.out c.element.result (omega arith) l.invariant.1 c.in_err-v.ensures)

pub loop-i-preserved : goal.loop-i-preserved
loop-i-preserved c =
    let l = c.loop-i in
    let a = c.args in
    (omega arith, part_more a.s.now a.a l.i a.w a.out.now l.v l.out c.in_ok-v.v c.put.new.out l.invariant.1 (subst (λ (b : ℕ). PutsTo (b ∷ []) l.v l.out c.in_ok-v.v c.put.new.out) c.element.ensures c.in_ok-v.ensures))

pub shape_of-out : goal.shape_of-out
shape_of-out c = c.loop-i.invariant.1.same

pub returns : goal.returns
returns c =
    let l = c.loop-i in
    let a = c.args in
    let e : l.i ≡ a.n = omega arith in
    subst (λ (k : ℕ). PutsTo (part a.s.now a.a k) a.w a.out.now l.v l.out) e l.invariant.1
