-- The bytes before i are copied, and behind them the slice is as it was: at the end, nothing.
use mathlib.Core.Path.{◌≡◌, refl, ◌∙◌, ap}
use mathlib.Core.List.{List, ◌++◌, append-nil}
use Prim.Native.Nat.{ℕ}
use native.Mathlib.Omega.{arith}
use lib.ListN.{length, length-set, get_or, set, drop, drop_of_length-le}
use lib.Seq.{take-length}
use Rattle.blocks.proofs.Fronts.{copied_more}
use Rattle.blocks.proofs.copy.Goals as goal

pub loop-i-init : goal.loop-i-init
loop-i-init c = (omega arith, (refl, refl))

pub loop-i-preserved : goal.loop-i-preserved
loop-i-preserved c =
    let l = c.loop-i in
    let a = c.args in
    (omega arith, (simp length-set (omega arith), ap (λ (x : List ℕ). set x l.i (get_or a.t.now l.i 0)) l.invariant.1.1 ∙ copied_more l.i a.t.now a.s.now (omega arith) (omega arith)))

pub returns : goal.returns
returns c =
    let l = c.loop-i in
    let t = c.args.t.now in
    let e : l.i ≡ length t = omega arith in
    let s = c.args.s.now in
    l.invariant.1.1 ∙ rw (e, take-length t) (ap (λ (x : List ℕ). t ++ x) (drop_of_length-le s {i = length t} (omega arith)) ∙ append-nil t)
