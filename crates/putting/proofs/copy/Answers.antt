-- Byte by byte: what is copied so far is pasted.
use native.Mathlib.Omega.{arith}
use Prim.Native.Nat.{ℕ, ◌+◌}
use mathlib.Core.Path.{◌≡◌, refl, ap, ◌∙◌}
use mathlib.Core.List.{List}
use lib.ListN.{drop, get_or, set, length-set}
use lib.Seq.{paste, paste-zero}
use Rattle.putting.proofs.Bytes.{copy_more}
use Rattle.putting.proofs.copy.Goals as goal

pub loop-j-init : goal.loop-j-init
loop-j-init c =
    ((omega arith, refl), paste-zero c.args.out.now c.args.w (drop c.args.from c.args.s.now))

pub loop-j-preserved : goal.loop-j-preserved
loop-j-preserved c = (
  (omega arith, length-set c.loop-j.out _ _ ∙ c.loop-j.invariant.0.1),
  ap (λ (x : List ℕ). set x (c.args.w + c.loop-j.j) (get_or c.args.s.now (c.args.from + c.loop-j.j) 0)) c.loop-j.invariant.1
      ∙ copy_more c.args.s.now c.args.out.now c.args.from c.args.w c.loop-j.j (omega arith) (omega arith),
)

pub shape_of-out : goal.shape_of-out
shape_of-out c = c.loop-j.invariant.0.1

pub returns : goal.returns
returns c =
    let z : c.loop-j.j ≡ c.args.l = omega arith in c.loop-j.invariant.1 ∙ ap (λ (j : ℕ). paste c.args.out.now c.args.w (drop c.args.from c.args.s.now) j) z
