-- The loop's invariant: the bytes passed are written.
use native.Mathlib.Omega.{arith}
use mathlib.Core.Path.{sym, ap, ◌∙◌}
use mathlib.Core.List.{[], ◌∷◌, ◌++◌}
use Prim.Native.Nat.{ℕ, ◌+◌, ◌-◌}
use native.Mathlib.Numerals.{add-one}
use lib.ListN.{get_or, take}
use lib.Seq.{take-suc, take_all}
use Rattle.texts.proofs.Writing.{wrote_nothing, wrote_more, wrote_fits, wrote_as}
use Rattle.texts.proofs.put_bytes.Goals as goal

pub loop-i-init : goal.loop-i-init
loop-i-init c = (omega arith, wrote_nothing _ _ (omega arith))

pub put_byte-p-requires : goal.put_byte-p-requires
put_byte-p-requires c = wrote_fits _ _ _ _ _ c.loop-i.invariant.1

pub loop-i-preserved : goal.loop-i-preserved
loop-i-preserved c =
    let a = c.args in
    let i = c.loop-i.i in
    let s = a.s.now in (
      omega (arith, c.loop-i-test),
      wrote_as a.out.now a.at (take i s ++ (get_or s i 0 ∷ [])) (take (i + 1) s) _ _ (sym (ap (λ (n : ℕ). take n s) (add-one i) ∙ take-suc s i 0 (omega (arith, c.loop-i-test))))
          (wrote_more a.out.now a.at (take i s) c.loop-i.out c.loop-i.p (get_or s i 0 ∷ []) _ _ (omega (arith, c.requires)) c.loop-i.invariant.1 c.put_byte-p.ensures),
    )

pub shape_of-out : goal.shape_of-out
shape_of-out c = c.loop-i.invariant.1.same

pub returns : goal.returns
returns c = wrote_as c.args.out.now c.args.at (take c.loop-i.i c.args.s.now) c.args.s.now _ _ (take_all c.loop-i.i c.args.s.now (omega arith)) c.loop-i.invariant.1
