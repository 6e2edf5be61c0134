-- The loop's invariant: the values passed are written.
use native.Mathlib.Omega.{arith}
use borrow.Author.Tests.{true-eqb}
use mathlib.Core.Path.{◌≡◌, ap, ◌∙◌}
use mathlib.Core.List.{[], ◌∷◌, ◌++◌}
use Prim.Native.Nat.{ℕ, suc, ◌+◌, ◌-◌}
use lib.ListN.{length, get_or, take, drop}
use Rattle.pcrl.specs.Text.{bytes, decimal}
use Rattle.pcrl.specs.Walk.{values_text}
use Rattle.texts.proofs.Writing.{wrote_nothing, wrote_more, wrote_as}
use Rattle.texts.proofs.Values.{no_value, first_value, values_more}
use Rattle.texts.proofs.put_values.Goals as goal

pub returns-then-is_empty : goal.returns-then-is_empty
returns-then-is_empty c = let a = c.args in wrote_as _ _ [] _ _ _ (no_value a.vs.now (true-eqb _ _ c.if-is_empty.ensures)) (wrote_nothing a.out.now a.at (omega (arith, c.requires)))

pub loop-v-init : goal.loop-v-init
loop-v-init c = let a = c.args in wrote_as _ _ _ _ _ _ (first_value a.vs.now (get_or a.vs.now 0 0)) c.put_value-p.ensures

pub loop-v-preserved : goal.loop-v-preserved
loop-v-preserved c =
    let a = c.args in
    let o = a.out.now in
    let l = c.loop-v in
    let k = l.v-index in
    let v = get_or a.vs.now 0 0 in
    let rest = take (length a.vs.now - 1) (drop 1 a.vs.now) in
    let w = get_or rest k 0 in
    wrote_as _ _ ((values_text (v ∷ take k rest) ++ bytes ",") ++ decimal w) _ _ _ (values_more v rest k (omega (arith, c.loop-v-test)) ∙ ap (λ (n : ℕ). values_text (v ∷ take n rest)) (let z : suc k ≡ k + 1 = omega arith in z))
    (wrote_more o a.at (values_text (v ∷ take k rest) ++ bytes ",") c.put_byte-q.new.out c.put_byte-q.result (decimal w) _ _ (omega (arith, c.requires))
    (wrote_more o a.at (values_text (v ∷ take k rest)) l.out l.p (bytes ",") _ _ (omega (arith, c.requires)) l.invariant c.put_byte-q.ensures) c.put_value-p-in-loop-v.ensures)
