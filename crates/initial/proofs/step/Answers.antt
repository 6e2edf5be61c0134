-- A value, a function of one argument, a function of two; or what no term has.
use mathlib.Core.Path.{sym, ap, subst}
use mathlib.Core.List.{List}
use Prim.Native.Nat.{ℕ, ◌+◌, ◌-◌, ◌/◌}
use native.Mathlib.Omega.{arith}
use Rattle.initial.specs.Evaluating.{Steps}
use Rattle.initial.proofs.Stepping.{value_step, no_step, one_step, two_step, none_step}
use Rattle.initial.proofs.step.Goals as goal

pub returns-then-k-eq-VALUE : goal.returns-then-k-eq-VALUE
returns-then-k-eq-VALUE c = let a = c.args in let k = c.cell-k in let s = c.store in record {
  further = record { less = omega arith; above = omega arith; inside = omega arith };
  steps = subst (λ (d : List ℕ). Steps a.sizes.now a.funcs.now a.values.now a.places.now a.cells.now a.i a.t (record { end = a.i - 1; top = a.t - 1 }) d) (sym s.ensures)
      (value_step a.sizes.now a.funcs.now a.values.now a.places.now a.cells.now a.i a.t (omega arith) (omega arith) (omega arith) k.result k.ensures.0 (omega arith));
}

pub returns-then-i-lt2 : goal.returns-then-i-lt2
returns-then-i-lt2 c = let a = c.args in let k = c.cell-k in let e = k.ensures.0 in record { further = record { less = omega arith; above = omega arith; inside = omega arith }; steps = no_step a.sizes.now a.funcs.now a.values.now a.places.now a.cells.now a.i a.t (omega arith) (omega arith) (omega arith) (record { end = 0; top = a.t }) a.cells.now (omega arith) (λ h. omega arith) }

pub returns-then-k-lt2 : goal.returns-then-k-lt2
returns-then-k-lt2 c = let a = c.args in let k = c.cell-k in let f = c.cell-f in let x = c.cell-x in let v = c.of_one in record {
  further = record { less = omega arith; above = omega arith; inside = omega arith };
  steps = subst (λ (d : List ℕ). Steps a.sizes.now a.funcs.now a.values.now a.places.now a.cells.now a.i a.t (record { end = a.i - 2; top = a.t }) d) (sym c.store-then-k-lt2.ensures)
      (one_step a.sizes.now a.funcs.now a.values.now a.places.now a.cells.now a.i a.t (omega arith) (omega arith) (omega arith) k.result (f.result / 4) x.result
      k.ensures.0 (λ h. omega arith) (omega arith) (ap (λ (n : ℕ). n / 4) f.ensures.0) x.ensures.0 v.result (omega arith) v.ensures.0);
}

pub returns-then-t-cells : goal.returns-then-t-cells
returns-then-t-cells c = let a = c.args in let k = c.cell-k in let f = c.cell-f in let x = c.cell-x in record {
  further = record { less = omega arith; above = omega arith; inside = omega arith };
  steps = none_step a.sizes.now a.funcs.now a.values.now a.places.now a.cells.now a.i a.t (omega arith) (omega arith) (omega arith) k.result (f.result / 4) x.result
      k.ensures.0 (λ h. omega arith) (omega arith) (ap (λ (n : ℕ). n / 4) f.ensures.0) x.ensures.0 (omega arith) (omega arith);
}

pub returns : goal.returns
returns c = let a = c.args in let h = c.requires in let g = c.if-k-eq-VALUE in let m = c.if-i-lt2 in let n = c.if-k-lt2 in let j = c.if-t-cells in let k = c.cell-k in let f = c.cell-f in let x = c.cell-x in let y = c.cell-y in let v = c.of_two in record {
  further = record { less = omega arith; above = omega arith; inside = omega arith };
  steps = subst (λ (d : List ℕ). Steps a.sizes.now a.funcs.now a.values.now a.places.now a.cells.now a.i a.t (record { end = a.i - 2; top = a.t + 1 }) d) (sym c.store-2.ensures)
      (two_step a.sizes.now a.funcs.now a.values.now a.places.now a.cells.now a.i a.t (omega arith) (omega arith) (omega arith) k.result (f.result / 4) x.result
      k.ensures.0 (λ h. omega arith) (omega arith) (ap (λ (n : ℕ). n / 4) f.ensures.0) x.ensures.0 v.result y.result (omega arith) y.ensures.0 v.ensures.0);
}
