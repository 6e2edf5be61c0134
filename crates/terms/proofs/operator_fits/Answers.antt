-- `==` is there if its sort is, the others always; each gives Bool.
use Prim.Native.Nat.{◌+◌}
use native.Mathlib.Omega.{arith}
use Rattle.terms.proofs.Operators.{equal_last, fits_equal, fits_operator, no_equal, no_operator}
use Rattle.terms.proofs.operator_fits.Goals as goal

pub returns-then-s-j : goal.returns-then-s-j
returns-then-s-j c = λ S Γ z. let a = c.args in equal_last S Γ a.s.now a.i a.d (omega arith) (omega arith) (a.i + 1) (omega arith) (omega arith)

pub returns-then-sizes-wide : goal.returns-then-sizes-wide
returns-then-sizes-wide c = λ S Γ z. let a = c.args in no_equal S Γ a.s.now a.i a.d (omega arith) (omega arith) (a.i + 1) (omega arith) a.sizes.now z (omega arith) (omega arith)

pub returns-then-n-eq-EQUAL_CODE : goal.returns-then-n-eq-EQUAL_CODE
returns-then-n-eq-EQUAL_CODE c = λ S Γ z. let a = c.args in fits_equal S Γ a.s.now a.i a.d (omega arith) (omega arith) (a.i + 1) (omega arith) a.sizes.now z (omega arith) (omega arith)

pub returns-then-n-gt-OR_CODE : goal.returns-then-n-gt-OR_CODE
returns-then-n-gt-OR_CODE c = λ S Γ z. let a = c.args in no_operator S Γ a.s.now a.i a.d (omega arith) (λ e. omega arith) (omega arith)

pub returns : goal.returns
returns c = λ S Γ z. let a = c.args in fits_operator S Γ a.s.now a.i a.d (omega arith) (λ e. omega arith) (omega arith) (omega arith)
