-- The numbers up to the next multiple divide alike.
use native.Mathlib.Omega.{arith}
use Prim.Native.Nat.{ℕ, ◌+◌, ◌*◌, ◌/◌}
use mathlib.Core.Path.{◌≡◌, ◌∙◌, ap}
use native.Mathlib.Nat.{div-mul-le_self, lt-div-mul-add, add-mul, one-mul, div-le_self}
use Rattle.assignments.proofs.Blocks.{in_block}
use Rattle.assignments.proofs.one_part.next.Goals as goal

over : (j d : ℕ) → (j / d + 1) * d ≡ j / d * d + d
over j d = add-mul (j / d) 1 d ∙ ap (λ (x : ℕ). j / d * d + x) (one-mul d)

pub overflow_add-result : goal.overflow_add-result
overflow_add-result c = omega (arith, div-le_self c.args.j c.args.d)

pub overflow_mul-result : goal.overflow_mul-result
overflow_mul-result c = omega (arith, over c.args.j c.args.d, div-mul-le_self c.args.j c.args.d)

pub returns : goal.returns
returns c = (omega (arith, over c.args.j c.args.d, lt-div-mul-add {a = c.args.j} c.requires.0), λ i h k. in_block c.args.j c.args.d i c.requires.0 h k)
