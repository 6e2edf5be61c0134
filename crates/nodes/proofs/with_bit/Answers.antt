-- `with_bit` adds one number to a set: the shift is a power of two that fits, and the union has its bit.
use mathlib.Core.Path.{◌≡◌, ap, ◌∙◌}
use Prim.Native.Nat.{ℕ, ◌*◌, ◌^◌, ◌%◌}
use native.Mathlib.Nat.{mod-eq_of_lt, one-mul}
use lib.Bits.{bit_or}
use lib.Pow.{pow-lt}
use Rattle.nodes.specs.Bits.{bit}
use Rattle.nodes.proofs.Bits.{with_bit}
use Rattle.nodes.proofs.with_bit.Goals as goal

pub returns : goal.returns
returns c i =
    let e : 1 * 2 ^ c.args.k % 2 ^ 32 ≡ 2 ^ c.args.k = ap (λ (x : ℕ). x % 2 ^ 32) (one-mul (2 ^ c.args.k)) ∙ mod-eq_of_lt (pow-lt {i = c.args.k} {j = 32} c.requires) in
    ap (λ (x : ℕ). bit i (bit_or c.args.set x)) e ∙ with_bit c.args.set c.args.k i
