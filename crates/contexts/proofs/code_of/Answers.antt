-- `contexts::code_of` meets its contract.
use native.Mathlib.Omega.{arith}
use Prim.Native.Nat.{suc, ◌-◌}
use mathlib.Core.Path.{◌≡◌, sym, ap}
use Rattle.contexts.specs.Steps.{act_code}
use Rattle.contexts.proofs.code_of.Goals as goal

pub returns-then-number-eq0 : goal.returns-then-number-eq0
unfolding act_code
returns-then-number-eq0 c = let z : c.args.number ≡ 0 = omega arith in sym (ap act_code z)

pub returns : goal.returns
unfolding act_code
returns c =
    let z : c.args.number ≡ suc (c.args.number - 1) = omega arith in sym (ap act_code z)
