-- `heads::params::param_code` meets its contract.
use native.Mathlib.Omega.{arith}
use Prim.Native.Nat.{ℕ}
use mathlib.Core.Path.{◌≡◌, ap}
use Rattle.pcrl.specs.Stream.{encode_data}
use Rattle.nodes.specs.Bits.{odd}
use Rattle.heads.specs.Writing.{param_of}
use Rattle.heads.proofs.params.param_code.Goals as goal

pub returns-then-marked-eq0 : goal.returns-then-marked-eq0
unfolding param_of odd encode_data
returns-then-marked-eq0 c =
    let z : c.args.marked ≡ 0 = omega arith in ap (λ (j : ℕ). encode_data (param_of (odd j) c.args.k)) z

pub returns : goal.returns
unfolding param_of odd encode_data
returns c =
    let z : c.args.marked ≡ 1 = omega arith in ap (λ (j : ℕ). encode_data (param_of (odd j) c.args.k)) z
