-- A byte is below 256.
use native.Mathlib.Omega.{arith}
use mathlib.Core.Path.{◌≡◌, ap}
use Prim.Native.Nat.{◌%◌}
use Rattle.pcrl.specs.Text.{decimal}
use Rattle.texts.proofs.Writing.{wrote_as}
use Rattle.texts.proofs.put_value.Goals as goal

pub returns : goal.returns
returns c = wrote_as _ _ (decimal (c.wide.result % 256)) _ _ _ (ap decimal (let z : c.wide.result % 256 ≡ c.args.v = omega (arith, c.wide.ensures) in z)) c.put_decimal.ensures
