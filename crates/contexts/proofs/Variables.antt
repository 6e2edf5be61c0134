-- A variable in a slot of its own.
use mathlib.Core.Path.{refl}
use mathlib.Core.List.{List}
use Prim.Native.Nat.{ℕ, ◌+◌}
use Rattle.pcrl.specs.Sheet.{var}
use Rattle.pcrl.specs.Table.{nodes}
use Rattle.pcrl.specs.Stream.{variable_code, encode_data}
use Rattle.putting.specs.Puts.{BytePut}
use Rattle.contexts.specs.Steps.{VariablePut}

pub variable_put : (o : List ℕ) (n m : ℕ) (o' : List ℕ) → BytePut o n (variable_code + m) o' → VariablePut o n m o'
unfolding nodes encode_data
variable_put o n m o' put = (λ σ s. put.0 σ (var m) refl refl s, put.1)
