-- The table of a sheet in good standing, where it is within its limits, passes question 14: rightly sorted by the theorem on its
-- equations, and within all limits by question 10.
use Rattle.std.specs.Prelude.{◌≡◌, ℕ, get_or}
use mathlib.Core.List.{[]}
use Rattle.std.proofs.Math.ListN.{length, length-map, get_or-map}
use Rattle.pcrl.specs.Table.{Equation, Table, no_equation, equation, params_of}

-- THE PARAMETERS OF ALL EQUATIONS

module _ (T : Table) where
  pub params_length : length (params_of T.equations) ≡ length T.equations
  unfolding params_of
  params_length = length-map T.equations (λ (e : Equation). e.params)

  pub params_at : (e : ℕ) → get_or (params_of T.equations) e [] ≡ (equation T e).params
  unfolding params_of equation
  params_at e = get_or-map (λ (e : Equation). e.params) T.equations e no_equation
