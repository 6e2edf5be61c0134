-- What question 15 needs to know of a table.
use Rattle.std.specs.Prelude.{◌≡◌, List, ℕ}
use Rattle.pcrl.specs.Table.{Table, params_of}
use Rattle.terms.specs.Stands.{KnownParams}

-- the sizes of the sorts, and where the parameters of each equation stand
pub record Known (T : Table) (s sizes params : List ℕ) : Type 0 where
  pub sizes_are : sizes ≡ T.sig.sorts
  pub params_stand : KnownParams (params_of T.equations) s params
