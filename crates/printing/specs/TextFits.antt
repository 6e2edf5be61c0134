-- Which tables have a text: question 17 fails exactly for those whose text is too long, has a name that is too long or too many open brackets, or
-- that have more equations than a sheet may have processes, a sort named like an action, or an `==` over two values. All other questions pass.
use Rattle.std.specs.Prelude.{◌≤◌, T, length}
use Rattle.pcrl.specs.Limits.{max_processes}
use Rattle.pcrl.specs.Tests.{distinct, Every}
use Rattle.pcrl.specs.Bytes.{Short}
use Rattle.pcrl.specs.Tokens.{Shallow}
use Rattle.pcrl.specs.Table.{Table}
use Rattle.pcrl.specs.Print.{print_sheet}
use Rattle.pcrl.specs.Printer.{taken, printed, table_text}
use Rattle.printing.specs.SpelledTokens.{ShortName}
use Rattle.printing.specs.Sided.{SidedTable}

-- what a table must have to be printed
pub record Fits (U : Table) : Type 0 where
  -- "At most 4,096 bytes"
  pub short : Short (table_text U)
  -- "the whole run at most 16 characters"
  pub names : Every ShortName (print_sheet (printed U))
  -- "Never more than 16 round brackets open"
  pub shallow : Shallow (print_sheet (printed U))
  -- "16 processes"
  pub few : length U.equations ≤ max_processes
  -- "Every declared name new": no sort has an action's name
  pub free : T (distinct (taken U.sig))
  -- "`==` .. refuses two numerals": none stands over two values
  pub no_two_values : SidedTable U
