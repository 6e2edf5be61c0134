-- Lines are rendered as their texts, and so is the whole sheet: `table_text` is `sheet_text`.
use Rattle.std.specs.Prelude.{◌≡◌, true, length, get_or}
use Prim.Native.Nat.{ℕ, ◌≤◌, ◌<◌}
use Rattle.pcrl.specs.Limits.{max_size}
use Rattle.pcrl.specs.Tests.{Every}
use Rattle.pcrl.specs.Bytes.{name_byte}
use Rattle.pcrl.specs.Sheet.{Action, sort_name}
use Rattle.pcrl.specs.Table.{Table}

-- What the text asks of a table: sizes of at most 16, and names of sorts and actions that begin with a letter, a digit or an underscore.
-- A right table has it.
pub record Spellable (T : Table) : Type 0 where
  pub sizes : Every (λ n. n ≤ max_size) T.sig.sorts
  pub sort_names : (D : ℕ) → D < length T.sig.sorts → name_byte (get_or (sort_name T.sig D) 0 0) ≡ true
  pub names : Every (λ (a : Action). name_byte (get_or a.name 0 0) ≡ true) T.sig.acts
