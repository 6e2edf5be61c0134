-- The summands of all equations, each list with its count; or they are not within their limits, or there is no room for them: then
-- none is left.
use Rattle.std.specs.Prelude.{◌≡◌, List, Result, MatchResult, true, false, ℕ, ◌+◌, ◌≤◌, ◌<◌, length}
use Rattle.pcrl.specs.Limits.{max_summands}
use Rattle.pcrl.specs.Tests.{Every}
use Rattle.pcrl.specs.Reader.{all}
use Rattle.pcrl.specs.Sheet.{Sheet}
use Rattle.pcrl.specs.Parts.{all_new_parts}
use Rattle.pcrl.specs.Table.{Equation, summands_of, summand_count}
use Rattle.pcrl.specs.Stream.{encode_list, encode_summand}
use Rattle.pcrl.specs.Right.{SummandWithin}
use Rattle.pcrl.specs.Heads.{table_of}
use Rattle.contexts.specs.Spots.{SummandFits}
use Rattle.theory.specs.Standing.{Standing}
use Rattle.nodes.specs.declared.Outline.{Outline}
use Rattle.emit.specs.Putting.{PutsTo}
use Rattle.parts.specs.Rows.{RowsOf}
use Rattle.parts.specs.Sheets.{Placed}
use Rattle.refusals.specs.declared.Refusal.{Refusal}
use Rattle.refusals.specs.declared.Refusal.TheVariants.{NoRoom}

-- "255 summands in all; per summand 4 sum variables, 8 conditions, 8 calls; 31 nodes a data term"
pub record SummandsWithin (es : List Equation) : Type 0 where
  pub few : summand_count es ≤ max_summands
  pub each : Every (λ (e : Equation). Every SummandWithin e.summands) es

-- the same, and no call has more terms than an equation may have parameters
pub record SummandsFit (es : List Equation) : Type 0 where
  pub few : summand_count es ≤ max_summands
  pub each : Every (λ (e : Equation). Every SummandFits e.summands) es

unfoldable pub summands_bytes : List Equation → List ℕ
summands_bytes es = all (encode_list encode_summand) (summands_of es)

abbrev pub Listed : Sheet → (w : ℕ) (o : List ℕ) → Result ℕ Refusal → (o' : List ℕ) → Type 0
Listed H w o r o' =
    MatchResult r (λ v. SummandsWithin (table_of H).equations × PutsTo (summands_bytes (table_of H).equations) w o v o')
    (λ e. SummandsFit (table_of H).equations → (e ≡ NoRoom) × (length o < w + length (summands_bytes (table_of H).equations)))

abbrev pub PutsSummands : (procs cells starts : List ℕ) → Outline → (rows : List ℕ) (count w : ℕ) (o : List ℕ) → Result ℕ Refusal → List ℕ → Type 0
PutsSummands procs cells starts n rows count w o r o' =
    (H : Sheet) → Standing H → Placed H procs cells starts n → count ≡ length (all_new_parts H.procs) → RowsOf cells rows 0 (all_new_parts H.procs) → Listed H w o r o'
