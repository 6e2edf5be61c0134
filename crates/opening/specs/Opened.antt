-- What is known of a summand's variables and conditions once they were gone through.
use Rattle.std.specs.Prelude.{◌≡◌, List, ◌++◌, map, ℕ, ◌+◌, ◌-◌, ◌<◌, ◌≤◌, length, get_or, drop, replicate}
use Rattle.pcrl.specs.Limits.{max_variables}
use Rattle.pcrl.specs.Sheet.{Data, val, Sig, size}
use Rattle.pcrl.specs.Stream.{encode_data}
use Rattle.laws.specs.TermLength.{max_term}
use Rattle.evaluation.specs.Run.{peak, foot}
use Rattle.assignments.specs.Places.{product}
use Rattle.assignments.specs.Conditions.{code}
use Rattle.assignments.specs.declared.Conditions.{Conditions}

-- the sizes of the sorts of the variables, and 1 for each that is not there
unfoldable pub sizes_of : Sig → List ℕ → List ℕ
sizes_of S vars = map (size S) vars ++ replicate (max_variables - length vars) 1

abbrev pub no_cond : ℕ × Data
no_cond = (0, val 0)

-- a condition stands in the stream up to `end`, with its block and what it names
pub record Stood (s : List ℕ) (p : ℕ) (sizes : List ℕ) (reach low : ℕ) (c : ℕ × Data) (from end block : ℕ) : Type 0 where
  pub some_term : from + 1 ≤ end
  pub short : end ≤ from + 1 + max_term
  pub inside : end ≤ length s
  pub block_is : block ≡ product (drop (peak (code s from end) - p) sizes)
  pub below : peak (code s from end) ≤ reach
  pub above : low ≤ foot p (code s from end)
  pub code_is : code s from end ≡ encode_data c.1
  pub wanted_is : get_or s from 0 ≡ c.0

-- the conditions cs, found in the stream
pub record Prepared (s : List ℕ) (p : ℕ) (sizes : List ℕ) (cs : List (ℕ × Data)) (rest : List ℕ) (r : Conditions) : Type 0 where
  pub count_is : r.count ≡ length cs
  pub stood : (i : ℕ) → i < length cs → Stood s p sizes r.reach r.low (get_or cs i no_cond) (get_or r.froms i 0) (get_or r.ends i 0) (get_or r.blocks i 0)
  pub ends_at : drop r.end s ≡ rest
