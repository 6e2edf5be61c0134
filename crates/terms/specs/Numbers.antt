-- A counted list of numbers, both bounds of its count and of each number given.
use Rattle.std.specs.Prelude.{◌≡◌, List, ℕ, ◌+◌, ◌≤◌, ◌<◌, length, get_or}
use Rattle.std.proofs.Math.Decide.{dec_le, dec_lt}
use Rattle.pcrl.specs.Tests.{both?, between?}
use Rattle.pcrl.specs.Reader.{Reader, one, counted}

-- a number from low to below limit stands at a place
abbrev pub NumberAt : List ℕ → ℕ → ℕ → ℕ → Type 0
NumberAt s at low limit = (at < length s) × ((low ≤ get_or s at 0) × (get_or s at 0 < limit))

-- low ≤ n < limit
unfoldable pub from? : (low limit n : ℕ) → Dec ((low ≤ n) × (n < limit))
from? low limit n = both? (dec_le low n) (dec_lt n limit)

-- from `least` to `most` numbers, each from `low` to below `limit`
unfoldable pub read_list : (least most low limit : ℕ) → Reader ℕ (List ℕ)
read_list least most low limit = counted (between? least most) (one (from? low limit))

-- where such a list ends that starts at a place
pub record ListEnds (s : List ℕ) (at most past : ℕ) : Type 0 where
  pub end : past ≡ at + 1 + get_or s at 0
  pub inside : past ≤ length s
  pub few : get_or s at 0 ≤ most
