-- Keys of names: a name's bytes folded into one. Names with different keys are different.
use Rattle.std.specs.Prelude.{◌≡◌, List, [], ◌∷◌, ℕ, ◌+◌, ◌*◌, ◌%◌, ◌≤◌, ◌<◌, length, drop, get_or}
use Rattle.pcrl.specs.Tree.{Name}
use Rattle.names.specs.NameCells.{name_at, scope_at}

-- how many keys there are
abbrev pub key_count : ℕ
key_count = 256

unfoldable pub mix : ℕ → ℕ → ℕ
mix k b = (k * 31 + b) % key_count

-- the key of bytes that stand behind those of key k
unfoldable pub key_on : ℕ → Name → ℕ
key_on k [] = k
key_on k (b ∷ x) = key_on (mix k b) x

unfoldable pub key_of : Name → ℕ
key_of x = key_on 0 x

-- from the place p on, the first of n names that has the key k stands at q; where there is none, q is not below n
pub record FirstFrom (s names : List ℕ) (n k p q : ℕ) : Type 0 where
  pub from : p ≤ q
  pub has : q < n → key_of (name_at s (get_or names q 0)) ≡ k
  pub least : (j : ℕ) → p ≤ j → j < n → key_of (name_at s (get_or names j 0)) ≡ k → q ≤ j

-- for each key the first of n names that has it, and for each name the next one that has its key
pub record Keyed (s names nexts firsts : List ℕ) (n : ℕ) : Type 0 where
  pub names_few : n ≤ length names
  pub nexts_few : n ≤ length nexts
  pub first_of : (k : ℕ) → k < key_count → FirstFrom s names n k 0 (get_or firsts k 0)
  pub next_of : (i : ℕ) → i < n → FirstFrom s names n (key_of (name_at s (get_or names i 0))) (i + 1) (get_or nexts i 0)

-- the names of so many cells, from lo on
abbrev pub names_from : List ℕ → List ℕ → ℕ → ℕ → List Name
names_from s names lo count = scope_at s (drop lo names) count
