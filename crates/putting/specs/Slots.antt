-- Data terms as stream bytes in slots of one width: how many nodes, how many bytes, the bytes.
use Rattle.std.specs.Prelude.{◌≡◌, List, ◌++◌, ℕ, ◌+◌, ◌*◌, ◌≤◌, ◌<◌, length, drop, take, get_or}
use Rattle.pcrl.specs.Limits.{max_nodes}
use Rattle.pcrl.specs.Sheet.{Data, val, var, app, Datas, nil, cons, list_of, Operation, first_equal, operation}
use Rattle.pcrl.specs.Table.{nodes}
use Rattle.pcrl.specs.Stream.{encode_data}
use Rattle.pcrl.specs.Heads.{look}
use Rattle.laws.specs.TermLength.{Narrow, max_term}
use Rattle.nodes.specs.Layout.{byte_limit}

-- a slot: two counts, and the bytes of a term
abbrev pub slot_width : ℕ
slot_width = 2 + max_term

-- The slot from b on holds a term, or only that it has too many nodes.
pub record Slot (d : Data) (s : List ℕ) (b : ℕ) : Type 0 where
  pub whole : get_or s b 0 ≤ max_nodes
      → (get_or s b 0 ≡ nodes d) × (get_or s (b + 1) 0 ≡ length (encode_data d)) × (take (get_or s (b + 1) 0) (drop (b + 2) s) ≡ encode_data d)
  pub long : max_nodes < get_or s b 0 → max_nodes < nodes d
  pub narrow : Narrow d

-- the terms for the variables 0 to n - 1
pub record Slots (σ : List Data) (s : List ℕ) (n : ℕ) : Type 0 where
  pub many : length σ ≡ n
  pub each : (i : ℕ) → i < n → Slot (look σ i) s (slot_width * i)

-- A term of cells that can be written: its numbers fit bytes, its variables are among n, each function has a code, and `==` its two arguments.
module _ (n : ℕ) where
  unfoldable mutual
    pub Writable : Data → Type 0
    Writable (val v) = v < byte_limit
    Writable (var i) = i < n
    Writable (app f ds) = (operation f ≡ Operation.unsorted → ⊥) × (f < first_equal + byte_limit) × (first_equal ≤ f → length (list_of ds) ≡ 2) × WritableArguments ds

    pub WritableArguments : Datas → Type 0
    WritableArguments nil = Unit {0}
    WritableArguments (cons d ds) = Writable d × WritableArguments ds

-- what stands before w' is what stood before w, and then e
abbrev pub Adds : List ℕ → ℕ → List ℕ → ℕ → List ℕ → Type 0
Adds e w o w' o' = take w' o' ≡ take w o ++ e
