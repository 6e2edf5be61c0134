-- A list that is read, each value's place kept.
use Rattle.std.specs.Prelude.{◌≡◌, List, ℕ, drop, Option, Some, None}
use Rattle.pcrl.specs.Reader.{Got, missing, found}
use Rattle.terms.specs.Stands.{Standing}

-- g: what is to be read; where it is found the answer is where it ends, and its values stand at the places
unfoldable pub Laid : {A : Type 0} → Got ℕ (List A) → (A → List ℕ) → List ℕ → Option ℕ → List ℕ → Type 0
Laid {A} g encode s (Some end) places = (xs : List A) × (g ≡ found xs (drop end s)) × Standing encode s xs places
Laid g encode s None places = g ≡ missing
