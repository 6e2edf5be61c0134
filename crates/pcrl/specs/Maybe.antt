-- Values that may be missing, one after another.
use Rattle.std.specs.Prelude.{List, [], ◌∷◌, Bool, true, false}
use Rattle.std.proofs.Math.Option.{Option, none, some}

abbrev pub ◌>>=◌ : {A B : Type 0} → Option A → (A → Option B) → Option B
◌>>=◌ none k = none
◌>>=◌ (some a) k = k a

abbrev pub ◌>>◌ : {A B : Type 0} → Option A → Option B → Option B
◌>>◌ none k = none
◌>>◌ (some a) k = k

-- only where a test passes
abbrev pub provided : Bool → Option (Unit {0})
provided true = some tt
provided false = none

-- a value for each element, or none
unfoldable pub for_each : {A B : Type 0} → (A → Option B) → List A → Option (List B)
for_each f [] = some []
for_each f (a ∷ l) = do
  b ← f a
  m ← for_each f l
  some (b ∷ m)
