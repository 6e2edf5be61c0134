-- Values that fit a frame, place by place: as many as there are sorts in their sorts, and the spare ones 0.
use Rattle.std.specs.Prelude.{◌≡◌, List, ℕ, ◌<◌, ◌≤◌, length, get_or}

-- the value v at place i
abbrev pub FitsAt : List ℕ → List ℕ → ℕ → ℕ → Type 0
FitsAt sizes sorts i v = (i < length sorts → v < get_or sizes (get_or sorts i 0) 0) × (length sorts ≤ i → v ≡ 0)

abbrev pub Fitting : List ℕ → List ℕ → List ℕ → Type 0
Fitting sizes sorts values = (length sorts ≤ length values) × ((i : ℕ) → i < length values → FitsAt sizes sorts i (get_or values i 0))
