-- What a checking function answers: where its reader ends, the value forgotten.
use Rattle.std.specs.Prelude.{List, ℕ, drop, Option, Some, None}
use Rattle.pcrl.specs.Reader.{Got, missing, found}

-- what is left, whatever was read
unfoldable pub rests : {A : Type 0} → Got ℕ A → Got ℕ (Unit {0})
rests missing = missing
rests (found a xs) = found tt xs

-- where the piece ends, if it is right
abbrev pub ended : List ℕ → Option ℕ → Got ℕ (Unit {0})
ended s (Some at) = found tt (drop at s)
ended s None = missing
