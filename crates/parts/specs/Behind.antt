-- Bytes put behind those before a place, if there is one: where there was no room before, nothing is put any more.
use Rattle.std.specs.Prelude.{◌≡◌, List, Option, None, ℕ, MatchOption}
use Rattle.emit.specs.Putting.{Puts}

abbrev pub PutsFrom : (e : List ℕ) → Option ℕ → (o : List ℕ) → Option ℕ → (o' : List ℕ) → Type 0
PutsFrom e w o r o' = MatchOption w ((r ≡ None) × (o' ≡ o)) (λ v. Puts e v o r o')
