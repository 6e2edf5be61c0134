-- Bytes put one behind another into a lent array.
use Rattle.std.specs.Prelude.{◌≡◌, List, ◌++◌, Option, ℕ, ◌+◌, ◌≤◌, ◌<◌, length, take, MatchOption}

-- Behind those before w the bytes e were put, up to w', if there was room. There was, unless w was past the end.
pub record PutsTo (e : List ℕ) (w : ℕ) (o : List ℕ) (w' : ℕ) (o' : List ℕ) : Type 0 where
  pub same : length o' ≡ length o
  pub fits : w + length e ≤ length o → (w' ≡ w + length e) × (take w' o' ≡ take w o ++ e)
  pub over : length o < w + length e → length o < w'
  pub inside : w ≤ length o → w' ≤ length o

-- there was no room for the bytes e behind those before w
pub record NoRoom (e : List ℕ) (w : ℕ) (o o' : List ℕ) : Type 0 where
  pub same : length o' ≡ length o
  pub over : length o < w + length e

-- Behind those before w the bytes e were put, up to the place that is told; if there was no room, none is.
abbrev pub Puts : (e : List ℕ) (w : ℕ) (o : List ℕ) → Option ℕ → (o' : List ℕ) → Type 0
Puts e w o r o' = MatchOption r (NoRoom e w o o') (λ w'. PutsTo e w o w' o')
