-- Items joined by a sign, read one after another by a loop: the reader goes on from a later place.
use mathlib.Core.List.{List}
use Prim.Native.Nat.{ℕ, ◌<◌}
use Rattle.pcrl.specs.Tokens.{Token}
use Rattle.pcrl.specs.Reader.{Reader}
use Rattle.parser.specs.Cells.{Symbol}
use Rattle.parser.specs.Reading.{rest}
use Rattle.parser.proofs.Reaching.{Reaches}

-- What is read from `at` on, at every bound above its least one, follows from what is read from `from` on.
pub record Goes (s toks : List ℕ) {A : Type 0} (enc : A → List Symbol) (reader : ℕ → Reader Token A) (least : ℕ → ℕ) (at w : ℕ) (o : List ℕ) (from v : ℕ) (o₁ : List ℕ) : Type 0 where
  pub on : {end w' : ℕ} {o' : List ℕ} → ((g : ℕ) → least from < g → Reaches s toks enc v o₁ end w' o' (reader g (rest s toks from)))
      → (f : ℕ) → least at < f → Reaches s toks enc w o end w' o' (reader f (rest s toks at))

module _ {s toks : List ℕ} {A : Type 0} {enc : A → List Symbol} {reader : ℕ → Reader Token A} {least : ℕ → ℕ} {at w : ℕ} {o : List ℕ} where
  pub goes_start : Goes s toks enc reader least at w o at w o
  goes_start = record { on = λ h. h }

  pub goes_then : {from v : ℕ} {o₁ : List ℕ} → Goes s toks enc reader least at w o from v o₁ → {from₂ v₂ : ℕ} {o₂ : List ℕ} → Goes s toks enc reader least from v o₁ from₂ v₂ o₂ → Goes s toks enc reader least at w o from₂ v₂ o₂
  goes_then h k = record { on = λ x. h.on (k.on x) }
