-- What is known of a table's data by where it stands in the stream, place by place: arrays of places may be longer than what is there.
use Rattle.std.specs.Prelude.{◌≡◌, List, ℕ, ◌<◌, length, get_or}
use Rattle.pcrl.specs.Tests.{Every}
use Rattle.pcrl.specs.Sheet.{Sig, size, func}
use Rattle.pcrl.specs.Stream.{encode_func}
use Rattle.pcrl.specs.Right.{RightSizes, RightFunc}
use Rattle.terms.specs.Stands.{Stands, size_in}

pub record KnownTerms (S : Sig) (s funcs : List ℕ) : Type 0 where
  pub size_at : (D : ℕ) → D < length S.sorts → size_in funcs D ≡ size S D
  pub func_at : (f : ℕ) → f < length S.funcs → Stands s (get_or funcs f 0) (encode_func (func S f))
  pub right_sizes : RightSizes S.sorts
  pub right_funcs : Every (RightFunc S.sorts) S.funcs

-- two lists of values for the variables that no term tells apart
abbrev pub Alike : List ℕ → List ℕ → Type 0
Alike e f = (i : ℕ) → get_or e i 0 ≡ get_or f i 0
