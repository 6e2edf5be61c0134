-- What is known of a table by where its parts stand in the stream: one notion, an encoding that stands at a place.
use Rattle.std.specs.Prelude.{◌≡◌, List, ◌++◌, ℕ, ◌+◌, ◌%◌, length, get_or, take, drop}
use Rattle.pcrl.specs.Limits.{max_arity, max_functions}
use Rattle.pcrl.specs.Tests.{Between, Every, Each}
use Rattle.pcrl.specs.Sheet.{Sig, Func}
use Rattle.pcrl.specs.Stream.{encode_numbers, encode_func, encode_action}

-- the encoding e stands in s at a place
abbrev pub Stands : List ℕ → ℕ → List ℕ → Type 0
Stands s at e = (rest : List ℕ) × (drop at s ≡ e ++ rest)

-- a place for each of the values, and its encoding stands there
unfoldable pub Standing : {A : Type 0} → (A → List ℕ) → List ℕ → List A → List ℕ → Type 0
Standing encode s xs places = Each (λ x at. Stands s at (encode x)) xs places

-- the counted list of numbers that stands at a place
abbrev pub list_at : List ℕ → ℕ → List ℕ
list_at s at = take (get_or s at 0) (drop (at + 1) s)

-- the size of a sort in an array that has the places of the functions and, behind room for all of them, the sizes of the sorts
abbrev pub size_in : List ℕ → ℕ → ℕ
size_in funcs D = get_or funcs (max_functions + D) 0 % 256

-- the sizes of the sorts, and where the functions stand
pub record KnownData (S : Sig) (s sizes funcs : List ℕ) : Type 0 where
  pub sizes_are : sizes ≡ S.sorts
  pub stand : Standing encode_func s S.funcs funcs
  pub arity : Every (λ (g : Func). Between 1 max_arity (length g.takes)) S.funcs

-- where the actions stand
abbrev pub KnownActs : Sig → List ℕ → List ℕ → Type 0
KnownActs S s acts = Standing encode_action s S.acts acts

-- where the parameters of each equation stand
abbrev pub KnownParams : List (List ℕ) → List ℕ → List ℕ → Type 0
KnownParams Ps s params = Standing encode_numbers s Ps params
