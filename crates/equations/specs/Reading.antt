-- The equations of a table that are read, under a signature that is known by places.
use Rattle.std.specs.Prelude.{◌≡◌, List, [], ◌∷◌, ℕ, ◌+◌, get_or, drop, Option, Some, None}
use Rattle.pcrl.specs.Limits.{frame_width}
use Rattle.pcrl.specs.Tests.{Every}
use Rattle.pcrl.specs.Reader.{Got, missing, found}
use Rattle.pcrl.specs.Sheet.{Sig}
use Rattle.pcrl.specs.Table.{Summand, Equation, params_of, summands_of, summand_count}
use Rattle.pcrl.specs.Stream.{encode_list, encode_summand}
use Rattle.pcrl.specs.Right.{RightSig, RightSorts}
use Rattle.pcrl.specs.Decode.{read_equations}
use Rattle.terms.specs.Laid.{Laid}
use Rattle.equations.specs.declared.SummandRows.{SummandRows}
use Rattle.terms.specs.Stands.{Standing, KnownData, KnownActs, KnownParams}

-- a right signature, by places
pub record KnownSig (S : Sig) (s sizes funcs acts : List ℕ) : Type 0 where
  pub data_known : KnownData S s sizes funcs
  pub acts_known : KnownActs S s acts
  pub right : RightSig S

-- the parameters of all equations, right and by places
pub record KnownRows (S : Sig) (Ps : List (List ℕ)) (s params : List ℕ) : Type 0 where
  pub params_known : KnownParams Ps s params
  pub rights : Every (RightSorts S frame_width) Ps

-- the sum of the numbers at places
unfoldable pub total_at : List ℕ → List ℕ → ℕ
total_at s [] = 0
total_at s (p ∷ places) = get_or s p 0 + total_at s places

-- the summands g of all equations: where they end, that they stand at the places, and how many they are
abbrev pub RowsRead : Got ℕ (List (List Summand)) → List ℕ → List ℕ → Option SummandRows → Type 0
RowsRead g s rows (Some r) = Laid g (encode_list encode_summand) s (Some r.at) rows × (r.total ≡ total_at s rows)
RowsRead g s rows None = g ≡ missing

-- the equations that stand from `at` to `end`
pub record EquationsAt (S : Sig) (es : List Equation) (s : List ℕ) (at end total : ℕ) (params rows : List ℕ) : Type 0 where
  pub reads : read_equations S (drop at s) ≡ found es (drop end s)
  pub params_known : KnownParams (params_of es) s params
  pub rows_stand : Standing (encode_list encode_summand) s (summands_of es) rows
  pub total_is : total ≡ summand_count es

unfoldable pub EquationsRead : Sig → List ℕ → ℕ → ℕ → ℕ → List ℕ → List ℕ → Type 0
EquationsRead S s at end total params rows = (es : List Equation) × EquationsAt S es s at end total params rows
