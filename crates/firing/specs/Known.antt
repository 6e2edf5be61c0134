-- What is known of a table at a place of its stream: of its terms and their values, of its actions and the parameters of its equations.
use Rattle.std.specs.Prelude.{◌≡◌, List, [], ℕ, ◌<◌, ◌≤◌, length, get_or}
use Rattle.pcrl.specs.Limits.{max_arity, max_actions, frame_width}
use Rattle.pcrl.specs.Tests.{Every}
use Rattle.pcrl.specs.Sheet.{Action, no_action, Sig}
use Rattle.pcrl.specs.Table.{Summand, Table, equation, params_of}
use Rattle.pcrl.specs.Right.{RightSummand, RightTable}
use Rattle.pcrl.specs.Stack.{InSorts}
use Rattle.pcrl.specs.Stream.{variable_code, encode_numbers, encode_list, encode_action, encode_summand}
use Rattle.terms.specs.Stands.{Stands}
use Rattle.evaluation.specs.Known.{KnownTerms, Alike}

-- the variables of the sorts Γ are worth vs, and e has these values
pub record Valued (S : Sig) (s funcs e Γ vs : List ℕ) : Type 0 where
  pub known : KnownTerms S s funcs
  pub short : length Γ ≤ variable_code
  pub in_sorts : InSorts S Γ vs
  pub alike : Alike e vs

-- where the actions and the parameters of the equations stand
pub record KnownParts (S : Sig) (Ps : List (List ℕ)) (s acts params : List ℕ) : Type 0 where
  pub act_at : (a : ℕ) → a < length S.acts → Stands s (get_or acts a 0) (encode_action (get_or S.acts a no_action))
  pub params_at : (e : ℕ) → e < length Ps → Stands s (get_or params e 0) (encode_numbers (get_or Ps e []))
  pub few_acts : length S.acts ≤ max_actions
  pub few_sorts : Every (λ (a : Action). length a.takes ≤ max_arity) S.acts
  pub few_params : Every (λ (Ds : List ℕ). length Ds ≤ frame_width) Ps

-- the summands hs of an equation whose parameters are of the sorts Δ and worth vs
pub record AtRow (S : Sig) (Ps : List (List ℕ)) (s funcs acts params Δ vs : List ℕ) (hs : List Summand) : Type 0 where
  pub known : KnownTerms S s funcs
  pub parts : KnownParts S Ps s acts params
  pub right : Every (RightSummand S Ps Δ) hs
  pub few : length Δ ≤ frame_width
  pub in_sorts : InSorts S Δ vs

-- where the parts of a right table stand
pub record KnownTable (T : Table) (s funcs acts params rows : List ℕ) : Type 0 where
  pub right : RightTable T
  pub terms : KnownTerms T.sig s funcs
  pub parts : KnownParts T.sig (params_of T.equations) s acts params
  pub rows_at : (e : ℕ) → e < length T.equations → Stands s (get_or rows e 0) (encode_list encode_summand (equation T e).summands)

-- where the actions stand, and how many there are
pub record ActsAt (S : Sig) (s acts : List ℕ) (actions : ℕ) : Type 0 where
  pub count : actions ≡ length S.acts
  pub act_at : (a : ℕ) → a < length S.acts → Stands s (get_or acts a 0) (encode_action (get_or S.acts a no_action))
