-- What the writers of clauses say: each writes its piece, if what is written stands in the stream.
use Rattle.std.specs.Prelude.{◌≡◌, List, [], ◌∷◌, ◌++◌, ℕ, ◌+◌, ◌≤◌, ◌<◌, length, get_or, drop}
use Rattle.pcrl.specs.Limits.{frame_width}
use Rattle.pcrl.specs.Tests.{Every, Each}
use Rattle.pcrl.specs.Text.{bytes, byte}
use Rattle.pcrl.specs.Reader.{all}
use Rattle.pcrl.specs.Sheet.{Data, Act, Sig, takes_of}
use Rattle.pcrl.specs.Sorts.{IsAct}
use Rattle.pcrl.specs.Table.{Summand}
use Rattle.pcrl.specs.Stream.{variable_code, encode_data, encode_numbers, encode_list, encode_act, encode_call, encode_summand}
use Rattle.pcrl.specs.Right.{AreSorts, RightTerm, RightCond, RightCall, RightSummand}
use Rattle.rendering.specs.Texts.{act_text, call_text, sums_text, summand_text}
use Rattle.terms.specs.Stands.{Stands}
use Rattle.evaluation.specs.Known.{KnownTerms}
use Rattle.opening.specs.Opened.{no_cond}
use Rattle.firing.specs.Known.{KnownParts}
use Rattle.texts.specs.Wrote.{Wrote}
use Rattle.lettering.specs.Named.{vars_place, lettered_by, sort_by, Lettered}
use Rattle.clauses.specs.declared.data.TextPut.{TextPut}
use Rattle.clauses.specs.Terms.{Puts}

-- what is known of the table, of the sorts of the variables and of the letters
pub record Ground (S : Sig) (s funcs Γ : List ℕ) (l : List ℕ) : Type 0 where
  pub known : KnownTerms S s funcs
  pub short : length Γ ≤ variable_code
  pub letters : Lettered S l

-- whatever stands in the stream: the text ends in the lent bytes
pub record Ends (out : List ℕ) (r : ℕ) (out' : List ℕ) : Type 0 where
  pub fits : r ≤ length out
  pub same : length out' ≡ length out

-- a condition whose wanted value stands at a place
pub record CondAt (s : List ℕ) (c : ℕ × Data) (from : ℕ) : Type 0 where
  pub wanted : get_or s from 0 ≡ c.0
  pub inside : from ≤ length s
  pub rest : List ℕ
  pub there : drop (from + 1) s ≡ encode_data c.1 ++ rest

-- conditions, each at its place
pub record CondsAt (s : List ℕ) (cs : List (ℕ × Data)) (froms : List ℕ) (n : ℕ) : Type 0 where
  pub count_is : n ≡ length cs
  pub each_at : (i : ℕ) → i < length cs → CondAt s (get_or cs i no_cond) (get_or froms i 0)

-- the sum of variable i, of a sort, with the names and letters given
abbrev pub sum_by : List ℕ → ℕ → ℕ → List ℕ
sum_by l i D = bytes "sum(" ++ (lettered_by l (byte "v") vars_place i ++ (bytes ":" ++ (sort_by l D ++ bytes ",")))

-- a mark is written if i is below n
pub record Marks (out : List ℕ) (at b i n : ℕ) (out' : List ℕ) (r : ℕ) : Type 0 where
  pub below : i < n → Wrote out at (b ∷ []) out' r
  pub past : n ≤ i → Wrote out at [] out' r

module _ (s : List ℕ) (l : List ℕ) (from n : ℕ) (out : List ℕ) (at : ℕ) (out' : List ℕ) (r : ℕ) where
  abbrev pub SumsPut : Type 0
  SumsPut = (S : Sig) (funcs vars : List ℕ) → KnownTerms S s funcs → Lettered S l → AreSorts S.sorts vars → n + length vars ≤ 256 → Stands s from (encode_numbers vars) → Wrote out at (sums_text S n vars) out' r

module _ (s funcs : List ℕ) (l : List ℕ) where
  -- a condition, or what stands of it on one side
  abbrev pub CondPut : (Sig → ℕ × Data → List ℕ) → ℕ → List ℕ → ℕ → List ℕ → ℕ → Type 0
  CondPut text from out at out' r = (S : Sig) (Γ : List ℕ) (c : ℕ × Data) → Ground S s funcs Γ l → RightCond S Γ c → CondAt s c from → Wrote out at (text S c) out' r

  -- what stands of n conditions on one side
  abbrev pub CondsPut : (Sig → List (ℕ × Data) → List ℕ) → List ℕ → ℕ → List ℕ → ℕ → List ℕ → ℕ → Type 0
  CondsPut text froms n out at out' r = (S : Sig) (Γ : List ℕ) (cs : List (ℕ × Data)) → Ground S s funcs Γ l → Every (RightCond S Γ) cs → CondsAt s cs froms n → Wrote out at (text S cs) out' r

  abbrev pub ActionPut : List ℕ → ℕ → List ℕ → ℕ → List ℕ → TextPut → Type 0
  ActionPut acts from out at out' r = (S : Sig) (Ps : List (List ℕ)) (params Γ : List ℕ) (act : Act) (ts : List Data) (rest : List ℕ) → Ground S s funcs Γ l → KnownParts S Ps s acts params → IsAct S act → Each (RightTerm S Γ) (takes_of S act) ts
      → drop from s ≡ encode_act act ++ (all encode_data ts ++ rest) → Puts s out at (act_text S act ts) rest r out'

  abbrev pub CallPut : List ℕ → ℕ → List ℕ → ℕ → List ℕ → TextPut → Type 0
  CallPut params from out at out' r = (S : Sig) (Ps : List (List ℕ)) (acts Γ : List ℕ) (c : ℕ × List Data) (rest : List ℕ) → Ground S s funcs Γ l → KnownParts S Ps s acts params → RightCall S Ps Γ c
      → drop from s ≡ encode_call c ++ rest → Puts s out at (call_text S c) rest r out'

  abbrev pub CallsPut : List ℕ → ℕ → List ℕ → ℕ → List ℕ → TextPut → Type 0
  CallsPut params from out at out' r = (S : Sig) (Ps : List (List ℕ)) (acts Γ : List ℕ) (cs : List (ℕ × List Data)) (rest : List ℕ) → Ground S s funcs Γ l → KnownParts S Ps s acts params → Every (RightCall S Ps Γ) cs
      → drop from s ≡ encode_list encode_call cs ++ rest → Puts s out at (all (call_text S) cs) rest r out'

  abbrev pub SummandPut : List ℕ → List ℕ → ℕ → ℕ → List ℕ → ℕ → List ℕ → TextPut → Type 0
  SummandPut acts params from n out at out' r = (S : Sig) (Ps : List (List ℕ)) (Δ : List ℕ) (h : Summand) (rest : List ℕ) → KnownTerms S s funcs → KnownParts S Ps s acts params → RightSummand S Ps Δ h → length Δ ≡ n → n ≤ frame_width → Lettered S l
      → drop from s ≡ encode_summand h ++ rest → Puts s out at (summand_text S n h) rest r out'
