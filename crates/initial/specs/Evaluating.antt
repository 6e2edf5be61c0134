-- What the evaluator of data terms without variables says, for every term that stands in the cells.
use Rattle.std.specs.Prelude.{◌≡◌, List, [], Option, ◌++◌, map, ℕ, ◌*◌, ◌%◌, ◌≤◌, ◌<◌, length, take, drop}
use Rattle.pcrl.specs.Sheet.{call, Sig, Sheet}
use Rattle.pcrl.specs.Sorts.{closed, Sorted}
use Rattle.pcrl.specs.Values.{eval}
use Rattle.pcrl.specs.Right.{RightSig}
use Rattle.pcrl.specs.Stream.{encode_start}
use Rattle.nodes.specs.declared.Outline.{Outline}
use Rattle.nodes.specs.Layout.{cell_limit, byte_limit}
use Rattle.nodes.specs.Held.{HeldSig, TermAt}
use Rattle.emit.specs.Putting.{Puts}
use Rattle.initial.specs.declared.Reached.{Reached}
use Rattle.initial.specs.Symbols.{Symbol, symbol_cells, cells_of, after, run}

-- no place among a function's values is so far on
abbrev pub far : ℕ
far = cell_limit * cell_limit

-- the arrays hold a signature that passes questions 1 to 9
pub record Known (S : Sig) (sizes funcs values places : List ℕ) : Type 0 where
  pub acts : List ℕ
  pub outline : Outline
  pub held : HeldSig S sizes funcs values places acts outline
  pub right : RightSig S

-- one symbol was read, whatever stands there: the values stay behind what is left
pub record Further (c : List ℕ) (i : ℕ) (r : Reached) : Type 0 where
  pub less : r.end < i
  pub above : r.end ≤ r.top
  pub inside : r.top ≤ length c

-- the symbol that stands before i, and the values from t on
abbrev pub Steps : (sizes funcs values places c : List ℕ) → (i t : ℕ) → Reached → List ℕ → Type 0
Steps sizes funcs values places c i t r c' =
    (p : List ℕ) (a : Symbol) → take i c ≡ p ++ symbol_cells a → (take r.end c' ≡ p) × (drop r.top c' ≡ after sizes funcs values places a (drop t c))

-- the symbols that stand from `at` to `end`: their values stand from t on
abbrev pub Evaluates : (sizes funcs values places c : List ℕ) → (at end t : ℕ) → List ℕ → Type 0
Evaluates sizes funcs values places c at end t c' =
    (p : List ℕ) (l : List Symbol) → length p ≡ at → take end c ≡ p ++ cells_of l → drop t c' ≡ run sizes funcs values places l (drop end c)

-- the low bytes of n numbers
abbrev pub PutsValues : List ℕ → (at n w : ℕ) (o : List ℕ) → Option ℕ → (o' : List ℕ) → Type 0
PutsValues c at n w o r o' = (vs rest : List ℕ) → length vs ≡ n → drop at c ≡ vs ++ rest → Puts (map (λ (v : ℕ). v % byte_limit) vs) w o r o'

-- "start equation, its data evaluated"
abbrev pub PutsStart : (sizes funcs values places cells : List ℕ) → (at w : ℕ) (o : List ℕ) → Option ℕ → (o' : List ℕ) → Type 0
PutsStart sizes funcs values places cells at w o r o' =
    (H : Sheet) → Known H.sig sizes funcs values places → length H.procs < 256 → Sorted H closed (call H.start.0 H.start.1) → TermAt (call H.start.0 H.start.1) cells at
    → Puts (encode_start (H.start.0, map (eval H.sig []) H.start.1)) w o r o'
