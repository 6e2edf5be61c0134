-- A sheet's tree stands in cells: at each recorded place its line, and the counts are the lengths.
use Rattle.std.specs.Prelude.{◌≡◌, List, ◌∷◌, ◌++◌, map, ℕ, ◌<◌, length, drop, get_or}
use Rattle.pcrl.specs.Tests.{Each}
use Rattle.pcrl.specs.Tree.{RawSheet}
use Rattle.parser.specs.Cells.{Symbol, symbol_of, enc_sort, enc_func, enc_act, enc_proc}
use Rattle.parser.specs.declared.Lines.{Lines}

-- what the cells stand for, where s are the sheet's bytes
unfoldable pub symbols : List ℕ → List ℕ → List Symbol
symbols s cells = map (symbol_of s) cells

-- at p these symbols
abbrev pub At : List ℕ → List ℕ → List Symbol → ℕ → Type 0
At s cells e p = (rest : List Symbol) × (drop p (symbols s cells) ≡ e ++ rest)

-- at each place its line
abbrev pub LinesAt : {A : Type 0} → (A → List Symbol) → List ℕ → List ℕ → List ℕ → List A → Type 0
LinesAt enc s cells places ls = Each (λ p l. At s cells (enc l) p) places ls

-- as many lines as there are places for are recorded, each where it stands
abbrev pub Recorded : {A : Type 0} → (A → List Symbol) → List ℕ → List ℕ → List ℕ → List A → Type 0
Recorded {A} enc s cells places ls = (i : ℕ) (l : A) (after : List A) → i < length places → drop i ls ≡ l ∷ after → At s cells (enc l) (get_or places i 0)

-- the lines of R
pub record Standing (s cells : List ℕ) (L : Lines) (R : RawSheet) : Type 0 where
  pub sort_count : L.sort_count ≡ length R.sorts
  pub func_count : L.func_count ≡ length R.funcs
  pub act_count : L.act_count ≡ length R.acts
  pub proc_count : L.proc_count ≡ length R.procs
  pub sorts : Recorded enc_sort s cells L.sorts R.sorts
  pub funcs : Recorded enc_func s cells L.funcs R.funcs
  pub acts : Recorded enc_act s cells L.acts R.acts
  pub procs : Recorded enc_proc s cells L.procs R.procs
