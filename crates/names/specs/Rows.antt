-- The signature's rows: what is written for a list of sorts, for the lines of a kind, and for a process's parameters.
use Rattle.std.specs.Prelude.{◌≡◌, List, [], ◌∷◌, ◌++◌, Bool, true, false, ℕ, ◌+◌, ◌≤◌, ◌<◌, Option, Some, None, length, take, drop, get_or}
use Rattle.std.proofs.Math.Option as O
use Rattle.pcrl.specs.Text.{bytes}
use Rattle.pcrl.specs.Limits.{max_numeral, frame_width}
use Rattle.pcrl.specs.Tests.{Every}
use Rattle.pcrl.specs.Reader.{all}
use Rattle.pcrl.specs.Tree.{Name, FuncLine, ActLine}
use Rattle.pcrl.specs.Sheet.{Func, no_func, no_action}
use Rattle.pcrl.specs.Maybe.{for_each}
use Rattle.pcrl.specs.Names.{Names, declared, number_of, resolve_func, resolve_act, resolve_params}
use Rattle.grammar.specs.Formed.{FormedFunc, FormedAct}
use Rattle.parser.specs.Cells.{Symbol, enc_func, enc_act, enc_items, enc_param, enc_numeral}
use Rattle.nodes.specs.Held.{SortsAt, FuncAt, ActAt}
use Rattle.names.specs.NameCells.{names_at, scope_at}
use Rattle.names.specs.NameKinds.{total_of, sorts_in}
use Rattle.names.specs.Standing.{symbols, LinesAt}
use Rattle.names.specs.declared.Kinds.{Kinds}
use Rattle.names.specs.declared.Params.{Params}

-- the names of the sorts, Bool first
unfoldable pub sorts_at : List ℕ → List ℕ → List ℕ → List Name
sorts_at s cells sorts = bytes "Bool" ∷ names_at s cells sorts (length sorts)

-- the list keeps its length and what stands before p
pub record Kept (p : ℕ) (l l' : List ℕ) : Type 0 where
  pub same : length l' ≡ length l
  pub before : take p l' ≡ take p l

-- the answer to whether there are values, and what holds of them
abbrev pub Answers : {A : Type 0} → (A → Type 0) → O.Option A → Bool → Type 0
Answers P O.none ok = ok ≡ false
Answers P (O.some a) ok = (ok ≡ true) × P a

-- the same where the answer is itself a value: none is given, or P holds of both
abbrev pub Yields : {A B : Type 0} → (A → B → Type 0) → O.Option A → Option B → Type 0
Yields P O.none None = Unit {0}
Yields P (O.some a) (Some b) = P a b
Yields P O.none (Some b) = ⊥
Yields P (O.some a) None = ⊥

-- each value has its row
abbrev pub InRows : {A : Type 0} → A → (A → ℕ → Type 0) → List A → Type 0
InRows d P as' = (i : ℕ) → i < length as' → P (get_or as' i d) i

-- the sorts that some names have
abbrev pub numbered : List Name → List Name → O.Option (List ℕ)
numbered sorts xs = for_each (λ x. number_of x sorts) xs

-- what is written of an action's line
abbrev pub ActRows : (s cells sorts places rows : List ℕ) → Bool → Type 0
ActRows s cells sorts places rows ok = (N : Names) (ls : List ActLine) → N.sorts ≡ sorts_at s cells sorts → LinesAt enc_act s cells places ls → Every FormedAct ls
    → Answers (InRows no_action (λ a i. ActAt a rows i)) (for_each (resolve_act N) ls) ok

-- a function's row at p, and where its values stand
pub record FuncRow (g : Func) (l : FuncLine) (m rest : List Symbol) (rows : List ℕ) (p at : ℕ) : Type 0 where
  pub takes : SortsAt g.takes rows p
  pub gives : get_or rows (p + 3) 0 ≡ g.gives
  pub values : g.values ≡ l.values
  pub arity : length g.takes ≡ length l.takes
  pub next : drop at m ≡ enc_items enc_numeral l.values ++ rest

abbrev pub FuncRead : (s cells sorts : List ℕ) (at : ℕ) (rows : List ℕ) (p : ℕ) → Option ℕ → Type 0
FuncRead s cells sorts at rows p r = (N : Names) (l : FuncLine) (rest : List Symbol) → N.sorts ≡ sorts_at s cells sorts → drop at (symbols s cells) ≡ enc_func l ++ rest → FormedFunc l
    → Yields (λ g q. FuncRow g l (symbols s cells) rest rows p q) (resolve_func N l) r

-- numerals as a lexer reads them
abbrev pub SmallValues : FuncLine → Type 0
SmallValues l = Every (λ v. v ≤ max_numeral) l.values

-- what is written of the functions' lines, where there is room for the values
abbrev pub FuncRows : (s cells sorts lines rows values places : List ℕ) → Bool → Type 0
FuncRows s cells sorts lines rows values places ok =
    (N : Names) (ls : List FuncLine) → N.sorts ≡ sorts_at s cells sorts → LinesAt enc_func s cells lines ls → Every FormedFunc ls → Every SmallValues ls
    → length (all (λ (l : FuncLine). l.values) ls) ≤ length values → Answers (InRows no_func (λ g i. FuncAt g rows values places i)) (for_each (resolve_func N) ls) ok

-- parameters: their names in scope, their row, and what stands behind them
pub record ParamRow (s : List ℕ) (x : List Name × List ℕ) (m rest : List Symbol) (row scope : List ℕ) (r : Params) : Type 0 where
  pub many : r.count ≡ length x.1
  pub scoped : scope_at s scope r.count ≡ x.0
  pub sorts : SortsAt x.1 row 0
  pub next : drop r.at m ≡ rest

abbrev pub ParamsRead : (s cells names : List ℕ) (kinds : Kinds) (at : ℕ) (row scope : List ℕ) → Option Params → Type 0
ParamsRead s cells names kinds at row scope r =
    (N : Names) (ps : List (Name × Name)) (rest : List Symbol) → N.sorts ≡ sorts_in s names kinds → declared N ≡ bytes "Bool" ∷ scope_at s names (total_of kinds)
    → drop at (symbols s cells) ≡ enc_items enc_param ps ++ rest → length ps ≤ frame_width
    → Yields (λ x p. ParamRow s x (symbols s cells) rest row scope p) (resolve_params N [] ps) r
