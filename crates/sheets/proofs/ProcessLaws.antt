-- One process: its parameters stand behind its name and its right side behind them, which is resolved with the parameters in scope.
use mathlib.Core.Path.{◌≡◌, refl, ◌∙◌, ap, subst}
use mathlib.Core.List.{List, [], ◌∷◌, ◌++◌, append_assoc}
use Rattle.std.specs.Prelude.{Option as Given, Some, None}
use mathlib.Core.Option.{Option, none, some}
use Prim.Native.Nat.{ℕ, ◌+◌, ◌*◌, ◌≤◌, ◌<◌}
use native.Mathlib.Omega.{arith}
use lib.ListN.{length, drop}
use Rattle.pcrl.specs.Text.{bytes}
use Rattle.pcrl.specs.Limits.{max_open, max_functions, frame_width}
use Rattle.pcrl.specs.Maybe.{◌>>=◌}
use Rattle.pcrl.specs.Tokens.{name}
use Rattle.pcrl.specs.Tree.{Name, ProcLine}
use Rattle.pcrl.specs.Sheet.{Proc, Sig}
use Rattle.pcrl.specs.Names.{Names, declared, resolve_choice, resolve_params, resolve_proc}
use Rattle.pcrl.specs.Print.{line, print_proc}
use Rattle.parser.specs.Cells.{Symbol, tag, token, proc_tag, enc_items, enc_param, enc_choice, enc_proc}
use Rattle.names.specs.declared.Params.{Params}
use Rattle.names.specs.NameCells.{scope_at}
use Rattle.names.specs.NameKinds.{total_of}
use Rattle.names.specs.declared.Kinds.{Kinds}
use Rattle.names.specs.Standing.{symbols}
use Rattle.names.specs.Rows.{Yields, ParamRow, ParamsRead}
use Rattle.names.proofs.KindLaws.{kinds_joined}
use Rattle.names.proofs.Items.{behind}
use Rattle.names.proofs.Kept.{yields_none, yields_some}
use Rattle.parser.specs.declared.Step.{Step}
use Rattle.resolver.specs.Raw.{sum_depth}
use Rattle.resolver.specs.Resolving.{Declared, ResolvesRight}
use Rattle.resolver.specs.Resolving.{Answers as SideAnswers}
use Rattle.resolver.specs.Sorting.{scope_sorts}
use Rattle.resolver.specs.InScope.{process_scoped}
use Rattle.sheets.specs.ScopePuts.{SortsPut, ResultsPut}
use Rattle.sheets.specs.Resolving.{ProcessRow, ProcessRead}
use Rattle.sheets.proofs.ScopeLaws.{filled_names, filled_sorts, filled_known}
use Rattle.sheets.proofs.TermRoom.{right_room}
use Rattle.sheets.proofs.Asked.{yields_last}

-- a name of the parameters is not as it must be
params_missing : (N : Names) (S : Sig) (l : ProcLine) → resolve_params N [] l.params ≡ none → resolve_proc N S l ≡ none
unfolding resolve_proc
params_missing N S l e = rw e

-- the parameters are known
params_there : (N : Names) (S : Sig) (l : ProcLine) (x : List Name × List ℕ) → resolve_params N [] l.params ≡ some x
    → resolve_proc N S l ≡ ◌>>=◌ (resolve_choice N S x.0 x.1 l.right) (λ t. some (record { params = x.1; right = t }))
unfolding resolve_proc
params_there N S l x e = rw e

module _ (s raw names : List ℕ) (kinds : Kinds) (at : ℕ) (row scope : List ℕ) (a : Given Params) (read : ParamsRead s raw names kinds (at + 2) row scope a) where
  -- all declared names, kind after kind
  all_declared : (N : Names) → Declared s names kinds N → declared N ≡ bytes "Bool" ∷ scope_at s names (total_of kinds)
  unfolding declared
  all_declared N d = rw (d.sorts_are, d.funcs_are, d.acts_are, d.procs_are) (kinds_joined s names kinds)

  -- the parameters behind the tag and the name
  params_at : (l : ProcLine) (rest : List Symbol) → drop at (symbols s raw) ≡ enc_proc l ++ rest
      → drop (at + 2) (symbols s raw) ≡ enc_items enc_param l.params ++ (enc_choice l.right ++ rest)
  unfolding enc_proc
  params_at l rest e =
      let items = enc_items enc_param l.params in
      behind s raw at (at + 2) (tag proc_tag ∷ token (name l.name) ∷ []) (items ++ (enc_choice l.right ++ rest)) refl
      (e ∙ ap (λ (m : List Symbol). tag proc_tag ∷ token (name l.name) ∷ m) (append_assoc items (enc_choice l.right) rest))

  -- what is answered of the parameters of a line that stands there
  abbrev Row : List Symbol → List Name × List ℕ → Params → Type 0
  Row rest x p = ParamRow s x (symbols s raw) rest row scope p

  row_of : (N : Names) (l : ProcLine) (rest : List Symbol) → Declared s names kinds N
      → drop at (symbols s raw) ≡ enc_proc l ++ rest → length l.params ≤ frame_width
      → Yields (Row (enc_choice l.right ++ rest)) (resolve_params N [] l.params) a
  row_of N l rest d e few = read N l.params (enc_choice l.right ++ rest) d.sorts_are (all_declared N d) (params_at l rest e) few

-- a parameter is not as it must be
pub params_lost : (s raw names : List ℕ) (kinds : Kinds) (at : ℕ) (row scope : List ℕ) → ParamsRead s raw names kinds (at + 2) row scope None
    → (funcs : List ℕ) (w : ℕ) (o o' : List ℕ) → ProcessRead s raw names kinds funcs at row w o None o'
params_lost s raw names kinds at row scope read funcs w o o' N S l rest d gives e few deep =
    rw (params_missing N S l (yields_none (Row s raw names kinds at row scope None read (enc_choice l.right ++ rest)) (resolve_params N [] l.params) (row_of s raw names kinds at row scope None read N l rest d e few))) tt

module _ (s raw names : List ℕ) (kinds : Kinds) (at : ℕ) (row scope : List ℕ) (a : Params) (read : ParamsRead s raw names kinds (at + 2) row scope (Some a)) (w : ℕ) (o : List ℕ) (r : Given Step) (o' : List ℕ) where
  -- the answer of the right side is that of the process
  right_answered : (N : Names) (S : Sig) (l : ProcLine) (rest rest' : List Symbol) (x : List Name × List ℕ) → ParamRow s x (symbols s raw) rest' row scope a → length x.1 ≤ frame_width → sum_depth l.right ≤ max_open
      → resolve_params N [] l.params ≡ some x → SideAnswers (symbols s raw) rest w o (resolve_choice N S x.0 x.1 l.right) r o'
      → Yields (λ q b. ProcessRow (length N.procs) q row w o b.w o' (3 * length (line "proc" (print_proc l)))) (resolve_proc N S l) r
  unfolding SideAnswers
  right_answered N S l rest rest' x held few deep e h = rw (params_there N S l x e)
      (yields_last (λ q b. ProcessRow (length N.procs) q row w o b.w o' (3 * length (line "proc" (print_proc l)))) _ (resolve_choice N S x.0 x.1 l.right) _ r h (λ t b f m.
      let there : resolve_proc N S l ≡ some (record { params = x.1; right = t }) = params_there N S l x e ∙ (rw f) in
      let scoped = process_scoped N S l (record { params = x.1; right = t }) there (omega arith) in
      record { few = few; params = held.sorts; scoped = scoped; right = m.1; size = right_room N S x.0 x.1 l t f }))

  -- THE PARAMETERS, AND THE RIGHT SIDE WITH THEM IN SCOPE: their names, their sorts, and what the functions give.
  pub process_read : (funcs scope₁ scope₂ : List ℕ) → a.count ≤ frame_width → frame_width < length row → kinds.funcs ≤ max_functions
      → ResultsPut funcs scope scope₁ → SortsPut row a.count scope₁ scope₂ → ResolvesRight s raw names kinds scope₂ a.count a.at w o r o'
      → ProcessRead s raw names kinds funcs at row w o r o'
  unfolding symbols
  process_read funcs scope₁ scope₂ few room funcs_few results sorts_put right N S l rest d gives e many deep =
      let (x, q, held) = yields_some (Row s raw names kinds at row scope (Some a) read (enc_choice l.right ++ rest)) (resolve_params N [] l.params) a (row_of s raw names kinds at row scope (Some a) read N l rest d e many) in
      let same = held.many in
      let in_names = filled_names kinds funcs row a.count scope scope₁ scope₂ (omega arith) results sorts_put s ∙ held.scoped in
      let in_sorts = filled_sorts kinds funcs row a.count scope scope₁ scope₂ (omega arith) results sorts_put x.1 same held.sorts (omega arith) in
      let side = right N S l.right rest d (filled_known kinds funcs row a.count scope scope₁ scope₂ (omega arith) results sorts_put S funcs_few gives) held.next (omega arith) in
      right_answered N S l rest (enc_choice l.right ++ rest) x held (omega arith) deep q
      (subst (λ (Γ : List ℕ). SideAnswers (symbols s raw) rest w o (resolve_choice N S x.0 Γ l.right) r o') in_sorts
      (subst (λ (σ : List Name). SideAnswers (symbols s raw) rest w o (resolve_choice N S σ (scope_sorts scope₂ a.count) l.right) r o') in_names side))
