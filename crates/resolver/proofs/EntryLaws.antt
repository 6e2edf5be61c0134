-- A right side and init: from a place past the end or not to the answer.
use mathlib.Core.Path.{◌≡◌, refl, sym, ap, ◌∙◌, subst}
use mathlib.Core.Bool.{false}
use mathlib.Core.List.{List, [], ◌++◌}
use Rattle.std.specs.Prelude.{Option as Given, Some, None}
use mathlib.Core.Option.{Option, none, some}
use Prim.Native.Nat.{ℕ, ◌+◌}
use native.Mathlib.Omega.{arith}
use lib.ListN.{drop, get_or}
use Rattle.pcrl.specs.Maybe.{◌>>=◌}
use Rattle.pcrl.specs.Tests.{Every}
use Rattle.pcrl.specs.Tokens.{name}
use Rattle.pcrl.specs.Tree.{Name, RawDatas, InitLine}
use Rattle.pcrl.specs.Sheet.{Data, Proc, Sig}
use Rattle.pcrl.specs.Names.{Names, number_of, resolve_given, resolve_init}
use Rattle.parser.specs.Cells.{Symbol, tag, init_tag, enc_call, enc_init}
use Rattle.nodes.specs.Layout.{enc_node, first_cell, one_if, call_kind, enc}
use Rattle.names.specs.NameCells.{name_at, scope_at}
use Rattle.names.specs.NameKinds.{procs_in}
use Rattle.names.specs.declared.Kinds.{Kinds}
use Rattle.names.specs.Standing.{symbols}
use Rattle.names.proofs.Symbols.{name_of_cell}
use Rattle.parser.specs.declared.Step.{Step}
use Rattle.resolver.specs.Raw.{choice, enc_term, resolve_term, term_depth}
use Rattle.resolver.specs.Sorting.{scope_sorts, scope_results, Gives, KnownSorts}
use Rattle.resolver.specs.Resolving.{Outcome, term_cells, ResolvesTerm, Answers, ResolvesRight, called, ResolvesInit}
use Rattle.resolver.proofs.Symbols.{next, pair}
use Rattle.resolver.proofs.DataCells.{node_cells}
use Rattle.resolver.proofs.GivenLaws.{ResolvesNode}

-- the answer by the place
answered : (raw : List ℕ) (ys rest : List Symbol) (w : ℕ) (o : List ℕ) (r : Given Step) (o' : List ℕ) (p : Option Proc)
    → Outcome raw ys rest w o r o' (◌>>=◌ p (λ q. some (enc false q))) → Answers ys rest w o p r o'
unfolding Answers
answered raw ys rest w o None o' none h = tt
answered raw ys rest w o (Some a) o' none h = absurd h
answered raw ys rest w o None o' (some p) h = absurd h
answered raw ys rest w o (Some a) o' (some p) h = (h.1, h.2)

pub right_answered : (s raw names : List ℕ) (kinds : Kinds) (scope : List ℕ) (n at w : ℕ) (o : List ℕ) (r : Given Step) (o' : List ℕ)
    → ResolvesTerm s raw names kinds scope n at false w o r o' → ResolvesRight s raw names kinds scope n at w o r o'
unfolding enc_term term_depth term_cells resolve_term
right_answered s raw names kinds scope n at w o r o' f N S t rest dec so e d = answered raw (symbols s raw) rest w o r o' _ (f N S (choice t) rest dec so e d)

-- where nothing is in scope
none_sorted : (kinds : Kinds) (scope : List ℕ) (S : Sig) → Gives kinds (scope_results scope) S → KnownSorts kinds scope 0 S
unfolding scope_sorts Every
none_sorted kinds scope S g = record { results = g; sorts_small = tt }

module _ (s raw names : List ℕ) (kinds : Kinds) (scope : List ℕ) (at w : ℕ) (o : List ℕ) (c : ℕ) (ec : c ≡ get_or raw (at + 2) 0) where
  -- the name behind init's tag
  init_name : (N : Names) (l : InitLine) (rest : List Symbol) → drop at (symbols s raw) ≡ enc_init l ++ rest → name_at s c ≡ l.name
  unfolding enc_init enc_call
  init_name N l rest e = ap (name_at s) ec ∙ by l.data_given (next s raw at (tag init_tag) (enc_call l.name l.data_given ++ rest) e).behind
    where
      by : (ds : Option RawDatas) → drop (at + 1) (symbols s raw) ≡ enc_call l.name ds ++ rest → name_at s (get_or raw (at + 2) 0) ≡ l.name
      by none d =
          let q : at + 2 ≡ at + 1 + 1 = omega arith in
          ap (λ i. name_at s (get_or raw i 0)) q ∙ name_of_cell s (get_or raw (at + 1 + 1) 0) l.name (pair s raw (at + 1) 14 (name l.name) rest d).token_cell
      by (some ds) d =
          let q : at + 2 ≡ at + 1 + 1 = omega arith in
          ap (λ i. name_at s (get_or raw i 0)) q ∙ name_of_cell s (get_or raw (at + 1 + 1) 0) l.name (pair s raw (at + 1) 15 (name l.name) _ d).token_cell

  pub init_unknown : number_of (name_at s c) (procs_in s names kinds) ≡ none → (o' : List ℕ) → ResolvesInit s raw names kinds scope at w o None o'
  unfolding resolve_init Answers
  init_unknown u o' N S l rest gi f p e =
      let y = init_name N l rest e in
      let v : number_of l.name N.procs ≡ none = ap (number_of l.name) p ∙ ap (λ (x : Name). number_of x (procs_in s names kinds)) (sym y) ∙ u in
      rw v tt

  pub init_answered : (k : ℕ) → number_of (name_at s c) (procs_in s names kinds) ≡ some k → (first : ℕ) → first ≡ first_cell k (one_if false) call_kind
      → (r : Given Step) (o' : List ℕ) → ResolvesNode s raw names kinds scope 0 (at + 1) first w o r o'
      → ResolvesInit s raw names kinds scope at w o r o'
  unfolding resolve_init enc_init node_cells scope_at scope_sorts enc one_if
  init_answered k u first ef r o' g N S l rest gi f p e =
      let y = init_name N l rest e in
      let v : number_of l.name N.procs ≡ some k = ap (number_of l.name) p ∙ ap (λ (x : Name). number_of x (procs_in s names kinds)) (sym y) ∙ u in
      rw v (by (resolve_given N S [] [] l.data_given) (g N S l.name l.data_given rest f (none_sorted kinds scope S gi) (next s raw at (tag init_tag) (enc_call l.name l.data_given ++ rest) e).behind))
    where
      same : (q : Option (List Data)) → (◌>>=◌ q (λ es. some (enc_node first es))) ≡ (◌>>=◌ (called (◌>>=◌ q (λ ds. some (k, ds)))) (λ t. some (enc false t)))
      same none = refl
      same (some es) = ap (λ (i : ℕ). some (enc_node i es)) ef

      by : (q : Option (List Data)) → Outcome raw (symbols s raw) rest w o r o' (◌>>=◌ q (λ es. some (enc_node first es)))
          → Answers (symbols s raw) rest w o (called (◌>>=◌ q (λ ds. some (k, ds)))) r o'
      by q h = answered raw (symbols s raw) rest w o r o' (called (◌>>=◌ q (λ ds. some (k, ds)))) (subst (λ (x : Option (List ℕ)). Outcome raw (symbols s raw) rest w o r o' x) (same q) h)
