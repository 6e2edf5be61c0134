-- A name as a part: an action's number first, else a process's.
use mathlib.Core.Path.{◌≡◌, refl, sym, ap, ◌∙◌}
use mathlib.Core.Bool.{Bool, false}
use mathlib.Core.List.{List, ◌++◌}
use Rattle.std.specs.Prelude.{Option as Given, Some, None}
use mathlib.Core.Option.{Option, none, some}
use Prim.Native.Nat.{ℕ, ◌+◌, ◌<◌}
use native.Mathlib.Omega.{arith}
use lib.ListN.{drop, get_or}
use Rattle.std.proofs.lemmas.Option.{same_Some}
use Rattle.pcrl.specs.Tokens.{name}
use Rattle.pcrl.specs.Tree.{Name, RawDatas, Part}
use Rattle.pcrl.specs.Names.{number_of}
use Rattle.parser.specs.Cells.{Symbol, enc_call, enc_choice}
use Rattle.nodes.specs.Layout.{first_cell, one_if, atom_kind, call_kind}
use Rattle.names.specs.NameCells.{name_at, scope_at}
use Rattle.names.specs.NameKinds.{acts_in, procs_in}
use Rattle.names.specs.declared.Kinds.{Kinds}
use Rattle.names.specs.Standing.{symbols}
use Rattle.names.proofs.Symbols.{name_of_cell}
use Rattle.parser.specs.declared.Step.{Step}
use Rattle.resolver.specs.Raw.{Term, part, enc_term, tokens_of}
use Rattle.resolver.specs.Sorting.{scope_sorts}
use Rattle.resolver.specs.Resolving.{Outcome, term_cells, Naming, ResolvesNamed}
use Rattle.resolver.proofs.Symbols.{pair}
use Rattle.resolver.proofs.DataCells.{node_cells}
use Rattle.resolver.proofs.DataLaws.{became, became_none}
use Rattle.resolver.proofs.GivenLaws.{ResolvesNode}
use Rattle.resolver.proofs.ProcessCells.{action_cells, process_cells, unnamed_cells}
use Rattle.resolver.proofs.Terms.{SingleTag, only_tag, plain_tag, last_tag, group_tag, View, single, plus, cond, then, delta, tau, bare, given, sum, seen}

module _ (after : Bool) (o k : Option ℕ) where
  pub naming_action : (i r : ℕ) → o ≡ some i → r ≡ first_cell (i + 1) (one_if after) atom_kind → Naming after o k (Some r)
  unfolding Naming
  naming_action i r e b = rw e (ap Some b)

  pub naming_process : (i r : ℕ) → o ≡ none → k ≡ some i → r ≡ first_cell i (one_if false) call_kind → Naming after o k (Some r)
  unfolding Naming one_if
  naming_process i r e f b = rw (e, f) (ap Some b)

  pub naming_none : o ≡ none → k ≡ none → Naming after o k None
  unfolding Naming
  naming_none e f = rw (e, f) refl

module _ (s raw names : List ℕ) (kinds : Kinds) (scope : List ℕ) (n at : ℕ) (after : Bool) (w : ℕ) (o : List ℕ) where
  -- the tag is that of a name: the name's cell and what is given to it
  by_name : (P : Term → Type 0) (t : Term) (k : ℕ) (rest : List Symbol) → View t k → get_or raw at 0 ≡ k → 0 < tokens_of (get_or raw at 0) → (get_or raw at 0 ≡ 16 → ⊥)
      → drop at (symbols s raw) ≡ enc_term t ++ rest
      → ((x : Name) (ds : Option RawDatas) → name_at s (get_or raw (at + 1) 0) ≡ x → drop at (symbols s raw) ≡ enc_call x ds ++ rest → P (part (Part.named x ds))) → P t
  unfolding tokens_of enc_term enc_choice enc_call
  by_name P t k rest (single t' u k' v) q h h' e f = absurd (no_name v.is q)
    where
      no_name : {k : ℕ} → SingleTag k → get_or raw at 0 ≡ k → ⊥
      no_name only_tag q = let z = ap tokens_of q in omega arith
      no_name plain_tag q = let z = ap tokens_of q in omega arith
      no_name last_tag q = let z = ap tokens_of q in omega arith
      no_name group_tag q = let z = ap tokens_of q in omega arith
  by_name P t k rest (plus c d) q h h' e f = let z = ap tokens_of q in absurd (omega arith)
  by_name P t k rest (cond p c q₁) q h h' e f = let z = ap tokens_of q in absurd (omega arith)
  by_name P t k rest (then p q₁) q h h' e f = let z = ap tokens_of q in absurd (omega arith)
  by_name P t k rest delta q h h' e f = let z = ap tokens_of q in absurd (omega arith)
  by_name P t k rest tau q h h' e f = let z = ap tokens_of q in absurd (omega arith)
  by_name P t k rest (bare x) q h h' e f = f x none (name_of_cell s (get_or raw (at + 1) 0) x (pair s raw at 14 (name x) _ e).token_cell) e
  by_name P t k rest (given x ds) q h h' e f = f x (some ds) (name_of_cell s (get_or raw (at + 1) 0) x (pair s raw at 15 (name x) _ e).token_cell) e
  by_name P t k rest (sum v D p) q h h' e f = absurd (h' q)

  module _ (c : ℕ) (ec : c ≡ get_or raw (at + 1) 0) where
    pub part_lost : Naming after (number_of (name_at s c) (acts_in s names kinds)) (number_of (name_at s c) (procs_in s names kinds)) None → (o' : List ℕ) → ResolvesNamed s raw names kinds scope n at after w o None o'
    unfolding Naming
    part_lost naming o' N S t rest so fs as' ps e h h' =
        let v = seen s raw at t rest e in
        by_name (λ t. Outcome raw (symbols s raw) rest w o None o' (term_cells N S (scope_at s scope n) (scope_sorts scope n) after t)) t v.tag_of rest v.view v.cell h h' e
        (λ x ds q d. go (number_of (name_at s c) (acts_in s names kinds)) (number_of (name_at s c) (procs_in s names kinds)) refl refl naming x ds (ap (name_at s) ec ∙ q))
      where
        go : (i k : Option ℕ) → number_of (name_at s c) (acts_in s names kinds) ≡ i → number_of (name_at s c) (procs_in s names kinds) ≡ k → Naming after i k None
            → (x : Name) (ds : Option RawDatas) → name_at s c ≡ x → Outcome raw (symbols s raw) rest w o None o' (term_cells N S (scope_at s scope n) (scope_sorts scope n) after (part (Part.named x ds)))
        go (some i) k p q m x ds y = absurd (cc)
        go none (some k) p q m x ds y = absurd (cc)
        go none none p q m x ds y = became_none _ _ _ _ _ _ (unnamed_cells N S (scope_at s scope n) (scope_sorts scope n) after x ds (cc) (cc))

    pub part_took : (f : ℕ) → Naming after (number_of (name_at s c) (acts_in s names kinds)) (number_of (name_at s c) (procs_in s names kinds)) (Some f)
        → (r : Given Step) (o' : List ℕ) → ResolvesNode s raw names kinds scope n at f w o r o' → ResolvesNamed s raw names kinds scope n at after w o r o'
    unfolding Naming
    part_took f naming r o' resolves N S t rest so fs as' ps e h h' =
        let v = seen s raw at t rest e in
        by_name (λ t. Outcome raw (symbols s raw) rest w o r o' (term_cells N S (scope_at s scope n) (scope_sorts scope n) after t)) t v.tag_of rest v.view v.cell h h' e
        (λ x ds q d. go (number_of (name_at s c) (acts_in s names kinds)) (number_of (name_at s c) (procs_in s names kinds)) refl refl naming x ds (ap (name_at s) ec ∙ q) (resolves N S x ds rest fs so d))
      where
        go : (i k : Option ℕ) → number_of (name_at s c) (acts_in s names kinds) ≡ i → number_of (name_at s c) (procs_in s names kinds) ≡ k → Naming after i k (Some f)
            → (x : Name) (ds : Option RawDatas) → name_at s c ≡ x
            → Outcome raw (symbols s raw) rest w o r o' (node_cells N S (scope_at s scope n) (scope_sorts scope n) f ds)
            → Outcome raw (symbols s raw) rest w o r o' (term_cells N S (scope_at s scope n) (scope_sorts scope n) after (part (Part.named x ds)))
        go (some i) k p q m x ds y u =
            became _ _ _ _ _ _ _ (ap (λ (j : ℕ). node_cells N S (scope_at s scope n) (scope_sorts scope n) j ds) (same_Some f _ m)
            ∙ sym (action_cells N S (scope_at s scope n) (scope_sorts scope n) after x ds i (cc))) u
        go none (some k) p q m x ds y u =
            became _ _ _ _ _ _ _ (ap (λ (j : ℕ). node_cells N S (scope_at s scope n) (scope_sorts scope n) j ds) (same_Some f _ m)
            ∙ sym (process_cells N S (scope_at s scope n) (scope_sorts scope n) after x ds k (cc) (cc))) u
        go none none p q m x ds y u = absurd (cc)
