-- The data given to a name: one law for each way that the code goes; a condition; and the node for the name.
use Rattle.std.specs.Prelude.{Option as Given, Some, None}
use mathlib.Core.Path.{◌≡◌, refl, sym, ap, ◌∙◌}
use mathlib.Core.List.{List, [], ◌∷◌, ◌++◌}
use mathlib.Core.Option.{Option, none, some}
use Prim.Native.Nat.{ℕ, ◌+◌, ◌<◌}
use native.Mathlib.Omega.{arith}
use lib.ListN.{length, drop, get_or}
use Rattle.pcrl.specs.Tokens.{name}
use Rattle.pcrl.specs.Tree.{Name, RawDatas}
use Rattle.pcrl.specs.Sheet.{Sig}
use Rattle.pcrl.specs.Names.{Names, resolve_given}
use Rattle.parser.specs.Cells.{Symbol, enc_call}
use Rattle.parser.specs.Cells.{enc_datas as raw_datas}
use Rattle.parser.specs.Reading.{Put}
use Rattle.nodes.specs.Layout.{cell_limit, enc_datas}
use Rattle.names.specs.NameCells.{scope_at}
use Rattle.names.specs.NameKinds.{funcs_in}
use Rattle.names.specs.declared.Kinds.{Kinds}
use Rattle.names.specs.Standing.{symbols}
use Rattle.parser.specs.declared.Step.{Step}
use Rattle.resolver.specs.declared.DataRun.{DataRun}
use Rattle.resolver.specs.Sorting.{scope_sorts, KnownSorts}
use Rattle.resolver.specs.Writing.{Writes}
use Rattle.resolver.specs.Resolving.{Took, Outcome, Listed, data_cells, datas_cells, given_cells, count_of, ResolvesData, ResolvesDatas, ResolvesGiven, ResolvesCondition}
use Rattle.resolver.proofs.Writing.{writes_then, writes_cell, writes_instead, writes_sized}
use Rattle.resolver.proofs.Symbols.{pair, first_tag}
use Rattle.resolver.proofs.DataCells.{sized, none_sized, some_sized, given_some, condition_one, node_cells, node_given}
use Rattle.resolver.proofs.Operands.{written_before}
use Rattle.names.proofs.Kept.{yields_none, yields_some}
use Rattle.resolver.proofs.DataLaws.{became, became_none}

-- data terms, and before them how many cells they take and how many they are
sized_took : (raw : List ℕ) (ys rest : List Symbol) {x v w w₁ w₂ w₄ : ℕ} {o o₁ o₂ o₃ o₄ o₅ : List ℕ} (a : Step) (b count : ℕ) (e : List ℕ) → Put o w 0 w₁ o₁ → Put o₁ w₁ x w₂ o₂
    → Writes (b ∷ e) w₁ o₁ a.w o₄ → b ≡ count → ((k : ℕ) → a.w ≡ w₂ + k → k < cell_limit → v ≡ k) → Put o₄ w v w₄ o₅
    → Took raw ys rest w₂ o₂ o₃ e a → Outcome raw ys rest w o (Some a) o₅ (sized count (some e))
sized_took raw ys rest a b count e put₁ put₂ counted m span put₃ t =
    became _ _ _ _ _ _ _ (ap (λ (j : ℕ). some (length e ∷ j ∷ e)) m ∙ sym (some_sized count e)) (t.0, t.1, writes_sized put₁ put₂ t.2 counted span put₃)

module _ (s raw names : List ℕ) (kinds : Kinds) (scope : List ℕ) (n at w : ℕ) (o : List ℕ) where
  pub given_lost : (r : Given Step) (o' : List ℕ) → (get_or raw at 0 ≡ 14 → ⊥) → (get_or raw at 0 ≡ 15 → ⊥) → ResolvesGiven s raw names kinds scope n at w o r o'
  unfolding enc_call
  given_lost r o' a b N S x none rest f so e = absurd (a (first_tag s raw at 14 _ e))
  given_lost r o' a b N S x (some ds) rest f so e = absurd (b (first_tag s raw at 15 _ e))

  module _ (w₁ w₂ : ℕ) (o₁ o₂ : List ℕ) (put₁ : Put o w 0 w₁ o₁) (put₂ : Put o₁ w₁ 0 w₂ o₂) where
    -- no data
    pub given_bare : get_or raw at 0 ≡ 14 → ResolvesGiven s raw names kinds scope n at w o (Some (record { at = at + 2; w = w₂ })) o₂
    unfolding enc_call given_cells resolve_given enc_datas
    given_bare k N S x none rest f so e =
        let p = pair s raw at 14 (name x) rest e in
        (p.inside, p.behind, writes_then (writes_cell put₁) (writes_cell put₂))
    given_bare k N S x (some ds) rest f so e = let q = first_tag s raw at 15 _ e in absurd (omega arith)

    -- bracketed data, and their counts put where they belong
    pub given_took : get_or raw at 0 ≡ 15 → (l : DataRun) (o₃ : List ℕ) (b w₃ : ℕ) (o₄ : List ℕ) (v w₄ : ℕ) (o' : List ℕ) → ResolvesDatas s raw names kinds scope n (at + 2) w₂ o₂ (Some l) o₃
        → (l.count < cell_limit → b ≡ l.count) → Put o₃ w₁ b w₃ o₄ → ((k : ℕ) → l.w ≡ w₂ + k → k < cell_limit → v ≡ k) → Put o₄ w v w₄ o'
        → ResolvesGiven s raw names kinds scope n at w o (Some (record { at = l.at; w = l.w })) o'
    unfolding enc_call
    given_took k l o₃ b w₃ o₄ v w₄ o' list short put₃ span put₄ N S x none rest f so e = let q = first_tag s raw at 14 _ e in absurd (omega arith)
    given_took k l o₃ b w₃ o₄ v w₄ o' list short put₃ span put₄ N S x (some ds) rest f so e =
        let p = pair s raw at 15 (name x) (raw_datas ds ++ rest) e in
        let (g, c, t) = yields_some (Listed raw (symbols s raw) rest w₂ o₂ o₃ ds) (datas_cells N S (scope_at s scope n) (scope_sorts scope n) ds) l (list N S ds rest f so p.behind) in
        became _ _ _ _ _ _ _ (sym (given_some N S (scope_at s scope n) (scope_sorts scope n) ds ∙ ap (sized (count_of ds)) c))
        (sized_took raw (symbols s raw) rest (record { at = l.at; w = l.w }) b (count_of ds) g put₁ put₂ (writes_instead (writes_then (writes_cell put₂) t.0.2) put₃) (short t.2 ∙ t.1) span put₄ t.0)

    -- a name in them is not as it must be
    pub given_data_lost : get_or raw at 0 ≡ 15 → (o₃ : List ℕ) → ResolvesDatas s raw names kinds scope n (at + 2) w₂ o₂ None o₃ → ResolvesGiven s raw names kinds scope n at w o None o₃
    unfolding enc_call
    given_data_lost k o₃ list N S x none rest f so e = let q = first_tag s raw at 14 _ e in absurd (omega arith)
    given_data_lost k o₃ list N S x (some ds) rest f so e =
        let p = pair s raw at 15 (name x) (raw_datas ds ++ rest) e in
        let c = yields_none (Listed raw (symbols s raw) rest w₂ o₂ o₃ ds) (datas_cells N S (scope_at s scope n) (scope_sorts scope n) ds) (list N S ds rest f so p.behind) in
        became_none _ _ _ _ _ _ (given_some N S (scope_at s scope n) (scope_sorts scope n) ds ∙ ap (sized (count_of ds)) c ∙ none_sized (count_of ds))

  -- one data term
  pub condition_took : (w₁ w₂ : ℕ) (o₁ o₂ : List ℕ) → Put o w 0 w₁ o₁ → Put o₁ w₁ 1 w₂ o₂ → (r : Step) (o₃ : List ℕ) (v w₃ : ℕ) (o' : List ℕ) → ResolvesData s raw names kinds scope n at w₂ o₂ (Some r) o₃
      → ((k : ℕ) → r.w ≡ w₂ + k → k < cell_limit → v ≡ k) → Put o₃ w v w₃ o' → ResolvesCondition s raw names kinds scope n at w o (Some r) o'
  condition_took w₁ w₂ o₁ o₂ put₁ put₂ r o₃ v w₃ o' resolves span put₃ N S d rest f so e =
      let (g, c, t) = yields_some (Took raw (symbols s raw) rest w₂ o₂ o₃) (data_cells N S (scope_at s scope n) (scope_sorts scope n) d) r (resolves N S d rest f so e) in
      became _ _ _ _ _ _ _ (sym (condition_one N S (scope_at s scope n) (scope_sorts scope n) d ∙ ap (sized 1) c)) (sized_took raw (symbols s raw) rest r 1 1 g put₁ put₂ (writes_then (writes_cell put₂) t.2) refl span put₃ t)

  pub condition_lost : (w₂ : ℕ) (o₂ o₃ : List ℕ) → ResolvesData s raw names kinds scope n at w₂ o₂ None o₃ → ResolvesCondition s raw names kinds scope n at w o None o₃
  condition_lost w₂ o₂ o₃ resolves N S d rest f so e =
      let c = yields_none (Took raw (symbols s raw) rest w₂ o₂ o₃) (data_cells N S (scope_at s scope n) (scope_sorts scope n) d) (resolves N S d rest f so e) in
      became_none _ _ _ _ _ _ (condition_one N S (scope_at s scope n) (scope_sorts scope n) d ∙ ap (sized 1) c ∙ none_sized 1)

-- a node for the name, with its first cell
abbrev pub ResolvesNode : (s raw names : List ℕ) (kinds : Kinds) (scope : List ℕ) (n at first w : ℕ) (o : List ℕ) → Given Step → List ℕ → Type 0
ResolvesNode s raw names kinds scope n at first w o r o' = (N : Names) (S : Sig) (x : Name) (ds : Option RawDatas) (rest : List Symbol)
    → N.funcs ≡ funcs_in s names kinds → KnownSorts kinds scope n S
    → drop at (symbols s raw) ≡ enc_call x ds ++ rest → Outcome raw (symbols s raw) rest w o r o' (node_cells N S (scope_at s scope n) (scope_sorts scope n) first ds)

-- the first cell was put before what is given
pub node_put : (s raw names : List ℕ) (kinds : Kinds) (scope : List ℕ) (n at first w : ℕ) (o : List ℕ) (w₁ : ℕ) (o₁ : List ℕ) → Put o w first w₁ o₁ → (r : Given Step) (o' : List ℕ)
    → ResolvesGiven s raw names kinds scope n at w₁ o₁ r o' → ResolvesNode s raw names kinds scope n at first w o r o'
node_put s raw names kinds scope n at first w o w₁ o₁ put r o' g N S x ds rest f so e =
    became _ _ _ _ _ _ _ (sym (node_given N S (scope_at s scope n) (scope_sorts scope n) first ds)) (written_before raw (symbols s raw) rest r o' (first ∷ []) _ (writes_cell put) (g N S x ds rest f so e))
