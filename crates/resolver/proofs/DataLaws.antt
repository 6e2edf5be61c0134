-- Atoms and lists of data: one law for each way that the code goes, by the tag that it read.
use Rattle.std.specs.Prelude.{Option as Given, Some, None, IfSome}
use mathlib.Core.Path.{◌≡◌, refl, sym, ap, ◌∙◌, subst, subst⁻¹}
use mathlib.Core.List.{List, [], ◌∷◌, ◌++◌, append_assoc}
use mathlib.Core.Option.{Option, none, some}
use Prim.Native.Nat.{ℕ, suc, ◌+◌, ◌-◌, ◌*◌, ◌≤◌, ◌<◌}
use native.Mathlib.Omega.{arith}
use lib.ListN.{drop, get_or}
use Rattle.pcrl.specs.Tokens.{name, numeral}
use Rattle.pcrl.specs.Tree.{Name, Atom, RawData, RawDatas}
use Rattle.pcrl.specs.Names.{Names, number_of, resolve_data}
use Rattle.pcrl.specs.Sheet.{Sig}
use Rattle.parser.specs.Cells.{Symbol, tag}
use Rattle.parser.specs.Cells.{enc_atom}
use Rattle.parser.specs.Cells.{enc_data as raw_data, enc_datas as raw_datas}
use Rattle.parser.specs.Reading.{Put}
use Rattle.nodes.specs.Layout.{cell_limit, enc_data}
use Rattle.names.specs.NameCells.{name_at, scope_at}
use Rattle.names.specs.NameKinds.{funcs_in}
use Rattle.names.specs.declared.Kinds.{Kinds}
use Rattle.names.specs.Standing.{symbols}
use Rattle.names.proofs.Symbols.{name_of_cell}
use Rattle.parser.specs.declared.Step.{Step}
use Rattle.resolver.specs.declared.DataRun.{DataRun}
use Rattle.resolver.specs.Writing.{Writes}
use Rattle.names.specs.Rows.{Yields}
use Rattle.names.proofs.Kept.{yields_none, yields_some}
use Rattle.resolver.specs.Resolving.{Took, Outcome, Listed, data_cells, atom_cells, datas_cells, count_of, ◌⊕◌, ResolvesData, ResolvesAtom, ResolvesDatas}
use Rattle.resolver.specs.Sorting.{scope_sorts, KnownSorts}
use Rattle.resolver.proofs.Writing.{writes_nothing, writes_then, writes_cell, writes_instead}
use Rattle.resolver.proofs.Symbols.{pair, first_tag, next, NumeralCell, numeral_is}
use Rattle.resolver.proofs.DataCells.{then_nothing, then_assoc, then_none, then_last, none_last, variable_unknown, variable_known, apply_unknown, apply_known, group_cells, datas_one, datas_more}

-- what stands behind a later place
pub later : (at p : ℕ) (r : Given Step) → IfSome r (λ a. p ≤ a.at) → at ≤ p → IfSome r (λ a. at ≤ a.at)
later at p None h l = tt
later at p (Some a) h l = omega arith

-- cells as they must be
pub became : (raw : List ℕ) (ys rest : List Symbol) (w : ℕ) (o : List ℕ) (r : Given Step) (o' : List ℕ) {a b : Option (List ℕ)} → a ≡ b → Outcome raw ys rest w o r o' a → Outcome raw ys rest w o r o' b
became raw ys rest w o r o' e h = subst (λ x. Outcome raw ys rest w o r o' x) e h

-- there are none
pub became_none : (raw : List ℕ) (ys rest : List Symbol) (w : ℕ) (o o' : List ℕ) {a : Option (List ℕ)} → a ≡ none → Outcome raw ys rest w o None o' a
became_none raw ys rest w o o' e = subst⁻¹ (λ x. Outcome raw ys rest w o None o' x) e tt

module _ (s raw names : List ℕ) (kinds : Kinds) (scope : List ℕ) (n at w : ℕ) (o : List ℕ) where
  -- ---- a numeral
  module _ (k : get_or raw at 0 ≡ 1) where
    pub value_lost : (r : Given Step) (o' : List ℕ) → ((v : ℕ) → NumeralCell (get_or raw (at + 1) 0) v → ⊥) → ResolvesAtom s raw names kinds scope n at w o r o'
    unfolding enc_atom
    value_lost r o' h N S (Atom.value v) rest f so e = let p = pair s raw at 1 (numeral v) rest e in absurd (h v (numeral_is s (get_or raw (at + 1) 0) v p.token_cell))
    value_lost r o' h N S (Atom.variable x) rest f so e = let q = first_tag s raw at 2 _ e in absurd (omega arith)
    value_lost r o' h N S (Atom.group d) rest f so e = let q = first_tag s raw at 28 _ e in absurd (omega arith)
    value_lost r o' h N S (Atom.apply x ds) rest f so e = let q = first_tag s raw at 3 _ e in absurd (omega arith)

    pub value_took : (c a w' : ℕ) (o' : List ℕ) → c ≡ get_or raw (at + 1) 0 → a ≡ (c - 256) * 4 → Put o w a w' o' → ResolvesAtom s raw names kinds scope n at w o (Some (record { at = at + 2; w = w' })) o'
    unfolding enc_atom atom_cells resolve_data enc_data
    value_took c a w' o' ec ea put N S (Atom.value v) rest f so e =
        let p = pair s raw at 1 (numeral v) rest e in
        let q = numeral_is s (get_or raw (at + 1) 0) v p.token_cell in
        let u = q.value in
        let z : a ≡ 4 * v + 0 = omega arith in
        became raw (symbols s raw) rest w o (Some (record { at = at + 2; w = w' })) o' (ap (λ (i : ℕ). some (i ∷ [])) z) (p.inside, p.behind, writes_cell put)
    value_took c a w' o' ec ea put N S (Atom.variable x) rest f so e = let q = first_tag s raw at 2 _ e in absurd (omega arith)
    value_took c a w' o' ec ea put N S (Atom.group d) rest f so e = let q = first_tag s raw at 28 _ e in absurd (omega arith)
    value_took c a w' o' ec ea put N S (Atom.apply x ds) rest f so e = let q = first_tag s raw at 3 _ e in absurd (omega arith)

  -- ---- a variable
  module _ (k : get_or raw at 0 ≡ 2) (c : ℕ) (ec : c ≡ get_or raw (at + 1) 0) where
    pub variable_lost : (o' : List ℕ) → number_of (name_at s c) (scope_at s scope n) ≡ none → ResolvesAtom s raw names kinds scope n at w o None o'
    unfolding enc_atom
    variable_lost o' h N S (Atom.value v) rest f so e = let q = first_tag s raw at 1 _ e in absurd (omega arith)
    variable_lost o' h N S (Atom.variable x) rest f so e =
        let p = pair s raw at 2 (name x) rest e in
        let y : name_at s c ≡ x = ap (name_at s) ec ∙ name_of_cell s (get_or raw (at + 1) 0) x p.token_cell in
        let u = subst (λ (z : Name). number_of z (scope_at s scope n) ≡ none) y h in
        became_none _ _ _ _ _ _ (variable_unknown N S (scope_at s scope n) (scope_sorts scope n) x u)
    variable_lost o' h N S (Atom.group d) rest f so e = let q = first_tag s raw at 28 _ e in absurd (omega arith)
    variable_lost o' h N S (Atom.apply x ds) rest f so e = let q = first_tag s raw at 3 _ e in absurd (omega arith)

    pub variable_took : (i a w' : ℕ) (o' : List ℕ) → number_of (name_at s c) (scope_at s scope n) ≡ some i → a ≡ 4 * i + 1 → Put o w a w' o' → ResolvesAtom s raw names kinds scope n at w o (Some (record { at = at + 2; w = w' })) o'
    unfolding enc_atom
    variable_took i a w' o' h ea put N S (Atom.value v) rest f so e = let q = first_tag s raw at 1 _ e in absurd (omega arith)
    variable_took i a w' o' h ea put N S (Atom.variable x) rest f so e =
        let p = pair s raw at 2 (name x) rest e in
        let y : name_at s c ≡ x = ap (name_at s) ec ∙ name_of_cell s (get_or raw (at + 1) 0) x p.token_cell in
        let u = subst (λ (z : Name). number_of z (scope_at s scope n) ≡ some i) y h in
        became _ _ _ _ _ _ _ (ap (λ (j : ℕ). some (j ∷ [])) ea ∙ sym (variable_known N S (scope_at s scope n) (scope_sorts scope n) x i u)) (p.inside, p.behind, writes_cell put)
    variable_took i a w' o' h ea put N S (Atom.group d) rest f so e = let q = first_tag s raw at 28 _ e in absurd (omega arith)
    variable_took i a w' o' h ea put N S (Atom.apply x ds) rest f so e = let q = first_tag s raw at 3 _ e in absurd (omega arith)

  -- ---- a function
  module _ (k : get_or raw at 0 ≡ 3) (c : ℕ) (ec : c ≡ get_or raw (at + 1) 0) where
    pub apply_lost : (o' : List ℕ) → number_of (name_at s c) (funcs_in s names kinds) ≡ none → ResolvesAtom s raw names kinds scope n at w o None o'
    unfolding enc_atom
    apply_lost o' h N S (Atom.value v) rest f so e = let q = first_tag s raw at 1 _ e in absurd (omega arith)
    apply_lost o' h N S (Atom.variable x) rest f so e = let q = first_tag s raw at 2 _ e in absurd (omega arith)
    apply_lost o' h N S (Atom.group d) rest f so e = let q = first_tag s raw at 28 _ e in absurd (omega arith)
    apply_lost o' h N S (Atom.apply x ds) rest f so e =
        let p = pair s raw at 3 (name x) _ e in
        let y : name_at s c ≡ x = ap (name_at s) ec ∙ name_of_cell s (get_or raw (at + 1) 0) x p.token_cell in
        became_none _ _ _ _ _ _ (apply_unknown N S (scope_at s scope n) (scope_sorts scope n) x ds (cc))

    pub apply_took : (i a w₁ w₂ w₃ b : ℕ) (l : DataRun) (o₁ o₂ o₃ o' : List ℕ) → number_of (name_at s c) (funcs_in s names kinds) ≡ some i → a ≡ 4 * i + 2 → Put o w a w₁ o₁ → Put o₁ w₁ 0 w₂ o₂
        → ResolvesDatas s raw names kinds scope n (at + 2) w₂ o₂ (Some l) o₃ → (l.count < cell_limit → b ≡ l.count) → Put o₃ w₁ b w₃ o'
        → ResolvesAtom s raw names kinds scope n at w o (Some (record { at = l.at; w = l.w })) o'
    unfolding enc_atom
    apply_took i a w₁ w₂ w₃ b l o₁ o₂ o₃ o' h ea put₁ put₂ list short put₃ N S (Atom.value v) rest f so e = let q = first_tag s raw at 1 _ e in absurd (omega arith)
    apply_took i a w₁ w₂ w₃ b l o₁ o₂ o₃ o' h ea put₁ put₂ list short put₃ N S (Atom.variable x) rest f so e = let q = first_tag s raw at 2 _ e in absurd (omega arith)
    apply_took i a w₁ w₂ w₃ b l o₁ o₂ o₃ o' h ea put₁ put₂ list short put₃ N S (Atom.group d) rest f so e = let q = first_tag s raw at 28 _ e in absurd (omega arith)
    apply_took i a w₁ w₂ w₃ b l o₁ o₂ o₃ o' h ea put₁ put₂ list short put₃ N S (Atom.apply x ds) rest f so e =
        let p = pair s raw at 3 (name x) (raw_datas ds ++ rest) e in
        let y : name_at s c ≡ x = ap (name_at s) ec ∙ name_of_cell s (get_or raw (at + 1) 0) x p.token_cell in
        became _ _ _ _ _ _ _ (sym (apply_known N S (scope_at s scope n) (scope_sorts scope n) x ds i (cc))) (filled ds (datas_cells N S (scope_at s scope n) (scope_sorts scope n) ds) rest (list N S ds rest f so p.behind))
      where
        filled : (ds : RawDatas) (X : Option (List ℕ)) (rest : List Symbol) → Yields (Listed raw (symbols s raw) rest w₂ o₂ o₃ ds) X (Some l)
            → Outcome raw (symbols s raw) rest w o (Some (record { at = l.at; w = l.w })) o' (some ((4 * i + 2) ∷ count_of ds ∷ []) ⊕ X)
        filled ds none rest h = absurd h
        filled ds (some e) rest h =
            let m : b ≡ count_of ds = short h.2 ∙ h.1 in
            became _ _ _ _ _ _ _ (ap (λ (j : ℕ). some (j ∷ b ∷ e)) ea ∙ ap (λ (j : ℕ). some ((4 * i + 2) ∷ j ∷ e)) m ∙ sym (then_last ((4 * i + 2) ∷ count_of ds ∷ []) e))
            (h.0.0, h.0.1, writes_then (writes_cell put₁) (writes_instead (writes_then (writes_cell put₂) h.0.2) put₃))

    -- a name in its data is not as it must be
    pub apply_data_lost : (i w₂ : ℕ) (o₂ o₃ : List ℕ) → number_of (name_at s c) (funcs_in s names kinds) ≡ some i → ResolvesDatas s raw names kinds scope n (at + 2) w₂ o₂ None o₃
        → ResolvesAtom s raw names kinds scope n at w o None o₃
    unfolding enc_atom
    apply_data_lost i w₂ o₂ o₃ h list N S (Atom.value v) rest f so e = let q = first_tag s raw at 1 _ e in absurd (omega arith)
    apply_data_lost i w₂ o₂ o₃ h list N S (Atom.variable x) rest f so e = let q = first_tag s raw at 2 _ e in absurd (omega arith)
    apply_data_lost i w₂ o₂ o₃ h list N S (Atom.group d) rest f so e = let q = first_tag s raw at 28 _ e in absurd (omega arith)
    apply_data_lost i w₂ o₂ o₃ h list N S (Atom.apply x ds) rest f so e =
        let p = pair s raw at 3 (name x) (raw_datas ds ++ rest) e in
        let y : name_at s c ≡ x = ap (name_at s) ec ∙ name_of_cell s (get_or raw (at + 1) 0) x p.token_cell in
        let m = yields_none (Listed raw (symbols s raw) rest w₂ o₂ o₃ ds) (datas_cells N S (scope_at s scope n) (scope_sorts scope n) ds) (list N S ds rest f so p.behind) in
        became_none _ _ _ _ _ _ (apply_known N S (scope_at s scope n) (scope_sorts scope n) x ds i (cc) ∙ ap (λ (X : Option (List ℕ)). some ((4 * i + 2) ∷ count_of ds ∷ []) ⊕ X) m ∙ none_last ((4 * i + 2) ∷ count_of ds ∷ []))

  -- ---- data in brackets
  pub nest_took : get_or raw at 0 ≡ 28 → (r : Given Step) (o' : List ℕ) → ResolvesData s raw names kinds scope n (at + 1) w o r o' → ResolvesAtom s raw names kinds scope n at w o r o'
  unfolding enc_atom
  nest_took k r o' inner N S (Atom.value v) rest f so e = let q = first_tag s raw at 1 _ e in absurd (omega arith)
  nest_took k r o' inner N S (Atom.variable x) rest f so e = let q = first_tag s raw at 2 _ e in absurd (omega arith)
  nest_took k r o' inner N S (Atom.apply x ds) rest f so e = let q = first_tag s raw at 3 _ e in absurd (omega arith)
  nest_took k r o' inner N S (Atom.group d) rest f so e =
      became _ _ _ _ _ _ _ (sym (group_cells N S (scope_at s scope n) (scope_sorts scope n) d)) (inner N S d rest f so (next s raw at (tag 28) (raw_data d ++ rest) e).behind)

  -- ---- no data
  pub other_lost : (r : Given Step) (o' : List ℕ) → (get_or raw at 0 ≡ 1 → ⊥) → (get_or raw at 0 ≡ 2 → ⊥) → (get_or raw at 0 ≡ 3 → ⊥) → (get_or raw at 0 ≡ 28 → ⊥) → ResolvesAtom s raw names kinds scope n at w o r o'
  unfolding enc_atom
  other_lost r o' a b c d N S (Atom.value v) rest f so e = absurd (a (first_tag s raw at 1 _ e))
  other_lost r o' a b c d N S (Atom.variable x) rest f so e = absurd (b (first_tag s raw at 2 _ e))
  other_lost r o' a b c d N S (Atom.apply x ds) rest f so e = absurd (c (first_tag s raw at 3 _ e))
  other_lost r o' a b c d N S (Atom.group g) rest f so e = absurd (d (first_tag s raw at 28 _ e))

-- ---- a list: some terms were written, and others are left
pub record Left (raw : List ℕ) (ys rest : List Symbol) (N : Names) (S : Sig) (σ : List Name) (Γ : List ℕ) (ds : RawDatas) (w : ℕ) (o : List ℕ) (p v count : ℕ) (o' : List ℕ) : Type 0 where
  pub left : RawDatas
  pub done : List ℕ
  pub there : drop p ys ≡ raw_datas left ++ rest
  pub is_whole : datas_cells N S σ Γ ds ≡ some done ⊕ datas_cells N S σ Γ left
  pub many : count_of ds ≡ count + count_of left
  pub written : Writes done w o v o'

module _ (s raw names : List ℕ) (kinds : Kinds) (scope : List ℕ) (n at w : ℕ) (o : List ℕ) where
  abbrev pub DatasLeft : (p v count : ℕ) → List ℕ → Type 0
  DatasLeft p v count o' = (N : Names) (S : Sig) (ds : RawDatas) (rest : List Symbol) → N.funcs ≡ funcs_in s names kinds → KnownSorts kinds scope n S → drop at (symbols s raw) ≡ raw_datas ds ++ rest
      → Left raw (symbols s raw) rest N S (scope_at s scope n) (scope_sorts scope n) ds w o p v count o'

  pub list_start : DatasLeft at w 0 o
  list_start N S ds rest f so e = record { left = ds; done = []; there = e; is_whole = sym (then_nothing (datas_cells N S (scope_at s scope n) (scope_sorts scope n) ds)); many = omega arith; written = writes_nothing }

  module _ (p v count : ℕ) (o₁ : List ℕ) (left : DatasLeft p v count o₁) where
    -- one more of several
    module _ (k : get_or raw p 0 ≡ 5) (r : Given Step) (o₂ : List ℕ) (term : ResolvesData s raw names kinds scope n (p + 1) v o₁ r o₂)
        (N : Names) (S : Sig) (ds : RawDatas) (rest : List Symbol) (f : N.funcs ≡ funcs_in s names kinds) (so : KnownSorts kinds scope n S) where
      abbrev Next : RawDatas → Type 0
      Next ds = (d : RawData) × (es : RawDatas) × (ds ≡ RawDatas.more d es) × Outcome raw (symbols s raw) (raw_datas es ++ rest) v o₁ r o₂ (data_cells N S (scope_at s scope n) (scope_sorts scope n) d)

      one_more : (es : RawDatas) → drop p (symbols s raw) ≡ raw_datas es ++ rest → Next es
      unfolding raw_datas
      one_more (RawDatas.one d) dr = let t = first_tag s raw p 4 _ dr in absurd (omega arith)
      one_more (RawDatas.more d es) dr = (d, es, refl, term N S d (raw_datas es ++ rest) f so ((next s raw p (tag 5) _ dr).behind ∙ append_assoc (raw_data d) (raw_datas es) rest))

    pub list_step : get_or raw p 0 ≡ 5 → (r : Step) (o₂ : List ℕ) → ResolvesData s raw names kinds scope n (p + 1) v o₁ (Some r) o₂ → DatasLeft r.at r.w (count + 1) o₂
    unfolding count_of
    list_step k r o₂ term N S ds rest f so e =
        let x = left N S ds rest f so e in
        let (d, es, q, h) = one_more k (Some r) o₂ term N S ds rest f so x.left x.there in
        let (g, c, t) = yields_some (Took raw (symbols s raw) (raw_datas es ++ rest) v o₁ o₂) (data_cells N S (scope_at s scope n) (scope_sorts scope n) d) r h in
        let m = x.many in
        record {
          left = es;
          done = x.done ++ g;
          there = t.1;
          is_whole = x.is_whole ∙ ap (λ (l : RawDatas). some x.done ⊕ datas_cells N S (scope_at s scope n) (scope_sorts scope n) l) q ∙ ap (λ y. some x.done ⊕ y) (datas_more N S (scope_at s scope n) (scope_sorts scope n) d es)
              ∙ ap (λ y. some x.done ⊕ (y ⊕ datas_cells N S (scope_at s scope n) (scope_sorts scope n) es)) c ∙ then_assoc x.done g (datas_cells N S (scope_at s scope n) (scope_sorts scope n) es);
          many = let l : count_of x.left ≡ suc (count_of es) = ap count_of q in omega arith;
          written = writes_then x.written t.2;
        }

    -- it is not as it must be
    pub list_step_lost : get_or raw p 0 ≡ 5 → (o₂ : List ℕ) → ResolvesData s raw names kinds scope n (p + 1) v o₁ None o₂ → ResolvesDatas s raw names kinds scope n at w o None o₂
    list_step_lost k o₂ term N S ds rest f so e =
        let x = left N S ds rest f so e in
        let (d, es, q, h) = one_more k None o₂ term N S ds rest f so x.left x.there in
        let c = yields_none (Took raw (symbols s raw) (raw_datas es ++ rest) v o₁ o₂) (data_cells N S (scope_at s scope n) (scope_sorts scope n) d) h in
        let z : datas_cells N S (scope_at s scope n) (scope_sorts scope n) ds ≡ none = x.is_whole ∙ ap (λ (l : RawDatas). some x.done ⊕ datas_cells N S (scope_at s scope n) (scope_sorts scope n) l) q ∙ ap (λ y. some x.done ⊕ y) (datas_more N S (scope_at s scope n) (scope_sorts scope n) d es)
        ∙ ap (λ y. some x.done ⊕ (y ⊕ datas_cells N S (scope_at s scope n) (scope_sorts scope n) es)) c ∙ then_none x.done (datas_cells N S (scope_at s scope n) (scope_sorts scope n) es) in
        rw z tt

    -- no list
    pub list_lost : (get_or raw p 0 ≡ 5 → ⊥) → (get_or raw p 0 ≡ 4 → ⊥) → ResolvesDatas s raw names kinds scope n at w o None o₁
    unfolding raw_datas
    list_lost k₁ k₂ N S ds rest f so e = let x = left N S ds rest f so e in absurd (by x.left x.there)
      where
        by : (es : RawDatas) → drop p (symbols s raw) ≡ raw_datas es ++ rest → ⊥
        by (RawDatas.one d) dr = k₂ (first_tag s raw p 4 _ dr)
        by (RawDatas.more d es) dr = k₁ (first_tag s raw p 5 _ dr)

    -- the last one
    module _ (k : get_or raw p 0 ≡ 4) (r : Given Step) (o₂ : List ℕ) (term : ResolvesData s raw names kinds scope n (p + 1) v o₁ r o₂)
        (N : Names) (S : Sig) (ds : RawDatas) (rest : List Symbol) (f : N.funcs ≡ funcs_in s names kinds) (so : KnownSorts kinds scope n S) where
      abbrev Last : RawDatas → Type 0
      Last ds = (d : RawData) × (ds ≡ RawDatas.one d) × Outcome raw (symbols s raw) rest v o₁ r o₂ (data_cells N S (scope_at s scope n) (scope_sorts scope n) d)

      the_last : (es : RawDatas) → drop p (symbols s raw) ≡ raw_datas es ++ rest → Last es
      unfolding raw_datas
      the_last (RawDatas.one d) dr = (d, refl, term N S d rest f so (next s raw p (tag 4) _ dr).behind)
      the_last (RawDatas.more d es) dr = let t = first_tag s raw p 5 _ dr in absurd (omega arith)

    pub list_took : get_or raw p 0 ≡ 4 → count + 1 < cell_limit → (r : Step) (o₂ : List ℕ) → ResolvesData s raw names kinds scope n (p + 1) v o₁ (Some r) o₂
        → ResolvesDatas s raw names kinds scope n at w o (Some (record { at = r.at; w = r.w; count = count + 1 })) o₂
    unfolding count_of
    list_took k few r o₂ term N S ds rest f so e =
        let x = left N S ds rest f so e in
        let (d, q, h) = the_last k (Some r) o₂ term N S ds rest f so x.left x.there in
        let (g, c, t) = yields_some (Took raw (symbols s raw) rest v o₁ o₂) (data_cells N S (scope_at s scope n) (scope_sorts scope n) d) r h in
        let m = x.many in
        let l : count_of x.left ≡ 1 = ap count_of q in
        let z : datas_cells N S (scope_at s scope n) (scope_sorts scope n) ds ≡ some (x.done ++ g) = x.is_whole ∙ ap (λ (l : RawDatas). some x.done ⊕ datas_cells N S (scope_at s scope n) (scope_sorts scope n) l) q ∙ ap (λ y. some x.done ⊕ y) (datas_one N S (scope_at s scope n) (scope_sorts scope n) d ∙ c) ∙ then_last x.done g in
        rw z ((t.0, t.1, writes_then x.written t.2), omega arith, few)

    pub list_took_lost : get_or raw p 0 ≡ 4 → (o₂ : List ℕ) → ResolvesData s raw names kinds scope n (p + 1) v o₁ None o₂ → ResolvesDatas s raw names kinds scope n at w o None o₂
    list_took_lost k o₂ term N S ds rest f so e =
        let x = left N S ds rest f so e in
        let (d, q, h) = the_last k None o₂ term N S ds rest f so x.left x.there in
        let c = yields_none (Took raw (symbols s raw) rest v o₁ o₂) (data_cells N S (scope_at s scope n) (scope_sorts scope n) d) h in
        let z : datas_cells N S (scope_at s scope n) (scope_sorts scope n) ds ≡ none = x.is_whole ∙ ap (λ (l : RawDatas). some x.done ⊕ datas_cells N S (scope_at s scope n) (scope_sorts scope n) l) q ∙ ap (λ y. some x.done ⊕ y) (datas_one N S (scope_at s scope n) (scope_sorts scope n) d ∙ c) ∙ none_last x.done in
        rw z tt
