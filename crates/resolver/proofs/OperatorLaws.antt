-- `!`, `==`, `/\` and `\/`: one law for each way that the code goes.
use Rattle.std.specs.Prelude.{Option as Given, Some, None}
use mathlib.Core.Path.{◌≡◌, refl, sym, ap, ◌∙◌, subst}
use mathlib.Core.List.{List, [], ◌∷◌, ◌++◌, append_assoc, append-nil}
use mathlib.Core.Option.{Option, none, some}
use Prim.Native.Nat.{ℕ, suc, ◌+◌, ◌-◌, ◌*◌, ◌≤◌, ◌<◌, min}
use native.Mathlib.Omega.{arith}
use lib.ListN.{length, drop, get_or, length-append, get_or-append}
use lib.Seq.{get_or-append-add}
use Rattle.pcrl.specs.Maybe.{◌>>=◌}
use Rattle.pcrl.specs.Reader.{all}
use Rattle.pcrl.specs.Tree.{Name, Comparison, Negation, Atom}
use Rattle.pcrl.specs.Sheet.{Data, Datas, Sig, list_of}
use Rattle.pcrl.specs.Names.{Names, sort_of, equal_at, resolve_negation, resolve_data}
use Rattle.parser.specs.Cells.{Symbol, tag, ors, ands, first_ors, first_ands, more_ors, more_ands, enc_ors, enc_ands, enc_conjunction, enc_comparison, enc_negation, enc_atom}
use Rattle.parser.specs.Reading.{Put}
use Rattle.nodes.specs.Layout.{cell_limit, function_tag, enc_data}
use Rattle.names.specs.NameCells.{scope_at}
use Rattle.names.specs.NameKinds.{funcs_in}
use Rattle.names.specs.declared.Kinds.{Kinds}
use Rattle.names.specs.Standing.{symbols}
use Rattle.names.proofs.KeyLaws.{scope_most}
use Rattle.parser.specs.declared.Step.{Step}
use Rattle.resolver.specs.Raw.{disjuncts, conjuncts}
use Rattle.resolver.specs.Writing.{Writes}
use Rattle.resolver.specs.Sorting.{scope_sorts, KnownSorts, cell_sort}
use Rattle.resolver.specs.Resolving.{Outcome, Few, conjunction_cells, comparison_cells, negation_cells, atom_cells, joins, ◌⊕◌, Resolves, ResolvesData, ResolvesConjunction, ResolvesComparison, ResolvesNegation, ResolvesAtom, EqualCell}
use Rattle.resolver.proofs.Writing.{writes_nothing, writes_then, writes_cell, written_cell, writes_found}
use Rattle.resolver.proofs.Symbols.{next, first_tag, ors_is, ands_is}
use Rattle.resolver.proofs.Lookup.{funcs_most}
use Rattle.resolver.proofs.DataCells.{then_nothing, then_assoc, none_last, each_cells, positive_cells, not_cells, alone_cells, conjunction_joined, data_joined}
use Rattle.resolver.proofs.Operands.{disjuncts_are, disjuncts_many, conjuncts_are, conjuncts_many, Joining, joining_start, joining_step, joining_lost, joining_end, written_before}
use Rattle.resolver.proofs.OwnSort.{Top, resolved_top, some_cell, own_sort, own_small, equal_fits}
use Rattle.resolver.proofs.DataLaws.{became, became_none}

-- ---- `!`: some were written, and a negation is left
pub record Nots (ys rest : List Symbol) (cells : Negation → Option (List ℕ)) (whole : Option (List ℕ)) (w : ℕ) (o : List ℕ) (p v : ℕ) (o' : List ℕ) : Type 0 where
  pub left : Negation
  pub done : List ℕ
  pub there : drop p ys ≡ enc_negation left ++ rest
  pub is_whole : whole ≡ some done ⊕ cells left
  pub written : Writes done w o v o'

no_not : (s raw : List ℕ) (p : ℕ) (a : Atom) (rest : List Symbol) → drop p (symbols s raw) ≡ enc_atom a ++ rest → get_or raw p 0 ≡ 27 → ⊥
unfolding enc_atom
no_not s raw p (Atom.value v) rest e k = let q = first_tag s raw p 1 _ e in omega arith
no_not s raw p (Atom.variable x) rest e k = let q = first_tag s raw p 2 _ e in omega arith
no_not s raw p (Atom.apply x ds) rest e k = let q = first_tag s raw p 3 _ e in omega arith
no_not s raw p (Atom.group d) rest e k = let q = first_tag s raw p 28 _ e in omega arith

module _ (s raw names : List ℕ) (kinds : Kinds) (scope : List ℕ) (n at w : ℕ) (o : List ℕ) where
  abbrev pub NotsLeft : (p v : ℕ) → List ℕ → Type 0
  NotsLeft p v o' = (N : Names) (S : Sig) (a : Negation) (rest : List Symbol) → N.funcs ≡ funcs_in s names kinds → KnownSorts kinds scope n S → drop at (symbols s raw) ≡ enc_negation a ++ rest
      → Nots (symbols s raw) rest (negation_cells N S (scope_at s scope n) (scope_sorts scope n)) (negation_cells N S (scope_at s scope n) (scope_sorts scope n) a) w o p v o'

  pub nots_start : NotsLeft at w o
  nots_start N S a rest f so e = record { left = a; done = []; there = e; is_whole = sym (then_nothing _); written = writes_nothing }

  module _ (p v : ℕ) (o₁ : List ℕ) (left : NotsLeft p v o₁) where
    pub nots_step : get_or raw p 0 ≡ 27 → (v₁ v₂ : ℕ) (o₂ o₃ : List ℕ) → Put o₁ v 130 v₁ o₂ → Put o₂ v₁ 1 v₂ o₃ → NotsLeft (p + 1) v₂ o₃
    unfolding enc_negation
    nots_step k v₁ v₂ o₂ o₃ put₁ put₂ N S a rest f so e = let x = left N S a rest f so e in by x.left x.there x.is_whole
      where
        σ : List Name
        σ = scope_at s scope n

        Γ : List ℕ
        Γ = scope_sorts scope n

        before : Writes (left N S a rest f so e).done w o v o₁
        before = (left N S a rest f so e).written

        by : (b : Negation) → drop p (symbols s raw) ≡ enc_negation b ++ rest → negation_cells N S σ Γ a ≡ some (left N S a rest f so e).done ⊕ negation_cells N S σ Γ b
            → Nots (symbols s raw) rest (negation_cells N S σ Γ) (negation_cells N S σ Γ a) w o (p + 1) v₂ o₃
        by (Negation.atom b) d q = absurd (no_not s raw p b rest d k)
        by (Negation.not b) d q =
            record {
              left = b;
              done = (left N S a rest f so e).done ++ (130 ∷ 1 ∷ []);
              there = (next s raw p (tag 27) (enc_negation b ++ rest) d).behind;
              is_whole = q ∙ ap (λ x. some (left N S a rest f so e).done ⊕ x) (not_cells N S σ Γ b) ∙ then_assoc (left N S a rest f so e).done (130 ∷ 1 ∷ []) (negation_cells N S σ Γ b);
              written = writes_then before (writes_then (writes_cell put₁) (writes_cell put₂));
            }

    pub nots_end : (get_or raw p 0 ≡ 27 → ⊥) → (r : Given Step) (o₂ : List ℕ) → ResolvesAtom s raw names kinds scope n p v o₁ r o₂ → ResolvesNegation s raw names kinds scope n at w o r o₂
    unfolding enc_negation
    nots_end k r o₂ resolves N S a rest f so e = let x = left N S a rest f so e in by x.left x.there x.is_whole
      where
        σ : List Name
        σ = scope_at s scope n

        Γ : List ℕ
        Γ = scope_sorts scope n

        by : (b : Negation) → drop p (symbols s raw) ≡ enc_negation b ++ rest → negation_cells N S σ Γ a ≡ some (left N S a rest f so e).done ⊕ negation_cells N S σ Γ b
            → Outcome raw (symbols s raw) rest w o r o₂ (negation_cells N S σ Γ a)
        by (Negation.atom b) d q =
            became _ _ _ _ _ _ _ (sym (q ∙ ap (λ x. some (left N S a rest f so e).done ⊕ x) (positive_cells N S σ Γ b)))
            (written_before raw (symbols s raw) rest r o₂ (left N S a rest f so e).done (atom_cells N S σ Γ b) (left N S a rest f so e).written (resolves N S b rest f so d))
        by (Negation.not b) d q = absurd (k (first_tag s raw p 27 _ d))

  -- ---- comparisons
  pub alone_took : get_or raw at 0 ≡ 25 → (r : Given Step) (o' : List ℕ) → ResolvesNegation s raw names kinds scope n (at + 1) w o r o' → ResolvesComparison s raw names kinds scope n at w o r o'
  unfolding enc_comparison
  alone_took k r o' resolves N S (Comparison.plain a) rest f so e =
      became _ _ _ _ _ _ _ (sym (alone_cells N S (scope_at s scope n) (scope_sorts scope n) a)) (resolves N S a rest f so (next s raw at (tag 25) (enc_negation a ++ rest) e).behind)
  alone_took k r o' resolves N S (Comparison.equal a b) rest f so e = let q = first_tag s raw at 26 _ e in absurd (omega arith)

  pub comparison_lost : (get_or raw at 0 ≡ 25 → ⊥) → (get_or raw at 0 ≡ 26 → ⊥) → (r : Given Step) (o' : List ℕ) → ResolvesComparison s raw names kinds scope n at w o r o'
  unfolding enc_comparison
  comparison_lost k l r o' N S (Comparison.plain a) rest f so e = absurd (k (first_tag s raw at 25 _ e))
  comparison_lost k l r o' N S (Comparison.equal a b) rest f so e = absurd (l (first_tag s raw at 26 _ e))

-- the cell of `==`, behind which two operands were written: what is read of them are their first cells
module _ (w w₁ w₂ : ℕ) (o o₁ o₂ o₃ o₄ : List ℕ) (e g : List ℕ) (a b : ℕ) (put₁ : Put o w 0 w₁ o₁) (put₂ : Put o₁ w₁ 2 w₂ o₂) (ws₁ : Writes e w₂ o₂ a o₃) (ws₂ : Writes g a o₃ b o₄) where
  pub both_written : Writes (0 ∷ 2 ∷ (e ++ g)) w o b o₄
  both_written = writes_then (writes_cell put₁) (writes_then (writes_cell put₂) (writes_then ws₁ ws₂))

  module _ (room : w + suc (suc (length (e ++ g))) ≤ min (length o) cell_limit) where
    second_at : w₂ ≡ w + 2
    second_at = let x = (writes_then (writes_cell put₁) (writes_cell put₂)).with_room (omega arith) in let z = x.next in omega arith

    pub first_read : 0 < length e → get_or o₄ w₂ 0 ≡ get_or e 0 0
    first_read h =
        let l = length-append e g in
        ap (λ i. get_or o₄ i 0) second_at ∙ written_cell (both_written.with_room room) (omega arith) 2 (omega arith) ∙ get_or-append e g 0 0 h

    pub second_read : 0 < length g → get_or o₄ a 0 ≡ get_or g 0 0
    second_read h =
        let l = length-append e g in
        let x = (writes_then (writes_cell put₁) (writes_then (writes_cell put₂) ws₁)).with_room (omega arith) in
        let n = x.next in
        let y : a ≡ w + suc (suc (length e)) = omega arith in
        let z : length e ≡ length e + 0 = omega arith in
        ap (λ i. get_or o₄ i 0) y ∙ written_cell (both_written.with_room room) (omega arith) (suc (suc (length e))) (omega arith) ∙ ap (λ i. get_or (e ++ g) i 0) z ∙ get_or-append-add e g 0 0

module _ (s raw names : List ℕ) (kinds : Kinds) (scope : List ℕ) (n at w : ℕ) (o : List ℕ) (few : Few raw kinds scope n) where
  module _ (w₁ w₂ : ℕ) (o₁ o₂ : List ℕ) (put₁ : Put o w 0 w₁ o₁) (put₂ : Put o₁ w₁ 2 w₂ o₂) (a : Step) (o₃ : List ℕ) (first : ResolvesNegation s raw names kinds scope n (at + 1) w₂ o₂ (Some a) o₃)
      (b : Step) (o₄ : List ℕ) (second : ResolvesNegation s raw names kinds scope n a.at a.w o₃ (Some b) o₄)
      (i j : ℕ) (ei : i ≡ get_or o₄ w₂ 0) (ej : j ≡ get_or o₄ a.w 0) (v w₃ : ℕ) (o' : List ℕ) (equal : EqualCell scope i j v) (put₃ : Put o₄ w v w₃ o') where
    pub equal_took : get_or raw at 0 ≡ 26 → ResolvesComparison s raw names kinds scope n at w o (Some b) o'
    unfolding enc_comparison comparison_cells negation_cells resolve_data enc_data list_of
    equal_took k N S (Comparison.plain c) rest f so e = let q = first_tag s raw at 25 _ e in absurd (omega arith)
    equal_took k N S (Comparison.equal c d) rest f so e =
        on (resolve_negation N S σ Γ c) refl (first N S c (enc_negation d ++ rest) f so ((next s raw at (tag 26) _ e).behind ∙ append_assoc (enc_negation c) (enc_negation d) rest))
      where
        σ : List Name
        σ = scope_at s scope n

        Γ : List ℕ
        Γ = scope_sorts scope n

        number : Data → Data → ℕ
        number x y = equal_at N S (sort_of N S Γ x) (sort_of N S Γ y)

        known : (c : Negation) (x : Data) → resolve_negation N S σ Γ c ≡ some x → Top n kinds.funcs x
        known c x q = let m = funcs_most s names kinds in let z = ap length f in resolved_top N S σ Γ n kinds.funcs (scope_most s scope n) (omega arith) c x q

        -- the cell as it is found, if there was room
        found : (x y : Data) → resolve_negation N S σ Γ c ≡ some x → resolve_negation N S σ Γ d ≡ some y → Writes (enc_data x) w₂ o₂ a.w o₃ → Writes (enc_data y) a.w o₃ b.w o₄
            → w + suc (suc (length (enc_data x ++ enc_data y))) ≤ min (length o) cell_limit → v ≡ 4 * number x y + function_tag
        found x y p q ws₁ ws₂ room =
            let c₁ = first_read w w₁ w₂ o o₁ o₂ o₃ o₄ (enc_data x) (enc_data y) a.w b.w put₁ put₂ ws₁ ws₂ room (some_cell x) in
            let c₂ = second_read w w₁ w₂ o o₁ o₂ o₃ o₄ (enc_data x) (enc_data y) a.w b.w put₁ put₂ ws₁ ws₂ room (some_cell y) in
            let s₁ = ap (cell_sort scope) (ei ∙ c₁) ∙ own_sort N S kinds scope n so few.scope_many few.in_scope few.kinds_few.funcs_few x (known c x p) in
            let s₂ = ap (cell_sort scope) (ej ∙ c₂) ∙ own_sort N S kinds scope n so few.scope_many few.in_scope few.kinds_few.funcs_few y (known d y q) in
            let z : equal_at N S (cell_sort scope i) (cell_sort scope j) ≡ number x y = ap (λ r. equal_at N S r (cell_sort scope j)) s₁ ∙ ap (equal_at N S (sort_of N S Γ x)) s₂ in
            let fits = equal_fits N S (sort_of N S Γ x) (sort_of N S Γ y) (own_small N S kinds scope n so few.scope_many few.in_scope few.kinds_few.funcs_few x (known c x p))
            (own_small N S kinds scope n so few.scope_many few.in_scope few.kinds_few.funcs_few y (known d y q)) in
            equal N S (subst (λ (i : ℕ). 4 * i + 2 < cell_limit) (sym z) fits) ∙ ap (λ i. 4 * i + 2) z

        both : (x : Data) → resolve_negation N S σ Γ c ≡ some x → Writes (enc_data x) w₂ o₂ a.w o₃ → (r : Option Data) → resolve_negation N S σ Γ d ≡ r
            → Outcome raw (symbols s raw) rest a.w o₃ (Some b) o₄ (◌>>=◌ r (λ y. some (enc_data y)))
            → Outcome raw (symbols s raw) rest w o (Some b) o' (◌>>=◌ (◌>>=◌ r (λ y. some (Data.app (number x y) (Datas.cons x (Datas.cons y Datas.nil))))) (λ z. some (enc_data z)))
        both x p ws₁ none q h = absurd h
        both x p ws₁ (some y) q h =
            became raw (symbols s raw) rest w o (Some b) o' (ap (λ (l : List ℕ). some ((4 * number x y + function_tag) ∷ 2 ∷ (enc_data x ++ l))) (sym (append-nil (enc_data y))))
            (h.0, h.1, writes_found (both_written w w₁ w₂ o o₁ o₂ o₃ o₄ (enc_data x) (enc_data y) a.w b.w put₁ put₂ ws₁ h.2) put₃ (found x y p q ws₁ h.2))

        on : (r : Option Data) → resolve_negation N S σ Γ c ≡ r → Outcome raw (symbols s raw) (enc_negation d ++ rest) w₂ o₂ (Some a) o₃ (◌>>=◌ r (λ x. some (enc_data x)))
            → Outcome raw (symbols s raw) rest w o (Some b) o'
            (◌>>=◌ (◌>>=◌ r (λ x. ◌>>=◌ (resolve_negation N S σ Γ d) (λ y. some (Data.app (number x y) (Datas.cons x (Datas.cons y Datas.nil)))))) (λ z. some (enc_data z)))
        on none q h = absurd h
        on (some x) q h = both x q h.2 (resolve_negation N S σ Γ d) refl (second N S d rest f so h.1)

module _ (s raw names : List ℕ) (kinds : Kinds) (scope : List ℕ) (n at w : ℕ) (o : List ℕ) (k : get_or raw at 0 ≡ 26) (w₂ : ℕ) (o₂ : List ℕ) where
  -- a name of the first operand is not as it must be, or one of the second
  pub equal_first_lost : (o₃ : List ℕ) → ResolvesNegation s raw names kinds scope n (at + 1) w₂ o₂ None o₃ → ResolvesComparison s raw names kinds scope n at w o None o₃
  unfolding enc_comparison comparison_cells negation_cells resolve_data
  equal_first_lost o₃ first N S (Comparison.plain c) rest f so e = let q = first_tag s raw at 25 _ e in absurd (omega arith)
  equal_first_lost o₃ first N S (Comparison.equal c d) rest f so e =
      on (resolve_negation N S (scope_at s scope n) (scope_sorts scope n) c) (first N S c (enc_negation d ++ rest) f so ((next s raw at (tag 26) _ e).behind ∙ append_assoc (enc_negation c) (enc_negation d) rest))
    where
      on : (r : Option Data) → Outcome raw (symbols s raw) (enc_negation d ++ rest) w₂ o₂ None o₃ (◌>>=◌ r (λ x. some (enc_data x)))
          → Outcome raw (symbols s raw) rest w o None o₃ (◌>>=◌ (◌>>=◌ r (λ x. ◌>>=◌ (resolve_negation N S (scope_at s scope n) (scope_sorts scope n) d) (λ y. some (Data.app (equal_at N S (sort_of N S (scope_sorts scope n) x) (sort_of N S (scope_sorts scope n) y)) (Datas.cons x (Datas.cons y Datas.nil)))))) (λ z. some (enc_data z)))
      on none h = tt
      on (some x) h = absurd h

  pub equal_second_lost : (a : Step) (o₃ o₄ : List ℕ) → ResolvesNegation s raw names kinds scope n (at + 1) w₂ o₂ (Some a) o₃ → ResolvesNegation s raw names kinds scope n a.at a.w o₃ None o₄
      → ResolvesComparison s raw names kinds scope n at w o None o₄
  unfolding enc_comparison comparison_cells negation_cells resolve_data
  equal_second_lost a o₃ o₄ first second N S (Comparison.plain c) rest f so e = let q = first_tag s raw at 25 _ e in absurd (omega arith)
  equal_second_lost a o₃ o₄ first second N S (Comparison.equal c d) rest f so e =
      on (resolve_negation N S σ Γ c) (first N S c (enc_negation d ++ rest) f so ((next s raw at (tag 26) _ e).behind ∙ append_assoc (enc_negation c) (enc_negation d) rest))
    where
      σ : List Name
      σ = scope_at s scope n

      Γ : List ℕ
      Γ = scope_sorts scope n

      behind : (x : Data) (r : Option Data) → Outcome raw (symbols s raw) rest a.w o₃ None o₄ (◌>>=◌ r (λ y. some (enc_data y)))
          → Outcome raw (symbols s raw) rest w o None o₄ (◌>>=◌ (◌>>=◌ r (λ y. some (Data.app (equal_at N S (sort_of N S Γ x) (sort_of N S Γ y)) (Datas.cons x (Datas.cons y Datas.nil))))) (λ z. some (enc_data z)))
      behind x none h = tt
      behind x (some y) h = absurd h

      on : (r : Option Data) → Outcome raw (symbols s raw) (enc_negation d ++ rest) w₂ o₂ (Some a) o₃ (◌>>=◌ r (λ x. some (enc_data x)))
          → Outcome raw (symbols s raw) rest w o None o₄ (◌>>=◌ (◌>>=◌ r (λ x. ◌>>=◌ (resolve_negation N S σ Γ d) (λ y. some (Data.app (equal_at N S (sort_of N S Γ x) (sort_of N S Γ y)) (Datas.cons x (Datas.cons y Datas.nil)))))) (λ z. some (enc_data z)))
      on none h = absurd h
      on (some x) h = behind x (resolve_negation N S σ Γ d) (second N S d rest f so h.1)

-- ---- operands: so many are read from a place on
module _ {A : Type 0} (enc : A → List Symbol) (cells : Names → Sig → List Name → List ℕ → A → Option (List ℕ)) (s raw names : List ℕ) (kinds : Kinds) (scope : List ℕ) (n from m w : ℕ) (o : List ℕ) where
  abbrev pub OperandsLeft : (p v i : ℕ) → List ℕ → Type 0
  OperandsLeft p v i o' = (N : Names) (S : Sig) (l : List A) (rest : List Symbol) → N.funcs ≡ funcs_in s names kinds → KnownSorts kinds scope n S → from ≤ length raw → length l ≡ m
      → drop from (symbols s raw) ≡ all enc l ++ rest
      → Joining enc (cells N S (scope_at s scope n) (scope_sorts scope n)) raw (symbols s raw) rest (each_cells (cells N S (scope_at s scope n) (scope_sorts scope n)) l) m w o p v i o'

  pub operands_start : OperandsLeft from w 0 o
  operands_start N S l rest f so h q e =
      subst (λ (k : ℕ). Joining enc (cells N S (scope_at s scope n) (scope_sorts scope n)) raw (symbols s raw) rest (each_cells (cells N S (scope_at s scope n) (scope_sorts scope n)) l) k w o from w 0 o) q
      (joining_start enc (cells N S (scope_at s scope n) (scope_sorts scope n)) raw (symbols s raw) rest l w o from h e)

  pub operands_step : (p v i : ℕ) (o₁ : List ℕ) → OperandsLeft p v i o₁ → i < m → (r : Step) (o₂ : List ℕ) → Resolves enc cells s raw names kinds scope n p v o₁ (Some r) o₂ → OperandsLeft r.at r.w (i + 1) o₂
  operands_step p v i o₁ left h r o₂ resolves N S l rest f so z q e =
      joining_step enc (cells N S (scope_at s scope n) (scope_sorts scope n)) raw (symbols s raw) rest _ m w o p v i o₁ (left N S l rest f so z q e) h r o₂
      (λ a t d. resolves N S a t f so d)

  -- one of them is missing
  pub operands_lost : (p v i : ℕ) (o₁ : List ℕ) → OperandsLeft p v i o₁ → i < m → (o₂ : List ℕ) → Resolves enc cells s raw names kinds scope n p v o₁ None o₂
      → (N : Names) (S : Sig) (l : List A) (rest : List Symbol) → N.funcs ≡ funcs_in s names kinds → KnownSorts kinds scope n S → from ≤ length raw → length l ≡ m
      → drop from (symbols s raw) ≡ all enc l ++ rest → each_cells (cells N S (scope_at s scope n) (scope_sorts scope n)) l ≡ none
  operands_lost p v i o₁ left h o₂ resolves N S l rest f so z q e =
      joining_lost enc (cells N S (scope_at s scope n) (scope_sorts scope n)) raw (symbols s raw) rest _ m w o p v i o₁ (left N S l rest f so z q e) h o₂
      (λ a t d. resolves N S a t f so d)

module _ (s raw names : List ℕ) (kinds : Kinds) (scope : List ℕ) (n at w w₁ : ℕ) (o o₁ : List ℕ) where
  pub conjunction_lost : get_or raw at 0 < first_ands → (r : Given Step) (o' : List ℕ) → ResolvesConjunction s raw names kinds scope n at w o r o'
  conjunction_lost k r o' N S c rest f so e =
      let z = (ands_is s (get_or raw at 0) (more_ands c) (next s raw at (ands (more_ands c)) _ e).is).least in
      absurd (omega arith)

  pub conjunction_took : (j p v i : ℕ) (o' : List ℕ) → j ≡ get_or raw at 0 - first_ands → Writes (joins 138 j) w o w₁ o₁
      → OperandsLeft enc_comparison comparison_cells s raw names kinds scope n (at + 1) (j + 1) w₁ o₁ p v i o' → j < i → ResolvesConjunction s raw names kinds scope n at w o (Some (record { at = p; w = v })) o'
  conjunction_took j p v i o' ej ws left h N S c rest f so e =
      let x = next s raw at (ands (more_ands c)) (enc_ands c ++ rest) e in
      let y = (ands_is s (get_or raw at 0) (more_ands c) x.is).count in
      let inside = x.inside in
      let z : j ≡ more_ands c = omega arith in
      let q = conjuncts_many c in
      became _ _ _ _ _ _ _ (ap (λ k. some (joins 138 k) ⊕ each_cells (comparison_cells N S (scope_at s scope n) (scope_sorts scope n)) (conjuncts c)) z ∙ sym (conjunction_joined N S (scope_at s scope n) (scope_sorts scope n) c))
      (written_before raw (symbols s raw) rest _ o' (joins 138 j) _ ws
      (joining_end enc_comparison (comparison_cells N S (scope_at s scope n) (scope_sorts scope n)) raw (symbols s raw) rest _ (j + 1) w₁ o₁ p v i o'
      (left N S (conjuncts c) rest f so (omega arith) (omega arith) (x.behind ∙ ap (λ l. l ++ rest) (conjuncts_are c))) (omega arith)))

  -- an operand of it is not as it must be
  pub conjunct_lost : (j p v i : ℕ) (o' : List ℕ) → j ≡ get_or raw at 0 - first_ands
      → OperandsLeft enc_comparison comparison_cells s raw names kinds scope n (at + 1) (j + 1) w₁ o₁ p v i o' → i < j + 1 → (o₂ : List ℕ) → ResolvesComparison s raw names kinds scope n p v o' None o₂
      → ResolvesConjunction s raw names kinds scope n at w o None o₂
  conjunct_lost j p v i o' ej left h o₂ resolves N S c rest f so e =
      let x = next s raw at (ands (more_ands c)) (enc_ands c ++ rest) e in
      let y = (ands_is s (get_or raw at 0) (more_ands c) x.is).count in
      let inside = x.inside in
      let q = conjuncts_many c in
      let m = operands_lost enc_comparison comparison_cells s raw names kinds scope n (at + 1) (j + 1) w₁ o₁ p v i o' left h o₂ resolves N S (conjuncts c) rest f so (omega arith) (omega arith) (x.behind ∙ ap (λ l. l ++ rest) (conjuncts_are c)) in
      became_none _ _ _ _ _ _ (conjunction_joined N S (scope_at s scope n) (scope_sorts scope n) c ∙ ap (λ (X : Option (List ℕ)). some (joins 138 (more_ands c)) ⊕ X) m ∙ none_last (joins 138 (more_ands c)))

  pub data_lost : (first_ors ≤ get_or raw at 0 → get_or raw at 0 < first_ands → ⊥) → (r : Given Step) (o' : List ℕ) → ResolvesData s raw names kinds scope n at w o r o'
  data_lost k r o' N S d rest f so e =
      let z = ors_is s (get_or raw at 0) (more_ors d) (next s raw at (ors (more_ors d)) _ e).is in
      absurd (k z.0.least z.1)

  pub data_took : (j p v i : ℕ) (o' : List ℕ) → j ≡ get_or raw at 0 - first_ors → Writes (joins 142 j) w o w₁ o₁
      → OperandsLeft enc_conjunction conjunction_cells s raw names kinds scope n (at + 1) (j + 1) w₁ o₁ p v i o' → j < i → ResolvesData s raw names kinds scope n at w o (Some (record { at = p; w = v })) o'
  data_took j p v i o' ej ws left h N S d rest f so e =
      let x = next s raw at (ors (more_ors d)) (enc_ors d ++ rest) e in
      let y = (ors_is s (get_or raw at 0) (more_ors d) x.is).0.count in
      let inside = x.inside in
      let z : j ≡ more_ors d = omega arith in
      let q = disjuncts_many d in
      became _ _ _ _ _ _ _ (ap (λ k. some (joins 142 k) ⊕ each_cells (conjunction_cells N S (scope_at s scope n) (scope_sorts scope n)) (disjuncts d)) z ∙ sym (data_joined N S (scope_at s scope n) (scope_sorts scope n) d))
      (written_before raw (symbols s raw) rest _ o' (joins 142 j) _ ws
      (joining_end enc_conjunction (conjunction_cells N S (scope_at s scope n) (scope_sorts scope n)) raw (symbols s raw) rest _ (j + 1) w₁ o₁ p v i o'
      (left N S (disjuncts d) rest f so (omega arith) (omega arith) (x.behind ∙ ap (λ l. l ++ rest) (disjuncts_are d))) (omega arith)))

  pub disjunct_lost : (j p v i : ℕ) (o' : List ℕ) → j ≡ get_or raw at 0 - first_ors
      → OperandsLeft enc_conjunction conjunction_cells s raw names kinds scope n (at + 1) (j + 1) w₁ o₁ p v i o' → i < j + 1 → (o₂ : List ℕ) → ResolvesConjunction s raw names kinds scope n p v o' None o₂
      → ResolvesData s raw names kinds scope n at w o None o₂
  disjunct_lost j p v i o' ej left h o₂ resolves N S d rest f so e =
      let x = next s raw at (ors (more_ors d)) (enc_ors d ++ rest) e in
      let y = (ors_is s (get_or raw at 0) (more_ors d) x.is).0.count in
      let inside = x.inside in
      let q = disjuncts_many d in
      let m = operands_lost enc_conjunction conjunction_cells s raw names kinds scope n (at + 1) (j + 1) w₁ o₁ p v i o' left h o₂ resolves N S (disjuncts d) rest f so (omega arith) (omega arith) (x.behind ∙ ap (λ l. l ++ rest) (disjuncts_are d)) in
      became_none _ _ _ _ _ _ (data_joined N S (scope_at s scope n) (scope_sorts scope n) d ∙ ap (λ (X : Option (List ℕ)). some (joins 142 (more_ors d)) ⊕ X) m ∙ none_last (joins 142 (more_ors d)))
