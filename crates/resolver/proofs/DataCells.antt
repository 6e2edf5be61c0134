-- The cells of a resolved data term, by its parts.
use mathlib.Core.Path.{◌≡◌, refl, sym, ap, ◌∙◌}
use mathlib.Core.List.{List, [], ◌∷◌, ◌++◌, append_assoc, append-nil}
use mathlib.Core.Option.{Option, none, some}
use Prim.Native.Nat.{ℕ, zero, suc, ◌+◌, ◌*◌}
use native.Mathlib.Numerals.{add-one}
use native.Mathlib.Omega.{arith}
use lib.ListN.{length}
use Rattle.pcrl.specs.Maybe.{◌>>=◌}
use Rattle.pcrl.specs.Tree.{Name, RawData, Conjunction, Comparison, Negation, Atom, RawDatas}
use Rattle.pcrl.specs.Sheet.{Data, Datas, list_of, Sig, or_number, and_number}
use Rattle.pcrl.specs.Names.{Names, number_of, resolve_data, resolve_ors, resolve_conjunction, resolve_ands, resolve_comparison, resolve_negation, resolve_datas, resolve_given}
use Rattle.parser.specs.Cells.{more_ors, more_ands}
use Rattle.nodes.specs.Layout.{enc_data, enc_arguments, enc_datas, enc_node}
use Rattle.resolver.specs.Raw.{disjuncts, conjuncts}
use Rattle.resolver.specs.Room.{arguments_are}
use Rattle.resolver.specs.Resolving.{data_cells, conjunction_cells, comparison_cells, negation_cells, atom_cells, datas_cells, given_cells, condition_cells, count_of, joins, ◌⊕◌}

pub then_nothing : (o : Option (List ℕ)) → some [] ⊕ o ≡ o
unfolding ◌⊕◌
then_nothing none = refl
then_nothing (some e) = refl

pub then_assoc : (e g : List ℕ) (o : Option (List ℕ)) → some e ⊕ (some g ⊕ o) ≡ some (e ++ g) ⊕ o
unfolding ◌⊕◌
then_assoc e g none = refl
then_assoc e g (some h) = ap some (sym (append_assoc e g h))

pub then_none : (e : List ℕ) (o : Option (List ℕ)) → some e ⊕ (none ⊕ o) ≡ none
unfolding ◌⊕◌
then_none e o = refl

pub then_last : (e g : List ℕ) → some e ⊕ some g ≡ some (e ++ g)
unfolding ◌⊕◌
then_last e g = refl

pub none_last : (e : List ℕ) → some e ⊕ none ≡ none
unfolding ◌⊕◌
none_last e = refl

pub then_missing : (e : List ℕ) (a : Option (List ℕ)) → (some e ⊕ none) ⊕ a ≡ none
unfolding ◌⊕◌
then_missing e a = refl

pub none_behind : (a : Option (List ℕ)) → a ⊕ none ≡ none
unfolding ◌⊕◌
none_behind none = refl
none_behind (some e) = refl

pub none_before : (a : Option (List ℕ)) → none ⊕ a ≡ none
unfolding ◌⊕◌
none_before a = refl

pub three_assoc : (a b c : Option (List ℕ)) → a ⊕ (b ⊕ c) ≡ (a ⊕ b) ⊕ c
unfolding ◌⊕◌
three_assoc none b c = refl
three_assoc (some e) none c = refl
three_assoc (some e) (some g) none = refl
three_assoc (some e) (some g) (some h) = ap some (sym (append_assoc e g h))

-- cells of so many data terms, and before them how many cells and terms they are
unfoldable pub sized : ℕ → Option (List ℕ) → Option (List ℕ)
sized count o = do
  e ← o
  some (length e ∷ count ∷ e)

pub none_sized : (count : ℕ) → sized count none ≡ none
unfolding sized
none_sized count = refl

pub some_sized : (count : ℕ) (e : List ℕ) → sized count (some e) ≡ some (length e ∷ count ∷ e)
unfolding sized
some_sized count e = refl

-- one of each, one behind the other
unfoldable pub each_cells : {A : Type 0} → (A → Option (List ℕ)) → List A → Option (List ℕ)
each_cells f [] = some []
each_cells f (a ∷ l) = f a ⊕ each_cells f l

-- one more stands before the others or behind them
joins_shift : (c k : ℕ) (l : List ℕ) → joins c k ++ (c ∷ 2 ∷ l) ≡ c ∷ 2 ∷ (joins c k ++ l)
unfolding joins
joins_shift c zero l = refl
joins_shift c (suc k) l = ap (λ x. c ∷ 2 ∷ x) (joins_shift c k l)

pub joins_last : (c k : ℕ) → joins c k ++ (c ∷ 2 ∷ []) ≡ joins c (k + 1)
unfolding joins
joins_last c k = joins_shift c k [] ∙ ap (λ l. c ∷ 2 ∷ l) (append-nil (joins c k)) ∙ ap (joins c) (sym (add-one k))

-- grouped to the left: the functions stand before the operands
grouped : (c k : ℕ) (x y : List ℕ) (o : Option (List ℕ)) → some (joins c (suc k) ++ (c ∷ 2 ∷ (x ++ (y ++ [])))) ⊕ o ≡ some (joins c (suc (suc k)) ++ x) ⊕ (some y ⊕ o)
unfolding joins
grouped c k x y o =
    let z : joins c (suc k) ++ (c ∷ 2 ∷ (x ++ (y ++ []))) ≡ (joins c (suc (suc k)) ++ x) ++ y = joins_shift c (suc k) (x ++ (y ++ []))
    ∙ ap (λ l. c ∷ 2 ∷ (joins c (suc k) ++ (x ++ l))) (append-nil y) ∙ ap (λ l. c ∷ 2 ∷ l) (sym (append_assoc (joins c (suc k)) x y)) in
    ap (λ l. some l ⊕ o) z ∙ sym (then_assoc (joins c (suc (suc k)) ++ x) y o)

module _ (N : Names) (S : Sig) (scope : List Name) (Γ : List ℕ) where
  -- as many data terms are resolved as are written
  pub resolved_count : (ds : RawDatas) (es : Datas) → resolve_datas N S scope Γ ds ≡ some es → length (list_of es) ≡ count_of ds
  unfolding resolve_data count_of list_of
  resolved_count (RawDatas.one d) es q = by (resolve_data N S scope Γ d) q
    where
      by : (o : Option Data) → (◌>>=◌ o (λ e. some (Datas.cons e Datas.nil))) ≡ some es → length (list_of es) ≡ 1
      by none q = let z : ◌≡◌ {A = ℕ} 0 1 = cc in absurd (omega arith)
      by (some e) q = let f : Datas.cons e Datas.nil ≡ es = cc in ap (λ x. length (list_of x)) (sym f)
  resolved_count (RawDatas.more d ds) es q = by (resolve_data N S scope Γ d) (resolve_datas N S scope Γ ds) (λ fs. resolved_count ds fs) q
    where
      by : (o : Option Data) (p : Option Datas) → ((fs : Datas) → p ≡ some fs → length (list_of fs) ≡ count_of ds)
          → (◌>>=◌ o (λ e. ◌>>=◌ p (λ es. some (Datas.cons e es)))) ≡ some es → length (list_of es) ≡ suc (count_of ds)
      by none p h q = let z : ◌≡◌ {A = ℕ} 0 1 = cc in absurd (omega arith)
      by (some e) none h q = let z : ◌≡◌ {A = ℕ} 0 1 = cc in absurd (omega arith)
      by (some e) (some fs) h q = let f : Datas.cons e fs ≡ es = cc in ap (λ x. length (list_of x)) (sym f) ∙ ap suc (h fs refl)

  pub variable_unknown : (x : Name) → number_of x scope ≡ none → atom_cells N S scope Γ (Atom.variable x) ≡ none
  unfolding atom_cells resolve_data
  variable_unknown x e = rw e refl

  pub variable_known : (x : Name) (i : ℕ) → number_of x scope ≡ some i → atom_cells N S scope Γ (Atom.variable x) ≡ some ((4 * i + 1) ∷ [])
  unfolding atom_cells resolve_data enc_data
  variable_known x i e = rw e refl

  pub apply_unknown : (x : Name) (ds : RawDatas) → number_of x N.funcs ≡ none → atom_cells N S scope Γ (Atom.apply x ds) ≡ none
  unfolding atom_cells resolve_data
  apply_unknown x ds e = rw e refl

  pub apply_known : (x : Name) (ds : RawDatas) (f : ℕ) → number_of x N.funcs ≡ some f → atom_cells N S scope Γ (Atom.apply x ds) ≡ some ((4 * f + 2) ∷ count_of ds ∷ []) ⊕ datas_cells N S scope Γ ds
  unfolding atom_cells datas_cells resolve_data enc_data ◌⊕◌
  apply_known x ds f e = rw e (by (resolve_datas N S scope Γ ds) (resolved_count ds))
    where
      by : (o : Option Datas) → ((es : Datas) → o ≡ some es → length (list_of es) ≡ count_of ds)
          → (◌>>=◌ (◌>>=◌ o (λ es. some (Data.app f es))) (λ e. some (enc_data e))) ≡ some ((4 * f + 2) ∷ count_of ds ∷ []) ⊕ (◌>>=◌ o (λ es. some (enc_arguments es)))
      by none h = refl
      by (some es) h = ap (λ k. some ((4 * f + 2) ∷ k ∷ enc_arguments es)) (h es refl)

  pub datas_one : (d : RawData) → datas_cells N S scope Γ (RawDatas.one d) ≡ data_cells N S scope Γ d
  unfolding data_cells datas_cells resolve_data enc_data
  datas_one d = by (resolve_data N S scope Γ d)
    where
      by : (o : Option Data) → (◌>>=◌ (◌>>=◌ o (λ e. some (Datas.cons e Datas.nil))) (λ es. some (enc_arguments es))) ≡ (◌>>=◌ o (λ e. some (enc_data e)))
      by none = refl
      by (some e) = ap some (append-nil (enc_data e))

  pub datas_more : (d : RawData) (ds : RawDatas) → datas_cells N S scope Γ (RawDatas.more d ds) ≡ data_cells N S scope Γ d ⊕ datas_cells N S scope Γ ds
  unfolding data_cells datas_cells resolve_data enc_data ◌⊕◌
  datas_more d ds = by (resolve_data N S scope Γ d) (resolve_datas N S scope Γ ds)
    where
      by : (o : Option Data) (p : Option Datas)
          → (◌>>=◌ (◌>>=◌ o (λ e. ◌>>=◌ p (λ es. some (Datas.cons e es)))) (λ es. some (enc_arguments es))) ≡ (◌>>=◌ o (λ e. some (enc_data e))) ⊕ (◌>>=◌ p (λ es. some (enc_arguments es)))
      by none p = refl
      by (some e) none = refl
      by (some e) (some es) = refl

  -- ---- operators
  pub group_cells : (d : RawData) → atom_cells N S scope Γ (Atom.group d) ≡ data_cells N S scope Γ d
  unfolding atom_cells data_cells resolve_data
  group_cells d = refl

  pub positive_cells : (a : Atom) → negation_cells N S scope Γ (Negation.atom a) ≡ atom_cells N S scope Γ a
  unfolding atom_cells negation_cells resolve_data
  positive_cells a = refl

  pub not_cells : (a : Negation) → negation_cells N S scope Γ (Negation.not a) ≡ some (130 ∷ 1 ∷ []) ⊕ negation_cells N S scope Γ a
  unfolding negation_cells resolve_data enc_data list_of ◌⊕◌
  not_cells a = by (resolve_negation N S scope Γ a)
    where
      by : (o : Option Data) → (◌>>=◌ (◌>>=◌ o (λ x. some (Data.app 32 (Datas.cons x Datas.nil)))) (λ e. some (enc_data e))) ≡ some (130 ∷ 1 ∷ []) ⊕ (◌>>=◌ o (λ e. some (enc_data e)))
      by none = refl
      by (some x) = ap (λ l. some (130 ∷ 1 ∷ l)) (append-nil (enc_data x))

  pub alone_cells : (a : Negation) → comparison_cells N S scope Γ (Comparison.plain a) ≡ negation_cells N S scope Γ a
  unfolding comparison_cells negation_cells resolve_data
  alone_cells a = refl

  -- ---- grouped to the left
  abbrev or_cell : ℕ
  or_cell = 142

  abbrev and_cell : ℕ
  and_cell = 138

  ands_grouped : (x : Data) (c : Conjunction)
      → (◌>>=◌ (resolve_ands N S scope Γ x c) (λ e. some (enc_data e))) ≡ some (joins and_cell (suc (more_ands c)) ++ enc_data x) ⊕ each_cells (comparison_cells N S scope Γ) (conjuncts c)
  unfolding resolve_data comparison_cells each_cells conjuncts more_ands joins enc_data list_of ◌⊕◌
  ands_grouped x (Conjunction.single c) = by (resolve_comparison N S scope Γ c)
    where
      by : (o : Option Data) → (◌>>=◌ (◌>>=◌ o (λ y. some (Data.app and_number (Datas.cons x (Datas.cons y Datas.nil))))) (λ e. some (enc_data e)))
          ≡ some (joins and_cell 1 ++ enc_data x) ⊕ ((◌>>=◌ o (λ e. some (enc_data e))) ⊕ some [])
      by none = refl
      by (some y) = refl
  ands_grouped x (Conjunction.and c d) = by (resolve_comparison N S scope Γ c) (λ y. ands_grouped (Data.app and_number (Datas.cons x (Datas.cons y Datas.nil))) d)
    where
      by : (o : Option Data)
          → ((y : Data) → (◌>>=◌ (resolve_ands N S scope Γ (Data.app and_number (Datas.cons x (Datas.cons y Datas.nil))) d) (λ e. some (enc_data e)))
          ≡ some (joins and_cell (suc (more_ands d)) ++ enc_data (Data.app and_number (Datas.cons x (Datas.cons y Datas.nil)))) ⊕ each_cells (comparison_cells N S scope Γ) (conjuncts d))
          → (◌>>=◌ (◌>>=◌ o (λ y. resolve_ands N S scope Γ (Data.app and_number (Datas.cons x (Datas.cons y Datas.nil))) d)) (λ e. some (enc_data e)))
          ≡ some (joins and_cell (suc (suc (more_ands d))) ++ enc_data x) ⊕ ((◌>>=◌ o (λ e. some (enc_data e))) ⊕ each_cells (comparison_cells N S scope Γ) (conjuncts d))
      by none f = refl
      by (some y) f = f y ∙ grouped and_cell (more_ands d) (enc_data x) (enc_data y) (each_cells (comparison_cells N S scope Γ) (conjuncts d))

  pub conjunction_joined : (c : Conjunction) → conjunction_cells N S scope Γ c ≡ some (joins and_cell (more_ands c)) ⊕ each_cells (comparison_cells N S scope Γ) (conjuncts c)
  unfolding resolve_data conjunction_cells comparison_cells each_cells conjuncts more_ands joins ◌⊕◌
  conjunction_joined (Conjunction.single c) = by (resolve_comparison N S scope Γ c)
    where
      by : (o : Option Data) → (◌>>=◌ o (λ e. some (enc_data e))) ≡ some [] ⊕ ((◌>>=◌ o (λ e. some (enc_data e))) ⊕ some [])
      by none = refl
      by (some x) = ap some (sym (append-nil (enc_data x)))
  conjunction_joined (Conjunction.and c d) = by (resolve_comparison N S scope Γ c)
    where
      by : (o : Option Data) → (◌>>=◌ (◌>>=◌ o (λ x. resolve_ands N S scope Γ x d)) (λ e. some (enc_data e)))
          ≡ some (joins and_cell (suc (more_ands d))) ⊕ ((◌>>=◌ o (λ e. some (enc_data e))) ⊕ each_cells (comparison_cells N S scope Γ) (conjuncts d))
      by none = refl
      by (some x) = ands_grouped x d ∙ sym (then_assoc (joins and_cell (suc (more_ands d))) (enc_data x) (each_cells (comparison_cells N S scope Γ) (conjuncts d)))

  ors_grouped : (x : Data) (d : RawData)
      → (◌>>=◌ (resolve_ors N S scope Γ x d) (λ e. some (enc_data e))) ≡ some (joins or_cell (suc (more_ors d)) ++ enc_data x) ⊕ each_cells (conjunction_cells N S scope Γ) (disjuncts d)
  unfolding resolve_data conjunction_cells each_cells disjuncts more_ors joins enc_data list_of ◌⊕◌
  ors_grouped x (RawData.only c) = by (resolve_conjunction N S scope Γ c)
    where
      by : (o : Option Data) → (◌>>=◌ (◌>>=◌ o (λ y. some (Data.app or_number (Datas.cons x (Datas.cons y Datas.nil))))) (λ e. some (enc_data e)))
          ≡ some (joins or_cell 1 ++ enc_data x) ⊕ ((◌>>=◌ o (λ e. some (enc_data e))) ⊕ some [])
      by none = refl
      by (some y) = refl
  ors_grouped x (RawData.or c d) = by (resolve_conjunction N S scope Γ c) (λ y. ors_grouped (Data.app or_number (Datas.cons x (Datas.cons y Datas.nil))) d)
    where
      by : (o : Option Data)
          → ((y : Data) → (◌>>=◌ (resolve_ors N S scope Γ (Data.app or_number (Datas.cons x (Datas.cons y Datas.nil))) d) (λ e. some (enc_data e)))
          ≡ some (joins or_cell (suc (more_ors d)) ++ enc_data (Data.app or_number (Datas.cons x (Datas.cons y Datas.nil)))) ⊕ each_cells (conjunction_cells N S scope Γ) (disjuncts d))
          → (◌>>=◌ (◌>>=◌ o (λ y. resolve_ors N S scope Γ (Data.app or_number (Datas.cons x (Datas.cons y Datas.nil))) d)) (λ e. some (enc_data e)))
          ≡ some (joins or_cell (suc (suc (more_ors d))) ++ enc_data x) ⊕ ((◌>>=◌ o (λ e. some (enc_data e))) ⊕ each_cells (conjunction_cells N S scope Γ) (disjuncts d))
      by none f = refl
      by (some y) f = f y ∙ grouped or_cell (more_ors d) (enc_data x) (enc_data y) (each_cells (conjunction_cells N S scope Γ) (disjuncts d))

  pub data_joined : (d : RawData) → data_cells N S scope Γ d ≡ some (joins or_cell (more_ors d)) ⊕ each_cells (conjunction_cells N S scope Γ) (disjuncts d)
  unfolding resolve_data data_cells conjunction_cells each_cells disjuncts more_ors joins ◌⊕◌
  data_joined (RawData.only c) = by (resolve_conjunction N S scope Γ c)
    where
      by : (o : Option Data) → (◌>>=◌ o (λ e. some (enc_data e))) ≡ some [] ⊕ ((◌>>=◌ o (λ e. some (enc_data e))) ⊕ some [])
      by none = refl
      by (some x) = ap some (sym (append-nil (enc_data x)))
  data_joined (RawData.or c d) = by (resolve_conjunction N S scope Γ c)
    where
      by : (o : Option Data) → (◌>>=◌ (◌>>=◌ o (λ x. resolve_ors N S scope Γ x d)) (λ e. some (enc_data e)))
          ≡ some (joins or_cell (suc (more_ors d))) ⊕ ((◌>>=◌ o (λ e. some (enc_data e))) ⊕ each_cells (conjunction_cells N S scope Γ) (disjuncts d))
      by none = refl
      by (some x) = ors_grouped x d ∙ sym (then_assoc (joins or_cell (suc (more_ors d))) (enc_data x) (each_cells (conjunction_cells N S scope Γ) (disjuncts d)))

  -- ---- what is given to a name
  pub given_some : (ds : RawDatas) → given_cells N S scope Γ (some ds) ≡ sized (count_of ds) (datas_cells N S scope Γ ds)
  unfolding given_cells datas_cells resolve_given sized
  given_some ds = by (resolve_datas N S scope Γ ds) (resolved_count ds)
    where
      by : (o : Option Datas) → ((es : Datas) → o ≡ some es → length (list_of es) ≡ count_of ds)
          → (◌>>=◌ (◌>>=◌ o (λ es. some (list_of es))) (λ es. some (length (enc_datas es) ∷ length es ∷ enc_datas es)))
          ≡ sized (count_of ds) (◌>>=◌ o (λ es. some (enc_arguments es)))
      by none h = refl
      by (some es) h = ap (λ k. some (length (enc_datas (list_of es)) ∷ k ∷ enc_datas (list_of es))) (h es refl) ∙ ap (λ l. some (length l ∷ count_of ds ∷ l)) (arguments_are es)

  pub condition_one : (d : RawData) → condition_cells N S scope Γ d ≡ sized 1 (data_cells N S scope Γ d)
  unfolding condition_cells data_cells sized
  condition_one d = by (resolve_data N S scope Γ d)
    where
      by : (o : Option Data) → (◌>>=◌ o (λ e. some (length (enc_data e) ∷ 1 ∷ enc_data e))) ≡ sized 1 (◌>>=◌ o (λ e. some (enc_data e)))
      by none = refl
      by (some e) = refl

  -- a node for a name: its first cell, and what is given to it
  unfoldable pub node_cells : ℕ → Option RawDatas → Option (List ℕ)
  node_cells first ds = do
    es ← resolve_given N S scope Γ ds
    some (enc_node first es)

  pub node_given : (first : ℕ) (ds : Option RawDatas) → node_cells first ds ≡ some (first ∷ []) ⊕ given_cells N S scope Γ ds
  unfolding node_cells given_cells ◌⊕◌
  node_given first ds = by (resolve_given N S scope Γ ds)
    where
      by : (o : Option (List Data)) → (◌>>=◌ o (λ es. some (enc_node first es))) ≡ some (first ∷ []) ⊕ (◌>>=◌ o (λ es. some (length (enc_datas es) ∷ length es ∷ enc_datas es)))
      by none = refl
      by (some es) = refl
