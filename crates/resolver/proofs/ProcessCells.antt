-- The cells of a resolved process term, by its parts.
use mathlib.Core.Path.{◌≡◌, refl, ap}
use mathlib.Core.Bool.{Bool, true, false}
use mathlib.Core.List.{List, [], ◌∷◌, ◌++◌, append-nil}
use mathlib.Core.Option.{Option, none, some}
use Prim.Native.Nat.{ℕ, ◌+◌, ◌*◌}
use lib.ListN.{length}
use Rattle.pcrl.specs.Maybe.{◌>>=◌, ◌>>◌, provided}
use Rattle.pcrl.specs.Tree.{Name, RawData, RawDatas, Choice, Conditional, Sequence, Part}
use Rattle.pcrl.specs.Sheet.{Data, Proc, Sig}
use Rattle.pcrl.specs.Names.{Names, number_of, new_variable, named, resolve_data, resolve_given, resolve_choice, resolve_conditional, resolve_sequence, resolve_part}
use Rattle.nodes.specs.Layout.{enc_data, enc_datas, enc_node, first_cell, one_if, atom_kind, sum_kind, alt_kind, cond_kind, call_kind, seq_kind, act_number, enc}
use Rattle.resolver.specs.Raw.{choice, conditional, sequence, part, resolve_term}
use Rattle.resolver.specs.Resolving.{condition_cells, term_cells, binder_cells, ◌⊕◌}
use Rattle.resolver.proofs.DataCells.{node_cells}

module _ (N : Names) (S : Sig) (scope : List Name) (Γ : List ℕ) (after : Bool) where
  pub plus_cells : (c : Conditional) (d : Choice)
      → term_cells N S scope Γ after (choice (Choice.plus c d)) ≡ some (first_cell 0 (one_if after) alt_kind ∷ 0 ∷ 0 ∷ []) ⊕ (term_cells N S scope Γ false (conditional c) ⊕ term_cells N S scope Γ false (choice d))
  unfolding term_cells resolve_term resolve_choice enc enc_datas ◌⊕◌
  plus_cells c d = by (resolve_conditional N S scope Γ c) (resolve_choice N S scope Γ d)
    where
      by : (p q : Option Proc) → (◌>>=◌ (◌>>=◌ p (λ a. ◌>>=◌ q (λ b. some (Proc.alt a b)))) (λ a. some (enc after a)))
          ≡ some (first_cell 0 (one_if after) alt_kind ∷ 0 ∷ 0 ∷ []) ⊕ ((◌>>=◌ p (λ a. some (enc false a))) ⊕ (◌>>=◌ q (λ a. some (enc false a))))
      by none q = refl
      by (some a) none = refl
      by (some a) (some b) = refl

  pub then_cells : (p : Part) (q : Sequence)
      → term_cells N S scope Γ after (sequence (Sequence.then p q)) ≡ some (first_cell 0 0 seq_kind ∷ 0 ∷ 0 ∷ []) ⊕ (term_cells N S scope Γ after (part p) ⊕ term_cells N S scope Γ true (sequence q))
  unfolding term_cells resolve_term resolve_choice enc enc_datas ◌⊕◌
  then_cells p q = by (resolve_part N S scope Γ p) (resolve_sequence N S scope Γ q)
    where
      by : (p q : Option Proc) → (◌>>=◌ (◌>>=◌ p (λ a. ◌>>=◌ q (λ b. some (Proc.seq a b)))) (λ a. some (enc after a)))
          ≡ some (first_cell 0 0 seq_kind ∷ 0 ∷ 0 ∷ []) ⊕ ((◌>>=◌ p (λ a. some (enc after a))) ⊕ (◌>>=◌ q (λ a. some (enc true a))))
      by none q = refl
      by (some a) none = refl
      by (some a) (some b) = refl

  -- the condition stands before the parts
  pub cond_cells : (p : Sequence) (c : RawData) (q : Sequence)
      → term_cells N S scope Γ after (conditional (Conditional.cond p c q))
      ≡ (some (first_cell 0 (one_if after) cond_kind ∷ []) ⊕ condition_cells N S scope Γ c) ⊕ (term_cells N S scope Γ false (sequence p) ⊕ term_cells N S scope Γ false (sequence q))
  unfolding term_cells condition_cells resolve_term resolve_choice enc enc_datas ◌⊕◌
  cond_cells p c q = by (resolve_sequence N S scope Γ p) (resolve_data N S scope Γ c) (resolve_sequence N S scope Γ q)
    where
      by : (p : Option Proc) (c : Option Data) (q : Option Proc)
          → (◌>>=◌ (◌>>=◌ p (λ a. ◌>>=◌ c (λ d. ◌>>=◌ q (λ b. some (Proc.cond d a b))))) (λ a. some (enc after a)))
          ≡ (some (first_cell 0 (one_if after) cond_kind ∷ []) ⊕ (◌>>=◌ c (λ d. some (length (enc_data d) ∷ 1 ∷ enc_data d)))) ⊕ ((◌>>=◌ p (λ a. some (enc false a))) ⊕ (◌>>=◌ q (λ a. some (enc false a))))
      by none none q = refl
      by none (some d) q = refl
      by (some a) none q = refl
      by (some a) (some d) none = refl
      by (some a) (some d) (some b) = ap (λ (l : List ℕ). some (first_cell 0 (one_if after) cond_kind ∷ length l ∷ 1 ∷ (l ++ (enc false a ++ enc false b)))) (append-nil (enc_data d))

  -- the variable comes into scope with its sort
  pub sum_cells : (v D : Name) (p : Choice) (E : ℕ) → number_of D N.sorts ≡ some E
      → term_cells N S scope Γ after (part (Part.sum v D p)) ≡ binder_cells N S scope Γ after v D ⊕ term_cells N S (scope ++ (v ∷ [])) (Γ ++ (E ∷ [])) false (choice p)
  unfolding term_cells binder_cells resolve_term resolve_choice enc enc_data enc_datas ◌⊕◌
  sum_cells v D p E e = rw e (by (new_variable N scope v) (resolve_choice N S (scope ++ (v ∷ [])) (Γ ++ (E ∷ [])) p))
    where
      by : (b : Bool) (q : Option Proc)
          → (◌>>=◌ (◌>>◌ (provided b) (◌>>=◌ q (λ q. some (Proc.sum (length scope) E q)))) (λ a. some (enc after a)))
          ≡ (◌>>◌ (provided b) (some (first_cell E (one_if after) sum_kind ∷ 1 ∷ 1 ∷ (4 * length scope + 1) ∷ []))) ⊕ (◌>>=◌ q (λ a. some (enc false a)))
      by false q = refl
      by true none = refl
      by true (some q) = refl

  pub sum_unsorted : (v D : Name) (p : Choice) → number_of D N.sorts ≡ none → term_cells N S scope Γ after (part (Part.sum v D p)) ≡ none
  unfolding term_cells resolve_term resolve_choice
  sum_unsorted v D p e = rw e (by (new_variable N scope v) none refl)
    where
      by : (b : Bool) (q : Option Proc) → q ≡ none → (◌>>=◌ (◌>>◌ (provided b) q) (λ a. some (enc after a))) ≡ none
      by false q z = refl
      by true q z = rw z refl

  pub binder_unsorted : (v D : Name) → number_of D N.sorts ≡ none → binder_cells N S scope Γ after v D ≡ none
  unfolding binder_cells
  binder_unsorted v D e = rw e (by (new_variable N scope v))
    where
      by : (b : Bool) → ◌≡◌ {A = Option (List ℕ)} (◌>>◌ (provided b) none) none
      by false = refl
      by true = refl

  pub action_cells : (x : Name) (ds : Option RawDatas) (i : ℕ) → number_of x N.acts ≡ some i
      → term_cells N S scope Γ after (part (Part.named x ds)) ≡ node_cells N S scope Γ (first_cell (i + 1) (one_if after) atom_kind) ds
  unfolding term_cells node_cells resolve_term resolve_choice named enc act_number
  action_cells x ds i e = rw e (by (resolve_given N S scope Γ ds))
    where
      by : (o : Option (List Data)) → (◌>>=◌ (◌>>=◌ o (λ es. named N S (some i) (number_of x N.procs) es)) (λ a. some (enc after a)))
          ≡ (◌>>=◌ o (λ es. some (enc_node (first_cell (i + 1) (one_if after) atom_kind) es)))
      by none = refl
      by (some es) = refl

  pub process_cells : (x : Name) (ds : Option RawDatas) (k : ℕ) → number_of x N.acts ≡ none → number_of x N.procs ≡ some k
      → term_cells N S scope Γ after (part (Part.named x ds)) ≡ node_cells N S scope Γ (first_cell k 0 call_kind) ds
  unfolding term_cells node_cells resolve_term resolve_choice named enc
  process_cells x ds k e f = rw (e, f) (by (resolve_given N S scope Γ ds))
    where
      by : (o : Option (List Data)) → (◌>>=◌ (◌>>=◌ o (λ es. named N S none (some k) es)) (λ a. some (enc after a)))
          ≡ (◌>>=◌ o (λ es. some (enc_node (first_cell k 0 call_kind) es)))
      by none = refl
      by (some es) = refl

  pub unnamed_cells : (x : Name) (ds : Option RawDatas) → number_of x N.acts ≡ none → number_of x N.procs ≡ none → term_cells N S scope Γ after (part (Part.named x ds)) ≡ none
  unfolding term_cells resolve_term resolve_choice named
  unnamed_cells x ds e f = rw (e, f) (by (resolve_given N S scope Γ ds))
    where
      by : (o : Option (List Data)) → ◌≡◌ {A = Option (List ℕ)} (◌>>=◌ (◌>>=◌ o (λ es. named N S none none es)) (λ a. some (enc after a))) none
      by none = refl
      by (some es) = refl
