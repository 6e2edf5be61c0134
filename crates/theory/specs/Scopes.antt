-- A sheet's terms with the sorts in scope as a list: a sum's variable is the next one. What a sheet in good standing says of a
-- right side so holds of every term inside it.
use Rattle.std.specs.Prelude.{◌≡◌, refl, List, [], ◌∷◌, ◌++◌, ℕ, zero, suc, ◌<◌, length}
use Rattle.std.proofs.Math.Path.{subst, fun_ext}
use Rattle.std.proofs.Math.Dec.{eqb-zero-suc, eqb-suc-zero, eqb-suc-suc}
use Rattle.std.proofs.Math.ListN.{get_elem?}
use Rattle.pcrl.specs.Tests.{Every}
use Rattle.pcrl.specs.Sheet.{Proc, sum, Sheet, params, right}
use Rattle.pcrl.specs.Sorts.{Scope, binding, Sorted}
use Rattle.pcrl.specs.Right.{AreSorts}
use Rattle.laws.specs.Lists.{length_snoc}
use Rattle.laws.specs.Every.{every_append}
use Rattle.theory.specs.Standing.{Numbered, Standing}
use Rattle.theory.specs.StandingLaws.{process_sorts, process_numbered, process_sorted}

next_at : (Γ : List ℕ) (D i : ℕ) → binding (length Γ) D (get_elem? Γ) i ≡ get_elem? (Γ ++ (D ∷ [])) i
unfolding binding
next_at [] D zero = refl
next_at [] D (suc i) = rw (eqb-suc-zero i, binding)
next_at (E ∷ Γ) D zero = rw (eqb-zero-suc (length Γ), binding)
next_at (E ∷ Γ) D (suc i) = rw (eqb-suc-suc i (length Γ), binding) (next_at Γ D i)

-- the scope with the next variable bound
pub binding_next : (Γ : List ℕ) (D : ℕ) → binding (length Γ) D (get_elem? Γ) ≡ get_elem? (Γ ++ (D ∷ []))
binding_next Γ D = fun_ext (next_at Γ D)

module _ (H : Sheet) where
  -- a rightly sorted term, numbered, where the variables have the sorts Γ
  pub record SortedIn (Γ : List ℕ) (p : Proc) : Type 0 where
    pub sorts : AreSorts H.sig.sorts Γ
    pub numbered : Numbered (length Γ) p
    pub sorted : Sorted H (get_elem? Γ) p

  pub sorted_in_sum : (Γ : List ℕ) (x D : ℕ) (p : Proc) → SortedIn Γ (sum x D p) → SortedIn (Γ ++ (D ∷ [])) p
  unfolding Numbered Sorted Every
  sorted_in_sum Γ x D p h = record {
    sorts = every_append _ Γ (D ∷ []) h.sorts (h.sorted.0, tt);
    numbered = rw (length_snoc Γ D) h.numbered.1;
    sorted = subst (λ (Δ : Scope). Sorted H Δ p) (binding_next Γ D) (subst (λ (y : ℕ). Sorted H (binding y D (get_elem? Γ)) p) h.numbered.0 h.sorted.1);
  }

  -- every right side is so
  pub right_sorted_in : Standing H → (k : ℕ) → k < length H.procs → SortedIn (params H k) (right H k)
  right_sorted_in ok k w = record { sorts = process_sorts H ok k w; numbered = process_numbered H ok k w; sorted = process_sorted H ok k w }
