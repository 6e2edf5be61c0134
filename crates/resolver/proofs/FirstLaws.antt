-- A term of two parts is read up to its second: its node, a condition, and the first part.
use Rattle.std.specs.Prelude.{Some, None}
use mathlib.Core.Path.{◌≡◌, sym, ap, subst, ◌∙◌}
use mathlib.Core.Bool.{Bool}
use mathlib.Core.List.{List, ◌++◌}
use mathlib.Core.Option.{Option, none, some}
use Prim.Native.Nat.{ℕ, ◌+◌, ◌≤◌, ◌<◌, max}
use native.Mathlib.Omega.{arith}
use lib.Dec.{eqb}
use lib.ListN.{length, drop, get_or}
use Rattle.parser.specs.Cells.{Symbol, then_tag}
use Rattle.names.specs.NameCells.{scope_at}
use Rattle.names.specs.declared.Kinds.{Kinds}
use Rattle.names.specs.Standing.{symbols}
use Rattle.parser.specs.declared.Step.{Step}
use Rattle.resolver.specs.declared.Fork.{Fork}
use Rattle.resolver.specs.Raw.{enc_term}
use Rattle.resolver.specs.Sorting.{scope_sorts}
use Rattle.resolver.specs.Writing.{Writes}
use Rattle.resolver.specs.Resolving.{Took, Outcome, term_cells, ◌⊕◌, Forks, ResolvesFirst, ResolvesTerm}
use Rattle.resolver.proofs.Writing.{writes_then}
use Rattle.names.proofs.Kept.{yields_none, yields_some}
use Rattle.resolver.proofs.DataCells.{then_last, none_before, none_behind, three_assoc}
use Rattle.resolver.proofs.DataLaws.{became}

module _ (s raw names : List ℕ) (kinds : Kinds) (scope : List ℕ) (n at : ℕ) (after : Bool) (w : ℕ) (o : List ℕ) where
  -- a name of the head is not as it must be
  pub head_lost : (o₁ : List ℕ) → Forks s raw names kinds scope n at after w o None o₁ → ResolvesFirst s raw names kinds scope n at after w o None o₁
  head_lost o₁ forks N S t rest dec so e d k = forks N S t rest dec.funcs_are so e k

  module _ (f : Fork) (o₁ : List ℕ) (forks : Forks s raw names kinds scope n at after w o (Some f) o₁) where
    -- or one of the first part
    pub first_lost : (o₂ : List ℕ) → ResolvesTerm s raw names kinds scope n (at + 1) f.left f.w o₁ None o₂ → ResolvesFirst s raw names kinds scope n at after w o None o₂
    first_lost o₂ resolves N S t rest dec so e d k =
        let x = forks N S t rest dec.funcs_are so e k in
        let y = x.first_depth in
        let m = yields_none (Took raw (symbols s raw) x.between f.w o₁ o₂) (term_cells N S (scope_at s scope n) (scope_sorts scope n) f.left x.first) (resolves N S x.first x.between dec so x.first_at (omega arith)) in
        let second : Option (List ℕ) = term_cells N S (scope_at s scope n) (scope_sorts scope n) (eqb (get_or raw at 0) then_tag) x.second in
        x.cells ∙ ap (λ (X : Option (List ℕ)). x.head ⊕ (X ⊕ second)) m ∙ ap (λ (X : Option (List ℕ)). x.head ⊕ X) (none_before second) ∙ none_behind x.head

    module _ (a : Step) (o₂ : List ℕ) (resolves : ResolvesTerm s raw names kinds scope n (at + 1) f.left f.w o₁ (Some a) o₂) (ahead : at < a.at)
        (r : Step) (further : r.at ≡ max a.at f.at) (same : a.w ≡ r.w) where
      -- the head's cells and then the first part's
      joined : (between l : List Symbol) (H : Option (List ℕ)) (j : List ℕ) → Took raw (symbols s raw) between f.w o₁ o₂ j a
          → ((p next : ℕ) → at < p → p ≤ length raw → drop p (symbols s raw) ≡ between → next ≡ max p f.at → Outcome raw (symbols s raw) l w o (Some (record { at = next; w = f.w })) o₁ H)
          → Outcome raw (symbols s raw) l w o (Some r) o₂ (H ⊕ some j)
      joined between l H j t head = on H (head a.at r.at ahead t.0 t.1 further)
        where
          on : (H : Option (List ℕ)) → Outcome raw (symbols s raw) l w o (Some (record { at = r.at; w = f.w })) o₁ H → Outcome raw (symbols s raw) l w o (Some r) o₂ (H ⊕ some j)
          on none h = absurd h
          on (some i) h = became _ _ _ _ _ _ _ (sym (then_last i j)) (h.0, h.1, subst (λ (x : ℕ). Writes (i ++ j) w o x o₂) same (writes_then h.2 t.2))

      pub first_read : ResolvesFirst s raw names kinds scope n at after w o (Some r) o₂
      first_read N S t rest dec so e d k =
          let x = forks N S t rest dec.funcs_are so e k in
          let y = x.first_depth in
          let (j, m, g) = yields_some (Took raw (symbols s raw) x.between f.w o₁ o₂) (term_cells N S (scope_at s scope n) (scope_sorts scope n) f.left x.first) a (resolves N S x.first x.between dec so x.first_at (omega arith)) in
          let second : Option (List ℕ) = term_cells N S (scope_at s scope n) (scope_sorts scope n) (eqb (get_or raw at 0) then_tag) x.second in
          record {
            second = x.second;
            head = x.head ⊕ some j;
            second_depth = x.second_depth;
            cells = x.cells ∙ ap (λ (X : Option (List ℕ)). x.head ⊕ (X ⊕ second)) m ∙ three_assoc x.head (some j) second;
            outcome = joined x.between (enc_term x.second ++ rest) x.head j g x.outcome;
          }
