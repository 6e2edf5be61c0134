-- A new variable is unlike all declared names. The sum that binds it: its node, and the variable in scope.
use Rattle.std.specs.Prelude.{Some, None}
use mathlib.Core.Path.{◌≡◌, refl, sym, ap, ◌∙◌}
use mathlib.Core.Bool.{Bool, true, false}
use mathlib.Core.List.{List, [], ◌∷◌, ◌++◌, map}
use mathlib.Core.Option.{none, some}
use Prim.Native.Nat.{ℕ, ◌+◌, ◌*◌, ◌≤◌, ◌<◌}
use native.Mathlib.Omega.{arith}
use native.Mathlib.Numerals.{add-one}
use lib.ListN.{length, take, drop, get_or, set, length-drop}
use lib.Seq.{take-suc-set, take-set-le, drop-set-lt, drop-set-add}
use Rattle.pcrl.specs.Text.{bytes}
use Rattle.pcrl.specs.Tests.{and, negated, among}
use Rattle.pcrl.specs.Tokens.{name}
use Rattle.pcrl.specs.Tree.{Name}
use Rattle.pcrl.specs.Names.{Names, number_of, declared, new_variable}
use Rattle.parser.specs.Cells.{Symbol, tag, token, sum_tag}
use Rattle.parser.specs.Reading.{Put}
use Rattle.nodes.specs.Scoped.{max_scope}
use Rattle.nodes.specs.Layout.{first_cell, one_if, sum_kind, variable_tag}
use Rattle.names.specs.NameCells.{name_at, scope_at}
use Rattle.names.specs.NameKinds.{total_of, sorts_in}
use Rattle.names.specs.declared.Kinds.{Kinds}
use Rattle.names.specs.Standing.{symbols}
use Rattle.names.proofs.KindLaws.{kinds_joined}
use Rattle.names.proofs.Symbols.{name_of_cell}
use Rattle.resolver.specs.Writing.{Writes}
use Rattle.resolver.specs.Sorting.{first_sort, first_result, scope_cells, scope_sorts, scope_results, ScopeKept}
use Rattle.resolver.specs.Resolving.{Declared, binder_cells, sort_found, Binds}
use Rattle.resolver.proofs.Writing.{writes_then, writes_cell}
use Rattle.resolver.proofs.Symbols.{next, pair}
use Rattle.resolver.proofs.Lookup.{scope_many}
use Rattle.resolver.proofs.DataLaws.{became, became_none}

-- a variable that may come into scope
abbrev pub SaysNew : (s names : List ℕ) → Kinds → (scope : List ℕ) (n x : ℕ) → Bool → Type 0
SaysNew s names kinds scope n x r = (N : Names) → Declared s names kinds N → r ≡ new_variable N (scope_at s scope n) (name_at s x)

pub says_new : (s names : List ℕ) (kinds : Kinds) (scope : List ℕ) (n x : ℕ) (r : Bool)
    → r ≡ and (negated (among (name_at s x) (bytes "Bool" ∷ scope_at s names (total_of kinds)))) (negated (among (name_at s x) (scope_at s scope n))) → SaysNew s names kinds scope n x r
unfolding new_variable declared
says_new s names kinds scope n x r e N D =
    let all : N.sorts ++ (N.funcs ++ (N.acts ++ N.procs)) ≡ bytes "Bool" ∷ scope_at s names (total_of kinds) = rw (D.sorts_are, D.funcs_are, D.acts_are, D.procs_are) (kinds_joined s names kinds) in
    e ∙ ap (λ (l : List Name). and (negated (among (name_at s x) l)) (negated (among (name_at s x) (scope_at s scope n)))) (sym all)

-- ---- the sum that binds the variable
map_last : (f : ℕ → Name) (l : List ℕ) (a : ℕ) → map f (l ++ (a ∷ [])) ≡ map f l ++ (f a ∷ [])
map_last f [] a = refl
map_last f (x ∷ l) a = ap (λ k. f x ∷ k) (map_last f l a)

-- its name's cell stands behind those in scope, its sort behind theirs
module _ (scope : List ℕ) (n c E : ℕ) (h : n < max_scope) (many : length scope ≡ scope_cells) where
  pub pushed : (s : List ℕ) → scope_at s (set (set scope n c) (first_sort + n) E) (n + 1) ≡ scope_at s scope n ++ (name_at s c ∷ [])
  unfolding scope_at
  pushed s =
      ap (map (name_at s)) (take-set-le (n + 1) (set scope n c) (first_sort + n) E (omega arith) ∙ ap (λ k. take k (set scope n c)) (add-one n) ∙ take-suc-set scope n c (omega arith))
      ∙ map_last (name_at s) (take n scope) c

  pub sorts_pushed : scope_sorts (set (set scope n c) (first_sort + n) E) (n + 1) ≡ scope_sorts scope n ++ (E ∷ [])
  unfolding scope_sorts
  sorts_pushed =
      ap (take (n + 1)) (drop-set-add first_sort (set scope n c) n E ∙ ap (λ l. set l n E) (drop-set-lt first_sort scope n c (omega arith)))
      ∙ ap (λ k. take k (set (drop first_sort scope) n E)) (add-one n) ∙ take-suc-set (drop first_sort scope) n E (omega (arith, length-drop first_sort scope))

  pub push_kept : ScopeKept n scope (set (set scope n c) (first_sort + n) E)
  unfolding scope_sorts scope_results
  push_kept = record {
    names_kept = take-set-le n (set scope n c) (first_sort + n) E (omega arith) ∙ take-set-le n scope n c (omega arith);
    sorts_kept = ap (take n) (drop-set-add first_sort (set scope n c) n E ∙ ap (λ l. set l n E) (drop-set-lt first_sort scope n c (omega arith))) ∙ take-set-le n (drop first_sort scope) n E (omega arith);
    results_kept = drop-set-lt first_result (set scope n c) (first_sort + n) E (omega arith) ∙ drop-set-lt first_result scope n c (omega arith);
  }

-- both as they were read
pub both_pushed : (s raw names : List ℕ) (kinds : Kinds) (scope : List ℕ) (n at x c d i : ℕ) → x ≡ get_or raw (at + 1) 0 → c ≡ get_or raw (at + 2) 0 → i ≡ sort_found s names kinds c → d ≡ i
    → set (set scope n x) (first_sort + n) d ≡ set (set scope n (get_or raw (at + 1) 0)) (first_sort + n) (sort_found s names kinds (get_or raw (at + 2) 0))
both_pushed s raw names kinds scope n at x c d i ex ec ei ed =
    ap (λ (y : ℕ). set (set scope n y) (first_sort + n) d) ex ∙ ap (set (set scope n (get_or raw (at + 1) 0)) (first_sort + n)) (ed ∙ ei ∙ ap (sort_found s names kinds) ec)

pub nothing_changed : (n : ℕ) (scope : List ℕ) → ScopeKept n scope scope
nothing_changed n scope = record { names_kept = refl; sorts_kept = refl; results_kept = refl }

-- the two names behind a sum's tag
pub record TwoNames (s raw : List ℕ) (at : ℕ) (x D : Name) (rest : List Symbol) : Type 0 where
  pub inside : at + 3 ≤ length raw
  pub variable : name_at s (get_or raw (at + 1) 0) ≡ x
  pub sort : name_at s (get_or raw (at + 2) 0) ≡ D
  pub behind : drop (at + 3) (symbols s raw) ≡ rest

pub two_names : (s raw : List ℕ) (at : ℕ) (x D : Name) (rest : List Symbol) → drop at (symbols s raw) ≡ tag sum_tag ∷ token (name x) ∷ token (name D) ∷ rest → TwoNames s raw at x D rest
two_names s raw at x D rest e =
    let p = pair s raw at sum_tag (name x) (token (name D) ∷ rest) e in
    let n = next s raw (at + 2) (token (name D)) rest p.behind in
    let i = n.inside in
    let q : at + 3 ≡ at + 2 + 1 = omega arith in
    record {
      inside = omega arith;
      variable = name_of_cell s (get_or raw (at + 1) 0) x p.token_cell;
      sort = name_of_cell s (get_or raw (at + 2) 0) D n.is;
      behind = ap (λ i. drop i (symbols s raw)) q ∙ n.behind;
    }

module _ (s raw names : List ℕ) (kinds : Kinds) (scope : List ℕ) (n at : ℕ) (after : Bool) (w : ℕ) (o : List ℕ) (few : n ≤ length scope) where
  pub binder_full : (o' : List ℕ) → max_scope ≤ n → Binds s raw names kinds scope n at after w o None o'
  binder_full o' h N S x D rest dec e l = absurd (omega arith)

  module _ (c : ℕ) (ec : c ≡ get_or raw (at + 1) 0) (new : Bool) (says : SaysNew s names kinds scope n c new) where
    pub binder_old : new ≡ false → (o' : List ℕ) → Binds s raw names kinds scope n at after w o None o'
    unfolding binder_cells
    binder_old b o' N S x D rest dec e l =
        let t = two_names s raw at x D rest e in
        let q : new_variable N (scope_at s scope n) x ≡ false = ap (new_variable N (scope_at s scope n)) (sym (ap (name_at s) ec ∙ t.variable)) ∙ sym (says N dec) ∙ b in
        became_none _ _ _ _ _ _ (rw q refl)

    module _ (b : new ≡ true) (c₂ : ℕ) (ec₂ : c₂ ≡ get_or raw (at + 2) 0) where
      pub binder_no_sort : number_of (name_at s c₂) (sorts_in s names kinds) ≡ none → (o' : List ℕ) → Binds s raw names kinds scope n at after w o None o'
      unfolding binder_cells
      binder_no_sort h o' N S x D rest dec e l =
          let t = two_names s raw at x D rest e in
          let q : new_variable N (scope_at s scope n) x ≡ true = ap (new_variable N (scope_at s scope n)) (sym (ap (name_at s) ec ∙ t.variable)) ∙ sym (says N dec) ∙ b in
          let f : number_of D N.sorts ≡ none = ap (number_of D) dec.sorts_are ∙ ap (λ (y : Name). number_of y (sorts_in s names kinds)) (sym (ap (name_at s) ec₂ ∙ t.sort)) ∙ h in
          became_none _ _ _ _ _ _ (rw (q, f) refl)

      pub binder_took : (i : ℕ) → number_of (name_at s c₂) (sorts_in s names kinds) ≡ some i → (first v v₁ w' : ℕ) (o₁ o' : List ℕ) → first ≡ first_cell i (one_if after) sum_kind → v ≡ 4 * n + 1 → Writes (first ∷ 1 ∷ 1 ∷ []) w o v₁ o₁ → Put o₁ v₁ v w' o'
          → Binds s raw names kinds scope n at after w o (Some (record { at = at + 3; w = w' })) o'
      unfolding binder_cells
      binder_took i h first v v₁ w' o₁ o' ef ev ws put N S x D rest dec e l =
          let t = two_names s raw at x D rest e in
          let q : new_variable N (scope_at s scope n) x ≡ true = ap (new_variable N (scope_at s scope n)) (sym (ap (name_at s) ec ∙ t.variable)) ∙ sym (says N dec) ∙ b in
          let f : number_of D N.sorts ≡ some i = ap (number_of D) dec.sorts_are ∙ ap (λ (y : Name). number_of y (sorts_in s names kinds)) (sym (ap (name_at s) ec₂ ∙ t.sort)) ∙ h in
          let g : v ≡ 4 * length (scope_at s scope n) + variable_tag = let y = scope_many s scope n few in omega arith in
          became _ _ _ _ _ _ _ (ap (λ (y : ℕ). some (y ∷ 1 ∷ 1 ∷ v ∷ [])) ef ∙ ap (λ (y : ℕ). some (first_cell i (one_if after) sum_kind ∷ 1 ∷ 1 ∷ y ∷ [])) g ∙ sym (rw (q, f) refl))
          (t.inside, t.behind, writes_then ws (writes_cell put))
