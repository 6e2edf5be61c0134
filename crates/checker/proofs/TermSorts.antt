-- The walk over a process term: each node is checked where its variables are in scope. One array serves for all terms that are left:
-- a sum binds the next number, and those terms' variables have lower ones.
use mathlib.Core.Path.{◌≡◌, refl, sym, ap, ◌∙◌, subst}
use mathlib.Core.List.{List, [], ◌∷◌, ◌++◌, map}
use mathlib.Core.Bool.{Bool, true, false}
use mathlib.Core.Option.{some}
use mathlib.Core.Logic.{◌≢◌}
use Prim.Native.Nat.{ℕ, suc, ◌+◌, ◌-◌, ◌<◌, ◌≤◌}
use native.Mathlib.Decide.{ℕ_discrete}
use native.Mathlib.Omega.{arith}
use borrow.Author.Tests.{eq-eqb, ne_eqb}
use lib.ListN.{length, drop, get_or, set, length-append, length-map}
use lib.Seq.{get_or-set_same, get_or-set_other}
use Rattle.pcrl.specs.Tests.{Every}
use Rattle.pcrl.specs.Sheet.{Proc, delta, atom, alt, cond, sum, seq, call, Sheet}
use Rattle.pcrl.specs.Sorts.{Scope, binding, Sorted}
use Rattle.laws.specs.Says.{said_yes, said_no}
use Rattle.nodes.specs.declared.Outline.{Outline}
use Rattle.nodes.specs.declared.Node.{Node}
use Rattle.nodes.specs.Layout.{Item, enc, encs}
use Rattle.nodes.specs.Nodes.{node_kids}
use Rattle.nodes.specs.Scoped.{max_scope, Scoped}
use Rattle.nodes.specs.Views.{Views}
use Rattle.nodes.proofs.Nodes.{one_item, items_end}
use Rattle.checker.specs.Known.{KnownSheet, InScope}
use Rattle.checker.specs.Sorts.{NodeSorted, NodeSays, Bound, Binds, TermSays}

-- a term that is left, with the variables in its scope and how many they are
pub record Pending : Type 0 where
  pub after : Bool
  pub term : Proc
  pub vars : Scope
  pub level : ℕ

abbrev pub item : Pending → Item
item x = (x.after, x.term)

unfoldable pub kids_of : Bool → Proc → Scope → ℕ → List Pending
kids_of b delta Γ m = []
kids_of b (atom a ds) Γ m = []
kids_of b (alt p q) Γ m = record { after = false; term = p; vars = Γ; level = m } ∷ record { after = false; term = q; vars = Γ; level = m } ∷ []
kids_of b (cond c p q) Γ m = record { after = false; term = p; vars = Γ; level = m } ∷ record { after = false; term = q; vars = Γ; level = m } ∷ []
kids_of b (sum x D p) Γ m = record { after = false; term = p; vars = binding x D Γ; level = suc m } ∷ []
kids_of b (seq p q) Γ m = record { after = b; term = p; vars = Γ; level = m } ∷ record { after = true; term = q; vars = Γ; level = m } ∷ []
kids_of b (call k ds) Γ m = []

kids_items : (b : Bool) (p : Proc) (Γ : Scope) (m : ℕ) (xs : List Pending) → map item (kids_of b p Γ m ++ xs) ≡ node_kids b p ++ map item xs
unfolding kids_of node_kids
kids_items b delta Γ m xs = refl
kids_items b (atom a ds) Γ m xs = refl
kids_items b (alt p q) Γ m xs = refl
kids_items b (cond c p q) Γ m xs = refl
kids_items b (sum x D p) Γ m xs = refl
kids_items b (seq p q) Γ m xs = refl
kids_items b (call k ds) Γ m xs = refl

-- ---- rightly sorted, term by term
unfoldable pub AllSorted : Sheet → List Pending → Type 0
AllSorted H xs = Every (λ (x : Pending). Sorted H x.vars x.term) xs

module _ (H : Sheet) where
  open_sorted : (b : Bool) (p : Proc) (Γ : Scope) (m : ℕ) (xs : List Pending) → Sorted H Γ p → AllSorted H xs → NodeSorted H Γ p × AllSorted H (kids_of b p Γ m ++ xs)
  unfolding AllSorted Every Sorted NodeSorted kids_of
  open_sorted b delta Γ m xs s h = (tt, h)
  open_sorted b (atom a ds) Γ m xs s h = (s, h)
  open_sorted b (alt p q) Γ m xs s h = (tt, (s.0, (s.1, h)))
  open_sorted b (cond c p q) Γ m xs s h = (s.0, (s.1.0, (s.1.1, h)))
  open_sorted b (sum x D p) Γ m xs s h = (s.0, (s.1, h))
  open_sorted b (seq p q) Γ m xs s h = (tt, (s.0, (s.1, h)))
  open_sorted b (call k ds) Γ m xs s h = (s, h)

  sorted_open : (b : Bool) (p : Proc) (Γ : Scope) (m : ℕ) (xs : List Pending) → NodeSorted H Γ p → AllSorted H (kids_of b p Γ m ++ xs) → Sorted H Γ p × AllSorted H xs
  unfolding AllSorted Every Sorted NodeSorted kids_of
  sorted_open b delta Γ m xs s h = (tt, h)
  sorted_open b (atom a ds) Γ m xs s h = (s, h)
  sorted_open b (alt p q) Γ m xs s h = ((h.0, h.1.0), h.1.1)
  sorted_open b (cond c p q) Γ m xs s h = ((s, (h.0, h.1.0)), h.1.1)
  sorted_open b (sum x D p) Γ m xs s h = ((s, h.0), h.1)
  sorted_open b (seq p q) Γ m xs s h = ((h.0, h.1.0), h.1.1)
  sorted_open b (call k ds) Γ m xs s h = (s, h)

-- ---- the array holds the scope of every term that is left, and levels never rise
unfoldable pub Ready : ℕ → List ℕ → List Pending → Type 0
Ready k scope [] = Unit {0}
Ready k scope (x ∷ xs) = (Scoped k x.level x.term × InScope x.vars x.level scope) × (Every (λ (y : Pending). y.level ≤ x.level) xs × Ready k scope xs)

-- entries from m on do not matter to terms of level m
ready_kept : (k m : ℕ) (s t : List ℕ) (xs : List Pending) → ((i : ℕ) → i < m → get_or s i 0 ≡ get_or t i 0) → Every (λ (y : Pending). y.level ≤ m) xs → Ready k s xs → Ready k t xs
unfolding Ready Every
ready_kept k m s t [] h a r = tt
ready_kept k m s t (x ∷ xs) h a r =
    ((r.0.0, λ i l. r.0.1 i l ∙ ap some (h i (let z = a.0 in omega arith))), (r.1.0, ready_kept k m s t xs h a.1 r.1.1))

levels_raise : (m : ℕ) (xs : List Pending) → Every (λ (y : Pending). y.level ≤ m) xs → Every (λ (y : Pending). y.level ≤ suc m) xs
unfolding Every
levels_raise m [] a = tt
levels_raise m (x ∷ xs) a = (let z = a.0 in omega arith, levels_raise m xs a.1)

-- a sum's variable in scope
bound_scope : (x D : ℕ) (Γ : Scope) (s : List ℕ) → x < length s → InScope Γ x s → InScope (binding x D Γ) (suc x) (set s x D)
unfolding binding
bound_scope x D Γ s l h i k = go (ℕ_discrete i x)
  where
    go : Dec (i ≡ x) → binding x D Γ i ≡ some (get_or (set s x D) i 0)
    go (yes e) =
        rw (eq-eqb i x e, binding) (ap some (sym (get_or-set_same s x D 0 l)) ∙ ap (λ (j : ℕ). some (get_or (set s x D) j 0)) (sym e))
    go (no ne) =
        let z : i ≢ x = ne in
        rw (ne_eqb i x ne, binding) (h i (omega arith) ∙ ap some (sym (get_or-set_other s x i D 0 ne)))

module _ (k : ℕ) (s t : List ℕ) where
  ready_kids : (b : Bool) (p : Proc) (Γ : Scope) (m : ℕ) (xs : List Pending) → length s ≡ max_scope → Bound p s t
      → Ready k s (record { after = b; term = p; vars = Γ; level = m } ∷ xs) → Ready k t (kids_of b p Γ m ++ xs)
  unfolding Ready Bound kids_of Scoped Every
  ready_kids b delta Γ m xs l e r = subst (λ (u : List ℕ). Ready k u xs) (sym e) r.1.1
  ready_kids b (atom a ds) Γ m xs l e r = subst (λ (u : List ℕ). Ready k u xs) (sym e) r.1.1
  ready_kids b (alt p q) Γ m xs l e r =
      subst (λ (u : List ℕ). Ready k u (kids_of b (alt p q) Γ m ++ xs)) (sym e) ((r.0.0.0, r.0.1), ((omega arith, r.1.0), ((r.0.0.1, r.0.1), r.1)))
  ready_kids b (cond c p q) Γ m xs l e r =
      subst (λ (u : List ℕ). Ready k u (kids_of b (cond c p q) Γ m ++ xs)) (sym e) ((r.0.0.1.0, r.0.1), ((omega arith, r.1.0), ((r.0.0.1.1, r.0.1), r.1)))
  ready_kids b (sum x D p) Γ m xs l e r =
      let is : x ≡ m = r.0.0.0 in
      let low : m < max_scope = r.0.0.1.0 in
      let set_at : t ≡ set s x D = e (omega arith) in
      let here : InScope (binding x D Γ) (suc x) (set s x D) = bound_scope x D Γ s (omega arith) (subst (λ (j : ℕ). InScope Γ j s) (sym is) r.0.1) in
      subst (λ (u : List ℕ). Ready k u (kids_of b (sum x D p) Γ m ++ xs)) (sym set_at) (
        (r.0.0.1.1, subst (λ (j : ℕ). InScope (binding x D Γ) (suc j) (set s x D)) is here),
        (levels_raise m xs r.1.0, ready_kept k m s (set s x D) xs (λ i h. let y : i ≢ x = (λ z. omega arith) in sym (get_or-set_other s x i D 0 y)) r.1.0 r.1.1),
      )
  ready_kids b (seq p q) Γ m xs l e r =
      subst (λ (u : List ℕ). Ready k u (kids_of b (seq p q) Γ m ++ xs)) (sym e) ((r.0.0.0, r.0.1), ((omega arith, r.1.0), ((r.0.0.1, r.0.1), r.1)))
  ready_kids b (call j ds) Γ m xs l e r = subst (λ (u : List ℕ). Ready k u xs) (sym e) r.1.1

-- ---- the loop
module _ (cells start sizes funcs acts procs : List ℕ) (n : Outline) (at : ℕ) where
  -- the terms xs that are left stand at p; all that were passed are rightly sorted
  abbrev pub TermLeft : ℕ → ℕ → List ℕ → Type 0
  TermLeft p need scope =
      (H : Sheet) → KnownSheet H sizes funcs acts procs n → (Γ : Scope) (m : ℕ) → InScope Γ m start → (b : Bool) (q : Proc) (rest : List ℕ)
      → Scoped n.procs m q → drop at cells ≡ enc b q ++ rest
      → (xs : List Pending) × (length xs ≡ need) × (drop p cells ≡ encs (map item xs) ++ rest) × Ready n.procs scope xs
      × (AllSorted H xs → Sorted H Γ q) × (Sorted H Γ q → AllSorted H xs)

  pub term_start : TermLeft at 1 start
  unfolding Ready AllSorted Every
  term_start H k Γ m i b q rest sc e =
      (record { after = b; term = q; vars = Γ; level = m } ∷ [], refl, e ∙ one_item b q rest, ((sc, i), (tt, tt)), λ h. h.0, λ h. (h, tt))

  module _ (p need : ℕ) (scope : List ℕ) (left : TermLeft p need scope) where
    pub term_stuck : length cells ≤ p → 0 < need → (r : Bool) → TermSays cells at start sizes funcs acts procs n r
    term_stuck h k r H kn Γ m i b q rest sc e =
        let v = left H kn Γ m i b q rest sc e in
        let l : length (map item v.0) ≡ length v.0 = length-map v.0 item in
        absurd (items_end cells p h (map item v.0) rest (omega (arith, v.1)) v.2)

    pub term_done : need ≡ 0 → TermSays cells at start sizes funcs acts procs n true
    unfolding AllSorted Every
    term_done z H kn Γ m i b q rest sc e = let v = left H kn Γ m i b q rest sc e in go v.0 v.1 v.4
      where
        go : (xs : List Pending) → length xs ≡ need → (AllSorted H xs → Sorted H Γ q) → Sorted H Γ q
        go [] a f = f tt
        go (x ∷ xs) a f = absurd (omega arith)

    module _ (some_left : 0 < need) (d : Node) (vw : Views cells p d) (r : Bool) (says : NodeSays cells scope sizes funcs acts procs n d r) where
      pub term_failed : r ≡ false → TermSays cells at start sizes funcs acts procs n false
      unfolding AllSorted Every Ready
      term_failed z H kn Γ m i b q rest sc e = λ s. let v = left H kn Γ m i b q rest sc e in go v.0 v.1 v.2 v.3 (v.5 s)
        where
          go : (xs : List Pending) → length xs ≡ need → drop p cells ≡ encs (map item xs) ++ rest → Ready n.procs scope xs → AllSorted H xs → ⊥
          go [] a f g h = omega arith
          go (x ∷ xs) a f g h =
              said_no r
              (says H kn x.vars x.level g.0.1 x.after x.term (map item xs) rest g.0.0 (vw x.after x.term (map item xs) rest f)) z
              (open_sorted H x.after x.term x.vars x.level xs h.0 h.1).0

      pub term_step : r ≡ true → length scope ≡ max_scope → (scope' : List ℕ) → Binds cells d scope scope' → TermLeft d.next (need - 1 + d.kids) scope'
      unfolding AllSorted Every Ready
      term_step z l scope' bn H kn Γ m i b q rest sc e = let v = left H kn Γ m i b q rest sc e in go v.0 v.1 v.2 v.3 v.4 v.5
        where
          go : (xs : List Pending) → length xs ≡ need → drop p cells ≡ encs (map item xs) ++ rest → Ready n.procs scope xs → (AllSorted H xs → Sorted H Γ q) → (Sorted H Γ q → AllSorted H xs)
              → (xs : List Pending) × (length xs ≡ need - 1 + d.kids) × (drop d.next cells ≡ encs (map item xs) ++ rest) × Ready n.procs scope' xs
              × (AllSorted H xs → Sorted H Γ q) × (Sorted H Γ q → AllSorted H xs)
          go [] a f g s t = absurd (omega arith)
          go (x ∷ xs) a f g s t =
              let o = vw x.after x.term (map item xs) rest f in
              let ks = kids_of x.after x.term x.vars x.level in
              let it : map item (ks ++ xs) ≡ node_kids x.after x.term ++ map item xs = kids_items x.after x.term x.vars x.level xs in
              let many : length (map item (ks ++ xs)) ≡ length (ks ++ xs) = length-map (ks ++ xs) item in
              let all : length (map item xs) ≡ length xs = length-map xs item in
              let more : length (node_kids x.after x.term ++ map item xs) ≡ length (node_kids x.after x.term) + length (map item xs) = length-append (node_kids x.after x.term) (map item xs) in
              let h = said_yes r (says H kn x.vars x.level g.0.1 x.after x.term (map item xs) rest g.0.0 o) z in (
                ks ++ xs,
                omega (arith, ap length it, o.kids_is),
                o.next_is ∙ ap (λ (ys : List Item). encs ys ++ rest) (sym it),
                ready_kids n.procs scope scope' x.after x.term x.vars x.level xs l (bn x.after x.term (map item xs) rest o) g,
                λ k. s (sorted_open H x.after x.term x.vars x.level xs h k),
                λ k. let y = t k in (open_sorted H x.after x.term x.vars x.level xs y.0 y.1).1,
              )
