-- The walk down a process term: some cells were written, and one term is left. One law for each way that the loop goes on or ends.
use Rattle.std.specs.Prelude.{Option as Given, Some, None}
use mathlib.Core.Path.{◌≡◌, refl, sym, ap, subst, ◌∙◌}
use mathlib.Core.Bool.{Bool, false}
use mathlib.Core.List.{List, [], ◌∷◌, ◌++◌, map}
use mathlib.Core.Option.{Option, none, some}
use Prim.Native.Nat.{ℕ, suc, ◌+◌, ◌≤◌, ◌<◌}
use native.Mathlib.Omega.{arith}
use lib.Dec.{eqb}
use lib.ListN.{length, take, drop, get_or, set}
use lib.Seq.{take-take}
use Rattle.pcrl.specs.Limits.{max_sorts}
use Rattle.pcrl.specs.Tests.{Every}
use Rattle.pcrl.specs.Tree.{Name, Choice, Part}
use Rattle.pcrl.specs.Sheet.{Sig}
use Rattle.pcrl.specs.Names.{Names, number_of}
use Rattle.laws.specs.Every.{every_append}
use Rattle.laws.specs.Numbers.{number_below}
use Rattle.parser.specs.Cells.{Symbol, tag, then_tag, sum_tag, enc_choice}
use Rattle.nodes.specs.Scoped.{max_scope}
use Rattle.nodes.specs.Layout.{byte_limit}
use Rattle.names.specs.NameCells.{or_count, name_at, scope_at}
use Rattle.names.specs.NameKinds.{sorts_in}
use Rattle.names.specs.declared.Kinds.{Kinds}
use Rattle.names.specs.Standing.{symbols}
use Rattle.parser.specs.declared.Step.{Step}
use Rattle.resolver.specs.Raw.{Term, choice, part, enc_term, sum_depth, term_depth, tokens_of, kids_of}
use Rattle.resolver.specs.Writing.{Writes}
use Rattle.resolver.specs.Sorting.{first_sort, scope_cells, scope_sorts, scope_results, Gives, KnownSorts, ScopeKept}
use Rattle.resolver.specs.Resolving.{Took, Outcome, Declared, term_cells, binder_cells, ◌⊕◌, sort_found, InScope, Binds, ResolvesConstant, ResolvesNamed, ResolvesFirst, ResolvesTerm}
use Rattle.resolver.proofs.Writing.{writes_nothing, writes_then}
use Rattle.resolver.proofs.Symbols.{next}
use Rattle.resolver.proofs.Lookup.{sorts_most}
use Rattle.resolver.proofs.DataCells.{then_nothing, then_assoc, then_none, none_last}
use Rattle.names.proofs.Kept.{yields_none}
use Rattle.resolver.proofs.DataLaws.{became, became_none}
use Rattle.resolver.proofs.Operands.{written_before}
use Rattle.resolver.proofs.ProcessCells.{sum_cells, sum_unsorted, binder_unsorted}
use Rattle.resolver.proofs.NewLaws.{pushed, sorts_pushed, push_kept, two_names}
use Rattle.resolver.proofs.ForkLaws.{single_tokens}
use Rattle.resolver.proofs.Terms.{View, single, plus, cond, then, delta, tau, bare, given, sum, seen}

pub data Going (s raw : List ℕ) (kinds : Kinds) (N : Names) (S : Sig) (whole : Option (List ℕ)) (rest : List Symbol) (w : ℕ) (o : List ℕ) (p m : ℕ) (r : Bool) (v : ℕ) (scope' o' : List ℕ) : Type 0 where
  going : (u : Term) (e : List ℕ) → KnownSorts kinds scope' m S → drop p (symbols s raw) ≡ enc_term u ++ rest → m + term_depth u ≤ max_scope → whole ≡ some e ⊕ term_cells N S (scope_at s scope' m) (scope_sorts scope' m) r u → Writes e w o v o'
      → Going s raw kinds N S whole rest w o p m r v scope' o'

same_scope : (s scope scope' : List ℕ) (m : ℕ) → take m scope' ≡ take m scope → scope_at s scope' m ≡ scope_at s scope m
unfolding scope_at
same_scope s scope scope' m e = ap (map (name_at s)) e

still_sorted : (kinds : Kinds) (scope scope' : List ℕ) (m : ℕ) (S : Sig) → ScopeKept m scope scope' → KnownSorts kinds scope m S → KnownSorts kinds scope' m S
still_sorted kinds scope scope' m S k h = record {
  results = subst (λ (l : List ℕ). Gives kinds l S) (sym k.results_kept) h.results;
  sorts_small = subst (Every (λ D. D < byte_limit)) (sym k.sorts_kept) h.sorts_small;
}

more_sorted : (kinds : Kinds) (scope scope' : List ℕ) (m E : ℕ) (S : Sig) → KnownSorts kinds scope m S → E < byte_limit → scope_sorts scope' (m + 1) ≡ scope_sorts scope m ++ (E ∷ []) → scope_results scope' ≡ scope_results scope
    → KnownSorts kinds scope' (m + 1) S
unfolding Every
more_sorted kinds scope scope' m E S h small sorts results = record {
  results = subst (λ (l : List ℕ). Gives kinds l S) (sym results) h.results;
  sorts_small = subst (Every (λ D. D < byte_limit)) (sym sorts) (every_append (λ D. D < byte_limit) (scope_sorts scope m) (E ∷ []) h.sorts_small (small, tt));
}

module _ (s raw names : List ℕ) (kinds : Kinds) (scope : List ℕ) (n at : ℕ) (after : Bool) (w : ℕ) (o : List ℕ) where
  abbrev pub TermLeft : (p m : ℕ) → Bool → ℕ → List ℕ → List ℕ → Type 0
  TermLeft p m r v scope' o' = (N : Names) (S : Sig) (t : Term) (rest : List Symbol) → Declared s names kinds N → KnownSorts kinds scope n S
      → drop at (symbols s raw) ≡ enc_term t ++ rest → n + term_depth t ≤ max_scope
      → Going s raw kinds N S (term_cells N S (scope_at s scope n) (scope_sorts scope n) after t) rest w o p m r v scope' o'

  abbrev Resolves : Given Step → List ℕ → Type 0
  Resolves r o' = ResolvesTerm s raw names kinds scope n at after w o r o'

  pub term_start : TermLeft at n after w scope o
  term_start N S t rest dec so e d = going t [] so e d (sym (then_nothing (term_cells N S (scope_at s scope n) (scope_sorts scope n) after t))) writes_nothing

  module _ (p m : ℕ) (r : Bool) (v : ℕ) (scope₁ o₁ : List ℕ) (left : TermLeft p m r v scope₁ o₁) where
    -- no cell is left
    pub term_end : length raw ≤ p → Resolves None o₁
    term_end h N S t rest dec so e d = by (left N S t rest dec so e d)
      where
        by : Going s raw kinds N S (term_cells N S (scope_at s scope n) (scope_sorts scope n) after t) rest w o p m r v scope₁ o₁ → Outcome raw (symbols s raw) rest w o None o₁ (term_cells N S (scope_at s scope n) (scope_sorts scope n) after t)
        by (going u g so₁ dr de q ws) = let i = (seen s raw p u rest dr).inside in absurd (omega arith)

    -- the last of the term was read
    finished : p < length raw → (a : Given Step) (o₂ : List ℕ)
        → ((N : Names) (S : Sig) (u : Term) (rest : List Symbol) → Declared s names kinds N → KnownSorts kinds scope₁ m S → drop p (symbols s raw) ≡ enc_term u ++ rest → Outcome raw (symbols s raw) rest v o₁ a o₂ (term_cells N S (scope_at s scope₁ m) (scope_sorts scope₁ m) r u))
        → Resolves a o₂
    finished h a o₂ f N S t rest dec so e d = by (left N S t rest dec so e d)
      where
        whole : Option (List ℕ)
        whole = term_cells N S (scope_at s scope n) (scope_sorts scope n) after t

        last : (g : List ℕ) (X : Option (List ℕ)) → whole ≡ some g ⊕ X → Writes g w o v o₁ → Outcome raw (symbols s raw) rest v o₁ a o₂ X → Outcome raw (symbols s raw) rest w o a o₂ whole
        last g X q ws h = became _ _ _ _ _ _ _ (sym q) (written_before raw (symbols s raw) rest a o₂ g X ws h)

        by : Going s raw kinds N S whole rest w o p m r v scope₁ o₁ → Outcome raw (symbols s raw) rest w o a o₂ whole
        by (going u g so₁ dr de q ws) = last g (term_cells N S (scope_at s scope₁ m) (scope_sorts scope₁ m) r u) q ws (f N S u rest dec so₁ dr)

    pub term_named : p < length raw → 0 < tokens_of (get_or raw p 0) → (get_or raw p 0 ≡ 16 → ⊥) → (a : Given Step) (o₂ : List ℕ) → ResolvesNamed s raw names kinds scope₁ m p r v o₁ a o₂ → Resolves a o₂
    term_named h k₁ k₂ a o₂ f = finished h a o₂ (λ N S u rest dec so dr. f N S u rest so dec.funcs_are dec.acts_are dec.procs_are dr k₁ k₂)

    pub term_constant : p < length raw → tokens_of (get_or raw p 0) ≡ 0 → kids_of (get_or raw p 0) ≡ 0 → (a : Given Step) (o₂ : List ℕ) → ResolvesConstant raw p r v o₁ a o₂ → Resolves a o₂
    term_constant h k₁ k₂ a o₂ f = finished h a o₂ (λ N S u rest dec so dr. f s N S (scope_at s scope₁ m) (scope_sorts scope₁ m) u rest dr k₁ k₂)

    -- one subterm
    pub term_single : tokens_of (get_or raw p 0) ≡ 0 → kids_of (get_or raw p 0) ≡ 1 → p < length raw → TermLeft (p + 1) m r v scope₁ o₁
    unfolding tokens_of kids_of
    term_single k₁ k₂ h N S t rest dec so e d = by (left N S t rest dec so e d)
      where
        whole : Option (List ℕ)
        whole = term_cells N S (scope_at s scope n) (scope_sorts scope n) after t

        on : (u : Term) (k : ℕ) → View u k → get_or raw p 0 ≡ k → (g : List ℕ) → KnownSorts kinds scope₁ m S → drop p (symbols s raw) ≡ enc_term u ++ rest → m + term_depth u ≤ max_scope
            → whole ≡ some g ⊕ term_cells N S (scope_at s scope₁ m) (scope_sorts scope₁ m) r u → Writes g w o v o₁ → Going s raw kinds N S whole rest w o (p + 1) m r v scope₁ o₁
        on u k (single u' u₁ k' y) q g so₁ dr de x ws =
            let z = y.depth in
            going u₁ g so₁ (next s raw p (tag k) (enc_term u₁ ++ rest) (dr ∙ ap (λ l. l ++ rest) y.opened)).behind (omega arith) (x ∙ ap (λ c. some g ⊕ c) (y.cells N S (scope_at s scope₁ m) (scope_sorts scope₁ m) r)) ws
        on u k (plus c₁ c₂) q g so₁ dr de x ws = let z = ap kids_of q in absurd (omega arith)
        on u k (cond p₁ c p₂) q g so₁ dr de x ws = let z = ap kids_of q in absurd (omega arith)
        on u k (then p₁ p₂) q g so₁ dr de x ws = let z = ap kids_of q in absurd (omega arith)
        on u k delta q g so₁ dr de x ws = let z = ap kids_of q in absurd (omega arith)
        on u k tau q g so₁ dr de x ws = let z = ap kids_of q in absurd (omega arith)
        on u k (bare x₁) q g so₁ dr de x ws = let z = ap kids_of q in absurd (omega arith)
        on u k (given x₁ ds) q g so₁ dr de x ws = let z = ap tokens_of q in absurd (omega arith)
        on u k (sum x₁ D c) q g so₁ dr de x ws = let z = ap tokens_of q in absurd (omega arith)

        by : Going s raw kinds N S whole rest w o p m r v scope₁ o₁ → Going s raw kinds N S whole rest w o (p + 1) m r v scope₁ o₁
        by (going u g so₁ dr de q ws) = let z = seen s raw p u rest dr in on u z.tag_of z.view z.cell g so₁ dr de q ws

    -- a sum, whose variable came into scope
    pub term_binder : get_or raw p 0 ≡ sum_tag → p < length raw → length scope₁ ≡ scope_cells → kinds.sorts ≤ max_sorts → (b : Step) (o₂ : List ℕ) → Binds s raw names kinds scope₁ m p r v o₁ (Some b) o₂
        → (scope₂ : List ℕ) → InScope s raw names kinds scope₁ m p (Some b) scope₂ → TermLeft b.at (m + 1) false b.w scope₂ o₂
    unfolding enc_term enc_choice term_depth sum_depth tokens_of
    term_binder k h many few b o₂ binds scope₂ pushes N S t rest dec so e d = by (left N S t rest dec so e d)
      where
        whole : Option (List ℕ)
        whole = term_cells N S (scope_at s scope n) (scope_sorts scope n) after t

        σ : List Name
        σ = scope_at s scope₁ m

        Γ : List ℕ
        Γ = scope_sorts scope₁ m

        -- the sort that the name has is the one that was found
        found : (x D : Name) (q : Choice) → drop p (symbols s raw) ≡ enc_term (part (Part.sum x D q)) ++ rest → (E : ℕ) → number_of D N.sorts ≡ some E → sort_found s names kinds (get_or raw (p + 2) 0) ≡ E
        found x D q dr E f =
            let y : number_of (name_at s (get_or raw (p + 2) 0)) (sorts_in s names kinds) ≡ some E = ap (λ (z : Name). number_of z (sorts_in s names kinds)) (two_names s raw p x D (enc_choice q ++ rest) dr).sort
            ∙ ap (number_of D) (sym dec.sorts_are) ∙ f in
            ap (or_count (suc kinds.sorts)) y

        bound : (x D : Name) (q : Choice) (E : ℕ) → number_of D N.sorts ≡ some E → (g : List ℕ) (X : Option (List ℕ)) → KnownSorts kinds scope₁ m S → drop p (symbols s raw) ≡ enc_term (part (Part.sum x D q)) ++ rest
            → m + suc (sum_depth q) ≤ max_scope → whole ≡ some g ⊕ (X ⊕ term_cells N S (σ ++ (x ∷ [])) (Γ ++ (E ∷ [])) false (choice q)) → Writes g w o v o₁
            → Outcome raw (symbols s raw) (enc_choice q ++ rest) v o₁ (Some b) o₂ X → Going s raw kinds N S whole rest w o b.at (m + 1) false b.w scope₂ o₂
        bound x D q E f g none so₁ dr de y ws t = absurd t
        bound x D q E f g (some i) so₁ dr de y ws t =
            let u = pushes in
            let a : scope₂ ≡ set (set scope₁ m (get_or raw (p + 1) 0)) (first_sort + m) E = u.1 ∙ ap (set (set scope₁ m (get_or raw (p + 1) 0)) (first_sort + m)) (found x D q dr E f) in
            let σ₂ : scope_at s scope₂ (m + 1) ≡ σ ++ (x ∷ []) = ap (λ (l : List ℕ). scope_at s l (m + 1)) a ∙ pushed scope₁ m (get_or raw (p + 1) 0) E u.0 many s
            ∙ ap (λ (y : Name). σ ++ (y ∷ [])) (two_names s raw p x D (enc_choice q ++ rest) dr).variable in
            let Γ₂ : scope_sorts scope₂ (m + 1) ≡ Γ ++ (E ∷ []) = ap (λ (l : List ℕ). scope_sorts l (m + 1)) a ∙ sorts_pushed scope₁ m (get_or raw (p + 1) 0) E u.0 many in
            let l = number_below D N.sorts E f in
            let c = sorts_most s names kinds in
            let c₁ = ap length dec.sorts_are in
            let small : E < byte_limit = omega arith in
            going (choice q) (g ++ i) (more_sorted kinds scope₁ scope₂ m E S so₁ small Γ₂ (ap scope_results a ∙ (push_kept scope₁ m (get_or raw (p + 1) 0) E u.0 many).results_kept)) t.1 (omega arith)
            (y ∙ then_assoc g i _ ∙ ap (λ (l : List Name). some (g ++ i) ⊕ term_cells N S l (Γ ++ (E ∷ [])) false (choice q)) (sym σ₂)
            ∙ ap (λ (l : List ℕ). some (g ++ i) ⊕ term_cells N S (scope_at s scope₂ (m + 1)) l false (choice q)) (sym Γ₂))
            (writes_then ws t.2)

        -- no such sort
        unbound : (X : Option (List ℕ)) (l : List Symbol) → X ≡ none → whole ≡ none → Outcome raw (symbols s raw) l v o₁ (Some b) o₂ X → Going s raw kinds N S whole rest w o b.at (m + 1) false b.w scope₂ o₂
        unbound none l q y t = absurd t
        unbound (some i) l q y t = absurd (cc)

        sorted : (x D : Name) (q : Choice) (E : Option ℕ) → number_of D N.sorts ≡ E → (g : List ℕ) → KnownSorts kinds scope₁ m S → drop p (symbols s raw) ≡ enc_term (part (Part.sum x D q)) ++ rest
            → m + suc (sum_depth q) ≤ max_scope → whole ≡ some g ⊕ term_cells N S σ Γ r (part (Part.sum x D q)) → Writes g w o v o₁ → Going s raw kinds N S whole rest w o b.at (m + 1) false b.w scope₂ o₂
        sorted x D q (some E) f g so₁ dr de y ws =
            bound x D q E f g (binder_cells N S σ Γ r x D) so₁ dr de (y ∙ ap (λ l. some g ⊕ l) (sum_cells N S σ Γ r x D q E f)) ws (binds N S x D (enc_choice q ++ rest) dec dr (omega arith))
        sorted x D q none f g so₁ dr de y ws =
            unbound (binder_cells N S σ Γ r x D) (enc_choice q ++ rest) (binder_unsorted N S σ Γ r x D f) (y ∙ ap (λ l. some g ⊕ l) (sum_unsorted N S σ Γ r x D q f) ∙ none_last g)
            (binds N S x D (enc_choice q ++ rest) dec dr (omega arith))

        on : (u : Term) (j : ℕ) → View u j → get_or raw p 0 ≡ j → (g : List ℕ) → KnownSorts kinds scope₁ m S → drop p (symbols s raw) ≡ enc_term u ++ rest → m + term_depth u ≤ max_scope
            → whole ≡ some g ⊕ term_cells N S σ Γ r u → Writes g w o v o₁ → Going s raw kinds N S whole rest w o b.at (m + 1) false b.w scope₂ o₂
        on u j (sum x₁ D c) y g so₁ dr de x ws = sorted x₁ D c (number_of D N.sorts) refl g so₁ dr de x ws
        on u j (single u' u₁ j' y) y₁ g so₁ dr de x ws = let z = single_tokens y.is in let z₁ = ap tokens_of y₁ in let z₂ = ap tokens_of k in absurd (omega arith)
        on u j (plus c₁ c₂) y g so₁ dr de x ws = absurd (omega arith)
        on u j (cond p₁ c p₂) y g so₁ dr de x ws = absurd (omega arith)
        on u j (then p₁ p₂) y g so₁ dr de x ws = absurd (omega arith)
        on u j delta y g so₁ dr de x ws = absurd (omega arith)
        on u j tau y g so₁ dr de x ws = absurd (omega arith)
        on u j (bare x₁) y g so₁ dr de x ws = absurd (omega arith)
        on u j (given x₁ ds) y g so₁ dr de x ws = absurd (omega arith)

        by : Going s raw kinds N S whole rest w o p m r v scope₁ o₁ → Going s raw kinds N S whole rest w o b.at (m + 1) false b.w scope₂ o₂
        by (going u g so₁ dr de q ws) = let z = seen s raw p u rest dr in on u z.tag_of z.view z.cell g so₁ dr de q ws

    -- two subterms, of which the first was read
    pub term_second : 1 < kids_of (get_or raw p 0) → p < length raw → (f : Step) (o₂ : List ℕ) → ResolvesFirst s raw names kinds scope₁ m p r v o₁ (Some f) o₂
        → (scope₂ : List ℕ) → ScopeKept m scope₁ scope₂ → (c : ℕ) → c ≡ get_or raw p 0 → TermLeft f.at m (eqb c then_tag) f.w scope₂ o₂
    term_second k h f o₂ first scope₂ kept c here N S t rest dec so e d = by (left N S t rest dec so e d)
      where
        whole : Option (List ℕ)
        whole = term_cells N S (scope_at s scope n) (scope_sorts scope n) after t

        on : (u : Term) (g : List ℕ) (X : Option (List ℕ)) → KnownSorts kinds scope₁ m S → m + term_depth u ≤ max_scope → whole ≡ some g ⊕ (X ⊕ term_cells N S (scope_at s scope₁ m) (scope_sorts scope₁ m) (eqb (get_or raw p 0) then_tag) u) → Writes g w o v o₁
            → Outcome raw (symbols s raw) (enc_term u ++ rest) v o₁ (Some f) o₂ X → Going s raw kinds N S whole rest w o f.at m (eqb c then_tag) f.w scope₂ o₂
        on u g none so₁ de q ws t = absurd t
        on u g (some i) so₁ de q ws t =
            going u (g ++ i) (still_sorted kinds scope₁ scope₂ m S kept so₁) t.1 de
            (q ∙ then_assoc g i _ ∙ ap (λ (l : List Name). some (g ++ i) ⊕ term_cells N S l (scope_sorts scope₁ m) (eqb (get_or raw p 0) then_tag) u) (sym (same_scope s scope₁ scope₂ m kept.names_kept))
            ∙ ap (λ (l : List ℕ). some (g ++ i) ⊕ term_cells N S (scope_at s scope₂ m) l (eqb (get_or raw p 0) then_tag) u) (sym kept.sorts_kept)
            ∙ ap (λ (y : ℕ). some (g ++ i) ⊕ term_cells N S (scope_at s scope₂ m) (scope_sorts scope₂ m) (eqb y then_tag) u) (sym here))
            (writes_then ws t.2)

        by : Going s raw kinds N S whole rest w o p m r v scope₁ o₁ → Going s raw kinds N S whole rest w o f.at m (eqb c then_tag) f.w scope₂ o₂
        by (going u g so₁ dr de q ws) =
            let x = first N S u rest dec so₁ dr (omega arith) k in
            let y = x.second_depth in
            on x.second g x.head so₁ (omega arith) (q ∙ ap (λ c. some g ⊕ c) x.cells) ws x.outcome

    -- a name of the first is not as it must be
    pub term_first_lost : 1 < kids_of (get_or raw p 0) → (o₂ : List ℕ) → ResolvesFirst s raw names kinds scope₁ m p r v o₁ None o₂ → Resolves None o₂
    term_first_lost k o₂ first N S t rest dec so e d = by (left N S t rest dec so e d)
      where
        by : Going s raw kinds N S (term_cells N S (scope_at s scope n) (scope_sorts scope n) after t) rest w o p m r v scope₁ o₁ → Outcome raw (symbols s raw) rest w o None o₂ (term_cells N S (scope_at s scope n) (scope_sorts scope n) after t)
        by (going u g so₁ dr de q ws) = became_none _ _ _ _ _ _ (q ∙ ap (λ c. some g ⊕ c) (first N S u rest dec so₁ dr de k) ∙ none_last g)

    -- nor is the variable, or its sort
    pub term_binder_lost : get_or raw p 0 ≡ sum_tag → (o₂ : List ℕ) → Binds s raw names kinds scope₁ m p r v o₁ None o₂ → Resolves None o₂
    unfolding enc_term enc_choice term_depth sum_depth tokens_of
    term_binder_lost k o₂ binds N S t rest dec so e d = by (left N S t rest dec so e d)
      where
        whole : Option (List ℕ)
        whole = term_cells N S (scope_at s scope n) (scope_sorts scope n) after t

        σ : List Name
        σ = scope_at s scope₁ m

        Γ : List ℕ
        Γ = scope_sorts scope₁ m

        sorted : (x D : Name) (q : Choice) (E : Option ℕ) → number_of D N.sorts ≡ E → (g : List ℕ) → drop p (symbols s raw) ≡ enc_term (part (Part.sum x D q)) ++ rest
            → m + suc (sum_depth q) ≤ max_scope → whole ≡ some g ⊕ term_cells N S σ Γ r (part (Part.sum x D q)) → whole ≡ none
        sorted x D q (some E) f g dr de y =
            let c = yields_none (Took raw (symbols s raw) (enc_choice q ++ rest) v o₁ o₂) (binder_cells N S σ Γ r x D) (binds N S x D (enc_choice q ++ rest) dec dr (omega arith)) in
            y ∙ ap (λ l. some g ⊕ l) (sum_cells N S σ Γ r x D q E f) ∙ ap (λ (X : Option (List ℕ)). some g ⊕ (X ⊕ term_cells N S (σ ++ (x ∷ [])) (Γ ++ (E ∷ [])) false (choice q))) c ∙ then_none g _
        sorted x D q none f g dr de y = y ∙ ap (λ l. some g ⊕ l) (sum_unsorted N S σ Γ r x D q f) ∙ none_last g

        on : (u : Term) (j : ℕ) → View u j → get_or raw p 0 ≡ j → (g : List ℕ) → drop p (symbols s raw) ≡ enc_term u ++ rest → m + term_depth u ≤ max_scope → whole ≡ some g ⊕ term_cells N S σ Γ r u → whole ≡ none
        on u j (sum x₁ D c) y g dr de x = sorted x₁ D c (number_of D N.sorts) refl g dr de x
        on u j (single u' u₁ j' y) y₁ g dr de x = let z = single_tokens y.is in let z₁ = ap tokens_of y₁ in let z₂ = ap tokens_of k in absurd (omega arith)
        on u j (plus c₁ c₂) y g dr de x = absurd (omega arith)
        on u j (cond p₁ c p₂) y g dr de x = absurd (omega arith)
        on u j (then p₁ p₂) y g dr de x = absurd (omega arith)
        on u j delta y g dr de x = absurd (omega arith)
        on u j tau y g dr de x = absurd (omega arith)
        on u j (bare x₁) y g dr de x = absurd (omega arith)
        on u j (given x₁ ds) y g dr de x = absurd (omega arith)

        by : Going s raw kinds N S whole rest w o p m r v scope₁ o₁ → Outcome raw (symbols s raw) rest w o None o₂ whole
        by (going u g so₁ dr de q ws) = let z = seen s raw p u rest dr in became_none _ _ _ _ _ _ (on u z.tag_of z.view z.cell g dr de q)

-- what was kept of m variables is kept of n of them
pub kept_on : (n m : ℕ) (a b c : List ℕ) → n ≤ m → ScopeKept m b a → ScopeKept n c b → ScopeKept n c a
unfolding scope_sorts
kept_on n m a b c h p q = record {
  names_kept = sym (take-take n m a h) ∙ ap (take n) p.names_kept ∙ take-take n m b h ∙ q.names_kept;
  sorts_kept = sym (take-take n m (drop first_sort a) h) ∙ ap (take n) p.sorts_kept ∙ take-take n m (drop first_sort b) h ∙ q.sorts_kept;
  results_kept = p.results_kept ∙ q.results_kept;
}
