-- delta and tau; the node of a `+`, a `.` or a conditional, and the two parts of it.
use Rattle.std.specs.Prelude.{Option as Given, Some, None}
use mathlib.Core.Path.{◌≡◌, refl, sym, ap, ◌∙◌, subst}
use mathlib.Core.Bool.{Bool, true, false}
use mathlib.Core.List.{List, [], ◌∷◌, ◌++◌, append_assoc}
use mathlib.Core.Option.{Option, some}
use Prim.Native.Nat.{ℕ, ◌+◌, ◌≤◌, ◌<◌}
use native.Mathlib.Omega.{arith}
use lib.Dec.{eqb}
use lib.ListN.{length, drop, get_or, length-append, length-drop, length-map}
use Rattle.pcrl.specs.Tree.{Name, RawData, Choice, Conditional, Sequence, Part}
use Rattle.pcrl.specs.Sheet.{Sig}
use Rattle.pcrl.specs.Names.{Names, resolve_choice}
use Rattle.parser.specs.Cells.{Symbol, tag, symbol_of, plus_tag, cond_tag, then_tag, enc_choice}
use Rattle.parser.specs.Cells.{enc_data as raw_data}
use Rattle.parser.specs.Reading.{Put}
use Rattle.nodes.specs.Layout.{enc_datas, first_cell, one_if, delta_kind, atom_kind, alt_kind, cond_kind, seq_kind, act_number, enc}
use Rattle.names.specs.NameCells.{scope_at}
use Rattle.names.specs.declared.Kinds.{Kinds}
use Rattle.names.specs.Standing.{symbols}
use Rattle.parser.specs.declared.Step.{Step}
use Rattle.resolver.specs.Raw.{Term, choice, conditional, sequence, part, enc_term, resolve_term, sum_depth, term_depth, tokens_of, kids_of, Skips}
use Rattle.resolver.specs.Sorting.{scope_sorts}
use Rattle.resolver.specs.Writing.{Writes}
use Rattle.resolver.specs.Resolving.{Took, Outcome, condition_cells, term_cells, ◌⊕◌, ResolvesCondition, ResolvesConstant, Forked, Forks}
use Rattle.resolver.proofs.Writing.{writes_then, writes_cell}
use Rattle.resolver.proofs.Symbols.{next}
use Rattle.names.proofs.Kept.{yields_none, yields_some}
use Rattle.resolver.proofs.DataCells.{then_last, then_missing}
use Rattle.resolver.proofs.DataLaws.{became}
use Rattle.resolver.proofs.ProcessCells.{plus_cells, then_cells, cond_cells}
use Rattle.resolver.proofs.Terms.{SingleTag, only_tag, plain_tag, last_tag, group_tag, View, single, plus, cond, then, delta, tau, bare, given, sum, seen}

pub single_kids : {k : ℕ} → SingleTag k → kids_of k ≡ 1
unfolding kids_of
single_kids only_tag = refl
single_kids plain_tag = refl
single_kids last_tag = refl
single_kids group_tag = refl

pub single_tokens : {k : ℕ} → SingleTag k → tokens_of k ≡ 0
unfolding tokens_of
single_tokens only_tag = refl
single_tokens plain_tag = refl
single_tokens last_tag = refl
single_tokens group_tag = refl

-- ---- delta and tau
module _ (raw : List ℕ) (at : ℕ) (after : Bool) (w : ℕ) (o : List ℕ) where
  module _ (k : ℕ) (here : get_or raw at 0 ≡ k) where
    pub delta_took : k ≡ 12 → (first w' : ℕ) (o' : List ℕ) → first ≡ first_cell 0 (one_if after) delta_kind → Writes (first ∷ 0 ∷ 0 ∷ []) w o w' o'
        → ResolvesConstant raw at after w o (Some (record { at = at + 1; w = w' })) o'
    unfolding kids_of tokens_of enc_term enc_choice term_cells resolve_term resolve_choice enc enc_datas
    delta_took ek first w' o' ef ws s N S scope Γ t rest e ht hk = let v = seen s raw at t rest e in by t v.tag_of v.view v.cell e
      where
        by : (t : Term) (m : ℕ) → View t m → get_or raw at 0 ≡ m → drop at (symbols s raw) ≡ enc_term t ++ rest → Outcome raw (symbols s raw) rest w o (Some (record { at = at + 1; w = w' })) o' (term_cells N S scope Γ after t)
        by t m (single t' u m' v) q e = let z = single_kids v.is in let y = ap kids_of q in absurd (omega arith)
        by t m (plus c d) q e = absurd (omega arith)
        by t m (cond p c q₁) q e = absurd (omega arith)
        by t m (then p q₁) q e = absurd (omega arith)
        by t m delta q e = let n = next s raw at (tag 12) rest e in became raw (symbols s raw) rest w o (Some (record { at = at + 1; w = w' })) o' (ap (λ (y : ℕ). some (y ∷ 0 ∷ 0 ∷ [])) ef) ((let i = n.inside in omega arith), n.behind, ws)
        by t m tau q e = absurd (omega arith)
        by t m (bare x) q e = absurd (omega arith)
        by t m (given x ds) q e = absurd (omega arith)
        by t m (sum v D p) q e = absurd (omega arith)

    pub tau_took : k ≡ 13 → (first w' : ℕ) (o' : List ℕ) → first ≡ first_cell 0 (one_if after) atom_kind → Writes (first ∷ 0 ∷ 0 ∷ []) w o w' o'
        → ResolvesConstant raw at after w o (Some (record { at = at + 1; w = w' })) o'
    unfolding kids_of tokens_of enc_term enc_choice term_cells resolve_term resolve_choice enc act_number enc_datas
    tau_took ek first w' o' ef ws s N S scope Γ t rest e ht hk = let v = seen s raw at t rest e in by t v.tag_of v.view v.cell e
      where
        by : (t : Term) (m : ℕ) → View t m → get_or raw at 0 ≡ m → drop at (symbols s raw) ≡ enc_term t ++ rest → Outcome raw (symbols s raw) rest w o (Some (record { at = at + 1; w = w' })) o' (term_cells N S scope Γ after t)
        by t m (single t' u m' v) q e = let z = single_kids v.is in let y = ap kids_of q in absurd (omega arith)
        by t m (plus c d) q e = absurd (omega arith)
        by t m (cond p c q₁) q e = absurd (omega arith)
        by t m (then p q₁) q e = absurd (omega arith)
        by t m delta q e = absurd (omega arith)
        by t m tau q e = let n = next s raw at (tag 13) rest e in became raw (symbols s raw) rest w o (Some (record { at = at + 1; w = w' })) o' (ap (λ (y : ℕ). some (y ∷ 0 ∷ 0 ∷ [])) ef) ((let i = n.inside in omega arith), n.behind, ws)
        by t m (bare x) q e = absurd (omega arith)
        by t m (given x ds) q e = absurd (omega arith)
        by t m (sum v D p) q e = absurd (omega arith)

  pub constant_lost : (get_or raw at 0 ≡ 12 → ⊥) → (get_or raw at 0 ≡ 13 → ⊥) → (r : Given Step) (o' : List ℕ) → ResolvesConstant raw at after w o r o'
  unfolding kids_of tokens_of
  constant_lost n₁ n₂ r o' s N S scope Γ t rest e ht hk = let v = seen s raw at t rest e in absurd (by t v.tag_of v.view v.cell)
    where
      by : (t : Term) (m : ℕ) → View t m → get_or raw at 0 ≡ m → ⊥
      by t m (single t' u m' v) q = let z = single_kids v.is in let y = ap kids_of q in omega arith
      by t m (plus c d) q = let y = ap kids_of q in omega arith
      by t m (cond p c q₁) q = let y = ap kids_of q in omega arith
      by t m (then p q₁) q = let y = ap kids_of q in omega arith
      by t m delta q = n₁ q
      by t m tau q = n₂ q
      by t m (bare x) q = let y = ap tokens_of q in omega arith
      by t m (given x ds) q = let y = ap tokens_of q in omega arith
      by t m (sum v D p) q = let y = ap tokens_of q in omega arith

-- ---- two parts
data TwoParts : Term → ℕ → Type 0 where
  by_plus : (c : Conditional) (d : Choice) → TwoParts (choice (Choice.plus c d)) plus_tag
  by_cond : (p : Sequence) (c : RawData) (q : Sequence) → TwoParts (conditional (Conditional.cond p c q)) cond_tag
  by_then : (p : Part) (q : Sequence) → TwoParts (sequence (Sequence.then p q)) then_tag

two_parts : (raw : List ℕ) (at : ℕ) → 1 < kids_of (get_or raw at 0) → (t : Term) (m : ℕ) → View t m → get_or raw at 0 ≡ m → TwoParts t m
unfolding kids_of
two_parts raw at h t m (single t' u m' v) q = let z = single_kids v.is in let y = ap kids_of q in absurd (omega arith)
two_parts raw at h t m (plus c d) q = by_plus c d
two_parts raw at h t m (cond p c d) q = by_cond p c d
two_parts raw at h t m (then p d) q = by_then p d
two_parts raw at h t m delta q = let y = ap kids_of q in absurd (omega arith)
two_parts raw at h t m tau q = let y = ap kids_of q in absurd (omega arith)
two_parts raw at h t m (bare x) q = let y = ap kids_of q in absurd (omega arith)
two_parts raw at h t m (given x ds) q = let y = ap kids_of q in absurd (omega arith)
two_parts raw at h t m (sum v D p) q = let y = ap kids_of q in absurd (omega arith)

-- what stands further on has less behind it
further : (s raw : List ℕ) (p p₁ : ℕ) (l l₁ : List Symbol) → p ≤ length raw → p₁ ≤ length raw → drop p (symbols s raw) ≡ l ++ l₁ → drop p₁ (symbols s raw) ≡ l₁ → p ≤ p₁
unfolding symbols
further s raw p p₁ l l₁ h h₁ e e₁ =
    omega (arith, length-map raw (symbol_of s), length-drop p (symbols s raw), length-drop p₁ (symbols s raw), ap length e, ap length e₁, length-append l l₁)

module _ (s raw names : List ℕ) (kinds : Kinds) (scope : List ℕ) (n at : ℕ) (after : Bool) (w : ℕ) (o : List ℕ) where
  -- the second part stands behind the first
  together : (N : Names) (S : Sig) (t first second : Term) (rest : List Symbol) (k : ℕ) (e : List ℕ) (w' : ℕ) (o' : List ℕ) (left right : Bool)
      → drop at (symbols s raw) ≡ tag k ∷ ((enc_term first ++ enc_term second) ++ rest) → term_depth first ≤ term_depth t → term_depth second ≤ term_depth t → eqb (get_or raw at 0) then_tag ≡ right
      → term_cells N S (scope_at s scope n) (scope_sorts scope n) after t ≡ some e ⊕ (term_cells N S (scope_at s scope n) (scope_sorts scope n) left first ⊕ term_cells N S (scope_at s scope n) (scope_sorts scope n) right second) → Writes e w o w' o'
      → Forked s raw N S (scope_at s scope n) (scope_sorts scope n) at after t rest w o (record { at = at; w = w'; left = left }) o'
  together N S t first second rest k e w' o' left right d d₁ d₂ r q ws =
      record {
        first = first;
        second = second;
        between = enc_term second ++ rest;
        head = some e;
        first_at = (next s raw at (tag k) _ d).behind ∙ append_assoc (enc_term first) (enc_term second) rest;
        first_depth = d₁;
        second_depth = d₂;
        cells = q ∙ ap (λ (b : Bool). some e ⊕ (term_cells N S (scope_at s scope n) (scope_sorts scope n) left first ⊕ term_cells N S (scope_at s scope n) (scope_sorts scope n) b second)) (sym r);
        outcome = λ p p' h z x y. let i : p' ≡ p = omega arith in (omega arith, ap (λ (u : ℕ). drop u (symbols s raw)) i ∙ x, ws);
      }

  module _ (w' : ℕ) (o' : List ℕ) where
    pub fork_then : get_or raw at 0 ≡ then_tag → (first : ℕ) → first ≡ first_cell 0 (one_if false) seq_kind → Writes (first ∷ 0 ∷ 0 ∷ []) w o w' o' → Forks s raw names kinds scope n at after w o (Some (record { at = at; w = w'; left = after })) o'
    unfolding enc_term enc_choice term_depth sum_depth one_if
    fork_then k first ef ws N S t rest f so e hk = let v = seen s raw at t rest e in by t v.tag_of (two_parts raw at hk t v.tag_of v.view v.cell) v.cell e
      where
        by : (t : Term) (m : ℕ) → TwoParts t m → get_or raw at 0 ≡ m → drop at (symbols s raw) ≡ enc_term t ++ rest → Forked s raw N S (scope_at s scope n) (scope_sorts scope n) at after t rest w o (record { at = at; w = w'; left = after }) o'
        by t m (by_then a b) q e =
            together N S t (part a) (sequence b) rest then_tag (first ∷ 0 ∷ 0 ∷ []) w' o' after true e (omega arith) (omega arith) (ap (λ (i : ℕ). eqb i then_tag) k)
            (then_cells N S (scope_at s scope n) (scope_sorts scope n) after a b
            ∙ ap (λ (y : ℕ). some (y ∷ 0 ∷ 0 ∷ []) ⊕ (term_cells N S (scope_at s scope n) (scope_sorts scope n) after (part a) ⊕ term_cells N S (scope_at s scope n) (scope_sorts scope n) true (sequence b))) (sym ef)) ws
        by t m (by_plus a b) q e = absurd (omega arith)
        by t m (by_cond a c b) q e = absurd (omega arith)

    pub fork_plus : get_or raw at 0 ≡ plus_tag → (first : ℕ) → first ≡ first_cell 0 (one_if after) alt_kind → Writes (first ∷ 0 ∷ 0 ∷ []) w o w' o'
        → Forks s raw names kinds scope n at after w o (Some (record { at = at; w = w'; left = false })) o'
    unfolding enc_term enc_choice term_depth sum_depth
    fork_plus k first ef ws N S t rest f so e hk = let v = seen s raw at t rest e in by t v.tag_of (two_parts raw at hk t v.tag_of v.view v.cell) v.cell e
      where
        by : (t : Term) (m : ℕ) → TwoParts t m → get_or raw at 0 ≡ m → drop at (symbols s raw) ≡ enc_term t ++ rest → Forked s raw N S (scope_at s scope n) (scope_sorts scope n) at after t rest w o (record { at = at; w = w'; left = false }) o'
        by t m (by_plus a b) q e =
            together N S t (conditional a) (choice b) rest plus_tag (first ∷ 0 ∷ 0 ∷ []) w' o' false false e (omega arith) (omega arith) (ap (λ (i : ℕ). eqb i then_tag) k)
            (plus_cells N S (scope_at s scope n) (scope_sorts scope n) after a b
            ∙ ap (λ (y : ℕ). some (y ∷ 0 ∷ 0 ∷ []) ⊕ (term_cells N S (scope_at s scope n) (scope_sorts scope n) false (conditional a) ⊕ term_cells N S (scope_at s scope n) (scope_sorts scope n) false (choice b))) (sym ef)) ws
        by t m (by_then a b) q e = absurd (omega arith)
        by t m (by_cond a c b) q e = absurd (omega arith)

  -- the term of a conditional, whose first part and condition stand there
  record Conditioned (t : Term) (rest : List Symbol) (p : ℕ) : Type 0 where
    a : Sequence
    c : RawData
    b : Sequence
    same : t ≡ conditional (Conditional.cond a c b)
    tag_is : get_or raw at 0 ≡ cond_tag
    first_at : drop (at + 1) (symbols s raw) ≡ enc_term (sequence a) ++ (raw_data c ++ (enc_term (sequence b) ++ rest))
    condition_at : drop p (symbols s raw) ≡ raw_data c ++ (enc_term (sequence b) ++ rest)

  module _ (n₁ : get_or raw at 0 ≡ then_tag → ⊥) (n₂ : get_or raw at 0 ≡ plus_tag → ⊥) (p : ℕ) (skips : Skips raw (at + 1) p) (first w₁ : ℕ) (o₁ : List ℕ) (ef : first ≡ first_cell 0 (one_if after) cond_kind) (put : Put o w first w₁ o₁) where
    conditioned : (t : Term) (rest : List Symbol) → drop at (symbols s raw) ≡ enc_term t ++ rest → 1 < kids_of (get_or raw at 0) → Conditioned t rest p
    unfolding enc_term enc_choice
    conditioned t rest e hk = let v = seen s raw at t rest e in by t v.tag_of (two_parts raw at hk t v.tag_of v.view v.cell) v.cell e
      where
        by : (t : Term) (m : ℕ) → TwoParts t m → get_or raw at 0 ≡ m → drop at (symbols s raw) ≡ enc_term t ++ rest → Conditioned t rest p
        by t m (by_plus a b) q e = absurd (n₂ q)
        by t m (by_then a b) q e = absurd (n₁ q)
        by t m (by_cond a c b) q e =
            let d : drop (at + 1) (symbols s raw) ≡ enc_term (sequence a) ++ (raw_data c ++ (enc_term (sequence b) ++ rest)) = (next s raw at (tag cond_tag) _ e).behind ∙ simp append_assoc in
            record { a = a; c = c; b = b; same = refl; tag_is = q; first_at = d; condition_at = skips s (sequence a) (raw_data c ++ (enc_term (sequence b) ++ rest)) d }

    -- a name of the condition is not as it must be
    pub fork_lost : (o' : List ℕ) → ResolvesCondition s raw names kinds scope n p w₁ o₁ None o' → Forks s raw names kinds scope n at after w o None o'
    fork_lost o' condition N S t rest f so e hk =
        let x = conditioned t rest e hk in
        let σ : List Name = scope_at s scope n in
        let Γ : List ℕ = scope_sorts scope n in
        let m = yields_none (Took raw (symbols s raw) (enc_term (sequence x.b) ++ rest) w₁ o₁ o') (condition_cells N S σ Γ x.c) (condition N S x.c (enc_term (sequence x.b) ++ rest) f so x.condition_at) in
        ap (term_cells N S σ Γ after) x.same ∙ cond_cells N S σ Γ after x.a x.c x.b
        ∙ ap (λ (X : Option (List ℕ)). (some (first_cell 0 (one_if after) cond_kind ∷ []) ⊕ X) ⊕ (term_cells N S σ Γ false (sequence x.a) ⊕ term_cells N S σ Γ false (sequence x.b))) m
        ∙ then_missing (first_cell 0 (one_if after) cond_kind ∷ []) _

    pub fork_cond : (r : Step) (o' : List ℕ) → ResolvesCondition s raw names kinds scope n p w₁ o₁ (Some r) o' → Forks s raw names kinds scope n at after w o (Some (record { at = r.at; w = r.w; left = false })) o'
    unfolding term_depth sum_depth
    fork_cond r o' condition N S t rest f so e hk =
        let x = conditioned t rest e hk in
        let σ : List Name = scope_at s scope n in
        let Γ : List ℕ = scope_sorts scope n in
        let (g, m, k) = yields_some (Took raw (symbols s raw) (enc_term (sequence x.b) ++ rest) w₁ o₁ o') (condition_cells N S σ Γ x.c) r (condition N S x.c (enc_term (sequence x.b) ++ rest) f so x.condition_at) in
        subst (λ (u : Term). Forked s raw N S σ Γ at after u rest w o (record { at = r.at; w = r.w; left = false }) o') (sym x.same)
        (record {
          first = sequence x.a;
          second = sequence x.b;
          between = raw_data x.c ++ (enc_term (sequence x.b) ++ rest);
          head = some (first ∷ g);
          first_at = x.first_at;
          first_depth = omega arith;
          second_depth = omega arith;
          cells = cond_cells N S σ Γ after x.a x.c x.b
              ∙ ap (λ (y : ℕ). (some (y ∷ []) ⊕ condition_cells N S σ Γ x.c) ⊕ (term_cells N S σ Γ false (sequence x.a) ⊕ term_cells N S σ Γ false (sequence x.b))) (sym ef)
              ∙ ap (λ (X : Option (List ℕ)). (some (first ∷ []) ⊕ X) ⊕ (term_cells N S σ Γ false (sequence x.a) ⊕ term_cells N S σ Γ false (sequence x.b))) m
              ∙ ap (λ (X : Option (List ℕ)). X ⊕ (term_cells N S σ Γ false (sequence x.a) ⊕ term_cells N S σ Γ false (sequence x.b))) (then_last (first ∷ []) g)
              ∙ ap (λ (y : ℕ). some (first ∷ g) ⊕ (term_cells N S σ Γ false (sequence x.a) ⊕ term_cells N S σ Γ (eqb y then_tag) (sequence x.b))) (sym x.tag_is);
          outcome = λ p₁ p₂ z h y l.
              let i = further s raw p₁ r.at (raw_data x.c) (enc_term (sequence x.b) ++ rest) h k.0 y k.1 in
              let j : p₂ ≡ r.at = omega arith in
              (omega arith, ap (λ (u : ℕ). drop u (symbols s raw)) j ∙ k.1, writes_then (writes_cell put) k.2);
        })
