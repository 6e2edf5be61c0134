-- The heads of a linear right side are its summands.
use Rattle.std.specs.Prelude.{◌≡◌, true, false, length, replicate}
use Rattle.std.proofs.Math.Path.{refl, ap, ap₂}
use mathlib.Core.List.{List, [], ◌∷◌, ◌++◌, append-nil, map}
use Prim.Native.Nat.{ℕ, zero, suc, ◌+◌, ◌<◌}
use native.Mathlib.Omega.{arith}
use Rattle.std.proofs.Common.{length-append}
use Rattle.pcrl.specs.Tests.{Every}
use Rattle.pcrl.specs.Sheet.{Data, val, var, app, Datas, nil, cons, Act, Proc, atom, call, Sig}
use Rattle.pcrl.specs.Values.{put_data, put_datas}
use Rattle.pcrl.specs.Parts.{as_params, new_count}
use Rattle.pcrl.specs.Table.{Summand, Table}
use Rattle.pcrl.specs.Heads.{with_var, with_cond, with_calls, look, calls_of, heads_by}
use Rattle.printing.specs.Plain.{Plain, PlainAll, PlainTerm, PlainCond, PlainCall, PlainSummand}
use Rattle.printing.specs.Linear.{calls_behind, wants, conditions, sums, linear_summand, alternatives, linear_right}

-- PUTTING VARIABLES FOR THEMSELVES

-- the variables 0, 1, .., n of them
abbrev pub own : ℕ → List Data
own n = as_params (replicate n true) 0

as_params_snoc : (i n j : ℕ) → j ≡ i + n → as_params (replicate n true) i ++ (var j ∷ []) ≡ as_params (replicate (suc n) true) i
unfolding as_params
as_params_snoc i zero j e = let z : j ≡ i = omega arith in ap (λ (k : ℕ). var k ∷ []) z
as_params_snoc i (suc n) j e = ap (λ (l : List Data). var i ∷ l) (as_params_snoc (suc i) n j (omega arith))

as_params_at : (i n k j : ℕ) → k < n → j ≡ i + k → look (as_params (replicate n true) i) k ≡ var j
unfolding as_params look
as_params_at i zero k j h e = absurd (omega arith)
as_params_at i (suc n) zero j h e = let z : i ≡ j = omega arith in ap var z
as_params_at i (suc n) (suc k) j h e = as_params_at (suc i) n k j (omega arith) (omega arith)

module _ (S : Sig) (Γ : List ℕ) where
  mutual
    unfolding Plain put_data

    own_data : (d : Data) → Plain S Γ d → put_data (look (own (length Γ))) d ≡ d
    own_data (val v) h = refl
    own_data (var i) h = as_params_at 0 (length Γ) i i h (omega arith)
    own_data (app g ds) h = ap (app g) (own_datas ds h.1)

    own_datas : (ds : Datas) → PlainAll S Γ ds → put_datas (look (own (length Γ))) ds ≡ ds
    own_datas nil h = refl
    own_datas (cons d ds) h = ap₂ cons (own_data d h.0) (own_datas ds h.1)

  own_terms : (ds : List Data) → Every (Plain S Γ) ds → map (put_data (look (own (length Γ)))) ds ≡ ds
  unfolding Every
  own_terms [] h = refl
  own_terms (d ∷ ds) h = ap₂ ◌∷◌ (own_data d h.0) (own_terms ds h.1)

-- HEADS

module _ (known : List Data → ℕ → ℕ → List Summand) where
  -- the one head of a term, wherever its new equations would begin
  OneHead : ℕ → Proc → Summand → Type 0
  OneHead m p h = (c : ℕ) → heads_by known (own m) m c p ≡ h ∷ []

  module _ (T : Table) where
    calls_own : (Γ : List ℕ) (c : ℕ) (k : ℕ × List Data) (cs : List (ℕ × List Data)) → Every (PlainCall T Γ) (k ∷ cs)
        → calls_of (own (length Γ)) c (calls_behind (call k.0 k.1) cs) ≡ k ∷ cs
    unfolding calls_of calls_behind Every
    calls_own Γ c k [] h = ap (λ (ds : List Data). (k.0, ds) ∷ []) (own_terms _ Γ k.1 h.0.1)
    calls_own Γ c k (l ∷ cs) h = ap₂ (λ (ds : List Data) (later : List (ℕ × List Data)). (k.0, ds) ∷ later) (own_terms _ Γ k.1 h.0.1) (calls_own Γ (c + new_count true (call k.0 k.1)) l cs h.1)

    head_of_calls : (Γ : List ℕ) (a : Act) (ds : List Data) (cs : List (ℕ × List Data)) → Every (PlainTerm T Γ) ds
        → Every (PlainCall T Γ) cs
        → OneHead (length Γ) (calls_behind (atom a ds) cs) (record { vars = []; conds = []; act = a; terms = ds; calls = cs })
    unfolding OneHead heads_by calls_behind with_calls
    head_of_calls Γ a ds [] h k c = rw (own_terms _ Γ ds h)
    head_of_calls Γ a ds (l ∷ cs) h k c = rw (own_terms _ Γ ds h, calls_own Γ _ l cs k)

    head_of_condition : (Γ : List ℕ) (w : ℕ) (d : Data) (p : Proc) (h : Summand) → w < 2 → PlainTerm T Γ d → OneHead (length Γ) p h → OneHead (length Γ) (wants w d p) (with_cond w d h)
    unfolding OneHead heads_by wants
    head_of_condition Γ zero d p h l k o c = rw (own_data _ Γ d k, o _)
    head_of_condition Γ (suc w) d p h l k o c = let z : 1 ≡ suc w = omega arith in rw (own_data _ Γ d k, o c, ← z)

    head_of_conditions : (Γ : List ℕ) (cs : List (ℕ × Data)) (p : Proc) (h : Summand) → Every (PlainCond T Γ) cs → OneHead (length Γ) p h
        → OneHead (length Γ) (conditions cs p) (record { vars = h.vars; conds = cs ++ h.conds; act = h.act; terms = h.terms; calls = h.calls })
    unfolding conditions with_cond Every
    head_of_conditions Γ [] p h k o = o
    head_of_conditions Γ (c ∷ cs) p h k o = head_of_condition Γ c.0 c.1 (conditions cs p) _ k.0.0 k.0.1 (head_of_conditions Γ cs p h k.1 o)

  head_of_sums : (n m : ℕ) (Ds : List ℕ) (p : Proc) (h : Summand) → m ≡ n + length Ds → OneHead m p h
      → OneHead n (sums n Ds p) (record { vars = Ds ++ h.vars; conds = h.conds; act = h.act; terms = h.terms; calls = h.calls })
  unfolding OneHead heads_by sums with_var
  head_of_sums n m [] p h e o c = let z : n ≡ m = omega arith in rw z (o c)
  head_of_sums n m (D ∷ Ds) p h e o c =
      let next = head_of_sums (suc n) m Ds p h (omega arith) o c in
      rw (as_params_snoc 0 n n (omega arith), next)

  module _ (T : Table) where
    head_of_summand : (Δ : List ℕ) (h : Summand) → PlainSummand T Δ h → OneHead (length Δ) (linear_summand (length Δ) h) h
    unfolding linear_summand
    head_of_summand Δ h p =
        let Γ = Δ ++ h.vars in
        let o = head_of_sums (length Δ) (length Γ) h.vars _ _ (length-append Δ h.vars) (head_of_conditions T Γ h.conds _ _ p.conds (head_of_calls T Γ h.act h.terms h.calls p.terms p.calls)) in
        rw (append-nil h.vars, append-nil h.conds) at o

    heads_joined : (Δ : List ℕ) (c : ℕ) (h : Summand) (hs : List Summand) → PlainSummand T Δ h → Every (PlainSummand T Δ) hs
        → heads_by known (own (length Δ)) (length Δ) c (alternatives (linear_summand (length Δ) h) (map (linear_summand (length Δ)) hs)) ≡ h ∷ hs
    unfolding alternatives heads_by OneHead Every
    heads_joined Δ c h [] p k = head_of_summand Δ h p c
    heads_joined Δ c h (g ∷ hs) p k = ap₂ ◌++◌ (head_of_summand Δ h p c) (heads_joined Δ (c + new_count false (linear_summand (length Δ) h)) g hs k.0 k.1)

    -- THE HEADS OF A LINEAR RIGHT SIDE ARE ITS SUMMANDS.
    pub heads_linear : (Δ : List ℕ) (c : ℕ) (hs : List Summand) → Every (PlainSummand T Δ) hs → heads_by known (own (length Δ)) (length Δ) c (linear_right (map (linear_summand (length Δ)) hs)) ≡ hs
    unfolding linear_right heads_by Every
    heads_linear Δ c [] k = refl
    heads_linear Δ c (h ∷ hs) k = heads_joined Δ c h hs k.0 k.1
