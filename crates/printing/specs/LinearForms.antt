-- Every linear right side is made of a few forms. So none of its parts gets a new equation, and no process stands at its head.
use Rattle.std.specs.Prelude.{◌≡◌, refl, true, false}
use Rattle.std.proofs.Common.{ap₂}
use mathlib.Core.List.{List, [], ◌∷◌, ◌++◌, map}
use Prim.Native.Nat.{ℕ, zero, suc}
use Rattle.pcrl.specs.Sheet.{Data, Act, Proc, delta, atom, alt, cond, sum, call}
use Rattle.pcrl.specs.Parts.{if_after, new_parts}
use Rattle.pcrl.specs.Table.{Summand}
use Rattle.pcrl.specs.Circles.{at_head}
use Rattle.printing.specs.Linear.{calls_behind, wants, conditions, sums, linear_summand, alternatives, linear_right}

-- what each form hands on
pub record Forms (P : Proc → Type 0) : Type 0 where
  pub of_delta : P delta
  pub of_calls : (a : Act) (ds : List Data) (cs : List (ℕ × List Data)) → P (calls_behind (atom a ds) cs)
  pub of_cond : (d : Data) (p q : Proc) → P p → P q → P (cond d p q)
  pub of_sum : (x D : ℕ) (p : Proc) → P p → P (sum x D p)
  pub of_alt : (p q : Proc) → P p → P q → P (alt p q)

module _ (P : Proc → Type 0) (forms : Forms P) where
  of_wants : (w : ℕ) (d : Data) (p : Proc) → P p → P (wants w d p)
  unfolding wants
  of_wants zero d p h = forms.of_cond d delta p forms.of_delta h
  of_wants (suc w) d p h = forms.of_cond d p delta h forms.of_delta

  of_conditions : (cs : List (ℕ × Data)) (p : Proc) → P p → P (conditions cs p)
  unfolding conditions
  of_conditions [] p h = h
  of_conditions (c ∷ cs) p h = of_wants c.0 c.1 (conditions cs p) (of_conditions cs p h)

  of_sums : (n : ℕ) (Ds : List ℕ) (p : Proc) → P p → P (sums n Ds p)
  unfolding sums
  of_sums n [] p h = h
  of_sums n (D ∷ Ds) p h = forms.of_sum n D (sums (suc n) Ds p) (of_sums (suc n) Ds p h)

  of_summand : (n : ℕ) (h : Summand) → P (linear_summand n h)
  unfolding linear_summand
  of_summand n h = of_sums n h.vars _ (of_conditions h.conds _ (forms.of_calls h.act h.terms h.calls))

  of_joined : (n : ℕ) (h : Summand) (hs : List Summand) → P (alternatives (linear_summand n h) (map (linear_summand n) hs))
  unfolding alternatives
  of_joined n h [] = of_summand n h
  of_joined n h (g ∷ hs) = forms.of_alt _ _ (of_summand n h) (of_joined n g hs)

  -- what every form hands on holds of every linear right side
  pub of_linear : (n : ℕ) (hs : List Summand) → P (linear_right (map (linear_summand n) hs))
  unfolding linear_right
  of_linear n [] = forms.of_delta
  of_linear n (h ∷ hs) = of_joined n h hs

-- NO NEW EQUATIONS

calls_no_parts : (Γ : List ℕ) (k : ℕ) (ds : List Data) (cs : List (ℕ × List Data)) → new_parts true Γ (calls_behind (call k ds) cs) ≡ []
unfolding new_parts calls_behind
calls_no_parts Γ k ds [] = refl
calls_no_parts Γ k ds (c ∷ cs) = calls_no_parts Γ c.0 c.1 cs

atom_no_parts : (Γ : List ℕ) (a : Act) (ds : List Data) (cs : List (ℕ × List Data)) → new_parts false Γ (calls_behind (atom a ds) cs) ≡ []
unfolding new_parts calls_behind if_after
atom_no_parts Γ a ds [] = refl
atom_no_parts Γ a ds (c ∷ cs) = calls_no_parts Γ c.0 c.1 cs

pub linear_no_parts : (Γ : List ℕ) (n : ℕ) (hs : List Summand) → new_parts false Γ (linear_right (map (linear_summand n) hs)) ≡ []
unfolding new_parts if_after
linear_no_parts Γ n hs =
    of_linear (λ p. (Δ : List ℕ) → new_parts false Δ p ≡ [])
    (record {
      of_delta = λ Δ. refl;
      of_calls = λ a ds cs Δ. atom_no_parts Δ a ds cs;
      of_cond = λ d p q h k Δ. ap₂ ◌++◌ (h Δ) (k Δ);
      of_sum = λ x D p h Δ. h (Δ ++ (D ∷ []));
      of_alt = λ p q h k Δ. ap₂ ◌++◌ (h Δ) (k Δ);
    })
    n hs Γ

-- NO PROCESS AT THE HEAD

atom_at_head : (a : Act) (ds : List Data) (cs : List (ℕ × List Data)) → at_head (calls_behind (atom a ds) cs) ≡ []
unfolding at_head calls_behind
atom_at_head a ds [] = refl
atom_at_head a ds (c ∷ cs) = refl

pub linear_at_head : (n : ℕ) (hs : List Summand) → at_head (linear_right (map (linear_summand n) hs)) ≡ []
unfolding at_head
linear_at_head n hs =
    of_linear (λ p. at_head p ≡ [])
    (record { of_delta = refl; of_calls = atom_at_head; of_cond = λ d p q h k. ap₂ ◌++◌ h k; of_sum = λ x D p h. h; of_alt = λ p q h k. ap₂ ◌++◌ h k })
    n hs
