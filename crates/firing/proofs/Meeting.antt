-- The values of all variables of a summand, and what it gives: the outcomes for the assignments that meet its conditions.
use mathlib.Core.Path.{◌≡◌, refl, ap, ap₂, sym, subst, ◌∙◌}
use mathlib.Core.List.{List, [], ◌∷◌, ◌++◌, map}
use mathlib.Core.Bool.{Bool}
use Prim.Native.Nat.{ℕ, zero, suc, ◌<◌, ◌≤◌}
use native.Mathlib.Omega.{arith}
use lib.ListN.{length, get_or, take, length-map, length-append}
use Rattle.pcrl.specs.Limits.{frame_width, max_variables}
use Rattle.pcrl.specs.Tests.{Between}
use Rattle.pcrl.specs.Reader.{all}
use Rattle.pcrl.specs.Lists.{tabulate}
use Rattle.pcrl.specs.Sheet.{Sig, size}
use Rattle.pcrl.specs.Table.{Summand}
use Rattle.pcrl.specs.Label.{Label}
use Rattle.pcrl.specs.Stack.{Frame, InSorts}
use Rattle.pcrl.specs.Stream.{variable_code}
use Rattle.pcrl.specs.Steps.{Meets, meets?, if_met, outcome, fired}
use Rattle.pcrl.specs.Right.{RightSizes, AreSorts}
use Rattle.laws.specs.Every.{every_at}
use Rattle.laws.specs.Lists.{get_d_map}
use Rattle.theory.specs.StepRight.{in_sorts_append}
use Rattle.evaluation.specs.Known.{KnownTerms, Alike}
use Rattle.assignments.specs.Places.{product, digits_of, places}
use Rattle.assignments.specs.Conditions.{env}
use Rattle.opening.specs.Opened.{sizes_of}
use Rattle.firing.specs.Known.{Valued}
use Rattle.firing.proofs.Listing.{Positive, answer, values_tab, values_in, sizes_product, sizes_values, passing}

-- lists that differ only where both read 0
append_alike : (l m n : List ℕ) → Alike m n → Alike (l ++ m) (l ++ n)
append_alike [] m n h i = h i
append_alike (x ∷ l) m n h zero = refl
append_alike (x ∷ l) m n h (suc i) = append_alike l m n h i

all_tab : {A B : Type 0} (G : A → List B) (n : ℕ) (f : ℕ → A) (g : ℕ → ℕ) → all G (tabulate n (λ i. f (g i))) ≡ all (λ i. G (f i)) (tabulate n g)
unfolding tabulate all
all_tab G zero f g = refl
all_tab {A} {B} G (suc n) f g = ap (λ (l : List B). G (f (g zero)) ++ l) (all_tab G n f (λ i. g (suc i)))

module _ (S : Sig) (s funcs Δ vs : List ℕ) (h : Summand) (known : KnownTerms S s funcs) (few : length Δ ≤ frame_width) (in_Δ : InSorts S Δ vs) (sorts : AreSorts S.sorts h.vars) (few_vars : length h.vars ≤ max_variables) where
  abbrev Γ : List ℕ
  Γ = Δ ++ h.vars

  pub short : length Γ ≤ variable_code
  short = omega (arith, length-append Δ h.vars)

  abbrev ns : List ℕ
  ns = map (size S) h.vars

  positive : Positive ns
  unfolding size RightSizes
  positive i k =
      let l = length-map h.vars (size S) in
      let z : get_or ns i 0 ≡ size S (get_or h.vars i 0) = get_d_map (size S) h.vars i 0 0 (omega arith) in
      let d : get_or h.vars i 0 < length S.sorts = every_at (λ D. D < length S.sorts) h.vars 0 i sorts (omega arith) in
      let b : Between 1 16 (get_or S.sorts (get_or h.vars i 0) 0) = every_at (Between 1 16) S.sorts 0 (get_or h.vars i 0) known.right_sizes.0.1 d in
      rw z b.0

  -- the values of all variables
  abbrev pub whole : ℕ → List ℕ
  whole j = vs ++ digits_of ns j

  pub whole_valued : (p : ℕ) (first sizes : List ℕ) → take p first ≡ vs → sizes ≡ sizes_of S h.vars → (j : ℕ) → Valued S s funcs (env p first (digits_of sizes j)) Γ (whole j)
  whole_valued p first sizes e ez j =
      let alike : Alike (vs ++ digits_of (sizes_of S h.vars) j) (whole j) = append_alike vs (digits_of (sizes_of S h.vars) j) (digits_of ns j) (sizes_values S h.vars j) in
      record {
        known = known;
        short = short;
        in_sorts = in_sorts_append S Δ h.vars vs (digits_of ns j) in_Δ (values_in S h.vars positive j);
        alike = subst (λ (l : List ℕ). Alike l (whole j)) (sym (ap₂ (λ (l z : List ℕ). l ++ digits_of z j) e ez)) alike;
      }

  abbrev pub passes : ℕ → Bool
  passes j = answer (meets? S (whole j) h.conds)

  -- WHAT THE SUMMAND GIVES
  pub fired_is : fired frame_width S vs h ≡ map (λ j. outcome frame_width S (whole j) h) (places passes (product (sizes_of S h.vars)) 0)
  unfolding fired
  fired_is =
      let N = product ns in
      let G : List ℕ → List (Label × List Frame) = λ ws. if_met (meets? S (vs ++ ws) h.conds) (outcome frame_width S (vs ++ ws) h) in
      ap (all G) (values_tab S h.vars positive)
      ∙ all_tab G N (digits_of ns) (λ i. i)
      ∙ passing (λ j. Meets S (whole j) h.conds) (λ j. meets? S (whole j) h.conds) (λ j. outcome frame_width S (whole j) h) N 0 (λ i. i) (λ i. omega arith)
      ∙ ap (λ (x : ℕ). map (λ j. outcome frame_width S (whole j) h) (places passes x 0)) (sym (sizes_product S h.vars))
