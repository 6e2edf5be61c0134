-- What is known of a right table by where its parts stand: the start, and an equation's sorts and summands.
use mathlib.Core.Path.{◌≡◌, ap, subst, ◌∙◌}
use mathlib.Core.List.{List, [], ◌∷◌}
use Prim.Native.Nat.{ℕ, ◌+◌, ◌≤◌, ◌<◌, min}
use native.Mathlib.Omega.{arith}
use lib.ListN.{length, get_or, length-append, length-drop, get_or-map}
use Rattle.pcrl.specs.Limits.{frame_width, max_summands}
use Rattle.pcrl.specs.Tests.{Every}
use Rattle.pcrl.specs.Table.{Summand, Equation, Table, equation, no_equation, params_of, summands_of}
use Rattle.pcrl.specs.Stream.{encode_start}
use Rattle.pcrl.specs.Right.{RightSorts, RightSummands, RightEquations, RightStart, RightTable}
use Rattle.laws.specs.Every.{every_at}
use Rattle.laws.specs.Each.{each_length, each_at}
use Rattle.theory.specs.TableRight.{params_length, params_at}
use Rattle.theory.specs.StepRight.{summands_right}
use Rattle.terms.specs.Stands.{Stands, list_at}
use Rattle.terms.proofs.Places.{number_at, behind, count_at}
use Rattle.firing.specs.Known.{KnownTable}
use Rattle.firing.proofs.Indexing.{sorts_there}

module _ (T : Table) (s : List ℕ) (p : ℕ) (h : Stands s p (encode_start T.start)) where
  pub start_at : get_or s p 0 ≡ T.start.0
  unfolding encode_start
  start_at = let z : p ≡ p + 0 = omega arith in ap (λ (i : ℕ). get_or s i 0) z ∙ number_at s p (T.start.0 ∷ T.start.1) 0 h (omega arith)

  pub start_values : Stands s (p + 1) T.start.1
  unfolding encode_start
  start_values = behind s p (T.start.0 ∷ []) T.start.1 h

module _ (T : Table) (s funcs acts params rows : List ℕ) (known : KnownTable T s funcs acts params rows) where
  right_start : RightStart T.sig T.equations T.start
  unfolding RightTable
  right_start = known.right.0.1.1

  few_equations : length T.equations ≤ 64
  unfolding RightTable RightEquations
  few_equations = let n = params_length T in let m = known.right.0.1.0.0.0.1 in omega arith

  pub small_number : (e : ℕ) → e < length T.equations → e < 256
  small_number e h = let few = few_equations in omega arith

  pub start_small : T.start.0 < 256
  unfolding RightStart
  start_small = small_number T.start.0 right_start.0

  pub start_count : get_or s (get_or params T.start.0 0) 0 ≡ length T.start.1
  unfolding RightStart
  start_count =
      let n = params_length T in
      count_at s (get_or params T.start.0 0) (get_or (params_of T.equations) T.start.0 []) (known.parts.params_at T.start.0 (let z = right_start.0 in omega arith)) ∙ each_length _ _ _ right_start.1

  module _ (e : ℕ) (below : e < length T.equations) where
    pub sorts_at : list_at s (get_or params e 0) ≡ (equation T e).params
    sorts_at = sorts_there T s funcs acts params rows known e below

    right_sorts : RightSorts T.sig frame_width (equation T e).params
    unfolding RightTable RightEquations
    right_sorts = let n = params_length T in subst (RightSorts T.sig frame_width) (params_at T e) (every_at (RightSorts T.sig frame_width) (params_of T.equations) [] e known.right.0.1.0.0.1 (omega arith))

    pub few_sorts : length (equation T e).params ≤ frame_width
    unfolding RightSorts
    few_sorts = right_sorts.0

    pub small_sorts : Every (λ D. D < length T.sig.sorts) (equation T e).params
    unfolding RightSorts
    small_sorts = right_sorts.1

    pub right_summands : RightSummands T.sig (params_of T.equations) (equation T e).params (equation T e).summands
    unfolding RightTable RightEquations RightSummands summands_of equation
    right_summands =
        let l = params_length T in
        let h = each_at _ (params_of T.equations) (summands_of T.equations) e [] [] (omega arith) known.right.0.1.0.1 in
        let same : get_or (summands_of T.equations) e [] ≡ (equation T e).summands = get_or-map (λ (x : Equation). x.summands) T.equations e no_equation in
        (subst (λ (hs : List Summand). length hs ≤ max_summands) same h.0, summands_right T known.right e below)

-- the start stands inside the stream
pub start_inside : (s : List ℕ) (p : ℕ) (x : ℕ × List ℕ) → Stands s p (encode_start x) → Stands s (min p (length s)) (encode_start x)
unfolding encode_start
start_inside s p x h =
    let long = ap length h.1 in
    let n = length-append (x.0 ∷ x.1) h.0 in
    let m = length-drop p s in
    let z : p ≡ min p (length s) = omega arith in
    subst (λ (q : ℕ). Stands s q (encode_start x)) z h
