-- What the index of a right table makes known, and what that says of an equation's summands.
use mathlib.Core.Path.{◌≡◌, ap, sym, subst, ◌∙◌}
use mathlib.Core.List.{List, []}
use Prim.Native.Nat.{ℕ, ◌+◌, ◌<◌, ◌≤◌}
use native.Mathlib.Omega.{arith}
use lib.ListN.{length, get_or, take, drop, length-map, get_or-map}
use lib.Seq.{get_or-take, get_or-drop, length-take-le, ext_get_or}
use Rattle.pcrl.specs.Limits.{frame_width, max_arity, max_functions}
use Rattle.pcrl.specs.Tests.{Between, Every}
use Rattle.pcrl.specs.Sheet.{no_func, Action, no_action, size, func}
use Rattle.pcrl.specs.Table.{Summand, Equation, Table, no_equation, equation, params_of, summands_of}
use Rattle.pcrl.specs.Stack.{InSorts}
use Rattle.pcrl.specs.Stream.{encode_numbers, encode_list, encode_func, encode_action, encode_summand}
use Rattle.pcrl.specs.Right.{RightAction, RightSizes, RightSig, RightSorts, RightEquations, RightTable}
use Rattle.laws.specs.Each.{each_length}
use Rattle.laws.specs.Every.{every_at, every_weaken}
use Rattle.theory.specs.TableRight.{params_length, params_at}
use Rattle.theory.specs.StepRight.{summands_right}
use Rattle.terms.specs.Stands.{Stands, Standing, list_at, size_in}
use Rattle.terms.proofs.Places.{stands_there, list_is}
use Rattle.evaluation.specs.Known.{KnownTerms}
use Rattle.tables.specs.Indexed.{Indexed}
use Rattle.tables.specs.declared.Index.{Index}
use Rattle.firing.specs.Known.{KnownParts, AtRow, KnownTable, ActsAt}

-- a piece stands at its place in an array of which only the first n places are used
pub there : {A : Type 0} (encode : A → List ℕ) (s : List ℕ) (xs : List A) (places : List ℕ) (n : ℕ) (a : A) → n ≡ length xs → Standing encode s xs (take n places) → (i : ℕ) → i < length xs → Stands s (get_or places i 0) (encode (get_or xs i a))
there encode s xs places n a e k i h = subst (λ (p : ℕ). Stands s p (encode (get_or xs i a))) (get_or-take n places i 0 (omega arith)) (stands_there encode s xs (take n places) k a i h)

module _ (T : Table) (s : List ℕ) (index : Index) (indexed : Indexed T s index) (right : RightTable T) where
  right_sig : RightSig T.sig
  unfolding RightTable
  right_sig = right.0.0

  -- a size is at most 16, so its byte is the whole of it
  size_known : (D : ℕ) → D < length T.sig.sorts → size_in index.funcs D ≡ size T.sig D
  unfolding RightSig RightSizes size
  size_known D h =
      let n = indexed.sorts_are in
      let b = every_at (Between 1 16) T.sig.sorts 0 D right_sig.0.0.1 h in
      let e : get_or index.funcs (max_functions + D) 0 ≡ get_or T.sig.sorts D 0 =
      sym (get_or-take index.sort_count (drop max_functions index.funcs) D 0 (omega arith) ∙ get_or-drop max_functions index.funcs D 0) ∙ ap (λ (l : List ℕ). get_or l D 0) indexed.parts.sizes_are in
      omega arith

  pub terms_known : KnownTerms T.sig s index.funcs
  unfolding RightSig func
  terms_known =
      record {
        size_at = size_known;
        func_at = λ f h. there encode_func s T.sig.funcs index.funcs index.functions no_func indexed.functions_are indexed.parts.funcs_stand f h;
        right_sizes = right_sig.0;
        right_funcs = right_sig.1.0.1;
      }

  few_parameters : Every (λ (Ds : List ℕ). length Ds ≤ frame_width) (params_of T.equations)
  unfolding RightTable RightEquations RightSorts
  few_parameters = every_weaken (RightSorts T.sig frame_width) (λ (Ds : List ℕ). length Ds ≤ frame_width) (λ Ds k. k.0) (params_of T.equations) right.0.1.0.0.1

  pub parts_known : KnownParts T.sig (params_of T.equations) s index.acts index.params
  unfolding RightSig RightAction
  parts_known =
      record {
        act_at = λ a h. there encode_action s T.sig.acts index.acts index.actions no_action indexed.actions_are indexed.parts.acts_stand a h;
        params_at = λ e h. there encode_numbers s (params_of T.equations) index.params index.equations [] (indexed.equations_are ∙ sym (params_length T)) indexed.parts.params_stand e h;
        few_acts = right_sig.1.1.0.0;
        few_sorts = every_weaken (RightAction T.sig.sorts) (λ (a : Action). length a.takes ≤ max_arity) (λ a k. k.1.0) T.sig.acts right_sig.1.1.0.1;
        few_params = few_parameters;
      }

  pub known_table : KnownTable T s index.funcs index.acts index.params index.rows
  unfolding equation summands_of
  known_table =
      record {
        right = right;
        terms = terms_known;
        parts = parts_known;
        rows_at = λ e h.
            let es = T.equations in
            let m : length (summands_of es) ≡ length es = length-map es (λ (x : Equation). x.summands) in
            let same : get_or (summands_of es) e [] ≡ (equation T e).summands = get_or-map (λ (x : Equation). x.summands) es e no_equation in
            subst (λ (hs : List Summand). Stands s (get_or index.rows e 0) (encode_list encode_summand hs)) same (there (encode_list encode_summand) s (summands_of es) index.rows index.equations [] (indexed.equations_are ∙ sym m) indexed.parts.rows_stand e (omega arith));
      }

pub acts_at : (T : Table) (s : List ℕ) (index : Index) → Indexed T s index → ActsAt T.sig s index.acts index.actions
acts_at T s index indexed = record {
  count = indexed.actions_are;
  act_at = λ a h. there encode_action s T.sig.acts index.acts index.actions no_action indexed.actions_are indexed.parts.acts_stand a h;
}

module _ (T : Table) (s funcs acts params rows : List ℕ) (known : KnownTable T s funcs acts params rows) where
  many : length (params_of T.equations) ≡ length T.equations
  many = params_length T

  module _ (e : ℕ) (below : e < length T.equations) where
    own : get_or (params_of T.equations) e [] ≡ (equation T e).params
    own = params_at T e

    -- the sorts of the equation's parameters stand at its place
    pub sorts_there : list_at s (get_or params e 0) ≡ (equation T e).params
    sorts_there = let n = many in list_is s (get_or params e 0) (get_or (params_of T.equations) e []) (known.parts.params_at e (omega arith)) ∙ own

    module _ (vs : List ℕ) (in_sorts : InSorts T.sig (equation T e).params vs) where
      pub at_row : AtRow T.sig (params_of T.equations) s funcs acts params (equation T e).params vs (equation T e).summands
      at_row =
          record {
            known = known.terms;
            parts = known.parts;
            right = summands_right T known.right e below;
            few = subst (λ (Ds : List ℕ). length Ds ≤ frame_width) own (every_at (λ (Ds : List ℕ). length Ds ≤ frame_width) (params_of T.equations) [] e known.parts.few_params (let z = many in omega arith));
            in_sorts = in_sorts;
          }

      -- as many values as parameters
      pub values_first : (p : ℕ) (first params : List ℕ) → p ≡ length (get_or (params_of T.equations) e []) → length first ≡ 8 → p ≤ frame_width → ((i : ℕ) → i < p → get_or first i 0 ≡ get_or params i 0) → take (length vs) params ≡ vs → take p first ≡ vs
      unfolding InSorts
      values_first p first params ep l8 few same ev =
          let n : length (equation T e).params ≡ length vs = each_length (λ (D v : ℕ). v < size T.sig D) (equation T e).params vs in_sorts in
          let q : p ≡ length vs = ep ∙ ap length own ∙ n in
          let l : length (take p first) ≡ p = length-take-le p first (omega arith) in
          ext_get_or 0 (take p first) vs (omega arith) (λ i h.
          let k : i < p = omega arith in
          get_or-take p first i 0 k ∙ same i k ∙ sym (get_or-take (length vs) params i 0 (omega arith)) ∙ ap (λ (x : List ℕ). get_or x i 0) ev)
