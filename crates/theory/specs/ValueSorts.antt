-- A rightly sorted data term has a value of its sort: the place of its arguments' values lies among the function's values.
use Rattle.std.proofs.Math.Path.{◌≡◌}
use Rattle.std.proofs.Common.{subst, mul_assoc}
use mathlib.Core.List.{List, [], ◌∷◌, map}
use Rattle.std.proofs.Math.Option.{some}
use Prim.Native.Nat.{ℕ, zero, suc, ◌+◌, ◌*◌, ◌<◌}
use Rattle.std.proofs.Math.Nat.{mul-le-mul_right}
use native.Mathlib.Omega.{arith}
use Rattle.std.proofs.Math.ListN.{length, get_or, get_elem?}
use Rattle.pcrl.specs.Tests.{Every, Each}
use Rattle.pcrl.specs.Sheet.{Data, val, var, app, Datas, nil, cons, Sig, size, function_at}
use Rattle.pcrl.specs.Sorts.{IsFunc, HasSort, HaveSorts, Arguments, volume}
use Rattle.pcrl.specs.Values.{place, apply, eval, evals}
use Rattle.pcrl.specs.Stack.{InSorts}
use Rattle.pcrl.specs.Right.{RightSizes, RightFunc}
use Rattle.laws.specs.Every.{every_at}
use Rattle.laws.specs.Operations.{right_function}

module _ (S : Sig) where
  -- values of some sorts have a place below the number of all values of those sorts; n of m places come before
  pub place_below : (n m : ℕ) (Ds vs : List ℕ) → n < m → InSorts S Ds vs → place S n Ds vs < m * volume S.sorts Ds
  unfolding InSorts Each place volume size
  place_below n m [] vs w h = omega arith
  place_below n m (D ∷ Ds) [] w h = absurd h
  place_below n m (D ∷ Ds) (v ∷ vs) w h =
      let s = get_or S.sorts D 0 in
      let a : v < s = h.0 in
      let b : n * s + v < m * s = omega (arith, mul-le-mul_right s w) in
      let c = place_below (n * s + v) (m * s) Ds vs b h.1 in
      rw (mul_assoc m s (volume S.sorts Ds)) at c

  sort_at : (Γ e : List ℕ) → InSorts S Γ e → (i D : ℕ) → get_elem? Γ i ≡ some D → get_or e i 0 < size S D
  unfolding InSorts Each
  sort_at [] [] h i D k = absurd (let z : ◌≡◌ {A = ℕ} 0 1 = cc in omega arith)
  sort_at [] (v ∷ e) h i D k = absurd h
  sort_at (E ∷ Γ) [] h i D k = absurd h
  sort_at (E ∷ Γ) (v ∷ e) h zero D k = let z : E ≡ D = cc in rw (← z) h.0
  sort_at (E ∷ Γ) (v ∷ e) h (suc i) D k = sort_at Γ e h.1 i D k

  module _ (right_sizes : RightSizes S.sorts) (right_funcs : Every (RightFunc S.sorts) S.funcs) where
    -- a function's value for values in its sorts
    pub apply_in : (f : ℕ) (vs : List ℕ) → IsFunc S f → InSorts S (function_at S f).takes vs → apply S f vs < size S (function_at S f).gives
    unfolding apply size RightFunc
    apply_in f vs w h =
        let g = function_at S f in
        let r = right_function S right_sizes right_funcs f w in
        let i : place S 0 g.takes vs < 1 * volume S.sorts g.takes = place_below 0 1 g.takes vs (omega arith) h in
        let l : length g.values ≡ volume S.sorts g.takes = r.1.1.0 in
        every_at _ g.values 0 (place S 0 g.takes vs) r.1.1.1 (omega arith)

    module _ (Γ e : List ℕ) (h : InSorts S Γ e) where
      mutual
        unfolding HasSort eval InSorts Each

        -- THE VALUE OF A RIGHTLY SORTED TERM IS OF ITS SORT.
        pub eval_in : (d : Data) (D : ℕ) → HasSort S (get_elem? Γ) d D → eval S e d < size S D
        eval_in (val v) D k = k
        eval_in (var i) D k = sort_at Γ e h i D k
        eval_in (app f ds) D k = subst (λ (E : ℕ). apply S f (evals S e ds) < size S E) k.1.0 (apply_in f (evals S e ds) k.0 (evals_in ds (function_at S f).takes k.1.1))

        pub evals_in : (ds : Datas) (Ds : List ℕ) → HaveSorts S (get_elem? Γ) ds Ds → InSorts S Ds (evals S e ds)
        evals_in nil [] k = tt
        evals_in nil (D ∷ Ds) k = absurd k
        evals_in (cons d ds) [] k = absurd k
        evals_in (cons d ds) (D ∷ Ds) k = (eval_in d D k.0, evals_in ds Ds k.1)

      pub values_in : (ds : List Data) (Ds : List ℕ) → Arguments S (get_elem? Γ) ds Ds → InSorts S Ds (map (eval S e) ds)
      unfolding InSorts Each
      values_in [] [] k = tt
      values_in [] (D ∷ Ds) k = absurd k
      values_in (d ∷ ds) [] k = absurd k
      values_in (d ∷ ds) (D ∷ Ds) k = (eval_in d D k.0, values_in ds Ds k.1)
