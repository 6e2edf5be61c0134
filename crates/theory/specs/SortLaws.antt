-- Rightly sorted data keep their sorts: in a wider scope, and where data of the right sorts are put for variables.
use Rattle.std.proofs.Math.Path.{◌≡◌}
use mathlib.Core.List.{List, [], ◌∷◌, ◌++◌, map, append_assoc}
use Rattle.std.specs.Prelude.{Bool, true, false, length}
use Rattle.std.proofs.Math.Option.{some}
use Prim.Native.Nat.{ℕ, zero, suc, ◌<◌}
use Rattle.std.proofs.Common.{arith}
use Rattle.std.proofs.Math.ListN.{get_elem?}
use Rattle.pcrl.specs.Tests.{Every, Each}
use Rattle.pcrl.specs.Sheet.{Data, val, var, app, Datas, nil, cons, Sig, size, function_at}
use Rattle.pcrl.specs.Sorts.{Scope, HasSort, HaveSorts, Arguments}
use Rattle.pcrl.specs.Values.{put_data, put_datas}
use Rattle.pcrl.specs.Parts.{marked, as_params}
use Rattle.pcrl.specs.Heads.{look}
use Rattle.laws.specs.Lists.{some_append, get_elem?_append_seam, length_snoc}

module _ (S : Sig) (Γ Δ : Scope) (θ : ℕ → Data) (h : (i D : ℕ) → Γ i ≡ some D → HasSort S Δ (θ i) D) where
  mutual
    unfolding HasSort put_data

    -- data of the right sorts put for variables leave a term its sort
    pub put_sort : (d : Data) (D : ℕ) → HasSort S Γ d D → HasSort S Δ (put_data θ d) D
    put_sort (val v) D k = k
    put_sort (var i) D k = h i D k
    put_sort (app f ds) D k = (k.0, (k.1.0, put_sorts ds (function_at S f).takes k.1.1))

    pub put_sorts : (ds : Datas) (Ds : List ℕ) → HaveSorts S Γ ds Ds → HaveSorts S Δ (put_datas θ ds) Ds
    put_sorts nil [] k = tt
    put_sorts nil (D ∷ Ds) k = absurd k
    put_sorts (cons d ds) [] k = absurd k
    put_sorts (cons d ds) (D ∷ Ds) k = (put_sort d D k.0, put_sorts ds Ds k.1)

  pub put_arguments : (ds : List Data) (Ds : List ℕ) → Arguments S Γ ds Ds → Arguments S Δ (map (put_data θ) ds) Ds
  unfolding Each
  put_arguments [] [] k = tt
  put_arguments [] (D ∷ Ds) k = absurd k
  put_arguments (d ∷ ds) [] k = absurd k
  put_arguments (d ∷ ds) (D ∷ Ds) k = (put_sort d D k.0, put_arguments ds Ds k.1)

module _ (S : Sig) (Γ Δ : Scope) (h : (i D : ℕ) → Γ i ≡ some D → Δ i ≡ some D) where
  mutual
    unfolding HasSort

    -- what is in scope may stand in a wider one
    pub wider_sort : (d : Data) (D : ℕ) → HasSort S Γ d D → HasSort S Δ d D
    wider_sort (val v) D k = k
    wider_sort (var i) D k = h i D k
    wider_sort (app f ds) D k = (k.0, (k.1.0, wider_sorts ds (function_at S f).takes k.1.1))

    pub wider_sorts : (ds : Datas) (Ds : List ℕ) → HaveSorts S Γ ds Ds → HaveSorts S Δ ds Ds
    wider_sorts nil [] k = tt
    wider_sorts nil (D ∷ Ds) k = absurd k
    wider_sorts (cons d ds) [] k = absurd k
    wider_sorts (cons d ds) (D ∷ Ds) k = (wider_sort d D k.0, wider_sorts ds Ds k.1)

  pub wider_arguments : (ds : List Data) (Ds : List ℕ) → Arguments S Γ ds Ds → Arguments S Δ ds Ds
  unfolding Each
  wider_arguments [] [] k = tt
  wider_arguments [] (D ∷ Ds) k = absurd k
  wider_arguments (d ∷ ds) [] k = absurd k
  wider_arguments (d ∷ ds) (D ∷ Ds) k = (wider_sort d D k.0, wider_arguments ds Ds k.1)

module _ (S : Sig) where
  -- data for the variables of Γ, each of its sort, where Δ is in scope
  abbrev pub Fitting : List ℕ → List Data → List ℕ → Type 0
  Fitting Δ σ Γ = Arguments S (get_elem? Δ) σ Γ

  pub fitting_look : (Δ : List ℕ) (σ : List Data) (Γ : List ℕ) → Fitting Δ σ Γ → (i D : ℕ) → get_elem? Γ i ≡ some D → HasSort S (get_elem? Δ) (look σ i) D
  unfolding Each look
  fitting_look Δ [] [] h i D e = absurd (let z : ◌≡◌ {A = ℕ} 0 1 = cc in omega arith)
  fitting_look Δ [] (E ∷ Γ) h i D e = absurd h
  fitting_look Δ (d ∷ σ) [] h i D e = absurd h
  fitting_look Δ (d ∷ σ) (E ∷ Γ) h zero D e = let z : E ≡ D = cc in rw (← z) h.0
  fitting_look Δ (d ∷ σ) (E ∷ Γ) h (suc i) D e = fitting_look Δ σ Γ h.1 i D e

  -- one variable more, and the next variable for it
  pub fitting_next : (Δ : List ℕ) (D : ℕ) (σ : List Data) (Γ : List ℕ) → Fitting Δ σ Γ → Fitting (Δ ++ (D ∷ [])) (σ ++ (var (length Δ) ∷ [])) (Γ ++ (D ∷ []))
  unfolding Each HasSort
  fitting_next Δ D [] [] h = (get_elem?_append_seam Δ D [], tt)
  fitting_next Δ D [] (E ∷ Γ) h = absurd h
  fitting_next Δ D (d ∷ σ) [] h = absurd h
  fitting_next Δ D (d ∷ σ) (E ∷ Γ) h = (wider_sort S (get_elem? Δ) (get_elem? (Δ ++ (D ∷ []))) (some_append Δ (D ∷ [])) d E h.0, fitting_next Δ D σ Γ h.1)

  -- what stands at the marked places fits the sorts there
  pub fitting_marked : (Δ : List ℕ) (bs : List Bool) (σ : List Data) (Γ : List ℕ) → Fitting Δ σ Γ → Fitting Δ (marked bs σ) (marked bs Γ)
  unfolding Each marked
  fitting_marked Δ [] σ Γ h = tt
  fitting_marked Δ (b ∷ bs) [] [] h = tt
  fitting_marked Δ (b ∷ bs) [] (D ∷ Γ) h = absurd h
  fitting_marked Δ (b ∷ bs) (d ∷ σ) [] h = absurd h
  fitting_marked Δ (true ∷ bs) (d ∷ σ) (D ∷ Γ) h = (h.0, fitting_marked Δ bs σ Γ h.1)
  fitting_marked Δ (false ∷ bs) (d ∷ σ) (D ∷ Γ) h = fitting_marked Δ bs σ Γ h.1

  -- sorts that have a value
  abbrev pub Inhabited : List ℕ → Type 0
  Inhabited Γ = Every (λ D. 0 < size S D) Γ

  -- the marked variables as parameters, behind those of `pre`, and 0 for the others
  pub fitting_params : (pre : List ℕ) (bs : List Bool) (Γ : List ℕ) → length Γ ≡ length bs → Inhabited Γ → Fitting (pre ++ marked bs Γ) (as_params bs (length pre)) Γ
  unfolding Each HasSort marked as_params Every
  fitting_params pre [] [] e h = tt
  fitting_params pre [] (D ∷ Γ) e h = absurd (omega arith)
  fitting_params pre (b ∷ bs) [] e h = absurd (omega arith)
  fitting_params pre (true ∷ bs) (D ∷ Γ) e h =
      (get_elem?_append_seam pre D (marked bs Γ), simp (append_assoc, length_snoc) at (fitting_params (pre ++ (D ∷ [])) bs Γ (omega arith) h.1))
  fitting_params pre (false ∷ bs) (D ∷ Γ) e h = (h.0, fitting_params pre bs Γ (omega arith) h.1)
