-- The symbols of rightly sorted terms without variables: their cells are those of the terms, and what they make are the terms' values.
use mathlib.Core.Path.{◌≡◌, refl, sym, ap, ◌∙◌}
use mathlib.Core.List.{List, [], ◌∷◌, ◌++◌, append-nil, append_assoc, map}
use mathlib.Core.Option.{none-ne-some}
use Prim.Native.Nat.{ℕ, zero, suc, ◌+◌, ◌*◌, ◌≤◌}
use native.Mathlib.Omega.{arith}
use lib.ListN.{length}
use Rattle.pcrl.specs.Tests.{Each}
use Rattle.pcrl.specs.Sheet.{Data, val, var, app, Datas, nil, cons, list_of, Sig, function_at}
use Rattle.pcrl.specs.Sorts.{closed, IsFunc, HasSort, HaveSorts, Arguments}
use Rattle.pcrl.specs.Values.{apply, eval, evals}
use Rattle.laws.specs.DataSorts.{have_sorts_many}
use Rattle.nodes.specs.Layout.{function_tag, enc_data, enc_arguments, enc_datas}
use Rattle.initial.specs.Symbols.{Symbol, symbol_cells, cells_of, function, symbols, argument_symbols, all_symbols, after, run}
use Rattle.initial.specs.Evaluating.{Known}
use Rattle.initial.proofs.Functions.{value_below, of_one, of_two, arity_some}

function_cells : (f n : ℕ) → 1 ≤ n → n ≤ 2 → symbol_cells (function f n) ≡ (4 * f + function_tag) ∷ n ∷ []
unfolding symbol_cells function
function_cells f zero h k = absurd (omega arith)
function_cells f (suc zero) h k = refl
function_cells f (suc (suc zero)) h k = refl
function_cells f (suc (suc (suc n))) h k = absurd (omega arith)

module _ (S : Sig) (sizes funcs values places : List ℕ) (K : Known S sizes funcs values places) where
  -- THE CELLS
  mutual
    unfolding HasSort enc_data symbols cells_of symbol_cells

    cells_data : (d : Data) (D : ℕ) (l : List Symbol) → HasSort S closed d D → cells_of (symbols d l) ≡ cells_of l ++ enc_data d
    cells_data (val v) D l h = refl
    cells_data (var i) D l h = absurd (none-ne-some D h)
    cells_data (app f ds) D l h =
        let some = arity_some S sizes funcs values places K f h.0 in
        let n = have_sorts_many S closed ds (function_at S f).takes h.1.1 in
        cells_arguments ds (function_at S f).takes (function f (length (list_of ds)) ∷ l) h.1.1
        ∙ append_assoc (cells_of l) (symbol_cells (function f (length (list_of ds)))) (enc_arguments ds)
        ∙ ap (λ (c : List ℕ). cells_of l ++ (c ++ enc_arguments ds)) (function_cells f (length (list_of ds)) (omega arith) (omega arith))

    cells_arguments : (ds : Datas) (Ds : List ℕ) (l : List Symbol) → HaveSorts S closed ds Ds → cells_of (argument_symbols ds l) ≡ cells_of l ++ enc_arguments ds
    cells_arguments nil Ds l h = sym (append-nil (cells_of l))
    cells_arguments (cons d ds) [] l h = absurd h
    cells_arguments (cons d ds) (D ∷ Ds) l h =
        cells_arguments ds Ds (symbols d l) h.1 ∙ ap (λ (c : List ℕ). c ++ enc_arguments ds) (cells_data d D l h.0) ∙ append_assoc (cells_of l) (enc_data d) (enc_arguments ds)

  pub all_cells : (ds : List Data) (Ds : List ℕ) (l : List Symbol) → Arguments S closed ds Ds → cells_of (all_symbols ds l) ≡ cells_of l ++ enc_datas ds
  unfolding Each all_symbols enc_datas
  all_cells [] Ds l h = sym (append-nil (cells_of l))
  all_cells (d ∷ ds) [] l h = absurd h
  all_cells (d ∷ ds) (D ∷ Ds) l h = all_cells ds Ds (symbols d l) h.1 ∙ ap (λ (c : List ℕ). c ++ enc_datas ds) (cells_data d D l h.0) ∙ append_assoc (cells_of l) (enc_data d) (enc_datas ds)

  -- THE VALUES

  -- a function's symbol takes its arguments' values
  after_function : (f : ℕ) (ds : Datas) (s : List ℕ) → IsFunc S f → HaveSorts S closed ds (function_at S f).takes
      → after sizes funcs values places (function f (length (list_of ds))) (evals S [] ds ++ s) ≡ apply S f (evals S [] ds) ∷ s
  unfolding HaveSorts evals list_of function after
  after_function f ds s known h = go ds (function_at S f).takes refl h
    where
      go : (es : Datas) (Ds : List ℕ) → (function_at S f).takes ≡ Ds → HaveSorts S closed es Ds → after sizes funcs values places (function f (length (list_of es))) (evals S [] es ++ s) ≡ apply S f (evals S [] es) ∷ s
      go nil [] t h = absurd (omega (arith, arity_some S sizes funcs values places K f known, ap length t))
      go nil (D ∷ Ds) t h = absurd h
      go (cons c es) [] t h = absurd h
      go (cons c nil) (D ∷ []) t h = ap (λ (x : ℕ). x ∷ s) (of_one S sizes funcs values places K f known (eval S [] c) D t (value_below S sizes funcs values places K c D h.0))
      go (cons c nil) (D ∷ E ∷ Ds) t h = absurd h.1
      go (cons c (cons d es)) (D ∷ []) t h = absurd h.1
      go (cons c (cons d nil)) (D ∷ E ∷ []) t h =
          ap (λ (x : ℕ). x ∷ s)
          (of_two S sizes funcs values places K f known (eval S [] c) (eval S [] d) D E t
          (value_below S sizes funcs values places K c D h.0)
          (value_below S sizes funcs values places K d E h.1.0))
      go (cons c (cons d (cons g es))) (D ∷ E ∷ []) t h = absurd h.1.1
      go (cons c (cons d es)) (D ∷ E ∷ F ∷ Ds) t h = absurd (omega (arith, arity_some S sizes funcs values places K f known, ap length t))

  mutual
    unfolding HasSort eval symbols run after

    run_data : (d : Data) (D : ℕ) (l : List Symbol) (s : List ℕ) → HasSort S closed d D → run sizes funcs values places (symbols d l) s ≡ run sizes funcs values places l (eval S [] d ∷ s)
    run_data (val v) D l s h = refl
    run_data (var i) D l s h = absurd (none-ne-some D h)
    run_data (app f ds) D l s h = run_arguments ds (function_at S f).takes (function f (length (list_of ds)) ∷ l) s h.1.1 ∙ ap (run sizes funcs values places l) (after_function f ds s h.0 h.1.1)

    run_arguments : (ds : Datas) (Ds : List ℕ) (l : List Symbol) (s : List ℕ) → HaveSorts S closed ds Ds → run sizes funcs values places (argument_symbols ds l) s ≡ run sizes funcs values places l (evals S [] ds ++ s)
    run_arguments nil Ds l s h = refl
    run_arguments (cons d ds) [] l s h = absurd h
    run_arguments (cons d ds) (D ∷ Ds) l s h = run_arguments ds Ds (symbols d l) s h.1 ∙ run_data d D l (evals S [] ds ++ s) h.0

  pub run_all : (ds : List Data) (Ds : List ℕ) (l : List Symbol) (s : List ℕ) → Arguments S closed ds Ds → run sizes funcs values places (all_symbols ds l) s ≡ run sizes funcs values places l (map (eval S []) ds ++ s)
  unfolding Each all_symbols
  run_all [] Ds l s h = refl
  run_all (d ∷ ds) [] l s h = absurd h
  run_all (d ∷ ds) (D ∷ Ds) l s h = run_all ds Ds (symbols d l) s h.1 ∙ run_data d D l (map (eval S []) ds ++ s) h.0
