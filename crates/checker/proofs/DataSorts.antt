-- A data term has a sort if and only if its first node fits the sort and the arguments fit in every node. By induction on the term.
use mathlib.Core.List.{List, [], ◌∷◌, ◌++◌}
use Prim.Native.Nat.{ℕ}
use Rattle.pcrl.specs.Tests.{Each, Every}
use Rattle.pcrl.specs.Sheet.{Data, val, var, app, Datas, nil, cons, list_of, Sig, function_at}
use Rattle.pcrl.specs.Sorts.{Scope, HasSort, HaveSorts, Arguments}
use Rattle.nodes.specs.Scoped.{ScopedData, ScopedArguments}
use Rattle.nodes.specs.Nodes.{data_kids}
use Rattle.checker.specs.Fits.{Fits, ArgumentsFit, Inside, InsideAll}

module _ (S : Sig) (Γ : Scope) where
  mutual
    unfolding HasSort Fits ArgumentsFit Inside Each list_of

    pub sort_fits : (d : Data) (D : ℕ) → HasSort S Γ d D → Fits S Γ d D × Inside S Γ d
    sort_fits (val v) D h = (h, tt)
    sort_fits (var i) D h = (h, tt)
    sort_fits (app f ds) D h = let k = sorts_fit ds (function_at S f).takes h.1.1 in ((h.0, h.1.0), ((h.0, k.0), k.1))

    sorts_fit : (ds : Datas) (Ds : List ℕ) → HaveSorts S Γ ds Ds → Each (Fits S Γ) (list_of ds) Ds × InsideAll S Γ ds
    sorts_fit nil [] h = (tt, tt)
    sorts_fit nil (D ∷ Ds) h = absurd h
    sorts_fit (cons d ds) [] h = absurd h
    sorts_fit (cons d ds) (D ∷ Ds) h = let k = sort_fits d D h.0 in let l = sorts_fit ds Ds h.1 in ((k.0, l.0), (k.1, l.1))

  mutual
    unfolding HasSort Fits ArgumentsFit Inside Each list_of

    pub fits_sort : (d : Data) (D : ℕ) → Fits S Γ d D → Inside S Γ d → HasSort S Γ d D
    fits_sort (val v) D h i = h
    fits_sort (var x) D h i = h
    fits_sort (app f ds) D h i = (h.0, (h.1, fit_sorts ds (function_at S f).takes i.0.1 i.1))

    fit_sorts : (ds : Datas) (Ds : List ℕ) → Each (Fits S Γ) (list_of ds) Ds → InsideAll S Γ ds → HaveSorts S Γ ds Ds
    fit_sorts nil [] h i = tt
    fit_sorts nil (D ∷ Ds) h i = absurd h
    fit_sorts (cons d ds) [] h i = absurd h
    fit_sorts (cons d ds) (D ∷ Ds) h i = (fits_sort d D h.0 i.0, fit_sorts ds Ds h.1 i.1)

  -- arguments have their sorts if they fit, each and inside
  pub arguments_fit : (ds : List Data) (Ds : List ℕ) → Arguments S Γ ds Ds → Each (Fits S Γ) ds Ds × Every (Inside S Γ) ds
  unfolding Each Every
  arguments_fit [] [] h = (tt, tt)
  arguments_fit [] (D ∷ Ds) h = absurd h
  arguments_fit (d ∷ ds) [] h = absurd h
  arguments_fit (d ∷ ds) (D ∷ Ds) h = let k = sort_fits d D h.0 in let l = arguments_fit ds Ds h.1 in ((k.0, l.0), (k.1, l.1))

  pub fit_arguments : (ds : List Data) (Ds : List ℕ) → Each (Fits S Γ) ds Ds → Every (Inside S Γ) ds → Arguments S Γ ds Ds
  unfolding Each Every
  fit_arguments [] [] h i = tt
  fit_arguments [] (D ∷ Ds) h i = absurd h
  fit_arguments (d ∷ ds) [] h i = absurd h
  fit_arguments (d ∷ ds) (D ∷ Ds) h i = (fits_sort d D h.0 i.0, fit_arguments ds Ds h.1 i.1)

  inside_arguments : (ds : Datas) (es : List Data) → InsideAll S Γ ds → Every (Inside S Γ) es → Every (Inside S Γ) (list_of ds ++ es)
  unfolding Inside list_of Every
  inside_arguments nil es a h = h
  inside_arguments (cons d ds) es a h = (a.0, inside_arguments ds es a.1 h)

  arguments_inside : (ds : Datas) (es : List Data) → Every (Inside S Γ) (list_of ds ++ es) → InsideAll S Γ ds × Every (Inside S Γ) es
  unfolding Inside list_of Every
  arguments_inside nil es h = (tt, h)
  arguments_inside (cons d ds) es h = let k = arguments_inside ds es h.1 in ((h.0, k.0), k.1)

  -- data terms opened by the first node of the first one
  pub inside_open : (d : Data) (es : List Data) → Every (Inside S Γ) (d ∷ es) → ArgumentsFit S Γ d × Every (Inside S Γ) (data_kids d ++ es)
  unfolding Inside ArgumentsFit data_kids Every
  inside_open (val v) es h = (tt, h.1)
  inside_open (var i) es h = (tt, h.1)
  inside_open (app f ds) es h = (h.0.0, inside_arguments ds es h.0.1 h.1)

  pub open_inside : (d : Data) (es : List Data) → ArgumentsFit S Γ d → Every (Inside S Γ) (data_kids d ++ es) → Every (Inside S Γ) (d ∷ es)
  unfolding Inside ArgumentsFit data_kids Every
  open_inside (val v) es a h = (tt, h)
  open_inside (var i) es a h = (tt, h)
  open_inside (app f ds) es a h = let k = arguments_inside ds es h in ((a, k.0), k.1)

-- the variables of the arguments are in scope
scoped_arguments : (m : ℕ) (ds : Datas) (es : List Data) → ScopedArguments m ds → Every (ScopedData m) es → Every (ScopedData m) (list_of ds ++ es)
unfolding ScopedData list_of Every
scoped_arguments m nil es a h = h
scoped_arguments m (cons d ds) es a h = (a.0, scoped_arguments m ds es a.1 h)

pub scoped_kids : (m : ℕ) (d : Data) (es : List Data) → ScopedData m d → Every (ScopedData m) es → Every (ScopedData m) (data_kids d ++ es)
unfolding ScopedData data_kids
scoped_kids m (val v) es a h = h
scoped_kids m (var i) es a h = h
scoped_kids m (app f ds) es a h = scoped_arguments m ds es a h
