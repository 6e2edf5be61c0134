-- First nodes of data terms against one sort: a loop over the terms that are left.
use mathlib.Core.Path.{◌≡◌}
use mathlib.Core.List.{List, [], ◌∷◌, ◌++◌}
use mathlib.Core.Bool.{Bool, true, false}
use Prim.Native.Nat.{ℕ, ◌-◌, ◌<◌}
use native.Mathlib.Omega.{arith}
use lib.ListN.{length, drop, replicate}
use Rattle.pcrl.specs.Tests.{Each, Every}
use Rattle.pcrl.specs.Sheet.{Data}
use Rattle.laws.specs.Says.{said_yes, said_no}
use Rattle.nodes.specs.declared.Outline.{Outline}
use Rattle.nodes.specs.Layout.{enc_datas}
use Rattle.nodes.specs.Scoped.{ScopedData}
use Rattle.nodes.specs.Views.{SkipsData}
use Rattle.checker.specs.Fits.{Fits}
use Rattle.checker.specs.Known.{Around}
use Rattle.checker.specs.Sorts.{FitsAt, EveryFitsAt}
use Rattle.checker.proofs.EachFits.{after_one}

-- ---- one sort for all places
module _ (R : Data → ℕ → Type 0) (D : ℕ) where
  pub one_sort_each : (ds : List Data) → Every (λ d. R d D) ds → Each R ds (replicate (length ds) D)
  unfolding Each Every
  one_sort_each [] h = tt
  one_sort_each (d ∷ ds) h = (h.0, one_sort_each ds h.1)

  pub each_one_sort : (ds : List Data) → Each R ds (replicate (length ds) D) → Every (λ d. R d D) ds
  unfolding Each Every
  each_one_sort [] h = tt
  each_one_sort (d ∷ ds) h = (h.0, each_one_sort ds h.1)

-- ---- the loop
module _ (cells scope sizes funcs : List ℕ) (n : Outline) (at count sort : ℕ) where
  -- the terms es that are left stand at p; those before fit
  abbrev pub EveryLeft : ℕ → ℕ → Type 0
  EveryLeft p need =
      (w : Around scope sizes funcs n) (ds : List Data) (rest : List ℕ) → Every (ScopedData w.level) ds → length ds ≡ count → drop at cells ≡ enc_datas ds ++ rest
      → (es : List Data) × (length es ≡ need) × (drop p cells ≡ enc_datas es ++ rest) × Every (ScopedData w.level) es
      × (Every (λ d. Fits w.sig w.vars d sort) es → Every (λ d. Fits w.sig w.vars d sort) ds)
      × (Every (λ d. Fits w.sig w.vars d sort) ds → Every (λ d. Fits w.sig w.vars d sort) es)

  pub every_start : EveryLeft at count
  every_start w ds rest sc l e = (ds, l, e, sc, λ x. x, λ x. x)

  module _ (p need : ℕ) (left : EveryLeft p need) where
    pub every_done : need ≡ 0 → EveryFitsAt cells scope sizes funcs n at count sort true
    unfolding Every
    every_done z w ds rest sc l e = let v = left w ds rest sc l e in go v.0 v.1 v.4
      where
        F : List Data → Type 0
        F = Every (λ d. Fits w.sig w.vars d sort)

        go : (es : List Data) → length es ≡ need → (F es → F ds) → F ds
        go [] a f = f tt
        go (x ∷ es) a f = absurd (omega arith)

    module _ (some_left : 0 < need) (r : Bool) (fit : FitsAt cells scope sizes funcs n p sort r) where
      pub every_failed : r ≡ false → EveryFitsAt cells scope sizes funcs n at count sort false
      unfolding Every
      every_failed z w ds rest sc l e k = let v = left w ds rest sc l e in go v.0 v.1 v.2 v.3 (v.5 k)
        where
          go : (es : List Data) → length es ≡ need → drop p cells ≡ enc_datas es ++ rest → Every (ScopedData w.level) es → Every (λ d. Fits w.sig w.vars d sort) es → ⊥
          go [] a b c f = omega arith
          go (x ∷ es) a b c f = said_no r (fit w x es rest c.0 b) z f.0

      pub every_last : need ≡ 1 → r ≡ true → EveryFitsAt cells scope sizes funcs n at count sort true
      unfolding Every
      every_last one z w ds rest sc l e = let v = left w ds rest sc l e in go v.0 v.1 v.2 v.3 v.4
        where
          F : List Data → Type 0
          F = Every (λ d. Fits w.sig w.vars d sort)

          go : (es : List Data) → length es ≡ need → drop p cells ≡ enc_datas es ++ rest → Every (ScopedData w.level) es → (F es → F ds) → F ds
          go [] a b c f = absurd (omega arith)
          go (x ∷ []) a b c f = f (said_yes r (fit w x [] rest c.0 b) z, tt)
          go (x ∷ y ∷ es) a b c f = absurd (omega arith)

      pub every_step : r ≡ true → (p' : ℕ) → SkipsData cells p 1 p' → EveryLeft p' (need - 1)
      unfolding Every
      every_step z p' sk w ds rest sc l e = let v = left w ds rest sc l e in go v.0 v.1 v.2 v.3 v.4 v.5
        where
          F : List Data → Type 0
          F = Every (λ d. Fits w.sig w.vars d sort)

          go : (es : List Data) → length es ≡ need → drop p cells ≡ enc_datas es ++ rest → Every (ScopedData w.level) es → (F es → F ds) → (F ds → F es)
              → (es : List Data) × (length es ≡ need - 1) × (drop p' cells ≡ enc_datas es ++ rest) × Every (ScopedData w.level) es × (F es → F ds) × (F ds → F es)
          go [] a b c f g = absurd (omega arith)
          go (x ∷ es) a b c f g =
              let h = said_yes r (fit w x es rest c.0 b) z in (
                es,
                omega arith,
                after_one cells p p' sk x es rest b,
                c.1,
                λ k. f (h, k),
                λ k. (g k).1,
              )
