-- First nodes of data terms against sorts: one term, then a row of sorts, a loop over what is left of both.
use mathlib.Core.Path.{◌≡◌, refl, sym, ap, ◌∙◌, subst}
use mathlib.Core.List.{List, [], ◌∷◌, ◌++◌, append_assoc, append-nil}
use mathlib.Core.Bool.{Bool, true, false}
use mathlib.Core.Option.{some}
use Prim.Native.Nat.{ℕ, ◌+◌, ◌*◌, ◌<◌, ◌≤◌}
use native.Mathlib.Omega.{arith}
use native.Mathlib.Numerals.{add-one}
use lib.Dec.{ltb, eqb}
use lib.ListN.{length, drop, get_or, drop_of_length-le, get_or-eq_default}
use lib.Seq.{drop-cons}
use Rattle.pcrl.specs.Tests.{Each, Every}
use Rattle.pcrl.specs.Sheet.{Data, val, var, app, Func, Sig, size, func, function_at}
use Rattle.pcrl.specs.Sorts.{Bool_sort, IsFunc}
use Rattle.laws.specs.Each.{each_length}
use Rattle.laws.specs.Operations.{written_function}
use Rattle.laws.specs.Says.{Says, said_yes, said_no, says_as, says_both, says_lt, says_eq}
use Rattle.nodes.specs.declared.Outline.{Outline}
use Rattle.nodes.specs.declared.Datum.{Datum}
use Rattle.nodes.specs.Layout.{value_tag, variable_tag, enc_data, enc_datas}
use Rattle.nodes.specs.Nodes.{data_tag, data_number}
use Rattle.nodes.specs.Scoped.{ScopedData}
use Rattle.nodes.specs.Held.{SortsAt, func_width}
use Rattle.nodes.specs.Views.{DataViews, SkipsData}
use Rattle.nodes.proofs.Data.{datas_inside}
use Rattle.std.specs.Prelude.{Some, None}
use Rattle.checker.specs.declared.operators.Operator.{Operator}
use Rattle.checker.specs.Fits.{Fits}
use Rattle.checker.specs.Known.{KnownSizes, Around}
use Rattle.checker.specs.Sorts.{OperatorSays, FitsAt, EachFitsAt}
use Rattle.checker.proofs.Operations.{written_there}

-- ---- sizes
pub size_inside : (S : Sig) (sizes : List ℕ) (m D : ℕ) → KnownSizes S sizes m → D < m → get_or sizes D 0 ≡ size S D
unfolding size
size_inside S sizes m D k h = k.size_at D h

pub size_outside : (S : Sig) (sizes : List ℕ) (m D : ℕ) → KnownSizes S sizes m → m ≤ D → 0 ≡ size S D
unfolding size
size_outside S sizes m D k h = let c = k.sort_count in sym (get_or-eq_default S.sorts 0 (omega arith))

-- ---- one term
module _ (cells scope sizes funcs : List ℕ) (n : Outline) (at sort : ℕ) where
  pub fits_stuck : length cells ≤ at → (r : Bool) → FitsAt cells scope sizes funcs n at sort r
  fits_stuck h r w d ds rest sc e = absurd (omega (arith, datas_inside cells at (d ∷ ds) rest e))

  module _ (x : Datum) (vw : DataViews cells at x) where
    pub fits_value : x.tag ≡ value_tag → (z : ℕ) → ((S : Sig) → KnownSizes S sizes n.sorts → z ≡ size S sort) → FitsAt cells scope sizes funcs n at sort (ltb x.number z)
    unfolding Fits data_tag data_number
    fits_value t z hz w (val v) ds rest sc e =
        let o = vw (val v) ds rest e in
        subst (λ (k : ℕ). Says (ltb x.number z) (k < size w.sig sort)) o.number_is
        (subst (λ (k : ℕ). Says (ltb x.number z) (x.number < k)) (hz w.sig w.known.sizes_are) (says_lt x.number z))
    fits_value t z hz w (var i) ds rest sc e = absurd (omega (arith, (vw (var i) ds rest e).tag_is))
    fits_value t z hz w (app f es) ds rest sc e = absurd (omega (arith, (vw (app f es) ds rest e).tag_is))

    pub fits_variable : x.tag ≡ variable_tag → (z : ℕ) → z ≡ get_or scope x.number 0 → FitsAt cells scope sizes funcs n at sort (eqb z sort)
    unfolding Fits data_tag data_number ScopedData
    fits_variable t z hz w (val v) ds rest sc e = absurd (omega (arith, (vw (val v) ds rest e).tag_is))
    fits_variable t z hz w (var i) ds rest sc e =
        let o = vw (var i) ds rest e in
        let q : w.vars i ≡ some z = w.in_scope i sc ∙ ap (λ (k : ℕ). some (get_or scope k 0)) (sym o.number_is) ∙ ap some (sym hz) in
        says_as (eqb z sort) (λ h. q ∙ ap some h) (λ h. let y : some z ≡ some sort = sym q ∙ h in cc) (says_eq z sort)
    fits_variable t z hz w (app f es) ds rest sc e = absurd (omega (arith, (vw (app f es) ds rest e).tag_is))

    module _ (no_value : x.tag ≡ value_tag → ⊥) (no_variable : x.tag ≡ variable_tag → ⊥) where
      pub fits_function : x.number < n.funcs → (z : ℕ) → z ≡ get_or funcs (func_width * x.number + 3) 0 → FitsAt cells scope sizes funcs n at sort (eqb z sort)
      unfolding Fits data_tag data_number
      fits_function h z hz w (val v) ds rest sc e = absurd (no_value (vw (val v) ds rest e).tag_is)
      fits_function h z hz w (var i) ds rest sc e = absurd (no_variable (vw (var i) ds rest e).tag_is)
      fits_function h z hz w (app f es) ds rest sc e =
          let o = vw (app f es) ds rest e in
          let c = w.known.func_count in
          let few = w.known.few_funcs in
          let is : x.number ≡ f = o.number_is in
          let g : func w.sig f ≡ function_at w.sig f = sym (written_function w.sig f (omega arith)) in
          let q : z ≡ (function_at w.sig f).gives =
          hz ∙ w.known.gives_at x.number h ∙ ap (λ (k : ℕ). (func w.sig k).gives) is ∙ ap (λ (k : Func). k.gives) g in
          says_both (eqb z sort) ((function_at w.sig f).gives ≡ sort) (written_there w.sig f (omega arith) (omega arith))
          (subst (λ (k : ℕ). Says (eqb z sort) (k ≡ sort)) q (says_eq z sort))

      module _ (h : n.funcs ≤ x.number) where
        pub fits_none : OperatorSays x.number n.sorts None → FitsAt cells scope sizes funcs n at sort false
        unfolding Fits data_tag data_number
        fits_none operator w (val v) ds rest sc e = absurd (no_value (vw (val v) ds rest e).tag_is)
        fits_none operator w (var i) ds rest sc e = absurd (no_variable (vw (var i) ds rest e).tag_is)
        fits_none operator w (app f es) ds rest sc e = λ k.
            let c = w.known.func_count in
            (operator w.sig w.known.sizes_are.sort_count (omega arith)).is_none (subst (IsFunc w.sig) (sym (vw (app f es) ds rest e).number_is) k.0)

        pub fits_operator : (r : Operator) → OperatorSays x.number n.sorts (Some r) → FitsAt cells scope sizes funcs n at sort (eqb sort Bool_sort)
        unfolding Fits data_tag data_number
        fits_operator r operator w (val v) ds rest sc e = absurd (no_value (vw (val v) ds rest e).tag_is)
        fits_operator r operator w (var i) ds rest sc e = absurd (no_variable (vw (var i) ds rest e).tag_is)
        fits_operator r operator w (app f es) ds rest sc e =
            let c = w.known.func_count in
            let o = operator w.sig w.known.sizes_are.sort_count (omega arith) in
            let g = o.gives_Bool in
            subst (λ (k : ℕ). Says (eqb sort Bool_sort) (IsFunc w.sig k × ((function_at w.sig k).gives ≡ sort))) (vw (app f es) ds rest e).number_is
            (says_both (eqb sort Bool_sort) ((function_at w.sig x.number).gives ≡ sort) o.is_there
            (says_as (eqb sort Bool_sort) (λ k. g ∙ sym k) (λ k. sym k ∙ g) (says_eq sort Bool_sort)))

-- the place after one term
pub after_one : (cells : List ℕ) (p p' : ℕ) → SkipsData cells p 1 p' → (x : Data) (es : List Data) (rest : List ℕ)
    → drop p cells ≡ enc_datas (x ∷ es) ++ rest → drop p' cells ≡ enc_datas es ++ rest
unfolding enc_datas
after_one cells p p' sk x es rest e =
    sk (x ∷ []) (enc_datas es ++ rest) refl
    (e ∙ append_assoc (enc_data x) (enc_datas es) rest ∙ ap (λ (m : List ℕ). m ++ (enc_datas es ++ rest)) (sym (append-nil (enc_data x))))

-- ---- a row of sorts
module _ (cells scope sizes funcs : List ℕ) (n : Outline) (at count : ℕ) (row : List ℕ) (start : ℕ) where
  pub each_uneven : (get_or row start 0 ≡ count → ⊥) → EachFitsAt cells scope sizes funcs n at count row start false
  each_uneven h w ds Ds rest sc l s e = λ k. h (s.many ∙ sym (each_length (Fits w.sig w.vars) ds Ds k) ∙ l)

  -- the terms es that are left stand at p; those before fit the first i sorts
  abbrev pub EachLeft : ℕ → ℕ → Type 0
  EachLeft p i =
      (w : Around scope sizes funcs n) (ds : List Data) (Ds rest : List ℕ) → Every (ScopedData w.level) ds → length ds ≡ count → SortsAt Ds row start → drop at cells ≡ enc_datas ds ++ rest
      → (es : List Data) × (length es + i ≡ count) × (drop p cells ≡ enc_datas es ++ rest) × Every (ScopedData w.level) es
      × (Each (Fits w.sig w.vars) es (drop i Ds) → Each (Fits w.sig w.vars) ds Ds) × (Each (Fits w.sig w.vars) ds Ds → Each (Fits w.sig w.vars) es (drop i Ds))

  pub each_start : EachLeft at 0
  each_start w ds Ds rest sc l s e = (ds, omega arith, e, sc, λ x. x, λ x. x)

  module _ (p i : ℕ) (left : EachLeft p i) (even : get_or row start 0 ≡ count) where
    pub each_done : i ≡ count → EachFitsAt cells scope sizes funcs n at count row start true
    unfolding Each
    each_done z w ds Ds rest sc l s e = go (left w ds Ds rest sc l s e).0 (left w ds Ds rest sc l s e).1 (left w ds Ds rest sc l s e).4
      where
        go : (es : List Data) → length es + i ≡ count → (Each (Fits w.sig w.vars) es (drop i Ds) → Each (Fits w.sig w.vars) ds Ds) → Each (Fits w.sig w.vars) ds Ds
        go [] a f = f (subst (Each (Fits w.sig w.vars) []) (sym (drop_of_length-le Ds {i = i} (omega (arith, s.many)))) tt)
        go (x ∷ es) a f = absurd (omega arith)

    -- the sort of the next place
    next_sort : (Ds : List ℕ) → SortsAt Ds row start → i < count → (sort : ℕ) → sort ≡ get_or row (start + 1 + i) 0 → drop i Ds ≡ sort ∷ drop (i + 1) Ds
    next_sort Ds s h sort q =
        let m = s.many in
        let y : i < length Ds = omega arith in
        drop-cons Ds i 0 y ∙ ap (λ (k : ℕ). get_or Ds i 0 ∷ drop k Ds) (sym (add-one i)) ∙ ap (λ (k : ℕ). k ∷ drop (i + 1) Ds) (sym (q ∙ s.each i y))

    module _ (inside : i < count) (sort : ℕ) (is : sort ≡ get_or row (start + 1 + i) 0) (r : Bool) (fit : FitsAt cells scope sizes funcs n p sort r) where
      pub each_failed : r ≡ false → EachFitsAt cells scope sizes funcs n at count row start false
      unfolding Each Every
      each_failed z w ds Ds rest sc l s e k = let v = left w ds Ds rest sc l s e in go v.0 v.1 v.2 v.3 (v.5 k)
        where
          go : (es : List Data) → length es + i ≡ count → drop p cells ≡ enc_datas es ++ rest → Every (ScopedData w.level) es → Each (Fits w.sig w.vars) es (drop i Ds) → ⊥
          go [] a b c f = omega arith
          go (x ∷ es) a b c f =
              said_no r (fit w x es rest c.0 b) z
              (subst (Each (Fits w.sig w.vars) (x ∷ es)) (next_sort Ds s inside sort is) f).0

      pub each_last : i + 1 ≡ count → r ≡ true → EachFitsAt cells scope sizes funcs n at count row start true
      unfolding Each Every
      each_last one z w ds Ds rest sc l s e = let v = left w ds Ds rest sc l s e in go v.0 v.1 v.2 v.3 v.4
        where
          F : Data → ℕ → Type 0
          F = Fits w.sig w.vars

          go : (es : List Data) → length es + i ≡ count → drop p cells ≡ enc_datas es ++ rest → Every (ScopedData w.level) es → (Each F es (drop i Ds) → Each F ds Ds) → Each F ds Ds
          go [] a b c f = absurd (omega arith)
          go (x ∷ []) a b c f =
              let none : drop (i + 1) Ds ≡ [] = drop_of_length-le Ds {i = i + 1} (omega (arith, s.many)) in
              let h = said_yes r (fit w x [] rest c.0 b) z in
              f (subst (Each F (x ∷ [])) (sym (next_sort Ds s inside sort is)) (h, subst (Each F []) (sym none) tt))
          go (x ∷ y ∷ es) a b c f = absurd (omega arith)

      pub each_step : r ≡ true → (p' : ℕ) → SkipsData cells p 1 p' → EachLeft p' (i + 1)
      unfolding Each Every
      each_step z p' sk w ds Ds rest sc l s e = let v = left w ds Ds rest sc l s e in go v.0 v.1 v.2 v.3 v.4 v.5
        where
          F : Data → ℕ → Type 0
          F = Fits w.sig w.vars

          go : (es : List Data) → length es + i ≡ count → drop p cells ≡ enc_datas es ++ rest → Every (ScopedData w.level) es
              → (Each F es (drop i Ds) → Each F ds Ds) → (Each F ds Ds → Each F es (drop i Ds))
              → (es : List Data) × (length es + (i + 1) ≡ count) × (drop p' cells ≡ enc_datas es ++ rest) × Every (ScopedData w.level) es
              × (Each F es (drop (i + 1) Ds) → Each F ds Ds) × (Each F ds Ds → Each F es (drop (i + 1) Ds))
          go [] a b c f g = absurd (omega arith)
          go (x ∷ es) a b c f g =
              let q = next_sort Ds s inside sort is in
              let h = said_yes r (fit w x es rest c.0 b) z in (
                es,
                omega arith,
                after_one cells p p' sk x es rest b,
                c.1,
                λ k. f (subst (Each F (x ∷ es)) (sym q) (h, k)),
                λ k. (subst (Each F (x ∷ es)) q (g k)).1,
              )
