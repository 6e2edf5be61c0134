-- The arguments of every node of data terms fit: one node, then a loop over the terms that are left. Then arguments have the sorts of a row.
use mathlib.Core.Path.{◌≡◌, refl, sym, ap, ◌∙◌, subst}
use mathlib.Core.List.{List, [], ◌∷◌, ◌++◌, append_assoc}
use mathlib.Core.Bool.{Bool, true, false}
use Prim.Native.Nat.{ℕ, ◌+◌, ◌-◌, ◌*◌, ◌<◌, ◌≤◌}
use native.Mathlib.Omega.{arith}
use lib.ListN.{length, drop, replicate, length-append, length-replicate}
use Rattle.pcrl.specs.Tests.{Each, Every}
use Rattle.pcrl.specs.Sheet.{Data, val, var, app, Datas, nil, cons, list_of, Func, func, function_at}
use Rattle.pcrl.specs.Sorts.{Bool_sort, IsFunc}
use Rattle.laws.specs.Each.{each_length}
use Rattle.laws.specs.Every.{every_append, every_left}
use Rattle.laws.specs.Operations.{written_function}
use Rattle.laws.specs.Says.{said_yes, said_no, says_as, says_both}
use Rattle.nodes.specs.declared.Outline.{Outline}
use Rattle.nodes.specs.declared.Datum.{Datum}
use Rattle.nodes.specs.Layout.{function_tag, enc_data, enc_datas}
use Rattle.nodes.specs.Nodes.{data_tag, data_number, data_kids}
use Rattle.nodes.specs.Scoped.{ScopedData, ScopedArguments}
use Rattle.nodes.specs.Held.{SortsAt, func_width}
use Rattle.nodes.specs.Views.{DataViews}
use Rattle.nodes.proofs.Data.{datas_inside}
use Rattle.std.specs.Prelude.{Some, None}
use Rattle.checker.specs.declared.operators.Operator.{Operator}
use Rattle.checker.specs.Fits.{Fits, ArgumentsFit, Inside, BoolsBefore}
use Rattle.checker.specs.Known.{Around}
use Rattle.checker.specs.Sorts.{OperatorSays, TakesBools, BoolsAt, EachFitsAt, EveryFitsAt, ArgumentsFitAt, AllFitAt, ArgumentsAt}
use Rattle.checker.proofs.Operations.{written_there}
use Rattle.checker.proofs.EveryFits.{one_sort_each, each_one_sort}
use Rattle.checker.proofs.DataSorts.{arguments_fit, fit_arguments, inside_open, open_inside, scoped_kids}
use Rattle.checker.proofs.Runs.{bools_many, bools_fit, fit_bools}

-- ---- one node
enc_datas_append : (es ds : List Data) (rest : List ℕ) → enc_datas (es ++ ds) ++ rest ≡ enc_datas es ++ (enc_datas ds ++ rest)
unfolding enc_datas
enc_datas_append [] ds rest = refl
enc_datas_append (e ∷ es) ds rest =
    append_assoc (enc_data e) (enc_datas (es ++ ds)) rest ∙ ap (λ (l : List ℕ). enc_data e ++ l) (enc_datas_append es ds rest)
    ∙ sym (append_assoc (enc_data e) (enc_datas es) (enc_datas ds ++ rest))

scoped_list : (m : ℕ) (ds : Datas) → ScopedArguments m ds → Every (ScopedData m) (list_of ds)
unfolding ScopedData list_of Every
scoped_list m nil a = tt
scoped_list m (cons d ds) a = (a.0, scoped_list m ds a.1)

module _ (cells scope sizes funcs : List ℕ) (n : Outline) (x : Datum) where
  pub leaf_fits : (x.tag ≡ function_tag → ⊥) → ArgumentsFitAt cells scope sizes funcs n x true
  unfolding ArgumentsFit data_tag
  leaf_fits h w (val v) ds rest sc o = tt
  leaf_fits h w (var i) ds rest sc o = tt
  leaf_fits h w (app f es) ds rest sc o = absurd (h o.tag_is)

  pub function_fits : x.tag ≡ function_tag → x.number < n.funcs → (r : Bool) → EachFitsAt cells scope sizes funcs n x.next x.kids funcs (func_width * x.number) r
      → ArgumentsFitAt cells scope sizes funcs n x r
  unfolding ArgumentsFit data_tag data_number data_kids ScopedData
  function_fits t h r fit w (val v) ds rest sc o = absurd (omega (arith, o.tag_is))
  function_fits t h r fit w (var i) ds rest sc o = absurd (omega (arith, o.tag_is))
  function_fits t h r fit w (app f es) ds rest sc o =
      let c = w.known.func_count in
      let few = w.known.few_funcs in
      let is : x.number ≡ f = o.number_is in
      let g : func w.sig f ≡ function_at w.sig f = sym (written_function w.sig f (omega arith)) in
      let row : SortsAt (func w.sig f).takes funcs (func_width * x.number) =
      subst (λ (k : ℕ). SortsAt (func w.sig k).takes funcs (func_width * x.number)) is (w.known.takes_at x.number h) in
      says_both r (Each (Fits w.sig w.vars) (list_of es) (function_at w.sig f).takes) (written_there w.sig f (omega arith) (omega arith))
      (fit w (list_of es) (function_at w.sig f).takes (enc_datas ds ++ rest) (scoped_list w.level es sc) (sym o.kids_is)
      (subst (λ (k : Func). SortsAt k.takes funcs (func_width * x.number)) g row) (o.next_is ∙ enc_datas_append (list_of es) ds rest))

  -- what is no written function
  module _ (t : x.tag ≡ function_tag) (h : n.funcs ≤ x.number) where
    pub no_function : OperatorSays x.number n.sorts None → ArgumentsFitAt cells scope sizes funcs n x false
    unfolding ArgumentsFit data_tag data_number
    no_function operator w (val v) ds rest sc o = absurd (omega (arith, o.tag_is))
    no_function operator w (var i) ds rest sc o = absurd (omega (arith, o.tag_is))
    no_function operator w (app f es) ds rest sc o = λ k.
        let c = w.known.func_count in
        (operator w.sig w.known.sizes_are.sort_count (omega arith)).is_none (subst (IsFunc w.sig) (sym o.number_is) k.0)

    pub operator_uneven : (r : Operator) → OperatorSays x.number n.sorts (Some r) → (x.kids ≡ r.count → ⊥) → ArgumentsFitAt cells scope sizes funcs n x false
    unfolding ArgumentsFit data_tag data_number data_kids
    operator_uneven r operator z w (val v) ds rest sc o = absurd (omega (arith, o.tag_is))
    operator_uneven r operator z w (var i) ds rest sc o = absurd (omega (arith, o.tag_is))
    operator_uneven r operator z w (app f es) ds rest sc o = λ k.
        let c = w.known.func_count in
        let q : (function_at w.sig f).takes ≡ replicate r.count r.sort =
        ap (λ (k : ℕ). (function_at w.sig k).takes) (sym o.number_is) ∙ (operator w.sig w.known.sizes_are.sort_count (omega arith)).takes_are in
        z (o.kids_is ∙ each_length (Fits w.sig w.vars) (list_of es) (function_at w.sig f).takes k.1 ∙ ap length q ∙ length-replicate r.count r.sort)

    pub operator_fits : (r : Operator) → OperatorSays x.number n.sorts (Some r) → x.kids ≡ r.count → (s : Bool) → EveryFitsAt cells scope sizes funcs n x.next x.kids r.sort s → ArgumentsFitAt cells scope sizes funcs n x s
    unfolding ArgumentsFit data_tag data_number data_kids ScopedData
    operator_fits r operator m s fit w (val v) ds rest sc o = absurd (omega (arith, o.tag_is))
    operator_fits r operator m s fit w (var i) ds rest sc o = absurd (omega (arith, o.tag_is))
    operator_fits r operator m s fit w (app f es) ds rest sc o =
        let c = w.known.func_count in
        let y = operator w.sig w.known.sizes_are.sort_count (omega arith) in
        let F = Fits w.sig w.vars in
        let q : (function_at w.sig f).takes ≡ replicate (length (list_of es)) r.sort =
        ap (λ (k : ℕ). (function_at w.sig k).takes) (sym o.number_is) ∙ y.takes_are ∙ ap (λ (k : ℕ). replicate k r.sort) (sym m ∙ o.kids_is) in
        says_both s (Each F (list_of es) (function_at w.sig f).takes) (subst (IsFunc w.sig) o.number_is y.is_there)
        (says_as s (λ k. subst (Each F (list_of es)) (sym q) (one_sort_each F r.sort (list_of es) k)) (λ k. each_one_sort F r.sort (list_of es) (subst (Each F (list_of es)) q k))
        (fit w (list_of es) (enc_datas ds ++ rest) (scoped_list w.level es sc) (sym o.kids_is) (o.next_is ∙ enc_datas_append (list_of es) ds rest)))

-- ---- every node
module _ (cells scope sizes funcs : List ℕ) (n : Outline) (at count : ℕ) where
  -- the terms es that are left stand at p; all that were passed fit inside
  abbrev pub AllLeft : ℕ → ℕ → Type 0
  AllLeft p need =
      (w : Around scope sizes funcs n) (ds : List Data) (rest : List ℕ) → Every (ScopedData w.level) ds → length ds ≡ count → drop at cells ≡ enc_datas ds ++ rest
      → (es : List Data) × (length es ≡ need) × (drop p cells ≡ enc_datas es ++ rest) × Every (ScopedData w.level) es
      × (Every (Inside w.sig w.vars) es → Every (Inside w.sig w.vars) ds) × (Every (Inside w.sig w.vars) ds → Every (Inside w.sig w.vars) es)

  pub all_start : AllLeft at count
  all_start w ds rest sc l e = (ds, l, e, sc, λ x. x, λ x. x)

  module _ (p need : ℕ) (left : AllLeft p need) where
    pub all_stuck : length cells ≤ p → 0 < need → (r : Bool) → AllFitAt cells scope sizes funcs n at count r
    all_stuck h k r w ds rest sc l e = let v = left w ds rest sc l e in absurd (omega (arith, v.1, datas_inside cells p v.0 rest v.2))

    pub all_many : p < length cells → length cells < need → (r : Bool) → AllFitAt cells scope sizes funcs n at count r
    all_many h k r w ds rest sc l e = let v = left w ds rest sc l e in absurd (omega (arith, v.1, datas_inside cells p v.0 rest v.2))

    pub all_done : need ≡ 0 → AllFitAt cells scope sizes funcs n at count true
    unfolding Every
    all_done z w ds rest sc l e = let v = left w ds rest sc l e in go v.0 v.1 v.4
      where
        go : (es : List Data) → length es ≡ need → (Every (Inside w.sig w.vars) es → Every (Inside w.sig w.vars) ds) → Every (Inside w.sig w.vars) ds
        go [] a f = f tt
        go (x ∷ es) a f = absurd (omega arith)

    module _ (some_left : 0 < need) (x : Datum) (vw : DataViews cells p x) (r : Bool) (fit : ArgumentsFitAt cells scope sizes funcs n x r) where
      pub all_failed : r ≡ false → AllFitAt cells scope sizes funcs n at count false
      unfolding Every
      all_failed z w ds rest sc l e k = let v = left w ds rest sc l e in go v.0 v.1 v.2 v.3 (v.5 k)
        where
          go : (es : List Data) → length es ≡ need → drop p cells ≡ enc_datas es ++ rest → Every (ScopedData w.level) es → Every (Inside w.sig w.vars) es → ⊥
          go [] a b c f = omega arith
          go (y ∷ es) a b c f =
              said_no r (fit w y es rest c.0 (vw y es rest b)) z (inside_open w.sig w.vars y es f).0

      pub all_step : r ≡ true → AllLeft x.next (need - 1 + x.kids)
      unfolding Every
      all_step z w ds rest sc l e = let v = left w ds rest sc l e in go v.0 v.1 v.2 v.3 v.4 v.5
        where
          I : List Data → Type 0
          I = Every (Inside w.sig w.vars)

          go : (es : List Data) → length es ≡ need → drop p cells ≡ enc_datas es ++ rest → Every (ScopedData w.level) es → (I es → I ds) → (I ds → I es)
              → (es : List Data) × (length es ≡ need - 1 + x.kids) × (drop x.next cells ≡ enc_datas es ++ rest) × Every (ScopedData w.level) es × (I es → I ds) × (I ds → I es)
          go [] a b c f g = absurd (omega arith)
          go (y ∷ es) a b c f g =
              let o = vw y es rest b in
              let h = said_yes r (fit w y es rest c.0 o) z in (
                data_kids y ++ es,
                rw (length-append (data_kids y) es, ← o.kids_is) (omega arith),
                o.next_is,
                scoped_kids w.level y es c.0 c.1,
                λ k. f (open_inside w.sig w.vars y es h k),
                λ k. (inside_open w.sig w.vars y es (g k)).1,
              )

    -- a run of operators, and what they take behind it
    module _ (some_left : 0 < need) (x : Datum) (vw : DataViews cells p x) (t : ℕ) (takes : TakesBools x t) (some_taken : 0 < t) (q k : ℕ) (run : BoolsAt cells x.next t q k)
        (r : Bool) (fit : EveryFitsAt cells scope sizes funcs n q k Bool_sort r) where
      -- the terms that the run takes, before those that are left
      Taken : Around scope sizes funcs n → Data → List Data → List ℕ → Type 0
      Taken w y es rest =
          (ys : List Data) × (length ys ≡ k) × (drop q cells ≡ enc_datas (ys ++ es) ++ rest) × Every (ScopedData w.level) ys
          × (BoolsBefore w.sig w.vars es ys → Every (Inside w.sig w.vars) (y ∷ es)) × (Every (Inside w.sig w.vars) (y ∷ es) → BoolsBefore w.sig w.vars es ys)

      taken : (w : Around scope sizes funcs n) (y : Data) (es : List Data) (rest : List ℕ) → drop p cells ≡ enc_datas (y ∷ es) ++ rest → Every (ScopedData w.level) (y ∷ es) → Taken w y es rest
      unfolding Taken Every
      taken w y es rest b c =
          let S = w.sig in
          let Γ = w.vars in
          let o = vw y es rest b in
          let sc = every_left (ScopedData w.level) (data_kids y) es (scoped_kids w.level y es c.0 c.1) in
          let u = run S Γ w.level (data_kids y) es rest sc (bools_many S Γ cells x t takes some_taken y es rest o) o.next_is in (
            u.0,
            u.1,
            u.2,
            u.3,
            λ h. let v = u.4 h in open_inside S Γ y es (fit_bools S Γ cells x t takes some_taken y es rest o v.0) v.1,
            λ h. let v = inside_open S Γ y es h in u.5 (bools_fit S Γ cells x t takes some_taken y es rest o v.0, v.1),
          )

      pub run_failed : r ≡ false → AllFitAt cells scope sizes funcs n at count false
      unfolding Taken
      run_failed z w ds rest sc l e h = let v = left w ds rest sc l e in go v.0 v.1 v.2 v.3 (v.5 h)
        where
          go : (es : List Data) → length es ≡ need → drop p cells ≡ enc_datas es ++ rest → Every (ScopedData w.level) es → Every (Inside w.sig w.vars) es → ⊥
          go [] a b c f = omega arith
          go (y ∷ es) a b c f =
              let u = taken w y es rest b c in
              said_no r (fit w u.0 (enc_datas es ++ rest) u.3 u.1 (u.2 ∙ enc_datas_append u.0 es rest)) z (u.5 f).0

      pub run_passed : r ≡ true → AllLeft q (need - 1 + k)
      unfolding Taken Every
      run_passed z w ds rest sc l e = let v = left w ds rest sc l e in go v.0 v.1 v.2 v.3 v.4 v.5
        where
          I : List Data → Type 0
          I = Every (Inside w.sig w.vars)

          go : (es : List Data) → length es ≡ need → drop p cells ≡ enc_datas es ++ rest → Every (ScopedData w.level) es → (I es → I ds) → (I ds → I es)
              → (es : List Data) × (length es ≡ need - 1 + k) × (drop q cells ≡ enc_datas es ++ rest) × Every (ScopedData w.level) es × (I es → I ds) × (I ds → I es)
          go [] a b c f g = absurd (omega arith)
          go (y ∷ es) a b c f g =
              let u = taken w y es rest b c in
              let h = said_yes r (fit w u.0 (enc_datas es ++ rest) u.3 u.1 (u.2 ∙ enc_datas_append u.0 es rest)) z in (
                u.0 ++ es,
                omega (arith, length-append u.0 es, u.1),
                u.2,
                every_append (ScopedData w.level) u.0 es u.3 c.1,
                λ i. f (u.4 (h, i)),
                λ i. (u.5 (g i)).1,
              )

-- ---- arguments
module _ (cells scope sizes funcs : List ℕ) (n : Outline) (at count : ℕ) (row : List ℕ) (start : ℕ) (r : Bool) (each : EachFitsAt cells scope sizes funcs n at count row start r) where
  pub arguments_unfit : r ≡ false → ArgumentsAt cells scope sizes funcs n at count row start false
  arguments_unfit z w ds Ds rest sc l s e k =
      said_no r (each w ds Ds rest sc l s e) z (arguments_fit w.sig w.vars ds Ds k).0

  pub arguments_all : r ≡ true → (q : Bool) → AllFitAt cells scope sizes funcs n at count q → ArgumentsAt cells scope sizes funcs n at count row start q
  arguments_all z q all w ds Ds rest sc l s e =
      let h = said_yes r (each w ds Ds rest sc l s e) z in
      says_as q (λ k. fit_arguments w.sig w.vars ds Ds h k) (λ k. (arguments_fit w.sig w.vars ds Ds k).1) (all w ds rest sc l e)
