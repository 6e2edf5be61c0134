-- A run of operators: each takes Bools and gives one, so what the whole run takes fits if and only if the terms behind it do. By one law for each operator.
use mathlib.Core.Path.{◌≡◌, sym, ap, subst, ◌∙◌}
use mathlib.Core.List.{List, [], ◌∷◌, ◌++◌, append_assoc}
use Prim.Native.Nat.{ℕ, ◌+◌, ◌-◌, ◌<◌}
use native.Mathlib.Omega.{arith}
use lib.ListN.{length, drop, replicate, length-append}
use Rattle.pcrl.specs.Tests.{Each, Every}
use Rattle.pcrl.specs.Sheet.{Data, val, var, app, list_of, Sig, not_number, and_number, or_number, function_at}
use Rattle.pcrl.specs.Sorts.{Scope, Bool_sort, IsFunc}
use Rattle.laws.specs.Every.{every_append, every_left, every_right}
use Rattle.nodes.specs.declared.Datum.{Datum}
use Rattle.nodes.specs.Layout.{function_tag, enc_datas}
use Rattle.nodes.specs.Nodes.{data_tag, data_number, data_kids}
use Rattle.nodes.specs.Scoped.{ScopedData}
use Rattle.nodes.specs.Views.{OpenedData, DataViews}
use Rattle.checker.specs.Fits.{Fits, ArgumentsFit, Inside, BoolsBefore}
use Rattle.checker.specs.Sorts.{TakesBools, BoolsAt}
use Rattle.checker.proofs.Operations.{not_operates, and_operates, or_operates}
use Rattle.checker.proofs.DataSorts.{inside_open, open_inside, scoped_kids}
use Rattle.checker.proofs.EveryFits.{one_sort_each, each_one_sort}

-- ---- one node
module _ (d : Datum) where
  pub takes_none : TakesBools d 0
  takes_none h = absurd (omega arith)

  pub takes_one : d.tag ≡ function_tag → d.number ≡ not_number → d.kids ≡ 1 → TakesBools d 1
  takes_one t e k h = (t, k, λ S. not_operates S d.number e)

  pub takes_and : d.tag ≡ function_tag → d.number ≡ and_number → d.kids ≡ 2 → TakesBools d 2
  takes_and t e k h = (t, k, λ S. and_operates S d.number e)

  pub takes_or : d.tag ≡ function_tag → d.number ≡ or_number → d.kids ≡ 2 → TakesBools d 2
  takes_or t e k h = (t, k, λ S. or_operates S d.number e)

-- the node of a term x that takes Bools
module _ (S : Sig) (Γ : Scope) (cells : List ℕ) (d : Datum) (r : ℕ) (takes : TakesBools d r) (some_taken : 0 < r) where
  -- as many as it says, and it is one
  pub bools_many : (x : Data) (ds : List Data) (rest : List ℕ) → OpenedData cells x ds rest d → length (data_kids x) ≡ r
  bools_many x ds rest o = sym o.kids_is ∙ (takes some_taken).1

  gives_bool : (x : Data) (ds : List Data) (rest : List ℕ) → OpenedData cells x ds rest d → Fits S Γ x Bool_sort
  unfolding Fits data_tag data_number
  gives_bool (val v) ds rest o = absurd (omega (arith, o.tag_is, (takes some_taken).0))
  gives_bool (var i) ds rest o = absurd (omega (arith, o.tag_is, (takes some_taken).0))
  gives_bool (app f es) ds rest o =
      let y = (takes some_taken).2 S in
      subst (λ (k : ℕ). IsFunc S k × ((function_at S k).gives ≡ Bool_sort)) o.number_is (y.is_there, y.gives_Bool)

  takes_bools : (f : ℕ) (l : List Data) → d.number ≡ f → length l ≡ r → (function_at S f).takes ≡ replicate (length l) Bool_sort
  takes_bools f l e k =
      ap (λ (j : ℕ). (function_at S j).takes) (sym e) ∙ ((takes some_taken).2 S).takes_are ∙ ap (λ (j : ℕ). replicate j Bool_sort) (sym k)

  pub bools_fit : (x : Data) (ds : List Data) (rest : List ℕ) → OpenedData cells x ds rest d → ArgumentsFit S Γ x → Every (λ e. Fits S Γ e Bool_sort) (data_kids x)
  unfolding ArgumentsFit data_tag data_number data_kids
  bools_fit (val v) ds rest o h = absurd (omega (arith, o.tag_is, (takes some_taken).0))
  bools_fit (var i) ds rest o h = absurd (omega (arith, o.tag_is, (takes some_taken).0))
  bools_fit (app f es) ds rest o h =
      each_one_sort (Fits S Γ) Bool_sort (list_of es)
      (subst (Each (Fits S Γ) (list_of es)) (takes_bools f (list_of es) o.number_is (bools_many (app f es) ds rest o)) h.1)

  pub fit_bools : (x : Data) (ds : List Data) (rest : List ℕ) → OpenedData cells x ds rest d → Every (λ e. Fits S Γ e Bool_sort) (data_kids x) → ArgumentsFit S Γ x
  unfolding ArgumentsFit data_tag data_number data_kids
  fit_bools (val v) ds rest o h = tt
  fit_bools (var i) ds rest o h = tt
  fit_bools (app f es) ds rest o h = (
    subst (IsFunc S) o.number_is ((takes some_taken).2 S).is_there,
    subst (Each (Fits S Γ) (list_of es)) (sym (takes_bools f (list_of es) o.number_is (bools_many (app f es) ds rest o))) (one_sort_each (Fits S Γ) Bool_sort (list_of es) h),
  )

-- ---- the loop
module _ (cells : List ℕ) (at count : ℕ) where
  pub run_start : BoolsAt cells at count at count
  run_start S Γ m xs ds rest sc l e = (xs, l, e, sc, λ h. h, λ h. h)

  module _ (p k : ℕ) (before : BoolsAt cells at count p k) (some_left : 0 < k) (d : Datum) (vw : DataViews cells p d) (r : ℕ) (takes : TakesBools d r) (some_taken : 0 < r) where
    pub run_step : BoolsAt cells at count d.next (k - 1 + r)
    unfolding Every
    run_step S Γ m xs ds rest sc l e = let v = before S Γ m xs ds rest sc l e in go v.0 v.1 v.2 v.3 v.4 v.5
      where
        B : List Data → Type 0
        B = BoolsBefore S Γ ds

        go : (ys : List Data) → length ys ≡ k → drop p cells ≡ enc_datas (ys ++ ds) ++ rest → Every (ScopedData m) ys → (B ys → B xs) → (B xs → B ys)
            → (ys : List Data) × (length ys ≡ k - 1 + r) × (drop d.next cells ≡ enc_datas (ys ++ ds) ++ rest) × Every (ScopedData m) ys × (B ys → B xs) × (B xs → B ys)
        go [] a b c f g = absurd (omega arith)
        go (x ∷ ys) a b c f g =
            let o = vw x (ys ++ ds) rest b in
            let ks = data_kids x in
            let many : length ks ≡ r = bools_many S Γ cells d r takes some_taken x (ys ++ ds) rest o in
            let j : (ks ++ ys) ++ ds ≡ ks ++ (ys ++ ds) = append_assoc ks ys ds in (
              ks ++ ys,
              omega (arith, length-append ks ys),
              o.next_is ∙ ap (λ (es : List Data). enc_datas es ++ rest) (sym j),
              scoped_kids m x ys c.0 c.1,
              λ h.
                  f (
                    (gives_bool S Γ cells d r takes some_taken x (ys ++ ds) rest o, every_right (λ e. Fits S Γ e Bool_sort) ks ys h.0),
                    open_inside S Γ x (ys ++ ds) (fit_bools S Γ cells d r takes some_taken x (ys ++ ds) rest o (every_left (λ e. Fits S Γ e Bool_sort) ks ys h.0))
                        (subst (Every (Inside S Γ)) j h.1),
                  ),
              λ h.
                  let y = g h in
                  let z = inside_open S Γ x (ys ++ ds) y.1 in
                  (every_append (λ e. Fits S Γ e Bool_sort) ks ys (bools_fit S Γ cells d r takes some_taken x (ys ++ ds) rest o z.0) y.0.1, subst (Every (Inside S Γ)) (sym j) z.1),
            )
