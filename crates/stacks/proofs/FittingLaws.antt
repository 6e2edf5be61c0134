-- Values fit a frame place by place exactly where question 15 passes them.
use mathlib.Core.Path.{◌≡◌, sym, ap, ◌∙◌}
use mathlib.Core.List.{List, [], ◌∷◌, ◌++◌}
use Prim.Native.Nat.{ℕ, suc, ◌+◌, ◌-◌, ◌<◌}
use native.Mathlib.Omega.{arith}
use lib.ListN.{length, get_or, take, drop, replicate, length-take, length-drop, length-replicate, get_or-replicate, take-append-drop}
use lib.Seq.{length-take-le, get_or-take, get_or-drop, get_or-append-add, ext_get_or}
use Rattle.pcrl.specs.Tests.{Each}
use Rattle.pcrl.specs.Sheet.{Sig, size}
use Rattle.pcrl.specs.Stack.{InSorts, padded}
use Rattle.laws.specs.Each.{each_length, each_at}
use Rattle.stacks.specs.Fitting.{Fitting}

each_of : {A B : Type 0} (R : A → B → Type 0) (a : A) (b : B) (l : List A) (m : List B) → length l ≡ length m → ((i : ℕ) → i < length l → R (get_or l i a) (get_or m i b)) → Each R l m
unfolding Each
each_of R a b [] [] e h = tt
each_of R a b [] (y ∷ m) e h = absurd (omega arith)
each_of R a b (x ∷ l) [] e h = absurd (omega arith)
each_of R a b (x ∷ l) (y ∷ m) e h = (h 0 (omega arith), each_of R a b l m (omega arith) (λ i w. h (suc i) (omega arith)))

pub all_zero : (l : List ℕ) → ((i : ℕ) → i < length l → get_or l i 0 ≡ 0) → l ≡ replicate (length l) 0
all_zero l h = ext_get_or 0 l (replicate (length l) 0) (sym (length-replicate (length l) 0)) (λ i w. h i w ∙ sym (get_or-replicate (length l) i 0 0 w))

module _ (S : Sig) (sorts values : List ℕ) where
  abbrev own : List ℕ
  own = take (length sorts) values

  pub fitting_sorted : Fitting S.sorts sorts values → InSorts S sorts own × (values ≡ padded (length values) own)
  unfolding InSorts size padded
  fitting_sorted f =
      let l : length own ≡ length sorts = length-take-le (length sorts) values f.0 in
      let d : length (drop (length sorts) values) ≡ length values - length own = length-drop (length sorts) values ∙ ap (λ (n : ℕ). length values - n) (sym l) in
      let z = all_zero (drop (length sorts) values) (λ i w. get_or-drop (length sorts) values i 0 ∙ (f.1 (length sorts + i) (omega (arith, length-drop (length sorts) values))).1 (omega arith)) in (
        each_of _ 0 0 sorts own (sym l) (λ i w.
            let e : get_or own i 0 ≡ get_or values i 0 = get_or-take (length sorts) values i 0 w in
            let b = (f.1 i (omega (arith, f.0))).0 w in
            omega arith),
        sym (take-append-drop (length sorts) values) ∙ ap (λ (m : List ℕ). own ++ m) (z ∙ ap (λ (n : ℕ). replicate n 0) d),
      )

  pub sorted_fitting : InSorts S sorts own → values ≡ padded (length values) own → Fitting S.sorts sorts values
  unfolding InSorts size padded
  sorted_fitting r e =
      let l : length sorts ≡ length own = each_length _ sorts own r in
      let m = length-take (length sorts) values in
      let spare : List ℕ = replicate (length values - length own) 0 in (
        omega arith,
        λ i w. (
          λ b. let g : get_or own i 0 ≡ get_or values i 0 = get_or-take (length sorts) values i 0 b in
              let h = each_at _ sorts own i 0 0 b r in
              omega arith,
          λ b. let p : i ≡ length own + (i - length sorts) = omega arith in
              ap (λ (x : List ℕ). get_or x i 0) e
              ∙ ap (λ (x : ℕ). get_or (own ++ spare) x 0) p
              ∙ get_or-append-add own spare (i - length sorts) 0
              ∙ get_or-replicate (length values - length own) (i - length sorts) 0 0 (omega arith),
        ),
      )
