-- A part of a list: n elements from a place on, or as many as there are.
use mathlib.Core.Path.{◌≡◌, sym, ap, ◌∙◌}
use mathlib.Core.List.{List}
use Prim.Native.Nat.{ℕ, ◌-◌, min}
use native.Mathlib.Omega.{arith}
use native.Mathlib.Decide.{dec_le}
use lib.ListN.{length, take, drop, length-drop, drop_of_length-le}
use lib.Seq.{take_all}

module _ {A : Type 0} (s : List A) where
  drop_cut : (at : ℕ) → drop (min at (length s)) s ≡ drop at s
  drop_cut at = elim (dec_le at (length s)) [
    | yes h ↦ (let e : min at (length s) ≡ at = omega arith in ap (λ (i : ℕ). drop i s) e)
    | no h ↦ (let e : min at (length s) ≡ length s = omega arith in
        ap (λ (i : ℕ). drop i s) e ∙ drop_of_length-le s {i = length s} (omega arith) ∙ sym (drop_of_length-le s {i = at} (omega arith)))
  ]

  take_cut : (n : ℕ) → take (min n (length s)) s ≡ take n s
  take_cut n = elim (dec_le n (length s)) [
    | yes h ↦ (let e : min n (length s) ≡ n = omega arith in ap (λ (i : ℕ). take i s) e)
    | no h ↦ (let e : min n (length s) ≡ length s = omega arith in ap (λ (i : ℕ). take i s) e ∙ take_all (length s) s (omega arith) ∙ sym (take_all n s (omega arith)))
  ]

pub rest_is : {A : Type 0} (s : List A) (at i : ℕ) → i ≡ min at (length s) → take (length s - i) (drop i s) ≡ drop at s
rest_is s at i e = take_all (length s - i) (drop i s) (omega (arith, length-drop i s)) ∙ ap (λ (m : ℕ). drop m s) e ∙ drop_cut s at

pub part_is : {A : Type 0} (s rest : List A) (at n m : ℕ) → rest ≡ drop at s → m ≡ min n (length rest) → take m rest ≡ take n (drop at s)
part_is s rest at n m r e = ap (λ (k : ℕ). take k rest) e ∙ take_cut rest n ∙ ap (take n) r
