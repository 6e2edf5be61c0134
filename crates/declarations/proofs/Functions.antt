-- A function that stands in the stream: its sorts, its result and its values; how many values it has.
use mathlib.Core.Path.{◌≡◌, sym, ap, ap₂, subst, ◌∙◌}
use mathlib.Core.List.{List, [], ◌∷◌, ◌++◌}
use Prim.Native.Nat.{ℕ, ◌+◌, ◌-◌, ◌*◌, ◌≤◌, ◌<◌, min}
use native.Mathlib.Omega.{arith}
use native.Mathlib.Decide.{dec_le}
use lib.ListN.{length, get_or, take, drop, length-append, length-drop}
use lib.Seq.{take_at}
use Rattle.pcrl.specs.Tests.{Every}
use Rattle.pcrl.specs.Sheet.{Func, Sig, size}
use Rattle.pcrl.specs.Sorts.{volume}
use Rattle.pcrl.specs.Stream.{encode_numbers, encode_func}
use Rattle.pcrl.specs.Right.{RightFunc}
use Rattle.terms.specs.Stands.{Stands, list_at, size_in}
use Rattle.terms.proofs.Places.{behind, before, list_is, arity_at, gives_at}
use Rattle.evaluation.specs.Known.{KnownTerms}
use Rattle.declarations.proofs.Chains.{empty_of}

-- the part of the stream in which an encoding stands
pub slice_is : (s : List ℕ) (p v w n : ℕ) (e : List ℕ) → Stands s p e → length e ≡ n → v ≡ min p (length s) → w ≡ min (v + n) (length s) → take (w - v) (drop v s) ≡ e
slice_is s p v w n e (rest, stands) many a b =
    let long = ap length stands in
    let k = length-append e rest in
    let m = length-drop p s in
    elim (dec_le p (length s)) [
      | yes h ↦
          (let same : v ≡ p = omega arith in
          let size : length e ≡ w - v = omega arith in
          ap (λ (i : ℕ). take (w - v) (drop i s)) same ∙ ap (take (w - v)) stands ∙ take_at e rest (w - v) size)
      | no h ↦
          (let none : w - v ≡ 0 = omega arith in
          ap (λ (i : ℕ). take i (drop v s)) none ∙ sym (empty_of e (omega arith)))
    ]

module _ (s : List ℕ) (p : ℕ) (g : Func) (h : Stands s p (encode_func g)) where
  takes_stand : Stands s p (encode_numbers g.takes)
  unfolding encode_func
  takes_stand = before s p (encode_numbers g.takes) ((g.gives ∷ []) ++ g.values) h

  pub takes_list : list_at s p ≡ g.takes
  takes_list = list_is s p g.takes takes_stand

  pub gives_there : (n : ℕ) → n ≡ length g.takes → get_or s (p + 1 + n) 0 ≡ g.gives
  gives_there n e = ap (λ (k : ℕ). get_or s (p + 1 + k) 0) (e ∙ sym (arity_at s p g h)) ∙ gives_at s p g h

  pub values_stand : Stands s (p + 2 + length g.takes) g.values
  unfolding encode_func encode_numbers
  values_stand =
      let q = behind s p (encode_numbers g.takes) ((g.gives ∷ []) ++ g.values) h in
      let r = behind s (p + length (encode_numbers g.takes)) (g.gives ∷ []) g.values q in
      let z : p + length (encode_numbers g.takes) + 1 ≡ p + 2 + length g.takes = omega arith in
      subst (λ (k : ℕ). Stands s k g.values) z r

module _ (S : Sig) (s funcs : List ℕ) (known : KnownTerms S s funcs) (g : Func) (right : RightFunc S.sorts g) where
  -- the size of a sort that is there
  size_there : (D : ℕ) → D < length S.sorts → size_in funcs D ≡ get_or S.sorts D 0
  unfolding size
  size_there D h = known.size_at D h

  by_takes : (l : List ℕ) → Every (λ D. D < length S.sorts) l → length l ≡ 1 → size_in funcs (get_or l 0 0) ≡ volume S.sorts l
  unfolding volume Every
  by_takes [] e h = absurd (omega arith)
  by_takes (D ∷ []) e h = let z = size_there D e.0 in omega arith
  by_takes (D ∷ E ∷ l) e h = absurd (omega arith)

  by_two : (l : List ℕ) → Every (λ D. D < length S.sorts) l → length l ≡ 2 → size_in funcs (get_or l 0 0) * size_in funcs (get_or l 1 0) ≡ volume S.sorts l
  unfolding volume Every
  by_two [] e h = absurd (omega arith)
  by_two (D ∷ []) e h = absurd (omega arith)
  by_two (D ∷ E ∷ []) e h =
      let one : get_or S.sorts E 0 * 1 ≡ get_or S.sorts E 0 = omega arith in
      ap₂ (λ (a b : ℕ). a * b) (size_there D e.0) (size_there E e.1.0) ∙ ap (λ (b : ℕ). get_or S.sorts D 0 * b) (sym one)
  by_two (D ∷ E ∷ F ∷ l) e h = absurd (omega arith)

  pub one_sort : (l : List ℕ) → l ≡ g.takes → length l < 2 → size_in funcs (get_or l 0 0) ≡ length g.values
  unfolding RightFunc
  one_sort l e h =
      let n = ap length e in
      let few = right.0.0 in
      by_takes l (subst (Every (λ D. D < length S.sorts)) (sym e) right.0.1) (omega arith) ∙ ap (volume S.sorts) e ∙ sym right.1.1.0

  pub two_sorts : (l : List ℕ) → l ≡ g.takes → 2 ≤ length l → size_in funcs (get_or l 0 0) * size_in funcs (get_or l 1 0) ≡ length g.values
  unfolding RightFunc
  two_sorts l e h =
      let n = ap length e in
      let few = right.0.0 in
      by_two l (subst (Every (λ D. D < length S.sorts)) (sym e) right.0.1) (omega arith) ∙ ap (volume S.sorts) e ∙ sym right.1.1.0
