-- Names in cells: what is written in one stays while others are written behind it.
use mathlib.Core.Path.{◌≡◌, refl, sym, ap, subst, ◌∙◌}
use mathlib.Core.List.{List, [], ◌∷◌, ◌++◌, append_assoc}
use mathlib.Core.Bool.{Bool, true, false}
use Prim.Native.Nat.{ℕ, zero, suc, ◌+◌, ◌*◌, ◌%◌, ◌≤◌, ◌<◌}
use native.Mathlib.Omega.{arith}
use native.Mathlib.Decide.{dec_lt}
use lib.ListN.{length, take, drop, set, replicate, length-append, length-replicate, take-append-drop}
use lib.Seq.{length-take-le, take_all, take-nil, drop-nil, take-take, take-append-le, take_at, drop_at, take-set-le}
use Rattle.pcrl.specs.Text.{bytes, byte, decimal}
use Rattle.pcrl.specs.Stream.{encode_numbers}
use Rattle.terms.specs.Stands.{Stands}
use Rattle.texts.specs.Wrote.{Wrote}
use Rattle.texts.proofs.Decimals.{one_digit}
use Rattle.lettering.specs.SortNames.{name_cell, CellsIn, ShortNames}
use Rattle.lettering.specs.Named.{named_by, cell_of, older_by, name_by}

-- a part of a list from its front
part : (p n q : ℕ) (l : List ℕ) → q ≡ p + n → drop p (take q l) ≡ take n (drop p l)
part zero n q l e = let z : q ≡ n = omega arith in ap (λ (k : ℕ). take k l) z
part (suc p) n q [] e = ap (drop (suc p)) (take-nil q) ∙ drop-nil (suc p) ∙ sym (ap (take n) (drop-nil (suc p)) ∙ take-nil n)
part (suc p) n zero (x ∷ l) e = absurd (omega arith)
part (suc p) n (suc q) (x ∷ l) e = part p n q l (omega arith)

-- what stands before q stays where only what is behind q changes
pub stands_kept : (l m : List ℕ) (p q : ℕ) (e : List ℕ) → p + length e ≤ q → take q m ≡ take q l → Stands l p e → Stands m p e
stands_kept l m p q e h same (rest, there) =
    let n = length e in
    let front : take (p + n) m ≡ take (p + n) l = sym (take-take (p + n) q m h) ∙ ap (take (p + n)) same ∙ take-take (p + n) q l h in
    let here : take n (drop p m) ≡ e = sym (part p n (p + n) m refl) ∙ ap (drop p) front ∙ part p n (p + n) l refl ∙ ap (take n) there ∙ take_at e rest n refl in
    (drop n (drop p m), sym (take-append-drop n (drop p m)) ∙ ap (λ (x : List ℕ). x ++ drop n (drop p m)) here)

module _ (out : List ℕ) (at : ℕ) (piece out' : List ℕ) (r : ℕ) (w : Wrote out at piece out' r) where
  -- what stands before a piece is as it was
  pub wrote_kept : at ≤ length out → take at out' ≡ take at out
  wrote_kept h =
      let l = length-take-le at out h in
      let e = w.place in
      sym (take-take at r out' (omega arith)) ∙ ap (take at) w.text ∙ take-take at (length out) (take at out ++ piece) h ∙ take-append-le at (take at out) piece (omega arith) ∙ take-take at at out (omega arith)

  -- and a piece for which there is room stands there
  pub wrote_stands : at + length piece ≤ length out → Stands out' at piece
  wrote_stands h =
      let l = length-take-le at out (omega arith) in
      let n = length-append (take at out) piece in
      let e = w.place in
      let front : take r out' ≡ take at out ++ piece = w.text ∙ take_all (length out) (take at out ++ piece) (omega arith) in
      (drop r out', ap (drop at) (sym (take-append-drop r out') ∙ ap (λ (x : List ℕ). x ++ drop r out') front ∙ append_assoc (take at out) piece (drop r out')) ∙ drop_at (take at out) (piece ++ drop r out') at l)

-- a name that fits a cell
cell_is : (n : List ℕ) → length n < 256 → cell_of n ≡ encode_numbers n
unfolding encode_numbers
cell_is n h = let z : length n % 256 ≡ length n = omega arith in ap (λ (k : ℕ). k ∷ n) z

cell_long : (n : List ℕ) → length (encode_numbers n) ≡ suc (length n)
unfolding encode_numbers
cell_long n = refl

module _ (name : ℕ → List ℕ) where
  pub cells_none : (out : List ℕ) → CellsIn name 0 out
  cells_none out D h = absurd (omega arith)

  -- one cell more
  pub cells_more : (d : ℕ) (out out' : List ℕ) (r : ℕ) → 152 ≤ length out → d < 8 → ShortNames name (d + 1) → Wrote out (name_cell * d) (cell_of (name d)) out' r → CellsIn name d out → CellsIn name (d + 1) out'
  cells_more d out out' r room h short w old D k = elim (dec_lt D d) [
    | yes b ↦ (let l = short D k in let n = cell_long (name D) in stands_kept out out' (name_cell * D) (name_cell * d) (encode_numbers (name D)) (omega arith) (wrote_kept out (name_cell * d) (cell_of (name d)) out' r w (omega arith)) (old D b))
    | no b ↦ (
        let same : d ≡ D = omega arith in
        let l = short d (omega arith) in
        let here : Stands out' (name_cell * d) (encode_numbers (name d)) = subst (λ (e : List ℕ). Stands out' (name_cell * d) e) (cell_is (name d) (omega arith)) (wrote_stands out (name_cell * d) (cell_of (name d)) out' r w (omega arith)) in
        subst (λ (x : ℕ). Stands out' (name_cell * x) (encode_numbers (name x))) same here)
  ]

  -- what is set behind the cells changes none
  pub cells_set : (n : ℕ) (out : List ℕ) (i v : ℕ) → n ≤ 8 → 152 ≤ i → ShortNames name n → CellsIn name n out → CellsIn name n (set out i v)
  cells_set n out i v h k short old D b =
      let l = short D b in
      let m = cell_long (name D) in
      stands_kept out (set out i v) (name_cell * D) i (encode_numbers (name D)) (omega arith) (take-set-le i out i v (omega arith)) (old D b)

-- the name that the printer gave
pub older_first : (n d : ℕ) → d ≡ 0 → cell_of (bytes "Bool") ≡ cell_of (older_by n d)
unfolding older_by
older_first n d e = sym (ap (λ (x : ℕ). cell_of (older_by n x)) e)

older_long : (n d : ℕ) → d < 10 → length (named_by (byte "s") n d) ≡ n + 1
older_long n d h =
    let z : d % 256 ≡ d = omega arith in
    let digits = ap length (ap decimal z ∙ sym (one_digit d h)) in
    let letters = length-replicate n (byte "s") in
    let all = length-append (replicate n (byte "s")) (decimal (d % 256)) in
    omega arith

pub older_more : (n d b : ℕ) → (d ≡ 0 → ⊥) → d < 10 → n < 255 → b ≡ (n + 1) % 256 → (b ∷ []) ++ named_by (byte "s") n d ≡ cell_of (older_by n d)
unfolding older_by
older_more n zero b h k l e = absurd (h refl)
older_more n (suc d) b h k l e = let z = older_long n (suc d) k in let y : b ≡ length (named_by (byte "s") n (suc d)) % 256 = omega arith in ap (λ (x : ℕ). x ∷ named_by (byte "s") n (suc d)) y

-- it is the one that stands in the stream, or that one
pub name_there : (t : Bool) (s : List ℕ) (p n d : ℕ) (m : List ℕ) → t ≡ true → m ≡ name_by true s p n d → cell_of m ≡ cell_of (name_by t s p n d)
name_there t s p n d m e h = ap cell_of (h ∙ ap (λ (x : Bool). name_by x s p n d) (sym e))

pub name_older : (t : Bool) (s : List ℕ) (p n d : ℕ) → t ≡ false → cell_of (older_by n d) ≡ cell_of (name_by t s p n d)
unfolding name_by
name_older t s p n d e = ap (λ (x : Bool). cell_of (name_by x s p n d)) (sym e)

pub not_both : (t : Bool) → t ≡ true → t ≡ false → ⊥
not_both t a b = let z : ◌≡◌ {A = Bool} true false = cc in let y : ◌≡◌ {A = ℕ} 0 1 = cc in omega arith
