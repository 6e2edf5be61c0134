-- The row is what was copied; the lanes before it and behind it stay.
use native.Mathlib.Omega.{arith}
use mathlib.Core.Path.{◌≡◌, refl, ap, ◌∙◌}
use mathlib.Core.List.{List, ◌++◌}
use mathlib.Core.Bool.{Bool, true, false}
use Prim.Native.Nat.{ℕ, ◌+◌, ◌-◌, ◌*◌, ◌≤◌, ◌<◌}
use lib.Dec.{ltb}
use lib.ListN.{length, get_or, drop, take, length-drop}
use lib.Seq.{get_or-take, get_or-drop, length-take-le}
use borrow.Author.Tests.{ltb-true, ltb-false}
use borrow.Rule.Slice.PartMut.{put_mid}
use Rattle.std.proofs.lemmas.List.{get_or-append-add}
use Rattle.std.proofs.Math.ListN.{get_or-append}
use Rattle.evaluation.specs.Rows.{lane, RowPut}
use Rattle.evaluation.proofs.lanes.copy.Goals as goal

put_whole : (rows ys : List ℕ) (d k : ℕ) (f : ℕ → ℕ) → k ≡ 128 → d < 17 → 2560 ≤ length rows → length ys ≡ 128 → ((i : ℕ) → i < 128 → get_or ys i 0 ≡ f i) → RowPut 128 rows d f (put_mid (d * 128) k rows ys)
put_whole rows ys d k f size few room long is = record { lanes = at; others = λ x h. out x h (ltb x (d * 128)) refl }
  where
    behind : List ℕ
    behind = drop k (drop (d * 128) rows)

    before : length (take (d * 128) rows) ≡ d * 128
    before = length-take-le (d * 128) rows (omega arith)

    at : (i : ℕ) → i < 128 → lane (put_mid (d * 128) k rows ys) d i ≡ f i
    at i h =
        let z : d * 128 + i ≡ length (take (d * 128) rows) + i = omega (arith, before) in
        ap (λ (m : ℕ). get_or (put_mid (d * 128) k rows ys) m 0) z ∙ get_or-append-add (take (d * 128) rows) (ys ++ behind) i 0 ∙ get_or-append ys behind 0 i (omega (arith, long)) ∙ is i h

    out : (x : ℕ) → (d * 128 ≤ x → x < d * 128 + 128 → ⊥) → (b : Bool) → ltb x (d * 128) ≡ b → get_or (put_mid (d * 128) k rows ys) x 0 ≡ get_or rows x 0
    out x h true e =
        let l = ltb-true x (d * 128) e in
        get_or-append (take (d * 128) rows) (ys ++ behind) 0 x (omega (arith, before)) ∙ get_or-take (d * 128) rows x 0 l
    out x h false e =
        let l = ltb-false x (d * 128) e in
        let o : (x < d * 128 + 128 → ⊥) = h (omega arith) in
        let m : d * 128 + 128 ≤ x = omega arith in
        let y : ℕ = x - (d * 128 + 128) in
        let z : x ≡ length (take (d * 128) rows) + (length ys + y) = omega (arith, before, long) in
        let w : d * 128 + (k + y) ≡ x = omega arith in
        ap (λ (m : ℕ). get_or (put_mid (d * 128) k rows ys) m 0) z ∙ get_or-append-add (take (d * 128) rows) (ys ++ behind) (length ys + y) 0 ∙ get_or-append-add ys behind y 0 ∙ get_or-drop k (drop (d * 128) rows) y 0 ∙ get_or-drop (d * 128) rows (k + y) 0 ∙ ap (λ (m : ℕ). get_or rows m 0) w

pub copy_from_slice-requires : goal.copy_from_slice-requires
copy_from_slice-requires c = let a = c.args in
    let z : a.d * 128 + 128 - a.d * 128 ≡ 128 = omega arith in
    length-take-le (a.d * 128 + 128 - a.d * 128) (drop (a.d * 128) a.rows.now) (omega (arith, length-drop (a.d * 128) a.rows.now)) ∙ (let y : a.d * 128 + 128 - a.d * 128 ≡ length (take 128 a.from.now) = omega (arith, length-take-le 128 a.from.now c.requires.0) in y)

pub returns : goal.returns
returns c = let a = c.args in
    let copied = c.copy_from_slice.ensures.after in
    put_whole a.rows.now c.copy_from_slice.new.self a.d (a.d * 128 + 128 - a.d * 128) (λ i. get_or a.from.now i 0) (omega arith) (omega arith) (omega arith) (ap length copied ∙ length-take-le 128 a.from.now c.requires.0) (λ i h. ap (λ (l : List ℕ). get_or l i 0) copied ∙ get_or-take 128 a.from.now i 0 h)
