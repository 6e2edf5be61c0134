-- Cells written one after another, and a cell put in place of one written before.
use mathlib.Core.Path.{◌≡◌, refl, sym, ap, subst, ◌∙◌}
use mathlib.Core.List.{List, [], ◌∷◌, ◌++◌, append_assoc, append-nil}
use Prim.Native.Nat.{ℕ, suc, ◌+◌, ◌≤◌, ◌<◌, min}
use native.Mathlib.Numerals.{add-one}
use native.Mathlib.Omega.{arith}
use lib.ListN.{length, take, get_or, set, length-append, length-set}
use lib.Seq.{length-take-le, take-suc-set, take-set-lt, set_at, get_or-take, get_or-append-add}
use Rattle.parser.specs.Reading.{Put}
use Rattle.nodes.specs.Layout.{cell_limit}
use Rattle.resolver.specs.Writing.{Written, Writes}

pub writes_nothing : {w : ℕ} {o : List ℕ} → Writes [] w o w o
writes_nothing {w} {o} = record { with_room = λ h. record { next = omega arith; same = refl; cells = sym (append-nil (take w o)) } }

-- one behind the other
pub writes_then : {e g : List ℕ} {w w₁ w₂ : ℕ} {o o₁ o₂ : List ℕ} → Writes e w o w₁ o₁ → Writes g w₁ o₁ w₂ o₂ → Writes (e ++ g) w o w₂ o₂
writes_then {e} {g} {w} {w₁} {w₂} {o} {o₁} {o₂} a b = record { with_room = both }
  where
    both : w + length (e ++ g) ≤ min (length o) cell_limit → Written (e ++ g) w o w₂ o₂
    both h =
        let l = length-append e g in
        let x = a.with_room (omega arith) in
        let p = x.same in
        let q = x.next in
        let y = b.with_room (omega arith) in
        let n = y.next in
        record {
          next = omega arith;
          same = y.same ∙ x.same;
          cells = y.cells ∙ ap (λ k. k ++ g) x.cells ∙ append_assoc (take w o) e g;
        }

-- where the second ends
pub writes_end : {e g : List ℕ} {w w₁ w₂ : ℕ} {o o₁ o₂ : List ℕ} → Writes e w o w₁ o₁ → Writes g w₁ o₁ w₂ o₂ → w + length (e ++ g) ≤ min (length o) cell_limit → w₂ ≡ w₁ + length g
writes_end {e} {g} {w} {w₁} {w₂} {o} {o₁} {o₂} a b h =
    let l = length-append e g in
    let x = a.with_room (omega arith) in
    let p = x.same in
    let q = x.next in
    (b.with_room (omega arith)).next

-- one cell
pub writes_cell : {v w w' : ℕ} {o o' : List ℕ} → Put o w v w' o' → Writes (v ∷ []) w o w' o'
writes_cell {v} {w} {w'} {o} {o'} p = record { with_room = put }
  where
    put : w + 1 ≤ min (length o) cell_limit → Written (v ∷ []) w o w' o'
    put h =
        let n = p.next (omega arith) in
        record {
          next = n;
          same = ap length p.cells ∙ length-set o w v;
          cells = ap (λ k. take k o') (n ∙ add-one w) ∙ ap (λ l. take (suc w) l) p.cells ∙ take-suc-set o w v (omega arith);
        }

-- another cell in the first one's place
pub writes_instead : {x : ℕ} {e : List ℕ} {v w w₁ w' : ℕ} {o o₁ o' : List ℕ} → Writes (x ∷ e) w o w₁ o₁ → Put o₁ w v w' o' → Writes (v ∷ e) w o w₁ o'
writes_instead {x} {e} {v} {w} {w₁} {w'} {o} {o₁} {o'} a p = record { with_room = put }
  where
    put : w + suc (length e) ≤ min (length o) cell_limit → Written (v ∷ e) w o w₁ o'
    put h =
        let b = a.with_room h in
        let n = b.next in
        record {
          next = n;
          same = ap length p.cells ∙ length-set o₁ w v ∙ b.same;
          cells = ap (λ l. take w₁ l) p.cells ∙ take-set-lt w₁ o₁ w v (omega arith) ∙ ap (λ l. set l w v) b.cells ∙ set_at (take w o) x e v w (length-take-le w o (omega arith));
        }

-- what was written can be read
pub written_cell : {e : List ℕ} {w w' : ℕ} {o o' : List ℕ} → Written e w o w' o' → w ≤ length o → (i : ℕ) → i < length e → get_or o' (w + i) 0 ≡ get_or e i 0
written_cell {e} {w} {w'} {o} {o'} x h i l =
    let n = x.next in
    let m = length-take-le w o h in
    let z : w + i ≡ length (take w o) + i = omega arith in
    sym (get_or-take w' o' (w + i) 0 (omega arith)) ∙ ap (λ k. get_or k (w + i) 0) x.cells ∙ ap (λ k. get_or (take w o ++ e) k 0) z ∙ get_or-append-add (take w o) e i 0

-- a cell in the first one's place that is as it must be if there was room
pub writes_found : {x : ℕ} {e : List ℕ} {v u w w₁ w' : ℕ} {o o₁ o' : List ℕ} → Writes (x ∷ e) w o w₁ o₁ → Put o₁ w v w' o' → (w + suc (length e) ≤ min (length o) cell_limit → v ≡ u) → Writes (u ∷ e) w o w₁ o'
writes_found {x} {e} {v} {u} {w} {w₁} {w'} {o} {o₁} {o'} a p f = record { with_room = λ h. subst (λ (y : ℕ). Written (y ∷ e) w o w₁ o') (f h) ((writes_instead a p).with_room h) }

-- before cells and a count, how many cells they are
pub writes_sized : {x b v w w₁ w₂ w₃ w₄ : ℕ} {e : List ℕ} {o o₁ o₂ o₃ o₄ o₅ : List ℕ} → Put o w 0 w₁ o₁ → Put o₁ w₁ x w₂ o₂ → Writes e w₂ o₂ w₃ o₃ → Writes (b ∷ e) w₁ o₁ w₃ o₄
    → ((k : ℕ) → w₃ ≡ w₂ + k → k < cell_limit → v ≡ k) → Put o₄ w v w₄ o₅ → Writes (length e ∷ b ∷ e) w o w₃ o₅
writes_sized {e = e} put₁ put₂ ws counted span put₃ =
    writes_found (writes_then (writes_cell put₁) counted) put₃ (λ h. span (length e) (writes_end (writes_then (writes_cell put₁) (writes_cell put₂)) ws h) (omega arith))
