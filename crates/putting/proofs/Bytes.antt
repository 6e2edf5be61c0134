-- Bytes written one behind another.
use mathlib.Core.Path.{◌≡◌, sym, ap, ◌∙◌}
use mathlib.Core.List.{List, [], ◌∷◌, ◌++◌, append_assoc}
use Prim.Native.Nat.{ℕ, ◌+◌, ◌<◌, ◌≤◌}
use native.Mathlib.Numerals.{add-one}
use native.Mathlib.Omega.{arith}
use lib.ListN.{length, drop, take, get_or, set, length-drop}
use lib.Seq.{take-suc-set, take-take, take-append-le, length-take-le, paste, paste-suc, get_or-drop}
use Rattle.putting.specs.Slots.{Adds}

pub copy_more : (s d : List ℕ) (from w j : ℕ) → from + j < length s → w + j < length d
    → set (paste d w (drop from s) j) (w + j) (get_or s (from + j) 0) ≡ paste d w (drop from s) (j + 1)
copy_more s d from w j h k =
    let l : j < length (drop from s) = omega (arith, length-drop from s) in
    ap (λ (x : ℕ). set (paste d w (drop from s) j) (w + j) x) (sym (get_or-drop from s j 0))
    ∙ paste-suc d w (drop from s) j 0 k l ∙ ap (λ (i : ℕ). paste d w (drop from s) i) (sym (add-one j))

pub cell_more : (o : List ℕ) (v b : ℕ) → v < length o → take (v + 1) (set o v b) ≡ take v o ++ (b ∷ [])
cell_more o v b h = ap (λ (i : ℕ). take i (set o v b)) (add-one v) ∙ take-suc-set o v b h

-- what is kept in front is kept in less of it
pub kept_front : (w v : ℕ) (o o' : List ℕ) → w ≤ v → take v o' ≡ take v o → take w o' ≡ take w o
kept_front w v o o' h e = sym (take-take w v o' h) ∙ ap (take w) e ∙ take-take w v o h

-- what is pasted leaves the bytes before
pub paste_kept : (w v : ℕ) (d s : List ℕ) (l : ℕ) → w ≤ v → v ≤ length d → take w (paste d v s l) ≡ take w d
paste_kept w v d s l h k =
    ap (take w) (append_assoc (take v d) (take l s) (drop (v + l) d)) ∙ take-append-le w (take v d) (take l s ++ drop (v + l) d) (omega (arith, length-take-le v d k)) ∙ take-take w v d h

-- one piece after another
pub adds_then : (e g : List ℕ) (w w₁ w₂ : ℕ) (o o₁ o₂ : List ℕ) → Adds e w o w₁ o₁ → Adds g w₁ o₁ w₂ o₂ → Adds (e ++ g) w o w₂ o₂
adds_then e g w w₁ w₂ o o₁ o₂ a b = b ∙ ap (λ (l : List ℕ). l ++ g) a ∙ append_assoc (take w o) e g
