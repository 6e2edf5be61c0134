-- Where lines stand in a tree: the places that the run of lines kept, as places of the whole.
use mathlib.Core.Path.{◌≡◌, refl, sym, ap, ◌∙◌}
use mathlib.Core.List.{List, [], ◌∷◌, ◌++◌, append_assoc}
use Prim.Native.Nat.{ℕ, ◌+◌, ◌≤◌, ◌<◌}
use native.Mathlib.Omega.{arith}
use lib.ListN.{length, take, drop, get_or, length-append}
use lib.Seq.{take-append_seam, drop_at}
use Rattle.pcrl.specs.Reader.{all}
use Rattle.parser.specs.Cells.{Symbol}
use Rattle.parser.specs.Runs.{Placed}
use Rattle.parser.specs.Parses.{Stands, Kept}

all_append : {A : Type 0} (enc : A → List Symbol) (l m : List A) → all enc (l ++ m) ≡ all enc l ++ all enc m
unfolding all
all_append enc [] m = refl
all_append enc (a ∷ l) m = ap (λ k. enc a ++ k) (all_append enc l m) ∙ sym (append_assoc (enc a) (all enc l) (all enc m))

-- what is written behind x stands at x's length
pub stands_behind : {tree : List Symbol} (x e r : List Symbol) (w : ℕ) → tree ≡ x ++ (e ++ r) → w ≡ length x → Stands tree w e
stands_behind x e r w q l = (r, ap (drop w) q ∙ drop_at x (e ++ r) w (sym l))

-- The lines ls of a tree stand behind x.
pub kept_behind : {A : Type 0} {enc : A → List Symbol} {ls : List A} {tree : List Symbol} (x y : List Symbol) {w count : ℕ} {p places : List ℕ}
    → tree ≡ x ++ (all enc ls ++ y) → w ≡ length x → count ≡ length ls → length places ≤ length p → Placed enc ls w 0 p places → Kept enc ls count places tree
unfolding all
kept_behind {A} {enc} {ls} {tree} x y {w} {count} {p} {places} q l c k h = record { counted = c; stand = stand }
  where
    stand : (before : List A) (a : A) (after : List A) → ls ≡ before ++ (a ∷ after) → length before < length places → Stands tree (get_or places (length before) 0) (enc a)
    stand before a after e m =
        let n : length before < length ls = omega (arith, ap length e, length-append before (a ∷ after)) in
        let z : 0 + length before ≡ length before = omega arith in
        let t : take (length before) ls ≡ before = ap (take (length before)) e ∙ take-append_seam before (a ∷ after) in
        let g : get_or places (length before) 0 ≡ w + length (all enc before) =
        ap (λ j. get_or places j 0) (sym z) ∙ h.new (length before) n (omega arith) ∙ ap (λ b. w + length (all enc b)) t in
        let f : tree ≡ (x ++ all enc before) ++ (enc a ++ (all enc after ++ y)) =
        q ∙ ap (λ b. x ++ (all enc b ++ y)) e ∙ ap (λ b. x ++ (b ++ y)) (all_append enc before (a ∷ after))
        ∙ ap (λ b. x ++ b) (append_assoc (all enc before) (enc a ++ all enc after) y ∙ ap (λ b. all enc before ++ b) (append_assoc (enc a) (all enc after) y))
        ∙ sym (append_assoc x (all enc before) (enc a ++ (all enc after ++ y))) in
        stands_behind (x ++ all enc before) (enc a) (all enc after ++ y) (get_or places (length before) 0) f (g ∙ omega (arith, length-append x (all enc before)))
