-- Cells written one after another, and a tag put in place of one written before.
use mathlib.Core.Path.{◌≡◌, refl, sym, ap, ◌∙◌}
use mathlib.Core.List.{List, [], ◌∷◌, ◌++◌, append_assoc, append-nil, map, map-append}
use Prim.Native.Nat.{ℕ, zero, suc, ◌+◌, ◌≤◌}
use native.Mathlib.Numerals.{add-one}
use native.Mathlib.Omega.{arith}
use lib.ListN.{length, take, set, length-append, length-set, length-map}
use lib.Seq.{length-take-le, take-suc-set, take-set-lt, set_at}
use Rattle.parser.specs.Cells.{Symbol, symbol_of}
use Rattle.parser.specs.Reading.{Put, Written, Few, Writes}

map_set : {A B : Type 0} (f : A → B) (l : List A) (i : ℕ) (a : A) → map f (set l i a) ≡ set (map f l) i (f a)
map_set f [] i a = refl
map_set f (x ∷ l) zero a = refl
map_set f (x ∷ l) (suc i) a = ap (λ k. f x ∷ k) (map_set f l i a)

module _ {s toks : List ℕ} where
  pub writes_nothing : {w : ℕ} {o : List ℕ} → Writes s toks [] w o w o
  writes_nothing {w} {o} = record { with_room = λ few h. record { next = omega arith; same = refl; cells = sym (append-nil (map (symbol_of s) (take w o))) } }

  -- one behind the other
  pub writes_then : {e g : List Symbol} {w w₁ w₂ : ℕ} {o o₁ o₂ : List ℕ} → Writes s toks e w o w₁ o₁ → Writes s toks g w₁ o₁ w₂ o₂ → Writes s toks (e ++ g) w o w₂ o₂
  writes_then {e} {g} {w} {w₁} {w₂} {o} {o₁} {o₂} a b = record { with_room = both }
    where
      both : Few toks → w + length (e ++ g) ≤ length o → Written s (e ++ g) w o w₂ o₂
      both few h =
          let l = length-append e g in
          let x = a.with_room few (omega arith) in
          let p = x.same in
          let q = x.next in
          let y = b.with_room few (omega arith) in
          let n = y.next in
          record {
            next = omega arith;
            same = y.same ∙ x.same;
            cells = y.cells ∙ ap (λ k. k ++ g) x.cells ∙ append_assoc (map (symbol_of s) (take w o)) e g;
          }

  -- one cell
  pub writes_known : {y : Symbol} {v w w' : ℕ} {o o' : List ℕ} → Put o w v w' o' → (Few toks → symbol_of s v ≡ y) → Writes s toks (y ∷ []) w o w' o'
  writes_known {y} {v} {w} {w'} {o} {o'} p e = record { with_room = put }
    where
      put : Few toks → w + 1 ≤ length o → Written s (y ∷ []) w o w' o'
      put few h =
          let n = p.next (omega arith) in
          record {
            next = n;
            same = ap length p.cells ∙ length-set o w v;
            cells = ap (λ k. map (symbol_of s) (take k o')) (n ∙ add-one w) ∙ ap (λ l. map (symbol_of s) (take (suc w) l)) p.cells
                ∙ ap (map (symbol_of s)) (take-suc-set o w v (omega arith)) ∙ map-append (symbol_of s) (take w o) (v ∷ []) ∙ ap (λ k. map (symbol_of s) (take w o) ++ (k ∷ [])) (e few);
          }

  pub writes_cell : {y : Symbol} {v w w' : ℕ} {o o' : List ℕ} → Put o w v w' o' → symbol_of s v ≡ y → Writes s toks (y ∷ []) w o w' o'
  writes_cell p e = writes_known p (λ few. e)

  -- another cell in the first one's place
  pub writes_over : {x y : Symbol} {e : List Symbol} {v w w₁ w' : ℕ} {o o₁ o' : List ℕ} → Writes s toks (x ∷ e) w o w₁ o₁ → Put o₁ w v w' o' → (Few toks → symbol_of s v ≡ y) → Writes s toks (y ∷ e) w o w₁ o'
  writes_over {x} {y} {e} {v} {w} {w₁} {w'} {o} {o₁} {o'} a p q = record { with_room = put }
    where
      put : Few toks → w + suc (length e) ≤ length o → Written s (y ∷ e) w o w₁ o'
      put few h =
          let b = a.with_room few h in
          let n = b.next in
          let m : length (map (symbol_of s) (take w o)) ≡ w = length-map (take w o) (symbol_of s) ∙ length-take-le w o (omega arith) in
          record {
            next = n;
            same = ap length p.cells ∙ length-set o₁ w v ∙ b.same;
            cells = ap (λ l. map (symbol_of s) (take w₁ l)) p.cells ∙ ap (map (symbol_of s)) (take-set-lt w₁ o₁ w v (omega arith))
                ∙ map_set (symbol_of s) (take w₁ o₁) w v ∙ ap (λ l. set l w (symbol_of s v)) b.cells
                ∙ set_at (map (symbol_of s) (take w o)) x e (symbol_of s v) w m ∙ ap (λ k. map (symbol_of s) (take w o) ++ (k ∷ e)) (q few);
          }

  pub writes_instead : {x y : Symbol} {e : List Symbol} {v w w₁ w' : ℕ} {o o₁ o' : List ℕ} → Writes s toks (x ∷ e) w o w₁ o₁ → Put o₁ w v w' o' → symbol_of s v ≡ y → Writes s toks (y ∷ e) w o w₁ o'
  writes_instead a p q = writes_over a p (λ few. q)
