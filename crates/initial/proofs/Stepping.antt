-- One symbol read from the right in the cells, and all of them.
use mathlib.Core.Path.{◌≡◌, refl, sym, ap, ap₂, ◌∙◌}
use mathlib.Core.List.{List, [], ◌∷◌, ◌++◌, append_assoc}
use Prim.Native.Nat.{ℕ, ◌+◌, ◌-◌, ◌*◌, ◌/◌, ◌%◌, ◌≤◌, ◌<◌}
use native.Mathlib.Omega.{arith}
use lib.ListN.{length, take, drop, get_or, set, length-append, drop_of_length-le}
use lib.Seq.{take-set-le, drop-drop, get_or-drop, length-take-le}
use Rattle.initial.specs.declared.Reached.{Reached}
use Rattle.initial.specs.Symbols.{Symbol, value, one, two, symbol_cells, cells_of, one_value, two_value, after, run}
use Rattle.initial.specs.Evaluating.{Steps, Evaluates}
use Rattle.initial.proofs.CellLaws.{last_cell, last_two, written, pushed}

module _ (sizes funcs values places c : List ℕ) (i t : ℕ) (pos : 0 < i) (above : i ≤ t) (inside : t ≤ length c) where
  pub value_step : (k : ℕ) → k ≡ get_or c (i - 1) 0 → k % 4 ≡ 0 → Steps sizes funcs values places c i t (record { end = i - 1; top = t - 1 }) (set c (t - 1) (k / 4))
  unfolding symbol_cells after
  value_step k ek m p (value v) e =
      let (a, b) = last_cell c p (4 * v + 0) i pos (omega arith) e in
      let z : k / 4 ≡ v = omega arith in
      (take-set-le (i - 1) c (t - 1) (k / 4) (omega arith) ∙ a, pushed c t (k / 4) (omega arith) inside ∙ ap (λ (x : ℕ). x ∷ drop t c) z)
  value_step k ek m p (one f) e = let b = (last_two c p (4 * f + 2) 1 i (omega arith) e).3 in absurd (omega arith)
  value_step k ek m p (two f) e = let b = (last_two c p (4 * f + 2) 2 i (omega arith) e).3 in absurd (omega arith)

  -- a single cell that is no value: no symbol
  pub no_step : (r : Reached) (c' : List ℕ) → i < 2 → (get_or c (i - 1) 0 % 4 ≡ 0 → ⊥) → Steps sizes funcs values places c i t r c'
  unfolding symbol_cells
  no_step r c' h m p (value v) e = let b = (last_cell c p (4 * v + 0) i pos (omega arith) e).1 in absurd (m (omega arith))
  no_step r c' h m p (one f) e = absurd (omega (arith, (last_two c p (4 * f + 2) 1 i (omega arith) e).0))
  no_step r c' h m p (two f) e = absurd (omega (arith, (last_two c p (4 * f + 2) 2 i (omega arith) e).0))

  module _ (k f x : ℕ) (ek : k ≡ get_or c (i - 1) 0) (other : k % 4 ≡ 0 → ⊥) (many : 2 ≤ i) (ef : f ≡ get_or c (i - 2) 0 / 4) (ex : x ≡ get_or c t 0) where
    first : get_or (drop t c) 0 0 ≡ x
    first = let z : t + 0 ≡ t = omega arith in get_or-drop t c 0 0 ∙ ap (λ (j : ℕ). get_or c j 0) z ∙ sym ex

    pub one_step : (v : ℕ) → k < 2 → v ≡ one_value values places f x → Steps sizes funcs values places c i t (record { end = i - 2; top = t }) (set c t v)
    unfolding symbol_cells after
    one_step v h ev p (value u) e = let b = (last_cell c p (4 * u + 0) i pos (omega arith) e).1 in absurd (other (omega arith))
    one_step v h ev p (two g) e = let b = (last_two c p (4 * g + 2) 2 i (omega arith) e).3 in absurd (omega arith)
    one_step v h ev p (one g) e =
        let b = last_two c p (4 * g + 2) 1 i (omega arith) e in
        let at : get_or c (i - 2) 0 ≡ 4 * g + 2 = b.2 in
        let z : f ≡ g = omega arith in (
          take-set-le (i - 2) c t v (omega arith) ∙ b.1,
          written c t v ∙ ap (λ (y : ℕ). set (drop t c) 0 y) (ev ∙ ap₂ (one_value values places) z (sym first)),
        )

    pub two_step : (v y : ℕ) → 2 ≤ k → y ≡ get_or c (t + 1) 0 → v ≡ two_value sizes funcs values places f x y → Steps sizes funcs values places c i t (record { end = i - 2; top = t + 1 }) (set c (t + 1) v)
    unfolding symbol_cells after
    two_step v y h ey ev p (value u) e = let b = (last_cell c p (4 * u + 0) i pos (omega arith) e).1 in absurd (other (omega arith))
    two_step v y h ey ev p (one g) e = let b = (last_two c p (4 * g + 2) 1 i (omega arith) e).3 in absurd (omega arith)
    two_step v y h ey ev p (two g) e =
        let b = last_two c p (4 * g + 2) 2 i (omega arith) e in
        let at : get_or c (i - 2) 0 ≡ 4 * g + 2 = b.2 in
        let z : f ≡ g = omega arith in
        let w : y ≡ get_or (drop t c) 1 0 = ey ∙ sym (get_or-drop t c 1 0) in
        let both : two_value sizes funcs values places f x y ≡ two_value sizes funcs values places g (get_or (drop t c) 0 0) (get_or (drop t c) 1 0) =
        ap (λ (j : ℕ). two_value sizes funcs values places j x y) z ∙ ap₂ (two_value sizes funcs values places g) (sym first) w in (
          take-set-le (i - 2) c (t + 1) v (omega arith) ∙ b.1,
          written c (t + 1) v ∙ ap₂ (λ (m : List ℕ) (n : ℕ). set m 0 n) (sym (drop-drop 1 t c)) (ev ∙ both),
        )

    -- no values
    pub none_step : 2 ≤ k → length c ≤ t → Steps sizes funcs values places c i t (record { end = i - 2; top = t }) c
    unfolding symbol_cells after
    none_step h past p (value u) e = let b = (last_cell c p (4 * u + 0) i pos (omega arith) e).1 in absurd (other (omega arith))
    none_step h past p (one g) e = let b = (last_two c p (4 * g + 2) 1 i (omega arith) e).3 in absurd (omega arith)
    none_step h past p (two g) e =
        let b = last_two c p (4 * g + 2) 2 i (omega arith) e in
        let z : drop t c ≡ [] = drop_of_length-le c {i = t} past in
        (b.1, z ∙ ap (λ (l : List ℕ). set (drop 1 l) 0 (two_value sizes funcs values places g (get_or l 0 0) (get_or l 1 0))) (sym z))

-- ALL SYMBOLS
module _ (sizes funcs values places c : List ℕ) (at end : ℕ) where
  -- what is left to read makes of the values that stand from t on what all symbols make
  abbrev pub Goes : ℕ → ℕ → List ℕ → Type 0
  Goes i t d =
      (p : List ℕ) (l : List Symbol) → length p ≡ at → take end c ≡ p ++ cells_of l
      → (m : List Symbol) × ((take i d ≡ p ++ cells_of m) × (run sizes funcs values places m (drop t d) ≡ run sizes funcs values places l (drop end c)))

  pub goes_start : Goes end end c
  goes_start p l n e = (l, (e, refl))

  pub goes_on : (i t : ℕ) (d : List ℕ) (r : Reached) (d' : List ℕ) → at < i → i ≤ length d → Steps sizes funcs values places d i t r d' → Goes i t d → Goes r.end r.top d'
  unfolding cells_of run
  goes_on i t d r d' h k step goes p l n e = let (m, (a, b)) = goes p l n e in go m a b
    where
      go : (m : List Symbol) → take i d ≡ p ++ cells_of m → run sizes funcs values places m (drop t d) ≡ run sizes funcs values places l (drop end c)
          → (m' : List Symbol) × ((take r.end d' ≡ p ++ cells_of m') × (run sizes funcs values places m' (drop r.top d') ≡ run sizes funcs values places l (drop end c)))
      go [] a b = absurd (omega (arith, length-take-le i d k, ap length a, length-append p []))
      go (x ∷ m) a b =
          let s = step (p ++ cells_of m) x (a ∙ sym (append_assoc p (cells_of m) (symbol_cells x))) in
          (m, (s.0, ap (run sizes funcs values places m) s.1 ∙ b))

  some_cell : (a : Symbol) → 0 < length (symbol_cells a)
  unfolding symbol_cells
  some_cell (value v) = omega arith
  some_cell (one f) = omega arith
  some_cell (two f) = omega arith

  pub goes_end : (i t : ℕ) (d : List ℕ) → i ≤ at → i ≤ length d → Goes i t d → Evaluates sizes funcs values places c at end t d
  unfolding cells_of run
  goes_end i t d h k goes p l n e = let (m, (a, b)) = goes p l n e in go m a b
    where
      go : (m : List Symbol) → take i d ≡ p ++ cells_of m → run sizes funcs values places m (drop t d) ≡ run sizes funcs values places l (drop end c) → drop t d ≡ run sizes funcs values places l (drop end c)
      go [] a b = b
      go (x ∷ m) a b =
          absurd (omega (arith, length-take-le i d k, ap length a, length-append p (cells_of m ++ symbol_cells x), length-append (cells_of m) (symbol_cells x), some_cell x))
