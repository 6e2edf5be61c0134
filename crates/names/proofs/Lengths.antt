-- How many bytes a name has, and names compared from the back: they are the same exactly if so many bytes agree and the other ends there.
use mathlib.Core.Path.{◌≡◌, refl, sym, ◌∙◌, ap}
use mathlib.Core.List.{List, ◌∷◌}
use Prim.Native.Nat.{ℕ, zero, suc, ◌+◌, ◌-◌, ◌≤◌, ◌<◌}
use native.Mathlib.Decide.{dec_lt}
use native.Mathlib.Omega.{arith}
use lib.Dec.{eqb}
use lib.ListN.{length, drop, get_or, length-take, length-drop, get_or-eq_default}
use Rattle.pcrl.specs.Bytes.{name_byte}
use Rattle.pcrl.specs.Tokens.{run}
use Rattle.laws.specs.Says.{Says, says_as, says_eq}
use Rattle.lexer.specs.Cells.{first_name}
use Rattle.names.specs.NameCells.{name_at, shown}
use Rattle.names.proofs.Runs.{run_at, run_ends, run_goes, shown_in_run, shown_own}

-- where a walk from p over n bytes ends, at e: behind them all, or where it began
pub walked : (n p e : ℕ) → n ≤ e → p ≤ e → (n < e → e ≡ p) → n - p ≡ e - p
walked n p e h k f = by (dec_lt n e)
  where
    by : Dec (n < e) → n - p ≡ e - p
    by (yes q) = let z = f q in omega arith
    by (no q) = let z : n ≡ e = omega arith in ap (λ (m : ℕ). m - p) z

-- the name of cell c begins at p, and what is left of it stands at e
abbrev pub LengthLeft : List ℕ → ℕ → ℕ → ℕ → Type 0
LengthLeft s c p e = length (name_at s c) + p ≡ e + length (run_at s e)

module _ (s : List ℕ) (c p : ℕ) where
  pub length_starts : p ≡ c - first_name → LengthLeft s c p p
  unfolding name_at
  length_starts e = rw e (omega arith)

  module _ (e : ℕ) (left : LengthLeft s c p e) where
    pub length_ends : shown (get_or s e 0) ≡ 0 → e - p ≡ length (name_at s c)
    length_ends z = omega (arith, ap length (run_ends s e z))

    pub length_goes : (shown (get_or s e 0) ≡ 0 → ⊥) → LengthLeft s c p (e + 1)
    length_goes n = omega (arith, ap length (run_goes s e n))

-- a run's bytes stand in the sheet, and each is shown
run_inside : (s : List ℕ) (p k : ℕ) → k < length (run_at s p) → p + k < length s
run_inside s p k h = omega (arith, length-take (run name_byte (drop p s)) (drop p s), length-drop p s)

run_shows : (s : List ℕ) (k p q : ℕ) → k < length (run_at s p) → q ≡ p + k → shown (get_or s q 0) ≡ 0 → ⊥
run_shows s zero p q h e z = let y : q ≡ p = omega arith in omega (arith, ap length (run_ends s p (rw y at z)))
run_shows s (suc k) p q h e z =
    let n : shown (get_or s p 0) ≡ 0 → ⊥ = λ y. omega (arith, ap length (run_ends s p y)) in
    run_shows s k (p + 1) q (omega (arith, ap length (run_goes s p n))) (omega arith) z

pub name_short : (s : List ℕ) (c : ℕ) → length (name_at s c) ≤ length s
unfolding name_at
name_short s c = omega (arith, length-take (run name_byte (drop (c - first_name) s)) (drop (c - first_name) s), length-drop (c - first_name) s)

-- the runs at p and q agree from the byte i on, if they do from the byte l on
abbrev pub AgreeFrom : List ℕ → ℕ → ℕ → ℕ → ℕ → Type 0
AgreeFrom s p q l i = run_at s (p + l) ≡ run_at s (q + l) → run_at s (p + i) ≡ run_at s (q + i)

-- the name of cell c stands at p and has l bytes, that of cell d stands at q
module _ (s : List ℕ) (c d p q l : ℕ) (ep : p ≡ c - first_name) (eq : q ≡ d - first_name) (el : l ≡ length (name_at s c)) where
  first_run : run_at s p ≡ name_at s c
  unfolding name_at
  first_run = rw ep refl

  second_run : run_at s q ≡ name_at s d
  unfolding name_at
  second_run = rw eq refl

  long : l ≡ length (run_at s p)
  long = el ∙ ap length (sym first_run)

  module _ (i : ℕ) (h : i < l) where
    pub byte_inside : p + i < length s
    byte_inside = run_inside s p i (omega (arith, long))

    shows_here : shown (get_or s (p + i) 0) ≡ 0 → ⊥
    shows_here = run_shows s i p (p + i) (omega (arith, long)) refl

    pub agree_more : (j : ℕ) → j ≡ i + 1 → get_or s (p + i) 0 ≡ get_or s (q + i) 0 → AgreeFrom s p q l j → AgreeFrom s p q l i
    agree_more j e same A behind =
        let y : p + i + 1 ≡ p + j = omega arith in
        let z : q + i + 1 ≡ q + j = omega arith in
        let f : run_at s (p + i) ≡ shown (get_or s (p + i) 0) ∷ run_at s (p + j) = rw (← y) (run_goes s (p + i) shows_here) in
        let g : run_at s (q + i) ≡ shown (get_or s (q + i) 0) ∷ run_at s (q + j) = rw (← z) (run_goes s (q + i) (λ w. shows_here (ap shown same ∙ w))) in
        let a : run_at s (p + j) ≡ run_at s (q + j) = A behind in
        cc

    -- a byte that differs
    pub agree_not : (get_or s (p + i) 0 ≡ get_or s (q + i) 0 → ⊥) → name_at s c ≡ name_at s d → ⊥
    agree_not other same =
        let f : shown (get_or s (p + i) 0) ≡ get_or (run_at s p) i 0 = shown_in_run s p i (p + i) (run_at s p) refl (omega (arith, long)) refl in
        let g : shown (get_or s (q + i) 0) ≡ get_or (run_at s p) i 0 = shown_in_run s q i (q + i) (run_at s p) (second_run ∙ sym same ∙ sym first_run) (omega (arith, long)) refl in
        let e : shown (get_or s (p + i) 0) ≡ shown (get_or s (q + i) 0) = f ∙ sym g in
        other (sym (shown_own (get_or s (p + i) 0) shows_here) ∙ e ∙ shown_own (get_or s (q + i) 0) (λ z. shows_here (e ∙ z)))

  -- the byte behind the name, by that of either run
  behind_name : (r : ℕ) → run_at s r ≡ name_at s c → shown (get_or s (r + l) 0) ≡ 0
  behind_name r e = shown_in_run s r l (r + l) (name_at s c) e (omega (arith, el)) refl ∙ get_or-eq_default (name_at s c) 0 (omega (arith, el))

  -- all bytes agree: it is the same name exactly if the other ends there
  pub agree_all : (i b : ℕ) → i ≡ 0 → AgreeFrom s p q l i → b ≡ shown (get_or s (q + l) 0) → Says (eqb b 0) (name_at s c ≡ name_at s d)
  agree_all i b z A e = says_as (eqb b 0) yes no (says_eq b 0)
    where
      yes : b ≡ 0 → name_at s c ≡ name_at s d
      yes t =
          let y : p + i ≡ p = omega arith in
          let x : q + i ≡ q = omega arith in
          let a : run_at s (p + i) ≡ run_at s (q + i) = A (run_ends s (p + l) (behind_name p first_run) ∙ sym (run_ends s (q + l) (sym e ∙ t))) in
          sym first_run ∙ rw (← y, ← x) a ∙ second_run

      no : name_at s c ≡ name_at s d → b ≡ 0
      no same = e ∙ behind_name q (second_run ∙ sym same)
