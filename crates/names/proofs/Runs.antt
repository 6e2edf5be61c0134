-- The run of name bytes at a place of the sheet, byte by byte: its first byte is the one shown there, 0 where it is empty.
-- Two runs are the same exactly if what is left of them behind equal first bytes is.
use mathlib.Core.Path.{◌≡◌, refl, sym, ◌∙◌, ap}
use mathlib.Core.List.{List, [], ◌∷◌}
use mathlib.Core.Bool.{Bool, true, false}
use Prim.Native.Nat.{ℕ, zero, suc, ◌+◌, ◌-◌, ◌≤◌, ◌<◌}
use native.Mathlib.Numerals.{add-one}
use native.Mathlib.Omega.{arith}
use lib.Dec.{T}
use lib.ListN.{length, take, drop, get_or, get_or-eq_default}
use Rattle.pcrl.specs.Text.{bytes}
use Rattle.pcrl.specs.Tests.{negated, T?}
use Rattle.pcrl.specs.Bytes.{name_byte}
use Rattle.pcrl.specs.Tokens.{run, front}
use Rattle.laws.specs.Tests.{is_true}
use Rattle.grammar.specs.Spelled.{decided_below, holds_below}
use Rattle.lexer.specs.Cells.{first_name}
use Rattle.names.specs.NameCells.{name_at, shown}

-- the run at a place
abbrev pub run_at : List ℕ → ℕ → List ℕ
run_at s p = front name_byte (drop p s)

abbrev before_run : Bool → ℕ → List ℕ → List ℕ
before_run true b w = b ∷ w
before_run false b w = []

front_cons : (b : ℕ) (l : List ℕ) → front name_byte (b ∷ l) ≡ before_run (name_byte b) b (front name_byte l)
unfolding run
front_cons b l = go (name_byte b)
  where
    go : (t : Bool) → take (elim t [ true ↦ suc (run name_byte l) | false ↦ 0 ]) (b ∷ l) ≡ before_run t b (front name_byte l)
    go true = refl
    go false = refl

-- what the byte shown says of the run
abbrev Shows : ℕ → List ℕ → List ℕ → Type 0
Shows x w v = (x ≡ 0 → w ≡ []) × ((x ≡ 0 → ⊥) → w ≡ x ∷ v)

shows_cons : (b : ℕ) (l : List ℕ) → Shows (shown b) (front name_byte (b ∷ l)) (front name_byte l)
unfolding shown
shows_cons b l = go (name_byte b) refl
  where
    go : (t : Bool) → name_byte b ≡ t → Shows (elim t [ true ↦ b | false ↦ 0 ]) (front name_byte (b ∷ l)) (front name_byte l)
    go true e = (λ z. let f : true ≡ false = sym e ∙ ap name_byte z in absurd (let y : ◌≡◌ {A = ℕ} 0 1 = cc in omega arith), λ n. rw (front_cons b l, e))
    go false e = (λ z. rw (front_cons b l, e), λ n. absurd (n refl))

shows_at : (s : List ℕ) (p : ℕ) → Shows (shown (get_or s p 0)) (run_at s p) (run_at s (suc p))
unfolding shown run
shows_at [] zero = (λ z. refl, λ n. absurd (n refl))
shows_at [] (suc p) = (λ z. refl, λ n. absurd (n refl))
shows_at (b ∷ s) zero = shows_cons b s
shows_at (b ∷ s) (suc p) = shows_at s p

-- no byte shown: the run is empty
pub run_ends : (s : List ℕ) (p : ℕ) → shown (get_or s p 0) ≡ 0 → run_at s p ≡ []
run_ends s p = (shows_at s p).0

-- a byte shown: the run goes on behind it
pub run_goes : (s : List ℕ) (p : ℕ) → (shown (get_or s p 0) ≡ 0 → ⊥) → run_at s p ≡ shown (get_or s p 0) ∷ run_at s (p + 1)
run_goes s p n = rw add-one ((shows_at s p).1 n)

-- the byte shown is the run's first
shown_first : (s : List ℕ) (p : ℕ) → shown (get_or s p 0) ≡ get_or (run_at s p) 0 0
shown_first s p = go (shown (get_or s p 0)) (shows_at s p)
  where
    go : (x : ℕ) → Shows x (run_at s p) (run_at s (suc p)) → x ≡ get_or (run_at s p) 0 0
    go zero h = rw (h.0 refl)
    go (suc x) h = rw (h.1 (λ e. let y : ◌≡◌ {A = ℕ} (suc x) 0 = e in omega arith))

-- nothing is shown past the end
pub shown_past : (s : List ℕ) (p : ℕ) → length s ≤ p → shown (get_or s p 0) ≡ 0
unfolding shown
shown_past s p h = rw (get_or-eq_default s 0 h)

-- the names of cells a and b are the same exactly if the runs at p and q are
pub record Alike (s : List ℕ) (a b p q : ℕ) : Type 0 where
  pub same : run_at s p ≡ run_at s q → name_at s a ≡ name_at s b
  pub only : name_at s a ≡ name_at s b → run_at s p ≡ run_at s q

pub alike_start : (s : List ℕ) (a b p q : ℕ) → p ≡ a - first_name → q ≡ b - first_name → Alike s a b p q
unfolding name_at
alike_start s a b p q e f = record { same = λ h. rw (← e, ← f) h; only = λ h. rw (e, f) h }

pub alike_on : (s : List ℕ) (a b p q p' q' : ℕ) → Alike s a b p q → shown (get_or s p 0) ≡ shown (get_or s q 0) → (shown (get_or s p 0) ≡ 0 → ⊥) → p' ≡ p + 1 → q' ≡ q + 1
    → Alike s a b p' q'
alike_on s a b p q p' q' A e n pp qq =
    let g : run_at s p ≡ shown (get_or s p 0) ∷ run_at s p' = rw pp (run_goes s p n) in
    let h : run_at s q ≡ shown (get_or s q 0) ∷ run_at s q' = rw qq (run_goes s q (λ z. n (e ∙ z))) in
    record { same = λ k. A.same (cc); only = λ k. let m : run_at s p ≡ run_at s q = A.only k in cc }

pub alike_end : (s : List ℕ) (a b p q : ℕ) → Alike s a b p q → shown (get_or s p 0) ≡ 0 → shown (get_or s q 0) ≡ 0 → name_at s a ≡ name_at s b
alike_end s a b p q A e f = A.same (run_ends s p e ∙ sym (run_ends s q f))

pub alike_not : (s : List ℕ) (a b p q : ℕ) → Alike s a b p q → (shown (get_or s p 0) ≡ shown (get_or s q 0) → ⊥) → name_at s a ≡ name_at s b → ⊥
alike_not s a b p q A n k = n (shown_first s p ∙ (ap (λ (w : List ℕ). get_or w 0 0) (A.only k) ∙ sym (shown_first s q)))

-- a byte that is shown is itself
pub shown_own : (b : ℕ) → (shown b ≡ 0 → ⊥) → shown b ≡ b
unfolding shown
shown_own b = go (name_byte b)
  where
    go : (t : Bool) → (◌≡◌ {A = ℕ} (elim t [ true ↦ b | false ↦ 0 ]) 0 → ⊥) → ◌≡◌ {A = ℕ} (elim t [ true ↦ b | false ↦ 0 ]) b
    go true n = refl
    go false n = absurd (n refl)

-- the bytes x and y at p and q, and what is shown of them
module _ (s : List ℕ) (a b p q x y : ℕ) (A : Alike s a b p q) (ex : x ≡ get_or s p 0) (ey : y ≡ get_or s q 0) where
  -- they differ, and the first is shown
  pub apart_first : (x ≡ y → ⊥) → (shown x ≡ 0 → ⊥) → name_at s a ≡ name_at s b → ⊥
  apart_first d n = alike_not s a b p q A (rw (← ex, ← ey) (λ e. d (sym (shown_own x n) ∙ (e ∙ shown_own y (λ z. n (e ∙ z))))))

  -- only the second is shown
  pub apart_second : shown x ≡ 0 → (shown y ≡ 0 → ⊥) → name_at s a ≡ name_at s b → ⊥
  apart_second z n = alike_not s a b p q A (rw (← ex, ← ey) (λ e. n (sym e ∙ z)))

  -- neither is
  pub both_end : shown x ≡ 0 → shown y ≡ 0 → name_at s a ≡ name_at s b
  both_end z w = alike_end s a b p q A (ap shown (sym ex) ∙ z) (ap shown (sym ey) ∙ w)

  -- they are the same one, which is shown
  pub both_go : (p' q' : ℕ) → x ≡ y → (shown x ≡ 0 → ⊥) → p' ≡ p + 1 → q' ≡ q + 1 → Alike s a b p' q'
  both_go p' q' e n pp qq = alike_on s a b p q p' q' A (ap shown (sym ex ∙ (e ∙ ey))) (λ z. n (ap shown ex ∙ z)) pp qq

-- a byte of the run, or 0 right behind it
run_behind : (s : List ℕ) (p x : ℕ) (w : List ℕ) → run_at s p ≡ x ∷ w → run_at s (suc p) ≡ w
run_behind s p x w e = go (shown (get_or s p 0)) (shows_at s p)
  where
    go : (y : ℕ) → Shows y (run_at s p) (run_at s (suc p)) → run_at s (suc p) ≡ w
    go zero h = let f : run_at s p ≡ [] = h.0 refl in absurd (let z : ◌≡◌ {A = ℕ} 0 1 = cc in omega arith)
    go (suc y) h = let f : run_at s p ≡ suc y ∷ run_at s (suc p) = h.1 (λ e. let z : ◌≡◌ {A = ℕ} (suc y) 0 = e in omega arith) in cc

pub shown_in_run : (s : List ℕ) (p k q : ℕ) (w : List ℕ) → run_at s p ≡ w → k ≤ length w → q ≡ p + k → shown (get_or s q 0) ≡ get_or w k 0
shown_in_run s p zero q w e l h = let z : q ≡ p = omega arith in rw (z, shown_first s p, e)
shown_in_run s p (suc k) q [] e l h = absurd (omega arith)
shown_in_run s p (suc k) q (x ∷ w) e l h = shown_in_run s (suc p) k q w (run_behind s p x w e) (omega arith) (omega arith)

pub run_from : (s : List ℕ) (p x q : ℕ) → shown (get_or s p 0) ≡ x → (x ≡ 0 → ⊥) → q ≡ p + 1 → run_at s p ≡ x ∷ run_at s q
run_from s p x q e n h = rw (h, ← e) (run_goes s p (λ z. n (sym e ∙ z)))

-- a byte that names have, and one that they have not
pub shown_yes : (b : ℕ) → name_byte b ≡ true → b ≡ shown b
unfolding shown
shown_yes b = go (name_byte b)
  where
    go : (v : Bool) → v ≡ true → b ≡ elim v [ true ↦ b | false ↦ 0 ]
    go true e = refl
    go false e = absurd (let y : ◌≡◌ {A = ℕ} 0 1 = cc in omega arith)

pub shown_no : (b : ℕ) → name_byte b ≡ false → 0 ≡ shown b
unfolding shown
shown_no b = go (name_byte b)
  where
    go : (v : Bool) → v ≡ false → ◌≡◌ {A = ℕ} 0 (elim v [ true ↦ b | false ↦ 0 ])
    go true e = absurd (let y : ◌≡◌ {A = ℕ} 0 1 = cc in omega arith)
    go false e = refl

-- small letters are shown, and nothing behind them in ASCII is
pub shown_small : (b : ℕ) → 97 ≤ b → b ≤ 122 → b ≡ shown b
unfolding decided_below T?
shown_small b l h =
    let z : 97 + (b - 97) ≡ b = omega arith in
    let t = holds_below {P = λ (i : ℕ). T (name_byte (97 + i))} (λ i. T? (name_byte (97 + i))) 26 tt (b - 97) (omega arith) in
    shown_yes b (is_true (name_byte b) (rw z at t))

pub shown_behind : (b : ℕ) → 122 < b → b < 256 → 0 ≡ shown b
unfolding decided_below T?
shown_behind b l h =
    let z : 123 + (b - 123) ≡ b = omega arith in
    let t = holds_below {P = λ (i : ℕ). T (negated (name_byte (123 + i)))} (λ i. T? (negated (name_byte (123 + i)))) 133 tt (b - 123) (omega arith) in
    shown_no b (go (name_byte b) (rw z at t))
  where
    go : (v : Bool) → T (negated v) → v ≡ false
    go true n = absurd n
    go false n = refl

-- "Bool": its four bytes, and then none
pub spells_bool : (s : List ℕ) (a p : ℕ) → p ≡ a - first_name → shown (get_or s p 0) ≡ 66 → shown (get_or s (p + 1) 0) ≡ 111 → shown (get_or s (p + 2) 0) ≡ 111
    → shown (get_or s (p + 3) 0) ≡ 108 → shown (get_or s (p + 4) 0) ≡ 0 → name_at s a ≡ bytes "Bool"
unfolding name_at
spells_bool s a p e e₀ e₁ e₂ e₃ e₄ =
    let r₀ : run_at s p ≡ 66 ∷ run_at s (p + 1) = run_from s p 66 (p + 1) e₀ (λ z. omega arith) (omega arith) in
    let r₁ : run_at s (p + 1) ≡ 111 ∷ run_at s (p + 2) = run_from s (p + 1) 111 (p + 2) e₁ (λ z. omega arith) (omega arith) in
    let r₂ : run_at s (p + 2) ≡ 111 ∷ run_at s (p + 3) = run_from s (p + 2) 111 (p + 3) e₂ (λ z. omega arith) (omega arith) in
    let r₃ : run_at s (p + 3) ≡ 108 ∷ run_at s (p + 4) = run_from s (p + 3) 108 (p + 4) e₃ (λ z. omega arith) (omega arith) in
    let r₄ : run_at s (p + 4) ≡ [] = run_ends s (p + 4) e₄ in
    rw (← e) (cc)

-- what the bytes of the name Bool show
pub bool_shows : (s : List ℕ) (a : ℕ) → name_at s a ≡ bytes "Bool" → (shown (get_or s (a - first_name) 0) ≡ 66) × (shown (get_or s (a - first_name + 1) 0) ≡ 111)
    × (shown (get_or s (a - first_name + 2) 0) ≡ 111) × (shown (get_or s (a - first_name + 3) 0) ≡ 108) × (shown (get_or s (a - first_name + 4) 0) ≡ 0)
unfolding name_at
bool_shows s a h =
    let p = a - first_name in (
      shown_in_run s p 0 p (bytes "Bool") h (omega arith) (omega arith),
      shown_in_run s p 1 (p + 1) (bytes "Bool") h (omega arith) refl,
      shown_in_run s p 2 (p + 2) (bytes "Bool") h (omega arith) refl,
      shown_in_run s p 3 (p + 3) (bytes "Bool") h (omega arith) refl,
      shown_in_run s p 4 (p + 4) (bytes "Bool") h (omega arith) refl,
    )
