-- Operands one behind another: some were written, and others are left. One set of laws for those of `\/` and of `/\`.
use mathlib.Core.Path.{◌≡◌, refl, sym, ap, ◌∙◌, subst}
use mathlib.Core.List.{List, [], ◌∷◌, ◌++◌, append_assoc, append-nil}
use Rattle.std.specs.Prelude.{Option as Given, Some, None}
use mathlib.Core.Option.{Option, none, some}
use Prim.Native.Nat.{ℕ, suc, ◌+◌, ◌≤◌, ◌<◌}
use native.Mathlib.Omega.{arith}
use lib.ListN.{length, drop}
use Rattle.pcrl.specs.Reader.{all}
use Rattle.pcrl.specs.Tree.{RawData, Conjunction}
use Rattle.parser.specs.Cells.{Symbol, more_ors, more_ands, enc_ors, enc_ands, enc_conjunction, enc_comparison}
use Rattle.parser.specs.Reading.{Put}
use Rattle.resolver.specs.Raw.{disjuncts, conjuncts}
use Rattle.resolver.specs.Writing.{Writes}
use Rattle.parser.specs.declared.Step.{Step}
use Rattle.resolver.specs.Resolving.{Outcome, joins, ◌⊕◌}
use Rattle.resolver.proofs.Writing.{writes_nothing, writes_then, writes_cell}
use Rattle.resolver.proofs.DataCells.{then_nothing, then_assoc, then_none, then_last, none_last, each_cells, joins_last}

-- ---- the operands in the raw tree
pub disjuncts_are : (d : RawData) → enc_ors d ≡ all enc_conjunction (disjuncts d)
unfolding enc_ors all disjuncts
disjuncts_are (RawData.only c) = sym (append-nil (enc_conjunction c))
disjuncts_are (RawData.or c d) = ap (λ l. enc_conjunction c ++ l) (disjuncts_are d)

pub disjuncts_many : (d : RawData) → length (disjuncts d) ≡ suc (more_ors d)
unfolding disjuncts more_ors
disjuncts_many (RawData.only c) = refl
disjuncts_many (RawData.or c d) = ap suc (disjuncts_many d)

pub conjuncts_are : (c : Conjunction) → enc_ands c ≡ all enc_comparison (conjuncts c)
unfolding enc_ors all conjuncts
conjuncts_are (Conjunction.single c) = sym (append-nil (enc_comparison c))
conjuncts_are (Conjunction.and c d) = ap (λ l. enc_comparison c ++ l) (conjuncts_are d)

pub conjuncts_many : (c : Conjunction) → length (conjuncts c) ≡ suc (more_ands c)
unfolding conjuncts more_ands
conjuncts_many (Conjunction.single c) = refl
conjuncts_many (Conjunction.and c d) = ap suc (conjuncts_many d)

-- ---- the walk over them: i of m were read
pub data Joining {A : Type 0} (enc : A → List Symbol) (cells : A → Option (List ℕ)) (raw : List ℕ) (ys rest : List Symbol) (whole : Option (List ℕ)) (m w : ℕ) (o : List ℕ) (p v i : ℕ) (o' : List ℕ) : Type 0 where
  going : (l : List A) (e : List ℕ) → p ≤ length raw → drop p ys ≡ all enc l ++ rest → whole ≡ some e ⊕ each_cells cells l → i + length l ≡ m → Writes e w o v o'
      → Joining enc cells raw ys rest whole m w o p v i o'

module _ {A : Type 0} (enc : A → List Symbol) (cells : A → Option (List ℕ)) (raw : List ℕ) (ys rest : List Symbol) where
  pub joining_start : (l : List A) (w : ℕ) (o : List ℕ) (p : ℕ) → p ≤ length raw → drop p ys ≡ all enc l ++ rest → Joining enc cells raw ys rest (each_cells cells l) (length l) w o p w 0 o
  joining_start l w o p h e = going l [] h e (sym (then_nothing (each_cells cells l))) (omega arith) writes_nothing

  module _ (whole : Option (List ℕ)) (m w : ℕ) (o : List ℕ) where
    pub joining_step : (p v i : ℕ) (o₁ : List ℕ) → Joining enc cells raw ys rest whole m w o p v i o₁ → i < m → (r : Step) (o₂ : List ℕ)
        → ((a : A) (l : List Symbol) → drop p ys ≡ enc a ++ l → Outcome raw ys l v o₁ (Some r) o₂ (cells a)) → Joining enc cells raw ys rest whole m w o r.at r.w (i + 1) o₂
    unfolding all each_cells
    joining_step p v i o₁ (going [] e z d q n ws) h r o₂ resolves = absurd (omega arith)
    joining_step p v i o₁ (going (a ∷ l) e z d q n ws) h r o₂ resolves = on (cells a) q (resolves a (all enc l ++ rest) (d ∙ append_assoc (enc a) (all enc l) rest))
      where
        on : (X : Option (List ℕ)) → whole ≡ some e ⊕ (X ⊕ each_cells cells l) → Outcome raw ys (all enc l ++ rest) v o₁ (Some r) o₂ X → Joining enc cells raw ys rest whole m w o r.at r.w (i + 1) o₂
        on none q y = absurd y
        on (some g) q y = going l (e ++ g) y.0 y.1 (q ∙ then_assoc e g (each_cells cells l)) (omega arith) (writes_then ws y.2)

    -- one of them is missing
    pub joining_lost : (p v i : ℕ) (o₁ : List ℕ) → Joining enc cells raw ys rest whole m w o p v i o₁ → i < m → (o₂ : List ℕ)
        → ((a : A) (l : List Symbol) → drop p ys ≡ enc a ++ l → Outcome raw ys l v o₁ None o₂ (cells a)) → whole ≡ none
    unfolding all each_cells
    joining_lost p v i o₁ (going [] e z d q n ws) h o₂ resolves = absurd (omega arith)
    joining_lost p v i o₁ (going (a ∷ l) e z d q n ws) h o₂ resolves = on (cells a) q (resolves a (all enc l ++ rest) (d ∙ append_assoc (enc a) (all enc l) rest))
      where
        on : (X : Option (List ℕ)) → whole ≡ some e ⊕ (X ⊕ each_cells cells l) → Outcome raw ys (all enc l ++ rest) v o₁ None o₂ X → whole ≡ none
        on none q y = q ∙ then_none e (each_cells cells l)
        on (some g) q y = absurd y

    pub joining_end : (p v i : ℕ) (o₁ : List ℕ) → Joining enc cells raw ys rest whole m w o p v i o₁ → m ≤ i → Outcome raw ys rest w o (Some (record { at = p; w = v })) o₁ whole
    unfolding all each_cells
    joining_end p v i o₁ (going [] e z d q n ws) h =
        subst (λ (x : Option (List ℕ)). Outcome raw ys rest w o (Some (record { at = p; w = v })) o₁ x) (ap some (sym (append-nil e)) ∙ sym (then_last e []) ∙ sym q) (z, d, ws)
    joining_end p v i o₁ (going (a ∷ l) e z d q n ws) h = absurd (omega arith)

-- ---- the functions before them
pub joins_none : (c : ℕ) {w : ℕ} {o : List ℕ} → Writes (joins c 0) w o w o
unfolding joins
joins_none c = writes_nothing

pub joins_more : (c i : ℕ) {w v v₁ v₂ : ℕ} {o o₁ o₂ o₃ : List ℕ} → Writes (joins c i) w o v o₁ → Put o₁ v c v₁ o₂ → Put o₂ v₁ 2 v₂ o₃ → Writes (joins c (i + 1)) w o v₂ o₃
joins_more c i {w} {v} {v₁} {v₂} {o} {o₁} {o₂} {o₃} ws put₁ put₂ =
    subst (λ (l : List ℕ). Writes l w o v₂ o₃) (joins_last c i) (writes_then ws (writes_then (writes_cell put₁) (writes_cell put₂)))

-- cells before those
pub written_before : (raw : List ℕ) (ys rest : List Symbol) {w w₁ : ℕ} {o o₁ : List ℕ} (r : Given Step) (o' e : List ℕ) (X : Option (List ℕ)) → Writes e w o w₁ o₁ → Outcome raw ys rest w₁ o₁ r o' X
    → Outcome raw ys rest w o r o' (some e ⊕ X)
written_before raw ys rest {w} {w₁} {o} {o₁} None o' e none ws h = subst (λ (x : Option (List ℕ)). Outcome raw ys rest w o None o' x) (sym (none_last e)) tt
written_before raw ys rest {w} {w₁} {o} {o₁} (Some a) o' e none ws h = absurd h
written_before raw ys rest {w} {w₁} {o} {o₁} None o' e (some g) ws h = absurd h
written_before raw ys rest {w} {w₁} {o} {o₁} (Some a) o' e (some g) ws h = subst (λ (x : Option (List ℕ)). Outcome raw ys rest w o (Some a) o' x) (sym (then_last e g)) (h.0, h.1, writes_then ws h.2)
