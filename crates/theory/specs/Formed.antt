-- Where a term stands when its heads are taken: what is in scope, what is put for it, and where its new equations begin.
-- It goes on to the terms inside it.
use Rattle.std.specs.Prelude.{◌≡◌, List, [], ◌∷◌, ◌++◌, Bool, ℕ, suc, ◌+◌, ◌<◌, length}
use Rattle.std.proofs.Math.Bool.{true, false}
use Rattle.std.proofs.Common.{arith}
use Rattle.std.proofs.Math.ListN.{length-append}
use Rattle.pcrl.specs.Tests.{Every}
use Rattle.pcrl.specs.Sheet.{Data, var, Proc, delta, atom, alt, cond, sum, seq, call, Sheet, params}
use Rattle.pcrl.specs.Sorts.{Scope, binding, HasSort, Sorted}
use Rattle.pcrl.specs.Parts.{if_after, new_parts, new_count}
use Rattle.laws.specs.Lists.{length_snoc}
use Rattle.laws.specs.Each.{each_length}
use Rattle.theory.specs.Standing.{Numbered}
use Rattle.theory.specs.Below.{Below, below_snoc}
use Rattle.theory.specs.Segments.{Seg, seg_left, seg_right, next_new}

module _ (H : Sheet) where
  -- sums bind the next number, calls are of processes and have as many arguments as these have parameters
  unfoldable pub Formed : List ℕ → Proc → Type 0
  Formed Γ delta = Unit {0}
  Formed Γ (atom a ds) = Unit {0}
  Formed Γ (alt p q) = Formed Γ p × Formed Γ q
  Formed Γ (cond c p q) = Formed Γ p × Formed Γ q
  Formed Γ (sum x D p) = (x ≡ length Γ) × Formed (Γ ++ (D ∷ [])) p
  Formed Γ (seq p q) = Formed Γ p × Formed Γ q
  Formed Γ (call k ds) = (k < length H.procs) × (length ds ≡ length (params H k))

  pub sorted_formed : (Γ : List ℕ) (S : Scope) (p : Proc) → Numbered (length Γ) p → Sorted H S p → Formed Γ p
  unfolding Formed Numbered Sorted
  sorted_formed Γ S delta n s = tt
  sorted_formed Γ S (atom a ds) n s = tt
  sorted_formed Γ S (alt p q) n s = (sorted_formed Γ S p n.0 s.0, sorted_formed Γ S q n.1 s.1)
  sorted_formed Γ S (cond c p q) n s = (sorted_formed Γ S p n.0 s.1.0, sorted_formed Γ S q n.1 s.1.1)
  sorted_formed Γ S (sum x D p) n s = (n.0, sorted_formed (Γ ++ (D ∷ [])) (binding x D S) p (rw (length_snoc Γ D) n.1) s.1)
  sorted_formed Γ S (seq p q) n s = (sorted_formed Γ S p n.0 s.0, sorted_formed Γ S q n.1 s.1)
  sorted_formed Γ S (call k ds) n s = (s.0, each_length (HasSort H.sig S) ds (params H k) s.1)

  pub formed_numbered : (Γ : List ℕ) (p : Proc) → Formed Γ p → Numbered (length Γ) p
  unfolding Formed Numbered
  formed_numbered Γ delta f = tt
  formed_numbered Γ (atom a ds) f = tt
  formed_numbered Γ (alt p q) f = (formed_numbered Γ p f.0, formed_numbered Γ q f.1)
  formed_numbered Γ (cond c p q) f = (formed_numbered Γ p f.0, formed_numbered Γ q f.1)
  formed_numbered Γ (sum x D p) f = (f.0, rw (length_snoc Γ D) at (formed_numbered (Γ ++ (D ∷ [])) p f.1))
  formed_numbered Γ (seq p q) f = (formed_numbered Γ p f.0, formed_numbered Γ q f.1)
  formed_numbered Γ (call k ds) f = tt

  -- The term p with the sorts Γ in scope, σ put for the variables, m the next variable, c the number of its first new equation.
  -- `after`: it stands after a first part.
  pub record Placed (after : Bool) (σ : List Data) (m : ℕ) (Γ : List ℕ) (c : ℕ) (p : Proc) : Type 0 where
    pub below : Every (Below m) σ
    pub as_many : length Γ ≡ length σ
    pub formed : Formed Γ p
    pub segment : Seg H c (new_parts after Γ p)

  module _ {σ : List Data} {m : ℕ} {Γ : List ℕ} {c : ℕ} where
    pub alt_left : {p q : Proc} → Placed false σ m Γ c (alt p q) → Placed false σ m Γ c p
    unfolding Formed new_parts if_after
    alt_left {p} {q} at = record { below = at.below; as_many = at.as_many; formed = at.formed.0; segment = seg_left H c (new_parts false Γ p) (new_parts false Γ q) at.segment }

    pub alt_right : {p q : Proc} → Placed false σ m Γ c (alt p q) → Placed false σ m Γ (c + new_count false p) q
    unfolding Formed new_parts if_after
    alt_right {p} {q} at = record {
      below = at.below;
      as_many = at.as_many;
      formed = at.formed.1;
      segment = seg_right H c _ (new_parts false Γ p) (new_parts false Γ q) (next_new c false Γ p) at.segment;
    }

    -- a conditional is placed as a choice of its parts
    pub cond_alt : {d : Data} {p q : Proc} → Placed false σ m Γ c (cond d p q) → Placed false σ m Γ c (alt p q)
    unfolding Formed new_parts if_after
    cond_alt at = record { below = at.below; as_many = at.as_many; formed = at.formed; segment = at.segment }

    pub sum_inside : {x D : ℕ} {p : Proc} → Placed false σ m Γ c (sum x D p) → Placed false (σ ++ (var m ∷ [])) (suc m) (Γ ++ (D ∷ [])) c p
    unfolding Formed new_parts if_after
    sum_inside at = record { below = below_snoc m σ at.below; as_many = let e = at.as_many in simp length-append (omega arith); formed = at.formed.1; segment = at.segment }

    pub seq_first : {after : Bool} {p q : Proc} → Placed after σ m Γ c (seq p q) → Placed after σ m Γ c p
    unfolding Formed new_parts
    seq_first {after} {p} {q} at = record { below = at.below; as_many = at.as_many; formed = at.formed.0; segment = seg_left H c (new_parts after Γ p) (new_parts true Γ q) at.segment }

    pub seq_rest : {after : Bool} {p q : Proc} → Placed after σ m Γ c (seq p q) → Placed true σ m Γ (c + new_count after p) q
    unfolding Formed new_parts
    seq_rest {after} {p} {q} at = record {
      below = at.below;
      as_many = at.as_many;
      formed = at.formed.1;
      segment = seg_right H c _ (new_parts after Γ p) (new_parts true Γ q) (next_new c after Γ p) at.segment;
    }
