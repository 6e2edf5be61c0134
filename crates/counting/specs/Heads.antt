-- Counting counts the heads, whatever the terms put for variables and the numbers of variables and equations are.
use Rattle.std.specs.Prelude.{◌≡◌, List, [], ◌∷◌, ◌++◌, map}
use Rattle.std.proofs.Math.Path.{refl, ap}
use Rattle.std.proofs.Common.{◌∙◌}
use Rattle.std.proofs.Math.Bool.{false}
use Prim.Native.Nat.{ℕ, zero, suc, ◌+◌}
use Rattle.std.proofs.Math.ListN.{length, length-append, length-map}
use Rattle.pcrl.specs.Sheet.{Data, var, Proc, delta, atom, alt, cond, sum, seq, call, Sheet, right}
use Rattle.pcrl.specs.Values.{put_data}
use Rattle.pcrl.specs.Parts.{new_count, first_new}
use Rattle.pcrl.specs.Table.{Summand}
use Rattle.pcrl.specs.Heads.{look, calls_of, with_var, with_cond, with_calls, heads_by, heads}
use Rattle.counting.specs.Count.{count_by}

module _ (known : List Data → ℕ → ℕ → List Summand) (n : ℕ → ℕ) (e : (σ : List Data) (m k : ℕ) → length (known σ m k) ≡ n k) where
  pub count_right : (σ : List Data) (m c : ℕ) (p : Proc) → length (heads_by known σ m c p) ≡ count_by n p
  unfolding heads_by count_by
  count_right σ m c delta = refl
  count_right σ m c (atom a ds) = refl
  count_right σ m c (alt p q) =
      rw (length-append (heads_by known σ m c p) (heads_by known σ m (c + new_count false p) q), count_right σ m c p, count_right σ m (c + new_count false p) q)
  count_right σ m c (cond d p q) =
      length-append (map (with_cond 1 (put_data (look σ) d)) (heads_by known σ m c p)) (map (with_cond 0 (put_data (look σ) d)) (heads_by known σ m (c + new_count false p) q))
      ∙ rw (length-map (heads_by known σ m c p) (with_cond 1 (put_data (look σ) d)), length-map (heads_by known σ m (c + new_count false p) q) (with_cond 0 (put_data (look σ) d)), count_right σ m c p, count_right σ m (c + new_count false p) q)
  count_right σ m c (sum x D p) = length-map (heads_by known (σ ++ (var m ∷ [])) (suc m) c p) (with_var D) ∙ count_right _ (suc m) c p
  count_right σ m c (seq p q) = length-map (heads_by known σ m c p) (with_calls (calls_of σ (c + new_count false p) q)) ∙ count_right σ m c p
  count_right σ m c (call k ds) = e (map (put_data (look σ)) ds) m k

module _ (H : Sheet) where
  -- the heads of a process's right side, where f calls may still be followed
  unfoldable pub known_of : ℕ → List Data → ℕ → ℕ → List Summand
  known_of zero σ m k = []
  known_of (suc f) σ m k = heads H f σ m (first_new (length H.procs) H.procs k) (right H k)

  pub heads_open : (f : ℕ) (σ : List Data) (m c : ℕ) (p : Proc) → heads H f σ m c p ≡ heads_by (known_of f) σ m c p
  unfolding heads known_of
  heads_open zero σ m c p = refl
  heads_open (suc f) σ m c p = refl

  -- how many heads a call of process k has
  unfoldable pub called : ℕ → ℕ → ℕ
  called zero k = 0
  called (suc f) k = count_by (called f) (right H k)

  -- and a term
  unfoldable pub count_of : ℕ → Proc → ℕ
  count_of f p = count_by (called f) p

  known_count : (f : ℕ) (σ : List Data) (m k : ℕ) → length (known_of f σ m k) ≡ called f k
  unfolding known_of called
  known_count zero σ m k = refl
  known_count (suc f) σ m k =
      ap length (heads_open f σ m (first_new (length H.procs) H.procs k) (right H k))
      ∙ count_right (known_of f) (called f) (known_count f) σ m (first_new (length H.procs) H.procs k) (right H k)

  pub count_heads : (f : ℕ) (σ : List Data) (m c : ℕ) (p : Proc) → length (heads H f σ m c p) ≡ count_of f p
  unfolding count_of
  count_heads f σ m c p = ap length (heads_open f σ m c p) ∙ count_right (known_of f) (called f) (known_count f) σ m c p
