-- New parts: what is asked of one so that its equation can be written.
use mathlib.Core.Path.{◌≡◌, refl, sym, ap, ap₂, subst, ◌∙◌}
use mathlib.Core.List.{List, [], ◌∷◌, ◌++◌}
use mathlib.Core.Bool.{Bool, true, false}
use Prim.Native.Nat.{ℕ, zero, suc, ◌+◌, ◌-◌, ◌*◌, ◌/◌, ◌%◌, ◌^◌, ◌≤◌, ◌<◌}
use native.Mathlib.Nat.{pow-suc}
use native.Mathlib.Omega.{arith}
use lib.ListN.{length, replicate, length-append}
use Rattle.pcrl.specs.Tests.{Every}
use Rattle.pcrl.specs.Sheet.{Proc, delta, atom, alt, cond, sum, seq, call, Process, Sheet}
use Rattle.pcrl.specs.Parts.{NewPart, new_count, if_after, new_parts, all_new_parts, count}
use Rattle.laws.specs.Lists.{length_snoc}
use Rattle.laws.specs.Every.{every_append}
use Rattle.theory.specs.Segments.{new_parts_length}
use Rattle.nodes.specs.Layout.{seq_kind}
use Rattle.nodes.specs.Nodes.{kind_of}
use Rattle.nodes.specs.Bits.{odd}
use Rattle.nodes.specs.Scoped.{max_scope}
use Rattle.marking.specs.Marks.{bits}
use Rattle.following.specs.Fine.{Fine}
use Rattle.listing.specs.Listing.{all_marks}

-- can be written, in a scope that is not too large, no sequence, with at most N parts inside
pub record PartRight (H : Sheet) (N : ℕ) (x : NewPart) : Type 0 where
  pub fine : Fine H (length x.scope) x.term
  pub scope_few : length x.scope ≤ max_scope
  pub parts_few : new_count false x.term ≤ N
  pub no_seq : kind_of x.term ≡ seq_kind → ⊥

module _ (H : Sheet) (N : ℕ) where
  own : (r : Bool) (Γ : List ℕ) (p : Proc) → Fine H (length Γ) p → length Γ ≤ max_scope → new_count false p ≤ N → (kind_of p ≡ seq_kind → ⊥) → Every (PartRight H N) (if_after r Γ p)
  unfolding if_after Every
  own false Γ p f g h k = tt
  own true Γ p f g h k = (record { fine = f; scope_few = g; parts_few = h; no_seq = k }, tt)

  none : Every (PartRight H N) []
  unfolding Every
  none = tt

  pub parts_right : (r : Bool) (Γ : List ℕ) (p : Proc) → Fine H (length Γ) p → length Γ ≤ max_scope → new_count r p ≤ N → Every (PartRight H N) (new_parts r Γ p)
  unfolding new_parts new_count Fine if_after kind_of
  parts_right r Γ delta f g h = own r Γ delta f g (omega arith) (λ e. omega arith)
  parts_right r Γ (atom a ds) f g h = own r Γ (atom a ds) f g (omega arith) (λ e. omega arith)
  parts_right r Γ (alt p q) f g h =
      let a = length-append (if_after r [] (alt p q)) (new_parts false [] p ++ new_parts false [] q) in
      let b = length-append (new_parts false [] p) (new_parts false [] q) in
      every_append (PartRight H N) _ _ (own r Γ (alt p q) f g (omega arith) (λ e. omega arith))
      (every_append (PartRight H N) _ _ (parts_right false Γ p f.0 g (omega arith)) (parts_right false Γ q f.1 g (omega arith)))
  parts_right r Γ (cond c p q) f g h =
      let a = length-append (if_after r [] (cond c p q)) (new_parts false [] p ++ new_parts false [] q) in
      let b = length-append (new_parts false [] p) (new_parts false [] q) in
      every_append (PartRight H N) _ _ (own r Γ (cond c p q) f g (omega arith) (λ e. omega arith))
      (every_append (PartRight H N) _ _ (parts_right false Γ p f.1.0 g (omega arith)) (parts_right false Γ q f.1.1 g (omega arith)))
  parts_right r Γ (sum x D p) f g h =
      let a = length-append (if_after r [] (sum x D p)) (new_parts false ([] ++ (D ∷ [])) p) in
      let b : length (new_parts false ([] ++ (D ∷ [])) p) ≡ length (new_parts false [] p) = new_parts_length false ([] ++ (D ∷ [])) p in
      let s = length_snoc Γ D in
      every_append (PartRight H N) _ _ (own r Γ (sum x D p) f g (omega arith) (λ e. omega arith))
      (parts_right false (Γ ++ (D ∷ [])) p (subst (λ (n : ℕ). Fine H n p) (sym s) f.1.1.1) (omega (arith, f.1.0)) (omega arith))
  parts_right r Γ (seq p q) f g h =
      let a = length-append (new_parts r [] p) (new_parts true [] q) in
      every_append (PartRight H N) _ _ (parts_right r Γ p f.0 g (omega arith)) (parts_right true Γ q f.1 g (omega arith))
  parts_right r Γ (call k ds) f g h = none

  -- of all processes
  pub all_right : (ps : List Process) → Every (λ (p : Process). Fine H (length p.params) p.right × (length p.params ≤ max_scope)) ps → length (all_new_parts ps) ≤ N → Every (PartRight H N) (all_new_parts ps)
  unfolding all_new_parts Every
  all_right [] f h = tt
  all_right (p ∷ ps) f h =
      let a = length-append (new_parts false p.params p.right) (all_new_parts ps) in
      let b = new_parts_length false p.params p.right in
      every_append (PartRight H N) (new_parts false p.params p.right) (all_new_parts ps) (parts_right false p.params p.right f.0.0 f.0.1 (omega arith)) (all_right ps f.1 (omega arith))

-- no more marks than there are variables
pub count_few : (bs : List Bool) → count bs ≤ length bs
unfolding count
count_few [] = omega arith
count_few (true ∷ bs) = omega (arith, count_few bs)
count_few (false ∷ bs) = omega (arith, count_few bs)

-- EVERY VARIABLE MARKED
pow_some : (k : ℕ) → 1 ≤ 2 ^ k
pow_some zero = omega arith
pow_some (suc k) = omega (arith, pow-suc 2 k, pow_some k)

all_set : (n k : ℕ) → n ≤ k → bits n (2 ^ k - 1) ≡ replicate n true
unfolding bits odd
all_set zero k h = refl
all_set (suc n) zero h = absurd (omega arith)
all_set (suc n) (suc k) h =
    let a : (2 ^ suc k - 1) % 2 ≡ 1 = omega (arith, pow-suc 2 k, pow_some k) in
    let b : (2 ^ suc k - 1) / 2 ≡ 2 ^ k - 1 = omega (arith, pow-suc 2 k, pow_some k) in
    ap₂ (λ (x : Bool) (l : List Bool). x ∷ l) (ap odd a) (ap (bits n) b ∙ all_set n k (omega arith))

pub marks_all : (n : ℕ) → n ≤ max_scope → bits n all_marks ≡ replicate n true
marks_all n h = all_set n max_scope h
