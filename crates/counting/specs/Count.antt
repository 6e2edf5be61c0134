-- How many heads a term has, given how many each called process has; laws of cutting.
use Rattle.std.specs.Prelude.{◌≡◌, List, [], ◌∷◌, ◌++◌, Bool, ℕ, ◌+◌}
use Rattle.std.proofs.Math.Path.{refl}
use Rattle.std.proofs.Common.{sym, ◌∙◌}
use native.Mathlib.Omega.{arith}
use Rattle.pcrl.specs.Sheet.{Proc, delta, atom, alt, cond, sum, seq, call}
use Rattle.nodes.specs.Layout.{Item, seq_kind}
use Rattle.nodes.specs.Nodes.{kind_of, node_kids}
use Rattle.counting.specs.Limits.{cut}

module _ (known : ℕ → ℕ) where
  unfoldable pub count_by : Proc → ℕ
  count_by delta = 0
  count_by (atom a ds) = 1
  count_by (alt p q) = count_by p + count_by q
  count_by (cond c p q) = count_by p + count_by q
  count_by (sum x D p) = count_by p
  count_by (seq p q) = count_by p
  count_by (call k ds) = known k

  unfoldable pub count_all : List Item → ℕ
  count_all [] = 0
  count_all (x ∷ xs) = count_by x.1 + count_all xs

  -- what a node counts by itself
  unfoldable pub count_own : Proc → ℕ
  count_own delta = 0
  count_own (atom a ds) = 1
  count_own (alt p q) = 0
  count_own (cond c p q) = 0
  count_own (sum x D p) = 0
  count_own (seq p q) = 0
  count_own (call k ds) = known k

  pub count_open : (r : Bool) (p : Proc) (xs : List Item) → (kind_of p ≡ seq_kind → ⊥) → count_all ((r, p) ∷ xs) ≡ count_own p + count_all (node_kids r p ++ xs)
  unfolding count_by count_all count_own node_kids kind_of
  count_open r delta xs n = refl
  count_open r (atom a ds) xs n = refl
  count_open r (alt p q) xs n = omega arith
  count_open r (cond c p q) xs n = omega arith
  count_open r (sum x D p) xs n = omega arith
  count_open r (seq p q) xs n = absurd (n refl)
  count_open r (call k ds) xs n = refl

pub is_seq : (p : Proc) → kind_of p ≡ seq_kind → (q : Proc) × (s : Proc) × (p ≡ seq q s)
unfolding kind_of
is_seq delta e = absurd (omega arith)
is_seq (atom a ds) e = absurd (omega arith)
is_seq (alt p q) e = absurd (omega arith)
is_seq (cond c p q) e = absurd (omega arith)
is_seq (sum x D p) e = absurd (omega arith)
is_seq (seq p q) e = (p, q, refl)
is_seq (call k ds) e = absurd (omega arith)

pub cut_add : (a b : ℕ) → cut (cut a + cut b) ≡ cut (a + b)
unfolding cut
cut_add a b = omega arith

pub cut_sum : (a b c d : ℕ) → cut a ≡ cut c → cut b ≡ cut d → cut (a + b) ≡ cut (c + d)
cut_sum a b c d e f = sym (cut_add a b) ∙ rw (e, f) (cut_add c d)

pub cut_cut : (a : ℕ) → cut (cut a) ≡ cut a
unfolding cut
cut_cut a = omega arith

-- cutting the counts that are known changes nothing once the sum is cut
pub cut_known : (a b : ℕ → ℕ) → ((k : ℕ) → cut (a k) ≡ cut (b k)) → (p : Proc) → cut (count_by a p) ≡ cut (count_by b p)
unfolding count_by
cut_known a b h delta = refl
cut_known a b h (atom x ds) = refl
cut_known a b h (alt p q) = cut_sum _ _ _ _ (cut_known a b h p) (cut_known a b h q)
cut_known a b h (cond c p q) = cut_sum _ _ _ _ (cut_known a b h p) (cut_known a b h q)
cut_known a b h (sum x D p) = cut_known a b h p
cut_known a b h (seq p q) = cut_known a b h p
cut_known a b h (call k ds) = h k
