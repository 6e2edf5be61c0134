-- The processes at the head: what a count hangs on, and sets of them as bits.
use mathlib.Core.Path.{◌≡◌, refl, sym, ap, subst, ◌∙◌}
use mathlib.Core.List.{List, ◌++◌}
use mathlib.Core.Bool.{Bool, true, false}
use Prim.Native.Nat.{ℕ, ◌+◌, ◌*◌}
use native.Mathlib.Omega.{arith}
use native.Mathlib.Decide.{ℕ_discrete}
use borrow.Author.Tests.{eqb-true, eq-eqb, ne_eqb}
use lib.Dec.{eqb}
use lib.Bits.{bit_or}
use lib.ListN.{length, get_or}
use Rattle.pcrl.specs.Tests.{or}
use Rattle.pcrl.specs.Sheet.{Proc, delta, atom, alt, cond, sum, seq, call, Sheet, right}
use Rattle.pcrl.specs.Circles.{at_head}
use Rattle.laws.specs.Booleans.{or_false}
use Rattle.nodes.specs.Bits.{bit}
use Rattle.nodes.proofs.Bits.{or_bit, zero_bit}
use Rattle.checker.specs.Circles.{is_in, SetsAt, HeadsOf}
use Rattle.checker.proofs.Sets.{or_true, is_in_append}
use Rattle.counting.specs.Limits.{row_width, cut}
use Rattle.counting.specs.Count.{count_by, cut_sum}
use Rattle.counting.specs.Counting.{Placed, PartOf, SameIn, Unchanged}

in_left : (j : ℕ) (l m : List ℕ) → is_in j l ≡ true → is_in j (l ++ m) ≡ true
in_left j l m e = is_in_append j l m ∙ ap (λ (x : Bool). or x (is_in j m)) e

in_right : (j : ℕ) (l m : List ℕ) → is_in j m ≡ true → is_in j (l ++ m) ≡ true
in_right j l m e = is_in_append j l m ∙ ap (or (is_in j l)) e ∙ or_true (is_in j l)

-- a term's count hangs on the counts of the processes at its head
pub same_heads : (a b : ℕ → ℕ) (p : Proc) → ((j : ℕ) → is_in j (at_head p) ≡ true → cut (a j) ≡ cut (b j)) → cut (count_by a p) ≡ cut (count_by b p)
unfolding count_by at_head is_in
same_heads a b delta h = refl
same_heads a b (atom x ds) h = refl
same_heads a b (alt p q) h =
    cut_sum _ _ _ _ (same_heads a b p (λ j e. h j (in_left j (at_head p) (at_head q) e))) (same_heads a b q (λ j e. h j (in_right j (at_head p) (at_head q) e)))
same_heads a b (cond c p q) h =
    cut_sum _ _ _ _ (same_heads a b p (λ j e. h j (in_left j (at_head p) (at_head q) e))) (same_heads a b q (λ j e. h j (in_right j (at_head p) (at_head q) e)))
same_heads a b (sum x D p) h = same_heads a b p h
same_heads a b (seq p q) h = same_heads a b p h
same_heads a b (call k ds) h = h k (ap (λ (x : Bool). or x false) (eq-eqb k k refl))

pub union_part : (a b : ℕ) → eqb (bit_or a b) b ≡ true → PartOf a b
union_part a b e i h = ap (bit i) (sym (eqb-true (bit_or a b) b e)) ∙ or_bit i a b ∙ ap (λ (x : Bool). or x (bit i b)) h

-- THE SETS OF ALL RIGHT SIDES

pub sets_placed : (H : Sheet) (cells starts : List ℕ) (n : ℕ) (sets : List ℕ) → length H.procs ≡ n → Placed H cells starts → SetsAt cells starts n sets → HeadsOf H n sets
unfolding right
sets_placed H cells starts n sets e placed found k l = let p = placed k (omega arith) in found k l (right H k) p.0 p.1

-- WHAT IS THE SAME IN TWO ROWS

pub same_none : (t : List ℕ) (f : ℕ) → SameIn t f 0
same_none t f j w b = let e = zero_bit j in let z : ◌≡◌ {A = ℕ} 0 1 = cc in absurd (omega arith)

pub same_more : (t : List ℕ) (f k same r : ℕ) → ((i : ℕ) → bit i r ≡ or (bit i same) (eqb i k)) → get_or t (row_width * (f + 1) + k) 0 ≡ get_or t (row_width * f + k) 0 → SameIn t f same → SameIn t f r
same_more t f k same r bits e so_far j w b = go (ℕ_discrete j k)
  where
    go : Dec (j ≡ k) → get_or t (row_width * (f + 1) + j) 0 ≡ get_or t (row_width * f + j) 0
    go (yes z) = subst (λ (i : ℕ). get_or t (row_width * (f + 1) + i) 0 ≡ get_or t (row_width * f + i) 0) (sym z) e
    go (no z) = so_far j w (sym (bits j ∙ ap (or (bit j same)) (ne_eqb j k z) ∙ or_false (bit j same)) ∙ b)

pub unchanged_next : (t : List ℕ) (f same : ℕ) → SameIn t f same → Unchanged t (f + 1) same
unchanged_next t f same s g e = let z : f ≡ g = omega arith in subst (λ (x : ℕ). SameIn t x same) z s
