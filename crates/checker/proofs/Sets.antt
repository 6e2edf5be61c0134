-- Sets of processes as bits: one process more, all processes, and when all of a set have passed.
use mathlib.Core.Path.{◌≡◌, refl, sym, ap, ap₂, ◌∙◌, subst}
use mathlib.Core.List.{List, [], ◌∷◌, ◌++◌}
use mathlib.Core.Bool.{Bool, true, false}
use Prim.Native.Nat.{ℕ, ◌^◌, ◌<◌, ◌≤◌}
use native.Mathlib.Omega.{arith}
use borrow.Author.Tests.{eqb-true, eq-eqb, ne_eqb}
use lib.Dec.{eqb}
use lib.Bits.{bit_or, or_lt}
use lib.ListN.{get_or}
use Rattle.pcrl.specs.Tests.{and, or, Every}
use Rattle.pcrl.specs.Sheet.{delta, atom, alt, cond, sum, seq, call}
use Rattle.pcrl.specs.Circles.{all_pass}
use Rattle.laws.specs.Booleans.{or_false, or_assoc}
use Rattle.nodes.specs.Layout.{call_kind}
use Rattle.nodes.specs.Nodes.{kind_of, node_number}
use Rattle.nodes.specs.Bits.{set_width, bit}
use Rattle.nodes.proofs.Bits.{or_bit, bits_same}
use Rattle.checker.specs.Circles.{is_in, own_head, WithCall, AllPassed}

pub or_true : (a : Bool) → or a true ≡ true
or_true true = refl
or_true false = refl

pub or_comm : (a b : Bool) → or a b ≡ or b a
or_comm true b = sym (or_true b)
or_comm false b = sym (or_false b)

-- two truth values that imply each other
pub same_truth : (a b : Bool) → (a ≡ true → b ≡ true) → (b ≡ true → a ≡ true) → a ≡ b
same_truth true b f g = sym (f refl)
same_truth false true f g = g refl
same_truth false false f g = refl

pub is_in_append : (i : ℕ) (l m : List ℕ) → is_in i (l ++ m) ≡ or (is_in i l) (is_in i m)
unfolding is_in
is_in_append i [] m = refl
is_in_append i (k ∷ l) m = ap (or (eqb i k)) (is_in_append i l m) ∙ sym (or_assoc (eqb i k) (is_in i l) (is_in i m))

-- a node that is no call adds nothing
pub with_other : (m kind number : ℕ) → (kind ≡ call_kind → ⊥) → WithCall m kind number m
unfolding own_head kind_of
with_other m kind number other delta e f i l = sym (or_false (bit i m))
with_other m kind number other (atom a ds) e f i l = sym (or_false (bit i m))
with_other m kind number other (alt p q) e f i l = sym (or_false (bit i m))
with_other m kind number other (cond c p q) e f i l = sym (or_false (bit i m))
with_other m kind number other (sum x D p) e f i l = sym (or_false (bit i m))
with_other m kind number other (seq p q) e f i l = sym (or_false (bit i m))
with_other m kind number other (call k ds) e f i l = absurd (other e)

-- a call of a process past the set's set-width adds nothing
pub with_far : (m kind number : ℕ) → set_width ≤ number → WithCall m kind number m
unfolding own_head node_number
with_far m kind number far delta e f i l = sym (or_false (bit i m))
with_far m kind number far (atom a ds) e f i l = sym (or_false (bit i m))
with_far m kind number far (alt p q) e f i l = sym (or_false (bit i m))
with_far m kind number far (cond c p q) e f i l = sym (or_false (bit i m))
with_far m kind number far (sum x D p) e f i l = sym (or_false (bit i m))
with_far m kind number far (seq p q) e f i l = sym (or_false (bit i m))
with_far m kind number far (call k ds) e f i l = sym (ap (or (bit i m)) (ne_eqb i k (λ z. omega arith)) ∙ or_false (bit i m))

-- a call adds its process
pub with_process : (m kind number r : ℕ) → kind ≡ call_kind → ((i : ℕ) → bit i r ≡ or (bit i m) (eqb i number)) → WithCall m kind number r
unfolding own_head kind_of node_number
with_process m kind number r is h delta e f i l = absurd (omega arith)
with_process m kind number r is h (atom a ds) e f i l = absurd (omega arith)
with_process m kind number r is h (alt p q) e f i l = absurd (omega arith)
with_process m kind number r is h (cond c p q) e f i l = absurd (omega arith)
with_process m kind number r is h (sum x D p) e f i l = absurd (omega arith)
with_process m kind number r is h (seq p q) e f i l = absurd (omega arith)
with_process m kind number r is h (call k ds) e f i l = h i ∙ ap (λ (x : ℕ). or (bit i m) (eqb i x)) f

and_both : (a b : Bool) → and a b ≡ true → (a ≡ true) × (b ≡ true)
and_both true b e = (refl, e)
and_both false b e = let z : ◌≡◌ {A = ℕ} 0 1 = cc in absurd (omega arith)

or_cases : (a b : Bool) → or a b ≡ true → (C : Type 0) → (a ≡ true → C) → (b ≡ true → C) → C
or_cases true b e C f g = f refl
or_cases false b e C f g = g e

-- `all_pass` by the members of the list
module _ (before : List Bool) where
  pub passes_all : (ks : List ℕ) → all_pass before ks ≡ true → (i : ℕ) → is_in i ks ≡ true → get_or before i false ≡ true
  unfolding all_pass is_in
  passes_all [] e i h = let z : ◌≡◌ {A = ℕ} 0 1 = cc in absurd (omega arith)
  passes_all (k ∷ ks) e i h =
      let a = and_both (get_or before k false) (all_pass before ks) e in
      or_cases (eqb i k) (is_in i ks) h (get_or before i false ≡ true)
      (λ q. ap (λ (x : ℕ). get_or before x false) (eqb-true i k q) ∙ a.0)
      (λ q. passes_all ks a.1 i q)

  pub all_passes : (ks : List ℕ) → ((i : ℕ) → is_in i ks ≡ true → get_or before i false ≡ true) → all_pass before ks ≡ true
  unfolding all_pass is_in
  all_passes [] h = refl
  all_passes (k ∷ ks) h =
      ap₂ and (h k (ap (λ (x : Bool). or x (is_in k ks)) (eq-eqb k k refl)))
      (all_passes ks (λ i q. h i (ap (or (eqb i k)) q ∙ or_true (eqb i k))))

pub in_every : (P : ℕ → Type 0) (ks : List ℕ) → Every P ks → (i : ℕ) → is_in i ks ≡ true → P i
unfolding Every is_in
in_every P [] a i h = let z : ◌≡◌ {A = ℕ} 0 1 = cc in absurd (omega arith)
in_every P (k ∷ ks) a i h = or_cases (eqb i k) (is_in i ks) h (P i) (λ q. subst P (sym (eqb-true i k q)) a.0) (λ q. in_every P ks a.1 i q)

-- All of a set have passed if it is a part of the set of those that have.
pub union_same : (heads passed : ℕ) → heads < 2 ^ 32 → passed < 2 ^ 32 → AllPassed heads passed (eqb (bit_or heads passed) passed)
union_same heads passed a b ks before hs there ps = same_truth (eqb (bit_or heads passed) passed) (all_pass before ks) forth back
  where
    forth : eqb (bit_or heads passed) passed ≡ true → all_pass before ks ≡ true
    forth e = all_passes before ks (λ i q.
        let l = in_every (λ k. k < set_width) ks there i q in
        sym (ps i l) ∙ ap (bit i) (sym (eqb-true (bit_or heads passed) passed e)) ∙ or_bit i heads passed ∙ ap (λ (x : Bool). or x (bit i passed)) (hs i l ∙ q))

    each : (i : ℕ) → i < 32 → all_pass before ks ≡ true → (t : Bool) → bit i heads ≡ t → bit i (bit_or heads passed) ≡ bit i passed
    each i l e true q = or_bit i heads passed ∙ ap (λ (x : Bool). or x (bit i passed)) q ∙ sym (ps i l ∙ passes_all before ks e i (sym (hs i l) ∙ q))
    each i l e false q = or_bit i heads passed ∙ ap (λ (x : Bool). or x (bit i passed)) q

    back : all_pass before ks ≡ true → eqb (bit_or heads passed) passed ≡ true
    back e = eq-eqb (bit_or heads passed) passed (bits_same 32 (bit_or heads passed) passed (or_lt 32 heads passed a b) b (λ i l. each i l e (bit i heads) refl))
