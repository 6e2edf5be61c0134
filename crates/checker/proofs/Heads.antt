-- The walk over a term that gathers the processes at its head: a loop over the terms that are left, whose heads are still to be added.
use mathlib.Core.Path.{◌≡◌, refl, sym, ap, ◌∙◌}
use mathlib.Core.List.{List, [], ◌∷◌, ◌++◌, append_assoc}
use mathlib.Core.Bool.{Bool, true, false}
use Prim.Native.Nat.{ℕ, suc, ◌+◌, ◌-◌, ◌<◌, ◌≤◌}
use native.Mathlib.Omega.{arith}
use lib.Dec.{eqb}
use lib.ListN.{length, drop, length-append}
use Rattle.pcrl.specs.Tests.{or, Every}
use Rattle.pcrl.specs.Sheet.{Proc, delta, atom, alt, cond, sum, seq, call}
use Rattle.pcrl.specs.Circles.{at_head}
use Rattle.laws.specs.Booleans.{or_false, or_assoc}
use Rattle.laws.specs.Every.{every_append}
use Rattle.nodes.specs.declared.Node.{Node}
use Rattle.nodes.specs.declared.Skipped.{Skipped}
use Rattle.nodes.specs.Layout.{seq_kind, Item, enc, encs}
use Rattle.nodes.specs.Nodes.{kind_of, node_kids}
use Rattle.nodes.specs.Scoped.{Scoped}
use Rattle.nodes.specs.Views.{Views, Skips}
use Rattle.nodes.specs.Bits.{set_width, bit}
use Rattle.nodes.proofs.Bits.{zero_bit}
use Rattle.nodes.proofs.Nodes.{one_item, items_end}
use Rattle.checker.specs.declared.circles.Heads.{Heads}
use Rattle.checker.specs.Circles.{is_in, SetOf, own_head, WithCall, HeadsAt}
use Rattle.checker.proofs.Sets.{is_in_append}

-- Does the process i stand at the head of one of some terms?
unfoldable pub heads_in : ℕ → List Item → Bool
heads_in i [] = false
heads_in i (x ∷ xs) = or (is_in i (at_head x.1)) (heads_in i xs)

-- a term that is no sequence has the heads of its node and its subterms
heads_open : (i : ℕ) (b : Bool) (p : Proc) (xs : List Item) → (kind_of p ≡ seq_kind → ⊥) → heads_in i ((b, p) ∷ xs) ≡ or (own_head i p) (heads_in i (node_kids b p ++ xs))
unfolding heads_in at_head is_in own_head node_kids kind_of
heads_open i b delta xs n = refl
heads_open i b (atom a ds) xs n = refl
heads_open i b (alt p q) xs n =
    ap (λ (t : Bool). or t (heads_in i xs)) (is_in_append i (at_head p) (at_head q)) ∙ or_assoc (is_in i (at_head p)) (is_in i (at_head q)) (heads_in i xs)
heads_open i b (cond c p q) xs n =
    ap (λ (t : Bool). or t (heads_in i xs)) (is_in_append i (at_head p) (at_head q)) ∙ or_assoc (is_in i (at_head p)) (is_in i (at_head q)) (heads_in i xs)
heads_open i b (sum x D p) xs n = refl
heads_open i b (seq p q) xs n = absurd (n refl)
heads_open i b (call k ds) xs n = ap (λ (t : Bool). or t (heads_in i xs)) (or_false (eqb i k))

-- What is left: terms that stand at p, as many as `need`; the heads found and theirs are those of the whole.
abbrev pub HeadsLeft : List ℕ → ℕ → ℕ → ℕ → ℕ → Type 0
HeadsLeft s at p need set =
    (b : Bool) (q : Proc) (rest : List ℕ) → drop at s ≡ enc b q ++ rest
    → (xs : List Item) × (length xs ≡ need) × (drop p s ≡ encs xs ++ rest) × ((i : ℕ) → i < set_width → or (bit i set) (heads_in i xs) ≡ is_in i (at_head q))

pub heads_start : (s : List ℕ) (at : ℕ) → HeadsLeft s at at 1 0
unfolding heads_in
heads_start s at b q rest e =
    ((b, q) ∷ [], refl, e ∙ one_item b q rest, λ i l. ap (λ (t : Bool). or t (or (is_in i (at_head q)) false)) (zero_bit i) ∙ or_false (is_in i (at_head q)))

module _ (s : List ℕ) (at p need set : ℕ) (left : HeadsLeft s at p need set) where
  pub heads_stuck : length s ≤ p → 0 < need → (r : Heads) → HeadsAt s at r
  heads_stuck h k r b q rest e = let v = left b q rest e in absurd (items_end s p h v.0 rest (omega (arith, v.1)) v.2)

  pub heads_done : need ≡ 0 → HeadsAt s at (record { set = set; next = p })
  unfolding encs heads_in
  heads_done z b q rest e = go (left b q rest e).0 (left b q rest e).1 (left b q rest e).2 (left b q rest e).3
    where
      go : (xs : List Item) → length xs ≡ need → drop p s ≡ encs xs ++ rest → ((i : ℕ) → i < set_width → or (bit i set) (heads_in i xs) ≡ is_in i (at_head q))
          → SetOf set (at_head q) × (drop p s ≡ rest)
      go [] a f g = (λ i l. sym (or_false (bit i set)) ∙ g i l, f)
      go (x ∷ xs) a f g = absurd (omega arith)

  -- a node that is no sequence
  pub heads_step : 0 < need → (d : Node) → Views s p d → (d.kind ≡ seq_kind → ⊥) → (set' : ℕ) → WithCall set d.kind d.number set'
      → HeadsLeft s at d.next (need - 1 + d.kids) set'
  heads_step k d vw other set' w b q rest e = go (left b q rest e).0 (left b q rest e).1 (left b q rest e).2 (left b q rest e).3
    where
      go : (xs : List Item) → length xs ≡ need → drop p s ≡ encs xs ++ rest → ((i : ℕ) → i < set_width → or (bit i set) (heads_in i xs) ≡ is_in i (at_head q))
          → (xs : List Item) × (length xs ≡ need - 1 + d.kids) × (drop d.next s ≡ encs xs ++ rest) × ((i : ℕ) → i < set_width → or (bit i set') (heads_in i xs) ≡ is_in i (at_head q))
      go [] a f g = absurd (omega arith)
      go ((b', x) ∷ xs) a f g =
          let o = vw b' x xs rest f in (
            node_kids b' x ++ xs,
            rw (length-append (node_kids b' x) xs, ← o.kids_is) (omega arith),
            o.next_is,
            λ i l.
                ap (λ (t : Bool). or t (heads_in i (node_kids b' x ++ xs))) (w x o.kind_is o.number_is i l)
                ∙ or_assoc (bit i set) (own_head i x) (heads_in i (node_kids b' x ++ xs))
                ∙ ap (or (bit i set)) (sym (heads_open i b' x xs (λ z. other (o.kind_is ∙ z))))
                ∙ g i l,
          )

  -- a sequence: the heads of its first part, and the rest passed over
  pub heads_seq : 0 < need → (d : Node) → Views s p d → d.kind ≡ seq_kind → (first : Heads) (after : Skipped) → HeadsAt s d.next first → Skips s first.next after
      → (set' : ℕ) → ((i : ℕ) → bit i set' ≡ or (bit i set) (bit i first.set)) → HeadsLeft s at after.next (need - 1) set'
  unfolding kind_of encs node_kids heads_in at_head
  heads_seq pos d vw is first after hf ha set' w b q rest e = go (left b q rest e).0 (left b q rest e).1 (left b q rest e).2 (left b q rest e).3
    where
      Left : (xs : List Item) → Type 0
      Left xs = (length xs ≡ need - 1) × (drop after.next s ≡ encs xs ++ rest) × ((i : ℕ) → i < set_width → or (bit i set') (heads_in i xs) ≡ is_in i (at_head q))

      part : (b' : Bool) (x : Proc) (xs : List Item) → length ((b', x) ∷ xs) ≡ need → drop p s ≡ encs ((b', x) ∷ xs) ++ rest
          → ((i : ℕ) → i < set_width → or (bit i set) (heads_in i ((b', x) ∷ xs)) ≡ is_in i (at_head q)) → Left xs
      part b' delta xs a f g = absurd (omega (arith, (vw b' delta xs rest f).kind_is))
      part b' (atom y ds) xs a f g = absurd (omega (arith, (vw b' (atom y ds) xs rest f).kind_is))
      part b' (alt y z) xs a f g = absurd (omega (arith, (vw b' (alt y z) xs rest f).kind_is))
      part b' (cond c y z) xs a f g = absurd (omega (arith, (vw b' (cond c y z) xs rest f).kind_is))
      part b' (sum x D y) xs a f g = absurd (omega (arith, (vw b' (sum x D y) xs rest f).kind_is))
      part b' (call k ds) xs a f g = absurd (omega (arith, (vw b' (call k ds) xs rest f).kind_is))
      part b' (seq y z) xs a f g =
          let o = vw b' (seq y z) xs rest f in
          let f₁ : drop d.next s ≡ enc b' y ++ (enc true z ++ (encs xs ++ rest)) = o.next_is ∙ simp append_assoc in
          let h₁ = hf b' y (enc true z ++ (encs xs ++ rest)) f₁ in
          let h₂ = ha true z (encs xs ++ rest) h₁.1 in (
            omega arith,
            h₂.1,
            λ i l.
                ap (λ (t : Bool). or t (heads_in i xs)) (w i ∙ ap (or (bit i set)) (h₁.0 i l))
                ∙ or_assoc (bit i set) (is_in i (at_head y)) (heads_in i xs) ∙ g i l,
          )

      go : (xs : List Item) → length xs ≡ need → drop p s ≡ encs xs ++ rest → ((i : ℕ) → i < set_width → or (bit i set) (heads_in i xs) ≡ is_in i (at_head q))
          → (xs : List Item) × (length xs ≡ need - 1) × (drop after.next s ≡ encs xs ++ rest) × ((i : ℕ) → i < set_width → or (bit i set') (heads_in i xs) ≡ is_in i (at_head q))
      go [] a f g = absurd (omega arith)
      go ((b', x) ∷ xs) a f g = let v = part b' x xs a f g in (xs, v.0, v.1, v.2)

-- the processes at the head are there
pub heads_there : (m n : ℕ) (p : Proc) → Scoped m n p → Every (λ k. k < m) (at_head p)
unfolding Scoped at_head Every
heads_there m n delta s = tt
heads_there m n (atom a ds) s = tt
heads_there m n (alt p q) s = every_append (λ k. k < m) (at_head p) (at_head q) (heads_there m n p s.0) (heads_there m n q s.1)
heads_there m n (cond c p q) s = every_append (λ k. k < m) (at_head p) (at_head q) (heads_there m n p s.1.0) (heads_there m n q s.1.1)
heads_there m n (sum x D p) s = heads_there m (suc n) p s.1.1
heads_there m n (seq p q) s = heads_there m n p s.0
heads_there m n (call k ds) s = (s.0, tt)
