-- Laws of marking: a node, some data terms, some terms.
use mathlib.Core.Path.{◌≡◌, refl, sym, ap, ap₂, ◌∙◌}
use mathlib.Core.List.{List, [], ◌∷◌, ◌++◌}
use mathlib.Core.Bool.{Bool, false}
use Prim.Native.Nat.{ℕ, zero, suc, ◌+◌, ◌-◌, ◌/◌, ◌%◌, ◌^◌, ◌<◌, ◌≤◌}
use native.Mathlib.Nat.{pow-suc}
use native.Mathlib.Omega.{arith}
use borrow.Author.Tests.{ne_eqb}
use lib.Dec.{eqb}
use lib.ListN.{length, drop, length-append}
use lib.Count.{ones, ones_step, ones-le}
use Rattle.pcrl.specs.Tests.{or, and, negated}
use Rattle.pcrl.specs.Sheet.{Data, val, var, app, Datas, nil, cons, list_of, Proc, delta, atom, alt, cond, sum, seq, call}
use Rattle.pcrl.specs.Lists.{tabulate}
use Rattle.pcrl.specs.Parts.{in_data, in_datas, in_list, in_proc, marks, count}
use Rattle.laws.specs.Booleans.{or_false, or_assoc}
use Rattle.nodes.specs.declared.Datum.{Datum}
use Rattle.nodes.specs.declared.Node.{Node}
use Rattle.nodes.specs.Bits.{odd, bit}
use Rattle.nodes.specs.Layout.{variable_tag, Item, enc, encs, enc_datas}
use Rattle.nodes.specs.Nodes.{data_tag, data_number, data_kids, node_kids, node_datas}
use Rattle.nodes.specs.Views.{DataViews, Views}
use Rattle.nodes.proofs.Bits.{zero_bit}
use Rattle.nodes.proofs.Data.{datas_inside}
use Rattle.nodes.proofs.Nodes.{one_item, items_end}
use Rattle.marking.specs.Marks.{bits, HighBits, own_variable, Notes, MarksData, Above, Marked}

-- A NODE

pub note_other : (m tag number n : ℕ) → (tag ≡ variable_tag → ⊥) → Notes m tag number n m
unfolding own_variable data_tag
note_other m tag number n h (val v) e f i l = sym (or_false (bit i m))
note_other m tag number n h (var x) e f i l = absurd (h e)
note_other m tag number n h (app g ds) e f i l = sym (or_false (bit i m))

pub note_far : (m tag number n : ℕ) → n ≤ number → Notes m tag number n m
unfolding own_variable data_number
note_far m tag number n h (val v) e f i l = sym (or_false (bit i m))
note_far m tag number n h (var x) e f i l = sym (ap (λ (y : Bool). or (bit i m) y) (ne_eqb i x (λ z. omega arith)) ∙ or_false (bit i m))
note_far m tag number n h (app g ds) e f i l = sym (or_false (bit i m))

pub note_variable : (m tag number n r : ℕ) → tag ≡ variable_tag → ((i : ℕ) → bit i r ≡ or (bit i m) (eqb i number)) → Notes m tag number n r
unfolding own_variable data_tag data_number
note_variable m tag number n r h q (val v) e f i l = absurd (omega arith)
note_variable m tag number n r h q (var x) e f i l = q i ∙ ap (λ (y : ℕ). or (bit i m) (eqb i y)) f
note_variable m tag number n r h q (app g ds) e f i l = absurd (omega arith)

-- SOME DATA TERMS

in_arguments : (i : ℕ) (ds : Datas) (es : List Data) → or (in_datas i ds) (in_list i es) ≡ in_list i (list_of ds ++ es)
unfolding in_data in_list list_of
in_arguments i nil es = refl
in_arguments i (cons d ds) es = or_assoc (in_data i d) (in_datas i ds) (in_list i es) ∙ ap (or (in_data i d)) (in_arguments i ds es)

in_open : (i : ℕ) (d : Data) (ds : List Data) → in_list i (d ∷ ds) ≡ or (own_variable i d) (in_list i (data_kids d ++ ds))
unfolding in_data in_list own_variable data_kids
in_open i (val v) ds = refl
in_open i (var x) ds = refl
in_open i (app f es) ds = in_arguments i es ds

abbrev pub DataLeft : List ℕ → ℕ → ℕ → ℕ → ℕ → ℕ → ℕ → ℕ → Type 0
DataLeft cells at count n m p need x = (ds : List Data) (rest : List ℕ) → length ds ≡ count → drop at cells ≡ enc_datas ds ++ rest
    → (es : List Data) × (length es ≡ need) × (drop p cells ≡ enc_datas es ++ rest) × ((i : ℕ) → i < n → or (bit i x) (in_list i es) ≡ or (bit i m) (in_list i ds))

pub data_start : (cells : List ℕ) (at count n m : ℕ) → DataLeft cells at count n m at count m
data_start cells at count n m ds rest l e = (ds, l, e, λ i h. refl)

module _ (s : List ℕ) (at count n m p need x : ℕ) (left : DataLeft s at count n m p need x) where
  pub data_stuck : length s ≤ p → 0 < need → (r : ℕ) → MarksData s at count n m r
  data_stuck h k r ds rest l e = let v = left ds rest l e in absurd (omega (arith, v.1, datas_inside s p v.0 rest v.2))

  pub data_many : p < length s → length s < need → (r : ℕ) → MarksData s at count n m r
  data_many h k r ds rest l e = let v = left ds rest l e in absurd (omega (arith, v.1, datas_inside s p v.0 rest v.2))

  pub data_done : need ≡ 0 → MarksData s at count n m x
  unfolding in_list
  data_done z ds rest l e i h = go (left ds rest l e).0 (left ds rest l e).1 ((left ds rest l e).3 i h)
    where
      go : (es : List Data) → length es ≡ need → or (bit i x) (in_list i es) ≡ or (bit i m) (in_list i ds) → bit i x ≡ or (bit i m) (in_list i ds)
      go [] a g = sym (or_false (bit i x)) ∙ g
      go (y ∷ es) a g = absurd (omega arith)

  pub data_step : 0 < need → (d : Datum) → DataViews s p d → (x' : ℕ) → Notes x d.tag d.number n x' → DataLeft s at count n m d.next (need - 1 + d.kids) x'
  data_step k d vw x' nt ds rest l e = go (left ds rest l e).0 (left ds rest l e).1 (left ds rest l e).2 (left ds rest l e).3
    where
      go : (es : List Data) → length es ≡ need → drop p s ≡ enc_datas es ++ rest → ((i : ℕ) → i < n → or (bit i x) (in_list i es) ≡ or (bit i m) (in_list i ds))
          → (es : List Data) × (length es ≡ need - 1 + d.kids) × (drop d.next s ≡ enc_datas es ++ rest) × ((i : ℕ) → i < n → or (bit i x') (in_list i es) ≡ or (bit i m) (in_list i ds))
      go [] a b g = absurd (omega arith)
      go (y ∷ es) a b g =
          let v = vw y es rest b in (
            data_kids y ++ es,
            rw (length-append (data_kids y) es, ← v.kids_is) (omega arith),
            v.next_is,
            λ i h.
                ap (λ (c : Bool). or c (in_list i (data_kids y ++ es))) (nt y v.tag_is v.number_is i h) ∙ or_assoc (bit i x) (own_variable i y) (in_list i (data_kids y ++ es))
                ∙ ap (λ (c : Bool). or (bit i x) c) (sym (in_open i y es)) ∙ g i h,
          )

-- SOME TERMS

unfoldable pub in_all : ℕ → List Item → Bool
in_all i [] = false
in_all i (x ∷ xs) = or (in_proc i x.1) (in_all i xs)

unfoldable pub AboveAll : ℕ → List Item → Type 0
AboveAll n [] = Unit {0}
AboveAll n (x ∷ xs) = Above n x.1 × AboveAll n xs

kids_above : (n : ℕ) (b : Bool) (p : Proc) (xs : List Item) → Above n p → AboveAll n xs → AboveAll n (node_kids b p ++ xs)
unfolding Above AboveAll node_kids
kids_above n b delta xs a h = h
kids_above n b (atom x ds) xs a h = h
kids_above n b (alt p q) xs a h = (a.0, (a.1, h))
kids_above n b (cond c p q) xs a h = (a.0, (a.1, h))
kids_above n b (sum x D p) xs a h = (a.1, h)
kids_above n b (seq p q) xs a h = (a.0, (a.1, h))
kids_above n b (call k ds) xs a h = h

all_open : (n i : ℕ) → i < n → (b : Bool) (p : Proc) (xs : List Item) → Above n p → in_all i ((b, p) ∷ xs) ≡ or (in_list i (node_datas p)) (in_all i (node_kids b p ++ xs))
unfolding in_all in_proc node_datas node_kids in_list in_data Above
all_open n i l b delta xs a = refl
all_open n i l b (atom x ds) xs a = refl
all_open n i l b (alt p q) xs a = or_assoc (in_proc i p) (in_proc i q) (in_all i xs)
all_open n i l b (cond c p q) xs a =
    or_assoc (in_data i c) (or (in_proc i p) (in_proc i q)) (in_all i xs)
    ∙ ap₂ (λ (x y : Bool). or x y) (sym (or_false (in_data i c))) (or_assoc (in_proc i p) (in_proc i q) (in_all i xs))
all_open n i l b (sum x D p) xs a =
    let z : n ≤ x = a.0 in
    ap₂ (λ (c d : Bool). or (and (negated c) (in_proc i p)) (in_all i xs)) (ne_eqb i x (λ e. omega arith)) (ne_eqb i x (λ e. omega arith))
    ∙ ap (λ (c : Bool). or (or c false) (or (in_proc i p) (in_all i xs))) (sym (ne_eqb i x (λ e. omega arith)))
all_open n i l b (seq p q) xs a = or_assoc (in_proc i p) (in_proc i q) (in_all i xs)
all_open n i l b (call k ds) xs a = refl

bits_are : (n m : ℕ) (f : ℕ → Bool) → ((i : ℕ) → i < n → bit i m ≡ f i) → bits n m ≡ tabulate n f
unfolding bits tabulate bit
bits_are zero m f h = refl
bits_are (suc n) m f h = ap₂ (λ (x : Bool) (y : List Bool). x ∷ y) (h 0 (omega arith)) (bits_are n (m / 2) (λ i. f (suc i)) (λ i l. h (suc i) (omega arith)))

abbrev pub MarkLeft : List ℕ → ℕ → ℕ → ℕ → ℕ → ℕ → Type 0
MarkLeft s at n p need x = (b : Bool) (q : Proc) (rest : List ℕ) → drop at s ≡ enc b q ++ rest → Above n q
    → (xs : List Item) × (length xs ≡ need) × (drop p s ≡ encs xs ++ rest) × AboveAll n xs × ((i : ℕ) → i < n → or (bit i x) (in_all i xs) ≡ in_proc i q)

-- where no variable is in scope none is marked
pub mark_none : (s : List ℕ) (at n : ℕ) → n ≡ 0 → Marked s at n 0
unfolding bits marks tabulate
mark_none s at zero z b p rest e a = refl
mark_none s at (suc n) z b p rest e a = absurd (omega arith)

pub mark_start : (s : List ℕ) (at n : ℕ) → MarkLeft s at n at 1 0
unfolding in_all AboveAll
mark_start s at n b q rest e a = ((b, q) ∷ [], refl, e ∙ one_item b q rest, (a, tt), λ i h. ap (λ (c : Bool). or c (or (in_proc i q) false)) (zero_bit i) ∙ or_false (in_proc i q))

module _ (s : List ℕ) (at n p need x : ℕ) (left : MarkLeft s at n p need x) where
  pub mark_stuck : length s ≤ p → 0 < need → (r : ℕ) → Marked s at n r
  mark_stuck h k r b q rest e a = let v = left b q rest e a in absurd (items_end s p h v.0 rest (omega (arith, v.1)) v.2)

  pub mark_done : need ≡ 0 → Marked s at n x
  unfolding in_all marks
  mark_done z b q rest e a = bits_are n x (λ i. in_proc i q) (λ i h. go i (left b q rest e a).0 (left b q rest e a).1 ((left b q rest e a).4 i h))
    where
      go : (i : ℕ) (xs : List Item) → length xs ≡ need → or (bit i x) (in_all i xs) ≡ in_proc i q → bit i x ≡ in_proc i q
      go i [] c g = sym (or_false (bit i x)) ∙ g
      go i (y ∷ xs) c g = absurd (omega arith)

  pub mark_step : 0 < need → (d : Node) → Views s p d → (x' : ℕ) → MarksData s d.terms d.datas n x x' → MarkLeft s at n d.next (need - 1 + d.kids) x'
  unfolding AboveAll
  mark_step k d vw x' dm b q rest e a = go (left b q rest e a).0 (left b q rest e a).1 (left b q rest e a).2 (left b q rest e a).3 (left b q rest e a).4
    where
      go : (xs : List Item) → length xs ≡ need → drop p s ≡ encs xs ++ rest → AboveAll n xs → ((i : ℕ) → i < n → or (bit i x) (in_all i xs) ≡ in_proc i q)
          → (xs : List Item) × (length xs ≡ need - 1 + d.kids) × (drop d.next s ≡ encs xs ++ rest) × AboveAll n xs × ((i : ℕ) → i < n → or (bit i x') (in_all i xs) ≡ in_proc i q)
      go [] c f ab g = absurd (omega arith)
      go ((b', y) ∷ xs) c f ab g =
          let o = vw b' y xs rest f in (
            node_kids b' y ++ xs,
            rw (length-append (node_kids b' y) xs, ← o.kids_is) (omega arith),
            o.next_is,
            kids_above n b' y xs ab.0 ab.1,
            λ i h.
                ap (λ (c : Bool). or c (in_all i (node_kids b' y ++ xs))) (dm (node_datas y) _ (sym o.datas_is) o.terms_are i h)
                ∙ or_assoc (bit i x) (in_list i (node_datas y)) (in_all i (node_kids b' y ++ xs)) ∙ ap (λ (c : Bool). or (bit i x) c) (sym (all_open n i h b' y xs ab.0)) ∙ g i h,
          )

-- HOW MANY

pub bits_count : (k m : ℕ) → m < 2 ^ k → ones m ≡ count (bits k m)
unfolding bits odd count
bits_count zero m h = let z : m ≡ 0 = omega arith in ap ones z ∙ none
  where
    none : ones 0 ≡ 0
    none = let s : ones 0 ≡ 0 % 2 + ones (0 / 2) = ones_step 0 in omega (arith, ones-le 0 0 (omega arith))
bits_count (suc k) m h = go (m % 2) refl (bits_count k (m / 2) (omega (arith, pow-suc 2 k)))
  where
    go : (d : ℕ) → m % 2 ≡ d → ones (m / 2) ≡ count (bits k (m / 2)) → ones m ≡ count (odd d ∷ bits k (m / 2))
    go zero e ih = omega (arith, ones_step m)
    go (suc zero) e ih = omega (arith, ones_step m)
    go (suc (suc d)) e ih = absurd (omega arith)

-- a variable below n changes no bit from n on
pub note_high : (m number n r : ℕ) → number < n → ((i : ℕ) → bit i r ≡ or (bit i m) (eqb i number)) → HighBits n m r
note_high m number n r h e i k = e i ∙ ap (or (bit i m)) (ne_eqb i number (λ z. omega arith)) ∙ or_false (bit i m)
