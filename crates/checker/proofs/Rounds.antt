-- Rounds of question 9: the processes that pass after i rounds are the bits of a number; all pass after the last round if the sheet is guarded.
use mathlib.Core.Path.{◌≡◌, refl, sym, ap, ap₂, ◌∙◌, subst}
use mathlib.Core.List.{List, [], ◌∷◌}
use mathlib.Core.Bool.{Bool, true, false}
use mathlib.Core.Logic.{◌≢◌}
use Prim.Native.Nat.{ℕ, zero, suc, ◌+◌, ◌<◌, ◌≤◌}
use native.Mathlib.Decide.{ℕ_discrete, dec_lt}
use native.Mathlib.Omega.{arith}
use native.Mathlib.Numerals.{add-one}
use borrow.Author.Tests.{eq-eqb, ne_eqb}
use lib.Dec.{eqb}
use lib.ListN
use lib.ListN.{length, drop, get_or, set, length-map, get_or-eq_default}
use lib.Seq.{get_or-set_same, get_or-set_other}
use Rattle.pcrl.specs.Tests.{and, or, Every}
use Rattle.pcrl.specs.Sheet.{Process, Sheet, no_process}
use Rattle.pcrl.specs.Circles.{at_head, all_pass, all_true, passed_after, guarded}
use Rattle.laws.specs.Booleans.{and_false, and_true, or_false}
use Rattle.laws.specs.Lists.{get_d_map}
use Rattle.laws.specs.Every.{every_weaken}
use Rattle.nodes.specs.declared.Outline.{Outline}
use Rattle.nodes.specs.Held.{HeldProcs}
use Rattle.nodes.specs.Bits.{set_width, bit}
use Rattle.nodes.proofs.Bits.{zero_bit}
use Rattle.checker.specs.declared.circles.Heads.{Heads}
use Rattle.checker.specs.Circles.{is_in, SetOf, PlacesOf, HeadsAt, SetsAt, HeadsOf, HeadsThere, AllPassed, next_round, NextRound, PassedAfter, numbers_below}
use Rattle.checker.proofs.Sets.{or_comm, same_truth, passes_all, all_passes, in_every}
use Rattle.checker.proofs.Heads.{heads_there}

-- ---- the processes at the head of each right side
pub sets_more : (cells starts : List ℕ) (k at : ℕ) (sets : List ℕ) (r : Heads) → k < length sets → at ≡ get_or starts k 0 → HeadsAt cells at r → SetsAt cells starts k sets → SetsAt cells starts (k + 1) (set sets k r.set)
sets_more cells starts k at sets r inside z found so_far j h p rest e = go (ℕ_discrete j k)
  where
    go : Dec (j ≡ k) → SetOf (get_or (set sets k r.set) j 0) (at_head p)
    go (yes y) =
        subst (λ (x : ℕ). SetOf (get_or (set sets k r.set) x 0) (at_head p)) (sym y)
        (subst (λ (x : ℕ). SetOf x (at_head p)) (sym (get_or-set_same sets k r.set 0 inside)) (found false p rest (ap (λ (x : ℕ). drop x cells) (z ∙ ap (λ (i : ℕ). get_or starts i 0) (sym y)) ∙ e)).0)
    go (no n) = let y : j ≢ k = n in subst (λ (x : ℕ). SetOf x (at_head p)) (sym (get_or-set_other sets k j r.set 0 n)) (so_far j (omega arith) p rest e)

-- of a sheet that is held
pub sets_held : (H : Sheet) (procs cells starts : List ℕ) (n : Outline) (sets : List ℕ) → HeldProcs H procs cells starts n → SetsAt cells starts n.procs sets → HeadsOf H n.procs sets
sets_held H procs cells starts n sets held found k l = let t = (held.proc_at k l).right in found k l (get_or H.procs k no_process).right t.0 t.1

pub held_there : (H : Sheet) (procs cells starts : List ℕ) (n : Outline) → HeldProcs H procs cells starts n → HeadsThere H n.procs
held_there H procs cells starts n held k l = heads_there n.procs (length (get_or H.procs k no_process).params) (get_or H.procs k no_process).right (held.proc_at k l).scoped

-- ---- one round

every_below : (m n : ℕ) (l : List ℕ) → m ≤ n → Every (λ k. k < m) l → Every (λ k. k < n) l
every_below m n l h a = every_weaken (λ k. k < m) (λ k. k < n) (λ k z. omega arith) l a

next_length : (H : Sheet) (before : List Bool) → length (next_round H before) ≡ length H.procs
unfolding next_round
next_length H before = length-map H.procs (λ (p : Process). all_pass before (at_head p.right))

-- the first k are those of the round, the others are not there yet
abbrev pub RoundSoFar : List ℕ → ℕ → ℕ → ℕ → ℕ → Type 0
RoundSoFar sets n passed k r =
    (H : Sheet) (before : List Bool) → length H.procs ≡ n → HeadsOf H n sets → HeadsThere H n → PlacesOf passed before
    → ((i : ℕ) → i < k → bit i r ≡ get_or (next_round H before) i false) × ((i : ℕ) → k ≤ i → bit i r ≡ false)

pub round_start : (sets : List ℕ) (n passed : ℕ) → RoundSoFar sets n passed 0 0
round_start sets n passed H before e hs there ps = (λ i l. absurd (omega arith), λ i l. zero_bit i)

pub round_more : (sets : List ℕ) (n passed k r r' : ℕ) (passes : Bool) → k < n → n ≤ 16 → AllPassed (get_or sets k 0) passed passes
    → ((i : ℕ) → bit i r' ≡ or (bit i r) (and passes (eqb i k))) → RoundSoFar sets n passed k r → RoundSoFar sets n passed (k + 1) r'
unfolding next_round
round_more sets n passed k r r' passes a b h w left H before e hs there ps = (λ i l. low i l (ℕ_discrete i k), λ i l. high i (omega arith))
  where
    other : (i : ℕ) → (i ≡ k → ⊥) → bit i r' ≡ bit i r
    other i ne = w i ∙ ap (λ (t : Bool). or (bit i r) (and passes t)) (ne_eqb i k ne) ∙ ap (or (bit i r)) (and_false passes) ∙ or_false (bit i r)

    here : bit k r' ≡ get_or (next_round H before) k false
    here =
        w k ∙ ap₂ (λ (s t : Bool). or s (and passes t)) ((left H before e hs there ps).1 k (omega arith)) (eq-eqb k k refl) ∙ and_true passes
        ∙ h (at_head (get_or H.procs k no_process).right) before (hs k a) (every_below n set_width (at_head (get_or H.procs k no_process).right) (omega arith) (there k a)) ps
        ∙ sym (get_d_map (λ (p : Process). all_pass before (at_head p.right)) H.procs k no_process false (omega arith))

    low : (i : ℕ) → i < k + 1 → Dec (i ≡ k) → bit i r' ≡ get_or (next_round H before) i false
    low i l (yes q) = subst (λ (x : ℕ). bit x r' ≡ get_or (next_round H before) x false) (sym q) here
    low i l (no ne) = let z : i ≢ k = ne in other i ne ∙ (left H before e hs there ps).0 i (omega arith)

    high : (i : ℕ) → k < i → bit i r' ≡ false
    high i l = other i (λ z. omega arith) ∙ (left H before e hs there ps).1 i (omega arith)

pub round_done : (sets : List ℕ) (n passed k r : ℕ) → k ≡ n → RoundSoFar sets n passed k r → NextRound sets n passed r
round_done sets n passed k r q left H before e hs there ps i l = go (dec_lt i k)
  where
    go : Dec (i < k) → bit i r ≡ get_or (next_round H before) i false
    go (yes h) = (left H before e hs there ps).0 i h
    go (no h) =
        let z : k ≤ i = omega arith in
        (left H before e hs there ps).1 i z ∙ sym (get_or-eq_default (next_round H before) false (omega (arith, next_length H before)))

-- ---- all rounds
abbrev pub PassedSoFar : List ℕ → ℕ → ℕ → ℕ → Type 0
PassedSoFar sets n i passed = (H : Sheet) → length H.procs ≡ n → HeadsOf H n sets → HeadsThere H n → PlacesOf passed (passed_after H i)

pub passed_start : (sets : List ℕ) (n : ℕ) → PassedSoFar sets n 0 0
unfolding passed_after
passed_start sets n H e hs there i l = zero_bit i ∙ sym (ListN.get_or-map (λ (p : Process). false) H.procs i no_process)

pub passed_more : (sets : List ℕ) (n i passed r : ℕ) → NextRound sets n passed r → PassedSoFar sets n i passed → PassedSoFar sets n (i + 1) r
unfolding passed_after next_round
passed_more sets n i passed r h left H e hs there =
    subst (λ (x : ℕ). PlacesOf r (passed_after H x)) (sym (add-one i)) (h H (passed_after H i) e hs there (left H e hs there))

-- ---- all pass
pub below_more : (k r r' : ℕ) → ((i : ℕ) → bit i r' ≡ or (bit i r) (eqb i k)) → SetOf r (numbers_below k) → SetOf r' (numbers_below (k + 1))
unfolding numbers_below is_in
below_more k r r' w h i l =
    subst (λ (x : ℕ). bit i r' ≡ is_in i (numbers_below x)) (sym (add-one k))
    (w i ∙ or_comm (bit i r) (eqb i k) ∙ ap (or (eqb i k)) (h i l))

pub below_none : SetOf 0 (numbers_below 0)
unfolding numbers_below is_in
below_none i l = zero_bit i

every_number : (n : ℕ) → Every (λ k. k < n) (numbers_below n)
unfolding numbers_below Every
every_number zero = tt
every_number (suc n) = (omega arith, every_below n (suc n) (numbers_below n) (omega arith) (every_number n))

each_number : (n i : ℕ) → i < n → is_in i (numbers_below n) ≡ true
unfolding numbers_below is_in
each_number zero i h = absurd (omega arith)
each_number (suc n) i h = go (ℕ_discrete i n) (each_number n i)
  where
    go : Dec (i ≡ n) → (i < n → is_in i (numbers_below n) ≡ true) → or (eqb i n) (is_in i (numbers_below n)) ≡ true
    go (yes e) ih = ap (λ (t : Bool). or t (is_in i (numbers_below n))) (eq-eqb i n e)
    go (no ne) ih = let z : i ≢ n = ne in ap₂ or (ne_eqb i n ne) (ih (omega arith))

true_at : (l : List Bool) → all_true l ≡ true → (i : ℕ) → i < length l → get_or l i false ≡ true
unfolding all_true
true_at [] e i h = absurd (omega arith)
true_at (true ∷ l) e zero h = refl
true_at (true ∷ l) e (suc i) h = true_at l e i (omega arith)
true_at (false ∷ l) e i h = let z : ◌≡◌ {A = ℕ} 0 1 = cc in absurd (omega arith)

all_true_of : (l : List Bool) → ((i : ℕ) → i < length l → get_or l i false ≡ true) → all_true l ≡ true
unfolding all_true
all_true_of [] h = refl
all_true_of (b ∷ l) h = ap₂ and (h 0 (omega arith)) (all_true_of l (λ i k. h (suc i) (omega arith)))

-- all of the numbers below its length pass, or not all of it is true
all_numbers : (l : List Bool) → all_pass l (numbers_below (length l)) ≡ all_true l
all_numbers l =
    same_truth (all_pass l (numbers_below (length l))) (all_true l)
    (λ e. all_true_of l (λ i h. passes_all l (numbers_below (length l)) e i (each_number (length l) i h)))
    (λ e. all_passes l (numbers_below (length l)) (λ i q. true_at l e i (inside (length l) i q)))
  where
    inside : (n i : ℕ) → is_in i (numbers_below n) ≡ true → i < n
    inside n i q = in_every (λ k. k < n) (numbers_below n) (every_number n) i q

passed_length : (H : Sheet) (n : ℕ) → length (passed_after H n) ≡ length H.procs
unfolding passed_after
passed_length H zero = length-map H.procs (λ (p : Process). false)
passed_length H (suc n) = length-map H.procs (λ (p : Process). all_pass (passed_after H n) (at_head p.right))

-- the sheet is guarded if all processes are in the set of those that passed
pub guarded_is : (H : Sheet) (procs cells starts : List ℕ) (n : Outline) (sets : List ℕ) (all passed : ℕ) (r : Bool) → HeldProcs H procs cells starts n
    → HeadsOf H n.procs sets → PassedAfter sets n.procs passed → SetOf all (numbers_below n.procs) → AllPassed all passed r → r ≡ guarded H
unfolding guarded
guarded_is H procs cells starts n sets all passed r held hs pass everyone h =
    let m = n.procs in
    let c : m ≡ length H.procs = held.proc_count in
    let few : m ≤ 16 = held.few_procs in
    let l = passed_after H (length H.procs) in
    let ps : PlacesOf passed l = subst (λ (x : ℕ). PlacesOf passed (passed_after H x)) c (pass H (sym c) hs (held_there H procs cells starts n held)) in
    h (numbers_below m) l everyone (every_below m set_width (numbers_below m) (omega arith) (every_number m)) ps
    ∙ ap (λ (x : ℕ). all_pass l (numbers_below x)) (c ∙ sym (passed_length H (length H.procs)))
    ∙ all_numbers l
