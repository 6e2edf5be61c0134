-- What the code of question 9 says: sets of processes in the bits of a u32, against `at_head`, `all_pass` and `passed_after`.
use Rattle.std.specs.Prelude.{◌≡◌, List, [], ◌∷◌, ◌++◌, map, Bool, false, ℕ, zero, suc, ◌<◌, eqb, length, drop, get_or}
use Rattle.pcrl.specs.Tests.{or, Every}
use Rattle.pcrl.specs.Sheet.{Proc, delta, atom, alt, cond, sum, seq, call, Process, Sheet, no_process}
use Rattle.pcrl.specs.Circles.{at_head, all_pass, passed_after}
use Rattle.nodes.specs.Layout.{enc}
use Rattle.nodes.specs.Nodes.{kind_of, node_number}
use Rattle.nodes.specs.Bits.{set_width, bit}
use Rattle.checker.specs.declared.circles.Heads.{Heads}

-- Is k in the list?
unfoldable pub is_in : ℕ → List ℕ → Bool
is_in k [] = false
is_in k (j ∷ l) = or (eqb k j) (is_in k l)

-- the set of the numbers in a list
abbrev pub SetOf : ℕ → List ℕ → Type 0
SetOf m l = (i : ℕ) → i < set_width → bit i m ≡ is_in i l

-- the set of the places where a list of bits has true
abbrev pub PlacesOf : ℕ → List Bool → Type 0
PlacesOf m l = (i : ℕ) → i < set_width → bit i m ≡ get_or l i false

-- the process that a node stands for at the head
unfoldable pub own_head : ℕ → Proc → Bool
own_head i delta = false
own_head i (atom a ds) = false
own_head i (alt p q) = false
own_head i (cond c p q) = false
own_head i (sum x D p) = false
own_head i (seq p q) = false
own_head i (call k ds) = eqb i k

abbrev pub WithCall : ℕ → ℕ → ℕ → ℕ → Type 0
WithCall m kind number r = (p : Proc) → kind ≡ kind_of p → number ≡ node_number p → (i : ℕ) → i < set_width → bit i r ≡ or (bit i m) (own_head i p)

-- the processes at the head of the term that stands there, and the place after it
abbrev pub HeadsAt : List ℕ → ℕ → Heads → Type 0
HeadsAt cells at r = (b : Bool) (p : Proc) (rest : List ℕ) → drop at cells ≡ enc b p ++ rest → SetOf r.set (at_head p) × (drop r.next cells ≡ rest)

-- the same of each of the first n terms that stand at `starts`
abbrev pub SetsAt : List ℕ → List ℕ → ℕ → List ℕ → Type 0
SetsAt cells starts n sets = (k : ℕ) → k < n → (p : Proc) (rest : List ℕ) → drop (get_or starts k 0) cells ≡ enc false p ++ rest → SetOf (get_or sets k 0) (at_head p)

-- the processes at the head of each right side
abbrev pub HeadsOf : Sheet → ℕ → List ℕ → Type 0
HeadsOf H n sets = (k : ℕ) → k < n → SetOf (get_or sets k 0) (at_head (get_or H.procs k no_process).right)

-- every process at the head of a right side is there
abbrev pub HeadsThere : Sheet → ℕ → Type 0
HeadsThere H n = (k : ℕ) → k < n → Every (λ j. j < n) (at_head (get_or H.procs k no_process).right)

abbrev pub AllPassed : ℕ → ℕ → Bool → Type 0
AllPassed heads passed r = (ks : List ℕ) (before : List Bool) → SetOf heads ks → Every (λ k. k < set_width) ks → PlacesOf passed before → r ≡ all_pass before ks

-- which processes pass after those that passed before
unfoldable pub next_round : Sheet → List Bool → List Bool
next_round H before = map (λ (p : Process). all_pass before (at_head p.right)) H.procs

abbrev pub NextRound : List ℕ → ℕ → ℕ → ℕ → Type 0
NextRound sets n passed r =
    (H : Sheet) (before : List Bool) → length H.procs ≡ n → HeadsOf H n sets → HeadsThere H n → PlacesOf passed before → PlacesOf r (next_round H before)

abbrev pub PassedAfter : List ℕ → ℕ → ℕ → Type 0
PassedAfter sets n r = (H : Sheet) → length H.procs ≡ n → HeadsOf H n sets → HeadsThere H n → PlacesOf r (passed_after H n)

-- the numbers below n
unfoldable pub numbers_below : ℕ → List ℕ
numbers_below zero = []
numbers_below (suc n) = n ∷ numbers_below n
