-- Question 9: circles at the head.
use Rattle.std.specs.Prelude.{List, [], ◌∷◌, ◌++◌, map, Bool, true, false, ℕ, zero, suc, length, get_or}
use Rattle.pcrl.specs.Tests.{and}
use Rattle.pcrl.specs.Sheet.{Proc, delta, atom, alt, cond, sum, seq, call, Process, Sheet, right}

-- The processes at the head of a term: "The head is a sequence's first part, looked for inside sums, brackets and each side of `+` and of a conditional.
-- Conditions are ignored."
unfoldable pub at_head : Proc → List ℕ
at_head delta = []
at_head (atom a ds) = []
at_head (alt p q) = at_head p ++ at_head q
at_head (cond c p q) = at_head p ++ at_head q
at_head (sum x D p) = at_head p
at_head (seq p q) = at_head p
at_head (call k ds) = k ∷ []

pub data Member (k : ℕ) : List ℕ → Type 0 where
  here : {l : List ℕ} → Member k (k ∷ l)
  later : {j : ℕ} {l : List ℕ} → Member k l → Member k (j ∷ l)

module _ (H : Sheet) where
  -- processes from j to k, each at the head of the one before
  pub data Chain (j : ℕ) : ℕ → Type 0 where
    direct : {k : ℕ} → Member k (at_head (right H j)) → Chain j k
    further : {k l : ℕ} → Chain j k → Member l (at_head (right H k)) → Chain j l

  -- "No circle of written processes, each standing at the head of the previous one's right side?"
  unfoldable pub NoCircle : Type 0
  NoCircle = (k : ℕ) → Chain k k → ⊥

-- does each process of a list pass, by its number
unfoldable pub all_pass : List Bool → List ℕ → Bool
all_pass passed [] = true
all_pass passed (k ∷ ks) = and (get_or passed k false) (all_pass passed ks)

unfoldable pub all_true : List Bool → Bool
all_true [] = true
all_true (b ∷ bs) = and b (all_true bs)

module _ (H : Sheet) where
  -- A process passes one round later than all the processes at its head.
  unfoldable pub passed_after : ℕ → List Bool
  passed_after zero = map (λ (p : Process). false) H.procs
  passed_after (suc n) = let before = passed_after n in map (λ (p : Process). all_pass before (at_head p.right)) H.procs

  -- 9, as a test: all pass after as many rounds as there are processes. That this is `NoCircle` is a theorem.
  unfoldable pub guarded : Bool
  guarded = all_true (passed_after (length H.procs))
