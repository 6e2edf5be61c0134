-- The bits of a number as marks, and what the walks that mark say.
use Rattle.std.specs.Prelude.{◌≡◌, List, [], ◌∷◌, ◌++◌, Bool, false, ℕ, zero, suc, ◌%◌, ◌/◌, ◌≤◌, ◌<◌, eqb, length, drop}
use Rattle.pcrl.specs.Tests.{or}
use Rattle.pcrl.specs.Sheet.{Data, val, var, app, Proc, delta, atom, alt, cond, sum, seq, call}
use Rattle.pcrl.specs.Parts.{in_list, marks}
use Rattle.nodes.specs.Bits.{odd, bit}
use Rattle.nodes.specs.Layout.{enc_datas, enc}
use Rattle.nodes.specs.Nodes.{data_tag, data_number}

-- the n lowest bits, the lowest first
unfoldable pub bits : ℕ → ℕ → List Bool
bits zero m = []
bits (suc n) m = odd (m % 2) ∷ bits n (m / 2)

-- from n on, r has the bits of m
abbrev pub HighBits : ℕ → ℕ → ℕ → Type 0
HighBits n m r = (i : ℕ) → n ≤ i → bit i r ≡ bit i m

-- is the node itself the variable i?
unfoldable pub own_variable : ℕ → Data → Bool
own_variable i (val v) = false
own_variable i (var x) = eqb i x
own_variable i (app f ds) = false

abbrev pub Notes : ℕ → ℕ → ℕ → ℕ → ℕ → Type 0
Notes m tag number n r = (d : Data) → tag ≡ data_tag d → number ≡ data_number d → (i : ℕ) → i < n → bit i r ≡ or (bit i m) (own_variable i d)

abbrev pub MarksData : List ℕ → ℕ → ℕ → ℕ → ℕ → ℕ → Type 0
MarksData cells at count n m r = (ds : List Data) (rest : List ℕ) → length ds ≡ count → drop at cells ≡ enc_datas ds ++ rest → (i : ℕ) → i < n → bit i r ≡ or (bit i m) (in_list i ds)

-- its sums bind variables from n on
unfoldable pub Above : ℕ → Proc → Type 0
Above n delta = Unit {0}
Above n (atom a ds) = Unit {0}
Above n (alt p q) = Above n p × Above n q
Above n (cond c p q) = Above n p × Above n q
Above n (sum x D p) = (n ≤ x) × Above n p
Above n (seq p q) = Above n p × Above n q
Above n (call k ds) = Unit {0}

-- the bits are the marks of the variables below n
abbrev pub Marked : List ℕ → ℕ → ℕ → ℕ → Type 0
Marked cells at n r = (b : Bool) (p : Proc) (rest : List ℕ) → drop at cells ≡ enc b p ++ rest → Above n p → bits n r ≡ marks n p
