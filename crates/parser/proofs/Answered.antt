-- What a caller may take from the parser's answer; and what the lexer accepted is few enough to be parsed.
use mathlib.Core.Path.{◌≡◌, refl}
use mathlib.Core.List.{List}
use mathlib.Core.Option.{Option, none, some}
use Prim.Native.Nat.{ℕ, ◌≤◌, ◌<◌}
use native.Mathlib.Decide.{dec_lt}
use native.Mathlib.Omega.{arith}
use lib.ListN.{take, get_or, length-take, get_or-eq_default}
use lib.Seq.{get_or-take}
use Rattle.std.specs.Prelude.{None, Some}
use Rattle.pcrl.specs.Tree.{RawSheet}
use Rattle.lexer.proofs.Accepted.{Accepted}
use Rattle.parser.specs.Cells.{first_ors}
use Rattle.parser.specs.Reading.{Few}
use Rattle.parser.specs.Parses.{Tree, Parses}
use Rattle.parser.specs.declared.Parsed.{Parsed}

-- a tree: the definition finds a sheet, and the cells are its tree
pub tree_of : (o : Option RawSheet) (s : List ℕ) (r : Parsed) (cells : List ℕ) → Parses o s (Some r) cells → (R : RawSheet) × (o ≡ some R) × Tree s R r cells
unfolding Parses
tree_of none s r cells h = absurd h
tree_of (some R) s r cells h = (R, refl, h)

-- none: it finds none
pub none_of : (o : Option RawSheet) (s : List ℕ) (cells : List ℕ) → Parses o s None cells → o ≡ none
unfolding Parses
none_of none s cells h = refl
none_of (some R) s cells h = absurd h

-- the cells of an accepted sheet
pub accepted_few : {s out : List ℕ} {r : ℕ} → Accepted s r out → (n : ℕ) → n ≤ r → Few (take n out)
accepted_few {s} {out} {r} a n l = record { short = omega (arith, length-take n out, a.fits, a.short); low = λ i. by i (dec_lt i n) }
  where
    by : (i : ℕ) → Dec (i < n) → get_or (take n out) i 0 < first_ors
    by i (yes k) = let e = get_or-take n out i 0 k in omega (arith, (a.usable i (omega arith)).below)
    by i (no k) = let e = get_or-eq_default (take n out) 0 {n = i} (omega (arith, length-take n out)) in omega arith
