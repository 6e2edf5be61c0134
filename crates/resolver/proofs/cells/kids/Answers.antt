-- `kids` counts operands, and is the table of kids-of.
-- the keys of the arms with keys, the last arm first
use mathlib.Core.Path.{sym}
use mathlib.Core.List.{[], List, ◌∷◌}
use Prim.Native.Nat.{ℕ}
use native.Mathlib.Omega.{arith}
use Rattle.resolver.proofs.Keys.{keyed, ranged}
use Rattle.resolver.specs.Raw.{kids_of}
use Rattle.resolver.proofs.Items.{kids_past, kids_ors, kids_ands}
use Rattle.resolver.proofs.cells.kids.Goals as goal

abbrev keys : List (List ℕ)
keys = (9 ∷ []) ∷ (5 ∷ 7 ∷ 11 ∷ 26 ∷ []) ∷ (6 ∷ 8 ∷ 10 ∷ 25 ∷ []) ∷ []

pub returns-then-k-ge-FIRST_ANDS : goal.returns-then-k-ge-FIRST_ANDS
returns-then-k-ge-FIRST_ANDS c = let z = kids_ands c.args.k (omega arith) in (omega arith, omega arith)

pub returns-then-k-ge-FIRST_ORS : goal.returns-then-k-ge-FIRST_ORS
returns-then-k-ge-FIRST_ORS c = let z = kids_ors c.args.k (omega arith) (omega arith) in (omega arith, omega arith)

pub returns-in-5 : goal.returns-in-5
unfolding kids_of
returns-in-5 c = (keyed kids_of 2 (5 ∷ 7 ∷ 11 ∷ 26 ∷ []) tt c.args.k c.in-5.is, omega arith)

pub returns-in-9 : goal.returns-in-9
unfolding kids_of
returns-in-9 c = (keyed kids_of 3 (9 ∷ []) tt c.args.k c.in-9.is, omega arith)

pub returns-in_default : goal.returns-in_default
unfolding kids_of
returns-in_default c = (ranged kids_of 0 keys 0 3 tt c.args.k (omega arith) (omega arith) (search), omega arith)

pub returns-in_default-2 : goal.returns-in_default-2
unfolding kids_of
returns-in_default-2 c = (ranged kids_of 0 keys 5 10 tt c.args.k (omega arith) (omega arith) (search), omega arith)

pub returns-in_default-3 : goal.returns-in_default-3
unfolding kids_of
returns-in_default-3 c = (ranged kids_of 0 keys 18 7 tt c.args.k (omega arith) (omega arith) (search), omega arith)

pub returns-in_default-4 : goal.returns-in_default-4
returns-in_default-4 c = (sym (kids_past c.args.k (omega arith) (omega arith)), omega arith)

pub returns-in-3 : goal.returns-in-3
unfolding kids_of
returns-in-3 c = (keyed kids_of 1 (6 ∷ 8 ∷ 10 ∷ 25 ∷ []) tt c.args.k c.in-3.is, omega arith)

pub returns-in-3-2 : goal.returns-in-3-2
unfolding kids_of
returns-in-3-2 c = (ranged kids_of 1 keys 3 2 tt c.args.k (omega arith) (omega arith) (search), omega arith)

pub returns-in-3-3 : goal.returns-in-3-3
unfolding kids_of
returns-in-3-3 c = (ranged kids_of 1 keys 15 3 tt c.args.k (omega arith) (omega arith) (search), omega arith)

pub returns-in-3-4 : goal.returns-in-3-4
unfolding kids_of
returns-in-3-4 c = (ranged kids_of 1 keys 25 4 tt c.args.k (omega arith) (omega arith) (search), omega arith)
