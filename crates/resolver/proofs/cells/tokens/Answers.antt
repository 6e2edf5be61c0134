-- `tokens` is the table of tokens-of.
use mathlib.Core.Path.{sym}
use mathlib.Core.List.{[], List, ◌∷◌}
use Prim.Native.Nat.{ℕ}
use native.Mathlib.Omega.{arith}
use Rattle.resolver.proofs.Keys.{keyed, ranged}
use Rattle.resolver.specs.Raw.{tokens_of}
use Rattle.resolver.proofs.Items.{tokens_past}
use Rattle.resolver.proofs.cells.tokens.Goals as goal

abbrev keys : List (List ℕ)
keys = (16 ∷ []) ∷ []

pub returns-in-16 : goal.returns-in-16
unfolding tokens_of
returns-in-16 c = (keyed tokens_of 2 (16 ∷ []) tt c.args.k c.in-16.is, omega arith)

pub returns-in-1 : goal.returns-in-1
unfolding tokens_of
returns-in-1 c = (ranged tokens_of 1 keys 1 3 tt c.args.k (omega arith) (omega arith) (search), omega arith)

pub returns-in-1-2 : goal.returns-in-1-2
unfolding tokens_of
returns-in-1-2 c = (ranged tokens_of 1 keys 14 2 tt c.args.k (omega arith) (omega arith) (search), omega arith)

pub returns-in_default : goal.returns-in_default
unfolding tokens_of
returns-in_default c = (ranged tokens_of 0 keys 0 1 tt c.args.k (omega arith) (omega arith) (search), omega arith)

pub returns-in_default-2 : goal.returns-in_default-2
unfolding tokens_of
returns-in_default-2 c = (ranged tokens_of 0 keys 4 10 tt c.args.k (omega arith) (omega arith) (search), omega arith)

pub returns-in_default-3 : goal.returns-in_default-3
returns-in_default-3 c = (sym (tokens_past c.args.k (omega arith)), omega arith)
