-- The list at a place is there, or runs past the end, or begins past it.
use mathlib.Core.Path.{refl}
use Prim.Native.Nat.{◌+◌, ◌-◌}
use native.Mathlib.Omega.{arith}
use lib.ListN.{length}
use Rattle.terms.proofs.Lists.{list_cut, list_past, list_whole}
use Rattle.terms.proofs.list_at.Goals as goal

pub returns-then-s-p : goal.returns-then-s-p
returns-then-s-p c = list_past c.args.s.now c.args.p c.if-s-p.true

pub returns-then-s-e : goal.returns-then-s-e
returns-then-s-e c = list_cut c.args.s.now c.args.p (c.args.p + 1) (length c.args.s.now - (c.args.p + 1)) refl (omega arith) refl

pub returns : goal.returns
returns c = list_whole c.args.s.now c.args.p (c.args.p + 1) (c.args.p + 1 + c.wide.result - (c.args.p + 1)) refl (omega arith)
