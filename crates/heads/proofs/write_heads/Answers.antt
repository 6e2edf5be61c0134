-- `heads::write_heads` meets its contract.
use borrow.Author.Rules.{rules}
use native.Mathlib.Omega.{arith}
use Prim.Native.Nat.{ℕ, ◌+◌, ◌*◌, ◌≤◌}
use mathlib.Core.Path.{refl}
use lib.ListN.{length, replicate}
use Rattle.following.specs.Follows.{calls_room}
use Rattle.contexts.specs.Spots.{arrays, conds_room}
use Rattle.nodes.specs.Layout.{byte_limit}
use Rattle.heads.specs.Stack.{later_cells}
use Rattle.heads.proofs.Walking.{heads_out}
use Rattle.heads.proofs.Remembering.{remembers_none}
use Rattle.heads.proofs.write_heads.Goals as goal

roomy : later_cells * byte_limit ≤ length {A = ℕ} (replicate 1785 0) + later_cells
roomy = omega arith

pub walk-requires : goal.walk-requires
walk-requires c =
    let a = c.args in
    (search rules, search rules, search rules, remembers_none a.cells.now a.counts.now)

pub shape_of-slots : goal.shape_of-slots
shape_of-slots c = c.walk.auto.slots

pub shape_of-out : goal.shape_of-out
shape_of-out c = c.walk.auto.out

pub returns : goal.returns
returns c =
    let a = c.args in
    let the-walk = c.walk in
    let bounds = the-walk.ensures.w_le_w in record {
      w_le_w = bounds.0;
      heads_written = heads_out a.cells.now a.starts.now a.counts.now a.firsts.now a.fuel a.at a.c a.slots.now a.n a.m a.heads a.w a.out.now a.slots.now (replicate 4 0) (replicate conds_room 0) (replicate calls_room 0) calls_room (length {A = ℕ} (replicate 1785 0)) refl
          refl the-walk.result (arrays the-walk.new.slots the-walk.new.work.vars.now the-walk.new.work.conds.now the-walk.new.work.calls.now) the-walk.new.out the-walk.ensures.written_by roomy;
    }
