-- The arrays that a walk works in, lent by its caller.
use Rattle.std.specs.Prelude.{◌≡◌, length}
use Rattle.heads.specs.declared.work.Work.{Work}

-- They are the same arrays, each as long as it was: what the caller finds in its own is what stands in them.
pub record SameArrays (a b : Work) : Type 0 where
  pub vars_same : b.vars.ghost_name ≡ a.vars.ghost_name
  pub conds_same : b.conds.ghost_name ≡ a.conds.ghost_name
  pub after_same : b.after.ghost_name ≡ a.after.ghost_name
  pub calls_same : b.calls.ghost_name ≡ a.calls.ghost_name
  pub later_same : b.later.ghost_name ≡ a.later.ghost_name
  pub remembered_same : b.remembered.ghost_name ≡ a.remembered.ghost_name
  pub vars_long : length b.vars.now ≡ length a.vars.now
  pub conds_long : length b.conds.now ≡ length a.conds.now
  pub after_long : length b.after.now ≡ length a.after.now
  pub calls_long : length b.calls.now ≡ length a.calls.now
  pub later_long : length b.later.now ≡ length a.later.now
  pub remembered_long : length b.remembered.now ≡ length a.remembered.now
