-- A walk keeps the arrays that it is lent.
use mathlib.Core.Path.{refl, ◌∙◌}
use Rattle.heads.specs.declared.work.Work.{Work}
use Rattle.heads.specs.Lent.{SameArrays}

pub same_start : {a : Work} → SameArrays a a
same_start {a} = record {
  vars_same = refl;
  conds_same = refl;
  after_same = refl;
  calls_same = refl;
  later_same = refl;
  remembered_same = refl;
  vars_long = refl;
  conds_long = refl;
  after_long = refl;
  calls_long = refl;
  later_long = refl;
  remembered_long = refl;
}

pub same_then : {a b c : Work} → SameArrays a b → SameArrays b c → SameArrays a c
same_then {a} {b} {c} h g = record {
  vars_same = g.vars_same ∙ h.vars_same;
  conds_same = g.conds_same ∙ h.conds_same;
  after_same = g.after_same ∙ h.after_same;
  calls_same = g.calls_same ∙ h.calls_same;
  later_same = g.later_same ∙ h.later_same;
  remembered_same = g.remembered_same ∙ h.remembered_same;
  vars_long = g.vars_long ∙ h.vars_long;
  conds_long = g.conds_long ∙ h.conds_long;
  after_long = g.after_long ∙ h.after_long;
  calls_long = g.calls_long ∙ h.calls_long;
  later_long = g.later_long ∙ h.later_long;
  remembered_long = g.remembered_long ∙ h.remembered_long;
}
