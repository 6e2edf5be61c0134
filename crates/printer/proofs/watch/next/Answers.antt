-- `printer::watch::next`: the definition's cases.
use Rattle.printer.proofs.WatchLaws.{value_behind_not, value_behind_equals, value_behind, equals_behind_value, equals_behind, not_behind, other_behind}
use Rattle.printer.proofs.watch.next.Goals as goal

pub returns-in-BehindNot : goal.returns-in-BehindNot
returns-in-BehindNot c = value_behind_not c.args.state c.args.k c.requires c.in-Value.is c.in-BehindNot.is

pub returns-in-BehindEquals : goal.returns-in-BehindEquals
returns-in-BehindEquals c = value_behind_equals c.args.state c.args.k c.requires c.in-Value.is c.in-BehindEquals.is

pub returns-in_default : goal.returns-in_default
returns-in_default c = value_behind c.args.state c.args.k c.requires c.in-Value.is c.in_default.not-BehindNot c.in_default.not-BehindEquals

pub returns-in-BehindValue : goal.returns-in-BehindValue
returns-in-BehindValue c = equals_behind_value c.args.state c.args.k c.requires c.in-Equals.is c.in-BehindValue.is

pub returns-in_default-state : goal.returns-in_default-state
returns-in_default-state c = equals_behind c.args.state c.args.k c.requires c.in-Equals.is c.in_default-state.not-BehindValue

pub returns-in-Not : goal.returns-in-Not
returns-in-Not c = not_behind c.args.state c.args.k c.requires c.in-Not.is

pub returns-in-Other : goal.returns-in-Other
returns-in-Other c = other_behind c.args.state c.args.k c.requires c.in-Other.is
