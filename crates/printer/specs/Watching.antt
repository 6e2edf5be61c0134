-- The program's kinds of tokens and states of the watch are those of the definition (printing, Watched).
use Rattle.std.specs.Prelude.{◌≡◌, true}
use Rattle.printing.specs.Watched as W
use Rattle.printer.specs.declared.watch.Kind.{Kind}
use Rattle.printer.specs.declared.watch.Kind.TheVariants.{Other, Value, Equals, Not}
use Rattle.printer.specs.declared.watch.State.{State}
use Rattle.printer.specs.declared.watch.State.TheVariants.{Nothing, BehindNot, BehindValue, BehindEquals, Met}

abbrev pub kind_of : Kind → W.Kind
kind_of Other = W.other
kind_of Value = W.value
kind_of Equals = W.equals
kind_of Not = W.not

abbrev pub state_of : State → W.Watch
state_of Nothing = W.nothing
state_of BehindNot = W.behind_not
state_of BehindValue = W.behind_value
state_of BehindEquals = W.behind_equals
state_of Met = W.met

abbrev pub Unmet : State → Type 0
Unmet s = W.unmet (state_of s) ≡ true
