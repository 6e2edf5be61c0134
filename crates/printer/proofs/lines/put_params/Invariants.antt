use mathlib.Core.List.{◌++◌}
use Prim.Native.Nat.{◌-◌}
use lib.ListN.{take, drop}
use Rattle.pcrl.specs.Text.{bytes}
use Rattle.texts.specs.Wrote.{Wrote}
use Rattle.pcrl.specs.Printer.{numbered}
use Rattle.rendering.specs.Texts.{concat}
use Rattle.printer.specs.Lines.{param_by}
use Rattle.printer.proofs.lines.put_params.Given as goal

abbrev pub invariant-loop-i : goal.invariant-loop-i
invariant-loop-i l = Wrote l.initial.out l.initial.p (concat (numbered (λ k x. bytes "," ++ param_by l.l k x) 1 (take (l.i - 1) (drop 1 l.sorts)))) l.out l.p
