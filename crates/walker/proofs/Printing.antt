-- What is printed for a table file: that it is refused, or the lines of its table's walk.
use mathlib.Core.Path.{◌≡◌, sym, ap}
use mathlib.Core.List.{◌++◌}
use Prim.Native.Nat.{ℕ}
use Rattle.pcrl.specs.Limits.{frame_width}
use Rattle.pcrl.specs.Text.{bytes, decimal}
use Rattle.pcrl.specs.Result.{Result, refused, accepted}
use Rattle.pcrl.specs.Table.{Table}
use Rattle.pcrl.specs.Answers.{start_stack}
use Rattle.pcrl.specs.Walk.{text_line, walk_steps, walk_lines, walk_made}

pub made_refused : (x : Result Table) (n : ℕ) → x ≡ refused n → text_line (bytes "refused " ++ decimal n) ≡ walk_made x
unfolding walk_made
made_refused x n e = sym (ap walk_made e)

pub made_lines : (x : Result Table) (T : Table) → x ≡ accepted T → walk_lines T walk_steps 1 (start_stack frame_width T) ≡ walk_made x
unfolding walk_made
made_lines x T e = sym (ap walk_made e)
