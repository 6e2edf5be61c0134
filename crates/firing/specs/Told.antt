-- The answer of `fire` as one optional step: the frames are read from the lent bytes.
use Rattle.std.specs.Prelude.{List, ℕ, ◌+◌, ◌*◌, get_or, take, Result, Ok, Err}
use Rattle.std.proofs.Math.Option.{Option, none, some}
use Rattle.pcrl.specs.Limits.{frame_width}
use Rattle.pcrl.specs.Lists.{tabulate}
use Rattle.pcrl.specs.Sheet.{Sig}
use Rattle.pcrl.specs.Label.{Label, label}
use Rattle.pcrl.specs.Stack.{Frame}
use Rattle.firing.specs.Fires.{act_of}
use Rattle.firing.specs.declared.Fired.{Fired}

-- the frame whose bytes begin at a place
unfoldable pub frame_at : ℕ → List ℕ → ℕ → Frame
frame_at width s at = record { number = get_or s at 0; values = tabulate width (λ j. get_or s (at + (1 + j)) 0) }

-- the first n frames
unfoldable pub frames_at : ℕ → ℕ → List ℕ → List Frame
frames_at width n s = tabulate n (λ i. frame_at width s (i * (1 + width)))

unfoldable pub told : Sig → Result Fired ℕ → List ℕ → Option (Label × List Frame)
told S (Ok r) made = some (label S (act_of r.action) (take r.arity r.values), frames_at frame_width r.calls made)
told S (Err n) made = none
