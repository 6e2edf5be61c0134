-- Frames in bytes: an equation number and its values, one frame behind another. Bytes behind the last whole frame are no frame.
use Rattle.std.specs.Prelude.{List, ℕ, ◌+◌, ◌*◌, ◌/◌, length, get_or}
use Rattle.pcrl.specs.Limits.{frame_width, stack_limit}
use Rattle.pcrl.specs.Lists.{tabulate}
use Rattle.pcrl.specs.Stack.{Frame}

-- the bytes of a frame
abbrev pub frame_bytes : ℕ → ℕ
frame_bytes width = 1 + width

-- the frame whose bytes begin at a place
unfoldable pub frame_at : ℕ → List ℕ → ℕ → Frame
frame_at width s at = record { number = get_or s at 0; values = tabulate width (λ j. get_or s (at + (1 + j)) 0) }

-- the first n frames
unfoldable pub frames_at : ℕ → ℕ → List ℕ → List Frame
frames_at width n s = tabulate n (λ i. frame_at width s (i * frame_bytes width))

unfoldable pub frames_in : ℕ → List ℕ → List Frame
frames_in width s = frames_at width (length s / frame_bytes width) s

-- the bytes of 64 frames
abbrev pub stack_bytes : ℕ
stack_bytes = stack_limit * frame_bytes frame_width
