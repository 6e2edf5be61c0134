-- The bytes of 64 frames, lent from the front of longer ones.
use mathlib.Core.Path.{◌≡◌, sym, ◌∙◌, ap}
use mathlib.Core.List.{List, ◌++◌}
use Prim.Native.Nat.{ℕ, ◌+◌, ◌*◌, ◌/◌, ◌<◌}
use native.Mathlib.Omega.{arith}
use lib.ListN.{length, take, drop, length-append, length-drop, take-append-drop, get_or-append}
use lib.Seq.{length-take-le}
use Rattle.pcrl.specs.Limits.{frame_width, stack_limit}
use Rattle.stacks.specs.Lent.{frame_bytes, frames_at, frames_in, stack_bytes}
use Rattle.stacks.proofs.Views.{tabulate_same, frame_same}

-- bytes that are no whole frame hold none
pub front_same : (s t : List ℕ) → length s ≡ stack_bytes → length t < frame_bytes frame_width → frames_in frame_width (s ++ t) ≡ frames_in frame_width s
unfolding frames_in frames_at
front_same s t l h =
    let n : length (s ++ t) / frame_bytes frame_width ≡ length s / frame_bytes frame_width = let z = length-append s t in omega arith in
    let c : length s / frame_bytes frame_width ≡ stack_limit = omega arith in
    ap (λ (m : ℕ). frames_at frame_width m (s ++ t)) n
    ∙ tabulate_same (length s / frame_bytes frame_width) _ _ (λ i b. frame_same frame_width (s ++ t) s (i * frame_bytes frame_width) (i * frame_bytes frame_width) (λ j v. get_or-append s t 0 (i * frame_bytes frame_width + j) (omega arith)))

module _ (bytes : List ℕ) (count : length bytes / frame_bytes frame_width ≡ stack_limit) where
  rest_short : length (drop stack_bytes bytes) < frame_bytes frame_width
  rest_short = let z = length-drop stack_bytes bytes in omega arith

  front_length : length (take stack_bytes bytes) ≡ stack_bytes
  front_length = length-take-le stack_bytes bytes (omega arith)

  -- the front holds all the frames
  pub front_frames : frames_in frame_width (take stack_bytes bytes) ≡ frames_in frame_width bytes
  front_frames = sym (front_same (take stack_bytes bytes) (drop stack_bytes bytes) front_length rest_short) ∙ ap (frames_in frame_width) (take-append-drop stack_bytes bytes)

  -- and where others come back for it, these are the frames
  pub front_back : (new : List ℕ) → length new ≡ stack_bytes → frames_in frame_width (new ++ drop stack_bytes bytes) ≡ frames_in frame_width new
  front_back new l = front_same new (drop stack_bytes bytes) l rest_short
