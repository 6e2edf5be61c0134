-- The lent count of bytes after an answer: as it was after a refusal, and else the length of what was written.
use mathlib.Core.Path.{◌≡◌, refl}
use mathlib.Core.List.{List}
use Prim.Native.Nat.{ℕ}
use lib.ListN.{length}
use Rattle.std.specs.Prelude.{Result, Ok, Err}
use Rattle.pcrl.specs.Result as R
use Rattle.pcrl.specs.Result.{refused, accepted}
use Rattle.refusals.specs.declared.Refusal.{Refusal}
use Rattle.refusals.specs.Answered.{Answered}
use Rattle.stepping.specs.Promises.{depth_left}
use Rattle.wizbratel.specs.Tables.{written_after}

pub count_left : (x : R.Result (List ℕ)) (r : Result ℕ Refusal) (w : ℕ) → Answered (λ (l : List ℕ) (n : ℕ). n ≡ length l) x r → depth_left w r ≡ written_after x w
unfolding Answered written_after
count_left (refused n) (Err e) w h = refl
count_left (refused n) (Ok m) w h = absurd h
count_left (accepted l) (Ok m) w h = h
count_left (accepted l) (Err e) w h = absurd h
