-- Lists of frame structs, and the frames of document 01 that they are.
use Rattle.std.specs.Prelude.{List, [], ◌++◌, map, true, false, ℕ, eqb, take, drop, replicate}
use Rattle.pcrl.specs.Limits.{frame_width, stack_limit}
use Rattle.pcrl.specs.Stack as pcrl
use Rattle.frames.specs.declared.LentFrame.{LentFrame}

-- what a list of frames has past its end
abbrev pub blank : LentFrame
blank = record { equation = 0; values = [] }

abbrev pub no_frame : LentFrame
no_frame = record { equation = 0; values = replicate frame_width 0 }

abbrev pub no_frames : List LentFrame
no_frames = replicate stack_limit no_frame

-- the first n of xs, and the rest of ys
unfoldable pub over : ℕ → List LentFrame → List LentFrame → List LentFrame
over n xs ys = take n xs ++ drop n ys

-- how many frames are taken out of n: all 64, or none
unfoldable pub taken : ℕ → ℕ
taken n = elim (eqb n stack_limit) [ true ↦ stack_limit | false ↦ 0 ]

unfoldable pub frame_of : LentFrame → pcrl.Frame
frame_of f = record { number = f.equation; values = f.values }

unfoldable pub lent_frames : List LentFrame → List pcrl.Frame
lent_frames fs = map frame_of fs
