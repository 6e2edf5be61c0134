-- A walk after an answer: a step counts, up to 8, and gives the new depth.
use Rattle.std.specs.Prelude.{Bool, true, false, ◌+◌, ltb}
use Rattle.pcrl.specs.Walk.{walk_steps}
use Rattle.asking.specs.declared.Step.{Step}
use Rattle.asking.specs.declared.Told.{Told}
use Rattle.asking.specs.declared.Told.TheVariants.{Ended, Nothing, Stepped, TooDeep}
use Rattle.walker.specs.declared.Walk.{Walk}

-- the same walk with another last answer
abbrev pub kept_by : Walk → Told → Walk
kept_by w r = record { depth = w.depth; taken = w.taken; last = r }

-- after a step that counts
abbrev pub stepped_by : Walk → Step → Walk
stepped_by w r = record { depth = r.depth; taken = w.taken + 1; last = Stepped r }

abbrev pub stepped_if : Bool → Walk → Step → Walk
stepped_if true w r = stepped_by w r
stepped_if false w r = kept_by w (Stepped r)

unfoldable pub moved_by : Walk → Told → Walk
moved_by w Ended = kept_by w Ended
moved_by w Nothing = kept_by w Nothing
moved_by w (Stepped r) = stepped_if (ltb w.taken walk_steps) w r
moved_by w TooDeep = kept_by w TooDeep
