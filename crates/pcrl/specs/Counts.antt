-- Question 6: counts and sizes. Lines are counted, whether or not their names repeat.
use Rattle.std.specs.Prelude.{suc, ◌≤◌, length}
use Rattle.pcrl.specs.Limits.{max_sorts, max_size, max_functions, max_actions, max_processes, frame_width}
use Rattle.pcrl.specs.Tests.{Between, both?, between?, at_most?, Every, every?}
use Rattle.pcrl.specs.Tree.{SortLine, ProcLine, RawSheet}

-- 6: "At most 8 sorts with Bool, sizes 1 to 16; 16 functions; 32 actions; 16 processes of 0 to 4 parameters?"
unfoldable pub Counted : RawSheet → Type 0
Counted R =
    (suc (length R.sorts) ≤ max_sorts)
    × (Every (λ (l : SortLine). Between 1 max_size l.size) R.sorts
    × ((length R.funcs ≤ max_functions)
    × ((length R.acts ≤ max_actions)
    × ((length R.procs ≤ max_processes)
    × Every (λ (l : ProcLine). length l.params ≤ frame_width) R.procs))))

unfoldable pub counted? : (R : RawSheet) → Dec (Counted R)
unfolding Counted
counted? R =
    both? (at_most? max_sorts (suc (length R.sorts)))
    (both? (every? (λ (l : SortLine). between? 1 max_size l.size) R.sorts)
    (both? (at_most? max_functions (length R.funcs))
    (both? (at_most? max_actions (length R.acts))
    (both? (at_most? max_processes (length R.procs))
    (every? (λ (l : ProcLine). at_most? frame_width (length l.params)) R.procs)))))
