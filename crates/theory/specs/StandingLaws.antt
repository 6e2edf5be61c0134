-- What is asked of each process, by its number.
use Rattle.std.specs.Prelude.{ℕ, ◌<◌, length}
use Rattle.std.proofs.Math.ListN.{get_elem?}
use Rattle.pcrl.specs.Sheet.{no_process, Sheet, params, right}
use Rattle.pcrl.specs.Sorts.{Sorted}
use Rattle.pcrl.specs.Right.{AreSorts}
use Rattle.laws.specs.Every.{every_at}
use Rattle.theory.specs.Standing.{Numbered, RightProcess, Standing}
use Rattle.theory.specs.AtHead.{HeadsThere, heads_there}

module _ (H : Sheet) (ok : Standing H) where
  pub process_sorts : (k : ℕ) → k < length H.procs → AreSorts H.sig.sorts (params H k)
  unfolding params
  process_sorts k w = (every_at (RightProcess H) H.procs no_process k ok.processes w).sorts

  pub process_numbered : (k : ℕ) → k < length H.procs → Numbered (length (params H k)) (right H k)
  unfolding params right
  process_numbered k w = (every_at (RightProcess H) H.procs no_process k ok.processes w).numbered

  pub process_sorted : (k : ℕ) → k < length H.procs → Sorted H (get_elem? (params H k)) (right H k)
  unfolding params right
  process_sorted k w = (every_at (RightProcess H) H.procs no_process k ok.processes w).sorted

  pub process_heads : HeadsThere H
  process_heads = heads_there H process_sorted
