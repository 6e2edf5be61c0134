-- What the theorems ask of a resolved sheet. That every sheet which passes questions 1 to 9 has it is a theorem.
use Rattle.std.specs.Prelude.{◌≡◌, ℕ, suc, ◌≤◌, length}
use Rattle.std.proofs.Math.ListN.{get_elem?}
use Rattle.pcrl.specs.Limits.{max_processes, frame_width}
use Rattle.pcrl.specs.Tests.{Every}
use Rattle.pcrl.specs.Sheet.{Proc, delta, atom, alt, cond, sum, seq, call, Process, Sheet}
use Rattle.pcrl.specs.Sorts.{closed, Sorted}
use Rattle.pcrl.specs.Circles.{NoCircle}
use Rattle.pcrl.specs.Table.{with_names}
use Rattle.pcrl.specs.Right.{AreSorts, RightSig, RightNames}

-- where n variables are in scope, each sum binds the next number
unfoldable pub Numbered : ℕ → Proc → Type 0
Numbered n delta = Unit {0}
Numbered n (atom a ds) = Unit {0}
Numbered n (alt p q) = Numbered n p × Numbered n q
Numbered n (cond c p q) = Numbered n p × Numbered n q
Numbered n (sum x D p) = (x ≡ n) × Numbered (suc n) p
Numbered n (seq p q) = Numbered n p × Numbered n q
Numbered n (call k ds) = Unit {0}

-- what is asked of one process
pub record RightProcess (H : Sheet) (p : Process) : Type 0 where
  pub few : length p.params ≤ frame_width
  pub sorts : AreSorts H.sig.sorts p.params
  pub numbered : Numbered (length p.params) p.right
  pub sorted : Sorted H (get_elem? p.params) p.right

pub record Standing (H : Sheet) : Type 0 where
  -- sorts, functions and actions within their limits, sizes from 1 on, functions complete, names valid and distinct, those of sorts too
  pub signature : RightSig H.sig
  pub sort_names : RightNames with_names H.sig
  pub some_process : 1 ≤ length H.procs
  pub few_processes : length H.procs ≤ max_processes
  pub processes : Every (RightProcess H) H.procs
  pub no_circle : NoCircle H
  pub start : Sorted H closed (call H.start.0 H.start.1)
