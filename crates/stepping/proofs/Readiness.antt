-- A table that was loaded, and question 15 put to the lent frames.
use mathlib.Core.Path.{◌≡◌, sym, ◌∙◌, subst}
use mathlib.Core.List.{List}
use mathlib.Core.Bool.{Bool, true, false}
use Prim.Native.Nat.{ℕ, ◌/◌, ◌-◌, ◌≤◌}
use native.Mathlib.Omega.{arith}
use Rattle.std.specs.Prelude.{Ok}
use lib.ListN.{length, take}
use Rattle.pcrl.specs.Limits.{frame_width, stack_limit}
use Rattle.pcrl.specs.Result.{refused, accepted}
use Rattle.pcrl.specs.Table.{Table}
use Rattle.pcrl.specs.Right.{RightTable}
use Rattle.pcrl.specs.Stack.{RightFrames}
use Rattle.pcrl.specs.Answers.{table_checked, stack_read}
use Rattle.laws.specs.Says.{Says, said_yes, said_no}
use Rattle.tables.specs.declared.Index.{Index}
use Rattle.tables.specs.Indexed.{Indexed}
use Rattle.stacks.specs.Lent.{frame_bytes, frames_in}
use Rattle.stacks.proofs.Views.{length_frames_in}
use Rattle.stepping.specs.declared.Loaded.{Loaded}
use Rattle.stepping.specs.Promises.{Loads}
use Rattle.stepping.proofs.Loading.{load_accepted}
use Rattle.stepping.proofs.Answering.{read_no_stack}

-- the table of the file, by its index in the stream, and frames that pass question 15
pub record Ready (file bytes : List ℕ) (d : ℕ) (stream : List ℕ) (index : Index) : Type 0 where
  pub table : Table
  pub checked : table_checked file ≡ accepted table
  pub right_table : RightTable table
  pub indexed : Indexed table stream index
  pub right_frames : RightFrames frame_width stack_limit table (frames_in frame_width bytes) d

-- the bytes are those of 64 frames, and the depth is 64 at the most
pub ready_count : (file bytes : List ℕ) (d : ℕ) (stream : List ℕ) (index : Index) → Ready file bytes d stream index → (length bytes / frame_bytes frame_width ≡ stack_limit) × (d ≤ stack_limit)
unfolding RightFrames
ready_count file bytes d stream index y = (sym (length_frames_in frame_width bytes) ∙ y.right_frames.0, y.right_frames.1.0)

module _ (file stream bytes : List ℕ) (d : ℕ) (l : Loaded) (load : Loads (table_checked file) stream (Ok l)) where
  module _ (b : Bool) (says : (T : Table) → Indexed T (take (l.count - 0) stream) l.index → Says b (RightFrames frame_width stack_limit T (frames_in frame_width bytes) d)) where
    same : l.count ≡ l.count - 0
    same = omega arith

    pub ready : b ≡ true → Ready file bytes d (take (l.count - 0) stream) l.index
    ready e =
        let (T, checked, (right, own)) = load_accepted (table_checked file) stream l load in
        let x : Indexed T (take (l.count - 0) stream) l.index = subst (λ (m : ℕ). Indexed T (take m stream) l.index) same own in
        record { table = T; checked = checked; right_table = right; indexed = x; right_frames = said_yes b (says T x) e }

    pub not_ready : b ≡ false → stack_read frame_width stack_limit file (frames_in frame_width bytes) d ≡ refused 15
    not_ready e =
        let (T, checked, (right, own)) = load_accepted (table_checked file) stream l load in
        let x : Indexed T (take (l.count - 0) stream) l.index = subst (λ (m : ℕ). Indexed T (take m stream) l.index) same own in
        read_no_stack file (frames_in frame_width bytes) d T checked (said_no b (says T x) e)
