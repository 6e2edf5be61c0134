-- What is written of the heads of a term.
use Rattle.std.specs.Prelude.{◌≡◌, List, ◌++◌, Bool, true, false, Result, MatchResult, ℕ, ◌+◌, ◌*◌, ◌≤◌, ◌<◌, length, drop}
use Rattle.pcrl.specs.Tests.{Every}
use Rattle.pcrl.specs.Sheet.{Data, val, var, Proc, Sheet}
use Rattle.pcrl.specs.Parts.{new_count, all_new_parts}
use Rattle.pcrl.specs.Stream.{encode_list, encode_summand}
use Rattle.pcrl.specs.Right.{SummandWithin}
use Rattle.pcrl.specs.Heads.{heads}
use Rattle.nodes.specs.Layout.{byte_limit, seq_kind, enc}
use Rattle.nodes.specs.Nodes.{kind_of}
use Rattle.nodes.specs.Scoped.{max_scope}
use Rattle.counting.specs.Limits.{row_width, cut}
use Rattle.counting.specs.Counting.{Placed, Tallied, FirstNew}
use Rattle.refusals.specs.declared.Refusal.{Refusal}
use Rattle.refusals.specs.declared.Refusal.TheVariants.{NoRoom}
use Rattle.putting.specs.Slots.{slot_width, Slots, Adds}
use Rattle.following.specs.Fine.{Fine}
use Rattle.contexts.specs.Spots.{Ready, SummandFits}
use Rattle.contexts.specs.Steps.{SummandsOut}

-- room for a slot for each variable that can be in scope
abbrev pub slots_room : ℕ
slots_room = max_scope * slot_width

-- All heads of the term p, of which there are some, written as summands, one behind another; or not every one has the limits, or there is
-- no room for them.
abbrev pub HeadsWritten : List ℕ → List ℕ → List ℕ → List ℕ → ℕ → ℕ → ℕ → List ℕ → ℕ → ℕ → ℕ → ℕ → List ℕ → Result ℕ Refusal → List ℕ → Type 0
HeadsWritten cells starts counts firsts fuel at c slots n m many w o r o' =
    (H : Sheet) (σ : List Data) (b : Bool) (p : Proc) (rest : List ℕ) → Ready H fuel cells starts counts firsts
    → drop at cells ≡ enc b p ++ rest → (kind_of p ≡ seq_kind → b ≡ false) → Slots σ slots n → Fine H n p → c + new_count false p < byte_limit
    → length (heads H fuel σ m c p) ≡ many → 0 < many → many < byte_limit → SummandsOut (heads H fuel σ m c p) w o r o'

-- How many heads a term has, cut as all counts are.
abbrev pub HeadsCounted : List ℕ → List ℕ → ℕ → ℕ → ℕ → Type 0
HeadsCounted cells counts fuel at r = (H : Sheet) (F : ℕ) (b : Bool) (p : Proc) (rest : List ℕ) (σ : List Data) (m c : ℕ) → length H.procs ≤ row_width → Tallied H F counts → fuel ≤ F
    → drop at cells ≡ enc b p ++ rest → r ≡ cut (length (heads H fuel σ m c p))

-- The summands of an equation, with their count, of which there are few enough for a byte; or they are not all within their limits, or
-- a call has more terms than an equation may have parameters, or there is no room for them: that is said where all have the limits.
abbrev pub SummandsWritten : List ℕ → List ℕ → List ℕ → List ℕ → ℕ → ℕ → ℕ → List ℕ → ℕ → ℕ → ℕ → List ℕ → Result ℕ Refusal → List ℕ → Type 0
SummandsWritten cells starts counts firsts fuel at c slots n m w o r o' =
    (H : Sheet) (σ : List Data) (b : Bool) (p : Proc) (rest : List ℕ) → Ready H fuel cells starts counts firsts
    → drop at cells ≡ enc b p ++ rest → (kind_of p ≡ seq_kind → b ≡ false) → Slots σ slots n → Fine H n p → c + new_count false p < byte_limit → length (heads H fuel σ m c p) < byte_limit
    → MatchResult r (λ v. Every SummandWithin (heads H fuel σ m c p) × Adds (encode_list encode_summand (heads H fuel σ m c p)) w o v o')
    (λ e. Every SummandFits (heads H fuel σ m c p) → (e ≡ NoRoom) × (length o < w + length (encode_list encode_summand (heads H fuel σ m c p))))

-- The numbers of the first new equations of all processes.
abbrev pub NumbersFirst : List ℕ → List ℕ → ℕ → List ℕ → Type 0
NumbersFirst cells starts n firsts = (H : Sheet) → length H.procs ≡ n → Placed H cells starts → length H.procs + length (all_new_parts H.procs) < byte_limit → FirstNew H firsts

-- a variable in scope: the parameter k, or of no matter
unfoldable pub param_of : Bool → ℕ → Data
param_of true k = var k
param_of false k = val 0
