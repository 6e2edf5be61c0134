-- What the pieces of a step down say.
use Rattle.std.specs.Prelude.{◌≡◌, List, [], ◌∷◌, ◌++◌, false, Option, Result, MatchOption, MatchResult, IfSome, OnOk, ℕ, zero, suc, ◌+◌, ◌*◌, ◌%◌, ◌<◌, length, take, drop}
use Rattle.pcrl.specs.Limits.{frame_width, max_arity, max_variables}
use Rattle.pcrl.specs.Tests.{Every}
use Rattle.pcrl.specs.Reader.{all}
use Rattle.pcrl.specs.Sheet.{Data, var, Proc, Sheet}
use Rattle.pcrl.specs.Parts.{new_count}
use Rattle.pcrl.specs.Table.{Summand}
use Rattle.pcrl.specs.Stream.{tau_code, encode_summand}
use Rattle.nodes.specs.Layout.{byte_limit}
use Rattle.refusals.specs.declared.Refusal.{Refusal}
use Rattle.refusals.specs.declared.Refusal.TheVariants.{NoRoom}
use Rattle.laws.specs.TermLength.{max_term}
use Rattle.putting.specs.Slots.{slot_width, Slots, Adds}
use Rattle.nodes.specs.declared.Node.{Node}
use Rattle.nodes.specs.Layout.{sum_kind, alt_kind, atom_kind, cond_kind, call_kind, seq_kind, enc}
use Rattle.nodes.specs.Views.{Views}
use Rattle.contexts.specs.declared.Side.{Side}
use Rattle.contexts.specs.declared.Spot.{Spot}
use Rattle.contexts.specs.Spots.{Ready, SummandFits, Arrays, arrays, Bound, Spotted, Deeper, Kept, Beyond, Leads, OnSide}

-- room for the terms of an action
abbrev pub terms_room : ℕ
terms_room = max_arity * max_term

-- room for slots for the parameters of a process and the sum variables of a summand
abbrev pub call_room : ℕ
call_room = (frame_width + max_variables) * slot_width

abbrev pub VariablePut : List ℕ → ℕ → ℕ → List ℕ → Type 0
VariablePut o n m o' = ((σ : List Data) → Slots σ o n → Slots (σ ++ (var m ∷ [])) o' (n + 1)) × (take (slot_width * n) o' ≡ take (slot_width * n) o)

-- THE STEPS, at a node d of each kind

abbrev pub SumDown : Node → Spot → List ℕ → List ℕ → Option Spot → List ℕ → List ℕ → Type 0
SumDown d s slots vars r slots' vars' = (cells starts counts firsts conds calls : List ℕ) → Views cells s.at d → d.kind ≡ sum_kind
    → Leads cells starts counts firsts s (arrays slots vars conds calls) r (arrays slots' vars' conds calls)

-- the rest behind a first part that stands at `at`: where it stands, and the number of its first new equation
abbrev pub RestAt : List ℕ → ℕ → Spot → Side → Type 0
RestAt cells at s e = (p : Proc) (rest : List ℕ) → drop at cells ≡ enc false p ++ rest → (s.c + new_count false p < byte_limit → e.c ≡ s.c + new_count false p) × (drop e.at cells ≡ rest)

abbrev pub SeqDown : List ℕ → Node → Spot → Side → List ℕ → List ℕ → Option Spot → List ℕ → Type 0
SeqDown cells d s e slots calls r calls' = (starts counts firsts vars conds : List ℕ) → Views cells s.at d → d.kind ≡ seq_kind → RestAt cells d.next s e
    → Leads cells starts counts firsts s (arrays slots vars conds calls) r (arrays slots vars conds calls')

abbrev pub StepDown : List ℕ → Node → Spot → Arrays → Option Spot → Arrays → Type 0
StepDown cells d s A r B = (starts counts firsts : List ℕ) → (d.kind ≡ atom_kind → ⊥) → (d.kind ≡ call_kind → ⊥) → (d.kind ≡ alt_kind → ⊥) → (d.kind ≡ cond_kind → ⊥) → Leads cells starts counts firsts s A r B

-- into a side of a choice
abbrev pub SideDown : List ℕ → Node → Spot → Side → List ℕ → List ℕ → Option Spot → List ℕ → Type 0
SideDown cells d s e slots conds r conds' = (vars calls : List ℕ) → IfSome r (Deeper s) × Kept s (arrays slots vars conds calls) (arrays slots vars conds' calls)
    × ((H : Sheet) (F : ℕ) (hs : List Summand) → OnSide H F cells s (arrays slots vars conds calls) d e hs
    → MatchOption r (Beyond hs) (λ t. Spotted H F cells t (arrays slots vars conds' calls) hs))

-- into the right side of a process, with slots of its own
abbrev pub CallDown : List ℕ → List ℕ → List ℕ → Node → Spot → List ℕ → Option Spot → List ℕ → Type 0
CallDown cells starts firsts d s slots r slots' = (counts vars conds calls : List ℕ) → Views cells s.at d → d.kind ≡ call_kind
    → (H : Sheet) (F : ℕ) (hs : List Summand) → Ready H F cells starts counts firsts → Spotted H F cells s (arrays slots vars conds calls) hs
    → MatchOption r (Beyond hs) (λ t. Spotted H F cells t (arrays slots' vars conds calls) hs × (t.nv ≡ s.nv) × (t.lc ≡ s.lc) × (t.top ≡ s.top))

-- bounds are kept
abbrev pub Stays : Spot → Spot → Type 0
Stays s r = (lk ls : ℕ) → Bound lk ls s → Bound lk ls r

-- the byte of an action, from its number in the cells
unfoldable pub act_code : ℕ → ℕ
act_code zero = tau_code
act_code (suc a) = a % byte_limit

-- Summands written one behind another, up to the place that is returned; or they have not the limits, or there is no room for them.
abbrev pub SummandsOut : List Summand → ℕ → List ℕ → Result ℕ Refusal → List ℕ → Type 0
SummandsOut hs w o r o' =
    MatchResult r (λ v. Every SummandFits hs × Adds (all encode_summand hs) w o v o')
    (λ e. Every SummandFits hs → (e ≡ NoRoom) × (length o < w + length (all encode_summand hs)))

-- the heads at s written, and its context kept
abbrev pub Written : List ℕ → List ℕ → List ℕ → List ℕ → Spot → Arrays → ℕ → List ℕ → Result ℕ Refusal → Arrays → List ℕ → Type 0
Written cells starts counts firsts s A w o r B o' = (H : Sheet) (F : ℕ) (hs : List Summand) → Ready H F cells starts counts firsts → Spotted H F cells s A hs
    → SummandsOut hs w o r o' × OnOk r (Kept s A B)

-- an action's head, whatever stands in the other arrays
abbrev pub Emits : List ℕ → Spot → Arrays → ℕ → List ℕ → Result ℕ Refusal → List ℕ → Type 0
Emits cells s A w o r o' = (starts counts firsts : List ℕ) → Written cells starts counts firsts s A w o r A o'
