-- What is written of the calls that stand after a first part.
use Rattle.std.specs.Prelude.{◌≡◌, List, ◌++◌, Bool, true, Option, MatchOption, ℕ, ◌+◌, ◌*◌, ◌≤◌, ◌<◌, length, drop}
use Rattle.pcrl.specs.Limits.{max_calls, frame_width}
use Rattle.pcrl.specs.Tests.{Every}
use Rattle.pcrl.specs.Reader.{all}
use Rattle.pcrl.specs.Sheet.{Data, Proc, Sheet}
use Rattle.pcrl.specs.Parts.{marked, new_count}
use Rattle.pcrl.specs.Stream.{encode_data, encode_call}
use Rattle.pcrl.specs.Right.{Small}
use Rattle.pcrl.specs.Heads.{calls_of}
use Rattle.nodes.specs.Layout.{byte_limit, seq_kind, enc}
use Rattle.nodes.specs.Nodes.{kind_of}
use Rattle.laws.specs.TermLength.{max_term}
use Rattle.putting.specs.Slots.{slot_width, Slot, Slots, Adds}
use Rattle.marking.specs.Marks.{bits}
use Rattle.following.specs.declared.Calls.{Calls}
use Rattle.following.specs.declared.Pushed.{Pushed}
use Rattle.following.specs.Fine.{Fine, Few}

-- the most bytes of a call: its equation, and a term for each parameter that an equation may have
abbrev pub call_bytes : ℕ
call_bytes = 1 + frame_width * max_term

abbrev pub calls_room : ℕ
calls_room = max_calls * call_bytes

-- the terms of a call: small ones, and no more than an equation may have parameters
abbrev pub TermsSmall : List Data → Type 0
TermsSmall ds = Every Small ds × (length ds ≤ frame_width)

abbrev pub CallSmall : ℕ × List Data → Type 0
CallSmall c = TermsSmall c.1

-- the term of a slot
abbrev pub OnePut : List ℕ → ℕ → ℕ → List ℕ → Option ℕ → List ℕ → Type 0
OnePut slots i w o r o' = (d : Data) → Slot d slots (slot_width * i)
    → MatchOption r (¬ (Small d)) (λ v. Small d × Adds (encode_data d) w o v o')

-- the terms of the marked slots
abbrev pub MarkedPut : ℕ → List ℕ → ℕ → ℕ → List ℕ → Option ℕ → List ℕ → Type 0
MarkedPut m slots n w o r o' = (σ : List Data) → Slots σ slots n
    → MatchOption r (¬ (TermsSmall (marked (bits n m) σ)))
    (λ v. TermsSmall (marked (bits n m) σ) × Adds (all encode_data (marked (bits n m) σ)) w o v o')

-- one part's call
abbrev pub CallPut : List ℕ → ℕ → ℕ → List ℕ → ℕ → ℕ → List ℕ → Option ℕ → List ℕ → Type 0
CallPut cells at c slots n w o r o' = (H : Sheet) (b : Bool) (p : Proc) (rest : List ℕ) (σ : List Data) → Few H → drop at cells ≡ enc b p ++ rest → (kind_of p ≡ seq_kind → ⊥) → Slots σ slots n → Fine H n p
    → MatchOption r (¬ (Every CallSmall (calls_of σ c p)))
    (λ v. Every CallSmall (calls_of σ c p) × Adds (all encode_call (calls_of σ c p)) w o v o')

-- all calls, at most so many
abbrev pub CallsPut : List ℕ → ℕ → ℕ → List ℕ → ℕ → ℕ → ℕ → List ℕ → Option Calls → List ℕ → Type 0
CallsPut cells at c slots n most w o r o' = (H : Sheet) (q : Proc) (rest : List ℕ) (σ : List Data) → Few H → drop at cells ≡ enc true q ++ rest → Slots σ slots n → Fine H n q → c + new_count true q < byte_limit
    → MatchOption r (length (calls_of σ c q) ≤ most → ¬ (Every CallSmall (calls_of σ c q)))
    (λ t. (length (calls_of σ c q) ≡ t.n) × Every CallSmall (calls_of σ c q) × Adds (all encode_call (calls_of σ c q)) w o t.w o')

-- the calls come to stand before those that are there already, of which there are nk
abbrev pub Pushes : List ℕ → ℕ → ℕ → List ℕ → ℕ → ℕ → List ℕ → ℕ → Option Pushed → List ℕ → Type 0
Pushes cells at c slots n nk o top r o' = (H : Sheet) (q : Proc) (rest : List ℕ) (σ : List Data) → Few H → drop at cells ≡ enc true q ++ rest → Slots σ slots n → Fine H n q → c + new_count true q < byte_limit
    → MatchOption r (length (calls_of σ c q) + nk ≤ max_calls → ¬ (Every CallSmall (calls_of σ c q)))
    (λ t. (length (calls_of σ c q) + nk ≡ t.n) × Every CallSmall (calls_of σ c q) × (drop t.top o' ≡ all encode_call (calls_of σ c q) ++ drop top o))
