-- What `fire` answers: step k of one equation, the frames of its calls in lent bytes.
use Rattle.std.specs.Prelude.{◌≡◌, List, ◌∷◌, ◌++◌, ℕ, ◌≤◌, length, take, drop, Result, Ok, Err, IfOk}
use Rattle.std.proofs.Math.Option.{Option, none, some}
use Rattle.std.proofs.Math.Decide.{ℕ_discrete}
use Rattle.pcrl.specs.Limits.{max_arity, max_calls, frame_width}
use Rattle.pcrl.specs.Tests.{Every}
use Rattle.pcrl.specs.Reader.{all}
use Rattle.pcrl.specs.Sheet.{Act, tau, action, Sig}
use Rattle.pcrl.specs.Stream.{tau_code}
use Rattle.pcrl.specs.Table.{Table, equation}
use Rattle.pcrl.specs.Label.{Label, label}
use Rattle.pcrl.specs.Stack.{Frame}
use Rattle.pcrl.specs.Steps.{fired}
use Rattle.firing.specs.declared.Fired.{Fired}

-- "action (hex FF for tau)"
unfoldable pub act_of : ℕ → Act
act_of b = elim (ℕ_discrete b tau_code) [ yes e ↦ tau | no h ↦ action b ]

-- a frame in bytes: equation and values
unfoldable pub frame_bytes : Frame → List ℕ
frame_bytes f = f.number ∷ f.values

-- The steps of equation e where its parameters are worth vs, "listed by summand, then by values": labels, and the frames of the calls.
unfoldable pub listing : Table → ℕ → List ℕ → List (Label × List Frame)
listing T e vs = all (fired frame_width T.sig vs) (equation T e).summands

-- what holds of the answer whatever the stream
pub record InBounds (r : Result Fired ℕ) (before after : List ℕ) : Type 0 where
  pub few_calls : IfOk r (λ f. f.calls ≤ max_calls)
  pub few_values : IfOk r (λ f. f.arity ≤ max_arity)
  pub as_long : length after ≡ length before

-- the answer says the label l and the frames fs, which stand at the front of the lent bytes
pub record Gives (S : Sig) (l : Label) (fs : List Frame) (r : Fired) (before after : List ℕ) : Type 0 where
  pub label_is : l ≡ label S (act_of r.action) (take r.arity r.values)
  pub calls_are : r.calls ≡ length fs
  pub frames_are : after ≡ all frame_bytes fs ++ drop (length (all frame_bytes fs)) before
  pub wide : Every (λ (f : Frame). length f.values ≡ frame_width) fs

-- o: the step asked for, if there is one; n: how many there are
unfoldable pub Fires : Sig → Option (Label × List Frame) → ℕ → Result Fired ℕ → List ℕ → List ℕ → Type 0
Fires S none n (Err passed) before after = (passed ≡ n) × (after ≡ before)
Fires S (some x) n (Ok r) before after = Gives S x.0 x.1 r before after
Fires S none n (Ok r) before after = ⊥
Fires S (some x) n (Err passed) before after = ⊥
