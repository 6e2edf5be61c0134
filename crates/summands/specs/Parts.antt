-- The parts of a summand that stand behind its variables.
use Rattle.std.specs.Prelude.{List, ℕ}
use Rattle.pcrl.specs.Limits.{max_conditions, max_calls}
use Rattle.pcrl.specs.Tests.{at_most?}
use Rattle.pcrl.specs.Reader.{Reader, pair, each, counted}
use Rattle.pcrl.specs.Sheet.{Data, Act, Sig, takes_of}
use Rattle.pcrl.specs.Decode.{read_term, read_act, read_cond, read_call}

-- an action and a term for each of its sorts
unfoldable pub read_label : Sig → List ℕ → Reader ℕ (Act × List Data)
read_label S Γ = pair (read_act S) (λ a. each (read_term S Γ) (takes_of S a))

-- conditions, label, calls
unfoldable pub read_body : Sig → List (List ℕ) → List ℕ → Reader ℕ (List (ℕ × Data) × (Act × (List Data × List (ℕ × List Data))))
read_body S Ps Γ =
    pair (counted (at_most? max_conditions) (read_cond S Γ)) (λ cs.
    pair (read_act S) (λ a.
    pair (each (read_term S Γ) (takes_of S a)) (λ ts.
    counted (at_most? max_calls) (read_call S Ps Γ))))
