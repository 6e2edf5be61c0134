-- What `seek` answers: the k-th assignment of a summand's sum variables that meets its conditions.
use Rattle.std.specs.Prelude.{◌≡◌, List, ◌++◌, Bool, ℕ, ◌≤◌, length, drop}
use Rattle.pcrl.specs.Limits.{max_conditions}
use Rattle.pcrl.specs.Tests.{Every}
use Rattle.pcrl.specs.Sheet.{Data, Sig}
use Rattle.pcrl.specs.Stream.{encode_list, encode_cond}
use Rattle.pcrl.specs.Steps.{Meets}
use Rattle.pcrl.specs.Right.{RightCond}
use Rattle.laws.specs.Says.{Says}
use Rattle.assignments.specs.Places.{product, digits_of, places}
use Rattle.assignments.specs.Conditions.{env, Finds}
use Rattle.firing.specs.Known.{Valued}
use Rattle.firing.specs.declared.Sought.{Sought}

-- The conditions cs stand at a place, with `rest` behind them; assignment j gives all variables the values `whole j`, and acc says whether these meet cs.
unfoldable pub Seeks : List ℕ → List ℕ → List ℕ → ℕ → List ℕ → ℕ → ℕ → Sought → Type 0
Seeks s funcs first p sizes at k r =
    (S : Sig) (Γ rest : List ℕ) (cs : List (ℕ × Data)) (whole : ℕ → List ℕ) (acc : ℕ → Bool) → ((j : ℕ) → Valued S s funcs (env p first (digits_of sizes j)) Γ (whole j)) → ((j : ℕ) → Says (acc j) (Meets S (whole j) cs))
    → Every (RightCond S Γ) cs → length cs ≤ max_conditions → drop at s ≡ encode_list encode_cond cs ++ rest
    → Finds (places acc (product sizes) 0) k r.found × (drop r.end s ≡ rest)
