-- The node that stands next in a term, where a sort is expected.
use Rattle.std.specs.Prelude.{◌≡◌, List, ℕ}
use Rattle.pcrl.specs.Reader.{found}
use Rattle.pcrl.specs.Sheet.{Sig}
use Rattle.pcrl.specs.Decode.{Node, read_node, Fits}

-- it is one, and it may stand where the sort D is expected
pub record NextFits (S : Sig) (Γ : List ℕ) (D : ℕ) (xs : List ℕ) : Type 0 where
  pub node : Node
  pub rest : List ℕ
  pub next : read_node xs ≡ found node rest
  pub fits : Fits S Γ D node
