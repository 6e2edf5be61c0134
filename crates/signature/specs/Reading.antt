-- A signature that is read from the start of a stream, and where its functions and actions stand.
use Rattle.std.specs.Prelude.{◌≡◌, List, map, Bool, true, false, ℕ, ◌+◌, get_or, take, drop}
use Rattle.std.specs.Prelude as R
use Rattle.std.proofs.Math.Option.{Option, none, some}
use Rattle.pcrl.specs.Text.{bytes}
use Rattle.pcrl.specs.Reader.{missing, found}
use Rattle.pcrl.specs.Sheet.{Sig}
use Rattle.pcrl.specs.Table.{Layout}
use Rattle.pcrl.specs.Decode.{read_all_sorts, layout_by, names_by, read_sig}
use Rattle.signature.specs.declared.SortList.{SortList}
use Rattle.terms.specs.Stands.{list_at, KnownData, KnownActs}

-- "Bool first": a sort of size 2 that is named Bool stands at a place
abbrev pub BoolAt : List ℕ → ℕ → Type 0
BoolAt s at = (get_or s at 0 ≡ 2) × (list_at s (at + 1) ≡ bytes "Bool")

-- the names that stand one byte behind places, if names stand in the stream
unfoldable pub names_there : Bool → List ℕ → List ℕ → Option (List (List ℕ))
names_there true s places = some (map (λ p. list_at s (p + 1)) places)
names_there false s places = none

-- the sorts: their sizes and where each stands in front of the arrays, whether their names stand there, and where they end
abbrev pub SortsRead : List ℕ → List ℕ → List ℕ → R.Option SortList → Type 0
SortsRead s sizes sorts (R.Some r) = read_all_sorts s ≡ found (take r.count sizes, names_there r.named s (take r.count sorts)) (drop r.at s)
SortsRead s sizes sorts R.None = read_all_sorts s ≡ missing

-- the signature that ends at a place, with the names o of its sorts, if they stand in the stream
pub record SigAt (L : Layout) (S : Sig) (o : Option (List (List ℕ))) (s : List ℕ) (end : ℕ) (sizes funcs acts : List ℕ) : Type 0 where
  pub reads : read_sig s ≡ found (L, S) (drop end s)
  pub layout_is : L ≡ layout_by o
  pub names_are : S.sort_names ≡ names_by o S.sorts S.acts
  pub data_known : KnownData S s sizes funcs
  pub acts_known : KnownActs S s acts

unfoldable pub SigRead : Option (List (List ℕ)) → List ℕ → ℕ → List ℕ → List ℕ → List ℕ → Type 0
SigRead o s end sizes funcs acts = (L : Layout) × (S : Sig) × SigAt L S o s end sizes funcs acts
