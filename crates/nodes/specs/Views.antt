-- What the readers of nodes say: for every term whose cells stand at a place, what its first node is and where the rest stands.
use Rattle.std.specs.Prelude.{◌≡◌, List, ◌∷◌, ◌++◌, Bool, ℕ, ◌+◌, ◌≤◌, ◌<◌, length, drop}
use Rattle.pcrl.specs.Sheet.{Data, Proc}
use Rattle.pcrl.specs.Parts.{new_count}
use Rattle.nodes.specs.declared.Datum.{Datum}
use Rattle.nodes.specs.declared.Node.{Node}
use Rattle.nodes.specs.declared.Skipped.{Skipped}
use Rattle.nodes.specs.Layout.{cell_limit, enc_datas, Item, enc, encs}
use Rattle.nodes.specs.Nodes.{data_tag, data_number, data_kids, kind_of, node_own, node_number, node_datas, node_kids}

-- bounds, whatever stands there
pub record OnData (at : ℕ) (n : Datum) : Type 0 where
  pub on : at + 1 ≤ n.next
  pub near : n.next ≤ at + 2
  pub number_small : n.number < cell_limit
  pub kids_few : n.kids < cell_limit

pub record OpenedData (cells : List ℕ) (d : Data) (ds : List Data) (rest : List ℕ) (n : Datum) : Type 0 where
  pub tag_is : n.tag ≡ data_tag d
  pub number_is : n.number ≡ data_number d
  pub kids_is : n.kids ≡ length (data_kids d)
  pub next_is : drop n.next cells ≡ enc_datas (data_kids d ++ ds) ++ rest

abbrev pub DataViews : List ℕ → ℕ → Datum → Type 0
DataViews cells at n = (d : Data) (ds : List Data) (rest : List ℕ) → drop at cells ≡ enc_datas (d ∷ ds) ++ rest → OpenedData cells d ds rest n

-- the place after n data terms
abbrev pub SkipsData : List ℕ → ℕ → ℕ → ℕ → Type 0
SkipsData cells at n r = (ds : List Data) (rest : List ℕ) → length ds ≡ n → drop at cells ≡ enc_datas ds ++ rest → drop r cells ≡ rest

pub record On (at : ℕ) (n : Node) : Type 0 where
  pub on : at + 3 ≤ n.next
  pub terms_at : n.terms ≡ at + 3
  pub kids_few : n.kids < 4
  pub own_small : n.own < 2
  pub number_small : n.number < cell_limit
  pub datas_few : n.datas < cell_limit

pub record Opened (cells : List ℕ) (b : Bool) (p : Proc) (xs : List Item) (rest : List ℕ) (n : Node) : Type 0 where
  pub kind_is : n.kind ≡ kind_of p
  pub own_is : n.own ≡ node_own b p
  pub number_is : n.number ≡ node_number p
  pub datas_is : n.datas ≡ length (node_datas p)
  pub terms_are : drop n.terms cells ≡ enc_datas (node_datas p) ++ (encs (node_kids b p ++ xs) ++ rest)
  pub kids_is : n.kids ≡ length (node_kids b p)
  pub next_is : drop n.next cells ≡ encs (node_kids b p ++ xs) ++ rest

abbrev pub Views : List ℕ → ℕ → Node → Type 0
Views cells at n = (b : Bool) (p : Proc) (xs : List Item) (rest : List ℕ) → drop at cells ≡ encs ((b, p) ∷ xs) ++ rest → Opened cells b p xs rest n

-- the place after a term, and how many new equations it has
abbrev pub Skips : List ℕ → ℕ → Skipped → Type 0
Skips cells at r = (b : Bool) (p : Proc) (rest : List ℕ) → drop at cells ≡ enc b p ++ rest → (r.own ≡ new_count b p) × (drop r.next cells ≡ rest)
