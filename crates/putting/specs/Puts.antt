-- What is written of data terms with terms put for their variables.
use Rattle.std.specs.Prelude.{◌≡◌, List, [], ◌∷◌, ◌++◌, map, Option, MatchOption, ℕ, ◌+◌, ◌≤◌, ◌*◌, ◌<◌, length, drop, take}
use Rattle.pcrl.specs.Limits.{max_nodes}
use Rattle.pcrl.specs.Tests.{Every}
use Rattle.pcrl.specs.Reader.{all}
use Rattle.pcrl.specs.Sheet.{Data, val, var, app, operation}
use Rattle.pcrl.specs.Values.{put_data}
use Rattle.pcrl.specs.Table.{nodes}
use Rattle.pcrl.specs.Stream.{codes, encode_data}
use Rattle.pcrl.specs.Right.{Small}
use Rattle.pcrl.specs.Heads.{look}
use Rattle.nodes.specs.Layout.{enc_data, enc_datas}
use Rattle.nodes.specs.Nodes.{data_tag, data_number}
use Rattle.putting.specs.declared.Share.{Share}
use Rattle.putting.specs.declared.TermPut.{TermPut}
use Rattle.putting.specs.Slots.{slot_width, Slot, Slots, Writable, Adds}

-- what the first node of a term comes to: a variable is its term
unfoldable pub node_nodes : List Data → Data → ℕ
node_nodes σ (val v) = 1
node_nodes σ (var i) = nodes (look σ i)
node_nodes σ (app f ds) = 1

unfoldable pub node_bytes : List Data → Data → List ℕ
node_bytes σ (val v) = v ∷ []
node_bytes σ (var i) = encode_data (look σ i)
node_bytes σ (app f ds) = codes (operation f)

-- how much a node comes to
abbrev pub Shares : List ℕ → ℕ → ℕ → ℕ → Share → Type 0
Shares slots n tag number r = (d : Data) (σ : List Data) → tag ≡ data_tag d → number ≡ data_number d → Slots σ slots n → Writable n d
    → (r.nodes ≤ max_nodes → (r.nodes ≡ node_nodes σ d) × (r.bytes ≡ length (node_bytes σ d))) × (max_nodes < r.nodes → max_nodes < node_nodes σ d)

-- a node written, of l bytes
abbrev pub NodePut : List ℕ → ℕ → ℕ → ℕ → ℕ → ℕ → List ℕ → List ℕ → Type 0
NodePut slots n tag number l v o o' = (d : Data) (σ : List Data) → tag ≡ data_tag d → number ≡ data_number d → Slots σ slots n → Writable n d
    → node_nodes σ d ≤ max_nodes → l ≡ length (node_bytes σ d) → Adds (node_bytes σ d) v o (v + l) o'

-- Written, or the term itself has too many nodes.
abbrev pub Puts : List ℕ → ℕ → List ℕ → ℕ → ℕ → List ℕ → Option TermPut → List ℕ → Type 0
Puts cells at slots n w o r o' = (d : Data) (rest : List ℕ) (σ : List Data) → drop at cells ≡ enc_data d ++ rest → Slots σ slots n → Writable n d
    → MatchOption r (max_nodes < nodes (put_data (look σ) d))
    (λ t. (t.nodes ≡ nodes (put_data (look σ) d)) × (nodes (put_data (look σ) d) ≤ max_nodes) × Adds (encode_data (put_data (look σ) d)) w o t.w o' × (drop t.next cells ≡ rest))

-- Some terms, one behind another: written, or one of them has too many nodes.
abbrev pub PutsAll : List ℕ → ℕ → ℕ → List ℕ → ℕ → ℕ → List ℕ → Option ℕ → List ℕ → Type 0
PutsAll cells at count slots n w o r o' = (ds : List Data) (rest : List ℕ) (σ : List Data) → length ds ≡ count → drop at cells ≡ enc_datas ds ++ rest → Slots σ slots n → Every (Writable n) ds
    → MatchOption r (¬ (Every Small (map (put_data (look σ)) ds)))
    (λ v. Every Small (map (put_data (look σ)) ds) × Adds (all encode_data (map (put_data (look σ)) ds)) w o v o')

-- A term in the slot at b; r is the place behind its cells.
abbrev pub SlotPut : List ℕ → ℕ → List ℕ → ℕ → List ℕ → ℕ → ℕ → Type 0
SlotPut cells at slots n o' b r = (d : Data) (rest : List ℕ) (σ : List Data) → drop at cells ≡ enc_data d ++ rest → Slots σ slots n → Writable n d
    → Slot (put_data (look σ) d) o' b × (drop r cells ≡ rest)

-- Some terms in slots of their own.
abbrev pub Fills : List ℕ → ℕ → ℕ → List ℕ → ℕ → List ℕ → Type 0
Fills cells at count slots n o' = (ds : List Data) (rest : List ℕ) (σ : List Data) → length ds ≡ count → drop at cells ≡ enc_datas ds ++ rest → Slots σ slots n → Every (Writable n) ds
    → Slots (map (put_data (look σ)) ds) o' count

-- A term of one byte in the next slot, those before it as they were.
abbrev pub BytePut : List ℕ → ℕ → ℕ → List ℕ → Type 0
BytePut o n x o' = ((σ : List Data) (d : Data) → nodes d ≡ 1 → encode_data d ≡ x ∷ [] → Slots σ o n → Slots (σ ++ (d ∷ [])) o' (n + 1)) × (take (slot_width * n) o' ≡ take (slot_width * n) o)
