-- The bytes of a signature as the arrays show them that hold it (crate nodes, Held). Numbers are put modulo 256, so that no premise stands here.
use Rattle.std.specs.Prelude.{◌≡◌, List, Option, [], ◌∷◌, ◌++◌, ℕ, zero, suc, ◌+◌, ◌-◌, ◌*◌, ◌%◌, ◌≤◌, ◌<◌, length, get_or}
use Rattle.pcrl.specs.Limits.{max_name}
use Rattle.pcrl.specs.Text.{bytes}
use Rattle.pcrl.specs.Tests.{Every}
use Rattle.pcrl.specs.Tree.{Name}
use Rattle.pcrl.specs.Lists.{tabulate}
use Rattle.pcrl.specs.Blocks.{concatenated}
use Rattle.pcrl.specs.Sheet.{Action, Sig, no_action}
use Rattle.pcrl.specs.Table.{with_names}
use Rattle.pcrl.specs.Stream.{names_code, encode_sig}
use Rattle.pcrl.specs.Right.{RightNames}
use Rattle.nodes.specs.declared.Outline.{Outline}
use Rattle.nodes.specs.Layout.{byte_limit}
use Rattle.nodes.specs.Held.{func_width, act_width, HeldSig}
use Rattle.names.specs.NameCells.{name_at}
use Rattle.emit.specs.Putting.{Puts}

-- n elements from place a on, 0 past the end
unfoldable pub part : List ℕ → ℕ → ℕ → List ℕ
part s a n = tabulate n (λ i. get_or s (a + i) 0)

-- a row that begins with its count
unfoldable pub row_bytes : List ℕ → ℕ → List ℕ
row_bytes s p = part s p (get_or s p 0 + 1)

-- a count, and what is put for each number below it
unfoldable pub counted_bytes : ℕ → (ℕ → List ℕ) → List ℕ
counted_bytes n f = (n % byte_limit ∷ []) ++ concatenated n f

unfoldable pub name_bytes : Name → List ℕ
name_bytes x = (length x % byte_limit ∷ []) ++ x

-- the name of the sort D, where s are the sheet's bytes: "Bool first", the others by the first cells of the names
unfoldable pub sort_name_at : List ℕ → List ℕ → ℕ → Name
sort_name_at s names zero = bytes "Bool"
sort_name_at s names (suc D) = name_at s (get_or names D 0)

-- #104: "each sort a name length and name after its size"
unfoldable pub sort_bytes : List ℕ → List ℕ → List ℕ → ℕ → List ℕ
sort_bytes s sizes names D = (get_or sizes D 0 ∷ []) ++ name_bytes (sort_name_at s names D)

-- "starts with hex F2"
unfoldable pub sorts_bytes : List ℕ → List ℕ → List ℕ → ℕ → List ℕ
sorts_bytes s sizes names n = (names_code ∷ []) ++ counted_bytes n (sort_bytes s sizes names)

-- function i
unfoldable pub func_bytes : List ℕ → List ℕ → List ℕ → ℕ → List ℕ
func_bytes funcs values places i =
    row_bytes funcs (func_width * i) ++ ((get_or funcs (func_width * i + 3) 0 ∷ []) ++ part values (get_or places i 0) (get_or places (i + 1) 0 - get_or places i 0))

-- action i, where s are the sheet's bytes and the cells of the actions' names begin at place b
unfoldable pub action_bytes : List ℕ → List ℕ → List ℕ → ℕ → ℕ → List ℕ
action_bytes s acts names b i = name_bytes (name_at s (get_or names (b + i) 0)) ++ row_bytes acts (act_width * i)

-- the actions have the names of their cells, and these are short
abbrev pub NamesAt : List ℕ → List ℕ → ℕ → List Action → Type 0
NamesAt s names b as' = (i : ℕ) → i < length as' → name_at s (get_or names (b + i) 0) ≡ (get_or as' i no_action).name

abbrev pub ShortNames : List Action → Type 0
ShortNames as' = Every (λ (a : Action). length a.name ≤ max_name) as'

-- the sorts but Bool have the names of the first cells
abbrev pub SortNamesAt : List ℕ → List ℕ → List Name → Type 0
SortNamesAt s names ns = (D : ℕ) → suc D < length ns → name_at s (get_or names D 0) ≡ get_or ns (suc D) []

abbrev pub PutsSig : (s sizes funcs values places acts names : List ℕ) → ℕ → Outline → (w : ℕ) (o : List ℕ) → Option ℕ → (o' : List ℕ) → Type 0
PutsSig s sizes funcs values places acts names b n w o r o' =
    (S : Sig) → HeldSig S sizes funcs values places acts n → NamesAt s names b S.acts → ShortNames S.acts → SortNamesAt s names S.sort_names → RightNames with_names S
    → Puts (encode_sig with_names S) w o r o'
