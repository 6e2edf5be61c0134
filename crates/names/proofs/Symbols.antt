-- What a cell is where a symbol stands: a tag is itself, a numeral 256 more than its value, a name's cell has the name.
use mathlib.Core.Path.{◌≡◌, refl}
use mathlib.Core.List.{List, [], ◌∷◌, map}
use mathlib.Core.Bool.{Bool, true, false}
use Prim.Native.Nat.{ℕ, zero, suc, ◌+◌, ◌-◌}
use native.Mathlib.Numerals.{add-one}
use native.Mathlib.Omega.{arith}
use lib.Dec.{ltb}
use lib.ListN.{drop, get_or}
use borrow.Author.Tests.{ltb-false}
use Rattle.pcrl.specs.Bytes.{name_byte}
use Rattle.pcrl.specs.Tokens.{name, numeral, sign, front}
use Rattle.pcrl.specs.Tree.{Name}
use Rattle.lexer.specs.Cells.{first_numeral, first_name, spelling, cell_token}
use Rattle.parser.specs.Cells.{Symbol, tag, token, ors, ands, first_token, first_ors, first_ands, symbol_of}
use Rattle.names.specs.NameCells.{name_at}
use Rattle.names.specs.Standing.{symbols}

-- what a cell is by the tests below the counts of operands
abbrev or_operands : ℕ → Bool → Bool → Symbol → Symbol
or_operands c o a x = elim o [ true ↦ x | false ↦ elim a [ true ↦ ors (c - first_ors) | false ↦ ands (c - first_ands) ] ]

-- a cell's symbol by its tests
abbrev by_tests : List ℕ → ℕ → Bool → Bool → Bool → Bool → Bool → Symbol
by_tests s c t o a n m =
    elim t [
      | true ↦ tag c
      | false ↦ or_operands c o a (token (elim n [ true ↦ sign (spelling c) | false ↦ elim m [ true ↦ numeral (c - first_numeral) | false ↦ name (front name_byte (drop (c - first_name) s)) ] ]))
    ]

pub tag_cell : (s : List ℕ) (c t : ℕ) → symbol_of s c ≡ tag t → c ≡ t
unfolding symbol_of
tag_cell s c t = go (ltb c first_token) (ltb c first_ors) (ltb c first_ands)
  where
    go : (b o a : Bool) → elim b [ true ↦ tag c | false ↦ or_operands c o a (token (cell_token s c)) ] ≡ tag t → c ≡ t
    go true o a e = cc
    go false true a e = cc
    go false false true e = cc
    go false false false e = cc

pub numeral_cell : (s : List ℕ) (c v : ℕ) → symbol_of s c ≡ token (numeral v) → c ≡ first_numeral + v
unfolding symbol_of cell_token
numeral_cell s c v = go (ltb c first_token) (ltb c first_ors) (ltb c first_ands) (ltb c first_numeral) (ltb c first_name) refl
  where
    go : (t o a n m : Bool) → ltb c first_numeral ≡ n → by_tests s c t o a n m ≡ token (numeral v) → c ≡ first_numeral + v
    go true o a n m h e = cc
    go false true a true m h e = cc
    go false true a false true h e = let z : c - first_numeral ≡ v = cc in let l = ltb-false c first_numeral h in omega arith
    go false true a false false h e = cc
    go false false true n m h e = cc
    go false false false n m h e = cc

pub name_of_cell : (s : List ℕ) (c : ℕ) (x : Name) → symbol_of s c ≡ token (name x) → name_at s c ≡ x
unfolding symbol_of cell_token name_at
name_of_cell s c x = go (ltb c first_token) (ltb c first_ors) (ltb c first_ands) (ltb c first_numeral) (ltb c first_name)
  where
    go : (t o a n m : Bool) → by_tests s c t o a n m ≡ token (name x) → front name_byte (drop (c - first_name) s) ≡ x
    go true o a n m e = cc
    go false true a true m e = cc
    go false true a false true e = cc
    go false true a false false e = cc
    go false false true n m e = cc
    go false false false n m e = cc

-- the symbol at the front is that of the cell there
first_symbol : {A : Type 0} (f : ℕ → A) (cells : List ℕ) (p : ℕ) (x : A) (rest : List A) → drop p (map f cells) ≡ x ∷ rest
    → (f (get_or cells p 0) ≡ x) × (drop (suc p) (map f cells) ≡ rest)
first_symbol f [] zero x rest e = (cc, cc)
first_symbol f [] (suc p) x rest e = (cc, cc)
first_symbol f (c ∷ cells) zero x rest e = (cc, cc)
first_symbol f (c ∷ cells) (suc p) x rest e = first_symbol f cells p x rest e

module _ (s cells : List ℕ) where
  pub symbol_at : (p : ℕ) (x : Symbol) (rest : List Symbol) → drop p (symbols s cells) ≡ x ∷ rest → symbol_of s (get_or cells p 0) ≡ x
  unfolding symbols
  symbol_at p x rest e = (first_symbol (symbol_of s) cells p x rest e).0

  pub symbols_behind : (p q : ℕ) (x : Symbol) (rest : List Symbol) → q ≡ p + 1 → drop p (symbols s cells) ≡ x ∷ rest → drop q (symbols s cells) ≡ rest
  unfolding symbols
  symbols_behind p q x rest h e = rw (h, add-one p) (first_symbol (symbol_of s) cells p x rest e).1

  pub tag_at : (p t : ℕ) (rest : List Symbol) → drop p (symbols s cells) ≡ tag t ∷ rest → get_or cells p 0 ≡ t
  tag_at p t rest e = tag_cell s (get_or cells p 0) t (symbol_at p (tag t) rest e)

  pub numeral_is : (p v : ℕ) (rest : List Symbol) → drop p (symbols s cells) ≡ token (numeral v) ∷ rest → get_or cells p 0 ≡ first_numeral + v
  numeral_is p v rest e = numeral_cell s (get_or cells p 0) v (symbol_at p (token (numeral v)) rest e)

  pub name_is : (p : ℕ) (x : Name) (rest : List Symbol) → drop p (symbols s cells) ≡ token (name x) ∷ rest → name_at s (get_or cells p 0) ≡ x
  name_is p x rest e = name_of_cell s (get_or cells p 0) x (symbol_at p (token (name x)) rest e)
