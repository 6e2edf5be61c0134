-- The next cell of the raw tree: a tag is its number, a name's cell stands for its name, a numeral's for its value.
use mathlib.Core.Path.{◌≡◌, refl, sym, ap, ◌∙◌}
use mathlib.Core.Bool.{Bool, true, false}
use mathlib.Core.List.{List, [], ◌∷◌, map}
use Prim.Native.Nat.{ℕ, suc, ◌+◌, ◌-◌, ◌≤◌, ◌<◌}
use native.Mathlib.Decide.{dec_lt}
use native.Mathlib.Numerals.{add-one}
use native.Mathlib.Omega.{arith}
use borrow.Author.Tests.{ltb-true, ltb-false}
use lib.Dec.{ltb}
use lib.ListN.{length, drop, get_or, drop_of_length-le, length-map}
use lib.Seq.{drop-cons}
use Rattle.pcrl.specs.Tokens.{Token, name, numeral, sign}
use Rattle.laws.specs.Lists.{map_drop}
use Rattle.lexer.specs.Cells.{cell_token, spelling, first_name, first_numeral}
use Rattle.parser.specs.Cells.{Symbol, tag, token, ors, ands, first_token, first_ors, first_ands, symbol_of}
use Rattle.names.specs.NameCells.{name_at}
use Rattle.names.specs.Standing.{symbols}
use Rattle.names.proofs.Symbols.{tag_cell}

-- a symbol stands at `at`, and others behind it
pub record Next (s raw : List ℕ) (at : ℕ) (y : Symbol) (l : List Symbol) : Type 0 where
  pub inside : at < length raw
  pub is : symbol_of s (get_or raw at 0) ≡ y
  pub behind : drop (at + 1) (symbols s raw) ≡ l

pub next : (s raw : List ℕ) (at : ℕ) (y : Symbol) (l : List Symbol) → drop at (symbols s raw) ≡ y ∷ l → Next s raw at y l
unfolding symbols
next s raw at y l e = by (dec_lt at (length raw))
  where
    by : Dec (at < length raw) → Next s raw at y l
    by (yes h) =
        let f : symbol_of s (get_or raw at 0) ∷ drop (at + 1) (map (symbol_of s) raw) ≡ y ∷ l = ap (λ k. symbol_of s (get_or raw at 0) ∷ drop k (map (symbol_of s) raw)) (add-one at)
        ∙ ap (λ k. symbol_of s (get_or raw at 0) ∷ k) (map_drop (symbol_of s) (suc at) raw) ∙ ap (map (symbol_of s)) (sym (drop-cons raw at 0 h)) ∙ sym (map_drop (symbol_of s) at raw) ∙ e in
        record { inside = h; is = cc; behind = cc }
    by (no h) =
        let z : [] ≡ y ∷ l = sym (drop_of_length-le (map (symbol_of s) raw) {i = at} (let q = length-map raw (symbol_of s) in omega arith)) ∙ e in
        let q : ◌≡◌ {A = ℕ} 0 1 = cc in
        absurd (omega arith)

-- a cell by the tests of what it is
abbrev by_tests : ℕ → Symbol → Bool → Bool → Bool → Symbol
by_tests c x t o a = elim t [ true ↦ tag c | false ↦ elim o [ true ↦ x | false ↦ elim a [ true ↦ ors (c - first_ors) | false ↦ ands (c - first_ands) ] ] ]

token_is : (s : List ℕ) (c : ℕ) (t : Token) → symbol_of s c ≡ token t → cell_token s c ≡ t
unfolding symbol_of
token_is s c t = by (ltb c first_token) (ltb c first_ors) (ltb c first_ands)
  where
    by : (b o a : Bool) → by_tests c (token (cell_token s c)) b o a ≡ token t → cell_token s c ≡ t
    by true o a e = let z : ◌≡◌ {A = ℕ} 0 1 = cc in absurd (omega arith)
    by false true a e = cc
    by false false true e = let z : ◌≡◌ {A = ℕ} 0 1 = cc in absurd (omega arith)
    by false false false e = let z : ◌≡◌ {A = ℕ} 0 1 = cc in absurd (omega arith)

-- a count of operands
pub record CountCell (c first k : ℕ) : Type 0 where
  pub least : first ≤ c
  pub count : k ≡ c - first

pub ors_is : (s : List ℕ) (c k : ℕ) → symbol_of s c ≡ ors k → CountCell c first_ors k × (c < first_ands)
unfolding symbol_of
ors_is s c k = by (ltb c first_token) (ltb c first_ors) refl (ltb c first_ands) refl
  where
    by : (b o : Bool) → ltb c first_ors ≡ o → (a : Bool) → ltb c first_ands ≡ a → by_tests c (token (cell_token s c)) b o a ≡ ors k → CountCell c first_ors k × (c < first_ands)
    by true o p a q e = let z : ◌≡◌ {A = ℕ} 0 1 = cc in absurd (omega arith)
    by false true p a q e = let z : ◌≡◌ {A = ℕ} 0 1 = cc in absurd (omega arith)
    by false false p true q e = (record { least = ltb-false c first_ors p; count = cc }, ltb-true c first_ands q)
    by false false p false q e = let z : ◌≡◌ {A = ℕ} 0 1 = cc in absurd (omega arith)

pub ands_is : (s : List ℕ) (c k : ℕ) → symbol_of s c ≡ ands k → CountCell c first_ands k
unfolding symbol_of
ands_is s c k = by (ltb c first_token) (ltb c first_ors) (ltb c first_ands) refl
  where
    by : (b o a : Bool) → ltb c first_ands ≡ a → by_tests c (token (cell_token s c)) b o a ≡ ands k → CountCell c first_ands k
    by true o a q e = let z : ◌≡◌ {A = ℕ} 0 1 = cc in absurd (omega arith)
    by false true a q e = let z : ◌≡◌ {A = ℕ} 0 1 = cc in absurd (omega arith)
    by false false true q e = let z : ◌≡◌ {A = ℕ} 0 1 = cc in absurd (omega arith)
    by false false false q e = record { least = ltb-false c first_ands q; count = cc }

pub record NumeralCell (c v : ℕ) : Type 0 where
  pub least : first_numeral ≤ c
  pub most : c < first_name
  pub value : v ≡ c - first_numeral

pub numeral_is : (s : List ℕ) (c v : ℕ) → symbol_of s c ≡ token (numeral v) → NumeralCell c v
unfolding cell_token name_at
numeral_is s c v e = by (ltb c first_numeral) refl (ltb c first_name) refl (token_is s c (numeral v) e)
  where
    by : (a : Bool) → ltb c first_numeral ≡ a → (b : Bool) → ltb c first_name ≡ b
        → elim a as (λ (y : Bool). Token) [ true ↦ sign (spelling c) | false ↦ elim b as (λ (y : Bool). Token) [ true ↦ numeral (c - first_numeral) | false ↦ name (name_at s c) ] ] ≡ numeral v
        → NumeralCell c v
    by true p b q f = let z : ◌≡◌ {A = ℕ} 0 1 = cc in absurd (omega arith)
    by false p true q f = record { least = ltb-false c first_numeral p; most = ltb-true c first_name q; value = cc }
    by false p false q f = let z : ◌≡◌ {A = ℕ} 0 1 = cc in absurd (omega arith)

-- a tag and a token
pub record Pair (s raw : List ℕ) (at k : ℕ) (t : Token) (l : List Symbol) : Type 0 where
  pub inside : at + 2 ≤ length raw
  pub tag_cell : get_or raw at 0 ≡ k
  pub token_cell : symbol_of s (get_or raw (at + 1) 0) ≡ token t
  pub behind : drop (at + 2) (symbols s raw) ≡ l

pub pair : (s raw : List ℕ) (at k : ℕ) (t : Token) (l : List Symbol) → drop at (symbols s raw) ≡ tag k ∷ token t ∷ l → Pair s raw at k t l
pair s raw at k t l e =
    let a = next s raw at (tag k) (token t ∷ l) e in
    let b = next s raw (at + 1) (token t) l a.behind in
    let i = b.inside in
    let q : at + 2 ≡ at + 1 + 1 = omega arith in
    record {
      inside = omega arith;
      tag_cell = tag_cell s (get_or raw at 0) k a.is;
      token_cell = b.is;
      behind = ap (λ i. drop i (symbols s raw)) q ∙ b.behind;
    }

pub first_tag : (s raw : List ℕ) (at k : ℕ) (l : List Symbol) → drop at (symbols s raw) ≡ tag k ∷ l → get_or raw at 0 ≡ k
first_tag s raw at k l e = tag_cell s (get_or raw at 0) k (next s raw at (tag k) l e).is
