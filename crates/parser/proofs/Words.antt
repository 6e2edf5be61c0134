-- A name or a numeral stands next, or neither does: what the definition's readers of one token find there.
use mathlib.Core.Path.{◌≡◌, sym, ap, ◌∙◌, subst}
use mathlib.Core.List.{List, ◌∷◌}
use Prim.Native.Nat.{ℕ, ◌+◌, ◌-◌, ◌≤◌, ◌<◌}
use native.Mathlib.Decide.{dec_lt}
use native.Mathlib.Omega.{arith}
use borrow.Author.Tests.{le-ltb, lt-ltb}
use lib.ListN.{length, drop, get_or}
use Rattle.pcrl.specs.Bytes.{name_byte}
use Rattle.pcrl.specs.Tokens.{Token, name, numeral, sign, front}
use Rattle.pcrl.specs.Tree.{Name}
use Rattle.pcrl.specs.Reader.{Got, missing, found, bind}
use Rattle.pcrl.specs.Grammar.{a_name, a_numeral, on_numeral}
use Rattle.laws.specs.Places.{get_or_positive}
use Rattle.lexer.specs.Cells.{spelling, cell_token}
use Rattle.parser.specs.Cells.{Symbol, token, ors, ands, first_ors, first_ands, symbol_of, enc_name, enc_numeral}
use Rattle.parser.specs.Reading.{rest, Put, Writes}
use Rattle.lexer.proofs.Cells.{cell_sign, numeral_cell, name_cell}
use Rattle.parser.proofs.Writing.{writes_cell, writes_known}
use Rattle.parser.proofs.Reading.{rest_next, rest_past}
use Rattle.parser.proofs.Reaching.{Reaches, lost, took}

-- the name of a cell
abbrev pub name_at : List ℕ → ℕ → Name
name_at s x = front name_byte (drop (x - 1024) s)

symbol_token : (s : List ℕ) (x : ℕ) → 32 ≤ x → x < first_ors → symbol_of s x ≡ token (cell_token s x)
unfolding symbol_of
symbol_token s x h l = rw (le-ltb x 32 h, lt-ltb x first_ors l, symbol_of)

pub symbol_name : (s : List ℕ) (x : ℕ) → 1024 ≤ x → x < first_ors → symbol_of s x ≡ token (name (name_at s x))
symbol_name s x h l = symbol_token s x (omega arith) l ∙ ap token (name_cell s x h)

-- counts
pub symbol_ors : (s : List ℕ) (n : ℕ) → n < first_ors → symbol_of s (first_ors + n) ≡ ors n
unfolding symbol_of
symbol_ors s n l =
    let a : 32 ≤ first_ors + n = omega arith in
    let b : first_ors ≤ first_ors + n = omega arith in
    let c : first_ors + n < first_ands = omega arith in
    let e : first_ors + n - first_ors ≡ n = omega arith in
    rw (le-ltb _ _ a, le-ltb _ _ b, lt-ltb _ _ c, symbol_of) (ap ors e)

pub symbol_ands : (s : List ℕ) (n : ℕ) → symbol_of s (first_ands + n) ≡ ands n
unfolding symbol_of
symbol_ands s n =
    let a : 32 ≤ first_ands + n = omega arith in
    let b : first_ors ≤ first_ands + n = omega arith in
    let c : first_ands ≤ first_ands + n = omega arith in
    let e : first_ands + n - first_ands ≡ n = omega arith in
    rw (le-ltb _ _ a, le-ltb _ _ b, le-ltb _ _ c, symbol_of) (ap ands e)

pub symbol_numeral : (s : List ℕ) (x : ℕ) → 256 ≤ x → x < 1024 → symbol_of s x ≡ token (numeral (x - 256))
symbol_numeral s x g h = symbol_token s x (omega arith) (omega arith) ∙ ap token (numeral_cell s x g h)

-- the cell of a name
pub writes_name : {s toks : List ℕ} (at : ℕ) {v w w' : ℕ} {o o' : List ℕ} → Put o w v w' o' → v ≡ get_or toks at 0 → 1024 ≤ get_or toks at 0 → Writes s toks (enc_name (name_at s (get_or toks at 0))) w o w' o'
writes_name {s} {toks} at p e h = writes_known p (λ few. ap (symbol_of s) e ∙ symbol_name s (get_or toks at 0) h (few.low at))

module _ (s toks : List ℕ) (at : ℕ) where
  rest_name : 1024 ≤ get_or toks at 0 → rest s toks at ≡ name (name_at s (get_or toks at 0)) ∷ rest s toks (at + 1)
  rest_name h = rest_next s toks at (get_or_positive toks at (omega arith)) ∙ ap (λ t. t ∷ rest s toks (at + 1)) (name_cell s (get_or toks at 0) h)

  rest_numeral : 256 ≤ get_or toks at 0 → get_or toks at 0 < 1024 → rest s toks at ≡ numeral (get_or toks at 0 - 256) ∷ rest s toks (at + 1)
  rest_numeral g h = rest_next s toks at (get_or_positive toks at (omega arith)) ∙ ap (λ t. t ∷ rest s toks (at + 1)) (numeral_cell s (get_or toks at 0) g h)

  rest_sign : at < length toks → get_or toks at 0 < 256 → rest s toks at ≡ sign (spelling (get_or toks at 0)) ∷ rest s toks (at + 1)
  rest_sign l h = rest_next s toks at l ∙ ap (λ t. t ∷ rest s toks (at + 1)) (cell_sign s (get_or toks at 0) h)

  pub name_next : 1024 ≤ get_or toks at 0 → a_name (rest s toks at) ≡ found (name_at s (get_or toks at 0)) (rest s toks (at + 1))
  unfolding a_name
  name_next h = ap a_name (rest_name h)

  pub name_missing : get_or toks at 0 < 1024 → a_name (rest s toks at) ≡ missing
  unfolding a_name
  name_missing h = by (dec_lt at (length toks)) (dec_lt (get_or toks at 0) 256)
    where
      by : Dec (at < length toks) → Dec (get_or toks at 0 < 256) → a_name (rest s toks at) ≡ missing
      by (yes l) (yes k) = ap a_name (rest_sign l k)
      by (yes l) (no k) = ap a_name (rest_numeral (omega arith) h)
      by (no l) d = ap a_name (rest_past s toks at (omega arith))

  pub numeral_next : 256 ≤ get_or toks at 0 → get_or toks at 0 < 1024 → a_numeral (rest s toks at) ≡ found (get_or toks at 0 - 256) (rest s toks (at + 1))
  unfolding a_numeral
  numeral_next g h = ap a_numeral (rest_numeral g h)

  pub numeral_missing_low : get_or toks at 0 < 256 → a_numeral (rest s toks at) ≡ missing
  unfolding a_numeral
  numeral_missing_low h = by (dec_lt at (length toks))
    where
      by : Dec (at < length toks) → a_numeral (rest s toks at) ≡ missing
      by (yes l) = ap a_numeral (rest_sign l h)
      by (no l) = ap a_numeral (rest_past s toks at (omega arith))

  pub numeral_missing_high : 1024 ≤ get_or toks at 0 → a_numeral (rest s toks at) ≡ missing
  unfolding a_numeral
  numeral_missing_high h = ap a_numeral (rest_name h)

  module _ {A : Type 0} (y : ℕ → List Token → Got Token A) (other : List Token → Got Token A) where
    pub on_numeral_next : 256 ≤ get_or toks at 0 → get_or toks at 0 < 1024 → on_numeral y other (rest s toks at) ≡ y (get_or toks at 0 - 256) (rest s toks (at + 1))
    unfolding on_numeral
    on_numeral_next g h = ap (on_numeral y other) (rest_numeral g h)

    pub on_numeral_high : 1024 ≤ get_or toks at 0 → on_numeral y other (rest s toks at) ≡ other (rest s toks at)
    unfolding on_numeral
    on_numeral_high h = let e = rest_name h in ap (on_numeral y other) e ∙ ap other (sym e)

    pub on_numeral_low : get_or toks at 0 < 256 → on_numeral y other (rest s toks at) ≡ other (rest s toks at)
    unfolding on_numeral
    on_numeral_low h = by (dec_lt at (length toks))
      where
        by : Dec (at < length toks) → on_numeral y other (rest s toks at) ≡ other (rest s toks at)
        by (yes l) = let e = rest_sign l h in ap (on_numeral y other) e ∙ ap other (sym e)
        by (no l) = let e = rest_past s toks at (omega arith) in ap (on_numeral y other) e ∙ ap other (sym e)

-- ---- what follows a name or a numeral
module _ (s toks : List ℕ) {A : Type 0} {enc : A → List Symbol} {w : ℕ} {o : List ℕ} {end w' : ℕ} {o' : List ℕ} (at : ℕ) where
  pub reads_at_name : (k : Name → List Token → Got Token A) → 1024 ≤ get_or toks at 0 → Reaches s toks enc w o end w' o' (k (name_at s (get_or toks at 0)) (rest s toks (at + 1)))
      → Reaches s toks enc w o end w' o' (bind (a_name (rest s toks at)) k)
  unfolding bind
  reads_at_name k h r = subst (λ g. Reaches s toks enc w o end w' o' (bind g k)) (sym (name_next s toks at h)) r

  pub reads_at_no_name : (k : Name → List Token → Got Token A) → get_or toks at 0 < 1024 → length toks < end → Reaches s toks enc w o end w' o' (bind (a_name (rest s toks at)) k)
  unfolding bind
  reads_at_no_name k h l = subst (λ g. Reaches s toks enc w o end w' o' (bind g k)) (sym (name_missing s toks at h)) (lost l)

  module _ (y : ℕ → List Token → Got Token A) (other : List Token → Got Token A) where
    pub reads_on_numeral : 256 ≤ get_or toks at 0 → get_or toks at 0 < 1024 → Reaches s toks enc w o end w' o' (y (get_or toks at 0 - 256) (rest s toks (at + 1))) → Reaches s toks enc w o end w' o' (on_numeral y other (rest s toks at))
    reads_on_numeral g h r = subst (λ g. Reaches s toks enc w o end w' o' g) (sym (on_numeral_next s toks at y other g h)) r

    pub reads_past_numeral : 1024 ≤ get_or toks at 0 → Reaches s toks enc w o end w' o' (other (rest s toks at)) → Reaches s toks enc w o end w' o' (on_numeral y other (rest s toks at))
    reads_past_numeral h r = subst (λ g. Reaches s toks enc w o end w' o' g) (sym (on_numeral_high s toks at y other h)) r

    pub reads_before_numeral : get_or toks at 0 < 256 → Reaches s toks enc w o end w' o' (other (rest s toks at)) → Reaches s toks enc w o end w' o' (on_numeral y other (rest s toks at))
    reads_before_numeral h r = subst (λ g. Reaches s toks enc w o end w' o' g) (sym (on_numeral_low s toks at y other h)) r

-- ---- what the readers of one token answer
module _ (s toks : List ℕ) (at : ℕ) {w v w' : ℕ} {o o' : List ℕ} (p : Put o w v w' o') (e : v ≡ get_or toks at 0) where
  pub reads_name : 1024 ≤ get_or toks at 0 → Reaches s toks enc_name w o (at + 1) w' o' (a_name (rest s toks at))
  reads_name h =
      let l = get_or_positive toks at (omega arith) in
      subst (λ g. Reaches s toks enc_name w o (at + 1) w' o' g) (sym (name_next s toks at h)) (took (omega arith) (writes_name at p e h))

  pub reads_numeral : 256 ≤ get_or toks at 0 → get_or toks at 0 < 1024 → Reaches s toks enc_numeral w o (at + 1) w' o' (a_numeral (rest s toks at))
  reads_numeral g h =
      let l = get_or_positive toks at (omega arith) in
      subst (λ g. Reaches s toks enc_numeral w o (at + 1) w' o' g) (sym (numeral_next s toks at g h)) (took (omega arith) (writes_cell p (ap (symbol_of s) e ∙ symbol_numeral s (get_or toks at 0) g h)))
