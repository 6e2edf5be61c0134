-- "no name in its data that lacks brackets", told from the tokens of the init line: a variable is a name with no bracket behind it.
use mathlib.Core.Path.{◌≡◌, refl, sym, ap, ◌∙◌}
use mathlib.Core.List.{List, [], ◌∷◌, ◌++◌, append_assoc}
use mathlib.Core.Bool.{Bool, true, false, not}
use mathlib.Core.Option.{Option, none, some}
use Prim.Native.Nat.{ℕ, ◌+◌, ◌-◌, ◌≤◌, ◌<◌}
use native.Mathlib.Omega.{arith}
use lib.ListN.{length, drop, get_or, length-append, length-drop, length-map}
use lib.Dec.{eqb}
use borrow.Author.Tests.{eq-eqb, ne_eqb}
use native.Mathlib.Decide.{ℕ_discrete, dec_lt}
use Rattle.pcrl.specs.Text.{bytes}
use Rattle.pcrl.specs.Tests.{and, same?}
use Rattle.pcrl.specs.Tokens.{Token, sign, the, is?}
use Rattle.pcrl.specs.Tree.{RawData, Conjunction, Comparison, Negation, Atom, RawDatas}
use Rattle.pcrl.specs.Grammar.{no_variable, none_in_conjunction, none_in_comparison, none_in_negation, none_in_atom, no_variables, none_in}
use Rattle.pcrl.specs.Print.{bracketed, print_data, print_conjunction, print_comparison, print_negation, print_atom, print_datas, print_given}
use Rattle.laws.specs.Places.{get_or_positive}
use Rattle.laws.specs.Booleans.{and_true, and_assoc}
use Rattle.lexer.specs.Cells.{cell_token}
use Rattle.parser.specs.Call.{opens, called, all_called}
use Rattle.parser.specs.Reading.{rest}
use Rattle.lexer.proofs.Cells.{cell_sign, numeral_cell, name_cell}
use Rattle.parser.proofs.Signs.{open_sign}
use Rattle.parser.proofs.Reading.{rest_next, rest_past}

bracket_opens : (ts : List Token) → opens (the "(" ∷ ts) ≡ true
unfolding opens is? same? ℕ_discrete
bracket_opens ts = refl

-- a sign that opens nothing
abbrev Shuts : List ℕ → Type 0
Shuts w = (ts : List Token) → opens (sign w ∷ ts) ≡ false

comma_shuts : Shuts (bytes ",")
unfolding opens is? same? ℕ_discrete
comma_shuts ts = refl

bracket_shuts : Shuts (bytes ")")
unfolding opens is? same? ℕ_discrete
bracket_shuts ts = refl

or_shuts : Shuts (bytes "\\/")
unfolding opens is? same? ℕ_discrete
or_shuts ts = refl

and_shuts : Shuts (bytes "/\\")
unfolding opens is? same? ℕ_discrete
and_shuts ts = refl

same_shuts : Shuts (bytes "==")
unfolding opens is? same? ℕ_discrete
same_shuts ts = refl

-- two of which each is followed by a sign that opens nothing
two_called : (x y : List Token) (p q : Bool) (v w : List ℕ) (r us : List Token)
    → ((k : List Token) → all_called (x ++ (sign v ∷ k)) us ≡ and p (all_called k us)) → all_called (y ++ (sign w ∷ r)) us ≡ and q (all_called r us)
    → all_called ((x ++ (sign v ∷ y)) ++ (sign w ∷ r)) us ≡ and (and p q) (all_called r us)
two_called x y p q v w r us a b =
    ap (λ ts. all_called ts us) (append_assoc x (sign v ∷ y) (sign w ∷ r)) ∙ a (y ++ (sign w ∷ r)) ∙ ap (and p) b ∙ sym (and_assoc p q (all_called r us))

-- Data before a sign that opens nothing: a name in it lacks a bracket just where a variable stands.
mutual
  unfolding all_called called print_data no_variable bracketed

  data_called : (d : RawData) (w : List ℕ) (r us : List Token) → Shuts w → all_called (print_data d ++ (sign w ∷ r)) us ≡ and (no_variable d) (all_called r us)
  data_called (RawData.only c) w r us e = conjunction_called c w r us e
  data_called (RawData.or c d) w r us e = two_called (print_conjunction c) (print_data d) (none_in_conjunction c) (no_variable d) (bytes "\\/") w r us (λ k. conjunction_called c (bytes "\\/") k us or_shuts) (data_called d w r us e)

  conjunction_called : (c : Conjunction) (w : List ℕ) (r us : List Token) → Shuts w → all_called (print_conjunction c ++ (sign w ∷ r)) us ≡ and (none_in_conjunction c) (all_called r us)
  conjunction_called (Conjunction.single c) w r us e = comparison_called c w r us e
  conjunction_called (Conjunction.and c d) w r us e = two_called (print_comparison c) (print_conjunction d) (none_in_comparison c) (none_in_conjunction d) (bytes "/\\") w r us (λ k. comparison_called c (bytes "/\\") k us and_shuts) (conjunction_called d w r us e)

  comparison_called : (c : Comparison) (w : List ℕ) (r us : List Token) → Shuts w → all_called (print_comparison c ++ (sign w ∷ r)) us ≡ and (none_in_comparison c) (all_called r us)
  comparison_called (Comparison.plain a) w r us e = negation_called a w r us e
  comparison_called (Comparison.equal a b) w r us e = two_called (print_negation a) (print_negation b) (none_in_negation a) (none_in_negation b) (bytes "==") w r us (λ k. negation_called a (bytes "==") k us same_shuts) (negation_called b w r us e)

  negation_called : (a : Negation) (w : List ℕ) (r us : List Token) → Shuts w → all_called (print_negation a ++ (sign w ∷ r)) us ≡ and (none_in_negation a) (all_called r us)
  negation_called (Negation.atom a) w r us e = atom_called a w r us e
  negation_called (Negation.not a) w r us e = negation_called a w r us e

  atom_called : (a : Atom) (w : List ℕ) (r us : List Token) → Shuts w → all_called (print_atom a ++ (sign w ∷ r)) us ≡ and (none_in_atom a) (all_called r us)
  atom_called (Atom.value v) w r us e = refl
  atom_called (Atom.variable x) w r us e = ap (λ b. and b (all_called r us)) (e (r ++ us))
  atom_called (Atom.apply x ds) w r us e =
      ap (λ b. and b (all_called ((print_datas ds ++ (the ")" ∷ [])) ++ (sign w ∷ r)) us)) (bracket_opens (((print_datas ds ++ (the ")" ∷ [])) ++ (sign w ∷ r)) ++ us))
      ∙ ap (λ ts. all_called ts us) (append_assoc (print_datas ds) (the ")" ∷ []) (sign w ∷ r)) ∙ datas_called ds (bytes ")") (sign w ∷ r) us bracket_shuts
  atom_called (Atom.group d) w r us e = ap (λ ts. all_called ts us) (append_assoc (print_data d) (the ")" ∷ []) (sign w ∷ r)) ∙ data_called d (bytes ")") (sign w ∷ r) us bracket_shuts

  datas_called : (ds : RawDatas) (w : List ℕ) (r us : List Token) → Shuts w → all_called (print_datas ds ++ (sign w ∷ r)) us ≡ and (no_variables ds) (all_called r us)
  datas_called (RawDatas.one d) w r us e = data_called d w r us e
  datas_called (RawDatas.more d ds) w r us e = two_called (print_data d) (print_datas ds) (no_variable d) (no_variables ds) (bytes ",") w r us (λ k. data_called d (bytes ",") k us comma_shuts) (datas_called ds w r us e)

-- Of the tokens behind a call's name
pub given_called : (ds : Option RawDatas) (us : List Token) → all_called (print_given ds) us ≡ none_in ds
unfolding all_called called print_given none_in bracketed
given_called none us = refl
given_called (some ds) us = datas_called ds (bytes ")") [] us bracket_shuts ∙ and_true (no_variables ds)

-- ---- one name
opens_next : (s toks : List ℕ) (at : ℕ) → get_or toks at 0 ≡ 40 → opens (rest s toks at) ≡ true
opens_next s toks at e = ap opens (rest_next s toks at (get_or_positive toks at (omega arith)) ∙ ap (λ t. t ∷ rest s toks (at + 1)) (ap (cell_token s) e ∙ open_sign.is s)) ∙ bracket_opens (rest s toks (at + 1))

opens_not : (t : Token) (ts : List Token) → (t ≡ the "(" → ⊥) → opens (t ∷ ts) ≡ false
unfolding opens
opens_not t ts n = by (is? "(" t)
  where
    by : (d : Dec (t ≡ the "(")) → elim d as (λ x. Bool) [ yes e ↦ true | no h ↦ false ] ≡ false
    by (yes e) = absurd (n e)
    by (no h) = refl

opens_other : (s toks : List ℕ) (at : ℕ) → (get_or toks at 0 ≡ 40 → ⊥) → opens (rest s toks at) ≡ false
unfolding opens
opens_other s toks at n = by (dec_lt at (length toks))
  where
    by : Dec (at < length toks) → opens (rest s toks at) ≡ false
    by (yes l) = ap opens (rest_next s toks at l) ∙ opens_not (cell_token s (get_or toks at 0)) (rest s toks (at + 1)) (λ e. n (open_sign.only s (get_or toks at 0) e))
    by (no l) = ap opens (rest_past s toks at (omega arith))

module _ (s toks : List ℕ) (at : ℕ) where
  pub called_low : get_or toks at 0 < 1024 → called (cell_token s (get_or toks at 0)) (rest s toks (at + 1)) ≡ true
  unfolding called
  called_low h = by (dec_lt (get_or toks at 0) 256)
    where
      by : Dec (get_or toks at 0 < 256) → called (cell_token s (get_or toks at 0)) (rest s toks (at + 1)) ≡ true
      by (yes k) = ap (λ t. called t (rest s toks (at + 1))) (cell_sign s (get_or toks at 0) k)
      by (no k) = ap (λ t. called t (rest s toks (at + 1))) (numeral_cell s (get_or toks at 0) (omega arith) h)

  called_name : 1024 ≤ get_or toks at 0 → called (cell_token s (get_or toks at 0)) (rest s toks (at + 1)) ≡ opens (rest s toks (at + 1))
  unfolding called
  called_name h = ap (λ t. called t (rest s toks (at + 1))) (name_cell s (get_or toks at 0) h)

  pub called_bracket : 1024 ≤ get_or toks at 0 → get_or toks (at + 1) 0 ≡ 40 → called (cell_token s (get_or toks at 0)) (rest s toks (at + 1)) ≡ true
  called_bracket h e = called_name h ∙ opens_next s toks (at + 1) e

  pub called_bare : 1024 ≤ get_or toks at 0 → (get_or toks (at + 1) 0 ≡ 40 → ⊥) → called (cell_token s (get_or toks at 0)) (rest s toks (at + 1)) ≡ false
  called_bare h n = called_name h ∙ opens_other s toks (at + 1) n

  -- as the code tells it
  pub called_told : 1024 ≤ get_or toks at 0 → (t : ℕ) → t ≡ get_or toks (at + 1) 0 → called (cell_token s (get_or toks at 0)) (rest s toks (at + 1)) ≡ not (not (eqb t 40))
  called_told h t e = by (ℕ_discrete t 40)
    where
      by : Dec (t ≡ 40) → called (cell_token s (get_or toks at 0)) (rest s toks (at + 1)) ≡ not (not (eqb t 40))
      by (yes q) = called_bracket h (sym e ∙ q) ∙ ap (λ b. not (not b)) (sym (eq-eqb t 40 q))
      by (no n) = called_bare h (λ q. n (e ∙ q)) ∙ ap (λ b. not (not b)) (sym (ne_eqb t 40 n))

-- ---- one after another: what is still to be seen from i on decides
pub Still : List ℕ → List ℕ → ℕ → ℕ → ℕ → Type 0
Still s toks from to i =
    (ts : List Token) → rest s toks from ≡ ts ++ rest s toks to → (us : List Token) × (rest s toks i ≡ us ++ rest s toks to) × (all_called ts (rest s toks to) ≡ all_called us (rest s toks to))

length_rest : (s toks : List ℕ) (at : ℕ) → length (rest s toks at) ≡ length toks - at
unfolding rest
length_rest s toks at = length-map (drop at toks) (cell_token s) ∙ length-drop at toks

pub still_start : (s toks : List ℕ) (from to : ℕ) → Still s toks from to from
unfolding Still
still_start s toks from to ts e = (ts, e, refl)

module _ (s toks : List ℕ) (from to i : ℕ) (l : i < to) (m : to ≤ length toks) where
  -- the next token of those still to be seen
  seen_next : (us : List Token) → rest s toks i ≡ us ++ rest s toks to
      → (vs : List Token) × (rest s toks (i + 1) ≡ vs ++ rest s toks to) × (us ≡ cell_token s (get_or toks i 0) ∷ vs)
  seen_next [] p = let z : length toks - i ≡ length toks - to = sym (length_rest s toks i) ∙ ap length p ∙ length_rest s toks to in absurd (omega arith)
  seen_next (t ∷ vs) p = let q = rest_next s toks i (omega arith) in (vs, cc, cc)

  pub still_next : called (cell_token s (get_or toks i 0)) (rest s toks (i + 1)) ≡ true → Still s toks from to i → Still s toks from to (i + 1)
  unfolding Still all_called
  still_next c h ts e =
      let (us, p, q) = h ts e in
      let (vs, x, y) = seen_next us p in
      (vs, x, q ∙ ap (λ k. all_called k (rest s toks to)) y ∙ ap (λ k. and (called (cell_token s (get_or toks i 0)) k) (all_called vs (rest s toks to))) (sym x) ∙ ap (λ b. and b (all_called vs (rest s toks to))) c)

  pub still_bare : called (cell_token s (get_or toks i 0)) (rest s toks (i + 1)) ≡ false → Still s toks from to i → (ts : List Token) → rest s toks from ≡ ts ++ rest s toks to → false ≡ all_called ts (rest s toks to)
  unfolding Still all_called
  still_bare c h ts e =
      let (us, p, q) = h ts e in
      let (vs, x, y) = seen_next us p in
      sym (q ∙ ap (λ k. all_called k (rest s toks to)) y ∙ ap (λ k. and (called (cell_token s (get_or toks i 0)) k) (all_called vs (rest s toks to))) (sym x) ∙ ap (λ b. and b (all_called vs (rest s toks to))) c)

pub still_end : (s toks : List ℕ) (from to : ℕ) → Still s toks from to to → (ts : List Token) → rest s toks from ≡ ts ++ rest s toks to → true ≡ all_called ts (rest s toks to)
unfolding Still all_called
still_end s toks from to h ts e = let (us, p, q) = h ts e in by us p q
  where
    by : (us : List Token) → rest s toks to ≡ us ++ rest s toks to → all_called ts (rest s toks to) ≡ all_called us (rest s toks to) → true ≡ all_called ts (rest s toks to)
    by [] p q = sym q
    by (t ∷ us) p q = let z = ap length p ∙ length-append (t ∷ us) (rest s toks to) in absurd (omega arith)
