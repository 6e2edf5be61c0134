-- The init line: what the reader of a call answers, and the test of its tokens, give what the definition's reader finds.
use mathlib.Core.Path.{◌≡◌, refl, sym, ap, ◌∙◌, subst}
use mathlib.Core.List.{List, ◌∷◌, ◌++◌}
use mathlib.Core.Bool.{Bool, true, false}
use mathlib.Core.Option.{Option}
use Prim.Native.Nat.{ℕ, ◌+◌, ◌*◌, ◌≤◌, ◌<◌}
use native.Mathlib.Decide.{dec_lt}
use native.Mathlib.Omega.{arith}
use lib.ListN.{length}
use Rattle.pcrl.specs.Tests.{T?}
use Rattle.pcrl.specs.Tokens.{Token, name}
use Rattle.pcrl.specs.Reader.{Got, missing, found, bind, test, keep}
use Rattle.pcrl.specs.Tree.{Name, RawDatas, Part, InitLine}
use Rattle.pcrl.specs.Grammar.{a_name, data_given, none_in, init_line}
use Rattle.pcrl.specs.Print.{print_given}
use Rattle.grammar.specs.Outcome.{Found, of_found, found_name}
use Rattle.grammar.specs.ParsedTerms.{Prints, given_printed}
use Rattle.parser.specs.Cells.{Symbol, symbol_of, enc_call, enc_part, enc_init}
use Rattle.parser.specs.Call.{call, all_called}
use Rattle.parser.specs.Reading.{rest, left, Put, Writes}
use Rattle.parser.proofs.Writing.{writes_cell, writes_then}
use Rattle.parser.proofs.Reading.{rest_next, rest_past}
use Rattle.parser.proofs.InitLaws.{given_called}
use Rattle.parser.proofs.Reaching.{Reaches, lost, took}

abbrev init_of : Name → Option RawDatas → InitLine
init_of x ds = record { name = x; data_given = ds }

-- what an answer says of the definition's reader
Inverted : (s toks : List ℕ) {A : Type 0} (enc : A → List Symbol) (w : ℕ) (o : List ℕ) (at w' : ℕ) (o' : List ℕ) → Got Token A → Type 0
Inverted s toks enc w o at w' o' missing = length toks < at
Inverted s toks enc w o at w' o' (found a ts) = (at ≤ length toks) × (ts ≡ rest s toks at) × Writes s toks (enc a) w o w' o'

inverted : {s toks : List ℕ} {A : Type 0} {enc : A → List Symbol} {w : ℕ} {o : List ℕ} {at w' : ℕ} {o' : List ℕ} {g : Got Token A} → Reaches s toks enc w o at w' o' g → Inverted s toks enc w o at w' o' g
unfolding Inverted
inverted (lost l) = l
inverted (took i u) = (i, refl, u)

kept : {A : Type 0} (b : Bool) (a : A) (ts : List Token) → b ≡ true → keep (T? b) a ts ≡ found a ts
unfolding keep T?
kept true a ts e = refl
kept false a ts e = let z : ◌≡◌ {A = ℕ} 0 1 = cc in absurd (omega arith)

dropped : {A : Type 0} (b : Bool) (a : A) (ts : List Token) → b ≡ false → keep (T? b) a ts ≡ missing
unfolding keep T?
dropped true a ts e = let z : ◌≡◌ {A = ℕ} 0 1 = cc in absurd (omega arith)
dropped false a ts e = refl

-- behind a name stands what is left
behind_name : (s toks : List ℕ) (at : ℕ) (x : Name) (us : List Token) → a_name (rest s toks at) ≡ found x us → us ≡ rest s toks (at + 1)
behind_name s toks at x us e = by (dec_lt at (length toks))
  where
    z : rest s toks at ≡ name x ∷ us
    z = of_found (subst (Found (λ y r. rest s toks at ≡ name y ∷ r)) e (found_name (rest s toks at)))

    by : Dec (at < length toks) → us ≡ rest s toks (at + 1)
    by (yes l) = cc (z, rest_next s toks at l)
    by (no l) = let q : ◌≡◌ {A = ℕ} 0 1 = cc (z, rest_past s toks at (omega arith)) in absurd (omega arith)

-- a call was read and its tokens stand there, or none was
data Seen (s toks : List ℕ) (at f w : ℕ) (o : List ℕ) (at' w' : ℕ) (o' : List ℕ) : Type 0 where
  gone : length toks < at' → init_line f (rest s toks at) ≡ missing → Seen s toks at f w o at' w' o'
  got : (x : Name) (ds : Option RawDatas) → at' ≤ length toks → Writes s toks (enc_call x ds) w o w' o' → rest s toks (at + 1) ≡ print_given ds ++ rest s toks at'
      → (none_in ds ≡ true → init_line f (rest s toks at) ≡ found (init_of x ds) (rest s toks at')) → (none_in ds ≡ false → init_line f (rest s toks at) ≡ missing)
      → Seen s toks at f w o at' w' o'

module _ (s toks : List ℕ) (at f w : ℕ) (o : List ℕ) (at' w' : ℕ) (o' : List ℕ) where
  tested : Name → Got Token (Option RawDatas) → Got Token InitLine
  tested x d = bind (bind d (λ ds vs. keep (T? (none_in ds)) ds vs)) (λ ds vs. found (init_of x ds) vs)

  line : Got Token Name → Got Token InitLine
  line g = bind g (λ x us. tested x (data_given f us))

  seen_given : (x : Name) (us : List Token) → a_name (rest s toks at) ≡ found x us → init_line f (rest s toks at) ≡ tested x (data_given f us) → (d : Got Token (Option RawDatas)) → data_given f us ≡ d
      → Reaches s toks enc_part w o at' w' o' (bind d (λ ds vs. found (Part.named x ds) vs)) → Seen s toks at f w o at' w' o'
  unfolding bind tested Inverted enc_part
  seen_given x us e l missing q h = gone (inverted h) (l ∙ ap (tested x) q)
  seen_given x us e l (found ds vs) q h =
      let v = inverted h in
      let p : us ≡ print_given ds ++ vs = of_found (subst (Found (Prints print_given us)) q (given_printed f us)) in
      got x ds v.0 v.2 (sym (behind_name s toks at x us e) ∙ p ∙ ap (λ k. print_given ds ++ k) v.1)
      (λ t. l ∙ ap (tested x) q ∙ ap (λ k. bind k (λ ds vs. found (init_of x ds) vs)) (kept (none_in ds) ds vs t) ∙ ap (found (init_of x ds)) v.1)
      (λ t. l ∙ ap (tested x) q ∙ ap (λ k. bind k (λ ds vs. found (init_of x ds) vs)) (dropped (none_in ds) ds vs t))

  seen_name : (g : Got Token Name) → a_name (rest s toks at) ≡ g → Reaches s toks enc_part w o at' w' o' (bind g (λ x us. bind (data_given f us) (λ ds vs. found (Part.named x ds) vs))) → Seen s toks at f w o at' w' o'
  unfolding bind line tested Inverted init_line test
  seen_name missing e h = gone (inverted h) (ap line e)
  seen_name (found x us) e h = seen_given x us e (ap line e) (data_given f us) refl h

  seen : Reaches s toks enc_part w o at' w' o' (call f (rest s toks at)) → Seen s toks at f w o at' w' o'
  seen h = seen_name (a_name (rest s toks at)) refl h

-- ---- what the reader of the init line answers
module _ (s toks : List ℕ) (at : ℕ) {w w₁ at₂ w₂ : ℕ} {o o₁ o₂ : List ℕ} (p : Put o w 24 w₁ o₁)
    (h : (f : ℕ) → 5 * left toks at < f → Reaches s toks enc_part w₁ o₁ at₂ w₂ o₂ (call f (rest s toks at))) where
  pub init_lost : length toks < at₂ → (f : ℕ) → 5 * length toks < f → Reaches s toks enc_init w o at₂ w₂ o₂ (init_line f (rest s toks at))
  init_lost l f k = by (seen s toks at f w₁ o₁ at₂ w₂ o₂ (h f (omega arith)))
    where
      by : Seen s toks at f w₁ o₁ at₂ w₂ o₂ → Reaches s toks enc_init w o at₂ w₂ o₂ (init_line f (rest s toks at))
      by (gone m e) = subst (λ g. Reaches s toks enc_init w o at₂ w₂ o₂ g) (sym e) (lost m)
      by (got x ds i u r y n) = absurd (omega arith)

  module _ (i₂ : at₂ ≤ length toks) {b : Bool} (c : (ts : List Token) → rest s toks (at + 1) ≡ ts ++ rest s toks at₂ → b ≡ all_called ts (rest s toks at₂)) where
    pub init_read : b ≡ true → (f : ℕ) → 5 * length toks < f → Reaches s toks enc_init w o at₂ w₂ o₂ (init_line f (rest s toks at))
    unfolding enc_init symbol_of
    init_read t f k = by (seen s toks at f w₁ o₁ at₂ w₂ o₂ (h f (omega arith)))
      where
        by : Seen s toks at f w₁ o₁ at₂ w₂ o₂ → Reaches s toks enc_init w o at₂ w₂ o₂ (init_line f (rest s toks at))
        by (gone m e) = absurd (omega arith)
        by (got x ds i u r y n) =
            subst (λ g. Reaches s toks enc_init w o at₂ w₂ o₂ g) (sym (y (sym (given_called ds (rest s toks at₂)) ∙ sym (c (print_given ds) r) ∙ t))) (took i (writes_then (writes_cell p refl) u))

    pub init_refused : b ≡ false → {end w' : ℕ} {o' : List ℕ} → length toks < end → (f : ℕ) → 5 * length toks < f → Reaches s toks enc_init w o end w' o' (init_line f (rest s toks at))
    init_refused t {end} {w'} {o'} l f k = by (seen s toks at f w₁ o₁ at₂ w₂ o₂ (h f (omega arith)))
      where
        by : Seen s toks at f w₁ o₁ at₂ w₂ o₂ → Reaches s toks enc_init w o end w' o' (init_line f (rest s toks at))
        by (gone m e) = absurd (omega arith)
        by (got x ds i u r y n) = subst (λ g. Reaches s toks enc_init w o end w' o' g) (sym (n (sym (given_called ds (rest s toks at₂)) ∙ sym (c (print_given ds) r) ∙ t))) (lost l)
