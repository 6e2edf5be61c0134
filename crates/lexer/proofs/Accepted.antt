-- What a later layer needs of the lexer's answer, from its contract alone: a refusal is the definition's number; the cells of an accepted
-- sheet are its tokens one by one, no more than its bytes, each below 8192, and the cell of a name points inside the sheet.
use mathlib.Core.Path.{◌≡◌, refl, sym, ap, ap₂, ◌∙◌, subst, subst⁻¹}
use mathlib.Core.Logic.{◌≢◌}
use mathlib.Core.Bool.{Bool, true, false}
use mathlib.Core.List.{List, [], ◌∷◌, map}
use mathlib.Core.Option.{Option, none, some}
use Prim.Native.Nat.{ℕ, zero, suc, pred, ◌+◌, ◌-◌, ◌<◌, ◌≤◌}
use native.Mathlib.Omega.{arith}
use lib.Dec.{leb, ltb, eqb}
use lib.ListN.{length, take, drop, get_or, length-map, length-take, drop_of_length-le}
use lib.Seq.{get_or-take}
use borrow.Author.Tests.{ltb-true, ltb-false}
use Rattle.pcrl.specs.Text.{byte}
use Rattle.pcrl.specs.Limits.{max_bytes, max_name, max_numeral}
use Rattle.pcrl.specs.Result.{Result, refused, accepted, question, question_of}
use Rattle.pcrl.specs.Tests.{and, or, same?, among, Every}
use Rattle.pcrl.specs.Bytes.{separator, letter, digit, name_byte, short?, printable?}
use Rattle.pcrl.specs.Tokens.{Token, name, numeral, sign, words, punctuation, run, front, Lexeme, name_of, value_of, numeral_of, mark_of, first_token, before, followed, tokens_behind, tokens, shallow?}
use Rattle.pcrl.specs.Answers.{tokens_read}
use Rattle.laws.specs.Lists.{map_drop}
use Rattle.laws.specs.Every.{every_at, map_every}
use Rattle.std.specs.Prelude.{Ok, Err}
use Rattle.refusals.specs.declared.Refusal.{Refusal}
use Rattle.refusals.specs.Numbers.{number_of}
use Rattle.refusals.specs.Answered.{Answered}
use Rattle.lexer.specs.Cells.{first_name, cell_token, CellsOf, Lexes}
use Rattle.lexer.proofs.Runs.{drop_at, run_fits, length_front}
use Rattle.lexer.proofs.Cells.{name_cell}

-- ---- a name has a byte
abbrev Solid : Token → Type 0
Solid (name w) = 0 < length w
Solid (numeral v) = Unit {0}
Solid (sign w) = Unit {0}

abbrev SolidLexeme : Option Lexeme → Type 0
SolidLexeme none = Unit {0}
SolidLexeme (some l) = Solid l.0

solid_name : (w : List ℕ) → 0 < length w → SolidLexeme (name_of w)
unfolding name_of
solid_name w h = go (leb (length w) max_name) (among w words)
  where
    go : (t u : Bool) → SolidLexeme (elim t as (λ _. Option Lexeme) [ true ↦ some (elim u as (λ _. Token) [ true ↦ sign w | false ↦ name w ], length w) | false ↦ none ])
    go true true = tt
    go true false = h
    go false u = tt

solid_numeral : (w : List ℕ) → SolidLexeme (numeral_of w)
unfolding numeral_of
solid_numeral w = go (and (or (eqb (length w) 1) (ltb (byte "0") (get_or w 0 0))) (leb (value_of 0 w) max_numeral))
  where
    go : (t : Bool) → SolidLexeme (elim t as (λ _. Option Lexeme) [ true ↦ some (numeral (value_of 0 w), length w) | false ↦ none ])
    go true = tt
    go false = tt

solid_mark_step : (m : List ℕ) (x : Option Lexeme) (A : Type 0) (d : Dec A) → SolidLexeme x → SolidLexeme (elim d as (λ _. Option Lexeme) [ yes e ↦ some (sign m, length m) | no h ↦ x ])
solid_mark_step m x A (yes e) h = tt
solid_mark_step m x A (no n) h = h

solid_mark : (ms : List (List ℕ)) (s : List ℕ) → SolidLexeme (mark_of ms s)
unfolding mark_of
solid_mark [] s = tt
solid_mark (m ∷ ms) s = solid_mark_step m (mark_of ms s) (m ≡ take (length m) s) (same? m (take (length m) s)) (solid_mark ms s)

name_run : (b : ℕ) (l : List ℕ) → letter b ≡ true → 0 < length (front name_byte (b ∷ l))
unfolding run
name_run b l e = rw (e, run) (omega arith)

solid_first : (b : ℕ) (l : List ℕ) → SolidLexeme (first_token b l)
unfolding first_token
solid_first b l = go (letter b) (digit b) refl
  where
    go : (t u : Bool) → letter b ≡ t
        → SolidLexeme (elim t as (λ _. Option Lexeme) [ true ↦ name_of (front name_byte (b ∷ l)) | false ↦ elim u as (λ _. Option Lexeme) [ true ↦ numeral_of (front digit (b ∷ l)) | false ↦ mark_of punctuation (b ∷ l) ] ])
    go true u e = solid_name (front name_byte (b ∷ l)) (name_run b l e)
    go false true e = solid_numeral (front digit (b ∷ l))
    go false false e = solid_mark punctuation (b ∷ l)

-- ---- so have all of a sheet, and there are no more tokens than bytes
abbrev SolidTokens : ℕ → Option (List Token) → Type 0
SolidTokens n none = Unit {0}
SolidTokens n (some ts) = Every Solid ts × (length ts ≤ n)

solid_before : (n : ℕ) (t : Token) (x : Option (List Token)) → Solid t → SolidTokens n x → SolidTokens (suc n) (before t x)
unfolding before Every
solid_before n t none h k = tt
solid_before n t (some ts) h k = ((h, k.0), omega (arith, k.1))

solid_followed : (n : ℕ) (x : Option Lexeme) (behind : ℕ → Option (List Token)) → SolidLexeme x → ((m : ℕ) → SolidTokens n (behind m)) → SolidTokens (suc n) (followed x behind)
unfolding followed
solid_followed n none behind h k = tt
solid_followed n (some l) behind h k = solid_before n l.0 (behind l.1) h (k l.1)

solid_more : (n : ℕ) (x : Option (List Token)) → SolidTokens n x → SolidTokens (suc n) x
solid_more n none h = tt
solid_more n (some ts) h = (h.0, omega (arith, h.1))

solid_choice : (n : ℕ) (t : Bool) (x y : Option (List Token)) → SolidTokens n x → SolidTokens n y → SolidTokens n (elim t as (λ _. Option (List Token)) [ true ↦ x | false ↦ y ])
solid_choice n true x y h k = h
solid_choice n false x y h k = k

solid_behind : (k : ℕ) (l : List ℕ) → SolidTokens (length l) (tokens_behind k l)
unfolding tokens_behind Every
solid_behind k [] = (tt, omega arith)
solid_behind (suc k) (b ∷ l) = solid_more (length l) (tokens_behind k l) (solid_behind k l)
solid_behind zero (b ∷ l) =
    solid_choice (suc (length l)) (separator b) (tokens_behind 0 l) (followed (first_token b l) (λ n. tokens_behind (pred n) l))
    (solid_more (length l) (tokens_behind 0 l) (solid_behind 0 l))
    (solid_followed (length l) (first_token b l) (λ n. tokens_behind (pred n) l) (solid_first b l) (λ m. solid_behind (pred m) l))

-- ---- the answer to questions 1 to 4: a number above 0, or such tokens
abbrev Sound : List ℕ → Result (List Token) → Type 0
Sound s (refused n) = n ≢ 0
Sound s (accepted ts) = Every Solid ts × (length ts ≤ length s) × (length s ≤ max_bytes)

sound_question : (s : List ℕ) {P : Type 0} (n : ℕ) (d : Dec P) (rest : P → Result (List Token)) → n ≢ 0 → ((p : P) → Sound s (rest p)) → Sound s (question n d rest)
unfolding question
sound_question s n (yes h) rest z f = f h
sound_question s n (no h) rest z f = z

sound_tokens : (s : List ℕ) (x : Option (List Token)) (rest : List Token → Result (List Token)) → SolidTokens (length s) x → ((ts : List Token) → SolidTokens (length s) (some ts) → Sound s (rest ts)) → Sound s (question_of 3 x rest)
unfolding question_of
sound_tokens s none rest h f = λ z. omega arith
sound_tokens s (some ts) rest h f = f ts h

sound : (s : List ℕ) → Sound s (tokens_read s)
unfolding tokens_read tokens
sound s =
    sound_question s 1 (short? s) _ (λ z. omega arith) (λ short.
    sound_question s 2 (printable? s) _ (λ z. omega arith) (λ p.
    sound_tokens s (tokens s) _ (solid_behind 0 s) (λ ts h.
    sound_question s 4 (shallow? ts) _ (λ z. omega arith) (λ q. (h.0, h.1, short)))))

-- ---- what a cell is good for
pub record Usable (s : List ℕ) (c : ℕ) : Type 0 where
  pub below : c < 8192
  pub inside : first_name ≤ c → c - first_name < length s

usable : (s : List ℕ) (c : ℕ) → length s ≤ max_bytes → Solid (cell_token s c) → Usable s c
usable s c short h = go (ltb c first_name) refl
  where
    go : (t : Bool) → ltb c first_name ≡ t → Usable s c
    go true e = let l = ltb-true c first_name e in record { below = omega arith; inside = λ k. omega arith }
    go false e =
        let l = ltb-false c first_name e in
        let n : 0 < length (front name_byte (drop (c - first_name) s)) = subst Solid (name_cell s c l) h in
        let w = length_front name_byte (drop (c - first_name) s) in
        let f = run_fits name_byte s (c - first_name) in
        record { below = omega arith; inside = λ k. omega arith }

every_of_map : (f : ℕ → Token) (l : List ℕ) (i : ℕ) → Every Solid (map f l) → i < length l → Solid (f (get_or l i 0))
every_of_map f l i h k = every_at (λ c. Solid (f c)) l 0 i (map_every (λ c. Solid (f c)) Solid f (λ c x. x) l h) k

-- ---- the two answers
pub record Accepted (s : List ℕ) (n : ℕ) (out : List ℕ) : Type 0 where
  pub tokens : List Token
  pub read : tokens_read s ≡ accepted tokens
  pub count : n ≡ length tokens
  pub fits : n ≤ length s
  pub short : length s ≤ max_bytes
  pub room : n ≤ length out
  -- the cells written are the tokens
  pub cells : map (cell_token s) (take n out) ≡ tokens
  pub usable : (i : ℕ) → i < n → Usable s (get_or out i 0)
  -- the tokens from the i-th on begin with that of the i-th cell
  pub next : (i : ℕ) → i < n → drop i tokens ≡ cell_token s (get_or out i 0) ∷ drop (i + 1) tokens
  pub end : (i : ℕ) → n ≤ i → drop i tokens ≡ []

module _ (s out : List ℕ) where
  accepted_of : (n : ℕ) (ts : List Token) → tokens_read s ≡ accepted ts → Sound s (accepted ts) → CellsOf s out ts n → Accepted s n out
  accepted_of k ts e z l =
      let (n, m) = l in
      let (solid, few, short) = z in
      let size : length (take k out) ≡ k = sym (length-map (take k out) (cell_token s)) ∙ ap length m ∙ sym n in
      let room : k ≤ length out = omega (arith, length-take k out) in
      let cell : (i : ℕ) → i < k → get_or (take k out) i 0 ≡ get_or out i 0 = λ i h. get_or-take k out i 0 h in
      record {
        tokens = ts;
        read = e;
        count = n;
        fits = omega arith;
        short = short;
        room = room;
        cells = m;
        usable = λ i h. usable s (get_or out i 0) short (subst (λ (c : ℕ). Solid (cell_token s c)) (cell i h) (every_of_map (cell_token s) (take k out) i (subst⁻¹ (Every Solid) m solid) (omega arith)));
        next = λ i h.
            ap (drop i) (sym m) ∙ map_drop (cell_token s) i (take k out) ∙ ap (map (cell_token s)) (drop_at (take k out) i (omega arith))
            ∙ ap₂ (λ (c : ℕ) (w : List Token). cell_token s c ∷ w) (cell i h) (sym (map_drop (cell_token s) (i + 1) (take k out)) ∙ ap (drop (i + 1)) m);
        end = λ i h. drop_of_length-le ts {i = i} (omega arith);
      }

  -- a sheet that is not refused is accepted, and its cells are the definition's tokens
  pub accepted_cells : (n : ℕ) → Lexes (tokens_read s) s (Ok n) out → Accepted s n out
  unfolding Answered
  accepted_cells n l = go (tokens_read s) refl (sound s) l
    where
      go : (x : Result (List Token)) → tokens_read s ≡ x → Sound s x → Lexes x s (Ok n) out → Accepted s n out
      go (refused n) e k m = absurd m
      go (accepted ts) e k m = accepted_of n ts e k m

  -- and a refusal is the definition's
  pub refused_number : (r : Refusal) → Lexes (tokens_read s) s (Err r) out → tokens_read s ≡ refused (number_of r)
  unfolding Answered
  refused_number r l = go (tokens_read s) refl l
    where
      go : (x : Result (List Token)) → tokens_read s ≡ x → Lexes x s (Err r) out → tokens_read s ≡ refused (number_of r)
      go (refused n) e m = e ∙ ap refused (sym m)
      go (accepted ts) e m = absurd m
