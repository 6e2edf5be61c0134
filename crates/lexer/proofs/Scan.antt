-- Laws of `tokens_behind` at a place of the sheet, and of the cells written so far.
use mathlib.Core.Path.{◌≡◌, refl, sym, ap, ap₂, ◌∙◌, subst, subst⁻¹}
use mathlib.Core.Bool.{Bool, true, false}
use mathlib.Core.List.{List, [], ◌∷◌, ◌++◌, append-nil, map}
use mathlib.Core.Option.{Option, some, none}
use Prim.Native.Nat.{ℕ, zero, suc, pred, ◌+◌, ◌<◌, ◌≤◌}
use native.Mathlib.Numerals.{add-one}
use native.Mathlib.Omega.{arith}
use lib.ListN.{length, take, drop, get_or, set, drop_of_length-le, length-drop, length-map}
use lib.Seq.{drop-cons, drop-drop, get_or-drop, take-suc-set, append_snoc, length-take-le}
use Rattle.pcrl.specs.Result.{accepted, question_of}
use Rattle.pcrl.specs.Bytes.{separator}
use Rattle.pcrl.specs.Tokens.{Token, run, Lexeme, first_token, before, followed, tokens_behind, tokens}
use Rattle.lexer.specs.Cells.{cell_token, Reads, Lexes}
use Rattle.lexer.specs.declared.Taken.{Taken}
use Rattle.std.specs.Prelude as R
use Rattle.refusals.specs.declared.Refusal.TheVariants.{NoToken}
use Rattle.refusals.specs.Answered.{Answered}

-- ---- bytes passed over
behind_skip : (k : ℕ) (l : List ℕ) → tokens_behind k l ≡ tokens_behind 0 (drop k l)
unfolding tokens_behind
behind_skip zero l = refl
behind_skip (suc k) [] = refl
behind_skip (suc k) (b ∷ l) = behind_skip k l

blank_step : (b : ℕ) (l : List ℕ) → tokens_behind 0 l ≡ tokens_behind 0 (drop (run separator l) l) → (t : Bool) → separator b ≡ t
    → tokens_behind 0 (b ∷ l) ≡ tokens_behind 0 (drop (run separator (b ∷ l)) (b ∷ l))
unfolding tokens_behind run
blank_step b l ih true e = rw (e, tokens_behind, run) ih
blank_step b l ih false e = rw (e, run)

behind_blank : (l : List ℕ) → tokens_behind 0 l ≡ tokens_behind 0 (drop (run separator l) l)
unfolding tokens_behind run
behind_blank [] = refl
behind_blank (b ∷ l) = blank_step b l (behind_blank l) (separator b) refl

-- behind the separators stands none
stop_step : (b : ℕ) (l : List ℕ) → (run separator l < length l → separator (get_or l (run separator l) 0) ≡ false) → (t : Bool) → separator b ≡ t
    → run separator (b ∷ l) < length (b ∷ l) → separator (get_or (b ∷ l) (run separator (b ∷ l)) 0) ≡ false
unfolding run
stop_step b l ih true e h =
    let q : suc (run separator l) < suc (length l) = subst (λ (x : Bool). (elim x as (λ _. ℕ) [ true ↦ suc (run separator l) | false ↦ 0 ]) < suc (length l)) e h in
    rw (e, run) (ih (omega arith))
stop_step b l ih false e h = rw (e, run) e

run_stops : (l : List ℕ) → run separator l < length l → separator (get_or l (run separator l) 0) ≡ false
unfolding run
run_stops [] h = absurd (omega arith)
run_stops (b ∷ l) h = stop_step b l (run_stops l) (separator b) refl h

abbrev pub from : List ℕ → ℕ → Option (List Token)
from s at = tokens_behind 0 (drop at s)

module _ (s : List ℕ) (at p : ℕ) (e : p ≡ at + run separator (drop at s)) where
  from_blank : from s at ≡ from s p
  from_blank =
      behind_blank (drop at s) ∙ ap (tokens_behind 0) (drop-drop (run separator (drop at s)) at s) ∙ ap (λ (j : ℕ). tokens_behind 0 (drop j s)) (sym e)

  no_blank : p < length s → separator (get_or s p 0) ≡ false
  no_blank h =
      ap (λ (j : ℕ). separator (get_or s j 0)) e
      ∙ ap separator (sym (get_or-drop at s (run separator (drop at s)) 0))
      ∙ run_stops (drop at s) (omega (arith, length-drop at s))

from_end : (s : List ℕ) (p : ℕ) → length s ≤ p → from s p ≡ some []
unfolding tokens_behind
from_end s p h = rw (drop_of_length-le s h)

-- ---- a token that was read
followed_none : (s : List ℕ) (x : Option Lexeme) (k : ℕ → Option (List Token)) → Reads s x R.None → followed x k ≡ none
unfolding followed Reads
followed_none s none k r = refl
followed_none s (some l) k r = absurd r

followed_some : (s : List ℕ) (x : Option Lexeme) (t : Taken) (k : ℕ → Option (List Token)) → Reads s x (R.Some t) → followed x k ≡ before (cell_token s t.cell) (k t.len)
unfolding followed Reads
followed_some s none t k r = absurd r
followed_some s (some l) t k r = ap₂ (λ (a : Token) (n : ℕ). before a (k n)) (sym r.1) (sym r.2)

module _ (s : List ℕ) (p : ℕ) (h : p < length s) (b : separator (get_or s p 0) ≡ false) (x : R.Option Taken) (r : Reads s (first_token (get_or s p 0) (drop (p + 1) s)) x) where
  here : from s p ≡ followed (first_token (get_or s p 0) (drop (suc p) s)) (λ n. tokens_behind (pred n) (drop (suc p) s))
  unfolding tokens_behind
  here = rw (drop-cons s p 0 h, b, tokens_behind)

  reads : (y : R.Option Taken) → x ≡ y → Reads s (first_token (get_or s p 0) (drop (suc p) s)) y
  reads y e = subst (λ (j : ℕ). Reads s (first_token (get_or s p 0) (drop j s)) y) (add-one p) (subst (λ (z : R.Option Taken). Reads s (first_token (get_or s p 0) (drop (p + 1) s)) z) e r)

  from_bad : x ≡ R.None → from s p ≡ none
  from_bad e = here ∙ followed_none s _ _ (reads R.None e)

  from_token : (t : Taken) → x ≡ R.Some t → 1 ≤ t.len → from s p ≡ before (cell_token s t.cell) (from s (p + t.len))
  from_token t e l =
      let q : suc p + pred t.len ≡ p + t.len = omega arith in
      here ∙ followed_some s _ t _ (reads (R.Some t) e)
      ∙ ap (before (cell_token s t.cell))
      (behind_skip (pred t.len) (drop (suc p) s) ∙ ap (tokens_behind 0) (drop-drop (pred t.len) (suc p) s) ∙ ap (λ (j : ℕ). tokens_behind 0 (drop j s)) q)

-- ---- what is written already, and the tokens to come
unfoldable pub glue : List Token → Option (List Token) → Option (List Token)
glue l none = none
glue l (some r) = some (l ++ r)

pub glue_nil : (x : Option (List Token)) → x ≡ glue [] x
unfolding glue
glue_nil none = refl
glue_nil (some r) = refl

map_append : (f : ℕ → Token) (l m : List ℕ) → map f (l ++ m) ≡ map f l ++ map f m
map_append f [] m = refl
map_append f (x ∷ l) m = ap (λ (r : List Token). f x ∷ r) (map_append f l m)

glue_step : (f : ℕ → Token) (o : List ℕ) (n c : ℕ) (x : Option (List Token)) → n < length o
    → glue (map f (take n o)) (before (f c) x) ≡ glue (map f (take (n + 1) (set o n c))) x
unfolding glue before
glue_step f o n c none h = refl
glue_step f o n c (some r) h =
    ap some
    (sym (append_snoc (map f (take n o)) (f c) r)
    ∙ ap (λ (l : List Token). l ++ r) (sym (map_append f (take n o) (c ∷ [])))
    ∙ ap (λ (l : List ℕ). map f l ++ r) (sym (take-suc-set o n c h) ∙ ap (λ (k : ℕ). take k (set o n c)) (sym (add-one n))))

lexes_all : (s : List ℕ) (x : Option (List Token)) (o : List ℕ) (n : ℕ) → x ≡ glue (map (cell_token s) (take n o)) (some []) → n ≤ length o
    → Lexes (question_of 3 x accepted) s (R.Ok n) o
unfolding glue Answered question_of
lexes_all s x o n e h =
    subst⁻¹ (λ (y : Option (List Token)). Lexes (question_of 3 y accepted) s (R.Ok n) o) (e ∙ ap some (append-nil (map (cell_token s) (take n o))))
    (sym (length-map (take n o) (cell_token s) ∙ length-take-le n o h), refl)

lexes_none : (s : List ℕ) (x : Option (List Token)) (l : List Token) (o : List ℕ) → x ≡ glue l none → Lexes (question_of 3 x accepted) s (R.Err NoToken) o
unfolding glue Answered question_of
lexes_none s x l o e = subst⁻¹ (λ (y : Option (List Token)). Lexes (question_of 3 y accepted) s (R.Err NoToken) o) e refl

-- ---- a turn of the loop: n cells are written, and the separators from `at` on reach to p
module _ (s out : List ℕ) (at n p : ℕ) (e : tokens s ≡ glue (map (cell_token s) (take n out)) (from s at)) (blanks : p ≡ at + run separator (drop at s)) where
  -- the sheet ends there
  pub all_written : length s ≤ p → n ≤ length out → Lexes (question_of 3 (tokens s) accepted) s (R.Ok n) out
  all_written h room = lexes_all s (tokens s) out n (e ∙ ap (glue (map (cell_token s) (take n out))) (from_blank s at p blanks ∙ from_end s p h)) room

  module _ (h : p < length s) (x : R.Option Taken) (r : Reads s (first_token (get_or s p 0) (drop (p + 1) s)) x) where
    -- no token stands there
    pub none_written : x ≡ R.None → Lexes (question_of 3 (tokens s) accepted) s (R.Err NoToken) out
    none_written z =
        lexes_none s (tokens s) (map (cell_token s) (take n out)) out
        (e ∙ ap (glue (map (cell_token s) (take n out))) (from_blank s at p blanks ∙ from_bad s p h (no_blank s at p blanks h) x r z))

    -- a token stands there, and its cell is written
    pub one_more : (t : Taken) → x ≡ R.Some t → 1 ≤ t.len → n < length out → tokens s ≡ glue (map (cell_token s) (take (n + 1) (set out n t.cell))) (from s (p + t.len))
    one_more t z l room =
        e ∙ ap (glue (map (cell_token s) (take n out))) (from_blank s at p blanks ∙ from_token s p h (no_blank s at p blanks h) x r t z l)
        ∙ glue_step (cell_token s) out n t.cell (from s (p + t.len)) room
