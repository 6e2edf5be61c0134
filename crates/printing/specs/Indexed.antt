-- The names that the printer makes, letters and an index: each is spelled as a name, no word, unlike every name that is taken, and says its letter and
-- its index.
use Rattle.std.specs.Prelude.{◌≡◌, List, [], ◌∷◌, Bool, ◌≢◌, ℕ, suc, ◌≤◌, length, get_or, drop}
use Rattle.std.proofs.Math.Path.{refl, ap, sym}
use Rattle.std.proofs.Common.{subst, ◌∙◌}
use Rattle.std.proofs.Math.Bool.{true, false}
use native.Mathlib.Omega.{arith}
use Rattle.std.proofs.Math.Dec.{T}
use Rattle.std.proofs.Math.Seq.{take-append_seam, drop-append_seam}
use Rattle.pcrl.specs.Text.{decimal}
use Rattle.pcrl.specs.Limits.{max_numeral}
use Rattle.pcrl.specs.Tests.{negated, among, Every}
use Rattle.pcrl.specs.Bytes.{letter, digit, name_byte}
use Rattle.pcrl.specs.Tokens.{words, value_of}
use Rattle.pcrl.specs.Tree.{Name}
use Rattle.pcrl.specs.Letters.{longest_run, letters, indexed}
use Rattle.laws.specs.Tests.{is_true, of_true, or_left, or_right}
use Rattle.laws.specs.Every.{every_weaken, every_append, every_right, every_replicate}
use Rattle.grammar.specs.Spelled.{spelled}
use Rattle.theory.specs.Distinct.{Unlike, each_unlike}
use Rattle.printing.specs.Letters.{Begins, letters_free}

-- "a letter, then letters, digits or underscores", of any length; the words "are never names"
unfoldable pub SpelledName : Name → Type 0
SpelledName n = ((1 ≤ length n) × Every (λ b. T (name_byte b)) n) × (T (letter (get_or n 0 0)) × (among n words ≡ false))

letter_in_name : (b : ℕ) → T (letter b) → T (name_byte b)
letter_in_name b h = of_true (name_byte b) (or_left (letter b) _ (is_true (letter b) h))

digit_in_name : (b : ℕ) → T (digit b) → T (name_byte b)
digit_in_name b h = of_true (name_byte b) (or_right (letter b) _ (or_left (digit b) _ (is_true (digit b) h)))

-- no word has a digit
no_digit_in_words : Every (λ w. Every (λ b. T (negated (digit b))) w) words
unfolding Every words
no_digit_in_words = (omega arith, (omega arith, (omega arith, (omega arith, (omega arith, (omega arith, (omega arith, (omega arith, tt))))))))

digits_none : (l : List ℕ) → 1 ≤ length l → Every (λ b. T (digit b)) l → Every (λ b. T (negated (digit b))) l → ⊥
unfolding Every
digits_none [] n h k = omega arith
digits_none (b ∷ l) n h k = let e = is_true (digit b) h.0 in rw e at k.0

module _ (names : List Name) where
  -- the first byte is the letter
  pub indexed_first : (b i : ℕ) → get_or (indexed names b i) 0 0 ≡ b
  unfolding indexed letters
  indexed_first b i = refl

  -- Names of two letters are unlike,
  pub indexed_apart : (b c i j : ℕ) → b ≢ c → Unlike (indexed names b i) (indexed names c j)
  indexed_apart b c i j h e = h (sym (indexed_first b i) ∙ ap (λ (n : Name). get_or n 0 0) e ∙ indexed_first c j)

  -- and so are those of one letter and two indices.
  pub indexed_injective : (b i j : ℕ) → i ≤ max_numeral → j ≤ max_numeral → indexed names b i ≡ indexed names b j → i ≡ j
  unfolding indexed
  indexed_injective b i j h k e =
      let d : decimal i ≡ decimal j = sym (drop-append_seam (letters names b) (decimal i)) ∙ ap (drop (length (letters names b))) e ∙ drop-append_seam (letters names b) (decimal j) in
      sym (spelled i h).1.1.1 ∙ ap (value_of 0) d ∙ (spelled j k).1.1.1

  -- None of the names is such a one,
  pub indexed_new : (b i : ℕ) → Every (Unlike (indexed names b i)) names
  unfolding indexed Begins
  indexed_new b i =
      every_weaken _ _ (λ n h e. h (subst (λ (m : Name). Begins (letters names b) m) e (take-append_seam (letters names b) (decimal i)))) names
      (letters_free names b)

  no_word : (b i : ℕ) → i ≤ max_numeral → Every (Unlike (indexed names b i)) words
  unfolding indexed
  no_word b i h =
      every_weaken _ _ (λ w k e. digits_none (decimal i) (spelled i h).1.0 (spelled i h).0 (every_right _ (letters names b) (decimal i) (subst (Every _) (sym e) k))) words
      no_digit_in_words

  -- and it is spelled as a name.
  pub indexed_spelled : (b i : ℕ) → T (letter b) → i ≤ max_numeral → SpelledName (indexed names b i)
  unfolding SpelledName indexed letters
  indexed_spelled b i t h =
      let run_bytes = every_replicate (λ c. T (name_byte c)) (suc (longest_run b names)) b (letter_in_name b t) in
      let index_bytes = every_weaken _ (λ c. T (name_byte c)) digit_in_name (decimal i) (spelled i h).0 in
      let new = not_among (among (indexed names b i) words) (each_unlike (indexed names b i) words (no_word b i h)) in
      ((omega arith, every_append _ (letters names b) (decimal i) run_bytes index_bytes), (t, new))
    where
      not_among : (c : Bool) → T (negated c) → c ≡ false
      not_among true k = absurd k
      not_among false k = refl
