-- The bytes of spelled tokens pass question 2.
use Rattle.std.specs.Prelude.{List, [], ◌∷◌, Bool, true, false, ℕ, ◌≤◌, T, leb}
use Rattle.std.proofs.Common.{inl, inr, arith, leb→le, le→leb, eqb→eq}
use Rattle.pcrl.specs.Text.{byte, decimal}
use Rattle.pcrl.specs.Tests.{within, among, Every}
use Rattle.pcrl.specs.Bytes.{letter, digit, name_byte, printable, Printable}
use Rattle.pcrl.specs.Tokens.{Token, name, numeral, sign, words, punctuation}
use Rattle.pcrl.specs.Render.{blank_byte, write, goes_on, between, render}
use Rattle.laws.specs.Tests.{is_true, of_true, both_pass, pass_both, one_passes, or_left}
use Rattle.laws.specs.Every.{every_weaken, every_append}
use Rattle.grammar.specs.Spelled.{spelled}
use Rattle.grammar.specs.Taken.{among_every}
use Rattle.printing.specs.Indexed.{SpelledName}
use Rattle.printing.specs.SpelledTokens.{SpelledToken}

between_printable : (b : ℕ) → 0x20 ≤ b → b ≤ 0x7E → T (printable b)
between_printable b h k = of_true (printable b) (or_left (within 0x20 0x7E b) _ (is_true _ (pass_both (leb 0x20 b) (leb b 0x7E) (le→leb 0x20 b h) (le→leb b 0x7E k))))

in_range : (a c b : ℕ) → 0x20 ≤ a → c ≤ 0x7E → T (within a c b) → T (printable b)
in_range a c b h k t =
    let r = both_pass (leb a b) (leb b c) t in
    let low = leb→le a b r.0 in
    let high = leb→le b c r.1 in
    between_printable b (omega arith) (omega arith)

digit_printable : (b : ℕ) → T (digit b) → T (printable b)
digit_printable b t = in_range (byte "0") (byte "9") b (omega arith) (omega arith) t

letter_printable : (b : ℕ) → T (letter b) → T (printable b)
letter_printable b t =
    elim (one_passes (within (byte "A") (byte "Z") b) _ t) [
      | inl h ↦ in_range (byte "A") (byte "Z") b (omega arith) (omega arith) h
      | inr h ↦ in_range (byte "a") (byte "z") b (omega arith) (omega arith) h
    ]

name_byte_printable : (b : ℕ) → T (name_byte b) → T (printable b)
name_byte_printable b t =
    elim (one_passes (letter b) _ t) [
      | inl h ↦ letter_printable b h
      | inr h ↦ elim (one_passes (digit b) _ h) [ inl k ↦ digit_printable b k | inr k ↦ let e = eqb→eq b (byte "_") k in between_printable b (omega arith) (omega arith) ]
    ]

words_printable : Every Printable words
unfolding Every words Printable
words_printable = (omega arith, (omega arith, (omega arith, (omega arith, (omega arith, (omega arith, (omega arith, (omega arith, tt))))))))

marks_printable : Every Printable punctuation
unfolding Every punctuation Printable
marks_printable = (omega arith, (omega arith, (omega arith, (omega arith, (omega arith, (omega arith, omega arith))))))

write_printable : (t : Token) → SpelledToken t → Printable (write t)
unfolding write SpelledToken SpelledName Printable
write_printable (name n) v = every_weaken _ _ name_byte_printable n v.0.1
write_printable (numeral k) v = every_weaken _ _ digit_printable (decimal k) (spelled k v).0
write_printable (sign w) v = elim (one_passes (among w words) (among w punctuation) v) [ inl h ↦ among_every Printable words words_printable w h | inr h ↦ among_every Printable punctuation marks_printable w h ]

between_tokens : (t u : Token) → Printable (between t u)
unfolding between Printable Every
between_tokens t u = by (goes_on t _)
  where
    by : (c : Bool) → Every (λ b. T (printable b)) (elim c [ true ↦ blank_byte ∷ [] | false ↦ [] ])
    by true = (tt, tt)
    by false = tt

-- THE TEXT OF SPELLED TOKENS IS PRINTABLE.
pub text_printable : (ts : List Token) → Every SpelledToken ts → Printable (render ts)
unfolding render Every Printable
text_printable [] v = tt
text_printable (t ∷ []) v = write_printable t v.0
text_printable (t ∷ u ∷ ts) v =
    every_append (λ b. T (printable b)) (write t) _ (write_printable t v.0) (every_append _ (between t u) (render (u ∷ ts)) (between_tokens t u) (text_printable (u ∷ ts) v.1))
