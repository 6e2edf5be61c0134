-- Questions 1 to 4 in their order: which one decides, from what the code found for each.
use mathlib.Core.Path.{◌≡◌, refl, ◌∙◌, subst, subst⁻¹}
use mathlib.Core.List.{List, map}
use mathlib.Core.Option.{Option, none, some}
use Prim.Native.Nat.{ℕ, ◌<◌, ◌≤◌}
use native.Mathlib.Omega.{arith}
use lib.ListN.{length, take}
use Rattle.pcrl.specs.Limits.{max_bytes}
use Rattle.pcrl.specs.Result.{Result, refused, accepted, question, question_of}
use Rattle.pcrl.specs.Bytes.{short?, Printable, printable?}
use Rattle.pcrl.specs.Tokens.{Token, tokens, Shallow, shallow?}
use Rattle.pcrl.specs.Answers.{tokens_read}
use Rattle.lexer.specs.Cells.{cell_token, Lexes}
use Rattle.std.specs.Prelude as R
use Rattle.std.specs.Prelude.{Ok, Err}
use Rattle.refusals.specs.declared.Refusal.{Refusal}
use Rattle.refusals.specs.declared.Refusal.TheVariants.{TooLong, NotText, TooOpen}
use Rattle.refusals.specs.Numbers.{number_of}
use Rattle.refusals.specs.Answered.{Answered}

passed : {P A : Type 0} (n : ℕ) (d : Dec P) (x : Result A) → P → question n d (λ _. x) ≡ x
unfolding question
passed n (yes h) x p = refl
passed n (no h) x p = absurd (h p)

failed : {P A : Type 0} (n : ℕ) (d : Dec P) (rest : P → Result A) → (P → ⊥) → question n d rest ≡ refused n
unfolding question
failed n (yes h) rest f = absurd (f h)
failed n (no h) rest f = refl

lexes_refused : (s out : List ℕ) (x : Result (List Token)) (r : Refusal) → x ≡ refused (number_of r) → Lexes x s (Err r) out
unfolding Answered
lexes_refused s out x r e = subst⁻¹ (λ (y : Result (List Token)). Lexes y s (Err r) out) e refl

-- question 4, put to the tokens
abbrev bracketed : List Token → Result (List Token)
bracketed ts = question 4 (shallow? ts) (λ _. accepted ts)

module _ (s out : List ℕ) where
  pub refused_1 : max_bytes < length s → Lexes (tokens_read s) s (Err TooLong) out
  unfolding tokens_read
  refused_1 h = lexes_refused s out (tokens_read s) TooLong (failed 1 (short? s) _ (λ k. omega arith))

  module _ (short : length s ≤ max_bytes) where
    pub refused_2 : (Printable s → ⊥) → Lexes (tokens_read s) s (Err NotText) out
    unfolding tokens_read
    refused_2 h = lexes_refused s out (tokens_read s) NotText (passed 1 (short? s) _ short ∙ failed 2 (printable? s) _ h)

    module _ (printable : Printable s) where
      questions_3_4 : tokens_read s ≡ question_of 3 (tokens s) bracketed
      unfolding tokens_read
      questions_3_4 = passed 1 (short? s) _ short ∙ passed 2 (printable? s) _ printable

      by_tokens : (x : Result (List Token)) (t : R.Result ℕ Refusal) → Lexes x s t out → tokens_read s ≡ x → Lexes (tokens_read s) s t out
      by_tokens x t k e = subst⁻¹ (λ (y : Result (List Token)). Lexes y s t out) e k

      pub refused_3 : (r : Refusal) → Lexes (question_of 3 (tokens s) accepted) s (Err r) out → Lexes (tokens_read s) s (Err r) out
      unfolding Answered question_of
      refused_3 r l = by_tokens (question_of 3 (tokens s) bracketed) (Err r) (go (tokens s) l) questions_3_4
        where
          go : (x : Option (List Token)) → Lexes (question_of 3 x accepted) s (Err r) out → Lexes (question_of 3 x bracketed) s (Err r) out
          go none k = k
          go (some ts) k = absurd k

      module _ (n : ℕ) (l : Lexes (question_of 3 (tokens s) accepted) s (Ok n) out) where
        pub refused_4 : (Shallow (map (cell_token s) (take n out)) → ⊥) → Lexes (tokens_read s) s (Err TooOpen) out
        unfolding Answered question_of
        refused_4 f = by_tokens (question_of 3 (tokens s) bracketed) (Err TooOpen) (go (tokens s) l) questions_3_4
          where
            go : (x : Option (List Token)) → Lexes (question_of 3 x accepted) s (Ok n) out → Lexes (question_of 3 x bracketed) s (Err TooOpen) out
            go none k = absurd k
            go (some ts) k = lexes_refused s out (bracketed ts) TooOpen (failed 4 (shallow? ts) _ (λ h. f (subst⁻¹ Shallow k.1 h)))

        pub accepted_all : Shallow (map (cell_token s) (take n out)) → Lexes (tokens_read s) s (Ok n) out
        unfolding Answered question_of
        accepted_all h = by_tokens (question_of 3 (tokens s) bracketed) (Ok n) (go (tokens s) l) questions_3_4
          where
            go : (x : Option (List Token)) → Lexes (question_of 3 x accepted) s (Ok n) out → Lexes (question_of 3 x bracketed) s (Ok n) out
            go none k = absurd k
            go (some ts) k = subst⁻¹ (λ (y : Result (List Token)). Lexes y s (Ok n) out) (passed 4 (shallow? ts) (accepted ts) (subst Shallow k.1 h)) k
