-- What an accepted answer of `sorted-read` and of `sheet-read` says: each question's fact, in order, as one record. From one law for each kind
-- of question.
use Rattle.std.specs.Prelude.{◌≡◌, refl, List, ℕ, T}
use Rattle.std.proofs.Common.{ap, ◌∙◌, subst}
use Rattle.std.proofs.Math.Option.{some}
use Rattle.pcrl.specs.Result.{accepted}
use Rattle.pcrl.specs.Tests.{T?}
use Rattle.pcrl.specs.Bytes.{Short, short?, Printable, printable?}
use Rattle.pcrl.specs.Tokens.{Token, tokens, Shallow, shallow?}
use Rattle.pcrl.specs.Tree.{RawSheet}
use Rattle.pcrl.specs.Grammar.{parse}
use Rattle.pcrl.specs.Counts.{Counted, counted?}
use Rattle.pcrl.specs.Sheet.{Sheet}
use Rattle.pcrl.specs.Names.{resolve}
use Rattle.pcrl.specs.Sorts.{RightlySorted, rightly_sorted?}
use Rattle.pcrl.specs.Circles.{guarded}
use Rattle.pcrl.specs.Answers.{tokens_read, tree_read, sorted_read, sheet_read}
use Rattle.laws.specs.Questions.{question_passes, question_of_passes, after_passes, past_question, past_question_of, past_answer}

-- What questions 1 to 8 have found of the bytes s that were accepted as H.
pub record Resolved (s : List ℕ) (H : Sheet) : Type 0 where
  pub short : Short s
  pub printable : Printable s
  pub found : List Token
  pub all_tokens : tokens s ≡ some found
  pub shallow : Shallow found
  pub raw : RawSheet
  pub form : parse found ≡ some raw
  pub counted : Counted raw
  pub resolved : resolve raw ≡ some H
  pub rightly_sorted : RightlySorted H

-- and questions 1 to 9
pub record Accepted (s : List ℕ) (H : Sheet) : Type 0 where
  pub as_resolved : Resolved s H
  pub no_circle : T (guarded H)

-- An accepted answer says all of it,
pub resolved_all : (s : List ℕ) (H : Sheet) → sorted_read s ≡ accepted H → Resolved s H
unfolding sorted_read tree_read tokens_read
resolved_all s H e =
    past_answer (tree_read s) _ H e (λ R e₀ e₅.
    past_answer (tokens_read s) _ R e₀ (λ ts e₁ e₄.
    past_question 1 (short? s) _ ts e₁ (λ h₁ e₁.
    past_question 2 (printable? s) _ ts e₁ (λ h₂ e₂.
    past_question_of 3 (tokens s) _ ts e₂ (λ us h₃ e₃.
    past_question 4 (shallow? us) _ ts e₃ (λ h₄ k₄.
    past_question_of 5 (parse ts) _ R e₄ (λ Q h₅ k₅.
    past_question 6 (counted? R) _ H e₅ (λ h₆ e₆.
    past_question_of 7 (resolve R) _ H e₆ (λ K h₇ e₇.
    past_question 8 (rightly_sorted? K) _ H e₇ (λ h₈ e₈.
    let z : K ≡ H = cc in
    let y : us ≡ ts = cc in
    let x : Q ≡ R = cc in
    record {
      short = h₁;
      printable = h₂;
      found = ts;
      all_tokens = h₃ ∙ ap some y;
      shallow = subst Shallow y h₄;
      raw = R;
      form = h₅ ∙ ap some x;
      counted = h₆;
      resolved = h₇ ∙ ap some z;
      rightly_sorted = subst RightlySorted z h₈;
    }))))))))))

pub accepted_all : (s : List ℕ) (H : Sheet) → sheet_read s ≡ accepted H → Accepted s H
unfolding sheet_read
accepted_all s H e =
    past_answer (sorted_read s) _ H e (λ K e₈ e₉.
    past_question 9 (T? (guarded K)) _ H e₉ (λ h₉ e.
    let z : K ≡ H = cc in
    record { as_resolved = resolved_all s H (e₈ ∙ ap accepted z); no_circle = subst (λ (K : Sheet). T (guarded K)) z h₉ }))

-- and where all of it holds the answer is so.
pub all_resolved : (s : List ℕ) (H : Sheet) → Resolved s H → sorted_read s ≡ accepted H
unfolding sorted_read tree_read tokens_read
all_resolved s H a =
    after_passes (tree_read s) _ a.raw (accepted H)
    (after_passes (tokens_read s) _ a.found (accepted a.raw)
    (question_passes 1 (short? s) _ _ a.short (λ _.
    question_passes 2 (printable? s) _ _ a.printable (λ _.
    question_of_passes 3 (tokens s) _ a.found a.all_tokens
    ∙ question_passes 4 (shallow? a.found) _ _ a.shallow (λ _. refl))))
    (question_of_passes 5 (parse a.found) _ a.raw a.form))
    (question_passes 6 (counted? a.raw) _ _ a.counted (λ _.
    question_of_passes 7 (resolve a.raw) _ H a.resolved
    ∙ question_passes 8 (rightly_sorted? H) _ _ a.rightly_sorted (λ _. refl)))

pub all_accepted : (s : List ℕ) (H : Sheet) → Accepted s H → sheet_read s ≡ accepted H
unfolding sheet_read
all_accepted s H a = after_passes (sorted_read s) _ H (accepted H) (all_resolved s H a.as_resolved) (question_passes 9 (T? (guarded H)) _ _ a.no_circle (λ _. refl))
