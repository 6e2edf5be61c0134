-- Conditions that stand in the stream: what is written of each on either side, and of all of them.
use mathlib.Core.Path.{◌≡◌, refl, sym, ap, ◌∙◌}
use mathlib.Core.List.{List, ◌++◌}
use Prim.Native.Nat.{ℕ, ◌+◌, ◌-◌, ◌≤◌, ◌<◌, min}
use native.Mathlib.Omega.{arith}
use lib.ListN.{length, get_or, drop, take-append-drop}
use Rattle.pcrl.specs.Tests.{Every}
use Rattle.pcrl.specs.Text.{bytes, byte}
use Rattle.pcrl.specs.Sheet.{Data, Sig}
use Rattle.pcrl.specs.Stream.{variable_code, encode_data}
use Rattle.pcrl.specs.Right.{RightTerm, RightCond}
use Rattle.laws.specs.Every.{every_at}
use Rattle.rendering.specs.Texts.{data_text, condition_text, first_text, second_text, before_text, behind_text}
use Rattle.evaluation.specs.Known.{KnownTerms}
use Rattle.assignments.specs.declared.Conditions.{Conditions}
use Rattle.opening.specs.Opened.{no_cond, Prepared}
use Rattle.texts.specs.Wrote.{Wrote}
use Rattle.texts.proofs.Writing.{wrote_nothing}
use Rattle.lettering.specs.Named.{Lettered}
use Rattle.clauses.specs.declared.data.TextPut.{TextPut}
use Rattle.clauses.specs.Terms.{Puts}
use Rattle.clauses.specs.Written.{Ground, CondsAt, Marks, CondPut, CondsPut}
use Rattle.clauses.proofs.Upto.{Upto, upto_start, upto_more, upto_all, wrote_then, wrote_by}
use Rattle.clauses.proofs.TextLaws.{mark_text, marks_put, first_none, first_whole, second_none, second_whole, before_first, before_none, behind_first, behind_none}

-- conditions that were found stand at their places
pub conds_at : (s : List ℕ) (p : ℕ) (sizes : List ℕ) (cs : List (ℕ × Data)) (rest : List ℕ) (r : Conditions) → Prepared s p sizes cs rest r → CondsAt s cs r.froms r.count
conds_at s p sizes cs rest r w = record {
  count_is = w.count_is;
  each_at = λ i h.
      let t = w.stood i h in
      let from = get_or r.froms i 0 in
      let n = get_or r.ends i 0 - (from + 1) in
      let left : List ℕ = drop n (drop (from + 1) s) in
      record {
        wanted = t.wanted_is;
        inside = omega (arith, t.some_term, t.inside);
        rest = left;
        there = sym (take-append-drop n (drop (from + 1) s)) ∙ ap (λ (x : List ℕ). x ++ left) t.code_is;
      };
}

-- what a condition is between its marks
abbrev pub whole_text : Sig → ℕ × Data → List ℕ
whole_text S c = condition_text S c.1

module _ (s funcs : List ℕ) (l : List ℕ) where
  -- ONE CONDITION

  module _ (from : ℕ) (out : List ℕ) (at : ℕ) (room : at ≤ length out) where
    pub condition_put : (b : ℕ) (o₁ : List ℕ) (a : ℕ) (o₂ : List ℕ) (r : TextPut) (o₃ : List ℕ) (z : ℕ) → b ≡ min from (length s) + 1 → Wrote out at (bytes "<|") o₁ a
        → ((S : Sig) (Γ : List ℕ) (D : ℕ) (d : Data) (rest : List ℕ) → KnownTerms S s funcs → length Γ ≤ variable_code → RightTerm S Γ D d → Lettered S l → drop b s ≡ encode_data d ++ rest → Puts s o₁ a (data_text S d) rest r o₂)
        → Wrote o₂ r.at (bytes "|>") o₃ z → CondPut s funcs l whole_text from out at o₃ z
    unfolding RightCond
    condition_put b o₁ a o₂ r o₃ z eb w₁ term w₃ S Γ c g right c_at =
        let k = c_at.inside in
        let e : b ≡ from + 1 = omega arith in
        let t = term S Γ 0 c.1 c_at.rest g.known g.short right.1 g.letters (ap (λ (x : ℕ). drop x s) e ∙ c_at.there) in
        wrote_then room w₁ (λ h₁. wrote_then h₁ t.wrote (λ h₂. w₃))

    module _ (b : ℕ) (eb : b ≡ get_or s from 0) where
      pub first_put_none : (b ≡ 0 → ⊥) → CondPut s funcs l first_text from out at out at
      first_put_none n S Γ c g right c_at = wrote_by (sym (first_none S c (λ e. n (eb ∙ c_at.wanted ∙ e)))) (wrote_nothing out at room)

      pub first_put_whole : (o₁ : List ℕ) (a : ℕ) (o₂ : List ℕ) (z : ℕ) → b ≡ 0 → Wrote out at (bytes "delta") o₁ a → CondPut s funcs l whole_text from o₁ a o₂ z → CondPut s funcs l first_text from out at o₂ z
      first_put_whole o₁ a o₂ z y w cond S Γ c g right c_at = wrote_by (sym (first_whole S c (sym c_at.wanted ∙ sym eb ∙ y))) (wrote_then room w (λ h. cond S Γ c g right c_at))

      pub second_put_none : b ≡ 0 → CondPut s funcs l second_text from out at out at
      second_put_none y S Γ c g right c_at = wrote_by (sym (second_none S c (sym c_at.wanted ∙ sym eb ∙ y))) (wrote_nothing out at room)

      pub second_put_whole : (o₁ : List ℕ) (a : ℕ) (o₂ : List ℕ) (z : ℕ) → (b ≡ 0 → ⊥) → CondPut s funcs l whole_text from out at o₁ a → Wrote o₁ a (bytes "delta") o₂ z → CondPut s funcs l second_text from out at o₂ z
      second_put_whole o₁ a o₂ z n cond w S Γ c g right c_at = wrote_by (sym (second_whole S c (λ e. n (eb ∙ c_at.wanted ∙ e)))) (wrote_then room (cond S Γ c g right c_at) (λ h. w))

  -- ALL CONDITIONS, before what they guard: those before i are written

  unfoldable pub Opening : List ℕ → ℕ → List ℕ → ℕ → List ℕ → ℕ → ℕ → Type 0
  Opening froms n out at out' p i =
      (S : Sig) (Γ : List ℕ) (cs : List (ℕ × Data)) → Ground S s funcs Γ l → Every (RightCond S Γ) cs → CondsAt s cs froms n → Upto out at (before_text S cs) out' p (before_text S (drop i cs))

  -- and behind it: those from i on are written
  unfoldable pub Closing : List ℕ → ℕ → List ℕ → ℕ → List ℕ → ℕ → ℕ → Type 0
  Closing froms n out at out' p i =
      (S : Sig) (Γ : List ℕ) (cs : List (ℕ × Data)) → Ground S s funcs Γ l → Every (RightCond S Γ) cs → CondsAt s cs froms n → Wrote out at (behind_text S (drop i cs)) out' p

  module _ (froms : List ℕ) (n : ℕ) (out : List ℕ) (at : ℕ) (room : at ≤ length out) where
    pub opening_none : Opening froms n out at out at 0
    unfolding Opening
    opening_none S Γ cs g right c_at = upto_start room refl

    pub opening_more : (mid : List ℕ) (p i j : ℕ) (o₁ : List ℕ) (q : ℕ) (last : List ℕ) (z : ℕ) → i < n → j ≡ i + 1 → CondPut s funcs l first_text (get_or froms i 0) mid p o₁ q → Marks o₁ q (byte "(") j n last z
        → Opening froms n out at mid p i → Opening froms n out at last z j
    unfolding Opening
    opening_more mid p i j o₁ q last z h ej cond mark old S Γ cs g right c_at =
        let en = c_at.count_is in
        let below : i < length cs = omega arith in
        let u = old S Γ cs g right c_at in
        let w = cond S Γ (get_or cs i no_cond) g (every_at (RightCond S Γ) cs no_cond i right below) (c_at.each_at i below) in
        let e : before_text S (drop i cs) ≡ first_text S (get_or cs i no_cond) ++ (mark_text (bytes "(") (drop j cs) ++ before_text S (drop j cs)) =
        before_first S cs i below ∙ ap (λ (k : ℕ). first_text S (get_or cs i no_cond) ++ (mark_text (bytes "(") (drop k cs) ++ before_text S (drop k cs))) (sym ej) in
        upto_more (upto_more u e w) refl (marks_put cs no_cond o₁ q (byte "(") j n last z en mark)

    pub opening_all : (out' : List ℕ) (p i : ℕ) → n ≤ i → Opening froms n out at out' p i → CondsPut s funcs l before_text froms n out at out' p
    unfolding Opening
    opening_all out' p i h old S Γ cs g right c_at = let en = c_at.count_is in upto_all (old S Γ cs g right c_at) (before_none S cs i (omega arith))

    pub closing_start : (i : ℕ) → i ≡ n → Closing froms n out at out at i
    unfolding Closing
    closing_start i e S Γ cs g right c_at = let en = c_at.count_is in wrote_by (sym (behind_none S cs i (omega arith))) (wrote_nothing out at room)

    pub closing_more : (mid : List ℕ) (p i j : ℕ) (o₁ : List ℕ) (q : ℕ) (last : List ℕ) (z : ℕ) → i ≤ n → i ≡ j + 1 → Marks mid p (byte ")") (j + 1) n o₁ q → CondPut s funcs l second_text (get_or froms j 0) o₁ q last z
        → Closing froms n out at mid p i → Closing froms n out at last z j
    unfolding Closing
    closing_more mid p i j o₁ q last z h ei mark cond old S Γ cs g right c_at =
        let en = c_at.count_is in
        let below : j < length cs = omega arith in
        let w = cond S Γ (get_or cs j no_cond) g (every_at (RightCond S Γ) cs no_cond j right below) (c_at.each_at j below) in
        let e : behind_text S (drop i cs) ++ (mark_text (bytes ")") (drop (j + 1) cs) ++ second_text S (get_or cs j no_cond)) ≡ behind_text S (drop j cs) =
        ap (λ (k : ℕ). behind_text S (drop k cs) ++ (mark_text (bytes ")") (drop (j + 1) cs) ++ second_text S (get_or cs j no_cond))) ei ∙ sym (behind_first S cs j below) in
        wrote_by e (wrote_then room (old S Γ cs g right c_at) (λ h₁. wrote_then h₁ (marks_put cs no_cond mid p (byte ")") (j + 1) n o₁ q en mark) (λ h₂. w)))

    pub closing_all : (out' : List ℕ) (p i : ℕ) → i ≡ 0 → Closing froms n out at out' p i → CondsPut s funcs l behind_text froms n out at out' p
    unfolding Closing
    closing_all out' p i e old S Γ cs g right c_at = wrote_by (ap (λ (k : ℕ). behind_text S (drop k cs)) e) (old S Γ cs g right c_at)
