-- A summand is its sums, the one side of its conditions, its action and calls, the other side, and brackets; summands are joined by `+`.
use mathlib.Core.Path.{◌≡◌, refl, sym, ap, ◌∙◌}
use mathlib.Core.List.{List, [], ◌++◌, map, append_assoc}
use Prim.Native.Nat.{ℕ, ◌+◌, ◌≤◌, ◌<◌, min}
use native.Mathlib.Omega.{arith}
use lib.ListN.{length, get_or, drop, replicate, length-append}
use lib.Seq.{drop-drop, drop_at}
use Rattle.pcrl.specs.Limits.{frame_width, max_conditions}
use Rattle.pcrl.specs.Tests.{Every}
use Rattle.pcrl.specs.Text.{bytes, byte}
use Rattle.pcrl.specs.Reader.{all}
use Rattle.pcrl.specs.Sheet.{Data, tau, Sig}
use Rattle.pcrl.specs.Table.{Summand}
use Rattle.pcrl.specs.Stream.{variable_code, encode_data, encode_numbers, encode_list, encode_cond, encode_act, encode_call, encode_summand}
use Rattle.pcrl.specs.Right.{RightSorts, RightCond, RightSummand, RightSummands}
use Rattle.laws.specs.Every.{every_at}
use Rattle.rendering.specs.Texts.{joined_text, before_text, behind_text, summand_text, right_text}
use Rattle.terms.specs.Stands.{Stands}
use Rattle.terms.proofs.Places.{count_at, list_end}
use Rattle.evaluation.specs.Known.{KnownTerms}
use Rattle.assignments.specs.declared.Conditions.{Conditions}
use Rattle.opening.specs.Opened.{Prepared}
use Rattle.opening.proofs.Standing.{all_first}
use Rattle.firing.specs.Known.{KnownParts}
use Rattle.firing.proofs.Framing.{byte_at}
use Rattle.firing.proofs.Skipping.{drop_within}
use Rattle.texts.specs.Wrote.{Wrote}
use Rattle.lettering.specs.Named.{Lettered}
use Rattle.clauses.specs.declared.data.TextPut.{TextPut}
use Rattle.clauses.specs.Written.{Ground, Marks, SumsPut, CondsPut, ActionPut, CallsPut, SummandPut}
use Rattle.clauses.proofs.Upto.{Upto, upto_start, upto_more, upto_all, wrote_then, wrote_by}
use Rattle.clauses.proofs.TextLaws.{mark_text, marks_put, joined_first, joined_none, right_none, right_some}
use Rattle.clauses.proofs.ConditionLaws.{conds_at}

-- the conditions stand behind the variables
behind_vars : (s : List ℕ) (from b : ℕ) (vars more : List ℕ) → b ≡ from + 1 + get_or s from 0 → drop from s ≡ encode_numbers vars ++ more → drop b s ≡ more
behind_vars s from b vars more e here =
    let n = length (encode_numbers vars) in
    let z : b ≡ from + n = e ∙ list_end s from vars (more, here) in
    ap (λ (x : ℕ). drop x s) z ∙ sym (drop-drop n from s) ∙ ap (drop n) here ∙ drop_at (encode_numbers vars) more n refl

module _ (s funcs acts params : List ℕ) (l : List ℕ) where
  pub summand_put : (from n : ℕ) (out : List ℕ) (at : ℕ) → at ≤ length out
      → (m b : ℕ) (sizes : List ℕ) (c : Conditions) (o₁ : List ℕ) (a₁ : ℕ) (o₂ : List ℕ) (a₂ : ℕ) (o₃ : List ℕ) (r₃ : TextPut) (o₄ : List ℕ) (r₄ : TextPut) (o₅ : List ℕ) (a₅ : ℕ) (o₆ : List ℕ) (r : TextPut) → m ≡ get_or s from 0 → b ≡ from + 1 + get_or s from 0
      → ((S : Sig) (Γ : List ℕ) (cs : List (ℕ × Data)) (rest : List ℕ) → KnownTerms S s funcs → length Γ ≤ variable_code → Every (RightCond S Γ) cs → length cs ≤ max_conditions → drop b s ≡ encode_list encode_cond cs ++ rest → Prepared s n sizes cs rest c)
      → SumsPut s l from n out at o₁ a₁ → CondsPut s funcs l before_text c.froms c.count o₁ a₁ o₂ a₂ → ActionPut s funcs l acts c.end o₂ a₂ o₃ r₃ → CallsPut s funcs l params r₃.from o₃ r₃.at o₄ r₄ → CondsPut s funcs l behind_text c.froms c.count o₄ r₄.at o₅ a₅
      → Wrote o₅ a₅ (replicate m (byte ")")) o₆ r.at → r.from ≡ min r₄.from (length s) → SummandPut s funcs l acts params from n out at o₆ r
  unfolding summand_text encode_summand RightSummand RightSorts
  summand_put from n out at room m b sizes c o₁ a₁ o₂ a₂ o₃ r₃ o₄ r₄ o₅ a₅ o₆ r em eb conds sums before act calls behind closing er S Ps Δ h rest known parts right en few letters here =
      let Γ : List ℕ = Δ ++ h.vars in
      let k = right.0.0 in
      let short : length Γ ≤ variable_code = omega (arith, length-append Δ h.vars) in
      let g : Ground S s funcs Γ l = record { known = known; short = short; letters = letters } in
      let label : List ℕ = encode_act h.act ++ (all encode_data h.terms ++ (encode_list encode_call h.calls ++ rest)) in
      let stands : drop from s ≡ encode_numbers h.vars ++ (encode_list encode_cond h.conds ++ label) = here ∙ simp append_assoc in
      let vars_stand : Stands s from (encode_numbers h.vars) = (encode_list encode_cond h.conds ++ label, stands) in
      let p = conds S Γ h.conds label known short right.1.0.1 right.1.0.0 (behind_vars s from b h.vars (encode_list encode_cond h.conds ++ label) eb stands) in
      let c_at = conds_at s n sizes h.conds label c p in
      let d = act S Ps params Γ h.act h.terms (encode_list encode_call h.calls ++ rest) g parts right.1.1.0 right.1.1.1.0 p.ends_at in
      let e = calls S Ps acts Γ h.calls rest g parts right.1.1.1.1.1 d.left in
      let brackets : replicate m (byte ")") ≡ replicate (length h.vars) (byte ")") = ap (λ (x : ℕ). replicate x (byte ")")) (em ∙ count_at s from h.vars vars_stand) in
      let first = sums S funcs h.vars known letters right.0.1 (omega arith) vars_stand in
      record {
        wrote = wrote_then room first
            (λ h₁. wrote_then h₁ (before S Γ h.conds g right.1.0.1 c_at)
            (λ h₂. wrote_then h₂ d.wrote (λ h₃. wrote_then h₃ e.wrote (λ h₄. wrote_then h₄ (behind S Γ h.conds g right.1.0.1 c_at) (λ h₅. wrote_by brackets closing)))));
        left = ap (λ (x : ℕ). drop x s) er ∙ drop_within s r₄.from ∙ e.left;
      }

no_summand : Summand
no_summand = record { vars = []; conds = []; act = tau; terms = []; calls = [] }

-- SUMMANDS ONE BEHIND ANOTHER: before the i-th of m, which begins at f

module _ (s funcs acts params : List ℕ) (l : List ℕ) (row n : ℕ) (out : List ℕ) (at : ℕ) where
  abbrev pub RightPut : List ℕ → ℕ → Type 0
  RightPut out' r =
      (S : Sig) (Ps : List (List ℕ)) (Δ : List ℕ) (hs : List Summand) (rest : List ℕ) → KnownTerms S s funcs → KnownParts S Ps s acts params → RightSummands S Ps Δ hs → length Δ ≡ n → n ≤ frame_width → Lettered S l → drop row s ≡ encode_list encode_summand hs ++ rest
      → Wrote out at (right_text S n hs) out' r

  unfoldable pub Joining : ℕ → List ℕ → ℕ → ℕ → ℕ → Type 0
  Joining m out' f p i =
      (S : Sig) (Ps : List (List ℕ)) (Δ : List ℕ) (hs : List Summand) (rest : List ℕ) → KnownTerms S s funcs → KnownParts S Ps s acts params → RightSummands S Ps Δ hs → length Δ ≡ n → n ≤ frame_width → Lettered S l → drop row s ≡ encode_list encode_summand hs ++ rest
      → (m ≡ length hs) × ((drop f s ≡ all encode_summand (drop i hs) ++ rest) × Upto out at (right_text S n hs) out' p (joined_text (bytes "+") (map (summand_text S n) (drop i hs))))

  module _ (m : ℕ) (em : m ≡ get_or s row 0) where
    pub right_delta : (out' : List ℕ) (r : ℕ) → m ≡ 0 → Wrote out at (bytes "delta") out' r → RightPut out' r
    unfolding encode_list
    right_delta out' r z w S Ps Δ hs rest known parts right en few letters here =
        let b = byte_at s row (length hs) (all encode_summand hs ++ rest) here in
        wrote_by (sym (right_none S n hs (sym b.0 ∙ sym em ∙ z))) w

    pub joining_none : at ≤ length out → (m ≡ 0 → ⊥) → Joining m out (row + 1) at 0
    unfolding Joining encode_list
    joining_none room h S Ps Δ hs rest known parts right en few letters here =
        let b = byte_at s row (length hs) (all encode_summand hs ++ rest) here in
        let e : m ≡ length hs = em ∙ b.0 in
        (e, (b.1, upto_start room (right_some S n hs (positive (length hs) (λ z. h (e ∙ z))))))
      where
        positive : (k : ℕ) → (k ≡ 0 → ⊥) → 0 < k
        positive k n = omega arith

    pub joining_more : (mid : List ℕ) (f p i j : ℕ) (o₁ : List ℕ) (r : TextPut) (last : List ℕ) (z : ℕ) → i < m → j ≡ i + 1 → SummandPut s funcs l acts params f n mid p o₁ r → Marks o₁ r.at (byte "+") j m last z
        → Joining m mid f p i → Joining m last r.from z j
    unfolding Joining RightSummands
    joining_more mid f p i j o₁ r last z h ej one mark old S Ps Δ hs rest known parts right en few letters here =
        let (e, (left, u)) = old S Ps Δ hs rest known parts right en few letters here in
        let below : i < length hs = omega arith in
        let text = summand_text S n in
        let t = one S Ps Δ (get_or hs i no_summand) (all encode_summand (drop (i + 1) hs) ++ rest) known parts (every_at (RightSummand S Ps Δ) hs no_summand i right.1 below) en few letters (left ∙ all_first encode_summand hs i no_summand rest below) in
        let q : joined_text (bytes "+") (map text (drop i hs)) ≡ text (get_or hs i no_summand) ++ (mark_text (bytes "+") (drop j hs) ++ joined_text (bytes "+") (map text (drop j hs))) =
        joined_first (bytes "+") text hs i no_summand below ∙ ap (λ (k : ℕ). text (get_or hs i no_summand) ++ (mark_text (bytes "+") (drop k hs) ++ joined_text (bytes "+") (map text (drop k hs)))) (sym ej) in
        (e, (t.left ∙ ap (λ (k : ℕ). all encode_summand (drop k hs) ++ rest) (sym ej), upto_more (upto_more u q t.wrote) refl (marks_put hs no_summand o₁ r.at (byte "+") j m last z e mark)))

    pub joining_all : (out' : List ℕ) (f p i : ℕ) → m ≤ i → Joining m out' f p i → RightPut out' p
    unfolding Joining
    joining_all out' f p i h old S Ps Δ hs rest known parts right en few letters here =
        let (e, (left, u)) = old S Ps Δ hs rest known parts right en few letters here in
        upto_all u (joined_none (bytes "+") (summand_text S n) hs i (omega arith))
