-- The sums of variables whose count and sorts stand in the stream, one behind another.
use mathlib.Core.Path.{◌≡◌, ap, ap₂, ◌∙◌}
use mathlib.Core.List.{List, ◌++◌}
use Prim.Native.Nat.{ℕ, ◌+◌, ◌≤◌, ◌<◌}
use native.Mathlib.Omega.{arith}
use lib.ListN.{length, get_or, drop}
use Rattle.pcrl.specs.Text.{bytes}
use Rattle.pcrl.specs.Sheet.{Sig}
use Rattle.pcrl.specs.Stream.{encode_numbers}
use Rattle.pcrl.specs.Right.{AreSorts}
use Rattle.laws.specs.Every.{every_at}
use Rattle.rendering.specs.Texts.{sum_text, sums_text}
use Rattle.terms.specs.Stands.{Stands}
use Rattle.terms.proofs.Places.{count_at, item_at}
use Rattle.evaluation.specs.Known.{KnownTerms}
use Rattle.texts.specs.Wrote.{Wrote}
use Rattle.lettering.specs.Named.{Lettered}
use Rattle.lettering.proofs.Laws.{var_is, sort_is}
use Rattle.clauses.specs.Written.{sum_by, SumsPut}
use Rattle.clauses.proofs.Upto.{Upto, upto_start, upto_more, upto_all, wrote_by}
use Rattle.clauses.proofs.TextLaws.{sums_first, sums_none}

sum_is : (S : Sig) (l : List ℕ) → Lettered S l → (i D : ℕ) → i < 256 → D < length S.sorts → sum_by l i D ≡ sum_text S i D
unfolding sum_text
sum_is S l known i D hi hD = ap₂ (λ (v t : List ℕ). bytes "sum(" ++ (v ++ (bytes ":" ++ (t ++ bytes ",")))) (var_is S l known i hi) (sort_is S l known D hD)

-- what is written before the i-th of m sums
unfoldable pub Summing : List ℕ → List ℕ → ℕ → ℕ → ℕ → List ℕ → ℕ → List ℕ → ℕ → ℕ → Type 0
Summing s l from n m out at out' p i =
    (S : Sig) (funcs vars : List ℕ) → KnownTerms S s funcs → Lettered S l → AreSorts S.sorts vars → n + length vars ≤ 256 → Stands s from (encode_numbers vars)
    → (m ≡ length vars) × Upto out at (sums_text S n vars) out' p (sums_text S (n + i) (drop i vars))

module _ (s : List ℕ) (l : List ℕ) (from n m : ℕ) (out : List ℕ) (at : ℕ) where
  pub summing_none : at ≤ length out → m ≡ get_or s from 0 → Summing s l from n m out at out at 0
  unfolding Summing
  summing_none h em S funcs vars known letters sorts few st =
      let z : n ≡ n + 0 = omega arith in
      (em ∙ count_at s from vars st, upto_start h (ap (λ (k : ℕ). sums_text S k vars) z))

  pub summing_more : (mid : List ℕ) (p i d : ℕ) (last : List ℕ) (z : ℕ) → i < m → d ≡ get_or s (from + 1 + i) 0 → Wrote mid p (sum_by l (n + i) d) last z → Summing s l from n m out at mid p i → Summing s l from n m out at last z (i + 1)
  unfolding Summing
  summing_more mid p i d last z h ed w old S funcs vars known letters sorts few st =
      let (em, u) = old S funcs vars known letters sorts few st in
      let below : i < length vars = omega arith in
      let e : d ≡ get_or vars i 0 = ed ∙ item_at s from vars st i below in
      let D : get_or vars i 0 < length S.sorts = every_at (λ D. D < length S.sorts) vars 0 i sorts below in
      let q : sum_by l (n + i) d ≡ sum_text S (n + i) (get_or vars i 0) = ap (sum_by l (n + i)) e ∙ sum_is S l letters (n + i) (get_or vars i 0) (omega arith) D in
      (em, upto_more u (sums_first S n vars i below) (wrote_by q w))

  pub summing_all : (out' : List ℕ) (p i : ℕ) → m ≤ i → Summing s l from n m out at out' p i → SumsPut s l from n out at out' p
  unfolding Summing
  summing_all out' p i h old S funcs vars known letters sorts few st =
      let (em, u) = old S funcs vars known letters sorts few st in
      upto_all u (sums_none S n vars i (omega arith))
