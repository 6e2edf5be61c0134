-- The conditions of a summand in the stream hold for those assignments that meet them: what `conditions` and `find` answer together, and what is answered where there are none.
use mathlib.Core.Path.{◌≡◌, refl, ap, ap₂, sym, subst, fun_ext, ◌∙◌}
use mathlib.Core.List.{List, [], ◌∷◌, ◌++◌}
use mathlib.Core.Bool.{Bool, true, false}
use Prim.Native.Nat.{ℕ, zero, suc, ◌+◌, ◌<◌, ◌≤◌}
use native.Mathlib.Omega.{arith}
use lib.Dec.{eqb, ltb}
use lib.ListN.{length, get_or, drop}
use borrow.Author.Tests.{eq-eqb, ltb-true, ltb-false, eqb-true}
use Rattle.pcrl.specs.Limits.{max_conditions}
use Rattle.pcrl.specs.Tests.{and, Every}
use Rattle.pcrl.specs.Reader.{all}
use Rattle.pcrl.specs.Sheet.{Data, Sig}
use Rattle.pcrl.specs.Values.{eval}
use Rattle.pcrl.specs.Stream.{variable_code, encode_list, encode_cond}
use Rattle.pcrl.specs.Steps.{Meets}
use Rattle.pcrl.specs.Right.{RightCond}
use Rattle.laws.specs.Every.{every_at, at_every}
use Rattle.laws.specs.Says.{Says}
use Rattle.evaluation.specs.Run.{top, run}
use Rattle.evaluation.specs.Known.{KnownTerms}
use Rattle.evaluation.proofs.Terms.{value_is}
use Rattle.assignments.specs.Places.{product, digits_of, places}
use Rattle.assignments.specs.Conditions.{env, holds, all_below, met, Ready, Finds}
use Rattle.assignments.proofs.Blocks.{all_true}
use Rattle.assignments.specs.declared.Conditions.{Conditions}
use Rattle.opening.specs.Opened.{no_cond, Prepared}
use Rattle.opening.proofs.Standing.{conds_start}
use Rattle.firing.specs.Known.{Valued}
use Rattle.firing.specs.Seeks.{Seeks}
use Rattle.firing.specs.declared.Sought.{Sought}

all_pass : (n : ℕ) (t : ℕ → Bool) → all_below n t ≡ true → (i : ℕ) → i < n → t i ≡ true
unfolding all_below
all_pass zero t e i h = absurd (omega arith)
all_pass (suc n) t e i h = go (t n) refl (all_below n t) refl e (λ q. all_pass n t q i)
  where
    go : (a : Bool) → t n ≡ a → (b : Bool) → all_below n t ≡ b → and (t n) (all_below n t) ≡ true → (all_below n t ≡ true → i < n → t i ≡ true) → t i ≡ true
    go false p b q r ih = absurd (let z : false ≡ true = rw (p) at r in let y : ◌≡◌ {A = ℕ} 0 1 = cc in omega arith)
    go true p false q r ih = absurd (let z : false ≡ true = rw (p, q) at r in let y : ◌≡◌ {A = ℕ} 0 1 = cc in omega arith)
    go true p true q r ih = place (ltb i n) refl
      where
        place : (c : Bool) → ltb i n ≡ c → t i ≡ true
        place true k = ih q (ltb-true i n k)
        place false k = let l = ltb-false i n k in let z : i ≡ n = omega arith in ap t z ∙ p

-- ONE ASSIGNMENT

module _ (S : Sig) (s funcs e Γ vs : List ℕ) (valued : Valued S s funcs e Γ vs) (cs : List (ℕ × Data)) (right : Every (RightCond S Γ) cs) (p : ℕ) (sizes rest : List ℕ) (c : Conditions) (prepared : Prepared s p sizes cs rest c) where
  abbrev held : ℕ → Bool
  held i = holds s funcs e (get_or c.froms i 0) (get_or c.ends i 0)

  -- a condition holds in the stream if its term has the wanted value
  holds_is : (i : ℕ) → i < length cs → held i ≡ eqb (eval S vs (get_or cs i no_cond).1) (get_or cs i no_cond).0
  unfolding RightCond
  holds_is i k =
      let t = prepared.stood i k in
      let r = every_at (RightCond S Γ) cs no_cond i right k in
      ap₂ eqb
      (ap (λ (l : List ℕ). top (run s funcs e l)) t.code_is ∙ value_is S s funcs valued.known Γ valued.short vs valued.in_sorts e (get_or cs i no_cond).1 0 valued.alike r.1.0)
      t.wanted_is

  -- all hold if and only if they are met
  met_is : (b : Bool) → Says b (Meets S vs cs) → met s funcs c.froms c.ends c.count e ≡ b
  unfolding Meets
  met_is true m =
      all_true c.count held (λ i k.
      let n = prepared.count_is in
      let below : i < length cs = omega arith in
      holds_is i below ∙ eq-eqb _ _ (every_at (λ (x : ℕ × Data). eval S vs x.1 ≡ x.0) cs no_cond i m below))
  met_is false m = go (all_below c.count held) refl
    where
      go : (b : Bool) → all_below c.count held ≡ b → all_below c.count held ≡ false
      go false q = q
      go true q =
          absurd (m (at_every (λ (x : ℕ × Data). eval S vs x.1 ≡ x.0) cs no_cond (λ i k.
          let n = prepared.count_is in
          eqb-true _ _ (sym (holds_is i k) ∙ all_pass c.count held q i (omega arith)))))

-- ALL OF THEM

ready : (s : List ℕ) (p : ℕ) (sizes rest : List ℕ) (cs : List (ℕ × Data)) (c : Conditions) → Prepared s p sizes cs rest c → (i : ℕ) → i < c.count → Ready s p sizes c.froms c.ends c.blocks c.reach c.low i
ready s p sizes rest cs c prepared i h =
    let n = prepared.count_is in
    let t = prepared.stood i (omega arith) in
    record { some_term = t.some_term; short = t.short; inside = t.inside; block_is = t.block_is; below = t.below; above = t.above }

true_said : {P : Type 0} (b : Bool) → Says b P → P → b ≡ true
true_said true s h = refl
true_said false s h = absurd (s h)

module _ (s funcs first sizes : List ℕ) (p at k : ℕ) (r : Sought) where
  pub seeks_any : get_or s at 0 ≡ 0 → r.end ≡ at + 1 → ((acc : ℕ → Bool) → ((i : ℕ) → acc i ≡ true) → Finds (places acc (product sizes) 0) k r.found) → Seeks s funcs first p sizes at k r
  unfolding Seeks Meets Every all
  seeks_any none e any S Γ rest [] whole acc valued said right few here = (any acc (λ j. true_said (acc j) (said j) tt), ap (λ (x : ℕ). drop x s) e ∙ (conds_start s at [] rest here).1)
  seeks_any none e any S Γ rest (x ∷ cs) whole acc valued said right few here = absurd (omega (arith, (conds_start s at (x ∷ cs) rest here).0))

  pub seeks_met : (c : Conditions) → r.end ≡ c.end
      → ((S : Sig) (Γ : List ℕ) (cs : List (ℕ × Data)) (rest : List ℕ) → KnownTerms S s funcs → length Γ ≤ variable_code → Every (RightCond S Γ) cs → length cs ≤ max_conditions → drop at s ≡ encode_list encode_cond cs ++ rest → Prepared s p sizes cs rest c)
      → (((i : ℕ) → i < c.count → Ready s p sizes c.froms c.ends c.blocks c.reach c.low i) → Finds (places (λ j. met s funcs c.froms c.ends c.count (env p first (digits_of sizes j))) (product sizes) 0) k r.found)
      → Seeks s funcs first p sizes at k r
  unfolding Seeks
  seeks_met c e conds finds S Γ rest cs whole acc valued said right few here =
      let prepared : Prepared s p sizes cs rest c = conds S Γ cs rest (valued 0).known (valued 0).short right few here in (
        subst (λ (t : ℕ → Bool). Finds (places t (product sizes) 0) k r.found) (fun_ext (λ j. met_is S s funcs (env p first (digits_of sizes j)) Γ (whole j) (valued j) cs right p sizes rest c prepared (acc j) (said j))) (finds (ready s p sizes rest cs c prepared)),
        ap (λ (x : ℕ). drop x s) e ∙ prepared.ends_at,
      )
