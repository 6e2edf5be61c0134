-- The reader of many lines of a kind: none, or a line and the others; and where the first lines stand.
use mathlib.Core.Path.{◌≡◌, refl, sym, ap, ◌∙◌, subst}
use mathlib.Core.List.{List, ◌∷◌, ◌++◌}
use Prim.Native.Nat.{ℕ, zero, suc, ◌+◌, ◌≤◌, ◌<◌}
use Prim.Native.String.{String}
use native.Mathlib.Decide.{ℕ_discrete}
use native.Mathlib.Omega.{arith}
use borrow.Author.Tests.{ne_eqb}
use lib.ListN.{length, take, get_or, set, length-set, length-append}
use lib.Seq.{get_or-set_same, get_or-set_other}
use Rattle.pcrl.specs.Tokens.{Token}
use Rattle.pcrl.specs.Reader.{Got, missing, found, bind, Reader, all}
use Rattle.pcrl.specs.Grammar.{lines}
use Rattle.laws.specs.Places.{get_or_positive}
use Rattle.parser.specs.Cells.{Symbol}
use Rattle.parser.specs.Reading.{rest, left, Put, Few, Writes}
use Rattle.parser.specs.Runs.{Placed}
use Rattle.parser.specs.Kinds.{kind_of, sort_kind, func_kind, act_kind, proc_kind}
use Rattle.parser.specs.declared.Run.{Run}
use Rattle.parser.proofs.Signs.{Sign, semicolon_sign, sort_sign, func_sign, act_sign, proc_sign}
use Rattle.parser.proofs.Writing.{writes_nothing, writes_then}
use Rattle.parser.proofs.Reading.{on_next, on_other, then_reads, then_expect}
use Rattle.parser.proofs.Reaching.{After, NotBefore, Meets, Reaches, Runs, stray, ran}

pub sort_kind_is : (c : ℕ) → c ≡ 160 → kind_of c ≡ sort_kind
unfolding kind_of
sort_kind_is c e = ap kind_of e

pub func_kind_is : (c : ℕ) → c ≡ 161 → kind_of c ≡ func_kind
unfolding kind_of
func_kind_is c e = ap kind_of e

pub act_kind_is : (c : ℕ) → c ≡ 162 → kind_of c ≡ act_kind
unfolding kind_of
act_kind_is c e = ap kind_of e

pub proc_kind_is : (c : ℕ) → (c ≡ 160 → ⊥) → (c ≡ 161 → ⊥) → (c ≡ 162 → ⊥) → kind_of c ≡ proc_kind
unfolding kind_of
proc_kind_is c n m k = rw (ne_eqb c 160 n, ne_eqb c 161 m, ne_eqb c 162 k, kind_of)

-- the word of a kind is the sign of its cell
pub kind_sign : (c : ℕ) → 160 ≤ c → c ≤ 163 → Sign c (kind_of c).word
unfolding kind_of
kind_sign c g h = by (ℕ_discrete c 160) (ℕ_discrete c 161) (ℕ_discrete c 162)
  where
    by : Dec (c ≡ 160) → Dec (c ≡ 161) → Dec (c ≡ 162) → Sign c (kind_of c).word
    by (yes e) d₁ d₂ = subst (λ n. Sign n (kind_of n).word) (sym e) sort_sign
    by (no n) (yes e) d₂ = subst (λ n. Sign n (kind_of n).word) (sym e) func_sign
    by (no n) (no m) (yes e) = subst (λ n. Sign n (kind_of n).word) (sym e) act_sign
    by (no n) (no m) (no k) = let e : c ≡ 163 = omega arith in subst (λ n. Sign n (kind_of n).word) (sym e) proc_sign

-- ---- places
-- the place of one line, and those of the lines behind it
placed_one : {A : Type 0} {enc : A → List Symbol} {l : A} {ls : List A} {w w₂ n : ℕ} {p p₂ : List ℕ} → Placed enc ls w₂ (n + 1) (set p n w) p₂ → w₂ ≡ w + length (enc l) → Placed enc (l ∷ ls) w n p p₂
unfolding all
placed_one {A} {enc} {l} {ls} {w} {w₂} {n} {p} {p₂} h e = record {
  kept = λ j k. h.kept j (omega arith) ∙ get_or-set_other p n j w 0 (λ z. omega arith);
  new = new;
}
  where
    new : (i : ℕ) → i < suc (length ls) → n + i < length p → get_or p₂ (n + i) 0 ≡ w + length (all enc (take i (l ∷ ls)))
    new zero k m =
        let z : n + 0 ≡ n = omega arith in
        ap (λ j. get_or p₂ j 0) z ∙ h.kept n (omega arith) ∙ get_or-set_same p n w 0 (omega arith) ∙ omega arith
    new (suc i) k m =
        let z : n + suc i ≡ n + 1 + i = omega arith in
        let q = length-append (enc l) (all enc (take i ls)) in
        let r = h.new i (omega arith) (simp length-set (omega arith)) in
        ap (λ j. get_or p₂ j 0) z ∙ r ∙ omega arith

-- ---- runs
-- What is read from `at` on, at every bound above the tokens left, follows from what is read from `from` on, if that is no place past the end.
pub record RunGoes (s toks : List ℕ) {A : Type 0} (enc : A → List Symbol) (word : String) (line : Reader Token A) (at w n : ℕ) (o p : List ℕ) (from v m : ℕ) (o₁ p₁ : List ℕ) : Type 0 where
  pub on : {r : Run} {o' p' : List ℕ} → NotBefore (length toks) from r.at
      → (from ≤ length toks → (g : ℕ) → left toks from < g → Runs s toks enc v o₁ m p₁ r o' p' (lines word line g (rest s toks from)))
      → (f : ℕ) → left toks at < f → Runs s toks enc w o n p r o' p' (lines word line f (rest s toks at))

module _ {s toks : List ℕ} {A : Type 0} {enc : A → List Symbol} {word : String} {line : Reader Token A} {at w n : ℕ} {o p : List ℕ} where
  pub run_start : at ≤ length toks → RunGoes s toks enc word line at w n o p at w n o p
  run_start i = record { on = λ a h. h i }

  pub run_then : {from v m : ℕ} {o₁ p₁ : List ℕ} → RunGoes s toks enc word line at w n o p from v m o₁ p₁ → {from₂ v₂ m₂ : ℕ} {o₂ p₂ : List ℕ} → from ≤ from₂
      → RunGoes s toks enc word line from v m o₁ p₁ from₂ v₂ m₂ o₂ p₂ → RunGoes s toks enc word line at w n o p from₂ v₂ m₂ o₂ p₂
  run_then h b k = record { on = λ a x. h.on (omega arith) (λ i. k.on a x) }

module _ {c : ℕ} {word : String} (S : Sign c word) {A : Type 0} {enc : A → List Symbol} (line : Reader Token A) (s toks : List ℕ) (at w n : ℕ) (o p : List ℕ) where
  pub run_none : at ≤ length toks → (get_or toks at 0 ≡ c → ⊥) → (f : ℕ) → left toks at < f → Runs s toks enc w o n p (record { at = at; w = w; count = n }) o p (lines word line f (rest s toks at))
  unfolding lines all
  run_none i m zero l = absurd (omega arith)
  run_none i m (suc f) l =
      subst (λ g. Runs s toks enc w o n p (record { at = at; w = w; count = n }) o p g) (sym (on_other S s toks at _ _ m))
      (ran i writes_nothing (omega arith) (λ few room big. record { kept = λ j k. refl; new = λ j k. absurd (omega arith) }))

  module _ {v w₁ : ℕ} {p₁ : List ℕ} (e : get_or toks at 0 ≡ c) (sv : w < 65536 → v ≡ w) (q : Put p n v w₁ p₁) {at₂ w₂ : ℕ} {o₂ : List ℕ} (h : Reaches s toks enc w o at₂ w₂ o₂ (line (rest s toks (at + 1))))
      {at₃ : ℕ} (a₃ : After (length toks) at₂ at₃) (x : Meets toks at₂ 59 at₃) (b : at < at₃) {r : Run} {o₃ p₃ : List ℕ} (a₄ : NotBefore (length toks) at₃ r.at)
      (hs : at₃ ≤ length toks → (f : ℕ) → left toks at₃ < f → Runs s toks enc w₂ o₂ (n + 1) p₁ r o₃ p₃ (lines word line f (rest s toks at₃))) where
    -- a line before the others
    run_cons : (l : A) → Writes s toks (enc l) w o w₂ o₂ → (g : Got Token (List A)) → Runs s toks enc w₂ o₂ (n + 1) p₁ r o₃ p₃ g → Runs s toks enc w o n p r o₃ p₃ (bind g (λ ls ts. found (l ∷ ls) ts))
    unfolding bind all
    run_cons l u missing (stray m) = stray m
    run_cons l u (found ls ts) (ran i z k pl) = ran {ls = l ∷ ls} i (writes_then u z) (omega arith) placed
      where
        placed : Few toks → w + length (enc l ++ all enc ls) ≤ length o → length o < 65536 → Placed enc (l ∷ ls) w n p p₃
        placed few room big =
            let y = length-append (enc l) (all enc ls) in
            let a = u.with_room few (omega arith) in
            let a₁ = a.same in
            let a₂ = a.next in
            placed_one (subst (λ p. Placed enc ls w₂ (n + 1) p p₃) (q.cells ∙ ap (set p n) (sv (omega arith))) (pl few (omega arith) (omega arith))) a.next

    pub run_more : (f : ℕ) → left toks at < f → Runs s toks enc w o n p r o₃ p₃ (lines word line f (rest s toks at))
    unfolding lines
    run_more zero l = absurd (omega arith)
    run_more (suc f) l =
        let t = S.some in
        let d = get_or_positive toks at (omega arith) in
        subst (λ g. Runs s toks enc w o n p r o₃ p₃ g) (sym (on_next S s toks at _ _ e))
        (then_reads s toks (λ g. Runs s toks enc w o n p r o₃ p₃ g) _ h (λ k. stray (omega arith))
        (λ y i u. then_expect s toks (λ g. Runs s toks enc w o n p r o₃ p₃ g) semicolon_sign at₂ x _ (λ k. stray (omega arith))
        (λ j. run_cons y u (lines word line f (rest s toks at₃)) (hs j f (omega arith)))))
