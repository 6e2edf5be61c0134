-- The letters before an index: no name that is taken begins with them, and every shorter run of the letter begins one. So it is repeated as few
-- times as can be.
use Rattle.std.specs.Prelude.{◌≡◌, refl, List, [], ◌∷◌, Bool, true, false, ℕ, zero, suc, ◌≤◌, ◌<◌, eqb, length, take, replicate}
use Rattle.std.proofs.Common.{ap₂, sym, subst, arith}
use Rattle.std.proofs.Math.Decide.{dec_le}
use Rattle.std.proofs.Math.ListN.{length-replicate}
use Rattle.pcrl.specs.Tests.{Every}
use Rattle.pcrl.specs.Tokens.{run}
use Rattle.pcrl.specs.Tree.{Name}
use Rattle.pcrl.specs.Steps.{Any, here, there}
use Rattle.pcrl.specs.Letters.{longest_run, letters}
use Rattle.laws.specs.Tests.{eqb_self, eqb_true}
use Rattle.laws.specs.Every.{every_weaken}

-- the name begins with these bytes
unfoldable pub Begins : List ℕ → Name → Type 0
Begins w n = take (length w) n ≡ w

-- a name begins with k times a letter exactly if its run of that letter is not shorter
run_begins : (b k : ℕ) (n : Name) → k ≤ run (eqb b) n → take k n ≡ replicate k b
unfolding run
run_begins b zero n h = refl
run_begins b (suc k) [] h = absurd (omega arith)
run_begins b (suc k) (c ∷ n) h = by (eqb b c) refl h (run_begins b k n)
  where
    by : (t : Bool) → eqb b c ≡ t → suc k ≤ elim t [ true ↦ suc (run (eqb b) n) | false ↦ 0 ] → (k ≤ run (eqb b) n → take k n ≡ replicate k b) → c ∷ take k n ≡ b ∷ replicate k b
    by true e g next = ap₂ ◌∷◌ (sym (eqb_true b c e)) (next (omega arith))
    by false e g next = absurd (omega arith)

begins_run : (b k : ℕ) (n : Name) → take k n ≡ replicate k b → k ≤ run (eqb b) n
unfolding run
begins_run b zero n e = omega arith
begins_run b (suc k) [] e = absurd (let z : ◌≡◌ {A = ℕ} 0 1 = cc in omega arith)
begins_run b (suc k) (c ∷ n) e =
    let h : b ≡ c = cc in
    let i : eqb b c ≡ true = rw (← h) (eqb_self b) in
    let l : take k n ≡ replicate k b = cc in
    rw (i, run) (omega (arith, begins_run b k n l))

begins_replicate : (b k : ℕ) (n : Name) → k ≤ run (eqb b) n → Begins (replicate k b) n
unfolding Begins
begins_replicate b k n h = rw (length-replicate k b) (run_begins b k n h)

begun_replicate : (b k : ℕ) (n : Name) → Begins (replicate k b) n → k ≤ run (eqb b) n
unfolding Begins
begun_replicate b k n e = begins_run b k n (subst (λ (j : ℕ). take j n ≡ replicate k b) (length-replicate k b) e)

-- no name has a longer run than the longest
none_longer : (b : ℕ) (ns : List Name) → Every (λ n. run (eqb b) n ≤ longest_run b ns) ns
unfolding Every longest_run
none_longer b [] = tt
none_longer b (n ∷ ns) = (omega arith, every_weaken _ _ (λ m h. omega arith) ns (none_longer b ns))

-- and one has it, if it is a run at all
one_has : (b k : ℕ) (ns : List Name) → 1 ≤ k → k ≤ longest_run b ns → Any (Begins (replicate k b)) ns
unfolding longest_run
one_has b k [] h l = absurd (omega arith)
one_has b k (n ∷ ns) h l = elim (dec_le k (run (eqb b) n)) [ yes g ↦ here (begins_replicate b k n g) | no g ↦ there (one_has b k ns h (omega arith)) ]

module _ (names : List Name) (b : ℕ) where
  -- NONE OF THE NAMES BEGINS WITH THE LETTERS,
  pub letters_free : Every (λ n. ¬ (Begins (letters names b) n)) names
  unfolding letters
  letters_free =
      let longest = longest_run b names in
      every_weaken _ _ (λ n h e. let k = begun_replicate b (suc longest) n e in omega arith) names
      (none_longer b names)

  -- AND ONE BEGINS WITH EVERY SHORTER RUN of one letter or more.
  pub letters_least : (k : ℕ) → 1 ≤ k → k < length (letters names b) → Any (Begins (replicate k b)) names
  unfolding letters
  letters_least k h l = one_has b k names h (let z = length-replicate (suc (longest_run b names)) b in omega arith)
