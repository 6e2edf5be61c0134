-- Answers as places: a wrong form is the place behind the end, so that the laws of readers say one thing of both outcomes.
use Rattle.std.specs.Prelude as R
use Rattle.std.specs.Prelude.{IfSome}
use mathlib.Core.Path.{◌≡◌, refl, subst⁻¹}
use mathlib.Core.List.{List, []}
use Prim.Native.Nat.{ℕ, suc, ◌+◌, ◌≤◌, ◌<◌, min}
use native.Mathlib.Omega.{arith}
use lib.ListN.{length, get_or, set}
use Rattle.pcrl.specs.Tokens.{Token}
use Rattle.pcrl.specs.Reader.{Got, missing, found, all}
use Rattle.laws.specs.Places.{get_or_positive}
use Rattle.parser.specs.Cells.{Symbol}
use Rattle.parser.specs.Reading.{rest, Ahead, Put, Few, Writes, Expected, stands, other, Closed, closing, unclosed, Reads, none, one}
use Rattle.parser.specs.Runs.{Placed, Ran, no_lines, some_lines}
use Rattle.parser.specs.declared.Step.{Step}
use Rattle.parser.specs.declared.Run.{Run}

-- The next place is a later one, or past the end of n tokens.
abbrev pub After : ℕ → ℕ → ℕ → Type 0
After n at next = min (suc at) (suc n) ≤ next

-- It is no earlier one, or past the end.
abbrev pub NotBefore : ℕ → ℕ → ℕ → Type 0
NotBefore n at next = min at (suc n) ≤ next

-- The sign stands next: the place behind it, or one past the end.
pub data Meets (toks : List ℕ) (at sign : ℕ) : ℕ → Type 0 where
  next : get_or toks at 0 ≡ sign → Meets toks at sign (at + 1)
  wrong : (get_or toks at 0 ≡ sign → ⊥) → Meets toks at sign (length toks + 1)

-- Where the definition's reader finds a value, it is written and `next` stands behind it; else `next` is past the end.
pub data Reaches (s toks : List ℕ) {A : Type 0} (enc : A → List Symbol) (w : ℕ) (o : List ℕ) (next w' : ℕ) (o' : List ℕ) : Got Token A → Type 0 where
  lost : length toks < next → Reaches s toks enc w o next w' o' missing
  took : {a : A} → next ≤ length toks → Writes s toks (enc a) w o w' o' → Reaches s toks enc w o next w' o' (found a (rest s toks next))

-- the same of lines
pub data Runs (s toks : List ℕ) {A : Type 0} (enc : A → List Symbol) (w : ℕ) (o : List ℕ) (n : ℕ) (p : List ℕ) (r : Run) (o' p' : List ℕ) : Got Token (List A) → Type 0 where
  stray : length toks < r.at → Runs s toks enc w o n p r o' p' missing
  ran : {ls : List A} → r.at ≤ length toks → Writes s toks (all enc ls) w o r.w o' → r.count ≡ n + length ls
      → (Few toks → w + length (all enc ls) ≤ length o → length o < 65536 → Placed enc ls w n p p')
      → Runs s toks enc w o n p r o' p' (found ls (rest s toks r.at))

-- ---- the place, the next free cell of an answer
abbrev pub place : ℕ → R.Option Step → ℕ
place n R.None = n + 1
place n (R.Some r) = r.at

abbrev pub free : R.Option Step → ℕ
free R.None = 0
free (R.Some r) = r.w

abbrev pub spot : ℕ → R.Option ℕ → ℕ
spot n R.None = n + 1
spot n (R.Some p) = p

abbrev pub run_of : ℕ → R.Option Run → Run
run_of n R.None = record { at = n + 1; w = 0; count = 0 }
run_of n (R.Some r) = r

pub meets : {toks : List ℕ} {at sign : ℕ} {r : R.Option ℕ} → Expected toks at sign r → Meets toks at sign (spot (length toks) r)
meets (stands e) = next e
meets (other n) = wrong n

-- a bracket is closed as its sign is expected
pub closed_some : {toks : List ℕ} {a : Step} {p : ℕ} → Expected toks a.at 41 (R.Some p) → Closed toks a (R.Some (record { at = p; w = a.w }))
closed_some (stands e) = closing e

pub closed_none : {toks : List ℕ} {a : Step} → Expected toks a.at 41 R.None → Closed toks a R.None
closed_none (other n) = unclosed n

-- past the end stands no sign
pub past_end : (toks : List ℕ) (c : ℕ) → 0 < c → get_or toks (length toks + 1) 0 ≡ c → ⊥
past_end toks c l e = let k = get_or_positive toks (length toks + 1) (omega arith) in omega arith

pub past_meets : (toks : List ℕ) (c : ℕ) → 0 < c → Meets toks (length toks + 1) c (length toks + 1)
past_meets toks c l = wrong (past_end toks c l)

-- a cell that might be written
pub put_any : (o : List ℕ) (w v : ℕ) → Put o w v (w + 1) (set o w v)
put_any o w v = record { next = λ h. refl; cells = refl }

pub after : (n at : ℕ) (r : R.Option Step) → IfSome r (λ t. Ahead n at t.at) → After n at (place n r)
after n at R.None h = omega arith
after n at (R.Some t) h = omega (arith, h)

module _ {s toks : List ℕ} {A : Type 0} {enc : A → List Symbol} {w : ℕ} {o : List ℕ} where
  pub reaches : {r : R.Option Step} {o' : List ℕ} {g : Got Token A} → Reads s toks enc w o r o' g → Reaches s toks enc w o (place (length toks) r) (free r) o' g
  reaches none = lost (omega arith)
  reaches (one i u) = took i u

  pub some_answer : (r : Step) {o' : List ℕ} {g : Got Token A} → r.at ≤ length toks → Reaches s toks enc w o r.at r.w o' g → Reads s toks enc w o (R.Some r) o' g
  some_answer r i (lost l) = absurd (omega arith)
  some_answer r i (took k u) = one i u

  -- the same, where its place is known
  pub answer_at : (r : Step) {at : ℕ} {o' : List ℕ} {g : Got Token A} → r.at ≡ at → at ≤ length toks → Reaches s toks enc w o at r.w o' g → Reads s toks enc w o (R.Some r) o' g
  answer_at r {o' = o'} {g = g} e i h = some_answer r (omega arith) (subst⁻¹ (λ (k : ℕ). Reaches s toks enc w o k r.w o' g) e h)

  pub no_answer : {next w' : ℕ} {o₁ o' : List ℕ} {g : Got Token A} → length toks < next → Reaches s toks enc w o next w' o₁ g → Reads s toks enc w o R.None o' g
  no_answer l (lost k) = none
  no_answer l (took k u) = absurd (omega arith)

  -- what is read ends with a closing bracket
  pub closed_answer : {a : Step} {r : R.Option Step} {o' : List ℕ} {g : Got Token A} → Closed toks a r → ((e : ℕ) → After (length toks) a.at e → Meets toks a.at 41 e → Reaches s toks enc w o e a.w o' g) → Reads s toks enc w o r o' g
  closed_answer {a = a} (closing e) f =
      let k = get_or_positive toks a.at (omega arith) in
      some_answer (record { at = a.at + 1; w = a.w }) (omega arith) (f (a.at + 1) (omega arith) (next e))
  closed_answer (unclosed n) f = no_answer (omega arith) (f (length toks + 1) (omega arith) (wrong n))

  -- nothing is read
  pub none_answer : {o' : List ℕ} {g : Got Token A} → Reaches s toks enc w o (length toks + 1) 0 [] g → Reads s toks enc w o R.None o' g
  none_answer h = no_answer (omega arith) h

  -- the definition's reader finds nothing
  pub missed : {o' : List ℕ} {g : Got Token A} → g ≡ missing → Reads s toks enc w o R.None o' g
  missed {o'} e = subst⁻¹ (λ (g : Got Token A). Reads s toks enc w o R.None o' g) e none

  -- whatever the answer is
  pub answer : (at : ℕ) (r : R.Option Step) {o' : List ℕ} {g : Got Token A} → IfSome r (λ t. Ahead (length toks) at t.at) → Reaches s toks enc w o (place (length toks) r) (free r) o' g → Reads s toks enc w o r o' g
  answer at R.None i h = no_answer (omega arith) h
  answer at (R.Some r) i h = some_answer r i.1 h

  module _ {n : ℕ} {p : List ℕ} where
    pub runs : {r : R.Option Run} {o' p' : List ℕ} {g : Got Token (List A)} → Ran s toks enc w o n p r o' p' g → Runs s toks enc w o n p (run_of (length toks) r) o' p' g
    runs no_lines = stray (omega arith)
    runs (some_lines i u c pl) = ran i u c pl

    pub some_run : (r : Run) {o' p' : List ℕ} {g : Got Token (List A)} → r.at ≤ length toks → Runs s toks enc w o n p r o' p' g → Ran s toks enc w o n p (R.Some r) o' p' g
    some_run r i (stray l) = absurd (omega arith)
    some_run r i (ran k u c pl) = some_lines i u c pl

    pub no_run : (r : Run) {o₁ p₁ o' p' : List ℕ} {g : Got Token (List A)} → length toks < r.at → Runs s toks enc w o n p r o₁ p₁ g → Ran s toks enc w o n p R.None o' p' g
    no_run r l (stray k) = no_lines
    no_run r l (ran k u c pl) = absurd (omega arith)
