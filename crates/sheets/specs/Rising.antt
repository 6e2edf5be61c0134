-- How many brackets are open among some tokens, one law for each way in which they are put together.
use Rattle.std.specs.Prelude.{◌≡◌, refl, Bool, true, T, eqb, get_or}
use Rattle.std.proofs.Common.{subst}
use Rattle.std.proofs.Math.Path.{subst⁻¹}
use mathlib.Core.List.{List, [], ◌∷◌, ◌++◌, append_assoc}
use Prim.Native.Nat.{ℕ, suc, pred, ◌+◌, ◌≤◌, max}
use Prim.Native.String.{String}
use Rattle.std.proofs.Math.Decide.{ℕ_discrete}
use native.Mathlib.Omega.{arith}
use Rattle.pcrl.specs.Text.{byte}
use Rattle.pcrl.specs.Tests.{or, negated, same?, Every}
use Rattle.pcrl.specs.Tokens.{Token, name, numeral, sign, the, is?, open_behind, most_open}
use Rattle.pcrl.specs.Reader.{all}
use Rattle.pcrl.specs.Print.{bracketed, joined, line, print_lines}

-- with n open before these tokens, n + d are open somewhere among them, and n again behind them
pub record Rises (n d : ℕ) (ts : List Token) : Type 0 where
  pub deep : (r : List Token) → n + d ≤ most_open n (ts ++ r)
  pub behind : (r : List Token) → most_open n r ≤ most_open n (ts ++ r)

-- a test that a bracket does not pass
abbrev pub flat : Token → Bool
flat (name x) = true
flat (numeral v) = true
flat (sign w) = negated (or (eqb (get_or w 0 0) (byte "(")) (eqb (get_or w 0 0) (byte ")")))

flat_open : (t : Token) (n : ℕ) → T (flat t) → open_behind t n ≡ n
unfolding open_behind
flat_open t n f = go (is? "(" t) (is? ")" t)
  where
    go : (x : Dec (t ≡ the "(")) (y : Dec (t ≡ the ")")) → ◌≡◌ {A = ℕ} (elim x as (λ _. ℕ) [ yes e ↦ suc n | no h ↦ elim y as (λ _. ℕ) [ yes e ↦ pred n | no k ↦ n ] ]) n
    go (yes e) y = absurd (subst (λ (u : Token). T (flat u)) e f)
    go (no h) (yes e) = absurd (subst (λ (u : Token). T (flat u)) e f)
    go (no h) (no k) = refl

most_open_ge : (n : ℕ) (ts : List Token) → n ≤ most_open n ts
unfolding most_open
most_open_ge n [] = omega arith
most_open_ge n (t ∷ ts) = omega arith

module _ {n : ℕ} where
  pub rises_none : Rises n 0 []
  rises_none = record { deep = λ r. omega (arith, most_open_ge n r); behind = λ r. omega arith }

  pub rises_less : {d : ℕ} (e : ℕ) {ts : List Token} → e ≤ d → Rises n d ts → Rises n e ts
  rises_less e l h = record { deep = λ r. omega (arith, h.deep r); behind = h.behind }

  pub rises_append : {d e : ℕ} {ts us : List Token} → Rises n d ts → Rises n e us → Rises n (max d e) (ts ++ us)
  rises_append {d} {e} {ts} {us} h k = record {
    deep = λ r. rw append_assoc (omega (arith, h.deep (us ++ r), h.behind (us ++ r), k.deep r));
    behind = λ r. rw append_assoc (omega (arith, h.behind (us ++ r), k.behind r));
  }

  pub rises_flat : (t : Token) {d : ℕ} {ts : List Token} → T (flat t) → Rises n d ts → Rises n d (t ∷ ts)
  unfolding most_open
  rises_flat t f h = record {
    deep = λ r. rw (flat_open t n f) (omega (arith, h.deep r));
    behind = λ r. rw (flat_open t n f) (omega (arith, h.behind r));
  }

  -- one more is open inside
  pub rises_bracketed : {d : ℕ} {ts : List Token} → Rises (suc n) d ts → Rises n (suc d) (bracketed ts)
  unfolding most_open bracketed open_behind is? same? ℕ_discrete
  rises_bracketed {d} {ts} h = record { deep = λ r. (high r).0; behind = λ r. (high r).1 }
    where
      high : (r : List Token) → (n + suc d ≤ most_open n (bracketed ts ++ r)) × (most_open n r ≤ most_open n (bracketed ts ++ r))
      high r =
          let deep = h.deep (the ")" ∷ r) in
          let behind : max (suc n) (most_open n r) ≤ most_open (suc n) (ts ++ (the ")" ∷ r)) = h.behind (the ")" ∷ r) in
          subst⁻¹ (λ (us : List Token). (n + suc d ≤ max n (most_open (suc n) us)) × (most_open n r ≤ max n (most_open (suc n) us))) (append_assoc ts (the ")" ∷ []) r) (omega arith, omega arith)

  -- a list with a sign between any two
  pub rises_joined : {A : Type 0} (s : String) (w : A → List Token) → T (flat (the s)) → ((a : A) → Rises n 0 (w a)) → (l : List A) → Rises n 0 (joined s w l)
  unfolding joined
  rises_joined s w f h [] = rises_none
  rises_joined s w f h (a ∷ []) = h a
  rises_joined s w f h (a ∷ b ∷ l) = rises_append (h a) (rises_flat (the s) f (rises_joined s w f h (b ∷ l)))

  -- a line
  pub rises_line : (s : String) {d : ℕ} {ts : List Token} → T (flat (the s)) → Rises n d ts → Rises n d (line s ts)
  unfolding line
  rises_line s {d} f h = rises_flat (the s) f (rises_less d (omega arith) (rises_append h (rises_flat (the ";") tt rises_none)))

  -- lines of one kind
  module _ {A : Type 0} (s : String) (w : A → List Token) (f : T (flat (the s))) where
    pub rises_lines : ((a : A) → Rises n 0 (w a)) → (l : List A) → Rises n 0 (print_lines s w l)
    unfolding all
    rises_lines h [] = rises_none
    rises_lines h (a ∷ l) = rises_append (rises_line s f (h a)) (rises_lines h l)

    -- where so many are open at the most, each line rises no higher
    pub lines_below : (d : A → ℕ) (m : ℕ) (r : List Token) → ((a : A) → Rises n (d a) (w a)) → (l : List A) → most_open n (print_lines s w l ++ r) ≤ m → Every (λ (a : A). d a ≤ m) l
    unfolding all Every
    lines_below d m r h [] k = tt
    lines_below d m r h (a ∷ l) k =
        let first = rises_line s f (h a) in
        let more = print_lines s w l ++ r in
        let whole : most_open n (line s (w a) ++ more) ≤ m = rw append_assoc at k in
        (omega (arith, first.deep more), lines_below d m r h l (omega (arith, first.behind more)))
