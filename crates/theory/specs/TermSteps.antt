-- The steps of a term by its form: each rule read backwards.
use Rattle.std.specs.Prelude.{◌≡◌, refl, List, [], map, ◌⊎◌, ℕ, ◌<◌}
use Rattle.std.proofs.Common.{inl, inr}
use Rattle.pcrl.specs.Sheet.{Data, Act, Proc, delta, atom, alt, cond, sum, seq, call, Sheet, size, right}
use Rattle.pcrl.specs.Label.{Label, label}
use Rattle.pcrl.specs.Values.{eval, put, these, only}
use Rattle.pcrl.specs.Terms.{Rest, done, still, TermStep, acts, in_left, in_right, goes_on, goes_over, if_true, if_false, at_value, as_right}

-- what is left of p.q where r is left of p
unfoldable pub before : Proc → Rest → Rest
before q done = still q
before q (still p) = still (seq p q)

module _ (H : Sheet) where
  pub seq_step : (p q : Proc) (l : Label) (r : Rest) → TermStep H p l r → TermStep H (seq p q) l (before q r)
  unfolding before
  seq_step p q l done h = goes_over h
  seq_step p q l (still p') h = goes_on h

  pub step_delta : {l : Label} {r : Rest} → TermStep H delta l r → ⊥
  step_delta h = elim h [ ]

  pub step_atom : {a : Act} {ds : List Data} {l : Label} {r : Rest} → TermStep H (atom a ds) l r → (l ≡ label H.sig a (map (eval H.sig []) ds)) × (r ≡ done)
  step_atom acts = (refl, refl)

  pub step_alt : {p q : Proc} {l : Label} {r : Rest} → TermStep H (alt p q) l r → TermStep H p l r ⊎ TermStep H q l r
  step_alt (in_left h) = inl h
  step_alt (in_right h) = inr h

  pub step_cond : {c : Data} {p q : Proc} {l : Label} {r : Rest} → TermStep H (cond c p q) l r
      → ((eval H.sig [] c ≡ 1) × TermStep H p l r) ⊎ ((eval H.sig [] c ≡ 0) × TermStep H q l r)
  step_cond (if_true e h) = inl (e, h)
  step_cond (if_false e h) = inr (e, h)

  pub step_sum : {x D : ℕ} {p : Proc} {l : Label} {r : Rest} → TermStep H (sum x D p) l r → (v : ℕ) × (v < size H.sig D) × TermStep H (put (only x v) p) l r
  step_sum (at_value v h k) = (v, h, k)

  pub step_seq : {p q : Proc} {l : Label} {r : Rest} → TermStep H (seq p q) l r → (r' : Rest) × TermStep H p l r' × (r ≡ before q r')
  unfolding before
  step_seq (goes_on h) = (_, h, refl)
  step_seq (goes_over h) = (_, h, refl)

  pub step_call : {k : ℕ} {ds : List Data} {l : Label} {r : Rest} → TermStep H (call k ds) l r → TermStep H (put (these (map (eval H.sig []) ds)) (right H k)) l r
  step_call (as_right h) = h
