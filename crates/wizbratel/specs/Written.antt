-- What follows from the promise of an operation that writes: what it wrote, and that a refusal leaves every lent byte.
use Rattle.std.specs.Prelude.{◌≡◌, ℕ, take}
use Rattle.std.proofs.Math.Path.{refl, sym, ap}
use Rattle.std.proofs.Common.{◌∙◌}
use mathlib.Core.List.{List, ◌++◌}
use Rattle.std.proofs.Math.ListN.{length, drop}
use Rattle.std.proofs.Math.Seq.{take_at, drop_at}
use Rattle.pcrl.specs.Result.{Result, refused, accepted, refusal}
use Rattle.pcrl.specs.Answers.{output_after}
use Rattle.wizbratel.specs.Tables.{written_after, WritePromise}

module _ (x : Result (List ℕ)) (out : List ℕ) (w r : ℕ) (out' : List ℕ) (w' : ℕ) (promise : WritePromise x out w r out' w') where
  -- what was written, where nothing was refused; no question has the number 0
  pub what_was_written : (x ≡ refused 0 → ⊥) → r ≡ 0 → (file : List ℕ) × (x ≡ accepted file) × (take w' out' ≡ file) × (drop w' out' ≡ drop w' out)
  unfolding refusal output_after written_after
  what_was_written real zero = go x refl
    where
      go : (y : Result (List ℕ)) → x ≡ y → (file : List ℕ) × (y ≡ accepted file) × (take w' out' ≡ file) × (drop w' out' ≡ drop w' out)
      go (refused n) e =
          let z : n ≡ 0 = sym (ap refusal e) ∙ sym promise.answer ∙ zero in
          absurd (real (e ∙ ap refused z))
      go (accepted file) e =
          let long : w' ≡ length file = promise.count ∙ ap (λ (x : Result (List ℕ)). written_after x w) e in
          let whole : out' ≡ file ++ drop (length file) out = promise.output ∙ ap (λ (x : Result (List ℕ)). output_after x out) e in (
            file,
            refl,
            ap (take w') whole ∙ take_at file (drop (length file) out) w' (sym long),
            ap (drop w') whole ∙ drop_at file (drop (length file) out) w' (sym long) ∙ ap (λ (n : ℕ). drop n out) (sym long),
          )

  -- A REFUSAL LEAVES EVERY LENT BYTE.
  pub refusal_leaves : (r ≡ 0 → ⊥) → (out' ≡ out) × (w' ≡ w)
  unfolding refusal output_after written_after
  refusal_leaves some = go x refl
    where
      go : (y : Result (List ℕ)) → x ≡ y → (out' ≡ out) × (w' ≡ w)
      go (refused n) e = (promise.output ∙ ap (λ (x : Result (List ℕ)). output_after x out) e, promise.count ∙ ap (λ (x : Result (List ℕ)). written_after x w) e)
      go (accepted file) e = absurd (some (promise.answer ∙ ap refusal e))
