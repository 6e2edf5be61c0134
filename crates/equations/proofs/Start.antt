-- The start: its equation's parameters stand at their place, and a value is read for each.
use mathlib.Core.Path.{◌≡◌, sym, ap, ◌∙◌}
use mathlib.Core.List.{List, []}
use Prim.Native.Nat.{ℕ, suc, ◌<◌}
use native.Mathlib.Omega.{arith}
use lib.ListN.{length, get_or, drop, length-map}
use Rattle.pcrl.specs.Tests.{below?}
use Rattle.pcrl.specs.Reader.{missing, one, each}
use Rattle.pcrl.specs.Sheet.{Sig, size}
use Rattle.pcrl.specs.Table.{Equation, params_of}
use Rattle.pcrl.specs.Stream.{encode_numbers}
use Rattle.pcrl.specs.Decode.{read_start}
use Rattle.terms.specs.Stands.{list_at, KnownParams}
use Rattle.terms.specs.Ends.{rests}
use Rattle.terms.proofs.Rests.{byte_no, byte_pass}
use Rattle.terms.proofs.Places.{stands_there, as_many, list_is}

module _ (S : Sig) (es : List Equation) (s sizes params : List ℕ) (sizes_are : sizes ≡ S.sorts) (known : KnownParams (params_of es) s params) (at : ℕ) where
  as_many_params : length es ≡ length params
  unfolding params_of
  as_many_params = sym (length-map es (λ (e : Equation). e.params)) ∙ as_many encode_numbers s (params_of es) params known

  pub start_no : ¬ ((at < length s) × (get_or s at 0 < length params)) → rests (read_start S es (drop at s)) ≡ missing
  unfolding read_start
  start_no n =
      let z = as_many_params in
      byte_no (below? (length es)) s at (λ e. each (λ D. one (below? (size S D))) (get_or (params_of es) e [])) (λ (h : (at < length s) × (get_or s at 0 < length es)). n (h.0, (let l = h.1 in omega arith)))

  pub start_pass : (j p : ℕ) (Ds : List ℕ) → j ≡ suc at → at < length s → get_or s at 0 < length params → p ≡ get_or params (get_or s at 0) 0 → Ds ≡ list_at s p
      → rests (read_start S es (drop at s)) ≡ rests (each (λ D. one (below? (get_or sizes D 0))) Ds (drop j s))
  unfolding read_start size
  start_pass j p Ds z h l w e =
      let q = as_many_params in
      let m : get_or s at 0 < length (params_of es) = omega (arith, as_many encode_numbers s (params_of es) params known) in
      let st = stands_there encode_numbers s (params_of es) params known [] (get_or s at 0) m in
      let y : get_or (params_of es) (get_or s at 0) [] ≡ Ds = sym (list_is s (get_or params (get_or s at 0) 0) (get_or (params_of es) (get_or s at 0) []) st) ∙ ap (λ (i : ℕ). list_at s i) (sym w) ∙ sym e in
      byte_pass (below? (length es)) s at (λ e. each (λ D. one (below? (size S D))) (get_or (params_of es) e [])) j z h (omega arith)
      ∙ ap (λ (Es : List ℕ). rests (each (λ D. one (below? (get_or S.sorts D 0))) Es (drop j s))) y
      ∙ ap (λ (l : List ℕ). rests (each (λ D. one (below? (get_or l D 0))) Ds (drop j s))) (sym sizes_are)
