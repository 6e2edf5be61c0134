-- A slot with a term of one byte.
use mathlib.Core.Path.{◌≡◌, sym, ap, ◌∙◌, subst}
use mathlib.Core.List.{List, [], ◌∷◌, ◌++◌}
use Prim.Native.Nat.{ℕ, suc, ◌+◌, ◌*◌, ◌<◌, ◌≤◌}
use native.Mathlib.Omega.{arith}
use native.Mathlib.Decide.{ℕ_discrete}
use lib.ListN.{length, drop, take, get_or, set, length-set, get_or-append}
use lib.Seq.{get_or-set_same, get_or-set_other, take-set-le, drop-cons, get_or_at}
use Rattle.pcrl.specs.Sheet.{Data, val}
use Rattle.pcrl.specs.Table.{nodes}
use Rattle.pcrl.specs.Stream.{encode_data}
use Rattle.pcrl.specs.Heads.{look}
use Rattle.laws.specs.Lists.{length_snoc}
use Rattle.putting.specs.Slots.{slot_width, Slot, Slots}
use Rattle.putting.specs.Puts.{BytePut}
use Rattle.putting.proofs.Several.{slot_kept}

-- a term of one byte in slot n
byte_slots : (o : List ℕ) (n x b : ℕ) → b ≡ slot_width * n → b + slot_width ≤ length o → (σ : List Data) (d : Data) → nodes d ≡ 1 → encode_data d ≡ x ∷ [] → Slots σ o n → Slots (σ ++ (d ∷ [])) (set (set (set o b 1) (b + 1) 1) (b + 2) x) (n + 1)
unfolding look
byte_slots o n x b eb room σ d one is s = record { many = length_snoc σ d ∙ ap suc s.many ∙ (let z : suc n ≡ n + 1 = omega arith in z); each = λ i h. each i h (ℕ_discrete i n) }
  where
    o₁ : List ℕ
    o₁ = set o b 1

    o₂ : List ℕ
    o₂ = set (set o b 1) (b + 1) 1

    o₃ : List ℕ
    o₃ = set (set (set o b 1) (b + 1) 1) (b + 2) x

    kept : take b (set (set (set o b 1) (b + 1) 1) (b + 2) x) ≡ take b o
    kept = take-set-le b (set (set o b 1) (b + 1) 1) (b + 2) x (omega arith) ∙ take-set-le b (set o b 1) (b + 1) 1 (omega arith) ∙ take-set-le b o b 1 (omega arith)

    at₀ : get_or (set (set (set o b 1) (b + 1) 1) (b + 2) x) b 0 ≡ 1
    at₀ = get_or-set_other (set (set o b 1) (b + 1) 1) (b + 2) b x 0 (λ e. omega arith) ∙ get_or-set_other (set o b 1) (b + 1) b 1 0 (λ e. omega arith) ∙ get_or-set_same o b 1 0 (omega arith)

    at₁ : get_or (set (set (set o b 1) (b + 1) 1) (b + 2) x) (b + 1) 0 ≡ 1
    at₁ = get_or-set_other (set (set o b 1) (b + 1) 1) (b + 2) (b + 1) x 0 (λ e. omega arith) ∙ get_or-set_same (set o b 1) (b + 1) 1 0 (omega (arith, length-set o b 1))

    long : b + 2 < length (set (set (set o b 1) (b + 1) 1) (b + 2) x)
    long = omega (arith, length-set (set (set o b 1) (b + 1) 1) (b + 2) x, length-set (set o b 1) (b + 1) 1, length-set o b 1)

    at₂ : take 1 (drop (b + 2) (set (set (set o b 1) (b + 1) 1) (b + 2) x)) ≡ x ∷ []
    at₂ =
        ap (take 1) (drop-cons (set (set (set o b 1) (b + 1) 1) (b + 2) x) (b + 2) 0 long)
        ∙ ap (λ (y : ℕ). y ∷ []) (get_or-set_same (set (set o b 1) (b + 1) 1) (b + 2) x 0 (omega (arith, length-set (set o b 1) (b + 1) 1, length-set o b 1)))

    new : Slot d (set (set (set o b 1) (b + 1) 1) (b + 2) x) b
    new = record {
      whole = λ h. (at₀ ∙ sym one, at₁ ∙ sym (ap length is), ap (λ (k : ℕ). take k (drop (b + 2) (set (set (set o b 1) (b + 1) 1) (b + 2) x))) at₁ ∙ at₂ ∙ sym is);
      long = λ h. absurd (omega (arith, at₀));
      narrow = omega (arith, one, ap length is);
    }

    each : (i : ℕ) → i < n + 1 → Dec (i ≡ n) → Slot (get_or (σ ++ (d ∷ [])) i (val 0)) (set (set (set o b 1) (b + 1) 1) (b + 2) x) (slot_width * i)
    each i h (yes e) =
        subst (λ (k : ℕ). Slot (get_or (σ ++ (d ∷ [])) k (val 0)) (set (set (set o b 1) (b + 1) 1) (b + 2) x) (slot_width * k)) (sym e)
        (subst (λ (y : Data). Slot y (set (set (set o b 1) (b + 1) 1) (b + 2) x) (slot_width * n)) (sym (get_or_at σ d [] (val 0) n s.many))
        (subst (λ (k : ℕ). Slot d (set (set (set o b 1) (b + 1) 1) (b + 2) x) k) eb new))
    each i h (no e) =
        let l : i < n = (let y : i ≡ n → ⊥ = e in omega arith) in
        subst (λ (y : Data). Slot y (set (set (set o b 1) (b + 1) 1) (b + 2) x) (slot_width * i)) (sym (get_or-append σ (d ∷ []) (val 0) i (omega (arith, s.many))))
        (slot_kept b o (set (set (set o b 1) (b + 1) 1) (b + 2) x) kept (get_or σ i (val 0)) (slot_width * i) (omega arith) (s.each i l))

pub byte_put : (o : List ℕ) (n x b : ℕ) → b ≡ slot_width * n → b + slot_width ≤ length o → BytePut o n x (set (set (set o b 1) (b + 1) 1) (b + 2) x)
byte_put o n x b eb room = (
  byte_slots o n x b eb room,
  take-set-le (slot_width * n) (set (set o b 1) (b + 1) 1) (b + 2) x (omega arith) ∙ take-set-le (slot_width * n) (set o b 1) (b + 1) 1 (omega arith) ∙ take-set-le (slot_width * n) o b 1 (omega arith),
)
