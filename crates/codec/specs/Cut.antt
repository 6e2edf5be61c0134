-- A list cut into parts of one length, and parts joined to a list: each undoes the other.
use Rattle.std.specs.Prelude.{◌≡◌, refl, List, [], ◌++◌, ℕ, zero, suc, ◌*◌, ◌<◌, length, take, drop}
use Rattle.std.proofs.Common.{sym, ap, ◌∙◌, append_assoc, append-nil, zero-mul, suc-mul, add_comm, arith, length-append, take_all, take_at, drop_at, drop-drop, take-add}
use Rattle.pcrl.specs.Tests.{Every}
use Rattle.pcrl.specs.Reader.{all}
use Rattle.pcrl.specs.Lists.{tabulate}
use Rattle.pcrl.specs.Blocks.{concatenated}

-- TABULATED

pub every_tabulate : {A : Type 0} (P : A → Type 0) (n : ℕ) (f : ℕ → A) → ((i : ℕ) → i < n → P (f i)) → Every P (tabulate n f)
unfolding Every tabulate
every_tabulate P zero f h = tt
every_tabulate P (suc n) f h = (h zero (omega arith), every_tabulate P n (λ i. f (suc i)) (λ i k. h (suc i) (omega arith)))

pub every_tabulated : {A : Type 0} (P : A → Type 0) (n : ℕ) (f : ℕ → A) → Every P (tabulate n f) → (i : ℕ) → i < n → P (f i)
unfolding Every tabulate
every_tabulated P zero f h i k = absurd (omega arith)
every_tabulated P (suc n) f h zero k = h.0
every_tabulated P (suc n) f h (suc i) k = every_tabulated P n (λ i. f (suc i)) h.1 i (omega arith)

all_tabulate : (n : ℕ) (f : ℕ → List ℕ) (g : ℕ → ℕ) → all f (tabulate n g) ≡ all (λ i. f (g i)) (tabulate n (λ i. i))
unfolding all tabulate
all_tabulate zero f g = refl
all_tabulate (suc n) f g = ap (λ (l : List ℕ). f (g zero) ++ l) (all_tabulate n f (λ i. g (suc i)) ∙ sym (all_tabulate n (λ i. f (g i)) suc))

-- JOINED

pub concatenated_zero : (f : ℕ → List ℕ) → concatenated zero f ≡ []
unfolding concatenated all tabulate
concatenated_zero f = refl

pub concatenated_suc : (n : ℕ) (f : ℕ → List ℕ) → concatenated (suc n) f ≡ f zero ++ concatenated n (λ i. f (suc i))
unfolding concatenated all tabulate
concatenated_suc n f = ap (λ (l : List ℕ). f zero ++ l) (all_tabulate n f suc)

pub concatenated_alike : (n : ℕ) (f g : ℕ → List ℕ) → ((i : ℕ) → i < n → f i ≡ g i) → concatenated n f ≡ concatenated n g
concatenated_alike zero f g h = concatenated_zero f ∙ sym (concatenated_zero g)
concatenated_alike (suc n) f g h =
    let e = h zero (omega arith) in
    let e' = concatenated_alike n (λ i. f (suc i)) (λ i. g (suc i)) (λ i k. h (suc i) (omega arith)) in
    concatenated_suc n f ∙ ap (λ (l : List ℕ). l ++ concatenated n (λ i. f (suc i))) e ∙ ap (λ (l : List ℕ). g zero ++ l) e' ∙ sym (concatenated_suc n g)

pub length_joined : (n k : ℕ) (f : ℕ → List ℕ) → ((i : ℕ) → i < n → length (f i) ≡ k) → length (concatenated n f) ≡ n * k
length_joined zero k f h = rw (concatenated_zero f, zero-mul k)
length_joined (suc n) k f h =
    rw (concatenated_suc n f, length-append (f zero) (concatenated n (λ i. f (suc i))), suc-mul n k)
    (omega (arith, h zero (omega arith), length_joined n k (λ i. f (suc i)) (λ i l. h (suc i) (omega arith))))

drop_suc_mul : (i k : ℕ) (l : List ℕ) → drop (suc i * k) l ≡ drop (i * k) (drop k l)
drop_suc_mul i k l = rw (suc-mul i k, add_comm (i * k) k) (sym (drop-drop (i * k) k l))

-- part i of joined parts
pub part_of_joined : (n k : ℕ) (f : ℕ → List ℕ) → ((i : ℕ) → i < n → length (f i) ≡ k) → (i : ℕ) → i < n → take k (drop (i * k) (concatenated n f)) ≡ f i
part_of_joined zero k f h i l = absurd (omega arith)
part_of_joined (suc n) k f h zero l = rw (zero-mul k, concatenated_suc n f) (take_at (f zero) (concatenated n (λ i. f (suc i))) k (h zero (omega arith)))
part_of_joined (suc n) k f h (suc i) l =
    rw (drop_suc_mul i k (concatenated (suc n) f), concatenated_suc n f, drop_at (f zero) (concatenated n (λ i. f (suc i))) k (h zero (omega arith)))
    (part_of_joined n k (λ i. f (suc i)) (λ i m. h (suc i) (omega arith)) i (omega arith))

concatenated_parts_take : (n k : ℕ) (l : List ℕ) → concatenated n (λ i. take k (drop (i * k) l)) ≡ take (n * k) l
concatenated_parts_take zero k l = rw (concatenated_zero (λ i. take k (drop (i * k) l)), zero-mul k)
concatenated_parts_take (suc n) k l =
    concatenated_suc n (λ i. take k (drop (i * k) l))
    ∙ ap (λ (j : ℕ). take k (drop j l) ++ concatenated n (λ i. take k (drop (suc i * k) l))) (zero-mul k)
    ∙ ap (λ (m : List ℕ). take k l ++ m) (concatenated_alike n (λ i. take k (drop (suc i * k) l)) (λ i. take k (drop (i * k) (drop k l))) (λ i h. ap (take k) (drop_suc_mul i k l)) ∙ concatenated_parts_take n k (drop k l))
    ∙ sym (take-add k (n * k) l)
    ∙ ap (λ (j : ℕ). take j l) (add_comm k (n * k) ∙ sym (suc-mul n k))

-- the parts of a list joined again
pub concatenated_parts : (n k : ℕ) (l : List ℕ) → length l ≡ n * k → concatenated n (λ i. take k (drop (i * k) l)) ≡ l
concatenated_parts n k l h = concatenated_parts_take n k l ∙ take_all (n * k) l (omega arith)

-- the last piece
pub concatenated_last : (n : ℕ) (f : ℕ → List ℕ) → concatenated (suc n) f ≡ concatenated n f ++ f n
concatenated_last zero f = concatenated_suc zero f ∙ ap (λ (l : List ℕ). f zero ++ l) (concatenated_zero (λ i. f (suc i))) ∙ append-nil (f zero) ∙ ap (λ (l : List ℕ). l ++ f zero) (sym (concatenated_zero f))
concatenated_last (suc n) f =
    concatenated_suc (suc n) f
    ∙ ap (λ (l : List ℕ). f zero ++ l) (concatenated_last n (λ i. f (suc i)))
    ∙ sym (append_assoc (f zero) (concatenated n (λ i. f (suc i))) (f (suc n)))
    ∙ ap (λ (l : List ℕ). l ++ f (suc n)) (sym (concatenated_suc n f))
