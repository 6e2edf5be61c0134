-- Lists with zeros behind them, and their parts.
use Rattle.std.specs.Prelude.{◌≡◌, refl, List, [], ◌∷◌, ◌++◌, ℕ, zero, suc, ◌+◌, ◌-◌, ◌≤◌, length, take, drop, replicate}
use Rattle.std.proofs.Common.{ap, ◌∙◌, append-nil, arith, length-append, length-drop}
use Rattle.std.proofs.lemmas.List.{length-replicate}
use Rattle.pcrl.specs.Tests.{Every}
use Rattle.pcrl.specs.Stack.{padded}
use Rattle.laws.specs.Every.{every_replicate, replicate_of_every}

abbrev pub zeros : ℕ → List ℕ
zeros n = replicate n 0

pub every_zero : (n : ℕ) → Every (λ (b : ℕ). b ≡ 0) (zeros n)
every_zero n = every_replicate _ n 0 refl

pub zeros_of_every : (l : List ℕ) → Every (λ (b : ℕ). b ≡ 0) l → l ≡ zeros (length l)
zeros_of_every l h = replicate_of_every 0 l h

take_zeros : (k m : ℕ) → k ≤ m → take k (zeros m) ≡ zeros k
take_zeros zero m h = refl
take_zeros (suc k) zero h = absurd (omega arith)
take_zeros (suc k) (suc m) h = ap (λ (l : List ℕ). 0 ∷ l) (take_zeros k m (omega arith))

drop_zeros : (k m : ℕ) → drop k (zeros m) ≡ zeros (m - k)
drop_zeros zero m = let z : m ≡ m - zero = omega arith in ap zeros z
drop_zeros (suc k) zero = let z : zero ≡ zero - suc k = omega arith in ap zeros z
drop_zeros (suc k) (suc m) = let z : m - k ≡ suc m - suc k = omega arith in drop_zeros k m ∙ ap zeros z

take_before_zeros : (k : ℕ) (l : List ℕ) (m : ℕ) → k ≤ length l + m → take k (l ++ zeros m) ≡ padded k (take k l)
unfolding padded
take_before_zeros zero l m h = refl
take_before_zeros (suc k) [] m h = let z : suc k ≡ suc k - 0 = omega arith in take_zeros (suc k) m (omega arith) ∙ ap zeros z
take_before_zeros (suc k) (x ∷ l) m h =
    let z : k - length (take k l) ≡ suc k - suc (length (take k l)) = omega arith in
    ap (λ (r : List ℕ). x ∷ r) (take_before_zeros k l m (omega arith) ∙ ap (λ (j : ℕ). take k l ++ zeros j) z)

drop_before_zeros : (j : ℕ) (l : List ℕ) (m : ℕ) → drop j (l ++ zeros m) ≡ drop j l ++ zeros (m - (j - length l))
drop_before_zeros zero l m = let z : m ≡ m - (zero - length l) = omega arith in ap (λ (i : ℕ). l ++ zeros i) z
drop_before_zeros (suc j) [] m = let z : m - suc j ≡ m - (suc j - 0) = omega arith in drop_zeros (suc j) m ∙ ap zeros z
drop_before_zeros (suc j) (x ∷ l) m =
    let z : m - (j - length l) ≡ m - (suc j - suc (length l)) = omega arith in
    drop_before_zeros j l m ∙ ap (λ (i : ℕ). drop j l ++ zeros i) z

-- A part of a list with zeros behind it is the list's own part with zeros behind it.
pub part_padded : (j k : ℕ) (l : List ℕ) (m : ℕ) → j + k ≤ length l + m → take k (drop j (l ++ zeros m)) ≡ padded k (take k (drop j l))
part_padded j k l m h = rw (drop_before_zeros j l m) (take_before_zeros k (drop j l) (m - (j - length l)) (rw (length-drop j l) (omega arith)))

pub length_padded : (k : ℕ) (l : List ℕ) → length l ≤ k → length (padded k l) ≡ k
unfolding padded
length_padded k l h = rw (length-append l (zeros (k - length l)), length-replicate {A = ℕ} (k - length l) 0) (omega arith)

-- where nothing is missing
pub padded_full : (k : ℕ) (l : List ℕ) → length l ≡ k → padded k l ≡ l
unfolding padded
padded_full k l h = let z : k - length l ≡ 0 = omega arith in ap (λ (j : ℕ). l ++ zeros j) z ∙ append-nil l
