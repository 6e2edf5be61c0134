-- Texts of the first elements of a list, one element more at a time: what a loop that writes them has written.
use Rattle.std.specs.Prelude.{◌≡◌, List, [], ◌∷◌, ◌++◌, map, ℕ, suc, ◌+◌, ◌≤◌, ◌<◌, length, take, drop, get_or}
use Rattle.std.proofs.Common.{sym, ap, ◌∙◌, append_assoc, append-nil, arith, add-one, take-suc, length-take-le}
use Rattle.std.proofs.lemmas.List.{drop-append-le}
use Rattle.pcrl.specs.Reader.{all}
use Rattle.pcrl.specs.Printer.{numbered}
use Rattle.rendering.specs.Texts.{joined_text, concat}

-- one element more
pub take_more : {A : Type 0} (l : List A) (d : A) (i : ℕ) → i < length l → take (i + 1) l ≡ take i l ++ (get_or l i d ∷ [])
take_more l d i h = ap (λ (n : ℕ). take n l) (add-one i) ∙ take-suc l i d h

-- texts with a mark between any two: the first, and each of the others behind a mark
pub joined_first : {A : Type 0} (m : List ℕ) (f : A → List ℕ) (l : List A) (d : A) → 1 ≤ length l → joined_text m (map f l) ≡ f (get_or l 0 d) ++ all (λ x. m ++ f x) (drop 1 l)
unfolding joined_text all
joined_first m f [] d h = absurd (omega arith)
joined_first m f (a ∷ []) d h = sym (append-nil (f a))
joined_first m f (a ∷ b ∷ l) d h = ap (λ (t : List ℕ). f a ++ (m ++ t)) (joined_first m f (b ∷ l) d (omega arith)) ∙ ap (λ (t : List ℕ). f a ++ t) (sym (append_assoc m (f b) (all (λ x. m ++ f x) l)))

numbered_snoc : {A : Type 0} (f : ℕ → A → List ℕ) (n : ℕ) (l : List A) (a : A) → concat (numbered f n (l ++ (a ∷ []))) ≡ concat (numbered f n l) ++ f (n + length l) a
unfolding numbered concat all
numbered_snoc f n [] a = append-nil (f n a) ∙ ap (λ (k : ℕ). f k a) (let z : n ≡ n + 0 = omega arith in z)
numbered_snoc f n (b ∷ l) a = ap (λ (t : List ℕ). f n b ++ t) (numbered_snoc f (suc n) l a ∙ ap (λ (k : ℕ). concat (numbered f (suc n) l) ++ f k a) (let z : suc n + length l ≡ n + suc (length l) = omega arith in z)) ∙ sym (append_assoc (f n b) (concat (numbered f (suc n) l)) (f (n + suc (length l)) a))

-- texts by number: one more
pub numbered_more : {A : Type 0} (f : ℕ → A → List ℕ) (n : ℕ) (l : List A) (d : A) (i : ℕ) → i < length l → concat (numbered f n (take (i + 1) l)) ≡ concat (numbered f n (take i l)) ++ f (n + i) (get_or l i d)
numbered_more {A} f n l d i h =
    ap (λ (x : List A). concat (numbered f n x)) (take_more l d i h)
    ∙ numbered_snoc f n (take i l) (get_or l i d)
    ∙ ap (λ (k : ℕ). concat (numbered f n (take i l)) ++ f (n + k) (get_or l i d)) (length-take-le i l (omega arith))

all_snoc : {A : Type 0} (g : A → List ℕ) (l : List A) (a : A) → all g (l ++ (a ∷ [])) ≡ all g l ++ g a
unfolding all
all_snoc g [] a = append-nil (g a)
all_snoc g (b ∷ l) a = ap (λ (t : List ℕ). g b ++ t) (all_snoc g l a) ∙ sym (append_assoc (g b) (all g l) (g a))

-- texts one behind another: one more
pub all_more : {A : Type 0} (g : A → List ℕ) (l : List A) (d : A) (i : ℕ) → i < length l → all g (take (i + 1) l) ≡ all g (take i l) ++ g (get_or l i d)
all_more {A} g l d i h = ap (all g) (take_more l d i h) ∙ all_snoc g (take i l) (get_or l i d)

-- texts behind the first: one more
pub tail_more : {A : Type 0} (g : A → List ℕ) (l : List A) (d : A) (i : ℕ) → 1 ≤ i → i < length l → all g (drop 1 (take (i + 1) l)) ≡ all g (drop 1 (take i l)) ++ g (get_or l i d)
tail_more {A} g l d i h k =
    ap (λ (x : List A). all g (drop 1 x)) (take_more l d i k)
    ∙ ap (all g) (drop-append-le 1 (take i l) (get_or l i d ∷ []) (omega (arith, length-take-le i l (omega arith))))
    ∙ all_snoc g (drop 1 (take i l)) (get_or l i d)
