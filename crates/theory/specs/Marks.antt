-- The marked variables are enough: what is put for a variable that does not stand in a term does not matter.
use Rattle.std.specs.Prelude.{◌≡◌, Bool, true, false, ◌⊎◌, ℕ, zero, suc, ◌+◌, ◌≤◌, eqb, length, replicate}
use Rattle.std.proofs.Math.Path.{refl}
use Rattle.std.proofs.Common.{ap, ap₂, sym, ◌∙◌, inl, inr, arith}
use mathlib.Core.List.{List, [], ◌∷◌, ◌++◌, map, append_assoc}
use Rattle.std.proofs.Math.Option.{none, some}
use Rattle.std.proofs.Math.ListN.{get_elem?}
use Rattle.std.proofs.Math.Seq.{get_or-append_seam}
use Rattle.pcrl.specs.Tests.{and, negated, Every}
use Rattle.pcrl.specs.Sheet.{Data, val, var, app, Datas, nil, cons, Proc, delta, atom, alt, cond, sum, seq, call, Sig}
use Rattle.pcrl.specs.Values.{eval, put_data, put_datas, except, put, or_var, these}
use Rattle.pcrl.specs.Parts.{in_data, in_datas, in_list, in_proc, marks, count, marked, as_params}
use Rattle.laws.specs.Tests.{or_left, or_right, eqb_self}
use Rattle.laws.specs.Lists.{length_snoc, length_tabulate, get_elem?_tabulate}
use Rattle.theory.specs.Below.{Below}

-- TWO WAYS THAT AGREE ON THE VARIABLES OF A TERM

module _ (θ θ' : ℕ → Data) where
  mutual
    unfolding put_data in_data

    agree_data : (d : Data) → ((i : ℕ) → in_data i d ≡ true → θ i ≡ θ' i) → put_data θ d ≡ put_data θ' d
    agree_data (val v) h = refl
    agree_data (var x) h = h x (eqb_self x)
    agree_data (app f ds) h = ap (app f) (agree_datas ds h)

    agree_datas : (ds : Datas) → ((i : ℕ) → in_datas i ds ≡ true → θ i ≡ θ' i) → put_datas θ ds ≡ put_datas θ' ds
    agree_datas nil h = refl
    agree_datas (cons d ds) h = cc (agree_data d (λ i k. h i (or_left _ _ k)), agree_datas ds (λ i k. h i (or_right (in_data i d) _ k)))

  agree_list : (ds : List Data) → ((i : ℕ) → in_list i ds ≡ true → θ i ≡ θ' i) → map (put_data θ) ds ≡ map (put_data θ') ds
  unfolding in_list
  agree_list [] h = refl
  agree_list (d ∷ ds) h = cc (agree_data d (λ i k. h i (or_left _ _ k)), agree_list ds (λ i k. h i (or_right (in_data i d) _ k)))

except_agree : (θ θ' : ℕ → Data) (x : ℕ) (p : Proc) → ((i : ℕ) → and (negated (eqb i x)) (in_proc i p) ≡ true → θ i ≡ θ' i)
    → (i : ℕ) → in_proc i p ≡ true → except x θ i ≡ except x θ' i
unfolding except in_proc
except_agree θ θ' x p h i k = go (eqb i x) refl
  where
    go : (b : Bool) → eqb i x ≡ b → ◌≡◌ {A = Data} (elim b [ true ↦ var i | false ↦ θ i ]) (elim b [ true ↦ var i | false ↦ θ' i ])
    go true e = refl
    go false e = h i (rw (e, k))

agree : (θ θ' : ℕ → Data) (p : Proc) → ((i : ℕ) → in_proc i p ≡ true → θ i ≡ θ' i) → put θ p ≡ put θ' p
unfolding put in_proc
agree θ θ' delta h = refl
agree θ θ' (atom a ds) h = ap (atom a) (agree_list θ θ' ds h)
agree θ θ' (alt p q) h = ap₂ alt (agree θ θ' p (λ i k. h i (or_left _ _ k))) (agree θ θ' q (λ i k. h i (or_right (in_proc i p) _ k)))
agree θ θ' (cond c p q) h =
    cc
    (agree_data θ θ' c (λ i k. h i (or_left _ _ k)), agree θ θ' p (λ i k. h i (or_right (in_data i c) _ (or_left _ _ k))), agree θ θ' q (λ i k. h i (or_right (in_data i c) _ (or_right (in_proc i p) _ k))))
agree θ θ' (sum x D p) h = ap (sum x D) (agree (except x θ) (except x θ') p (except_agree θ θ' x p h))
agree θ θ' (seq p q) h = cc (agree θ θ' p (λ i k. h i (or_left _ _ k)), agree θ θ' q (λ i k. h i (or_right (in_proc i p) _ k)))
agree θ θ' (call k ds) h = ap (call k) (agree_list θ θ' ds h)

-- WHAT WAS MARKED, PUT BACK

-- right at each mark
restored : (S : Sig) (bs : List Bool) (ρ pre : List ℕ) (i : ℕ) → length ρ ≡ length bs → (get_elem? bs i ≡ none) ⊎ (get_elem? bs i ≡ some true)
    → get_elem? ρ i ≡ get_elem? (map (eval S (pre ++ marked bs ρ)) (as_params bs (length pre))) i
unfolding marked as_params eval
restored S [] [] pre i e h = refl
restored S [] (r ∷ ρ) pre i e h = absurd (omega arith)
restored S (b ∷ bs) [] pre i e h = absurd (omega arith)
restored S (true ∷ bs) (r ∷ ρ) pre zero e h = rw (get_or-append_seam pre r (marked bs ρ) 0)
restored S (true ∷ bs) (r ∷ ρ) pre (suc i) e h = simp (append_assoc, length_snoc) at (restored S bs ρ (pre ++ (r ∷ [])) i (omega arith) h)
restored S (false ∷ bs) (r ∷ ρ) pre zero e (inl h) = cc
restored S (false ∷ bs) (r ∷ ρ) pre zero e (inr h) = cc
restored S (false ∷ bs) (r ∷ ρ) pre (suc i) e h = restored S bs ρ pre i (omega arith) h

-- A part with values for all variables in scope is the part with the marked ones for its equation's parameters.
pub put_marked : (S : Sig) (ρ : List ℕ) (p : Proc)
    → put (these ρ) p ≡ put (these (map (eval S (marked (marks (length ρ) p) ρ)) (as_params (marks (length ρ) p) 0))) p
unfolding these marks
put_marked S ρ p =
    agree _ _ p (λ i k. ap (or_var i) (restored S (marks (length ρ) p) ρ [] i (sym (length_tabulate (length ρ) _)) (go i k (get_elem?_tabulate (length ρ) (λ n. in_proc n p) i))))
  where
    go : (i : ℕ) → in_proc i p ≡ true
        → (get_elem? (marks (length ρ) p) i ≡ none) ⊎ (get_elem? (marks (length ρ) p) i ≡ some (in_proc i p))
        → (get_elem? (marks (length ρ) p) i ≡ none) ⊎ (get_elem? (marks (length ρ) p) i ≡ some true)
    go i k (inl n) = inl n
    go i k (inr s) = inr (s ∙ ap some k)

-- MARKS AND PARAMETERS

pub marks_length : (n : ℕ) (p : Proc) → length (marks n p) ≡ n
unfolding marks
marks_length n p = length_tabulate n _

pub marked_length : {A : Type 0} (bs : List Bool) (xs : List A) → length xs ≡ length bs → length (marked bs xs) ≡ count bs
unfolding marked count
marked_length [] xs e = refl
marked_length (b ∷ bs) [] e = absurd (omega arith)
marked_length (true ∷ bs) (x ∷ xs) e = ap suc (marked_length bs xs (omega arith))
marked_length (false ∷ bs) (x ∷ xs) e = marked_length bs xs (omega arith)

pub marked_map : {A B : Type 0} (f : A → B) (bs : List Bool) (xs : List A) → map f (marked bs xs) ≡ marked bs (map f xs)
unfolding marked
marked_map f [] xs = refl
marked_map f (b ∷ bs) [] = refl
marked_map f (true ∷ bs) (x ∷ xs) = ap (λ zs. f x ∷ zs) (marked_map f bs xs)
marked_map f (false ∷ bs) (x ∷ xs) = marked_map f bs xs

pub marked_every : {A : Type 0} (P : A → Type 0) (bs : List Bool) (xs : List A) → Every P xs → Every P (marked bs xs)
unfolding marked Every
marked_every P [] xs h = tt
marked_every P (b ∷ bs) [] h = tt
marked_every P (true ∷ bs) (x ∷ xs) h = (h.0, marked_every P bs xs h.1)
marked_every P (false ∷ bs) (x ∷ xs) h = marked_every P bs xs h.1

pub as_params_below : (bs : List Bool) (i m : ℕ) → i + count bs ≤ m → Every (Below m) (as_params bs i)
unfolding as_params count Every Below
as_params_below [] i m h = tt
as_params_below (true ∷ bs) i m h = (omega arith, as_params_below bs (suc i) m (omega arith))
as_params_below (false ∷ bs) i m h = (tt, as_params_below bs i m h)

pub as_params_length : (bs : List Bool) (i : ℕ) → length (as_params bs i) ≡ length bs
unfolding as_params
as_params_length [] i = refl
as_params_length (true ∷ bs) i = ap suc (as_params_length bs (suc i))
as_params_length (false ∷ bs) i = ap suc (as_params_length bs i)

pub count_all : (n : ℕ) → count (replicate n true) ≡ n
unfolding count
count_all zero = refl
count_all (suc n) = ap suc (count_all n)

as_params_all : (S : Sig) (pre vs : List ℕ) → map (eval S (pre ++ vs)) (as_params (replicate (length vs) true) (length pre)) ≡ vs
unfolding as_params eval
as_params_all S pre [] = refl
as_params_all S pre (v ∷ vs) =
    ap₂ (λ (x : ℕ) (xs : List ℕ). x ∷ xs) (get_or-append_seam pre v vs 0) (simp (append_assoc, length_snoc) at (as_params_all S (pre ++ (v ∷ [])) vs))

-- the parameters of a written equation are worth their values
pub eval_params : (S : Sig) (vs : List ℕ) → map (eval S vs) (as_params (replicate (length vs) true) 0) ≡ vs
eval_params S vs = as_params_all S [] vs
