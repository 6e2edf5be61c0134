-- The summands of one equation after another: the parameters of each stand at its place, and the counts add up.
use mathlib.Core.Path.{◌≡◌, refl, sym, ap, subst, ◌∙◌}
use mathlib.Core.List.{List, [], ◌∷◌, ◌++◌}
use Prim.Native.Nat.{ℕ, suc, ◌+◌, ◌<◌, ◌≤◌}
use native.Mathlib.Omega.{arith}
use native.Mathlib.Nat.{add-zero}
use lib.ListN.{length, get_or, take, drop, set}
use lib.Seq.{take-suc-set}
use Rattle.pcrl.specs.Limits.{frame_width}
use Rattle.pcrl.specs.Tests.{at_most?, below?, Every, Each}
use Rattle.pcrl.specs.Reader.{missing, found, each, all}
use Rattle.pcrl.specs.Sheet.{Sig}
use Rattle.pcrl.specs.Table.{Summand, Equation, summands_of, summand_count}
use Rattle.pcrl.specs.Stream.{encode_numbers, encode_list, encode_summand}
use Rattle.pcrl.specs.Right.{RightSorts}
use Rattle.pcrl.specs.Decode.{read_sorts, read_summands}
use Rattle.laws.specs.Every.{every_at}
use Rattle.codec.specs.Lawful.{Lawful}
use Rattle.codec.specs.StreamLaws.{numbers_law, summands_law}
use Rattle.terms.specs.Stands.{Stands, Standing, list_at}
use Rattle.terms.specs.Ends.{rests}
use Rattle.terms.proofs.Places.{stands_there, as_many, list_is, number_at}
use Rattle.terms.proofs.Laying.{Laying, each_more, each_none, lay_fail, lay_pass}
use Rattle.equations.specs.Reading.{KnownSig, KnownRows, total_at}

pub sorts_lawful : (sizes : List ℕ) (most : ℕ) → Lawful encode_numbers (λ l. (length l ≤ most) × Every (λ D. D < length sizes) l) (read_sorts sizes most)
unfolding read_sorts
sorts_lawful sizes most = numbers_law (at_most? most) (below? (length sizes))

-- THE COUNTS

total_snoc : (s places : List ℕ) (p : ℕ) → total_at s (places ++ (p ∷ [])) ≡ total_at s places + get_or s p 0
unfolding total_at
total_snoc s [] p = omega arith
total_snoc s (q ∷ places) p = let e = total_snoc s places p in omega arith

pub total_more : (s rows : List ℕ) (k k' i total n : ℕ) → k < length rows → k' ≡ suc k → total ≡ total_at s (take k rows) → n ≡ get_or s i 0 → total + n ≡ total_at s (take k' (set rows k i))
total_more s rows k k' i total n h z e f =
    let q : take k' (set rows k i) ≡ take k rows ++ (i ∷ []) = rw z (take-suc-set rows k i h) in
    let t = total_snoc s (take k rows) i in
    let g : total + n ≡ total_at s (take k rows ++ (i ∷ [])) = omega arith in
    rw q g

count_at : (s : List ℕ) (p : ℕ) (hs : List Summand) → Stands s p (encode_list encode_summand hs) → get_or s p 0 ≡ length hs
unfolding encode_list
count_at s p hs h = ap (λ (i : ℕ). get_or s i 0) (sym (add-zero p)) ∙ number_at s p (length hs ∷ all encode_summand hs) 0 h (omega arith)

pub total_is : (s : List ℕ) (es : List Equation) (rows : List ℕ) → Standing (encode_list encode_summand) s (summands_of es) rows → total_at s rows ≡ summand_count es
unfolding Standing Each summands_of summand_count total_at
total_is s [] [] h = refl
total_is s [] (p ∷ rows) h = absurd h
total_is s (e ∷ es) [] h = absurd h
total_is s (e ∷ es) (p ∷ rows) h = let a = count_at s p e.summands h.0 in let b = total_is s es rows h.1 in omega arith

-- ONE EQUATION

module _ (S : Sig) (Ps : List (List ℕ)) (s sizes funcs acts params : List ℕ) (sig : KnownSig S s sizes funcs acts) (known : KnownRows S Ps s params) where
  as_many_rows : length Ps ≡ length params
  as_many_rows = as_many encode_numbers s Ps params known.params_known

  module _ (at k i : ℕ) (own rows : List ℕ) (h : k < length params) (is : own ≡ list_at s (get_or params k 0))
      (laying : Laying (each (read_summands S Ps) Ps (drop at s)) (each (read_summands S Ps) (drop k Ps) (drop i s)) (encode_list encode_summand) s (take k rows)) where
    there : k < length Ps
    there = let z = as_many_rows in omega arith

    own_is : own ≡ get_or Ps k []
    own_is = is ∙ list_is s (get_or params k 0) (get_or Ps k []) (stands_there encode_numbers s Ps params known.params_known [] k there)

    own_right : RightSorts S frame_width (get_or Ps k [])
    own_right = every_at (RightSorts S frame_width) Ps [] k known.rights there

    pub own_short : length own ≤ frame_width
    unfolding RightSorts
    own_short = rw own_is own_right.0

    pub row_fail : rests (read_summands S Ps own (drop i s)) ≡ missing → each (read_summands S Ps) Ps (drop at s) ≡ missing
    row_fail e =
        lay_fail (each (read_summands S Ps) Ps (drop at s)) (encode_list encode_summand) s (read_summands S Ps (get_or Ps k [])) (each (read_summands S Ps) (drop (suc k) Ps))
        (each (read_summands S Ps) (drop k Ps) (drop i s)) (take k rows) (drop i s) laying (each_more (read_summands S Ps) Ps [] k (suc k) (drop i s) there refl)
        (subst (λ (l : List ℕ). rests (read_summands S Ps l (drop i s)) ≡ missing) own_is e)

    pub row_pass : (k' j : ℕ) → k < length rows → k' ≡ suc k → rests (read_summands S Ps own (drop i s)) ≡ found tt (drop j s)
        → Laying (each (read_summands S Ps) Ps (drop at s)) (each (read_summands S Ps) (drop k' Ps) (drop j s)) (encode_list encode_summand) s (take k' (set rows k i))
    row_pass k' j l z e =
        lay_pass (each (read_summands S Ps) Ps (drop at s)) (encode_list encode_summand) s (read_summands S Ps (get_or Ps k [])) (summands_law S sig.right Ps (get_or Ps k []) own_right)
        (each (read_summands S Ps) (drop k' Ps)) (each (read_summands S Ps) (drop k Ps) (drop i s)) rows k k' i j laying (each_more (read_summands S Ps) Ps [] k k' (drop i s) there z) l z
        (subst (λ (m : List ℕ). rests (read_summands S Ps m (drop i s)) ≡ found tt (drop j s)) own_is e)

  pub rows_none : (k i : ℕ) → length params ≤ k → each (read_summands S Ps) (drop k Ps) (drop i s) ≡ found [] (drop i s)
  rows_none k i h = let z = as_many_rows in each_none (read_summands S Ps) Ps k (drop i s) (omega arith)
