-- The sorts: one with its name, from its size and its name; all of them, by the first byte of the stream.
use mathlib.Core.Path.{◌≡◌, refl, ap, ap₂, sym, subst, ◌∙◌}
use mathlib.Core.List.{List, [], ◌∷◌, map, map-append}
use Prim.Native.Nat.{ℕ, suc, ◌+◌, ◌<◌, ◌≤◌}
use native.Mathlib.Omega.{arith}
use native.Mathlib.Decide.{ℕ_discrete}
use lib.Dec.{T}
use mathlib.Core.Bool.{true, false}
use lib.ListN.{length, get_or, take, drop, set}
use lib.Seq.{take-suc, take-suc-set, take-length, length-take-le}
use Rattle.std.specs.Prelude as R
use Rattle.std.specs.Prelude.{Some, None}
use Rattle.pcrl.specs.Text.{bytes}
use Rattle.pcrl.specs.Limits.{max_sorts, max_size}
use Rattle.pcrl.specs.Tests.{Between, both?, between?, T?, same?, distinct, Each}
use Rattle.pcrl.specs.Tree.{Name}
use Rattle.pcrl.specs.Lists.{firsts, seconds}
use Rattle.pcrl.specs.Reader.{missing, found, bind, one, test, view, counted}
use Rattle.pcrl.specs.Stream.{names_code, encode_numbers, encode_sort}
use Rattle.pcrl.specs.Decode.{read_sizes, read_sort_name, read_sort, read_named_sorts, named_sorts, unnamed_sorts, read_all_sorts}
use Rattle.laws.specs.Tests.{where_yes, where_no, of_true}
use Rattle.pcrl.specs.Right.{RightSizes}
use Rattle.codec.specs.StreamLaws.{sizes_law}
use Rattle.signature.proofs.Funcs.{sizes_value}
use Rattle.terms.specs.Stands.{Standing, list_at}
use Rattle.terms.specs.Laid.{Laid}
use Rattle.terms.proofs.Places.{number_at, behind, list_is}
use Rattle.terms.specs.Ends.{rests}
use Rattle.terms.proofs.Rests.{number_no, number_pass, pair_fail, pair_pass, test_bad, test_pass, missing_there}
use Rattle.signature.specs.Reading.{BoolAt, names_there}
use Rattle.action_names.proofs.Run.{fails}

module _ (s : List ℕ) (at : ℕ) where
  pub sort_no : ¬ ((at < length s) × Between 1 max_size (get_or s at 0)) → rests (read_sort (drop at s)) ≡ missing
  unfolding read_sort rests
  sort_no n = pair_fail (one (between? 1 max_size)) (λ n. read_sort_name) (drop at s) (ap rests (number_no (between? 1 max_size) s at n))

  pub sort_behind : (i : ℕ) → i ≡ suc at → at < length s → Between 1 max_size (get_or s at 0) → rests (read_sort (drop at s)) ≡ rests (read_sort_name (drop i s))
  unfolding read_sort rests
  sort_behind i z h k =
      pair_pass (one (between? 1 max_size)) (λ n. read_sort_name) (drop at s) (drop i s) (rests (read_sort_name (drop i s))) (ap rests (number_pass (between? 1 max_size) s at i z h k)) (λ n. refl)

-- one size more, behind those that stand there
pub size_more : (s sorts sizes : List ℕ) (k k' v : ℕ) → k < length sorts → length sorts ≤ length sizes → k' ≡ suc k → v ≡ get_or s (get_or sorts k 0) 0
    → take k sizes ≡ map (λ p. get_or s p 0) (take k sorts) → take k' (set sizes k v) ≡ map (λ p. get_or s p 0) (take k' sorts)
size_more s sorts sizes k k' v h l z e f =
    rw (z, take-suc-set sizes k v (omega arith), take-suc sorts k 0 h, map-append (λ p. get_or s p 0) (take k sorts) (get_or sorts k 0 ∷ []), f, e)

pub sizes_whole : (s sorts sizes : List ℕ) (k : ℕ) → length sorts ≤ k → k ≤ length sorts → take k sizes ≡ map (λ p. get_or s p 0) (take k sorts) → take (length sorts) sizes ≡ map (λ p. get_or s p 0) sorts
sizes_whole s sorts sizes k h l e =
    let z : k ≡ length sorts = omega arith in
    subst (λ (m : ℕ). take m sizes ≡ map (λ p. get_or s p 0) (take m sorts)) z e ∙ ap (map (λ p. get_or s p 0)) (take-length sorts)

-- ALL SORTS

-- what stands at the places of sorts: their sizes, and one byte behind them their names
pub parts_stand : (s : List ℕ) (xs : List (ℕ × Name)) (places : List ℕ) → Standing encode_sort s xs places
    → (firsts xs ≡ map (λ p. get_or s p 0) places) × (seconds xs ≡ map (λ p. list_at s (p + 1)) places)
unfolding Standing Each encode_sort
parts_stand s [] [] h = (refl, refl)
parts_stand s [] (p ∷ places) h = absurd h
parts_stand s (x ∷ xs) [] h = absurd h
parts_stand s (x ∷ xs) (p ∷ places) h =
    let size : get_or s p 0 ≡ x.0 = let n = number_at s p (encode_sort x) 0 h.0 (omega arith) in ap (λ (q : ℕ). get_or s q 0) (let z : p ≡ p + 0 = omega arith in z) ∙ n in
    let name = list_is s (p + 1) x.1 (behind s p (x.0 ∷ []) (encode_numbers x.1) h.0) in
    let (sizes, names) = parts_stand s xs places h.1 in
    (ap₂ ◌∷◌ (sym size) sizes, ap₂ ◌∷◌ (sym name) names)

-- "starts with hex F2"
pub with_mark : (s : List ℕ) → get_or s 0 0 ≡ names_code → read_all_sorts s ≡ view named_sorts read_named_sorts (drop 1 s)
unfolding read_all_sorts
with_mark [] e = absurd (omega arith)
with_mark (b ∷ xs) e = where_yes (ℕ_discrete b names_code) e _ _

-- and without it
pub without_mark : (s : List ℕ) → ¬ (get_or s 0 0 ≡ names_code) → read_all_sorts s ≡ view unnamed_sorts read_sizes s
unfolding read_all_sorts view bind read_sizes test counted one
without_mark [] n = refl
without_mark (b ∷ xs) n = where_no (ℕ_discrete b names_code) n _ _

module _ (s : List ℕ) (mark : get_or s 0 0 ≡ names_code) where
  pub no_named : counted (between? 1 max_sorts) read_sort (drop 1 s) ≡ missing → read_all_sorts s ≡ missing
  unfolding view bind read_named_sorts test
  no_named e = with_mark s mark ∙ rw e refl

  -- the tests of what was laid
  module _ (end : ℕ) (places : List ℕ) (laid : Laid (counted (between? 1 max_sorts) read_sort (drop 1 s)) encode_sort s (Some end) places) where
    abbrev First : Type 0
    First = (get_or (map (λ p. get_or s p 0) places) 0 0 ≡ 2) × (get_or (map (λ p. list_at s (p + 1)) places) 0 [] ≡ bytes "Bool")

    pub named_bad : ¬ (First × T (distinct (map (λ p. list_at s (p + 1)) places))) → read_all_sorts s ≡ missing
    unfolding view bind read_named_sorts Laid
    named_bad n =
        let (a, b) = parts_stand s laid.0 places laid.2 in
        with_mark s mark
        ∙ rw (test_bad (λ l. both? (ℕ_discrete (get_or (firsts l) 0 0) 2) (both? (T? (distinct (seconds l))) (same? (get_or (seconds l) 0 []) (bytes "Bool")))) (counted (between? 1 max_sorts) read_sort) (drop 1 s) laid.0 (drop end s) laid.1
        (λ h. n ((ap (λ (l : List ℕ). get_or l 0 0) (sym a) ∙ h.0, ap (λ (l : List Name). get_or l 0 []) (sym b) ∙ h.1.1), subst (λ (l : List Name). T (distinct l)) b h.1.0))) refl

    pub named_right : First → T (distinct (map (λ p. list_at s (p + 1)) places)) → read_all_sorts s ≡ found (map (λ p. get_or s p 0) places, names_there true s places) (drop end s)
    unfolding names_there view bind read_named_sorts named_sorts Laid
    named_right f d =
        let (a, b) = parts_stand s laid.0 places laid.2 in
        with_mark s mark
        ∙ rw (test_pass (λ l. both? (ℕ_discrete (get_or (firsts l) 0 0) 2) (both? (T? (distinct (seconds l))) (same? (get_or (seconds l) 0 []) (bytes "Bool")))) (counted (between? 1 max_sorts) read_sort) (drop 1 s) laid.0 (drop end s) laid.1
        (ap (λ (l : List ℕ). get_or l 0 0) a ∙ f.0, (subst (λ (l : List Name). T (distinct l)) (sym b) d, ap (λ (l : List Name). get_or l 0 []) b ∙ f.1))) (rw (a, b) refl)

module _ (s : List ℕ) (mark : ¬ (get_or s 0 0 ≡ names_code)) where
  pub no_unnamed : read_sizes s ≡ missing → read_all_sorts s ≡ missing
  unfolding view bind
  no_unnamed e = without_mark s mark ∙ rw e refl

  pub unnamed_right : (end : ℕ) (places : List ℕ) → read_sizes s ≡ found (list_at s 0) (drop end s) → read_all_sorts s ≡ found (list_at s 0, names_there false s places) (drop end s)
  unfolding names_there view bind unnamed_sorts
  unnamed_right end places e = without_mark s mark ∙ rw e refl

-- the sorts that were laid, of which there are n, at the first places of an array
module _ (s : List ℕ) (mark : get_or s 0 0 ≡ names_code) (sorts : List ℕ) (n end : ℕ) (some_sort : 1 ≤ n) (room : n ≤ length sorts)
    (laid : Laid (counted (between? 1 max_sorts) read_sort (drop 1 s)) encode_sort s (Some end) (take n sorts)) where
  first_at : {A : Type 0} (f : ℕ → A) (d : A) → get_or (map f (take n sorts)) 0 d ≡ f (get_or sorts 0 0)
  first_at f d = go n sorts some_sort room
    where
      go : (n : ℕ) (l : List ℕ) → 1 ≤ n → n ≤ length l → get_or (map f (take n l)) 0 d ≡ f (get_or l 0 0)
      go ℕ.zero l h k = absurd (omega arith)
      go (ℕ.suc n) [] h k = absurd (omega arith)
      go (ℕ.suc n) (p ∷ l) h k = refl

  pub not_Bool : ¬ (BoolAt s (get_or sorts 0 0)) → read_all_sorts s ≡ missing
  not_Bool no' =
      named_bad s mark end (take n sorts) laid (λ h. no' (sym (first_at (λ p. get_or s p 0) 0) ∙ h.0.0, sym (first_at (λ p. list_at s (p + 1)) []) ∙ h.0.1))

  pub not_distinct : distinct (map (λ p. list_at s (p + 1)) (take n sorts)) ≡ false → read_all_sorts s ≡ missing
  not_distinct e = named_bad s mark end (take n sorts) laid (λ h. fails _ e h.1)

  pub sorts_right : (sizes : List ℕ) → BoolAt s (get_or sorts 0 0) → distinct (map (λ p. list_at s (p + 1)) (take n sorts)) ≡ true
      → take (length (take n sorts)) sizes ≡ map (λ p. get_or s p 0) (take n sorts) → read_all_sorts s ≡ found (take n sizes, names_there true s (take n sorts)) (drop end s)
  sorts_right sizes b d e =
      let l : length (take n sorts) ≡ n = length-take-le n sorts room in
      let sized : take n sizes ≡ map (λ p. get_or s p 0) (take n sorts) = ap (λ (m : ℕ). take m sizes) (sym l) ∙ e in
      subst (λ (zs : List ℕ). read_all_sorts s ≡ found (zs, names_there true s (take n sorts)) (drop end s)) (sym sized)
      (named_right s mark end (take n sorts) laid (first_at (λ p. get_or s p 0) 0 ∙ b.0, first_at (λ p. list_at s (p + 1)) [] ∙ b.1) (of_true _ d))

-- what was laid, with the count said otherwise
pub named_laid : (s places : List ℕ) (n : ℕ) (e : R.Option ℕ) → n ≡ get_or s 1 0 → Laid (counted (between? 1 max_sorts) read_sort (drop 1 s)) encode_sort s e (take (get_or s 1 0) places)
    → Laid (counted (between? 1 max_sorts) read_sort (drop 1 s)) encode_sort s e (take n places)
named_laid s places n e z h = subst (λ (m : ℕ). Laid (counted (between? 1 max_sorts) read_sort (drop 1 s)) encode_sort s e (take m places)) (sym z) h

pub named_missing : (s places : List ℕ) → get_or s 0 0 ≡ names_code → Laid (counted (between? 1 max_sorts) read_sort (drop 1 s)) encode_sort s None places → read_all_sorts s ≡ missing
unfolding Laid
named_missing s places mark h = no_named s mark h

-- SIZES WITHOUT NAMES

pub few_sizes : (s ys : List ℕ) → rests (read_sizes s) ≡ found tt ys → length (list_at s 0) ≤ max_sorts
unfolding RightSizes
few_sizes s ys e = (sizes_law.back s (list_at s 0) ys (sizes_value s 0 ys e)).1.0.0.1

pub sizes_missing : (s : List ℕ) → (get_or s 0 0 ≡ names_code → ⊥) → rests (read_sizes s) ≡ missing → read_all_sorts s ≡ missing
sizes_missing s mark e = no_unnamed s mark (missing_there (read_sizes s) e)

pub sizes_right : (s : List ℕ) → (get_or s 0 0 ≡ names_code → ⊥) → (end : ℕ) (l sizes places : List ℕ) → rests (read_sizes s) ≡ found tt (drop end s) → l ≡ list_at s 0 → take (length l) sizes ≡ l
    → read_all_sorts s ≡ found (take (length l) sizes, names_there false s places) (drop end s)
sizes_right s mark end l sizes places e z t =
    subst (λ (zs : List ℕ). read_all_sorts s ≡ found (zs, names_there false s places) (drop end s)) (sym (t ∙ z)) (unnamed_right s mark end places (sizes_value s 0 (drop end s) e))
