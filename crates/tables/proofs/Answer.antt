-- The answer to question 14: no table, a table whose blocks or zeros are not right, or the table and its index.
use mathlib.Core.Path.{◌≡◌, refl, sym, ap, ap₂, subst, ◌∙◌}
use mathlib.Core.List.{List, ◌∷◌, ◌++◌}
use mathlib.Core.Bool.{Bool, true, false, ◌&&◌}
use mathlib.Core.Option.{Option, none, some}
use Prim.Native.Nat.{ℕ, suc, ◌+◌, ◌*◌, ◌<◌, ◌≤◌}
use native.Mathlib.Omega.{arith}
use lib.Dec.{eqb}
use lib.ListN.{length, get_or, take, drop, length-append, length-drop, length-map, set, take-append-drop, drop_of_length-le}
use lib.Seq.{take-suc, take-suc-set, take-length, drop-cons, length-take-le, drop_at, take-append-le, take-set-le, drop-set-add, take_all, take-take}
use Rattle.std.specs.Prelude as R
use Rattle.pcrl.specs.Limits.{max_sorts, max_functions}
use Rattle.pcrl.specs.Tests.{Every}
use Rattle.pcrl.specs.Tree.{Name}
use Rattle.signature.specs.Reading.{names_there}
use Rattle.pcrl.specs.Reader.{missing, found}
use Rattle.pcrl.specs.Table.{Equation, Table, params_of}
use Rattle.pcrl.specs.Stream.{encode_numbers, encode_func, encode_action, encode}
use Rattle.pcrl.specs.Decode.{decode}
use Rattle.pcrl.specs.Blocks.{block_stream, blocks_for, Filled, filled?, table_in, table_read}
use Rattle.laws.specs.Says.{Says, says_as, says_eq}
use Rattle.codec.specs.StreamLaws.{encode_decode}
use Rattle.terms.proofs.Places.{as_many}
use Rattle.tables.specs.declared.Index.{Index}
use Rattle.tables.specs.Indexed.{sizes_behind, PartsAt, Indexed, TableRead, Decoded}

-- ZEROS

abbrev pub Zeros : List ℕ → Type 0
Zeros l = Every (λ b. b ≡ 0) l

pub zeros_none : (s : List ℕ) (i : ℕ) → length s ≤ i → Zeros (drop i s)
unfolding Every
zeros_none s i h = rw (drop_of_length-le s {i = i} h) tt

module _ (s : List ℕ) (i : ℕ) (h : i < length s) where
  pub zeros_bad : ¬ (get_or s i 0 ≡ 0) → ¬ Zeros (drop i s)
  unfolding Every
  zeros_bad n = rw (drop-cons s i 0 h) (λ q. n q.0)

  pub zeros_back : (j : ℕ) → j ≡ suc i → Zeros (drop i s) → Zeros (drop j s)
  unfolding Every
  zeros_back j z q = let q' : Zeros (get_or s i 0 ∷ drop (suc i) s) = rw (drop-cons s i 0 h) at q in rw z q'.1

  pub zeros_more : (j : ℕ) → j ≡ suc i → get_or s i 0 ≡ 0 → Zeros (drop j s) → Zeros (drop i s)
  unfolding Every
  zeros_more j z e q = rw (drop-cons s i 0 h) (e, subst (λ (k : ℕ). Zeros (drop k s)) z q)

-- one byte more, before the others
pub zeros_said : (s : List ℕ) (j i : ℕ) → j ≡ suc i → i < length s → (good : Bool) → Says good (Zeros (drop j s)) → Says (good && eqb (get_or s i 0) 0) (Zeros (drop i s))
zeros_said s j i z h true q = says_as (eqb (get_or s i 0) 0) (λ e. zeros_more s i h j z e q) (λ r. zero_first (eqb (get_or s i 0) 0) (says_eq (get_or s i 0) 0) r) (says_eq (get_or s i 0) 0)
  where
    zero_first : (t : Bool) → Says t (get_or s i 0 ≡ 0) → Zeros (drop i s) → get_or s i 0 ≡ 0
    zero_first true e r = e
    zero_first false n r = absurd (zeros_bad s i h n r)
zeros_said s j i z h false q = λ r. q (zeros_back s i h j z r)

-- BLOCKS

pub fewest : (t : Bool) (s : List ℕ) (end : ℕ) → length s ≡ blocks_for end * block_stream → Says t (Zeros (drop end s)) → Says t ((length s ≡ blocks_for end * block_stream) × Zeros (drop end s))
fewest true s end e h = (e, h)
fewest false s end e h = λ q. h q.1

-- THE ANSWER

module _ (s : List ℕ) where
  pub no_table : decode s ≡ missing → TableRead (table_read s) s R.None
  unfolding table_read table_in TableRead
  no_table h = rw h tt

  module _ (T : Table) (end : ℕ) (decodes : decode s ≡ found T (drop end s)) (inside : end ≤ length s) where
    ends_there : length (encode T) ≡ end
    ends_there =
        let a : length s ≡ length (encode T) + length (drop end s) = ap length (encode_decode s T (drop end s) decodes).0 ∙ length-append (encode T) (drop end s) in
        omega (arith, length-drop end s)

    to_filled : (length s ≡ blocks_for end * block_stream) × Zeros (drop end s) → Filled s T (drop end s)
    unfolding Filled
    to_filled q = (q.0 ∙ ap (λ (n : ℕ). blocks_for n * block_stream) (sym ends_there), q.1)

    from_filled : Filled s T (drop end s) → (length s ≡ blocks_for end * block_stream) × Zeros (drop end s)
    unfolding Filled
    from_filled q = (q.0 ∙ ap (λ (n : ℕ). blocks_for n * block_stream) ends_there, q.1)

    in_by : Dec (Filled s T (drop end s)) → Option Table
    in_by d = elim d [ yes h ↦ some T | no h ↦ none ]

    answered : table_read s ≡ in_by (filled? s T (drop end s))
    unfolding table_read table_in in_by
    answered = rw decodes

    by_yes : (d : Dec (Filled s T (drop end s))) → Filled s T (drop end s) → in_by d ≡ some T
    unfolding in_by
    by_yes (yes h) q = refl
    by_yes (no h) q = absurd (h q)

    by_no : (d : Dec (Filled s T (drop end s))) → ¬ Filled s T (drop end s) → in_by d ≡ none
    unfolding in_by
    by_no (yes h) q = absurd (q h)
    by_no (no h) q = refl

    not_filled : ¬ ((length s ≡ blocks_for end * block_stream) × Zeros (drop end s)) → TableRead (table_read s) s R.None
    unfolding TableRead
    not_filled n = rw (answered ∙ by_no (filled? s T (drop end s)) (λ q. n (from_filled q))) tt

    is_filled : (index : Index) → (length s ≡ blocks_for end * block_stream) × Zeros (drop end s) → Indexed T s index → TableRead (table_read s) s (R.Some index)
    unfolding TableRead
    is_filled index q h = rw (answered ∙ by_yes (filled? s T (drop end s)) (to_filled q)) h

  pub not_answered : (end : ℕ) (sizes : List ℕ) (names : Option (List Name)) (funcs acts params rows : List ℕ) (start : ℕ) → Decoded s end sizes names funcs acts params rows start → end ≤ length s
      → ¬ ((length s ≡ blocks_for end * block_stream) × Zeros (drop end s)) → TableRead (table_read s) s R.None
  unfolding Decoded
  not_answered end sizes names funcs acts params rows start h l n = let (T, d, p) = h in not_filled T end d l n

-- the parts of a table that was decoded are an index
module _ (s : List ℕ) (i : Index) where
  places : {A : Type 0} (encode : A → List ℕ) (xs : List A) (n : ℕ) (arr : List ℕ) → n ≤ length arr → length xs ≡ length (take n arr) → n ≡ length xs
  places encode xs n arr h e = sym (e ∙ length-take-le n arr h)

  indexed : (T : Table) → PartsAt T s (sizes_behind i.sort_count i.funcs) (names_there i.named s (take i.sort_count i.sorts)) (take i.functions i.funcs) (take i.actions i.acts) (take i.equations i.params) (take i.equations i.rows) i.start
      → i.sort_count ≤ length (drop max_functions i.funcs) → i.functions ≤ length i.funcs → i.actions ≤ length i.acts → i.equations ≤ length i.params → Indexed T s i
  unfolding params_of
  indexed T p m h k l =
      record {
        sorts_are = sym (length-take-le i.sort_count (drop max_functions i.funcs) m) ∙ ap length p.sizes_are;
        functions_are = places encode_func T.sig.funcs i.functions i.funcs h (as_many encode_func s T.sig.funcs (take i.functions i.funcs) p.funcs_stand);
        actions_are = places encode_action T.sig.acts i.actions i.acts k (as_many encode_action s T.sig.acts (take i.actions i.acts) p.acts_stand);
        equations_are =
            places encode_numbers (params_of T.equations) i.equations i.params l (as_many encode_numbers s (params_of T.equations) (take i.equations i.params) p.params_stand)
            ∙ length-map T.equations (λ (e : Equation). e.params);
        parts = p;
      }

  -- what was read into arrays apart is the index, with the sizes put behind the places of the functions
  pub table_answered : (end : ℕ) (sizes funcs : List ℕ)
      → Decoded s end (take i.sort_count sizes) (names_there i.named s (take i.sort_count i.sorts)) (take i.functions funcs) (take i.actions i.acts) (take i.equations i.params) (take i.equations i.rows) i.start
      → end ≤ length s → (length s ≡ blocks_for end * block_stream) × Zeros (drop end s)
      → i.funcs ≡ take max_functions funcs ++ sizes → length funcs ≡ max_functions + max_sorts → length sizes ≡ max_sorts
      → i.sort_count ≤ max_sorts → i.functions ≤ max_functions → i.actions ≤ length i.acts → i.equations ≤ length i.params → TableRead (table_read s) s (R.Some i)
  unfolding Decoded
  table_answered end sizes funcs h l q put n m few_sorts few_funcs b c =
      let (T, d, p) = h in
      let front : length (take max_functions funcs) ≡ max_functions = length-take-le max_functions funcs (omega arith) in
      let behind : drop max_functions i.funcs ≡ sizes = ap (drop max_functions) put ∙ drop_at (take max_functions funcs) sizes max_functions front in
      let same : take i.functions i.funcs ≡ take i.functions funcs =
      ap (take i.functions) put ∙ take-append-le i.functions (take max_functions funcs) sizes (omega arith) ∙ take-take i.functions max_functions funcs few_funcs in
      let long : length i.funcs ≡ max_functions + max_sorts = ap length put ∙ length-append (take max_functions funcs) sizes ∙ ap₂ (λ (x y : ℕ). x + y) front m in
      is_filled s T end d l i q
      (indexed T (subst (λ (x : List ℕ). PartsAt T s x (names_there i.named s (take i.sort_count i.sorts)) (take i.functions i.funcs) (take i.actions i.acts) (take i.equations i.params) (take i.equations i.rows) i.start) (ap (take i.sort_count) (sym behind))
      (subst (λ (x : List ℕ). PartsAt T s (take i.sort_count sizes) (names_there i.named s (take i.sort_count i.sorts)) x (take i.actions i.acts) (take i.equations i.params) (take i.equations i.rows) i.start) (sym same) p))
      (omega (arith, ap length behind)) (omega arith) b c)

-- SIZES BEHIND PLACES

byte_more : (l sizes : List ℕ) (k k' v : ℕ) → k < length l → length l ≤ length sizes → k' ≡ suc k → v ≡ get_or l k 0 → take k sizes ≡ take k l → take k' (set sizes k v) ≡ take k' l
byte_more l sizes k k' v h m z e f = rw (z, take-suc-set sizes k v (omega arith), take-suc l k 0 h, f, e)

list_whole : (l sizes : List ℕ) (k : ℕ) → length l ≤ k → k ≤ length l → take k sizes ≡ take k l → take (length l) sizes ≡ l
list_whole l sizes k h m e = let z : k ≡ length l = omega arith in subst (λ (m : ℕ). take m sizes ≡ take m l) z e ∙ take-length l

-- one size more
pub size_more : (sizes funcs before : List ℕ) (k k' v : ℕ) → k < length sizes → length sizes ≤ length (drop max_functions funcs) → k' ≡ suc k → v ≡ get_or sizes k 0
    → take max_functions funcs ≡ before → take k (drop max_functions funcs) ≡ take k sizes
    → (take max_functions (set funcs (max_functions + k) v) ≡ before) × (take k' (drop max_functions (set funcs (max_functions + k) v)) ≡ take k' sizes)
size_more sizes funcs before k k' v h m z e b f =
    (take-set-le max_functions funcs (max_functions + k) v (omega arith) ∙ b, ap (take k') (drop-set-add max_functions funcs k v) ∙ byte_more sizes (drop max_functions funcs) k k' v h m z e f)

-- all of them
pub sizes_put : (sizes funcs before : List ℕ) (k : ℕ) → length sizes ≤ k → k ≤ length sizes → length funcs ≡ max_functions + length sizes → take max_functions funcs ≡ before → take k (drop max_functions funcs) ≡ take k sizes
    → funcs ≡ before ++ sizes
sizes_put sizes funcs before k h m l b f =
    sym (take-append-drop max_functions funcs)
    ∙ ap₂ (λ (x y : List ℕ). x ++ y) b (sym (take_all (length sizes) (drop max_functions funcs) (omega (arith, length-drop max_functions funcs))) ∙ list_whole sizes (drop max_functions funcs) k h m f)
