-- Conditions one behind another: each stands where the one before it ends.
use mathlib.Core.Path.{◌≡◌, refl, sym, ap, ap₂, ◌∙◌}
use mathlib.Core.List.{List, [], ◌++◌, append_assoc}
use mathlib.Core.Bool.{Bool, true, false}
use Prim.Native.Nat.{ℕ, suc, ◌+◌, ◌-◌, ◌≤◌, ◌<◌, max, min}
use native.Mathlib.Numerals.{add-one}
use native.Mathlib.Omega.{arith}
use lib.Dec.{ltb}
use lib.ListN.{length, get_or, take, drop, set, length-append, length-drop, drop_of_length-le}
use lib.Seq.{drop-cons, drop-drop, get_or-drop, take_at, drop_at, get_or-set_same, get_or-set_other}
use borrow.Author.Tests.{ltb-true, ltb-false}
use Rattle.pcrl.specs.Limits.{frame_width, max_variables, max_conditions}
use Rattle.pcrl.specs.Tests.{Every}
use Rattle.pcrl.specs.Reader.{all}
use Rattle.pcrl.specs.Sheet.{Data, Sig}
use Rattle.pcrl.specs.Stream.{variable_code, encode_data, encode_list, encode_cond}
use Rattle.pcrl.specs.Right.{RightCond}
use Rattle.laws.specs.Every.{every_at}
use Rattle.laws.specs.TermLength.{term_length}
use Rattle.evaluation.specs.Run.{extent, peak, foot}
use Rattle.evaluation.specs.Known.{KnownTerms}
use Rattle.evaluation.proofs.Bytes.{extent_none}
use Rattle.evaluation.proofs.Terms.{extent_data}
use Rattle.assignments.specs.Places.{product}
use Rattle.assignments.specs.Conditions.{code}
use Rattle.assignments.specs.declared.Conditions.{Conditions}
use Rattle.opening.specs.Opened.{no_cond, Stood, Prepared}

-- what stands first in a list of pieces, and what behind it
pub all_first : {A : Type 0} (w : A → List ℕ) (xs : List A) (i : ℕ) (a : A) (rest : List ℕ) → i < length xs → all w (drop i xs) ++ rest ≡ w (get_or xs i a) ++ (all w (drop (i + 1) xs) ++ rest)
unfolding all
all_first w xs i a rest h = rw (drop-cons xs i a h, add-one i) (append_assoc (w (get_or xs i a)) (all w (drop (suc i) xs)) rest)

module _ (S : Sig) (s funcs : List ℕ) (known : KnownTerms S s funcs) (Γ : List ℕ) (short : length Γ ≤ variable_code) where
  -- a condition at a, and what is left behind it
  module _ (c : ℕ × Data) (right : RightCond S Γ c) (a : ℕ) (more : List ℕ) (here : drop a s ≡ encode_cond c ++ more) (end : ℕ) (is_end : end ≡ a + 1 + extent s funcs (drop (a + 1) s) 1) where
    abbrev d : Data
    d = c.1

    behind_wanted : drop (a + 1) s ≡ encode_data d ++ more
    unfolding encode_cond
    behind_wanted = sym (drop-drop 1 a s) ∙ ap (drop 1) here

    wanted : get_or s a 0 ≡ c.0
    unfolding encode_cond
    wanted = let z : a + 0 ≡ a = omega arith in ap (λ (x : ℕ). get_or s x 0) (sym z) ∙ sym (get_or-drop a s 0 0) ∙ ap (λ (x : List ℕ). get_or x 0 0) here

    ends : end ≡ a + 1 + length (encode_data d)
    unfolding RightCond
    ends = let x : extent s funcs (drop (a + 1) s) 1 ≡ length (encode_data d) + extent s funcs more 0 = ap (λ (y : List ℕ). extent s funcs y 1) behind_wanted ∙ extent_data S s funcs known Γ short d 0 more 0 right.1.0 in
        let z = extent_none s funcs more in omega arith

    the_code : code s a end ≡ encode_data d
    the_code = let z : end - (a + 1) ≡ length (encode_data d) = omega (arith, ends) in ap₂ (λ (n : ℕ) (y : List ℕ). take n y) z behind_wanted ∙ take_at (encode_data d) more (length (encode_data d)) refl

    pub cond_rest : drop end s ≡ more
    cond_rest = ap (λ (n : ℕ). drop n s) ends ∙ sym (drop-drop (length (encode_data d)) (a + 1) s) ∙ ap (drop (length (encode_data d))) behind_wanted ∙ drop_at (encode_data d) more (length (encode_data d)) refl

    some_byte : 0 < length (drop a s)
    unfolding encode_cond
    some_byte = rw here (omega arith)

    inside : end ≤ length s
    inside = let l = ap length behind_wanted in let e = ends in omega (arith, length-drop (a + 1) s, length-drop a s, length-append (encode_data d) more, some_byte)

    pub cond_stood : (p reach low h f block : ℕ) (sizes : List ℕ) → h ≤ reach → low ≤ f → (a + 1 ≤ end → end ≤ length s → h ≡ peak (take (end - (a + 1)) (drop (a + 1) s))) → (a + 1 ≤ end → end ≤ length s → f ≡ foot p (take (end - (a + 1)) (drop (a + 1) s))) → block ≡ product (drop (h - p) sizes) → Stood s p sizes reach low c a end block
    unfolding RightCond
    cond_stood p reach low h f block sizes up down eh ef eb =
        let e = ends in
        let n = term_length S Γ 0 d right.1 in
        let q : h ≡ peak (code s a end) = eh (omega arith) inside in
        let v : f ≡ foot p (code s a end) = ef (omega arith) inside in
        record {
          some_term = omega arith;
          short = omega arith;
          inside = inside;
          block_is = eb ∙ ap (λ (x : ℕ). product (drop (x - p) sizes)) q;
          below = omega arith;
          above = omega arith;
          code_is = the_code;
          wanted_is = wanted;
        }

-- one more condition is kept
module _ (s : List ℕ) (p : ℕ) (sizes : List ℕ) where
  wider : (reach reach' low low' : ℕ) (c : ℕ × Data) (from end block : ℕ) → reach ≤ reach' → low' ≤ low → Stood s p sizes reach low c from end block → Stood s p sizes reach' low' c from end block
  wider reach reach' low low' c from end block h k t =
      let l = t.below in
      let m = t.above in
      record { some_term = t.some_term; short = t.short; inside = t.inside; block_is = t.block_is; below = omega arith; above = omega arith; code_is = t.code_is; wanted_is = t.wanted_is }

  pub stood_more : (cs : List (ℕ × Data)) (froms ends blocks : List ℕ) (n reach reach' low low' a end b : ℕ) → n < length froms → n < length ends → n < length blocks → reach ≤ reach' → low' ≤ low
      → ((m : ℕ) → m < n → Stood s p sizes reach low (get_or cs m no_cond) (get_or froms m 0) (get_or ends m 0) (get_or blocks m 0)) → Stood s p sizes reach' low' (get_or cs n no_cond) a end b
      → (m : ℕ) → m < n + 1 → Stood s p sizes reach' low' (get_or cs m no_cond) (get_or (set froms n a) m 0) (get_or (set ends n end) m 0) (get_or (set blocks n b) m 0)
  stood_more cs froms ends blocks n reach reach' low low' a end b hf he hb up down old new m h = go (ltb m n) refl
    where
      go : (t : Bool) → ltb m n ≡ t → Stood s p sizes reach' low' (get_or cs m no_cond) (get_or (set froms n a) m 0) (get_or (set ends n end) m 0) (get_or (set blocks n b) m 0)
      go true q =
          let k = ltb-true m n q in
          let ne : m ≡ n → ⊥ = λ e. omega arith in
          rw (get_or-set_other froms n m a 0 ne, get_or-set_other ends n m end 0 ne, get_or-set_other blocks n m b 0 ne) (wider reach reach' low low' (get_or cs m no_cond) (get_or froms m 0) (get_or ends m 0) (get_or blocks m 0) up down (old m k))
      go false q =
          let k = ltb-false m n q in
          let z : m ≡ n = omega arith in
          rw (z, get_or-set_same froms n a 0 hf, get_or-set_same ends n end 0 he, get_or-set_same blocks n b 0 hb) new

-- the count, and the conditions behind it
pub conds_start : (s : List ℕ) (at : ℕ) (cs : List (ℕ × Data)) (rest : List ℕ) → drop at s ≡ encode_list encode_cond cs ++ rest → (get_or s at 0 ≡ length cs) × (drop (at + 1) s ≡ all encode_cond (drop 0 cs) ++ rest)
unfolding encode_list
conds_start s at cs rest here =
    let z : at + 0 ≡ at = omega arith in
    (ap (λ (x : ℕ). get_or s x 0) (sym z) ∙ sym (get_or-drop at s 0 0) ∙ ap (λ (x : List ℕ). get_or x 0 0) here, sym (drop-drop 1 at s) ∙ ap (drop 1) here)

-- what is known of the conditions before the i-th, which begins at a
unfoldable pub Gone : List ℕ → List ℕ → ℕ → ℕ → List ℕ → ℕ → List ℕ → List ℕ → List ℕ → ℕ → ℕ → ℕ → ℕ → Type 0
Gone s funcs at p sizes n froms ends blocks reach low a i =
    (S : Sig) (Γ : List ℕ) (cs : List (ℕ × Data)) (rest : List ℕ) → KnownTerms S s funcs → length Γ ≤ variable_code → Every (RightCond S Γ) cs → length cs ≤ max_conditions → drop at s ≡ encode_list encode_cond cs ++ rest
    → (n ≡ length cs) × ((drop a s ≡ all encode_cond (drop i cs) ++ rest) × ((m : ℕ) → m < i → Stood s p sizes reach low (get_or cs m no_cond) (get_or froms m 0) (get_or ends m 0) (get_or blocks m 0)))

module _ (s funcs : List ℕ) (at p : ℕ) (sizes : List ℕ) (n : ℕ) where
  pub gone_none : (froms ends blocks : List ℕ) → n ≡ min (get_or s at 0) max_conditions → Gone s funcs at p sizes n froms ends blocks 0 (frame_width + max_variables) (at + 1) 0
  unfolding Gone
  gone_none froms ends blocks e S Γ cs rest known short ev few here =
      let w = conds_start s at cs rest here in
      (omega (arith, w.0), (w.1, λ m h. absurd (omega arith)))

  pub gone_more : (froms ends blocks : List ℕ) (reach low a i b end h f g reach' low' : ℕ) → i < n → length froms ≡ max_conditions → length ends ≡ max_conditions → length blocks ≡ max_conditions → n ≤ max_conditions
      → b ≡ a + 1 → end ≡ b + extent s funcs (drop b s) 1 → (b ≤ end → end ≤ length s → h ≡ peak (take (end - b) (drop b s))) → (b ≤ end → end ≤ length s → f ≡ foot p (take (end - b) (drop b s))) → g ≡ product (drop (h - p) sizes) → reach' ≡ max reach h → low' ≡ min low f
      → Gone s funcs at p sizes n froms ends blocks reach low a i → Gone s funcs at p sizes n (set froms i a) (set ends i end) (set blocks i g) reach' low' end (i + 1)
  unfolding Gone
  gone_more froms ends blocks reach low a i b end h f g reach' low' l nf ne nb few_conditions eb ee eh ef eg er el gone S Γ cs rest known short ev few here =
      let (en, (left, old)) = gone S Γ cs rest known short ev few here in
      let c : ℕ × Data = get_or cs i no_cond in
      let k : i < length cs = omega arith in
      let right : RightCond S Γ c = every_at (RightCond S Γ) cs no_cond i ev k in
      let more : List ℕ = all encode_cond (drop (i + 1) cs) ++ rest in
      let here' : drop a s ≡ encode_cond c ++ more = left ∙ all_first encode_cond cs i no_cond rest k in
      let ee' : end ≡ a + 1 + extent s funcs (drop (a + 1) s) 1 = ee ∙ ap (λ (x : ℕ). x + extent s funcs (drop x s) 1) eb in
      let eh' : a + 1 ≤ end → end ≤ length s → h ≡ peak (take (end - (a + 1)) (drop (a + 1) s)) = λ u v. eh (omega arith) v ∙ ap (λ (x : ℕ). peak (take (end - x) (drop x s))) eb in
      let ef' : a + 1 ≤ end → end ≤ length s → f ≡ foot p (take (end - (a + 1)) (drop (a + 1) s)) = λ u v. ef (omega arith) v ∙ ap (λ (x : ℕ). foot p (take (end - x) (drop x s))) eb in (
        en,
        (
          cond_rest S s funcs known Γ short c right a more here' end ee',
          stood_more s p sizes cs froms ends blocks i reach reach' low low' a end g (omega arith) (omega arith) (omega arith) (omega arith) (omega arith) old (cond_stood S s funcs known Γ short c right a more here' end ee' p reach' low' h f g sizes (omega arith) (omega arith) eh' ef' eg),
        ),
      )

-- all conditions were gone through
pub gone_all : (s funcs : List ℕ) (at p : ℕ) (sizes : List ℕ) (r : Conditions) (i : ℕ) → i ≡ r.count → Gone s funcs at p sizes r.count r.froms r.ends r.blocks r.reach r.low r.end i
    → (S : Sig) (Γ : List ℕ) (cs : List (ℕ × Data)) (rest : List ℕ) → KnownTerms S s funcs → length Γ ≤ variable_code → Every (RightCond S Γ) cs → length cs ≤ max_conditions → drop at s ≡ encode_list encode_cond cs ++ rest → Prepared s p sizes cs rest r
unfolding Gone all
gone_all s funcs at p sizes r i e gone S Γ cs rest known short ev few here =
    let (en, (left, old)) = gone S Γ cs rest known short ev few here in
    let none : drop i cs ≡ [] = drop_of_length-le cs {i = i} (omega arith) in
    record {
      count_is = en;
      stood = λ m h. old m (omega arith);
      ends_at = left ∙ ap (λ (l : List (ℕ × Data)). all encode_cond l ++ rest) none;
    }
