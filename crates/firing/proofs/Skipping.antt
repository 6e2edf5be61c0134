-- The label and the calls of a summand, gone over.
use mathlib.Core.Path.{◌≡◌, refl, sym, ap, ap₂, subst, ◌∙◌}
use mathlib.Core.List.{List, [], ◌++◌, map}
use mathlib.Core.Bool.{Bool, true, false}
use Prim.Native.Nat.{ℕ, ◌+◌, ◌≤◌, ◌<◌, min}
use native.Mathlib.Omega.{arith}
use lib.Dec.{ltb}
use lib.ListN.{length, get_or, get_elem?, take, drop, length-map, drop_of_length-le}
use lib.Seq.{drop-drop, take_at, drop_at}
use borrow.Author.Tests.{ltb-true, ltb-false}
use Rattle.pcrl.specs.Limits.{max_calls}
use Rattle.pcrl.specs.Tests.{Every, Each}
use Rattle.pcrl.specs.Reader.{all}
use Rattle.pcrl.specs.Sheet.{Data, Act, tau, action, Sig, takes_of}
use Rattle.pcrl.specs.Sorts.{HasSort, IsAct}
use Rattle.pcrl.specs.Values.{eval}
use Rattle.pcrl.specs.Stream.{variable_code, tau_code, encode_data, encode_list, encode_act, encode_call}
use Rattle.pcrl.specs.Right.{RightTerm, RightCall}
use Rattle.pcrl.specs.Label.{label}
use Rattle.laws.specs.Each.{each_flip, each_length}
use Rattle.laws.specs.Every.{every_at}
use Rattle.evaluation.specs.Run.{extent}
use Rattle.evaluation.specs.Known.{KnownTerms}
use Rattle.evaluation.proofs.Bytes.{extent_none}
use Rattle.evaluation.proofs.Terms.{extent_all}
use Rattle.opening.proofs.Standing.{all_first}
use Rattle.firing.specs.Known.{Valued, KnownParts}
use Rattle.firing.specs.Fires.{act_of}
use Rattle.firing.proofs.Counting.{act_tau, act_action}
use Rattle.firing.proofs.Framing.{byte_at, call_number, call_terms, call_there, call_sorts, call_length}

-- past the end nothing stands
pub drop_within : (s : List ℕ) (a : ℕ) → drop (min a (length s)) s ≡ drop a s
drop_within s a = go (ltb a (length s)) refl
  where
    go : (t : Bool) → ltb a (length s) ≡ t → drop (min a (length s)) s ≡ drop a s
    go true q = let l = ltb-true a (length s) q in let z : min a (length s) ≡ a = omega arith in ap (λ (x : ℕ). drop x s) z
    go false q = let l = ltb-false a (length s) q in drop_of_length-le s {i = min a (length s)} (omega arith) ∙ sym (drop_of_length-le s {i = a} l)

-- an action and what stands behind it
module _ (S : Sig) (Ps : List (List ℕ)) (s acts params : List ℕ) (known : KnownParts S Ps s acts params) where
  pub act_here : (a : Act) (at : ℕ) (more : List ℕ) → IsAct S a → drop at s ≡ encode_act a ++ more → (act_of (get_or s at 0) ≡ a) × (drop (at + 1) s ≡ more)
  unfolding encode_act IsAct
  act_here tau at more is here = let b = byte_at s at tau_code more here in (act_tau (get_or s at 0) b.0, b.1)
  act_here (action k) at more is here =
      let b = byte_at s at k more here in
      let few = known.few_acts in
      (act_action (get_or s at 0) (λ e. omega (arith, b.0)) ∙ ap action b.0, b.1)

-- terms one behind another are gone over at once
module _ (S : Sig) (s funcs Γ : List ℕ) (known : KnownTerms S s funcs) (short : length Γ ≤ variable_code) where
  pub terms_past : (ts : List Data) (Ds more : List ℕ) (at n m : ℕ) → Each (RightTerm S Γ) Ds ts → n ≡ length ts → drop at s ≡ all encode_data ts ++ more → m ≡ at + extent s funcs (drop at s) n → drop m s ≡ more
  terms_past ts Ds more at n m right en here em =
      let sorted : Each (HasSort S (get_elem? Γ)) ts Ds = each_flip (RightTerm S Γ) (HasSort S (get_elem? Γ)) (λ D d r. r.0) Ds ts right in
      let z : n ≡ length ts + 0 = omega arith in
      let x : extent s funcs (drop at s) n ≡ length (all encode_data ts) + extent s funcs more 0 = ap₂ (extent s funcs) here z ∙ extent_all S s funcs known Γ short ts Ds more 0 sorted in
      let y = extent_none s funcs more in
      let e : m ≡ at + length (all encode_data ts) = omega arith in
      ap (λ (k : ℕ). drop k s) e ∙ sym (drop-drop (length (all encode_data ts)) at s) ∙ ap (drop (length (all encode_data ts))) here ∙ drop_at (all encode_data ts) more (length (all encode_data ts)) refl

  -- a count, and what stands behind it
  pub calls_here : (cs : List (ℕ × List Data)) (rest : List ℕ) (m : ℕ) → drop m s ≡ encode_list encode_call cs ++ rest → (get_or s m 0 ≡ length cs) × (drop (m + 1) s ≡ all encode_call cs ++ rest)
  unfolding encode_list
  calls_here cs rest m here = byte_at s m (length cs) (all encode_call cs ++ rest) here

no_call : ℕ × List Data
no_call = (0, [])

-- what is known before the i-th of n calls, which begins at a
unfoldable pub Skipped : List ℕ → List ℕ → List ℕ → List ℕ → ℕ → ℕ → ℕ → ℕ → Type 0
Skipped s funcs acts params at n a i =
    (S : Sig) (Ps : List (List ℕ)) (Γ : List ℕ) (act : Act) (ts : List Data) (cs : List (ℕ × List Data)) (rest : List ℕ) → KnownTerms S s funcs → length Γ ≤ variable_code → KnownParts S Ps s acts params
    → IsAct S act → Each (RightTerm S Γ) (takes_of S act) ts → Every (RightCall S Ps Γ) cs → length cs ≤ max_calls → drop at s ≡ encode_act act ++ (all encode_data ts ++ (encode_list encode_call cs ++ rest))
    → (n ≡ length cs) × (drop a s ≡ all encode_call (drop i cs) ++ rest)

module _ (s funcs acts params : List ℕ) (at : ℕ) where
  pub skipped_none : (b k m n : ℕ) → b ≡ get_or s at 0
      → ((S : Sig) (Ps : List (List ℕ)) (params : List ℕ) → KnownParts S Ps s acts params → IsAct S (act_of b) → k ≡ length (takes_of S (act_of b))) → m ≡ at + 1 + extent s funcs (drop (at + 1) s) k → n ≡ min (get_or s m 0) max_calls
      → Skipped s funcs acts params at n (m + 1) 0
  unfolding Skipped
  skipped_none b k m n eb ek em en S Ps Γ act ts cs rest known short parts is right calls few here =
      let w = act_here S Ps s acts params parts act at (all encode_data ts ++ (encode_list encode_call cs ++ rest)) is here in
      let e : act_of b ≡ act = ap act_of eb ∙ w.0 in
      let c : k ≡ length ts = ek S Ps params parts (subst (IsAct S) (sym e) is) ∙ ap (λ (x : Act). length (takes_of S x)) e ∙ each_length (RightTerm S Γ) (takes_of S act) ts right in
      let p = terms_past S s funcs Γ known short ts (takes_of S act) (encode_list encode_call cs ++ rest) (at + 1) k m right c w.1 em in
      let q = calls_here S s funcs Γ known short cs rest m p in
      (omega (arith, q.0), q.1)

  pub skipped_more : (n a i b k end : ℕ) → i < n → b ≡ get_or s a 0 → ((S : Sig) (Ps : List (List ℕ)) (acts : List ℕ) → KnownParts S Ps s acts params → b < length Ps → k ≡ length (get_or Ps b [])) → end ≡ a + 1 + extent s funcs (drop (a + 1) s) k
      → Skipped s funcs acts params at n a i → Skipped s funcs acts params at n end (i + 1)
  unfolding Skipped
  skipped_more n a i b k end h eb ek ee old S Ps Γ act ts cs rest known short parts is right calls few here =
      let (en, left) = old S Ps Γ act ts cs rest known short parts is right calls few here in
      let below : i < length cs = omega arith in
      let c : ℕ × List Data = get_or cs i no_call in
      let r : RightCall S Ps Γ c = every_at (RightCall S Ps Γ) cs no_call i calls below in
      let more : List ℕ = all encode_call (drop (i + 1) cs) ++ rest in
      let here' : drop a s ≡ encode_call c ++ more = left ∙ all_first encode_call cs i no_call rest below in
      let number : b ≡ c.0 = eb ∙ call_number S Ps s acts params Γ [] c more a parts r here' in
      let there = call_there S Ps s acts params Γ [] c more a parts r here' in
      let count : k ≡ length c.1 = ek S Ps acts parts (omega arith) ∙ ap (λ (x : ℕ). length (get_or Ps x [])) number ∙ sym (call_length S Ps s acts params Γ [] c more a parts r here') in
      (en, terms_past S s funcs Γ known short c.1 (get_or Ps c.0 []) more (a + 1) k end (call_sorts S Ps s acts params Γ [] c more a parts r here') count (call_terms S Ps s acts params Γ [] c more a parts r here') ee)

  pub skipped_all : (n a i r : ℕ) → i ≡ n → r ≡ min a (length s) → Skipped s funcs acts params at n a i
      → (S : Sig) (Ps : List (List ℕ)) (Γ : List ℕ) (act : Act) (ts : List Data) (cs : List (ℕ × List Data)) (rest : List ℕ) → KnownTerms S s funcs → length Γ ≤ variable_code → KnownParts S Ps s acts params
      → IsAct S act → Each (RightTerm S Γ) (takes_of S act) ts → Every (RightCall S Ps Γ) cs → length cs ≤ max_calls → drop at s ≡ encode_act act ++ (all encode_data ts ++ (encode_list encode_call cs ++ rest)) → drop r s ≡ rest
  unfolding Skipped all
  skipped_all n a i r z er old S Ps Γ act ts cs rest known short parts is right calls few here =
      let (en, left) = old S Ps Γ act ts cs rest known short parts is right calls few here in
      let none : drop i cs ≡ [] = drop_of_length-le cs {i = i} (omega arith) in
      ap (λ (x : ℕ). drop x s) er ∙ drop_within s a ∙ left ∙ ap (λ (l : List (ℕ × List Data)). all encode_call l ++ rest) none

-- the label and the frames that a summand gives
module _ (S : Sig) (Ps : List (List ℕ)) (s funcs acts params e Γ vs : List ℕ) (act : Act) (ts : List Data) (cs : List (ℕ × List Data)) (rest : List ℕ) (valued : Valued S s funcs e Γ vs) (parts : KnownParts S Ps s acts params)
    (is : IsAct S act) (right : Each (RightTerm S Γ) (takes_of S act) ts) (calls : Every (RightCall S Ps Γ) cs) (few : length cs ≤ max_calls) (at : ℕ) (here : drop at s ≡ encode_act act ++ (all encode_data ts ++ (encode_list encode_call cs ++ rest))) where
  more : List ℕ
  more = all encode_data ts ++ (encode_list encode_call cs ++ rest)

  pub act_is : (b : ℕ) → b ≡ get_or s at 0 → act_of b ≡ act
  act_is b eb = ap act_of eb ∙ (act_here S Ps s acts params parts act at (all encode_data ts ++ (encode_list encode_call cs ++ rest)) is here).0

  pub terms_here : drop (at + 1) s ≡ all encode_data ts ++ (encode_list encode_call cs ++ rest)
  terms_here = (act_here S Ps s acts params parts act at (all encode_data ts ++ (encode_list encode_call cs ++ rest)) is here).1

  pub arity_is : (b n : ℕ) → b ≡ get_or s at 0 → ((S : Sig) (Ps : List (List ℕ)) (params : List ℕ) → KnownParts S Ps s acts params → IsAct S (act_of b) → n ≡ length (takes_of S (act_of b))) → length ts ≡ n
  arity_is b n eb en = sym (en S Ps params parts (subst (IsAct S) (sym (act_is b eb)) is) ∙ ap (λ (x : Act). length (takes_of S x)) (act_is b eb) ∙ each_length (RightTerm S Γ) (takes_of S act) ts right)

  pub count_is : (m k : ℕ) → drop m s ≡ encode_list encode_call cs ++ rest → k ≡ min (get_or s m 0) max_calls → length cs ≡ k
  count_is m k left ek = let q = calls_here S s funcs Γ valued.known valued.short cs rest m left in omega (arith, q.0)

  pub first_call : (m : ℕ) → drop m s ≡ encode_list encode_call cs ++ rest → drop (m + 1) s ≡ all encode_call cs ++ rest
  first_call m left = (calls_here S s funcs Γ valued.known valued.short cs rest m left).1

  pub label_given : (b n : ℕ) (v zeros : List ℕ) → b ≡ get_or s at 0 → length ts ≡ n → v ≡ map (eval S vs) ts ++ zeros → label S act (map (eval S vs) ts) ≡ label S (act_of b) (take n v)
  label_given b n v zeros eb en ev =
      let l = length-map ts (eval S vs) in
      ap₂ (label S) (sym (act_is b eb)) (sym (ap (take n) ev ∙ take_at (map (eval S vs) ts) zeros n (omega arith)))
