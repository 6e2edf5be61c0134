-- The summands of an equation one behind another: each is opened where the one before it ends, and what it gives is passed or found.
use mathlib.Core.Path.{◌≡◌, refl, ap, sym, subst, ◌∙◌}
use mathlib.Core.List.{List, [], ◌∷◌, ◌++◌, map, append_assoc}
use mathlib.Core.Bool.{Bool, true, false}
use mathlib.Core.Option.{Option, none, some}
use Rattle.std.specs.Prelude.{Result, Ok, Err}
use Prim.Native.Nat.{ℕ, zero, suc, ◌+◌, ◌-◌, ◌<◌, ◌≤◌, min}
use native.Mathlib.Omega.{arith}
use native.Mathlib.Numerals.{add-one}
use lib.ListN.{length, get_or, get_elem?, take, drop, length-map, length-append, drop_of_length-le}
use lib.Seq.{drop-cons, drop-drop, drop_at}
use Rattle.pcrl.specs.Limits.{frame_width, max_variables, max_conditions, max_calls}
use Rattle.pcrl.specs.Tests.{Every, Each}
use Rattle.pcrl.specs.Reader.{all}
use Rattle.pcrl.specs.Sheet.{Data, Act, tau, Sig, takes_of}
use Rattle.pcrl.specs.Sorts.{IsAct}
use Rattle.pcrl.specs.Values.{eval}
use Rattle.pcrl.specs.Table.{Summand}
use Rattle.pcrl.specs.Label.{Label, label}
use Rattle.pcrl.specs.Stack.{Frame, InSorts}
use Rattle.pcrl.specs.Stream.{variable_code, encode_data, encode_numbers, encode_list, encode_cond, encode_act, encode_call, encode_summand}
use Rattle.pcrl.specs.Steps.{meets?, call_frame, outcome, fired}
use Rattle.pcrl.specs.Right.{AreSorts, RightSorts, RightTerm, RightCond, RightCall, RightSummand}
use Rattle.laws.specs.Every.{every_at}
use Rattle.laws.specs.Lists.{get_elem?_past, some_append}
use Rattle.terms.specs.Stands.{Stands}
use Rattle.terms.proofs.Places.{list_end}
use Rattle.evaluation.specs.Known.{KnownTerms, Alike}
use Rattle.assignments.specs.Places.{product, digits_of, places}
use Rattle.assignments.specs.Conditions.{env, Finds}
use Rattle.opening.specs.Opened.{sizes_of}
use Rattle.opening.proofs.Standing.{all_first}
use Rattle.firing.specs.Known.{Valued, KnownParts, AtRow}
use Rattle.firing.specs.Seeks.{Seeks}
use Rattle.firing.specs.Fires.{Gives, Fires}
use Rattle.firing.specs.declared.Fired.{Fired}
use Rattle.firing.specs.declared.Sought.{Sought}
use Rattle.firing.proofs.Framing.{byte_at}
use Rattle.firing.proofs.Skipping.{drop_within}
use Rattle.firing.proofs.Listing.{answers}
use Rattle.firing.proofs.Meeting.{short, whole, whole_valued, passes, fired_is}

-- THE k-TH OF TWO LISTS

module _ {A : Type 0} where
  past_first : (l m : List A) (k left : ℕ) → k ≡ left + length l → get_elem? (l ++ m) k ≡ get_elem? m left
  past_first [] m k left e = let z : k ≡ left = omega arith in ap (get_elem? m) z
  past_first (x ∷ l) m zero left e = absurd (omega arith)
  past_first (x ∷ l) m (suc k) left e = past_first l m k left (omega arith)

some_map : {A B : Type 0} (f : A → B) (l : List A) (k : ℕ) (a : A) → get_elem? l k ≡ some a → get_elem? (map f l) k ≡ some (f a)
some_map f [] k a e = absurd (let z : ◌≡◌ {A = ℕ} 0 1 = cc in omega arith)
some_map f (x ∷ l) zero a e = let z : x ≡ a = cc in ap (λ y. some (f y)) z
some_map f (x ∷ l) (suc k) a e = some_map f l k a e

no_summand : Summand
no_summand = record { vars = []; conds = []; act = tau; terms = []; calls = [] }

-- ONE SUMMAND

module _ (S : Sig) (Ps : List (List ℕ)) (s funcs acts params Δ vs : List ℕ) (h : Summand) (known : KnownTerms S s funcs) (parts : KnownParts S Ps s acts params) (few : length Δ ≤ frame_width) (in_Δ : InSorts S Δ vs)
    (right : RightSummand S Ps Δ h) (at : ℕ) (more : List ℕ) (here : drop at s ≡ encode_summand h ++ more) where
  pub few_vars : length h.vars ≤ max_variables
  unfolding RightSummand RightSorts
  few_vars = right.0.0

  pub sorts : AreSorts S.sorts h.vars
  unfolding RightSummand RightSorts
  sorts = right.0.1

  conds_right : Every (RightCond S (Δ ++ h.vars)) h.conds
  unfolding RightSummand
  conds_right = right.1.0.1

  few_conds : length h.conds ≤ max_conditions
  unfolding RightSummand
  few_conds = right.1.0.0

  act_right : IsAct S h.act
  unfolding RightSummand
  act_right = right.1.1.0

  terms_right : Each (RightTerm S (Δ ++ h.vars)) (takes_of S h.act) h.terms
  unfolding RightSummand
  terms_right = right.1.1.1.0

  few_calls : length h.calls ≤ max_calls
  unfolding RightSummand
  few_calls = right.1.1.1.1.0

  calls_right : Every (RightCall S Ps (Δ ++ h.vars)) h.calls
  unfolding RightSummand
  calls_right = right.1.1.1.1.1

  -- the label, the calls and what stands behind them
  abbrev rest_of : List ℕ
  rest_of = encode_act h.act ++ (all encode_data h.terms ++ (encode_list encode_call h.calls ++ more))

  stands : drop at s ≡ encode_numbers h.vars ++ (encode_list encode_cond h.conds ++ rest_of)
  unfolding encode_summand
  stands = here ∙ simp append_assoc

  pub vars_stand : Stands s at (encode_numbers h.vars)
  vars_stand = (encode_list encode_cond h.conds ++ rest_of, stands)

  pub conds_here : (b : ℕ) → b ≡ at + 1 + get_or s at 0 → drop b s ≡ encode_list encode_cond h.conds ++ rest_of
  conds_here b e =
      let z : b ≡ at + length (encode_numbers h.vars) = e ∙ list_end s at h.vars vars_stand in
      ap (λ (x : ℕ). drop x s) z ∙ sym (drop-drop (length (encode_numbers h.vars)) at s) ∙ ap (drop (length (encode_numbers h.vars))) stands ∙ drop_at (encode_numbers h.vars) (encode_list encode_cond h.conds ++ rest_of) (length (encode_numbers h.vars)) refl

  gives : ℕ → Label × List Frame
  gives i = outcome frame_width S (whole S s funcs Δ vs h known few in_Δ sorts few_vars i) h

  module _ (p : ℕ) (first : List ℕ) (e : take p first ≡ vs) (sizes : List ℕ) (ez : sizes ≡ sizes_of S h.vars) (b : ℕ) (eb : b ≡ at + 1 + get_or s at 0) (k : ℕ) (o : Sought) (seeks : Seeks s funcs first p sizes b k o) where
    those : List ℕ
    those = places (passes S s funcs Δ vs h known few in_Δ sorts few_vars) (product sizes) 0

    sought : Finds those k o.found × (drop o.end s ≡ rest_of)
    unfolding Seeks those
    sought =
        seeks S (Δ ++ h.vars) rest_of h.conds (whole S s funcs Δ vs h known few in_Δ sorts few_vars) (passes S s funcs Δ vs h known few in_Δ sorts few_vars) (whole_valued S s funcs Δ vs h known few in_Δ sorts few_vars p first sizes e ez)
        (λ j. answers (meets? S (whole S s funcs Δ vs h known few in_Δ sorts few_vars j) h.conds)) conds_right few_conds (conds_here b eb)

    listed : fired frame_width S vs h ≡ map gives those
    unfolding those gives
    listed = fired_is S s funcs Δ vs h known few in_Δ sorts few_vars ∙ ap (λ (z : List ℕ). map gives (places (passes S s funcs Δ vs h known few in_Δ sorts few_vars) (product z) 0)) (sym ez)

    -- it is passed
    pub passed : (left : ℕ) → o.found ≡ Err left → k ≡ left + length (fired frame_width S vs h)
    unfolding Finds
    passed left q =
        let a : Finds those k (Err left) = subst (λ (x : Result ℕ ℕ). Finds those k x) q sought.0 in
        let l : length (fired frame_width S vs h) ≡ length those = ap length listed ∙ length-map those gives in
        omega arith

    -- or the step is found in it
    pub hit : (j : ℕ) → o.found ≡ Ok j → get_elem? (fired frame_width S vs h) k ≡ some (outcome frame_width S (whole S s funcs Δ vs h known few in_Δ sorts few_vars j) h)
    unfolding Finds gives
    hit j q =
        let a : Finds those k (Ok j) = subst (λ (x : Result ℕ ℕ). Finds those k x) q sought.0 in
        ap (λ (l : List (Label × List Frame)). get_elem? l k) listed ∙ some_map gives those k j a

    pub valued : (j : ℕ) (f w : List ℕ) → w ≡ digits_of sizes j → Alike f (env p first w) → Valued S s funcs f (Δ ++ h.vars) (whole S s funcs Δ vs h known few in_Δ sorts few_vars j)
    valued j f w ew a =
        let v = whole_valued S s funcs Δ vs h known few in_Δ sorts few_vars p first sizes e ez j in
        record { known = known; short = v.short; in_sorts = v.in_sorts; alike = λ i. a i ∙ ap (λ (y : List ℕ). get_or (env p first y) i 0) ew ∙ v.alike i }

    -- where the summand ends
    pub ends_behind : (r : ℕ)
        → ((S : Sig) (Ps : List (List ℕ)) (Γ : List ℕ) (a : Act) (ts : List Data) (cs : List (ℕ × List Data)) (rest : List ℕ) → KnownTerms S s funcs → length Γ ≤ variable_code → KnownParts S Ps s acts params → IsAct S a → Each (RightTerm S Γ) (takes_of S a) ts → Every (RightCall S Ps Γ) cs → length cs ≤ max_calls → drop o.end s ≡ encode_act a ++ (all encode_data ts ++ (encode_list encode_call cs ++ rest)) → drop r s ≡ rest)
        → drop r s ≡ more
    ends_behind r f = f S Ps (Δ ++ h.vars) h.act h.terms h.calls more known (short S s funcs Δ vs h known few in_Δ sorts few_vars) parts act_right terms_right calls_right few_calls sought.1

    -- what is answered
    pub fires_here : (j : ℕ) (f w before after : List ℕ) (r : Fired) → w ≡ digits_of sizes j → Alike f (env p first w)
        → ((S : Sig) (Ps : List (List ℕ)) (Γ vs : List ℕ) (a : Act) (ts : List Data) (cs : List (ℕ × List Data)) (rest : List ℕ) → Valued S s funcs f Γ vs → KnownParts S Ps s acts params → IsAct S a → Each (RightTerm S Γ) (takes_of S a) ts → Every (RightCall S Ps Γ) cs → length cs ≤ max_calls → drop o.end s ≡ encode_act a ++ (all encode_data ts ++ (encode_list encode_call cs ++ rest)) → Gives S (label S a (map (eval S vs) ts)) (map (call_frame frame_width S vs) cs) r before after)
        → (n : ℕ) → Fires S (some (outcome frame_width S (whole S s funcs Δ vs h known few in_Δ sorts few_vars j) h)) n (Ok r) before after
    unfolding Fires outcome
    fires_here j f w before after r ew a given n =
        given S Ps (Δ ++ h.vars) (whole S s funcs Δ vs h known few in_Δ sorts few_vars j) h.act h.terms h.calls more (valued j f w ew a) parts act_right terms_right calls_right few_calls sought.1

-- ALL SUMMANDS: k is asked for, `left` of it is left before the i-th of n summands, which begins at a place

unfoldable pub Rowing : List ℕ → List ℕ → List ℕ → List ℕ → List ℕ → ℕ → ℕ → ℕ → ℕ → ℕ → ℕ → ℕ → Type 0
Rowing s funcs acts params first p row k n at left i =
    (S : Sig) (Ps : List (List ℕ)) (Δ vs : List ℕ) (hs : List Summand) (rest : List ℕ) → AtRow S Ps s funcs acts params Δ vs hs → take p first ≡ vs → drop row s ≡ encode_list encode_summand hs ++ rest
    → (n ≡ length hs) × ((drop at s ≡ all encode_summand (drop i hs) ++ rest)
    × ((get_elem? (all (fired frame_width S vs) hs) k ≡ get_elem? (all (fired frame_width S vs) (drop i hs)) left)
    × (k + length (all (fired frame_width S vs) (drop i hs)) ≡ left + length (all (fired frame_width S vs) hs))))

all_cons : {A B : Type 0} (w : A → List B) (xs : List A) (i : ℕ) (a : A) → i < length xs → all w (drop i xs) ≡ w (get_or xs i a) ++ all w (drop (i + 1) xs)
unfolding all
all_cons w xs i a h = rw (drop-cons xs i a h, add-one i) refl

module _ (s funcs acts params first : List ℕ) (p row k n : ℕ) where
  pub row_start : (at : ℕ) → n ≡ get_or s row 0 → at ≡ min (row + 1) (length s) → Rowing s funcs acts params first p row k n at k 0
  unfolding Rowing encode_list
  row_start at en ea S Ps Δ vs hs rest there e here =
      let b = byte_at s row (length hs) (all encode_summand hs ++ rest) here in
      (en ∙ b.0, (ap (λ (x : ℕ). drop x s) ea ∙ drop_within s (row + 1) ∙ b.1, (refl, refl)))

  pub row_end : (at left i passed : ℕ) (before : List ℕ) → n ≤ i → passed ≡ k - left → Rowing s funcs acts params first p row k n at left i
      → (S : Sig) (Ps : List (List ℕ)) (Δ vs : List ℕ) (hs : List Summand) (rest : List ℕ) → AtRow S Ps s funcs acts params Δ vs hs → take p first ≡ vs → drop row s ≡ encode_list encode_summand hs ++ rest
      → Fires S (get_elem? (all (fired frame_width S vs) hs) k) (length (all (fired frame_width S vs) hs)) (Err passed) before before
  unfolding Rowing Fires all
  row_end at left i passed before l np w S Ps Δ vs hs rest there e here =
      let (en, (h, (g, m))) = w S Ps Δ vs hs rest there e here in
      let none_left : drop i hs ≡ [] = drop_of_length-le hs {i = i} (omega arith) in
      let z : length (all (fired frame_width S vs) (drop i hs)) ≡ 0 = ap (λ (x : List Summand). length (all (fired frame_width S vs) x)) none_left in
      let o : get_elem? (all (fired frame_width S vs) hs) k ≡ none = get_elem?_past (all (fired frame_width S vs) hs) k (omega arith) in
      subst (λ (x : Option (Label × List Frame)). Fires S x (length (all (fired frame_width S vs) hs)) (Err passed) before before) (sym o) (np ∙ omega arith, refl)

  module _ (at left i : ℕ) (below : i < n) (w : Rowing s funcs acts params first p row k n at left i) (sizes : List ℕ) (b : ℕ) (eb : b ≡ at + 1 + get_or s at 0)
      (sized : (S : Sig) (vars : List ℕ) → KnownTerms S s funcs → Stands s at (encode_numbers vars) → AreSorts S.sorts vars → length vars ≤ max_variables → sizes ≡ sizes_of S vars) (o : Sought) (seeks : Seeks s funcs first p sizes b left o) where
    pub row_more : (end rest_left : ℕ) → o.found ≡ Err rest_left
        → ((S : Sig) (Ps : List (List ℕ)) (Γ : List ℕ) (a : Act) (ts : List Data) (cs : List (ℕ × List Data)) (rest : List ℕ) → KnownTerms S s funcs → length Γ ≤ variable_code → KnownParts S Ps s acts params → IsAct S a → Each (RightTerm S Γ) (takes_of S a) ts → Every (RightCall S Ps Γ) cs → length cs ≤ max_calls → drop o.end s ≡ encode_act a ++ (all encode_data ts ++ (encode_list encode_call cs ++ rest)) → drop end s ≡ rest)
        → Rowing s funcs acts params first p row k n end rest_left (i + 1)
    unfolding Rowing
    row_more end rest_left nf gone S Ps Δ vs hs rest there e here =
        let (en, (left_here, (g, m))) = w S Ps Δ vs hs rest there e here in
        let in_list : i < length hs = omega arith in
        let h : Summand = get_or hs i no_summand in
        let right : RightSummand S Ps Δ h = every_at (RightSummand S Ps Δ) hs no_summand i there.right in_list in
        let more : List ℕ = all encode_summand (drop (i + 1) hs) ++ rest in
        let this : drop at s ≡ encode_summand h ++ more = left_here ∙ all_first encode_summand hs i no_summand rest in_list in
        let ez : sizes ≡ sizes_of S h.vars = sized S h.vars there.known (vars_stand S Ps s funcs acts params Δ vs h there.known there.parts there.few there.in_sorts right at more this) (sorts S Ps s funcs acts params Δ vs h there.known there.parts there.few there.in_sorts right at more this) (few_vars S Ps s funcs acts params Δ vs h there.known there.parts there.few there.in_sorts right at more this) in
        let gone_by : left ≡ rest_left + length (fired frame_width S vs h) = passed S Ps s funcs acts params Δ vs h there.known there.parts there.few there.in_sorts right at more this p first e sizes ez b eb left o seeks rest_left nf in
        let split : all (fired frame_width S vs) (drop i hs) ≡ fired frame_width S vs h ++ all (fired frame_width S vs) (drop (i + 1) hs) = all_cons (fired frame_width S vs) hs i no_summand in_list in
        let len : length (all (fired frame_width S vs) (drop i hs)) ≡ length (fired frame_width S vs h) + length (all (fired frame_width S vs) (drop (i + 1) hs)) = ap length split ∙ length-append (fired frame_width S vs h) (all (fired frame_width S vs) (drop (i + 1) hs)) in (
          en,
          (
            ends_behind S Ps s funcs acts params Δ vs h there.known there.parts there.few there.in_sorts right at more this p first e sizes ez b eb left o seeks end gone,
            (
              g ∙ ap (λ (l : List (Label × List Frame)). get_elem? l left) split ∙ past_first (fired frame_width S vs h) (all (fired frame_width S vs) (drop (i + 1) hs)) left rest_left gone_by,
              omega arith,
            ),
          ),
        )

    pub row_found : (j : ℕ) (f v before after : List ℕ) (r : Fired) → o.found ≡ Ok j → v ≡ digits_of sizes j → Alike f (env p first v)
        → ((S : Sig) (Ps : List (List ℕ)) (Γ vs : List ℕ) (a : Act) (ts : List Data) (cs : List (ℕ × List Data)) (rest : List ℕ) → Valued S s funcs f Γ vs → KnownParts S Ps s acts params → IsAct S a → Each (RightTerm S Γ) (takes_of S a) ts → Every (RightCall S Ps Γ) cs → length cs ≤ max_calls → drop o.end s ≡ encode_act a ++ (all encode_data ts ++ (encode_list encode_call cs ++ rest)) → Gives S (label S a (map (eval S vs) ts)) (map (call_frame frame_width S vs) cs) r before after)
        → (S : Sig) (Ps : List (List ℕ)) (Δ vs : List ℕ) (hs : List Summand) (rest : List ℕ) → AtRow S Ps s funcs acts params Δ vs hs → take p first ≡ vs → drop row s ≡ encode_list encode_summand hs ++ rest
        → Fires S (get_elem? (all (fired frame_width S vs) hs) k) (length (all (fired frame_width S vs) hs)) (Ok r) before after
    unfolding Rowing
    row_found j f v before after r yes_found ev alike given S Ps Δ vs hs rest there e here =
        let (en, (left_here, (g, m))) = w S Ps Δ vs hs rest there e here in
        let in_list : i < length hs = omega arith in
        let h : Summand = get_or hs i no_summand in
        let right : RightSummand S Ps Δ h = every_at (RightSummand S Ps Δ) hs no_summand i there.right in_list in
        let more : List ℕ = all encode_summand (drop (i + 1) hs) ++ rest in
        let this : drop at s ≡ encode_summand h ++ more = left_here ∙ all_first encode_summand hs i no_summand rest in_list in
        let ez : sizes ≡ sizes_of S h.vars = sized S h.vars there.known (vars_stand S Ps s funcs acts params Δ vs h there.known there.parts there.few there.in_sorts right at more this) (sorts S Ps s funcs acts params Δ vs h there.known there.parts there.few there.in_sorts right at more this) (few_vars S Ps s funcs acts params Δ vs h there.known there.parts there.few there.in_sorts right at more this) in
        let at_k = hit S Ps s funcs acts params Δ vs h there.known there.parts there.few there.in_sorts right at more this p first e sizes ez b eb left o seeks j yes_found in
        let split : all (fired frame_width S vs) (drop i hs) ≡ fired frame_width S vs h ++ all (fired frame_width S vs) (drop (i + 1) hs) = all_cons (fired frame_width S vs) hs i no_summand in_list in
        let at_left = g ∙ ap (λ (l : List (Label × List Frame)). get_elem? l left) split ∙ some_append (fired frame_width S vs h) (all (fired frame_width S vs) (drop (i + 1) hs)) left _ at_k in
        subst (λ (x : Option (Label × List Frame)). Fires S x (length (all (fired frame_width S vs) hs)) (Ok r) before after) (sym at_left)
        (fires_here S Ps s funcs acts params Δ vs h there.known there.parts there.few there.in_sorts right at more this p first e sizes ez b eb left o seeks j f v before after r ev alike given (length (all (fired frame_width S vs) hs)))
