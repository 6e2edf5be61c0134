-- "Steps are listed by summand, then by values, last variable fastest": a step arises in a way, which is a summand and values of its sum variables.
-- The list goes through all ways of the top frame, each once, in that order; so equal steps stand once for each way in which they arise.
use Rattle.std.specs.Prelude.{◌≡◌, ◌⊎◌, get_or}
use Rattle.std.proofs.Math.Path.{refl, ap, ap₂, sym, subst}
use Rattle.std.proofs.Common.{◌∙◌, subst₂, length-append}
use mathlib.Core.List.{List, [], ◌∷◌, ◌++◌, map, map-append}
use Rattle.std.proofs.Math.Logic.{inl, inr}
use Rattle.std.proofs.Math.Option.{some}
use Prim.Native.Nat.{ℕ, zero, suc, ◌+◌, ◌<◌}
use native.Mathlib.Omega.{arith}
use Rattle.std.proofs.Math.ListN.{length, get_elem?}
use Rattle.std.proofs.lemmas.List.{length-map}
use Rattle.pcrl.specs.Reader.{all}
use Rattle.pcrl.specs.Lists.{tabulate}
use Rattle.pcrl.specs.Sheet.{tau, Sig, size}
use Rattle.pcrl.specs.Label.{Label}
use Rattle.pcrl.specs.Table.{Summand, Table, equation}
use Rattle.pcrl.specs.Stack.{Frame, Stack, InSorts, used}
use Rattle.pcrl.specs.Steps.{Meets, meets?, values_of, if_met, outcome, fired, steps}
use Rattle.laws.specs.Lists.{map_twice}
use Rattle.laws.specs.Any.{any_left, any_right, any_cases, any_none, any_to, any_map, any_of_map, In, any_all, any_of_all, any_found, place_in, in_place}
use Rattle.theory.specs.Listing.{any_values, any_of_values, any_if_met, any_of_if_met}
use Rattle.theory.specs.Ascending.{Ascending, ascending_append, ascending_places, ascending_once, ascending_map, ascending_all, ascending_if_met, ascending_tabulate}

-- a way in which a step may arise
pub record Way : Type 0 where
  -- the number of a summand in its equation, from 0
  pub summand : ℕ
  -- values of its sum variables
  pub values : List ℕ

abbrev way : ℕ → List ℕ → Way
way n vs = record { summand = n; values = vs }

-- "last variable fastest": values are compared from the first variable on
unfoldable pub Earlier : List ℕ → List ℕ → Type 0
Earlier [] ws = ⊥
Earlier (v ∷ vs) [] = ⊥
Earlier (v ∷ vs) (w ∷ ws) = (v < w) ⊎ ((v ≡ w) × Earlier vs ws)

-- "by summand, then by values"
unfoldable pub Before : Way → Way → Type 0
Before v w = (v.summand < w.summand) ⊎ ((v.summand ≡ w.summand) × Earlier v.values w.values)

abbrev pub no_summand : Summand
no_summand = record { vars = []; conds = []; act = tau; terms = []; calls = [] }

module _ (T : Table) (f : Frame) where
  -- summand n of the frame's equation
  unfoldable pub summand_at : ℕ → Summand
  summand_at n = get_or (equation T f.number).summands n no_summand

  -- "a summand of the top frame's equation and values for its sum variables that meet its conditions"
  pub record IsWay (w : Way) : Type 0 where
    pub there : w.summand < length (equation T f.number).summands
    pub in_sorts : InSorts T.sig (summand_at w.summand).vars w.values
    pub meets : Meets T.sig (used T f ++ w.values) (summand_at w.summand).conds

  -- the step that a way gives, where the stack s is below the frame
  unfoldable pub way_step : ℕ → Stack → Way → Label × Stack
  way_step width s w = let x = outcome width T.sig (used T f ++ w.values) (summand_at w.summand) in (x.0, x.1 ++ s)

  -- The list of steps goes through the ways ws, each of them once, in their order.
  pub record InOrder (width : ℕ) (s : Stack) (ws : List Way) : Type 0 where
    pub only_ways : (k : ℕ) (w : Way) → get_elem? ws k ≡ some w → IsWay w
    -- each way stands at one place and at no other
    pub each_once : (w : Way) → IsWay w → (k : ℕ) × (get_elem? ws k ≡ some w) × ((j : ℕ) → get_elem? ws j ≡ some w → j ≡ k)
    pub in_order : (i j : ℕ) (v w : Way) → i < j → get_elem? ws i ≡ some v → get_elem? ws j ≡ some w → Before v w
    -- step k is that of way k
    pub gives : steps width T (f ∷ s) ≡ map (way_step width s) ws

earlier_irrefl : (vs : List ℕ) → Earlier vs vs → ⊥
unfolding Earlier
earlier_irrefl [] h = h
earlier_irrefl (v ∷ vs) (inl h) = omega arith
earlier_irrefl (v ∷ vs) (inr h) = earlier_irrefl vs h.1

before_irrefl : (w : Way) → Before w w → ⊥
unfolding Before
before_irrefl w (inl h) = omega arith
before_irrefl w (inr h) = earlier_irrefl w.values h.1

values_ascend : (S : Sig) (Ds : List ℕ) → Ascending Earlier (values_of S Ds)
unfolding values_of Ascending Earlier
values_ascend S [] = (λ y i. absurd (any_none i), tt)
values_ascend S (D ∷ Ds) =
    ascending_all (λ (v w : ℕ). v < w) Earlier (λ v. map (λ vs. v ∷ vs) (values_of S Ds))
    (λ v. ascending_map Earlier Earlier (λ vs. v ∷ vs) (λ x y r. inr (refl, r)) (values_of S Ds) (values_ascend S Ds))
    (λ v w r x y i j. let (vs, a, e) = any_found (any_of_map _ (values_of S Ds) i) in let (ws, b, g) = any_found (any_of_map _ (values_of S Ds) j) in subst₂ Earlier e g (inl r))
    (tabulate (size S D) (λ v. v))
    (ascending_tabulate (λ (v w : ℕ). v < w) (λ v. v) (λ i j h. h) (size S D))

map_if_met : {A B : Type 0} {P : A → Type 0} (p : (a : A) → Dec (P a)) (g : A → B) (xs : List A) → map g (all (λ a. if_met (p a) a) xs) ≡ all (λ a. if_met (p a) (g a)) xs
unfolding all if_met
map_if_met {A} {B} {P} p g [] = refl
map_if_met {A} {B} {P} p g (x ∷ xs) = map-append g (if_met (p x) x) _ ∙ ap₂ (λ (l m : List B). l ++ m) (one (p x)) (map_if_met p g xs)
  where
    one : {X : Type 0} (d : Dec X) → map g (if_met d x) ≡ if_met d (g x)
    one (yes h) = refl
    one (no h) = refl

module _ (T : Table) (f : Frame) where
  -- the values with which a summand gives a step
  unfoldable met_values : Summand → List (List ℕ)
  met_values h = all (λ vs. if_met (meets? T.sig (used T f ++ vs) h.conds) vs) (values_of T.sig h.vars)

  in_met_values : (h : Summand) (vs : List ℕ) → InSorts T.sig h.vars vs → Meets T.sig (used T f ++ vs) h.conds → In vs (met_values h)
  unfolding met_values
  in_met_values h vs i m = any_all _ (any_values T.sig h.vars vs i (any_if_met (meets? T.sig (used T f ++ vs) h.conds) vs m refl))

  of_met_values : (h : Summand) (vs : List ℕ) → In vs (met_values h) → InSorts T.sig h.vars vs × Meets T.sig (used T f ++ vs) h.conds
  unfolding met_values
  of_met_values h vs a =
      let (ws, i, b) = any_of_values T.sig h.vars (any_of_all _ (values_of T.sig h.vars) a) in
      let (m, e) = any_of_if_met (meets? T.sig (used T f ++ ws) h.conds) ws b in
      subst (λ (xs : List ℕ). InSorts T.sig h.vars xs × Meets T.sig (used T f ++ xs) h.conds) e (i, m)

  -- the ways of some summands, numbered from n
  unfoldable ways_from : ℕ → List Summand → List Way
  ways_from n [] = []
  ways_from n (h ∷ hs) = map (way n) (met_values h) ++ ways_from (suc n) hs

  -- the ways of the frame, in order
  pub ways : List Way
  ways = ways_from 0 (equation T f.number).summands

  in_ways_from : (n : ℕ) (hs : List Summand) (i : ℕ) (w : Way) → i < length hs → w.summand ≡ n + i → In w.values (met_values (get_or hs i no_summand)) → In w (ways_from n hs)
  unfolding ways_from
  in_ways_from n [] i w h e a = absurd (omega arith)
  in_ways_from n (h ∷ hs) zero w k e a = any_left _ (any_map (way n) (any_to (λ vs g. let z : w.summand ≡ n = omega arith in λ i. record { summand = sym z i; values = g i }) a))
  in_ways_from n (h ∷ hs) (suc i) w k e a = any_right (map _ (met_values h)) (in_ways_from (suc n) hs i w (omega arith) (omega arith) a)

  of_ways_from : (n : ℕ) (hs : List Summand) (w : Way) → In w (ways_from n hs) → (i : ℕ) × (i < length hs) × (w.summand ≡ n + i) × In w.values (met_values (get_or hs i no_summand))
  unfolding ways_from
  of_ways_from n [] w a = absurd (any_none a)
  of_ways_from n (h ∷ hs) w a = by (any_cases (map _ (met_values h)) a) (of_ways_from (suc n) hs w)
    where
      by : In w (map (way n) (met_values h)) ⊎ In w (ways_from (suc n) hs)
          → (In w (ways_from (suc n) hs) → (i : ℕ) × (i < length hs) × (w.summand ≡ suc n + i) × In w.values (met_values (get_or hs i no_summand)))
          → (i : ℕ) × (i < suc (length hs)) × (w.summand ≡ n + i) × In w.values (met_values (get_or (h ∷ hs) i no_summand))
      by (inl b) rec =
          let (vs, c, e) = any_found (any_of_map (way n) (met_values h) b) in
          let z : n ≡ w.summand = ap (λ (x : Way). x.summand) e in
          (zero, omega arith, omega arith, subst (λ (xs : List ℕ). In xs (met_values h)) (ap (λ (x : Way). x.values) e) c)
      by (inr b) rec = let (i, k, e, c) = rec b in (suc i, omega arith, omega arith, c)

  ways_ascend : (n : ℕ) (hs : List Summand) → Ascending Before (ways_from n hs)
  unfolding ways_from Ascending Before
  ways_ascend n [] = tt
  ways_ascend n (h ∷ hs) =
      ascending_append Before (map _ (met_values h)) (ways_from (suc n) hs)
      (ascending_map Earlier Before _ (λ v w r. inr (refl, r)) (met_values h)
      (unfold met_values in (ascending_if_met Earlier (λ vs. meets? T.sig (used T f ++ vs) h.conds) (values_of T.sig h.vars) (values_ascend T.sig h.vars))))
      (ways_ascend (suc n) hs)
      (λ v w a b.
      let (i, k, e, c) = of_ways_from (suc n) hs w b in
      let (vs, d, g) = any_found (any_of_map (way n) (met_values h) a) in
      let z : n ≡ v.summand = ap (λ (x : Way). x.summand) g in
      inl (omega arith))

  way_of_place : (k : ℕ) (w : Way) → get_elem? ways k ≡ some w → IsWay T f w
  unfolding ways summand_at
  way_of_place k w e =
      let hs = (equation T f.number).summands in
      let (i, h, g, a) = of_ways_from 0 hs w (place_in _ k w e) in
      let z : i ≡ w.summand = omega arith in
      let (j, m) = of_met_values (get_or hs w.summand no_summand) w.values (subst (λ (n : ℕ). In w.values (met_values (get_or hs n no_summand))) z a) in
      record { there = omega arith; in_sorts = j; meets = m }

  place_of_way : (w : Way) → IsWay T f w → (k : ℕ) × (get_elem? ways k ≡ some w)
  unfolding ways summand_at
  place_of_way w h =
      in_place (in_ways_from 0 (equation T f.number).summands w.summand w h.there (omega arith) (in_met_values _ w.values h.in_sorts h.meets))

  module _ (width : ℕ) (s : Stack) where
    abbrev onto : Label × List Frame → Label × Stack
    onto x = (x.0, x.1 ++ s)

    summand_gives : (h : Summand) (g : List ℕ → Label × Stack) → ((vs : List ℕ) → onto (outcome width T.sig (used T f ++ vs) h) ≡ g vs)
        → map onto (fired width T.sig (used T f) h) ≡ map g (met_values h)
    unfolding fired met_values
    summand_gives h g e =
        ap (map onto) (sym (map_if_met (λ vs. meets? T.sig (used T f ++ vs) h.conds) (λ vs. outcome width T.sig (used T f ++ vs) h) (values_of T.sig h.vars)))
        ∙ map_twice onto (λ vs. outcome width T.sig (used T f ++ vs) h) g e (met_values h)

    -- summands that `find` finds by their numbers from n on give, in their ways, their steps
    ways_give : (find : ℕ → Summand) (n : ℕ) (hs : List Summand) → ((i : ℕ) → i < length hs → find (n + i) ≡ get_or hs i no_summand)
        → map onto (all (fired width T.sig (used T f)) hs) ≡ map (λ (w : Way). onto (outcome width T.sig (used T f ++ w.values) (find w.summand))) (ways_from n hs)
    unfolding ways_from all
    ways_give find n [] e = refl
    ways_give find n (h ∷ hs) e =
        let z : find n ≡ h = ap find (let y : n ≡ n + 0 = omega arith in y) ∙ e 0 (omega arith) in
        map-append onto (fired width T.sig (used T f) h) _
        ∙ ap₂ (λ (l m : List (Label × Stack)). l ++ m)
        (summand_gives h _ (λ vs. ap (λ (d : Summand). onto (outcome width T.sig (used T f ++ vs) d)) (sym z)) ∙ sym (map_twice _ (way n) _ (λ vs. refl) (met_values h)))
        (ways_give find (suc n) hs (λ i k. ap find (let y : suc n + i ≡ n + suc i = omega arith in y) ∙ e (suc i) (omega arith)))
        ∙ sym (map-append _ (map (way n) (met_values h)) (ways_from (suc n) hs))

    -- The list of steps goes through all ways, each once, in order.
    pub steps_in_order : InOrder T f width s ways
    unfolding ways
    steps_in_order = record {
      only_ways = way_of_place;
      each_once = λ w h. let (k, e) = place_of_way w h in (k, e, λ j g. ascending_once Before before_irrefl ways (ways_ascend 0 _) j k w g e);
      in_order = λ i j v w h a b. ascending_places Before ways (ways_ascend 0 _) i j v w h a b;
      gives = unfold steps way_step summand_at in (ways_give (summand_at T f) 0 (equation T f.number).summands (λ i h. let y : 0 + i ≡ i = omega arith in rw y));
    }

    -- "the depth becomes the old depth − 1 + the number of calls"
    pub way_depth : (w : Way) → suc (length (way_step T f width s w).1) ≡ length (f ∷ s) + length (summand_at T f w.summand).calls
    unfolding way_step outcome
    way_depth w = simp (length-append, length-map) (omega arith)
