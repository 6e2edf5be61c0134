-- Question 15 from its parts: one frame from its values, all frames from each.
use mathlib.Core.Path.{◌≡◌, refl, sym, ap, ap₂, subst, ◌∙◌}
use mathlib.Core.List.{List}
use mathlib.Core.Bool.{Bool, true, false}
use Prim.Native.Nat.{ℕ, ◌+◌, ◌-◌, ◌*◌, ◌/◌, ◌<◌, ◌≤◌, min}
use native.Mathlib.Omega.{arith}
use native.Mathlib.Decide.{dec_lt, ℕ_discrete}
use lib.Dec.{eqb}
use lib.ListN.{length, get_or, take, drop, replicate, length-take, length-drop, length-map, get_or-replicate}
use lib.Seq.{get_or-take, get_or-drop, ext_get_or}
use Rattle.pcrl.specs.Lists.{tabulate}
use Rattle.pcrl.specs.Tests.{and}
use Rattle.pcrl.specs.Table.{Table, Equation, equation, no_equation, params_of}
use Rattle.pcrl.specs.Stack.{Frame, InSorts, used, padded, RightFrame, IsZero, RightFrames}
use Rattle.pcrl.specs.Stream.{encode_numbers}
use Rattle.laws.specs.Says.{Says, says_as, says_eq}
use Rattle.laws.specs.Every.{at_every, every_at}
use Rattle.laws.specs.Lists.{length_tabulate, get_d_tabulate, get_d_map}
use Rattle.terms.specs.Stands.{KnownParams, list_at}
use Rattle.terms.proofs.Places.{stands_there, as_many, list_is}
use Rattle.tables.specs.declared.Index.{Index}
use Rattle.tables.specs.Indexed.{sizes_behind, Indexed}
use Rattle.stacks.specs.Lent.{frame_bytes, frame_at, frames_in}
use Rattle.stacks.specs.Fitting.{Fitting}
use Rattle.stacks.specs.Known.{Known}
use Rattle.stacks.proofs.Views.{no_frame, length_frames_in, get_or_frames_in, frame_same}
use Rattle.stacks.proofs.FittingLaws.{fitting_sorted, sorted_fitting, all_zero}

-- the values of a frame in bytes of its own
pub frame_values : (width : ℕ) (f : List ℕ) → length f ≡ frame_bytes width → (frame_at width f 0).values ≡ drop 1 f
unfolding frame_at
frame_values width f h =
    let l : length (drop 1 f) ≡ width = length-drop 1 f ∙ (let z : length f - 1 ≡ width = omega arith in z) in
    ext_get_or 0 (tabulate width (λ j. get_or f (0 + (1 + j)) 0)) (drop 1 f) (length_tabulate width _ ∙ sym l) (λ i w.
    let b : i < width = omega (arith, length_tabulate width (λ j. get_or f (0 + (1 + j)) 0)) in
    let z : 0 + (1 + i) ≡ 1 + i = omega arith in
    get_d_tabulate width _ i 0 b ∙ ap (λ (x : ℕ). get_or f x 0) z ∙ sym (get_or-drop 1 f i 0))

-- the sorts of an equation's parameters, where they stand
pub params_at : (T : Table) (s sizes params : List ℕ) → Known T s sizes params → (e : ℕ) → e < length params
    → (e < length T.equations) × (list_at s (get_or params e 0) ≡ (equation T e).params)
unfolding equation params_of
params_at T s sizes params k e h =
    let many : length (params_of T.equations) ≡ length params = as_many encode_numbers s (params_of T.equations) params k.params_stand in
    let n : length (params_of T.equations) ≡ length T.equations = length-map T.equations (λ (x : Equation). x.params) in
    let b : e < length T.equations = omega arith in (
      b,
      list_is s (get_or params e 0) _ (stands_there encode_numbers s (params_of T.equations) params k.params_stand no_equation.params e (omega arith))
          ∙ get_d_map (λ (x : Equation). x.params) T.equations e no_equation no_equation.params b,
    )

pub equations_are : (T : Table) (s sizes params : List ℕ) → Known T s sizes params → length T.equations ≡ length params
unfolding params_of
equations_are T s sizes params k = sym (length-map T.equations (λ (x : Equation). x.params)) ∙ as_many encode_numbers s (params_of T.equations) params k.params_stand

module _ (width : ℕ) (T : Table) (s sizes params : List ℕ) (k : Known T s sizes params) (f : List ℕ) (size : length f ≡ frame_bytes width) where
  abbrev own : Frame
  own = frame_at width f 0

  number_is : own.number ≡ get_or f 0 0
  unfolding frame_at
  number_is = refl

  -- there is no such equation
  pub no_equation_there : length params ≤ get_or f 0 0 → ¬ RightFrame width T own
  unfolding RightFrame
  no_equation_there h r = let e = number_is in let n = equations_are T s sizes params k in let b = r.0 in omega arith

  -- there is one, and its values are told to fit or not
  pub frame_says : (r : Bool) (v : List ℕ) (Ds : List ℕ) → get_or f 0 0 < length params → Ds ≡ list_at s (get_or params (get_or f 0 0) 0) → v ≡ drop 1 f → Says r (Fitting sizes Ds v) → Says r (RightFrame width T own)
  unfolding RightFrame used frame_at
  frame_says r v Ds h d e says =
      let (b, ps) = params_at T s sizes params k (get_or f 0 0) h in
      let vs : v ≡ own.values = e ∙ sym (frame_values width f size) in
      let len : length own.values ≡ width = ap length (frame_values width f size) ∙ length-drop 1 f ∙ (let z : length f - 1 ≡ width = omega arith in z) in
      let Ps = (equation T own.number).params in
      let sorts : Ds ≡ Ps = d ∙ ps ∙ ap (λ (n : ℕ). (equation T n).params) (sym number_is) in
      let told : Says r (Fitting T.sig.sorts Ps own.values) =
      subst (λ (l : List ℕ). Says r (Fitting l Ps own.values)) k.sizes_are
      (subst (λ (l : List ℕ). Says r (Fitting sizes l own.values)) sorts (subst (λ (l : List ℕ). Says r (Fitting sizes Ds l)) vs says)) in
      says_as r (λ fits. (b, subst (λ (n : ℕ). InSorts T.sig Ps (take (length Ps) own.values) × (own.values ≡ padded n (take (length Ps) own.values))) len (fitting_sorted T.sig Ps own.values fits)))
      (λ right. sorted_fitting T.sig Ps own.values right.1.0 (subst (λ (n : ℕ). own.values ≡ padded n (take (length Ps) own.values)) (sym len) right.1.1))
      told

module _ (width : ℕ) (f : List ℕ) (size : length f ≡ frame_bytes width) where
  number_of : (frame_at width f 0).number ≡ get_or f 0 0
  unfolding frame_at
  number_of = refl

  -- a frame of zeros
  pub zero_there : ((i : ℕ) → i < length f → get_or f i 0 ≡ 0) → IsZero width (frame_at width f 0)
  unfolding IsZero
  zero_there h =
      let len : length (drop 1 f) ≡ width = length-drop 1 f ∙ (let z : length f - 1 ≡ width = omega arith in z) in
      (number_of ∙ h 0 (omega arith), frame_values width f size ∙ all_zero (drop 1 f) (λ i w. get_or-drop 1 f i 0 ∙ h (1 + i) (omega (arith, len))) ∙ ap (λ (n : ℕ). replicate n 0) len)

  pub not_zero : (i : ℕ) → i < length f → ¬ (get_or f i 0 ≡ 0) → ¬ IsZero width (frame_at width f 0)
  unfolding IsZero
  not_zero i w n z =
      let len : length (drop 1 f) ≡ width = length-drop 1 f ∙ (let z : length f - 1 ≡ width = omega arith in z) in
      n (elim (dec_lt i 1) [
        | yes b ↦ (let e : i ≡ 0 = omega arith in ap (λ (x : ℕ). get_or f x 0) e ∙ sym number_of ∙ z.0)
        | no b ↦ (let e : i ≡ 1 + (i - 1) = omega arith in
            ap (λ (x : ℕ). get_or f x 0) e ∙ sym (get_or-drop 1 f (i - 1) 0) ∙ ap (λ (l : List ℕ). get_or l (i - 1) 0) (sym (frame_values width f size) ∙ z.1)
            ∙ get_or-replicate width (i - 1) 0 0 (omega arith))
      ])

-- ALL FRAMES

-- the bytes of one frame, cut out, hold that frame
pub frame_cut : (width : ℕ) (bytes part : List ℕ) (at : ℕ) → part ≡ take (frame_bytes width) (drop at bytes) → frame_at width part 0 ≡ frame_at width bytes at
frame_cut width bytes part at e = frame_same width part bytes 0 at (λ j w.
    let z : 0 + j ≡ j = omega arith in
    ap₂ (λ (l : List ℕ) (x : ℕ). get_or l x 0) e z ∙ get_or-take (frame_bytes width) (drop at bytes) j 0 w ∙ get_or-drop at bytes j 0)

-- frame i of bytes is zero where its bytes are
module _ (width : ℕ) (bytes : List ℕ) (at : ℕ) (inside : at + frame_bytes width ≤ length bytes) where
  abbrev cut : List ℕ
  cut = take (frame_bytes width) (drop at bytes)

  cut_length : length cut ≡ frame_bytes width
  cut_length = simp (length-take, length-drop) (omega arith)

  cut_at : (k : ℕ) → k < frame_bytes width → get_or cut k 0 ≡ get_or bytes (at + k) 0
  cut_at k h = get_or-take (frame_bytes width) (drop at bytes) k 0 h ∙ get_or-drop at bytes k 0

  pub zero_frame_at : ((k : ℕ) → at ≤ k → k < at + frame_bytes width → get_or bytes k 0 ≡ 0) → IsZero width (frame_at width bytes at)
  zero_frame_at h = subst (IsZero width) (frame_cut width bytes cut at refl) (zero_there width cut cut_length (λ k w. let b = cut_length in cut_at k (omega arith) ∙ h (at + k) (omega arith) (omega arith)))

  pub zero_bytes_at : IsZero width (frame_at width bytes at) → (k : ℕ) → at ≤ k → k < at + frame_bytes width → get_or bytes k 0 ≡ 0
  zero_bytes_at z k l h = elim (ℕ_discrete (get_or bytes k 0) 0) [
    | yes e ↦ e
    | no n ↦ absurd
        (let j : at + (k - at) ≡ k = omega arith in
        not_zero width cut cut_length (k - at) (let b = cut_length in omega arith) (λ e. n (ap (λ (x : ℕ). get_or bytes x 0) (sym j) ∙ sym (cut_at (k - at) (omega arith)) ∙ e))
        (subst (IsZero width) (sym (frame_cut width bytes cut at refl)) z))
  ]

-- the first n bytes are zeros
abbrev pub Front : List ℕ → ℕ → Type 0
Front s n = (k : ℕ) → k < n → get_or s k 0 ≡ 0

pub one_more_zero : (s : List ℕ) (n : ℕ) (good : Bool) → Says good (Front s n) → Says (and good (eqb (get_or s n 0) 0)) (Front s (n + 1))
one_more_zero s n true q =
    says_as (eqb (get_or s n 0) 0) (λ e k l. elim (ℕ_discrete k n) [ yes a ↦ ap (λ (x : ℕ). get_or s x 0) a ∙ e | no b ↦ q k (omega arith) ]) (λ r. r n (omega arith)) (says_eq (get_or s n 0) 0)
one_more_zero s n false q = λ r. q (λ k l. r k (omega arith))

-- a byte behind a place, in the part from there on
pub byte_in : (s : List ℕ) (at n k : ℕ) → at ≤ k → k < at + n → get_or (take n (drop at s)) (k - at) 0 ≡ get_or s k 0
byte_in s at n k l h = get_or-take n (drop at s) (k - at) 0 (omega arith) ∙ get_or-drop at s (k - at) 0 ∙ ap (λ (x : ℕ). get_or s x 0) (omega arith)

module _ (width limit : ℕ) (T : Table) (bytes : List ℕ) (depth : ℕ) where
  abbrev fs : List Frame
  fs = frames_in width bytes

  module _ (count : length bytes / frame_bytes width ≡ limit) (fits : depth ≤ limit) where
    long : length fs ≡ limit
    long = length_frames_in width bytes ∙ count

    pub all_right : ((i : ℕ) → i < depth → RightFrame width T (frame_at width bytes (i * frame_bytes width))) → ((i : ℕ) → depth ≤ i → i < limit → IsZero width (frame_at width bytes (i * frame_bytes width))) → RightFrames width limit T fs depth
    unfolding RightFrames
    all_right h z =
        let taken : length (take depth fs) ≡ depth = length-take depth fs ∙ (let z : min depth (length fs) ≡ depth = omega (arith, long) in z) in
        let dropped : length (drop depth fs) ≡ limit - depth = length-drop depth fs ∙ ap (λ (n : ℕ). n - depth) long in (
          long,
          (
            fits,
            (
              at_every (RightFrame width T) (take depth fs) no_frame (λ i w.
                  let b : i < depth = omega (arith, taken) in
                  subst (RightFrame width T) (sym (get_or-take depth fs i no_frame b ∙ get_or_frames_in width bytes i no_frame (omega (arith, count)))) (h i b)),
              at_every (IsZero width) (drop depth fs) no_frame (λ i w.
                  subst (IsZero width) (sym (get_or-drop depth fs i no_frame ∙ get_or_frames_in width bytes (depth + i) no_frame (omega (arith, count, dropped)))) (z (depth + i) (omega arith) (omega (arith, dropped)))),
            ),
          ),
        )

    pub used_right : RightFrames width limit T fs depth → (i : ℕ) → i < depth → RightFrame width T (frame_at width bytes (i * frame_bytes width))
    unfolding RightFrames
    used_right r i b =
        subst (RightFrame width T) (get_or-take depth fs i no_frame b ∙ get_or_frames_in width bytes i no_frame (omega (arith, count)))
        (every_at (RightFrame width T) (take depth fs) no_frame i r.1.1.0 (omega (arith, length-take depth fs, long)))

    pub unused_zero : RightFrames width limit T fs depth → (i : ℕ) → depth ≤ i → i < limit → IsZero width (frame_at width bytes (i * frame_bytes width))
    unfolding RightFrames
    unused_zero r i b w =
        let z : depth + (i - depth) ≡ i = omega arith in
        subst (IsZero width) (get_or-drop depth fs (i - depth) no_frame ∙ ap (λ (x : ℕ). get_or fs x no_frame) z ∙ get_or_frames_in width bytes i no_frame (omega (arith, count)))
        (every_at (IsZero width) (drop depth fs) no_frame (i - depth) r.1.1.1 (omega (arith, length-drop depth fs, long)))

  pub wrong_count : ¬ (length bytes / frame_bytes width ≡ limit) → ¬ RightFrames width limit T fs depth
  unfolding RightFrames
  wrong_count n r = n (sym (length_frames_in width bytes) ∙ r.0)

  pub too_deep : limit < depth → ¬ RightFrames width limit T fs depth
  unfolding RightFrames
  too_deep h r = omega (arith, r.1.0)

-- WHAT THE INDEX GIVES

pub known : (T : Table) (s : List ℕ) (index : Index) (sizes params : List ℕ) → Indexed T s index → sizes ≡ sizes_behind index.sort_count index.funcs → params ≡ take index.equations index.params → Known T s sizes params
known T s index sizes params i e p = record {
  sizes_are = e ∙ i.parts.sizes_are;
  params_stand = subst (KnownParams (params_of T.equations) s) (sym p) i.parts.params_stand;
}

-- the sorts of the parameters of equation e, by the index
pub index_params : (T : Table) (s : List ℕ) (index : Index) → Indexed T s index → (e : ℕ) → e < length T.equations → list_at s (get_or index.params e 0) ≡ (equation T e).params
index_params T s index i e h =
    let own = take index.equations index.params in
    let sizes = sizes_behind index.sort_count index.funcs in
    let k = known T s index sizes own i refl refl in
    let n = equations_are T s sizes own k in
    let at : get_or own e 0 ≡ get_or index.params e 0 = get_or-take index.equations index.params e 0 (omega (arith, i.equations_are)) in
    ap (list_at s) (sym at) ∙ (params_at T s sizes own k e (omega arith)).1
