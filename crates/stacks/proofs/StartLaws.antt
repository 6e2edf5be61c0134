-- The frames of bytes in which only one frame stands, with zeros behind it.
use mathlib.Core.Path.{◌≡◌, sym, ◌∙◌, ap}
use mathlib.Core.List.{List, [], ◌∷◌, ◌++◌}
use Prim.Native.Nat.{ℕ, zero, suc, ◌+◌, ◌-◌, ◌*◌, ◌/◌, ◌≤◌, ◌<◌}
use native.Mathlib.Omega.{arith}
use native.Mathlib.Decide.{dec_lt}
use lib.ListN.{length, get_or, drop, take, replicate, length-append, length-map, length-replicate, get_or-replicate, get_or-append, get_or-eq_default}
use lib.Seq.{take_at, get_or-append-add, ext_get_or}
use Rattle.pcrl.specs.Limits.{frame_width, stack_limit}
use Rattle.pcrl.specs.Lists.{tabulate}
use Rattle.pcrl.specs.Table.{Table, Equation, equation, params_of, no_equation}
use Rattle.pcrl.specs.Right.{RightTable, RightStart, RightEquations, RightSorts}
use Rattle.pcrl.specs.Stack.{Frame, padded, zero_frame, frames_of}
use Rattle.pcrl.specs.Stream.{encode_start}
use Rattle.pcrl.specs.Answers.{start_stack}
use Rattle.laws.specs.Each.{each_length}
use Rattle.laws.specs.Every.{every_at}
use Rattle.laws.specs.Lists.{length_tabulate, get_d_tabulate, get_d_map}
use Rattle.terms.specs.Stands.{list_at}
use Rattle.terms.proofs.Places.{number_at}
use Rattle.tables.specs.declared.Index.{Index}
use Rattle.tables.specs.Indexed.{Indexed}
use Rattle.stacks.specs.Lent.{frame_bytes, frame_at, frames_in, stack_bytes}
use Rattle.stacks.proofs.RightFrameLaws.{index_params}
use Rattle.stacks.proofs.Views.{no_frame, tabulate_same, length_frames_in, get_or_frames_in, apart}

-- values, and 0 behind them
spread_values : (width : ℕ) (vs : List ℕ) → length vs ≤ width → tabulate width (λ j. get_or vs j 0) ≡ padded width vs
unfolding padded
spread_values width vs h =
    let z : length (vs ++ replicate {A = ℕ} (width - length vs) 0) ≡ width = simp (length-append, length-replicate) (omega arith) in
    ext_get_or 0 (tabulate width (λ j. get_or vs j 0)) (vs ++ replicate (width - length vs) 0) (length_tabulate width _ ∙ sym z) (λ i w.
    let b : i < width = omega (arith, length_tabulate width (λ j. get_or vs j 0)) in
    get_d_tabulate width _ i 0 b ∙ elim (dec_lt i (length vs)) [
      | yes l ↦ sym (get_or-append vs (replicate (width - length vs) 0) 0 i l)
      | no n ↦ (let e : i ≡ length vs + (i - length vs) = omega arith in
          get_or-eq_default vs 0 {n = i} (omega arith)
          ∙ sym (ap (λ (x : ℕ). get_or (vs ++ replicate (width - length vs) 0) x 0) e ∙ get_or-append-add vs (replicate (width - length vs) 0) (i - length vs) 0 ∙ get_or-replicate (width - length vs) (i - length vs) 0 0 (omega arith)))
    ])

module _ (width limit : ℕ) (bytes : List ℕ) (e : ℕ) (vs : List ℕ) (few : length vs ≤ width)
    (spread : (i : ℕ) → i < limit * frame_bytes width → get_or bytes i 0 ≡ get_or (e ∷ vs) i 0) (count : length bytes / frame_bytes width ≡ limit) (some : 0 < limit) where
  abbrev first : Frame
  first = record { number = e; values = padded width vs }

  room : (i j : ℕ) → i < limit → j < frame_bytes width → i * frame_bytes width + j < limit * frame_bytes width
  room i j h w = omega (arith, apart width i limit (frame_bytes width) h)

  frame_first : frame_at width bytes 0 ≡ first
  unfolding frame_at
  frame_first =
      let n : get_or bytes 0 0 ≡ e = spread 0 (omega (arith, room 0 0 some (omega arith))) in
      let v : tabulate width (λ j. get_or bytes (0 + (1 + j)) 0) ≡ padded width vs =
      tabulate_same width _ _ (λ j w. spread (0 + (1 + j)) (omega (arith, room 0 (1 + j) some (omega arith))) ∙ ap (λ (x : ℕ). get_or (e ∷ vs) x 0) (one_more j)) ∙ spread_values width vs few in
      λ i. record { number = n i; values = v i }
    where
      one_more : (j : ℕ) → 0 + (1 + j) ≡ suc j
      one_more j = omega arith

  frame_later : (i : ℕ) → i < limit → 0 < i → frame_at width bytes (i * frame_bytes width) ≡ zero_frame width
  unfolding frame_at zero_frame
  frame_later i h p =
      let k = frame_bytes width in
      let b = apart width 0 i k p in
      let past : (j : ℕ) → j < k → get_or bytes (i * k + j) 0 ≡ 0 = λ j w. spread (i * k + j) (room i j h w) ∙ get_or-eq_default (e ∷ vs) 0 {n = i * k + j} (omega arith) in
      let ik : i * k + 0 ≡ i * k = omega arith in
      let n : get_or bytes (i * k) 0 ≡ 0 = ap (λ (x : ℕ). get_or bytes x 0) (sym ik) ∙ past 0 (omega arith) in
      let v : tabulate width (λ j. get_or bytes (i * k + (1 + j)) 0) ≡ replicate width 0 =
      ext_get_or 0 (tabulate width (λ j. get_or bytes (i * k + (1 + j)) 0)) (replicate width 0) (length_tabulate width _ ∙ sym (length-replicate width 0)) (λ j w.
      let l : j < width = omega (arith, length_tabulate width (λ x. get_or bytes (i * k + (1 + x)) 0)) in
      get_d_tabulate width _ j 0 l ∙ past (1 + j) (omega arith) ∙ sym (get_or-replicate width j 0 0 l)) in
      λ x. record { number = n x; values = v x }

  pub start_frames : frames_in width bytes ≡ frames_of width limit (first ∷ [])
  unfolding frames_of
  start_frames =
      let l : length (first ∷ replicate (limit - 1) (zero_frame width)) ≡ limit = ap suc (length-replicate (limit - 1) (zero_frame width)) ∙ (let z : suc (limit - 1) ≡ limit = omega arith in z) in
      ext_get_or no_frame (frames_in width bytes) (first ∷ replicate (limit - 1) (zero_frame width)) (length_frames_in width bytes ∙ count ∙ sym l) (λ i w. at i (omega (arith, length_frames_in width bytes)))
    where
      at : (i : ℕ) → i < limit → get_or (frames_in width bytes) i no_frame ≡ get_or (first ∷ replicate (limit - 1) (zero_frame width)) i no_frame
      at zero h = get_or_frames_in width bytes 0 no_frame (omega arith) ∙ ap (frame_at width bytes) (let z : 0 * frame_bytes width ≡ 0 = omega arith in z) ∙ frame_first
      at (suc i) h = get_or_frames_in width bytes (suc i) no_frame (omega arith) ∙ frame_later (suc i) h (omega arith) ∙ sym (get_or-replicate (limit - 1) i (zero_frame width) no_frame (omega arith))

-- the start of a right table: as many values as its equation has parameters, and they fit a frame
pub start_right : (T : Table) → RightTable T → (T.start.0 < length T.equations) × ((length (equation T T.start.0).params ≡ length T.start.1) × (length T.start.1 ≤ frame_width))
unfolding RightTable RightStart RightEquations RightSorts equation params_of
start_right T r =
    let e = T.start.0 in
    let b : e < length T.equations = r.0.1.1.0 in
    let Ps = params_of T.equations in
    let many : length Ps ≡ length T.equations = length-map T.equations (λ (x : Equation). x.params) in
    let own : get_or Ps e [] ≡ (equation T e).params = get_d_map (λ (x : Equation). x.params) T.equations e no_equation [] b in
    let l : length (get_or Ps e []) ≡ length T.start.1 = each_length _ (get_or Ps e []) T.start.1 r.0.1.1.1 in
    let few = (every_at _ Ps [] e r.0.1.0.0.1 (omega arith)).0 in
    (b, (ap length (sym own) ∙ l, omega (arith, few)))

-- the bytes of the start, where they stand
pub start_bytes : (T : Table) (s : List ℕ) (index : Index) (n : ℕ) → Indexed T s index → n ≡ 1 + length T.start.1 → take n (drop index.start s) ≡ T.start.0 ∷ T.start.1
unfolding encode_start
start_bytes T s index n i e = let st = i.parts.start_stands in ap (take n) st.1 ∙ take_at (T.start.0 ∷ T.start.1) st.0 n (let z : suc (length T.start.1) ≡ n = omega arith in z)

-- The frames of the bytes of the start, with zeros behind them.
pub started_frames : (T : Table) (s : List ℕ) (index : Index) → RightTable T → Indexed T s index → (e n : ℕ) (bytes out : List ℕ) → e ≡ get_or s index.start 0 → n ≡ 1 + length (list_at s (get_or index.params e 0))
    → bytes ≡ take n (drop index.start s) → length out ≡ stack_bytes → ((i : ℕ) → i < stack_bytes → get_or out i 0 ≡ get_or bytes i 0) → frames_in frame_width out ≡ frames_of frame_width stack_limit (start_stack frame_width T)
unfolding start_stack encode_start
started_frames T s index r x e n bytes out is count cut len spread =
    let (b, (many, few)) = start_right T r in
    let zero_on : index.start + 0 ≡ index.start = omega arith in
    let first : e ≡ T.start.0 = is ∙ ap (λ (i : ℕ). get_or s i 0) (sym zero_on) ∙ number_at s index.start (T.start.0 ∷ T.start.1) 0 x.parts.start_stands (omega arith) in
    let own : list_at s (get_or index.params e 0) ≡ (equation T T.start.0).params = ap (λ (i : ℕ). list_at s (get_or index.params i 0)) first ∙ index_params T s index x T.start.0 b in
    let all : n ≡ 1 + length T.start.1 = count ∙ ap (λ (l : List ℕ). 1 + length l) own ∙ ap (λ (i : ℕ). 1 + i) many in
    let start : bytes ≡ T.start.0 ∷ T.start.1 = cut ∙ start_bytes T s index n x all in
    start_frames frame_width stack_limit out T.start.0 T.start.1 few (λ i w. spread i w ∙ ap (λ (l : List ℕ). get_or l i 0) start) (omega arith) (omega arith)
