-- Frames in lent bytes: a call's frame, and the frames of calls one behind another.
use mathlib.Core.Path.{◌≡◌, refl, sym, ap, subst, ◌∙◌}
use mathlib.Core.List.{List, [], ◌∷◌, ◌++◌, map, append-nil}
use Prim.Native.Nat.{ℕ, zero, suc, ◌+◌, ◌-◌, ◌*◌, ◌≤◌, ◌<◌}
use native.Mathlib.Omega.{arith}
use native.Mathlib.Numerals.{add-one}
use lib.ListN.{length, get_or, take, drop, set, replicate, length-append, length-drop, length-map, drop_of_length-le}
use lib.Seq.{length-take-le, drop-drop, get_or-drop, take_all, take-suc}
use Rattle.pcrl.specs.Limits.{frame_width}
use Rattle.pcrl.specs.Tests.{Every, Each}
use Rattle.pcrl.specs.Reader.{all}
use Rattle.pcrl.specs.Sheet.{Data, Sig}
use Rattle.pcrl.specs.Values.{eval}
use Rattle.pcrl.specs.Stream.{encode_data, encode_call}
use Rattle.pcrl.specs.Right.{RightTerm, RightCall}
use Rattle.pcrl.specs.Stack.{Frame, padded}
use Rattle.pcrl.specs.Steps.{call_frame}
use Rattle.laws.specs.Written.{all_append}
use Rattle.laws.specs.Each.{each_length}
use Rattle.laws.specs.Every.{every_at}
use Rattle.blocks.proofs.Fronts.{Front, front_more, length_part}
use Rattle.opening.proofs.Standing.{all_first}
use Rattle.firing.specs.Known.{Valued, KnownParts}
use Rattle.firing.specs.Fires.{frame_bytes}

-- a byte, and what stands behind it
pub byte_at : (s : List ℕ) (at b : ℕ) (more : List ℕ) → drop at s ≡ b ∷ more → (get_or s at 0 ≡ b) × (drop (at + 1) s ≡ more)
byte_at s at b more here =
    let z : at + 0 ≡ at = omega arith in
    (ap (λ (x : ℕ). get_or s x 0) (sym z) ∙ sym (get_or-drop at s 0 0) ∙ ap (λ (x : List ℕ). get_or x 0 0) here, sym (drop-drop 1 at s) ∙ ap (drop 1) here)

pub same_count : (x n : ℕ) → length (replicate n x) ≡ n
same_count x zero = refl
same_count x (suc n) = ap suc (same_count x n)

drop_same : (x w n : ℕ) → drop n (replicate w x) ≡ replicate (w - n) x
drop_same x w zero = let z : w - 0 ≡ w = omega arith in rw z refl
drop_same x zero (suc n) = let z : 0 - suc n ≡ 0 = omega arith in rw z refl
drop_same x (suc w) (suc n) = let z : suc w - suc n ≡ w - n = omega arith in rw z (drop_same x w n)

-- ONE FRAME: w values and the number before them

module _ (w b : ℕ) (cleared : List ℕ) (ec : cleared ≡ replicate (suc w) 0) where
  abbrev started : List ℕ
  started = set cleared 0 b

  started_is : started ≡ b ∷ replicate w 0
  started_is = ap (λ (l : List ℕ). set l 0 b) ec

  pub room : length started ≡ suc w
  room = ap length started_is ∙ ap suc (same_count 0 w)

  pub part_room : length (take w (drop 1 started)) ≡ w
  part_room = ap (λ (l : List ℕ). length (take w (drop 1 l))) started_is ∙ ap length (take_all w (replicate w 0) (let z = same_count 0 w in omega arith)) ∙ same_count 0 w

  pub kept_length : (new : List ℕ) → length new ≡ w → length (take 1 started ++ (new ++ drop w (drop 1 started))) ≡ suc w
  kept_length new e =
      let z = same_count 0 w in
      let d : ◌≡◌ {A = List ℕ} (drop w (replicate w 0)) [] = drop_of_length-le (replicate w 0) {i = w} (omega arith) in
      ap (λ (l : List ℕ). length (take 1 l ++ (new ++ drop w (drop 1 l)))) started_is ∙ ap (λ (l : List ℕ). suc (length (new ++ l))) d ∙ ap (λ (l : List ℕ). suc (length l)) (append-nil new) ∙ ap suc e

  pub frame_put : (n : ℕ) (new vals : List ℕ) → new ≡ vals ++ drop n (take w (drop 1 started)) → length vals ≡ n → take 1 started ++ (new ++ drop w (drop 1 started)) ≡ b ∷ padded w vals
  unfolding padded
  frame_put n new vals en ln =
      let z = same_count 0 w in
      let d : ◌≡◌ {A = List ℕ} (drop w (replicate w 0)) [] = drop_of_length-le (replicate w 0) {i = w} (omega arith) in
      let t : drop n (take w (drop 1 started)) ≡ replicate (w - length vals) 0 =
      ap (λ (l : List ℕ). drop n (take w (drop 1 l))) started_is ∙ ap (drop n) (take_all w (replicate w 0) (omega arith)) ∙ drop_same 0 w n ∙ ap (λ (k : ℕ). replicate (w - k) 0) (sym ln) in
      ap (λ (l : List ℕ). take 1 l ++ (new ++ drop w (drop 1 l))) started_is ∙ ap (λ (l : List ℕ). b ∷ (new ++ l)) d ∙ ap (λ (l : List ℕ). b ∷ l) (append-nil new ∙ en ∙ ap (λ (l : List ℕ). vals ++ l) t)

-- the frame of a call that stands at a place
module _ (S : Sig) (Ps : List (List ℕ)) (s acts params Γ vs : List ℕ) (c : ℕ × List Data) (rest : List ℕ) (at : ℕ) (known : KnownParts S Ps s acts params) (right : RightCall S Ps Γ c) (here : drop at s ≡ encode_call c ++ rest) where
  call_here : drop at s ≡ c.0 ∷ (all encode_data c.1 ++ rest)
  unfolding encode_call
  call_here = here

  pub call_number : get_or s at 0 ≡ c.0
  call_number = (byte_at s at c.0 (all encode_data c.1 ++ rest) call_here).0

  pub call_terms : drop (at + 1) s ≡ all encode_data c.1 ++ rest
  call_terms = (byte_at s at c.0 (all encode_data c.1 ++ rest) call_here).1

  pub call_there : c.0 < length Ps
  unfolding RightCall
  call_there = right.0

  pub call_sorts : Each (RightTerm S Γ) (get_or Ps c.0 []) c.1
  unfolding RightCall
  call_sorts = right.1

  pub call_length : length c.1 ≡ length (get_or Ps c.0 [])
  call_length = sym (each_length (RightTerm S Γ) (get_or Ps c.0 []) c.1 call_sorts)

  pub call_bytes : (b n : ℕ) (cleared new : List ℕ) → cleared ≡ replicate (suc frame_width) 0 → b ≡ get_or s at 0 → n ≡ length c.1 → new ≡ map (eval S vs) c.1 ++ drop n (take frame_width (drop 1 (set cleared 0 b)))
      → take 1 (set cleared 0 b) ++ (new ++ drop frame_width (drop 1 (set cleared 0 b))) ≡ frame_bytes (call_frame frame_width S vs c)
  unfolding frame_bytes call_frame
  call_bytes b n cleared new ec eb en enew =
      frame_put frame_width b cleared ec n new (map (eval S vs) c.1) enew (length-map c.1 (eval S vs) ∙ sym en) ∙ ap (λ (x : ℕ). x ∷ padded frame_width (map (eval S vs) c.1)) (eb ∙ call_number)

-- FRAMES ONE BEHIND ANOTHER

all_one : {A : Type 0} (w : A → List ℕ) (x : A) → all w (x ∷ []) ≡ w x
unfolding all
all_one w x = append-nil (w x)

all_map : {A B : Type 0} (f : A → B) (w : B → List ℕ) (l : List A) → all (λ a. w (f a)) l ≡ all w (map f l)
unfolding all
all_map f w [] = refl
all_map f w (x ∷ l) = ap (λ (y : List ℕ). w (f x) ++ y) (all_map f w l)

pub all_more : {A : Type 0} (w : A → List ℕ) (xs : List A) (i : ℕ) (a : A) → i < length xs → all w (take (i + 1) xs) ≡ all w (take i xs) ++ w (get_or xs i a)
all_more w xs i a h =
    ap (λ (k : ℕ). all w (take k xs)) (add-one i) ∙ ap (all w) (take-suc xs i a h) ∙ all_append w (take i xs) (get_or xs i a ∷ []) ∙ ap (λ (l : List ℕ). all w (take i xs) ++ l) (all_one w (get_or xs i a))

-- what is known before the i-th of n calls, which begins at a: the frames of those before it stand over the front of o, and make it out
unfoldable pub Framed : List ℕ → List ℕ → List ℕ → List ℕ → ℕ → ℕ → List ℕ → List ℕ → ℕ → ℕ → Type 0
Framed s funcs params e at n o out a i =
    (S : Sig) (Ps : List (List ℕ)) (acts Γ vs : List ℕ) (cs : List (ℕ × List Data)) (rest : List ℕ) → Valued S s funcs e Γ vs → KnownParts S Ps s acts params → Every (RightCall S Ps Γ) cs → length cs ≡ n → drop at s ≡ all encode_call cs ++ rest
    → Front o (all (λ c. frame_bytes (call_frame frame_width S vs c)) (take i cs)) out × (drop a s ≡ all encode_call (drop i cs) ++ rest)

call_width : (S : Sig) (Ps : List (List ℕ)) (Γ vs : List ℕ) (c : ℕ × List Data) → Every (λ (Ds : List ℕ). length Ds ≤ frame_width) Ps → RightCall S Ps Γ c → length (frame_bytes (call_frame frame_width S vs c)) ≡ 1 + frame_width
unfolding frame_bytes call_frame padded RightCall
call_width S Ps Γ vs c few right =
    let m = each_length (RightTerm S Γ) (get_or Ps c.0 []) c.1 right.1 in
    let l = length-map c.1 (eval S vs) in
    let f : length (get_or Ps c.0 []) ≤ frame_width = every_at (λ (Ds : List ℕ). length Ds ≤ frame_width) Ps [] c.0 few right.0 in
    let z = same_count 0 (frame_width - length (map (eval S vs) c.1)) in
    omega (arith, length-append (map (eval S vs) c.1) (replicate (frame_width - length (map (eval S vs) c.1)) 0))

frames_width : (S : Sig) (Ps : List (List ℕ)) (Γ vs : List ℕ) → Every (λ (Ds : List ℕ). length Ds ≤ frame_width) Ps → (cs : List (ℕ × List Data)) → Every (RightCall S Ps Γ) cs → (i : ℕ) → i ≤ length cs
    → length (all (λ c. frame_bytes (call_frame frame_width S vs c)) (take i cs)) ≡ i * (1 + frame_width)
unfolding all Every
frames_width S Ps Γ vs few cs right zero h = refl
frames_width S Ps Γ vs few [] right (suc i) h = absurd (omega arith)
frames_width S Ps Γ vs few (c ∷ cs) right (suc i) h =
    let a = call_width S Ps Γ vs c few right.0 in
    let b = frames_width S Ps Γ vs few cs right.1 i (omega arith) in
    omega (arith, length-append (frame_bytes (call_frame frame_width S vs c)) (all (λ c. frame_bytes (call_frame frame_width S vs c)) (take i cs)))

no_call : ℕ × List Data
no_call = (0, [])

module _ (s funcs params e : List ℕ) (at n : ℕ) (o : List ℕ) where
  pub framed_none : Framed s funcs params e at n o o at 0
  unfolding Framed all
  framed_none S Ps acts Γ vs cs rest valued known right l here = (refl, here)

  pub framed_more : (out new : List ℕ) (a i end b k : ℕ) → i < n → b ≡ i * 5 → k ≡ 5
      → ((S : Sig) (Ps : List (List ℕ)) (acts Γ vs : List ℕ) (c : ℕ × List Data) (rest : List ℕ) → Valued S s funcs e Γ vs → KnownParts S Ps s acts params → RightCall S Ps Γ c → drop a s ≡ encode_call c ++ rest → (new ≡ frame_bytes (call_frame frame_width S vs c)) × (drop end s ≡ rest))
      → Framed s funcs params e at n o out a i → Framed s funcs params e at n o (take b out ++ (new ++ drop k (drop b out))) end (i + 1)
  unfolding Framed
  framed_more out new a i end b k h eb ek made old S Ps acts Γ vs cs rest valued known right l here =
      let (front, left) = old S Ps acts Γ vs cs rest valued known right l here in
      let below : i < length cs = omega arith in
      let c : ℕ × List Data = get_or cs i no_call in
      let r : RightCall S Ps Γ c = every_at (RightCall S Ps Γ) cs no_call i right below in
      let more : List ℕ = all encode_call (drop (i + 1) cs) ++ rest in
      let (this, next) = made S Ps acts Γ vs c more valued known r (left ∙ all_first encode_call cs i no_call rest below) in
      let w : (ℕ × List Data) → List ℕ = λ c. frame_bytes (call_frame frame_width S vs c) in
      let p : length (all w (take i cs)) ≡ b = frames_width S Ps Γ vs known.few_params cs right i (omega arith) ∙ sym eb in
      let q : length new ≡ k = ap length this ∙ call_width S Ps Γ vs c known.few_params r ∙ sym ek in
      let f : Front o (all w (take i cs) ++ new) (take b out ++ (new ++ drop k (drop b out))) = front_more o (all w (take i cs)) new out b k front p q in
      let z : all w (take i cs) ++ new ≡ all w (take (i + 1) cs) = ap (λ (y : List ℕ). all w (take i cs) ++ y) this ∙ sym (all_more w cs i no_call below) in
      (subst (λ (y : List ℕ). Front o y (take b out ++ (new ++ drop k (drop b out)))) z f, next)

  pub framed_all : (out : List ℕ) (a i : ℕ) → i ≡ n → Framed s funcs params e at n o out a i
      → (S : Sig) (Ps : List (List ℕ)) (acts Γ vs : List ℕ) (cs : List (ℕ × List Data)) (rest : List ℕ) → Valued S s funcs e Γ vs → KnownParts S Ps s acts params → Every (RightCall S Ps Γ) cs → length cs ≡ n → drop at s ≡ all encode_call cs ++ rest
      → out ≡ all frame_bytes (map (call_frame frame_width S vs) cs) ++ drop (length (all frame_bytes (map (call_frame frame_width S vs) cs))) o
  unfolding Framed
  framed_all out a i z old S Ps acts Γ vs cs rest valued known right l here =
      let (front, left) = old S Ps acts Γ vs cs rest valued known right l here in
      let w : (ℕ × List Data) → List ℕ = λ c. frame_bytes (call_frame frame_width S vs c) in
      let t : all w (take i cs) ≡ all frame_bytes (map (call_frame frame_width S vs) cs) = ap (all w) (take_all i cs (omega arith)) ∙ all_map (call_frame frame_width S vs) frame_bytes cs in
      subst (λ (y : List ℕ). out ≡ y ++ drop (length y) o) t front

-- a part that was lent and came back as long as it was
pub kept_part : (l new : List ℕ) (b k : ℕ) → b + k ≤ length l → length new ≡ length (take k (drop b l)) → length (take b l ++ (new ++ drop k (drop b l))) ≡ length l
kept_part l new b k h e =
    let a = length-append (take b l) (new ++ drop k (drop b l)) in
    let c = length-append new (drop k (drop b l)) in
    let d = length_part b k l h in
    let x : length (take b l) ≡ b = length-take-le b l (omega arith) in
    let y : length (drop k (drop b l)) ≡ length l - b - k = length-drop k (drop b l) ∙ ap (λ (m : ℕ). m - k) (length-drop b l) in
    omega arith

pub frame_length : (f : Frame) → suc (length f.values) ≡ length (frame_bytes f)
unfolding frame_bytes
frame_length f = refl

-- the frames of right calls have as many values as a frame has
pub frames_wide : (S : Sig) (Ps : List (List ℕ)) (Γ vs : List ℕ) → Every (λ (Ds : List ℕ). length Ds ≤ frame_width) Ps → (cs : List (ℕ × List Data)) → Every (RightCall S Ps Γ) cs
    → Every (λ (f : Frame). length f.values ≡ frame_width) (map (call_frame frame_width S vs) cs)
unfolding Every
frames_wide S Ps Γ vs few [] right = tt
frames_wide S Ps Γ vs few (c ∷ cs) right = (one c right.0, frames_wide S Ps Γ vs few cs right.1)
  where
    one : (c : ℕ × List Data) → RightCall S Ps Γ c → length (call_frame frame_width S vs c).values ≡ frame_width
    one c r = let w : suc (length (call_frame frame_width S vs c).values) ≡ 1 + frame_width = frame_length (call_frame frame_width S vs c) ∙ call_width S Ps Γ vs c few r in omega arith
