-- One question on frames that pass question 15: what the search of the top frame's equation says is what `ask` says.
use mathlib.Core.Path.{◌≡◌, refl, sym, ◌∙◌, ap, ap₂, subst}
use mathlib.Core.List.{List, [], ◌∷◌, ◌++◌, map, reverse, reverse-append}
use mathlib.Core.Option.{none, some}
use Prim.Native.Nat.{ℕ, zero, suc, ◌+◌, ◌-◌, ◌*◌, ◌/◌, ◌≤◌, ◌<◌}
use native.Mathlib.Omega.{arith}
use Rattle.std.specs.Prelude.{Ok, Err}
use lib.ListN.{length, get_or, get_elem?, drop, take, replicate, length-append, length-take, length-drop, length-reverse}
use lib.Seq.{drop_at, take-suc, length-take-le, get_or-take, get_or-drop, ext_get_or}
use Rattle.pcrl.specs.Limits.{frame_width, stack_limit}
use Rattle.pcrl.specs.Reader.{all}
use Rattle.pcrl.specs.Sheet.{Sig}
use Rattle.pcrl.specs.Label.{Label}
use Rattle.pcrl.specs.Table.{Table, equation}
use Rattle.pcrl.specs.Stack.{Frame, Stack, InSorts, used, zero_frame, RightFrame, RightFrames, frames_of, stack_of}
use Rattle.pcrl.specs.Steps.{fired, steps}
use Rattle.pcrl.specs.Ask.{Answer, Asked, ask}
use Rattle.laws.specs.Lists.{length_tabulate, get_d_tabulate, past_none}
use Rattle.laws.specs.Each.{each_length}
use Rattle.theory.specs.Lending.{Holds, passes_15}
use Rattle.theory.specs.Asked.{AnswerIs, at_end, too_large, too_deep, goes_to, answer_exactly}
use Rattle.terms.specs.Stands.{list_at}
use Rattle.stacks.specs.Lent.{frame_bytes, frame_at, frames_at, frames_in, stack_bytes}
use Rattle.stacks.proofs.Views.{no_frame, length_frames_in, get_or_frames_in}
use Rattle.stacks.proofs.RightFrameLaws.{used_right}
use Rattle.firing.specs.declared.Fired.{Fired}
use Rattle.firing.specs.Fires.{listing}
use Rattle.firing.specs.Known.{KnownTable}
use Rattle.firing.proofs.Indexing.{sorts_there}
use Rattle.firing.specs.Told as firing
use Rattle.firing.specs.Told.{told}
use Rattle.labels.specs.Labels.{label_of}
use Rattle.asking.specs.declared.Step.{Step}
use Rattle.asking.specs.declared.Told.{Told}
use Rattle.asking.specs.declared.Told.TheVariants.{Ended, Nothing, Stepped, TooDeep}
use Rattle.asking.specs.Replies.{answer_told, label_told, depth_after, AskIs}

get_elem?_map : {A B : Type 0} (f : A → B) (l : List A) (k : ℕ) (x : A) → get_elem? l k ≡ some x → get_elem? (map f l) k ≡ some (f x)
get_elem?_map f [] k x e = absurd (let z : ◌≡◌ {A = ℕ} 0 1 = cc in omega arith)
get_elem?_map f (a ∷ l) zero x e = let z : a ≡ x = cc in ap (λ y. some (f y)) z
get_elem?_map f (a ∷ l) (suc k) x e = get_elem?_map f l k x e

none_map : {A B : Type 0} (f : A → B) (l : List A) (k : ℕ) → get_elem? l k ≡ none → get_elem? (map f l) k ≡ none
none_map f [] k e = refl
none_map f (a ∷ l) zero e = absurd (let z : ◌≡◌ {A = ℕ} 0 1 = cc in omega arith)
none_map f (a ∷ l) (suc k) e = none_map f l k e

-- what is told
pub told_found : (S : Sig) (f : Fired) (made : List ℕ) → told S (Ok f) made ≡ some (label_of S f.action (take f.arity f.values), frames_at frame_width f.calls made)
unfolding told firing.frames_at firing.frame_at frames_at frame_at label_of
told_found S f made = refl

pub told_none : (S : Sig) (n : ℕ) (made : List ℕ) → told S (Err n) made ≡ none
unfolding told
told_none S n made = refl

-- the depth of a step does not depend on the one before
pub first_depth : (d : ℕ) (r : Told) → depth_after d r ≤ stack_limit → depth_after 0 r ≤ stack_limit
first_depth d Ended h = omega arith
first_depth d Nothing h = omega arith
first_depth d (Stepped r) h = h
first_depth d TooDeep h = omega arith

module _ (T : Table) (bytes : List ℕ) (d k : ℕ) (long : length bytes ≡ stack_bytes) (right : RightFrames frame_width stack_limit T (frames_in frame_width bytes) d) where
  abbrev fs : List Frame
  fs = frames_in frame_width bytes

  abbrev s : Stack
  s = stack_of fs d

  holds : Holds frame_width stack_limit T fs d s
  holds = (passes_15 frame_width stack_limit T fs d).0 right

  -- by the answer of document 01
  ask_by : (r : Told) (fs' : List Frame) (a : Answer) (t : Stack) → AnswerIs frame_width stack_limit T k s a t → answer_told T.sig r ≡ a → fs' ≡ frames_of frame_width stack_limit t → depth_after d r ≡ length t → AskIs T fs d k r fs'
  ask_by r fs' a t is e f n =
      let x : ask frame_width stack_limit T k s ≡ record { answer = a; stack = t } = (answer_exactly frame_width stack_limit T k s a t).1 is in
      record {
        answer = e ∙ sym (ap (λ (y : Asked). y.answer) x);
        frames = f ∙ sym (ap (λ (y : Asked). frames_of frame_width stack_limit y.stack) x);
        depth = n ∙ sym (ap (λ (y : Asked). length y.stack) x);
      }

  unchanged : (r : Told) (a : Answer) → AnswerIs frame_width stack_limit T k s a s → answer_told T.sig r ≡ a → depth_after d r ≡ d → AskIs T fs d k r fs
  unchanged r a is e n = ask_by r fs a s is e holds.frames (n ∙ holds.depth)

  pub ended_is : d ≡ 0 → AskIs T fs d k Ended fs
  unfolding answer_told
  ended_is z = unchanged Ended Answer.ended (at_end (sym holds.depth ∙ z)) refl refl

  module _ (some_frame : 0 < d) where
    abbrev at : ℕ
    at = (d - 1) * frame_bytes frame_width

    abbrev top : Frame
    top = frame_at frame_width bytes at

    abbrev rest : Stack
    rest = drop 1 s

    fits : d ≤ stack_limit
    fits = holds.fits

    count : length bytes / frame_bytes frame_width ≡ stack_limit
    count = omega arith

    stack_is : s ≡ top ∷ rest
    unfolding stack_of
    stack_is =
        let e : suc (d - 1) ≡ d = omega arith in
        let f = fits in
        let n = length_frames_in frame_width bytes in
        let t : get_or fs (d - 1) no_frame ≡ top = get_or_frames_in frame_width bytes (d - 1) no_frame (omega arith) in
        let whole : reverse (take d fs) ≡ top ∷ reverse (take (d - 1) fs) =
        ap (λ (x : ℕ). reverse (take x fs)) (sym e) ∙ rw (take-suc fs (d - 1) no_frame (omega arith)) (reverse-append (take (d - 1) fs) (get_or fs (d - 1) no_frame ∷ [])) ∙ ap (λ (x : Frame). x ∷ reverse (take (d - 1) fs)) t in
        whole ∙ ap (λ (x : Stack). top ∷ x) (sym (ap (drop 1) whole))

    rest_length : length rest ≡ d - 1
    rest_length = let h = holds.depth in length-drop 1 s ∙ (let z : length s - 1 ≡ d - 1 = omega arith in z)

    pub top_right : RightFrame frame_width T top
    top_right = used_right frame_width stack_limit T bytes d count fits right (d - 1) (omega arith)

    pub number_is : top.number ≡ get_or bytes at 0
    unfolding frame_at
    number_is = refl

    value_at : (i : ℕ) → i < frame_width → get_or top.values i 0 ≡ get_or bytes (at + (1 + i)) 0
    unfolding frame_at
    value_at i h = get_d_tabulate frame_width _ i 0 h

    values_length : length top.values ≡ frame_width
    unfolding frame_at
    values_length = length_tabulate frame_width _

    -- the parameters' values, cut out of the bytes
    pub params_are : (n : ℕ) (part : List ℕ) → n ≡ length (equation T top.number).params → part ≡ take n (drop (at + 1) bytes) → part ≡ used T top
    unfolding used RightFrame InSorts
    params_are n part e cut =
        let f = fits in
        let Ds = (equation T top.number).params in
        let m : length Ds ≡ length (take (length Ds) top.values) = each_length _ Ds (take (length Ds) top.values) top_right.1.0 in
        let v = values_length in
        let b : n ≤ frame_width = omega (arith, length-take (length Ds) top.values) in
        let l : length (take n (drop (at + 1) bytes)) ≡ n = length-take-le n (drop (at + 1) bytes) (omega (arith, length-drop (at + 1) bytes)) in
        cut ∙ ext_get_or 0 (take n (drop (at + 1) bytes)) (take (length Ds) top.values) (l ∙ e ∙ m) (λ i w.
        let a : at + 1 + i ≡ at + (1 + i) = omega arith in
        let w' : i < n = omega arith in
        get_or-take n (drop (at + 1) bytes) i 0 w' ∙ get_or-drop (at + 1) bytes i 0 ∙ ap (λ (x : ℕ). get_or bytes x 0) a
        ∙ sym (get_or-take (length Ds) top.values i 0 (omega arith) ∙ value_at i (omega arith)))

    -- the search of the top frame's equation
    module _ (e : ℕ) (part : List ℕ) (number : e ≡ top.number) (params : part ≡ used T top) where
      abbrev on_top : Label × List Frame → Label × Stack
      on_top x = (x.0, x.1 ++ rest)

      steps_are : steps frame_width T s ≡ map on_top (listing T e part)
      unfolding steps listing
      steps_are = ap (steps frame_width T) stack_is ∙ sym (ap₂ (λ (n : ℕ) (vs : List ℕ). map on_top (all (fired frame_width T.sig vs) (equation T n).summands)) number params)

      pub none_is : get_elem? (listing T e part) k ≡ none → AskIs T fs d k Nothing fs
      unfolding answer_told
      none_is miss =
          let h = holds.depth in
          unchanged Nothing Answer.nothing (too_large (omega arith) (past_none (steps frame_width T s) k (ap (λ l. get_elem? l k) steps_are ∙ none_map on_top (listing T e part) k miss))) refl refl

      module _ (l : Label) (made : List Frame) (found : get_elem? (listing T e part) k ≡ some (l, made)) where
        step_there : get_elem? (steps frame_width T s) k ≡ some (l, made ++ rest)
        step_there = ap (λ l. get_elem? l k) steps_are ∙ get_elem?_map on_top (listing T e part) k (l, made) found

        after_length : length (made ++ rest) ≡ d - 1 + length made
        after_length = let r = rest_length in simp length-append (omega arith)

        pub deep_is : stack_limit < d - 1 + length made → AskIs T fs d k TooDeep fs
        unfolding answer_told
        deep_is deep = unchanged TooDeep (Answer.refused 16) (too_deep step_there (let z = after_length in omega arith)) refl refl

        pub step_is : (r : Step) (fs' : List Frame) → d - 1 + length made ≤ stack_limit → label_told T.sig r ≡ l → r.depth ≡ d - 1 + length made → fs' ≡ frames_of frame_width stack_limit (made ++ rest) → AskIs T fs d k (Stepped r) fs'
        unfolding answer_told
        step_is r fs' fit lab n f =
            let z = after_length in
            let m : r.depth ≡ length (made ++ rest) = n ∙ sym z in
            ask_by (Stepped r) fs' (Answer.stepped l (length (made ++ rest))) (made ++ rest) (goes_to step_there (omega arith)) (ap₂ Answer.stepped lab m) f m

    -- the frames past the depth are zero: what the replacement of the top frame needs
    pub zeros_behind : drop d fs ≡ replicate (stack_limit - d) (zero_frame frame_width)
    unfolding frames_of
    zeros_behind =
        let h = holds.depth in
        let n : stack_limit - length s ≡ stack_limit - d = omega arith in
        ap (drop d) holds.frames ∙ drop_at (reverse s) (replicate (stack_limit - length s) (zero_frame frame_width)) d (length-reverse s ∙ sym h) ∙ ap (λ (x : ℕ). replicate x (zero_frame frame_width)) n

    -- what the search is asked, by the index: the top frame's equation, and its parameters' values
    pub looked : (stream funcs acts params rows : List ℕ) → KnownTable T stream funcs acts params rows → (e p n : ℕ) (sorts part : List ℕ) → e ≡ get_or bytes at 0 → p ≡ get_or params e 0 → sorts ≡ list_at stream p → n ≡ length sorts → part ≡ take n (drop (at + 1) bytes)
        → (e ≡ top.number) × ((part ≡ used T top) × ((e < length T.equations) × InSorts T.sig (equation T e).params part))
    unfolding RightFrame
    looked stream funcs acts params rows x e p n sorts part is place list many cut =
        let number : e ≡ top.number = is ∙ sym number_is in
        let b : e < length T.equations = let r = top_right.0 in omega arith in
        let own : sorts ≡ (equation T top.number).params = list ∙ ap (list_at stream) place ∙ sorts_there T stream funcs acts params rows x e b ∙ ap (λ (i : ℕ). (equation T i).params) number in
        let own_values : part ≡ used T top = params_are n part (many ∙ ap length own) cut in
        (number, (own_values, (b, subst (λ (i : ℕ). InSorts T.sig (equation T i).params part) (sym number) (subst (InSorts T.sig (equation T top.number).params) (sym own_values) top_right.1.0))))
