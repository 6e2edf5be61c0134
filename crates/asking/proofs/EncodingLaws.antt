-- An answer in bytes: pieces written over zeros, and the fields of each kind of answer.
use mathlib.Core.Path.{◌≡◌, refl, sym, ◌∙◌, ap, ap₂, subst}
use mathlib.Core.List.{List, [], ◌∷◌, ◌++◌, append_assoc, append-nil, map}
use Prim.Native.Nat.{ℕ, zero, suc, ◌+◌, ◌*◌, ◌%◌, ◌<◌, ◌≤◌, min}
use native.Mathlib.Omega.{arith}
use native.Mathlib.Decide.{ℕ_discrete}
use lib.ListN.{length, get_or, take, drop, replicate, length-append, length-replicate, take-append-drop}
use lib.Seq.{take_all, take-nil, drop-nil, take_at, drop_at, drop-drop, drop-append-le}
use Rattle.pcrl.specs.Limits.{max_name, max_sort_name, stack_limit}
use Rattle.pcrl.specs.Reader.{all}
use Rattle.pcrl.specs.Text.{bytes}
use Rattle.pcrl.specs.Tests.{Every}
use Rattle.pcrl.specs.Tree.{Name}
use Rattle.pcrl.specs.Sheet.{Act, tau, action, Action, Sig, no_action, sort_name, takes_of}
use Rattle.pcrl.specs.Label.{Label, silent, named, label}
use Rattle.pcrl.specs.Records.{filled, name_field, label_name, label_sorts, label_values, label_record}
use Rattle.pcrl.specs.Table.{Table}
use Rattle.pcrl.specs.Stream.{tau_code}
use Rattle.pcrl.specs.Right.{AreSorts, RightName, RightAction, RightSig, RightTable}
use Rattle.pcrl.specs.Ask.{Answer}
use Rattle.laws.specs.Every.{every_weaken, every_get_or, every_map}
use Rattle.laws.specs.Tests.{where_yes, where_no}
use Rattle.firing.specs.Fires.{act_of}
use Rattle.labels.specs.Labels.{label_of}
use Rattle.texts.specs.Wrote.{Wrote}
use Rattle.lettering.specs.Named.{cell_of}
use Rattle.lettering.proofs.Given.{names_short}
use Rattle.asking.specs.declared.Step.{Step}
use Rattle.asking.specs.declared.Told.TheVariants.{Ended, Nothing, Stepped, TooDeep}
use Rattle.asking.specs.Encoding.{answer_bytes, answer_fields, encode_answer}
use Rattle.asking.specs.Replies.{answer_told, label_told, step_told}

-- ZEROS BEHIND A LIST

zeros : (n : ℕ) → replicate n 0 ≡ filled n []
unfolding filled
zeros zero = refl
zeros (suc n) = ap (λ (l : List ℕ). 0 ∷ l) (zeros n)

pub length_filled : (n : ℕ) (l : List ℕ) → length (filled n l) ≡ n
unfolding filled
length_filled zero l = refl
length_filled (suc n) [] = ap suc (length_filled n [])
length_filled (suc n) (b ∷ l) = ap suc (length_filled n l)

over_zeros : (n : ℕ) (l : List ℕ) (p : ℕ) → p ≡ min n (length l) → take n l ++ drop p (replicate n 0) ≡ filled n l
unfolding filled
over_zeros zero l p e = drop-nil p
over_zeros (suc n) [] zero e = zeros (suc n)
over_zeros (suc n) [] (suc p) e = absurd (omega arith)
over_zeros (suc n) (b ∷ l) zero e = absurd (omega arith)
over_zeros (suc n) (b ∷ l) (suc p) e = ap (λ (m : List ℕ). b ∷ m) (over_zeros n l p (omega arith))

filled_more : (l : List ℕ) (n m : ℕ) → m ≡ length l + n → l ++ replicate n 0 ≡ filled m l
unfolding filled
filled_more [] n m e = let z : n ≡ m = omega arith in zeros n ∙ ap (λ (k : ℕ). filled k []) z
filled_more (b ∷ l) n zero e = absurd (omega arith)
filled_more (b ∷ l) n (suc m) e = ap (λ (k : List ℕ). b ∷ k) (filled_more l n m (omega arith))

-- a piece written over what stands behind a front
wrote_over : (front back piece out : List ℕ) (at p : ℕ) → length front ≡ at → length piece ≤ length back → Wrote (front ++ back) at piece out p → out ≡ front ++ (piece ++ drop (length piece) back)
wrote_over front back piece out at p e fits w =
    let n = length-append front back in
    let m = length-append front piece in
    let place = w.place in
    let here : p ≡ at + length piece = omega arith in
    let text : take p out ≡ front ++ piece = w.text ∙ ap (λ (l : List ℕ). take (length (front ++ back)) (l ++ piece)) (take_at front back at e) ∙ take_all (length (front ++ back)) (front ++ piece) (omega arith) in
    let rest : drop p out ≡ drop (length piece) back = w.rest ∙ ap (λ (k : ℕ). drop k (front ++ back)) here ∙ sym (drop-drop (length piece) at (front ++ back)) ∙ ap (drop (length piece)) (drop_at front back at e) in
    sym (take-append-drop p out) ∙ ap₂ (λ (x y : List ℕ). x ++ y) text rest ∙ append_assoc front piece (drop (length piece) back)

-- a piece written over all there is
pub wrote_whole : (out piece out' : List ℕ) (p : ℕ) → Wrote out 0 piece out' p → length piece ≡ length out → out' ≡ piece
wrote_whole out piece out' p w e =
    let s = w.same in
    let place = w.place in
    let at : p ≡ length out' = omega arith in
    sym (take_all p out' (omega arith)) ∙ w.text ∙ take_all (length out) piece (omega arith)

pub kind_stored : (k : ℕ) → k ∷ replicate 71 0 ≡ filled answer_bytes (k ∷ [])
unfolding filled
kind_stored k = ap (λ (l : List ℕ). k ∷ l) (zeros 71)

-- A NAME IN ITS FIELD

field_length : (most : ℕ) (n : Name) → length (name_field most n) ≡ suc (suc most)
unfolding name_field
field_length most n = ap suc (length_filled (suc most) n)

-- a name and its length, written where zeros stand
field_put : (front rest : List ℕ) (name : Name) (out out' : List ℕ) (most at p : ℕ) → out ≡ front ++ (replicate (suc (suc most)) 0 ++ rest) → length front ≡ at → length name ≤ most → most < 255
    → Wrote out at (cell_of name) out' p → out' ≡ front ++ (name_field most name ++ rest)
unfolding name_field
field_put front rest name out out' most at p is e short small w =
    let room : List ℕ = replicate (suc most) 0 in
    let l : length room ≡ suc most = length-replicate {A = ℕ} (suc most) 0 in
    let n = length-append room rest in
    let whole : length name % 256 ≡ length name = omega arith in
    let behind : drop (length name) (room ++ rest) ≡ drop (length name) room ++ rest = drop-append-le (length name) room rest (omega arith) in
    let field : name ++ drop (length name) room ≡ filled (suc most) name = ap (λ (x : List ℕ). x ++ drop (length name) room) (sym (take_all (suc most) name (omega arith))) ∙ over_zeros (suc most) name (length name) (omega arith) in
    wrote_over front (replicate (suc (suc most)) 0 ++ rest) (cell_of name) out' at p e (omega arith) (subst (λ (x : List ℕ). Wrote x at (cell_of name) out' p) is w)
    ∙ ap₂ (λ (k : ℕ) (x : List ℕ). front ++ (k ∷ (name ++ x))) whole behind
    ∙ ap (λ (x : List ℕ). front ++ (length name ∷ x)) (sym (append_assoc name (drop (length name) room) rest) ∙ ap (λ (x : List ℕ). x ++ rest) field)

-- three names and what stands before them, from the last to the first
pub step_put : (d c v w : ℕ) (name first second : Name) (l m n out : List ℕ) (p q r z : ℕ) → length name ≤ max_name → length first ≤ max_sort_name → length second ≤ max_sort_name
    → Wrote (replicate answer_bytes 0) 43 (cell_of second) l p → Wrote l 23 (cell_of first) m q → Wrote m 5 (cell_of name) n r → Wrote n 0 (2 ∷ d ∷ c ∷ v ∷ w ∷ []) out z
    → out ≡ filled answer_bytes (2 ∷ d ∷ c ∷ v ∷ w ∷ (name_field max_name name ++ (name_field max_sort_name first ++ name_field max_sort_name second)))
unfolding filled
step_put d c v w name first second l m n out p q r z hn hf hs wl wm wn wo =
    let f = name_field max_name name in
    let g = name_field max_sort_name first in
    let h = name_field max_sort_name second in
    let rest : List ℕ = replicate 9 0 in
    let el : l ≡ replicate 43 0 ++ (h ++ rest) = field_put (replicate 43 0) rest second (replicate answer_bytes 0) l max_sort_name 43 p refl refl hs (omega arith) wl in
    let em : m ≡ replicate 23 0 ++ (g ++ (h ++ rest)) = field_put (replicate 23 0) (h ++ rest) first l m max_sort_name 23 q el refl hf (omega arith) wm in
    let en : n ≡ replicate 5 0 ++ (f ++ (g ++ (h ++ rest))) = field_put (replicate 5 0) (g ++ (h ++ rest)) name m n max_name 5 r em refl hn (omega arith) wn in
    let behind : List ℕ = f ++ (g ++ (h ++ rest)) in
    let eo : out ≡ 2 ∷ d ∷ c ∷ v ∷ w ∷ behind = wrote_over [] (replicate 5 0 ++ behind) (2 ∷ d ∷ c ∷ v ∷ w ∷ []) out 0 z refl (omega (arith, length-append (replicate {A = ℕ} 5 0) behind)) (subst (λ (x : List ℕ). Wrote x 0 (2 ∷ d ∷ c ∷ v ∷ w ∷ []) out z) en wo) in
    let joined : behind ≡ (f ++ (g ++ h)) ++ rest = simp append_assoc in
    let long : length (f ++ (g ++ h)) ≡ 58 = length-append f (g ++ h) ∙ (let a = length-append g h in let x = field_length max_name name in let y = field_length max_sort_name first in let z = field_length max_sort_name second in omega arith) in
    eo ∙ ap (λ (x : List ℕ). 2 ∷ d ∷ c ∷ v ∷ w ∷ x) (joined ∙ filled_more (f ++ (g ++ h)) 9 67 (omega arith))

-- THE FIELDS

pub encode_ended : (S : Sig) → filled answer_bytes (0 ∷ []) ≡ encode_answer (answer_told S Ended)
unfolding encode_answer answer_told answer_fields
encode_ended S = refl

pub encode_none : (S : Sig) → filled answer_bytes (1 ∷ []) ≡ encode_answer (answer_told S Nothing)
unfolding encode_answer answer_told answer_fields
encode_none S = refl

pub encode_deep : (S : Sig) (n : ℕ) → n ≡ 16 → filled answer_bytes (n ∷ []) ≡ encode_answer (answer_told S TooDeep)
unfolding encode_answer answer_told answer_fields
encode_deep S n e = ap (λ (k : ℕ). filled answer_bytes (k ∷ [])) e

pub encode_stepped : (S : Sig) (r : Step) → encode_answer (step_told S r) ≡ encode_answer (answer_told S (Stepped r))
unfolding answer_told
encode_stepped S r = refl

tau_label : (S : Sig) (a : ℕ) (vs : List ℕ) → a ≡ tau_code → label_of S a vs ≡ silent
unfolding label_of act_of label
tau_label S a vs e = ap (λ (x : Act). label S x vs) (where_yes {A = Act} (ℕ_discrete a tau_code) e tau (action a))

named_label : (S : Sig) (a : ℕ) (vs : List ℕ) → ¬ (a ≡ tau_code) → label_of S a vs ≡ named (get_or S.acts a no_action).name (map (sort_name S) (get_or S.acts a no_action).takes) vs
unfolding label_of act_of label takes_of
named_label S a vs h = ap (λ (x : Act). label S x vs) (where_no {A = Act} (ℕ_discrete a tau_code) h tau (action a))

-- a name has 16 bytes at the most
named_short : (T : Table) → RightTable T → (a : ℕ) → length (get_or T.sig.acts a no_action).name ≤ max_name
unfolding RightTable RightSig RightAction RightName
named_short T right a =
    every_get_or (λ (x : Action). length x.name ≤ max_name) T.sig.acts no_action a
    (every_weaken (RightAction T.sig.sorts) (λ (x : Action). length x.name ≤ max_name) (λ x g. g.0.0.0.1) T.sig.acts right.0.0.1.1.0.1) (omega arith)

-- the values that are there, of two
shown : (n c a b v w : ℕ) → c ≡ min n 2 → (0 < n → a ≡ v) × (n ≤ 0 → a ≡ 0) → (1 < n → b ≡ w) × (n ≤ 1 → b ≡ 0)
    → (c ≡ length (take n (v ∷ w ∷ []))) × (a ∷ b ∷ [] ≡ filled 2 (take n (v ∷ w ∷ [])))
unfolding filled
shown zero c a b v w e f g = (omega arith, rw (f.1 (omega arith), g.1 (omega arith)) refl)
shown (suc zero) c a b v w e f g = (omega arith, rw (f.0 (omega arith), g.1 (omega arith)) refl)
shown (suc (suc n)) c a b v w e f g =
    let two : c ≡ 2 = omega arith in
    (two ∙ sym (ap (λ (l : List ℕ). length (v ∷ w ∷ l)) (take-nil n)), rw (f.0 (omega arith), g.0 (omega arith)) (sym (ap (λ (l : List ℕ). filled 2 (v ∷ w ∷ l)) (take-nil n))))

module _ (S : Sig) (r : Step) (deep : r.depth ≤ stack_limit) where
  small : r.depth % 256 ≡ r.depth
  small = omega arith

  pub encode_tau : r.action ≡ tau_code → filled answer_bytes (2 ∷ r.depth % 256 ∷ 0 ∷ 0 ∷ 0 ∷ (name_field max_name (bytes "tau") ++ (name_field max_sort_name [] ++ name_field max_sort_name []))) ≡ encode_answer (step_told S r)
  unfolding encode_answer answer_fields label_record label_name label_sorts label_values filled
  encode_tau a =
      ap (filled answer_bytes)
      (ap (λ (d : ℕ). 2 ∷ d ∷ 0 ∷ 0 ∷ 0 ∷ (name_field max_name (bytes "tau") ++ (name_field max_sort_name [] ++ name_field max_sort_name []))) small ∙ ap (λ (l : Label). answer_fields (Answer.stepped l r.depth)) (sym (tau_label S r.action (take r.arity r.values) a)))

  -- the names of the action and of its sorts
  abbrev action_is : Action
  action_is = get_or S.acts r.action no_action

  abbrev sort_is : ℕ → Name
  sort_is i = get_or (map (sort_name S) action_is.takes) i []

  abbrev names_are : List ℕ
  names_are = name_field max_name action_is.name ++ (name_field max_sort_name (sort_is 0) ++ name_field max_sort_name (sort_is 1))

  pub encode_named : ¬ (r.action ≡ tau_code) → (name first second : Name) → name ≡ action_is.name → first ≡ sort_is 0 → second ≡ sort_is 1
      → (c a b v w : ℕ) → r.values ≡ v ∷ w ∷ [] → c ≡ min r.arity 2 → (0 < r.arity → a ≡ v) × (r.arity ≤ 0 → a ≡ 0) → (1 < r.arity → b ≡ w) × (r.arity ≤ 1 → b ≡ 0)
      → filled answer_bytes (2 ∷ r.depth % 256 ∷ c ∷ a ∷ b ∷ (name_field max_name name ++ (name_field max_sort_name first ++ name_field max_sort_name second))) ≡ encode_answer (step_told S r)
  unfolding encode_answer answer_fields label_record label_name label_sorts label_values
  encode_named t name first second en ef es c a b v w vs f g i =
      let (count, two) = shown r.arity c a b v w f g i in
      let here : label_told S r ≡ named action_is.name (map (sort_name S) action_is.takes) (take r.arity (v ∷ w ∷ [])) = named_label S r.action (take r.arity r.values) t ∙ ap (λ (l : List ℕ). named action_is.name (map (sort_name S) action_is.takes) (take r.arity l)) vs in
      let fields : name_field max_name name ++ (name_field max_sort_name first ++ name_field max_sort_name second) ≡ names_are = rw (en, ef, es) refl in
      ap (filled answer_bytes)
      (ap₂ (λ (d : ℕ) (l : List ℕ). 2 ∷ d ∷ c ∷ ((a ∷ b ∷ []) ++ l)) small fields ∙ ap₂ (λ (n : ℕ) (l : List ℕ). 2 ∷ r.depth ∷ n ∷ (l ++ names_are)) count two
      ∙ ap (λ (l : Label). answer_fields (Answer.stepped l r.depth)) (sym here))

-- THE NAMES ARE SHORT

pub encode_action : (T : Table) → RightTable T → (a : ℕ) (name : Name) → name ≡ (get_or T.sig.acts a no_action).name → length name ≤ max_name
encode_action T right a name e = subst (λ (l : List ℕ). length l ≤ max_name) (sym e) (named_short T right a)

-- an action takes sorts that are there
pub takes_sorts : (T : Table) → RightTable T → (a : ℕ) → AreSorts T.sig.sorts (get_or T.sig.acts a no_action).takes
unfolding RightTable RightSig RightAction Every
takes_sorts T right a =
    every_get_or (λ (x : Action). AreSorts T.sig.sorts x.takes) T.sig.acts no_action a
    (every_weaken (RightAction T.sig.sorts) (λ (x : Action). AreSorts T.sig.sorts x.takes) (λ x g. g.1.1) T.sig.acts right.0.0.1.1.0.1) tt

pub encode_sort : (T : Table) → RightTable T → (Ds : List ℕ) → AreSorts T.sig.sorts Ds → (i : ℕ) (name : Name) → name ≡ get_or (map (sort_name T.sig) Ds) i [] → length name ≤ max_sort_name
unfolding RightTable
encode_sort T right Ds sorts i name e =
    subst (λ (l : List ℕ). length l ≤ max_sort_name) (sym e)
    (every_get_or (λ (n : Name). length n ≤ max_sort_name) (map (sort_name T.sig) Ds) [] i
    (every_map (λ D. D < length T.sig.sorts) (λ (n : Name). length n ≤ max_sort_name) (sort_name T.sig) (names_short T.sig right.0.0 T.layout right.2) Ds sorts) (omega arith))

-- MANY ANSWERS

pub length_answer : (a : Answer) → length (encode_answer a) ≡ answer_bytes
unfolding encode_answer
length_answer a = length_filled answer_bytes (answer_fields a)

pub all_last : (l : List Answer) (a : Answer) → all encode_answer (l ++ (a ∷ [])) ≡ all encode_answer l ++ encode_answer a
unfolding all
all_last [] a = append-nil (encode_answer a)
all_last (b ∷ l) a = ap (λ (m : List ℕ). encode_answer b ++ m) (all_last l a) ∙ sym (append_assoc (encode_answer b) (all encode_answer l) (encode_answer a))

pub length_all : (l : List Answer) → length (all encode_answer l) ≡ answer_bytes * length l
unfolding all
length_all [] = refl
length_all (a ∷ l) = let h = length_answer a in let i = length_all l in length-append (encode_answer a) (all encode_answer l) ∙ (let z : length (encode_answer a) + length (all encode_answer l) ≡ answer_bytes * suc (length l) = omega arith in z)
