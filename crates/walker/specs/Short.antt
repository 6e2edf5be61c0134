-- The text of a walk is never longer than 8 lines of 29 bytes and a closing word: where there is room for these, it is written whole.
use Rattle.std.specs.Prelude.{◌≡◌, refl, take}
use Rattle.std.proofs.Common.{sym, ◌∙◌, take_all}
use Rattle.std.proofs.Math.Path.{ap, subst}
use mathlib.Core.List.{List, [], ◌∷◌, ◌++◌, map}
use Prim.Native.Nat.{ℕ, zero, suc, ◌+◌, ◌*◌, ◌≤◌, ◌<◌}
use native.Mathlib.Omega.{arith}
use Rattle.std.proofs.Math.Decide.{dec_le}
use Rattle.std.proofs.Math.ListN.{length, length-append}
use Rattle.pcrl.specs.Limits.{max_name, max_arity, frame_width, stack_limit}
use Rattle.pcrl.specs.Tests.{Every}
use Rattle.pcrl.specs.Tree.{Name}
use Rattle.pcrl.specs.Sheet.{Act, tau, action, Sig, size, takes_of, no_action}
use Rattle.pcrl.specs.Sorts.{IsAct}
use Rattle.pcrl.specs.Values.{eval}
use Rattle.pcrl.specs.Label.{Label, silent, named, label}
use Rattle.pcrl.specs.Table.{Table, equation}
use Rattle.pcrl.specs.Stack.{Frame, Stack, InSorts, used, RightFrame, RightStack}
use Rattle.pcrl.specs.Steps.{outcome, StackStep}
use Rattle.pcrl.specs.Right.{RightSizes, RightFunc, RightName, RightAction, RightSig, RightSummand, RightTable}
use Rattle.pcrl.specs.Result.{Result, refused, accepted}
use Rattle.pcrl.specs.Ask.{Answer}
use Rattle.pcrl.specs.Answers.{table_made}
use Rattle.pcrl.specs.Text.{decimal}
use Rattle.pcrl.specs.Walk.{values_text, label_text, text_line, step_line, closing, answer_lines, walk_steps, walk_lines, walk_made, walk_text}
use Rattle.laws.specs.Every.{every_at}
use Rattle.laws.specs.Each.{each_length, each_every, each_flip}
use Rattle.laws.specs.Any.{every_any}
use Rattle.theory.specs.ValueSorts.{values_in}
use Rattle.theory.specs.Listing.{listed_steps}
use Rattle.theory.specs.StepRight.{in_sorts_append, summands_right, step_right, start_stack_right}
use Rattle.theory.proofs.Made.{made_all}
use Rattle.theory.specs.Asked.{AnswerIs, at_end, too_large, too_deep, goes_to, answer_is}
use Rattle.making.proofs.Numbers.{table_number}
use Rattle.texts.specs.Wrote.{Wrote}
use Rattle.texts.proofs.Decimals.{one_digit, two_digits}

-- the longest line of a step: a digit, a name and two values, a depth of two digits, blanks and a line feed
abbrev line_limit : ℕ
line_limit = 29

-- `ended` and `stuck` with their line feed
abbrev word_limit : ℕ
word_limit = 6

abbrev pub text_limit : ℕ
text_limit = walk_steps * line_limit + word_limit

one : (n : ℕ) → n < 10 → length (decimal n) ≡ 1
one n h = sym (ap length (one_digit n h))

two : (n : ℕ) → n < 100 → length (decimal n) ≤ 2
two n h = elim (dec_le 10 n) [
  | yes k ↦ (let e : length (decimal n) ≡ 2 = sym (ap length (two_digits n k h)) in omega arith)
  | no k ↦ (let e = one n (omega arith) in omega arith)
]

-- a label as those of right tables
data ShortLabel : Label → Type 0 where
  of_tau : ShortLabel silent
  of_name : (n : Name) (Ds : List Name) (vs : List ℕ) → length n ≤ max_name → length vs ≤ max_arity → Every (λ v. v < 100) vs → ShortLabel (named n Ds vs)

values_short : (vs : List ℕ) → length vs ≤ max_arity → Every (λ v. v < 100) vs → length (values_text vs) ≤ 5
unfolding values_text Every
values_short [] l h = omega arith
values_short (v ∷ []) l h = let a = two v h.0 in omega arith
values_short (v ∷ (w ∷ [])) l h = let a = two v h.0 in let b = two w h.1.0 in simp length-append (omega arith)
values_short (v ∷ (w ∷ (x ∷ vs))) l h = absurd (omega arith)

label_short : {l : Label} → ShortLabel l → length (label_text l) ≤ 23
unfolding label_text
label_short of_tau = omega arith
label_short (of_name n Ds [] a b c) = omega arith
label_short (of_name n Ds (v ∷ vs) a b c) = let d = values_short (v ∷ vs) b c in simp length-append (omega arith)

line_short : (i : ℕ) {l : Label} (d : ℕ) → i < 10 → ShortLabel l → d < 100 → length (step_line i l d) ≤ line_limit
unfolding step_line text_line
line_short i {l} d h k m = let a = one i h in let b = label_short k in let c = two d m in simp length-append (omega arith)

module _ (T : Table) (right : RightTable T) where
  abbrev S : Sig
  S = T.sig

  sizes_short : (D : ℕ) → D < length S.sorts → size S D ≤ 16
  unfolding RightTable RightSig RightSizes size
  sizes_short D h = (every_at _ S.sorts 0 D right.0.0.0.0.1 h).1

  acts_right : Every (RightAction S.sorts) S.acts
  unfolding RightTable RightSig
  acts_right = right.0.0.1.1.0.1

  funcs_right : Every (RightFunc S.sorts) S.funcs
  unfolding RightTable RightSig
  funcs_right = right.0.0.1.0.1

  sizes_right : RightSizes S.sorts
  unfolding RightTable RightSig
  sizes_right = right.0.0.0

  act_short : (a : Act) (vs : List ℕ) → IsAct S a → InSorts S (takes_of S a) vs → ShortLabel (label S a vs)
  unfolding label takes_of IsAct InSorts RightAction RightName
  act_short tau vs w i = of_tau
  act_short (action a) vs w i =
      let r = every_at (RightAction S.sorts) S.acts no_action a acts_right w in
      let n = each_length _ _ vs i in
      let m = r.1.0 in
      of_name _ _ vs r.0.0.0.1 (omega arith) (each_every _ (λ D. D < length S.sorts) (λ v. v < 100) (λ D v k h. let z = sizes_short D h in omega arith) _ vs i r.1.1)

  step_short : (s : Stack) (l : Label) (t : Stack) → RightStack frame_width T s → StackStep frame_width T s l t → ShortLabel l
  unfolding StackStep RightStack RightFrame Every RightSummand outcome
  step_short [] l t h k = absurd k
  step_short (f ∷ s) l t h k =
      let (x, r, o) = every_any _ (summands_right T right f.number h.0.0) k.1 in
      let e = used T f ++ o.values in
      let i = in_sorts_append S (equation T f.number).params x.vars (used T f) o.values h.0.1.0 o.in_sorts in
      let is : l ≡ label S x.act (map (eval S e) x.terms) = ap (λ (y : Label × List Frame). y.0) o.gives in
      subst ShortLabel (sym is) (act_short x.act (map (eval S e) x.terms) r.1.1.0 (values_in S sizes_right funcs_right _ e i x.terms (takes_of S x.act) (each_flip _ _ (λ D d z. z.0) (takes_of S x.act) x.terms r.1.1.1.0)))

  -- the lines for an answer, where m bounds those that follow
  answer_short : (i m : ℕ) (next : Stack → List ℕ) (s : Stack) → i < 10 → RightStack frame_width T s → ((t : Stack) → RightStack frame_width T t → length (next t) ≤ m + word_limit) → {a : Answer} {t : Stack} → AnswerIs frame_width stack_limit T 0 s a t
      → length (answer_lines i next (record { answer = a; stack = t })) ≤ line_limit + m + word_limit
  unfolding answer_lines text_line
  answer_short i m next s h k f (at_end e) = omega arith
  answer_short i m next s h k f (too_large e d) = omega arith
  answer_short i m next s h k f (too_deep e d) = omega arith
  answer_short i m next s h k f (goes_to {l} {t} e d) =
      let j = listed_steps frame_width T s 0 l t e in
      let a = line_short i (length t) h (step_short s l t k j) (omega arith) in
      let b = f t (step_right T right frame_width s l t k j) in
      simp length-append (omega arith)

  lines_short : (n i : ℕ) (s : Stack) → i + n ≤ 9 → RightStack frame_width T s → length (walk_lines T n i s) ≤ n * line_limit + word_limit
  unfolding walk_lines closing text_line
  lines_short zero i [] h k = omega arith
  lines_short zero i (f ∷ s) h k = omega arith
  lines_short (suc n) i s h k =
      let z = answer_short i (n * line_limit) (walk_lines T n (suc i)) s (omega arith) k (λ t r. lines_short n (suc i) t (omega arith) r) (answer_is frame_width stack_limit T 0 s) in
      omega arith

pub text_short : (s : List ℕ) → length (walk_text s) ≤ text_limit
unfolding walk_text walk_made text_line
text_short s = go (table_made s) refl
  where
    go : (x : Result Table) → table_made s ≡ x → length (walk_made x) ≤ text_limit
    go (refused n) e = elim (dec_le n 10) [
      | yes h ↦ (let d = two n (omega arith) in simp length-append (omega arith))
      | no h ↦ absurd (table_number s n (λ k l u z. omega arith) e)
    ]
    go (accepted T) e = let right = (made_all s T e).right in lines_short T right walk_steps 1 _ (omega arith) (start_stack_right T right frame_width)

-- A walk's text, written where there is room for the longest, is there whole.
pub written_whole : (s out out' : List ℕ) (r : ℕ) → text_limit ≤ length out → Wrote out 0 (walk_text s) out' r → take r out' ≡ walk_text s
written_whole s out out' r h w = let l = text_short s in w.text ∙ take_all (length out) (walk_text s) (omega arith)
