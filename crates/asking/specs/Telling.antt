-- What an answer's bytes tell: of labels that fit their record, and so of all labels of right tables, no two have one record; and no two
-- answers have the same bytes.
use Rattle.std.specs.Prelude.{◌≡◌, refl, ℕ, zero, suc, ◌≤◌, length, get_or, take, drop}
use Rattle.std.proofs.Math.Path.{sym}
use Rattle.std.proofs.Common.{ap, ap₂, subst, ◌∙◌, arith, length-append, take_at, drop_at}
use mathlib.Core.List.{List, [], ◌∷◌, ◌++◌, map}
use Rattle.std.proofs.Math.Dec.{T}
use Rattle.std.proofs.lemmas.List.{length-map}
use Rattle.pcrl.specs.Limits.{max_name, max_sort_name, max_arity}
use Rattle.pcrl.specs.Text.{bytes}
use Rattle.pcrl.specs.Tests.{Every}
use Rattle.pcrl.specs.Tree.{Name}
use Rattle.pcrl.specs.Sheet.{Act, tau, action, Sig, no_action, sort_name, takes_of}
use Rattle.pcrl.specs.Sorts.{IsAct}
use Rattle.pcrl.specs.Table.{Table}
use Rattle.pcrl.specs.Right.{AreSorts, RightSig, RightName, RightAction, free_name, RightTable}
use Rattle.pcrl.specs.Label.{Label, silent, named, label}
use Rattle.pcrl.specs.Records.{filled, name_field, label_bytes, label_name, label_sorts, label_values, label_record}
use Rattle.pcrl.specs.Ask.{Answer}
use Rattle.laws.specs.Every.{every_at}
use Rattle.laws.specs.Computing.{definitions}
use Rattle.lettering.proofs.Given.{names_short}
use Rattle.asking.specs.Encoding.{answer_bytes, answer_fields, encode_answer}

-- PIECES OF A RECORD

pub length_filled : (n : ℕ) (l : List ℕ) → length (filled n l) ≡ n
unfolding filled
length_filled zero l = refl
length_filled (suc n) [] = ap suc (length_filled n [])
length_filled (suc n) (b ∷ l) = ap suc (length_filled n l)

pub filled_tells : (n : ℕ) (x y : List ℕ) → length x ≡ length y → length x ≤ n → filled n x ≡ filled n y → x ≡ y
unfolding filled
filled_tells n [] [] e h q = refl
filled_tells n [] (b ∷ y) e h q = absurd (omega arith)
filled_tells n (a ∷ x) [] e h q = absurd (omega arith)
filled_tells zero (a ∷ x) (b ∷ y) e h q = absurd (omega arith)
filled_tells (suc n) (a ∷ x) (b ∷ y) e h q =
    let first : a ≡ b = cc in
    let rest : filled n x ≡ filled n y = cc in
    ap₂ (λ (c : ℕ) (l : List ℕ). c ∷ l) first (filled_tells n x y (omega arith) (omega arith) rest)

-- two lists put one behind the other, the first of one length
apart : (a b c d : List ℕ) → a ++ b ≡ c ++ d → length a ≡ length c → (a ≡ c) × (b ≡ d)
apart a b c d q e = (
  sym (take_at a b (length a) refl) ∙ ap (take (length a)) q ∙ take_at c d (length a) (sym e),
  sym (drop_at a b (length a) refl) ∙ ap (drop (length a)) q ∙ drop_at c d (length a) (sym e),
)

length_field : (most : ℕ) (n : Name) → length (name_field most n) ≡ suc (suc most)
unfolding name_field
length_field most n = ap suc (length_filled (suc most) n)

field_tells : (most : ℕ) (x y : Name) → length x ≤ most → name_field most x ≡ name_field most y → x ≡ y
unfolding name_field
field_tells most x y h q =
    let long : length x ≡ length y = cc in
    let rest : filled (suc most) x ≡ filled (suc most) y = cc in
    filled_tells (suc most) x y long (omega arith) rest

-- LABELS

-- a label that its record shows whole; no action is named `tau`
pub data Fitting : Label → Type 0 where
  of_tau : Fitting silent
  of_action : {n : Name} {Ds : List Name} {vs : List ℕ} → length n ≤ max_name → (n ≡ bytes "tau" → ⊥) → length Ds ≡ length vs → length vs ≤ max_arity → Every (λ (D : Name). length D ≤ max_sort_name) Ds
      → Fitting (named n Ds vs)

-- what the fields say
record Said (l m : Label) : Type 0 where
  values : label_values l ≡ label_values m
  name : label_name l ≡ label_name m
  first : get_or (label_sorts l) 0 [] ≡ get_or (label_sorts m) 0 []
  second : get_or (label_sorts l) 1 [] ≡ get_or (label_sorts m) 1 []

-- a fitting label's name, values and sort names are short
short : (l : Label) → Fitting l → (length (label_values l) ≤ max_arity) × (length (label_name l) ≤ max_name) × (length (get_or (label_sorts l) 0 []) ≤ max_sort_name) × (length (get_or (label_sorts l) 1 []) ≤ max_sort_name)
unfolding label_values label_name label_sorts Every
short silent of_tau = (omega arith, omega arith, omega arith, omega arith)
short (named n [] vs) (of_action a b c d e) = (d, a, omega arith, omega arith)
short (named n (D ∷ []) vs) (of_action a b c d e) = (d, a, e.0, omega arith)
short (named n (D ∷ (E ∷ Ds)) vs) (of_action a b c d e) = (d, a, e.0, e.1.0)

said : (l m : Label) → Fitting l → label_record l ≡ label_record m → Said l m
unfolding label_record
said l m f q =
    let (few, own, one, two) = short l f in
    let count : length (label_values l) ≡ length (label_values m) = cc in
    let behind : filled max_arity (label_values l) ++ fields l ≡ filled max_arity (label_values m) ++ fields m = cc in
    let (vs, names) = apart (filled max_arity (label_values l)) (fields l) (filled max_arity (label_values m)) (fields m) behind (length_filled max_arity (label_values l) ∙ sym (length_filled max_arity (label_values m))) in
    let (n, sorts) = apart (name_field max_name (label_name l)) (sorts_of l) (name_field max_name (label_name m)) (sorts_of m) names (length_field max_name (label_name l) ∙ sym (length_field max_name (label_name m))) in
    let (d, e) = apart (name_field max_sort_name (get_or (label_sorts l) 0 [])) (name_field max_sort_name (get_or (label_sorts l) 1 [])) (name_field max_sort_name (get_or (label_sorts m) 0 [])) (name_field max_sort_name (get_or (label_sorts m) 1 [])) sorts (length_field max_sort_name (get_or (label_sorts l) 0 []) ∙ sym (length_field max_sort_name (get_or (label_sorts m) 0 []))) in
    record {
      values = filled_tells max_arity (label_values l) (label_values m) count few vs;
      name = field_tells max_name (label_name l) (label_name m) own n;
      first = field_tells max_sort_name (get_or (label_sorts l) 0 []) (get_or (label_sorts m) 0 []) one d;
      second = field_tells max_sort_name (get_or (label_sorts l) 1 []) (get_or (label_sorts m) 1 []) two e;
    }
  where
    sorts_of : Label → List ℕ
    sorts_of l = name_field max_sort_name (get_or (label_sorts l) 0 []) ++ name_field max_sort_name (get_or (label_sorts l) 1 [])

    fields : Label → List ℕ
    fields l = name_field max_name (label_name l) ++ sorts_of l

-- lists of at most two names, by their elements
two_names : (Ds Es : List Name) (n : ℕ) → length Ds ≡ n → length Es ≡ n → n ≤ 2 → get_or Ds 0 [] ≡ get_or Es 0 [] → get_or Ds 1 [] ≡ get_or Es 1 [] → Ds ≡ Es
two_names [] [] n a b h d e = refl
two_names [] (E ∷ Es) n a b h d e = absurd (omega arith)
two_names (D ∷ Ds) [] n a b h d e = absurd (omega arith)
two_names (D ∷ []) (E ∷ []) n a b h d e = ap (λ (x : Name). x ∷ []) d
two_names (D ∷ []) (E ∷ (F ∷ Es)) n a b h d e = absurd (omega arith)
two_names (D ∷ (F ∷ Ds)) (E ∷ []) n a b h d e = absurd (omega arith)
two_names (D ∷ (F ∷ [])) (E ∷ (G ∷ [])) n a b h d e = ap₂ (λ (x y : Name). x ∷ (y ∷ [])) d e
two_names (D ∷ (F ∷ [])) (E ∷ (G ∷ (I ∷ Es))) n a b h d e = absurd (omega arith)
two_names (D ∷ (F ∷ (I ∷ Ds))) (E ∷ (G ∷ Es)) n a b h d e = absurd (omega arith)

-- NO TWO FITTING LABELS HAVE ONE RECORD.
pub record_tells : (l m : Label) → Fitting l → Fitting m → label_record l ≡ label_record m → l ≡ m
unfolding label_values label_name label_sorts
record_tells silent silent f g q = refl
record_tells silent (named n Ds vs) f (of_action a b c d e) q = absurd (b (sym (said silent (named n Ds vs) f q).name))
record_tells (named n Ds vs) silent (of_action a b c d e) g q = absurd (b (said (named n Ds vs) silent (of_action a b c d e) q).name)
record_tells (named n Ds vs) (named m Es ws) (of_action a b c d e) (of_action a' b' c' d' e') q =
    let s = said (named n Ds vs) (named m Es ws) (of_action a b c d e) q in
    let values : vs ≡ ws = s.values in
    let same : length vs ≡ length ws = ap length values in
    let name : n ≡ m = s.name in
    let sorts : Ds ≡ Es = two_names Ds Es (length vs) c (c' ∙ sym same) d s.first s.second in
    cc

-- ANSWERS

-- an answer of a question to a right table: 16 is the only refusal, and a depth is a byte
pub data Telling : Answer → Type 0 where
  ended : Telling Answer.ended
  none : Telling Answer.nothing
  step : {l : Label} {d : ℕ} → Fitting l → Telling (Answer.stepped l d)
  too_deep : Telling (Answer.refused 16)

abbrev kind : Answer → ℕ
kind Answer.ended = 0
kind Answer.nothing = 1
kind (Answer.stepped l d) = 2
kind (Answer.refused n) = n

kind_said : (a : Answer) → get_or (encode_answer a) 0 0 ≡ kind a
unfolding encode_answer answer_fields filled
kind_said Answer.ended = refl
kind_said Answer.nothing = refl
kind_said (Answer.stepped l d) = refl
kind_said (Answer.refused n) = refl

length_record : (l : Label) → length (label_record l) ≡ label_bytes
unfolding label_record
length_record l =
    let vs = filled max_arity (label_values l) in
    let n = name_field max_name (label_name l) in
    let d = name_field max_sort_name (get_or (label_sorts l) 0 []) in
    let e = name_field max_sort_name (get_or (label_sorts l) 1 []) in
    omega (arith, length-append vs (n ++ (d ++ e)), length-append n (d ++ e), length-append d e, length_filled max_arity (label_values l), length_field max_name (label_name l), length_field max_sort_name (get_or (label_sorts l) 0 []), length_field max_sort_name (get_or (label_sorts l) 1 []))

kinds_same : (a b : Answer) → encode_answer a ≡ encode_answer b → kind a ≡ kind b
kinds_same a b q = sym (kind_said a) ∙ ap (λ (l : List ℕ). get_or l 0 0) q ∙ kind_said b

steps_same : (l m : Label) (d e : ℕ) → Fitting l → Fitting m → encode_answer (Answer.stepped l d) ≡ encode_answer (Answer.stepped m e) → Answer.stepped l d ≡ Answer.stepped m e
unfolding encode_answer answer_fields
steps_same l m d e f g q =
    let a = length_record l in
    let b = length_record m in
    let bytes_same : 2 ∷ d ∷ label_record l ≡ 2 ∷ e ∷ label_record m = filled_tells answer_bytes (2 ∷ d ∷ label_record l) (2 ∷ e ∷ label_record m) (omega arith) (omega arith) q in
    let depth : d ≡ e = cc in
    let records : label_record l ≡ label_record m = cc in
    ap₂ Answer.stepped (record_tells l m f g records) depth

-- NO TWO ANSWERS HAVE THE SAME BYTES: what a caller reads off them is the answer.
pub answer_tells : (a b : Answer) → Telling a → Telling b → encode_answer a ≡ encode_answer b → a ≡ b
answer_tells a b ended ended q = refl
answer_tells a b none none q = refl
answer_tells a b too_deep too_deep q = refl
answer_tells a b (step {l = l} {d = d} f) (step {l = m} {d = e} g) q = steps_same l m d e f g q
answer_tells a b ended none q = let k = kinds_same Answer.ended Answer.nothing q in absurd (omega arith)
answer_tells a b ended (step {l = m} {d = e} g) q = let k = kinds_same Answer.ended (Answer.stepped m e) q in absurd (omega arith)
answer_tells a b ended too_deep q = let k = kinds_same Answer.ended (Answer.refused 16) q in absurd (omega arith)
answer_tells a b none ended q = let k = kinds_same Answer.nothing Answer.ended q in absurd (omega arith)
answer_tells a b none (step {l = m} {d = e} g) q = let k = kinds_same Answer.nothing (Answer.stepped m e) q in absurd (omega arith)
answer_tells a b none too_deep q = let k = kinds_same Answer.nothing (Answer.refused 16) q in absurd (omega arith)
answer_tells a b (step {l = l} {d = d} f) ended q = let k = kinds_same (Answer.stepped l d) Answer.ended q in absurd (omega arith)
answer_tells a b (step {l = l} {d = d} f) none q = let k = kinds_same (Answer.stepped l d) Answer.nothing q in absurd (omega arith)
answer_tells a b (step {l = l} {d = d} f) too_deep q = let k = kinds_same (Answer.stepped l d) (Answer.refused 16) q in absurd (omega arith)
answer_tells a b too_deep ended q = let k = kinds_same (Answer.refused 16) Answer.ended q in absurd (omega arith)
answer_tells a b too_deep none q = let k = kinds_same (Answer.refused 16) Answer.nothing q in absurd (omega arith)
answer_tells a b too_deep (step {l = m} {d = e} g) q = let k = kinds_same (Answer.refused 16) (Answer.stepped m e) q in absurd (omega arith)

-- LABELS OF A RIGHT TABLE FIT

-- no action is named by a word
tau_is_a_word : T (free_name (bytes "tau")) → ⊥
unfolding definitions
tau_is_a_word h = h

module _ (U : Table) (right : RightTable U) where
  abbrev S : Sig
  S = U.sig

  right_acts : Every (RightAction S.sorts) S.acts
  unfolding RightTable RightSig
  right_acts = right.0.0.1.1.0.1

  short_sorts : (Ds : List ℕ) → AreSorts S.sorts Ds → Every (λ (D : Name). length D ≤ max_sort_name) (map (sort_name S) Ds)
  unfolding RightTable Every
  short_sorts [] a = tt
  short_sorts (D ∷ Ds) a = (names_short S right.0.0 U.layout right.2 D a.0, short_sorts Ds a.1)

  no_word : (n : Name) → RightName n → n ≡ bytes "tau" → ⊥
  unfolding RightName
  no_word n r e = tau_is_a_word (subst (λ (m : Name). T (free_name m)) e r.1)

  name_short : (n : Name) → RightName n → length n ≤ max_name
  unfolding RightName
  name_short n r = r.0.0.1

  pub label_fits : (a : Act) (vs : List ℕ) → IsAct S a → length vs ≡ length (takes_of S a) → Fitting (label S a vs)
  unfolding label takes_of IsAct RightAction
  label_fits tau vs i e = of_tau
  label_fits (action a) vs i e =
      let name = (get_or S.acts a no_action).name in
      let r = every_at (RightAction S.sorts) S.acts no_action a right_acts i in
      of_action {vs = vs} (name_short name r.0) (no_word name r.0) (length-map (takes_of S (action a)) (sort_name S) ∙ sym e) (omega (arith, r.1.0)) (short_sorts (takes_of S (action a)) r.1.1)
