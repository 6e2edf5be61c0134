-- A raw term is passed over by its tags alone: behind a tag stand its tokens, then its subterms. How many terms are left is enough to know the end.
use mathlib.Core.Path.{◌≡◌, refl, sym, ap, ◌∙◌}
use mathlib.Core.Bool.{Bool, true, false}
use mathlib.Core.List.{List, [], ◌∷◌, ◌++◌, append_assoc, append-nil, map}
use mathlib.Core.Option.{none, some}
use Prim.Native.Nat.{ℕ, suc, ◌+◌, ◌-◌, ◌≤◌, ◌<◌}
use native.Mathlib.Omega.{arith}
use borrow.Author.Tests.{lt-ltb, le-ltb}
use lib.Dec.{ltb}
use lib.ListN.{length, drop, get_or, length-append, length-map, get_or-eq_default}
use lib.Seq.{drop-drop, drop-append_seam}
use Rattle.pcrl.specs.Tokens.{name, numeral}
use Rattle.pcrl.specs.Reader.{all}
use Rattle.pcrl.specs.Tree.{RawData, Conjunction, Comparison, Negation, Atom, RawDatas, Choice, Conditional, Sequence, Part}
use Rattle.parser.specs.Cells.{Symbol, tag, token, ors, ands, first_ors, first_ands, symbol_of, more_ors, more_ands, enc_ors, enc_data, enc_conjunction, enc_comparison, enc_negation, enc_datas, enc_call, enc_choice, value_tag, variable_tag, apply_tag, one_tag, more_tag, only_tag, plus_tag, plain_tag, cond_tag, last_tag, then_tag, delta_tag, tau_tag, bare_tag, given_tag, sum_tag, group_tag, alone_tag, equal_tag, not_tag, nest_tag}
use Rattle.names.specs.Standing.{symbols}
use Rattle.names.proofs.Symbols.{tag_cell}
use Rattle.resolver.specs.Raw.{Term, choice, conditional, sequence, part, enc_term, disjuncts, conjuncts, tokens_of, kids_of, Skips}
use Rattle.resolver.proofs.Symbols.{next, ors_is, ands_is}
use Rattle.resolver.proofs.Operands.{disjuncts_are, disjuncts_many, conjuncts_are, conjuncts_many}

abbrev pub kids_table : List ℕ
kids_table = 0 ∷ 0 ∷ 0 ∷ 1 ∷ 1 ∷ 2 ∷ 1 ∷ 2 ∷ 1 ∷ 3 ∷ 1 ∷ 2 ∷ 0 ∷ 0 ∷ 0 ∷ 1 ∷ 1 ∷ 1 ∷ 0 ∷ 0 ∷ 0 ∷ 0 ∷ 0 ∷ 0 ∷ 0 ∷ 1 ∷ 2 ∷ 1 ∷ 1 ∷ []

abbrev kids_by : ℕ → Bool → Bool → ℕ
kids_by k o a = elim o [ true ↦ get_or kids_table k 0 | false ↦ elim a [ true ↦ suc (k - first_ors) | false ↦ suc (k - first_ands) ] ]

pub kids_tag : (k : ℕ) → k < first_ors → kids_of k ≡ get_or kids_table k 0
unfolding kids_of
kids_tag k h = ap (λ b. kids_by k b (ltb k first_ands)) (lt-ltb k first_ors h)

pub kids_past : (k : ℕ) → 29 ≤ k → k < first_ors → kids_of k ≡ 0
kids_past k h l = kids_tag k l ∙ get_or-eq_default kids_table 0 {n = k} h

pub kids_ors : (k : ℕ) → first_ors ≤ k → k < first_ands → kids_of k ≡ suc (k - first_ors)
unfolding kids_of
kids_ors k h l = ap (λ b. kids_by k b (ltb k first_ands)) (le-ltb k first_ors h) ∙ ap (kids_by k false) (lt-ltb k first_ands l)

pub kids_ands : (k : ℕ) → first_ands ≤ k → kids_of k ≡ suc (k - first_ands)
unfolding kids_of
kids_ands k h = ap (λ b. kids_by k b (ltb k first_ands)) (le-ltb k first_ors (omega arith)) ∙ ap (kids_by k false) (le-ltb k first_ands h)

pub tokens_past : (k : ℕ) → 17 ≤ k → tokens_of k ≡ 0
unfolding tokens_of
tokens_past k h = get_or-eq_default (0 ∷ 1 ∷ 1 ∷ 1 ∷ 0 ∷ 0 ∷ 0 ∷ 0 ∷ 0 ∷ 0 ∷ 0 ∷ 0 ∷ 0 ∷ 0 ∷ 1 ∷ 1 ∷ 2 ∷ []) 0 {n = k} h

-- ---- terms of all kinds; an atom is a negation
data Item : Type 0 where
  term : Term → Item
  datum : RawData → Item
  conjunction : Conjunction → Item
  comparison : Comparison → Item
  negation : Negation → Item
  datums : RawDatas → Item

item_symbols : Item → List Symbol
item_symbols (term t) = enc_term t
item_symbols (datum d) = enc_data d
item_symbols (conjunction c) = enc_conjunction c
item_symbols (comparison c) = enc_comparison c
item_symbols (negation a) = enc_negation a
item_symbols (datums ds) = enc_datas ds

all_symbols : List Item → List Symbol
all_symbols [] = []
all_symbols (x ∷ xs) = item_symbols x ++ all_symbols xs

item_first : Item → Symbol
item_first (datum d) = ors (more_ors d)
item_first (conjunction c) = ands (more_ands c)
item_first (term (choice (Choice.only c))) = tag only_tag
item_first (term (choice (Choice.plus c d))) = tag plus_tag
item_first (term (conditional (Conditional.plain p))) = tag plain_tag
item_first (term (conditional (Conditional.cond p c q))) = tag cond_tag
item_first (term (sequence (Sequence.last p))) = tag last_tag
item_first (term (sequence (Sequence.then p q))) = tag then_tag
item_first (term (part Part.delta)) = tag delta_tag
item_first (term (part Part.tau)) = tag tau_tag
item_first (term (part (Part.named x none))) = tag bare_tag
item_first (term (part (Part.named x (some ds)))) = tag given_tag
item_first (term (part (Part.sum v D p))) = tag sum_tag
item_first (term (part (Part.group p))) = tag group_tag
item_first (comparison (Comparison.plain a)) = tag alone_tag
item_first (comparison (Comparison.equal a b)) = tag equal_tag
item_first (negation (Negation.not a)) = tag not_tag
item_first (negation (Negation.atom (Atom.value v))) = tag value_tag
item_first (negation (Negation.atom (Atom.variable x))) = tag variable_tag
item_first (negation (Negation.atom (Atom.apply x ds))) = tag apply_tag
item_first (negation (Negation.atom (Atom.group d))) = tag nest_tag
item_first (datums (RawDatas.one d)) = tag one_tag
item_first (datums (RawDatas.more d ds)) = tag more_tag

item_tokens : Item → List Symbol
item_tokens (datum d) = []
item_tokens (conjunction c) = []
item_tokens (term (choice (Choice.only c))) = []
item_tokens (term (choice (Choice.plus c d))) = []
item_tokens (term (conditional (Conditional.plain p))) = []
item_tokens (term (conditional (Conditional.cond p c q))) = []
item_tokens (term (sequence (Sequence.last p))) = []
item_tokens (term (sequence (Sequence.then p q))) = []
item_tokens (term (part Part.delta)) = []
item_tokens (term (part Part.tau)) = []
item_tokens (term (part (Part.named x none))) = token (name x) ∷ []
item_tokens (term (part (Part.named x (some ds)))) = token (name x) ∷ []
item_tokens (term (part (Part.sum v D p))) = token (name v) ∷ token (name D) ∷ []
item_tokens (term (part (Part.group p))) = []
item_tokens (comparison (Comparison.plain a)) = []
item_tokens (comparison (Comparison.equal a b)) = []
item_tokens (negation (Negation.not a)) = []
item_tokens (negation (Negation.atom (Atom.value v))) = token (numeral v) ∷ []
item_tokens (negation (Negation.atom (Atom.variable x))) = token (name x) ∷ []
item_tokens (negation (Negation.atom (Atom.apply x ds))) = token (name x) ∷ []
item_tokens (negation (Negation.atom (Atom.group d))) = []
item_tokens (datums (RawDatas.one d)) = []
item_tokens (datums (RawDatas.more d ds)) = []

item_kids : Item → List Item
item_kids (datum d) = map conjunction (disjuncts d)
item_kids (conjunction c) = map comparison (conjuncts c)
item_kids (term (choice (Choice.only c))) = term (conditional c) ∷ []
item_kids (term (choice (Choice.plus c d))) = term (conditional c) ∷ term (choice d) ∷ []
item_kids (term (conditional (Conditional.plain p))) = term (sequence p) ∷ []
item_kids (term (conditional (Conditional.cond p c q))) = term (sequence p) ∷ datum c ∷ term (sequence q) ∷ []
item_kids (term (sequence (Sequence.last p))) = term (part p) ∷ []
item_kids (term (sequence (Sequence.then p q))) = term (part p) ∷ term (sequence q) ∷ []
item_kids (term (part Part.delta)) = []
item_kids (term (part Part.tau)) = []
item_kids (term (part (Part.named x none))) = []
item_kids (term (part (Part.named x (some ds)))) = datums ds ∷ []
item_kids (term (part (Part.sum v D p))) = term (choice p) ∷ []
item_kids (term (part (Part.group p))) = term (choice p) ∷ []
item_kids (comparison (Comparison.plain a)) = negation a ∷ []
item_kids (comparison (Comparison.equal a b)) = negation a ∷ negation b ∷ []
item_kids (negation (Negation.not a)) = negation a ∷ []
item_kids (negation (Negation.atom (Atom.value v))) = []
item_kids (negation (Negation.atom (Atom.variable x))) = []
item_kids (negation (Negation.atom (Atom.apply x ds))) = datums ds ∷ []
item_kids (negation (Negation.atom (Atom.group d))) = datum d ∷ []
item_kids (datums (RawDatas.one d)) = datum d ∷ []
item_kids (datums (RawDatas.more d ds)) = datum d ∷ datums ds ∷ []

-- ---- what a cell says of the item that begins with it
cell_tokens : (s : List ℕ) (c : ℕ) → first_ors ≤ c → tokens_of c ≡ 0
cell_tokens s c h = tokens_past c (omega arith)

record Open (x : Item) (xs : List Item) : Type 0 where
  opened : all_symbols (x ∷ xs) ≡ item_first x ∷ (item_tokens x ++ all_symbols (item_kids x ++ xs))
  tokens_are : (s : List ℕ) (c : ℕ) → symbol_of s c ≡ item_first x → tokens_of c ≡ length (item_tokens x)
  kids_are : (s : List ℕ) (c : ℕ) → symbol_of s c ≡ item_first x → kids_of c ≡ length (item_kids x)

-- a tag and the numbers that stand for it
tagged : (x : Item) (xs : List Item) (k : ℕ) → item_first x ≡ tag k → all_symbols (x ∷ xs) ≡ tag k ∷ (item_tokens x ++ all_symbols (item_kids x ++ xs)) → length (item_tokens x) ≡ tokens_of k
    → length (item_kids x) ≡ kids_of k → Open x xs
tagged x xs k e o t l = record {
  opened = o ∙ ap (λ y. y ∷ (item_tokens x ++ all_symbols (item_kids x ++ xs))) (sym e);
  tokens_are = λ s c q. ap tokens_of (tag_cell s c k (q ∙ e)) ∙ sym t;
  kids_are = λ s c q. ap kids_of (tag_cell s c k (q ∙ e)) ∙ sym l;
}

disjuncts_follow : (l : List Conjunction) (xs : List Item) → all enc_conjunction l ++ all_symbols xs ≡ all_symbols (map conjunction l ++ xs)
unfolding all all_symbols item_symbols
disjuncts_follow [] xs = refl
disjuncts_follow (c ∷ l) xs = append_assoc (enc_conjunction c) (all enc_conjunction l) (all_symbols xs) ∙ ap (λ y. enc_conjunction c ++ y) (disjuncts_follow l xs)

conjuncts_follow : (l : List Comparison) (xs : List Item) → all enc_comparison l ++ all_symbols xs ≡ all_symbols (map comparison l ++ xs)
unfolding all all_symbols item_symbols
conjuncts_follow [] xs = refl
conjuncts_follow (c ∷ l) xs = append_assoc (enc_comparison c) (all enc_comparison l) (all_symbols xs) ∙ ap (λ y. enc_comparison c ++ y) (conjuncts_follow l xs)

open_item : (x : Item) (xs : List Item) → Open x xs
unfolding all_symbols item_symbols item_first item_tokens item_kids enc_term enc_ors enc_choice enc_call tokens_of kids_of
open_item (datum d) xs = record {
  opened = ap (λ l. ors (more_ors d) ∷ (l ++ all_symbols xs)) (disjuncts_are d) ∙ ap (λ l. ors (more_ors d) ∷ l) (disjuncts_follow (disjuncts d) xs);
  tokens_are = λ s c q. cell_tokens s c (ors_is s c (more_ors d) q).0.least;
  kids_are = λ s c q.
      let z = ors_is s c (more_ors d) q in
      let n = z.0.count in
      let m = length-map (disjuncts d) conjunction in
      let k = kids_ors c z.0.least z.1 in
      let u = disjuncts_many d in
      k ∙ (let y : suc (c - first_ors) ≡ length (map conjunction (disjuncts d)) = omega arith in y);
}
open_item (conjunction e) xs = record {
  opened = ap (λ l. ands (more_ands e) ∷ (l ++ all_symbols xs)) (conjuncts_are e) ∙ ap (λ l. ands (more_ands e) ∷ l) (conjuncts_follow (conjuncts e) xs);
  tokens_are = λ s c q. let z = (ands_is s c (more_ands e) q).least in cell_tokens s c (omega arith);
  kids_are = λ s c q.
      let z = ands_is s c (more_ands e) q in
      let n = z.count in
      let m = length-map (conjuncts e) comparison in
      let k = kids_ands c z.least in
      let u = conjuncts_many e in
      k ∙ (let y : suc (c - first_ands) ≡ length (map comparison (conjuncts e)) = omega arith in y);
}
open_item (term (choice (Choice.only c))) xs = tagged (term (choice (Choice.only c))) xs only_tag refl refl refl refl
open_item (term (choice (Choice.plus c d))) xs = tagged (term (choice (Choice.plus c d))) xs plus_tag refl (simp append_assoc) refl refl
open_item (term (conditional (Conditional.plain p))) xs = tagged (term (conditional (Conditional.plain p))) xs plain_tag refl refl refl refl
open_item (term (conditional (Conditional.cond p c q))) xs = tagged (term (conditional (Conditional.cond p c q))) xs cond_tag refl (simp append_assoc) refl refl
open_item (term (sequence (Sequence.last p))) xs = tagged (term (sequence (Sequence.last p))) xs last_tag refl refl refl refl
open_item (term (sequence (Sequence.then p q))) xs = tagged (term (sequence (Sequence.then p q))) xs then_tag refl (simp append_assoc) refl refl
open_item (term (part Part.delta)) xs = tagged (term (part Part.delta)) xs delta_tag refl refl refl refl
open_item (term (part Part.tau)) xs = tagged (term (part Part.tau)) xs tau_tag refl refl refl refl
open_item (term (part (Part.named x none))) xs = tagged (term (part (Part.named x none))) xs bare_tag refl refl refl refl
open_item (term (part (Part.named x (some ds)))) xs = tagged (term (part (Part.named x (some ds)))) xs given_tag refl refl refl refl
open_item (term (part (Part.sum v D p))) xs = tagged (term (part (Part.sum v D p))) xs sum_tag refl refl refl refl
open_item (term (part (Part.group p))) xs = tagged (term (part (Part.group p))) xs group_tag refl refl refl refl
open_item (comparison (Comparison.plain a)) xs = tagged (comparison (Comparison.plain a)) xs alone_tag refl refl refl refl
open_item (comparison (Comparison.equal a b)) xs = tagged (comparison (Comparison.equal a b)) xs equal_tag refl (simp append_assoc) refl refl
open_item (negation (Negation.not a)) xs = tagged (negation (Negation.not a)) xs not_tag refl refl refl refl
open_item (negation (Negation.atom (Atom.value v))) xs = tagged (negation (Negation.atom (Atom.value v))) xs value_tag refl refl refl refl
open_item (negation (Negation.atom (Atom.variable x))) xs = tagged (negation (Negation.atom (Atom.variable x))) xs variable_tag refl refl refl refl
open_item (negation (Negation.atom (Atom.apply x ds))) xs = tagged (negation (Negation.atom (Atom.apply x ds))) xs apply_tag refl refl refl refl
open_item (negation (Negation.atom (Atom.group d))) xs = tagged (negation (Negation.atom (Atom.group d))) xs nest_tag refl refl refl refl
open_item (datums (RawDatas.one d)) xs = tagged (datums (RawDatas.one d)) xs one_tag refl refl refl refl
open_item (datums (RawDatas.more d ds)) xs = tagged (datums (RawDatas.more d ds)) xs more_tag refl (simp append_assoc) refl refl

-- ---- the walk: some items are left
pub record Items (s raw : List ℕ) (p need : ℕ) (rest : List Symbol) : Type 0 where
  items : List Item
  many : length items ≡ need
  there : drop p (symbols s raw) ≡ all_symbols items ++ rest

abbrev pub SkipLeft : List ℕ → ℕ → ℕ → ℕ → Type 0
SkipLeft raw at p need = (s : List ℕ) (t : Term) (rest : List Symbol) → drop at (symbols s raw) ≡ enc_term t ++ rest → Items s raw p need rest

pub skip_start : (raw : List ℕ) (at : ℕ) → SkipLeft raw at at 1
unfolding all_symbols item_symbols
skip_start raw at s t rest e = record { items = term t ∷ []; many = refl; there = e ∙ ap (λ l. l ++ rest) (sym (append-nil (enc_term t))) }

pub skip_step : (raw : List ℕ) (at p need : ℕ) → SkipLeft raw at p need → 0 < need → (need' p' : ℕ) → need' ≡ need - 1 + kids_of (get_or raw p 0) → p' ≡ p + 1 + tokens_of (get_or raw p 0) → SkipLeft raw at p' need'
unfolding all_symbols
skip_step raw at p need h h₀ need' p' en ep s t rest e = by (h s t rest e).items (h s t rest e).many (h s t rest e).there
  where
    by : (xs : List Item) → length xs ≡ need → drop p (symbols s raw) ≡ all_symbols xs ++ rest → Items s raw p' need' rest
    by [] m d = absurd (omega arith)
    by (x ∷ xs) m d =
        let o = open_item x xs in
        let n = next s raw p (item_first x) ((item_tokens x ++ all_symbols (item_kids x ++ xs)) ++ rest) (d ∙ ap (λ l. l ++ rest) o.opened) in
        let q = o.tokens_are s (get_or raw p 0) n.is in
        let u = o.kids_are s (get_or raw p 0) n.is in
        let f : p' ≡ p + 1 + length (item_tokens x) = omega arith in
        record {
          items = item_kids x ++ xs;
          many = omega (arith, length-append (item_kids x) xs);
          there = ap (λ i. drop i (symbols s raw)) f ∙ sym (drop-drop (length (item_tokens x)) (p + 1) (symbols s raw))
              ∙ ap (drop (length (item_tokens x))) (n.behind ∙ append_assoc (item_tokens x) (all_symbols (item_kids x ++ xs)) rest)
              ∙ drop-append_seam (item_tokens x) (all_symbols (item_kids x ++ xs) ++ rest);
        }

pub skip_done : (raw : List ℕ) (at p : ℕ) → SkipLeft raw at p 0 → Skips raw at p
unfolding all_symbols
skip_done raw at p h s t rest e = by (h s t rest e).items (h s t rest e).many (h s t rest e).there
  where
    by : (xs : List Item) → length xs ≡ 0 → drop p (symbols s raw) ≡ all_symbols xs ++ rest → drop p (symbols s raw) ≡ rest
    by [] m d = d
    by (x ∷ xs) m d = absurd (omega arith)

pub skip_stuck : (raw : List ℕ) (at p need : ℕ) → SkipLeft raw at p need → 0 < need → length raw ≤ p → Skips raw at p
unfolding all_symbols
skip_stuck raw at p need h h₀ l s t rest e = by (h s t rest e).items (h s t rest e).many (h s t rest e).there
  where
    by : (xs : List Item) → length xs ≡ need → drop p (symbols s raw) ≡ all_symbols xs ++ rest → drop p (symbols s raw) ≡ rest
    by [] m d = absurd (omega arith)
    by (x ∷ xs) m d =
        let n = next s raw p (item_first x) ((item_tokens x ++ all_symbols (item_kids x ++ xs)) ++ rest) (d ∙ ap (λ l. l ++ rest) (open_item x xs).opened) in
        let i = n.inside in
        absurd (omega arith)
