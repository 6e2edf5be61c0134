-- A whole sheet: the runs of lines and the init line, read one behind the other, are what the definition's `sheet` finds.
use mathlib.Core.Path.{◌≡◌, refl, sym, ap, ◌∙◌, subst}
use mathlib.Core.List.{List, [], ◌++◌, append_assoc, append-nil}
use Prim.Native.Nat.{ℕ, ◌+◌, ◌≤◌, ◌<◌}
use native.Mathlib.Decide.{dec_lt, ℕ_discrete}
use native.Mathlib.Omega.{arith}
use lib.ListN.{length, length-append}
use Rattle.pcrl.specs.Tokens.{Token}
use Rattle.pcrl.specs.Reader.{Got, missing, found, bind, test, keep, all}
use Rattle.pcrl.specs.Tree.{RawSheet}
use Rattle.pcrl.specs.Grammar.{sort_line, func_line, act_line, proc_line, init_line, lines, sheet}
use Rattle.parser.specs.Cells.{Symbol, enc_sort, enc_func, enc_act, enc_proc, enc_init, enc_sheet}
use Rattle.parser.specs.Reading.{rest, Few, Writes}
use Rattle.parser.specs.Runs.{Placed}
use Rattle.parser.specs.Parses.{Stands, Kept}
use Rattle.parser.specs.declared.Run.{Run}
use Rattle.parser.specs.declared.Lines.{Lines}
use Rattle.parser.proofs.Signs.{init_sign, semicolon_sign}
use Rattle.parser.proofs.Writing.{writes_then}
use Rattle.parser.proofs.Reading.{still_lost, bind_assoc, then_reads, then_expect}
use Rattle.parser.proofs.Places.{stands_behind, kept_behind}
use Rattle.parser.proofs.Reaching.{After, NotBefore, Meets, Reaches, Runs, stray, ran}

-- a run of lines, and then another reader
module _ (s toks : List ℕ) {B : Type 0} (G : Got Token B → Type 0) {A : Type 0} {enc : A → List Symbol} (k : List A → List Token → Got Token B) {w : ℕ} {o : List ℕ} {n : ℕ} {p : List ℕ} {r : Run} {o' p' : List ℕ} where
  then_run : {P : Got Token (List A)} → Runs s toks enc w o n p r o' p' P → (length toks < r.at → G missing)
      → ((ls : List A) → r.at ≤ length toks → Writes s toks (all enc ls) w o r.w o' → r.count ≡ n + length ls → (Few toks → w + length (all enc ls) ≤ length o → length o < 65536 → Placed enc ls w n p p') → G (k ls (rest s toks r.at)))
      → G (bind P k)
  unfolding bind
  then_run (stray l) f g = f l
  then_run (ran {ls} i u c pl) f g = g ls i u c pl

-- "at least one"
some_kept : {A B : Type 0} (G : Got Token B → Type 0) (ls : List A) (ts : List Token) (k : List A → List Token → Got Token B) → (length ls ≡ 0 → G missing) → (0 < length ls → G (k ls ts))
    → G (bind (keep (dec_lt 0 (length ls)) ls ts) k)
unfolding bind keep
some_kept {A} G ls ts k f g = by (dec_lt 0 (length ls))
  where
    by : (d : Dec (0 < length ls)) → G (bind (keep d ls ts) k)
    by (yes h) = g h
    by (no h) = f (omega arith)

-- How many lines of each kind there are, and where the first ones and the init line stand.
pub record Settled (R : RawSheet) (L : Lines) : Type 0 where
  pub sorts : Kept enc_sort R.sorts L.sort_count L.sorts (enc_sheet R)
  pub funcs : Kept enc_func R.funcs L.func_count L.funcs (enc_sheet R)
  pub acts : Kept enc_act R.acts L.act_count L.acts (enc_sheet R)
  pub procs : Kept enc_proc R.procs L.proc_count L.procs (enc_sheet R)
  pub init : Stands (enc_sheet R) L.init (enc_init R.start)

pub data Sheeted (s toks o : List ℕ) (L : Lines) (next w' : ℕ) (o' : List ℕ) : Got Token RawSheet → Type 0 where
  gone : length toks < next → Sheeted s toks o L next w' o' missing
  full : {R : RawSheet} → next ≤ length toks → Writes s toks (enc_sheet R) 0 o w' o' → (Few toks → length (enc_sheet R) ≤ length o → length o < 65536 → Settled R L) → Sheeted s toks o L next w' o' (found R (rest s toks next))

-- the counts of four runs and their places
abbrev pub gathered : Run → Run → Run → Run → List ℕ → List ℕ → List ℕ → List ℕ → ℕ → Lines
gathered a b c d q₁ q₂ q₃ q₄ i =
    record { sorts = q₁; funcs = q₂; acts = q₃; procs = q₄; sort_count = a.count; func_count = b.count; act_count = c.count; proc_count = d.count; init = i }

on_lost : {n at next : ℕ} → NotBefore n at next → n < at → n < next
on_lost a l = omega arith

-- the pieces of a sheet, each written behind the one before
module _ (R : RawSheet) (a b c d : Run) {s toks o o₁ o₂ o₃ o₄ o₅ p₁ p₂ p₃ p₄ q₁ q₂ q₃ q₄ : List ℕ} {w₇ i : ℕ} (u₁ : Writes s toks (all enc_sort R.sorts) 0 o a.w o₁) (u₂ : Writes s toks (all enc_func R.funcs) a.w o₁ b.w o₂) (u₃ : Writes s toks (all enc_act R.acts) b.w o₂ c.w o₃)
    (u₄ : Writes s toks (all enc_proc R.procs) c.w o₃ d.w o₄) (u₅ : Writes s toks (enc_init R.start) d.w o₄ w₇ o₅)
    (k₁ : a.count ≡ 0 + length R.sorts) (k₂ : b.count ≡ 0 + length R.funcs) (k₃ : c.count ≡ 0 + length R.acts) (k₄ : d.count ≡ 0 + length R.procs)
    (l₁ : length q₁ ≤ length p₁) (l₂ : length q₂ ≤ length p₂) (l₃ : length q₃ ≤ length p₃) (l₄ : length q₄ ≤ length p₄)
    (f₁ : Few toks → 0 + length (all enc_sort R.sorts) ≤ length o → length o < 65536 → Placed enc_sort R.sorts 0 0 p₁ q₁)
    (f₂ : Few toks → a.w + length (all enc_func R.funcs) ≤ length o₁ → length o₁ < 65536 → Placed enc_func R.funcs a.w 0 p₂ q₂)
    (f₃ : Few toks → b.w + length (all enc_act R.acts) ≤ length o₂ → length o₂ < 65536 → Placed enc_act R.acts b.w 0 p₃ q₃)
    (f₄ : Few toks → c.w + length (all enc_proc R.procs) ≤ length o₃ → length o₃ < 65536 → Placed enc_proc R.procs c.w 0 p₄ q₄)
    (iv : d.w < 65536 → i ≡ d.w) where
  settled : Few toks → length (enc_sheet R) ≤ length o → length o < 65536 → Settled R (gathered a b c d q₁ q₂ q₃ q₄ i)
  unfolding enc_sheet
  settled few room big =
      let S = all enc_sort R.sorts in
      let F = all enc_func R.funcs in
      let A = all enc_act R.acts in
      let P = all enc_proc R.procs in
      let I = enc_init R.start in
      let n₁ = length-append S (F ++ (A ++ (P ++ I))) in
      let n₂ = length-append F (A ++ (P ++ I)) in
      let n₃ = length-append A (P ++ I) in
      let n₄ = length-append P I in
      let y₁ = u₁.with_room few (omega arith) in
      let s₁ = y₁.same in
      let w₁ = y₁.next in
      let y₂ = u₂.with_room few (omega arith) in
      let s₂ = y₂.same in
      let w₂ = y₂.next in
      let y₃ = u₃.with_room few (omega arith) in
      let s₃ = y₃.same in
      let w₃ = y₃.next in
      let y₄ = u₄.with_room few (omega arith) in
      let s₄ = y₄.same in
      let w₄ = y₄.next in
      let m₂ = length-append S F in
      let m₃ = length-append (S ++ F) A in
      let m₄ = length-append ((S ++ F) ++ A) P in
      let e₃ = sym (append_assoc S F (A ++ (P ++ I))) in
      let e₄ = e₃ ∙ sym (append_assoc (S ++ F) A (P ++ I)) in
      let e₅ = e₄ ∙ sym (append_assoc ((S ++ F) ++ A) P I) ∙ ap (λ l. (((S ++ F) ++ A) ++ P) ++ l) (sym (append-nil I)) in
      record {
        sorts = kept_behind [] (F ++ (A ++ (P ++ I))) refl refl (omega arith) l₁ (f₁ few (omega arith) (omega arith));
        funcs = kept_behind S (A ++ (P ++ I)) refl (omega arith) (omega arith) l₂ (f₂ few (omega arith) (omega arith));
        acts = kept_behind (S ++ F) (P ++ I) e₃ (omega arith) (omega arith) l₃ (f₃ few (omega arith) (omega arith));
        procs = kept_behind ((S ++ F) ++ A) I e₄ (omega arith) (omega arith) l₄ (f₄ few (omega arith) (omega arith));
        init = stands_behind (((S ++ F) ++ A) ++ P) I [] i e₅ (iv (omega arith) ∙ omega arith);
      }

module _ (s toks : List ℕ) (f : ℕ) (a b c d : Run) {o o₁ o₂ o₃ o₄ o₅ p₁ p₂ p₃ p₄ q₁ q₂ q₃ q₄ : List ℕ} {at₅ at₆ at₇ at₈ w₇ i : ℕ}
    (h₁ : Runs s toks enc_sort 0 o 0 p₁ a o₁ q₁ (lines "sort" sort_line f (rest s toks 0)))
    (b₂ : NotBefore (length toks) a.at b.at) (h₂ : a.at ≤ length toks → Runs s toks enc_func a.w o₁ 0 p₂ b o₂ q₂ (lines "func" (func_line f) f (rest s toks a.at)))
    (b₃ : NotBefore (length toks) b.at c.at) (h₃ : b.at ≤ length toks → Runs s toks enc_act b.w o₂ 0 p₃ c o₃ q₃ (lines "act" act_line f (rest s toks b.at)))
    (b₄ : NotBefore (length toks) c.at d.at) (h₄ : c.at ≤ length toks → Runs s toks enc_proc c.w o₃ 0 p₄ d o₄ q₄ (lines "proc" (proc_line f) f (rest s toks c.at)))
    (m₀ : d.count ≡ 0 → length toks < at₅) (m₁ : 0 < d.count → at₅ ≡ d.at)
    (a₆ : After (length toks) at₅ at₆) (x₆ : Meets toks at₅ 164 at₆)
    (a₇ : After (length toks) at₆ at₇) (h₇ : at₆ ≤ length toks → Reaches s toks enc_init d.w o₄ at₇ w₇ o₅ (init_line f (rest s toks at₆)))
    (a₈ : After (length toks) at₇ at₈) (x₈ : Meets toks at₇ 59 at₈)
    (l₁ : length q₁ ≤ length p₁) (l₂ : length q₂ ≤ length p₂) (l₃ : length q₃ ≤ length p₃) (l₄ : length q₄ ≤ length p₄) (iv : d.w < 65536 → i ≡ d.w) where
  lost₆ : length toks < at₆ → length toks < at₈
  lost₆ l = still_lost a₈ (still_lost a₇ l)

  lost₅ : length toks < at₅ → length toks < at₈
  lost₅ l = lost₆ (still_lost a₆ l)

  lost₄ : length toks < d.at → length toks < at₈
  lost₄ l = by (ℕ_discrete d.count 0)
    where
      by : Dec (d.count ≡ 0) → length toks < at₈
      by (yes e) = lost₅ (m₀ e)
      by (no n) = let e = m₁ (omega arith) in lost₅ (omega arith)

  abbrev Goal : Got Token RawSheet → Type 0
  Goal g = Sheeted s toks o (gathered a b c d q₁ q₂ q₃ q₄ i) at₈ w₇ o₅ g

  -- THE READER OF A SHEET FINDS WHAT `sheet` FINDS.
  pub sheet_read : Goal (sheet f (rest s toks 0))
  unfolding sheet test enc_sheet
  sheet_read =
      then_run s toks Goal _ h₁ (λ l. gone (lost₄ (on_lost b₄ (on_lost b₃ (on_lost b₂ l)))))
      (λ sorts j₁ u₁ k₁ f₁. then_run s toks Goal _ (h₂ j₁) (λ l. gone (lost₄ (on_lost b₄ (on_lost b₃ l))))
      (λ funcs j₂ u₂ k₂ f₂. then_run s toks Goal _ (h₃ j₂) (λ l. gone (lost₄ (on_lost b₄ l)))
      (λ acts j₃ u₃ k₃ f₃. subst Goal (sym (bind_assoc (lines "proc" (proc_line f) f (rest s toks c.at)) _ _))
      (then_run s toks Goal _ (h₄ j₃) (λ l. gone (lost₄ l))
      (λ procs j₄ u₄ k₄ f₄. some_kept Goal procs (rest s toks d.at) _ (λ z. gone (lost₅ (m₀ (omega arith))))
      (λ z. then_expect s toks Goal init_sign d.at (subst (λ k. Meets toks k 164 at₆) (m₁ (omega arith)) x₆) _ (λ l. gone (lost₆ l))
      (λ j₆. then_reads s toks Goal _ (h₇ j₆) (λ l. gone (still_lost a₈ l))
      (λ start j₇ u₅. then_expect s toks Goal semicolon_sign at₇ x₈ _ gone
      (λ j₈. full j₈ (writes_then u₁ (writes_then u₂ (writes_then u₃ (writes_then u₄ u₅))))
      (settled (record { sorts = sorts; funcs = funcs; acts = acts; procs = procs; start = start }) a b c d u₁ u₂ u₃ u₄ u₅ k₁ k₂ k₃ k₄ l₁ l₂ l₃ l₄ f₁ f₂ f₃ f₄ iv))))))))))
