-- Counts and numbers beside the heads: the count in front of them, and the first new equations of processes.
use mathlib.Core.Path.{◌≡◌, refl, sym, ap, ◌∙◌, subst}
use mathlib.Core.List.{List, [], ◌∷◌, ◌++◌}
use mathlib.Core.Logic.{◌≢◌}
use mathlib.Core.Bool.{false}
use Rattle.std.specs.Prelude.{Result, Ok, Err, MatchResult}
use Rattle.refusals.specs.declared.Refusal.{Refusal}
use Rattle.refusals.specs.declared.Refusal.TheVariants.{NoRoom}
use Prim.Native.Nat.{ℕ, zero, suc, ◌+◌, ◌%◌, ◌<◌, ◌≤◌}
use native.Mathlib.Numerals.{add-one}
use native.Mathlib.Omega.{arith}
use native.Mathlib.Decide.{ℕ_discrete}
use lib.ListN.{length, drop, take, get_or, set, length-set}
use lib.Seq.{get_or-set_same, get_or-set_other}
use Rattle.pcrl.specs.Reader.{all}
use Rattle.pcrl.specs.Sheet.{Process, Sheet, right, no_process}
use Rattle.pcrl.specs.Parts.{new_count, all_new_parts, first_new}
use Rattle.pcrl.specs.Stream.{encode_list, encode_summand}
use Rattle.pcrl.specs.Tests.{Every}
use Rattle.pcrl.specs.Table.{Summand}
use Rattle.pcrl.specs.Right.{SummandWithin}
use Rattle.pcrl.specs.Heads.{heads}
use Rattle.laws.specs.Every.{every_weaken}
use Rattle.nodes.specs.declared.Skipped.{Skipped}
use Rattle.nodes.specs.Layout.{byte_limit}
use Rattle.nodes.specs.Views.{Skips}
use Rattle.counting.specs.Limits.{cut}
use Rattle.counting.specs.Counting.{Placed}
use Rattle.putting.specs.Slots.{Adds}
use Rattle.putting.proofs.Bytes.{cell_more, adds_then}
use Rattle.contexts.specs.Spots.{SummandFits}
use Rattle.heads.specs.Writing.{HeadsWritten, HeadsCounted, SummandsWritten, NumbersFirst}
use Rattle.heads.proofs.Accepted.{first_below}
use Rattle.heads.proofs.Walking.{length_none}

-- what holds of a `Result` in both cases, by what held
on_result : {A E : Type 0} (r : Result A E) {P P' : A → Type 0} {Q Q' : E → Type 0} → MatchResult r P Q → ((x : A) → P x → P' x) → ((x : E) → Q x → Q' x) → MatchResult r P' Q'
on_result (Ok x) m f g = f x m
on_result (Err x) m f g = g x m

-- THE COUNT IN FRONT

module _ (cells starts counts firsts : List ℕ) (fuel at c : ℕ) (slots : List ℕ) (n m w : ℕ) (o : List ℕ) where
  pub list_full : length o ≤ w → (o' : List ℕ) → SummandsWritten cells starts counts firsts fuel at c slots n m w o (Err NoRoom) o'
  unfolding encode_list
  list_full h o' H σ b p rest rd e f s fn nw few = λ within. (refl, omega arith)

  pub list_right : (a : ℕ) → HeadsCounted cells counts fuel at a → w < length o → (r : Result ℕ Refusal) (o' : List ℕ) → (a ≡ 0 → ⊥) → HeadsWritten cells starts counts firsts fuel at c slots n m a (w + 1) (set o w (a % byte_limit)) r o'
      → SummandsWritten cells starts counts firsts fuel at c slots n m w o r o'
  unfolding encode_list cut
  list_right a ct inside r o' some put H σ b p rest rd e f s fn nw few =
      let hs = heads H fuel σ m c p in
      let z = ct H fuel b p rest σ m c rd.procs_few rd.tallied (omega arith) e in
      let y : a % byte_limit ≡ length hs = omega arith in
      on_result r (put H σ b p rest rd e f s fn nw (omega arith) (omega arith) (omega arith))
      (λ v u. (every_weaken SummandFits SummandWithin (λ h k. k.within) hs u.0, adds_then (length hs ∷ []) (all encode_summand hs) w (w + 1) v o (set o w (a % byte_limit)) o' (cell_more o w (a % byte_limit) inside ∙ ap (λ (k : ℕ). take w o ++ (k ∷ [])) y) u.1))
      (λ x u within. let l = u within in (l.0, omega (arith, length-set o w (a % byte_limit), l.1)))

  -- no heads
  pub list_none : (a : ℕ) → HeadsCounted cells counts fuel at a → w < length o → a ≡ 0 → SummandsWritten cells starts counts firsts fuel at c slots n m w o (Ok (w + 1)) (set o w (a % byte_limit))
  unfolding encode_list cut all Every
  list_none a ct inside none H σ b p rest rd e f s fn nw few =
      let z = ct H fuel b p rest σ m c rd.procs_few rd.tallied (omega arith) e in
      let y : heads H fuel σ m c p ≡ [] = length_none (heads H fuel σ m c p) (omega arith) in
      let k : a % byte_limit ≡ 0 = omega arith in
      subst (λ (hs : List Summand). Every SummandWithin hs × Adds (encode_list encode_summand hs) w o (w + 1) (set o w (a % byte_limit))) (sym y) (tt, cell_more o w (a % byte_limit) inside ∙ ap (λ (j : ℕ). take w o ++ (j ∷ [])) k)

-- THE FIRST NEW EQUATIONS

first_zero : (c : ℕ) (ps : List Process) → first_new c ps zero ≡ c
unfolding first_new
first_zero c [] = refl
first_zero c (p ∷ ps) = refl

first_next : (c : ℕ) (ps : List Process) (k : ℕ) → k < length ps → first_new c ps (suc k) ≡ first_new c ps k + new_count false (get_or ps k no_process).right
unfolding first_new
first_next c [] k h = absurd (omega arith)
first_next c (p ∷ ps) zero h = first_zero (c + new_count false p.right) ps
first_next c (p ∷ ps) (suc k) h = first_next (c + new_count false p.right) ps k (omega arith)

-- the first k are right, and c is the next
pub record Numbered (H : Sheet) (k c : ℕ) (t : List ℕ) : Type 0 where
  pub next : c ≡ first_new (length H.procs) H.procs k
  pub done : (j : ℕ) → j < k → get_or t j 0 ≡ first_new (length H.procs) H.procs j

abbrev pub Numbering : List ℕ → List ℕ → ℕ → ℕ → ℕ → List ℕ → Type 0
Numbering cells starts n k c t = (H : Sheet) → length H.procs ≡ n → Placed H cells starts → length H.procs + length (all_new_parts H.procs) < byte_limit → Numbered H k c t

pub numbering_start : (cells starts : List ℕ) (n : ℕ) (t : List ℕ) → Numbering cells starts n 0 n t
numbering_start cells starts n t H e p few = record { next = sym (first_zero (length H.procs) H.procs ∙ e); done = λ j h. absurd (omega arith) }

module _ (cells starts : List ℕ) (n k c : ℕ) (t : List ℕ) (left : Numbering cells starts n k c t) where
  pub numbering_on : k < n → k < length t → (p : ℕ) → p ≡ get_or starts k 0 → (s : Skipped) → Skips cells p s → (c' : ℕ) → (c + s.own < byte_limit → c' ≡ c + s.own) → Numbering cells starts n (k + 1) c' (set t k c)
  unfolding right
  numbering_on kn inside p ep s sk c' ec H e pl few =
      let u = left H e pl few in
      let q = pl k (omega arith) in
      let g = (sk false (right H k) q.0 (ap (λ (j : ℕ). drop j cells) ep ∙ q.1)).0 in
      let b = first_below (length H.procs) H.procs k (omega arith) in
      let x = first_next (length H.procs) H.procs k (omega arith) in
      record {
        next = ec (omega (arith, u.next, g)) ∙ (let z : c + s.own ≡ first_new (length H.procs) H.procs (suc k) = omega (arith, u.next, g) in z) ∙ ap (first_new (length H.procs) H.procs) (sym (add-one k));
        done = λ j h. low j h (ℕ_discrete j k) u;
      }
    where
      low : (j : ℕ) → j < k + 1 → Dec (j ≡ k) → Numbered H k c t → get_or (set t k c) j 0 ≡ first_new (length H.procs) H.procs j
      low j h (yes z) u = subst (λ (i : ℕ). get_or (set t k c) i 0 ≡ first_new (length H.procs) H.procs i) (sym z) (get_or-set_same t k c 0 inside ∙ u.next)
      low j h (no z) u = get_or-set_other t k j c 0 z ∙ u.done j (let y : j ≢ k = z in omega arith)

  pub numbering_done : n ≤ k → NumbersFirst cells starts n t
  numbering_done h H e pl few j l = (left H e pl few).done j (omega arith)
