-- A list of one question is answered as that question, but for a refusal by 16, which is then returned alone.
use mathlib.Core.Path.{◌≡◌, refl, sym, ap, ◌∙◌, subst}
use mathlib.Core.List.{List, [], ◌∷◌, ◌++◌, append-nil}
use Prim.Native.Nat.{ℕ, ◌<◌}
use native.Mathlib.Omega.{arith}
use Rattle.std.specs.Prelude.{Ok, Err}
use lib.ListN.{length, get_or, replicate}
use Rattle.pcrl.specs.Limits.{frame_width, stack_limit}
use Rattle.pcrl.specs.Reader.{all}
use Rattle.pcrl.specs.Result.{Result, refused, accepted, refusal}
use Rattle.pcrl.specs.Records.{filled}
use Rattle.pcrl.specs.Table.{Table}
use Rattle.pcrl.specs.Stack.{Frame, Stack, RightFrames, right_frames?, frames_of, stack_of}
use Rattle.pcrl.specs.Ask.{Answer, ask_all}
use Rattle.pcrl.specs.Answers.{table_checked, Reply, asked, asked_all}
use Rattle.theory.specs.Asked.{AnswerIs, at_end, too_large, too_deep, goes_to, answer_is}
use Rattle.theory.specs.Lending.{passes_15}
use Rattle.theory.specs.InTurn.{alone, asked_is, asked_all_is}
use Rattle.asking.specs.Encoding.{answer_bytes, answer_fields, encode_answer, answer_after, answers_after}
use Rattle.refusals.specs.declared.Refusal.{Refusal}
use Rattle.refusals.specs.declared.Refusal.TheVariants.{TooDeep}
use Rattle.refusals.specs.Numbers.{number_of}
use Rattle.refusals.proofs.Laws.{number_least}
use Rattle.stepping.specs.Promises.{Replied, QuestionIs, AllAsked}
use Rattle.stepping.proofs.Loading.{table_number}
use Rattle.stepping.proofs.Answering.{replied_by, asked_refused, all_refused, read_no_table, read_no_stack}

-- the bytes of one answer
only : (a : Answer) → answers_after (accepted (a ∷ [])) (replicate answer_bytes 0) ≡ encode_answer a
unfolding answers_after all
only a = append-nil (encode_answer a ++ []) ∙ append-nil (encode_answer a)

module _ (file : List ℕ) (fs : List Frame) (d k : ℕ) where
  -- how a question is answered alone, and how in a list
  data Alike : Type 0 where
    unasked : (n : ℕ) → 0 < n → asked_all file fs d (k ∷ []) ≡ record { answer = refused n; frames = fs; depth = d } → asked file fs d k ≡ record { answer = refused n; frames = fs; depth = d } → Alike
    refused_16 : (gs : List Frame) (e : ℕ) → e ≡ d → asked_all file fs d (k ∷ []) ≡ record { answer = accepted (Answer.refused 16 ∷ []); frames = gs; depth = e } → asked file fs d k ≡ record { answer = refused 16; frames = gs; depth = e } → Alike
    answered : (a : Answer) (gs : List Frame) (e : ℕ) → get_or (encode_answer a) 0 0 < 3 → asked_all file fs d (k ∷ []) ≡ record { answer = accepted (a ∷ []); frames = gs; depth = e } → asked file fs d k ≡ record { answer = accepted a; frames = gs; depth = e } → Alike

  module _ (T : Table) (s : Stack) (used : length s ≡ d) where
    alike_by : {a : Answer} {t : Stack} → AnswerIs frame_width stack_limit T k s a t
        → asked_all file fs d (k ∷ []) ≡ record { answer = accepted (a ∷ []); frames = frames_of frame_width stack_limit t; depth = length t }
        → asked file fs d k ≡ record { answer = alone a; frames = frames_of frame_width stack_limit t; depth = length t } → Alike
    unfolding alone encode_answer filled answer_fields
    alike_by (at_end _) l o = answered Answer.ended (frames_of frame_width stack_limit s) (length s) (omega arith) l o
    alike_by (too_large _ _) l o = answered Answer.nothing (frames_of frame_width stack_limit s) (length s) (omega arith) l o
    alike_by (too_deep _ _) l o = refused_16 (frames_of frame_width stack_limit s) (length s) used l o
    alike_by (goes_to {l} {t} _ _) x o = answered (Answer.stepped l (length t)) (frames_of frame_width stack_limit t) (length t) (omega arith) x o

  alike : Alike
  unfolding ask_all
  alike = go (table_checked file) refl
    where
      go_stack : (T : Table) → table_checked file ≡ accepted T → Dec (RightFrames frame_width stack_limit T fs d) → Alike
      go_stack T e (yes h) =
          let holds = (passes_15 frame_width stack_limit T fs d).0 h in
          alike_by T (stack_of fs d) (sym holds.depth) (answer_is frame_width stack_limit T k (stack_of fs d)) (asked_all_is frame_width stack_limit file T e holds (k ∷ [])) (asked_is frame_width stack_limit file T e holds k)
      go_stack T e (no h) = let r = read_no_stack file fs d T e h in unasked 15 (omega arith) (all_refused file fs d (k ∷ []) 15 r) (asked_refused file fs d k 15 r)

      go : (x : Result Table) → table_checked file ≡ x → Alike
      go (refused n) e = let r = read_no_table file fs d n e in let b = table_number file n e in unasked n (omega arith) (all_refused file fs d (k ∷ []) n r) (asked_refused file fs d k n r)
      go (accepted T) e = go_stack T e (right_frames? frame_width stack_limit T fs d)

  module _ (new : List Frame) where
    list : {r e : ℕ} → Replied (asked_all file fs d (k ∷ [])) r new e → (R : Reply (List Answer)) → asked_all file fs d (k ∷ []) ≡ R → Replied R r new e
    list {r} {e} told R l = subst (λ (x : Reply (List Answer)). Replied x r new e) l told

    after_one : (out : List ℕ) (R : Reply Answer) → asked file fs d k ≡ R → answer_after R.answer out ≡ answer_after (asked file fs d k).answer out
    after_one out R o = sym (ap (λ (x : Reply Answer). answer_after x.answer out) o)

    -- refused by 12 to 15
    pub one_refused : (n : Refusal) (bytes out : List ℕ) → AllAsked file fs d (k ∷ []) (replicate answer_bytes 0) (Err n) new bytes → QuestionIs file fs d k out (Err n) new out
    unfolding refusal answer_after
    one_refused n bytes out all = go alike
      where
        go : Alike → QuestionIs file fs d k out (Err n) new out
        go (unasked m b l o) = let x = list all.0 _ l in (replied_by (asked file fs d k) _ o (number_of n) new d x.answer x.frames x.depth, after_one out _ o)
        go (refused_16 gs m s l o) = absurd (let least = number_least n in let z : number_of n ≡ 0 = (list all.0 _ l).answer in omega arith)
        go (answered a gs m b l o) = absurd (let least = number_least n in let z : number_of n ≡ 0 = (list all.0 _ l).answer in omega arith)

    module _ (e : ℕ) (bytes : List ℕ) (all : AllAsked file fs d (k ∷ []) (replicate answer_bytes 0) (Ok e) new bytes) where
      bytes_of : (a : Answer) (gs : List Frame) (n : ℕ) → asked_all file fs d (k ∷ []) ≡ record { answer = accepted (a ∷ []); frames = gs; depth = n } → bytes ≡ encode_answer a
      bytes_of a gs n l = all.1 ∙ ap (λ (x : Reply (List Answer)). answers_after x.answer (replicate answer_bytes 0)) l ∙ only a

      -- refused by 16, which is the answer's first byte
      pub one_deep : (out : List ℕ) → get_or bytes 0 0 ≡ 16 → QuestionIs file fs d k out (Err TooDeep) new out
      unfolding refusal answer_after
      one_deep out h = go alike
        where
          go : Alike → QuestionIs file fs d k out (Err TooDeep) new out
          go (unasked n b l o) = absurd (let z : 0 ≡ n = (list all.0 _ l).answer in omega arith)
          go (refused_16 gs n s l o) = let x = list all.0 _ l in (replied_by (asked file fs d k) _ o 16 new d refl x.frames (sym s), after_one out _ o)
          go (answered a gs n b l o) = absurd (let z : get_or bytes 0 0 ≡ get_or (encode_answer a) 0 0 = ap (λ (m : List ℕ). get_or m 0 0) (bytes_of a gs n l) in omega arith)

      pub one_answered : (out : List ℕ) → ¬ (get_or bytes 0 0 ≡ 16) → QuestionIs file fs d k out (Ok e) new bytes
      unfolding refusal answer_after encode_answer filled answer_fields
      one_answered out h = go alike
        where
          go : Alike → QuestionIs file fs d k out (Ok e) new bytes
          go (unasked n b l o) = absurd (let z : 0 ≡ n = (list all.0 _ l).answer in omega arith)
          go (refused_16 gs n s l o) = absurd (h (ap (λ (m : List ℕ). get_or m 0 0) (bytes_of (Answer.refused 16) gs n l)))
          go (answered a gs n b l o) = let x = list all.0 _ l in (replied_by (asked file fs d k) _ o 0 new e refl x.frames x.depth, bytes_of a gs n l ∙ after_one out _ o)
