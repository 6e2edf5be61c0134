-- The frames after two exchanges, and what is said of them.
use mathlib.Core.Path.{◌≡◌, sym, ◌∙◌, ap}
use Prim.Native.Nat.{ℕ, ◌≤◌}
use native.Mathlib.Omega.{arith}
use mathlib.Core.List.{List}
use lib.ListN.{length, length-replicate}
use Rattle.pcrl.specs.Answers.{Reply}
use Rattle.stepping.specs.Promises.{Replied}
use Rattle.frames.specs.Lists.{over, no_frame, no_frames, taken, lent_frames}
use Rattle.frames.specs.declared.LentFrame.{LentFrame}
use Rattle.frames.specs.declared.Ready.{Ready}
use Rattle.frames.proofs.Over.{over_over, over_again, taken_le}

-- what `prepare` says of its result
abbrev pub Prepared : ℕ → Ready → Type 0
Prepared n r = (r.count ≡ taken n) × (r.stack.frames ≡ no_frames)

pub few : (n : ℕ) (p : Ready) → Prepared n p → (p.count ≤ n) × (p.count ≤ 64)
few n p e = let m = taken_le n in let z = e.0 in (omega arith, omega arith)

-- the frames taken out, and those that stand there after both exchanges
pub there_and_back : (xs : List LentFrame) (p : Ready) (old ss : List LentFrame) → Prepared (length xs) p → old ≡ over p.count xs p.stack.frames
    → (over p.count xs old ≡ old) × (over p.count ss xs ≡ over p.count ss (over p.count p.stack.frames xs))
there_and_back xs p old ss ep e =
    let m = few (length xs) p ep in
    let len : length p.stack.frames ≡ 64 = ap length ep.1 ∙ length-replicate 64 no_frame in (
      ap (over p.count xs) e ∙ over_again p.count xs p.stack.frames m.0 ∙ sym e,
      sym (over_over p.count ss p.stack.frames xs (omega (arith, m.1))),
    )

-- the same of an equal number, frames and depth
pub same_reply : {A : Type 0} (R : Reply A) {r r' d d' : ℕ} {fs fs' : List LentFrame} → r ≡ r' → fs ≡ fs' → d ≡ d' → Replied R r' (lent_frames fs') d' → Replied R r (lent_frames fs) d
same_reply {A} R a b c x = record { answer = a ∙ x.answer; frames = ap lent_frames b ∙ x.frames; depth = c ∙ x.depth }
