-- Questions 12 and 13 in code: block by block, and what that answers for the file.
use mathlib.Core.Path.{◌≡◌, refl, sym, ◌∙◌, ap}
use mathlib.Core.List.{List, ◌++◌}
use mathlib.Core.Bool.{Bool, true, false}
use Prim.Native.Nat.{ℕ, ◌+◌, ◌-◌, ◌*◌, ◌/◌, ◌≤◌, ◌<◌}
use native.Mathlib.Omega.{arith}
use borrow.Author.Count.{below_more}
use lib.ListN.{length, take, drop}
use lib.Seq.{take_at}
use Rattle.pcrl.specs.Result.{refused, accepted}
use Rattle.pcrl.specs.Blocks.{block_bytes, block_stream, block, RightLength, right_length?, block_count, block_at, stream_at, RightBlock, RightBlocks, right_blocks?, stream_of}
use Rattle.pcrl.specs.Answers.{stream_read}
use Rattle.laws.specs.Questions.{question_passes, question_fails}
use Rattle.laws.specs.Says.{Says, said_yes, said_no}
use Rattle.codec.specs.Cut.{every_tabulate, every_tabulated, length_joined}
use Rattle.codec.specs.FileOfStream.{length_stream_at}
use Rattle.std.specs.Prelude.{Ok, Err}
use Rattle.refusals.specs.declared.Refusal.TheVariants.{NoFile, WrongBlock}
use Rattle.refusals.specs.Answered.{Answered}
use Rattle.blocks.specs.Answers.{Hands, Opens}
use Rattle.blocks.proofs.Fronts.{cut, cut_is, length_cut, length_part}
use Rattle.blocks.proofs.Joined.{Laid, laid_none, laid_more, laid_all}

-- ONE BLOCK

tells_right : (f b : List ℕ) (i n : ℕ) (r : Bool) → b ≡ block_at f i → n ≡ block_count f → Says r (b ≡ block i n (take block_stream (drop 4 b))) → Says r (RightBlock f i)
unfolding RightBlock stream_at
tells_right f b i n r eb en t = rw (eb, en) at t

-- ALL BLOCKS

-- The blocks before i are right, and their stream bytes stand over the front of the lent bytes.
abbrev pub Read : List ℕ → List ℕ → List ℕ → ℕ → Type 0
Read f out₀ out i = Laid (length f / 512) (stream_at f) out₀ out i × ((j : ℕ) → j < i → RightBlock f j)

pub read_none : (f out : List ℕ) → Read f out out 0
read_none f out = (laid_none (length f / 512) (stream_at f) out, λ j h. absurd (omega arith))

module _ (f out₀ out : List ℕ) (i : ℕ) (right : RightLength f) (room : length f / 512 * 506 ≤ length out₀) (h : i < length f / 512) (before : Read f out₀ out i) where
  -- the block as code cuts it, and its stream bytes
  abbrev it : List ℕ
  it = cut 512 i f

  abbrev its_stream : List ℕ
  its_stream = take block_stream (drop 4 it)

  pub length_it : length it ≡ block_bytes
  unfolding RightLength
  length_it = length_cut 512 i f (omega arith)

  length_its_stream : length its_stream ≡ block_stream
  length_its_stream = length_part 4 506 it (omega (arith, length_it))

  length_place : length (cut 506 i out) ≡ block_stream
  unfolding RightLength
  length_place = length_cut 506 i out (omega arith)

  -- there is room for them
  pub stream_fits : length (cut 506 i out) ≡ length its_stream
  stream_fits = omega (arith, length_its_stream, length_place)

  it_is : it ≡ block_at f i
  unfolding block_at
  it_is = cut_is 512 i f

  its_stream_is : its_stream ≡ stream_at f i
  unfolding stream_at
  its_stream_is = ap (λ (l : List ℕ). take 506 (drop 4 l)) it_is

  module _ (r : Bool) (t : Says r (it ≡ block i (length f / 512) its_stream)) where
    right? : Says r (RightBlock f i)
    unfolding block_count
    right? = tells_right f it i (length f / 512) r it_is refl t

    -- Block i is right, and its stream bytes are copied.
    pub read_more : (new : List ℕ) → r ≡ true → new ≡ its_stream
        → Read f out₀ (take (i * 506) out ++ (new ++ drop (i * 506 + 506 - i * 506) (drop (i * 506) out))) (i + 1)
    unfolding RightLength block_count
    read_more new er e =
        let place : new ≡ stream_at f i = e ∙ its_stream_is in
        (laid_more (length f / 512) 506 (stream_at f) (length_stream_at f right) out₀ out new i (omega arith) h before.0 place, below_more (RightBlock f) i before.1 (said_yes r right? er))

    -- Block i is wrong.
    pub read_wrong : (out' : List ℕ) → r ≡ false → Hands false f out₀ out'
    unfolding Hands RightBlocks block_count
    read_wrong out' er = λ all. said_no r right? er (every_tabulated (RightBlock f) (block_count f) (λ i. i) all i h)

-- All blocks are right.
pub read_all : (f out₀ out : List ℕ) (i : ℕ) → length f / 512 ≤ i → Read f out₀ out i → Hands true f out₀ out
unfolding Hands RightBlocks stream_of block_count
read_all f out₀ out i h read =
    (every_tabulate (RightBlock f) (block_count f) (λ i. i) (λ j k. read.1 j (omega arith)), laid_all (length f / 512) (stream_at f) out₀ out i h read.0)

-- THE ANSWER

module _ (f : List ℕ) where
  refused_12 : ¬ RightLength f → stream_read f ≡ refused 12
  unfolding stream_read
  refused_12 wrong = question_fails 12 (right_length? f) _ wrong

  refused_13 : RightLength f → ¬ RightBlocks f → stream_read f ≡ refused 13
  unfolding stream_read
  refused_13 right wrong = question_passes 12 (right_length? f) _ (refused 13) right (λ _. question_fails 13 (right_blocks? f) _ wrong)

  pub read_whole : RightLength f → RightBlocks f → stream_read f ≡ accepted (stream_of f)
  unfolding stream_read
  read_whole right blocks = question_passes 12 (right_length? f) _ (accepted (stream_of f)) right (λ _. question_passes 13 (right_blocks? f) _ (accepted (stream_of f)) blocks (λ _. refl))

  length_stream_of : RightLength f → length (stream_of f) ≡ length f / 512 * 506
  unfolding stream_of block_count
  length_stream_of right = length_joined (length f / 512) 506 (stream_at f) (length_stream_at f right)

  -- What is answered, by what the tests said.
  module _ (out out' : List ℕ) where
    pub opens_12 : ¬ RightLength f → Opens (stream_read f) (Err NoFile) out
    unfolding Answered
    opens_12 wrong = rw (refused_12 wrong) refl

    pub opens_13 : (b : Bool) → RightLength f → Hands b f out out' → b ≡ false → Opens (stream_read f) (Err WrongBlock) out'
    unfolding Answered Hands
    opens_13 b right h eb = rw (refused_13 right (rw eb at h)) refl

    pub opens_all : (b : Bool) (n : ℕ) → RightLength f → Hands b f out out' → b ≡ true → n ≡ length f / 512 * 506 → Opens (stream_read f) (Ok n) out'
    unfolding Answered Hands
    opens_all b n right h eb ec =
        let (blocks, front) : RightBlocks f × (out' ≡ stream_of f ++ drop (length (stream_of f)) out) = rw eb at h in
        let c : n ≡ length (stream_of f) = ec ∙ sym (length_stream_of right) in
        rw (read_whole right blocks) (c, ap (take n) front ∙ take_at (stream_of f) (drop (length (stream_of f)) out) n (sym c))
