-- `parse` meets its contract: the runs of lines and the init line are those of the definition's `sheet`, with all the fuel that it has.
use Prim.Native.Nat.{ℕ, ◌+◌, ◌*◌, ◌<◌}
use mathlib.Core.Path.{◌≡◌, refl}
use mathlib.Core.List.{[], map}
use native.Mathlib.Omega.{arith}
use lib.ListN.{length, length-map}
use Rattle.lexer.specs.Cells.{cell_token}
use Rattle.parser.specs.Kinds.{kind_of}
use Rattle.parser.proofs.Reaching.{past_meets, meets, reaches, runs}
use Rattle.parser.proofs.Reading.{left_below}
use Rattle.parser.proofs.SheetLaws.{sheet_read}
use Rattle.parser.proofs.ParseLaws.{parses, parses_none}
use Rattle.parser.proofs.parse.Goals as goal

pub returns-in_err-a : goal.returns-in_err-a
unfolding kind_of
returns-in_err-a c =
    rw c.from_residual.ensures (λ s.
    let q = c.requires in
    let n : ℕ = 5 * length (map (cell_token s) c.args.toks.now) + 5 in
    let l = length-map c.args.toks.now (cell_token s) in
    let k : 5 * length c.args.toks.now + 4 < n = omega arith in
    let g : length c.args.toks.now < n = omega arith in
    parses_none s c.args.toks.now c.args.out.now _ _ _ _ q.0 q.1 q.2 _ (λ z. omega arith)
    (sheet_read s c.args.toks.now n (record { at = length c.args.toks.now + 1; w = 0; count = 0 }) (record { at = length c.args.toks.now + 1; w = 0; count = 0 }) (record { at = length c.args.toks.now + 1; w = 0; count = 0 }) (record { at = length c.args.toks.now + 1; w = 0; count = 0 }) {o₂ = []} {o₃ = []} {o₄ = []} {o₅ = []} {p₂ = []} {p₃ = []} {p₄ = []} {q₂ = []} {q₃ = []} {q₄ = []} {at₅ = length c.args.toks.now + 1} {at₆ = length c.args.toks.now + 1} {at₇ = length c.args.toks.now + 1} {at₈ = length c.args.toks.now + 1} {w₇ = 0} {i = 0}
    (runs (c.in_err-a.ensures.read (omega arith) s n n k (left_below c.args.toks.now 0 g)))
    (omega arith) (λ i. absurd (omega arith))
    (omega arith) (λ i. absurd (omega arith))
    (omega arith) (λ i. absurd (omega arith))
    (λ z. omega arith) (λ z. absurd (omega arith))
    (omega arith) (past_meets c.args.toks.now 164 (omega arith))
    (omega arith) (λ i. absurd (omega arith))
    (omega arith) (past_meets c.args.toks.now 59 (omega arith))
    (omega (arith, c.lines_of.auto.places)) (omega arith) (omega arith) (omega arith)
    (let z : 0 < 65536 → ◌≡◌ {A = ℕ} 0 0 = λ h. refl in z)))

pub returns-in_err-b : goal.returns-in_err-b
unfolding kind_of
returns-in_err-b c =
    rw c.from_residual-in_err-b.ensures (λ s.
    let q = c.requires in
    let n : ℕ = 5 * length (map (cell_token s) c.args.toks.now) + 5 in
    let l = length-map c.args.toks.now (cell_token s) in
    let k : 5 * length c.args.toks.now + 4 < n = omega arith in
    let g : length c.args.toks.now < n = omega arith in
    parses_none s c.args.toks.now c.args.out.now _ _ _ _ q.0 q.1 q.2 _ (λ z. omega arith)
    (sheet_read s c.args.toks.now n c.in_ok-a.a (record { at = length c.args.toks.now + 1; w = 0; count = 0 }) (record { at = length c.args.toks.now + 1; w = 0; count = 0 }) (record { at = length c.args.toks.now + 1; w = 0; count = 0 }) {o₃ = []} {o₄ = []} {o₅ = []} {p₃ = []} {p₄ = []} {q₃ = []} {q₄ = []} {at₅ = length c.args.toks.now + 1} {at₆ = length c.args.toks.now + 1} {at₇ = length c.args.toks.now + 1} {at₈ = length c.args.toks.now + 1} {w₇ = 0} {i = 0}
    (runs (c.in_ok-a.ensures.read (omega arith) s n n k (left_below c.args.toks.now 0 g)))
    (omega arith) (λ i. runs (c.in_err-b.ensures.read i s n n k (left_below c.args.toks.now _ g)))
    (omega arith) (λ i. absurd (omega arith))
    (omega arith) (λ i. absurd (omega arith))
    (λ z. omega arith) (λ z. absurd (omega arith))
    (omega arith) (past_meets c.args.toks.now 164 (omega arith))
    (omega arith) (λ i. absurd (omega arith))
    (omega arith) (past_meets c.args.toks.now 59 (omega arith))
    (omega (arith, c.lines_of.auto.places)) (omega (arith, c.lines_of-2.auto.places)) (omega arith) (omega arith)
    (let z : 0 < 65536 → ◌≡◌ {A = ℕ} 0 0 = λ h. refl in z)))

pub returns-in_err-c : goal.returns-in_err-c
unfolding kind_of
returns-in_err-c c =
    rw c.from_residual-in_err-c.ensures (λ s.
    let q = c.requires in
    let n : ℕ = 5 * length (map (cell_token s) c.args.toks.now) + 5 in
    let l = length-map c.args.toks.now (cell_token s) in
    let k : 5 * length c.args.toks.now + 4 < n = omega arith in
    let g : length c.args.toks.now < n = omega arith in
    parses_none s c.args.toks.now c.args.out.now _ _ _ _ q.0 q.1 q.2 _ (λ z. omega arith)
    (sheet_read s c.args.toks.now n c.in_ok-a.a c.in_ok-b.b (record { at = length c.args.toks.now + 1; w = 0; count = 0 }) (record { at = length c.args.toks.now + 1; w = 0; count = 0 }) {o₄ = []} {o₅ = []} {p₄ = []} {q₄ = []} {at₅ = length c.args.toks.now + 1} {at₆ = length c.args.toks.now + 1} {at₇ = length c.args.toks.now + 1} {at₈ = length c.args.toks.now + 1} {w₇ = 0} {i = 0}
    (runs (c.in_ok-a.ensures.read (omega arith) s n n k (left_below c.args.toks.now 0 g)))
    (omega (arith, c.in_ok-b.ensures.onward)) (λ i. runs (c.in_ok-b.ensures.read i s n n k (left_below c.args.toks.now _ g)))
    (omega arith) (λ i. runs (c.in_err-c.ensures.read i s n n k (left_below c.args.toks.now _ g)))
    (omega arith) (λ i. absurd (omega arith))
    (λ z. omega arith) (λ z. absurd (omega arith))
    (omega arith) (past_meets c.args.toks.now 164 (omega arith))
    (omega arith) (λ i. absurd (omega arith))
    (omega arith) (past_meets c.args.toks.now 59 (omega arith))
    (omega (arith, c.lines_of.auto.places)) (omega (arith, c.lines_of-2.auto.places)) (omega (arith, c.lines_of-3.auto.places)) (omega arith)
    (let z : 0 < 65536 → ◌≡◌ {A = ℕ} 0 0 = λ h. refl in z)))

pub returns-in_err-d : goal.returns-in_err-d
unfolding kind_of
returns-in_err-d c =
    rw c.from_residual-in_err-d.ensures (λ s.
    let q = c.requires in
    let n : ℕ = 5 * length (map (cell_token s) c.args.toks.now) + 5 in
    let l = length-map c.args.toks.now (cell_token s) in
    let k : 5 * length c.args.toks.now + 4 < n = omega arith in
    let g : length c.args.toks.now < n = omega arith in
    parses_none s c.args.toks.now c.args.out.now _ _ _ _ q.0 q.1 q.2 _ (λ z. omega arith)
    (sheet_read s c.args.toks.now n c.in_ok-a.a c.in_ok-b.b c.in_ok-c.c (record { at = length c.args.toks.now + 1; w = 0; count = 0 }) {o₅ = []} {at₅ = length c.args.toks.now + 1} {at₆ = length c.args.toks.now + 1} {at₇ = length c.args.toks.now + 1} {at₈ = length c.args.toks.now + 1} {w₇ = 0} {i = 0}
    (runs (c.in_ok-a.ensures.read (omega arith) s n n k (left_below c.args.toks.now 0 g)))
    (omega (arith, c.in_ok-b.ensures.onward)) (λ i. runs (c.in_ok-b.ensures.read i s n n k (left_below c.args.toks.now _ g)))
    (omega (arith, c.in_ok-c.ensures.onward)) (λ i. runs (c.in_ok-c.ensures.read i s n n k (left_below c.args.toks.now _ g)))
    (omega arith) (λ i. runs (c.in_err-d.ensures.read i s n n k (left_below c.args.toks.now _ g)))
    (λ z. omega arith) (λ z. absurd (omega arith))
    (omega arith) (past_meets c.args.toks.now 164 (omega arith))
    (omega arith) (λ i. absurd (omega arith))
    (omega arith) (past_meets c.args.toks.now 59 (omega arith))
    (omega (arith, c.lines_of.auto.places)) (omega (arith, c.lines_of-2.auto.places)) (omega (arith, c.lines_of-3.auto.places)) (omega (arith, c.lines_of-4.auto.places))
    (let z : 0 < 65536 → ◌≡◌ {A = ℕ} 0 0 = λ h. refl in z)))

pub returns-then-d-eq0 : goal.returns-then-d-eq0
unfolding kind_of
returns-then-d-eq0 c =
    λ s.
    let q = c.requires in
    let n : ℕ = 5 * length (map (cell_token s) c.args.toks.now) + 5 in
    let l = length-map c.args.toks.now (cell_token s) in
    let k : 5 * length c.args.toks.now + 4 < n = omega arith in
    let g : length c.args.toks.now < n = omega arith in
    parses_none s c.args.toks.now c.args.out.now _ _ _ _ q.0 q.1 q.2 _ (λ z. omega arith)
    (sheet_read s c.args.toks.now n c.in_ok-a.a c.in_ok-b.b c.in_ok-c.c c.in_ok-d.d {o₅ = []} {at₅ = length c.args.toks.now + 1} {at₆ = length c.args.toks.now + 1} {at₇ = length c.args.toks.now + 1} {at₈ = length c.args.toks.now + 1} {w₇ = 0} {i = c.in_ok-d.d.w}
    (runs (c.in_ok-a.ensures.read (omega arith) s n n k (left_below c.args.toks.now 0 g)))
    (omega (arith, c.in_ok-b.ensures.onward)) (λ i. runs (c.in_ok-b.ensures.read i s n n k (left_below c.args.toks.now _ g)))
    (omega (arith, c.in_ok-c.ensures.onward)) (λ i. runs (c.in_ok-c.ensures.read i s n n k (left_below c.args.toks.now _ g)))
    (omega (arith, c.in_ok-d.ensures.onward)) (λ i. runs (c.in_ok-d.ensures.read i s n n k (left_below c.args.toks.now _ g)))
    (λ z. omega arith) (λ z. absurd (omega arith))
    (omega arith) (past_meets c.args.toks.now 164 (omega arith))
    (omega arith) (λ i. absurd (omega arith))
    (omega arith) (past_meets c.args.toks.now 59 (omega arith))
    (omega (arith, c.lines_of.auto.places)) (omega (arith, c.lines_of-2.auto.places)) (omega (arith, c.lines_of-3.auto.places)) (omega (arith, c.lines_of-4.auto.places))
    (let z : c.in_ok-d.d.w < 65536 → c.in_ok-d.d.w ≡ c.in_ok-d.d.w = λ h. refl in z))

pub returns-in_err-i : goal.returns-in_err-i
unfolding kind_of
returns-in_err-i c =
    rw c.from_residual-in_err-i.ensures (λ s.
    let q = c.requires in
    let n : ℕ = 5 * length (map (cell_token s) c.args.toks.now) + 5 in
    let l = length-map c.args.toks.now (cell_token s) in
    let k : 5 * length c.args.toks.now + 4 < n = omega arith in
    let g : length c.args.toks.now < n = omega arith in
    parses_none s c.args.toks.now c.args.out.now _ _ _ _ q.0 q.1 q.2 _ (λ z. omega arith)
    (sheet_read s c.args.toks.now n c.in_ok-a.a c.in_ok-b.b c.in_ok-c.c c.in_ok-d.d {o₅ = []} {at₅ = c.in_ok-d.d.at} {at₇ = length c.args.toks.now + 1} {at₈ = length c.args.toks.now + 1} {w₇ = 0} {i = c.in_ok-d.d.w}
    (runs (c.in_ok-a.ensures.read (omega arith) s n n k (left_below c.args.toks.now 0 g)))
    (omega (arith, c.in_ok-b.ensures.onward)) (λ i. runs (c.in_ok-b.ensures.read i s n n k (left_below c.args.toks.now _ g)))
    (omega (arith, c.in_ok-c.ensures.onward)) (λ i. runs (c.in_ok-c.ensures.read i s n n k (left_below c.args.toks.now _ g)))
    (omega (arith, c.in_ok-d.ensures.onward)) (λ i. runs (c.in_ok-d.ensures.read i s n n k (left_below c.args.toks.now _ g)))
    (λ z. absurd (c.if-d-eq0.false z)) (λ z. refl)
    (omega arith) (meets c.in_err-i.ensures.read)
    (omega arith) (λ i. absurd (omega arith))
    (omega arith) (past_meets c.args.toks.now 59 (omega arith))
    (omega (arith, c.lines_of.auto.places)) (omega (arith, c.lines_of-2.auto.places)) (omega (arith, c.lines_of-3.auto.places)) (omega (arith, c.lines_of-4.auto.places))
    (let z : c.in_ok-d.d.w < 65536 → c.in_ok-d.d.w ≡ c.in_ok-d.d.w = λ h. refl in z)))

pub returns-in_err-e : goal.returns-in_err-e
unfolding kind_of
returns-in_err-e c =
    rw c.from_residual-in_err-e.ensures (λ s.
    let q = c.requires in
    let n : ℕ = 5 * length (map (cell_token s) c.args.toks.now) + 5 in
    let l = length-map c.args.toks.now (cell_token s) in
    let k : 5 * length c.args.toks.now + 4 < n = omega arith in
    let g : length c.args.toks.now < n = omega arith in
    parses_none s c.args.toks.now c.args.out.now _ _ _ _ q.0 q.1 q.2 _ (λ z. omega arith)
    (sheet_read s c.args.toks.now n c.in_ok-a.a c.in_ok-b.b c.in_ok-c.c c.in_ok-d.d {at₅ = c.in_ok-d.d.at} {at₈ = length c.args.toks.now + 1} {i = c.in_ok-d.d.w}
    (runs (c.in_ok-a.ensures.read (omega arith) s n n k (left_below c.args.toks.now 0 g)))
    (omega (arith, c.in_ok-b.ensures.onward)) (λ i. runs (c.in_ok-b.ensures.read i s n n k (left_below c.args.toks.now _ g)))
    (omega (arith, c.in_ok-c.ensures.onward)) (λ i. runs (c.in_ok-c.ensures.read i s n n k (left_below c.args.toks.now _ g)))
    (omega (arith, c.in_ok-d.ensures.onward)) (λ i. runs (c.in_ok-d.ensures.read i s n n k (left_below c.args.toks.now _ g)))
    (λ z. absurd (c.if-d-eq0.false z)) (λ z. refl)
    (omega (arith, c.in_ok-i.ensures.ahead)) (meets c.in_ok-i.ensures.read)
    (omega arith) (λ i. reaches (c.in_err-e.ensures.read s n (omega arith)))
    (omega arith) (past_meets c.args.toks.now 59 (omega arith))
    (omega (arith, c.lines_of.auto.places)) (omega (arith, c.lines_of-2.auto.places)) (omega (arith, c.lines_of-3.auto.places)) (omega (arith, c.lines_of-4.auto.places))
    (let z : c.in_ok-d.d.w < 65536 → c.in_ok-d.d.w ≡ c.in_ok-d.d.w = λ h. refl in z)))

pub returns-in_err-end : goal.returns-in_err-end
unfolding kind_of
returns-in_err-end c =
    rw c.from_residual-in_err-end.ensures (λ s.
    let q = c.requires in
    let n : ℕ = 5 * length (map (cell_token s) c.args.toks.now) + 5 in
    let l = length-map c.args.toks.now (cell_token s) in
    let k : 5 * length c.args.toks.now + 4 < n = omega arith in
    let g : length c.args.toks.now < n = omega arith in
    parses_none s c.args.toks.now c.args.out.now _ _ _ _ q.0 q.1 q.2 _ (λ z. omega arith)
    (sheet_read s c.args.toks.now n c.in_ok-a.a c.in_ok-b.b c.in_ok-c.c c.in_ok-d.d {at₅ = c.in_ok-d.d.at} {i = c.in_ok-d.d.w}
    (runs (c.in_ok-a.ensures.read (omega arith) s n n k (left_below c.args.toks.now 0 g)))
    (omega (arith, c.in_ok-b.ensures.onward)) (λ i. runs (c.in_ok-b.ensures.read i s n n k (left_below c.args.toks.now _ g)))
    (omega (arith, c.in_ok-c.ensures.onward)) (λ i. runs (c.in_ok-c.ensures.read i s n n k (left_below c.args.toks.now _ g)))
    (omega (arith, c.in_ok-d.ensures.onward)) (λ i. runs (c.in_ok-d.ensures.read i s n n k (left_below c.args.toks.now _ g)))
    (λ z. absurd (c.if-d-eq0.false z)) (λ z. refl)
    (omega (arith, c.in_ok-i.ensures.ahead)) (meets c.in_ok-i.ensures.read)
    (omega (arith, c.in_ok-e.ensures.ahead)) (λ i. reaches (c.in_ok-e.ensures.read s n (omega arith)))
    (omega (arith, c.in_ok-e.ensures.ahead)) (meets c.in_err-end.ensures.read)
    (omega (arith, c.lines_of.auto.places)) (omega (arith, c.lines_of-2.auto.places)) (omega (arith, c.lines_of-3.auto.places)) (omega (arith, c.lines_of-4.auto.places))
    (let z : c.in_ok-d.d.w < 65536 → c.in_ok-d.d.w ≡ c.in_ok-d.d.w = λ h. refl in z)))

pub returns-then-end-toks : goal.returns-then-end-toks
unfolding kind_of
returns-then-end-toks c =
    λ s.
    let q = c.requires in
    let n : ℕ = 5 * length (map (cell_token s) c.args.toks.now) + 5 in
    let l = length-map c.args.toks.now (cell_token s) in
    let k : 5 * length c.args.toks.now + 4 < n = omega arith in
    let g : length c.args.toks.now < n = omega arith in
    parses_none s c.args.toks.now c.args.out.now _ _ _ _ q.0 q.1 q.2 _ c.if-end-toks.true
    (sheet_read s c.args.toks.now n c.in_ok-a.a c.in_ok-b.b c.in_ok-c.c c.in_ok-d.d {at₅ = c.in_ok-d.d.at} {i = c.in_ok-d.d.w}
    (runs (c.in_ok-a.ensures.read (omega arith) s n n k (left_below c.args.toks.now 0 g)))
    (omega (arith, c.in_ok-b.ensures.onward)) (λ i. runs (c.in_ok-b.ensures.read i s n n k (left_below c.args.toks.now _ g)))
    (omega (arith, c.in_ok-c.ensures.onward)) (λ i. runs (c.in_ok-c.ensures.read i s n n k (left_below c.args.toks.now _ g)))
    (omega (arith, c.in_ok-d.ensures.onward)) (λ i. runs (c.in_ok-d.ensures.read i s n n k (left_below c.args.toks.now _ g)))
    (λ z. absurd (c.if-d-eq0.false z)) (λ z. refl)
    (omega (arith, c.in_ok-i.ensures.ahead)) (meets c.in_ok-i.ensures.read)
    (omega (arith, c.in_ok-e.ensures.ahead)) (λ i. reaches (c.in_ok-e.ensures.read s n (omega arith)))
    (omega (arith, c.in_ok-end.ensures.ahead)) (meets c.in_ok-end.ensures.read)
    (omega (arith, c.lines_of.auto.places)) (omega (arith, c.lines_of-2.auto.places)) (omega (arith, c.lines_of-3.auto.places)) (omega (arith, c.lines_of-4.auto.places))
    (let z : c.in_ok-d.d.w < 65536 → c.in_ok-d.d.w ≡ c.in_ok-d.d.w = λ h. refl in z))

pub returns : goal.returns
unfolding kind_of
returns c =
    λ s.
    let q = c.requires in
    let n : ℕ = 5 * length (map (cell_token s) c.args.toks.now) + 5 in
    let l = length-map c.args.toks.now (cell_token s) in
    let k : 5 * length c.args.toks.now + 4 < n = omega arith in
    let g : length c.args.toks.now < n = omega arith in
    parses s c.args.toks.now c.args.out.now _ _ _ _ q.0 q.1 q.2 c.if-end-toks.false
    (sheet_read s c.args.toks.now n c.in_ok-a.a c.in_ok-b.b c.in_ok-c.c c.in_ok-d.d {at₅ = c.in_ok-d.d.at}
    (runs (c.in_ok-a.ensures.read (omega arith) s n n k (left_below c.args.toks.now 0 g)))
    (omega (arith, c.in_ok-b.ensures.onward)) (λ i. runs (c.in_ok-b.ensures.read i s n n k (left_below c.args.toks.now _ g)))
    (omega (arith, c.in_ok-c.ensures.onward)) (λ i. runs (c.in_ok-c.ensures.read i s n n k (left_below c.args.toks.now _ g)))
    (omega (arith, c.in_ok-d.ensures.onward)) (λ i. runs (c.in_ok-d.ensures.read i s n n k (left_below c.args.toks.now _ g)))
    (λ z. absurd (c.if-d-eq0.false z)) (λ z. refl)
    (omega (arith, c.in_ok-i.ensures.ahead)) (meets c.in_ok-i.ensures.read)
    (omega (arith, c.in_ok-e.ensures.ahead)) (λ i. reaches (c.in_ok-e.ensures.read s n (omega arith)))
    (omega (arith, c.in_ok-end.ensures.ahead)) (meets c.in_ok-end.ensures.read)
    (omega (arith, c.lines_of.auto.places)) (omega (arith, c.lines_of-2.auto.places)) (omega (arith, c.lines_of-3.auto.places)) (omega (arith, c.lines_of-4.auto.places))
    c.short.ensures)
