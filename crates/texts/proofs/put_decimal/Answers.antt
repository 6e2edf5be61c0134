-- One, two or three digits.
use native.Mathlib.Omega.{arith}
use mathlib.Core.Path.{ap, ap₂, ◌∙◌}
use mathlib.Core.List.{[], List, ◌∷◌, ◌++◌}
use Prim.Native.Nat.{ℕ, ◌%◌}
use Rattle.texts.proofs.Writing.{wrote_more, wrote_as}
use Rattle.texts.proofs.Decimals.{one_digit, two_digits, three_digits}
use Rattle.texts.proofs.put_decimal.Goals as goal

pub returns-then-m-lt10 : goal.returns-then-m-lt10
returns-then-m-lt10 c = let m = c.args.n % 256 in
    wrote_as _ _ (c.digit.result ∷ []) _ _ _ (ap (λ (x : ℕ). x ∷ []) c.digit.ensures ∙ one_digit m (omega arith)) c.put_byte.ensures

pub returns-then-m-lt100 : goal.returns-then-m-lt100
returns-then-m-lt100 c = let m = c.args.n % 256 in
    wrote_as _ _ ((c.digit-then-m-lt100.result ∷ []) ++ (c.digit-then-m-lt100-2.result ∷ [])) _ _ _ (ap₂ (λ (x y : ℕ). (x ∷ []) ++ (y ∷ [])) c.digit-then-m-lt100.ensures c.digit-then-m-lt100-2.ensures ∙ two_digits m (omega arith) (omega arith))
    (wrote_more c.args.out.now c.args.at (c.digit-then-m-lt100.result ∷ []) c.put_byte-p.new.out c.put_byte-p.result (c.digit-then-m-lt100-2.result ∷ []) _ _ (omega (arith, c.requires)) c.put_byte-p.ensures c.put_byte-then-m-lt100.ensures)

pub returns : goal.returns
returns c = let m = c.args.n % 256 in
    wrote_as _ _ (((c.digit-2.result ∷ []) ++ (c.digit-3.result ∷ [])) ++ (c.digit-4.result ∷ [])) _ _ _
    (ap₂ (λ (x : List ℕ) (y : ℕ). x ++ (y ∷ [])) (ap₂ (λ (x y : ℕ). (x ∷ []) ++ (y ∷ [])) c.digit-2.ensures c.digit-3.ensures) c.digit-4.ensures ∙ three_digits m (omega (arith, c.if-m-lt100)) (omega arith))
    (wrote_more c.args.out.now c.args.at ((c.digit-2.result ∷ []) ++ (c.digit-3.result ∷ [])) c.put_byte-q.new.out c.put_byte-q.result (c.digit-4.result ∷ []) _ _ (omega (arith, c.requires))
    (wrote_more c.args.out.now c.args.at (c.digit-2.result ∷ []) c.put_byte-p-2.new.out c.put_byte-p-2.result (c.digit-3.result ∷ []) _ _ (omega (arith, c.requires)) c.put_byte-p-2.ensures c.put_byte-q.ensures) c.put_byte-2.ensures)
