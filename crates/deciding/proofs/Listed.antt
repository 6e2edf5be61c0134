-- Where the steps are listed, equality to n steps is decided.
use Rattle.std.specs.Prelude.{◌≡◌}
use Prim.Native.Nat.{ℕ, zero, suc}
use Rattle.pcrl.specs.Equality.{System, Equal}
use Rattle.deciding.specs.Decisions.{and_then?, iff?, as?}
use Rattle.deciding.specs.Matching.{matched?}
use Rattle.deciding.specs.Listed.{Listed, matched_equal, equal_matched}

module _ {L : Type 0} (A B : System L) where
  module _ (same? : (k l : L) → Dec (k ≡ l)) (a : Listed A) (b : Listed B) where
    unfoldable pub equal? : (n : ℕ) (s : A.State) (t : B.State) → Dec (Equal A B n s t)
    unfolding Equal
    equal? zero s t = iff? (a.ended? s) (b.ended? t)
    equal? (suc n) s t =
        as? (matched_equal A B a b n s t) (equal_matched A B a b n s t)
        (and_then? (iff? (a.ended? s) (b.ended? t)) (λ e.
        matched? (λ x y. and_then? (same? x.0 y.0) (λ h. equal? n x.1 y.1)) (a.successors s) (b.successors t)))
