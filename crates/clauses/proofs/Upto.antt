-- Pieces one behind another: what is written of a whole, and what of it is left.
use mathlib.Core.Path.{◌≡◌, refl, sym, ap, ◌∙◌}
use mathlib.Core.List.{List, [], ◌++◌, append_assoc, append-nil}
use Prim.Native.Nat.{ℕ, ◌≤◌}
use native.Mathlib.Omega.{arith}
use lib.ListN.{length}
use Rattle.texts.specs.Wrote.{Wrote}
use Rattle.texts.proofs.Writing.{wrote_nothing, wrote_more, wrote_fits, wrote_as}
use Rattle.clauses.specs.declared.data.TextPut.{TextPut}
use Rattle.clauses.specs.Terms.{Within}
use Rattle.clauses.specs.Written.{Ends}

-- one piece, and behind it another
pub wrote_then : {out : List ℕ} {at : ℕ} {p mid : List ℕ} {r : ℕ} {q last : List ℕ} {z : ℕ} → at ≤ length out → Wrote out at p mid r → (r ≤ length mid → Wrote mid r q last z) → Wrote out at (p ++ q) last z
wrote_then {out} {at} {p} {mid} {r} {q} {last} {z} h a b = wrote_more out at p mid r q last z h a (b (wrote_fits out at p mid r a))

-- the piece by another name
pub wrote_by : {out : List ℕ} {at : ℕ} {p q mid : List ℕ} {r : ℕ} → p ≡ q → Wrote out at p mid r → Wrote out at q mid r
wrote_by {out} {at} {p} {q} {mid} {r} e a = wrote_as out at p q mid r e a

pub wrote_ends : {out : List ℕ} {at : ℕ} {p out' : List ℕ} {r : ℕ} → Wrote out at p out' r → Ends out r out'
wrote_ends a = let e = a.place in record { fits = omega arith; same = a.same }

-- bounds, one piece behind another
pub ends_none : {out : List ℕ} {at : ℕ} → at ≤ length out → Ends out at out
ends_none h = record { fits = h; same = refl }

pub ends_more : {out mid last : List ℕ} {p z : ℕ} → Ends out p mid → Ends mid z last → Ends out z last
ends_more a b = let e = a.same in let f = b.fits in record { fits = omega arith; same = b.same ∙ a.same }

pub within_ends : {s out out' : List ℕ} {from : ℕ} {r : TextPut} → Within s out from r out' → Ends out r.at out'
within_ends w = record { fits = w.fits; same = w.same }

pub within_more : {s out mid last : List ℕ} {from p : ℕ} {r : TextPut} → Ends out p mid → Within s mid from r last → Within s out from r last
within_more a b = let e = a.same in let f = b.fits in record { fits = omega arith; same = b.same ∙ a.same; inside = b.inside }

-- of the whole, all but what is left is written
pub record Upto (out : List ℕ) (at : ℕ) (whole out' : List ℕ) (p : ℕ) (left : List ℕ) : Type 0 where
  pub room : at ≤ length out
  pub done : List ℕ
  pub wrote : Wrote out at done out' p
  pub parts : whole ≡ done ++ left

pub upto_start : {out : List ℕ} {at : ℕ} {whole left : List ℕ} → at ≤ length out → whole ≡ left → Upto out at whole out at left
upto_start {out} {at} h e = record { room = h; done = []; wrote = wrote_nothing out at h; parts = e }

pub upto_more : {out : List ℕ} {at : ℕ} {whole mid : List ℕ} {p : ℕ} {left q left' last : List ℕ} {z : ℕ} → Upto out at whole mid p left → left ≡ q ++ left' → Wrote mid p q last z → Upto out at whole last z left'
upto_more {out} {at} {whole} {mid} {p} {left} {q} {left'} {last} {z} u e w =
    let d = u.done in
    record {
      room = u.room;
      done = d ++ q;
      wrote = wrote_more out at d mid p q last z u.room u.wrote w;
      parts = u.parts ∙ ap (λ (x : List ℕ). d ++ x) e ∙ sym (append_assoc d q left');
    }

pub upto_all : {out : List ℕ} {at : ℕ} {whole out' : List ℕ} {p : ℕ} {left : List ℕ} → Upto out at whole out' p left → left ≡ [] → Wrote out at whole out' p
upto_all u e = let d = u.done in wrote_by (sym (u.parts ∙ ap (λ (x : List ℕ). d ++ x) e ∙ append-nil d)) u.wrote
