-- A term that stands among the first cells stands there still when more is written behind them.
use mathlib.Core.Path.{◌≡◌, sym, ◌∙◌, ap}
use mathlib.Core.List.{List, [], ◌++◌, append_assoc, append-nil}
use mathlib.Core.Bool.{false}
use Prim.Native.Nat.{ℕ, ◌≤◌, ◌<◌}
use native.Mathlib.Omega.{arith}
use lib.ListN.{length, take, drop, get_or, length-append, length-drop, take-append-drop}
use lib.Seq.{drop-append-le, drop_at, length-take-le}
use Rattle.pcrl.specs.Sheet.{Proc, delta, atom, alt, cond, sum, seq, call, Process}
use Rattle.nodes.specs.Layout.{enc}
use Rattle.nodes.specs.Held.{TermAt, ProcAt}
use Rattle.resolver.specs.Writing.{Written}

-- every term has a first cell
enc_some : (q : Proc) → 0 < length (enc false q)
unfolding enc
enc_some delta = omega arith
enc_some (atom a ds) = omega arith
enc_some (alt p q) = omega arith
enc_some (cond c p q) = omega arith
enc_some (sum x D p) = omega arith
enc_some (seq p q) = omega arith
enc_some (call k ds) = omega arith

pub term_kept : (q : Proc) (p : ℕ) (l m : List ℕ) → TermAt q l p → TermAt q (l ++ m) p
term_kept q p l m (rest, e) =
    let some = enc_some q in
    let whole = length-append (enc false q) rest in
    let left = length-drop p l in
    let same = ap length e in
    (rest ++ m, drop-append-le p l m (omega arith) ∙ ap (λ (k : List ℕ). k ++ m) e ∙ append_assoc (enc false q) rest m)

-- a term that was written behind the first w cells
pub term_written : (q : Proc) (w : ℕ) (o : List ℕ) → w ≤ length o → TermAt q (take w o ++ enc false q) w
term_written q w o h = ([], drop_at (take w o) (enc false q) w (length-take-le w o h) ∙ sym (append-nil (enc false q)))

pub proc_kept : (n : ℕ) (q : Process) (procs l m starts : List ℕ) (k : ℕ) → ProcAt n q procs l starts k → ProcAt n q procs (l ++ m) starts k
proc_kept n q procs l m starts k h = record { few = h.few; params = h.params; right = term_kept q.right (get_or starts k 0) l m h.right; scoped = h.scoped }

-- what was written, and what stands before and behind it
pub written_whole : {e : List ℕ} {w : ℕ} {o : List ℕ} {w' : ℕ} {o' : List ℕ} → Written e w o w' o' → take w o ++ (e ++ drop w' o') ≡ o'
written_whole {e} {w} {o} {w'} {o'} h = sym (append_assoc (take w o) e (drop w' o')) ∙ ap (λ (l : List ℕ). l ++ drop w' o') (sym h.cells) ∙ take-append-drop w' o'

-- it stands at w
pub written_at : {e : List ℕ} {w : ℕ} {o : List ℕ} {w' : ℕ} {o' : List ℕ} → w ≤ length o → Written e w o w' o' → drop w o' ≡ e ++ drop w' o'
written_at {e} {w} {o} {w'} {o'} l h = ap (drop w) (sym (written_whole h)) ∙ drop_at (take w o) (e ++ drop w' o') w (length-take-le w o l)
