-- Each promise determines what it speaks of: for one input there are no two answers, and no two contents of what is lent.
use Rattle.std.specs.Prelude.{◌≡◌, List, ◌++◌, ℕ, drop}
use Rattle.std.proofs.Common.{sym, ap, ap₂, ◌∙◌, take-append-drop}
use Rattle.frames.specs.declared.LentFrame.{LentFrame}
use Rattle.frames.specs.Lists.{lent_frames}
use Rattle.wizbratel.specs.Tables.{MakePromise, PrintPromise}
use Rattle.wizbratel.specs.Promises.{CheckPromise, CheckTablePromise, StartPromise, AskPromise, AskAllPromise, WalkPromise}

pub check_determines : (sheet : List ℕ) (r q : ℕ) → CheckPromise sheet r → CheckPromise sheet q → r ≡ q
check_determines sheet r q p u = p ∙ sym u

pub check_table_determines : (file : List ℕ) (r q : ℕ) → CheckTablePromise file r → CheckTablePromise file q → r ≡ q
check_table_determines file r q p u = p ∙ sym u

pub make_determines : (sheet out : List ℕ) (w r q : ℕ) (out' out'' : List ℕ) (w' w'' : ℕ) → MakePromise sheet out w r out' w' → MakePromise sheet out w q out'' w'' → (r ≡ q) × (out' ≡ out'') × (w' ≡ w'')
make_determines sheet out w r q out' out'' w' w'' p u = (p.answer ∙ sym u.answer, p.output ∙ sym u.output, p.count ∙ sym u.count)

pub print_determines : (file out : List ℕ) (w r q : ℕ) (out' out'' : List ℕ) (w' w'' : ℕ) → PrintPromise file out w r out' w' → PrintPromise file out w q out'' w'' → (r ≡ q) × (out' ≡ out'') × (w' ≡ w'')
print_determines file out w r q out' out'' w' w'' p u = (p.answer ∙ sym u.answer, p.output ∙ sym u.output, p.count ∙ sym u.count)

pub start_determines : (file : List ℕ) (fs : List LentFrame) (d r q : ℕ) (gs hs : List LentFrame) (d' d'' : ℕ) → StartPromise file fs d r gs d' → StartPromise file fs d q hs d''
    → (r ≡ q) × (lent_frames gs ≡ lent_frames hs) × (d' ≡ d'')
start_determines file fs d r q gs hs d' d'' p u = (p.answer ∙ sym u.answer, p.frames ∙ sym u.frames, p.depth ∙ sym u.depth)

pub ask_determines : (file : List ℕ) (fs : List LentFrame) (d k : ℕ) (out : List ℕ) (r q : ℕ) (gs hs : List LentFrame) (d' d'' : ℕ) (out' out'' : List ℕ)
    → AskPromise file fs d k out r gs d' out' → AskPromise file fs d k out q hs d'' out'' → (r ≡ q) × (lent_frames gs ≡ lent_frames hs) × (d' ≡ d'') × (out' ≡ out'')
ask_determines file fs d k out r q gs hs d' d'' out' out'' p u = (p.0.answer ∙ sym u.0.answer, p.0.frames ∙ sym u.0.frames, p.0.depth ∙ sym u.0.depth, p.1 ∙ sym u.1)

pub ask_all_determines : (file : List ℕ) (fs : List LentFrame) (d : ℕ) (ks out : List ℕ) (r q : ℕ) (gs hs : List LentFrame) (d' d'' : ℕ) (out' out'' : List ℕ)
    → AskAllPromise file fs d ks out r gs d' out' → AskAllPromise file fs d ks out q hs d'' out'' → (r ≡ q) × (lent_frames gs ≡ lent_frames hs) × (d' ≡ d'') × (out' ≡ out'')
ask_all_determines file fs d ks out r q gs hs d' d'' out' out'' p u = (p.0.answer ∙ sym u.0.answer, p.0.frames ∙ sym u.0.frames, p.0.depth ∙ sym u.0.depth, p.1 ∙ sym u.1)

pub walk_determines : (sheet out : List ℕ) (r q : ℕ) (out' out'' : List ℕ) → WalkPromise sheet out r out' → WalkPromise sheet out q out'' → (r ≡ q) × (out' ≡ out'')
walk_determines sheet out r q out' out'' p u =
    let same : r ≡ q = p.place ∙ sym u.place in (
      same,
      sym (take-append-drop r out')
          ∙ ap₂ (λ (x y : List ℕ). x ++ y) (p.text ∙ sym u.text) (p.rest ∙ ap (λ (n : ℕ). drop n out) same ∙ sym u.rest)
          ∙ take-append-drop q out'',
    )
