-- The processes one after another: those done keep their rows and their cells, and each new one stands behind them.
use mathlib.Core.Path.{◌≡◌, ◌∙◌, ap}
use mathlib.Core.List.{List, ◌++◌}
use Rattle.std.specs.Prelude.{Some, None, false}
use Prim.Native.Nat.{ℕ, ◌+◌, ◌*◌, ◌≤◌, ◌<◌}
use native.Mathlib.Omega.{arith}
use lib.ListN.{length, take, drop, get_or, set, length-append, length-drop, length-set, get_or-append}
use lib.Seq.{length-take-le, take_at, get_or-append-add, get_or-set_same, get_or-set_other}
use Rattle.pcrl.specs.Limits.{max_open, frame_width}
use Rattle.pcrl.specs.Tests.{Every}
use Rattle.pcrl.specs.Reader.{all}
use Rattle.pcrl.specs.Tokens.{Token}
use Rattle.pcrl.specs.Tree.{ProcLine}
use Rattle.pcrl.specs.Sheet.{Process, Sig, no_process}
use Rattle.pcrl.specs.Names.{Names, resolve_proc}
use Rattle.laws.specs.Each.{each_length}
use Rattle.pcrl.specs.Print.{line, print_lines, print_proc}
use Rattle.parser.specs.Cells.{enc_proc}
use Rattle.nodes.specs.Layout.{cell_limit, enc}
use Rattle.nodes.specs.Held.{proc_width, SortsAt, ProcAt}
use Rattle.names.specs.declared.Kinds.{Kinds}
use Rattle.names.specs.Standing.{At, LinesAt}
use Rattle.names.specs.Rows.{Kept}
use Rattle.names.proofs.Kept.{sorts_kept, yields_none, yields_some, each_next, every_at}
use Rattle.names.proofs.Filled.{Gone, gone_none, gone_stops, gone_goes, gone_yields}
use Rattle.parser.specs.declared.Step.{Step}
use Rattle.resolver.specs.Raw.{sum_depth}
use Rattle.resolver.specs.Resolving.{Declared}
use Rattle.sheets.specs.ScopePuts.{GivesRows}
use Rattle.sheets.specs.Resolving.{ProcessRow, ProcessRead, ProcessesHeld, ProcessesRead}
use Rattle.sheets.proofs.Placed.{term_kept, term_written}

-- the most cells that the right sides of some lines take
abbrev pub room : List ProcLine → ℕ
room ls = 3 * length (print_lines "proc" print_proc ls)

-- the arrays keep their lengths
pub record Stays (out₀ rows out starts : List ℕ) : Type 0 where
  pub cells_same : length out ≡ length out₀
  pub rows_many : length rows ≡ 80
  pub starts_many : length starts ≡ 16

pub stays_on : (out₀ rows rows' out out' starts : List ℕ) (k v : ℕ) → Stays out₀ rows out starts → length rows' ≡ length rows → length out' ≡ length out
    → Stays out₀ rows' out' (set starts k v)
stays_on out₀ rows rows' out out' starts k v h e g = record {
  cells_same = g ∙ h.cells_same;
  rows_many = e ∙ h.rows_many;
  starts_many = length-set starts k v ∙ h.starts_many;
}

-- a row put among the rows, at p
module _ (rows row : List ℕ) (p n : ℕ) (room : p + n ≤ length rows) (many : length row ≡ n) where
  abbrev pub with_row : List ℕ
  with_row = take p rows ++ (row ++ drop n (drop p rows))

  before : length (take p rows) ≡ p
  before = length-take-le p rows (omega arith)

  pub row_kept : Kept p rows with_row
  row_kept = record {
    same = length-append (take p rows) (row ++ drop n (drop p rows)) ∙ (omega (arith, before, length-append row (drop n (drop p rows)), length-drop n (drop p rows), length-drop p rows));
    before = take_at (take p rows) (row ++ drop n (drop p rows)) p before;
  }

  -- what stands in the row at i
  row_at : (i q : ℕ) → i < n → q ≡ p + i → get_or with_row q 0 ≡ get_or row i 0
  row_at i q h e =
      let z : q ≡ length (take p rows) + i = omega (arith, before) in
      ap (λ (j : ℕ). get_or with_row j 0) z ∙ (get_or-append-add (take p rows) (row ++ drop n (drop p rows)) i 0 ∙ get_or-append row (drop n (drop p rows)) 0 i (omega arith))

  pub row_placed : (Ds : List ℕ) → length Ds < n → SortsAt Ds row 0 → SortsAt Ds with_row p
  row_placed Ds h held = record { many = row_at 0 p (omega arith) (omega arith) ∙ held.many; each = λ i l. row_at (1 + i) (p + 1 + i) (omega arith) (omega arith) ∙ held.each i l }

module _ (s raw procs names : List ℕ) (kinds : Kinds) (funcs : List ℕ) where
  -- the first k lines have their rows and their cells before w, and there is room for the rest
  pub record ProcsOf (N : Names) (S : Sig) (ls : List ProcLine) (rows out starts : List ℕ) (w k : ℕ) : Type 0 where
    pub gone : Gone (resolve_proc N S) no_process (λ q j. ProcAt (length N.procs) q rows (take w out) starts j) ls k
    pub left : w + room (drop k ls) ≤ room ls

  abbrev pub ProcsGone : (rows out starts : List ℕ) (w k : ℕ) → Type 0
  ProcsGone rows out starts w k =
      (N : Names) (S : Sig) (ls : List ProcLine) → Declared s names kinds N → GivesRows kinds funcs S → LinesAt enc_proc s raw procs ls
      → Every (λ (l : ProcLine). length l.params ≤ frame_width) ls → Every (λ (l : ProcLine). sum_depth l.right ≤ max_open) ls → room ls ≤ length out
      → ProcsOf N S ls rows out starts w k

  pub procs_start : (rows out starts : List ℕ) → ProcsGone rows out starts 0 0
  procs_start rows out starts N S ls d gi l f t b =
      record { gone = gone_none (resolve_proc N S) no_process (λ q j. ProcAt (length N.procs) q rows (take 0 out) starts j) ls; left = omega arith }

  -- all lines are done
  pub procs_end : (rows out starts : List ℕ) (w k : ℕ) → length procs ≤ k → ProcsGone rows out starts w k
      → ProcessesRead s raw procs names kinds funcs (Some (record { procs = rows; starts = starts; w = w })) out
  procs_end rows out starts w k h g N S ls d gi l f t b =
      let G = g N S ls d gi l f t b in
      let left = G.left in
      gone_yields (resolve_proc N S) no_process (λ q j. ProcAt (length N.procs) q rows (take w out) starts j)
      (ProcessesHeld (length N.procs) out (room ls)) ls k (record { procs = rows; starts = starts; w = w }) G.gone
      (omega (arith, each_length (λ p l. At s raw (enc_proc l) p) procs ls l))
      (λ bs m x. record { each = λ j i. x j (omega arith); size = omega arith })

  -- some name of the line at k is not as it must be
  pub procs_stop : (rows row out out' starts : List ℕ) (w k at : ℕ) → k < length procs → length out' ≡ length out → at ≡ get_or procs k 0 → ProcsGone rows out starts w k
      → ProcessRead s raw names kinds funcs at row w out None out' → ProcessesRead s raw procs names kinds funcs None out'
  procs_stop rows row out out' starts w k at h same place g a N S ls d gi l f t b =
      let (x, e, here) = each_next (λ p l. At s raw (enc_proc l) p) procs ls k l h in
      let few = every_at _ ls k x (drop (k + 1) ls) f e in
      let deep = every_at _ ls k x (drop (k + 1) ls) t e in
      rw (gone_stops (resolve_proc N S) no_process (λ q j. ProcAt (length N.procs) q rows (take w out) starts j) ls (drop (k + 1) ls) k x
      (g N S ls d gi l f t (omega arith)).gone e (yields_none _ (resolve_proc N S x) (a N S x here.0 d gi (rw place here.1) few deep))) tt

  -- a process was read of it
  module _ (rows rows' row out out' starts : List ℕ) (w k at : ℕ) (r : Step) (h : k < length procs) (same : length out' ≡ length out) (place : at ≡ get_or procs k 0) (g : ProcsGone rows out starts w k)
      (a : ProcessRead s raw names kinds funcs at row w out (Some r) out') where
    module _ (v : ℕ) (few_starts : k < length starts) (few_cells : length out < cell_limit) (start : w < cell_limit → v ≡ w) (kept : Kept (proc_width * k) rows rows')
        (placed : (Ds : List ℕ) → length Ds ≤ frame_width → SortsAt Ds row 0 → SortsAt Ds rows' (proc_width * k)) where
      -- a process that is done keeps its row and its cells
      done_kept : (m : ℕ) (e : List ℕ) → take r.w out' ≡ take w out ++ e → (q : Process) (j : ℕ) → j < k → ProcAt m q rows (take w out) starts j → ProcAt m q rows' (take r.w out') (set starts k v) j
      done_kept m e c q j i p =
          let few = p.few in
          let s₀ : get_or (set starts k v) j 0 ≡ get_or starts j 0 = get_or-set_other starts k j v 0 (λ z. omega arith) in
          record {
            few = few;
            params = sorts_kept (proc_width * k) rows rows' q.params (proc_width * j) kept (omega arith) p.params;
            right = rw (s₀, c) (term_kept q.right (get_or starts j 0) (take w out) e p.right);
            scoped = p.scoped;
          }

      -- ONE MORE PROCESS.
      pub procs_go : ProcsGone rows' out' (set starts k v) r.w (k + 1)
      unfolding all
      procs_go N S ls d gi l f t b =
          let (x, e, here) = each_next (λ p l. At s raw (enc_proc l) p) procs ls k l h in
          let few = every_at _ ls k x (drop (k + 1) ls) f e in
          let deep = every_at _ ls k x (drop (k + 1) ls) t e in
          let G = g N S ls d gi l f t (omega arith) in
          let m = length N.procs in
          let (q, known, held) = yields_some (λ q b. ProcessRow m q row w out b.w out' (3 * length (line "proc" (print_proc x)))) (resolve_proc N S x) r (a N S x here.0 d gi (rw place here.1) few deep) in
          let printed : List ProcLine → List Token = print_lines "proc" print_proc in
          let more : length (printed (drop k ls)) ≡ length (line "proc" (print_proc x)) + length (printed (drop (k + 1) ls))
          = ap (λ (ms : List ProcLine). length (printed ms)) e ∙ length-append (line "proc" (print_proc x)) (printed (drop (k + 1) ls)) in
          let left = G.left in
          let size = held.size in
          let written = held.right.with_room (omega arith) in
          let end = written.next in
          let s₀ : get_or (set starts k v) k 0 ≡ w = get_or-set_same starts k v 0 few_starts ∙ start (omega arith) in
          record {
            gone = gone_goes (resolve_proc N S) no_process (λ q j. ProcAt m q rows (take w out) starts j) (λ q j. ProcAt m q rows' (take r.w out') (set starts k v) j) ls k x q G.gone e known
                (done_kept m (enc false q.right) written.cells)
                (record {
                  few = held.few;
                  params = placed q.params held.few held.params;
                  right = rw (s₀, written.cells) (term_written q.right w out (omega arith));
                  scoped = held.scoped;
                });
            left = omega arith;
          }
