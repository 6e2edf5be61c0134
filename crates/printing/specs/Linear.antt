-- The sheet that is printed for a table, resolved: each right side is the summands of an equation, joined by `+`.
use Rattle.std.specs.Prelude.{List, [], ◌∷◌, map, ℕ, zero, suc, length}
use Rattle.pcrl.specs.Sheet.{Data, val, Proc, delta, atom, alt, cond, sum, seq, call, Process, Sheet}
use Rattle.pcrl.specs.Table.{Summand, Equation, Table}

-- a part, and the calls behind it
unfoldable pub calls_behind : Proc → List (ℕ × List Data) → Proc
calls_behind p [] = p
calls_behind p (c ∷ cs) = seq p (calls_behind (call c.0 c.1) cs)

-- a term where the condition has the wanted value
unfoldable pub wants : ℕ → Data → Proc → Proc
wants zero c p = cond c delta p
wants (suc w) c p = cond c p delta

unfoldable pub conditions : List (ℕ × Data) → Proc → Proc
conditions [] p = p
conditions (c ∷ cs) p = wants c.0 c.1 (conditions cs p)

-- sums over variables that are numbered from n on
unfoldable pub sums : ℕ → List ℕ → Proc → Proc
sums n [] p = p
sums n (D ∷ Ds) p = sum n D (sums (suc n) Ds p)

-- a summand behind n parameters
unfoldable pub linear_summand : ℕ → Summand → Proc
linear_summand n h = sums n h.vars (conditions h.conds (calls_behind (atom h.act h.terms) h.calls))

unfoldable pub alternatives : Proc → List Proc → Proc
alternatives p [] = p
alternatives p (q ∷ ps) = alt p (alternatives q ps)

unfoldable pub linear_right : List Proc → Proc
linear_right [] = delta
linear_right (p ∷ ps) = alternatives p ps

unfoldable pub linear_process : Equation → Process
linear_process q = record { params = q.params; right = linear_right (map (linear_summand (length q.params)) q.summands) }

unfoldable pub linear_sheet : Table → Sheet
linear_sheet T = record { sig = T.sig; procs = map linear_process T.equations; start = (T.start.0, map val T.start.1) }
