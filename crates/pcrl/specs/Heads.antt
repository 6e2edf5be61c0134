-- Heads, and the table of a sheet.
use Rattle.std.specs.Prelude.{List, [], ◌∷◌, ◌++◌, map, true, false, ℕ, zero, suc, ◌+◌, length, get_or, replicate}
use Rattle.pcrl.specs.Sheet.{Data, val, var, Proc, delta, atom, alt, cond, sum, seq, call, Sheet, params, right}
use Rattle.pcrl.specs.Values.{eval, put_data}
use Rattle.pcrl.specs.Lists.{tabulate}
use Rattle.pcrl.specs.Parts.{marks, count, marked, as_params, new_count, all_new_parts, first_new, Kind, absent, written, part, kind}
use Rattle.pcrl.specs.Table.{Summand, Equation, Table, with_names, no_equation}

-- "d put before their variables"
unfoldable pub with_var : ℕ → Summand → Summand
with_var D h = record { vars = D ∷ h.vars; conds = h.conds; act = h.act; terms = h.terms; calls = h.calls }

-- "with `c is 1` put first"
unfoldable pub with_cond : ℕ → Data → Summand → Summand
with_cond w c h = record { vars = h.vars; conds = (w, c) ∷ h.conds; act = h.act; terms = h.terms; calls = h.calls }

-- "each followed by the calls of the rest"
unfoldable pub with_calls : List (ℕ × List Data) → Summand → Summand
with_calls cs h = record { vars = h.vars; conds = h.conds; act = h.act; terms = h.terms; calls = h.calls ++ cs }

-- In what follows σ has a data term for each variable in scope, m is the number of the next variable,
-- and c that of the first new equation in p.

unfoldable pub look : List Data → ℕ → Data
look σ i = get_or σ i (val 0)

-- the call of the new equation c of a part
unfoldable pub new_call : List Data → ℕ → Proc → List (ℕ × List Data)
new_call σ c p = (c, marked (marks (length σ) p) σ) ∷ []

-- the calls of what stands after a first part
unfoldable pub calls_of : List Data → ℕ → Proc → List (ℕ × List Data)
calls_of σ c delta = new_call σ c delta
calls_of σ c (atom a ds) = new_call σ c (atom a ds)
calls_of σ c (alt p q) = new_call σ c (alt p q)
calls_of σ c (cond d p q) = new_call σ c (cond d p q)
calls_of σ c (sum x D p) = new_call σ c (sum x D p)
calls_of σ c (seq p q) = calls_of σ c p ++ calls_of σ (c + new_count true p) q
calls_of σ c (call k ds) = (k, map (put_data (look σ)) ds) ∷ []

-- "Heads of a term, in order." `known σ m k` are those of the right side of process k.
module _ (known : List Data → ℕ → ℕ → List Summand) where
  unfoldable pub heads_by : List Data → ℕ → ℕ → Proc → List Summand
  -- "delta: none. An action or tau: one, with no calls."
  heads_by σ m c delta = []
  heads_by σ m c (atom a ds) = record { vars = []; conds = []; act = a; terms = map (put_data (look σ)) ds; calls = [] } ∷ []
  -- "p + q: those of p, then of q."
  heads_by σ m c (alt p q) = heads_by σ m c p ++ heads_by σ m (c + new_count false p) q
  -- "p `<|c|>` q: those of p with `c is 1` put first, then of q with `c is 0` put first."
  heads_by σ m c (cond d p q) =
      map (with_cond 1 (put_data (look σ) d)) (heads_by σ m c p) ++ map (with_cond 0 (put_data (look σ) d)) (heads_by σ m (c + new_count false p) q)
  -- "`sum(d:D,p)`: those of p, d put before their variables."
  heads_by σ m c (sum x D p) = map (with_var D) (heads_by (σ ++ (var m ∷ [])) (suc m) c p)
  -- "a sequence: those of the first part, each followed by the calls of the rest."
  heads_by σ m c (seq p q) = map (with_calls (calls_of σ (c + new_count false p) q)) (heads_by σ m c p)
  -- "a call: those of the process's right side, arguments put for parameters, sum variables kept distinct."
  heads_by σ m c (call k ds) = known (map (put_data (look σ)) ds) m k

module _ (H : Sheet) where
  -- f bounds how far calls at the head are followed. For a sheet that passes 9 no call is lost: a theorem.
  unfoldable pub heads : ℕ → List Data → ℕ → ℕ → Proc → List Summand
  heads zero σ m c p = heads_by (λ σ' m' k. []) σ m c p
  heads (suc f) σ m c p = heads_by (λ σ' m' k. heads f σ' m' (first_new (length H.procs) H.procs k) (right H k)) σ m c p

  unfoldable pub fuel : ℕ
  fuel = suc (length H.procs)

  -- "The table has, per equation, the heads of its right side as summands." e is the equation's number.
  unfoldable pub equation_of : Kind → ℕ → Equation
  equation_of absent e = no_equation
  equation_of written e =
      let n = length (params H e) in
      record { params = params H e; summands = heads fuel (as_params (replicate n true) 0) n (first_new (length H.procs) H.procs e) (right H e) }
  -- "The new equation has as many parameters as are marked, in that order."
  equation_of (part x) e =
      let bs = marks (length x.scope) x.term in
      record { params = marked bs x.scope; summands = heads fuel (as_params bs 0) (count bs) (suc e) x.term }

  unfoldable pub table_of : Table
  table_of = record {
    layout = with_names;
    sig = H.sig;
    equations = tabulate (length H.procs + length (all_new_parts H.procs)) (λ e. equation_of (kind H e) e);
    start = (H.start.0, map (eval H.sig []) H.start.1);
  }
