-- A sheet and arrays that hold it, cell by cell:
-- sort D 3; func f : D -> Bool = 0, 1, 1; act a : D; proc X = sum(d : D, a(d).X <| f(d) |> delta); init X;
use Rattle.std.specs.Prelude.{◌≡◌, refl, List, [], ◌∷◌, ℕ, zero, suc, ◌+◌, ◌<◌, get_or}
use Rattle.std.proofs.Common.{arith}
use Rattle.pcrl.specs.Tests.{Every}
use Rattle.pcrl.specs.Sheet.{var, app, nil, cons, list_of, action, delta, atom, cond, sum, seq, call, Proc, Sheet, func, no_action, no_process}
use Rattle.nodes.specs.declared.Outline.{Outline}
use Rattle.nodes.specs.Layout.{enc_data, enc_datas, one_if, act_number, enc}
use Rattle.nodes.specs.Scoped.{ScopedData, Scoped}
use Rattle.nodes.specs.Held.{SortsAt, FuncAt, ActAt, ProcAt, Arrays, Held}

abbrev right_side : Proc
right_side = sum 0 1 (cond (app 0 (cons (var 0) nil)) (seq (atom (action 0) (var 0 ∷ [])) (call 0 [])) delta)

abbrev pub sheet : Sheet
sheet = record {
  sig = record {
    sorts = 2 ∷ 3 ∷ [];
    sort_names = (66 ∷ 111 ∷ 111 ∷ 108 ∷ []) ∷ (68 ∷ []) ∷ [];
    funcs = record { takes = 1 ∷ []; gives = 0; values = 0 ∷ 1 ∷ 1 ∷ [] } ∷ [];
    acts = record { name = 97 ∷ []; takes = 1 ∷ [] } ∷ [];
  };
  procs = record { params = []; right = right_side } ∷ [];
  start = (0, []);
}

abbrev pub arrays : Arrays
arrays = record {
  sizes = 2 ∷ 3 ∷ [];
  funcs = 1 ∷ 1 ∷ 0 ∷ 0 ∷ [];
  values = 0 ∷ 1 ∷ 1 ∷ [];
  places = 0 ∷ 3 ∷ [];
  acts = 1 ∷ 1 ∷ 0 ∷ [];
  procs = 0 ∷ 0 ∷ 0 ∷ 0 ∷ 0 ∷ [];
  -- sum, its variable; conditional, its data; sequence; action, its data; call; delta; init's call
  cells = 33 ∷ 1 ∷ 1 ∷ 1 ∷ 6 ∷ 3 ∷ 1 ∷ 2 ∷ 1 ∷ 1 ∷ 10 ∷ 0 ∷ 0 ∷ 36 ∷ 1 ∷ 1 ∷ 1 ∷ 8 ∷ 0 ∷ 0 ∷ 0 ∷ 0 ∷ 0 ∷ 8 ∷ 0 ∷ 0 ∷ [];
  starts = 0 ∷ [];
}

abbrev pub outline : Outline
outline = record { sorts = 2; funcs = 1; acts = 1; procs = 1; init = 23 }

one_sort : (s : List ℕ) (D : ℕ) → SortsAt (D ∷ []) (1 ∷ D ∷ s) 0
one_sort s D = record { many = refl; each = each }
  where
    each : (i : ℕ) → i < 1 → get_or (1 ∷ D ∷ s) (1 + i) 0 ≡ get_or (D ∷ []) i 0
    each zero h = refl
    each (suc i) h = absurd (omega arith)

-- the arrays hold the sheet
pub sheet_held : Held sheet arrays outline
unfolding func enc enc_data enc_datas list_of one_if act_number Scoped ScopedData Every
sheet_held = record {
  signature = record {
    sort_count = refl;
    func_count = refl;
    act_count = refl;
    few_sorts = omega arith;
    few_funcs = omega arith;
    few_acts = omega arith;
    size_at = λ D h. refl;
    func_at = functions;
    act_at = actions;
  };
  processes = record {
    proc_count = refl;
    few_procs = omega arith;
    proc_at = processes;
    init_at = ([], refl);
    init_scoped = (omega arith, tt);
  };
}
  where
    functions : (i : ℕ) → i < 1 → FuncAt (func sheet.sig i) arrays.funcs arrays.values arrays.places i
    functions zero h = record {
      some_sort = omega arith;
      few = omega arith;
      takes = one_sort (0 ∷ 0 ∷ []) 1;
      gives = refl;
      values_are = ([], refl);
      values_end = refl;
    }
    functions (suc i) h = absurd (omega arith)

    actions : (i : ℕ) → i < 1 → ActAt (get_or sheet.sig.acts i no_action) arrays.acts i
    actions zero h = record { few = omega arith; takes = one_sort (0 ∷ []) 1 }
    actions (suc i) h = absurd (omega arith)

    processes : (k : ℕ) → k < 1 → ProcAt 1 (get_or sheet.procs k no_process) arrays.procs arrays.cells arrays.starts k
    processes zero h = record {
      few = omega arith;
      params = record { many = refl; each = λ i l. absurd (omega arith) };
      right = (8 ∷ 0 ∷ 0 ∷ [], refl);
      scoped = (refl, (omega arith, (omega arith, (((omega arith, tt), (omega arith, tt)), tt))));
    }
    processes (suc k) h = absurd (omega arith)
