-- The calls of the rest are written apart, and copied to before those that stand there.
use native.Mathlib.Omega.{arith}
use Prim.Native.Nat.{ℕ, ◌+◌, ◌-◌}
use mathlib.Core.Path.{◌≡◌, refl, sym, ap, ◌∙◌, subst}
use mathlib.Core.List.{List}
use Rattle.std.specs.Prelude.{Some}
use lib.ListN.{drop}
use lib.Seq.{paste, drop-paste}
use Rattle.following.specs.Follows.{Pushes}
use Rattle.following.proofs.Parts.{push_fail, push_right}
use Rattle.following.proofs.push_calls.Goals as goal

pub returns-in_err-r : goal.returns-in_err-r
returns-in_err-r c =
    let q = c.requires in rw c.from_residual.ensures record {
      n_le_max_calls = tt;
      pushes = push_fail c.args.cells.now c.args.at c.args.c c.args.slots.now c.args.n c.args.nk c.args.calls.now c.args.top c.args.after.now c.put_calls.new.out (omega arith) c.in_err-r.ensures.calls_put c.args.calls.now;
      top_le_top = (tt, refl);
    }

pub returns : goal.returns
returns c =
    let q = c.requires in
    let u = c.in_ok-r.ensures.n_le_most in
    let k = c.put_calls.auto.out in record {
      n_le_max_calls = (omega arith, omega arith, omega arith);
      pushes = subst (λ (x : List ℕ). Pushes c.args.cells.now c.args.at c.args.c c.args.slots.now c.args.n c.args.nk c.args.calls.now c.args.top (Some (record { top = c.args.top - c.in_ok-r.r.w; n = c.args.nk + c.in_ok-r.r.n })) x) (sym c.copy.ensures)
          (push_right c.args.cells.now c.args.at c.args.c c.args.slots.now c.args.n c.args.nk c.args.calls.now c.args.top c.args.after.now c.put_calls.new.out (omega arith) c.in_ok-r.r c.in_ok-r.ensures.calls_put (omega arith) (omega arith) (omega arith));
      top_le_top = (
        omega arith,
        (let z : c.args.top - c.in_ok-r.r.w + c.in_ok-r.r.w ≡ c.args.top = omega arith in
            ap (λ (x : List ℕ). drop c.args.top x) c.copy.ensures
            ∙ subst (λ (i : ℕ). drop i (paste c.args.calls.now (c.args.top - c.in_ok-r.r.w) c.put_calls.new.out c.in_ok-r.r.w) ≡ drop i c.args.calls.now) z
            (drop-paste c.args.calls.now (c.args.top - c.in_ok-r.r.w) c.put_calls.new.out c.in_ok-r.r.w (omega arith) (omega arith))),
      );
    }
