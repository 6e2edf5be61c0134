-- Bool stands before the sorts that lines declare.
use Rattle.std.specs.Prelude.{Option, Some, None}
use mathlib.Core.Path.{◌≡◌, subst}
use Prim.Native.Nat.{ℕ}
use native.Mathlib.Omega.{arith}
use Rattle.pcrl.specs.Text.{bytes}
use Rattle.pcrl.specs.Names.{number_of}
use Rattle.laws.specs.Says.{said_yes, said_no}
use Rattle.names.specs.NameCells.{name_at, found}
use Rattle.names.specs.NameKeys.{names_from}
use Rattle.names.specs.NameKinds.{total_of, sorts_in}
use Rattle.names.specs.NameList.{names_in, nexts_in, firsts_in, kinds_in}
use Rattle.names.proofs.Numbers.{found_first, found_next, found_nowhere}
use Rattle.names.proofs.KeyLaws.{keyed_fewer}
use Rattle.names.proofs.keys.sort_in.Goals as goal

pub returns-then-is_bool : goal.returns-then-is_bool
unfolding sorts_in
returns-then-is_bool c = record { most = omega arith; number = found_first (name_at c.args.s.now c.args.c) (bytes "Bool") (names_from c.args.s.now (names_in c.args.declared.now) 0 (kinds_in c.args.declared.now).sorts) (said_yes _ c.is_bool.ensures c.if-is_bool.true) }

pub number_in-requires : goal.number_in-requires
number_in-requires c = keyed_fewer c.args.s.now (names_in c.args.declared.now) (nexts_in c.args.declared.now) (firsts_in c.args.declared.now) _ (total_of (kinds_in c.args.declared.now)) (omega arith) c.requires

pub returns-in_err-i-clause-number : goal.returns-in_err-i-clause-number
unfolding sorts_in
returns-in_err-i-clause-number c =
    let names = names_from c.args.s.now (names_in c.args.declared.now) 0 (kinds_in c.args.declared.now).sorts in
    let n = subst (λ (m : ℕ). ◌≡◌ {A = Option ℕ} None (found (number_of (name_at c.args.s.now c.args.c) (names_from c.args.s.now (names_in c.args.declared.now) 0 m)))) c.cell.ensures.0 c.in_err-i.ensures.number in
    rw c.from_residual.ensures (found_nowhere (name_at c.args.s.now c.args.c) (bytes "Bool") names (said_no _ c.is_bool.ensures c.if-is_bool.false) n)

pub returns-clause-number : goal.returns-clause-number
unfolding sorts_in
returns-clause-number c =
    let names = names_from c.args.s.now (names_in c.args.declared.now) 0 (kinds_in c.args.declared.now).sorts in
    let n = subst (λ (m : ℕ). ◌≡◌ {A = Option ℕ} (Some c.in_ok-i.i) (found (number_of (name_at c.args.s.now c.args.c) (names_from c.args.s.now (names_in c.args.declared.now) 0 m)))) c.cell.ensures.0 c.in_ok-i.ensures.number in
    found_next (name_at c.args.s.now c.args.c) (bytes "Bool") names c.in_ok-i.i (said_no _ c.is_bool.ensures c.if-is_bool.false) n
