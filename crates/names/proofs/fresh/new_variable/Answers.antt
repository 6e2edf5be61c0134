-- Bool, the other declared names, and the scope.
-- the number of the name is counted among all
use Rattle.std.specs.Prelude.{Option}
use mathlib.Core.Path.{◌≡◌, sym, ◌∙◌, subst}
use mathlib.Core.List.{List}
use Prim.Native.Nat.{ℕ}
use native.Mathlib.Omega.{arith}
use Rattle.pcrl.specs.Text.{bytes}
use Rattle.pcrl.specs.Tree.{Name}
use Rattle.pcrl.specs.Names.{number_of}
use Rattle.pcrl.specs.Tests.{negated, among}
use Rattle.laws.specs.Says.{said_yes, said_no}
use Rattle.names.specs.NameCells.{name_at, scope_at, found}
use Rattle.names.specs.NameKinds.{total_of}
use Rattle.names.specs.NameList.{names_in, nexts_in, firsts_in, kinds_in}
use Rattle.names.proofs.Among.{new_none, new_taken, new_last, number_among}
use Rattle.names.proofs.KeyLaws.{keyed_fewer}
use Rattle.names.proofs.fresh.new_variable.Goals as goal

over-total : (x : Name) (s l : List ℕ) {r : Option ℕ} {n m : ℕ} → n ≡ m → r ≡ found (number_of x (scope_at s l n)) → r ≡ found (number_of x (scope_at s l m))
over-total x s l {r} e h = subst (λ (k : ℕ). r ≡ found (number_of x (scope_at s l k))) e h

pub returns-then-is_bool : goal.returns-then-is_bool
returns-then-is_bool c = new_none (bytes "Bool") (name_at c.args.s.now c.args.c) (scope_at c.args.s.now (names_in c.args.declared.now) (total_of (kinds_in c.args.declared.now))) (negated (among (name_at c.args.s.now c.args.c) (scope_at c.args.s.now c.args.scope.now c.args.k))) (said_yes _ c.is_bool.ensures c.if-is_bool.true)

pub number_in-requires : goal.number_in-requires
number_in-requires c = keyed_fewer c.args.s.now (names_in c.args.declared.now) (nexts_in c.args.declared.now) (firsts_in c.args.declared.now) _ (total_of (kinds_in c.args.declared.now)) (omega arith) c.requires.0

pub returns-then-is_some : goal.returns-then-is_some
returns-then-is_some c = new_taken (bytes "Bool") (name_at c.args.s.now c.args.c) (scope_at c.args.s.now (names_in c.args.declared.now) (total_of (kinds_in c.args.declared.now))) (negated (among (name_at c.args.s.now c.args.c) (scope_at c.args.s.now c.args.scope.now c.args.k))) (said_no _ c.is_bool.ensures c.if-is_bool.false) (number_among _ _ c.number_in.result (over-total (name_at c.args.s.now c.args.c) c.args.s.now (names_in c.args.declared.now) c.total-n.ensures c.number_in.ensures.number) ∙ (sym c.is_some.ensures ∙ c.if-is_some.true))

pub scope_number-requires : goal.scope_number-requires
scope_number-requires c = c.requires.1

pub returns : goal.returns
returns c =
    let declared = scope_at c.args.s.now (names_in c.args.declared.now) (total_of (kinds_in c.args.declared.now)) in
    let other = number_among (name_at c.args.s.now c.args.c) declared c.number_in.result (over-total (name_at c.args.s.now c.args.c) c.args.s.now (names_in c.args.declared.now) c.total-n.ensures c.number_in.ensures.number) ∙ (sym c.is_some.ensures ∙ c.if-is_some.false) in
    new_last (bytes "Bool") (name_at c.args.s.now c.args.c) declared (scope_at c.args.s.now c.args.scope.now c.args.k) (said_no _ c.is_bool.ensures c.if-is_bool.false) other c.scope_number.result c.scope_number.ensures.number c.is_none.result c.is_none.ensures
