-- What a function's number stands for, and that every function of a right signature is right, operators too.
use Rattle.std.specs.Prelude.{◌≡◌, refl, Bool, true, false, eqb, ltb}
use Rattle.std.proofs.Math.Path.{ap}
use Rattle.std.proofs.Common.{◌∙◌, ltb-true, ltb-false}
use Prim.Native.Nat.{ℕ, zero, suc, ◌+◌, ◌*◌, ◌-◌, ◌/◌, ◌%◌, ◌<◌, ◌≤◌}
use native.Mathlib.Omega.{arith}
use Rattle.std.proofs.Math.ListN.{length, get_or}
use Rattle.pcrl.specs.Lists.{tabulate}
use Rattle.pcrl.specs.Tests.{Every}
use Rattle.pcrl.specs.Sheet.{Sig, no_func, Operation, not_number, unsorted_number, and_number, or_number, first_equal, operator, operation, size, func, same_at, function, function_at}
use Rattle.pcrl.specs.Sorts.{IsOperation, IsFunc, volume}
use Rattle.pcrl.specs.Right.{RightSizes, RightFunc}
use Rattle.laws.specs.Every.{every_at}
use Rattle.laws.specs.Lists.{length_tabulate}

-- the operation of a number, with what the number is
pub data Seen (f : ℕ) : Operation → Type 0 where
  as_written : f < not_number → Seen f (Operation.written f)
  as_not : f ≡ not_number → Seen f Operation.not
  as_and : f ≡ and_number → Seen f Operation.and
  as_or : f ≡ or_number → Seen f Operation.or
  as_equal : (D : ℕ) → f ≡ first_equal + D → Seen f (Operation.equal D)
  as_unsorted : f ≡ unsorted_number → Seen f Operation.unsorted
  as_none : or_number < f → f < first_equal → Seen f Operation.unsorted

pub seen : (f : ℕ) → Seen f (operation f)
unfolding operation operator
seen f = by (ltb f not_number) (ltb f first_equal) refl refl
  where
    small : (n : ℕ) → not_number ≤ f → f < first_equal → f - not_number ≡ n → Seen f (operator n)
    small zero h k e = as_not (omega arith)
    small (suc zero) h k e = as_unsorted (omega arith)
    small (suc (suc zero)) h k e = as_and (omega arith)
    small (suc (suc (suc zero))) h k e = as_or (omega arith)
    small (suc (suc (suc (suc n)))) h k e = as_none (omega arith) k

    by : (a b : Bool) → ltb f not_number ≡ a → ltb f first_equal ≡ b
        → Seen f (elim a [ true ↦ Operation.written f | false ↦ elim b [ true ↦ operator (f - not_number) | false ↦ Operation.equal (f - first_equal) ] ])
    by true b e h = as_written (ltb-true f not_number e)
    by false true e h = small (f - not_number) (ltb-false f not_number e) (ltb-true f first_equal h) refl
    by false false e h = as_equal (f - first_equal) (let z = ltb-false f first_equal h in omega arith)

pub written_number : (f : ℕ) → f < not_number → operation f ≡ Operation.written f
written_number f h = go (operation f) (seen f)
  where
    go : (o : Operation) → Seen f o → o ≡ Operation.written f
    go (Operation.written g) (as_written k) = refl
    go Operation.not (as_not e) = absurd (omega arith)
    go Operation.and (as_and e) = absurd (omega arith)
    go Operation.or (as_or e) = absurd (omega arith)
    go (Operation.equal D) (as_equal E e) = absurd (omega arith)
    go Operation.unsorted (as_unsorted e) = absurd (omega arith)
    go Operation.unsorted (as_none k l) = absurd (omega arith)

pub equal_number : (D : ℕ) → operation (first_equal + D) ≡ Operation.equal D
equal_number D = go (operation (first_equal + D)) (seen (first_equal + D))
  where
    go : (o : Operation) → Seen (first_equal + D) o → o ≡ Operation.equal D
    go (Operation.written g) (as_written k) = absurd (omega arith)
    go Operation.not (as_not e) = absurd (omega arith)
    go Operation.and (as_and e) = absurd (omega arith)
    go Operation.or (as_or e) = absurd (omega arith)
    go (Operation.equal E) (as_equal F e) = let z : F ≡ D = omega arith in ap Operation.equal z
    go Operation.unsorted (as_unsorted e) = absurd (omega arith)
    go Operation.unsorted (as_none k l) = absurd (omega arith)

-- a written function by its number
pub written_function : (S : Sig) (f : ℕ) → f < not_number → function_at S f ≡ func S f
unfolding function_at function
written_function S f h = rw (written_number f h)

every_tabulate : (P : ℕ → Type 0) (n : ℕ) (f : ℕ → ℕ) → ((i : ℕ) → P (f i)) → Every P (tabulate n f)
unfolding Every tabulate
every_tabulate P zero f h = tt
every_tabulate P (suc n) f h = (h 0, every_tabulate P n (λ i. f (suc i)) (λ i. h (suc i)))

pub bit_small : (S : Sig) (n i : ℕ) → same_at S n i < 2
unfolding same_at
bit_small S n i = go (eqb (i / n) (i % n))
  where
    go : (b : Bool) → elim b as (λ x. ℕ) [ true ↦ 1 | false ↦ 0 ] < 2
    go true = omega arith
    go false = omega arith

module _ (S : Sig) (sizes : RightSizes S.sorts) (funcs : Every (RightFunc S.sorts) S.funcs) where
  -- every function that is there has one or two sorts, and values that are complete and in range
  right_operation : (o : Operation) → IsOperation S o → RightFunc S.sorts (function S o)
  unfolding IsOperation function func size RightFunc RightSizes Every volume
  right_operation (Operation.written f) h = every_at (RightFunc S.sorts) S.funcs no_func f funcs h
  right_operation Operation.not h =
      let two : get_or S.sorts 0 0 ≡ 2 = sizes.1 in
      let one : 1 ≤ length S.sorts = sizes.0.0.0 in
      (((omega arith, omega arith), (omega arith, tt)), (omega arith, (omega arith, (omega arith, (omega arith, tt)))))
  right_operation Operation.and h =
      let two : get_or S.sorts 0 0 ≡ 2 = sizes.1 in
      let one : 1 ≤ length S.sorts = sizes.0.0.0 in
      (((omega arith, omega arith), (omega arith, (omega arith, tt))), (omega arith, (rw two, (omega arith, (omega arith, (omega arith, (omega arith, tt)))))))
  right_operation Operation.or h =
      let two : get_or S.sorts 0 0 ≡ 2 = sizes.1 in
      let one : 1 ≤ length S.sorts = sizes.0.0.0 in
      (((omega arith, omega arith), (omega arith, (omega arith, tt))), (omega arith, (rw two, (omega arith, (omega arith, (omega arith, (omega arith, tt)))))))
  right_operation (Operation.equal D) h =
      let two : get_or S.sorts 0 0 ≡ 2 = sizes.1 in
      let n : ℕ = get_or S.sorts D 0 in
      let m : n ≡ n * 1 = omega arith in
      let v : n * n ≡ n * (n * 1) = ap (λ (k : ℕ). n * k) m in (
        ((omega arith, omega arith), (h, (h, tt))),
        (omega (arith, h), (length_tabulate (n * n) (same_at S n) ∙ v, every_tabulate (λ v. v < get_or S.sorts 0 0) (n * n) (same_at S n) (λ i. let z = bit_small S n i in omega arith))),
      )
  right_operation Operation.unsorted h = absurd h

  pub right_function : (f : ℕ) → IsFunc S f → RightFunc S.sorts (function_at S f)
  unfolding function_at
  right_function f h = right_operation (operation f) h
