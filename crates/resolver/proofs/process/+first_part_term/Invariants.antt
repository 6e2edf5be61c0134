use mathlib.Core.Path.{◌≡◌}
use Prim.Native.Nat.{◌+◌, ◌*◌, ◌-◌, ◌≤◌}
use lib.ListN.{length}
use Rattle.names.specs.NameList.{names_in, kinds_in}
use Rattle.nodes.specs.Scoped.{max_scope}
use Rattle.resolver.specs.Sorting.{ScopeKept}
use Rattle.resolver.proofs.TermLaws.{TermLeft}
use Rattle.resolver.proofs.process.+first_part_term.Given as goal

abbrev pub decreases-first_part : goal.decreases-first_part
decreases-first_part l = 2 * (length l.raw.now - l.from.at)

abbrev pub decreases-term : goal.decreases-term
decreases-term l = 2 * (length l.raw.now - l.from.at) + 1

abbrev pub invariant-term-loop-p : goal.invariant-term-loop-p
invariant-term-loop-p l = ((l.initial.p ≤ l.p) × (l.n ≤ l.m) × (l.p ≤ length l.raw → l.m ≤ max_scope) × (length l.scope ≡ length l.initial.scope) × (length l.out ≡ length l.initial.out)) × ScopeKept l.n l.initial.scope l.scope × TermLeft l.s l.raw (names_in l.declared) (kinds_in l.declared) l.initial.scope l.n l.initial.p l.after l.initial.v l.initial.out l.p l.m l.r l.v l.scope l.out

abbrev pub decreases-term-loop-p : goal.decreases-term-loop-p
decreases-term-loop-p l = length l.raw - l.p
