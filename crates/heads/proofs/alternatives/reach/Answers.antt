-- `heads::alternatives::reach` meets its contract: each round goes into one side.
use native.Mathlib.Omega.{arith}
use Rattle.heads.proofs.Reaching.{reached_on, reached_more}
use Rattle.heads.proofs.alternatives.reach.Goals as goal

pub pass_idle-p-requires : goal.pass_idle-p-requires
pass_idle-p-requires c = c.requires

pub node_at-d-requires : goal.node_at-d-requires
node_at-d-requires c = c.pass_idle-p.ensures.1

pub first_part-a-requires : goal.first_part-a-requires
first_part-a-requires c = c.requires.1

pub loop-q-init : goal.loop-q-init
loop-q-init c = let a = c.args in let p = c.pass_idle-p.ensures in let f = c.first_part-a.ensures in record { inside = p.1; on = c.node_at-d.ensures.on; views = c.node_at-d.ensures.views; far = f.heads_le_most_heads.2; counted = f.counts; few = f.heads_le_most_heads.1; small = omega arith; light = c.weigh-work.ensures; reaches = p.2 a.heads }

pub passed-own-requires : goal.passed-own-requires
passed-own-requires c = let i = c.loop-q.invariant in (i.small, i.few)

pub weigh-work-requires-in-Some : goal.weigh-work-requires-in-Some
weigh-work-requires-in-Some c = c.loop-q.invariant.light

pub pass_idle-r-requires : goal.pass_idle-r-requires
pass_idle-r-requires c = (c.in-Some.ensures.0, c.requires.1)

pub node_at-d-requires-in-Some : goal.node_at-d-requires-in-Some
node_at-d-requires-in-Some c = c.pass_idle-r.ensures.1

pub first_part-a-requires-in-Some : goal.first_part-a-requires-in-Some
first_part-a-requires-in-Some c = c.requires.1

pub loop-q-smaller : goal.loop-q-smaller
loop-q-smaller c = let i = c.loop-q.invariant in let p = c.pass_idle-r.ensures in let on = reached_on i c.in-Some.ensures.1 in omega (arith, on, p.0, p.1, i.inside)

pub loop-q-preserved : goal.loop-q-preserved
loop-q-preserved c =
    let i = c.loop-q.invariant in
    let a = c.args in
    let p = c.pass_idle-r in
    let n = c.node_at-d-in-Some.ensures in
    let f = c.first_part-a-in-Some.ensures in
    let o = c.passed-own in
    record {
      inside = p.ensures.1;
      on = n.on;
      views = n.views;
      far = f.heads_le_most_heads.2;
      counted = f.counts;
      few = f.heads_le_most_heads.1;
      small = o.ensures.0;
      light = c.weigh-work-in-Some-2.ensures;
      reaches = reached_more i c.in-Some.ensures.1 p.result o.result o.ensures (p.ensures.2 a.heads);
    }

pub weigh-work-requires-in-Some-2 : goal.weigh-work-requires-in-Some-2
weigh-work-requires-in-Some-2 c = c.weigh-work-in-Some.ensures

pub weigh-requires : goal.weigh-requires
weigh-requires c = c.loop-q.invariant.light

pub returns : goal.returns
returns c = let i = c.loop-q.invariant in record { inside = i.inside; reaches = i.reaches; counted = λ h. i.counted (omega (arith, i.on.on)) h }
