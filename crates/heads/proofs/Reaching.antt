-- From a place on to another one, for every spot there.
use mathlib.Core.Path.{◌≡◌, refl, sym, subst}
use mathlib.Core.List.{List}
use mathlib.Core.Bool.{true}
use mathlib.Core.Logic.{◌⊎◌, inl, inr}
use Prim.Native.Nat.{ℕ, ◌+◌, ◌*◌, ◌%◌, ◌<◌, ◌≤◌}
use native.Mathlib.Omega.{arith}
use lib.ListN.{length}
use Rattle.nodes.specs.declared.Node.{Node}
use Rattle.nodes.specs.Layout.{byte_limit, alt_kind}
use Rattle.nodes.specs.Views.{On, Views}
use Rattle.counting.specs.declared.Counted.{Counted}
use Rattle.counting.specs.Limits.{most_heads, row_width, row}
use Rattle.counting.specs.Counting.{Counts}
use Rattle.contexts.specs.declared.Spot.{Spot}
use Rattle.heads.specs.Progress.{Parted, Looked, side_spot, Behind, Past}
use Rattle.heads.specs.Memory.{work_limit, spot_on, Reaches, OnlySide, Passed}
use Rattle.heads.proofs.Passing.{past_then, past_second, past_first}

module _ (cells counts : List ℕ) (base heads : ℕ) where
  -- another way to say where
  pub reaches_by : {p q n r m : ℕ} → q ≡ r → n ≡ m → Reaches cells counts base heads p q n → Reaches cells counts base heads p r m
  reaches_by {p} {q} {n} {r} {m} e f k = subst (λ (x : ℕ). Reaches cells counts base heads p x m) e (subst (λ (x : ℕ). Reaches cells counts base heads p q x) f k)

  -- the same spot, said by its place and its number
  past_here : (s : Spot) (c : ℕ) → s.c ≡ c → Past cells counts heads s (side_spot s (record { second = true; at = s.at; c = c }))
  past_here s c e = subst (λ (x : ℕ). Past cells counts heads s (side_spot s (record { second = true; at = s.at; c = x }))) e (record {
    fuel_same = refl;
    further = omega arith;
    deeper = record { n_on = omega arith; nv_on = omega arith; lc_on = omega arith; top_on = omega arith };
    small = λ l. l;
    stays = λ lk ls b. record { fuel_small = b.fuel_small; n_small = b.n_small; n_room = b.n_room; m_small = b.m_small; c_small = b.c_small; nv_few = b.nv_few; nc_few = b.nc_few; lc_few = b.lc_few; nk_few = b.nk_few; top_in = b.top_in; top_room = b.top_room };
    spotted = λ H F A hs few t many sp. (
      sp.0,
      record {
        ctx = let c = sp.1.ctx in record { σ = c.σ; vs = c.vs; cs = c.cs; ks = c.ks; held = c.held; vars_are = c.vars_are; vars_many = c.vars_many; conds_are = c.conds_are; conds_many = c.conds_many; conds_small = c.conds_small; calls_are = c.calls_are; calls_many = c.calls_many; calls_small = c.calls_small };
        b = sp.1.b;
        rest = sp.1.rest;
        place = sp.1.place;
        first = sp.1.first;
        fine = sp.1.fine;
        fuel_left = sp.1.fuel_left;
        equations_left = sp.1.equations_left;
        are = sp.1.are;
      },
    );
  })

  pub reaches_same : (p : ℕ) → Reaches cells counts base heads p p 0
  reaches_same p s e f small = subst (λ (x : ℕ). Past cells counts heads s (spot_on s x 0)) e (past_here s ((s.c + 0) % byte_limit) (omega arith))

  pub reaches_then : {p q r : ℕ} (n m : ℕ) → Reaches cells counts base heads p q n → Reaches cells counts base heads q r m → Reaches cells counts base heads p r ((n + m) % byte_limit)
  reaches_then {p} {q} {r} n m k l s e f small =
      let c : ((s.c + n) % byte_limit + m) % byte_limit ≡ (s.c + (n + m) % byte_limit) % byte_limit = omega arith in
      subst (λ (x : ℕ). Past cells counts heads s (side_spot s (record { second = true; at = r; c = x }))) c (past_then cells counts heads s (spot_on s q n) (spot_on (spot_on s q n) r m) (k s e f small) (l (spot_on s q n) refl f (omega arith)))

  -- into one side of `+`
  module _ (p : ℕ) (d : Node) (a : Counted) (inside : p < length cells) (on : On p d) (vw : Views cells p d) (is : d.kind ≡ alt_kind) (far : d.next ≤ a.next) (ct : Counts cells (row base counts) d.next a) where
    looked : (s : Spot) → s.at ≡ p → row_width * s.fuel ≡ base → Looked cells counts (record { s = s; d = d; a = a })
    looked s e f = record {
      inside = omega arith;
      on = subst (λ (x : ℕ). On x d) (sym e) on;
      views = subst (λ (x : ℕ). Views cells x d) (sym e) vw;
      counts_first = λ t. (far, subst (λ (x : ℕ). Counts cells (row x counts) d.next a) (sym f) ct);
    }

    pub reaches_second : a.heads ≡ 0 → Reaches cells counts base heads p a.next a.own
    reaches_second none s e f small = past_second cells counts heads (record { s = s; d = d; a = a }) (looked s e f) is none ((s.c + a.own) % byte_limit) (omega arith) (λ l. omega arith)

    pub reaches_first : heads ≤ a.heads → Reaches cells counts base heads p d.next 0
    reaches_first All_first s e f small =
        let k = past_first cells counts heads (record { s = s; d = d; a = a }) (looked s e f) is All_first small in
        let same : s.c ≡ (s.c + 0) % byte_limit = omega arith in
        subst (λ (x : ℕ). Past cells counts heads s (side_spot s (record { second = true; at = d.next; c = x }))) same k

    -- on to where the passing goes on
    pub reaches_side : {at q r : ℕ} (n m : ℕ) → Reaches cells counts base heads at p n → n < byte_limit → OnlySide d a heads q → Passed a n m → Reaches cells counts base heads q r 0 → Reaches cells counts base heads at r m
    reaches_side {at} {q} {r} n m k small (is', inl (none, e)) ps l =
        let same : ((n + a.own) % byte_limit + 0) % byte_limit ≡ m = omega (arith, ps.1 none) in
        reaches_by refl same (reaches_then ((n + a.own) % byte_limit) 0 (reaches_then n a.own k (reaches_second none)) (subst (λ (x : ℕ). Reaches cells counts base heads x r 0) e l))
    reaches_side {at} {q} {r} n m k small (is', inr (some, most, e)) ps l =
        let same : ((n + 0) % byte_limit + 0) % byte_limit ≡ m = omega (arith, ps.2 some) in
        reaches_by refl same (reaches_then ((n + 0) % byte_limit) 0 (reaches_then n 0 k (reaches_first most)) (subst (λ (x : ℕ). Reaches cells counts base heads x r 0) e l))

  -- past what is idle
  pub reaches_idle : {at p q : ℕ} → p < length cells → Reaches cells counts base heads at p 0 → Behind cells (row base counts) p q → Reaches cells counts base heads at q 0
  reaches_idle {at} {p} {q} inside k bh = reaches_by refl refl (reaches_then 0 0 k (reaches_second p bh.d (record { next = q; heads = 0; own = 0 }) inside bh.on bh.views bh.is bh.further bh.counted refl))

-- where the passing from `at` on is: the node there, and the count of its first part
pub record Reached (cells counts : List ℕ) (base heads at p : ℕ) (d : Node) (a : Counted) (own work : ℕ) : Type 0 where
  pub inside : p < length cells
  pub on : On p d
  pub views : Views cells p d
  pub far : Parted d.kind → d.next ≤ a.next
  pub counted : 0 < d.next → d.next ≤ a.next → Counts cells (row base counts) d.next a
  pub few : a.own ≤ most_heads
  pub small : own < byte_limit
  pub light : work ≤ work_limit
  pub reaches : Reaches cells counts base heads at p own

module _ {cells counts : List ℕ} {base heads at p : ℕ} {d : Node} {a : Counted} {own work q : ℕ} (i : Reached cells counts base heads at p d a own work) (os : OnlySide d a heads q) where
  pub reached_on : p < q
  reached_on = further os.1
    where
      far : d.next ≤ a.next
      far = i.far (inl (inl os.0))

      further : ((a.heads ≡ 0) × (q ≡ a.next)) ⊎ ((0 < a.heads) × (heads ≤ a.heads) × (q ≡ d.next)) → p < q
      further (inl (none, e)) = omega (arith, i.on.on, far)
      further (inr (some, most, e)) = omega (arith, i.on.on)

  pub reached_more : (r m : ℕ) → Passed a own m → Reaches cells counts base heads q r 0 → Reaches cells counts base heads at r m
  reached_more r m ps l =
      let far = i.far (inl (inl os.0)) in
      reaches_side cells counts base heads p d a i.inside i.on i.views os.0 far (i.counted (omega (arith, i.on.on)) far) own m i.reaches i.small os ps l
