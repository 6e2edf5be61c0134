-- The loop's invariant: what is left to write follows from the whole, term by term.
use native.Mathlib.Omega.{arith}
use mathlib.Core.Path.{refl, ap, ◌∙◌}
use mathlib.Core.List.{[], ◌∷◌}
use Prim.Native.Nat.{ℕ}
use Rattle.rendering.specs.Texts.{given_text}
use Rattle.texts.proofs.Writing.{wrote_fits, wrote_as}
use Rattle.clauses.proofs.TermLists.{listing_none, listing_start, listing_more, listing_end}
use Rattle.clauses.proofs.data.put_terms.Goals as goal

pub returns-then-n-eq0 : goal.returns-then-n-eq0
returns-then-n-eq0 c =
    let a = c.args in
    record {
      within = record { fits = c.requires.0; same = refl; inside = omega arith };
      puts = λ S Γ Ds ds rest known short right count lettered e.
          let z = listing_none S rest a.s.now a.out.now a.at a.from ds c.requires.0 (omega arith) e in
          record { wrote = z.0; left = z.1 };
    }

pub loop-i-init : goal.loop-i-init
loop-i-init c =
    let a = c.args in (
      omega arith,
      (
        c.requires.0,
        (
          refl,
          (
            omega arith,
            λ S Γ Ds ds rest known short right count lettered e. listing_start S Γ rest a.s.now a.out.now a.at (given_text S ds) a.n Ds ds a.from right count (omega arith) e refl,
          ),
        ),
      ),
    )

pub put_byte-a-requires : goal.put_byte-a-requires
put_byte-a-requires c = c.loop-i.invariant.1.0

pub put_term-r-requires : goal.put_term-r-requires
put_term-r-requires c = (wrote_fits _ _ _ _ _ c.put_byte-a.ensures, c.requires.1)

pub loop-i-preserved : goal.loop-i-preserved
loop-i-preserved c =
    let a = c.args in
    let now = c.loop-i in
    let test = c.loop-i-test in
    let m = c.put_byte-a.ensures in
    let t = c.put_term-r in
    let inside = t.ensures.within.inside in
    let before = now.invariant.1.1.1.0 in (
      omega arith,
      (
        omega (arith, t.ensures.within.fits, t.ensures.within.same),
        (
          t.ensures.within.same ∙ m.same ∙ now.invariant.1.1.0,
          (
            omega arith,
            λ S Γ Ds ds rest known short right count lettered e.
                listing_more S Γ rest a.s.now a.out.now a.at (given_text S ds) a.n now.i now.r.from now.out now.r.at _ _ t.result.from _ _ (omega arith) now.invariant.1.0
                (wrote_as now.out now.r.at _ _ _ _ (ap (λ (b : ℕ). b ∷ []) c.led.ensures) m)
                (λ D d l h k. let z = t.ensures.puts S Γ D d l known short h lettered k in (z.wrote, z.left)) (now.invariant.1.1.1.1 S Γ Ds ds rest known short right count lettered e),
          ),
        ),
      ),
    )

pub put_byte-requires : goal.put_byte-requires
put_byte-requires c = c.loop-i.invariant.1.0

pub shape_of-out : goal.shape_of-out
shape_of-out c = let m = c.put_byte.ensures in m.same ∙ c.loop-i.invariant.1.1.0

pub returns : goal.returns
returns c =
    let a = c.args in
    let now = c.loop-i in
    let m = c.put_byte.ensures in
    record {
      within = record { fits = omega (arith, wrote_fits _ _ _ _ _ m, m.same, now.invariant.1.1.0); same = m.same ∙ now.invariant.1.1.0; inside = now.invariant.1.1.1.0 };
      puts = λ S Γ Ds ds rest known short right count lettered e.
          let z = listing_end S Γ rest a.s.now a.out.now a.at (given_text S ds) a.n now.i now.r.from now.out now.r.at _ _ (omega arith) (now.invariant.1.1.1.1 S Γ Ds ds rest known short right count lettered e) m in
          record { wrote = z.0; left = z.1 };
    }
