-- One sign ahead: which way a reader takes where a sign stands next, and where it does not.
use Rattle.std.specs.Prelude.{◌≡◌, refl, List, [], ◌∷◌, Bool, true, false, T}
use Prim.Native.String.{String}
use Rattle.pcrl.specs.Tokens.{Token, the, is?}
use Rattle.pcrl.specs.Reader.{found}
use Rattle.pcrl.specs.Grammar.{Reads, on, expect}
use Rattle.laws.specs.Tests.{where_yes}

-- The sign does not stand next.
unfoldable pub absent : String → List Token → Bool
absent s [] = true
absent s (t ∷ ts) = elim (is? s t) [ yes e ↦ false | no h ↦ true ]

pub on_sign : {A : Type 0} (s : String) (behind other : Reads A) (ts : List Token) → on s behind other (the s ∷ ts) ≡ behind ts
unfolding on
on_sign s behind other ts = where_yes (is? s (the s)) refl (behind ts) (other (the s ∷ ts))

pub on_absent : {A : Type 0} (s : String) (behind other : Reads A) (ts : List Token) → T (absent s ts) → on s behind other ts ≡ other ts
unfolding on absent
on_absent s behind other [] h = refl
on_absent s behind other (t ∷ ts) h = by (is? s t) h
  where
    by : (d : Dec (t ≡ the s)) → T (elim d [ yes e ↦ false | no k ↦ true ]) → elim d [ yes e ↦ behind ts | no k ↦ other (t ∷ ts) ] ≡ other (t ∷ ts)
    by (yes e) f = absurd f
    by (no k) f = refl

pub expect_sign : (s : String) (ts : List Token) → expect s (the s ∷ ts) ≡ found tt ts
unfolding expect
expect_sign s ts = on_sign s _ _ ts
