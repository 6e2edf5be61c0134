-- What tokens are rendered as, piece by piece: before a mark, and before anything.
use Rattle.std.specs.Prelude.{◌≡◌, refl, List, [], ◌∷◌, ◌++◌, true, false, ℕ, eqb, get_or}
use Rattle.std.proofs.Common.{sym, ap, subst, ◌∙◌, append_assoc}
use Rattle.std.proofs.Math.Decide.{ℕ_discrete}
use Rattle.pcrl.specs.Text.{bytes, byte}
use Rattle.pcrl.specs.Tests.{same?, among}
use Rattle.pcrl.specs.Bytes.{name_byte}
use Rattle.pcrl.specs.Tokens.{Token, name, sign, the, words}
use Rattle.pcrl.specs.Render.{blank_byte, write, render}
use Rattle.rendering.specs.Rendering.{Avoids, avoids_append, Marked, Unequal, Lone, equals_before, before_mark, mark_before, word_before}

-- the tokens are rendered as t, where a mark or nothing follows
pub record Renders (ts : List Token) (t : List ℕ) : Type 0 where
  pub so : (us : List Token) → Marked us → render (ts ++ us) ≡ t ++ render us

-- whatever follows
pub record RendersAll (ts : List Token) (t : List ℕ) : Type 0 where
  pub so : (us : List Token) → render (ts ++ us) ≡ t ++ render us

pub nothing : Renders [] []
nothing = record { so = λ us m. refl }

-- one token
pub token : (t : Token) → Lone t → Renders (t ∷ []) (write t)
token t l = record { so = λ us m. before_mark t l us m }

-- one piece and another that begins with a mark
pub joins : {ts us : List Token} {t u : List ℕ} → Renders ts t → Marked us → Renders us u → Renders (ts ++ us) (t ++ u)
joins {ts} {us} {t} {u} f k g = record {
  so = λ vs m.
      ap render (append_assoc ts us vs)
      ∙ f.so (us ++ vs) (avoids_append name_byte us vs k m)
      ∙ ap (λ (l : List ℕ). t ++ l) (g.so vs m)
      ∙ sym (append_assoc t u (render vs));
}

-- a mark but `=` before a piece
pub mark : (w : List ℕ) → among w (bytes "=" ∷ words) ≡ false → {ts : List Token} {t : List ℕ} → Renders ts t → Renders (sign w ∷ ts) (w ++ t)
mark w e {ts} {t} f = record { so = λ us m. mark_before w e (ts ++ us) ∙ ap (λ (l : List ℕ). w ++ l) (f.so us m) ∙ sym (append_assoc w t (render us)) }

-- a piece before a mark
pub closed : {ts : List Token} {t : List ℕ} → Renders ts t → (w : List ℕ) → among w (bytes "=" ∷ words) ≡ false → name_byte (get_or w 0 0) ≡ false → RendersAll (ts ++ (sign w ∷ [])) (t ++ w)
unfolding Avoids write
closed {ts} {t} f w e k = record {
  so = λ us.
      ap render (append_assoc ts (sign w ∷ []) us)
      ∙ f.so (sign w ∷ us) k
      ∙ ap (λ (l : List ℕ). t ++ l) (mark_before w e us)
      ∙ sym (append_assoc t w (render us));
}

-- two pieces with `=` between, before `;`
pub equated : {ts us : List Token} {t u : List ℕ} → Renders ts t → Renders us u → Unequal us → RendersAll ((ts ++ (the "=" ∷ us)) ++ (the ";" ∷ [])) (t ++ (bytes "=" ++ (u ++ bytes ";")))
unfolding Avoids write among words same? ℕ_discrete
equated {ts} {us} {t} {u} f g h = record {
  so = λ vs.
      ap render (append_assoc (ts ++ (the "=" ∷ us)) (the ";" ∷ []) vs ∙ append_assoc ts (the "=" ∷ us) (the ";" ∷ vs))
      ∙ f.so (the "=" ∷ (us ++ (the ";" ∷ vs))) refl
      ∙ ap (λ (l : List ℕ). t ++ l) (equals_before (us ++ (the ";" ∷ vs)) (avoids_append (λ b. eqb b (byte "=")) us (the ";" ∷ vs) h refl) ∙ ap (λ (l : List ℕ). bytes "=" ++ l) (g.so (the ";" ∷ vs) refl ∙ ap (λ (l : List ℕ). u ++ l) (mark_before (bytes ";") refl vs)))
      ∙ simp append_assoc;
}

pub before_mark_too : {ts : List Token} {t : List ℕ} → RendersAll ts t → Renders ts t
before_mark_too f = record { so = λ us m. f.so us }

-- a word, a blank and a name
pub word : (w n : List ℕ) → among w words ≡ true → name_byte (get_or n 0 0) ≡ true → {ts : List Token} {t : List ℕ} → RendersAll (name n ∷ ts) t → RendersAll (sign w ∷ name n ∷ ts) (w ++ (blank_byte ∷ t))
word w n e k {ts} {t} f = record { so = λ us. word_before w n (ts ++ us) e k ∙ ap (λ (l : List ℕ). w ++ (blank_byte ∷ l)) (f.so us) ∙ sym (append_assoc w (blank_byte ∷ t) (render us)) }

-- nothing, and one piece and another, whatever follows
pub nothing_all : RendersAll [] []
nothing_all = record { so = λ us. refl }

pub joins_all : {ts us : List Token} {t u : List ℕ} → RendersAll ts t → RendersAll us u → RendersAll (ts ++ us) (t ++ u)
joins_all {ts} {us} {t} {u} f g = record { so = λ vs. ap render (append_assoc ts us vs) ∙ f.so (us ++ vs) ∙ ap (λ (l : List ℕ). t ++ l) (g.so vs) ∙ sym (append_assoc t u (render vs)) }

-- another name of the same bytes
pub all_bytes : {ts : List Token} {t u : List ℕ} → t ≡ u → RendersAll ts t → RendersAll ts u
all_bytes {ts} e f = subst (RendersAll ts) e f
