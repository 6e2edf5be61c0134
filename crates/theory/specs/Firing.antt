-- How a summand fires when a sum variable, a condition or calls are put to it: there and back.
use Rattle.std.specs.Prelude.{◌≡◌, ℕ, ◌<◌, length}
use Rattle.std.proofs.Math.Path.{refl, ap, ap₂, sym}
use Rattle.std.proofs.Common.{◌∙◌}
use mathlib.Core.List.{List, [], ◌∷◌, ◌++◌, map, map-append}
use Rattle.std.proofs.Math.Seq.{append_snoc}
use Rattle.pcrl.specs.Tests.{Every, Each}
use Rattle.pcrl.specs.Sheet.{Data, Sig, size}
use Rattle.pcrl.specs.Label.{Label}
use Rattle.pcrl.specs.Values.{eval}
use Rattle.pcrl.specs.Table.{Summand}
use Rattle.pcrl.specs.Heads.{with_var, with_cond, with_calls}
use Rattle.pcrl.specs.Stack.{Frame, InSorts, padded}
use Rattle.pcrl.specs.Steps.{Meets, call_frame, outcome, Fires}
use Rattle.theory.specs.Below.{Below, eval_more, all_eval_more}

-- calls whose variables are below m
abbrev pub CallsBelow : ℕ → List (ℕ × List Data) → Type 0
CallsBelow m cs = Every (λ (c : ℕ × List Data). Every (Below m) c.1) cs

module _ (width : ℕ) (S : Sig) (τ : List ℕ) (l : Label) where
  pub fires_var : (D : ℕ) (fs : List Frame) (h : Summand) → Fires width S τ l fs (with_var D h) → (v : ℕ) × ((v < size S D) × Fires width S (τ ++ (v ∷ [])) l fs h)
  unfolding with_var InSorts Each outcome
  fires_var D fs h r = go r.values r.in_sorts r.meets r.gives
    where
      go : (w : List ℕ) → InSorts S (D ∷ h.vars) w → Meets S (τ ++ w) h.conds → (l, fs) ≡ outcome width S (τ ++ w) (with_var D h)
          → (v : ℕ) × ((v < size S D) × Fires width S (τ ++ (v ∷ [])) l fs h)
      go [] i m e = absurd i
      go (v ∷ w) i m e = (v, (i.0, record { values = w; in_sorts = i.1; meets = rw (append_snoc τ v w) m; gives = rw (append_snoc τ v w) e }))

  pub var_fires : (D : ℕ) (fs : List Frame) (h : Summand) (v : ℕ) → v < size S D → Fires width S (τ ++ (v ∷ [])) l fs h → Fires width S τ l fs (with_var D h)
  unfolding with_var InSorts Each outcome
  var_fires D fs h v i r = record {
    values = v ∷ r.values;
    in_sorts = (i, r.in_sorts);
    meets = rw (append_snoc τ v r.values) at r.meets;
    gives = rw (append_snoc τ v r.values) at r.gives;
  }

  pub fires_cond : (w : ℕ) (c : Data) (fs : List Frame) (h : Summand) → Below (length τ) c → Fires width S τ l fs (with_cond w c h) → (eval S τ c ≡ w) × Fires width S τ l fs h
  unfolding with_cond Meets Every outcome
  fires_cond w c fs h k r = (
    sym (eval_more S τ r.values c k) ∙ r.meets.0,
    record { values = r.values; in_sorts = r.in_sorts; meets = r.meets.1; gives = r.gives },
  )

  pub cond_fires : (w : ℕ) (c : Data) (fs : List Frame) (h : Summand) → Below (length τ) c → eval S τ c ≡ w → Fires width S τ l fs h → Fires width S τ l fs (with_cond w c h)
  unfolding with_cond Meets Every outcome
  cond_fires w c fs h k e r = record
      { values = r.values; in_sorts = r.in_sorts; meets = (eval_more S τ r.values c k ∙ e, r.meets); gives = r.gives }

  frames_more : (w : List ℕ) (cs : List (ℕ × List Data)) → CallsBelow (length τ) cs → map (call_frame width S (τ ++ w)) cs ≡ map (call_frame width S τ) cs
  unfolding Every call_frame
  frames_more w [] h = refl
  frames_more w (c ∷ cs) h =
      ap₂ (λ (vs : List ℕ) (fs : List Frame). record { number = c.0; values = padded width vs } ∷ fs) (all_eval_more S τ w c.1 h.0) (frames_more w cs h.1)

  pub fires_calls : (cs : List (ℕ × List Data)) (fs : List Frame) (h : Summand) → CallsBelow (length τ) cs → Fires width S τ l fs (with_calls cs h)
      → (fs' : List Frame) × ((fs ≡ fs' ++ map (call_frame width S τ) cs) × Fires width S τ l fs' h)
  unfolding with_calls outcome
  fires_calls cs fs h k r = (
    map (call_frame width S (τ ++ r.values)) h.calls,
    (
      ap (λ (x : Label × List Frame). x.1) r.gives
          ∙ map-append _ h.calls cs
          ∙ ap (λ (t : List Frame). map (call_frame width S (τ ++ r.values)) h.calls ++ t) (frames_more r.values cs k),
      record { values = r.values; in_sorts = r.in_sorts; meets = r.meets; gives = λ i. ((r.gives i).0, map (call_frame width S (τ ++ r.values)) h.calls) },
    ),
  )

  pub calls_fires : (cs : List (ℕ × List Data)) (fs : List Frame) (h : Summand) → CallsBelow (length τ) cs → Fires width S τ l fs h
      → Fires width S τ l (fs ++ map (call_frame width S τ) cs) (with_calls cs h)
  unfolding with_calls outcome
  calls_fires cs fs h k r =
      let frames : fs ++ map (call_frame width S τ) cs ≡ map (call_frame width S (τ ++ r.values)) (h.calls ++ cs) =
      ap₂ ◌++◌ (ap (λ (x : Label × List Frame). x.1) r.gives) (sym (frames_more r.values cs k)) ∙ sym (map-append _ h.calls cs) in
      record { values = r.values; in_sorts = r.in_sorts; meets = r.meets; gives = λ i. ((r.gives i).0, frames i) }
