-- Stacks that go on as terms do: a frame like a call or a part with values, stacks on one another like a sequence.
-- The frames that the calls of a rest make are like that rest.
use Rattle.std.specs.Prelude.{◌≡◌, List, [], ◌∷◌, ◌++◌, map, ℕ, ◌+◌, ◌<◌, length}
use Rattle.std.proofs.Math.Path.{sym}
use Rattle.std.proofs.Common.{◌∙◌, arith, length-append}
use Rattle.std.proofs.lemmas.List.{map-append, length-map}
use Rattle.std.proofs.Math.Bool.{true}
use Rattle.pcrl.specs.Tests.{Every}
use Rattle.pcrl.specs.Sheet.{Data, Proc, delta, atom, alt, cond, sum, seq, call, Sheet, params}
use Rattle.pcrl.specs.Values.{eval, put_data, put, these}
use Rattle.pcrl.specs.Parts.{marks, count, as_params, NewPart, if_after, new_parts, new_count, part, kind}
use Rattle.pcrl.specs.Heads.{look, new_call, calls_of}
use Rattle.pcrl.specs.Stack.{Frame, Stack, padded}
use Rattle.pcrl.specs.Steps.{call_frame}
use Rattle.pcrl.specs.Terms.{Rest, done, still}
use Rattle.laws.specs.Lists.{map_twice}
use Rattle.laws.specs.Every.{every_append}
use Rattle.theory.specs.Substitution.{eval_look, eval_these}
use Rattle.theory.specs.Below.{Below, all_below_look}
use Rattle.theory.specs.Marks.{put_marked, marks_length, marked_length, marked_map, marked_every}
use Rattle.theory.specs.Segments.{Seg}
use Rattle.theory.specs.Formed.{Formed, Placed, seq_first, seq_rest}
use Rattle.theory.specs.TermSteps.{before}
use Rattle.theory.specs.Firing.{CallsBelow}

-- a frame with its spare values
abbrev pub frame_with : ℕ → ℕ → List ℕ → Frame
frame_with width e vs = record { number = e; values = padded width vs }

-- a part with the values vs for its equation's parameters
abbrev pub part_with : Sheet → NewPart → List ℕ → Proc
part_with H x vs = put (these (map (eval H.sig vs) (as_params (marks (length x.scope) x.term) 0))) x.term

module _ (H : Sheet) where
  -- arguments are worth the same, put into a head or into a closed term
  pub same_worth : (σ : List Data) (τ : List ℕ) (d : Data) → eval H.sig [] (put_data (these (map (eval H.sig τ) σ)) d) ≡ eval H.sig τ (put_data (look σ) d)
  same_worth σ τ d = eval_these H.sig _ d ∙ sym (eval_look H.sig τ σ d)

  pub same_args : (σ : List Data) (τ : List ℕ) (ds : List Data)
      → map (eval H.sig τ) (map (put_data (look σ)) ds) ≡ map (eval H.sig []) (map (put_data (these (map (eval H.sig τ) σ))) ds)
  same_args σ τ ds = map_twice _ _ _ (eval_look H.sig τ σ) ds ∙ sym (map_twice _ _ _ (eval_these H.sig (map (eval H.sig τ) σ)) ds)

module _ (width : ℕ) (H : Sheet) where
  -- The data of a call need not be values, and sequences may be bracketed in any way: both come up in terms.
  pub data Like : Stack → Proc → Type 0 where
    a_call : (k : ℕ) (ds : List Data) → k < length H.procs → length ds ≡ length (params H k) → Like (frame_with width k (map (eval H.sig []) ds) ∷ []) (call k ds)
    a_part : (e : ℕ) (x : NewPart) (vs : List ℕ) → kind H e ≡ part x → length vs ≡ count (marks (length x.scope) x.term) → Like (frame_with width e vs ∷ []) (part_with H x vs)
    join : {s t : Stack} {p q : Proc} → Like s p → Like t q → Like (s ++ t) (seq p q)

  -- with the empty stack, like the ended process
  pub data LikeRest : Stack → Rest → Type 0 where
    nothing_left : LikeRest [] done
    something_left : {s : Stack} {p : Proc} → Like s p → LikeRest s (still p)

  pub like_some : {s : Stack} {p : Proc} → Like s p → 0 < length s
  like_some (a_call k ds w e) = omega arith
  like_some (a_part e x vs w h) = omega arith
  like_some (join {s} {t} r u) = simp length-append (omega (arith, like_some r))

  pub like_before : {s t : Stack} (r : Rest) {q : Proc} → LikeRest s r → Like t q → LikeRest (s ++ t) (before q r)
  unfolding before
  like_before done nothing_left k = something_left k
  like_before (still p) (something_left h) k = something_left (join h k)

  -- THE CALLS OF A REST

  new_call_like : (σ : List Data) (τ Γ : List ℕ) (e : ℕ) (q : Proc) → length Γ ≡ length σ → kind H e ≡ part (record { scope = Γ; term = q })
      → Like (map (call_frame width H.sig τ) (new_call σ e q)) (put (these (map (eval H.sig τ) σ)) q)
  unfolding new_call call_frame
  new_call_like σ τ Γ e q g k =
      rw (← g, marked_map (eval H.sig τ) (marks (length Γ) q) σ)
      (rw (rw (length-map σ (eval H.sig τ), ← g) at (put_marked H.sig (map (eval H.sig τ) σ) q))
      (a_part e (record { scope = Γ; term = q }) _ k (marked_length (marks (length Γ) q) (map (eval H.sig τ) σ) (length-map σ (eval H.sig τ) ∙ sym g ∙ sym (marks_length (length Γ) q)))))

  pub calls_like : (σ : List Data) (τ Γ : List ℕ) (c : ℕ) (q : Proc) → Placed H true σ (length τ) Γ c q
      → Like (map (call_frame width H.sig τ) (calls_of σ c q)) (put (these (map (eval H.sig τ) σ)) q)
  unfolding calls_of Seg Formed put call_frame new_parts if_after
  calls_like σ τ Γ c delta at = new_call_like σ τ Γ c delta at.as_many at.segment.0
  calls_like σ τ Γ c (atom a ds) at = new_call_like σ τ Γ c (atom a ds) at.as_many at.segment.0
  calls_like σ τ Γ c (alt p q) at = new_call_like σ τ Γ c (alt p q) at.as_many at.segment.0
  calls_like σ τ Γ c (cond d p q) at = new_call_like σ τ Γ c (cond d p q) at.as_many at.segment.0
  calls_like σ τ Γ c (sum x D p) at = new_call_like σ τ Γ c (sum x D p) at.as_many at.segment.0
  calls_like σ τ Γ c (seq p q) at =
      rw (map-append (call_frame width H.sig τ) (calls_of σ c p) (calls_of σ (c + new_count true p) q))
      (join (calls_like σ τ Γ c p (seq_first H at)) (calls_like σ τ Γ (c + new_count true p) q (seq_rest H at)))
  calls_like σ τ Γ c (call k ds) at = rw (same_args H σ τ ds) (a_call k _ at.formed.0 (length-map ds _ ∙ at.formed.1))

-- their variables are below the next one
pub calls_below : (m : ℕ) (σ : List Data) → Every (Below m) σ → (c : ℕ) (q : Proc) → CallsBelow m (calls_of σ c q)
unfolding Every calls_of new_call
calls_below m σ h c delta = (marked_every (Below m) _ σ h, tt)
calls_below m σ h c (atom a ds) = (marked_every (Below m) _ σ h, tt)
calls_below m σ h c (alt p q) = (marked_every (Below m) _ σ h, tt)
calls_below m σ h c (cond d p q) = (marked_every (Below m) _ σ h, tt)
calls_below m σ h c (sum x D p) = (marked_every (Below m) _ σ h, tt)
calls_below m σ h c (seq p q) = every_append _ (calls_of σ c p) (calls_of σ (c + new_count true p) q) (calls_below m σ h c p) (calls_below m σ h (c + new_count true p) q)
calls_below m σ h c (call k ds) = (all_below_look m σ h ds, tt)
