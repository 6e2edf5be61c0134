-- What the answers to questions 8 and 9 say of both together.
use mathlib.Core.Path.{◌≡◌, refl, subst, subst⁻¹}
use mathlib.Core.Bool.{true, false}
use lib.Dec.{T}
use Rattle.pcrl.specs.Result.{refused, accepted}
use Rattle.pcrl.specs.Tests.{T?}
use Rattle.pcrl.specs.Sheet.{Sheet}
use Rattle.pcrl.specs.Sorts.{RightlySorted, rightly_sorted?}
use Rattle.pcrl.specs.Circles.{guarded}
use Rattle.laws.specs.Questions.{question_passes, question_fails}
use Rattle.sheets.specs.Reading.{judged}

module _ (H : Sheet) where
  pub refused_8 : (RightlySorted H → ⊥) → judged H ≡ refused 8
  unfolding judged
  refused_8 h = question_fails 8 (rightly_sorted? H) _ h

  pub refused_9 : RightlySorted H → false ≡ guarded H → judged H ≡ refused 9
  unfolding judged
  refused_9 h e = question_passes 8 (rightly_sorted? H) _ (refused 9) h (λ _. question_fails 9 (T? (guarded H)) _ (λ t. subst⁻¹ T e t))

  pub judged_right : RightlySorted H → true ≡ guarded H → judged H ≡ accepted H
  unfolding judged
  judged_right h e = question_passes 8 (rightly_sorted? H) _ (accepted H) h (λ _. question_passes 9 (T? (guarded H)) _ (accepted H) (subst T e tt) (λ _. refl))
