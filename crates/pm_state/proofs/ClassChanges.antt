-- The list of classes stays that of the graph.
use Rattle.std.proofs.Common.{◌≡◌, ◌==◌, ℕ, Bool, true, false, not, filter, List, [], ◌∷◌, refl, sym, ◌∙◌, ap, Ok}
use Rattle.pm_model.specs.State.{Graph, element, is_class, is_numbered, classes_in}
use Rattle.pm_model.specs.Effect.{effect, refusal, changed}
use Rattle.pm_model.specs.Formed.{IsWellFormed}
use Rattle.pm_model.specs.declared.elements.Element.{Element}
use Rattle.pm_model.specs.declared.requests.Change.{Change}
use Rattle.pm_model.specs.declared.requests.Change.TheVariants as change
use Rattle.pm_laws.proofs.Checks.{unless-ok}
use Rattle.pm_state.specs.Classes.{classes_after, without_number}
use Rattle.pm_state.proofs.PlacedClasses.{classes-placed}

-- the elements but one
abbrev without_element : ℕ → List Element → List Element
without_element n es = filter (λ e. not (is_numbered n e)) es

classes-without : (n : ℕ) (es : List Element) → classes_in (without_element n es) ≡ without_number n (classes_in es)
classes-without n [] = refl
classes-without n (e ∷ es) = of (is_class e) (e.number == n) refl refl (classes-without n es) where
  of : (t b : Bool) → is_class e ≡ t → (e.number == n) ≡ b → classes_in (without_element n es) ≡ without_number n (classes_in es) →
      classes_in (without_element n (e ∷ es)) ≡ without_number n (classes_in (e ∷ es))
  of true true is at rest = rw (at, is) (rw at rest)
  of true false is at rest = rw (at, is) (rw at (ap (λ l. e.number ∷ l) rest))
  of false true is at rest = rw (at, is) rest
  of false false is at rest = rw (at, is) rest

made-classes : (G : Graph) (c : Change) → IsWellFormed G → classes_in (changed G c).elements ≡ classes_after c (classes_in G.elements)
made-classes G (change.Create id kind name into) f = classes-placed (element id kind name) G.elements 0 f.elements.rising
made-classes G (change.Delete id) f = classes-without id G.elements
made-classes G (change.Assign x y) f = refl
made-classes G (change.Deassign x y) f = refl
made-classes G (change.Associate u r t) f = refl
made-classes G (change.Dissociate u t) f = refl
made-classes G (change.OpenSession u) f = refl
made-classes G (change.CloseSession n) f = refl
made-classes G (change.StartProcess n) f = refl
made-classes G (change.EndProcess n) f = refl
made-classes G (change.Prohibit p) f = refl
made-classes G (change.Lift i) f = refl
made-classes G (change.Oblige o) f = refl
made-classes G (change.Withdraw i) f = refl
made-classes G (change.DefineRight name) f = refl
made-classes G (change.Keep of) f = refl
made-classes G (change.DropReview n) f = refl

-- the list that a change leaves is the classes of the new graph
pub classes-kept : (G H : Graph) (c : Change) (old new : List ℕ) → IsWellFormed G → effect G c ≡ Ok H → old ≡ classes_in G.elements →
    new ≡ classes_after c old → new ≡ classes_in H.elements
classes-kept G H c old new f e was is =
    let made : changed G c ≡ H = (unless-ok (refusal G c) (changed G c) H e).1 in
    is ∙ ap (classes_after c) was ∙ sym (made-classes G c f) ∙ ap (λ (K : Graph). classes_in K.elements) made
