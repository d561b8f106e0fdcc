-- What well formed comes to, in the standard's words.
use Rattle.std.proofs.Common.{◌≡◌, ℕ, [], ◌++◌, true, false, refl, Contains}
use Rattle.pm_model.specs.State.{Graph, is_class}
use Rattle.pm_model.specs.Containment.{IsContained}
use Rattle.pm_model.specs.Formed.{JoinsKinds, IsWellFormed}
use Rattle.pm_model.specs.Formed as formed
use Rattle.pm_model.specs.declared.elements.Kind.{Kind}
use Rattle.pm_model.specs.declared.elements.Kind.TheVariants.{User, Ua, Object, Oa, Pc}
use Rattle.pm_model.specs.declared.elements.Element.{Element}
use Rattle.pm_model.proofs.ContainmentLaws.{Leads-append, path-from_contained}
use Rattle.pm_laws.specs.Meaning.{IsJoined, IsPartialOrder, IsInClass}
use Rattle.pm_laws.proofs.Items.{each-at}
use Rattle.pm_laws.proofs.Numbers.{live-found}
use Rattle.pm_laws.proofs.Ends.{joins-live}
use Rattle.pm_laws.proofs.Shape.{contained-antisymmetric, class-found}

pub assignment_is_joined : (G : Graph) (x y : ℕ) → IsWellFormed G → Contains G.assigned (x, y) → IsJoined G x y
assignment_is_joined G x y f c =
    let fits = each-at (JoinsKinds G.elements) G.assigned (x, y) f.assigned.kinds c in
    let live = joins-live G.elements x y fits in
    let a = live-found G.elements x live.0 in
    let b = live-found G.elements y live.1 in
    (a.0, b.0, a.1, b.1, rw (a.1, b.1) at fits)

pub containment_is_partial_order : (G : Graph) → IsWellFormed G → IsPartialOrder (IsContained G.assigned)
containment_is_partial_order G f = record {
  reflexive = λ x. ([], refl);
  transitive = λ x y z p q. (p.0 ++ q.0, Leads-append G.assigned x p.0 y q.0 z p.1 q.1);
  antisymmetric = contained-antisymmetric G.assigned f.assigned.acyclic;
}

class-is : (e : Element) → is_class e ≡ true → e.kind ≡ Pc
class-is e h = of e.kind refl h where
  of : (k : Kind) → e.kind ≡ k → is_class e ≡ true → e.kind ≡ Pc
  of Pc is h = is
  of User is h = absurd (let no : is_class e ≡ false = rw is refl in cc)
  of Ua is h = absurd (let no : is_class e ≡ false = rw is refl in cc)
  of Object is h = absurd (let no : is_class e ≡ false = rw is refl in cc)
  of Oa is h = absurd (let no : is_class e ≡ false = rw is refl in cc)

pub element_is_in_class : (G : Graph) (e : Element) → IsWellFormed G → Contains G.elements e → IsInClass G e
element_is_in_class G e f c =
    let p = class-found G.elements G.assigned e (each-at (formed.IsInClass G.elements G.assigned) G.elements e f.assigned.classes c) in
    (p.0, p.1, class-is p.0 p.2, path-from_contained G.assigned e.number p.0.number p.3)
