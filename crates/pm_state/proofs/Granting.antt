-- What a decision asks about is live: both ends of each association, as the table keeps them, and what prohibitions name.
use Rattle.std.proofs.Common.{◌≡◌, ◌<◌, ◌++◌, ◌∷◌, ℕ, Bool, List, [], length, ◌+◌, IsTrue, is_some, arith}
use Rattle.std.specs.List.{All}
use Rattle.std.proofs.lemmas.List.Elements.{All-cons, All-nil}
use Rattle.pm_model.specs.Containment.{Relation}
use Rattle.pm_model.specs.State.{Graph, element_at}
use Rattle.pm_model.specs.Decision.{of_grantee, associations_of}
use Rattle.pm_model.specs.Formed.{Each, IsWellFormed}
use Rattle.pm_model.specs.declared.rights.Association.{Association}
use Rattle.pm_model.specs.declared.rights.Grant.{Grant}
use Rattle.pm_model.specs.declared.rights.Grantee.{Grantee}
use Rattle.pm_assoc.specs.Grantees.{AreGrantees, grantee}
use Rattle.pm_decide.specs.Live.{GranteeLive, EndsLive, NamesLive, BarsLive}
use Rattle.pm_laws.proofs.Items.{each-all, each-to}
use Rattle.pm_laws.proofs.Live.{NamesIn, ends-live, prohibitions-live}

each-left : {X : Type 0} (P : X → Type 0) (xs ys : List X) → Each P (xs ++ ys) → Each P xs
each-left P [] ys h = tt
each-left P (x ∷ xs) ys h = (h.0, each-left P xs ys h.1)

each-right : {X : Type 0} (P : X → Type 0) (xs ys : List X) → Each P (xs ++ ys) → Each P ys
each-right P [] ys h = h
each-right P (x ∷ xs) ys h = each-right P xs ys h.1

module _ (relation : Relation) where
  abbrev HasEnds : Association → Type 0
  HasEnds a = IsTrue (relation.live a.ua) × IsTrue (relation.live a.at)

  places-live : (ua : ℕ) (hs : List Grant) → Each HasEnds (of_grantee (grantee ua hs)) →
      All (λ (h : Grant). IsTrue (relation.live h.at)) hs
  places-live ua [] e = All-nil (λ (h : Grant). IsTrue (relation.live h.at))
  places-live ua (h ∷ hs) e = All-cons (λ (h : Grant). IsTrue (relation.live h.at)) h hs e.0.1 (places-live ua hs e.1)

  attribute-live : (ua : ℕ) (hs : List Grant) → 0 < length hs →
      Each HasEnds (of_grantee (grantee ua hs)) → IsTrue (relation.live ua)
  attribute-live ua [] some e = absurd (omega (arith, some))
  attribute-live ua (h ∷ hs) some e = e.0.0

  grantees-live : (n : ℕ) (gs : List Grantee) → AreGrantees n gs →
      Each HasEnds (associations_of gs) → EndsLive relation gs
  grantees-live n [] kept e = All-nil (GranteeLive relation)
  grantees-live n (g ∷ gs) kept e =
      let first = each-left _ (of_grantee g) (associations_of gs) e in
      All-cons (GranteeLive relation) g gs
      (record { ua = attribute-live g.ua g.grants kept.1 first; places = places-live g.ua g.grants first })
      (grantees-live (g.ua + 1) gs kept.2 (each-right _ (of_grantee g) (associations_of gs) e))

-- so it is in a well formed graph
pub table-live : (G : Graph) (below : ℕ → ℕ → Bool) (gs : List Grantee) → IsWellFormed G → AreGrantees 0 gs → associations_of gs ≡ G.associations →
    EndsLive (record { live = λ n. is_some (element_at G.elements n); below = below }) gs
table-live G below gs f kept is =
    grantees-live (record { live = λ n. is_some (element_at G.elements n); below = below }) 0 gs kept (rw (is) (ends-live G f))

pub bars-live : (G : Graph) (below : ℕ → ℕ → Bool) → IsWellFormed G →
    BarsLive (record { live = λ n. is_some (element_at G.elements n); below = below }) G.prohibitions
bars-live G below f =
    let relation : Relation = record { live = λ n. is_some (element_at G.elements n); below = below } in
    each-all (NamesLive relation) G.prohibitions
    (each-to (NamesIn relation.live) (NamesLive relation) (λ p h. record { subject = h.0; inc = h.1; exc = h.2 }) G.prohibitions (prohibitions-live G f))
