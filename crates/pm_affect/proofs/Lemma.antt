-- A pair outside the region keeps its rights, change by change.
use Rattle.std.proofs.Common.{◌≡◌, ◌==◌, ◌<◌, ◌≤◌, ◌&&◌, ℕ, Bool, true, false, not, Ok, None, Some, Option, List, [], ◌∷◌, ◌++◌, refl, sym, ap, ◌∙◌, subst, inl, inr, slice_get, length, filter, remove, arith}
use Rattle.std.proofs.lemmas.Bool.{false_from_ne_true, false≢true, or_parts, and_parts, eqb-true, eqb-false, not-false}
use Rattle.pm_model.specs.State.{Graph, element, is_numbered, classes_in}
use Rattle.pm_model.specs.Containment.{contained}
use Rattle.pm_model.specs.Sessions.{Procs, processes_of, without_session, without_process}
use Rattle.pm_model.specs.Prohibitions.{without_processes, is_process_in}
use Rattle.pm_model.specs.Decision.{forbids, meets, range_by, applies_by}
use Rattle.pm_model.specs.Effect.{effect, changed, refusal, checks, joins, joined, placed, has_child, with_assignment}
use Rattle.pm_model.specs.Resolve.{unused}
use Rattle.pm_model.specs.Reviews.{rights_in}
use Rattle.pm_model.specs.Formed.{IsLive, IsWellFormed, IsNamed}
use Rattle.pm_model.specs.declared.elements.Element.{Element}
use Rattle.pm_model.specs.declared.rights.Association.{Association}
use Rattle.pm_model.specs.declared.prohibitions.Prohibition.{Prohibition}
use Rattle.pm_model.specs.declared.prohibitions.Subject.{Subject}
use Rattle.pm_model.specs.declared.prohibitions.Subject.TheVariants as subject
use Rattle.pm_model.specs.declared.requests.Change.{Change}
use Rattle.pm_model.specs.declared.requests.Change.TheVariants.{Create, Delete, Assign, Deassign, Associate, Dissociate, OpenSession, CloseSession, StartProcess, EndProcess, Prohibit, Lift, Oblige, Withdraw, DefineRight, Keep, DropReview}
use Rattle.std.proofs.lemmas.Option.{slice_get_cases}
use Rattle.std.proofs.lemmas.List.Elements.{filter_agree}
use Rattle.pm_model.proofs.ContainmentLaws.{contained-trans}
use Rattle.pm_laws.proofs.Checks.{passed, unless-ok}
use Rattle.pm_laws.proofs.Numbers.{live-apart}
use Rattle.pm_laws.proofs.Shape.{IsWithin, contained-live}
use Rattle.pm_laws.proofs.Assigned.{within-added, without-within, within-without}
use Rattle.pm_laws.proofs.Deleted.{left_pairs}
use Rattle.pm_laws.proofs.Pairs.{without}
use Rattle.pm_affect.specs.Affected.{is_in, barred, region, region_after}
use Rattle.pm_affect.proofs.Agree.{rights-agree, rights-associations, rights-prohibitions, meets-not, forbids-not}
use Rattle.pm_affect.proofs.Passing.{any-push, any-remove, any-filter, any-joined, picked-placed, picked-filter}
use Rattle.pm_affect.proofs.Moved.{under-same, outside-same, above-outside, added-within, left-same, left-apart}

-- what is live isn't contained in the number of a new element
new-apart : (G : Graph) (x e : ℕ) → IsWellFormed G → x ≡ unused G.elements → IsLive G.elements e → contained G.assigned e x ≡ false
new-apart G x e f u live = false_from_ne_true (contained G.assigned e x) (λ up.
    live-apart G.elements x f.elements.rising (contained-live G.elements G.assigned f.assigned.kinds e x up live) u)

module _ (G : Graph) (u e : ℕ) where
  abbrev now : ℕ → ℕ → Bool
  now = contained G.assigned

  -- an assignment of x more, and maybe an element that isn't among the classes that contain e
  added : (x y : ℕ) (es : List Element) → now u x ≡ false → now e x ≡ false →
      filter (now e) (classes_in es) ≡ filter (now e) (classes_in G.elements) →
      rights_in (record G { elements = es; assigned = with_assignment (x, y) G.assigned }) u e ≡ rights_in G u e
  added x y es out_u out_e same =
      rights-agree now (contained more) u e (λ q. moved u q out_u) (λ q. moved e q out_e)
      (λ a q up. moved a q (above-outside G.assigned more x y sub one e a out_e up))
      G.associations G.prohibitions (classes_in G.elements) (classes_in es)
      (filter_agree _ _ (λ pc. moved e pc out_e) (classes_in es) ∙ same) where
        more : List (ℕ × ℕ)
        more = with_assignment (x, y) G.assigned

        sub : IsWithin G.assigned more
        sub = within-added G.assigned x y

        one : IsWithin more ((x, y) ∷ G.assigned)
        one = added-within G.assigned x y

        moved : (p q : ℕ) → now p x ≡ false → contained more p q ≡ now p q
        moved p q out = outside-same G.assigned more x y sub one p q out

  -- an assignment of x less
  taken : (x y : ℕ) → now u x ≡ false → now e x ≡ false →
      rights_in (record G { assigned = without x y G.assigned }) u e ≡ rights_in G u e
  taken x y out_u out_e =
      rights-agree now (contained less) u e (λ q. moved u q out_u) (λ q. moved e q out_e)
      (λ a q up. moved a q (above-not a up))
      G.associations G.prohibitions (classes_in G.elements) (classes_in G.elements)
      (filter_agree _ _ (λ pc. moved e pc out_e) (classes_in G.elements)) where
        less : List (ℕ × ℕ)
        less = without x y G.assigned

        sub : IsWithin less G.assigned
        sub = without-within G.assigned x y

        one : IsWithin G.assigned ((x, y) ∷ less)
        one = within-without G.assigned x y

        moved : (p q : ℕ) → now p x ≡ false → contained less p q ≡ now p q
        moved p q out = sym (outside-same less G.assigned x y sub one p q (sym (under-same less G.assigned x y sub one p) ∙ out))

        above-not : (a : ℕ) → now e a ≡ true → now a x ≡ false
        above-not a up = false_from_ne_true (now a x) (λ k. false≢true (sym out_e ∙ contained-trans G.assigned e a x up k))

  -- an element less, and its assignments
  left : (id : ℕ) → has_child G.assigned id ≡ false → (u == id) ≡ false → (e == id) ≡ false →
      rights_in (changed G (Delete id)) u e ≡ rights_in G u e
  left id none out_u out_e =
      rights-agree now (contained (left_pairs id G.assigned)) u e
      (λ q. left-same id G.assigned none u q (eqb-false u id out_u)) (λ q. left-same id G.assigned none e q not_e)
      (λ a q up. left-same id G.assigned none a q (left-apart id G.assigned none e a not_e up))
      G.associations G.prohibitions (classes_in G.elements) (classes_in (filter stays G.elements))
      (filter_agree _ _ (λ pc. left-same id G.assigned none e pc not_e) (classes_in (filter stays G.elements))
      ∙ picked-filter (now e) stays G.elements gone) where
        not_e : e ≡ id → ⊥
        not_e = eqb-false e id out_e

        stays : Element → Bool
        stays x = not (is_numbered id x)

        gone : (x : Element) → stays x ≡ false → now e x.number ≡ false
        gone x goes = false_from_ne_true (now e x.number) (λ up.
            left-apart id G.assigned none e x.number not_e up (eqb-true x.number id (not-false _ goes)))

  -- prohibitions on processes gone
  ended : (processes : List ℕ) (P : Procs) →
      rights_in (record G { procs = P; prohibitions = without_processes processes G.prohibitions }) u e ≡ rights_in G u e
  ended processes P =
      rights-prohibitions now u e G.associations G.prohibitions (without_processes processes G.prohibitions) (classes_in G.elements)
      (λ r. any-filter (forbids now u None r e) (λ (p : Prohibition). not (is_process_in processes p.subject)) G.prohibitions
      (λ p gone. forbids-not now u e p r (ap (λ b. b && range_by now p.mode p.inc p.exc e) (of p.subject (not-false _ gone))))) where
        of : (s : Subject ℕ ℕ) → is_process_in processes s ≡ true → applies_by now u None s ≡ false
        of (subject.User n) h = absurd (cc)
        of (subject.Ua n) h = absurd (cc)
        of (subject.Process n) h = refl

  -- an association that passes the pair by
  beside : (u' t : ℕ) → (now u u' && now e t) ≡ false → (a : Association) → a.ua ≡ u' → a.at ≡ t → (r pc : ℕ) → meets now u r e pc a ≡ false
  beside u' t out a first second r pc = meets-not now u e a r pc (rw (first, second) out)

  lifted : (i : ℕ) (o : Option Prohibition) → slice_get G.prohibitions i ≡ o → i < length G.prohibitions → is_in now (barred o) u e ≡ false →
      rights_in (changed G (Lift i)) u e ≡ rights_in G u e
  lifted i (Some p) is below out =
      rights-prohibitions now u e G.associations G.prohibitions (remove G.prohibitions i) (classes_in G.elements)
      (λ r. any-remove (forbids now u None r e) G.prohibitions i p is (forbids-not now u e p r out))
  lifted i None is below out = elim (slice_get_cases G.prohibitions i).1 [
    | inl some ↦ absurd (let stands : slice_get G.prohibitions i ≡ Some some.0 = some.2 in cc)
    | inr past ↦ absurd (let length_below : length G.prohibitions ≤ i = past.0 in omega (arith, below, length_below))
  ]

outside-changed : (G : Graph) (c : Change) (u e : ℕ) → IsWellFormed G → IsNamed G c → refusal G c ≡ None →
    IsLive G.elements u → IsLive G.elements e → region G c u e ≡ false → rights_in (changed G c) u e ≡ rights_in G u e
outside-changed G (Create id kind name None) u e f n r lu le out =
    rights-agree (contained G.assigned) (contained G.assigned) u e (λ q. refl) (λ q. refl) (λ a q up. refl)
    G.associations G.prohibitions (classes_in G.elements) (classes_in (placed (element id kind name) G.elements))
    (picked-placed (contained G.assigned e) (element id kind name) G.elements (new-apart G id e f n.0 le))
outside-changed G (Create id kind name (Some c)) u e f n r lu le out =
    added G u e id c (placed (element id kind name) G.elements) (new-apart G id u f n.0 lu) (new-apart G id e f n.0 le)
    (picked-placed (contained G.assigned e) (element id kind name) G.elements (new-apart G id e f n.0 le))
outside-changed G (Delete id) u e f n r lu le out =
    let p = passed (checks G (Delete id)) r in
    let q = or_parts (u == id) (e == id) out in left G u e id p.1.0 q.0 q.1
outside-changed G (Assign x y) u e f n r lu le out =
    let q = or_parts (contained G.assigned u x) (contained G.assigned e x) out in added G u e x y G.elements q.0 q.1 refl
outside-changed G (Deassign x y) u e f n r lu le out =
    let q = or_parts (contained G.assigned u x) (contained G.assigned e x) out in taken G u e x y q.0 q.1
outside-changed G (Associate ua rights at) u e f n k lu le out =
    let a : Association = record { ua = ua; rights = rights; at = at } in
    rights-associations (contained G.assigned) u e G.associations (joined a G.associations) G.prohibitions (classes_in G.elements)
    (λ r pc. any-joined (meets (contained G.assigned) u r e pc) a G.associations (meets-not (contained G.assigned) u e a r pc out))
outside-changed G (Dissociate ua at) u e f n k lu le out =
    rights-associations (contained G.assigned) u e G.associations (filter (λ a. not (joins ua at a)) G.associations) G.prohibitions (classes_in G.elements)
    (λ r pc. any-filter (meets (contained G.assigned) u r e pc) (λ a. not (joins ua at a)) G.associations
    (λ a gone.
    let ends = and_parts (a.ua == ua) (a.at == at) (not-false _ gone) in
    beside G u e ua at out a (eqb-true a.ua ua ends.0) (eqb-true a.at at ends.1) r pc))
outside-changed G (OpenSession n) u e f _ r lu le out = refl
outside-changed G (CloseSession n) u e f _ r lu le out = ended G u e (processes_of G.procs n) (without_session n G.procs)
outside-changed G (StartProcess n) u e f _ r lu le out = refl
outside-changed G (EndProcess n) u e f _ r lu le out = ended G u e (n ∷ []) (without_process n G.procs)
outside-changed G (Prohibit p) u e f n k lu le out =
    rights-prohibitions (contained G.assigned) u e G.associations G.prohibitions (G.prohibitions ++ p ∷ []) (classes_in G.elements)
    (λ r. any-push (forbids (contained G.assigned) u None r e) G.prohibitions p (forbids-not (contained G.assigned) u e p r out))
outside-changed G (Lift i) u e f n k lu le out = lifted G u e i (slice_get G.prohibitions i) refl n out
outside-changed G (Oblige o) u e f n k lu le out = refl
outside-changed G (Withdraw i) u e f n k lu le out = refl
outside-changed G (DefineRight name) u e f n k lu le out = refl
outside-changed G (Keep of) u e f n k lu le out = refl
outside-changed G (DropReview i) u e f n k lu le out = refl

pub rights_outside : (G H : Graph) (c : Change) (u e : ℕ) → IsWellFormed G → IsNamed G c → effect G c ≡ Ok H → IsLive G.elements u → IsLive G.elements e →
    IsLive H.elements u → IsLive H.elements e → region G c u e ≡ false → rights_in H u e ≡ rights_in G u e
rights_outside G H c u e f n k lu le lu' le' out =
    let p = unless-ok (refusal G c) (changed G c) H k in
    subst (λ H. rights_in H u e ≡ rights_in G u e) p.1 (outside-changed G c u e f n p.0 lu le out)

pub region_kept : (G H : Graph) (c : Change) (u e : ℕ) → IsWellFormed G → IsNamed G c → effect G c ≡ Ok H →
    region_after G H c u e ≡ region G c u e
region_kept G H c u e f n k =
    let p = unless-ok (refusal G c) (changed G c) H k in
    subst (λ H. region_after G H c u e ≡ region G c u e) p.1 (of c) where
      of : (c : Change) → region_after G (changed G c) c u e ≡ region G c u e
      of (Create id kind name into) = refl
      of (Delete id) = refl
      of (Assign x y) = rw (still u, still e) refl where
        still : (p : ℕ) → contained (with_assignment (x, y) G.assigned) p x ≡ contained G.assigned p x
        still = under-same G.assigned (with_assignment (x, y) G.assigned) x y (within-added G.assigned x y) (added-within G.assigned x y)
      of (Deassign x y) = rw (← still u, ← still e) refl where
        still : (p : ℕ) → contained G.assigned p x ≡ contained (without x y G.assigned) p x
        still = under-same (without x y G.assigned) G.assigned x y (without-within G.assigned x y) (within-without G.assigned x y)
      of (Associate ua rights at) = refl
      of (Dissociate ua at) = refl
      of (OpenSession n) = refl
      of (CloseSession n) = refl
      of (StartProcess n) = refl
      of (EndProcess n) = refl
      of (Prohibit p) = refl
      of (Lift i) = refl
      of (Oblige o) = refl
      of (Withdraw i) = refl
      of (DefineRight name) = refl
      of (Keep review) = refl
      of (DropReview i) = refl
