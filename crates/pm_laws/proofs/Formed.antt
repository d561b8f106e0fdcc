-- A change keeps well formed: a lemma for each table in the graph, and a clause of `formed-changed` for each change.
use Rattle.std.proofs.Common.{◌≡◌, ◌≤◌, ◌<◌, ◌||◌, ℕ, List, [], ◌∷◌, ◌++◌, length, map, Some, None, false, not, refl, subst, arith, Ok, remove}
use Rattle.std.specs.List.{list_any}
use Rattle.std.proofs.lemmas.Bool.{leb-false, ltb-false, not-false, or_parts}
use Rattle.pm_model.specs.State.{Graph, element, is_named, opening, opening_elements, opening_assigned, root}
use Rattle.pm_model.specs.Sessions.{Procs, is_session_of, opening_procs, processes_of, with_session, without_session, with_process, without_process}
use Rattle.pm_model.specs.Prohibitions.{without_processes, names_element}
use Rattle.pm_model.specs.Obligations.{concerns}
use Rattle.pm_model.specs.KeptReviews.{KeptReview, new_review, reviews, unkept, with_review, without_review}
use Rattle.pm_model.specs.LastChanges.{settled_review, with_changes}
use Rattle.pm_model.specs.RightSet.{opening_rights}
use Rattle.pm_model.specs.Containment.{contained}
use Rattle.pm_model.specs.Effect.{refusal, changed, effect, checks, max_elements, placed, with_assignment, joins, has_child, has_end, is_in_use}
use Rattle.pm_model.specs.Resolve.{unused}
use Rattle.pm_model.specs.Formed.{Each, IsWellFormed, IsAcyclic, IsNamed, AreElements, AreAssigned, AreAssociations, AreProhibitions, AreObligations, AreRights, AreProcs, AreKept, StandsAssigned}
use Rattle.pm_model.specs.declared.elements.Element.{Element}
use Rattle.pm_model.specs.declared.rights.Association.{Association}
use Rattle.pm_model.specs.declared.prohibitions.Prohibition.{Prohibition}
use Rattle.pm_model.specs.declared.obligations.Obligation.{Obligation}
use Rattle.pm_model.specs.declared.requests.Change.{Change}
use Rattle.pm_model.specs.declared.requests.Change.TheVariants as change
use Rattle.pm_laws.proofs.Items.{contains-none}
use Rattle.pm_laws.proofs.Checks.{passed, unless-ok}
use Rattle.pm_laws.proofs.Numbers.{length-placed, rising-placed}
use Rattle.pm_laws.proofs.Names.{names-placed}
use Rattle.pm_laws.proofs.Shape.{IsWithin, acyclic-added}
use Rattle.pm_laws.proofs.Assigned.{within-added, assigned-added, assigned-without, assigned-placed, assigned-under}
use Rattle.pm_laws.proofs.Associations.{associations-joined, associations-kept, associations-placed, associations-rights, associations-none}
use Rattle.pm_laws.proofs.RightNames.{rights-more, rights-opening}
use Rattle.pm_laws.proofs.Procs.{procs-opened, procs-closed, procs-started, procs-ended, procs-placed}
use Rattle.pm_laws.proofs.Prohibitions.{prohibitions-pushed, prohibitions-removed, prohibitions-none, prohibitions-placed, prohibitions-rights, prohibitions-opened, prohibitions-started, prohibitions-left, process-kept, process-left}
use Rattle.pm_laws.proofs.Obligations.{obligations-pushed, obligations-removed, obligations-none, obligations-placed}
use Rattle.pm_laws.proofs.KeptReviews.{kept-more, kept-less, kept-none, kept-placed, kept-settled}
use Rattle.pm_laws.proofs.Deleted.{elements-left, assigned-left, associations-left, procs-left, prohibitions-unnamed, obligations-unnamed, kept-unnamed, opening-left}
use Rattle.pm_laws.proofs.Opening.{opening-placed, opening-within, opening-without}

-- ---- elements

pub elements-placed : (es : List Element) (x : Element) → AreElements es → x.number ≡ unused es →
    list_any (is_named x.name) es ≡ false → length es < max_elements → AreElements (placed x es)
elements-placed es x h u free room = let l = length-placed x es in record {
  rising = rising-placed x 0 es h.rising u;
  named = names-placed es x h.named free;
  few = omega (arith, l, room);
}

-- ---- the graph with another list in one table

pub with-assigned : (G : Graph) (pairs : List (ℕ × ℕ)) → IsWellFormed G → AreAssigned G.elements pairs →
    Each (StandsAssigned pairs) opening_assigned → IsWellFormed (record G { assigned = pairs })
with-assigned G pairs f h o = record {
  elements = f.elements;
  assigned = h;
  associations = f.associations;
  prohibitions = f.prohibitions;
  obligations = f.obligations;
  rights = f.rights;
  procs = f.procs;
  kept = f.kept;
  opening = record { elements = f.opening.elements; assigned = o };
}

pub with-associations : (G : Graph) (associations : List Association) → IsWellFormed G → AreAssociations G.elements G.rights associations →
    IsWellFormed (record G { associations = associations })
with-associations G associations f h = record {
  elements = f.elements;
  assigned = f.assigned;
  associations = h;
  prohibitions = f.prohibitions;
  obligations = f.obligations;
  rights = f.rights;
  procs = f.procs;
  kept = f.kept;
  opening = f.opening;
}

pub with-prohibitions : (G : Graph) (ps : List Prohibition) → IsWellFormed G → AreProhibitions G.elements G.procs G.rights ps →
    IsWellFormed (record G { prohibitions = ps })
with-prohibitions G ps f h = record {
  elements = f.elements;
  assigned = f.assigned;
  associations = f.associations;
  prohibitions = h;
  obligations = f.obligations;
  rights = f.rights;
  procs = f.procs;
  kept = f.kept;
  opening = f.opening;
}

pub with-obligations : (G : Graph) (os : List Obligation) → IsWellFormed G → AreObligations G.elements os →
    IsWellFormed (record G { obligations = os })
with-obligations G os f h = record {
  elements = f.elements;
  assigned = f.assigned;
  associations = f.associations;
  prohibitions = f.prohibitions;
  obligations = h;
  rights = f.rights;
  procs = f.procs;
  kept = f.kept;
  opening = f.opening;
}

pub with-kept : (G : Graph) (ks : List KeptReview) → IsWellFormed G → AreKept G.elements ks → IsWellFormed (record G { kept = ks })
with-kept G ks f h = record {
  elements = f.elements;
  assigned = f.assigned;
  associations = f.associations;
  prohibitions = f.prohibitions;
  obligations = f.obligations;
  rights = f.rights;
  procs = f.procs;
  kept = h;
  opening = f.opening;
}

-- with other sessions and processes, and the prohibitions that are left
pub with-procs : (G : Graph) (P : Procs) (ps : List Prohibition) → IsWellFormed G → AreProcs G.elements P →
    AreProhibitions G.elements P G.rights ps → IsWellFormed (record G { procs = P; prohibitions = ps })
with-procs G P ps f h k = record {
  elements = f.elements;
  assigned = f.assigned;
  associations = f.associations;
  prohibitions = k;
  obligations = f.obligations;
  rights = f.rights;
  procs = h;
  kept = f.kept;
  opening = f.opening;
}

-- with a right more
pub with-right : (G : Graph) (name : List ℕ) → IsWellFormed G → AreRights (G.rights ++ name ∷ []) →
    IsWellFormed (record G { rights = G.rights ++ name ∷ [] })
with-right G name f h = record {
  elements = f.elements;
  assigned = f.assigned;
  associations = associations-rights G.elements G.rights name G.associations f.associations;
  prohibitions = prohibitions-rights G.elements G.procs G.rights name G.prohibitions f.prohibitions;
  obligations = f.obligations;
  rights = h;
  procs = f.procs;
  kept = f.kept;
  opening = f.opening;
}

-- with an element more, and maybe assignments of it
pub with-element : (G : Graph) (x : Element) (pairs : List (ℕ × ℕ)) → IsWellFormed G → x.number ≡ unused G.elements →
    AreElements (placed x G.elements) → AreAssigned (placed x G.elements) pairs → IsWithin G.assigned pairs →
    IsWellFormed (record G { elements = placed x G.elements; assigned = pairs })
with-element G x pairs f u e h more = record {
  elements = e;
  assigned = h;
  associations = associations-placed G.elements G.rights x G.associations f.elements u f.associations;
  prohibitions = prohibitions-placed G.elements x G.procs G.rights G.prohibitions f.elements u f.prohibitions;
  obligations = obligations-placed G.elements x G.obligations f.elements u f.obligations;
  rights = f.rights;
  procs = procs-placed G.elements x G.procs f.elements u f.procs;
  kept = kept-placed G.elements x G.kept f.elements u f.kept;
  opening = record {
    elements = opening-placed x G.elements f.elements.rising u f.opening.elements;
    assigned = opening-within G.assigned pairs more f.opening.assigned;
  };
}

-- without an element that nothing is assigned to and nothing else names
pub without-element : (G : Graph) (id : ℕ) → IsWellFormed G → 3 ≤ id → has_child G.assigned id ≡ false → is_in_use G id ≡ false →
    IsWellFormed (changed G (change.Delete id))
without-element G id f later empty free = record {
  elements = elements-left id G.elements f.elements;
  assigned = assigned-left id G.elements G.assigned empty f.assigned;
  associations = associations-left id G.elements G.rights G.associations named.0 f.associations;
  prohibitions = prohibitions-unnamed id G.elements G.procs G.rights G.prohibitions named.1 f.prohibitions;
  obligations = obligations-unnamed id G.elements G.obligations lists.1 f.obligations;
  rights = f.rights;
  procs = procs-left id G.elements G.procs most.1 f.procs;
  kept = kept-unnamed id G.elements G.kept all.1 f.kept;
  opening = opening-left id G.elements G.assigned later f.opening;
} where
  all : ((list_any (has_end id) G.associations || list_any (names_element id) G.prohibitions || list_any (concerns id) G.obligations
      || list_any (is_session_of id) G.procs.sessions) ≡ false)
      × (list_any (reviews id) G.kept ≡ false)
  all = or_parts _ _ free

  most : ((list_any (has_end id) G.associations || list_any (names_element id) G.prohibitions || list_any (concerns id) G.obligations) ≡ false)
      × (list_any (is_session_of id) G.procs.sessions ≡ false)
  most = or_parts _ _ all.0

  lists : ((list_any (has_end id) G.associations || list_any (names_element id) G.prohibitions) ≡ false)
      × (list_any (concerns id) G.obligations ≡ false)
  lists = or_parts _ _ most.0

  named : (list_any (has_end id) G.associations ≡ false) × (list_any (names_element id) G.prohibitions ≡ false)
  named = or_parts _ _ lists.0

-- ---- changes

pub formed-changed : (G : Graph) (c : Change) → IsWellFormed G → IsNamed G c → refusal G c ≡ None → IsWellFormed (changed G c)
formed-changed G (change.Create id kind name None) f n r =
    let x = element id kind name in
    let p = passed (checks G (change.Create id kind name None)) r in
    with-element G x G.assigned f n.0 (elements-placed G.elements x f.elements n.0 p.1.0 (leb-false _ _ p.1.1.0))
    (assigned-placed G.elements x G.assigned f.elements n.0 f.assigned n.1) (λ a b there. there)
formed-changed G (change.Create id kind name (Some c)) f n r =
    let x = element id kind name in
    let p = passed (checks G (change.Create id kind name (Some c))) r in
    with-element G x _ f n.0 (elements-placed G.elements x f.elements n.0 p.1.0 (leb-false _ _ p.1.1.0))
    (assigned-under G.elements x G.assigned c f.elements n.0 f.assigned (not-false _ p.0) (leb-false _ _ p.1.1.1.0))
    (within-added G.assigned id c)
formed-changed G (change.Delete id) f n r =
    let p = passed (checks G (change.Delete id)) r in without-element G id f (ltb-false id 3 p.0) p.1.0 p.1.1.0
formed-changed G (change.Assign x y) f n r =
    let p = passed (checks G (change.Assign x y)) r in
    with-assigned G _ f (assigned-added G.elements G.assigned x y f.assigned (not-false _ p.0) p.1.0 p.1.1.0 (leb-false _ _ p.1.1.1.0))
    (opening-within G.assigned (with_assignment (x, y) G.assigned) (within-added G.assigned x y) f.opening.assigned)
formed-changed G (change.Deassign x y) f n r =
    let p = passed (checks G (change.Deassign x y)) r in
    with-assigned G _ f (assigned-without G.elements G.assigned x y f.assigned (not-false _ p.1.0) p.1.1.0)
    (opening-without G.assigned x y p.0 f.opening.assigned)
formed-changed G (change.Associate u r t) f n e =
    let p = passed (checks G (change.Associate u r t)) e in
    with-associations G _ f (associations-joined G.elements G.rights G.associations (record { ua = u; rights = r; at = t }) f.associations
    (not-false _ p.0) n.2 p.1.0 (leb-false _ _ p.1.1.0))
formed-changed G (change.Dissociate u t) f n e =
    with-associations G _ f (associations-kept G.elements G.rights G.associations (λ a. not (joins u t a)) f.associations)
formed-changed G (change.OpenSession u) f n r =
    let p = passed (checks G (change.OpenSession u)) r in
    with-procs G (with_session u G.procs) G.prohibitions f (procs-opened G.elements G.procs u f.procs (not-false _ p.0) (leb-false _ _ p.1.0))
    (prohibitions-opened G.elements G.procs G.rights u G.prohibitions f.prohibitions)
formed-changed G (change.CloseSession n) f _ r =
    let p = passed (checks G (change.CloseSession n)) r in
    with-procs G (without_session n G.procs) (without_processes (processes_of G.procs n) G.prohibitions) f
    (procs-closed G.elements G.procs n f.procs p.0)
    (prohibitions-left G.elements G.procs (without_session n G.procs) G.rights (processes_of G.procs n) G.prohibitions
    (process-left G.procs n) f.prohibitions)
formed-changed G (change.StartProcess n) f _ r =
    let p = passed (checks G (change.StartProcess n)) r in
    with-procs G (with_process n G.procs) G.prohibitions f
    (procs-started G.elements G.procs n f.procs (not-false _ p.0) (leb-false _ _ p.1.0))
    (prohibitions-started G.elements G.procs G.rights n G.prohibitions f.prohibitions)
formed-changed G (change.EndProcess n) f _ r =
    let p = passed (checks G (change.EndProcess n)) r in
    with-procs G (without_process n G.procs) (without_processes (n ∷ []) G.prohibitions) f
    (procs-ended G.elements G.procs n f.procs p.0)
    (prohibitions-left G.elements G.procs (without_process n G.procs) G.rights (n ∷ []) G.prohibitions
    (process-kept G.procs n) f.prohibitions)
formed-changed G (change.Prohibit q) f n r =
    let p = passed (checks G (change.Prohibit q)) r in
    with-prohibitions G (G.prohibitions ++ q ∷ []) f
    (prohibitions-pushed G.elements G.procs G.rights G.prohibitions q f.prohibitions
    (record { subject = n.0; inc = n.1; exc = n.2; named = n.3; ranged = p.1.1.0 }) p.1.0 (leb-false _ _ p.1.1.1.0))
formed-changed G (change.Lift i) f n r =
    with-prohibitions G (remove G.prohibitions i) f (prohibitions-removed G.elements G.procs G.rights G.prohibitions i f.prohibitions n)
formed-changed G (change.Oblige o) f n r =
    let p = passed (checks G (change.Oblige o)) r in
    with-obligations G (G.obligations ++ o ∷ []) f
    (obligations-pushed G.elements G.obligations o f.obligations
    (record { author = n.0; user = not-false _ p.0; target = n.2 }) p.1.0 (leb-false _ _ p.1.1.0))
formed-changed G (change.Withdraw i) f n r =
    with-obligations G (remove G.obligations i) f (obligations-removed G.elements G.obligations i f.obligations n)
formed-changed G (change.DefineRight name) f _ r =
    let p = passed (checks G (change.DefineRight name)) r in
    with-right G name f (rights-more G.rights name f.rights (or_parts _ _ p.0).0 (leb-false _ _ p.1.0))
formed-changed G (change.Keep of) f n r =
    let p = passed (checks G (change.Keep of)) r in
    with-kept G (with_review (new_review (unkept G.kept) of) G.kept) f
    (kept-more G.elements G.kept of f.kept n (not-false _ p.0) p.1.0 (leb-false _ _ p.1.1.0))
formed-changed G (change.DropReview n) f _ r = with-kept G (without_review n G.kept) f (kept-less G.elements G.kept n f.kept)

-- what an effect gives is well formed
pub formed-effect : (G H : Graph) (c : Change) → IsWellFormed G → IsNamed G c → effect G c ≡ Ok H → IsWellFormed H
formed-effect G H c f n e = let p = unless-ok (refusal G c) (changed G c) H e in subst IsWellFormed p.1 (formed-changed G c f n p.0)

-- what the last changes of kept reviews are does not matter
pub formed-settled : (G H : Graph) (version : ℕ) → IsWellFormed H → IsWellFormed (with_changes G version H)
formed-settled G H version f = with-kept H (map (settled_review G H version) H.kept) f (kept-settled G H version H.elements H.kept f.kept)

-- ---- the graph at the start

acyclic-none : IsAcyclic []
acyclic-none x z rest l = contains-none (x, z) l.0

pub formed-opening : IsWellFormed opening.graph
unfolding contained
formed-opening = record {
  elements = record {
    rising = (omega arith, (omega arith, (omega arith, tt)));
    named = (refl, (refl, (refl, tt)));
    few = omega arith;
  };
  assigned = record {
    kinds = (refl, (refl, tt));
    once = (refl, (refl, tt));
    acyclic = acyclic-added ((1, 0) ∷ []) 2 1 (acyclic-added [] 1 0 acyclic-none (λ up. cc)) (λ up. cc);
    classes = (refl, (refl, (refl, tt)));
    few = omega arith;
  };
  associations = associations-none opening_elements opening_rights;
  prohibitions = prohibitions-none opening_elements (opening_procs root) opening_rights;
  obligations = obligations-none opening_elements;
  rights = rights-opening;
  procs = record {
    numbered = record { sessions = (omega arith, omega arith); processes = (omega arith, omega arith) };
    users = (refl, tt);
    in_sessions = (refl, tt);
    opening_session = refl;
    opening_process = refl;
    few_sessions = omega arith;
    few_processes = omega arith;
  };
  kept = kept-none opening_elements;
  opening = record { elements = (refl, (refl, (refl, tt))); assigned = (refl, (refl, tt)) };
}
