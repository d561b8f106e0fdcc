-- What the region of a change names is live after it.
use Rattle.std.proofs.Common.{◌≡◌, ℕ, Ok, Some, None, IsTrue, List, Option, slice_get, refl, sym, subst}
use Rattle.pm_model.specs.Containment.{Relation}
use Rattle.pm_model.specs.Effect.{effect, changed, refusal}
use Rattle.pm_model.specs.Formed.{Each, IsLive, IsNamed, IsProhibition, IsSubjectLive, IsWellFormed}
use Rattle.pm_model.specs.State.{Graph}
use Rattle.pm_model.specs.declared.prohibitions.Prohibition.{Prohibition}
use Rattle.pm_model.specs.declared.prohibitions.Subject.{Subject}
use Rattle.pm_model.specs.declared.prohibitions.Subject.TheVariants as subject
use Rattle.pm_model.specs.declared.requests.Change.{Change}
use Rattle.pm_model.specs.declared.requests.Change.TheVariants.{Create, Delete, Assign, Deassign, Associate, Dissociate, OpenSession, CloseSession, StartProcess, EndProcess, Prohibit, Lift, Oblige, Withdraw, DefineRight, Keep, DropReview}
use Rattle.pm_laws.proofs.Checks.{unless-ok}
use Rattle.pm_laws.proofs.Items.{each-all, each-at, each-to, get-contains}
use Rattle.pm_decide.specs.Live.{NamesLive, SubjectLive}
use Rattle.pm_affect.specs.Affected.{barred, region_of}
use Rattle.pm_affect.specs.Live.{RegionLive}

module _ (G : Graph) (relation : Relation) (live : (n : ℕ) → IsLive G.elements n → IsTrue (relation.live n)) where
  all-live : (ns : List ℕ) → Each (IsLive G.elements) ns → Each (λ n. IsTrue (relation.live n)) ns
  all-live ns h = each-to (IsLive G.elements) (λ n. IsTrue (relation.live n)) live ns h

  subject-live : (s : Subject ℕ ℕ) → IsSubjectLive G.elements G.procs s → SubjectLive relation s
  subject-live (subject.User n) h = live n h
  subject-live (subject.Ua n) h = live n h
  subject-live (subject.Process p) h = refl

  names-live : (p : Prohibition) → IsSubjectLive G.elements G.procs p.subject → Each (IsLive G.elements) p.inc → Each (IsLive G.elements) p.exc →
      NamesLive relation p
  names-live p s inc exc = record {
    subject = subject-live p.subject s;
    inc = each-all (λ n. IsTrue (relation.live n)) p.inc (all-live p.inc inc);
    exc = each-all (λ n. IsTrue (relation.live n)) p.exc (all-live p.exc exc);
  }

  lifted-live : (i : ℕ) (o : Option Prohibition) → slice_get G.prohibitions i ≡ o → IsWellFormed G → RegionLive relation (barred o)
  lifted-live i None is f = tt
  lifted-live i (Some p) is f =
      let h = each-at (IsProhibition G.elements G.procs G.rights) G.prohibitions p f.prohibitions.each (get-contains G.prohibitions i p is) in
      names-live p h.subject h.inc h.exc

pub region_live : (G H : Graph) (c : Change) (relation : Relation) → IsWellFormed G → IsNamed G c → effect G c ≡ Ok H →
    ((n : ℕ) → IsLive H.elements n → IsTrue (relation.live n)) → RegionLive relation (region_of G c)
region_live G H c relation f n k live =
    let p = unless-ok (refusal G c) (changed G c) H k in
    of c n (subst (λ (H : Graph). (m : ℕ) → IsLive H.elements m → IsTrue (relation.live m)) (sym p.1) live) where
      of : (c : Change) → IsNamed G c → ((m : ℕ) → IsLive (changed G c).elements m → IsTrue (relation.live m)) → RegionLive relation (region_of G c)
      of (Create id kind name into) n l = tt
      of (Delete id) n l = tt
      of (Assign x y) n l = l x n.0
      of (Deassign x y) n l = l x n.0
      of (Associate ua rights at) n l = (l ua n.0, l at n.1)
      of (Dissociate ua at) n l = (l ua n.0, l at n.1)
      of (OpenSession u) n l = tt
      of (CloseSession i) n l = tt
      of (StartProcess i) n l = tt
      of (EndProcess i) n l = tt
      of (Prohibit p) n l = names-live G relation l p n.0 n.1 n.2
      of (Lift i) n l = lifted-live G relation l i (slice_get G.prohibitions i) refl f
      of (Oblige o) n l = tt
      of (Withdraw i) n l = tt
      of (DefineRight name) n l = tt
      of (Keep review) n l = tt
      of (DropReview i) n l = tt

-- and before it
pub region_named : (G : Graph) (c : Change) (relation : Relation) → IsWellFormed G → IsNamed G c →
    ((n : ℕ) → IsLive G.elements n → IsTrue (relation.live n)) → RegionLive relation (region_of G c)
region_named G (Create id kind name into) relation f n l = tt
region_named G (Delete id) relation f n l = tt
region_named G (Assign x y) relation f n l = l x n.0
region_named G (Deassign x y) relation f n l = l x n.0
region_named G (Associate ua rights at) relation f n l = (l ua n.0, l at n.1)
region_named G (Dissociate ua at) relation f n l = (l ua n.0, l at n.1)
region_named G (OpenSession u) relation f n l = tt
region_named G (CloseSession i) relation f n l = tt
region_named G (StartProcess i) relation f n l = tt
region_named G (EndProcess i) relation f n l = tt
region_named G (Prohibit p) relation f n l = names-live G relation l p n.0 n.1 n.2
region_named G (Lift i) relation f n l = lifted-live G relation l i (slice_get G.prohibitions i) refl f
region_named G (Oblige o) relation f n l = tt
region_named G (Withdraw i) relation f n l = tt
region_named G (DefineRight name) relation f n l = tt
region_named G (Keep review) relation f n l = tt
region_named G (DropReview i) relation f n l = tt
