-- What commands ask for: live elements and administrative rights, all of which the root user has. A command is ruled to
-- be its change exactly where its names are found and each capability that the change asks for is allowed.
use Rattle.std.proofs.Common.{◌≡◌, ◌↔◌, ◌<◌, ℕ, List, [], ◌∷◌, ◌++◌, length, Option, Some, None, IfSome, IsSome, Ok, true, refl, subst, arith, unwrap_or, nat_le}
use Rattle.std.specs.List.{slice_get}
use Rattle.std.proofs.lemmas.Bool.{and_parts, leb-true}
use Rattle.std.proofs.lemmas.Option.{slice_get-get_or}
use Rattle.pm_model.specs.State.{Graph, root}
use Rattle.pm_model.specs.Sessions.{user_of}
use Rattle.pm_model.specs.Resolve.{resolve}
use Rattle.pm_model.specs.KeptReviews.{KeptReview, kept_at}
use Rattle.pm_model.specs.Authority.{right_to_create, to_prohibit_to, subject_element, prohibited_at, watched_at, obliged_at, kept_of, required, is_administrative, denial_in, denied_unless, first_denied, permitted, ruling}
use Rattle.pm_model.specs.Formed.{Each, IsLive, IsUser, IsNamed, IsWellFormed, IsSubjectLive, IsProhibition, IsObligation}
use Rattle.pm_model.specs.declared.elements.Kind.{Kind}
use Rattle.pm_model.specs.declared.elements.Kind.TheVariants.{User, Ua, Object, Oa, Pc}
use Rattle.pm_model.specs.declared.events.Pattern.{Pattern}
use Rattle.pm_model.specs.declared.obligations.Obligation.{Obligation}
use Rattle.pm_model.specs.declared.prohibitions.Prohibition.{Prohibition}
use Rattle.pm_model.specs.declared.prohibitions.Subject.{Subject}
use Rattle.pm_model.specs.declared.prohibitions.Subject.TheVariants as subject
use Rattle.pm_model.specs.declared.requests.Command.{Command}
use Rattle.pm_model.specs.declared.requests.Change.{Change}
use Rattle.pm_model.specs.declared.requests.Change.TheVariants as change
use Rattle.pm_model.specs.declared.replies.Reason.{Reason}
use Rattle.pm_model.specs.declared.replies.Refusal.{Refusal}
use Rattle.pm_laws.proofs.Items.{each-from, each-to, each-at, each-map, each-append, get-contains}
use Rattle.pm_laws.proofs.Checks.{unless-ok}
use Rattle.pm_laws.proofs.Numbers.{live-some}
use Rattle.pm_laws.proofs.Obligations.{watched-live}
use Rattle.pm_laws.proofs.KeptReviews.{kept-live}
use Rattle.pm_laws.proofs.RightNames.{opening-few}
use Rattle.pm_laws.proofs.Live.{user-live}
use Rattle.pm_laws.proofs.Resolved.{and_then-ok, resolve-named}

-- ---- the elements that are asked for are live

pm-live : (G : Graph) → IsWellFormed G → IsLive G.elements 0
pm-live G f = live-some G.elements 0 _ f.opening.elements.0

subject-live : (G : Graph) (s : Subject ℕ ℕ) → IsWellFormed G → IsSubjectLive G.elements G.procs s →
    IsLive G.elements (subject_element G s)
subject-live G (subject.User n) f h = h
subject-live G (subject.Ua n) f h = h
subject-live G (subject.Process n) f h = of (user_of G.procs n) refl where
  of : (o : Option ℕ) → user_of G.procs n ≡ o → IsLive G.elements (unwrap_or o 0)
  of (Some u) is = user-live G n u f is
  of None is = pm-live G f

pattern-live : (G : Graph) (p : Pattern) → IsWellFormed G → IfSome p.user (IsLive G.elements) → IfSome p.target (IsLive G.elements) →
    Each (λ (c : ℕ × ℕ). IsLive G.elements c.1) (watched_at p)
pattern-live G p f h k = of p.user p.target refl refl h k where
  of : (user target : Option ℕ) → p.user ≡ user → p.target ≡ target → IfSome user (IsLive G.elements) → IfSome target (IsLive G.elements) →
      Each (λ (c : ℕ × ℕ). IsLive G.elements c.1) (watched_at p)
  of (Some x) (Some y) is at h k = rw (is, at) (h, (k, tt))
  of (Some x) None is at h k = rw (is, at) (h, (pm-live G f, tt))
  of None (Some y) is at h k = rw (is, at) (k, tt)
  of None None is at h k = rw (is, at) (pm-live G f, tt)

pub required-live : (G : Graph) (d : Change) → IsWellFormed G → IsNamed G d → Each (λ (c : ℕ × ℕ). IsLive G.elements c.1) (required G d)
required-live G (change.Create id kind name None) f n = (pm-live G f, tt)
required-live G (change.Create id kind name (Some into)) f n = (n.1, tt)
required-live G (change.Delete id) f n = (n, tt)
required-live G (change.Assign x y) f n = (n.0, (n.1, tt))
required-live G (change.Deassign x y) f n = (n.0, (n.1, tt))
required-live G (change.Associate u r t) f n = (n.0, (n.1, tt))
required-live G (change.Dissociate u t) f n = (n.0, (n.1, tt))
required-live G (change.OpenSession u) f n = tt
required-live G (change.CloseSession m) f n = tt
required-live G (change.StartProcess m) f n = tt
required-live G (change.EndProcess m) f n = tt
required-live G (change.Prohibit p) f n = (
  subject-live G p.subject f n.0,
  each-map (λ (c : ℕ × ℕ). IsLive G.elements c.1) (λ a. (to_prohibit_to, a)) (p.inc ++ p.exc)
      (each-append (IsLive G.elements) p.inc p.exc n.1 n.2),
)
required-live G (change.Lift i) f n = of (slice_get G.prohibitions i) refl where
  of : (o : Option Prohibition) → slice_get G.prohibitions i ≡ o → Each (λ (c : ℕ × ℕ). IsLive G.elements c.1) (prohibited_at G o)
  of (Some p) at =
      let is = each-at (IsProhibition G.elements G.procs G.rights) G.prohibitions p f.prohibitions.each (get-contains G.prohibitions i p at) in
      (subject-live G p.subject f is.subject, tt)
  of None at = tt
required-live G (change.Oblige o) f n = pattern-live G o.pattern f n.1 n.2
required-live G (change.Withdraw i) f n = of (slice_get G.obligations i) refl where
  of : (o : Option Obligation) → slice_get G.obligations i ≡ o → Each (λ (c : ℕ × ℕ). IsLive G.elements c.1) (obliged_at o)
  of (Some o) at =
      let is = each-at (IsObligation G.elements) G.obligations o f.obligations.each (get-contains G.obligations i o at) in
      pattern-live G o.pattern f (watched-live G.elements o.pattern.user is.user) is.target
  of None at = tt
required-live G (change.DefineRight name) f n = (pm-live G f, tt)
required-live G (change.Keep of) f n = (n, tt)
required-live G (change.DropReview m) f n = by (kept_at G.kept m) refl where
  by : (o : Option KeptReview) → kept_at G.kept m ≡ o → Each (λ (c : ℕ × ℕ). IsLive G.elements c.1) (kept_of o)
  by (Some k) at = (kept-live G.elements G.kept m k f.kept at, tt)
  by None at = tt

-- ---- the rights that are asked for are administrative

create-administrative : (kind : Kind) → is_administrative (right_to_create kind) ≡ true
create-administrative User = refl
create-administrative Ua = refl
create-administrative Oa = refl
create-administrative Object = refl
create-administrative Pc = refl

watched-administrative : (p : Pattern) → Each (λ (c : ℕ × ℕ). is_administrative c.0 ≡ true) (watched_at p)
watched-administrative p = of p.user refl where
  of : (user : Option ℕ) → p.user ≡ user → Each (λ (c : ℕ × ℕ). is_administrative c.0 ≡ true) (watched_at p)
  of (Some x) is = rw is (refl, (refl, tt))
  of None is = rw is (refl, tt)

pub required-administrative : (G : Graph) (d : Change) → Each (λ (c : ℕ × ℕ). is_administrative c.0 ≡ true) (required G d)
required-administrative G (change.Create id kind name None) = (create-administrative kind, tt)
required-administrative G (change.Create id kind name (Some into)) = (create-administrative kind, tt)
required-administrative G (change.Delete id) = (refl, tt)
required-administrative G (change.Assign x y) = (refl, (refl, tt))
required-administrative G (change.Deassign x y) = (refl, (refl, tt))
required-administrative G (change.Associate u r t) = (refl, (refl, tt))
required-administrative G (change.Dissociate u t) = (refl, (refl, tt))
required-administrative G (change.OpenSession u) = tt
required-administrative G (change.CloseSession m) = tt
required-administrative G (change.StartProcess m) = tt
required-administrative G (change.EndProcess m) = tt
required-administrative G (change.Prohibit p) = (
  refl,
  each-map (λ (c : ℕ × ℕ). is_administrative c.0 ≡ true) (λ a. (to_prohibit_to, a)) (p.inc ++ p.exc)
      (each-from (λ a. is_administrative to_prohibit_to ≡ true) (p.inc ++ p.exc) (λ a c. refl)),
)
required-administrative G (change.Lift i) = of (slice_get G.prohibitions i) where
  of : (o : Option Prohibition) → Each (λ (c : ℕ × ℕ). is_administrative c.0 ≡ true) (prohibited_at G o)
  of (Some p) = (refl, tt)
  of None = tt
required-administrative G (change.Oblige o) = watched-administrative o.pattern
required-administrative G (change.Withdraw i) = of (slice_get G.obligations i) where
  of : (o : Option Obligation) → Each (λ (c : ℕ × ℕ). is_administrative c.0 ≡ true) (obliged_at o)
  of (Some o) = watched-administrative o.pattern
  of None = tt
required-administrative G (change.DefineRight name) = (refl, tt)
required-administrative G (change.Keep of) = (refl, tt)
required-administrative G (change.DropReview m) = by (kept_at G.kept m) where
  by : (o : Option KeptReview) → Each (λ (c : ℕ × ℕ). is_administrative c.0 ≡ true) (kept_of o)
  by (Some k) = (refl, tt)
  by None = tt

administrative-below : (r : ℕ) → is_administrative r ≡ true → r < 17
administrative-below r h = let p = and_parts (nat_le 2 r) (nat_le r 16) h in let below = leb-true r 16 p.1 in omega (arith, below)

-- each is below 17, and so has a name
pub required-rights : (G : Graph) (d : Change) → Each (λ (c : ℕ × ℕ). c.0 < 17) (required G d)
required-rights G d =
    each-to (λ (c : ℕ × ℕ). is_administrative c.0 ≡ true) (λ (c : ℕ × ℕ). c.0 < 17) (λ c. administrative-below c.0)
    (required G d) (required-administrative G d)

pub required-named : (G : Graph) (d : Change) → IsWellFormed G → Each (λ (c : ℕ × ℕ). IsSome (slice_get G.rights c.0)) (required G d)
required-named G d f =
    each-to (λ (c : ℕ × ℕ). c.0 < 17) (λ (c : ℕ × ℕ). IsSome (slice_get G.rights c.0)) (λ c below. named c.0 below)
    (required G d) (required-rights G d) where
      named : (r : ℕ) → r < 17 → IsSome (slice_get G.rights r)
      named r below =
          let few = opening-few G.rights f.rights.opening in
          let within : r < length G.rights = omega (arith, few, below) in rw (slice_get-get_or G.rights r [] within) refl

-- ---- allowed

module _ (G : Graph) (u : ℕ) (q : Option ℕ) where
  abbrev pub IsAllowed : (ℕ × ℕ) → Type 0
  IsAllowed c = denial_in G u q c.0 c.1 ≡ None

  denied-none : (r e : ℕ) (o : Option Reason) (rest : Option Refusal) →
      (denied_unless G r e o rest ≡ None) ↔ ((o ≡ None) × (rest ≡ None))
  denied-none r e (Some why) rest = (λ h. absurd (cc), λ h. let no = h.0 in absurd (cc))
  denied-none r e None rest = (λ h. (refl, h), λ h. h.1)

  -- none is denied exactly where each is allowed
  pub first_denied-none : (cs : List (ℕ × ℕ)) → (first_denied G u q cs ≡ None) ↔ Each IsAllowed cs
  first_denied-none [] = (λ h. tt, λ h. refl)
  first_denied-none (c ∷ cs) =
      let first = denied-none c.0 c.1 (denial_in G u q c.0 c.1) (first_denied G u q cs) in
      let rest = first_denied-none cs in
      (λ h. let p = first.0 h in (p.0, rest.0 p.1), λ h. first.1 (h.0, rest.1 h.1))

  -- a ruling is the change that the names resolve to, where nothing that it asks for is denied
  pub ruling-resolved : (c : Command) (d : Change) → ruling G u q c ≡ Ok d →
      (resolve G u c ≡ Ok d) × (first_denied G u q (required G d) ≡ None)
  ruling-resolved c d h =
      let p = and_then-ok (resolve G u c) (permitted G u q) d h in
      let w = unless-ok (first_denied G u q (required G p.0)) p.0 d p.2 in
      subst (λ (a : Change). (resolve G u c ≡ Ok a) × (first_denied G u q (required G a) ≡ None)) w.1 (p.1, w.0)

  pub ruled_exactly : (c : Command) (d : Change) →
      (ruling G u q c ≡ Ok d) ↔ ((resolve G u c ≡ Ok d) × Each (λ (c : ℕ × ℕ). denial_in G u q c.0 c.1 ≡ None) (required G d))
  ruled_exactly c d = (to, from) where
    to : ruling G u q c ≡ Ok d → (resolve G u c ≡ Ok d) × Each IsAllowed (required G d)
    to h = let p = ruling-resolved c d h in (p.0, (first_denied-none (required G d)).0 p.1)

    from : (resolve G u c ≡ Ok d) × Each IsAllowed (required G d) → ruling G u q c ≡ Ok d
    from p = rw (p.0, (first_denied-none (required G d)).1 p.1) refl

-- what a ruling names is live
pub ruling-named : (G : Graph) (u : ℕ) (q : Option ℕ) (c : Command) (d : Change) → IsUser G.elements u → ruling G u q c ≡ Ok d → IsNamed G d
ruling-named G u q c d user h = resolve-named G u c d user (ruling-resolved G u q c d h).0

-- the root user may give each command
pub root_may_all : (G : Graph) (q : Option ℕ) (c : Command) (d : Change) → resolve G root c ≡ Ok d → ruling G root q c ≡ Ok d
root_may_all G q c d is = (ruled_exactly G root q c d).1 (
  is,
  each-to (λ (c : ℕ × ℕ). is_administrative c.0 ≡ true) (IsAllowed G root q)
      (λ c h. rw h refl) (required G d) (required-administrative G d),
)
