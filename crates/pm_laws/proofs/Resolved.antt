-- What a name resolves to is live, one clause of `resolve-named` for each command; so each command keeps well formed.
use Rattle.std.proofs.Common.{◌≡◌, ◌↔◌, ◌<◌, ◌+◌, ◌^◌, arith, Bool, ℕ, List, [], ◌∷◌, length, Option, Some, None, IsSome, IfSome, option_map, Result, Ok, Err, IfOk, true, refl, sym, ◌∙◌, ap, subst, Contains, eq-eqb, bytes_eq}
use Rattle.std.specs.List.{list_any, find, position_from}
use Rattle.std.proofs.lemmas.Bool.{cond_both}
use Rattle.std.proofs.lemmas.Nat.{or_lt, pow_pos}
use Rattle.std.proofs.Math.Pow.{pow-lt}
use Rattle.std.proofs.lemmas.Slice.Eq.{bytes_eq-Decides}
use Rattle.pm_model.specs.Results.{and_then}
use Rattle.pm_model.specs.State.{Graph, is_named, is_numbered, element_at, number_named}
use Rattle.pm_model.specs.Resolve.{unused, known, look_up, look_up_both, look_up_all, look_up_rights, look_up_process, look_up_subject, prohibition, look_up_if, look_up_operation, look_up_when, look_up_review, look_up_of, obligation, resolve}
use Rattle.pm_model.specs.Obligations as obliged
use Rattle.pm_model.specs.RightSet.{bit_named, with_right}
use Rattle.pm_model.specs.Sessions.{is_process, process_at}
use Rattle.pm_model.specs.Prohibitions.{is_called, place_called}
use Rattle.pm_model.specs.KeptReviews as keeping
use Rattle.pm_model.specs.KeptReviews.{KeptReview, kept_at}
use Rattle.pm_model.specs.Effect.{effect}
use Rattle.pm_model.specs.Formed.{Each, IsWellFormed, IsNamed, IsLive, IsUser, AreNamed, IsSubjectLive}
use Rattle.pm_model.specs.declared.elements.Kind.TheVariants.{Pc}
use Rattle.pm_model.specs.declared.elements.Element.{Element}
use Rattle.pm_model.specs.declared.events.Pattern.{Pattern}
use Rattle.pm_model.specs.declared.events.When.{When}
use Rattle.pm_model.specs.declared.requests.Command.{Command}
use Rattle.pm_model.specs.declared.requests.Command.TheVariants as command
use Rattle.pm_model.specs.declared.requests.Change.{Change}
use Rattle.pm_model.specs.declared.requests.Change.TheVariants as change
use Rattle.pm_model.specs.declared.prohibitions.Subject.{Subject}
use Rattle.pm_model.specs.declared.prohibitions.Subject.TheVariants as subject
use Rattle.pm_model.specs.declared.replies.Refusal.{Refusal}
use Rattle.pm_model.specs.declared.reviews.ReviewOf.{ReviewOf}
use Rattle.pm_model.specs.declared.reviews.ReviewOf.TheVariants as of
use Rattle.pm_model.specs.declared.replies.Refusal.TheVariants.{UnknownProcess, UnknownReview}
use Rattle.pm_laws.specs.Meaning.{IsNumberOf}
use Rattle.pm_laws.proofs.Items.{find-found, find-some, find-any}
use Rattle.pm_laws.proofs.Numbers.{found-at, stands-at, live-some}
use Rattle.pm_laws.proofs.Formed.{formed-effect}
use Rattle.pm_laws.proofs.Names.{one-name}

-- ---- results in order

pub and_then-ok : {A B E : Type 0} (r : Result A E) (f : A → Result B E) (b : B) → and_then r f ≡ Ok b →
    (a : A) × (r ≡ Ok a) × (f a ≡ Ok b)
and_then-ok (Ok a) f b h = (a, refl, h)
and_then-ok (Err e) f b h = absurd (cc)

-- what holds of each outcome of the second step
pub and_then-if : {A B E : Type 0} (P : B → Type 0) (r : Result A E) (f : A → Result B E) → ((a : A) → r ≡ Ok a → IfOk (f a) P) →
    IfOk (and_then r f) P
and_then-if P (Ok a) f each = each a refl
and_then-if P (Err e) f each = tt

pub ok-is : {A E : Type 0} (r : Result A E) (a b : A) → r ≡ Ok a → r ≡ Ok b → a ≡ b
ok-is r a b h k = cc

-- ---- a name and its number

number-found : (es : List Element) (name : List ℕ) (n : ℕ) → number_named es name ≡ Some n →
    (e : Element) × (find (is_named name) es ≡ Some e) × (e.number ≡ n)
number-found es name n h = of (find (is_named name) es) refl h where
  of : (o : Option Element) → find (is_named name) es ≡ o → option_map (λ (e : Element). e.number) o ≡ Some n →
      (e : Element) × (find (is_named name) es ≡ Some e) × (e.number ≡ n)
  of (Some e) is h = (e, is, cc)
  of None is h = absurd (cc)

named-live : (es : List Element) (name : List ℕ) (n : ℕ) → number_named es name ≡ Some n → IsLive es n
named-live es name n h =
    let p = number-found es name n h in
    let there : Contains es p.0 = (find-found (is_named name) es p.0 p.1).0 in
    let numbered : is_numbered n p.0 ≡ true = eq-eqb p.0.number n p.2 in
    let q = find-some (is_numbered n) es p.0 there numbered in live-some es n q.0 q.1

-- a look-up that is Ok found what it gives
known-ok : (name : List ℕ) (o : Option ℕ) (n : ℕ) → known name o ≡ Ok n → o ≡ Some n
known-ok name (Some m) n h = ap Some (ok-is (known name (Some m)) m n refl h)
known-ok name None n h = absurd (cc)

pub looked_up-live : (G : Graph) (name : List ℕ) (n : ℕ) → look_up G name ≡ Ok n → IsLive G.elements n
looked_up-live G name n h = named-live G.elements name n (known-ok name (number_named G.elements name) n h)

both_looked_up-live : (G : Graph) (first second : List ℕ) (p : ℕ × ℕ) → look_up_both G first second ≡ Ok p →
    IsLive G.elements p.0 × IsLive G.elements p.1
both_looked_up-live G first second p h =
    let x = and_then-ok (look_up G first) (λ x. and_then (look_up G second) (λ y. Ok (x, y))) p h in
    let y = and_then-ok (look_up G second) (λ y. Ok (x.0, y)) p x.2 in
    let both : IsLive G.elements x.0 × IsLive G.elements y.0 = (looked_up-live G first x.0 x.1, looked_up-live G second y.0 y.1) in
    subst (λ (q : ℕ × ℕ). IsLive G.elements q.0 × IsLive G.elements q.1) (ok-is _ (x.0, y.0) p refl y.2) both

-- each name of a list
pub all_looked_up-live : (G : Graph) (names : List (List ℕ)) (xs : List ℕ) → look_up_all G names ≡ Ok xs → Each (IsLive G.elements) xs
all_looked_up-live G [] xs h = subst (Each (IsLive G.elements)) (ok-is (look_up_all G []) [] xs refl h) tt
all_looked_up-live G (n ∷ ns) xs h =
    let y = and_then-ok (look_up G n) (λ y. and_then (look_up_all G ns) (λ ys. Ok (y ∷ ys))) xs h in
    let ys = and_then-ok (look_up_all G ns) (λ ys. Ok (y.0 ∷ ys)) xs y.2 in
    subst (Each (IsLive G.elements)) (ok-is _ (y.0 ∷ ys.0) xs refl ys.2) (looked_up-live G n y.0 y.1, all_looked_up-live G ns ys.0 ys.1)

-- ---- names of rights, and of prohibitions

position_from-below : {X : Type 0} (p : X → Bool) (i : ℕ) (xs : List X) (b : ℕ) → position_from p i xs ≡ Some b → b < i + length xs
position_from-below p i [] b = λ h. absurd (cc)
position_from-below p i (x ∷ xs) b = cond_both (p x) (Some i) (position_from p (i + 1) xs) (λ o. o ≡ Some b → b < i + length (x ∷ xs))
    (λ is h. let same : i ≡ b = cc in omega (arith, same))
    (λ is h. let later = position_from-below p (i + 1) xs b h in omega (arith, later))

-- what is found at a place is within the list
pub known-below : {X : Type 0} (p : X → Bool) (xs : List X) (name : List ℕ) (i : ℕ) → known name (position_from p 0 xs) ≡ Ok i → i < length xs
known-below p xs name i h =
    let below : i < 0 + length xs = position_from-below p 0 xs i (known-ok name (position_from p 0 xs) i h) in omega (arith, below)

looked_up-rights : (G : Graph) (names : List (List ℕ)) (r : ℕ) → look_up_rights G names ≡ Ok r → AreNamed G.rights r
looked_up-rights G [] r h = rw (ok-is (look_up_rights G []) r 0 h refl) (pow_pos (length G.rights))
looked_up-rights G (n ∷ ns) r h =
    let bit = and_then-ok (known n (bit_named G.rights n)) (λ bit. and_then (look_up_rights G ns) (λ rights. Ok (with_right bit rights))) r h in
    let rest = and_then-ok (look_up_rights G ns) (λ rights. Ok (with_right bit.0 rights)) r bit.2 in
    let below = known-below (bytes_eq n) G.rights n bit.0 bit.1 in
    let both = or_lt (length G.rights) (2 ^ bit.0) rest.0 (pow-lt below) (looked_up-rights G ns rest.0 rest.1) in
    subst (AreNamed G.rights) (ok-is _ (with_right bit.0 rest.0) r refl rest.2) both

-- ---- subjects

looked_up-process : (G : Graph) (n m : ℕ) → look_up_process G n ≡ Ok m → IsSome (process_at G.procs m)
looked_up-process G n m =
    cond_both (list_any (is_process n) G.procs.processes) (Ok n) (Err UnknownProcess)
    (λ (r : Result ℕ Refusal). r ≡ Ok m → IsSome (process_at G.procs m))
    (λ there h. subst (λ k. IsSome (process_at G.procs k)) (ok-is (Ok n) n m refl h) (find-any (is_process n) G.procs.processes there))
    (λ absent h. absurd (cc))

looked_up-subject : (G : Graph) (s : Subject (List ℕ) ℕ) (t : Subject ℕ ℕ) → look_up_subject G s ≡ Ok t →
    IsSubjectLive G.elements G.procs t
looked_up-subject G (subject.User name) t h =
    let n = and_then-ok (look_up G name) (λ n. Ok (subject.User n)) t h in
    subst (IsSubjectLive G.elements G.procs) (ok-is _ (subject.User n.0) t refl n.2) (looked_up-live G name n.0 n.1)
looked_up-subject G (subject.Ua name) t h =
    let n = and_then-ok (look_up G name) (λ n. Ok (subject.Ua n)) t h in
    subst (IsSubjectLive G.elements G.procs) (ok-is _ (subject.Ua n.0) t refl n.2) (looked_up-live G name n.0 n.1)
looked_up-subject G (subject.Process p) t h =
    let n = and_then-ok (look_up_process G p) (λ n. Ok (subject.Process n)) t h in
    subst (IsSubjectLive G.elements G.procs) (ok-is _ (subject.Process n.0) t refl n.2) (looked_up-process G p n.0 n.1)

-- ---- patterns

looked_up-if : (G : Graph) (name : Option (List ℕ)) (o : Option ℕ) → look_up_if G name ≡ Ok o → IfSome o (IsLive G.elements)
looked_up-if G None o h = subst (λ (o : Option ℕ). IfSome o (IsLive G.elements)) (ok-is (look_up_if G None) None o refl h) tt
looked_up-if G (Some name) o h =
    let n = and_then-ok (look_up G name) (λ n. Ok (Some n)) o h in
    subst (λ (o : Option ℕ). IfSome o (IsLive G.elements)) (ok-is _ (Some n.0) o refl n.2) (looked_up-live G name n.0 n.1)

looked_up-when : (G : Graph) (when : When) (p : Pattern) → look_up_when G when ≡ Ok p →
    IfSome p.user (IsLive G.elements) × IfSome p.target (IsLive G.elements)
looked_up-when G when p h =
    let on = and_then-ok (look_up_operation G when.on) (λ on. and_then (look_up_if G when.user) (λ user.
    and_then (look_up_if G when.target) (λ target. Ok (pattern on user target)))) p h in
    let user = and_then-ok (look_up_if G when.user) (λ user. and_then (look_up_if G when.target) (λ target. Ok (pattern on.0 user target))) p on.2 in
    let target = and_then-ok (look_up_if G when.target) (λ target. Ok (pattern on.0 user.0 target)) p user.2 in
    subst (λ (q : Pattern). IfSome q.user (IsLive G.elements) × IfSome q.target (IsLive G.elements))
    (ok-is _ (pattern on.0 user.0 target.0) p refl target.2)
    (looked_up-if G when.user user.0 user.1, looked_up-if G when.target target.0 target.1) where
      pattern : List ℕ → Option ℕ → Option ℕ → Pattern
      pattern on user target = record { on = on; user = user; target = target }

-- ---- reviews

looked_up-of : (G : Graph) (of : ReviewOf (List ℕ)) (r : ReviewOf ℕ) → look_up_of G of ≡ Ok r → IsLive G.elements (keeping.subject r)
looked_up-of G (of.Caps name) r h =
    let n = and_then-ok (look_up G name) (λ n. Ok (of.Caps n)) r h in
    subst (λ (r : ReviewOf ℕ). IsLive G.elements (keeping.subject r)) (ok-is _ (of.Caps n.0) r refl n.2) (looked_up-live G name n.0 n.1)
looked_up-of G (of.Entries name) r h =
    let n = and_then-ok (look_up G name) (λ n. Ok (of.Entries n)) r h in
    subst (λ (r : ReviewOf ℕ). IsLive G.elements (keeping.subject r)) (ok-is _ (of.Entries n.0) r refl n.2) (looked_up-live G name n.0 n.1)

-- what a number finds is kept
pub looked_up-review : (G : Graph) (n : ℕ) (of : ReviewOf ℕ) → look_up_review G n ≡ Ok of →
    (k : KeptReview) × (kept_at G.kept n ≡ Some k) × (k.of ≡ of)
looked_up-review G n of h = by (kept_at G.kept n) refl where
  by : (o : Option KeptReview) → kept_at G.kept n ≡ o → (k : KeptReview) × (kept_at G.kept n ≡ Some k) × (k.of ≡ of)
  by (Some k) is = let known : look_up_review G n ≡ Ok k.of = rw is refl in (k, is, ok-is (look_up_review G n) k.of of known h)
  by None is = absurd (let unknown : look_up_review G n ≡ Err UnknownReview = rw is refl in cc)

-- ---- commands

pub named-as : (G : Graph) (c d : Change) → ◌≡◌ {A = Result Change Refusal} (Ok c) (Ok d) → IsNamed G c → IsNamed G d
named-as G c d h n = subst (IsNamed G) (ok-is (Ok c) c d refl h) n

pub resolve-named : (G : Graph) (u : ℕ) (c : Command) (d : Change) → IsUser G.elements u → resolve G u c ≡ Ok d → IsNamed G d
resolve-named G u (command.CreatePc name) d user h = named-as G (change.Create (unused G.elements) Pc name None) d h (refl, refl)
resolve-named G u (command.Create kind name into) d user h =
    let p = and_then-ok (look_up G into) (λ c. Ok (change.Create (unused G.elements) kind name (Some c))) d h in
    named-as G (change.Create (unused G.elements) kind name (Some p.0)) d p.2 (refl, looked_up-live G into p.0 p.1)
resolve-named G u (command.Delete name) d user h =
    let n = and_then-ok (look_up G name) (λ n. Ok (change.Delete n)) d h in
    named-as G (change.Delete n.0) d n.2 (looked_up-live G name n.0 n.1)
resolve-named G u (command.Assign from to) d user h =
    let p = and_then-ok (look_up_both G from to) (λ p. Ok (change.Assign p.0 p.1)) d h in
    named-as G (change.Assign p.0.0 p.0.1) d p.2 (both_looked_up-live G from to p.0 p.1)
resolve-named G u (command.Deassign from to) d user h =
    let p = and_then-ok (look_up_both G from to) (λ p. Ok (change.Deassign p.0 p.1)) d h in
    named-as G (change.Deassign p.0.0 p.0.1) d p.2 (both_looked_up-live G from to p.0 p.1)
resolve-named G u (command.Associate ua rights at) d user h =
    let a = and_then-ok (look_up G ua) (λ a. and_then (look_up_rights G rights) (λ r. and_then (look_up G at) (λ t. Ok (change.Associate a r t)))) d h in
    let r = and_then-ok (look_up_rights G rights) (λ r. and_then (look_up G at) (λ t. Ok (change.Associate a.0 r t))) d a.2 in
    let t = and_then-ok (look_up G at) (λ t. Ok (change.Associate a.0 r.0 t)) d r.2 in
    named-as G (change.Associate a.0 r.0 t.0) d t.2
    (looked_up-live G ua a.0 a.1, looked_up-live G at t.0 t.1, looked_up-rights G rights r.0 r.1)
resolve-named G u (command.Dissociate ua at) d user h =
    let p = and_then-ok (look_up_both G ua at) (λ p. Ok (change.Dissociate p.0 p.1)) d h in
    named-as G (change.Dissociate p.0.0 p.0.1) d p.2 (both_looked_up-live G ua at p.0 p.1)
resolve-named G u (command.Prohibit name s rights inc exc mode) d user h =
    let t = and_then-ok (look_up_subject G s) (λ t. and_then (look_up_rights G rights) (λ r. and_then (look_up_all G inc) (λ i.
    and_then (look_up_all G exc) (λ e. Ok (change.Prohibit (prohibition name t r i e mode)))))) d h in
    let r = and_then-ok (look_up_rights G rights) (λ r. and_then (look_up_all G inc) (λ i. and_then (look_up_all G exc) (λ e.
    Ok (change.Prohibit (prohibition name t.0 r i e mode))))) d t.2 in
    let i = and_then-ok (look_up_all G inc) (λ i. and_then (look_up_all G exc) (λ e. Ok (change.Prohibit (prohibition name t.0 r.0 i e mode)))) d r.2 in
    let e = and_then-ok (look_up_all G exc) (λ e. Ok (change.Prohibit (prohibition name t.0 r.0 i.0 e mode))) d i.2 in
    named-as G (change.Prohibit (prohibition name t.0 r.0 i.0 e.0 mode)) d e.2
    (looked_up-subject G s t.0 t.1, all_looked_up-live G inc i.0 i.1, all_looked_up-live G exc e.0 e.1, looked_up-rights G rights r.0 r.1)
resolve-named G u (command.Lift name) d user h =
    let i = and_then-ok (known name (place_called G.prohibitions name)) (λ i. Ok (change.Lift i)) d h in
    named-as G (change.Lift i.0) d i.2 (known-below (is_called name) G.prohibitions name i.0 i.1)
resolve-named G u (command.DefineRight name) d user h = named-as G (change.DefineRight name) d h tt
resolve-named G u (command.Oblige name when response) d user h =
    let p = and_then-ok (look_up_when G when) (λ pattern. Ok (change.Oblige (obligation name u pattern response))) d h in
    let live = looked_up-when G when p.0 p.1 in
    named-as G (change.Oblige (obligation name u p.0 response)) d p.2 (user, live.0, live.1)
resolve-named G u (command.Withdraw name) d user h =
    let i = and_then-ok (known name (obliged.place_called G.obligations name)) (λ i. Ok (change.Withdraw i)) d h in
    named-as G (change.Withdraw i.0) d i.2 (known-below (obliged.is_called name) G.obligations name i.0 i.1)
resolve-named G u (command.Keep of) d user h =
    let r = and_then-ok (look_up_of G of) (λ r. Ok (change.Keep r)) d h in
    named-as G (change.Keep r.0) d r.2 (looked_up-of G of r.0 r.1)
resolve-named G u (command.DropReview n) d user h =
    let r = and_then-ok (look_up_review G n) (λ of. Ok (change.DropReview n)) d h in
    let k = looked_up-review G n r.0 r.1 in
    named-as G (change.DropReview n) d r.2 (rw (k.1) refl)

-- what a command makes of a well formed graph is well formed
pub formed-administered : (G H : Graph) (u : ℕ) (c : Command) → IsWellFormed G → IsUser G.elements u →
    and_then (resolve G u c) (effect G) ≡ Ok H → IsWellFormed H
formed-administered G H u c f user h =
    let p = and_then-ok (resolve G u c) (effect G) H h in formed-effect G H p.0 f (resolve-named G u c p.0 user p.1) p.2

-- a name finds a number exactly where the element of that number has the name
pub number_of_name : (G : Graph) (name : List ℕ) (n : ℕ) → IsWellFormed G →
    (number_named G.elements name ≡ Some n) ↔ IsNumberOf G n name
number_of_name G name n f = (to, from) where
  to : number_named G.elements name ≡ Some n → IsNumberOf G n name
  to h =
      let p = number-found G.elements name n h in
      let c = find-found (is_named name) G.elements p.0 p.1 in
      let stands = subst (λ k. element_at G.elements k ≡ Some p.0) p.2 (stands-at 0 G.elements p.0 f.elements.rising c.0) in
      (p.0, stands, sym ((bytes_eq-Decides name p.0.name).0 c.1))

  from : IsNumberOf G n name → number_named G.elements name ≡ Some n
  from h =
      let c = found-at G.elements n h.0 h.1 in
      let named : is_named name h.0 ≡ true = (bytes_eq-Decides name h.0.name).1 (sym h.2) in
      let p = find-some (is_named name) G.elements h.0 c.0 named in
      let d = find-found (is_named name) G.elements p.0 p.1 in
      let named_so : name ≡ p.0.name = (bytes_eq-Decides name p.0.name).0 d.1 in
      let same : p.0 ≡ h.0 = one-name G.elements p.0 h.0 f.elements.named d.0 c.0 (sym named_so ∙ sym h.2) in
      rw (p.1, same, c.1) refl
