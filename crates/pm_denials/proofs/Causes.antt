-- A denial's reason holds, of a right and an element, of an access, of a command and of a review.
use Rattle.std.proofs.Common.{◌≡◌, ◌↔◌, eq-eqb, ◌+◌, suc, sym, arith, slice_get, ℕ, Bool, true, false, not, ◌==◌, ◌&&◌, List, [], ◌∷◌, ◌++◌, Option, Some, None, IfSome, Result, Ok, Err, IfErr, Contains, refl, ap, bytes_eq}
use Rattle.std.specs.Bool.{⊤}
use Rattle.std.specs.List.{list_any, list_all, find, position_from}
use Rattle.std.proofs.lemmas.Bool.{cond_both, and_parts, and_from, eqb-true}
use Rattle.std.proofs.lemmas.Slice.Eq.{bytes_eq-Decides}
use Rattle.pm_model.specs.Results.{and_then, first_of, unless}
use Rattle.pm_model.specs.State.{Graph, root, classes_in}
use Rattle.pm_model.specs.Containment.{contained}
use Rattle.pm_model.specs.Decision.{classes_of, meets, is_met, applies_by, covers, forbids}
use Rattle.pm_model.specs.RightSet.{bit_named, is_access_right}
use Rattle.pm_model.specs.Resolve.{look_up, resolve, resolve_question}
use Rattle.pm_model.specs.Authority.{is_administrative, lacking_in, forbidding_in, reason_of, denial_in, right_name, denied_unless, first_denied, required, permitted, required_by, ruling}
use Rattle.pm_model.specs.Effect.{effect}
use Rattle.pm_model.specs.Reviews.{review_checks, permitted_review, review_ruling}
use Rattle.pm_model.specs.Answer.{if_access, allowed_unless, accessed}
use Rattle.pm_model.specs.Formed.{Each}
use Rattle.pm_model.specs.declared.prohibitions.Prohibition as prohibition
use Rattle.pm_model.specs.declared.replies.Reason.{Reason}
use Rattle.pm_model.specs.declared.replies.Reason.TheVariants.{Class, Prohibition}
use Rattle.pm_model.specs.declared.replies.Refusal.{Refusal}
use Rattle.pm_model.specs.declared.replies.Refusal.TheVariants.{Denied, UnknownName}
use Rattle.pm_model.specs.declared.requests.Change.{Change}
use Rattle.pm_model.specs.declared.requests.Command.{Command}
use Rattle.pm_model.specs.declared.requests.Question.{Question}
use Rattle.pm_model.proofs.ContainmentLaws.{containment_is_path}
use Rattle.pm_laws.proofs.Items.{contains-first, contains-rest, filter-contains, find-found, each-from, none-at}
use Rattle.pm_laws.proofs.Told.{and_then-of, unless-err, IsTellable, IsTold, look_up-told, resolve-told, question-told, effect-told, kinds-told}
use Rattle.pm_denials.specs.Reasons.{IsFirst, LacksIn, IsForbidden, HasCause, IsSpared}
use Rattle.pm_denials.specs.Told.{IsAskedByAccess, IsAskedByCommand, IsAskedByQuestion, TellsCause}

-- ---- what is found in a list

module _ {X : Type 0} (test : X → Bool) where
  find-first : (xs : List X) (x : X) → find test xs ≡ Some x → IsFirst test xs x
  find-first [] x = λ h. absurd (cc)
  find-first (y ∷ xs) x = cond_both (test y) (Some y) (find test xs) (λ found. found ≡ Some x → IsFirst test (y ∷ xs) x)
      (λ is h. let same : y ≡ x = cc in ([], xs, ap (λ z. z ∷ xs) same, rw (← same) is, tt))
      (λ is h. further is (find-first xs x h)) where
        further : test y ≡ false → IsFirst test xs x → IsFirst test (y ∷ xs) x
        further is (before, after, split, passes, others) = (y ∷ before, after, ap (λ l. y ∷ l) split, passes, (is, others))

  -- none that fails is found only where all pass
  find-all : (xs : List X) → find (λ x. not (test x)) xs ≡ None → list_all test xs ≡ true
  find-all [] = λ h. refl
  find-all (x ∷ xs) = of (test x) refl (find-all xs) where
    of : (t : Bool) → test x ≡ t → (find (λ x. not (test x)) xs ≡ None → list_all test xs ≡ true) →
        find (λ x. not (test x)) (x ∷ xs) ≡ None → list_all test (x ∷ xs) ≡ true
    of true is rest = rw (is) rest
    of false is rest = rw (is) (λ h. absurd (cc))

not-false : (b : Bool) → not b ≡ true → b ≡ false
not-false true h = absurd (cc)
not-false false h = refl

module _ {X : Type 0} (test : X → Bool) where
  -- the first that passes is found, and where all pass none that fails
  first-found : (xs : List X) (x : X) → IsFirst test xs x → find test xs ≡ Some x
  first-found xs x (before, after, split, passes, others) = rw split (of before others) where
    of : (before : List X) → Each (λ y. test y ≡ false) before → find test (before ++ x ∷ after) ≡ Some x
    of [] h = rw passes refl
    of (y ∷ ys) h = rw h.0 (of ys h.1)

  all-found : (xs : List X) → list_all test xs ≡ true → find (λ x. not (test x)) xs ≡ None
  all-found [] = λ h. refl
  all-found (x ∷ xs) = of (test x) refl (all-found xs) where
    of : (t : Bool) → test x ≡ t → (list_all test xs ≡ true → find (λ x. not (test x)) xs ≡ None) →
        list_all test (x ∷ xs) ≡ true → find (λ x. not (test x)) (x ∷ xs) ≡ None
    of true is rest = rw (is) rest
    of false is rest = rw (is) (λ h. absurd (cc))

-- ---- a right on an element

module _ (G : Graph) (u : ℕ) (q : Option ℕ) (r e : ℕ) where
  lacking-is : (pc : ℕ) → lacking_in G u r e ≡ Some pc → LacksIn G u r e pc
  lacking-is pc h =
      let found = find-found (λ c. not (is_met (contained G.assigned) G.associations u r e c)) (classes_of (contained G.assigned) (classes_in G.elements) e) pc h in
      let class = filter-contains (λ c. contained G.assigned e c) (classes_in G.elements) pc found.0 in
      let unmet : list_any (meets (contained G.assigned) u r e pc) G.associations ≡ false = not-false _ found.1 in
      record {
        is_class = class.0;
        contains = (containment_is_path G.assigned e pc).0 class.1;
        lacks = each-from (λ a. meets (contained G.assigned) u r e pc a ≡ false) G.associations
            (λ a c. none-at (meets (contained G.assigned) u r e pc) G.associations a unmet c);
        first = find-first (λ c. not (is_met (contained G.assigned) G.associations u r e c)) (classes_of (contained G.assigned) (classes_in G.elements) e) pc h;
      }

  forbidding-is : (p : prohibition.Prohibition) → lacking_in G u r e ≡ None → forbidding_in G u q r e ≡ Some p → IsForbidden G u q r e p.name
  forbidding-is p met h =
      let found = find-found (forbids (contained G.assigned) u q r e) G.prohibitions p h in
      let both = and_parts (applies_by (contained G.assigned) u q p.subject) (covers (contained G.assigned) r e p) found.1 in
      record {
        prohibition = p;
        named = refl;
        stands = found.0;
        applies = both.0;
        covers = both.1;
        first = find-first (forbids (contained G.assigned) u q r e) G.prohibitions p h;
        privileged = find-all (is_met (contained G.assigned) G.associations u r e) (classes_of (contained G.assigned) (classes_in G.elements) e) met;
      }

  reason-cause : (lack : Option ℕ) (bar : Option prohibition.Prohibition) → lacking_in G u r e ≡ lack → forbidding_in G u q r e ≡ bar →
      (why : Reason) → reason_of lack bar ≡ Some why → HasCause G u q r e why
  reason-cause (Some pc) bar lacks bars (Class c) h = let same : pc ≡ c = cc in rw (← same) (lacking-is pc lacks)
  reason-cause (Some pc) bar lacks bars (Prohibition name) h = absurd (cc)
  reason-cause None (Some p) lacks bars (Class c) h = absurd (cc)
  reason-cause None (Some p) lacks bars (Prohibition name) h = let same : p.name ≡ name = cc in rw (← same) (forbidding-is p lacks bars)
  reason-cause None None lacks bars why h = absurd (cc)

  cause-reason : (why : Reason) → HasCause G u q r e why → reason_of (lacking_in G u r e) (forbidding_in G u q r e) ≡ Some why
  cause-reason (Class pc) h = rw (lacks) refl where
    lacks : lacking_in G u r e ≡ Some pc
    lacks =
        first-found (λ c. not (is_met (contained G.assigned) G.associations u r e c)) (classes_of (contained G.assigned) (classes_in G.elements) e)
        pc h.first
  cause-reason (Prohibition name) h = rw (met, barred, h.named) refl where
    met : lacking_in G u r e ≡ None
    met = all-found (is_met (contained G.assigned) G.associations u r e) (classes_of (contained G.assigned) (classes_in G.elements) e) h.privileged

    barred : forbidding_in G u q r e ≡ Some h.prohibition
    barred = first-found (forbids (contained G.assigned) u q r e) G.prohibitions h.prohibition h.first

  -- root is spared in administration, and nobody else
  pub denied_exactly : (why : Reason) →
      (denial_in G u q r e ≡ Some why) ↔ ((IsSpared u r → ⊥) × HasCause G u q r e why)
  denied_exactly why =
      cond_both (u == root && is_administrative r) None (reason_of (lacking_in G u r e) (forbidding_in G u q r e))
      (λ (o : Option Reason). (o ≡ Some why) ↔ ((IsSpared u r → ⊥) × HasCause G u q r e why))
      (λ is. let p = and_parts (u == root) (is_administrative r) is in
      (λ h. absurd (cc), λ h. absurd (h.0 (eqb-true u root p.0, p.1))))
      (λ other. (
        λ h. (
          λ spared. let is : (u == root && is_administrative r) ≡ true = and_from (u == root) (is_administrative r) (eq-eqb u root spared.0) spared.1 in cc,
          reason-cause (lacking_in G u r e) (forbidding_in G u q r e) refl refl why h,
        ),
        λ h. cause-reason why h.1,
      ))

  pub denial_has_cause : (why : Reason) → denial_in G u q r e ≡ Some why → HasCause G u q r e why
  denial_has_cause why h = ((denied_exactly why).0 h).1

-- ---- what is refused

err-to : {A E : Type 0} (P Q : E → Type 0) → ((e : E) → P e → Q e) → (r : Result A E) → IfErr r P → IfErr r Q
err-to P Q f (Ok a) h = tt
err-to P Q f (Err e) h = f e h

pub err-at : {A E : Type 0} (P : E → Type 0) (r : Result A E) (e : E) → IfErr r P → r ≡ Err e → P e
err-at P (Ok a) e h is = absurd (cc)
err-at P (Err why) e h is = let same : why ≡ e = cc in rw (← same) h

-- what could be told if no element had a name is no denial
abbrev pub unnamed : ℕ → Bool
unnamed n = false

module _ (G : Graph) (u : ℕ) (q : Option ℕ) (Asked : ℕ → ℕ → Type 0) where
  abbrev pub IsCaused : {A : Type 0} → Result A Refusal → Type 0
  IsCaused r = IfErr r (TellsCause G u q Asked)

  undenied : (why : Refusal) → IsTellable unnamed why → TellsCause G u q Asked why
  undenied (Denied right target reason) h = absurd (let no = h.0 in cc)
  undenied _ h = tt

  pub told-caused : {A : Type 0} (r : Result A Refusal) → IsTold unnamed r → IsCaused r
  told-caused r h = err-to (IsTellable unnamed) (TellsCause G u q Asked) undenied r h

  pub then-caused : {A B : Type 0} (r : Result A Refusal) (f : A → Result B Refusal) → IsCaused r → ((a : A) → r ≡ Ok a → IsCaused (f a)) →
      IsCaused (and_then r f)
  then-caused r f first second = and_then-of (λ _. ⊤) (TellsCause G u q Asked) r f first second

  denied-caused : (r e : ℕ) (o : Option Reason) (rest : Option Refusal) → denial_in G u q r e ≡ o → Asked r e →
      IfSome rest (TellsCause G u q Asked) → IfSome (denied_unless G r e o rest) (TellsCause G u q Asked)
  denied-caused r e (Some why) rest is asked further = let told = (denied_exactly G u q r e why).0 is in (r, asked, refl, told.0, told.1)
  denied-caused r e None rest is asked further = further

  first_denied-caused : (cs : List (ℕ × ℕ)) → ((r e : ℕ) → Contains cs (r, e) → Asked r e) → IfSome (first_denied G u q cs) (TellsCause G u q Asked)
  first_denied-caused [] asked = tt
  first_denied-caused (c ∷ cs) asked =
      denied-caused c.0 c.1 (denial_in G u q c.0 c.1) (first_denied G u q cs) refl (asked c.0 c.1 (contains-first c cs))
      (first_denied-caused cs (λ r e there. asked r e (contains-rest c (r, e) cs there)))

  pub unless-caused : {A : Type 0} (cs : List (ℕ × ℕ)) (a : A) → ((r e : ℕ) → Contains cs (r, e) → Asked r e) → IsCaused (unless (first_denied G u q cs) a)
  unless-caused cs a asked = unless-err (TellsCause G u q Asked) (first_denied G u q cs) a (first_denied-caused cs asked)

-- ---- of a command

module _ (G : Graph) (u : ℕ) (q : Option ℕ) where
  pub ruling-caused : (c : Command) → IsCaused G u q (IsAskedByCommand G u c) (ruling G u q c)
  ruling-caused c =
      then-caused G u q (IsAskedByCommand G u c) (resolve G u c) (permitted G u q)
      (told-caused G u q (IsAskedByCommand G u c) (resolve G u c) (resolve-told unnamed G u c))
      (λ d is. unless-caused G u q (IsAskedByCommand G u c) (required G d) d (λ r e there. (d, is, there)))

  pub effect-caused : (c : Command) (d : Change) → IsCaused G u q (IsAskedByCommand G u c) (effect G d)
  effect-caused c d = told-caused G u q (IsAskedByCommand G u c) (effect G d) (effect-told unnamed G d)

  -- ---- of a review

  pub review-caused : (question : Question) → IsCaused G u q (IsAskedByQuestion G question) (review_ruling G u q question)
  review-caused question =
      then-caused G u q (IsAskedByQuestion G question) (resolve_question G question) (permitted_review G u q)
      (told-caused G u q (IsAskedByQuestion G question) (resolve_question G question) (question-told unnamed G question))
      (λ v is. then-caused G u q (IsAskedByQuestion G question) (unless (first_denied G u q (required_by v)) v) (unless (first_of (review_checks G v)))
      (unless-caused G u q (IsAskedByQuestion G question) (required_by v) v (λ r e there. (v, is, there)))
      (λ w at. told-caused G u q (IsAskedByQuestion G question) (unless (first_of (review_checks G v)) w) (kinds-told unnamed G v w)))

  pub command_denied_names_cause : (c : Command) (why : Refusal) → ruling G u q c ≡ Err why → TellsCause G u q (IsAskedByCommand G u c) why
  command_denied_names_cause c why = err-at (TellsCause G u q (IsAskedByCommand G u c)) (ruling G u q c) why (ruling-caused c)

  pub review_denied_names_cause : (question : Question) (why : Refusal) → review_ruling G u q question ≡ Err why → TellsCause G u q (IsAskedByQuestion G question) why
  review_denied_names_cause question why = err-at (TellsCause G u q (IsAskedByQuestion G question)) (review_ruling G u q question) why (review-caused question)

-- ---- of an access

module _ {X : Type 0} (test : X → Bool) where
  position-at : (n i : ℕ) (xs : List X) → position_from test n xs ≡ Some i →
      (k : ℕ) × (x : X) × (n + k ≡ i) × (slice_get xs k ≡ Some x) × (test x ≡ true)
  position-at n i [] = λ h. absurd (cc)
  position-at n i (y ∷ ys) =
      cond_both (test y) (Some n) (position_from test (n + 1) ys)
      (λ found. found ≡ Some i → (k : ℕ) × (x : X) × (n + k ≡ i) × (slice_get (y ∷ ys) k ≡ Some x) × (test x ≡ true))
      (λ is h. let same : n ≡ i = cc in (0, y, omega (arith, same), refl, is))
      (λ is h. further (position-at (n + 1) i ys h)) where
        further : (k : ℕ) × (x : X) × (n + 1 + k ≡ i) × (slice_get ys k ≡ Some x) × (test x ≡ true) →
            (k : ℕ) × (x : X) × (n + k ≡ i) × (slice_get (y ∷ ys) k ≡ Some x) × (test x ≡ true)
        further (k, x, sum, at, passes) = (suc k, x, omega (arith, sum), at, passes)

-- the right of a name has that name
named-right : (G : Graph) (right : List ℕ) (r : ℕ) → bit_named G.rights right ≡ Some r → right_name G r ≡ right
named-right G right r h = of (position-at (bytes_eq right) 0 r G.rights h) where
  of : (k : ℕ) × (x : List ℕ) × (0 + k ≡ r) × (slice_get G.rights k ≡ Some x) × (bytes_eq right x ≡ true) → right_name G r ≡ right
  of (k, x, sum, at, passes) =
      let same : k ≡ r = omega (arith, sum) in rw (← same, at) (sym ((bytes_eq-Decides right x).0 passes))

access-bit : (name : List ℕ) (o : Option ℕ) (bit : ℕ) → if_access name o ≡ Ok bit → o ≡ Some bit
access-bit name (Some b) bit =
    cond_both (is_access_right b) (Ok b) (Err (UnknownName name)) (λ (r : Result ℕ Refusal). r ≡ Ok bit → Some b ≡ Some bit)
    (λ is h. cc) (λ is h. absurd (cc))
access-bit name None bit = λ h. absurd (cc)

module _ (G : Graph) (u q : ℕ) (right target : List ℕ) where
  abbrev Asked : ℕ → ℕ → Type 0
  Asked = IsAskedByAccess G right target

  access-caused : (o : Option ℕ) → IsCaused G u (Some q) Asked (if_access right o)
  access-caused (Some bit) =
      cond_both (is_access_right bit) (Ok bit) (Err (UnknownName right)) (λ (r : Result ℕ Refusal). IsCaused G u (Some q) Asked r) (λ is. tt) (λ is. tt)
  access-caused None = tt

  allowed-caused : (r e : ℕ) (o : Option Reason) → Asked r e → denial_in G u (Some q) r e ≡ o → IsCaused G u (Some q) Asked (allowed_unless right e o)
  allowed-caused r e None asked is = tt
  allowed-caused r e (Some why) asked is =
      let told = (denied_exactly G u (Some q) r e why).0 is in (r, asked, named-right G right r asked.0, told.0, told.1)

  pub accessed-caused : IsCaused G u (Some q) Asked (accessed G u q right target)
  accessed-caused =
      then-caused G u (Some q) Asked (if_access right (bit_named G.rights right)) _ (access-caused (bit_named G.rights right))
      (λ r is. then-caused G u (Some q) Asked (look_up G target) _ (told-caused G u (Some q) Asked (look_up G target) (look_up-told unnamed G target))
      (λ e at. allowed-caused r e (denial_in G u (Some q) r e) (access-bit right (bit_named G.rights right) r is, at) refl))

  pub access_denied_names_cause : (why : Refusal) → accessed G u q right target ≡ Err why → TellsCause G u (Some q) (IsAskedByAccess G right target) why
  access_denied_names_cause why = err-at (TellsCause G u (Some q) Asked) (accessed G u q right target) why accessed-caused
