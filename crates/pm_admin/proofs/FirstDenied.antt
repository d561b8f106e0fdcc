-- The first capability that is denied: of two lists one after another, and of the root user none.
use Rattle.std.proofs.Common.{◌≡◌, ◌+◌, ◌<◌, ℕ, List, [], ◌∷◌, ◌++◌, length, map, drop, slice_get, Option, Some, None, IsSome, refl, sym, ◌∙◌, ap, subst, arith}
use Rattle.std.proofs.lemmas.Option.{slice_get-get_or}
use Rattle.pm_model.specs.State.{Graph, root}
use Rattle.pm_model.specs.Authority.{denial_in, denied_unless, first_denied, prohibited_at, watched_at, obliged_at, kept_of, required, to_prohibit, to_prohibit_to, subject_element}
use Rattle.pm_model.specs.declared.elements.Kind.{Kind}
use Rattle.pm_model.specs.declared.elements.Kind.TheVariants.{User, Ua, Object, Oa, Pc}
use Rattle.pm_model.specs.KeptReviews.{KeptReview, kept_at}
use Rattle.pm_model.specs.declared.events.Pattern.{Pattern}
use Rattle.pm_model.specs.declared.obligations.Obligation.{Obligation}
use Rattle.pm_model.specs.declared.prohibitions.Prohibition.{Prohibition}
use Rattle.pm_model.specs.declared.requests.Change.{Change}
use Rattle.pm_model.specs.declared.requests.Change.TheVariants as change
use Rattle.pm_model.specs.declared.replies.Reason.{Reason}
use Rattle.pm_model.specs.declared.replies.Refusal.{Refusal}
use Rattle.pm_model.specs.Formed.{IsWellFormed}
use Rattle.pm_model.proofs.Walks.{drop-item}
use Rattle.pm_laws.proofs.RightNames.{opening-few}

-- ---- one right on each element of a list

abbrev pub on_each : ℕ → List ℕ → List (ℕ × ℕ)
on_each r ns = map (λ n. (r, n)) ns

-- the places of a prohibition
abbrev pub on_places : List ℕ → List (ℕ × ℕ)
on_places places = on_each to_prohibit_to places

abbrev pub or_else : Option Refusal → Option Refusal → Option Refusal
or_else (Some why) rest = Some why
or_else None rest = rest

module _ (G : Graph) (u : ℕ) (q : Option ℕ) where
  unless-rest : (r e : ℕ) (why : Option Reason) (rest more : Option Refusal) →
      denied_unless G r e why (or_else rest more) ≡ or_else (denied_unless G r e why rest) more
  unless-rest r e (Some why) rest more = refl
  unless-rest r e None rest more = refl

  -- two lists: the elements of the first, and then those of the second
  each-append : (r : ℕ) (xs ys : List ℕ) →
      first_denied G u q (on_each r (xs ++ ys)) ≡ or_else (first_denied G u q (on_each r xs)) (first_denied G u q (on_each r ys))
  each-append r [] ys = refl
  each-append r (x ∷ xs) ys =
      ap (denied_unless G r x (denial_in G u q r x)) (each-append r xs ys)
      ∙ unless-rest r x (denial_in G u q r x) (first_denied G u q (on_each r xs)) (first_denied G u q (on_each r ys))

  -- the answer to the elements is that of those from place i on
  abbrev pub IsLeft : ℕ → List ℕ → ℕ → Type 0
  IsLeft r ns i = first_denied G u q (on_each r ns) ≡ first_denied G u q (on_each r (drop i ns))

  left-step : (r : ℕ) (ns : List ℕ) (i x : ℕ) → IsLeft r ns i → slice_get ns i ≡ Some x →
      first_denied G u q (on_each r ns)
      ≡ or_else (first_denied G u q (on_each r (x ∷ []))) (first_denied G u q (on_each r (drop (i + 1) ns)))
  left-step r ns i x h at =
      h ∙ ap (λ xs. first_denied G u q (on_each r xs)) (drop-item ns i x at) ∙ each-append r (x ∷ []) (drop (i + 1) ns)

  pub left-denied : (r : ℕ) (ns : List ℕ) (i x : ℕ) (why : Refusal) → IsLeft r ns i → slice_get ns i ≡ Some x →
      Some why ≡ first_denied G u q (on_each r (x ∷ [])) → Some why ≡ first_denied G u q (on_each r ns)
  left-denied r ns i x why h at is = rw (left-step r ns i x h at, ← is) refl

  pub left-more : (r : ℕ) (ns : List ℕ) (i x : ℕ) → IsLeft r ns i → slice_get ns i ≡ Some x →
      None ≡ first_denied G u q (on_each r (x ∷ [])) → IsLeft r ns (i + 1)
  left-more r ns i x h at is = rw (left-step r ns i x h at, ← is) refl

  -- ---- one capability before others

  pub first-told : (r e : ℕ) (o : Option Reason) (why : Refusal) (rest : Option Refusal) →
      Some why ≡ denied_unless G r e o None → Some why ≡ denied_unless G r e o rest
  first-told r e (Some reason) why rest is = is
  first-told r e None why rest is = absurd (cc)

  first-allowed : (r e : ℕ) (o : Option Reason) (rest : Option Refusal) → None ≡ denied_unless G r e o None → denied_unless G r e o rest ≡ rest
  first-allowed r e (Some reason) rest is = absurd (cc)
  first-allowed r e None rest is = refl

  -- where the subject is allowed, a prohibition asks for its two sets
  sets-left : (p : Prohibition) (e : ℕ) → e ≡ subject_element G p.subject → None ≡ first_denied G u q ((to_prohibit, e) ∷ []) →
      first_denied G u q (required G (change.Prohibit p)) ≡ or_else (first_denied G u q (on_places p.inc)) (first_denied G u q (on_places p.exc))
  sets-left p e same none =
      let s = subject_element G p.subject in
      let allowed : None ≡ first_denied G u q ((to_prohibit, s) ∷ []) = subst (λ n. None ≡ first_denied G u q ((to_prohibit, n) ∷ [])) same none in
      first-allowed to_prohibit s (denial_in G u q to_prohibit s) (first_denied G u q (on_places (p.inc ++ p.exc))) allowed ∙ each-append to_prohibit_to p.inc p.exc

  pub inc-denied : (p : Prohibition) (e : ℕ) (why : Refusal) → e ≡ subject_element G p.subject →
      None ≡ first_denied G u q ((to_prohibit, e) ∷ []) → Some why ≡ first_denied G u q (on_places p.inc) →
      Some why ≡ first_denied G u q (required G (change.Prohibit p))
  inc-denied p e why same none is = sym (sets-left p e same none ∙ ap (λ o. or_else o (first_denied G u q (on_places p.exc))) (sym is))

  pub exc-left : (p : Prohibition) (e : ℕ) (last : Option Refusal) → e ≡ subject_element G p.subject →
      None ≡ first_denied G u q ((to_prohibit, e) ∷ []) → None ≡ first_denied G u q (on_places p.inc) →
      last ≡ first_denied G u q (on_places p.exc) → last ≡ first_denied G u q (required G (change.Prohibit p))
  exc-left p e last same none inc is =
      is ∙ sym (sets-left p e same none ∙ ap (λ o. or_else o (first_denied G u q (on_places p.exc))) (sym inc))

-- a right of the opening has a name
pub right-named : (G : Graph) (r : ℕ) → IsWellFormed G → r < 17 → IsSome (slice_get G.rights r)
right-named G r f below =
    let few = opening-few G.rights f.rights.opening in
    let within : r < length G.rights = omega (arith, few, below) in rw (slice_get-get_or G.rights r [] within) refl

-- ---- the root user

-- it has what any change asks for
root-places : (G : Graph) (q : Option ℕ) (places : List ℕ) → first_denied G root q (on_places places) ≡ None
root-places G q [] = refl
root-places G q (x ∷ xs) = root-places G q xs

root-lift : (G : Graph) (q : Option ℕ) (o : Option Prohibition) → first_denied G root q (prohibited_at G o) ≡ None
root-lift G q None = refl
root-lift G q (Some p) = refl

root-watch : (G : Graph) (q : Option ℕ) (p : Pattern) → first_denied G root q (watched_at p) ≡ None
root-watch G q p = of p.user refl where
  of : (user : Option ℕ) → p.user ≡ user → first_denied G root q (watched_at p) ≡ None
  of (Some x) is = rw is refl
  of None is = rw is refl

root-withdraw : (G : Graph) (q : Option ℕ) (o : Option Obligation) → first_denied G root q (obliged_at o) ≡ None
root-withdraw G q None = refl
root-withdraw G q (Some o) = root-watch G q o.pattern

root-drop : (G : Graph) (q : Option ℕ) (o : Option KeptReview) → first_denied G root q (kept_of o) ≡ None
root-drop G q None = refl
root-drop G q (Some k) = refl

root-create : (G : Graph) (q : Option ℕ) (id : ℕ) (kind : Kind) (name : List ℕ) (into : Option ℕ) →
    first_denied G root q (required G (change.Create id kind name into)) ≡ None
root-create G q id User name None = refl
root-create G q id Ua name None = refl
root-create G q id Object name None = refl
root-create G q id Oa name None = refl
root-create G q id Pc name None = refl
root-create G q id User name (Some into) = refl
root-create G q id Ua name (Some into) = refl
root-create G q id Object name (Some into) = refl
root-create G q id Oa name (Some into) = refl
root-create G q id Pc name (Some into) = refl

root-allowed : (G : Graph) (q : Option ℕ) (c : Change) → first_denied G root q (required G c) ≡ None
root-allowed G q (change.Create id kind name into) = root-create G q id kind name into
root-allowed G q (change.Delete id) = refl
root-allowed G q (change.Assign x y) = refl
root-allowed G q (change.Deassign x y) = refl
root-allowed G q (change.Associate u r t) = refl
root-allowed G q (change.Dissociate u t) = refl
root-allowed G q (change.Prohibit p) = root-places G q (p.inc ++ p.exc)
root-allowed G q (change.Lift i) = root-lift G q (slice_get G.prohibitions i)
root-allowed G q (change.Oblige o) = root-watch G q o.pattern
root-allowed G q (change.Withdraw i) = root-withdraw G q (slice_get G.obligations i)
root-allowed G q (change.DefineRight name) = refl
root-allowed G q (change.Keep of) = refl
root-allowed G q (change.DropReview n) = root-drop G q (kept_at G.kept n)
root-allowed G q (change.OpenSession u) = refl
root-allowed G q (change.CloseSession n) = refl
root-allowed G q (change.StartProcess n) = refl
root-allowed G q (change.EndProcess n) = refl

pub root_none : (G : Graph) (u : ℕ) (q : Option ℕ) (c : Change) → u ≡ root → None ≡ first_denied G u q (required G c)
root_none G u q c is = rw is (sym (root-allowed G q c))
