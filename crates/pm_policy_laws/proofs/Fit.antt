-- What every change keeps that well formed doesn't say, and the soundness of a policy needs: no defined right is the word of a
-- command, and prohibitions name elements of fitting kinds.
use Rattle.std.proofs.Common.{◌≡◌, ◌≤◌, ◌==◌, ℕ, Bool, true, false, not, List, [], ◌∷◌, length, drop, filter, bytes_eq, Contains, None, refl, sym, ◌∙◌, subst, arith, eq-eqb, length-append}
use Rattle.std.specs.List.{list_any, list_all, remove}
use Rattle.std.proofs.lemmas.Bool.{and_parts, and_from, or_left, or_right, or_parts, not-false, not_from_false, ne_eqb}
use Rattle.std.proofs.lemmas.List.{drop-append-le}
use Rattle.pm_model.specs.State.{Graph, element, element_at, is_numbered}
use Rattle.pm_model.specs.Effect.{changed, checks, refusal, has_kind, is_user_kind, is_ua_kind, is_place_kind, is_place, has_subject_kind, may_prohibit, placed, has_end}
use Rattle.pm_model.specs.Formed.{Each, AreRising, IsLive}
use Rattle.pm_model.specs.Prohibitions.{is_process_in, is_subject, names_element}
use Rattle.pm_model.specs.Resolve.{unused}
use Rattle.pm_model.specs.RightSet.{command_words}
use Rattle.pm_model.specs.Sessions.{processes_of}
use Rattle.pm_model.specs.declared.elements.Element.{Element}
use Rattle.pm_model.specs.declared.elements.Kind.{Kind}
use Rattle.pm_model.specs.declared.prohibitions.Prohibition.{Prohibition}
use Rattle.pm_model.specs.declared.prohibitions.Subject.{Subject}
use Rattle.pm_model.specs.declared.prohibitions.Subject.TheVariants as subject
use Rattle.pm_model.specs.declared.requests.Change.{Change}
use Rattle.pm_model.specs.declared.requests.Change.TheVariants as change
use Rattle.pm_laws.proofs.Checks.{passed}
use Rattle.pm_laws.proofs.Deleted.{rising-filter}
use Rattle.pm_laws.proofs.Ends.{kind-lives}
use Rattle.pm_laws.proofs.Items.{any-from, contains-first, contains-rest, contains-removed, each-at, each-filter, each-from, each-push, find-filter, none-at}
use Rattle.pm_laws.proofs.Numbers.{found-at, live-found, live-placed, rising-placed}

-- the name isn't the word of a command
abbrev pub IsNoWord : List ℕ → Type 0
IsNoWord name = list_any (bytes_eq name) command_words ≡ false

pub record IsFit (G : Graph) : Type 0 where
  pub rising : AreRising 0 G.elements
  pub opened : 17 ≤ length G.rights
  pub words : Each IsNoWord (drop 17 G.rights)
  pub kinds : Each (λ p. may_prohibit G.elements p ≡ true) G.prohibitions

-- an element that is made has the least unused number
abbrev pub IsMade : Graph → Change → Type 0
IsMade G (change.Create id kind name into) = id ≡ unused G.elements
IsMade G _ = Unit {0}

-- ---- elements that stay

module _ (es fs : List Element) where
  -- where it is live, its number finds the same element
  abbrev Stays : ℕ → Type 0
  Stays n = IsLive es n → element_at fs n ≡ element_at es n

  kind-stays : (fits : Kind → Bool) (n : ℕ) → Stays n → has_kind fits (element_at es n) ≡ true → has_kind fits (element_at fs n) ≡ true
  kind-stays fits n stays h = rw (stays (kind-lives fits es n h)) h

  subject-stays : (s : Subject ℕ ℕ) → ((n : ℕ) → is_subject n s ≡ true → Stays n) → has_subject_kind es s ≡ true → has_subject_kind fs s ≡ true
  subject-stays (subject.User n) stays h = kind-stays is_user_kind n (stays n (eq-eqb n n refl)) h
  subject-stays (subject.Ua n) stays h = kind-stays is_ua_kind n (stays n (eq-eqb n n refl)) h
  subject-stays (subject.Process n) stays h = refl

  places-stay : (ns : List ℕ) → ((n : ℕ) → Contains ns n → Stays n) → list_all (is_place es) ns ≡ true → list_all (is_place fs) ns ≡ true
  places-stay [] stays h = refl
  places-stay (n ∷ ns) stays h =
      let p = and_parts (is_place es n) (list_all (is_place es) ns) h in
      and_from (is_place fs n) (list_all (is_place fs) ns) (kind-stays is_place_kind n (stays n (contains-first n ns)) p.0)
      (places-stay ns (λ m c. stays m (contains-rest n m ns c)) p.1)

  prohibit-stays : (p : Prohibition) → ((n : ℕ) → names_element n p ≡ true → Stays n) → may_prohibit es p ≡ true → may_prohibit fs p ≡ true
  prohibit-stays p stays h = let outer = and_parts _ _ h in let inner = and_parts _ _ outer.0 in
      and_from _ _
      (and_from _ _
      (subject-stays p.subject (λ n is. stays n (or_left _ _ (or_left _ _ is))) inner.0)
      (places-stay p.inc (λ n c. stays n (or_left _ _ (or_right _ _ (any-from (λ m. m == n) p.inc n c (eq-eqb n n refl))))) inner.1))
      (places-stay p.exc (λ n c. stays n (or_right _ _ (any-from (λ m. m == n) p.exc n c (eq-eqb n n refl)))) outer.1)

  kinds-stay : (ps : List Prohibition) → ((p : Prohibition) (n : ℕ) → Contains ps p → names_element n p ≡ true → Stays n) →
      Each (λ p. may_prohibit es p ≡ true) ps → Each (λ p. may_prohibit fs p ≡ true) ps
  kinds-stay ps stays h = each-from (λ p. may_prohibit fs p ≡ true) ps
      (λ p c. prohibit-stays p (λ n. stays p n c) (each-at (λ p. may_prohibit es p ≡ true) ps p h c))

-- ---- changes

-- none of them names the element that goes
left-stays : (G : Graph) (id n : ℕ) (p : Prohibition) → refusal G (change.Delete id) ≡ None → Contains G.prohibitions p → names_element n p ≡ true →
    Stays G.elements (filter (λ e. not (is_numbered id e)) G.elements) n
left-stays G id n p r c names live =
    let e = live-found G.elements n live in
    let at = found-at G.elements n e.0 e.1 in
    find-filter (is_numbered n) (λ e. not (is_numbered id e)) G.elements e.0 e.1
    (not_from_false (e.0.number == id) (ne_eqb e.0.number id (λ same. apart (sym at.1 ∙ same))))
    ∙ sym e.1 where
      used : list_any (names_element id) G.prohibitions ≡ false
      used =
          let all = or_parts _ _ (passed (checks G (change.Delete id)) r).1.1.0 in
          let most = or_parts _ _ all.0 in
          let lists = or_parts _ _ most.0 in
          (or_parts (list_any (has_end id) G.associations) (list_any (names_element id) G.prohibitions) lists.0).1

      apart : n ≡ id → ⊥
      apart same =
          let no : names_element id p ≡ false = none-at (names_element id) G.prohibitions p used c in
          let yes : names_element id p ≡ true = subst (λ m. names_element m p ≡ true) same names in cc

pub fit-changed : (G : Graph) (c : Change) → IsMade G c → refusal G c ≡ None → IsFit G → IsFit (changed G c)
fit-changed G (change.Create id kind name into) made r h =
    let x = element id kind name in record {
      rising = rising-placed x 0 G.elements h.rising made;
      opened = h.opened;
      words = h.words;
      kinds = kinds-stay G.elements (placed x G.elements) G.prohibitions (λ p n c names live. live-placed x G.elements n h.rising made live) h.kinds;
    }
fit-changed G (change.Delete id) made r h = record {
  rising = rising-filter (λ e. not (is_numbered id e)) 0 G.elements h.rising;
  opened = h.opened;
  words = h.words;
  kinds = kinds-stay G.elements (filter (λ e. not (is_numbered id e)) G.elements) G.prohibitions
      (λ p n c names. left-stays G id n p r c names) h.kinds;
}
fit-changed G (change.CloseSession n) made r h = record {
  rising = h.rising;
  opened = h.opened;
  words = h.words;
  kinds = each-filter (λ p. may_prohibit G.elements p ≡ true) (λ (p : Prohibition). not (is_process_in (processes_of G.procs n) p.subject)) G.prohibitions h.kinds;
}
fit-changed G (change.EndProcess n) made r h = record {
  rising = h.rising;
  opened = h.opened;
  words = h.words;
  kinds = each-filter (λ p. may_prohibit G.elements p ≡ true) (λ (p : Prohibition). not (is_process_in (n ∷ []) p.subject)) G.prohibitions h.kinds;
}
fit-changed G (change.Prohibit p) made r h = record {
  rising = h.rising;
  opened = h.opened;
  words = h.words;
  kinds = each-push (λ p. may_prohibit G.elements p ≡ true) G.prohibitions p h.kinds (not-false _ (passed (checks G (change.Prohibit p)) r).0);
}
fit-changed G (change.Lift i) made r h = record {
  rising = h.rising;
  opened = h.opened;
  words = h.words;
  kinds = each-from (λ p. may_prohibit G.elements p ≡ true) (remove G.prohibitions i)
      (λ p c. each-at (λ p. may_prohibit G.elements p ≡ true) G.prohibitions p h.kinds (contains-removed G.prohibitions i p c));
}
fit-changed G (change.DefineRight name) made r h =
    let l = length-append G.rights (name ∷ []) in
    let opened = h.opened in record {
      rising = h.rising;
      opened = omega (arith, l, opened);
      words = rw (drop-append-le 17 G.rights (name ∷ []) h.opened)
          (each-push IsNoWord (drop 17 G.rights) name h.words (or_parts _ _ (passed (checks G (change.DefineRight name)) r).0).1);
      kinds = h.kinds;
    }
fit-changed G _ made r h = record { rising = h.rising; opened = h.opened; words = h.words; kinds = h.kinds }
