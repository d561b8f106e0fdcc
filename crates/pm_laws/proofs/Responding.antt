-- Responses: which obligations respond, by whose authority their actions are done, what these leave as it is, and that
-- they keep well formed.
use Rattle.std.proofs.Common.{◌≡◌, ◌↔◌, ◌+◌, ℕ, Bool, true, false, List, [], ◌∷◌, map, Option, Some, None, IfSome, Result, Ok, Err, IfOk, if◌then◌else◌, Contains, ◌⊎◌, inl, inr, refl, sym, ◌∙◌, subst, bytes_eq}
use Rattle.std.proofs.lemmas.Bool.{and_parts}
use Rattle.std.proofs.lemmas.List.Elements.{Contains-append_left}
use Rattle.std.proofs.lemmas.Slice.Eq.{bytes_eq-Decides}
use Rattle.pm_model.specs.State.{State, Graph}
use Rattle.pm_model.specs.Containment.{contained, IsContained}
use Rattle.pm_model.specs.Obligations.{is_in_given, matches}
use Rattle.pm_model.specs.Events.{names_in, obliging, responders}
use Rattle.pm_model.specs.Resolve.{known, look_up, look_up_both, look_up_all, look_up_rights, look_up_subject, resolve}
use Rattle.pm_model.specs.Prohibitions.{place_called}
use Rattle.pm_model.specs.Authority.{ruling}
use Rattle.pm_model.specs.Effect.{changed, refusal, effect}
use Rattle.pm_model.specs.Responses.{name_of, subject_of, command_of, bound, fresh_name, all_hold, commanded, acted, Stopped, or_stopped, response_from, responses_from, responses}
use Rattle.pm_model.specs.Answer.{responded}
use Rattle.pm_model.specs.Formed.{Each, IsUser, IsWellFormed}
use Rattle.pm_model.specs.declared.actions.Act.{Act}
use Rattle.pm_model.specs.declared.actions.Act.TheVariants as act
use Rattle.pm_model.specs.declared.actions.Action.{Action}
use Rattle.pm_model.specs.declared.actions.Term.{Term}
use Rattle.pm_model.specs.declared.events.Event.{Event}
use Rattle.pm_model.specs.declared.events.EventNames.{EventNames}
use Rattle.pm_model.specs.declared.obligations.Obligation.{Obligation}
use Rattle.pm_model.specs.declared.obligations.Place.{Place}
use Rattle.pm_model.specs.declared.requests.Change.{Change}
use Rattle.pm_model.specs.declared.requests.Change.TheVariants as change
use Rattle.pm_model.specs.declared.replies.Refusal.{Refusal}
use Rattle.pm_model.proofs.ContainmentLaws.{containment_is_path}
use Rattle.pm_laws.specs.Meaning.{IsMatched}
use Rattle.pm_laws.proofs.Items.{each-from, contains-none, contains-filter, filter-contains}
use Rattle.pm_laws.proofs.Checks.{unless-ok}
use Rattle.pm_laws.proofs.Formed.{formed-effect}
use Rattle.pm_laws.proofs.Resolved.{and_then-ok, and_then-if, ok-is}
use Rattle.pm_laws.proofs.Authority.{ruling-resolved, ruling-named}
use Rattle.pm_laws.proofs.Live.{author_is}

-- ---- which obligations respond

module _ (G : Graph) where
  given-in : (given : Option ℕ) (n : ℕ) → is_in_given (contained G.assigned) given n ≡ true → IfSome given (IsContained G.assigned n)
  given-in None n h = tt
  given-in (Some x) n h = (containment_is_path G.assigned n x).0 h

  in-given : (given : Option ℕ) (n : ℕ) → IfSome given (IsContained G.assigned n) → is_in_given (contained G.assigned) given n ≡ true
  in-given None n h = refl
  in-given (Some x) n h = (containment_is_path G.assigned n x).1 h

  pub responders_match : (obligations : List Obligation) (e : Event) (o : Obligation) →
      Contains (responders G obligations (Some e)) o ↔ (Contains obligations o × IsMatched G o.pattern e)
  responders_match obligations e o = (to, from) where
    passes : Obligation → Bool
    passes o = matches (contained G.assigned) o.pattern e

    to : Contains (responders G obligations (Some e)) o → Contains obligations o × IsMatched G o.pattern e
    to c =
        let p = filter-contains passes obligations o c in
        let first = and_parts _ _ p.1 in
        let second = and_parts _ _ first.0 in (
          p.0,
          record {
            operation = sym ((bytes_eq-Decides o.pattern.on e.operation).0 second.0);
            user = given-in o.pattern.user e.user second.1;
            target = given-in o.pattern.target e.target first.1;
          },
        )

    from : Contains obligations o × IsMatched G o.pattern e → Contains (responders G obligations (Some e)) o
    from h = contains-filter passes obligations o h.0 matched where
      named : bytes_eq o.pattern.on e.operation ≡ true
      named = (bytes_eq-Decides o.pattern.on e.operation).1 (sym h.1.operation)

      matched : passes o ≡ true
      matched = rw (named, in-given o.pattern.user e.user h.1.user, in-given o.pattern.target e.target h.1.target) refl

  -- a responder is one of those that may respond
  pub responder-may : (obligations : List Obligation) (e : Option Event) (o : Obligation) → Contains (responders G obligations e) o →
      Contains obligations o
  responder-may obligations None o c = contains-none o c
  responder-may obligations (Some e) o c = ((responders_match obligations e o).0 c).0

  -- those that may respond to a change stand behind it
  pub obliging-stands : (c : Change) (o : Obligation) → Contains (obliging G c) o → Contains (changed G c).obligations o
  obliging-stands (change.Withdraw i) o c = c
  obliging-stands (change.Oblige new) o c = Contains-append_left G.obligations (new ∷ []) o c
  obliging-stands _ o c = c

-- ---- what an action leaves as it is

-- the obligations, the next numbers of sessions and processes, and the kept reviews
abbrev pub AreLeft : Graph → Graph → Type 0
AreLeft G H =
    (H.obligations ≡ G.obligations) × (H.procs.next_session ≡ G.procs.next_session) × (H.procs.next_process ≡ G.procs.next_process)
    × (H.kept ≡ G.kept)

left-itself : (G : Graph) → AreLeft G G
left-itself G = (refl, refl, refl, refl)

left-then : (G H K : Graph) → AreLeft G H → AreLeft H K → AreLeft G K
left-then G H K h k = (k.0 ∙ h.0, k.1 ∙ h.1, k.2 ∙ h.2, k.3 ∙ h.3)

-- neither of obligations, nor of sessions and processes, nor of kept reviews
is_plain : Change → Bool
is_plain (change.Oblige o) = false
is_plain (change.Withdraw i) = false
is_plain (change.OpenSession u) = false
is_plain (change.CloseSession n) = false
is_plain (change.StartProcess n) = false
is_plain (change.EndProcess n) = false
is_plain (change.Keep of) = false
is_plain (change.DropReview n) = false
is_plain _ = true

plain-leaves : (G : Graph) (d : Change) → is_plain d ≡ true → AreLeft G (changed G d)
unfolding is_plain
plain-leaves G (change.Oblige o) plain = absurd (cc)
plain-leaves G (change.Withdraw i) plain = absurd (cc)
plain-leaves G (change.OpenSession u) plain = absurd (cc)
plain-leaves G (change.CloseSession n) plain = absurd (cc)
plain-leaves G (change.StartProcess n) plain = absurd (cc)
plain-leaves G (change.EndProcess n) plain = absurd (cc)
plain-leaves G (change.Keep of) plain = absurd (cc)
plain-leaves G (change.DropReview n) plain = absurd (cc)
plain-leaves G _ plain = (refl, refl, refl, refl)

module _ (names : EventNames) (fresh : List ℕ) (G : Graph) where
  abbrev IsPlain : Change → Type 0
  IsPlain d = is_plain d ≡ true

  abbrev means : Term → List ℕ
  means name = name_of names fresh name

  -- so are the changes of all acts
  act-plain : (u : ℕ) (a : Act) → IfOk (resolve G u (command_of names fresh a)) IsPlain
  unfolding is_plain
  act-plain u (act.Create kind name into) = and_then-if IsPlain (look_up G (means into)) _ (λ c is. refl)
  act-plain u (act.Delete name) = and_then-if IsPlain (look_up G (means name)) _ (λ n is. refl)
  act-plain u (act.Assign from to) = and_then-if IsPlain (look_up_both G (means from) (means to)) _ (λ p is. refl)
  act-plain u (act.Deassign from to) = and_then-if IsPlain (look_up_both G (means from) (means to)) _ (λ p is. refl)
  act-plain u (act.Associate ua rights at) =
      and_then-if IsPlain (look_up G (means ua)) _ (λ a is. and_then-if IsPlain (look_up_rights G rights) _ (λ r is.
      and_then-if IsPlain (look_up G (means at)) _ (λ t is. refl)))
  act-plain u (act.Dissociate ua at) = and_then-if IsPlain (look_up_both G (means ua) (means at)) _ (λ p is. refl)
  act-plain u (act.Prohibit name s rights inc exc mode) =
      and_then-if IsPlain (look_up_subject G (subject_of names fresh s)) _ (λ t is. and_then-if IsPlain (look_up_rights G rights) _ (λ r is.
      and_then-if IsPlain (look_up_all G (map means inc)) _ (λ i is. and_then-if IsPlain (look_up_all G (map means exc)) _ (λ x is. refl))))
  act-plain u (act.Lift name) = and_then-if IsPlain (known name (place_called G.prohibitions name)) _ (λ i is. refl)

module _ (names : EventNames) (version : ℕ) where
  -- ---- one action

  abbrev ByAuthor : Graph → Graph → ℕ → Place → Action → Type 0
  ByAuthor G H u place a = (d : Change) × (ruling G u None (bound names place version a.act) ≡ Ok d) × (effect G d ≡ Ok H)

  -- an action that is done is skipped, or its author may give its command
  acted-cases : (G H : Graph) (u : ℕ) (place : Place) (a : Action) → acted names version G u place a ≡ Ok H →
      (G ≡ H) ⊎ ByAuthor G H u place a
  acted-cases G H u place a h =
      let yes = and_then-ok (all_hold G names (fresh_name place version) a.guards)
      (λ yes. if yes then commanded G u (bound names place version a.act) else Ok G) H h in of yes.0 yes.2 where
        of : (b : Bool) → (if b then commanded G u (bound names place version a.act) else Ok G) ≡ Ok H → (G ≡ H) ⊎ ByAuthor G H u place a
        of true h = inr (and_then-ok (ruling G u None (bound names place version a.act)) (effect G) H h)
        of false h = inl (ok-is {E = Refusal} (Ok G) G H refl h)

  pub responses_by_author : (G H : Graph) (u : ℕ) (place : Place) (a : Action) →
      all_hold G names (fresh_name place version) a.guards ≡ Ok true → (acted names version G u place a ≡ Ok H) ↔ ByAuthor G H u place a
  responses_by_author G H u place a hold = (to, from) where
    to : acted names version G u place a ≡ Ok H → ByAuthor G H u place a
    to h = and_then-ok (ruling G u None (bound names place version a.act)) (effect G) H (rw hold at h)

    from : ByAuthor G H u place a → acted names version G u place a ≡ Ok H
    from p = rw (hold, p.1) p.2

  acted-left : (G H : Graph) (u : ℕ) (place : Place) (a : Action) → acted names version G u place a ≡ Ok H → AreLeft G H
  acted-left G H u place a h = elim (acted-cases G H u place a h) [
    | inl same ↦ subst (AreLeft G) same (left-itself G)
    | inr by ↦
        let plain = act-plain names (fresh_name place version) G u a.act in
        let is : is_plain by.0 ≡ true = rw (ruling-resolved G u None (bound names place version a.act) by.0 by.1).0 at plain in
        subst (AreLeft G) (unless-ok (refusal G by.0) (changed G by.0) H by.2).1 (plain-leaves G by.0 is)
  ]

  acted-formed : (G H : Graph) (u : ℕ) (place : Place) (a : Action) → IsWellFormed G → IsUser G.elements u →
      acted names version G u place a ≡ Ok H → IsWellFormed H
  acted-formed G H u place a f user h = elim (acted-cases G H u place a h) [
    | inl same ↦ subst IsWellFormed same f
    | inr by ↦ formed-effect G H by.0 f (ruling-named G u None (bound names place version a.act) by.0 user by.1) by.2
  ]

  -- ---- all of them

  -- what each action keeps the responses keep
  module _ (P : Graph → Type 0) where
    abbrev IsKeptBy : Obligation → Type 0
    IsKeptBy o = (G H : Graph) (place : Place) (a : Action) → P G → acted names version G o.author place a ≡ Ok H → P H

    done-ok : (o : Obligation) (number : ℕ) (r : Result Graph Refusal) (H : Graph) → or_stopped names version o number r ≡ Ok H → r ≡ Ok H
    done-ok o number (Ok G) H h = cc
    done-ok o number (Err why) H h = absurd (cc)

    response-keeps : (o : Obligation) (place number : ℕ) (actions : List Action) (G H : Graph) → IsKeptBy o → P G →
        response_from names version o place number G actions ≡ Ok H → P H
    response-keeps o place number [] G H kept p h = subst P (ok-is {E = Stopped} (Ok G) G H refl h) p
    response-keeps o place number (a ∷ actions) G H kept p h =
        let at : Place = record { obligation = place; action = number } in
        let next = and_then-ok (or_stopped names version o number (acted names version G o.author at a))
        (λ next. response_from names version o place (number + 1) next actions) H h in
        let done = done-ok o number (acted names version G o.author at a) next.0 next.1 in
        response-keeps o place (number + 1) actions next.0 H kept (kept G next.0 at a p done) next.2

    responses-keep : (place : ℕ) (obligations : List Obligation) (G H : Graph) → Each IsKeptBy obligations → P G →
        responses_from names version place G obligations ≡ Ok H → P H
    responses-keep place [] G H kept p h = subst P (ok-is {E = Stopped} (Ok G) G H refl h) p
    responses-keep place (o ∷ obligations) G H kept p h =
        let next = and_then-ok (response_from names version o place 1 G o.response)
        (λ next. responses_from names version (place + 1) next obligations) H h in
        responses-keep (place + 1) obligations next.0 H kept.1 (response-keeps o place 1 o.response G next.0 kept.0 p next.1) next.2

  responses-left : (G H : Graph) (obligations : List Obligation) → responses names version G obligations ≡ Ok H → AreLeft G H
  responses-left G H obligations =
      responses-keep (AreLeft G) 1 obligations G H
      (each-from (IsKeptBy (AreLeft G)) obligations (λ o c K L place a left done. left-then G K L left (acted-left K L o.author place a done)))
      (left-itself G)

  pub responses_keep_obligations : (G H : Graph) (obligations : List Obligation) → responses names version G obligations ≡ Ok H →
      H.obligations ≡ G.obligations
  responses_keep_obligations G H obligations h = (responses-left G H obligations h).0

  pub responses_keep_reviews : (G H : Graph) (obligations : List Obligation) → responses names version G obligations ≡ Ok H → H.kept ≡ G.kept
  responses_keep_reviews G H obligations h = (responses-left G H obligations h).3

  -- the obligations stand, and so their authors are users all along
  abbrev IsUnderway : Graph → Graph → Type 0
  IsUnderway G H = IsWellFormed H × (H.obligations ≡ G.obligations)

  responses-formed : (G H : Graph) (obligations : List Obligation) → IsWellFormed G →
      ((o : Obligation) → Contains obligations o → Contains G.obligations o) → responses names version G obligations ≡ Ok H → IsWellFormed H
  responses-formed G H obligations f stands h =
      (responses-keep (IsUnderway G) 1 obligations G H (each-from (IsKeptBy (IsUnderway G)) obligations kept) (f, refl) h).0 where
        kept : (o : Obligation) → Contains obligations o → IsKeptBy (IsUnderway G) o
        kept o c K L place a p done =
            let there : Contains K.obligations o = rw p.1 (stands o c) in
            (acted-formed K L o.author place a p.0 (author_is K o p.0 there) done, (acted-left K L o.author place a done).0 ∙ p.1)

-- ---- behind a request's own effect

module _ (S : State) (obligations : List Obligation) (G H : Graph) where
  pub responded-left : (e : Option Event) → responded S e obligations G ≡ Ok H → AreLeft G H
  responded-left None h = subst (AreLeft G) (ok-is {E = Stopped} (Ok G) G H refl h) (left-itself G)
  responded-left (Some e) h = responses-left (names_in S.graph e) (S.version + 1) G H obligations h

  pub responded-formed : (e : Option Event) → IsWellFormed G → ((o : Obligation) → Contains obligations o → Contains G.obligations o) →
      responded S e obligations G ≡ Ok H → IsWellFormed H
  responded-formed None f stands h = subst IsWellFormed (ok-is {E = Stopped} (Ok G) G H refl h) f
  responded-formed (Some e) f stands h = responses-formed (names_in S.graph e) (S.version + 1) G H obligations f stands h
