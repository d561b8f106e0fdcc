-- What is known of operations: what a change leaves of it, and what it makes known.
use Rattle.std.proofs.Common.{◌≡◌, ℕ, zero, suc, ◌<◌, ◌≤◌, Bool, true, false, cond, List, [], ◌∷◌, ◌++◌, length, set, slice_get, Option, None, Some, Result, Ok, Err, OnOk, OnErr, bytes_eq, All, ap, ◌∙◌, arith}
use Rattle.std.specs.List.{position_from, remove}
use Rattle.std.specs.Option.{option_or}
use Rattle.std.proofs.lemmas.List.Edits.{length-remove}
use Rattle.std.proofs.lemmas.List.Elements.{All-nil, All-cons, All-head, All-tail, All-append, All-weaker}
use Rattle.std.proofs.lemmas.List.Folds.{find-append, find-set}
use Rattle.std.proofs.lemmas.Slice.Eq.{bytes_eq-Decides}
use Rattle.pm_model.specs.declared.obligations.Obligation.{Obligation}
use Rattle.pm_oblig.specs.declared.targets.Targets.{Targets}
use Rattle.pm_oblig.specs.Awaited.{has_target, may_have, is_of, known_of, AreKnown, HasMore, KnowsMore}
use Rattle.pm_oblig.proofs.Firsts.{first-at, none-found, passes-at}

-- ---- the targets of one operation are written

module _ (t new : Targets) (same : new.operation ≡ t.operation) (more : HasMore t new) where
  knows-set : (known : List Targets) (i : ℕ) → slice_get known i ≡ Some t → KnowsMore known (set known i new)
  knows-set [] i stands operation target had = cc
  knows-set (z ∷ known) zero stands operation target had =
      let here : z ≡ t = cc in
      let its : is_of operation new ≡ is_of operation t = ap (λ on. bytes_eq on operation) same in
      rw its (of (is_of operation t) (rw here at had)) where
        of : (b : Bool) → may_have (cond b (Some t) (known_of known operation)) target ≡ true →
            may_have (cond b (Some new) (known_of known operation)) target ≡ true
        of true had = more target had
        of false had = had
  knows-set (z ∷ known) (suc i) stands operation target had = of (is_of operation z) (knows-set known i stands operation target) had where
    of : (b : Bool) → (may_have (known_of known operation) target ≡ true → may_have (known_of (set known i new) operation) target ≡ true) →
        may_have (cond b (Some z) (known_of known operation)) target ≡ true →
        may_have (cond b (Some z) (known_of (set known i new) operation)) target ≡ true
    of true rest had = had
    of false rest had = rest had

  module _ (old known : List Targets) (i : ℕ) (is : known ≡ old) (stands : slice_get known i ≡ Some t) where
    pub knows-written : KnowsMore old (set known i new)
    knows-written operation target had = knows-set known i stands operation target (rw is had)

    pub told-written : (operation : List ℕ) (target : Option ℕ) → position_from (is_of operation) 0 old ≡ Some i → has_target new target ≡ true →
        may_have (known_of (set known i new) operation) target ≡ true
    told-written operation target place told =
        let here : position_from (is_of operation) 0 known ≡ Some i = rw is place in
        let first = first-at (is_of operation) known i here in
        let its : is_of operation new ≡ true = ap (λ on. bytes_eq on operation) same ∙ passes-at (is_of operation) known i t here stands in
        rw (find-set (is_of operation) known i new first.0 first.1 its) told

-- ---- those of a new operation come behind the others

module _ (old : List Targets) (new : Targets) where
  knows-pushed : KnowsMore old (old ++ new ∷ [])
  knows-pushed operation target had = rw (find-append (is_of operation) old (new ∷ [])) (of (known_of old operation) had) where
    of : (o : Option Targets) → may_have o target ≡ true → may_have (option_or o (known_of (new ∷ []) operation)) target ≡ true
    of (Some t) had = had
    of None had = cc

  pub knows-more : {A E : Type 0} (known : List Targets) (r : Result A E) → OnOk r (known ≡ old ++ new ∷ []) → OnErr r (known ≡ old) → KnowsMore old known
  knows-more known (Ok x) ok err operation target had = rw ok (knows-pushed operation target had)
  knows-more known (Err e) ok err operation target had = rw err had

  pub told-pushed : (known : List Targets) (operation : List ℕ) (target : Option ℕ) → new.operation ≡ operation →
      position_from (is_of operation) 0 old ≡ None → has_target new target ≡ true → known ≡ old ++ new ∷ [] →
      may_have (known_of known operation) target ≡ true
  told-pushed known operation target same none told made =
      let its : is_of operation new ≡ true = (bytes_eq-Decides new.operation operation).1 same in
      rw (made, find-append (is_of operation) old (new ∷ []), none-found (is_of operation) old none, its) told

-- ---- obligations that come and go

pub none_known : (known : List Targets) → AreKnown [] known
none_known known operation = All-nil (λ (o : Obligation). bytes_eq o.pattern.on operation ≡ true → may_have (known_of known operation) o.pattern.target ≡ true)

pub known-more : (obligations : List Obligation) (old new : List Targets) → KnowsMore old new → AreKnown obligations old → AreKnown obligations new
known-more obligations old new more are operation =
    All-weaker (λ (o : Obligation). bytes_eq o.pattern.on operation ≡ true → may_have (known_of old operation) o.pattern.target ≡ true)
    (λ (o : Obligation). bytes_eq o.pattern.on operation ≡ true → may_have (known_of new operation) o.pattern.target ≡ true)
    (λ o had on. more operation o.pattern.target (had on)) obligations (are operation)

module _ (old : List Obligation) (o : Obligation) (known : List Targets) where
  one-more : AreKnown old known → may_have (known_of known o.pattern.on) o.pattern.target ≡ true → AreKnown (old ++ o ∷ []) known
  one-more are told operation =
      let P = λ (x : Obligation). bytes_eq x.pattern.on operation ≡ true → may_have (known_of known operation) x.pattern.target ≡ true in
      All-append P old (o ∷ []) (are operation) (All-cons P o [] here (All-nil P)) where
        here : bytes_eq o.pattern.on operation ≡ true → may_have (known_of known operation) o.pattern.target ≡ true
        here on = let same : o.pattern.on ≡ operation = (bytes_eq-Decides o.pattern.on operation).0 on in rw (← same) told

  pub known-pushed : {A E : Type 0} (new : List Obligation) (r : Result A E) → OnOk r (new ≡ old ++ o ∷ []) → OnErr r (new ≡ old) →
      AreKnown old known → may_have (known_of known o.pattern.on) o.pattern.target ≡ true → AreKnown new known
  known-pushed new (Ok x) ok err are told = rw ok (one-more are told)
  known-pushed new (Err e) ok err are told = rw err are

all-remove : {X : Type 0} (P : X → Type 0) (xs : List X) (i : ℕ) → All P xs → All P (remove xs i)
all-remove P [] zero all = all
all-remove P [] (suc i) all = all
all-remove P (x ∷ xs) zero all = All-tail P x xs all
all-remove P (x ∷ xs) (suc i) all = All-cons P x (remove xs i) (All-head P x xs all) (all-remove P xs i (All-tail P x xs all))

pub known-removed : (obligations : List Obligation) (i : ℕ) (known : List Targets) → AreKnown obligations known → AreKnown (remove obligations i) known
known-removed obligations i known are operation =
    all-remove (λ (o : Obligation). bytes_eq o.pattern.on operation ≡ true → may_have (known_of known operation) o.pattern.target ≡ true) obligations i (are operation)

pub few-removed : {A E : Type 0} (r : Result A E) (old new : List Obligation) (i n : ℕ) → i < length old →
    OnOk r (new ≡ remove old i) → OnErr r (new ≡ old) → length old ≤ n → length new ≤ n
few-removed (Ok x) old new i n below ok err few = rw ok (omega (arith, length-remove old i below, few))
few-removed (Err e) old new i n below ok err few = rw err few
