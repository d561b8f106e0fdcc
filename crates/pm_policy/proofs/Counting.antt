-- Each element that is made in a container uses up an assignment of its own.
use Rattle.std.proofs.Common.{◌≡◌, ◌≤◌, ◌+◌, ℕ, Bool, true, false, not, List, [], ◌∷◌, ◌++◌, length, filter, Option, Some, None, is_some, Contains, refl, sym, ◌∙◌, subst, arith, bytes_eq, if◌then◌else◌}
use Rattle.std.proofs.lemmas.Bool.{false_from_ne_true, and_from}
use Rattle.std.proofs.lemmas.Slice.Eq.{bytes_eq-Decides}
use Rattle.pm_laws.proofs.Added.{length-added}
use Rattle.pm_laws.proofs.Items.{contains-first, contains-rest, none-at, contains-filter, filter-contains, find-found, any-from}
use Rattle.pm_policy.specs.Policy.{is_called, is_assigned, is_same}
use Rattle.pm_policy.specs.Order.{is_made}
use Rattle.pm_policy.specs.Requests.{first_assignment, is_first, is_first_of}
use Rattle.pm_policy.specs.Sound.{AreOnceCalled}
use Rattle.pm_policy.specs.declared.policy.DocElement.{DocElement}
use Rattle.pm_policy.specs.declared.policy.DocAssignment.{DocAssignment}
use Rattle.pm_policy.proofs.Places.{place}
use Rattle.pm_policy.proofs.Created.{with_first, assigned_after}
use Rattle.pm_policy.proofs.Ordered.{filter-fewer, same-name, name-itself}
use Rattle.pm_policy.proofs.Sorted.{once-kept}

-- elements of names of their own, each of which has an assignment among these
pub fewer-than : (xs : List DocElement) (ys : List DocAssignment) → AreOnceCalled xs →
    ((e : DocElement) → Contains xs e → (p : DocAssignment) × Contains ys p × (is_assigned e.name p ≡ true)) → length xs ≤ length ys
fewer-than [] ys once each = omega arith
fewer-than (e ∷ xs) ys once each =
    let own = each e (contains-first e xs) in
    let fewer = filter-fewer (λ p. not (is_assigned e.name p)) ys own.0 own.1 (rw own.2 refl) in
    let rest = fewer-than xs (filter (λ p. not (is_assigned e.name p)) ys) once.1 (λ d c.
    let p = each d (contains-rest e d xs c) in
    let apart = none-at (is_called e.name) xs d once.0 c in
    let other : is_assigned e.name p.0 ≡ false = false_from_ne_true (is_assigned e.name p.0) (λ is.
    let same : e.name ≡ d.name = same-name e.name p.0.from is ∙ sym (same-name d.name p.0.from p.2) in
    let it = (bytes_eq-Decides e.name d.name).1 same in cc) in
    (p.0, contains-filter (λ p. not (is_assigned e.name p)) ys p.0 p.1 (rw other refl), p.2)) in
    omega (arith, fewer, rest)

module _ (pairs : List DocAssignment) where
  abbrev pub has_first : DocElement → Bool
  has_first e = is_some (first_assignment pairs e.name)

  with-first-counted : (made : List DocElement) (o : Option DocAssignment) (assigned : List (ℕ × ℕ)) →
      length (with_first pairs made o assigned) ≡ length assigned + (if is_some o then 1 else 0)
  with-first-counted made None assigned = omega arith
  with-first-counted made (Some p) assigned = length-added (length made, place made p.to) assigned

  filter-counted : {X : Type 0} (b : Bool) (x : X) (xs : List X) → length (if b then x ∷ xs else xs) ≡ length xs + (if b then 1 else 0)
  filter-counted true x xs = omega arith
  filter-counted false x xs = omega arith

  pub after-counted : (made : List DocElement) (assigned : List (ℕ × ℕ)) (es : List DocElement) →
      length (assigned_after pairs made assigned es) ≡ length assigned + length (filter has_first es)
  after-counted made assigned [] = omega arith
  after-counted made assigned (e ∷ es) =
      let o = first_assignment pairs e.name in
      let rest = after-counted (made ++ e ∷ []) (with_first pairs made o assigned) es in
      let one = with-first-counted made o assigned in
      let kept = filter-counted (has_first e) e (filter has_first es) in omega (arith, rest, one, kept)

  -- what is first
  pub first-is : (es : List DocElement) (e : DocElement) (p : DocAssignment) → Contains es e → first_assignment pairs e.name ≡ Some p →
      Contains (filter (is_first es pairs) pairs) p × (is_assigned e.name p ≡ true)
  first-is es e p c is =
      let q = find-found (is_assigned e.name) pairs p is in
      let from : e.name ≡ p.from = same-name e.name p.from q.1 in
      let made : is_made es p.from ≡ true = any-from (is_called p.from) es e c ((bytes_eq-Decides p.from e.name).1 (sym from)) in
      let first : first_assignment pairs p.from ≡ Some p = subst (λ n. first_assignment pairs n ≡ Some p) from is in
      let same : is_same p p ≡ true = and_from (bytes_eq p.from p.from) (bytes_eq p.to p.to) (name-itself p.from) (name-itself p.to) in
      let yes : is_first es pairs p ≡ true = and_from (is_made es p.from) (is_first_of p (first_assignment pairs p.from)) made (rw first same) in
      (contains-filter (is_first es pairs) pairs p q.0 yes, q.1)

  some-is : {X : Type 0} (o : Option X) → is_some o ≡ true → (x : X) × (o ≡ Some x)
  some-is (Some x) h = (x, refl)
  some-is None h = absurd (cc)

  pub firsts-few : (es os : List DocElement) → AreOnceCalled os → ((e : DocElement) → Contains os e → Contains es e) →
      length (filter has_first os) ≤ length (filter (is_first es pairs) pairs)
  firsts-few es os once sub = fewer-than (filter has_first os) (filter (is_first es pairs) pairs) (once-kept (λ (d : DocElement). is_called d.name) has_first os once) (λ e c.
      let q = filter-contains has_first os e c in
      let p = some-is (first_assignment pairs e.name) q.1 in
      let f = first-is es e p.0 (sub e q.0) p.1 in (p.0, f.0, f.1))
