-- A diagram stays drawn: one lemma for each change, where the rows have followed it.
use Rattle.std.proofs.Common.{◌≡◌, ◌==◌, ◌||◌, ◌&&◌, ℕ, Bool, List, ◌∷◌, Option, Some, None, true, false, not, refl, sym, ◌∙◌, ◌<◌, inl, inr, is_some, eq-eqb, Contains}
use Rattle.std.specs.Prelude.{IfSome}
use Rattle.std.specs.List.{list_any}
use Rattle.std.proofs.lemmas.Bool.{cases_eq, ne_eqb, eqb-false, eqb-true, false_from_ne_true, not-true, true≢false, and_parts}
use Rattle.pm_model.specs.State.{element_at, is_numbered}
use Rattle.pm_model.specs.Containment.{contained}
use Rattle.pm_model.specs.Effect.{placed, with_pair, with_assignment, is_pair, is_from, is_to, has_child}
use Rattle.pm_model.specs.Formed.{Each, IsLive}
use Rattle.pm_model.specs.Resolve.{unused}
use Rattle.pm_model.specs.declared.elements.Element.{Element}
use Rattle.pm_model.proofs.ContainmentLaws.{contained-itself, contained-pair}
use Rattle.pm_elements.proofs.Lists.{element_at-filtered}
use Rattle.pm_laws.proofs.Added.{each-added}
use Rattle.pm_laws.proofs.Deleted.{left, left_pairs, rising-filter}
use Rattle.pm_laws.proofs.Items.{each-to, each-at, each-from, each-filter, filter-contains, none-at}
use Rattle.pm_laws.proofs.Numbers.{live-apart, rising-placed, live-placed, new-placed, placed-other}
use Rattle.pm_laws.proofs.Pairs.{without}
use Rattle.pm_reach.specs.Rows.{has, below, inside, most}
use Rattle.pm_reach.specs.Order.{IsOrder}
use Rattle.pm_reach.specs.Changes.{TellContainment, Adds, Creates, Makes, Assigns, Deassigns, Removes, CanFollow}
use Rattle.pm_reach.specs.declared.step.Step.TheVariants as step
use Rattle.pm_reach.proofs.Bits.{eqb-turned}
use Rattle.pm_reach.proofs.Openings.{assigned_more, added_more, below-none}
use Rattle.pm_reach.proofs.Orders.{contained-cons, or-cases}
use Rattle.pm_reach.proofs.Passing.{has_below, count_same}
use Rattle.pm_diagram.specs.Shape.{count_inside}
use Rattle.pm_diagram.specs.Drawn.{JoinsLive, Drawn}
use Rattle.pm_diagram.proofs.Counting.{count-listed}
use Rattle.pm_diagram.proofs.Containing.{contained-added, contained-again, contained-beside, contained-without, contained-fresh, contained-alone, contained-childless, contained-left}

-- what is told of one list of assignments is told of another with the same containment
told-same : (assigned other : List (ℕ × ℕ)) (rows : List (List (Option (List ℕ)))) → ((p q : ℕ) → contained assigned p q ≡ contained other p q) →
    TellContainment assigned rows → TellContainment other rows
told-same assigned other rows same told p q h = told p q h ∙ same p q

module _ (es : List Element) (assigned : List (ℕ × ℕ)) (old : List (List (Option (List ℕ)))) (d : Drawn es assigned old) where
  -- ---- live, and with a row

  with-row : (x : ℕ) → IsLive es x → has old x ≡ true
  with-row x live = d.live x ∙ live

  from-row : (x : ℕ) → has old x ≡ true → IsLive es x
  from-row x h = sym (d.live x) ∙ h

  told-at : (p q : ℕ) → IsLive es p → below old p q ≡ contained assigned p q
  told-at p q live = d.told p q (with-row p live)

  -- ---- how many are contained in an element

  by-row : (z x : ℕ) → below old z x ≡ (is_some (element_at es z) && contained assigned z x)
  by-row z x = go (has old z) refl where
    go : (b : Bool) → has old z ≡ b → below old z x ≡ (is_some (element_at es z) && contained assigned z x)
    go true h = d.told z x h ∙ rw (sym (d.live z) ∙ h) refl
    go false h = below-none old z h x ∙ rw (sym (d.live z) ∙ h) refl

  pub inside-listed : (x : ℕ) → inside old x ≡ count_inside es assigned x
  inside-listed x =
      count_same (λ z. below old z x) (λ z. is_some (element_at es z) && contained assigned z x) most (λ z. by-row z x)
      ∙ count-listed (λ z. contained assigned z x) 0 most es d.rising d.few

  -- ---- an element made, at the least unused number

  module _ (e : Element) (new : List (List (Option (List ℕ)))) (u : e.number ≡ unused es) where
    fresh : IsLive es e.number → ⊥
    fresh live = live-apart es e.number d.rising live u

    no-row : has old e.number ≡ false
    no-row = false_from_ne_true (has old e.number) (λ h. fresh (from-row e.number h))

    live-more : (p : ℕ) → (p == e.number || has old p) ≡ is_some (element_at (placed e es) p)
    live-more p = elim (cases_eq p e.number) [
      | inl same ↦ rw (same, eq-eqb e.number e.number refl, new-placed e es d.rising u) refl
      | inr other ↦ rw (ne_eqb p e.number other, placed-other e es p (λ same. other (sym same))) (d.live p)
    ]

    few-more : e.number < most → (p : ℕ) → IsLive (placed e es) p → p < most
    few-more few p live = elim (or-cases (p == e.number) (has old p) (live-more p ∙ live)) [
      | inl same ↦ rw (eqb-true p e.number same) few
      | inr stood ↦ d.few p (from-row p stood)
    ]

    joined-more : Each (JoinsLive (placed e es)) assigned
    joined-more = each-to (JoinsLive es) (JoinsLive (placed e es)) (λ p h. (still p.0 h.0, still p.1 h.1)) assigned d.joined where
      still : (n : ℕ) → IsLive es n → IsLive (placed e es) n
      still n live = rw (live-placed e es n d.rising u live) live

    drawn-added : e.number < most → Adds e.number old new → Drawn (placed e es) assigned new
    drawn-added few a = record {
      live = λ p. a.live p ∙ live-more p;
      told = added_more assigned old new e.number no-row (contained-alone es assigned d.joined e.number fresh) d.told a;
      joined = joined-more;
      rising = rising-placed e 0 es d.rising u;
      few = few-more few;
    }

    module _ (y : ℕ) (y_live : IsLive es y) (c : Creates e.number y old new) where
      -- the new row has the element, and what the container's row has
      own-told : (q : ℕ) → below new e.number q ≡ contained ((e.number, y) ∷ assigned) e.number q
      own-told q =
          let none : below old e.number q ≡ false =
          false_from_ne_true (below old e.number q) (λ h. true≢false (sym (has_below old e.number q h) ∙ no-row)) in
          let single = contained-alone es assigned d.joined e.number fresh q in
          rw (
            c.related e.number q,
            none,
            eqb-turned q e.number,
            eq-eqb e.number e.number refl,
            told-at y q y_live,
            contained-cons (e.number, y) assigned e.number q,
            single,
            contained-itself assigned e.number,
          ) refl

      -- the others have what they had
      other-told : (p q : ℕ) → (p ≡ e.number → ⊥) → has old p ≡ true → below new p q ≡ contained ((e.number, y) ∷ assigned) p q
      other-told p q other h =
          rw (
            c.related p q,
            ne_eqb p e.number other,
            d.told p q h,
            contained-cons (e.number, y) assigned p q,
            contained-fresh es assigned d.joined e.number p fresh (from-row p h),
          ) refl

      drawn-created : e.number < most → Drawn (placed e es) (with_assignment (e.number, y) assigned) new
      drawn-created few = record {
        live = λ p. c.live p ∙ live-more p;
        told = told-same ((e.number, y) ∷ assigned) (with_assignment (e.number, y) assigned) new
            (λ p q. sym (contained-added assigned e.number y p q))
            (λ p q h. elim (cases_eq p e.number) [
              | inl same ↦ rw same (own-told q)
              | inr other ↦ other-told p q other (sym (c.live p ∙ rw (ne_eqb p e.number other) refl) ∙ h)
            ]);
        joined = each-added (e.number, y) (JoinsLive (placed e es)) assigned joined-more
            (rw (new-placed e es d.rising u) refl, rw (live-placed e es y d.rising u y_live) y_live);
        rising = rising-placed e 0 es d.rising u;
        few = few-more few;
      }

    pub drawn-made : (into : Option ℕ) → IfSome into (IsLive es) → e.number < most → Makes e.number into old new →
        Drawn (placed e es) (with_pair into e.number assigned) new
    drawn-made None live few made = drawn-added few made
    drawn-made (Some y) live few made = drawn-created y live made few

    -- the rows can follow it
    pub can-make : (into : Option ℕ) → IfSome into (IsLive es) → e.number < most → CanFollow old (step.Make e.number into)
    can-make None live few = (no-row, few)
    can-make (Some y) live few = (no-row, few, with-row y live)

  -- ---- an assignment made

  pub drawn-assigned : (x y : ℕ) (new : List (List (Option (List ℕ)))) → IsLive es x → IsLive es y → Assigns x y old new →
      Drawn es (with_assignment (x, y) assigned) new
  drawn-assigned x y new x_live y_live a = record {
    live = λ p. a.live p ∙ d.live p;
    told = told-same ((x, y) ∷ assigned) (with_assignment (x, y) assigned) new (λ p q. sym (contained-added assigned x y p q))
        (assigned_more assigned old new x y (with-row y y_live) d.told a);
    joined = each-added (x, y) (JoinsLive es) assigned d.joined (x_live, y_live);
    rising = d.rising;
    few = d.few;
  }

  -- one that adds nothing
  pub drawn-again : (x y : ℕ) → IsLive es x → IsLive es y → contained assigned x y ≡ true → Drawn es (with_assignment (x, y) assigned) old
  drawn-again x y x_live y_live up = record {
    live = d.live;
    told = told-same assigned (with_assignment (x, y) assigned) old (λ p q. sym (contained-added assigned x y p q ∙ contained-again assigned x y up p q)) d.told;
    joined = each-added (x, y) (JoinsLive es) assigned d.joined (x_live, y_live);
    rising = d.rising;
    few = d.few;
  }

  -- ---- an assignment taken away

  -- the rows told it with the pair in front of those that are left
  pub told-without : (x y : ℕ) → list_any (is_pair x y) assigned ≡ true → TellContainment ((x, y) ∷ without x y assigned) old
  told-without x y stands =
      told-same assigned ((x, y) ∷ without x y assigned) old (λ p q. sym (contained-without assigned x y stands p q)) d.told

  pub drawn-deassigned : (x y : ℕ) (new : List (List (Option (List ℕ)))) → Deassigns x (without x y assigned) old new →
      Drawn es (without x y assigned) new
  drawn-deassigned x y new a = record {
    live = λ p. a.live p ∙ d.live p;
    told = a.related;
    joined = each-filter (JoinsLive es) (λ pair. not (is_pair x y pair)) assigned d.joined;
    rising = d.rising;
    few = d.few;
  }

  -- one that added nothing
  pub drawn-beside : (x y : ℕ) → list_any (is_pair x y) assigned ≡ true → contained (without x y assigned) x y ≡ true → Drawn es (without x y assigned) old
  drawn-beside x y stands up = record {
    live = d.live;
    told = told-same assigned (without x y assigned) old
        (λ p q. sym (contained-without assigned x y stands p q) ∙ contained-again (without x y assigned) x y up p q) d.told;
    joined = each-filter (JoinsLive es) (λ pair. not (is_pair x y pair)) assigned d.joined;
    rising = d.rising;
    few = d.few;
  }

  -- another container of x, in which y contains it
  pub inside-beside : (x y other : ℕ) → IsOrder old → IsLive es x → Contains assigned (x, other) → (other ≡ x → ⊥) → (other ≡ y → ⊥) → below old other y ≡ true →
      list_any (is_pair x y) assigned ≡ true → contained (without x y assigned) x y ≡ true
  inside-beside x y other order x_live held apart beside up stands =
      let row = has_below old other y up in
      contained-beside assigned x y other stands held beside (sym (d.told other y row) ∙ up)
      (λ back. apart (order.alone other x (d.told other x row ∙ back) (told-at x other x_live ∙ contained-pair assigned x other held)))

  -- ---- an element taken out, to which nothing is assigned

  module _ (x : ℕ) (none : has_child assigned x ≡ false) where
    pub can-remove : IsLive es x → CanFollow old (step.Remove x)
    can-remove live = (with-row x live, λ p h. contained-childless assigned x p none (sym (d.told p x (has_below old p x h)) ∙ h))

    stays : (n : ℕ) → (n ≡ x → ⊥) → IsLive es n → IsLive (left x es) n
    stays n other live = rw (element_at-filtered x es n, ne_eqb x n (λ same. other (sym same))) live

    live-less : (p : ℕ) → (not (p == x) && has old p) ≡ is_some (element_at (left x es) p)
    live-less p = elim (cases_eq p x) [
      | inl same ↦ rw (same, element_at-filtered x es x, eq-eqb x x refl) refl
      | inr other ↦ rw (element_at-filtered x es p, ne_eqb p x other, ne_eqb x p (λ same. other (sym same))) (d.live p)
    ]

    pub drawn-removed : (new : List (List (Option (List ℕ)))) → Removes x old new → Drawn (left x es) (left_pairs x assigned) new
    drawn-removed new a = record {
      live = λ p. a.live p ∙ live-less p;
      told = λ p q h.
          let both = and_parts (not (p == x)) (has old p) (sym (a.live p) ∙ h) in
          a.related p q ∙ rw (both.0) (d.told p q both.1 ∙ contained-left assigned x p q none (eqb-false p x (not-true (p == x) both.0)));
      joined = each-from (JoinsLive (left x es)) (left_pairs x assigned) (λ pair c.
          let kept = filter-contains (λ pair. not (is_from x pair)) assigned pair c in
          let ends = each-at (JoinsLive es) assigned pair d.joined kept.0 in (
            stays pair.0 (eqb-false pair.0 x (not-true (pair.0 == x) kept.1)) ends.0,
            stays pair.1 (eqb-false pair.1 x (none-at (is_to x) assigned pair none kept.0)) ends.1,
          ));
      rising = rising-filter (λ e. not (is_numbered x e)) 0 es d.rising;
      few = λ p live. d.few p (from-row p (and_parts (not (p == x)) (has old p) (live-less p ∙ live)).1);
    }
