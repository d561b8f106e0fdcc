-- Each change of the rows keeps that they are a partial order.
use Rattle.std.proofs.Common.{◌≡◌, ◌≢◌, ℕ, Bool, true, false, not, List, ◌∷◌, Option, refl, sym, ap, ◌∙◌, ◌||◌, ◌&&◌, ◌==◌, ◌⊎◌, inl, inr}
use Rattle.std.proofs.lemmas.Bool.{true≢false, false≢true, eq-eqb, eqb-true}
use Rattle.pm_model.specs.Containment.{contained}
use Rattle.pm_model.proofs.ContainmentLaws.{contained-itself, contained-more, contained-trans}
use Rattle.pm_reach.specs.Rows.{row_has, has, below}
use Rattle.pm_reach.specs.Order.{IsOrder}
use Rattle.pm_reach.specs.Passes.{Rewrites}
use Rattle.pm_reach.specs.Changes.{TellContainment, Adds, Creates, Assigns, Deassigns, Removes}
use Rattle.pm_reach.proofs.Bits.{ne-eqb}
use Rattle.pm_reach.proofs.Passing.{has_below}

pub or-cases : (a b : Bool) → (a || b) ≡ true → (a ≡ true) ⊎ (b ≡ true)
or-cases true b h = inl refl
or-cases false b h = inr h

or-left : (a b : Bool) → a ≡ true → (a || b) ≡ true
or-left a b h = rw h refl

or-right : (a b : Bool) → b ≡ true → (a || b) ≡ true
or-right true b h = refl
or-right false b h = h

pub and-both : (a b : Bool) → (a && b) ≡ true → (a ≡ true) × (b ≡ true)
and-both true b h = (refl, h)
and-both false b h = absurd (false≢true h)

and-made : (a b : Bool) → a ≡ true → b ≡ true → (a && b) ≡ true
and-made a b h k = rw (h, k) refl

not-same : (a b : ℕ) → not (a == b) ≡ true → a ≢ b
not-same a b h e = true≢false (sym (rw (eq-eqb a b e) at h))

are-apart : (a b : ℕ) → a ≢ b → not (a == b) ≡ true
are-apart a b ne = ap not (ne-eqb a b ne)

-- ---- x gets a row

module _ (old new : List (List (Option (List ℕ)))) (x : ℕ) (none : has old x ≡ false) (a : Adds x old new) (o : IsOrder old) where
  add-cases : (p q : ℕ) → below new p q ≡ true → (below old p q ≡ true) ⊎ ((p ≡ x) × (q ≡ x))
  add-cases p q h = elim (or-cases (below old p q) (p == x && q == x) (sym (a.related p q) ∙ h)) [
    | inl l ↦ inl l
    | inr r ↦ let b = and-both (p == x) (q == x) r in inr (eqb-true p x b.0, eqb-true q x b.1)
  ]

  add-old : (p q : ℕ) → below old p q ≡ true → below new p q ≡ true
  add-old p q h = a.related p q ∙ or-left (below old p q) (p == x && q == x) h

  add-self : (p q : ℕ) → p ≡ x → q ≡ x → below new p q ≡ true
  add-self p q d e = a.related p q ∙ or-right (below old p q) (p == x && q == x) (and-made (p == x) (q == x) (eq-eqb p x d) (eq-eqb q x e))

  pub order-adds : IsOrder new
  order-adds = record {
    itself = λ p h. elim (or-cases (p == x) (has old p) (sym (a.live p) ∙ h)) [
      | inl l ↦ add-self p p (eqb-true p x l) (eqb-true p x l)
      | inr r ↦ add-old p p (o.itself p r)
    ];
    through = λ p q r h k. elim (add-cases p q h) [
      | inl l ↦ elim (add-cases q r k) [
        | inl m ↦ add-old p r (o.through p q r l m)
        | inr e ↦ absurd (true≢false (sym (o.live p q l) ∙ rw (e.0) none))
      ]
      | inr d ↦ elim (add-cases q r k) [
        | inl m ↦ absurd (true≢false (sym (has_below old q r m) ∙ rw (d.1) none))
        | inr e ↦ add-self p r d.0 e.1
      ]
    ];
    alone = λ p q h k. elim (add-cases p q h) [
      | inl l ↦ elim (add-cases q p k) [
        | inl m ↦ o.alone p q l m
        | inr e ↦ e.1 ∙ sym e.0
      ]
      | inr d ↦ d.0 ∙ sym d.1
    ];
    live = λ p q h. a.live q ∙ elim (add-cases p q h) [
      | inl l ↦ or-right (q == x) (has old q) (o.live p q l)
      | inr d ↦ or-left (q == x) (has old q) (eq-eqb q x d.1)
    ];
  }

-- ---- x gets a row, with what the row of y has

module _ (old new : List (List (Option (List ℕ)))) (x y : ℕ) (none : has old x ≡ false) (a : Creates x y old new) (o : IsOrder old) where
  create-cases : (p q : ℕ) → below new p q ≡ true → (below old p q ≡ true) ⊎ ((p ≡ x) × ((q ≡ x) ⊎ (below old y q ≡ true)))
  create-cases p q h = elim (or-cases (below old p q) (p == x && (q == x || below old y q)) (sym (a.related p q) ∙ h)) [
    | inl l ↦ inl l
    | inr r ↦ let b = and-both (p == x) (q == x || below old y q) r in inr (
      eqb-true p x b.0,
      elim (or-cases (q == x) (below old y q) b.1) [
        | inl e ↦ inl (eqb-true q x e)
        | inr k ↦ inr k
      ],
    )
  ]

  create-old : (p q : ℕ) → below old p q ≡ true → below new p q ≡ true
  create-old p q h = a.related p q ∙ or-left (below old p q) (p == x && (q == x || below old y q)) h

  create-new : (p q : ℕ) → p ≡ x → (q == x || below old y q) ≡ true → below new p q ≡ true
  create-new p q d h = a.related p q ∙ or-right (below old p q) (p == x && (q == x || below old y q)) (and-made (p == x) (q == x || below old y q) (eq-eqb p x d) h)

  create-self : (p q : ℕ) → p ≡ x → q ≡ x → below new p q ≡ true
  create-self p q d e = create-new p q d (or-left (q == x) (below old y q) (eq-eqb q x e))

  create-above : (p q : ℕ) → p ≡ x → below old y q ≡ true → below new p q ≡ true
  create-above p q d h = create-new p q d (or-right (q == x) (below old y q) h)

  -- nothing that has no row is in a row, or has something in its own
  not-in : (p : ℕ) → below old p x ≡ true → ⊥
  not-in p h = true≢false (sym (o.live p x h) ∙ none)

  not-at : (p q : ℕ) → p ≡ x → below old p q ≡ true → ⊥
  not-at p q d h = true≢false (sym (has_below old p q h) ∙ rw d none)

  pub order-creates : IsOrder new
  order-creates = record {
    itself = λ p h. elim (or-cases (p == x) (has old p) (sym (a.live p) ∙ h)) [
      | inl l ↦ create-self p p (eqb-true p x l) (eqb-true p x l)
      | inr r ↦ create-old p p (o.itself p r)
    ];
    through = λ p q r h k. elim (create-cases p q h) [
      | inl l ↦ elim (create-cases q r k) [
        | inl m ↦ create-old p r (o.through p q r l m)
        | inr d ↦ absurd (not-in p (rw (d.0) at l))
      ]
      | inr d ↦ elim (create-cases q r k) [
        | inl m ↦ elim (d.1) [
          | inl e ↦ absurd (not-at q r e m)
          | inr l ↦ create-above p r d.0 (o.through y q r l m)
        ]
        | inr e ↦ elim (e.1) [
          | inl f ↦ create-self p r d.0 f
          | inr m ↦ create-above p r d.0 m
        ]
      ]
    ];
    alone = λ p q h k. elim (create-cases p q h) [
      | inl l ↦ elim (create-cases q p k) [
        | inl m ↦ o.alone p q l m
        | inr d ↦ absurd (not-in p (rw (d.0) at l))
      ]
      | inr d ↦ elim (create-cases q p k) [
        | inl m ↦ absurd (not-in q (rw (d.0) at m))
        | inr e ↦ d.0 ∙ sym e.0
      ]
    ];
    live = λ p q h. a.live q ∙ elim (create-cases p q h) [
      | inl l ↦ or-right (q == x) (has old q) (o.live p q l)
      | inr d ↦ elim (d.1) [
        | inl e ↦ or-left (q == x) (has old q) (eq-eqb q x e)
        | inr l ↦ or-right (q == x) (has old q) (o.live y q l)
      ]
    ];
  }

-- ---- x was assigned to y

module _ (old new : List (List (Option (List ℕ)))) (x y : ℕ) (open_ : below old y x ≡ false) (a : Assigns x y old new) (o : IsOrder old) where
  assign-cases : (p q : ℕ) → below new p q ≡ true → (below old p q ≡ true) ⊎ ((below old p x ≡ true) × (below old y q ≡ true))
  assign-cases p q h = elim (or-cases (below old p q) (below old p x && below old y q) (sym (a.related p q) ∙ h)) [
    | inl l ↦ inl l
    | inr r ↦ inr (and-both (below old p x) (below old y q) r)
  ]

  assign-old : (p q : ℕ) → below old p q ≡ true → below new p q ≡ true
  assign-old p q h = a.related p q ∙ or-left (below old p q) (below old p x && below old y q) h

  assign-new : (p q : ℕ) → below old p x ≡ true → below old y q ≡ true → below new p q ≡ true
  assign-new p q h k = a.related p q ∙ or-right (below old p q) (below old p x && below old y q) (and-made (below old p x) (below old y q) h k)

  closed : below old y x ≡ true → ⊥
  closed h = true≢false (sym h ∙ open_)

  pub order-assigns : IsOrder new
  order-assigns = record {
    itself = λ p h. assign-old p p (o.itself p (sym (a.live p) ∙ h));
    through = λ p q r h k. elim (assign-cases p q h) [
      | inl l ↦ elim (assign-cases q r k) [
        | inl m ↦ assign-old p r (o.through p q r l m)
        | inr e ↦ assign-new p r (o.through p q x l e.0) e.1
      ]
      | inr d ↦ elim (assign-cases q r k) [
        | inl m ↦ assign-new p r d.0 (o.through y q r d.1 m)
        | inr e ↦ assign-new p r d.0 e.1
      ]
    ];
    alone = λ p q h k. elim (assign-cases p q h) [
      | inl l ↦ elim (assign-cases q p k) [
        | inl m ↦ o.alone p q l m
        | inr e ↦ absurd (closed (o.through y p x e.1 (o.through p q x l e.0)))
      ]
      | inr d ↦ elim (assign-cases q p k) [
        | inl m ↦ absurd (closed (o.through y q x d.1 (o.through q p x m d.0)))
        | inr e ↦ absurd (closed (o.through y q x d.1 e.0))
      ]
    ];
    live = λ p q h. a.live q ∙ elim (assign-cases p q h) [
      | inl l ↦ o.live p q l
      | inr d ↦ o.live y q d.1
    ];
  }

-- ---- an assignment of x to y was taken away

module _ (assigned : List (ℕ × ℕ)) (old new : List (List (Option (List ℕ)))) (x y : ℕ) (was : TellContainment ((x, y) ∷ assigned) old)
    (a : Deassigns x assigned old new) (o : IsOrder old) where
  deassign-contained : (p q : ℕ) → below new p q ≡ true → contained assigned p q ≡ true
  deassign-contained p q h = sym (a.related p q (has_below new p q h)) ∙ h

  deassign-less : (p q : ℕ) → below new p q ≡ true → below old p q ≡ true
  deassign-less p q h =
      was p q (sym (a.live p) ∙ has_below new p q h) ∙ contained-more (x, y) assigned p q (deassign-contained p q h)

  deassign-live : (p q : ℕ) → below new p q ≡ true → has new q ≡ true
  deassign-live p q h = a.live q ∙ o.live p q (deassign-less p q h)

  pub order-deassigns : IsOrder new
  order-deassigns = record {
    itself = λ p h. a.related p p h ∙ contained-itself assigned p;
    through = λ p q r h k. a.related p r (has_below new p q h) ∙ contained-trans assigned p q r (deassign-contained p q h) (deassign-contained q r k);
    alone = λ p q h k. o.alone p q (deassign-less p q h) (deassign-less q p k);
    live = deassign-live;
  }

-- ---- x has no row any more

module _ (old new : List (List (Option (List ℕ)))) (x : ℕ) (empty : (p : ℕ) → below old p x ≡ true → p ≡ x) (a : Removes x old new) (o : IsOrder old) where
  remove-both : (p q : ℕ) → below new p q ≡ true → (not (p == x) ≡ true) × (below old p q ≡ true)
  remove-both p q h = and-both (not (p == x)) (below old p q) (sym (a.related p q) ∙ h)

  remove-made : (p q : ℕ) → not (p == x) ≡ true → below old p q ≡ true → below new p q ≡ true
  remove-made p q h k = a.related p q ∙ and-made (not (p == x)) (below old p q) h k

  pub order-removes : IsOrder new
  order-removes = record {
    itself = λ p h. let b = and-both (not (p == x)) (has old p) (sym (a.live p) ∙ h) in remove-made p p b.0 (o.itself p b.1);
    through = λ p q r h k. let b = remove-both p q h in remove-made p r b.0 (o.through p q r b.1 (remove-both q r k).1);
    alone = λ p q h k. o.alone p q (remove-both p q h).1 (remove-both q p k).1;
    live = λ p q h.
        let b = remove-both p q h in
        a.live q ∙ and-made (not (q == x)) (has old q) (are-apart q x (λ e. not-same p x b.0 (empty p (rw e at b.1)))) (o.live p q b.1);
  }

-- ---- what a pass over the rows makes after an assignment was taken away

pub contained-cons : (pair : ℕ × ℕ) (assigned : List (ℕ × ℕ)) (p q : ℕ) →
    contained (pair ∷ assigned) p q ≡ (contained assigned p q || (contained assigned p pair.0 && contained assigned pair.1 q))
unfolding contained
contained-cons pair assigned p q = refl

-- in x, the pair of x adds nothing
at-itself : (assigned : List (ℕ × ℕ)) (x y p : ℕ) → contained ((x, y) ∷ assigned) p x ≡ contained assigned p x
at-itself assigned x y p = contained-cons (x, y) assigned p x ∙ go (contained assigned p x) (contained assigned y x) where
  go : (a b : Bool) → (a || (a && b)) ≡ a
  go true b = refl
  go false b = refl

-- what is not contained in x keeps its containers
outside-kept : (assigned : List (ℕ × ℕ)) (x y p q : ℕ) → contained assigned p x ≡ false →
    contained ((x, y) ∷ assigned) p q ≡ contained assigned p q
outside-kept assigned x y p q out = contained-cons (x, y) assigned p q ∙ rw out (go (contained assigned p q)) where
  go : (a : Bool) → (a || false) ≡ a
  go true = refl
  go false = refl

pub less-contained : (assigned : List (ℕ × ℕ)) (rows : List (List (Option (List ℕ)))) (x y : ℕ) → TellContainment ((x, y) ∷ assigned) rows →
    (z q : ℕ) → has rows z ≡ true → contained assigned z q ≡ true → below rows z q ≡ true
less-contained assigned rows x y was z q h k = was z q h ∙ contained-more (x, y) assigned z q k

-- rows of what isn't contained in x tell already
pub outside-told : (assigned : List (ℕ × ℕ)) (rows : List (List (Option (List ℕ)))) (x y : ℕ) → TellContainment ((x, y) ∷ assigned) rows →
    (p q : ℕ) → has rows p ≡ true → below rows p x ≡ false → below rows p q ≡ contained assigned p q
outside-told assigned rows x y was p q h e =
    was p q h ∙ outside-kept assigned x y p q (sym (at-itself assigned x y p) ∙ sym (was p x h) ∙ e)

pub deassigns : (assigned : List (ℕ × ℕ)) (old new : List (List (Option (List ℕ)))) (x y written : ℕ) → TellContainment ((x, y) ∷ assigned) old →
    Rewrites x (contained assigned) old new written → Deassigns x assigned old new
deassigns assigned old new x y written was r = record {
  live = r.live;
  related = λ p q h. go p q (sym (r.live p) ∙ h) (below old p x) refl;
  outside = r.others;
} where
  go : (p q : ℕ) → has old p ≡ true → (b : Bool) → below old p x ≡ b → below new p q ≡ contained assigned p q
  go p q h true e = r.within p e q
  go p q h false e =
      ap (λ o. row_has o q) (r.others p e) ∙ outside-told assigned old x y was p q h e

-- ---- what a pass has written

pub assigns : (old new : List (List (Option (List ℕ)))) (x y written : ℕ) (more : ℕ → Bool) → ((q : ℕ) → more q ≡ below old y q) →
    Rewrites x (λ p q. below old p q || more q) old new written → Assigns x y old new
assigns old new x y written more same r = record {
  live = r.live;
  related = λ p q. go p q (below old p x) refl;
  outside = r.others;
} where
  none-more : (b : Bool) → b ≡ (b || false)
  none-more true = refl
  none-more false = refl

  go : (p q : ℕ) (b : Bool) → below old p x ≡ b → below new p q ≡ (below old p q || (below old p x && below old y q))
  go p q true e = r.within p e q ∙ rw (same q, e) refl
  go p q false e = ap (λ o. row_has o q) (r.others p e) ∙ rw e (none-more (below old p q))
