-- What was made ready, followed, is the change that the step says.
use Rattle.std.proofs.Common.{◌≡◌, ◌≢◌, ℕ, Bool, true, false, ◌||◌, ◌==◌, List, Vec, Option, Some, None, is_some, refl, sym, ap, ◌∙◌, inl, inr}
use Rattle.std.proofs.lemmas.Bool.{cases_eq, eq-eqb}
use Rattle.std.specs.declared.alloc.Global.{Global}
use Rattle.pm_reach.specs.Words.{in_row}
use Rattle.pm_reach.specs.Rows.{place_at, row_has, has, below}
use Rattle.pm_reach.specs.Changes.{CanFollow, Makes, Assigns, Removes}
use Rattle.pm_reach.specs.Passes.{Rewrites}
use Rattle.pm_reach.specs.NewRows.{new_words, made_below}
use Rattle.pm_reach.specs.Table.{Table}
use Rattle.pm_reach.specs.Ready.{MakeReady, AssignReady, DeassignReady, IsTaken, step_of}
use Rattle.pm_reach.specs.declared.table.NewRow.{NewRow}
use Rattle.pm_reach.specs.declared.inside.Inside.{Inside}
use Rattle.pm_reach.specs.declared.step.Step.{Step}
use Rattle.pm_reach.specs.declared.step.Step.TheVariants as step
use Rattle.pm_reach.specs.declared.ready.Ready.{Ready}
use Rattle.pm_reach.specs.declared.ready.Ready.TheVariants as ready
use Rattle.pm_reach.proofs.Bits.{ne-eqb}
use Rattle.pm_reach.proofs.Openings.{below-none, stays}
use Rattle.pm_reach.proofs.Orders.{assigns}

-- ---- the step of what is ready

abbrev made_x : Step → ℕ
made_x (step.Make x into) = x
made_x (step.Assign x y) = x
made_x (step.Deassign x y) = x
made_x (step.Remove x) = x

abbrev made_into : Step → Option ℕ
made_into (step.Make x into) = into
made_into (step.Assign x y) = None
made_into (step.Deassign x y) = None
made_into (step.Remove x) = None

taken-row : {t : Table} {r : Ready} {row : NewRow} {x' x : ℕ} {into' into : Option ℕ} → r ≡ ready.Make x' into' row → step_of r ≡ step.Make x into →
    IsTaken t r → MakeReady t x into row
taken-row {t} {r} {row} {x'} {x} {into'} {into} e s taken =
    let same : step.Make x' into' ≡ step.Make x into = sym (ap step_of e) ∙ s in
    let same_x : x' ≡ x = ap made_x same in
    let same_into : into' ≡ into = ap made_into same in
    let was : MakeReady t x' into' row = rw e at taken in
    rw (same_x, same_into) at was

-- ---- the row

module _ (old new : List (List (Option (List ℕ)))) (x : ℕ) (words : Option (List ℕ)) (none : has old x ≡ false) (there : is_some words ≡ true)
    (row : place_at new x ≡ words) (others : (y : ℕ) → y ≢ x → place_at new y ≡ place_at old y) where
  put-live : (p : ℕ) → has new p ≡ (p == x || has old p)
  put-live p = elim (cases_eq p x) [
    | inl e ↦ rw (e, row, there, eq-eqb x x refl) refl
    | inr ne ↦ rw (others p ne, ne-eqb p x ne) refl
  ]

  at-x : (q : ℕ) → below new x q ≡ row_has words q
  at-x q = ap (λ o. row_has o q) row

  elsewhere : (p q : ℕ) → p ≢ x → below new p q ≡ below old p q
  elsewhere p q ne = ap (λ o. row_has o q) (others p ne)

  put-makes : (into : Option ℕ) → ((q : ℕ) → row_has words q ≡ made_below old x into q) → Makes x into old new
  put-makes None has_these = record {
    live = put-live;
    related = λ p q. elim (cases_eq p x) [
      | inl e ↦ rw e (at-x q ∙ has_these q ∙ rw (below-none old x none q, eq-eqb x x refl) refl)
      | inr ne ↦ elsewhere p q ne ∙ rw (ne-eqb p x ne) (sym (stays (below old p q)))
    ];
  }
  put-makes (Some y) has_these = record {
    live = put-live;
    related = λ p q. elim (cases_eq p x) [
      | inl e ↦ rw e (at-x q ∙ has_these q ∙ rw (below-none old x none q, eq-eqb x x refl) refl)
      | inr ne ↦ elsewhere p q ne ∙ rw (ne-eqb p x ne) (sym (stays (below old p q)))
    ];
  }

has-none : (rows : List (List (Option (List ℕ)))) (x : ℕ) (into : Option ℕ) → CanFollow rows (step.Make x into) → has rows x ≡ false
has-none rows x None h = h.0
has-none rows x (Some y) h = h.0

pub made : (t : Table) (new : List (List (Option (List ℕ)))) {r : Ready} {row : NewRow} {x' x : ℕ} {into' into : Option ℕ} →
    r ≡ ready.Make x' into' row → step_of r ≡ step.Make x into → CanFollow t.rows (step.Make x into) → IsTaken t r →
    place_at new x ≡ new_words x row → ((y : ℕ) → y ≢ x → place_at new y ≡ place_at t.rows y) → Makes x into t.rows new
made t new {r} {row} {x'} {x} {into'} {into} e s possible taken put others =
    let m = taken-row e s taken in
    put-makes t.rows new x (new_words x row) (has-none t.rows x into possible) m.there put others into m.words

-- ---- an assignment

abbrev assigned_to : Step → ℕ
assigned_to (step.Make x into) = x
assigned_to (step.Assign x y) = y
assigned_to (step.Deassign x y) = y
assigned_to (step.Remove x) = x

pub assigned : (t : Table) (new : List (List (Option (List ℕ)))) {r : Ready} {inside : Inside} {other : Vec ℕ Global} {y' x y written : ℕ} →
    r ≡ ready.Assign inside y' other → step_of r ≡ step.Assign x y → IsTaken t r →
    Rewrites inside.of (λ p q. below t.rows p q || in_row other.items q) t.rows new written → Assigns x y t.rows new
assigned t new {r} {inside} {other} {y'} {x} {y} {written} e s taken rewrites =
    let same : step.Assign inside.of y' ≡ step.Assign x y = sym (ap step_of e) ∙ s in
    let same_x : inside.of ≡ x = ap made_x same in
    let same_y : y' ≡ y = ap assigned_to same in
    let was : AssignReady t inside y' other.items = rw e at taken in
    assigns t.rows new x y written (λ q. in_row other.items q) (λ q. was.same q ∙ ap (λ n. below t.rows n q) same_y) (rw same_x at rewrites)

pub assign_ready : (t : Table) {r : Ready} {inside : Inside} {other : Vec ℕ Global} {y' : ℕ} →
    r ≡ ready.Assign inside y' other → IsTaken t r → AssignReady t inside y' other.items
assign_ready t e taken = rw e at taken

-- ---- an assignment that is taken away

pub deassign_ready : (t : Table) {r : Ready} {inside : Inside} {marks : Vec Bool Global} {queue row : Vec ℕ Global} {y' x y : ℕ} →
    r ≡ ready.Deassign inside y' marks queue row → step_of r ≡ step.Deassign x y → IsTaken t r →
    (inside.of ≡ x) × DeassignReady t inside marks.items queue.items row.items
deassign_ready t e s taken = (ap made_x (sym (ap step_of e) ∙ s), rw e at taken)

-- ---- an element that is deleted

pub removed : (old new : List (List (Option (List ℕ)))) (x : ℕ) → place_at new x ≡ None → ((y : ℕ) → y ≢ x → place_at new y ≡ place_at old y) → Removes x old new
removed old new x gone others = record {
  live = λ p. elim (cases_eq p x) [
    | inl e ↦ rw (e, gone, eq-eqb x x refl) refl
    | inr ne ↦ rw (others p ne, ne-eqb p x ne) refl
  ];
  related = λ p q. elim (cases_eq p x) [
    | inl e ↦ rw (e, gone, eq-eqb x x refl) refl
    | inr ne ↦ rw (others p ne, ne-eqb p x ne) refl
  ];
}
