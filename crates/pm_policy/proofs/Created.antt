-- The elements of a document are made one after another, each in its container.
use Rattle.std.proofs.Common.{nat_le, length-append, ◌≡◌, ◌≤◌, ◌<◌, ◌+◌, ℕ, Bool, true, false, List, [], ◌∷◌, ◌++◌, length, map, Option, Some, None, Result, Ok, refl, ◌∙◌, ap, subst, arith, append_assoc}
use Rattle.std.proofs.lemmas.List.{append-nil}
use Rattle.std.proofs.lemmas.Bool.{lt-leb}
use Rattle.pm_model.specs.Results.{first_of, unless}
use Rattle.pm_model.specs.State.{Graph, root, element}
use Rattle.pm_model.specs.Sessions.{opening_procs}
use Rattle.pm_model.specs.Effect.{checks, changed, effect, may_assign, placed, with_assignment, max_elements, max_assignments}
use Rattle.pm_model.specs.Resolve.{unused}
use Rattle.pm_model.specs.declared.elements.Kind.TheVariants.{Pc}
use Rattle.pm_model.specs.declared.prohibitions.Prohibition.{Prohibition}
use Rattle.pm_model.specs.declared.rights.Association.{Association}
use Rattle.pm_model.specs.declared.requests.Change.{Change}
use Rattle.pm_model.specs.declared.requests.Change.TheVariants as change
use Rattle.pm_model.specs.declared.requests.Command.TheVariants as command
use Rattle.pm_model.specs.declared.replies.Refusal.{Refusal}
use Rattle.pm_laws.proofs.Checks.{ArePassed}
use Rattle.pm_laws.proofs.Added.{length-added}
use Rattle.pm_policy.specs.Policy.{called}
use Rattle.pm_policy.specs.Order.{is_made}
use Rattle.pm_policy.specs.Requests.{first_assignment, create, created_in}
use Rattle.pm_policy.specs.declared.policy.DocElement.{DocElement}
use Rattle.pm_policy.specs.declared.policy.DocAssignment.{DocAssignment}
use Rattle.pm_policy.proofs.Steps.{IsQuiet, IsStep, Steps}
use Rattle.pm_policy.proofs.Places.{counted, place, counted-more, counted-unused, length-counted, number-made, element-made, named-made, called-made}

-- ---- effects

pub first-none : {E : Type 0} (cs : List (Bool × E)) → ArePassed cs → first_of cs ≡ None
first-none [] h = refl
first-none (c ∷ cs) h = rw h.0 (first-none cs h.1)

pub effect-made : (G : Graph) (d : Change) → ArePassed (checks G d) → effect G d ≡ Ok (changed G d)
effect-made G d h = ap (λ (why : Option Refusal). let r : Result Graph Refusal = unless why (changed G d) in r) (first-none (checks G d) h)

-- ---- a graph of these elements, in the order in which they were made

abbrev pub shaped : List (List ℕ) → List Association → List Prohibition → List DocElement → List (ℕ × ℕ) → Graph
shaped rights associations prohibitions made assigned =
    record {
      elements = counted 0 made;
      assigned = assigned;
      associations = associations;
      prohibitions = prohibitions;
      obligations = [];
      rights = rights;
      procs = opening_procs root;
      kept = [];
    }

pub quiet : (rights : List (List ℕ)) (associations : List Association) (prohibitions : List Prohibition) (made : List DocElement) (assigned : List (ℕ × ℕ)) →
    IsQuiet (shaped rights associations prohibitions made assigned)
quiet rights associations prohibitions made assigned = record { procs = refl; obligations = refl; kept = refl }

module _ (rights : List (List ℕ)) (associations : List Association) (prohibitions : List Prohibition) where
  abbrev graph : List DocElement → List (ℕ × ℕ) → Graph
  graph made assigned = shaped rights associations prohibitions made assigned

  room-made : (made : List DocElement) → length made < max_elements → nat_le max_elements (length (counted 0 made)) ≡ false
  room-made made room = let l = length-counted 0 made in lt-leb max_elements (length (counted 0 made)) (omega (arith, l, room))

  next : (made : List DocElement) → unused (counted 0 made) ≡ length made
  next made = let u = counted-unused 0 made in omega (arith, u)

  create-class : (made : List DocElement) (assigned : List (ℕ × ℕ)) (e : DocElement) → is_made made e.name ≡ false → e.kind ≡ Pc →
      length made < max_elements → IsStep (graph made assigned) (command.CreatePc e.name) (graph (made ++ e ∷ []) assigned)
  create-class made assigned e new class room = record {
    change = change.Create (unused (counted 0 made)) Pc e.name None;
    resolved = refl;
    made = effect-made (graph made assigned) (change.Create (unused (counted 0 made)) Pc e.name None)
        (refl, (named-made 0 made e.name ∙ new, (room-made made room, (refl, tt))))
        ∙ ap (λ l. Ok (record (graph made assigned) { elements = l }))
        (subst (λ k. placed (element (unused (counted 0 made)) k e.name) (counted 0 made) ≡ counted 0 (made ++ e ∷ [])) class (counted-more made e));
    obliging = refl;
    quiet = quiet rights associations prohibitions (made ++ e ∷ []) assigned;
  }

  create-under : (made : List DocElement) (assigned : List (ℕ × ℕ)) (e c : DocElement) (into : List ℕ) → is_made made e.name ≡ false →
      called made into ≡ Some c → may_assign e.kind c.kind ≡ true → length made < max_elements → length assigned < max_assignments →
      IsStep (graph made assigned) (command.Create e.kind e.name into)
      (graph (made ++ e ∷ []) (with_assignment (length made, place made into) assigned))
  create-under made assigned e c into new is fits room few = record {
    change = change.Create (unused (counted 0 made)) e.kind e.name (Some (place made into));
    resolved = rw (number-made 0 made into (called-made made into c is)) refl;
    made = effect-made (graph made assigned) (change.Create (unused (counted 0 made)) e.kind e.name (Some (place made into)))
        (rw (element-made 0 made into c is, fits) refl, (named-made 0 made e.name ∙ new, (room-made made room, (lt-leb max_assignments (length assigned) few, tt))))
        ∙ ap (λ l. let r : Result Graph Refusal = Ok (record (graph made assigned) { elements = l; assigned = with_assignment (unused (counted 0 made), place made into) assigned }) in r) (counted-more made e)
        ∙ ap (λ k. let r : Result Graph Refusal = Ok (record (graph made assigned) { elements = counted 0 (made ++ e ∷ []); assigned = with_assignment (k, place made into) assigned }) in r) (next made);
    obliging = refl;
    quiet = quiet rights associations prohibitions (made ++ e ∷ []) (with_assignment (length made, place made into) assigned);
  }

-- ---- one after another

module _ (pairs : List DocAssignment) where
  -- the element is new, and is a class or has its container there
  abbrev pub IsMadeIn : List DocElement → DocElement → Option DocAssignment → Type 0
  IsMadeIn made e None = e.kind ≡ Pc
  IsMadeIn made e (Some p) = (c : DocElement) × (called made p.to ≡ Some c) × (may_assign e.kind c.kind ≡ true)

  abbrev pub AreMakeable : List DocElement → List DocElement → Type 0
  AreMakeable made [] = Unit {0}
  AreMakeable made (e ∷ es) = (is_made made e.name ≡ false) × IsMadeIn made e (first_assignment pairs e.name) × AreMakeable (made ++ e ∷ []) es

  abbrev pub with_first : List DocElement → Option DocAssignment → List (ℕ × ℕ) → List (ℕ × ℕ)
  with_first made None assigned = assigned
  with_first made (Some p) assigned = with_assignment (length made, place made p.to) assigned

  -- the assignments once these are made
  abbrev pub assigned_after : List DocElement → List (ℕ × ℕ) → List DocElement → List (ℕ × ℕ)
  assigned_after made assigned [] = assigned
  assigned_after made assigned (e ∷ es) = assigned_after (made ++ e ∷ []) (with_first made (first_assignment pairs e.name) assigned) es

  with-first-length : (made : List DocElement) (o : Option DocAssignment) (assigned : List (ℕ × ℕ)) → length assigned ≤ length (with_first made o assigned)
  with-first-length made None assigned = omega arith
  with-first-length made (Some p) assigned = let l = length-added (length made, place made p.to) assigned in omega (arith, l)

  after-length : (made : List DocElement) (assigned : List (ℕ × ℕ)) (es : List DocElement) → length assigned ≤ length (assigned_after made assigned es)
  after-length made assigned [] = omega arith
  after-length made assigned (e ∷ es) =
      let first = with-first-length made (first_assignment pairs e.name) assigned in
      let rest = after-length (made ++ e ∷ []) (with_first made (first_assignment pairs e.name) assigned) es in omega (arith, first, rest)

  module _ (rights : List (List ℕ)) (associations : List Association) (prohibitions : List Prohibition) where
    created : (made : List DocElement) (assigned : List (ℕ × ℕ)) (e : DocElement) (o : Option DocAssignment) → is_made made e.name ≡ false →
        IsMadeIn made e o → length made < max_elements → length (with_first made o assigned) ≤ max_assignments →
        IsStep (shaped rights associations prohibitions made assigned) (created_in e o)
        (shaped rights associations prohibitions (made ++ e ∷ []) (with_first made o assigned))
    created made assigned e None new fits room few = create-class rights associations prohibitions made assigned e new fits room
    created made assigned e (Some p) new fits room few =
        let l = length-added (length made, place made p.to) assigned in
        create-under rights associations prohibitions made assigned e fits.0 p.to new fits.1 fits.2 room (omega (arith, l, few))

    pub creates : (made : List DocElement) (assigned : List (ℕ × ℕ)) (es : List DocElement) → AreMakeable made es →
        length made + length es ≤ max_elements → length (assigned_after made assigned es) ≤ max_assignments →
        Steps (shaped rights associations prohibitions made assigned) (map (create pairs) es)
        (shaped rights associations prohibitions (made ++ es) (assigned_after made assigned es))
    creates made assigned [] h room few = rw (append-nil made) refl
    creates made assigned (e ∷ es) h room few =
        let l = length-append made (e ∷ []) in
        let more = after-length (made ++ e ∷ []) (with_first made (first_assignment pairs e.name) assigned) es in
        let next = creates (made ++ e ∷ []) (with_first made (first_assignment pairs e.name) assigned) es h.2 (omega (arith, l, room)) few in (
          shaped rights associations prohibitions (made ++ e ∷ []) (with_first made (first_assignment pairs e.name) assigned),
          created made assigned e (first_assignment pairs e.name) h.0 h.1 (omega (arith, room)) (omega (arith, more, few)),
          subst (λ (l : List DocElement). Steps (shaped rights associations prohibitions (made ++ e ∷ []) (with_first made (first_assignment pairs e.name) assigned))
              (map (create pairs) es) (shaped rights associations prohibitions l (assigned_after made assigned (e ∷ es)))) (append_assoc made (e ∷ []) es) next,
        )
