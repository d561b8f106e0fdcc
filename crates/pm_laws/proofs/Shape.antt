-- The shape of the assignments: acyclic, and each element in a class.
use Rattle.std.proofs.Common.{◌≡◌, ℕ, Bool, true, List, [], ◌∷◌, ◌++◌, Contains, ◌⊎◌, ap, subst, inl, inr, ◌&&◌}
use Rattle.std.proofs.lemmas.Bool.{and_from, and_parts}
use Rattle.pm_model.specs.Containment.{contained, Leads, IsContained}
use Rattle.pm_model.specs.State.{is_class}
use Rattle.pm_model.specs.Effect.{with_assignment}
use Rattle.pm_model.specs.Formed.{Each, IsAcyclic, IsInClass, IsLive, JoinsKinds}
use Rattle.pm_model.specs.declared.elements.Element.{Element}
use Rattle.pm_model.proofs.ContainmentLaws.{contained-cases, contained-trans, contained-pair, contained-from_path, path-from_contained, Leads-append}
use Rattle.pm_laws.proofs.Added.{has-added}
use Rattle.pm_laws.proofs.Items.{contains-cases, any-from, any-found, each-at, each-to}
use Rattle.pm_laws.proofs.Ends.{joins-live}
use Rattle.pm_laws.proofs.Numbers.{live-found, found-at}

-- ---- more assignments contain more

abbrev pub IsWithin : List (ℕ × ℕ) → List (ℕ × ℕ) → Type 0
IsWithin assigned more = (a b : ℕ) → Contains assigned (a, b) → Contains more (a, b)

pub leads-within : (assigned more : List (ℕ × ℕ)) → IsWithin assigned more → (x : ℕ) (path : List ℕ) (y : ℕ) →
    Leads assigned x path y → Leads more x path y
leads-within assigned more sub x [] y h = h
leads-within assigned more sub x (z ∷ rest) y h = (sub x z h.0, leads-within assigned more sub z rest y h.1)

pub contained-within : (assigned more : List (ℕ × ℕ)) → IsWithin assigned more → (x y : ℕ) → contained assigned x y ≡ true →
    contained more x y ≡ true
contained-within assigned more sub x y h =
    let p : IsContained assigned x y = path-from_contained assigned x y h in
    contained-from_path more x p.0 y (leads-within assigned more sub x p.0 y p.1)

pub acyclic-within : (assigned more : List (ℕ × ℕ)) → IsWithin assigned more → IsAcyclic more → IsAcyclic assigned
acyclic-within assigned more sub h x z rest l = h x z rest (leads-within assigned more sub x (z ∷ rest) x l)

-- ---- acyclic

-- the form that proofs use: no assignment leads to what contains it
abbrev pub NoReturn : List (ℕ × ℕ) → Type 0
NoReturn assigned = (x z : ℕ) → Contains assigned (x, z) → contained assigned z x ≡ true → ⊥

pub no_return-from_acyclic : (assigned : List (ℕ × ℕ)) → IsAcyclic assigned → NoReturn assigned
no_return-from_acyclic assigned h x z c up =
    let p : IsContained assigned z x = path-from_contained assigned z x up in h x z p.0 (c, p.1)

pub acyclic-from_no_return : (assigned : List (ℕ × ℕ)) → NoReturn assigned → IsAcyclic assigned
acyclic-from_no_return assigned h x z rest l = h x z l.0 (contained-from_path assigned z rest x l.1)

-- where y is not contained in x, assigning x to y makes no cycle
no_return-more : (assigned : List (ℕ × ℕ)) (x y : ℕ) → NoReturn assigned → (contained assigned y x ≡ true → ⊥) →
    NoReturn ((x, y) ∷ assigned)
no_return-more assigned x y h apart a b c up =
    elim (contains-cases (x, y) (a, b) assigned c) [
      | inl new ↦
          let tail : x ≡ a = ap (λ (p : ℕ × ℕ). p.0) new in
          let head : y ≡ b = ap (λ (p : ℕ × ℕ). p.1) new in
          elim (contained-cases (x, y) assigned b a up) [
            | inl u ↦ apart (rw (tail, head) u)
            | inr u ↦ apart (rw head u.0)
          ]
      | inr old ↦ elim (contained-cases (x, y) assigned b a up) [
        | inl u ↦ h a b old u
        | inr u ↦ apart (contained-trans assigned y a x u.1 (contained-trans assigned a b x (contained-pair assigned a b old) u.0))
      ]
    ]

pub acyclic-added : (assigned : List (ℕ × ℕ)) (x y : ℕ) → IsAcyclic assigned → (contained assigned y x ≡ true → ⊥) →
    IsAcyclic (with_assignment (x, y) assigned)
acyclic-added assigned x y h apart =
    acyclic-within (with_assignment (x, y) assigned) ((x, y) ∷ assigned) (λ a b. has-added (x, y) assigned (a, b))
    (acyclic-from_no_return ((x, y) ∷ assigned) (no_return-more assigned x y (no_return-from_acyclic assigned h) apart))

-- where each is contained in the other the two are one
pub contained-antisymmetric : (assigned : List (ℕ × ℕ)) → IsAcyclic assigned → (x y : ℕ) → IsContained assigned x y →
    IsContained assigned y x → x ≡ y
contained-antisymmetric assigned h x y ([], l) up = l
contained-antisymmetric assigned h x y (z ∷ rest, l) up =
    absurd (h x z (rest ++ up.0) (Leads-append assigned x (z ∷ rest) y up.0 x l up.1))

-- what a live element is contained in is live
pub contained-live : (es : List Element) (assigned : List (ℕ × ℕ)) → Each (JoinsKinds es) assigned → (x y : ℕ) →
    contained assigned x y ≡ true → IsLive es x → IsLive es y
contained-live es assigned kinds x y h live =
    let p : IsContained assigned x y = path-from_contained assigned x y h in go x p.0 p.1 live where
      go : (x : ℕ) (path : List ℕ) → Leads assigned x path y → IsLive es x → IsLive es y
      go x [] l live = subst (IsLive es) l live
      go x (z ∷ rest) l live = go z rest l.1 (joins-live es x z (each-at (JoinsKinds es) assigned (x, z) kinds l.0)).1

-- ---- classes

abbrev pub is_class_of : List (ℕ × ℕ) → ℕ → Element → Bool
is_class_of assigned n c = is_class c && contained assigned n c.number

-- some class of the list contains the number
abbrev pub HasClass : List Element → List (ℕ × ℕ) → ℕ → Type 0
HasClass es assigned n = (c : Element) × Contains es c × (is_class c ≡ true) × (contained assigned n c.number ≡ true)

pub class-found : (es : List Element) (assigned : List (ℕ × ℕ)) (e : Element) → IsInClass es assigned e →
    HasClass es assigned e.number
class-found es assigned e h =
    let p = any-found (is_class_of assigned e.number) es h in
    let q = and_parts (is_class p.0) (contained assigned e.number p.0.number) p.2 in (p.0, p.1, q.0, q.1)

pub class-from : (es : List Element) (assigned : List (ℕ × ℕ)) (e : Element) → HasClass es assigned e.number →
    IsInClass es assigned e
class-from es assigned e h =
    any-from (is_class_of assigned e.number) es h.0 h.1 (and_from (is_class h.0) (contained assigned e.number h.0.number) h.2 h.3)

-- more elements, and more assignments, keep the class
pub class-within : (es fs : List Element) (assigned more : List (ℕ × ℕ)) → ((c : Element) → Contains es c → Contains fs c) →
    IsWithin assigned more → (n : ℕ) → HasClass es assigned n → HasClass fs more n
class-within es fs assigned more kept sub n h = (h.0, kept h.0 h.1, h.2, contained-within assigned more sub n h.0.number h.3)

-- what keeps the class of a number keeps that of each element
pub classes-to : (es fs : List Element) (assigned more : List (ℕ × ℕ)) →
    ((n : ℕ) → HasClass es assigned n → HasClass fs more n) → Each (IsInClass es assigned) es → Each (IsInClass fs more) es
classes-to es fs assigned more f =
    each-to (IsInClass es assigned) (IsInClass fs more) (λ e h. class-from fs more e (f e.number (class-found es assigned e h))) es

pub class-live : (es : List Element) (assigned : List (ℕ × ℕ)) (n : ℕ) → Each (IsInClass es assigned) es → IsLive es n →
    HasClass es assigned n
class-live es assigned n h live =
    let p = live-found es n live in
    let q = found-at es n p.0 p.1 in
    subst (HasClass es assigned) q.1 (class-found es assigned p.0 (each-at (IsInClass es assigned) es p.0 h q.0))

-- what is assigned to something in a class is in a class
pub class-through : (es : List Element) (assigned : List (ℕ × ℕ)) (x y : ℕ) → Contains assigned (x, y) →
    HasClass es assigned y → HasClass es assigned x
class-through es assigned x y c h = (h.0, h.1, h.2, contained-trans assigned x y h.0.number (contained-pair assigned x y c) h.3)

-- where x keeps another container z, a pair of x less leaves each in a class
pub class-kept : (es : List Element) (assigned fewer : List (ℕ × ℕ)) (x y z : ℕ) → IsAcyclic assigned →
    IsWithin fewer assigned → IsWithin assigned ((x, y) ∷ fewer) → Contains fewer (x, z) → HasClass es assigned z → (n : ℕ) →
    HasClass es assigned n → HasClass es fewer n
class-kept es assigned fewer x y z acyclic less more other of_z n h =
    elim (split n h.0.number h.3) [
      | inl still ↦ (h.0, h.1, h.2, still)
      | inr through ↦
          let d = class-through es fewer x z other z_still in
          (d.0, d.1, d.2, contained-trans fewer n x d.0.number through.0 d.3)
    ] where
      -- without the pair, or through it
      split : (a b : ℕ) → contained assigned a b ≡ true →
          (contained fewer a b ≡ true) ⊎ ((contained fewer a x ≡ true) × (contained fewer y b ≡ true))
      split a b up = contained-cases (x, y) fewer a b (contained-within assigned ((x, y) ∷ fewer) more a b up)

      z_still : HasClass es fewer z
      z_still = elim (split z of_z.0.number of_z.3) [
        | inl still ↦ (of_z.0, of_z.1, of_z.2, still)
        | inr back ↦
            let up = contained-within fewer assigned less z x back.0 in
            absurd (no_return-from_acyclic assigned acyclic x z (less x z other) up)
      ]
