-- Names that a change keeps: all where it ends no element.
use Rattle.std.proofs.Common.{◌≡◌, ◌<◌, ◌||◌, ℕ, Bool, false, List, Option, Some, None, Ok, inl, inr, length, slice_get, slice_set, refl, sym, ◌∙◌, ap, subst, arith}
use Rattle.std.proofs.lemmas.Bool.{or_parts}
use Rattle.std.proofs.lemmas.Option.{slice_get_cases}
use Rattle.pm_model.specs.State.{Graph, element, element_at, name_numbered, name_or_none}
use Rattle.pm_model.specs.Effect.{changed, effect, placed, refusal}
use Rattle.pm_model.specs.Formed.{IsLive, IsNamed, IsWellFormed}
use Rattle.pm_model.specs.Resolve.{unused}
use Rattle.pm_model.specs.KeptReviews.{KeptReview}
use Rattle.pm_model.specs.declared.elements.Element.{Element}
use Rattle.pm_model.specs.declared.requests.Change.{Change}
use Rattle.pm_model.specs.declared.requests.Change.TheVariants.{Create, Delete, Assign, Deassign, Associate, Dissociate, OpenSession, CloseSession, StartProcess, EndProcess, Prohibit, Lift, Oblige, Withdraw, DefineRight, Keep, DropReview}
use Rattle.pm_model.specs.declared.reviews.Changed.{Changed}
use Rattle.pm_laws.proofs.Checks.{unless-ok}
use Rattle.pm_laws.proofs.Numbers.{live-placed}
use Rattle.pm_state.specs.Leaving.{AreNamesKept, deletes}
use Rattle.pm_state.proofs.LastSet.{last_set}

-- of elements that are the same
pub same-names : (G H : Graph) → H.elements ≡ G.elements → AreNamesKept G H
same-names G H same = record {
  live = λ n live. rw same live;
  names = λ n live. ap (λ (es : List Element). name_numbered es n) same;
}

-- one after another
pub names-on : (F G H : Graph) → AreNamesKept F G → AreNamesKept G H → AreNamesKept F H
names-on F G H first then = record {
  live = λ n live. then.live n (first.live n live);
  names = λ n live. then.names n (first.live n live) ∙ first.names n live;
}

names-changed : (G : Graph) (c : Change) → IsWellFormed G → IsNamed G c → deletes c ≡ false → AreNamesKept G (changed G c)
names-changed G (Create id kind name into) f n but =
    let found : (m : ℕ) → IsLive G.elements m → element_at (placed (element id kind name) G.elements) m ≡ element_at G.elements m =
    λ m live. live-placed (element id kind name) G.elements m f.elements.rising (next into n) live in record {
      live = λ m live. rw (found m live) live;
      names = λ m live. ap name_or_none (found m live);
    } where
      next : (into : Option ℕ) → IsNamed G (Create id kind name into) → id ≡ unused G.elements
      next None n = n.0
      next (Some p) n = n.0
names-changed G (Delete id) f n but = absurd (cc)
names-changed G (Assign x y) f n but = same-names G (changed G (Assign x y)) refl
names-changed G (Deassign x y) f n but = same-names G (changed G (Deassign x y)) refl
names-changed G (Associate u r t) f n but = same-names G (changed G (Associate u r t)) refl
names-changed G (Dissociate u t) f n but = same-names G (changed G (Dissociate u t)) refl
names-changed G (OpenSession u) f n but = same-names G (changed G (OpenSession u)) refl
names-changed G (CloseSession k) f n but = same-names G (changed G (CloseSession k)) refl
names-changed G (StartProcess k) f n but = same-names G (changed G (StartProcess k)) refl
names-changed G (EndProcess k) f n but = same-names G (changed G (EndProcess k)) refl
names-changed G (Prohibit p) f n but = same-names G (changed G (Prohibit p)) refl
names-changed G (Lift i) f n but = same-names G (changed G (Lift i)) refl
names-changed G (Oblige o) f n but = same-names G (changed G (Oblige o)) refl
names-changed G (Withdraw i) f n but = same-names G (changed G (Withdraw i)) refl
names-changed G (DefineRight name) f n but = same-names G (changed G (DefineRight name)) refl
names-changed G (Keep of) f n but = same-names G (changed G (Keep of)) refl
names-changed G (DropReview i) f n but = same-names G (changed G (DropReview i)) refl

-- once a change has led from the one graph to the other
pub names-more : (F G H : Graph) (c : Change) → IsWellFormed G → IsNamed G c → effect G c ≡ Ok H → deletes c ≡ false → AreNamesKept F G → AreNamesKept F H
names-more F G H c f n made but names =
    let new : changed G c ≡ H = (unless-ok (refusal G c) (changed G c) H made).1 in
    names-on F G H names (subst (λ (K : Graph). AreNamesKept G K) new (names-changed G c f n but))

-- where none was deleted before it, nor by it
pub names-later : (F G H : Graph) (c : Change) (before now : Bool) → IsWellFormed G → IsNamed G c → effect G c ≡ Ok H → now ≡ deletes c →
    (before ≡ false → AreNamesKept F G) → (before || now) ≡ false → AreNamesKept F H
names-later F G H c before now f n made is names neither =
    let both = or_parts before now neither in names-more F G H c f n made (sym is ∙ both.1) (names both.0)

-- a last change names nothing
pub names-set : (F G K : Graph) (i at : ℕ) (told : List Changed) → i < length G.kept →
    ((k : KeptReview) → slice_get G.kept i ≡ Some k → K ≡ record G { kept = slice_set G.kept i (last_set at told k) }) → AreNamesKept F G → AreNamesKept F K
names-set F G K i at told within set names = elim ((slice_get_cases G.kept i).1) [
  | inl here ↦ names-on F G K names (same-names G K (ap (λ (J : Graph). J.elements) (set here.0 here.2)))
  | inr past ↦ absurd (omega (arith, within, past.0))
]
