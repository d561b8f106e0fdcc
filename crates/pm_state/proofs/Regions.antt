-- What may be asked about in a graph: the live elements and users, which are few; and lists of a graph with the same rights.
use Rattle.std.proofs.Common.{◌≡◌, ◌<◌, ◌*◌, ◌^◌, ℕ, List, [], ◌∷◌, length, map, filter, Ok, refl, sym, ◌∙◌, ap, arith}
use Rattle.std.proofs.lemmas.Nat.{mul-le}
use Rattle.pm_model.specs.State.{Graph}
use Rattle.pm_model.specs.Effect.{effect, changed, refusal}
use Rattle.pm_model.specs.Formed.{Each, IsLive, IsWellFormed}
use Rattle.pm_model.specs.KeptReviews.{subject}
use Rattle.pm_model.specs.Reviews.{has_some, list_of, numbers_in, pair, rights_in, users_in}
use Rattle.pm_model.specs.declared.elements.Element.{Element}
use Rattle.pm_model.specs.declared.requests.Change.{Change}
use Rattle.pm_model.specs.declared.requests.Change.TheVariants.{Create, Delete, Assign, Deassign, Associate, Dissociate, OpenSession, CloseSession, StartProcess, EndProcess, Prohibit, Lift, Oblige, Withdraw, DefineRight, Keep, DropReview}
use Rattle.pm_model.specs.declared.reviews.Pair.{Pair}
use Rattle.pm_model.specs.declared.reviews.ReviewOf.{ReviewOf}
use Rattle.pm_model.specs.declared.reviews.ReviewOf.TheVariants.{Caps, Entries}
use Rattle.pm_laws.proofs.Checks.{unless-ok}
use Rattle.pm_laws.proofs.Items.{each-all, each-to}
use Rattle.pm_laws.proofs.Reviewed.{elements_live, users_live}
use Rattle.pm_affect.specs.Affected.{region_of}
use Rattle.pm_affect.specs.Live.{AreAsked}
use Rattle.pm_affect.specs.declared.region.Region.TheVariants.{Nothing}
use Rattle.pm_state.specs.Containing.{relation_in}
use Rattle.pm_state.specs.Judging.{judgement_in}
use Rattle.pm_state.proofs.Listing.{few-elements, few-users}

pub elements-asked : (G : Graph) → IsWellFormed G → AreAsked (relation_in G) (judgement_in G) (numbers_in G.elements)
elements-asked G f =
    let live = each-all (IsLive G.elements) (numbers_in G.elements) (elements_live G f) in
    record { search = live; judge = live }

pub users-asked : (G : Graph) → IsWellFormed G → AreAsked (relation_in G) (judgement_in G) (users_in G.elements)
users-asked G f =
    let live = each-all (IsLive G.elements) (users_in G.elements) (users_live G f) in
    record { search = live; judge = live }

-- so many may be asked about
pub few-pairs : (G : Graph) → IsWellFormed G → length (users_in G.elements) * length (numbers_in G.elements) < 2 ^ 64
few-pairs G f =
    let most = mul-le (length (users_in G.elements)) (length (numbers_in G.elements)) 16384 16384 (few-users G f) (few-elements G f) in
    omega (arith, most)

-- ---- where a change has an empty region

nothing-changed : (G : Graph) (c : Change) → region_of G c ≡ Nothing → (changed G c).elements ≡ G.elements
nothing-changed G (Create id kind name into) is = absurd (cc)
nothing-changed G (Delete id) is = absurd (cc)
nothing-changed G (Assign x y) is = refl
nothing-changed G (Deassign x y) is = refl
nothing-changed G (Associate u r t) is = refl
nothing-changed G (Dissociate u t) is = refl
nothing-changed G (OpenSession u) is = refl
nothing-changed G (CloseSession k) is = refl
nothing-changed G (StartProcess k) is = refl
nothing-changed G (EndProcess k) is = refl
nothing-changed G (Prohibit p) is = refl
nothing-changed G (Lift i) is = refl
nothing-changed G (Oblige o) is = refl
nothing-changed G (Withdraw i) is = refl
nothing-changed G (DefineRight name) is = refl
nothing-changed G (Keep of) is = refl
nothing-changed G (DropReview k) is = refl

pub elements-stay : (G H : Graph) (c : Change) → effect G c ≡ Ok H → region_of G c ≡ Nothing → H.elements ≡ G.elements
elements-stay G H c made is =
    sym (ap (λ (K : Graph). K.elements) (unless-ok (refusal G c) (changed G c) H made).1) ∙ nothing-changed G c is

pairs-alike : (f g : ℕ → ℕ) (ns : List ℕ) → Each (λ n. f n ≡ g n) ns → map (λ n. pair n (f n)) ns ≡ map (λ n. pair n (g n)) ns
pairs-alike f g [] h = refl
pairs-alike f g (n ∷ ns) h = rw (h.0, pairs-alike f g ns h.1) refl

-- rights that are the same give the same lists
pub lists-alike : (G H : Graph) → IsWellFormed G → H.elements ≡ G.elements →
    ((u e : ℕ) → IsLive G.elements u → IsLive G.elements e → rights_in H u e ≡ rights_in G u e) → (of : ReviewOf ℕ) → IsLive G.elements (subject of) →
    list_of H of ≡ list_of G of
lists-alike G H f same alike (Caps u) live =
    ap (λ (es : List Element). filter has_some (map (λ e. pair e (rights_in H u e)) (numbers_in es))) same
    ∙ ap (λ (ps : List Pair). filter has_some ps) (pairs-alike (λ e. rights_in H u e) (λ e. rights_in G u e) (numbers_in G.elements)
    (each-to (IsLive G.elements) (λ e. rights_in H u e ≡ rights_in G u e) (λ e there. alike u e live there) (numbers_in G.elements) (elements_live G f)))
lists-alike G H f same alike (Entries e) live =
    ap (λ (es : List Element). filter has_some (map (λ u. pair u (rights_in H u e)) (users_in es))) same
    ∙ ap (λ (ps : List Pair). filter has_some ps) (pairs-alike (λ u. rights_in H u e) (λ u. rights_in G u e) (users_in G.elements)
    (each-to (IsLive G.elements) (λ u. rights_in H u e ≡ rights_in G u e) (λ u there. alike u e there live) (users_in G.elements) (users_live G f)))
