-- The associations, where one comes or goes and where an element comes: one lemma for each change of the lists.
use Rattle.std.proofs.Common.{◌≡◌, ◌<◌, ℕ, List, [], ◌∷◌, ◌++◌, length, Bool, false, arith, filter}
use Rattle.std.specs.List.{list_any}
use Rattle.pm_model.specs.Effect.{placed, joins, joined, may_associate, max_associations}
use Rattle.pm_model.specs.Resolve.{unused}
use Rattle.pm_model.specs.Formed.{AreElements, AreAssociations, JoinsAttributes, AreNamed}
use Rattle.pm_model.specs.declared.elements.Element.{Element}
use Rattle.pm_model.specs.declared.rights.Association.{Association}
use Rattle.pm_model.proofs.Joined.{length-joined}
use Rattle.pm_laws.proofs.Items.{each-to, each-filter, length-filter}
use Rattle.pm_laws.proofs.Ends.{both-placed}
use Rattle.pm_laws.proofs.RightNames.{named-more}
use Rattle.pm_laws.proofs.Joined.{each-joined, once-joined, ordered-joined, once-kept, ordered-kept}

-- one more
pub associations-joined : (es : List Element) (rights : List (List ℕ)) (associations : List Association) (a : Association) →
    AreAssociations es rights associations → JoinsAttributes es a → AreNamed rights a.rights →
    list_any (joins a.ua a.at) associations ≡ false → length associations < max_associations → AreAssociations es rights (joined a associations)
associations-joined es rights associations a h fits named free room = let l = length-joined a associations in record {
  kinds = each-joined a (JoinsAttributes es) associations h.kinds fits;
  once = once-joined a associations h.once free;
  ordered = ordered-joined a 0 associations h.ordered (omega arith);
  named = each-joined a (λ (b : Association). AreNamed rights b.rights) associations h.named named;
  few = omega (arith, l, room);
}

-- only those that pass a test
pub associations-kept : (es : List Element) (rights : List (List ℕ)) (associations : List Association) (test : Association → Bool) →
    AreAssociations es rights associations → AreAssociations es rights (filter test associations)
associations-kept es rights associations test h = let l = length-filter test associations in record {
  kinds = each-filter (JoinsAttributes es) test associations h.kinds;
  once = once-kept test associations h.once;
  ordered = ordered-kept test 0 associations h.ordered;
  named = each-filter (λ (a : Association). AreNamed rights a.rights) test associations h.named;
  few = omega (arith, l, h.few);
}

-- an element more
pub associations-placed : (es : List Element) (rights : List (List ℕ)) (x : Element) (associations : List Association) →
    AreElements es → x.number ≡ unused es → AreAssociations es rights associations → AreAssociations (placed x es) rights associations
associations-placed es rights x associations e u h = record {
  kinds = each-to (JoinsAttributes es) (JoinsAttributes (placed x es))
      (λ a fits. both-placed may_associate x es a.ua a.at e.rising u fits) associations h.kinds;
  once = h.once;
  ordered = h.ordered;
  named = h.named;
  few = h.few;
}

-- a right more
pub associations-rights : (es : List Element) (rights : List (List ℕ)) (name : List ℕ) (associations : List Association) →
    AreAssociations es rights associations → AreAssociations es (rights ++ name ∷ []) associations
associations-rights es rights name associations h = record {
  kinds = h.kinds;
  once = h.once;
  ordered = h.ordered;
  named = each-to (λ (a : Association). AreNamed rights a.rights) (λ (a : Association). AreNamed (rights ++ name ∷ []) a.rights)
      (λ a. named-more rights name a.rights) associations h.named;
  few = h.few;
}

pub associations-none : (es : List Element) (rights : List (List ℕ)) → AreAssociations es rights []
associations-none es rights = record { kinds = tt; once = tt; ordered = tt; named = tt; few = omega arith }
