-- Rights are defined one after another.
use Rattle.std.proofs.Common.{◌≡◌, ◌<◌, ◌+◌, ℕ, false, List, [], ◌∷◌, ◌++◌, length, take, drop, get_or, refl, sym, ◌∙◌, arith, bytes_eq, length-append, append_assoc, subst, ap}
use Rattle.std.specs.List.{list_any}
use Rattle.std.proofs.lemmas.List.{append-nil}
use Rattle.std.proofs.lemmas.List.Elements.{Contains-append_right}
use Rattle.pm_laws.proofs.Items.{contains-first, each-at, each-push}
use Rattle.pm_model.specs.Formed.{AreRights, Each, NameOnce}
use Rattle.pm_model.specs.RightSet.{command_words, opening_rights}
use Rattle.pm_laws.proofs.RightNames.{rights-more, rights-opening}
use Rattle.pm_policy.specs.Sound.{AreOnce}
use Rattle.pm_sound.specs.Groups.{AreDefined, IsFree}
use Rattle.pm_sound.proofs.Twice.{bytes-swapped, name-once, once-apart, parted, pushed}

opening-length : length opening_rights ≡ 17
unfolding opening_rights
opening-length = refl

abbrev NoWord : List ℕ → Type 0
NoWord name = list_any (bytes_eq name) command_words ≡ false

-- a right may be defined behind those before it
pub defined-free : (xs : List (List ℕ)) (x : List ℕ) (rest : List (List ℕ)) → AreDefined (xs ++ x ∷ rest) → IsFree (opening_rights ++ xs) x
defined-free xs x rest h =
    let once = name-once (opening_rights ++ (xs ++ x ∷ rest)) h.once in
    let joined : AreOnce bytes_eq ((opening_rights ++ xs) ++ x ∷ rest) = subst (λ l. AreOnce bytes_eq l) (sym (append_assoc opening_rights xs (x ∷ rest))) once in
    let few = h.few in
    let all = length-append xs (x ∷ rest) in
    let front = length-append opening_rights xs in
    let opening = opening-length in
    record {
      unused = once-apart bytes_eq bytes-swapped (opening_rights ++ xs) x rest joined;
      no_word = each-at NoWord (xs ++ x ∷ rest) x h.no_words (Contains-append_right xs (x ∷ rest) x (contains-first x rest));
      room = omega (arith, few, all, front, opening);
    }

-- those so far
pub record AreSoFar (names xs : List (List ℕ)) : Type 0 where
  pub listed : names ≡ opening_rights ++ xs
  pub rights : AreRights names
  pub no_words : Each NoWord xs

pub so-far : (names xs : List (List ℕ)) (x : List ℕ) → AreSoFar names xs → IsFree names x → AreSoFar (names ++ x ∷ []) (xs ++ x ∷ [])
so-far names xs x h free = record {
  listed = ap (λ l. l ++ x ∷ []) h.listed ∙ append_assoc opening_rights xs (x ∷ []);
  rights = rights-more names x h.rights free.unused free.room;
  no_words = each-push NoWord xs x h.no_words free.no_word;
}

pub none-yet : (names : List (List ℕ)) → names ≡ opening_rights → AreSoFar names []
none-yet names is = record {
  listed = is ∙ sym (append-nil opening_rights);
  rights = subst AreRights (sym is) rights-opening;
  no_words = tt;
}

module _ (names rights : List (List ℕ)) (i : ℕ) (x : List ℕ) (below : i < length rights) (is : x ≡ get_or rights i x) (h : AreSoFar names (take i rights)) where
  pub next-free : AreDefined rights → IsFree names x
  next-free all =
      let whole = subst AreDefined (sym (parted rights i x below is)) all in
      subst (λ l. IsFree l x) (sym h.listed) (defined-free (take i rights) x (drop (i + 1) rights) whole)

  pub next : (new : List (List ℕ)) → new ≡ names ++ x ∷ [] → IsFree names x → AreSoFar new (take (i + 1) rights)
  next new made free =
      let more = so-far names (take i rights) x h free in
      subst (λ l. AreSoFar l (take (i + 1) rights)) (sym made) (subst (λ l. AreSoFar (names ++ x ∷ []) l) (sym (pushed rights i x below is)) more)

pub all-defined : (names xs : List (List ℕ)) → AreSoFar names xs → AreDefined xs
all-defined names xs h =
    let few = h.rights.few in
    let all = ap length h.listed ∙ length-append opening_rights xs in
    let opening = opening-length in
    record {
      once = subst NameOnce h.listed h.rights.once;
      no_words = h.no_words;
      few = omega (arith, few, all, opening);
    }
