-- Names at their places, and numbers by place: together they are what they were made of.
use Rattle.std.proofs.Common.{◌≡◌, ◌<◌, ◌+◌, ℕ, List, [], ◌∷◌, ◌++◌, length, length-append, map, lt-ltb, IsTrue, refl, sym, ap, ap₂, subst, ◌∙◌, arith, append_assoc, add-one, drop, drop-cons, suc}
use Rattle.std.proofs.Math.Seq.{get_or-append_seam}
use Rattle.std.specs.List.{zip}
use Rattle.pm_model.specs.Formed.{Each}
use Rattle.pm_model.specs.Nameable.{ArePairsNameable}
use Rattle.pm_model.specs.declared.replies.Reply.TheVariants as reply
use Rattle.pm_replies.specs.ByNames.{count_by_name, pair_by_name}
use Rattle.pm_replies.specs.Numbered.{IsNumbered, count_names, counts_of, is_among, name_among, numbers_from, pair_names, pairs_from}
use Rattle.pm_replies.specs.declared.texts.ReplyText.TheVariants.{Caps, Entries, Survey, Kept}
use Rattle.pm_replies.specs.declared.texts.TextCount.{TextCount}
use Rattle.pm_replies.specs.declared.texts.TextPair.{TextPair}

-- a name behind those
shift : (ns : List (List ℕ)) (x : List ℕ) (rest : List (List ℕ)) → ns ++ x ∷ rest ≡ (ns ++ x ∷ []) ++ rest
shift ns x rest = sym (append_assoc ns (x ∷ []) rest)

next : (ns : List (List ℕ)) (x : List ℕ) → length ns + 1 ≡ length (ns ++ x ∷ [])
next ns x = let a = length-append ns (x ∷ []) in omega (arith, a)

among : (ns : List (List ℕ)) (x : List ℕ) (rest : List (List ℕ)) → IsTrue (is_among (ns ++ x ∷ rest) (length ns))
among ns x rest = let a = length-append ns (x ∷ rest) in lt-ltb (length ns) (length (ns ++ x ∷ rest)) (omega (arith, a))

pairs_back : (ns : List (List ℕ)) (list : List TextPair) →
    map (pair_by_name (name_among (ns ++ pair_names list))) (pairs_from (length ns) list) ≡ list
pairs_back ns [] = refl
pairs_back ns (p ∷ ps) =
    let here = get_or-append_seam ns p.name (pair_names ps) [] in
    let rest =
    ap₂ (λ (names : List (List ℕ)) (n : ℕ). map (pair_by_name (name_among names)) (pairs_from n ps)) (shift ns p.name (pair_names ps)) (next ns p.name)
    ∙ pairs_back (ns ++ p.name ∷ []) ps in
    ap₂ (λ (name : List ℕ) (qs : List TextPair). record { name = name; rights = p.rights } ∷ qs) here rest

pairs_among : (ns : List (List ℕ)) (list : List TextPair) → ArePairsNameable (is_among (ns ++ pair_names list)) (pairs_from (length ns) list)
pairs_among ns [] = tt
pairs_among ns (p ∷ ps) =
    let moved =
    ap₂ (λ (names : List (List ℕ)) (n : ℕ). ArePairsNameable (is_among names) (pairs_from n ps)) (shift ns p.name (pair_names ps)) (next ns p.name) in
    (among ns p.name (pair_names ps), subst (λ (t : Type 0). t) (sym moved) (pairs_among (ns ++ p.name ∷ []) ps))

counts_back : (ns : List (List ℕ)) (list : List TextCount) →
    map (count_by_name (name_among (ns ++ count_names list))) (zip (numbers_from (length ns) list) (counts_of list)) ≡ list
counts_back ns [] = refl
counts_back ns (c ∷ cs) =
    let here = get_or-append_seam ns c.name (count_names cs) [] in
    let rest =
    ap₂ (λ (names : List (List ℕ)) (n : ℕ). map (count_by_name (name_among names)) (zip (numbers_from n cs) (counts_of cs)))
    (shift ns c.name (count_names cs)) (next ns c.name)
    ∙ counts_back (ns ++ c.name ∷ []) cs in
    ap₂ (λ (name : List ℕ) (qs : List TextCount). record { name = name; count = c.count } ∷ qs) here rest

users_among : (ns : List (List ℕ)) (list : List TextCount) →
    Each (λ (u : ℕ). IsTrue (is_among (ns ++ count_names list) u)) (numbers_from (length ns) list)
users_among ns [] = tt
users_among ns (c ∷ cs) =
    let moved =
    ap₂ (λ (names : List (List ℕ)) (n : ℕ). Each (λ (u : ℕ). IsTrue (is_among names u)) (numbers_from n cs))
    (shift ns c.name (count_names cs)) (next ns c.name) in
    (among ns c.name (count_names cs), subst (λ (t : Type 0). t) (sym moved) (users_among (ns ++ c.name ∷ []) cs))

-- ---- the lists of reviews

pub caps_numbered : (list : List TextPair) → IsNumbered (Caps list) (pair_names list) (reply.Caps (pairs_from 0 list))
caps_numbered list = record { named = ap Caps (pairs_back [] list); nameable = pairs_among [] list }

pub entries_numbered : (list : List TextPair) → IsNumbered (Entries list) (pair_names list) (reply.Entries (pairs_from 0 list))
entries_numbered list = record { named = ap Entries (pairs_back [] list); nameable = pairs_among [] list }

pub kept_numbered : (list : List TextPair) → IsNumbered (Kept list) (pair_names list) (reply.Kept (pairs_from 0 list))
kept_numbered list = record { named = ap Kept (pairs_back [] list); nameable = pairs_among [] list }

pub survey_numbered : (list : List TextCount) →
    IsNumbered (Survey list) (count_names list) (reply.Survey (numbers_from 0 list) (counts_of list))
survey_numbered list = record { named = ap Survey (counts_back [] list); nameable = users_among [] list }

-- ---- what is left of a list, from a place on

pub users_left : (done : List ℕ) (list : List TextCount) (i : ℕ) → i < length list →
    done ++ numbers_from i (drop i list) ≡ (done ++ i ∷ []) ++ numbers_from (i + 1) (drop (i + 1) list)
users_left done list i within =
    let split = drop-cons list i (record { name = []; count = 0 }) within in
    rw (split, add-one i) (sym (append_assoc done (i ∷ []) (numbers_from (suc i) (drop (suc i) list))))
