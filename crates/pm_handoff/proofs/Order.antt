-- Each step keeps the rule.
use Rattle.std.proofs.Common.{◌≡◌, ◌≢◌, ℕ, zero, suc, true, false, true≢false, List, [], ◌∷◌, ◌++◌, length, map, set, sym, refl, ap, ◌∙◌, subst, ⊎_elim, append_assoc}
use Rattle.std.proofs.lemmas.List.{append-nil, map-append, length-map}
use mathlib.Core.Option.{some, some-ne-none}
use mathlib.Core.List.{IsPrefix}
use lib.ListN.{get_elem?}
use Rattle.crossbeam_queue.specs.Fifo.{Pushes, Pops, Forks, Merges, Learns, Held}
use Rattle.crossbeam_queue.proofs.Lists.{at_set, at_snoc}
use Rattle.pm_handoff.specs.declared.rule.Known.{Known}
use Rattle.pm_handoff.specs.Rule.{known, IsTrueOf, IsInOrder, GiverSees, TakerSees}

-- ---- views at their places
at_end : (l : List Known) (a b : Known) (j : ℕ) → get_elem? l j ≢ some b → get_elem? (l ++ a ∷ []) j ≡ some b → j ≡ length l
at_end [] a b zero n e = refl
at_end [] a b (suc j) n e = absurd (some-ne-none b (sym e))
at_end (x ∷ xs) a b zero n e = absurd (n e)
at_end (x ∷ xs) a b (suc j) n e = ap suc (at_end xs a b j n e)

abbrev AllAt : (ℕ → Known → Type 0) → List Known → Type 0
AllAt F views = (port : ℕ) (v : Known) → get_elem? views port ≡ some v → F port v

all_set : (F : ℕ → Known → Type 0) (views : List Known) (port : ℕ) (w : Known) → F port w → ((j : ℕ) (u : Known) → j ≢ port → get_elem? views j ≡ some u → F j u) → AllAt F (set views port w)
all_set F views port w mine others j u e = ⊎_elim (λ (x : (j ≡ port) × (w ≡ u)). subst (λ (y : ℕ × Known). F y.0 y.1) (λ i. (sym x.0 i, x.1 i)) mine)
    (λ (x : (j ≢ port) × (get_elem? views j ≡ some u)). others j u x.0 x.1) (at_set views port j w u e)

-- ---- what is first stays first
prefix_of_equal : (xs ys : List ℕ) → xs ≡ ys → IsPrefix xs ys
prefix_of_equal xs ys e = ([], append-nil xs ∙ e)

prefix_of_longer : (xs ys more : List ℕ) → IsPrefix xs ys → IsPrefix xs (ys ++ more)
prefix_of_longer xs ys more p = (p.0 ++ more, sym (append_assoc xs p.0 more) ∙ ap (λ l. l ++ more) p.1)

-- ---- an end that knows nothing
abbrev blank : Known
blank = known false false [] []

blank_is_true : (giver taker : ℕ) (given taken : List ℕ) (port : ℕ) → IsTrueOf giver taker given taken port blank
blank_is_true giver taker given taken port = record {
  gives = λ p. absurd (true≢false (sym p));
  takes = λ p. absurd (true≢false (sym p));
  given_first = (given, refl);
  taken_first = (taken, refl);
}

pub begins : IsInOrder [] (known true true [] [] ∷ [])
begins = let first : Known = known true true [] [] in record {
  giver = 0;
  taker = 0;
  given = [];
  taken = [];
  in_order = refl;
  each = all_set (IsTrueOf 0 0 [] []) (first ∷ []) 0 first (record { gives = λ _. (refl, refl); takes = λ _. (refl, refl); given_first = ([], refl); taken_first = ([], refl) })
      (λ j u other e. absurd (other (at_end [] first u j (λ x. some-ne-none u (sym x)) e)));
}

module _ {T : Type 0} (f : T → ℕ) where
  abbrev Holds : List T → List Known → Type 0
  Holds items views = IsInOrder (map f items) views

  pub gives : (n port : ℕ) (v : Known) (x : T) → v.gives ≡ true → Pushes Holds n port v x (λ w. w ≡ known v.gives v.takes (v.given ++ f x ∷ []) v.taken)
  gives n port v x may items views _ h at = let more : List ℕ = f x ∷ [] in let w : Known = known v.gives v.takes (v.given ++ more) v.taken in let mine = h.each port v at in (
    w,
    record {
      giver = h.giver;
      taker = h.taker;
      given = h.given ++ more;
      taken = h.taken;
      in_order = ap (λ l. l ++ more) h.in_order ∙ append_assoc h.taken (map f items) more ∙ ap (λ l. h.taken ++ l) (sym (map-append f items (x ∷ [])));
      each = all_set (IsTrueOf h.giver h.taker (h.given ++ more) h.taken) views port w
          (record {
            gives = λ _. ((mine.gives may).0, ap (λ l. l ++ more) (mine.gives may).1);
            takes = mine.takes;
            given_first = prefix_of_equal (v.given ++ more) (h.given ++ more) (ap (λ l. l ++ more) (mine.gives may).1);
            taken_first = mine.taken_first;
          })
          (λ j u other e. let theirs = h.each j u e in record {
            gives = λ p. absurd (other ((theirs.gives p).0 ∙ sym (mine.gives may).0));
            takes = theirs.takes;
            given_first = prefix_of_longer u.given h.given more theirs.given_first;
            taken_first = theirs.taken_first;
          });
    },
    refl,
  )

  pub takes : (port : ℕ) (v : Known) → v.takes ≡ true → Pops Holds port v (λ x w. w ≡ known v.gives v.takes v.given (v.taken ++ f x ∷ []))
  takes port v may x items views h at = let more : List ℕ = f x ∷ [] in let w : Known = known v.gives v.takes v.given (v.taken ++ more) in let mine = h.each port v at in (
    w,
    record {
      giver = h.giver;
      taker = h.taker;
      given = h.given;
      taken = h.taken ++ more;
      in_order = h.in_order ∙ sym (append_assoc h.taken more (map f items));
      each = all_set (IsTrueOf h.giver h.taker h.given (h.taken ++ more)) views port w
          (record {
            gives = mine.gives;
            takes = λ _. ((mine.takes may).0, ap (λ l. l ++ more) (mine.takes may).1);
            given_first = mine.given_first;
            taken_first = prefix_of_equal (v.taken ++ more) (h.taken ++ more) (ap (λ l. l ++ more) (mine.takes may).1);
          })
          (λ j u other e. let theirs = h.each j u e in record {
            gives = theirs.gives;
            takes = λ p. absurd (other ((theirs.takes p).0 ∙ sym (mine.takes may).0));
            given_first = theirs.given_first;
            taken_first = prefix_of_longer u.taken h.taken more theirs.taken_first;
          });
    },
    refl,
  )

  pub parts : (port : ℕ) (v : Known) → v.gives ≡ true → v.takes ≡ true → Forks Holds port v (known true false v.given v.taken) (known false true v.given v.taken)
  parts port v a b items views h at = let l : Known = known true false v.given v.taken in let r : Known = known false true v.given v.taken in let mine = h.each port v at in let vs : List Known = set views port l in
      let Old : ℕ → Known → Type 0 = λ j u. IsTrueOf h.giver (length vs) h.given h.taken j u × (u.takes ≢ true) in
      let old : AllAt Old vs = all_set Old views port l
      (record { gives = λ _. mine.gives a; takes = λ p. absurd (true≢false (sym p)); given_first = mine.given_first; taken_first = mine.taken_first }, λ p. true≢false (sym p))
      (λ j u other e. let theirs = h.each j u e in let never : u.takes ≢ true = λ p. other ((theirs.takes p).0 ∙ sym (mine.takes b).0) in
      (record { gives = theirs.gives; takes = λ p. absurd (never p); given_first = theirs.given_first; taken_first = theirs.taken_first }, never)) in record {
        giver = h.giver;
        taker = length vs;
        given = h.given;
        taken = h.taken;
        in_order = h.in_order;
        each = λ j u e. ⊎_elim (λ x. (old j u x).0)
            (λ (is : r ≡ u). record {
              gives = λ p. absurd (true≢false (sym (ap (λ (y : Known). y.gives) is ∙ p)));
              takes = λ p. (at_end vs r u j (λ x. (old j u x).1 p) e, ap (λ (y : Known). y.taken) (sym is) ∙ (mine.takes b).1);
              given_first = subst (λ (y : Known). IsPrefix y.given h.given) is mine.given_first;
              taken_first = subst (λ (y : Known). IsPrefix y.taken h.taken) is mine.taken_first;
            }) (at_snoc vs r u j e);
      }

  pub admits_blank : (port : ℕ) (v : Known) → Forks Holds port v v blank
  admits_blank port v items views h at = let F : ℕ → Known → Type 0 = IsTrueOf h.giver h.taker h.given h.taken in let old : AllAt F (set views port v) = all_set F views port v (h.each port v at) (λ j u _ e. h.each j u e) in record {
    giver = h.giver;
    taker = h.taker;
    given = h.given;
    taken = h.taken;
    in_order = h.in_order;
    each = λ j u e. ⊎_elim (λ x. old j u x) (λ (is : blank ≡ u). subst (λ (y : Known). F j y) is (blank_is_true h.giver h.taker h.given h.taken j)) (at_snoc (set views port v) blank u j e);
  }

  pub joins : (port : ℕ) (v : Known) (other : ℕ) (u : Known) → v.gives ≡ true → u.takes ≡ true → Merges Holds port v other u (known true true v.given u.taken) blank
  joins port v other u a b items views h at two at' = let both : Known = known true true v.given u.taken in let mine = h.each port v at in let vs : List Known = set views port both in
      let was : get_elem? views other ≡ some u = ⊎_elim (λ x. absurd (two x.0)) (λ x. x.1) (at_set views port other both u at') in let theirs = h.each other u was in
      let F : ℕ → Known → Type 0 = IsTrueOf h.giver port h.given h.taken in let Now : ℕ → Known → Type 0 = λ j y. j ≢ other → F j y in
      let now : AllAt Now vs = all_set Now views port both
      (λ _. record { gives = λ _. mine.gives a; takes = λ _. (refl, (theirs.takes b).1); given_first = mine.given_first; taken_first = theirs.taken_first })
      (λ j y _ e apart. let old = h.each j y e in record { gives = old.gives; takes = λ p. absurd (apart ((old.takes p).0 ∙ sym (theirs.takes b).0)); given_first = old.given_first; taken_first = old.taken_first }) in record {
        giver = h.giver;
        taker = port;
        given = h.given;
        taken = h.taken;
        in_order = h.in_order;
        each = all_set F vs other blank (blank_is_true h.giver port h.given h.taken other) (λ j y apart e. now j y e apart);
      }

  pub learns_order : (port : ℕ) (v : Known) → v.gives ≡ true → v.takes ≡ true → Learns Holds port v (λ items. v.given ≡ v.taken ++ map f items)
  learns_order port v a b items views h at = let mine = h.each port v at in (mine.gives a).1 ∙ h.in_order ∙ ap (λ l. l ++ map f items) (sym (mine.takes b).1)

  pub giver_learns : (port : ℕ) (v : Known) → v.gives ≡ true → Learns Holds port v (λ items. GiverSees v.given v.taken (map f items))
  giver_learns port v a items views h at = let mine = h.each port v at in (h.taken, mine.taken_first, (mine.gives a).1 ∙ h.in_order)

  pub taker_learns : (port : ℕ) (v : Known) → v.takes ≡ true → Learns Holds port v (λ items. TakerSees v.given v.taken (map f items))
  taker_learns port v b items views h at = let mine = h.each port v at in (h.given, mine.given_first, h.in_order ∙ ap (λ l. l ++ map f items) (sym (mine.takes b).1))

  -- what is held of items is held of their numbers
  pub numbers_held : (n : ℕ) (Fact : List ℕ → Type 0) → Held n (λ (items : List T). Fact (map f items)) → (waiting : List ℕ) × (length waiting ≡ n) × Fact waiting
  numbers_held n Fact h = (map f h.0, length-map h.0 f ∙ h.1, h.2)

  -- what was taken is first in what was given, where both ends are in one
  pub first_in : (given taken all_given all_taken : List ℕ) → all_given ≡ given → all_taken ≡ taken → ((items : List T) × (all_given ≡ all_taken ++ map f items)) → IsPrefix taken given
  first_in given taken all_given all_taken g t h = (map f h.0, ap (λ l. l ++ map f h.0) (sym t) ∙ sym h.1 ∙ g)
