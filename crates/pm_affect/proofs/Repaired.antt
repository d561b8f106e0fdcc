-- Lists that are right outside the region are right once the rights of the pairs in it are put into them.
use Rattle.std.proofs.Common.{◌≡◌, ℕ, Bool, true, false, ◌==◌, ◌&&◌, ◌||◌, List, [], ◌∷◌, map, refl, sym, ap, ◌∙◌, arith, if◌then◌else◌, eq-eqb, Contains}
use Rattle.std.specs.List.{list_any}
use Rattle.std.proofs.lemmas.Bool.{cond_both, eqb-true, eqb-false, ne_eqb}
use Rattle.pm_model.specs.Effect.{is_pair}
use Rattle.pm_model.specs.Formed.{Each}
use Rattle.pm_model.specs.declared.reviews.Pair.{Pair}
use Rattle.pm_laws.proofs.Items.{any-map, contains-first, contains-rest}
use Rattle.pm_affect.specs.Affected.{is_in}
use Rattle.pm_affect.specs.Judged.{in_scope, judged}
use Rattle.pm_affect.specs.Lists.{AreKept, IsInOrder, Listed, Lists, Rise, is_among, subjects}
use Rattle.pm_affect.specs.Puts.{cleared, put_at, put_each, with_put, with_rights}
use Rattle.pm_affect.specs.Right.{AreCapsRight, AreEntriesRight, AreRight, IsRightOutside, caps_anew, entries_anew, is_one, rights_at}
use Rattle.pm_affect.specs.declared.region.Region.{Region}
use Rattle.pm_affect.specs.declared.region.Region.TheVariants.{Nothing, One, Under, Between, Barred}
use Rattle.pm_affect.proofs.Once.{judged-has}
use Rattle.pm_affect.proofs.Ones.{one-caps, one-entries}
use Rattle.pm_affect.proofs.Order.{listed, listed-order, listed-rights, same-list}
use Rattle.pm_affect.proofs.Puts.{put-order, put-rights}

-- ---- one list

-- it is right everywhere where it has the right rights inside, nothing of what is gone, and else what it had
pub list-done : (inside gone : ℕ → Bool) (rights : ℕ → ℕ) (ns : List ℕ) (ps final : List Pair) → IsRightOutside inside gone rights ns ps →
    ((n : ℕ) → gone n ≡ true → inside n ≡ true) → Rise 0 ns → IsInOrder 0 final →
    ((n : ℕ) → rights_at final n ≡ (if inside n && is_among ns n then rights n else (if gone n then 0 else rights_at ps n))) →
    final ≡ listed rights ns
list-done inside gone rights ns ps final h within rise order has =
    same-list 0 final (listed rights ns) order (listed-order rights 0 ns rise) (λ n. has n ∙ at n ∙ sym (listed-rights rights ns n)) where
      at : (n : ℕ) → (if inside n && is_among ns n then rights n else (if gone n then 0 else rights_at ps n)) ≡ (if is_among ns n then rights n else 0)
      at n = go (inside n) (is_among ns n) (gone n) refl refl refl where
        go : (a b c : Bool) → inside n ≡ a → is_among ns n ≡ b → gone n ≡ c →
            (if inside n && is_among ns n then rights n else (if gone n then 0 else rights_at ps n)) ≡ (if is_among ns n then rights n else 0)
        go true true c i a g = rw (i, a) refl
        go true false true i a g = rw (i, a, g) refl
        go true false false i a g = rw (i, a, g) (h.nothing_else n a g)
        go false b true i a g = absurd (let yes = within n g in cc)
        go false true false i a g = rw (i, a, g) (h.right n a i)
        go false false false i a g = rw (i, a, g) (h.nothing_else n a g)

-- ---- what is put, pairs of a subject and a number

puts : (ℕ → ℕ → ℕ) → List (ℕ × ℕ) → Listed → Listed
puts rights [] k = k
puts rights (q ∷ qs) k = puts rights qs (put_at q.0 q.1 (rights q.0 q.1) k)

module _ (rights : ℕ → ℕ → ℕ) where
  at-subject : (s n r : ℕ) (k : Listed) → (put_at s n r k).subject ≡ k.subject
  at-subject s n r k = cond_both (k.subject == s) (with_put n r k) k (λ (l : Listed). l.subject ≡ k.subject) (λ is. refl) (λ is. refl)

  puts-subject : (qs : List (ℕ × ℕ)) (k : Listed) → (puts rights qs k).subject ≡ k.subject
  unfolding puts
  puts-subject [] k = refl
  puts-subject (q ∷ qs) k = puts-subject qs (put_at q.0 q.1 (rights q.0 q.1) k) ∙ at-subject q.0 q.1 (rights q.0 q.1) k

  at-was : (s n r : ℕ) (k : Listed) → (put_at s n r k).was ≡ k.was
  at-was s n r k = cond_both (k.subject == s) (with_put n r k) k (λ (l : Listed). l.was ≡ k.was) (λ is. refl) (λ is. refl)

  puts-was : (qs : List (ℕ × ℕ)) (k : Listed) → (puts rights qs k).was ≡ k.was
  unfolding puts
  puts-was [] k = refl
  puts-was (q ∷ qs) k = puts-was qs (put_at q.0 q.1 (rights q.0 q.1) k) ∙ at-was q.0 q.1 (rights q.0 q.1) k

  at-order : (s n r : ℕ) (k : Listed) → IsInOrder 0 k.pairs → IsInOrder 0 (put_at s n r k).pairs
  at-order s n r k h = cond_both (k.subject == s) (with_put n r k) k (λ (l : Listed). IsInOrder 0 l.pairs)
      (λ is. put-order n r 0 k.pairs (omega arith) h) (λ is. h)

  puts-order : (qs : List (ℕ × ℕ)) (k : Listed) → IsInOrder 0 k.pairs → IsInOrder 0 (puts rights qs k).pairs
  unfolding puts
  puts-order [] k h = h
  puts-order (q ∷ qs) k h = puts-order qs (put_at q.0 q.1 (rights q.0 q.1) k) (at-order q.0 q.1 (rights q.0 q.1) k h)

  puts-rights : (s m : ℕ) (qs : List (ℕ × ℕ)) (k : Listed) → k.subject ≡ s → IsInOrder 0 k.pairs →
      rights_at (puts rights qs k).pairs m ≡ (if list_any (is_pair s m) qs then rights s m else rights_at k.pairs m)
  unfolding puts
  puts-rights s m [] k of h = refl
  puts-rights s m (q ∷ qs) k of h =
      puts-rights s m qs (put_at q.0 q.1 (rights q.0 q.1) k) (at-subject q.0 q.1 (rights q.0 q.1) k ∙ of) (at-order q.0 q.1 (rights q.0 q.1) k h)
      ∙ go (q.0 == s) (q.1 == m) (list_any (is_pair s m) qs) refl refl where
        here : q.0 ≡ s → (k.subject == q.0) ≡ true
        here same = eq-eqb k.subject q.0 (of ∙ sym same)

        elsewhere : (q.0 == s) ≡ false → (k.subject == q.0) ≡ false
        elsewhere other = ne_eqb k.subject q.0 (λ same. eqb-false q.0 s other (sym same ∙ of))

        go : (a b c : Bool) → (q.0 == s) ≡ a → (q.1 == m) ≡ b →
            (if c then rights s m else rights_at (put_at q.0 q.1 (rights q.0 q.1) k).pairs m)
            ≡ (if (q.0 == s && q.1 == m) || c then rights s m else rights_at k.pairs m)
        go true true true first second = rw (first, second) refl
        go true true false first second =
            rw (first, second, here (eqb-true q.0 s first), put-rights q.1 (rights q.0 q.1) 0 m k.pairs h, second, eqb-true q.0 s first, eqb-true q.1 m second) refl
        go true false c first second =
            rw (first, second, here (eqb-true q.0 s first), put-rights q.1 (rights q.0 q.1) 0 m k.pairs h, second) refl
        go false b c first second = rw (first, elsewhere first) refl

  -- one after another is all at once
  puts-map : (q : ℕ × ℕ) (qs : List (ℕ × ℕ)) (ks : List Listed) → map (puts rights qs) (map (put_at q.0 q.1 (rights q.0 q.1)) ks) ≡ map (puts rights (q ∷ qs)) ks
  unfolding puts
  puts-map q qs [] = refl
  puts-map q qs (k ∷ ks) = ap (λ l. puts rights qs (put_at q.0 q.1 (rights q.0 q.1) k) ∷ l) (puts-map q qs ks)

puts-none : (rights : ℕ → ℕ → ℕ) (ks : List Listed) → ks ≡ map (puts rights []) ks
unfolding puts
puts-none rights [] = refl
puts-none rights (k ∷ ks) = ap (λ l. k ∷ l) (puts-none rights ks)

-- ---- the two sides of all lists

abbrev turned : List (ℕ × ℕ) → List (ℕ × ℕ)
turned qs = map (λ (q : ℕ × ℕ). (q.1, q.0)) qs

module _ (rights : ℕ → ℕ → ℕ) where
  caps-put : (qs : List (ℕ × ℕ)) (L : Lists) → (put_each rights qs L).caps ≡ map (puts rights qs) L.caps
  caps-put [] L = puts-none rights L.caps
  caps-put (q ∷ qs) L = caps-put qs (with_rights q.0 q.1 (rights q.0 q.1) L) ∙ puts-map rights q qs L.caps

  entries-put : (qs : List (ℕ × ℕ)) (L : Lists) → (put_each rights qs L).entries ≡ map (puts (λ e u. rights u e) (turned qs)) L.entries
  entries-put [] L = puts-none (λ e u. rights u e) L.entries
  entries-put (q ∷ qs) L = entries-put qs (with_rights q.0 q.1 (rights q.0 q.1) L) ∙ puts-map (λ e u. rights u e) (q.1, q.0) (turned qs) L.entries

turned-has : (u e : ℕ) (qs : List (ℕ × ℕ)) → list_any (is_pair e u) (turned qs) ≡ list_any (is_pair u e) qs
turned-has u e [] = refl
turned-has u e (q ∷ qs) = rw (turned-has u e qs) (go (q.0 == u) (q.1 == e)) where
  go : (a b : Bool) → ((b && a) || list_any (is_pair u e) qs) ≡ ((a && b) || list_any (is_pair u e) qs)
  go true true = refl
  go true false = refl
  go false true = refl
  go false false = refl

-- ---- what is gone

clear : Region → Listed → Listed
clear (One x) k = with_put x 0 k
clear _ k = k

clear-subject : (region : Region) (k : Listed) → (clear region k).subject ≡ k.subject
unfolding clear
clear-subject Nothing k = refl
clear-subject (One x) k = refl
clear-subject (Under x) k = refl
clear-subject (Between x y) k = refl
clear-subject (Barred p) k = refl

clear-was : (region : Region) (k : Listed) → (clear region k).was ≡ k.was
unfolding clear
clear-was Nothing k = refl
clear-was (One x) k = refl
clear-was (Under x) k = refl
clear-was (Between x y) k = refl
clear-was (Barred p) k = refl

clear-order : (region : Region) (k : Listed) → IsInOrder 0 k.pairs → IsInOrder 0 (clear region k).pairs
unfolding clear
clear-order Nothing k h = h
clear-order (One x) k h = put-order x 0 0 k.pairs (omega arith) h
clear-order (Under x) k h = h
clear-order (Between x y) k h = h
clear-order (Barred p) k h = h

clear-rights : (region : Region) (n : ℕ) (k : Listed) → IsInOrder 0 k.pairs → rights_at (clear region k).pairs n ≡ (if is_one region n then 0 else rights_at k.pairs n)
unfolding clear
clear-rights Nothing n k h = refl
clear-rights (One x) n k h = put-rights x 0 0 n k.pairs h
clear-rights (Under x) n k h = refl
clear-rights (Between x y) n k h = refl
clear-rights (Barred p) n k h = refl

map-itself : (ks : List Listed) → ks ≡ map (λ k. k) ks
map-itself [] = refl
map-itself (k ∷ ks) = ap (λ l. k ∷ l) (map-itself ks)

cleared-caps : (region : Region) (L : Lists) → (cleared region L).caps ≡ map (clear region) L.caps
unfolding clear
cleared-caps Nothing L = map-itself L.caps
cleared-caps (One x) L = refl
cleared-caps (Under x) L = map-itself L.caps
cleared-caps (Between x y) L = map-itself L.caps
cleared-caps (Barred p) L = map-itself L.caps

cleared-entries : (region : Region) (L : Lists) → (cleared region L).entries ≡ map (clear region) L.entries
unfolding clear
cleared-entries Nothing L = map-itself L.entries
cleared-entries (One x) L = refl
cleared-entries (Under x) L = map-itself L.entries
cleared-entries (Between x y) L = map-itself L.entries
cleared-entries (Barred p) L = map-itself L.entries

clear-subjects : (region : Region) (ks : List Listed) → subjects (map (clear region) ks) ≡ subjects ks
clear-subjects region [] = refl
clear-subjects region (k ∷ ks) = rw (clear-subject region k, clear-subjects region ks) refl

pub cleared-caps_subjects : (region : Region) (L : Lists) → subjects (cleared region L).caps ≡ subjects L.caps
cleared-caps_subjects region L = ap subjects (cleared-caps region L) ∙ clear-subjects region L.caps

pub cleared-entries_subjects : (region : Region) (L : Lists) → subjects (cleared region L).entries ≡ subjects L.entries
cleared-entries_subjects region L = ap subjects (cleared-entries region L) ∙ clear-subjects region L.entries

pub cleared-asked : (region : Region) (L : Lists) → (cleared region L).asked ≡ L.asked
cleared-asked Nothing L = refl
cleared-asked (One x) L = refl
cleared-asked (Under x) L = refl
cleared-asked (Between x y) L = refl
cleared-asked (Barred p) L = refl

-- ---- one side

pub same-listed : (a b : Listed) → a.subject ≡ b.subject → a.was ≡ b.was → a.pairs ≡ b.pairs → a ≡ b
same-listed a b e w f = rw (e, w, f) refl

-- a list that is right outside, of a subject of which all pairs inside are put
side-done : (region : Region) (inside : ℕ → Bool) (rights : ℕ → ℕ → ℕ) (ns : List ℕ) (qs : List (ℕ × ℕ)) (k : Listed) → Rise 0 ns →
    IsInOrder 0 k.pairs → IsRightOutside inside (is_one region) (rights k.subject) ns k.pairs →
    ((n : ℕ) → is_one region n ≡ true → inside n ≡ true) → ((n : ℕ) → list_any (is_pair k.subject n) qs ≡ (inside n && is_among ns n)) →
    (puts rights qs (clear region k)).pairs ≡ listed (rights k.subject) ns
side-done region inside rights ns qs k rise order h within has =
    list-done inside (is_one region) (rights k.subject) ns k.pairs (puts rights qs (clear region k)).pairs h within rise
    (puts-order rights qs (clear region k) (clear-order region k order))
    (λ n. puts-rights rights k.subject n qs (clear region k) (clear-subject region k) (clear-order region k order)
    ∙ rw (has n, clear-rights region n k order) refl)

-- ---- all lists

module _ (below : ℕ → ℕ → Bool) (region : Region) (rights : ℕ → ℕ → ℕ) (elements users : List ℕ)
    (rise_elements : Rise 0 elements) (rise_users : Rise 0 users) (L : Lists) (kept : AreKept L)
    (h : AreRight below region rights elements users L) where
  abbrev asked : List (ℕ × ℕ)
  asked = judged (is_in below region) (in_scope L) users elements

  caps-judged : (v n : ℕ) → is_among (subjects L.caps) v ≡ true → is_among users v ≡ true → list_any (is_pair v n) asked ≡ (is_in below region v n && is_among elements n)
  caps-judged v n is live = judged-has (is_in below region) (in_scope L) users elements v n ∙ rw (is, live) (go (is_in below region v n) (is_among elements n)) where
    go : (a b : Bool) → ((a && true) && b) ≡ (a && b)
    go true b = refl
    go false b = refl

  entries-judged : (x n : ℕ) → is_among (subjects L.entries) x ≡ true → is_among elements x ≡ true →
      list_any (is_pair x n) (turned asked) ≡ (is_in below region n x && is_among users n)
  entries-judged x n is live =
      turned-has n x asked ∙ judged-has (is_in below region) (in_scope L) users elements n x
      ∙ rw (is, live) (go (is_in below region n x) (is_among (subjects L.caps) n) (is_among users n)) where
        go : (a c b : Bool) → ((a && (c || true)) && (b && true)) ≡ (a && b)
        go true true true = refl
        go true true false = refl
        go true false true = refl
        go true false false = refl
        go false c b = refl

  caps-done : (k : Listed) → Contains L.caps k → IsInOrder 0 k.pairs → AreCapsRight below region rights elements users k →
      puts rights asked (clear region k) ≡ caps_anew rights elements k
  caps-done k there order right =
      same-listed (puts rights asked (clear region k)) (caps_anew rights elements k) (puts-subject rights asked (clear region k) ∙ clear-subject region k)
      (puts-was rights asked (clear region k) ∙ clear-was region k)
      (side-done region (λ e. is_in below region k.subject e) rights elements asked k rise_elements order right.1 (λ n. one-caps below region k.subject n)
      (λ n. caps-judged k.subject n (any-map (λ m. m == k.subject) (λ (k : Listed). k.subject) L.caps k there (eq-eqb k.subject k.subject refl)) right.0))

  entries-done : (k : Listed) → Contains L.entries k → IsInOrder 0 k.pairs → AreEntriesRight below region rights elements users k →
      puts (λ e u. rights u e) (turned asked) (clear region k) ≡ entries_anew rights users k
  entries-done k there order right =
      same-listed (puts (λ e u. rights u e) (turned asked) (clear region k)) (entries_anew rights users k)
      (puts-subject (λ e u. rights u e) (turned asked) (clear region k) ∙ clear-subject region k)
      (puts-was (λ e u. rights u e) (turned asked) (clear region k) ∙ clear-was region k)
      (side-done region (λ u. is_in below region u k.subject) (λ e u. rights u e) users (turned asked) k rise_users order right.1 (λ n. one-entries below region n k.subject)
      (λ n. entries-judged k.subject n (any-map (λ m. m == k.subject) (λ (k : Listed). k.subject) L.entries k there (eq-eqb k.subject k.subject refl)) right.0))

  each-done : (P : Listed → Type 0) (f g : Listed → Listed) (all : List Listed) →
      ((k : Listed) → Contains all k → IsInOrder 0 k.pairs → P k → f (clear region k) ≡ g k) →
      (some : List Listed) → ((k : Listed) → Contains some k → Contains all k) → Each (λ (k : Listed). IsInOrder 0 k.pairs) some → Each P some →
      map f (map (clear region) some) ≡ map g some
  each-done P f g all done [] within orders rights = refl
  each-done P f g all done (k ∷ some) within orders rights = rw (
    done k (within k (contains-first k some)) orders.0 rights.0,
    each-done P f g all done some (λ l c. within l (contains-rest k l some c)) orders.1 rights.1,
  ) refl

  -- cleared of what is gone, and with the rights of the judged pairs put into them, all lists are right
  pub caps-repaired : (put_each rights asked (cleared region L)).caps ≡ map (caps_anew rights elements) L.caps
  caps-repaired = caps-put rights asked (cleared region L) ∙ ap (map (puts rights asked)) (cleared-caps region L)
      ∙ each-done (AreCapsRight below region rights elements users) (puts rights asked) (caps_anew rights elements) L.caps caps-done L.caps (λ k c. c) kept.caps.order h.caps

  pub entries-repaired : (put_each rights asked (cleared region L)).entries ≡ map (entries_anew rights users) L.entries
  entries-repaired = entries-put rights asked (cleared region L) ∙ ap (map (puts (λ e u. rights u e) (turned asked))) (cleared-entries region L)
      ∙ each-done (AreEntriesRight below region rights elements users) (puts (λ e u. rights u e) (turned asked)) (entries_anew rights users) L.entries entries-done
      L.entries (λ k c. c) kept.entries.order h.entries
