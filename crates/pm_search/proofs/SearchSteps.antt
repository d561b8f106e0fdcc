-- The steps of a search with marks.
use Rattle.std.proofs.Common.{◌≡◌, ◌≢◌, ℕ, zero, suc, ◌+◌, ◌<◌, ◌≤◌, Bool, true, false, List, [], ◌∷◌, length, get_or, set, take, Contains, IsTrue, ◌⊎◌, inl, inr, refl, sym, ap, ◌∙◌, arith, get_or-set_other, get_or-set_same, length-set, below_more}
use Rattle.std.proofs.lemmas.Grind.{get_or_default_zero}
use Rattle.std.proofs.lemmas.List.{get_or-take, length-take-le}
use Rattle.std.proofs.lemmas.Bool.{true≢false, false≢true}
use Rattle.std.proofs.lemmas.Bool.Decides.{eqb_tells}
use Rattle.pm_model.specs.Containment.{contained, containers, Leads}
use Rattle.pm_model.proofs.ContainmentLaws.{path-from_contained, contains-containers, containers-contains, contained-trans, contained-pair}
use Rattle.pm_search.proofs.MarkSteps.{any-at, any-found}
use Rattle.pm_search.specs.Marks.{MarksQueued}
use Rattle.pm_search.specs.Search.{Searching, Later, Visited, Expanded, count_set}

same_tests : (a b : Bool) → (a ≡ true → b ≡ true) → (b ≡ true → a ≡ true) → a ≡ b
same_tests true b f g = sym (f refl)
same_tests false true f g = g refl
same_tests false false f g = refl

-- one more mark is one more of the count
pub count-mark : (marks : List Bool) (w : ℕ) → w < length marks → get_or marks w false ≡ false →
    count_set (set marks w true) ≡ count_set marks + 1
count-mark [] w below is = absurd (omega arith)
count-mark (true ∷ bs) zero below is = absurd (true≢false is)
count-mark (false ∷ bs) zero below is = omega arith
count-mark (b ∷ bs) (suc w) below is =
    let more : count_set (set bs w true) ≡ count_set bs + 1 = count-mark bs w (omega arith) is in omega arith

count-le : (marks : List Bool) → count_set marks ≤ length marks
count-le [] = omega arith
count-le (true ∷ bs) = omega (arith, count-le bs)
count-le (false ∷ bs) = omega (arith, count-le bs)

-- there is room for one more
pub room : (marks : List Bool) (w : ℕ) → w < length marks → get_or marks w false ≡ false →
    count_set marks < length marks
room marks w below is =
    omega (arith, count-mark marks w below is, count-le (set marks w true), length-set marks w true)

pub mark_kept : (marks : List Bool) (w z : ℕ) → w < length marks →
    get_or marks z false ≡ true → get_or (set marks w true) z false ≡ true
mark_kept marks w z below is = elim (eqb_tells z w) [
  | inl e ↦ rw e.1 (get_or-set_same marks w true false below)
  | inr n ↦ get_or-set_other marks w z true false n.1 ∙ is
]

pub mark_cases : (marks : List Bool) (w z : ℕ) → w < length marks →
    get_or (set marks w true) z false ≡ true → (z ≡ w) ⊎ (get_or marks z false ≡ true)
mark_cases marks w z below is = elim (eqb_tells z w) [
  | inl e ↦ inl e.1
  | inr n ↦ inr (sym (get_or-set_other marks w z true false n.1) ∙ is)
]

at_item : (xs : List ℕ) (i w : ℕ) → i < length xs → get_or xs i 0 ≡ w → get_or xs i w ≡ w
at_item xs i w below is = get_or_default_zero xs i w below ∙ is

item_at : (xs : List ℕ) (i w : ℕ) → i < length xs → get_or xs i w ≡ w → get_or xs i 0 ≡ w
item_at xs i w below is = sym (get_or_default_zero xs i w below) ∙ is

-- a step that marks a new element
pub Searching-visit : {assigned : List (ℕ × ℕ)} {live : ℕ → Bool} {x : ℕ} {marks : List Bool} {queue : List ℕ} {head end : ℕ} (w : ℕ) →
    Searching assigned live x marks queue head end → w < length marks → get_or marks w false ≡ false →
    IsTrue (live w) → contained assigned x w ≡ true →
    Searching assigned live x (set marks w true) (set queue end w) head (end + 1)
Searching-visit {assigned} {live} {x} {marks} {queue} {head} {end} w s below is lives reached =
    let fits : end < length queue = omega (arith, room marks w below is, s.counted, s.as_long) in
    record {
      counted = count-mark marks w below is ∙ ap (λ n. n + 1) s.counted;
      as_long = length-set queue end w ∙ s.as_long ∙ sym (length-set marks w true);
      in_order = omega (arith, s.in_order);
      known = below_more _ _
          (λ k h. let ne : k ≢ end = omega arith in rw get_or-set_other (s.known k h))
          (rw get_or-set_same (lives, reached));
      placed = λ z h. elim (mark_cases marks w z below h) [
        | inl e ↦ (end, omega arith, get_or-set_same queue end w 0 fits ∙ sym e)
        | inr m ↦ let p = s.placed z m in
            let ne : p.0 ≢ end = omega (arith, p.1) in
            (p.0, omega (arith, p.1), rw get_or-set_other p.2)
      ];
      closed = λ k z h c. let ne : k ≢ end = omega (arith, s.in_order) in
          mark_kept marks w z below (s.closed k z h (rw get_or-set_other at c));
    }

-- an element done is one more of those done
pub Searching-done : {assigned : List (ℕ × ℕ)} {live : ℕ → Bool} {x : ℕ} {marks : List Bool} {queue : List ℕ} {head end : ℕ} →
    Searching assigned live x marks queue head end → head < end →
    ((z : ℕ) → Contains (containers assigned (get_or queue head 0)) z → get_or marks z false ≡ true) →
    Searching assigned live x marks queue (head + 1) end
Searching-done {assigned} {live} {x} {marks} {queue} {head} {end} s below all = record {
  counted = s.counted;
  as_long = s.as_long;
  in_order = omega arith;
  known = s.known;
  placed = s.placed;
  closed = λ k z h c.
      let P : ℕ → Type 0 = λ j. (w : ℕ) → Contains (containers assigned (get_or queue j 0)) w → get_or marks w false ≡ true in
      below_more P head (λ j l w d. s.closed j w l d) all k h z c;
}

-- where each element marked is done, all that x is contained in is marked
marked_path : {assigned : List (ℕ × ℕ)} {live : ℕ → Bool} {x : ℕ} {marks : List Bool} {queue : List ℕ} {end : ℕ} →
    Searching assigned live x marks queue end end → (z : ℕ) (path : List ℕ) (y : ℕ) →
    get_or marks z false ≡ true → Leads assigned z path y → get_or marks y false ≡ true
marked_path s z [] y h l = rw (← l) h
marked_path {assigned} {queue = queue} s z (w ∷ rest) y h l =
    let p = s.placed z h in
    marked_path s w rest y (s.closed p.0 w p.1 (rw p.2 (contains-containers assigned z w l.0))) l.1

-- the end of a search: the marks are the answer
pub Searching-answer : {assigned : List (ℕ × ℕ)} {live : ℕ → Bool} {x : ℕ} {marks : List Bool} {queue : List ℕ} {end : ℕ} →
    Searching assigned live x marks queue end end → get_or marks x false ≡ true → (y : ℕ) → get_or marks y false ≡ contained assigned x y
Searching-answer {assigned} {live} {x} {marks} {queue} {end} s start y = same_tests _ _
    (λ h. let p = s.placed y h in rw p.2 at ((s.known p.0 p.1).1))
    (λ h. let p = path-from_contained assigned x y h in marked_path s x p.0 y start p.1)

pub Visited-new : (marks : List Bool) (queue : List ℕ) (end w : ℕ) → w < length marks → get_or marks w false ≡ false → count_set marks ≡ end →
    length queue ≡ length marks → Visited marks queue end w (set marks w true) (set queue end w) (end + 1)
Visited-new marks queue end w below is counted as_long = record {
  later = record {
    marks_long = length-set marks w true;
    queue_long = length-set queue end w;
    longer = omega arith;
    counted = count-mark marks w below is ∙ ap (λ n. n + 1) counted;
    marks_kept = λ z h. mark_kept marks w z below h;
    queue_kept = λ k h. let ne : k ≢ end = omega arith in rw get_or-set_other refl;
  };
  marked = get_or-set_same marks w true false below;
  step = λ assigned live x head s lives reached. Searching-visit w s below is lives reached;
}

pub Later-trans : {m : List Bool} {q : List ℕ} {e : ℕ} {m' : List Bool} {q' : List ℕ} {e' : ℕ} {m'' : List Bool} {q'' : List ℕ} {e'' : ℕ} →
    Later m q e m' q' e' → Later m' q' e' m'' q'' e'' → Later m q e m'' q'' e''
Later-trans a b = record {
  marks_long = b.marks_long ∙ a.marks_long;
  queue_long = b.queue_long ∙ a.queue_long;
  longer = omega (arith, a.longer, b.longer);
  counted = b.counted;
  marks_kept = λ z h. b.marks_kept z (a.marks_kept z h);
  queue_kept = λ k h. b.queue_kept k (omega (arith, a.longer)) ∙ a.queue_kept k h;
}

-- one more visit
pub Expanded-more : {assigned : List (ℕ × ℕ)} {live : ℕ → Bool} {z i : ℕ} {m : List Bool} {q : List ℕ} {e : ℕ} {m' : List Bool} {q' : List ℕ} {e' : ℕ} {m'' : List Bool} {q'' : List ℕ} {e'' : ℕ} (w : ℕ) →
    Expanded assigned live z i m q e m' q' e' → Visited m' q' e' w m'' q'' e'' → i < length (containers assigned z) →
    get_or (containers assigned z) i 0 ≡ w → IsTrue (live w) → Expanded assigned live z (i + 1) m q e m'' q'' e''
Expanded-more {assigned} {live} {z} {i} {m'' = m''} w a v below is lives = record {
  later = Later-trans a.later v.later;
  marked =
      let P : ℕ → Type 0 = λ j. get_or m'' (get_or (containers assigned z) j 0) false ≡ true in
      below_more P i (λ j h. v.later.marks_kept _ (a.marked j h)) (rw is v.marked);
  step = λ x head s reached. v.step assigned live x head (a.step x head s reached) lives
      (contained-trans assigned x z w reached (contained-pair assigned z w (containers-contains assigned z w (i, below, at_item (containers assigned z) i w below is))));
}

-- a done element, after all that it is assigned to was visited
pub Searching-expanded : {assigned : List (ℕ × ℕ)} {live : ℕ → Bool} {x : ℕ} {z head : ℕ} {m : List Bool} {q : List ℕ} {e : ℕ} {m' : List Bool} {q' : List ℕ} {e' : ℕ} →
    Searching assigned live x m q head e → head < e → get_or q head 0 ≡ z →
    Expanded assigned live z (length (containers assigned z)) m q e m' q' e' → Searching assigned live x m' q' (head + 1) e'
Searching-expanded {assigned} {live} {x} {z} {head} {m' = m'} {q' = q'} s below is a =
    let same : get_or q' head 0 ≡ z = a.later.queue_kept head below ∙ is in
    Searching-done (a.step x head s (rw is at ((s.known head below).1))) (omega (arith, a.later.longer))
    (λ w c. let d : Contains (containers assigned z) w = rw same at c in
    let at_w : get_or (containers assigned z) d.0 0 ≡ w = item_at (containers assigned z) d.0 w d.1 d.2 in
    rw at_w at (a.marked d.0 d.1))

pub count-unmarked : (marks : List Bool) → ((k : ℕ) → get_or marks k false ≡ false) → count_set marks ≡ 0
count-unmarked [] h = refl
count-unmarked (true ∷ bs) h = absurd (true≢false (h 0))
count-unmarked (false ∷ bs) h = omega (arith, count-unmarked bs (λ k. h (suc k)))

-- before anything is marked
pub Searching-none : (assigned : List (ℕ × ℕ)) (live : ℕ → Bool) (x : ℕ) (marks : List Bool) (queue : List ℕ) →
    ((k : ℕ) → get_or marks k false ≡ false) → length queue ≡ length marks → Searching assigned live x marks queue 0 0
Searching-none assigned live x marks queue h long = record {
  counted = count-unmarked marks h;
  as_long = long;
  in_order = omega arith;
  known = λ k l. absurd (omega arith);
  placed = λ z m. absurd (false≢true (sym (h z) ∙ m));
  closed = λ k z l c. absurd (omega arith);
}

-- the queue has no more elements than there are marks
pub queue_room : {assigned : List (ℕ × ℕ)} {live : ℕ → Bool} {x : ℕ} {marks : List Bool} {queue : List ℕ} {head end : ℕ} →
    Searching assigned live x marks queue head end → end ≤ length queue
queue_room {marks = marks} s = omega (arith, s.counted, s.as_long, count-le marks)

-- where the queue is at its end, the marks are the answer
pub Searching-over : {assigned : List (ℕ × ℕ)} {live : ℕ → Bool} {x : ℕ} {marks : List Bool} {queue : List ℕ} {head end : ℕ} →
    Searching assigned live x marks queue head end → end ≤ head → get_or marks x false ≡ true → (y : ℕ) → get_or marks y false ≡ contained assigned x y
Searching-over {assigned} {live} {x} {marks} {queue} {head} {end} s over start y =
    let e : head ≡ end = omega (arith, s.in_order) in
    Searching-answer (rw e at s) start y

-- then the marks are those of the queue's first
pub Searching-queued : {assigned : List (ℕ × ℕ)} {live : ℕ → Bool} {x : ℕ} {marks : List Bool} {queue : List ℕ} {head end : ℕ} →
    Searching assigned live x marks queue head end → end ≤ head → get_or marks x false ≡ true → MarksQueued marks queue end
Searching-queued {assigned} {live} {x} {marks} {queue} {head} {end} s over start z =
    let long : length (take end queue) ≡ end = length-take-le end queue (queue_room s) in
    same_tests _ _
    (λ h. let p = s.placed z h in any-at (take end queue) p.0 z (omega (arith, p.1)) (get_or-take end queue p.0 0 p.1 ∙ p.2))
    (λ h. let p = any-found (take end queue) z h in
    let below : p.0 < end = omega (arith, p.1) in
    let at : get_or queue p.0 0 ≡ z = sym (get_or-take end queue p.0 0 below) ∙ p.2 in
    Searching-over s over start z ∙ rw at at (s.known p.0 below).1)
