-- A house on its way to the end of a history: one entry more.
use Rattle.std.proofs.Common.{inl, inr, ◌≡◌, ◌≢◌, ◌<◌, ◌≤◌, ◌+◌, ℕ, zero, suc, Bool, true, false, List, [], ◌∷◌, ◌++◌, length, get_or, take, MatchBool, MatchOption, Some, drop, refl, sym, ◌∙◌, ap, subst, arith, length-append}
use Rattle.std.specs.Prelude.{Option, IfSome, IsSome, slice_get, slice_index, replicate}
use Rattle.std.proofs.lemmas.Bool.{cases_eq}
use Rattle.std.proofs.lemmas.List.{get_or-replicate, length-replicate, append-nil, append_assoc, take_more}
use Rattle.pm_model.specs.State.{State, Graph}
use Rattle.pm_model.specs.Answer.{answer}
use Rattle.pm_model.specs.History.{Machine, IsReplayed, opening_machine, replay, state_of}
use Rattle.pm_model.specs.declared.requests.Entry.{Entry}
use Rattle.pm_model.specs.declared.requests.Request.{Request}
use Rattle.pm_world.specs.Restored.{IsNext, AreNext, IsMade}
use Rattle.pm_world.specs.Seats.{count_by_seat}
use Rattle.pm_house.specs.Lanes.{Laned, lane, entry_by}
use Rattle.pm_house.specs.Restored.{AreLanes, IsFooting, machine_of}
use Rattle.pm_house.specs.Desks.{IsDesk}
use Rattle.pm_house.proofs.Counting.{count-own, count-other, counts_fit}

-- ---- lanes before any entry

get-front : {A : Type 0} (xs ys : List A) (n : ℕ) → n < length xs → slice_get (xs ++ ys) n ≡ slice_get xs n
get-front [] ys n lt = absurd (omega (arith, lt))
get-front (x ∷ xs) ys zero lt = refl
get-front (x ∷ xs) ys (suc n) lt = get-front xs ys n (omega (arith, lt))

get-behind : {A : Type 0} (xs : List A) (x : A) → slice_get (xs ++ x ∷ []) (length xs) ≡ Some x
get-behind [] x = refl
get-behind (y ∷ xs) x = get-behind xs x

-- one more of those that each place determines
pub each_more : {A : Type 0} (f : ℕ → A) (xs ys : List A) (x : A) (i : ℕ) → ys ≡ xs ++ x ∷ [] → length xs ≡ i → x ≡ f i →
    ((n : ℕ) → n < i → slice_get xs n ≡ Some (f n)) → (n : ℕ) → n < i + 1 → slice_get ys n ≡ Some (f n)
each_more f xs ys x i is size new each n less = elim (cases_eq n i) [
  | inl same ↦
      ap (slice_get ys) (same ∙ sym size) ∙ ap (λ (l : List _). slice_get l (length xs)) is ∙ get-behind xs x ∙ ap Some new
      ∙ ap (λ (k : ℕ). Some (f k)) (sym same)
  | inr not ↦
      let before : n < i = omega (arith, less, not) in
      ap (λ (l : List _). slice_get l n) is ∙ get-front xs (x ∷ []) n (omega (arith, before, size)) ∙ each n before
]

pub lanes_more : (xs ys : List Laned) (l : Laned) (i : ℕ) → ys ≡ xs ++ l ∷ [] → length xs ≡ i → l ≡ lane i 0 → AreLanes i [] xs → AreLanes (i + 1) [] ys
lanes_more xs ys l i is size new lanes = each_more (λ s. lane s 0) xs ys l i is size new lanes

pub footing_none : (total seats : ℕ) (lanes : List Laned) (counts : List ℕ) → total ≡ 0 → length lanes ≡ seats → AreLanes seats [] lanes → counts ≡ replicate seats 0 → IsFooting [] total lanes counts seats
footing_none total seats lanes counts none size laned zeros = record {
  made = tt;
  sums = none;
  lane_each = size;
  laned = laned;
  sized = ap length zeros ∙ length-replicate seats 0;
  counted = λ s within. ap (λ (l : List ℕ). slice_index l s) zeros ∙ get_or-replicate seats s 0 0 within;
}

-- ---- one entry more

pub made_more : (seats : ℕ) (before es : List Entry) (e : Entry) → AreNext seats before es → IsNext seats (before ++ es) e → AreNext seats before (es ++ e ∷ [])
made_more seats before [] e all next = (subst (λ (l : List Entry). IsNext seats l e) (append-nil before) next, tt)
made_more seats before (x ∷ es) e all next =
    (all.0, made_more seats (before ++ x ∷ []) es e all.1 (subst (λ (l : List Entry). IsNext seats l e) (sym (append_assoc before (x ∷ []) es)) next))

pub footing_more : (h g : List Entry) (e : Entry) (total total2 : ℕ) (lanes lanes2 : List Laned) (counts counts2 : List ℕ) (seats : ℕ)
    → IsFooting h total lanes counts seats → g ≡ h ++ e ∷ [] → IsNext seats h e → total2 ≡ total + 1
    → length lanes2 ≡ length lanes → IfSome (slice_get lanes e.seat) (λ l. slice_get lanes2 e.seat ≡ Some (lane l.seat (l.share + 1))) → ((s : ℕ) → s ≢ e.seat → slice_get lanes2 s ≡ slice_get lanes s)
    → length counts2 ≡ length counts → slice_index counts2 e.seat ≡ slice_index counts e.seat + 1 → ((s : ℕ) → s ≢ e.seat → slice_index counts2 s ≡ slice_index counts s)
    → IsFooting g total2 lanes2 counts2 seats
footing_more h g e total total2 lanes lanes2 counts counts2 seats r is next sum lane_size lane_own lane_others count_size count_own count_others =
    let within = next.seat in
    let own_before = r.laned e.seat within in
    let own_now : slice_get lanes2 e.seat ≡ Some (lane e.seat (count_by_seat e.seat h + 1)) =
    subst (λ (o : Option Laned). IfSome o (λ l. slice_get lanes2 e.seat ≡ Some (lane l.seat (l.share + 1)))) own_before lane_own in
    let more : count_by_seat e.seat g ≡ count_by_seat e.seat h + 1 = ap (count_by_seat e.seat) is ∙ count-own e.seat h e refl in
    let same : (s : ℕ) → s ≢ e.seat → count_by_seat s g ≡ count_by_seat s h = λ s not. ap (count_by_seat s) is ∙ count-other s h e not in
    record {
      made = subst (IsMade seats) (sym is) (made_more seats [] h e r.made next);
      sums = sum ∙ ap (λ n. n + 1) r.sums ∙ sym (ap length is ∙ length-append h (e ∷ []));
      lane_each = lane_size ∙ r.lane_each;
      laned = λ s less. elim (cases_eq s e.seat) [
        | inl own ↦
            ap (slice_get lanes2) own ∙ own_now ∙ ap (λ (n : ℕ). Some (lane e.seat n)) (sym more)
            ∙ ap (λ (t : ℕ). Some (lane t (count_by_seat t g))) (sym own)
        | inr not ↦ lane_others s not ∙ r.laned s less ∙ ap (λ (n : ℕ). Some (lane s n)) (sym (same s not))
      ];
      sized = count_size ∙ r.sized;
      counted = λ s less. elim (cases_eq s e.seat) [
        | inl own ↦
            ap (slice_index counts2) own ∙ count_own ∙ ap (λ n. n + 1) (r.counted e.seat within) ∙ sym more ∙ ap (λ (t : ℕ). count_by_seat t g) (sym own)
        | inr not ↦ count_others s not ∙ r.counted s less ∙ sym (same s not)
      ];
    }

-- a count before the entry is within what the history with it is
pub count_room : (counts : List ℕ) (h g : List Entry) (e : Entry) (most : ℕ) → slice_index counts e.seat ≡ count_by_seat e.seat h → g ≡ h ++ e ∷ [] → length g ≤ most →
    slice_index counts e.seat ≤ most
count_room counts h g e most counted is short =
    let size = ap length is ∙ length-append h (e ∷ []) in
    let fits = counts_fit e.seat h most (omega (arith, size, short)) in
    omega (arith, counted, fits)

-- the desk's next entry, which the machine accepts
pub next_at_desk : (seats : ℕ) (M : Machine) (l : Laned) (r : Request) → IsReplayed M → l.seat < seats → l.share ≡ count_by_seat l.seat M.history
    → IsSome (answer (state_of M) r).next → IsNext seats M.history (entry_by l r)
next_at_desk seats M l r replayed within share accepted = record {
  seat = within;
  number = ap (λ (n : ℕ). n + 1) share;
  accepted = subst (λ (S : State). IsSome (answer S r).next) (sym replayed.content) accepted;
}

-- ---- the entries so far

where_true : (P Q : Type 0) (b : Bool) → b ≡ true → MatchBool b P Q → P
where_true P Q true is p = p
where_true P Q false is q = absurd (cc (is))

pub taken_more : (seats : ℕ) (old new entries : List Entry) (at : ℕ) (e : Entry) → old ≡ take at entries → IsMade seats (take at entries) → at < length entries → e ≡ get_or entries at e
    → (b : Bool) (Q : Type 0) → b ≡ true → MatchBool b (IsNext seats old e × (new ≡ old ++ e ∷ [])) Q → (new ≡ take (at + 1) entries) × IsMade seats (take (at + 1) entries)
taken_more seats old new entries at e is made less here b Q is_true told =
    let next = where_true (IsNext seats old e × (new ≡ old ++ e ∷ [])) Q b is_true told in
    let more : take (at + 1) entries ≡ take at entries ++ e ∷ [] = take_more entries at e less ∙ ap (λ (x : Entry). take at entries ++ x ∷ []) (sym here) in (
      next.1 ∙ ap (λ (l : List Entry). l ++ e ∷ []) is ∙ sym more,
      subst (IsMade seats) (sym more) (made_more seats [] (take at entries) e made (subst (λ (l : List Entry). IsNext seats l e) is next.0)),
    )

-- ---- what begins with a history

-- what stands first in the rest stands there in the whole
pub at_front : {A : Type 0} (xs rest : List A) (x : A) (n : ℕ) → drop n xs ≡ x ∷ rest → slice_get xs n ≡ Some x
at_front [] rest x zero is = absurd (cc (is))
at_front [] rest x (suc n) is = absurd (cc (is))
at_front (y ∷ xs) rest x zero is = cc is
at_front (y ∷ xs) rest x (suc n) is = at_front xs rest x n is

pub rest_of : {A : Type 0} (xs rest : List A) (x : A) (n : ℕ) → drop n xs ≡ x ∷ rest → rest ≡ drop (n + 1) xs
rest_of [] rest x zero is = absurd (cc (is))
rest_of [] rest x (suc n) is = absurd (cc (is))
rest_of (y ∷ xs) rest x zero is = cc is
rest_of (y ∷ xs) rest x (suc n) is = let m : suc n + 1 ≡ suc (n + 1) = omega arith in rest_of xs rest x n is ∙ ap (λ (k : ℕ). drop k (y ∷ xs)) (sym m)

-- a machine is that of its history
pub is_machine_of : (M : Machine) (h : List Entry) → IsReplayed M → M.history ≡ h → M ≡ machine_of h
is_machine_of M h replayed is =
    let graph : (replay M.history).graph ≡ M.graph = ap (λ (S : State). S.graph) replayed.content in
    ap (λ (G : Graph). let N : Machine = record { graph = G; history = M.history } in N) (sym graph) ∙ ap machine_of is

pub desk_begins : (M : Machine) (latest : Option Machine) (kept : Option (List Entry)) (total : ℕ) (lanes : List Laned) (counts : List ℕ) (seats : ℕ)
    → IsFooting M.history total lanes counts seats → MatchOption latest (M ≡ opening_machine) (λ N. N ≡ M) → IfSome kept (λ es. es ≡ M.history)
    → IsDesk M latest kept total counts seats
desk_begins M latest kept total lanes counts seats f hand keeps =
    record {
      at_hand = hand;
      keeps = keeps;
      made = f.made;
      sums = f.sums;
      sized = f.sized;
      counted = f.counted;
    }
