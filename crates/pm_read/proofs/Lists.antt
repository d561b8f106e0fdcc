-- A request has the lists of its line.
use Rattle.std.proofs.Common.{◌≡◌, ◌≢◌, ◌↔◌, ◌<◌, ◌≤◌, ◌+◌, ℕ, List, [], ◌∷◌, ◌&&◌, Bool, true, false, not, length, nat_lt, nat_le, bytes_eq, get_or, Option, None, Some, Result, Ok, Err, IfSome, IfOk, option_and_then, option_map, if◌then◌else◌, Contains, refl, sym, ap, subst, ◌∙◌, arith, leb-true, ltb-true, inl, inr}
use Rattle.std.proofs.lemmas.Bool.{and_parts, not-true, cases_Bool}
use Rattle.std.proofs.lemmas.List.Elements.{All-get_or, All-weaker, filter_passes}
use Rattle.std.proofs.lemmas.List.Kept.{AllPairs-cons, AllPairs-filter}
use Rattle.std.proofs.lemmas.Map.Views.{list_any-from_Contains, Contains-from_any}
use Rattle.std.proofs.lemmas.Option.{option_and_then_some, same_Some}
use Rattle.std.proofs.lemmas.Slice.Eq.{bytes_eq-Decides}
use Rattle.std.proofs.lemmas.Cmp.{nat_list_eq_equiv}
use Rattle.std.specs.List.{All, AllPairs, list_any}
use Rattle.std.specs.Result.{result_ok}
use Rattle.std.specs.Str.{is_utf8}
use Rattle.serde_json.specs.Data.{Data}
use Rattle.serde_json.specs.Read.{read}
use Rattle.pm_model.specs.Asked as form
use Rattle.pm_model.specs.Forms.{distinct, if_few_beside, if_some_few, list_form, listed_form, looking, rights_form, whole_form}
use Rattle.pm_model.specs.Asked.{asked, asked_of, what_of}
use Rattle.pm_model.specs.Results.{and_then}
use Rattle.pm_model.specs.Words.{key_text}
use Rattle.pm_model.specs.declared.words.Key.{Key}
use Rattle.pm_model.specs.declared.words.Key.TheVariants as key
use Rattle.pm_model.specs.declared.lines.BadLine.{BadLine}
use Rattle.pm_model.specs.declared.elements.Kind.{Kind}
use Rattle.pm_model.specs.declared.elements.Kind.TheVariants.{User, Ua, Object, Oa}
use Rattle.pm_model.specs.declared.requests.Command.{Command}
use Rattle.pm_model.specs.declared.requests.Question.{Question}
use Rattle.pm_model.specs.declared.requests.Command.TheVariants.{CreatePc, Create, Delete, Assign, Deassign, Associate, Dissociate, Prohibit, Lift, DefineRight, Oblige, Withdraw, Keep, DropReview}
use Rattle.pm_model.specs.declared.requests.Body.{Body}
use Rattle.pm_model.specs.declared.requests.Body.TheVariants.{Version, OpenSession, CloseSession, StartProcess, EndProcess, Access, Admin, Review}
use Rattle.pm_model.specs.declared.requests.Request.{Request}
use Rattle.pm_model.specs.declared.requests.What.TheVariants as what
use Rattle.pm_read.specs.Lists.{AsksFor, listed, first_place, IsSetOf, HasRights, HasSets, HasLists}
use Rattle.pm_read.proofs.Distinct.{others, same_names, any_other}

-- ---- a list without its repeats is the set of the list's names

-- the name in front has its first place before another's
front_first : (m n : List ℕ) (ns : List (List ℕ)) → bytes_eq m n ≡ false → first_place (m ∷ ns) m < first_place (m ∷ ns) n
front_first m n ns differ =
    let here = (bytes_eq-Decides m m).1 refl in
    let there = same_names m n ∙ differ in
    rw (here, there) (omega arith)

-- another's comes one later than behind it
one_later : (m n : List ℕ) (ns : List (List ℕ)) → bytes_eq m n ≡ false → first_place (m ∷ ns) n ≡ 1 + first_place ns n
one_later m n ns differ = let there = same_names m n ∙ differ in rw there refl

abbrev ComesFirst : List (List ℕ) → List ℕ → List ℕ → Type 0
ComesFirst ns m n = first_place ns m < first_place ns n

differs : (m n : List ℕ) → not (bytes_eq m n) ≡ true → bytes_eq m n ≡ false
differs m n h = not-true (bytes_eq m n) h

-- two others stand behind the front as they stand
behind : (m : List ℕ) (ns kept : List (List ℕ)) → All (λ n. not (bytes_eq m n) ≡ true) kept → AllPairs (ComesFirst ns) kept → AllPairs (ComesFirst (m ∷ ns)) kept
behind m ns kept other pairs i j d below within =
    let before = pairs i j d below within in
    let a = one_later m (get_or kept i d) ns (differs m (get_or kept i d) (All-get_or (λ n. not (bytes_eq m n) ≡ true) kept i d (omega (arith, below, within)) other)) in
    let b = one_later m (get_or kept j d) ns (differs m (get_or kept j d) (All-get_or (λ n. not (bytes_eq m n) ≡ true) kept j d within other)) in
    rw (a, b) (omega (arith, before))

firsts : (ns : List (List ℕ)) → AllPairs (ComesFirst ns) (distinct ns)
firsts [] = λ i j d below within. absurd (omega (arith, within))
firsts (m ∷ ns) =
    let other = filter_passes (λ n. not (bytes_eq m n)) (distinct ns) in
    AllPairs-cons (ComesFirst (m ∷ ns)) m (others m (distinct ns))
    (All-weaker _ _ (λ n h. front_first m n ns (differs m n h)) _ other)
    (behind m ns (others m (distinct ns)) other (AllPairs-filter (ComesFirst ns) (λ n. not (bytes_eq m n)) (distinct ns) (firsts ns)))

once : (ns : List (List ℕ)) → AllPairs (λ m n. m ≢ n) (distinct ns)
once ns i j d below within same =
    let before = firsts ns i j d below within in
    let e = ap (first_place ns) same in
    absurd (omega (arith, before, e))

members : (ns : List (List ℕ)) (n : List ℕ) → list_any (bytes_eq n) (distinct ns) ≡ list_any (bytes_eq n) ns
members [] n = refl
members (m ∷ ns) n = elim (cases_Bool (bytes_eq n m)) [
  | inl same ↦ rw same refl
  | inr differ ↦ rw differ (any_other m n (distinct ns) (sym (same_names m n) ∙ differ) ∙ members ns n)
]

same : (ns : List (List ℕ)) (n : List ℕ) → Contains (distinct ns) n ↔ Contains ns n
same ns n = (
  (λ c. Contains-from_any (λ a b. (bytes_eq-Decides a b).0) n ns (sym (members ns n) ∙ list_any-from_Contains nat_list_eq_equiv n (distinct ns) c)),
  (λ c. Contains-from_any (λ a b. (bytes_eq-Decides a b).0) n (distinct ns) (members ns n ∙ list_any-from_Contains nat_list_eq_equiv n ns c)),
)

is_set : (ns : List (List ℕ)) → 0 < length ns → length ns ≤ 32 → IsSetOf (distinct ns) ns
is_set ns some few = record { some = some; few = few; once = once ns; same = same ns; first = firsts ns }

-- ---- what a form has read

mapped_some : {A B P : Type 0} (f : A → B) (o : Option A) (y : B) → option_map f o ≡ Some y → ((x : A) → o ≡ Some x → f x ≡ y → P) → P
mapped_some f None y read k = absurd cc
mapped_some f (Some x) y read k = k x refl (same_Some _ _ read)

some_few : (ns listed : List (List ℕ)) (b : Bool) → b ≡ (nat_lt 0 (length ns) && nat_le (length ns) 32) → (if b then Some ns else None) ≡ Some listed →
    (ns ≡ listed) × IsSetOf (distinct ns) ns
some_few ns listed true is read =
    let p = and_parts (nat_lt 0 (length ns)) (nat_le (length ns) 32) (sym is) in
    (same_Some _ _ read, is_set ns (ltb-true 0 (length ns) p.0) (leb-true (length ns) 32 p.1))
some_few ns listed false is read = absurd cc

few_beside : (inc ns exc : List (List ℕ)) (b : Bool) → b ≡ nat_le (length inc + length ns) 32 → (if b then Some ns else None) ≡ Some exc → (ns ≡ exc) × (length inc + length ns ≤ 32)
few_beside inc ns exc true is read = (same_Some _ _ read, leb-true (length inc + length ns) 32 (sym is))
few_beside inc ns exc false is read = absurd cc

required_some : {A : Type 0} (k : Key) (o : Option A) (a : A) → form.required k o ≡ Ok a → o ≡ Some a
required_some k None a read = absurd cc
required_some k (Some x) a read = ap (result_ok) read

-- ---- what a row has read

-- what it gives, if it does, has the property
record Gives {A : Type 0} (P : A → Type 0) (r : Result A BadLine) : Type 0 where
  each : IfOk r P

here : {A : Type 0} (P : A → Type 0) (a : A) → P a → Gives P (Ok a)
here P a has = record { each = has }

after : {A B : Type 0} (P : B → Type 0) (r : Result A BadLine) (f : A → Result B BadLine) → ((a : A) → r ≡ Ok a → Gives P (f a)) → Gives P (and_then r f)
after P (Ok a) f later = later a refl
after P (Err e) f later = record { each = tt }

of_given : {A : Type 0} (P : A → Type 0) (r : Result A BadLine) (a : A) → Gives P r → r ≡ Ok a → P a
of_given P r a gives is = let g : IfOk r P = gives.each in rw is at g

module _ (look : List ℕ → Option Data) where
  abbrev at_key : Key → Option (List (List ℕ))
  at_key k = option_and_then list_form (look (key_text k))

  has_rights : (set : List (List ℕ)) → form.rights_at look ≡ Ok set → HasRights at_key set
  has_rights set read =
      option_and_then_some rights_form (look (key_text key.Rights)) set (required_some key.Rights _ set read) (λ d found formed.
      mapped_some distinct (listed_form d) set formed (λ kept few same.
      option_and_then_some if_some_few (list_form d) kept few (λ ns listed some.
      let p = some_few ns kept _ refl some in
      record { names = ns; there = ap (option_and_then list_form) found ∙ listed; is_set = subst (λ (s : List (List ℕ)). IsSetOf s ns) (ap distinct p.0 ∙ same) p.1 })))

  has_sets : (inc exc : List (List ℕ)) → form.inc_at look ≡ Ok inc → form.exc_at look inc ≡ Ok exc → HasSets at_key inc exc
  has_sets inc exc read_inc read_exc =
      option_and_then_some (if_few_beside inc) (at_key key.Exc) exc (required_some key.Exc _ exc read_exc) (λ ns listed few.
      let p = few_beside inc ns exc _ refl few in
      record { included = required_some key.Inc _ inc read_inc; excluded = listed ∙ ap Some p.0; few = subst (λ (ns : List (List ℕ)). length inc + length ns ≤ 32) p.0 p.1 })

  abbrev SetsHave : List (List ℕ) × List (List ℕ) → Type 0
  SetsHave sets = HasSets at_key sets.0 sets.1

  sets_have : Gives SetsHave (form.sets_of look)
  sets_have = after SetsHave (form.inc_at look) _ (λ inc read_inc. after SetsHave (form.exc_at look inc) _ (λ exc read_exc. here SetsHave (inc, exc) (has_sets inc exc read_inc read_exc)))

  abbrev Has : Command → Type 0
  Has c = HasLists at_key c

  abbrev BodyHas : Body → Type 0
  BodyHas (Admin process c) = Has c
  BodyHas _ = Unit {0}

  abbrev RowHas : Result Body BadLine → Type 0
  RowHas row = Gives BodyHas row

  admin : (r : Result Command BadLine) → Gives Has r → RowHas (form.admin_of look r)
  admin r has = after BodyHas (form.process_of look) _ (λ process is. after BodyHas r _ (λ c read. here BodyHas (Admin process c) (of_given Has r c has read)))

  create : (kind : Kind) → Gives Has (form.create_of look kind)
  create kind = after Has (form.name_at look key.Name) _ (λ name i. after Has (form.name_at look key.Into) _ (λ into j. here Has (Create kind name into) tt))

  named : (f : List ℕ → Command) → ((name : List ℕ) → Has (f name)) → Gives Has (and_then (form.name_at look key.Name) (λ name. Ok (f name)))
  named f has = after Has (form.name_at look key.Name) _ (λ name i. here Has (f name) (has name))

  assign : Gives Has (form.assign_of look)
  assign = after Has (form.ends_of look) _ (λ ends i. here Has (Assign ends.0 ends.1) tt)

  deassign : Gives Has (form.deassign_of look)
  deassign = after Has (form.ends_of look) _ (λ ends i. here Has (Deassign ends.0 ends.1) tt)

  associate : Gives Has (form.associate_of look)
  associate =
      after Has (form.name_at look key.Ua) _ (λ ua i. after Has (form.rights_at look) _ (λ rights read. after Has (form.name_at look key.At) _ (λ at j. here Has (Associate ua rights at) (has_rights rights read))))

  dissociate : Gives Has (form.dissociate_of look)
  dissociate = after Has (form.name_at look key.Ua) _ (λ ua i. after Has (form.name_at look key.At) _ (λ at j. here Has (Dissociate ua at) tt))

  prohibit : Gives Has (form.prohibit_of look)
  prohibit =
      after Has (form.name_at look key.Name) _ (λ name i. after Has (form.subject_at look) _ (λ subject j. after Has (form.rights_at look) _ (λ rights read.
      after Has (form.sets_of look) _ (λ sets found. after Has (form.mode_at look) _ (λ mode k.
      here Has (Prohibit name subject rights sets.0 sets.1 mode) (has_rights rights read, of_given SetsHave (form.sets_of look) sets sets_have found))))))

  oblige : Gives Has (form.oblige_of look)
  oblige =
      after Has (form.name_at look key.Name) _ (λ name i. after Has (form.when_at look) _ (λ when j. after Has (form.do_at look) _ (λ response k. here Has (Oblige name when response) tt)))

  keep : Gives Has (form.keep_of look)
  keep = after Has (form.kind_at look) _ (λ kind i. after Has (form.name_at look key.Of) _ (λ name j. here Has (Keep (kind name)) tt))

  drop_review : Gives Has (form.drop_review_of look)
  drop_review = after Has (form.number_at look key.Review) _ (λ review i. here Has (DropReview review) tt)

  open_session : RowHas (form.open_session_of look)
  open_session = after BodyHas (form.name_at look key.User) _ (λ user i. here BodyHas (OpenSession user) tt)

  close_session : RowHas (form.close_session_of look)
  close_session = after BodyHas (form.number_at look key.Session) _ (λ session i. here BodyHas (CloseSession session) tt)

  start_process : RowHas (form.start_process_of look)
  start_process = after BodyHas (form.number_at look key.Session) _ (λ session i. here BodyHas (StartProcess session) tt)

  end_process : RowHas (form.end_process_of look)
  end_process = after BodyHas (form.number_at look key.Process) _ (λ process i. here BodyHas (EndProcess process) tt)

  access : RowHas (form.access_of look)
  access =
      after BodyHas (form.process_of look) _ (λ process i. after BodyHas (form.name_at look key.Right) _ (λ right j. after BodyHas (form.name_at look key.Target) _ (λ target k. here BodyHas (Access process right target) tt)))

  review : (r : Result Question BadLine) → RowHas (form.review_of look r)
  review r = after BodyHas (form.process_of look) _ (λ process i. after BodyHas r _ (λ question j. here BodyHas (Review process question) tt))

  -- of the row of a word, where it is one
  record OfRow (row : Option (Result Body BadLine)) : Type 0 where
    has : IfSome row RowHas

  step : (w x : List ℕ) (row : Result Body BadLine) (rest : Option (Result Body BadLine)) → RowHas row → OfRow rest → OfRow (if bytes_eq w x then Some row else rest)
  step w x row rest has later = elim (cases_Bool (bytes_eq w x)) [
    | inl is ↦ rw is (record { has = has })
    | inr other ↦ rw other later
  ]

  row_has : (w : List ℕ) → OfRow (form.row_of look w)
  row_has w =
      step w _ _ _ (here BodyHas Version tt) (step w _ _ _ open_session (step w _ _ _ close_session (step w _ _ _ start_process (step w _ _ _ end_process
      (step w _ _ _ (admin _ (named CreatePc (λ name. tt))) (step w _ _ _ (admin _ (create User)) (step w _ _ _ (admin _ (create Ua))
      (step w _ _ _ (admin _ (create Oa)) (step w _ _ _ (admin _ (create Object)) (step w _ _ _ (admin _ (named Delete (λ name. tt)))
      (step w _ _ _ (admin _ assign) (step w _ _ _ (admin _ deassign) (step w _ _ _ (admin _ associate) (step w _ _ _ (admin _ dissociate)
      (step w _ _ _ (admin _ prohibit) (step w _ _ _ (admin _ (named Lift (λ name. tt))) (step w _ _ _ (admin _ (named DefineRight (λ name. tt)))
      (step w _ _ _ (admin _ oblige) (step w _ _ _ (admin _ (named Withdraw (λ name. tt)))
      (step w _ _ _ (admin _ keep) (step w _ _ _ (admin _ drop_review)
      (step w _ _ _ access (step w _ _ _ (review _) (step w _ _ _ (review _) (step w _ _ _ (review _) (step w _ _ _ (review _)
      (step w _ _ None (review _) (record { has = tt }))))))))))))))))))))))))))))

  -- ---- the whole line

  abbrev RequestHas : Request → Type 0
  RequestHas r = BodyHas r.body

  head_has : (row : Result Body BadLine) → RowHas row → Gives RequestHas (form.with_head look row)
  head_has row has =
      after RequestHas (form.optional key.Id (look (key_text key.Id)) whole_form) _ (λ id i.
      after RequestHas (form.optional key.After (look (key_text key.After)) whole_form) _ (λ version j. after RequestHas row _ (λ body read.
      here RequestHas (record { after = version; body = body }) (of_given BodyHas row body has read))))

  rowed_has : (row : Option (Result Body BadLine)) → OfRow row → Gives RequestHas (form.rowed look row)
  rowed_has None of = record { each = tt }
  rowed_has (Some row) of = head_has row of.has

  worded_has : (w : Option (List ℕ)) → Gives RequestHas (form.worded look w)
  worded_has None = record { each = tt }
  worded_has (Some w) = rowed_has (form.row_of look w) (row_has w)

same_request : (q r : Request) → what.Request q ≡ what.Request r → q ≡ r
same_request q r is = cc

what_has : (P : Request → Type 0) (x : Result Request BadLine) (r : Request) → what_of x ≡ what.Request r → Gives P x → P r
what_has P (Ok q) r is has = subst P (same_request q r is) has.each
what_has P (Err bad) r is has = absurd cc

-- the names that a value lists at the key
abbrev lists_in : Option Data → Key → Option (List (List ℕ))
lists_in o k = option_and_then (λ d. option_and_then list_form (looking d (key_text k))) o

abbrev asking : Option ℕ → ℕ → Command → Request
asking version process c = record { after = version; body = Admin process c }

of_value : (o : Option Data) (version : Option ℕ) (process : ℕ) (c : Command) → (asked_of o).what ≡ what.Request (asking version process c) → HasLists (lists_in o) c
of_value None version process c is = absurd cc
of_value (Some d) version process c is = what_has (RequestHas (looking d)) _ (asking version process c) is (worded_has (looking d) _)

of_text : (b : Bool) (o : Option Data) (version : Option ℕ) (process : ℕ) (c : Command) → (asked_of (if b then o else None)).what ≡ what.Request (asking version process c) → HasLists (lists_in o) c
of_text true o version process c is = of_value o version process c is
of_text false o version process c is = absurd cc

pub lists_are_kept : (line : List ℕ) (version : Option ℕ) (process : ℕ) (c : Command) → AsksFor line version process c → HasLists (listed line) c
lists_are_kept line version process c is = of_text (is_utf8 line) (read line) version process c is
