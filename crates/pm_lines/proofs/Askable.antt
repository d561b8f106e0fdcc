-- What a line asks for is a request that a line can ask for.
use Rattle.std.proofs.Common.{◌≡◌, ◌≤◌, ◌<◌, ◌^◌, ◌+◌, ℕ, List, [], ◌∷◌, ◌++◌, ◌&&◌, ◌==◌, Bool, true, false, not, drop, nat_lt, nat_le, length, filter, map, bytes_eq, codes, Option, None, Some, Result, Ok, Err, IfSome, option_and_then, option_map, if◌then◌else◌, refl, sym, ap, subst, ◌∙◌, arith, ltb-true, leb-true, inl, inr}
use Rattle.std.proofs.lemmas.Bool.{and_parts, cases_Bool}
use Rattle.std.proofs.lemmas.List.Filters.{length-filter_both}
use Rattle.std.proofs.lemmas.Slice.Eq.{bytes_eq-Decides}
use Rattle.std.specs.Prelude.{slice_index}
use Rattle.std.specs.Cmp.Lexicographic.{slice_cmp}
use Rattle.std.specs.Float.{binary64, float_is_finite}
use Rattle.std.specs.Ordering.{nat_cmp, match_ordering}
use Rattle.std.specs.Str.{is_utf8}
use Rattle.std.specs.declared.cmp.Ordering.{Ordering}
use Rattle.std.specs.declared.cmp.Ordering.TheVariants.{Less, Equal, Greater}
use Rattle.serde_json.specs.Data.{Num, unsigned, negative, float, Data, null, boolean, number, string, array, object, Items, no_items, item, Members, no_members, member, put}
use Rattle.serde_json.specs.Find.{as_array, as_str, get, get_member}
use Rattle.fast_float.specs.Text.{minus, Parts, scan, digits_of, nearest, with_sign}
use Rattle.json.specs.Json as json
use Rattle.json.specs.Lex.{tokens}
use Rattle.serde_json.specs.Read.{float_of, is_integer, number_from, number_of, max_depth, of_items, of_json, of_members, read}
use Rattle.pm_model.specs.Actions.{response_refusal}
use Rattle.pm_model.specs.Asked as rows
use Rattle.pm_model.specs.Asked.{asked, asked_of, what_of}
use Rattle.pm_model.specs.Formed.{Each}
use Rattle.pm_model.specs.Forms.{distinct, if_few_beside, if_name, if_short, if_some_few, kind_form, kind_of, list_form, list_of, listed_form, looking, mode_form, name_form, one_subject, rights_form, short_form, subject_form, whole_form}
use Rattle.pm_model.specs.Name.{is_name}
use Rattle.pm_model.specs.ResponseForms as does
use Rattle.pm_model.specs.ResponseForms.{act_as_set, action_form, as_set, do_form, given_form, given_of, guard_form, guard_of, guards_if, if_allowed, if_few_guards, if_few_terms, name_if, number_or, process_form, term_form, term_of, terms_form, when_form, within_of}
use Rattle.pm_model.specs.Results.{and_then}
use Rattle.pm_model.specs.Words.{key_text}
use Rattle.pm_model.specs.declared.words.Key.{Key}
use Rattle.pm_model.specs.declared.words.Key.TheVariants as key
use Rattle.pm_model.specs.declared.lines.BadLine.{BadLine}
use Rattle.pm_model.specs.declared.actions.Act.{Act}
use Rattle.pm_model.specs.declared.actions.Act.TheVariants as act
use Rattle.pm_model.specs.declared.actions.Action.{Action}
use Rattle.pm_model.specs.declared.actions.Guard.{Guard}
use Rattle.pm_model.specs.declared.actions.ProcessTerm.{ProcessTerm}
use Rattle.pm_model.specs.declared.actions.ProcessTerm.TheVariants.{Number, EventProcess}
use Rattle.pm_model.specs.declared.actions.Term.{Term}
use Rattle.pm_model.specs.declared.actions.Term.TheVariants.{Named, EventUser, EventTarget, Fresh}
use Rattle.pm_model.specs.declared.elements.Kind.{Kind}
use Rattle.pm_model.specs.declared.elements.Kind.TheVariants as kind
use Rattle.pm_model.specs.declared.obligations.ResponseError.{ResponseError}
use Rattle.pm_model.specs.declared.prohibitions.Subject.{Subject}
use Rattle.pm_model.specs.declared.prohibitions.Subject.TheVariants.{User, Ua, Process}
use Rattle.pm_model.specs.declared.requests.Asked.{Asked}
use Rattle.pm_model.specs.declared.requests.Body.{Body}
use Rattle.pm_model.specs.declared.requests.Body.TheVariants as body
use Rattle.pm_model.specs.declared.requests.Command.{Command}
use Rattle.pm_model.specs.declared.requests.Command.TheVariants as command
use Rattle.pm_model.specs.declared.requests.Question.{Question}
use Rattle.pm_model.specs.declared.requests.Question.TheVariants as question
use Rattle.pm_model.specs.declared.requests.Request.{Request}
use Rattle.pm_model.specs.declared.requests.What.TheVariants as what
use Rattle.pm_model.specs.declared.reviews.ReviewOf.{ReviewOf}
use Rattle.pm_model.specs.declared.reviews.ReviewOf.TheVariants as of
use Rattle.pm_print.specs.Askable.{AreActions, AreListed, AreNamed, AreRights, IsAct, IsAction, IsAskable, IsBody, IsCommand, IsContained, IsGiven, IsGuard, IsKept, IsNamed, IsProcessTerm, IsQuestion, IsShort, IsSubject, IsTerm, IsWhen, IsWholeIf, asking}
use Rattle.pm_print.specs.Requested.{request_text}
use Rattle.pm_print.proofs.Asking.{printed_is_asked}
use Rattle.pm_read.proofs.Distinct.{others}
use Rattle.pm_read.proofs.Limits.{sets_fit}
use Rattle.pm_lines.proofs.Finds.{Finds, found, nothing, next, mapped, Any, any, if_finds, of_form, Gives, here, after, required}

-- ---- lists without repeats

filter_again : {A : Type 0} (p : A → Bool) (xs : List A) → filter p (filter p xs) ≡ filter p xs
filter_again p [] = refl
filter_again p (x ∷ xs) = elim (cases_Bool (p x)) [
  | inl passes ↦ simp passes (ap (λ l. x ∷ l) (filter_again p xs))
  | inr fails ↦ simp fails (filter_again p xs)
]

filter_swap : {A : Type 0} (p q : A → Bool) (xs : List A) → filter p (filter q xs) ≡ filter q (filter p xs)
filter_swap p q [] = refl
filter_swap p q (x ∷ xs) = elim (cases_Bool (p x)) [
  | inl passes ↦ elim (cases_Bool (q x)) [
    | inl good ↦ simp (passes, good) (ap (λ l. x ∷ l) (filter_swap p q xs))
    | inr bad ↦ simp (passes, bad) (filter_swap p q xs)
  ]
  | inr fails ↦ elim (cases_Bool (q x)) [
    | inl good ↦ simp (fails, good) (filter_swap p q xs)
    | inr bad ↦ simp (fails, bad) (filter_swap p q xs)
  ]
]

distinct_others : (m : List ℕ) (ns : List (List ℕ)) → distinct (others m ns) ≡ others m (distinct ns)
distinct_others m [] = refl
distinct_others m (n ∷ ns) = elim (cases_Bool (bytes_eq m n)) [
  | inl same ↦
      let is : m ≡ n = (bytes_eq-Decides m n).0 same in
      let twice : others m (others n (distinct ns)) ≡ others m (distinct ns) = subst (λ k. others m (others k (distinct ns)) ≡ others m (distinct ns)) is (filter_again _ (distinct ns)) in
      rw same (distinct_others m ns ∙ sym twice)
  | inr differ ↦
      rw differ (ap (λ l. n ∷ l) (ap (others n) (distinct_others m ns) ∙ filter_swap _ _ (distinct ns)))
]

distinct_again : (ns : List (List ℕ)) → distinct (distinct ns) ≡ distinct ns
distinct_again [] = refl
distinct_again (n ∷ ns) =
    ap (λ l. n ∷ l) (ap (others n) (distinct_others n (distinct ns)) ∙ filter_again _ (distinct (distinct ns)) ∙ ap (others n) (distinct_again ns))

each_filter : {A : Type 0} (P : A → Type 0) (p : A → Bool) (xs : List A) → Each P xs → Each P (filter p xs)
each_filter P p [] h = tt
each_filter P p (x ∷ xs) h = elim (cases_Bool (p x)) [
  | inl passes ↦ rw passes (h.0, each_filter P p xs h.1)
  | inr fails ↦ rw fails (each_filter P p xs h.1)
]

each_distinct : (ns : List (List ℕ)) → AreNamed ns → AreNamed (distinct ns)
each_distinct [] h = tt
each_distinct (n ∷ ns) h = (h.0, each_filter IsNamed (λ m. not (bytes_eq n m)) (distinct ns) (each_distinct ns h.1))

some_distinct : (ns : List (List ℕ)) → 0 < length ns → 0 < length (distinct ns)
some_distinct [] h = h
some_distinct (n ∷ ns) h = omega arith

no_longer : (ns : List (List ℕ)) → length (distinct ns) ≤ length ns
no_longer [] = omega arith
no_longer (n ∷ ns) =
    let kept = length-filter_both (λ m. not (bytes_eq n m)) (λ m. not (not (bytes_eq n m))) (λ m. refl) (distinct ns) in
    let rest = no_longer ns in
    omega (arith, kept, rest)

distinct_rights : (ns : List (List ℕ)) → AreListed ns → AreRights (distinct ns)
distinct_rights ns h =
    let shorter = no_longer ns in
    let few = h.few in
    record {
      listed = record { named = each_distinct ns h.named; some = some_distinct ns h.some; few = omega (arith, shorter, few) };
      once = distinct_again ns;
    }

-- ---- forms of fields

name_given : (s : List ℕ) → Finds IsNamed (if_name s)
name_given s = if_finds IsNamed (is_name s) (Some s) None (λ h. found IsNamed s h) (nothing IsNamed)

pub name_read : (d : Data) → Finds IsNamed (name_form d)
name_read d = next Any IsNamed if_name (as_str d) (any (as_str d)) (λ s u. name_given s)

short_given : (n : ℕ) → Finds IsShort (if_short n)
short_given n = if_finds IsShort (nat_lt n (2 ^ 32)) (Some n) None (λ h. found IsShort n (ltb-true n (2 ^ 32) h)) (nothing IsShort)

short_read : (d : Data) → Finds IsShort (short_form d)
short_read d = next Any IsShort if_short (whole_form d) (any (whole_form d)) (λ n u. short_given n)

pub list_read : {A : Type 0} (P : A → Type 0) (form : Data → Option A) → ((d : Data) → Finds P (form d)) → (ds : Items) → Finds (Each P) (list_of form ds)
list_read P form reads no_items = found (Each P) [] tt
list_read P form reads (item d ds) =
    next P (Each P) (λ x. option_map (λ xs. x ∷ xs) (list_of form ds)) (form d) (reads d)
    (λ x h. mapped (Each P) (Each P) (λ xs. x ∷ xs) (list_of form ds) (list_read P form reads ds) (λ xs hs. (h, hs)))

pub array_read : {A : Type 0} (P : A → Type 0) (form : Data → Option A) → ((d : Data) → Finds P (form d)) → (d : Data) →
    Finds (Each P) (option_and_then (list_of form) (as_array d))
array_read P form reads d = next Any (Each P) (list_of form) (as_array d) (any (as_array d)) (λ ds u. list_read P form reads ds)

pub names_read : (d : Data) → Finds AreNamed (list_form d)
names_read d = array_read IsNamed name_form name_read d

some_few : (ns : List (List ℕ)) → AreNamed ns → Finds AreListed (if_some_few ns)
some_few ns named =
    if_finds AreListed (nat_lt 0 (length ns) && nat_le (length ns) 32) (Some ns) None
    (λ h. let p = and_parts (nat_lt 0 (length ns)) (nat_le (length ns) 32) h in
    found AreListed ns (record { named = named; some = ltb-true 0 (length ns) p.0; few = leb-true (length ns) 32 p.1 }))
    (nothing AreListed)

listed_read : (d : Data) → Finds AreListed (listed_form d)
listed_read d = next AreNamed AreListed if_some_few (list_form d) (names_read d) some_few

pub rights_read : (d : Data) → Finds AreRights (rights_form d)
rights_read d = mapped AreListed AreRights distinct (listed_form d) (listed_read d) distinct_rights

-- ---- subjects and patterns

module _ {N P : Type 0} (IsN : N → Type 0) (IsP : P → Type 0) (element : Data → Option N) (process : Data → Option P) (reads : (d : Data) → Finds IsN (element d)) (counts : (d : Data) → Finds IsP (process d)) where
  abbrev Is : Subject N P → Type 0
  Is s = IsSubject IsN IsP s

  subject_read : (u a p : Option Data) → Finds Is (one_subject element process u a p)
  subject_read (Some u) None None = mapped IsN Is User (element u) (reads u) (λ n h. h)
  subject_read None (Some a) None = mapped IsN Is Ua (element a) (reads a) (λ n h. h)
  subject_read None None (Some p) = mapped IsP Is Process (process p) (counts p) (λ n h. h)
  subject_read None None None = nothing Is
  subject_read (Some u) (Some a) None = nothing Is
  subject_read (Some u) None (Some p) = nothing Is
  subject_read None (Some a) (Some p) = nothing Is
  subject_read (Some u) (Some a) (Some p) = nothing Is

abbrev pub IsCommandSubject : Subject (List ℕ) ℕ → Type 0
IsCommandSubject s = IsSubject IsNamed IsShort s

pub command_subject : (d : Data) → Finds IsCommandSubject (subject_form d)
command_subject d = subject_read IsNamed IsShort name_form short_form name_read short_read (get (key_text key.User) d) (get (key_text key.Ua) d) (get (key_text key.Process) d)

abbrev IsNamedIf : Option (List ℕ) → Type 0
IsNamedIf name = IfSome name IsNamed

name_if_read : (o : Option Data) → Finds IsNamedIf (name_if o)
name_if_read None = found IsNamedIf None tt
name_if_read (Some d) = mapped IsNamed IsNamedIf Some (name_form d) (name_read d) (λ name h. h)

when_read : (d : Data) → Finds IsWhen (when_form d)
when_read d =
    next IsNamed IsWhen _ _ (of_form IsNamed name_form name_read (looking d (key_text key.On))) (λ on o.
    next IsNamedIf IsWhen _ _ (name_if_read (looking d (key_text key.User))) (λ user u.
    mapped IsNamedIf IsWhen _ _ (name_if_read (looking d (key_text key.Target))) (λ target t.
    record { on_named = o; user_named = u; target_named = t })))

-- ---- terms and guards

term_given : (w : List ℕ) → Finds IsTerm (term_of w)
term_given w =
    if_finds IsTerm (bytes_eq w (codes "$user")) (Some EventUser) _ (λ h. found IsTerm EventUser tt)
    (if_finds IsTerm (bytes_eq w (codes "$target")) (Some EventTarget) _ (λ h. found IsTerm EventTarget tt)
    (mapped IsNamed IsTerm Named (if_name w) (name_given w) (λ name h. h)))

term_read : (d : Data) → Finds IsTerm (term_form d)
term_read d = next Any IsTerm term_of (as_str d) (any (as_str d)) (λ w u. term_given w)

given_of_word : (w : List ℕ) → Finds IsGiven (given_of w)
given_of_word w =
    if_finds IsGiven (bytes_eq w (codes "$fresh")) (Some Fresh) _ (λ h. found IsGiven Fresh tt)
    (mapped IsNamed IsGiven Named (if_name w) (name_given w) (λ name h. h))

given_read : (d : Data) → Finds IsGiven (given_form d)
given_read d = next Any IsGiven given_of (as_str d) (any (as_str d)) (λ w u. given_of_word w)

number_or_other : (n : Option ℕ) (other : Option ProcessTerm) → Finds IsShort n → Finds IsProcessTerm other → Finds IsProcessTerm (number_or n other)
number_or_other (Some n) other short later = found IsProcessTerm (Number n) short.each
number_or_other None other short later = later

event_process : (w : List ℕ) → Finds IsProcessTerm (does.event_process_of w)
event_process w = if_finds IsProcessTerm (bytes_eq w (codes "$process")) (Some EventProcess) None (λ h. found IsProcessTerm EventProcess tt) (nothing IsProcessTerm)

process_read : (d : Data) → Finds IsProcessTerm (process_form d)
process_read d =
    number_or_other (short_form d) _ (short_read d)
    (next Any IsProcessTerm does.event_process_of (as_str d) (any (as_str d)) (λ w u. event_process w))

guard_items : (ds : Items) → Finds IsGuard (guard_of ds)
guard_items no_items = nothing IsGuard
guard_items (item w no_items) = nothing IsGuard
guard_items (item w (item i no_items)) = nothing IsGuard
guard_items (item w (item i (item o (item x rest)))) = nothing IsGuard
guard_items (item w (item i (item o no_items))) =
    next Any IsGuard _ (option_and_then within_of (as_str w)) (any (option_and_then within_of (as_str w))) (λ within u.
    next IsTerm IsGuard _ (term_form i) (term_read i) (λ inner h.
    mapped IsTerm IsGuard _ (term_form o) (term_read o) (λ outer g. (h, g))))

guard_read : (d : Data) → Finds IsGuard (guard_form d)
guard_read d = next Any IsGuard guard_of (as_array d) (any (as_array d)) (λ ds u. guard_items ds)

abbrev AreGuards : List Guard → Type 0
AreGuards gs = Each IsGuard gs × (length gs ≤ 4)

few_guards : (gs : List Guard) → Each IsGuard gs → Finds AreGuards (if_few_guards gs)
few_guards gs each =
    if_finds AreGuards (nat_le (length gs) 4) (Some gs) None (λ h. found AreGuards gs (each, leb-true (length gs) 4 h)) (nothing AreGuards)

guards_read : (o : Option Data) → Finds AreGuards (guards_if o)
guards_read None = found AreGuards [] (tt, omega arith)
guards_read (Some d) = next (Each IsGuard) AreGuards if_few_guards _ (array_read IsGuard guard_form guard_read d) few_guards

-- ---- acts

terms_read : (d : Data) → Finds (Each IsTerm) (terms_form d)
terms_read d = array_read IsTerm term_form term_read d

abbrev AreTermSets : List Term × List Term → Type 0
AreTermSets sets = Each IsTerm sets.0 × Each IsTerm sets.1 × (length sets.0 + length sets.1 ≤ 32)

abbrev subject_by_terms : Data → Option (Subject Term ProcessTerm)
subject_by_terms d = one_subject term_form process_form (get (key_text key.User) d) (get (key_text key.Ua) d) (get (key_text key.Process) d)

abbrev IsTermSubject : Subject Term ProcessTerm → Type 0
IsTermSubject s = IsSubject IsTerm IsProcessTerm s

term_subject : (d : Data) → Finds IsTermSubject (subject_by_terms d)
term_subject d = subject_read IsTerm IsProcessTerm term_form process_form term_read process_read (get (key_text key.User) d) (get (key_text key.Ua) d) (get (key_text key.Process) d)

-- with its rights as they are listed
abbrev WasAct : Act → Type 0
WasAct a = IsAct AreListed a

module _ (look : List ℕ → Option Data) where
  term_at : (k : Key) → Finds IsTerm (does.term_at look k)
  term_at k = of_form IsTerm term_form term_read (look (key_text k))

  created : (k : Kind) → IsContained k → Finds WasAct (does.create_act look k)
  created k is =
      next IsGiven WasAct _ _ (of_form IsGiven given_form given_read (look (key_text key.Name))) (λ name n.
      mapped IsTerm WasAct _ _ (term_at key.Into) (λ into i. (is, n, i)))

  deleted : Finds WasAct (does.delete_act look)
  deleted = mapped IsTerm WasAct act.Delete _ (term_at key.Name) (λ name h. h)

  abbrev AreTerms : Term × Term → Type 0
  AreTerms ends = IsTerm ends.0 × IsTerm ends.1

  both : (first second : Key) → Finds AreTerms (does.both_at look first second)
  both first second = next IsTerm AreTerms _ _ (term_at first) (λ a h. mapped IsTerm AreTerms _ _ (term_at second) (λ b g. (h, g)))

  assigned : Finds WasAct (does.assign_act look)
  assigned = mapped AreTerms WasAct _ _ (both key.From key.To) (λ ends h. h)

  deassigned : Finds WasAct (does.deassign_act look)
  deassigned = mapped AreTerms WasAct _ _ (both key.From key.To) (λ ends h. h)

  rights_listed : Finds AreListed (does.rights_listed look)
  rights_listed = of_form AreListed listed_form listed_read (look (key_text key.Rights))

  associated : Finds WasAct (does.associate_act look)
  associated = next AreTerms WasAct _ _ (both key.Ua key.At) (λ ends h. mapped AreListed WasAct _ _ rights_listed (λ rights r. (h.0, r, h.1)))

  dissociated : Finds WasAct (does.dissociate_act look)
  dissociated = mapped AreTerms WasAct _ _ (both key.Ua key.At) (λ ends h. h)

  few_terms : (inc exc : List Term) → Each IsTerm inc → Each IsTerm exc → Finds (λ (e : List Term). AreTermSets (inc, e)) (if_few_terms inc exc)
  few_terms inc exc i e =
      if_finds _ (nat_le (length inc + length exc) 32) (Some exc) None (λ h. found _ exc (i, e, leb-true (length inc + length exc) 32 h)) (nothing _)

  sets : Finds AreTermSets (does.term_sets look)
  sets =
      next (Each IsTerm) AreTermSets _ _ (of_form (Each IsTerm) terms_form terms_read (look (key_text key.Inc))) (λ inc i.
      mapped (λ (e : List Term). AreTermSets (inc, e)) AreTermSets _ _
      (next (Each IsTerm) (λ (e : List Term). AreTermSets (inc, e)) (if_few_terms inc) _ (of_form (Each IsTerm) terms_form terms_read (look (key_text key.Exc))) (λ exc e. few_terms inc exc i e))
      (λ exc h. h))

  barred : Finds WasAct (does.prohibit_act look)
  barred =
      next IsGiven WasAct _ _ (of_form IsGiven given_form given_read (look (key_text key.Name))) (λ name n.
      next IsTermSubject WasAct _ _ (of_form IsTermSubject subject_by_terms term_subject (look (key_text key.Subject))) (λ subject s.
      next AreListed WasAct _ _ rights_listed (λ rights r.
      next AreTermSets WasAct _ _ sets (λ both b.
      mapped Any WasAct _ _ (any (does.formed look key.Mode mode_form)) (λ mode u.
      record { given = n; subject_is = s; rights_are = r; included = b.0; excluded = b.1; few = b.2 })))))

  lifted : Finds WasAct (does.lift_act look)
  lifted = mapped IsNamed WasAct act.Lift _ (of_form IsNamed name_form name_read (look (key_text key.Name))) (λ name h. h)

  act_read : (w : List ℕ) → Finds WasAct (does.act_of look w)
  act_read w =
      if_finds WasAct _ _ _ (λ h. created kind.User tt) (if_finds WasAct _ _ _ (λ h. created kind.Ua tt) (if_finds WasAct _ _ _ (λ h. created kind.Oa tt)
      (if_finds WasAct _ _ _ (λ h. created kind.Object tt) (if_finds WasAct _ _ _ (λ h. deleted) (if_finds WasAct _ _ _ (λ h. assigned)
      (if_finds WasAct _ _ _ (λ h. deassigned) (if_finds WasAct _ _ _ (λ h. associated) (if_finds WasAct _ _ _ (λ h. dissociated)
      (if_finds WasAct _ _ _ (λ h. barred) (if_finds WasAct _ _ _ (λ h. lifted) (nothing WasAct)))))))))))

abbrev WasAction : Action → Type 0
WasAction a = IsAction AreListed a

action_read : (d : Data) → Finds WasAction (action_form d)
action_read d =
    next AreGuards WasAction _ _ (guards_read (looking d (key_text key.If))) (λ guards g.
    mapped WasAct WasAction _ _ (next Any WasAct (does.act_of (looking d)) _ (any (does.formed (looking d) key.Cmd as_str)) (λ w u. act_read (looking d) w))
    (λ a h. record { guarded = g.0; few = g.1; acts = h }))

-- ---- responses

as_set_act : (a : Act) → WasAct a → IsAct AreRights (act_as_set a)
as_set_act (act.Create k name into) h = h
as_set_act (act.Delete name) h = h
as_set_act (act.Assign from to) h = h
as_set_act (act.Deassign from to) h = h
as_set_act (act.Associate ua rights at) h = (h.0, distinct_rights rights h.1, h.2)
as_set_act (act.Dissociate ua at) h = h
as_set_act (act.Prohibit name subject rights inc exc mode) h =
    record { given = h.given; subject_is = h.subject_is; rights_are = distinct_rights rights h.rights_are; included = h.included; excluded = h.excluded; few = h.few }
as_set_act (act.Lift name) h = h

as_sets : (actions : List Action) → Each WasAction actions → Each (IsAction AreRights) (map as_set actions)
as_sets [] h = tt
as_sets (a ∷ rest) h = (record { guarded = h.0.guarded; few = h.0.few; acts = as_set_act a.act h.0.acts }, as_sets rest h.1)

allowed : (o : Option ResponseError) (actions : List Action) → o ≡ response_refusal actions → Each WasAction actions → Finds AreActions (if_allowed o actions)
allowed (Some e) actions is h = nothing AreActions
allowed None actions is h = found AreActions (map as_set actions) (record { each = as_sets actions h; fit = sets_fit actions (sym is) })

do_read : (d : Data) → Finds AreActions (do_form d)
do_read d = next (Each WasAction) AreActions _ _ (array_read WasAction action_form action_read d) (λ actions h. allowed (response_refusal actions) actions refl h)

-- ---- what a row gives

abbrev IsReview : (List ℕ → ReviewOf (List ℕ)) → Type 0
IsReview kind = (name : List ℕ) → IsNamed name → IsKept (kind name)

kind_read : (w : List ℕ) → Finds IsReview (kind_of w)
kind_read w =
    if_finds IsReview _ (Some of.Caps) _ (λ h. found IsReview of.Caps (λ name n. n))
    (if_finds IsReview _ (Some of.Entries) None (λ h. found IsReview of.Entries (λ name n. n)) (nothing IsReview))

kind_value : (d : Data) → Finds IsReview (kind_form d)
kind_value d = next Any IsReview kind_of (as_str d) (any (as_str d)) (λ w u. kind_read w)

module _ (look : List ℕ → Option Data) where
  name_at : (k : Key) → Gives IsNamed (rows.name_at look k)
  name_at k = required IsNamed k _ (of_form IsNamed name_form name_read (look (key_text k)))

  number_at : (k : Key) → Gives IsShort (rows.number_at look k)
  number_at k = required IsShort k _ (of_form IsShort short_form short_read (look (key_text k)))

  rights_at : Gives AreRights (rows.rights_at look)
  rights_at = required AreRights key.Rights _ (of_form AreRights rights_form rights_read (look (key_text key.Rights)))

  named : (f : List ℕ → Command) → ((name : List ℕ) → IsNamed name → IsCommand (f name)) → Gives IsCommand (and_then (rows.name_at look key.Name) (λ name. Ok (f name)))
  named f is = after IsNamed IsCommand _ _ (name_at key.Name) (λ name n. here IsCommand (f name) (is name n))

  create : (k : Kind) → IsContained k → Gives IsCommand (rows.create_of look k)
  create k is =
      after IsNamed IsCommand _ _ (name_at key.Name) (λ name n. after IsNamed IsCommand _ _ (name_at key.Into) (λ into i. here IsCommand (command.Create k name into) (is, n, i)))

  abbrev AreEnds : List ℕ × List ℕ → Type 0
  AreEnds ends = IsNamed ends.0 × IsNamed ends.1

  ends : Gives AreEnds (rows.ends_of look)
  ends = after IsNamed AreEnds _ _ (name_at key.From) (λ from f. after IsNamed AreEnds _ _ (name_at key.To) (λ to t. here AreEnds (from, to) (f, t)))

  assign : Gives IsCommand (rows.assign_of look)
  assign = after AreEnds IsCommand _ _ ends (λ e h. here IsCommand (command.Assign e.0 e.1) h)

  deassign : Gives IsCommand (rows.deassign_of look)
  deassign = after AreEnds IsCommand _ _ ends (λ e h. here IsCommand (command.Deassign e.0 e.1) h)

  associate : Gives IsCommand (rows.associate_of look)
  associate =
      after IsNamed IsCommand _ _ (name_at key.Ua) (λ ua u. after AreRights IsCommand _ _ rights_at (λ rights r. after IsNamed IsCommand _ _ (name_at key.At) (λ at a.
      here IsCommand (command.Associate ua rights at) (u, r, a))))

  dissociate : Gives IsCommand (rows.dissociate_of look)
  dissociate = after IsNamed IsCommand _ _ (name_at key.Ua) (λ ua u. after IsNamed IsCommand _ _ (name_at key.At) (λ at a. here IsCommand (command.Dissociate ua at) (u, a)))

  abbrev AreNameSets : List (List ℕ) × List (List ℕ) → Type 0
  AreNameSets sets = AreNamed sets.0 × AreNamed sets.1 × (length sets.0 + length sets.1 ≤ 32)

  few_beside : (inc exc : List (List ℕ)) → AreNamed inc → AreNamed exc → Finds (λ (e : List (List ℕ)). AreNameSets (inc, e)) (if_few_beside inc exc)
  few_beside inc exc i e =
      if_finds _ (nat_le (length inc + length exc) 32) (Some exc) None (λ h. found _ exc (i, e, leb-true (length inc + length exc) 32 h)) (nothing _)

  exc_at : (inc : List (List ℕ)) → AreNamed inc → Gives (λ (e : List (List ℕ)). AreNameSets (inc, e)) (rows.exc_at look inc)
  exc_at inc i =
      required _ key.Exc _ (next AreNamed _ (if_few_beside inc) _ (of_form AreNamed list_form names_read (look (key_text key.Exc))) (λ exc e. few_beside inc exc i e))

  sets_at : Gives AreNameSets (rows.sets_of look)
  sets_at =
      after AreNamed AreNameSets _ _ (required AreNamed key.Inc _ (of_form AreNamed list_form names_read (look (key_text key.Inc)))) (λ inc i.
      after (λ (e : List (List ℕ)). AreNameSets (inc, e)) AreNameSets _ _ (exc_at inc i) (λ exc h. here AreNameSets (inc, exc) h))

  prohibit : Gives IsCommand (rows.prohibit_of look)
  prohibit =
      after IsNamed IsCommand _ _ (name_at key.Name) (λ name n.
      after IsCommandSubject IsCommand _ _ (required IsCommandSubject key.Subject _ (of_form IsCommandSubject subject_form command_subject (look (key_text key.Subject)))) (λ subject s.
      after AreRights IsCommand _ _ rights_at (λ rights r. after AreNameSets IsCommand _ _ sets_at (λ both b.
      after Any IsCommand _ _ (required Any key.Mode _ (any (option_and_then mode_form (look (key_text key.Mode))))) (λ mode u.
      here IsCommand (command.Prohibit name subject rights both.0 both.1 mode)
      (record { named = n; subject_is = s; rights_are = r; included = b.0; excluded = b.1; few = b.2 }))))))

  oblige : Gives IsCommand (rows.oblige_of look)
  oblige =
      after IsNamed IsCommand _ _ (name_at key.Name) (λ name n.
      after IsWhen IsCommand _ _ (required IsWhen key.When _ (of_form IsWhen when_form when_read (look (key_text key.When)))) (λ when w.
      after AreActions IsCommand _ _ (required AreActions key.Do _ (of_form AreActions do_form do_read (look (key_text key.Do)))) (λ response r.
      here IsCommand (command.Oblige name when response) (n, w, r))))

  keep : Gives IsCommand (rows.keep_of look)
  keep =
      after IsReview IsCommand _ _ (required IsReview key.Kind _ (of_form IsReview kind_form kind_value (look (key_text key.Kind)))) (λ kind k.
      after IsNamed IsCommand _ _ (name_at key.Of) (λ name n. here IsCommand (command.Keep (kind name)) (k name n)))

  drop_review : Gives IsCommand (rows.drop_review_of look)
  drop_review = after IsShort IsCommand _ _ (number_at key.Review) (λ review r. here IsCommand (command.DropReview review) r)

  admin : (r : Result Command BadLine) → Gives IsCommand r → Gives IsBody (rows.admin_of look r)
  admin r is = after IsShort IsBody _ _ (number_at key.Proc) (λ process p. after IsCommand IsBody _ r is (λ c h. here IsBody (body.Admin process c) (p, h)))

  review : (r : Result Question BadLine) → Gives IsQuestion r → Gives IsBody (rows.review_of look r)
  review r is = after IsShort IsBody _ _ (number_at key.Proc) (λ process p. after IsQuestion IsBody _ r is (λ q h. here IsBody (body.Review process q) (p, h)))

  access : Gives IsBody (rows.access_of look)
  access =
      after IsShort IsBody _ _ (number_at key.Proc) (λ process p. after IsNamed IsBody _ _ (name_at key.Right) (λ right r. after IsNamed IsBody _ _ (name_at key.Target) (λ target t.
      here IsBody (body.Access process right target) (p, r, t))))

  of_session : (f : ℕ → Body) → ((n : ℕ) → IsShort n → IsBody (f n)) → (k : Key) → Gives IsBody (and_then (rows.number_at look k) (λ n. Ok (f n)))
  of_session f is k = after IsShort IsBody _ _ (number_at k) (λ n s. here IsBody (f n) (is n s))

  open_session : Gives IsBody (rows.open_session_of look)
  open_session = after IsNamed IsBody _ _ (name_at key.User) (λ user u. here IsBody (body.OpenSession user) u)

  ask_name : (k : Key) (f : List ℕ → Question) → ((name : List ℕ) → IsNamed name → IsQuestion (f name)) → Gives IsQuestion (and_then (rows.name_at look k) (λ name. Ok (f name)))
  ask_name k f is = after IsNamed IsQuestion _ _ (name_at k) (λ name n. here IsQuestion (f name) (is name n))

  ask_review : (f : ℕ → Question) → ((n : ℕ) → IsShort n → IsQuestion (f n)) → Gives IsQuestion (and_then (rows.number_at look key.Review) (λ n. Ok (f n)))
  ask_review f is = after IsShort IsQuestion _ _ (number_at key.Review) (λ n s. here IsQuestion (f n) (is n s))

  survey : Gives IsQuestion (rows.survey_of look)
  survey = after AreListed IsQuestion _ _ (required AreListed key.Users _ (of_form AreListed listed_form listed_read (look (key_text key.Users)))) (λ users u. here IsQuestion (question.Survey users) u)

  -- of the row of a word, where it is one
  record OfRow (row : Option (Result Body BadLine)) : Type 0 where
    has : IfSome row (λ r. Gives IsBody r)

  step : (w x : List ℕ) (row : Result Body BadLine) (rest : Option (Result Body BadLine)) → Gives IsBody row → OfRow rest → OfRow (if bytes_eq w x then Some row else rest)
  step w x row rest has later = elim (cases_Bool (bytes_eq w x)) [
    | inl is ↦ rw is (record { has = has })
    | inr other ↦ rw other later
  ]

  row_has : (w : List ℕ) → OfRow (rows.row_of look w)
  row_has w =
      step w _ _ _ (here IsBody body.Version tt) (step w _ _ _ open_session (step w _ _ _ (of_session body.CloseSession (λ n s. s) key.Session)
      (step w _ _ _ (of_session body.StartProcess (λ n s. s) key.Session) (step w _ _ _ (of_session body.EndProcess (λ n s. s) key.Process)
      (step w _ _ _ (admin _ (named command.CreatePc (λ name n. n))) (step w _ _ _ (admin _ (create kind.User tt)) (step w _ _ _ (admin _ (create kind.Ua tt))
      (step w _ _ _ (admin _ (create kind.Oa tt)) (step w _ _ _ (admin _ (create kind.Object tt)) (step w _ _ _ (admin _ (named command.Delete (λ name n. n)))
      (step w _ _ _ (admin _ assign) (step w _ _ _ (admin _ deassign) (step w _ _ _ (admin _ associate) (step w _ _ _ (admin _ dissociate)
      (step w _ _ _ (admin _ prohibit) (step w _ _ _ (admin _ (named command.Lift (λ name n. n))) (step w _ _ _ (admin _ (named command.DefineRight (λ name n. n)))
      (step w _ _ _ (admin _ oblige) (step w _ _ _ (admin _ (named command.Withdraw (λ name n. n)))
      (step w _ _ _ (admin _ keep) (step w _ _ _ (admin _ drop_review)
      (step w _ _ _ access (step w _ _ _ (review _ (ask_name key.User question.Caps (λ name n. n))) (step w _ _ _ (review _ (ask_name key.Element question.Entries (λ name n. n)))
      (step w _ _ _ (review _ survey) (step w _ _ _ (review _ (ask_review question.Kept (λ n s. s))) (step w _ _ None (review _ (ask_review question.Changes (λ n s. s)))
      (record { has = tt }))))))))))))))))))))))))))))

-- ---- numbers

abbrev NumWhole : Num → Type 0
NumWhole (unsigned n) = n < 2 ^ 64
NumWhole (negative z) = Unit {0}
NumWhole (float x) = Unit {0}

-- each whole number in it has 64 bits
abbrev mutual
  AreWhole : Data → Type 0
  AreWhole null = Unit {0}
  AreWhole (boolean b) = Unit {0}
  AreWhole (number n) = NumWhole n
  AreWhole (string s) = Unit {0}
  AreWhole (array ds) = ItemsWhole ds
  AreWhole (object ms) = MembersWhole ms

  ItemsWhole : Items → Type 0
  ItemsWhole no_items = Unit {0}
  ItemsWhole (item d ds) = AreWhole d × ItemsWhole ds

  MembersWhole : Members → Type 0
  MembersWhole no_members = Unit {0}
  MembersWhole (member k d ms) = AreWhole d × MembersWhole ms

by_order : {A : Type 0} (P : A → Type 0) (o : Ordering) (a b c : A) → P a → P b → P c → P (match_ordering o a b c)
by_order P Less a b c x y z = x
by_order P Equal a b c x y z = y
by_order P Greater a b c x y z = z

put_whole : (k : List ℕ) (d : Data) (ms : Members) → AreWhole d → MembersWhole ms → MembersWhole (put k d ms)
put_whole k d no_members h g = (h, tt)
put_whole k d (member l e ms) h g =
    by_order MembersWhole (slice_cmp nat_cmp k l) (member k d (member l e ms)) (member l d ms) (member l e (put k d ms))
    (h, g) (h, g.1) (g.0, put_whole k d ms h g.1)

float_whole : (sign : Bool) (p : Parts) → Finds NumWhole (float_of sign p)
float_whole sign p = if_finds NumWhole (float_is_finite (nearest binary64 sign p)) (Some (float (nearest binary64 sign p))) None (λ h. found NumWhole (float (nearest binary64 sign p)) tt) (nothing NumWhole)

from_whole : (sign : Bool) (p : Parts) → Finds NumWhole (number_from sign p)
from_whole false p =
    if_finds NumWhole (is_integer p && nat_lt (digits_of p) (2 ^ 64)) (Some (unsigned (digits_of p))) (float_of false p)
    (λ h. let parts = and_parts (is_integer p) (nat_lt (digits_of p) (2 ^ 64)) h in found NumWhole (unsigned (digits_of p)) (ltb-true (digits_of p) (2 ^ 64) parts.1))
    (float_whole false p)
from_whole true p =
    if_finds NumWhole (is_integer p && nat_lt 0 (digits_of p) && nat_le (digits_of p) (2 ^ 63)) (Some (negative (with_sign true (digits_of p)))) (float_of true p)
    (λ h. found NumWhole (negative (with_sign true (digits_of p))) tt)
    (float_whole true p)

number_whole : (s : List ℕ) → Finds NumWhole (number_of s)
unfolding number_of
number_whole s = if_finds NumWhole (slice_index s 0 == minus) _ _ (λ h. from_whole true (scan (drop 1 s))) (from_whole false (scan s))

mutual
  json_whole : (j : json.Json) → Finds AreWhole (of_json j)
  json_whole json.null = found AreWhole null tt
  json_whole (json.boolean b) = found AreWhole (boolean b) tt
  json_whole (json.number s) = mapped NumWhole AreWhole number (number_of s) (number_whole s) (λ n h. h)
  json_whole (json.string s) = found AreWhole (string s) tt
  json_whole (json.array js) = mapped ItemsWhole AreWhole array (of_items js) (items_whole js) (λ ds h. h)
  json_whole (json.object ms) = mapped MembersWhole AreWhole object (of_members ms no_members) (members_whole ms no_members tt) (λ ds h. h)

  items_whole : (js : json.Items) → Finds ItemsWhole (of_items js)
  items_whole json.no_items = found ItemsWhole no_items tt
  items_whole (json.item j js) = next AreWhole ItemsWhole _ (of_json j) (json_whole j) (λ d h. mapped ItemsWhole ItemsWhole (item d) (of_items js) (items_whole js) (λ ds hs. (h, hs)))

  members_whole : (ms : json.Members) (before : Members) → MembersWhole before → Finds MembersWhole (of_members ms before)
  members_whole json.no_members before h = found MembersWhole before h
  members_whole (json.member k j ms) before h =
      next AreWhole MembersWhole _ (of_json j) (json_whole j) (λ d g. members_whole ms (put k d before) (put_whole k d before g h))

from_json : (o : Option json.Json) → Finds AreWhole (option_and_then of_json o)
from_json o = next Any AreWhole of_json o (any o) (λ j u. json_whole j)

read_whole : (text : List ℕ) → Finds AreWhole (read text)
read_whole text = from_json (option_and_then (λ p. json.if_last p.0 p.1) (json.value max_depth (tokens text)))

member_whole : (k : List ℕ) (ms : Members) → MembersWhole ms → Finds AreWhole (get_member k ms)
member_whole k no_members h = nothing AreWhole
member_whole k (member l e ms) h =
    by_order (Finds AreWhole) (slice_cmp nat_cmp k l) (get_member k ms) (Some e) (get_member k ms) (member_whole k ms h.1) (found AreWhole e h.0) (member_whole k ms h.1)

look_whole : (k : List ℕ) (d : Data) → AreWhole d → Finds AreWhole (looking d k)
look_whole k null h = nothing AreWhole
look_whole k (boolean b) h = nothing AreWhole
look_whole k (number n) h = nothing AreWhole
look_whole k (string s) h = nothing AreWhole
look_whole k (array ds) h = nothing AreWhole
look_whole k (object ms) h = member_whole k ms h

abbrev IsWhole : ℕ → Type 0
IsWhole n = n < 2 ^ 64

whole_value : (d : Data) → AreWhole d → Finds IsWhole (whole_form d)
whole_value null h = nothing IsWhole
whole_value (boolean b) h = nothing IsWhole
whole_value (number (unsigned n)) h = found IsWhole n h
whole_value (number (negative z)) h = nothing IsWhole
whole_value (number (float x)) h = nothing IsWhole
whole_value (string s) h = nothing IsWhole
whole_value (array ds) h = nothing IsWhole
whole_value (object ms) h = nothing IsWhole

whole_optional : (k : Key) (o : Option Data) → Finds AreWhole o → Gives IsWholeIf (rows.optional k o whole_form)
whole_optional k None h = here IsWholeIf None tt
whole_optional k (Some d) h =
    after IsWhole IsWholeIf (λ n. Ok (Some n)) (rows.required k (whole_form d)) (required IsWhole k (whole_form d) (whole_value d h.each)) (λ n m. here IsWholeIf (Some n) m)

-- ---- the whole line

module _ (d : Data) (h : AreWhole d) where
  id_whole : Finds IsWhole (rows.id_of (looking d))
  id_whole = next AreWhole IsWhole whole_form (looking d (key_text key.Id)) (look_whole (key_text key.Id) d h) whole_value

  head_read : (row : Result Body BadLine) → Gives IsBody row → Gives IsAskable (rows.with_head (looking d) row)
  head_read row is =
      after IsWholeIf IsAskable _ _ (whole_optional key.Id (looking d (key_text key.Id)) (look_whole (key_text key.Id) d h)) (λ id i.
      after IsWholeIf IsAskable _ _ (whole_optional key.After (looking d (key_text key.After)) (look_whole (key_text key.After) d h)) (λ version v.
      after IsBody IsAskable _ row is (λ body b. here IsAskable (record { after = version; body = body }) (record { after_fits = v; asks = b }))))

  rowed_read : (row : Option (Result Body BadLine)) → OfRow (looking d) row → Gives IsAskable (rows.rowed (looking d) row)
  rowed_read None is = record { each = tt }
  rowed_read (Some row) is = head_read row is.has

  worded_read : (w : Option (List ℕ)) → Gives IsAskable (rows.worded (looking d) w)
  worded_read None = record { each = tt }
  worded_read (Some w) = rowed_read (rows.row_of (looking d) w) (row_has (looking d) w)

pub same_request : (q r : Request) → what.Request q ≡ what.Request r → q ≡ r
same_request q r is = cc

of_what : (x : Result Request BadLine) (r : Request) → what_of x ≡ what.Request r → Gives IsAskable x → IsAskable r
of_what (Ok q) r is gives = subst IsAskable (same_request q r is) gives.each
of_what (Err bad) r is gives = absurd cc

abbrev CanBeAsked : Option ℕ → Request → Type 0
CanBeAsked id request = IsWholeIf id × IsAskable request

of_value : (o : Option Data) (id : Option ℕ) (r : Request) → Finds AreWhole o → asked_of o ≡ asking id r → CanBeAsked id r
of_value None id r h is = let what = ap (λ (a : Asked). a.what) is in absurd cc
of_value (Some d) id r h is =
    let whole : IsWholeIf (rows.id_of (looking d)) = (id_whole d h.each).each in (
      subst IsWholeIf (ap (λ (a : Asked). a.id) is) whole,
      of_what (rows.request_of (looking d)) r (ap (λ (a : Asked). a.what) is) (worded_read d h.each _),
    )

of_text : (b : Bool) (o : Option Data) (id : Option ℕ) (r : Request) → Finds AreWhole o → asked_of (if b then o else None) ≡ asking id r → CanBeAsked id r
of_text true o id r h is = of_value o id r h is
of_text false o id r h is = of_value None id r (nothing AreWhole) is

pub asked_is_askable : (line : List ℕ) (id : Option ℕ) (r : Request) → asked line ≡ asking id r → IsWholeIf id × IsAskable r
asked_is_askable line id r is = of_text (is_utf8 line) (read line) id r (read_whole line) is

-- so it is asked for again by the line that it is printed as, with any id
pub asked_again : (line again : List ℕ) (id other : Option ℕ) (r : Request) → asked line ≡ asking id r → IsWholeIf other → request_text other r ≡ again ++ codes "\n" → asked again ≡ asking other r
asked_again line again id other r is fits e = printed_is_asked other r again fits (asked_is_askable line id r is).1 e
