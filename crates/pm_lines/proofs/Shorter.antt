-- The line that a request is printed as is no longer than a line that asks for it.
use Rattle.std.proofs.Common.{◌≡◌, ◌≤◌, ◌<◌, ◌+◌, ℕ, List, [], ◌∷◌, ◌++◌, inl, inr, Bool, true, false, length, map, bytes_eq, codes, Option, None, Some, Result, Ok, Err, IfSome, option_and_then, if◌then◌else◌, refl, sym, ap, subst, ◌∙◌, arith}
use Rattle.std.proofs.lemmas.Bool.{cases_Bool}
use Rattle.std.specs.Prelude.{◌⊎◌}
use Rattle.std.specs.Str.{is_utf8}
use Rattle.serde_json.specs.Data.{Data, object}
use Rattle.serde_json.specs.Find.{as_str}
use Rattle.serde_json.specs.Read.{read}
use Rattle.serde_json.specs.Written.{compact_text}
use Rattle.pm_model.specs.Actions.{response_refusal}
use Rattle.pm_model.specs.Asked as rows
use Rattle.pm_model.specs.Asked.{asked, asked_of, what_of}
use Rattle.pm_model.specs.Events.{word_to_create}
use Rattle.pm_model.specs.Forms.{if_few_beside, kind_form, kind_of, list_form, listed_form, looking, mode_form, name_form, rights_form, short_form, subject_form, whole_form}
use Rattle.pm_model.specs.Object.{present, whole_if}
use Rattle.pm_model.specs.ResponseForms as does
use Rattle.pm_model.specs.ResponseForms.{act_as_set, action_form, as_set, do_form, given_form, given_of, guard_form, guard_of, guards_if, if_allowed, if_few_guards, if_few_terms, name_if, number_or, process_form, term_form, term_of, terms_form, when_form, within_of}
use Rattle.pm_model.specs.Results.{and_then}
use Rattle.pm_model.specs.Text.{said}
use Rattle.pm_model.specs.Words.{key_text, word_text}
use Rattle.pm_model.specs.declared.words.Key.{Key}
use Rattle.pm_model.specs.declared.words.Key.TheVariants as key
use Rattle.pm_model.specs.declared.words.Word.{Word}
use Rattle.pm_model.specs.declared.words.Word.TheVariants as word
use Rattle.pm_model.specs.declared.lines.BadLine.{BadLine}
use Rattle.pm_model.specs.declared.actions.Act.{Act}
use Rattle.pm_model.specs.declared.actions.Act.TheVariants as act
use Rattle.pm_model.specs.declared.actions.Action.{Action}
use Rattle.pm_model.specs.declared.actions.Guard.{Guard}
use Rattle.pm_model.specs.declared.actions.ProcessTerm.{ProcessTerm}
use Rattle.pm_model.specs.declared.actions.Term.{Term}
use Rattle.pm_model.specs.declared.elements.Kind.{Kind}
use Rattle.pm_model.specs.declared.elements.Kind.TheVariants as kind
use Rattle.pm_model.specs.declared.events.When.{When}
use Rattle.pm_model.specs.declared.obligations.ResponseError.{ResponseError}
use Rattle.pm_model.specs.declared.prohibitions.Mode.{Mode}
use Rattle.pm_model.specs.declared.prohibitions.Subject.{Subject}
use Rattle.pm_model.specs.declared.requests.Asked.{Asked}
use Rattle.pm_model.specs.declared.requests.Body.{Body}
use Rattle.pm_model.specs.declared.requests.Body.TheVariants as body
use Rattle.pm_model.specs.declared.requests.Command.{Command}
use Rattle.pm_model.specs.declared.requests.Command.TheVariants as command
use Rattle.pm_model.specs.declared.requests.Question.{Question}
use Rattle.pm_model.specs.declared.requests.Question.TheVariants as question
use Rattle.pm_model.specs.declared.requests.Request.{Request}
use Rattle.pm_model.specs.declared.requests.What.TheVariants as what
use Rattle.pm_model.specs.declared.reviews.ReviewOf.{ReviewOf}
use Rattle.pm_model.specs.declared.reviews.ReviewOf.TheVariants as of
use Rattle.pm_print.specs.Actions.{action_fields, action_told, name_told, subject_told, term_subject_told, term_told, when_told}
use Rattle.pm_print.specs.Askable.{asking}
use Rattle.pm_print.specs.Requested.{named_back, request_fields, request_text}
use Rattle.pm_print.proofs.Replying.{cut_feed}
use Rattle.pm_lines.proofs.Askable.{same_request}
use Rattle.pm_lines.proofs.Finds.{Finds, found, nothing, next, mapped, if_finds, Gives, here, after, required}
use Rattle.pm_lines.proofs.Lengths.{read_fits, size}
use Rattle.pm_lines.proofs.Brief.{Short, Told, ToldAt, TextIn, GuardsAt, Fits, array_short, at_key, cost, digits_told, fields_size, given_short, guards_short, in_row, least, list_told, mode_short, mode_told, name_short, names_listed, names_short, object_fits, once_told, once_short, rights_short, short_short, some_short, subject_by_terms, subject_short, term_short, term_subject_short, terms_short, text_in, text_size, weaker, when_short, whole_short, word_size}

-- the text that stands there
abbrev TextAt : Option Data → List ℕ → Type 0
TextAt o s = length s + 3 ≤ least o

text_at : (o : Option Data) → Finds (TextAt o) (option_and_then as_str o)
text_at None = nothing (TextAt None)
text_at (Some d) = weaker (TextIn (size d)) (TextAt (Some d)) (as_str d) (text_in d) (λ s h. omega arith)

-- of members of which one is there
second_there : (k l : List ℕ) (o : Option Data) (d : Data) (fs : List (List ℕ × Option Data)) → 0 < fields_size ((k, o) ∷ (l, Some d) ∷ fs)
second_there k l None d fs = omega arith
second_there k l (Some e) d fs = omega arith

third_there : (j k l : List ℕ) (o p : Option Data) (d : Data) (fs : List (List ℕ × Option Data)) → 0 < fields_size ((j, o) ∷ (k, p) ∷ (l, Some d) ∷ fs)
third_there j k l None p d fs = second_there k l p d fs
third_there j k l (Some e) p d fs = omega arith

-- ---- actions, by what stands at the keys of one

module _ (look : List ℕ → Option Data) where
  abbrev Says : Word → Type 0
  Says w = cost (said w) ≤ least (look (key_text key.Cmd))

  said_by : (w : List ℕ) (x : Word) → TextAt (look (key_text key.Cmd)) w → bytes_eq w (word_text x) ≡ true → Says x
  said_by w x h is = let short = word_size w x is in omega (arith, short)

  abbrev TermAt : Key → Term → Type 0
  TermAt k = ToldAt term_told (look (key_text k))

  term_at : (k : Key) → Finds (TermAt k) (does.term_at look k)
  term_at k = at_key term_told term_form term_short (look (key_text k))

  given : Finds (TermAt key.Name) (does.formed look key.Name given_form)
  given = at_key term_told given_form given_short (look (key_text key.Name))

  module _ (guards : List Guard) (g : GuardsAt (look (key_text key.If)) guards) where
    -- the members of the action, with its rights as a set
    abbrev fields_of : Act → List (List ℕ × Option Data)
    fields_of a = action_fields (record { guards = guards; act = act_as_set a })

    abbrev ActFits : Act → Type 0
    ActFits a = Fits look (fields_of a)

    created : (k : Kind) → Says (word_to_create k) → Finds ActFits (does.create_act look k)
    created k c =
        next (TermAt key.Name) ActFits _ _ given (λ name n. mapped (TermAt key.Into) ActFits _ _ (term_at key.Into) (λ into i. (omega arith, (c, (g, (i, (n, tt)))))))

    deleted : Says word.Delete → Finds ActFits (does.delete_act look)
    deleted c = mapped (TermAt key.Name) ActFits act.Delete _ (term_at key.Name) (λ name n. (omega arith, (c, (g, (n, tt)))))

    abbrev BothAt : Key → Key → Term × Term → Type 0
    BothAt first second ends = TermAt first ends.0 × TermAt second ends.1

    both : (first second : Key) → Finds (BothAt first second) (does.both_at look first second)
    both first second =
        next (TermAt first) (BothAt first second) _ _ (term_at first) (λ a h. mapped (TermAt second) (BothAt first second) _ _ (term_at second) (λ b k. (h, k)))

    assigned : Says word.Assign → Finds ActFits (does.assign_act look)
    assigned c = mapped (BothAt key.From key.To) ActFits _ _ (both key.From key.To) (λ ends h. (omega arith, (c, (h.0, (g, (h.1, tt))))))

    deassigned : Says word.Deassign → Finds ActFits (does.deassign_act look)
    deassigned c = mapped (BothAt key.From key.To) ActFits _ _ (both key.From key.To) (λ ends h. (omega arith, (c, (h.0, (g, (h.1, tt))))))

    abbrev RightsAt : List (List ℕ) → Type 0
    RightsAt rights = ToldAt once_told (look (key_text key.Rights)) rights

    rights_listed : Finds RightsAt (does.rights_listed look)
    rights_listed = at_key once_told listed_form once_short (look (key_text key.Rights))

    associated : Says word.Associate → Finds ActFits (does.associate_act look)
    associated c =
        next (BothAt key.Ua key.At) ActFits _ _ (both key.Ua key.At) (λ ends h. mapped RightsAt ActFits _ _ rights_listed (λ rights r. (h.1, (c, (g, (r, (h.0, tt)))))))

    dissociated : Says word.Dissociate → Finds ActFits (does.dissociate_act look)
    dissociated c = mapped (BothAt key.Ua key.At) ActFits _ _ (both key.Ua key.At) (λ ends h. (h.1, (c, (g, (h.0, tt)))))

    abbrev TermsAt : Key → List Term → Type 0
    TermsAt k = ToldAt (list_told term_told) (look (key_text k))

    terms_at : (k : Key) → Finds (TermsAt k) (does.formed look k terms_form)
    terms_at k = at_key (list_told term_told) terms_form terms_short (look (key_text k))

    abbrev SetsAt : List Term × List Term → Type 0
    SetsAt sets = TermsAt key.Inc sets.0 × TermsAt key.Exc sets.1

    sets : Finds SetsAt (does.term_sets look)
    sets =
        next (TermsAt key.Inc) SetsAt _ _ (terms_at key.Inc) (λ inc i.
        mapped (TermsAt key.Exc) SetsAt _ _
        (next (TermsAt key.Exc) (TermsAt key.Exc) (if_few_terms inc) _ (terms_at key.Exc) (λ exc e. if_finds (TermsAt key.Exc) _ (Some exc) None (λ b. found (TermsAt key.Exc) exc e) (nothing (TermsAt key.Exc))))
        (λ exc e. (i, e)))

    abbrev SubjectIn : Subject Term ProcessTerm → Type 0
    SubjectIn = ToldAt term_subject_told (look (key_text key.Subject))

    abbrev ModeIn : Mode → Type 0
    ModeIn = ToldAt mode_told (look (key_text key.Mode))

    barred : Says word.Prohibit → Finds ActFits (does.prohibit_act look)
    barred c =
        next (TermAt key.Name) ActFits _ _ given (λ name n.
        next SubjectIn ActFits _ _ (at_key term_subject_told subject_by_terms term_subject_short (look (key_text key.Subject))) (λ subject s.
        next RightsAt ActFits _ _ rights_listed (λ rights r.
        next SetsAt ActFits _ _ sets (λ both b.
        mapped ModeIn ActFits _ _ (at_key mode_told mode_form mode_short (look (key_text key.Mode))) (λ mode m.
        (omega arith, (c, (b.1, (g, (b.0, (m, (n, (r, (s, tt))))))))))))))

    lifted : Says word.Lift → Finds ActFits (does.lift_act look)
    lifted c =
        mapped (ToldAt name_told (look (key_text key.Name))) ActFits act.Lift _ (at_key name_told name_form name_short (look (key_text key.Name))) (λ name n. (omega arith, (c, (g, (n, tt)))))

    act_fits : (w : List ℕ) → TextAt (look (key_text key.Cmd)) w → Finds ActFits (does.act_of look w)
    act_fits w h =
        let say = λ (x : Word) (is : bytes_eq w (word_text x) ≡ true). said_by w x h is in
        if_finds ActFits _ _ _ (λ is. created kind.User (say word.CreateUser is)) (if_finds ActFits _ _ _ (λ is. created kind.Ua (say word.CreateUa is))
        (if_finds ActFits _ _ _ (λ is. created kind.Oa (say word.CreateOa is)) (if_finds ActFits _ _ _ (λ is. created kind.Object (say word.CreateObject is))
        (if_finds ActFits _ _ _ (λ is. deleted (say word.Delete is)) (if_finds ActFits _ _ _ (λ is. assigned (say word.Assign is))
        (if_finds ActFits _ _ _ (λ is. deassigned (say word.Deassign is)) (if_finds ActFits _ _ _ (λ is. associated (say word.Associate is))
        (if_finds ActFits _ _ _ (λ is. dissociated (say word.Dissociate is)) (if_finds ActFits _ _ _ (λ is. barred (say word.Prohibit is))
        (if_finds ActFits _ _ _ (λ is. lifted (say word.Lift is)) (nothing ActFits)))))))))))

act_row : (guards : List Guard) (a : Act) → in_row (action_fields (record { guards = guards; act = a })) ≡ true
unfolding key_text
act_row guards (act.Create k name into) = refl
act_row guards (act.Delete name) = refl
act_row guards (act.Assign from to) = refl
act_row guards (act.Deassign from to) = refl
act_row guards (act.Associate ua rights at) = refl
act_row guards (act.Dissociate ua at) = refl
act_row guards (act.Prohibit name subject rights inc exc mode) = refl
act_row guards (act.Lift name) = refl

abbrev set_told : Action → Data
set_told a = action_told (as_set a)

action_short : Short set_told action_form
action_short d =
    let look = looking d in
    let P = Told set_told (size d) in
    next (GuardsAt (look (key_text key.If))) P _ _ (guards_short (look (key_text key.If))) (λ guards g.
    mapped (ActFits look guards g) P _ _
    (next (TextAt (look (key_text key.Cmd))) (ActFits look guards g) (does.act_of look) _ (text_at (look (key_text key.Cmd))) (act_fits look guards g))
    (λ a h. object_fits d (fields_of look guards g a) (act_row guards (act_as_set a)) (second_there (key_text key.At) (key_text key.Cmd) _ _ _) h))

sets_told : (actions : List Action) → map action_told (map as_set actions) ≡ map set_told actions
sets_told [] = refl
sets_told (a ∷ actions) = ap (λ ds. set_told a ∷ ds) (sets_told actions)

allowed : (n : ℕ) (o : Option ResponseError) (actions : List Action) → Told (list_told set_told) n actions → Finds (Told (list_told action_told) n) (if_allowed o actions)
allowed n (Some e) actions h = nothing (Told (list_told action_told) n)
allowed n None actions h = found (Told (list_told action_told) n) (map as_set actions) (rw (sets_told actions) h)

do_short : Short (list_told action_told) do_form
do_short d =
    next (Told (list_told set_told) (size d)) (Told (list_told action_told) (size d)) _ _ (array_short set_told action_form action_short d)
    (λ actions h. allowed (size d) (response_refusal actions) actions h)

-- ---- rows, by what stands at the keys of a line

whole_at : (k : Key) (o : Option Data) → Gives (λ n. cost (whole_if n) ≤ least o) (rows.optional k o whole_form)
whole_at k None = here (λ n. cost (whole_if n) ≤ 0) None (omega arith)
whole_at k (Some d) =
    let P = Told digits_told (size d) in
    after P (λ n. cost (whole_if n) ≤ least (Some d)) (λ n. Ok (Some n)) (rows.required k (whole_form d)) (required P k (whole_form d) (whole_short d))
    (λ n h. here (λ n. cost (whole_if n) ≤ least (Some d)) (Some n) (omega arith))

module _ (look : List ℕ → Option Data) where
  abbrev HeadAt : Key → Option ℕ → Type 0
  HeadAt k n = cost (whole_if n) ≤ least (look (key_text k))

  abbrev RequestFits : Request → Type 0
  RequestFits r = (id : Option ℕ) → HeadAt key.Id id → Fits look (request_fields id r)

  abbrev BodyFits : Body → Type 0
  BodyFits b = (after : Option ℕ) → HeadAt key.After after → RequestFits (record { after = after; body = b })

  abbrev NameAt : Key → List ℕ → Type 0
  NameAt k = ToldAt name_told (look (key_text k))

  abbrev NumberAt : Key → ℕ → Type 0
  NumberAt k = ToldAt digits_told (look (key_text k))

  abbrev CommandFits : Command → Type 0
  CommandFits c = (process : ℕ) → NumberAt key.Proc process → BodyFits (body.Admin process c)

  abbrev QuestionFits : Question → Type 0
  QuestionFits q = (process : ℕ) → NumberAt key.Proc process → BodyFits (body.Review process q)

  name_at : (k : Key) → Gives (NameAt k) (rows.name_at look k)
  name_at k = required (NameAt k) k _ (at_key name_told name_form name_short (look (key_text k)))

  number_at : (k : Key) → Gives (NumberAt k) (rows.number_at look k)
  number_at k = required (NumberAt k) k _ (at_key digits_told short_form short_short (look (key_text k)))

  abbrev NamesAt : Key → List (List ℕ) → Type 0
  NamesAt k = ToldAt names_listed (look (key_text k))

  rights_at : Gives (NamesAt key.Rights) (rows.rights_at look)
  rights_at = required (NamesAt key.Rights) key.Rights _ (at_key names_listed rights_form rights_short (look (key_text key.Rights)))

  named : (f : List ℕ → Command) → ((name : List ℕ) → NameAt key.Name name → CommandFits (f name)) → Gives CommandFits (and_then (rows.name_at look key.Name) (λ name. Ok (f name)))
  named f fits = after (NameAt key.Name) CommandFits _ _ (name_at key.Name) (λ name n. here CommandFits (f name) (fits name n))

  named_fits : (w : Word) → Says look w → (name : List ℕ) → NameAt key.Name name → (process : ℕ) → NumberAt key.Proc process → (after : Option ℕ) → HeadAt key.After after
      → (id : Option ℕ) → HeadAt key.Id id → Fits look ((key_text key.After, whole_if after) ∷ (key_text key.At, None) ∷ (key_text key.Cmd, said w) ∷ named_back id process name)
  named_fits w c name n process p after v id i = (v, (omega arith, (c, (i, (n, (p, tt))))))

  create : (k : Kind) → Says look (word_to_create k) → Gives CommandFits (rows.create_of look k)
  create k c =
      after (NameAt key.Name) CommandFits _ _ (name_at key.Name) (λ name n. after (NameAt key.Into) CommandFits _ _ (name_at key.Into) (λ into t.
      here CommandFits (command.Create k name into) (λ process p after v id i. (v, (omega arith, (c, (i, (t, (n, (p, tt))))))))))

  abbrev EndsAt : List ℕ × List ℕ → Type 0
  EndsAt ends = NameAt key.From ends.0 × NameAt key.To ends.1

  ends : Gives EndsAt (rows.ends_of look)
  ends = after (NameAt key.From) EndsAt _ _ (name_at key.From) (λ from f. after (NameAt key.To) EndsAt _ _ (name_at key.To) (λ to t. here EndsAt (from, to) (f, t)))

  assign : Says look word.Assign → Gives CommandFits (rows.assign_of look)
  assign c = after EndsAt CommandFits _ _ ends (λ e h. here CommandFits (command.Assign e.0 e.1) (λ process p after v id i. (v, (omega arith, (c, (h.0, (i, (p, (h.1, tt)))))))))

  deassign : Says look word.Deassign → Gives CommandFits (rows.deassign_of look)
  deassign c = after EndsAt CommandFits _ _ ends (λ e h. here CommandFits (command.Deassign e.0 e.1) (λ process p after v id i. (v, (omega arith, (c, (h.0, (i, (p, (h.1, tt)))))))))

  associate : Says look word.Associate → Gives CommandFits (rows.associate_of look)
  associate c =
      after (NameAt key.Ua) CommandFits _ _ (name_at key.Ua) (λ ua u. after (NamesAt key.Rights) CommandFits _ _ rights_at (λ rights r.
      after (NameAt key.At) CommandFits _ _ (name_at key.At) (λ at a.
      here CommandFits (command.Associate ua rights at) (λ process p after v id i. (v, (a, (c, (i, (p, (r, (u, tt)))))))))))

  dissociate : Says look word.Dissociate → Gives CommandFits (rows.dissociate_of look)
  dissociate c =
      after (NameAt key.Ua) CommandFits _ _ (name_at key.Ua) (λ ua u. after (NameAt key.At) CommandFits _ _ (name_at key.At) (λ at a.
      here CommandFits (command.Dissociate ua at) (λ process p after v id i. (v, (a, (c, (i, (p, (u, tt)))))))))

  abbrev NameSetsAt : List (List ℕ) × List (List ℕ) → Type 0
  NameSetsAt sets = NamesAt key.Inc sets.0 × NamesAt key.Exc sets.1

  exc_at : (inc : List (List ℕ)) → Gives (NamesAt key.Exc) (rows.exc_at look inc)
  exc_at inc =
      let P = NamesAt key.Exc in
      required P key.Exc _ (next P P (if_few_beside inc) _ (at_key names_listed list_form names_short (look (key_text key.Exc))) (λ exc e. if_finds P _ (Some exc) None (λ b. found P exc e) (nothing P)))

  sets_at : Gives NameSetsAt (rows.sets_of look)
  sets_at =
      after (NamesAt key.Inc) NameSetsAt _ _ (required (NamesAt key.Inc) key.Inc _ (at_key names_listed list_form names_short (look (key_text key.Inc)))) (λ inc i.
      after (NamesAt key.Exc) NameSetsAt _ _ (exc_at inc) (λ exc e. here NameSetsAt (inc, exc) (i, e)))

  abbrev SubjectHere : Subject (List ℕ) ℕ → Type 0
  SubjectHere = ToldAt subject_told (look (key_text key.Subject))

  abbrev ModeHere : Mode → Type 0
  ModeHere = ToldAt mode_told (look (key_text key.Mode))

  prohibit : Says look word.Prohibit → Gives CommandFits (rows.prohibit_of look)
  prohibit c =
      after (NameAt key.Name) CommandFits _ _ (name_at key.Name) (λ name n.
      after SubjectHere CommandFits _ _ (required SubjectHere key.Subject _ (at_key subject_told subject_form subject_short (look (key_text key.Subject)))) (λ subject s.
      after (NamesAt key.Rights) CommandFits _ _ rights_at (λ rights r. after NameSetsAt CommandFits _ _ sets_at (λ both b.
      after ModeHere CommandFits _ _ (required ModeHere key.Mode _ (at_key mode_told mode_form mode_short (look (key_text key.Mode)))) (λ mode m.
      here CommandFits (command.Prohibit name subject rights both.0 both.1 mode)
      (λ process p after v id i. (v, (omega arith, (c, (b.1, (i, (b.0, (m, (n, (p, (r, (s, tt)))))))))))))))))

  abbrev WhenHere : When → Type 0
  WhenHere = ToldAt when_told (look (key_text key.When))

  abbrev DoHere : List Action → Type 0
  DoHere = ToldAt (list_told action_told) (look (key_text key.Do))

  oblige : Says look word.Oblige → Gives CommandFits (rows.oblige_of look)
  oblige c =
      after (NameAt key.Name) CommandFits _ _ (name_at key.Name) (λ name n.
      after WhenHere CommandFits _ _ (required WhenHere key.When _ (at_key when_told when_form when_short (look (key_text key.When)))) (λ when w.
      after DoHere CommandFits _ _ (required DoHere key.Do _ (at_key (list_told action_told) do_form do_short (look (key_text key.Do)))) (λ response r.
      here CommandFits (command.Oblige name when response) (λ process p after v id i. (v, (omega arith, (c, (r, (i, (n, (p, (w, tt))))))))))))

  -- what is kept: its word stands at the key of kinds
  abbrev KeepFits : (List ℕ → ReviewOf (List ℕ)) → Type 0
  KeepFits kind = (name : List ℕ) → NameAt key.Of name → CommandFits (command.Keep (kind name))

  kind_given : Says look word.Keep → (s : List ℕ) → TextAt (look (key_text key.Kind)) s → Finds KeepFits (kind_of s)
  kind_given c s h =
      if_finds KeepFits _ (Some of.Caps) _ (λ is. let short = word_size s word.Caps is in found KeepFits of.Caps (λ name n process p after v id i. (v, (omega arith, (c, (i, (omega (arith, short), (n, (p, tt)))))))))
      (if_finds KeepFits _ (Some of.Entries) None (λ is. let short = word_size s word.Entries is in found KeepFits of.Entries (λ name n process p after v id i. (v, (omega arith, (c, (i, (omega (arith, short), (n, (p, tt)))))))))
      (nothing KeepFits))

  kind_at : Says look word.Keep → (o : Option Data) → least o ≤ least (look (key_text key.Kind)) → Finds KeepFits (option_and_then kind_form o)
  kind_at c None le = nothing KeepFits
  kind_at c (Some d) le = next (TextIn (size d)) KeepFits kind_of (as_str d) (text_in d) (λ s h. kind_given c s (omega arith))

  keep : Says look word.Keep → Gives CommandFits (rows.keep_of look)
  keep c =
      after KeepFits CommandFits _ _ (required KeepFits key.Kind _ (kind_at c (look (key_text key.Kind)) (omega arith))) (λ kind k.
      after (NameAt key.Of) CommandFits _ _ (name_at key.Of) (λ name n. here CommandFits (command.Keep (kind name)) (k name n)))

  drop_review : Says look word.DropReview → Gives CommandFits (rows.drop_review_of look)
  drop_review c =
      after (NumberAt key.Review) CommandFits _ _ (number_at key.Review) (λ review r.
      here CommandFits (command.DropReview review) (λ process p after v id i. (v, (omega arith, (c, (i, (p, (r, tt))))))))

  admin : (r : Result Command BadLine) → Gives CommandFits r → Gives BodyFits (rows.admin_of look r)
  admin r fits = after (NumberAt key.Proc) BodyFits _ _ (number_at key.Proc) (λ process p. after CommandFits BodyFits _ r fits (λ c h. here BodyFits (body.Admin process c) (h process p)))

  review : (r : Result Question BadLine) → Gives QuestionFits r → Gives BodyFits (rows.review_of look r)
  review r fits = after (NumberAt key.Proc) BodyFits _ _ (number_at key.Proc) (λ process p. after QuestionFits BodyFits _ r fits (λ q h. here BodyFits (body.Review process q) (h process p)))

  access : Says look word.Access → Gives BodyFits (rows.access_of look)
  access c =
      after (NumberAt key.Proc) BodyFits _ _ (number_at key.Proc) (λ process p. after (NameAt key.Right) BodyFits _ _ (name_at key.Right) (λ right r.
      after (NameAt key.Target) BodyFits _ _ (name_at key.Target) (λ target t.
      here BodyFits (body.Access process right target) (λ after v id i. (v, (omega arith, (c, (i, (p, (r, (t, tt)))))))))))

  version : Says look word.Version → Gives BodyFits (Ok body.Version)
  version c = here BodyFits body.Version (λ after v id i. (v, (omega arith, (c, (i, tt)))))

  open_session : Says look word.OpenSession → Gives BodyFits (rows.open_session_of look)
  open_session c = after (NameAt key.User) BodyFits _ _ (name_at key.User) (λ user u. here BodyFits (body.OpenSession user) (λ after v id i. (v, (omega arith, (c, (i, (u, tt)))))))

  close_session : Says look word.CloseSession → Gives BodyFits (rows.close_session_of look)
  close_session c = after (NumberAt key.Session) BodyFits _ _ (number_at key.Session) (λ n s. here BodyFits (body.CloseSession n) (λ after v id i. (v, (omega arith, (c, (i, (s, tt)))))))

  start_process : Says look word.StartProcess → Gives BodyFits (rows.start_process_of look)
  start_process c = after (NumberAt key.Session) BodyFits _ _ (number_at key.Session) (λ n s. here BodyFits (body.StartProcess n) (λ after v id i. (v, (omega arith, (c, (i, (s, tt)))))))

  end_process : Says look word.EndProcess → Gives BodyFits (rows.end_process_of look)
  end_process c = after (NumberAt key.Process) BodyFits _ _ (number_at key.Process) (λ n s. here BodyFits (body.EndProcess n) (λ after v id i. (v, (omega arith, (c, (i, (s, tt)))))))

  caps : Says look word.Caps → Gives QuestionFits (rows.caps_of look)
  caps c = after (NameAt key.User) QuestionFits _ _ (name_at key.User) (λ user u. here QuestionFits (question.Caps user) (λ process p after v id i. (v, (omega arith, (c, (i, (p, (u, tt))))))))

  entries : Says look word.Entries → Gives QuestionFits (rows.entries_of look)
  entries c = after (NameAt key.Element) QuestionFits _ _ (name_at key.Element) (λ element e. here QuestionFits (question.Entries element) (λ process p after v id i. (v, (omega arith, (c, (e, (i, (p, tt))))))))

  survey : Says look word.Survey → Gives QuestionFits (rows.survey_of look)
  survey c =
      after (NamesAt key.Users) QuestionFits _ _ (required (NamesAt key.Users) key.Users _ (at_key names_listed listed_form some_short (look (key_text key.Users)))) (λ users u.
      here QuestionFits (question.Survey users) (λ process p after v id i. (v, (omega arith, (c, (i, (p, (u, tt))))))))

  kept : Says look word.Kept → Gives QuestionFits (rows.kept_of look)
  kept c = after (NumberAt key.Review) QuestionFits _ _ (number_at key.Review) (λ n r. here QuestionFits (question.Kept n) (λ process p after v id i. (v, (omega arith, (c, (i, (p, (r, tt))))))))

  changes : Says look word.Changes → Gives QuestionFits (rows.changes_of look)
  changes c = after (NumberAt key.Review) QuestionFits _ _ (number_at key.Review) (λ n r. here QuestionFits (question.Changes n) (λ process p after v id i. (v, (omega arith, (c, (i, (p, (r, tt))))))))

  -- of the row of a word, where it is one
  record OfRow (row : Option (Result Body BadLine)) : Type 0 where
    has : IfSome row (λ r. Gives BodyFits r)

  step : (w x : List ℕ) (row : Result Body BadLine) (rest : Option (Result Body BadLine)) → (bytes_eq w x ≡ true → Gives BodyFits row) → OfRow rest → OfRow (if bytes_eq w x then Some row else rest)
  step w x row rest fits later = elim (cases_Bool (bytes_eq w x)) [
    | inl is ↦ let there = fits is in rw is (record { has = there })
    | inr other ↦ rw other later
  ]

  row_fits : (w : List ℕ) → TextAt (look (key_text key.Cmd)) w → OfRow (rows.row_of look w)
  row_fits w h =
      let say = λ (x : Word) (is : bytes_eq w (word_text x) ≡ true). said_by look w x h is in
      step w _ _ _ (λ is. version (say word.Version is)) (step w _ _ _ (λ is. open_session (say word.OpenSession is)) (step w _ _ _ (λ is. close_session (say word.CloseSession is))
      (step w _ _ _ (λ is. start_process (say word.StartProcess is)) (step w _ _ _ (λ is. end_process (say word.EndProcess is))
      (step w _ _ _ (λ is. admin _ (named command.CreatePc (named_fits word.CreatePc (say word.CreatePc is)))) (step w _ _ _ (λ is. admin _ (create kind.User (say word.CreateUser is)))
      (step w _ _ _ (λ is. admin _ (create kind.Ua (say word.CreateUa is))) (step w _ _ _ (λ is. admin _ (create kind.Oa (say word.CreateOa is)))
      (step w _ _ _ (λ is. admin _ (create kind.Object (say word.CreateObject is))) (step w _ _ _ (λ is. admin _ (named command.Delete (named_fits word.Delete (say word.Delete is))))
      (step w _ _ _ (λ is. admin _ (assign (say word.Assign is))) (step w _ _ _ (λ is. admin _ (deassign (say word.Deassign is)))
      (step w _ _ _ (λ is. admin _ (associate (say word.Associate is))) (step w _ _ _ (λ is. admin _ (dissociate (say word.Dissociate is)))
      (step w _ _ _ (λ is. admin _ (prohibit (say word.Prohibit is))) (step w _ _ _ (λ is. admin _ (named command.Lift (named_fits word.Lift (say word.Lift is))))
      (step w _ _ _ (λ is. admin _ (named command.DefineRight (named_fits word.DefineRight (say word.DefineRight is)))) (step w _ _ _ (λ is. admin _ (oblige (say word.Oblige is)))
      (step w _ _ _ (λ is. admin _ (named command.Withdraw (named_fits word.Withdraw (say word.Withdraw is)))) (step w _ _ _ (λ is. admin _ (keep (say word.Keep is)))
      (step w _ _ _ (λ is. admin _ (drop_review (say word.DropReview is))) (step w _ _ _ (λ is. access (say word.Access is))
      (step w _ _ _ (λ is. review _ (caps (say word.Caps is))) (step w _ _ _ (λ is. review _ (entries (say word.Entries is))) (step w _ _ _ (λ is. review _ (survey (say word.Survey is)))
      (step w _ _ _ (λ is. review _ (kept (say word.Kept is))) (step w _ _ None (λ is. review _ (changes (say word.Changes is)))
      (record { has = tt }))))))))))))))))))))))))))))

  head_fits : (row : Result Body BadLine) → Gives BodyFits row → Gives RequestFits (rows.with_head look row)
  head_fits row fits =
      after (HeadAt key.Id) RequestFits _ _ (whole_at key.Id (look (key_text key.Id))) (λ id i.
      after (HeadAt key.After) RequestFits _ _ (whole_at key.After (look (key_text key.After))) (λ version v.
      after BodyFits RequestFits _ row fits (λ body b. here RequestFits (record { after = version; body = body }) (b version v))))

  rowed_fits : (row : Option (Result Body BadLine)) → OfRow row → Gives RequestFits (rows.rowed look row)
  rowed_fits None fits = record { each = tt }
  rowed_fits (Some row) fits = head_fits row fits.has

  worded_fits : (w : Option (List ℕ)) → Finds (TextAt (look (key_text key.Cmd))) w → Gives RequestFits (rows.worded look w)
  worded_fits None h = record { each = tt }
  worded_fits (Some w) h = rowed_fits (rows.row_of look w) (row_fits w h.each)

  request_fits : Gives RequestFits (rows.request_of look)
  request_fits = worded_fits _ (text_at (look (key_text key.Cmd)))

-- ---- the whole line

command_row : (id after : Option ℕ) (process : ℕ) (c : Command) → in_row (request_fields id (record { after = after; body = body.Admin process c })) ≡ true
unfolding key_text
command_row id after process (command.CreatePc name) = refl
command_row id after process (command.Create k name into) = refl
command_row id after process (command.Delete name) = refl
command_row id after process (command.Assign from to) = refl
command_row id after process (command.Deassign from to) = refl
command_row id after process (command.Associate ua rights at) = refl
command_row id after process (command.Dissociate ua at) = refl
command_row id after process (command.Prohibit name subject rights inc exc mode) = refl
command_row id after process (command.Lift name) = refl
command_row id after process (command.DefineRight name) = refl
command_row id after process (command.Oblige name when response) = refl
command_row id after process (command.Withdraw name) = refl
command_row id after process (command.Keep (of.Caps name)) = refl
command_row id after process (command.Keep (of.Entries name)) = refl
command_row id after process (command.DropReview review) = refl

body_row : (id after : Option ℕ) (b : Body) → in_row (request_fields id (record { after = after; body = b })) ≡ true
unfolding key_text
body_row id after body.Version = refl
body_row id after (body.OpenSession user) = refl
body_row id after (body.CloseSession session) = refl
body_row id after (body.StartProcess session) = refl
body_row id after (body.EndProcess process) = refl
body_row id after (body.Access process right target) = refl
body_row id after (body.Admin process c) = command_row id after process c
body_row id after (body.Review process (question.Caps user)) = refl
body_row id after (body.Review process (question.Entries element)) = refl
body_row id after (body.Review process (question.Survey users)) = refl
body_row id after (body.Review process (question.Kept review)) = refl
body_row id after (body.Review process (question.Changes review)) = refl

head_cost : (o : Option Data) (id : Option ℕ) → Finds (ToldAt digits_told o) id → cost (whole_if id) ≤ least o
head_cost o None h = omega arith
head_cost o (Some m) h = h.each

of_what : (look : List ℕ → Option Data) (x : Result Request BadLine) (r : Request) → what_of x ≡ what.Request r → Gives (RequestFits look) x → RequestFits look r
of_what look (Ok q) r is gives = subst (RequestFits look) (same_request q r is) gives.each
of_what look (Err bad) r is gives = absurd cc

-- with the id that stands there, or none
its_id : (look : List ℕ → Option Data) (id other : Option ℕ) → rows.id_of look ≡ id → (other ≡ id) ⊎ (other ≡ None) → HeadAt look key.Id other
its_id look id other is (inl same) =
    let fits = head_cost (look (key_text key.Id)) (rows.id_of look) (at_key digits_told whole_form whole_short (look (key_text key.Id))) in
    subst (HeadAt look key.Id) (is ∙ sym same) fits
its_id look id other is (inr none) = subst (HeadAt look key.Id) (sym none) (omega arith)

abbrev line_size : Option ℕ → Request → ℕ
line_size id r = text_size (object (present (request_fields id r)))

of_value : (o : Option Data) (n : ℕ) (id other : Option ℕ) (r : Request) → IfSome o (λ d. size d ≤ n) → asked_of o ≡ asking id r → (other ≡ id) ⊎ (other ≡ None) → line_size other r ≤ n
of_value None n id other r h is either = let what = ap (λ (a : Asked). a.what) is in absurd cc
of_value (Some d) n id other r h is either =
    let look = looking d in
    let i = its_id look id other (ap (λ (a : Asked). a.id) is) either in
    let fits = of_what look (rows.request_of look) r (ap (λ (a : Asked). a.what) is) (request_fits look) other i in
    let short = object_fits d (request_fields other r) (body_row other r.after r.body) (third_there (key_text key.After) (key_text key.At) (key_text key.Cmd) _ _ _ _) fits in
    omega (arith, h, short)

of_text : (b : Bool) (o : Option Data) (n : ℕ) (id other : Option ℕ) (r : Request) → IfSome o (λ d. size d ≤ n) → asked_of (if b then o else None) ≡ asking id r → (other ≡ id) ⊎ (other ≡ None) → line_size other r ≤ n
of_text true o n id other r h is either = of_value o n id other r h is either
of_text false o n id other r h is either = of_value None n id other r tt is either

pub printed_is_no_longer : (line again : List ℕ) (id other : Option ℕ) (r : Request) → asked line ≡ asking id r → (other ≡ id) ⊎ (other ≡ None)
    → request_text other r ≡ again ++ codes "\n" → length again ≤ length line
printed_is_no_longer line again id other r is either e =
    let short = of_text (is_utf8 line) (read line) (length line) id other r (read_fits line) is either in
    let same = ap length (cut_feed (compact_text (object (present (request_fields other r)))) again e) in
    omega (arith, short, same)
