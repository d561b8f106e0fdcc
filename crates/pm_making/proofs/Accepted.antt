-- The lines of a sound document are accepted one after another.
use Rattle.std.proofs.Common.{◌≡◌, ◌+◌, ℕ, List, [], ◌∷◌, ◌++◌, length, map, Option, Some, None, IsSome, refl, sym, ◌∙◌, ap, subst, arith, append_assoc}
use Rattle.std.proofs.lemmas.List.{append-nil}
use Rattle.serde_json.specs.Written.{compact_text}
use Rattle.serde_json.specs.Data.{object}
use Rattle.pm_model.specs.Answer.{answer, after}
use Rattle.pm_model.specs.Formed.{Each}
use Rattle.pm_model.specs.History.{IsLegalFrom, replay}
use Rattle.pm_model.specs.Lines.{whole}
use Rattle.pm_model.specs.Object.{present}
use Rattle.pm_model.specs.Recorded.{entries_of, history_after, next_entry, recorded}
use Rattle.pm_model.specs.Solo.{asked_at}
use Rattle.pm_model.specs.State.{State, opening}
use Rattle.pm_model.specs.declared.requests.Command.{Command}
use Rattle.pm_model.specs.declared.requests.Entry.{Entry}
use Rattle.pm_model.specs.declared.requests.Request.{Request}
use Rattle.pm_model.specs.declared.requests.What.{What}
use Rattle.pm_model.specs.declared.requests.What.TheVariants as what
use Rattle.pm_laws.proofs.Replayed.{replay-append}
use Rattle.pm_policy.specs.PolicyOf.{HasPolicy}
use Rattle.pm_policy.specs.Requests.{asked, commands, requests}
use Rattle.pm_policy.specs.Sound.{IsSound}
use Rattle.pm_policy.specs.declared.policy.Policy.{Policy}
use Rattle.pm_policy.proofs.Law.{document_accepted}
use Rattle.pm_print.specs.Askable.{asking, IsAskable}
use Rattle.pm_print.specs.Requested.{request_fields, request_text}
use Rattle.pm_print.proofs.Asking.{printed_is_asked}
use Rattle.pm_making.specs.Accepted.{fed, Make}
use Rattle.pm_making.specs.Lines.{lines_of}

-- the line of a command, without its line feed
abbrev line : Command → List ℕ
line c = compact_text (object (present (request_fields None (asked c))))

fed-lines : (cs : List Command) → lines_of cs ≡ fed (map line cs)
fed-lines [] = refl
fed-lines (c ∷ cs) = ap (λ l. request_text None (asked c) ++ l) (fed-lines cs)

-- the entries of these requests behind n others, by one caller
abbrev numbered : ℕ → List Command → List Entry
numbered n [] = []
numbered n (c ∷ cs) = record { seat = 0; nth = n + 1; request = asked c } ∷ numbered (n + 1) cs

numbered-requests : (n : ℕ) (cs : List Command) → map (λ (e : Entry). e.request) (numbered n cs) ≡ map asked cs
numbered-requests n [] = refl
numbered-requests n (c ∷ cs) = ap (λ l. asked c ∷ l) (numbered-requests (n + 1) cs)

-- a request that is accepted is an entry more
recorded-more : (done : List Entry) (w : What) (r : Request) → w ≡ what.Request r → IsSome (answer (replay done) r).next →
    recorded done w ≡ done ++ next_entry done r ∷ []
recorded-more done w r is some = rw is (of (answer (replay done) r).next some) where
  of : (o : Option State) → IsSome o → done ++ entries_of o (next_entry done r) ≡ done ++ next_entry done r ∷ []
  of (Some S) some = refl
  of None some = absurd (cc)

-- where they are legal, each is accepted
history-accepted : (done : List Entry) (cs : List Command) → Each IsAskable (map asked cs) → IsLegalFrom (replay done) (numbered (length done) cs) →
    history_after done (map whole (map line cs)) ≡ done ++ numbered (length done) cs
history-accepted done [] askable legal = sym (append-nil done)
history-accepted done (c ∷ cs) askable legal =
    let e = next_entry done (asked c) in
    let asks : asked_at (whole (line c)) ≡ asking None (asked c) = printed_is_asked None (asked c) (line c) tt askable.0 refl in
    let more : recorded done (asked_at (whole (line c))).what ≡ done ++ e ∷ [] =
    recorded-more done (asked_at (whole (line c))).what (asked c) (ap (λ a. a.what) asks) legal.0 in
    let longer : length (done ++ e ∷ []) ≡ length done + 1 = length-more done e in
    let state : replay (done ++ e ∷ []) ≡ after (replay done) (answer (replay done) (asked c)) = replay-append opening done e in
    let rest : IsLegalFrom (replay (done ++ e ∷ [])) (numbered (length (done ++ e ∷ [])) cs) =
    subst (λ n. IsLegalFrom (replay (done ++ e ∷ [])) (numbered n cs)) (sym longer)
    (subst (λ (S : State). IsLegalFrom S (numbered (length done + 1) cs)) (sym state) legal.1) in
    ap (λ l. history_after l (map whole (map line cs))) more
    ∙ history-accepted (done ++ e ∷ []) cs askable.1 rest
    ∙ ap (λ n. (done ++ e ∷ []) ++ numbered n cs) longer
    ∙ append_assoc done (e ∷ []) (numbered (length done + 1) cs) where
      length-more : (es : List Entry) (e : Entry) → length (es ++ e ∷ []) ≡ length es + 1
      length-more [] e = refl
      length-more (x ∷ es) e = let m = length-more es e in omega (arith, m)

pub lines_make : (D : Policy) → IsSound D → Each IsAskable (requests D) → (lines : List (List ℕ)) × Make D lines
lines_make D sound askable =
    let cs = commands D in
    let H = numbered 0 cs in
    let same : map (λ (e : Entry). e.request) H ≡ requests D = numbered-requests 0 cs in
    let legal = document_accepted D sound H same in
    let is : history_after [] (map whole (map line cs)) ≡ H = history-accepted [] cs askable legal.0 in (
      map line cs,
      record {
        text = fed-lines cs;
        accepted = ap (λ l. map (λ (e : Entry). e.request) l) is ∙ same;
        policy = subst (λ l. HasPolicy D (replay l).graph) (sym is) legal.1;
      },
    )
