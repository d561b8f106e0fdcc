-- One caller's replies by its history are those by states.
use Rattle.std.proofs.Common.{◌≡◌, ℕ, List, [], ◌∷◌, ◌++◌, length, Option, Some, None, is_some, unwrap_or, refl, sym, ◌∙◌, ap, subst}
use Rattle.std.proofs.lemmas.List.{append-nil}
use Rattle.pm_model.specs.State.{State, opening, name_numbered}
use Rattle.pm_model.specs.Answer.{answer, after}
use Rattle.pm_model.specs.History.{replay, IsLegal}
use Rattle.pm_model.specs.Text.{text}
use Rattle.pm_model.specs.Lines.{Event, events}
use Rattle.pm_model.specs.Solo.{asked_at, answer_what, reply_to, state_after, replies, solo}
use Rattle.pm_model.specs.Recorded.{next_entry, entries_of, recorded, recorded_reply, recorded_replies, history_after, recorded_solo}
use Rattle.pm_model.specs.declared.requests.Request.{Request}
use Rattle.pm_model.specs.declared.requests.Entry.{Entry}
use Rattle.pm_model.specs.declared.requests.What.{What}
use Rattle.pm_model.specs.declared.requests.What.TheVariants as what
use Rattle.pm_laws.proofs.Replayed.{replay-append, legal-append, counted-replayed}

-- a history that is legal, and whose replay is the state
pub record Records (H : List Entry) (S : State) : Type 0 where
  pub legal : IsLegal H
  pub state : replay H ≡ S

-- whether the request is accepted or not
records-answered : (H : List Entry) (S : State) (r : Request) (e : Entry) (o : Option State) → Records H S → e.request ≡ r → (answer S r).next ≡ o →
    Records (H ++ entries_of o e) (unwrap_or o S)
records-answered H S r e None h is none = rw (append-nil H) h
records-answered H S r e (Some T) h is some =
    let next : (answer (replay H) e.request).next ≡ Some T = rw (is, h.state) some in
    record {
      legal = legal-append opening H e h.legal (ap is_some next);
      state = replay-append opening H e ∙ ap (λ (o : Option State). unwrap_or o (replay H)) next;
    }

pub records-next : (H : List Entry) (S : State) (w : What) → Records H S → Records (recorded H w) (after S (answer_what S w))
records-next H S (what.Bad bad) h = h
records-next H S (what.Request r) h =
    let a = answer S r in
    subst (λ (R : State). Records (H ++ entries_of (answer R r).next (next_entry H r)) (unwrap_or a.next S)) (sym h.state)
    (records-answered H S r (next_entry H r) a.next h refl refl)

reply-recorded : (H : List Entry) (S : State) (e : Event) → Records H S → recorded_reply H e ≡ reply_to S e
reply-recorded H S e h =
    let K = recorded H (asked_at e).what in
    let T = state_after S e in
    let next = records-next H S (asked_at e).what h in
    let counted : T.version ≡ length K = ap (λ (U : State). U.version) (sym next.state) ∙ counted-replayed K next.legal in
    ap (λ (U : State). text (asked_at e).id (length K) (name_numbered U.graph.elements) (answer_what (replay H) (asked_at e).what).reply) next.state
    ∙ ap (λ (n : ℕ). text (asked_at e).id n (name_numbered T.graph.elements) (answer_what (replay H) (asked_at e).what).reply) (sym counted)
    ∙ ap (λ (U : State). text (asked_at e).id T.version (name_numbered T.graph.elements) (answer_what U (asked_at e).what).reply) h.state

replies-recorded : (H : List Entry) (S : State) (es : List Event) → Records H S → recorded_replies H es ≡ replies S es
replies-recorded H S [] h = refl
replies-recorded H S (e ∷ es) h =
    ap (λ (l : List ℕ). l ++ recorded_replies (recorded H (asked_at e).what) es) (reply-recorded H S e h)
    ∙ ap (λ (l : List ℕ). reply_to S e ++ l) (replies-recorded (recorded H (asked_at e).what) (state_after S e) es (records-next H S (asked_at e).what h))

history-recorded : (H : List Entry) (S : State) (es : List Event) → Records H S → IsLegal (history_after H es)
history-recorded H S [] h = h.legal
history-recorded H S (e ∷ es) h =
    history-recorded (recorded H (asked_at e).what) (state_after S e) es (records-next H S (asked_at e).what h)

records-opening : Records [] opening
records-opening = record { legal = tt; state = refl }

pub one_caller_replies : (bytes : List ℕ) → recorded_solo bytes ≡ solo bytes
one_caller_replies bytes = replies-recorded [] opening (events bytes) records-opening

pub one_caller_history : (bytes : List ℕ) → IsLegal (history_after [] (events bytes))
one_caller_history bytes = history-recorded [] opening (events bytes) records-opening
