-- Turns together.
use Rattle.std.proofs.Common.{inl, inr, take, ◌≡◌, ◌≢◌, ◌≤◌, ℕ, Bool, true, false, List, [], ◌∷◌, ◌++◌, length, map, refl, sym, ◌∙◌, ap, subst, append_assoc}
use Rattle.std.proofs.lemmas.List.{append-nil, map-append}
use Rattle.std.proofs.lemmas.Grind.{flat_map-append}
use mathlib.Core.List.{IsPrefix}
use Rattle.pm_model.specs.Causes.{Rose}
use Rattle.pm_model.specs.Formed.{Each}
use Rattle.pm_model.specs.History.{replay}
use Rattle.pm_model.specs.Solo.{asked_at}
use Rattle.pm_model.specs.State.{name_numbered}
use Rattle.pm_model.specs.Text.{text}
use Rattle.pm_model.specs.declared.requests.Entry.{Entry}
use Rattle.pm_world.specs.Transcripts.{reply_of, version_of, Rises}
use Rattle.pm_world.proofs.Prefixes.{prefix-take, prefix-trans}
use Rattle.pm_model.specs.Lines.{Event, event_of, shape}
use Rattle.pm_laws.proofs.Items.{each-all}
use Rattle.pm_session.specs.Cuts.{HasNoFeed, AreLines, joined}
use Rattle.pm_session.specs.Streams.{Streams}
use Rattle.pm_session.proofs.Kept.{events-shape}
use Rattle.pm_session.proofs.FirstLine.{HasNoFeed-cut}
use Rattle.pm_session.proofs.WholeLines.{events-lines}
use Rattle.pm_house.specs.Seated.{Seated}
use Rattle.pm_io.specs.Wires.{Wire}
use Rattle.pm_io.proofs.Known.{Appends-append, Consumes-append}
use Rattle.pm_worker.specs.Told.{Told, lines_of, exchanges_of, reply_line, reply_lines, IsAnswered, Tells}
use Rattle.pm_worker.specs.Turns.{Serves}
use Rattle.pm_worker.specs.Talks.{line_events, Finishes, IsUnhindered, Heard, all_of, own_of, Talks}
use Rattle.pm_worker.specs.declared.turns.Turn.{Turn}
use Rattle.pm_worker.specs.declared.turns.Turn.TheVariants.{Idle, More, Ended, LinkFault, Memory}
use Rattle.pm_worker.proofs.Turning.{tells-then, joined-append, input-fed, low-high}

-- ---- a connection that has ended

plain-lines : (Q : Type 0) (ts : List Told) → Each (IsAnswered Q) ts → Each HasNoFeed (lines_of ts)
plain-lines Q [] h = tt
plain-lines Q (t ∷ ts) h = (h.0.plain, plain-lines Q ts h.1)

events-of-lines : (ts : List Told) → map event_of (lines_of ts) ≡ line_events ts
events-of-lines [] = refl
events-of-lines (t ∷ ts) = ap (λ (l : List Event). event_of t.line ∷ l) (events-of-lines ts)

none-lost : (lost : List (List ℕ)) (rest : List ℕ) → lost ≡ [] → joined lost ++ rest ≡ rest
none-lost lost rest is = ap (λ (l : List (List ℕ)). joined l ++ rest) is

pub ended_finishes : (Q : Type 0) (s t : Seated) (a b : Streams) (v w : Wire) → Serves Q s t a b v w Ended → Finishes Q s t a v w
ended_finishes Q s t a b v w h =
    let all : shape (a.waiting ++ h.got) ≡ joined (lines_of h.told) ++ b.waiting =
    h.input ∙ ap (λ (l : List ℕ). joined (lines_of h.told) ++ l) (none-lost h.lost b.waiting (h.none (λ same. absurd (cc same)))) in
    let lines : AreLines (shape (a.waiting ++ h.got)) (lines_of h.told) b.waiting = record {
      split = all;
      plain = each-all HasNoFeed (lines_of h.told) (plain-lines Q h.told h.tells.answered);
      begun = HasNoFeed-cut b.waiting h.cause.1;
    } in
    record {
      told = h.told;
      got = h.got;
      sent = h.sent;
      consumed = h.consumed;
      at_end = h.cause.0;
      appended = h.appended;
      lines = sym (events-of-lines h.told) ∙ sym (events-lines (shape (a.waiting ++ h.got)) (lines_of h.told) b.waiting lines) ∙ events-shape (a.waiting ++ h.got);
      bytes = sym (append-nil h.sent) ∙ ap (λ (l : List ℕ). h.sent ++ l) (sym h.cause.2) ∙ sym h.output;
      tells = h.tells;
    }

-- ---- a link that has never failed, and always had something to do

pub unhindered : (Q : Type 0) (s t : Seated) (a b : Streams) (v w : Wire) (turn : Turn) → Serves Q s t a b v w turn → ¬ Rose v.faults w.faults
    → ¬ Rose v.read_agains w.read_agains → ¬ Rose v.write_agains w.write_agains → IsUnhindered turn
unhindered Q s t a b v w Idle h faults reads writes = elim h.cause [
  | inl p ↦ writes p.1.rose
  | inr p ↦ reads p.2.rose
]
unhindered Q s t a b v w More h faults reads writes = tt
unhindered Q s t a b v w Ended h faults reads writes = tt
unhindered Q s t a b v w LinkFault h faults reads writes = faults h.cause.rose
unhindered Q s t a b v w Memory h faults reads writes = tt

-- ---- turns, one after another

abbrev heard : Bool → Told → Heard
heard b t = record { own = b; told = t }

abbrev mark : Bool → List Told → List Heard
mark b ts = map (heard b) ts

all-mark : (b : Bool) (ts : List Told) → all_of (mark b ts) ≡ ts
all-mark b [] = refl
all-mark b (t ∷ ts) = ap (λ (l : List Told). t ∷ l) (all-mark b ts)

own-mark : (ts : List Told) → own_of (mark true ts) ≡ ts
own-mark [] = refl
own-mark (t ∷ ts) = ap (λ (l : List Told). t ∷ l) (own-mark ts)

own-others : (ts : List Told) → own_of (mark false ts) ≡ []
own-others [] = refl
own-others (t ∷ ts) = own-others ts

own-by : (b : Bool) (t : Told) (hs ks : List Heard) → own_of (hs ++ ks) ≡ own_of hs ++ own_of ks →
    own_of (heard b t ∷ (hs ++ ks)) ≡ own_of (heard b t ∷ hs) ++ own_of ks
own-by true t hs ks is = ap (λ (l : List Told). t ∷ l) is
own-by false t hs ks is = is

own-append : (hs ks : List Heard) → own_of (hs ++ ks) ≡ own_of hs ++ own_of ks
own-append [] ks = refl
own-append (h ∷ hs) ks = own-by h.own h.told hs ks (own-append hs ks)

all-append : (hs ks : List Heard) → all_of (hs ++ ks) ≡ all_of hs ++ all_of ks
all-append hs ks = map-append (λ (h : Heard). h.told) hs ks

pub turn_talks : (Q : Type 0) (s t : Seated) (a b : Streams) (v w : Wire) (turn : Turn) → turn ≢ Memory → Serves Q s t a b v w turn → Talks Q s t a b v w
turn_talks Q s t a b v w turn not h = record {
  heard = mark true h.told;
  got = h.got;
  sent = h.sent;
  consumed = h.consumed;
  appended = h.appended;
  input =
      h.input
      ∙ ap (λ (l : List ℕ). joined (lines_of h.told) ++ l) (none-lost h.lost b.waiting (h.none not))
      ∙ ap (λ (ts : List Told). joined (lines_of ts) ++ b.waiting) (sym (own-mark h.told));
  output = ap (λ (ts : List Told). a.output ++ reply_lines t.machine.history ts) (own-mark h.told) ∙ h.output;
  tells = subst (Tells Q s t) (sym (all-mark true h.told)) h.tells;
}

-- what holds of all that was heard holds of the connection's own
each-by : (P : Told → Type 0) (b : Bool) (t : Told) (hs : List Heard) → P t → Each P (own_of hs) → Each P (own_of (heard b t ∷ hs))
each-by P true t hs p h = (p, h)
each-by P false t hs p h = h

each-own : (P : Told → Type 0) (hs : List Heard) → Each P (all_of hs) → Each P (own_of hs)
each-own P [] h = tt
each-own P (x ∷ hs) h = each-by P x.own x.told hs h.0 (each-own P hs h.1)

abbrev IsWithin : List Entry → Told → Type 0
IsWithin G t = version_of t.exchange ≤ length G

each-within : (G : List Entry) (low : ℕ) (ts : List Told) → Rises low (exchanges_of ts) (length G) → Each (IsWithin G) ts
each-within G low [] h = tt
each-within G low (t ∷ ts) h = (low-high (version_of t.exchange) (length G) (exchanges_of ts) h.1, each-within G (version_of t.exchange) ts h.1)

lines-within : (G H : List Entry) (ts : List Told) → IsPrefix G H → Each (IsWithin G) ts → reply_lines H ts ≡ reply_lines G ts
lines-within G H [] p h = refl
lines-within G H (t ∷ ts) p h =
    let v = version_of t.exchange in
    let same : take v H ≡ take v G = prefix-take G H v p h.0 in
    let line : reply_line H t ≡ reply_line G t =
    ap (λ (l : List Entry). text (asked_at (event_of t.line)).id v (name_numbered (replay l).graph.elements) (reply_of t.exchange)) same in
    ap (λ (l : List ℕ). l ++ reply_lines H ts) line ∙ ap (λ (l : List ℕ). reply_line G t ++ l) (lines-within G H ts p h.1)

own-all : (hs ks : List Heard) (others : List Told) → own_of (hs ++ (mark false others ++ ks)) ≡ own_of hs ++ own_of ks
own-all hs ks others =
    own-append hs (mark false others ++ ks)
    ∙ ap (λ (l : List Told). own_of hs ++ l) (own-append (mark false others) ks ∙ ap (λ (l : List Told). l ++ own_of ks) (own-others others))

heard-all : (hs ks : List Heard) (others : List Told) → all_of (hs ++ (mark false others ++ ks)) ≡ all_of hs ++ (others ++ all_of ks)
heard-all hs ks others =
    all-append hs (mark false others ++ ks)
    ∙ ap (λ (l : List Told). all_of hs ++ l) (all-append (mark false others) ks ∙ ap (λ (l : List Told). l ++ all_of ks) (all-mark false others))

pub talks_join : (Q : Type 0) (r s t u : Seated) (a b c : Streams) (v w x : Wire) (others : List Told) → shape b.waiting ≡ b.waiting →
    Talks Q r s a b v w → Tells Q s t others → Talks Q t u b c w x → Talks Q r u a c v x
talks_join Q r s t u a b c v w x others kept h e k =
    let own = own_of h.heard in
    let more = own_of k.heard in
    let G = s.machine.history in
    let H = u.machine.history in
    let grows : IsPrefix G H = prefix-trans G t.machine.history H e.hears.grows k.tells.hears.grows in
    let before : reply_lines H own ≡ reply_lines G own =
    lines-within G H own grows (each-own (IsWithin G) h.heard (each-within G (length r.machine.history) (all_of h.heard) h.tells.hears.rises)) in
    let which : own_of (h.heard ++ (mark false others ++ k.heard)) ≡ own ++ more = own-all h.heard k.heard others in
    let told = tells-then Q r t u (all_of h.heard ++ others) (all_of k.heard) (tells-then Q r s t (all_of h.heard) others h.tells e) k.tells in
    record {
      heard = h.heard ++ (mark false others ++ k.heard);
      got = h.got ++ k.got;
      sent = h.sent ++ k.sent;
      consumed = Consumes-append v.left w.left x.left h.got k.got h.consumed k.consumed;
      appended = Appends-append v.taken w.taken x.taken h.sent k.sent h.appended k.appended;
      input =
          input-fed Q a.waiting h.got k.got b.waiting (shape (b.waiting ++ k.got)) own (each-own (IsAnswered Q) h.heard h.tells.answered) kept h.input refl
          ∙ ap (λ (l : List ℕ). joined (lines_of own) ++ l) k.input
          ∙ sym (append_assoc (joined (lines_of own)) (joined (lines_of more)) c.waiting)
          ∙ ap (λ (l : List ℕ). l ++ c.waiting) (sym (joined-append own more))
          ∙ ap (λ (ts : List Told). joined (lines_of ts) ++ c.waiting) (sym which);
      output =
          ap (λ (ts : List Told). a.output ++ reply_lines H ts) which
          ∙ ap (λ (l : List ℕ). a.output ++ l) (flat_map-append (reply_line H) own more ∙ ap (λ (l : List ℕ). l ++ reply_lines H more) before)
          ∙ sym (append_assoc a.output (reply_lines G own) (reply_lines H more))
          ∙ ap (λ (l : List ℕ). l ++ reply_lines H more) h.output
          ∙ append_assoc h.sent b.output (reply_lines H more)
          ∙ ap (λ (l : List ℕ). h.sent ++ l) k.output
          ∙ sym (append_assoc h.sent k.sent c.output);
      tells =
          subst (Tells Q r u) (append_assoc (all_of h.heard) others (all_of k.heard) ∙ sym (heard-all h.heard k.heard others)) told;
    }
