-- A turn, step after step.
use Rattle.std.proofs.Common.{◌≡◌, ◌≤◌, ◌<◌, ◌+◌, ℕ, List, [], ◌∷◌, ◌++◌, length, map, take, Option, inl, refl, sym, ◌∙◌, ap, subst, arith, append_assoc, length-append}
use Rattle.std.specs.Prelude.{◌⊎◌, None, Some}
use Rattle.std.proofs.lemmas.List.{append-nil, map-append, append_cancel_right}
use Rattle.std.proofs.lemmas.Grind.{flat_map-append}
use Rattle.std.specs.Io.KnownBytes.{Appends, Consumes}
use mathlib.Core.List.{IsPrefix}
use Rattle.pm_model.specs.Formed.{Each}
use Rattle.pm_model.specs.History.{replay}
use Rattle.pm_model.specs.Lines.{fit, shape, cut, event_of}
use Rattle.pm_model.specs.Solo.{asked_at}
use Rattle.pm_model.specs.State.{name_numbered}
use Rattle.pm_model.specs.Text.{text}
use Rattle.pm_model.specs.declared.requests.Entry.{Entry}
use Rattle.pm_laws.proofs.Items.{each-append}
use Rattle.pm_session.specs.Cuts.{joined}
use Rattle.pm_session.specs.Streams.{Streams, HasReplyRoom}
use Rattle.pm_session.proofs.Kept.{shape_from-line, shape-shape, shape-shape-append}
use Rattle.pm_session.proofs.FirstLine.{shape-rest}
use Rattle.pm_world.specs.Transcripts.{Exchange, reply_of, version_of, entries_in, Rises, IsTranscript}
use Rattle.pm_world.proofs.Prefixes.{prefix-take}
use Rattle.pm_world.proofs.Joined as join
use Rattle.pm_io.specs.Wires.{Wire, IsLater, IsQuiet}
use Rattle.pm_io.proofs.Known.{Appends-nil, Appends-append, Consumes-nil, Consumes-append, Consumes-kept}
use Rattle.pm_house.specs.Lanes.{Laned}
use Rattle.pm_house.specs.Seated.{Seated, Hears, Rests}
use Rattle.pm_model.specs.declared.requests.Body.{Body}
use Rattle.pm_model.specs.declared.requests.Body.TheVariants as body
use Rattle.pm_model.specs.declared.requests.Question.{Question}
use Rattle.pm_model.specs.declared.requests.Question.TheVariants as question
use Rattle.pm_model.specs.declared.requests.What.{What}
use Rattle.pm_model.specs.declared.requests.What.TheVariants as what
use Rattle.pm_worker.specs.Shares.{share_of, share_of_body, share_of_question, share_taken}
use Rattle.pm_worker.specs.Told.{Told, lines_of, exchanges_of, reply_line, reply_lines, longest_reply, IsAnswered, Tells}
use Rattle.pm_worker.specs.Answering.{Answers, StaysPut, Loses}
use Rattle.pm_worker.specs.Turns.{Sends, IsSent, IsClosed, Feeds, Starves, Turning, IsCaused, Serves}
use Rattle.pm_worker.specs.declared.turns.Turn.{Turn}
use Rattle.pm_worker.specs.declared.turns.Turn.TheVariants.{Idle, More, Ended, LinkFault, Memory}
use Rattle.pm_worker.proofs.Wiring.{later-self, later-then, failed-then, room-then, quiet-then}

-- ---- what was told

pub tells-rest : (Q : Type 0) (s t : Seated) → Rests s t → Tells Q s t []
tells-rest Q s t h = record {
  seat = ap (λ (l : Laned). l.seat) h.lane;
  share = ap (λ (l : Laned). l.share) h.lane ∙ omega arith;
  hears = h.hears;
  answered = tt;
}

share-both : (s : ℕ) (es fs : List Exchange) → length (entries_in s (es ++ fs)) ≡ length (entries_in s es) + length (entries_in s fs)
share-both s es fs = ap length (join.entries-in-append s es fs) ∙ length-append (entries_in s es) (entries_in s fs)

pub tells-then : (Q : Type 0) (s t u : Seated) (xs ys : List Told) → Tells Q s t xs → Tells Q t u ys → Tells Q s u (xs ++ ys)
tells-then Q s t u xs ys a b =
    let both_of : exchanges_of (xs ++ ys) ≡ exchanges_of xs ++ exchanges_of ys = map-append (λ (t : Told). t.exchange) xs ys in
    let next : IsTranscript s.lane.seat t.machine.history t.mark (exchanges_of ys) u.machine.history u.mark =
    subst (λ n. IsTranscript n t.machine.history t.mark (exchanges_of ys) u.machine.history u.mark) a.seat b.hears in
    let both : Hears s u (exchanges_of xs ++ exchanges_of ys) =
    join.joined s.lane.seat s.machine.history t.machine.history u.machine.history s.mark t.mark u.mark (exchanges_of xs) (exchanges_of ys) a.hears next in
    let size = share-both s.lane.seat (exchanges_of xs) (exchanges_of ys) in
    let here : u.lane.share ≡ t.lane.share + length (entries_in s.lane.seat (exchanges_of ys)) =
    b.share ∙ ap (λ n. t.lane.share + length (entries_in n (exchanges_of ys))) a.seat in
    let before = a.share in
    record {
      seat = b.seat ∙ a.seat;
      share = rw both_of (omega (arith, here, before, size));
      hears = rw both_of both;
      answered = each-append (IsAnswered Q) xs ys a.answered b.answered;
    }

-- ---- the lines that were told, in a longer history

pub low-high : (low high : ℕ) (es : List Exchange) → Rises low es high → low ≤ high
low-high low high [] h = h
low-high low high (e ∷ es) h = let next = low-high (version_of e) high es h.1 in omega (arith, h.0, next)

lines-later : (G H : List Entry) (low : ℕ) (ts : List Told) → IsPrefix G H → Rises low (exchanges_of ts) (length G) → reply_lines H ts ≡ reply_lines G ts
lines-later G H low [] p h = refl
lines-later G H low (t ∷ ts) p h =
    let v = version_of t.exchange in
    let within : v ≤ length G = low-high v (length G) (exchanges_of ts) h.1 in
    let same : take v H ≡ take v G = prefix-take G H v p within in
    let line : reply_line H t ≡ reply_line G t =
    ap (λ (l : List Entry). text (asked_at (event_of t.line)).id v (name_numbered (replay l).graph.elements) (reply_of t.exchange)) same in
    ap (λ (l : List ℕ). l ++ reply_lines H ts) line ∙ ap (λ (l : List ℕ). reply_line G t ++ l) (lines-later G H v ts p h.1)

-- ---- the lines that were answered

pub joined-append : (xs ys : List Told) → joined (lines_of (xs ++ ys)) ≡ joined (lines_of xs) ++ joined (lines_of ys)
joined-append xs ys =
    ap joined (map-append (λ (t : Told). t.line) xs ys) ∙ flat_map-append (λ (l : List ℕ). l ++ 10 ∷ []) (lines_of xs) (lines_of ys)

first-line : (line more y : List ℕ) → ((line ++ 10 ∷ []) ++ more) ++ y ≡ line ++ 10 ∷ (more ++ y)
first-line line more y = append_assoc (line ++ 10 ∷ []) more y ∙ append_assoc line (10 ∷ []) (more ++ y)

shape-joined : (Q : Type 0) (ts : List Told) (y : List ℕ) → Each (IsAnswered Q) ts → shape (joined (lines_of ts) ++ y) ≡ joined (map fit (lines_of ts)) ++ shape y
shape-joined Q [] y h = refl
shape-joined Q (t ∷ ts) y h =
    let J = joined (lines_of ts) in
    let K = joined (map fit (lines_of ts)) in
    let here : shape (t.line ++ 10 ∷ (J ++ y)) ≡ fit t.line ++ 10 ∷ shape (J ++ y) = shape_from-line [] t.line (10 ∷ (J ++ y)) h.0.plain in
    ap shape (first-line t.line J y)
    ∙ here
    ∙ ap (λ (l : List ℕ). fit t.line ++ 10 ∷ l) (shape-joined Q ts y h.1)
    ∙ sym (first-line (fit t.line) K (shape y))

-- lines that are kept stay so
joined-kept : (Q : Type 0) (ts : List Told) (w : List ℕ) → Each (IsAnswered Q) ts → shape w ≡ w → shape (joined (lines_of ts) ++ w) ≡ joined (lines_of ts) ++ w →
    joined (map fit (lines_of ts)) ≡ joined (lines_of ts)
joined-kept Q ts w h kept all =
    append_cancel_right (joined (map fit (lines_of ts))) (joined (lines_of ts)) w
    (ap (λ (l : List ℕ). joined (map fit (lines_of ts)) ++ l) (sym kept) ∙ sym (shape-joined Q ts w h) ∙ all)

pub input-fed : (Q : Type 0) (a got bytes w x : List ℕ) (ts : List Told) → Each (IsAnswered Q) ts → shape w ≡ w → shape (a ++ got) ≡ joined (lines_of ts) ++ w →
    x ≡ shape (w ++ bytes) → shape (a ++ (got ++ bytes)) ≡ joined (lines_of ts) ++ x
input-fed Q a got bytes w x ts h kept input is =
    let J = joined (lines_of ts) in
    let all : shape (J ++ w) ≡ J ++ w = ap shape (sym input) ∙ shape-shape (a ++ got) ∙ input in
    ap shape (sym (append_assoc a got bytes))
    ∙ sym (shape-shape-append (a ++ got) bytes)
    ∙ ap (λ (l : List ℕ). shape (l ++ bytes)) input
    ∙ ap shape (append_assoc J w bytes)
    ∙ shape-joined Q ts (w ++ bytes) h
    ∙ ap (λ (l : List ℕ). l ++ shape (w ++ bytes)) (joined-kept Q ts w h kept all)
    ∙ ap (λ (l : List ℕ). J ++ l) (sym is)

-- the last reply is no longer than the longest
longest-last : (G : List Entry) (ts : List Told) (t : Told) → length (reply_line G t) ≤ longest_reply G (ts ++ t ∷ [])
longest-last G [] t = omega arith
longest-last G (x ∷ xs) t = let h = longest-last G xs t in omega (arith, h)

-- each line takes something
question-some : (q : Question) → 0 < share_of_question q
question-some (question.Survey users) = omega arith
question-some (question.Caps user) = omega arith
question-some (question.Entries element) = omega arith
question-some (question.Kept review) = omega arith
question-some (question.Changes review) = omega arith

body-some : (b : Body) → 0 < share_of_body b
body-some body.Version = omega arith
body-some (body.OpenSession user) = omega arith
body-some (body.CloseSession session) = omega arith
body-some (body.StartProcess session) = omega arith
body-some (body.EndProcess process) = omega arith
body-some (body.Access process right target) = omega arith
body-some (body.Admin process command) = omega arith
body-some (body.Review process question) = question-some question

share-some : (w : What) → 0 < share_of w
share-some (what.Request request) = body-some request.body
share-some (what.Bad form) = omega arith

lines-least : (ts : List Told) → length ts ≤ share_taken ts
lines-least [] = omega arith
lines-least (t ∷ ts) = let one = share-some (asked_at (event_of t.line)).what in let others = lines-least ts in omega (arith, one, others)

share-append : (ts : List Told) (t : Told) → share_taken (ts ++ t ∷ []) ≡ share_taken ts + share_of (asked_at (event_of t.line)).what
share-append [] t = omega arith
share-append (x ∷ xs) t = let h = share-append xs t in omega (arith, h)

-- ---- steps

pub turning-begin : (Q : Type 0) (s : Seated) (a : Streams) (v : Wire) → Rests s s → shape a.waiting ≡ a.waiting → Turning Q s s a a v v 0 0
turning-begin Q s a v rests kept = record {
  told = [];
  got = [];
  sent = [];
  consumed = Consumes-nil v.left;
  appended = Appends-nil v.taken;
  later = later-self v;
  input = ap shape (append-nil a.waiting) ∙ kept;
  output = append-nil a.output;
  short = omega arith;
  tells = tells-rest Q s s rests;
  kept = kept;
  answered = refl;
  few = omega arith;
  read = refl;
}

pub turning-sent : (Q : Type 0) (s t : Seated) (a b c : Streams) (v w x : Wire) (n m : ℕ) → Turning Q s t a b v w n m → Sends w x b c → Turning Q s t a c v x n m
turning-sent Q s t a b c v w x n m h k = record {
  told = h.told;
  got = h.got;
  sent = h.sent ++ k.bytes;
  consumed = subst (λ (o : Option (List ℕ)). Consumes v.left o h.got) (sym k.left) h.consumed;
  appended = Appends-append v.taken w.taken x.taken h.sent k.bytes h.appended k.appended;
  later = later-then v w x h.later k.later;
  input = h.input ∙ ap (λ (l : List ℕ). joined (lines_of h.told) ++ l) (sym k.waiting);
  output = h.output ∙ ap (λ (l : List ℕ). h.sent ++ l) k.split ∙ sym (append_assoc h.sent k.bytes c.output);
  short = let before = h.short in let less = ap length k.split ∙ length-append k.bytes c.output in omega (arith, before, less);
  tells = h.tells;
  kept = ap shape k.waiting ∙ h.kept ∙ sym k.waiting;
  answered = h.answered;
  few = h.few;
  read = h.read;
}

pub turning-answered : (Q : Type 0) (s t u : Seated) (a b c : Streams) (v w : Wire) (n m k : ℕ) → Turning Q s t a b v w n m → n < 64 → HasReplyRoom b.output → Answers Q t u b c k → Turning Q s u a c v w (n + k) m
turning-answered Q s t u a b c v w n m takes h left room k =
    let one = k.told ∷ [] in
    let G = t.machine.history in
    let H = u.machine.history in
    let before : reply_lines H h.told ≡ reply_lines G h.told =
    lines-later G H (length s.machine.history) h.told k.tells.hears.grows h.tells.hears.rises in
    record {
      told = h.told ++ one;
      got = h.got;
      sent = h.sent;
      consumed = h.consumed;
      appended = h.appended;
      later = h.later;
      input =
          h.input
          ∙ ap (λ (l : List ℕ). joined (lines_of h.told) ++ l) (k.first.split ∙ sym (first-line k.told.line [] c.waiting))
          ∙ sym (append_assoc (joined (lines_of h.told)) (joined (lines_of one)) c.waiting)
          ∙ ap (λ (l : List ℕ). l ++ c.waiting) (sym (joined-append h.told one));
      output =
          ap (λ (l : List ℕ). a.output ++ l)
          (flat_map-append (reply_line H) h.told one ∙ ap (λ (l : List ℕ). l ++ reply_lines H one) before)
          ∙ sym (append_assoc a.output (reply_lines G h.told) (reply_lines H one))
          ∙ ap (λ (l : List ℕ). l ++ reply_lines H one) h.output
          ∙ append_assoc h.sent b.output (reply_lines H one)
          ∙ ap (λ (l : List ℕ). h.sent ++ (b.output ++ l)) (append-nil (reply_line H k.told))
          ∙ ap (λ (l : List ℕ). h.sent ++ l) (sym k.output);
      short =
          let last = longest-last H h.told k.told in
          let both = ap length k.output ∙ length-append b.output (reply_line H k.told) in
          omega (arith, room, last, both);
      tells = tells-then Q s t u h.told one h.tells k.tells;
      kept = shape-rest b.waiting k.told.line c.waiting k.first h.kept;
      answered =
          let both = share-append h.told k.told in
          let q = h.answered in
          let e = k.takes in
          omega (arith, both, q, e);
      few =
          let l = length-append h.told one in
          let least = lines-least h.told in
          let q = h.answered in
          omega (arith, l, least, q, left);
      read = h.read;
    }

-- no line waited
pub turning-stays : (Q : Type 0) (s t u : Seated) (a b c : Streams) (v w : Wire) (n m : ℕ) → Turning Q s t a b v w n m → StaysPut t u b c → Turning Q s u a c v w n m
turning-stays Q s t u a b c v w n m h k =
    subst (λ (x : Seated). Turning Q s x a c v w n m) (sym k.0) (subst (λ (x : Streams). Turning Q s t a x v w n m) (sym k.1) h)

pub turning-fed : (Q : Type 0) (s t : Seated) (a b c : Streams) (v w x : Wire) (n m k : ℕ) → Turning Q s t a b v w n m → Feeds w x b c k
    → x.taken ≡ w.taken → IsLater w x → c.output ≡ b.output → Turning Q s t a c v x n (m + k)
turning-fed Q s t a b c v w x n m k h feeds taken later same = record {
  told = h.told;
  got = h.got ++ feeds.bytes;
  sent = h.sent;
  consumed = Consumes-append v.left w.left x.left h.got feeds.bytes h.consumed feeds.consumed;
  appended = subst (λ (o : Option (List ℕ)). Appends v.taken o h.sent) (sym taken) h.appended;
  later = later-then v w x h.later later;
  input = input-fed Q a.waiting h.got feeds.bytes b.waiting c.waiting h.told h.tells.answered h.kept h.input feeds.pushed;
  output = h.output ∙ ap (λ (l : List ℕ). h.sent ++ l) (sym same);
  short = let before = h.short in let size = ap length same in omega (arith, before, size);
  tells = h.tells;
  kept = ap shape feeds.pushed ∙ shape-shape (b.waiting ++ feeds.bytes) ∙ sym feeds.pushed;
  answered = h.answered;
  few = h.few;
  read = let l = length-append h.got feeds.bytes in let q = h.read in let r = feeds.count in omega (arith, l, q, r);
}

-- a read that gave nothing
pub turning-unfed : (Q : Type 0) (s t : Seated) (a b c : Streams) (v w x : Wire) (n m : ℕ) → Turning Q s t a b v w n m → Starves w x b c
    → x.taken ≡ w.taken → IsLater w x → c.output ≡ b.output → Turning Q s t a c v x n m
turning-unfed Q s t a b c v w x n m h k taken later same = record {
  told = h.told;
  got = h.got;
  sent = h.sent;
  consumed = Consumes-kept v.left w.left x.left h.got h.consumed k.left;
  appended = subst (λ (o : Option (List ℕ)). Appends v.taken o h.sent) (sym taken) h.appended;
  later = later-then v w x h.later later;
  input = h.input ∙ ap (λ (l : List ℕ). joined (lines_of h.told) ++ l) (sym k.waiting);
  output = h.output ∙ ap (λ (l : List ℕ). h.sent ++ l) (sym same);
  short = let before = h.short in let size = ap length same in omega (arith, before, size);
  tells = h.tells;
  kept = ap shape k.waiting ∙ h.kept ∙ sym k.waiting;
  answered = h.answered;
  few = h.few;
  read = h.read;
}

-- ---- ends

pub serves-of : (Q : Type 0) (s t : Seated) (a b : Streams) (v w : Wire) (n m : ℕ) (turn : Turn) → Turning Q s t a b v w n m → n ≤ 127 → m ≤ 69632 → IsCaused turn b v w n m → Serves Q s t a b v w turn
serves-of Q s t a b v w n m turn h few short cause = record {
  told = h.told;
  got = h.got;
  sent = h.sent;
  lost = [];
  consumed = h.consumed;
  appended = h.appended;
  later = h.later;
  input = h.input;
  few = omega arith;
  plain = tt;
  none = λ _. refl;
  output = h.output;
  short = h.short;
  tells = h.tells;
  cause = subst (λ k. IsCaused turn b v w k (length h.got)) (sym h.answered) (subst (λ k. IsCaused turn b v w n k) (sym h.read) cause);
  lines_most = h.few;
  share_most = let q = h.answered in omega (arith, q, few);
  bytes_most = let q = h.read in omega (arith, q, short);
}

sent-cause : (b : Streams) (v w x : Wire) (n m : ℕ) (turn : Turn) → IsQuiet v w → IsSent w x b.output (Some turn) → IsCaused turn b v x n m
sent-cause b v w x n m Idle q h = inl (h.0, room-then v w x q h.1)
sent-cause b v w x n m More q h = absurd h
sent-cause b v w x n m Ended q h = absurd h
sent-cause b v w x n m LinkFault q h = failed-then v w x q h
sent-cause b v w x n m Memory q h = tt

closed-cause : (b : Streams) (v w x : Wire) (n m : ℕ) (turn : Turn) → IsQuiet v w → IsClosed w x b.output turn → (64 ≤ n) ⊎ (65536 ≤ m) → IsCaused turn b v x n m
closed-cause b v w x n m Idle q h share = inl (h.0, room-then v w x q h.1)
closed-cause b v w x n m More q h share = (share, h.0, quiet-then v w x q h.1)
closed-cause b v w x n m Ended q h share = absurd h
closed-cause b v w x n m LinkFault q h share = failed-then v w x q h
closed-cause b v w x n m Memory q h share = tt

-- the output couldn't be sent
pub serves-stopped : (Q : Type 0) (s t : Seated) (a b c : Streams) (v w x : Wire) (n m : ℕ) (turn : Turn) → Turning Q s t a b v w n m → IsQuiet v w → Sends w x b c
    → IsSent w x c.output (Some turn) → n ≤ 127 → m ≤ 69632 → Serves Q s t a c v x turn
serves-stopped Q s t a b c v w x n m turn h quiet sends why few short =
    serves-of Q s t a c v x n m turn (turning-sent Q s t a b c v w x n m h sends) few short (sent-cause c v w x n m turn quiet why)

-- the turn has had its share
pub serves-closed : (Q : Type 0) (s t : Seated) (a b c : Streams) (v w x : Wire) (n m : ℕ) (turn : Turn) → Turning Q s t a b v w n m → IsQuiet v w → Sends w x b c
    → IsClosed w x c.output turn → (64 ≤ n) ⊎ (65536 ≤ m) → n ≤ 127 → m ≤ 69632 → Serves Q s t a c v x turn
serves-closed Q s t a b c v w x n m turn h quiet sends why share few short =
    serves-of Q s t a c v x n m turn (turning-sent Q s t a b c v w x n m h sends) few short (closed-cause c v w x n m turn quiet why share)

-- there was no memory, and the output was sent as far as it went
pub serves-lost : (Q : Type 0) (s t u : Seated) (a b c d : Streams) (v w x : Wire) (n m : ℕ) → Turning Q s t a b v w n m → Rests t u → Loses b.waiting c.waiting
    → HasReplyRoom b.output → c.output ≡ b.output → Sends w x c d → n ≤ 127 → m ≤ 69632 → Serves Q s u a d v x Memory
serves-lost Q s t u a b c d v w x n m h rests loses room same k few short =
    let before : reply_lines u.machine.history h.told ≡ reply_lines t.machine.history h.told =
    lines-later t.machine.history u.machine.history (length s.machine.history) h.told rests.hears.grows h.tells.hears.rises in
    let all : Tells Q s u (h.told ++ []) = tells-then Q s t u h.told [] h.tells (tells-rest Q t u rests) in
    record {
      told = h.told;
      got = h.got;
      sent = h.sent ++ k.bytes;
      lost = loses.lines;
      consumed = subst (λ (o : Option (List ℕ)). Consumes v.left o h.got) (sym k.left) h.consumed;
      appended = Appends-append v.taken w.taken x.taken h.sent k.bytes h.appended k.appended;
      later = later-then v w x h.later k.later;
      input =
          h.input ∙ ap (λ (l : List ℕ). joined (lines_of h.told) ++ l)
          (loses.split ∙ ap (λ (l : List ℕ). joined loses.lines ++ l) (sym k.waiting));
      few = loses.few;
      plain = loses.plain;
      none = λ no. absurd (no refl);
      output =
          ap (λ (l : List ℕ). a.output ++ l) before ∙ h.output
          ∙ ap (λ (l : List ℕ). h.sent ++ l) (sym same ∙ k.split) ∙ sym (append_assoc h.sent k.bytes d.output);
      short = let less = sym (ap length same) ∙ ap length k.split ∙ length-append k.bytes d.output in omega (arith, room, less);
      tells = subst (Tells Q s u) (append-nil h.told) all;
      cause = tt;
      lines_most = h.few;
      share_most = let q = h.answered in omega (arith, q, few);
      bytes_most = let q = h.read in omega (arith, q, short);
    }

pub drained-after : (s t : Seated) (a b : Streams) (now : List ℕ) → StaysPut s t a b → now ≡ b.waiting → cut now ≡ None
drained-after s t a b now k is = ap cut is ∙ ap (λ (x : Streams). cut x.waiting) k.1 ∙ k.2
