-- A worker's turns, one after another.
use Rattle.std.proofs.Common.{◌≡◌, ℕ, List, [], ◌∷◌, ◌++◌, refl, ◌∙◌, ap, sym, subst}
use Rattle.std.proofs.lemmas.List.{append-nil}
use Rattle.std.proofs.lemmas.Grind.{flat_map-append}
use Rattle.pm_model.specs.Formed.{Each}
use Rattle.pm_session.specs.Streams.{Streams}
use Rattle.pm_io.specs.Wires.{Wire}
use Rattle.pm_house.specs.Seated.{Seated, Rests}
use Rattle.pm_worker.specs.Feeding.{Given, IsGiven, AreGiven, told_in, Works, WorksAndMeets}
use Rattle.pm_worker.specs.Told.{Told, IsAnswered, Tells}
use Rattle.pm_worker.specs.Turns.{Serves}
use Rattle.pm_worker.specs.declared.turns.Turn.{Turn}
use Rattle.pm_worker.proofs.Turning.{tells-rest, tells-then}

-- ---- whatever the keeper does

each-any : (Q : Type 0) (ts : List Told) → Each (IsAnswered Q) ts → Each (IsAnswered ⊥) ts
each-any Q [] h = tt
each-any Q (t ∷ ts) h = (record { plain = h.0.plain; asked = h.0.asked; no_fault = λ none. absurd none }, each-any Q ts h.1)

tells-any : (Q : Type 0) (s t : Seated) (ts : List Told) → Tells Q s t ts → Tells ⊥ s t ts
tells-any Q s t ts h = record { seat = h.seat; share = h.share; hears = h.hears; answered = each-any Q ts h.answered }

pub serves_any : (Q : Type 0) (s t : Seated) (a b : Streams) (v w : Wire) (turn : Turn) → Serves Q s t a b v w turn → Serves ⊥ s t a b v w turn
serves_any Q s t a b v w turn h = record {
  told = h.told;
  got = h.got;
  sent = h.sent;
  lost = h.lost;
  consumed = h.consumed;
  appended = h.appended;
  later = h.later;
  input = h.input;
  few = h.few;
  plain = h.plain;
  none = h.none;
  output = h.output;
  short = h.short;
  tells = tells-any Q s t h.told h.tells;
  cause = h.cause;
  lines_most = h.lines_most;
  share_most = h.share_most;
  bytes_most = h.bytes_most;
}

-- ---- one turn more

pub works_still : (Q : Type 0) (s : Seated) → Rests s s → Works Q s s
works_still Q s h = record { turns = []; given = refl; tells = tells-rest Q s s h }

given-then : (Q : Type 0) (s t u : Seated) (xs : List Given) (x : Given) → AreGiven Q s t xs → IsGiven Q t u x → AreGiven Q s u (xs ++ x ∷ [])
given-then Q s t u [] x h g = (u, subst (λ (m : Seated). IsGiven Q m u x) h g, refl)
given-then Q s t u (y ∷ ys) x h g = (h.0, h.1, given-then Q h.0 t u ys x h.2 g)

told-then : (xs : List Given) (x : Given) → told_in (xs ++ x ∷ []) ≡ told_in xs ++ x.told
told-then xs x = flat_map-append (λ (y : Given). y.told) xs (x ∷ []) ∙ ap (λ (l : List Told). told_in xs ++ l) (append-nil x.told)

pub works_turn : (Q : Type 0) (s t u : Seated) (a b : Streams) (v w : Wire) (turn : Turn) → Works Q s t → Serves Q t u a b v w turn → Works Q s u
works_turn Q s t u a b v w turn k h =
    let x : Given = record { before = a; now = b; link_before = v; link_now = w; turn = turn; told = h.told } in
    record {
      turns = k.turns ++ x ∷ [];
      given = given-then Q s t u k.turns x k.given (record { serves = h; lines = refl });
      tells = subst (Tells Q s u) (sym (told-then k.turns x)) (tells-then Q s t u (told_in k.turns) h.told k.tells h.tells);
    }

-- ---- and a meeting

pub meets_after : (Q : Type 0) (s t u : Seated) → Works Q s t → Rests t u → WorksAndMeets Q s u
meets_after Q s t u k r = record {
  worked = t;
  works = k;
  rests = r;
  tells = subst (Tells Q s u) (append-nil (told_in k.turns)) (tells-then Q s t u (told_in k.turns) [] k.tells (tells-rest Q t u r));
}
