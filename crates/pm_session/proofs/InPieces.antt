-- A stream that comes in pieces.
use Rattle.std.proofs.Common.{◌≡◌, ℕ, List, [], ◌∷◌, ◌++◌, sym, ◌∙◌, ap, append_assoc, append-nil}
use Rattle.std.specs.List.{concat}
use Rattle.pm_model.specs.Lines.{events, shape}
use Rattle.pm_session.specs.Pieces.{pushed_all}
use Rattle.pm_session.proofs.Kept.{shape-shape-append, events-shape}

-- pushing the pieces one after another keeps what pushing them at once does
pub pushed_all-shape : (begun : List ℕ) (pieces : List (List ℕ)) → pushed_all (shape begun) pieces ≡ shape (begun ++ concat pieces)
pushed_all-shape begun [] = ap shape (sym (append-nil begun))
pushed_all-shape begun (piece ∷ pieces) =
    ap (λ w. pushed_all w pieces) (shape-shape-append begun piece) ∙ pushed_all-shape (begun ++ piece) pieces
    ∙ ap shape (append_assoc begun piece (concat pieces))

-- so two ways to cut the same bytes into pieces keep the same
pub pushed_all-alike : (begun : List ℕ) (pieces others : List (List ℕ)) → concat pieces ≡ concat others
    → pushed_all (shape begun) pieces ≡ pushed_all (shape begun) others
pushed_all-alike begun pieces others same =
    pushed_all-shape begun pieces ∙ ap (λ l. shape (begun ++ l)) same ∙ sym (pushed_all-shape begun others)

-- and there are the same events
pub events-pushed_all : (begun : List ℕ) (pieces : List (List ℕ)) → events (pushed_all (shape begun) pieces) ≡ events (begun ++ concat pieces)
events-pushed_all begun pieces = ap events (pushed_all-shape begun pieces) ∙ events-shape (begun ++ concat pieces)
