use Rattle.std.proofs.Common.{◌≡◌, ◌++◌, ◌≤◌, ◌-◌, ℕ, List, length, insert, sym, ap, ◌∙◌, arith}
use Rattle.std.proofs.lemmas.List.{take-append-drop}
use Rattle.std.proofs.lemmas.List.Edits.{insert-append_right}
use Rattle.pm_pages.proofs.pages.halves_with.Goals as goal

-- the second half with one item more
behind : {A : Type 0} (first second items : List A) (m j : ℕ) (x : A) → first ++ second ≡ items → length first ≡ m → m ≤ j → first ++ insert second (j - m) x ≡ insert items j x
behind first second items m j x whole len h = sym (insert-append_right first second m j x len h) ∙ ap (λ xs. insert xs j x) whole

pub returns : goal.returns
returns g c =
    let h = c.split_at.ensures in
    rw (c.in_ok-first-2.ensures, c.in_ok-second-2.ensures)
    (behind c.split_at.result.0.now c.split_at.result.1.now c.args.items.now _ c.args.j c.args.item
    (rw (h.front, h.back) (take-append-drop _ c.args.items.now)) h.front_len (omega (arith, c.if-j-middle.false)))
