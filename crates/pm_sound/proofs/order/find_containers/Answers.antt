use Rattle.std.proofs.Common.{◌≡◌, ◌∙◌, ap, sym, [], ◌∷◌, length, replicate}
use Rattle.std.proofs.lemmas.List.{length-map}
use Rattle.pm_order.specs.Ranked.{containers, containers_of}
use Rattle.pm_order.proofs.Placed.{containers_none}
use Rattle.pm_policy.specs.Sound.{opening_pairs}
use Rattle.pm_sound.proofs.order.find_containers.Goals as goal

pub tie-requires-2-clause-count : goal.tie-requires-2-clause-count
tie-requires-2-clause-count c =
    let es = c.args.standing.now in
    let none = c.in_ok-containers.ensures ∙ ap (λ n. replicate n []) c.len.ensures ∙ sym (containers_none es es) in
    ap length (c.in_ok-tie.ensures.lists [] none) ∙ length-map es (containers_of es (c.assignment.result ∷ c.assignment-2.result ∷ []))

pub returns-clause-lists : goal.returns-clause-lists
returns-clause-lists c =
    let es = c.args.standing.now in
    let none = c.in_ok-containers.ensures ∙ ap (λ n. replicate n []) c.len.ensures ∙ sym (containers_none es es) in
    let class = c.assignment.ensures in
    let root = c.assignment-2.ensures in
    let opening : c.assignment.result ∷ c.assignment-2.result ∷ [] ≡ opening_pairs = cc in
    c.in_ok-tie-2.ensures.lists opening_pairs (c.in_ok-tie.ensures.lists [] none ∙ ap (λ l. containers es l) opening)
