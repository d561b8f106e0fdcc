-- The examples, computed.
use Rattle.std.proofs.Common.{◌≡◌, [], ◌∷◌, Ok, Err, Some, None, true, false, refl, arith}
use Rattle.pm_model.specs.State.{root}
use Rattle.pm_model.specs.Sessions.{session}
use Rattle.pm_model.specs.Containment.{contained}
use Rattle.pm_model.specs.Words.{word_text}
use Rattle.pm_model.specs.RightSet.{opening_rights, commands}
use Rattle.pm_model.specs.Effect.{effect}
use Rattle.pm_model.specs.Formed.{Each, IsWellFormed, IsNamed}
use Rattle.pm_laws.specs.Examples.{staffed, held, made, refused, refused_at_work, refused_at_watch, watching, watch, refused_at_review, keeping, of_ann, of_chart, in_use, wards, ruled, unformed}
use Rattle.pm_model.specs.Authority.{ruling}
use Rattle.pm_model.specs.declared.requests.Change.TheVariants.{Delete}
use Rattle.pm_model.specs.declared.replies.Refusal.TheVariants.{InUse}

pub examples_made : Each (λ row. IsNamed row.0 row.1 × (effect row.0 row.1 ≡ Ok row.2)) made
unfolding contained opening_rights commands word_text
examples_made = (((refl, refl), refl), (((refl, refl), refl), (((refl, refl), refl), (((refl, refl), refl), (((refl, refl), refl), (((refl, refl), refl), (((refl, refl), refl), (((refl, refl, omega arith), refl), (((refl, refl), refl), ((refl, refl), ((refl, refl), ((refl, refl), (((refl, omega arith), refl), ((omega arith, refl), (((refl, (refl, tt), tt, omega arith), refl), (((refl, (refl, tt), tt, omega arith), refl), ((tt, refl), ((tt, refl), ((omega arith, refl), (((refl, refl, refl), refl), (((refl, tt, tt), refl), ((omega arith, refl), ((refl, refl), ((refl, refl), ((refl, refl), ((refl, refl), ((refl, refl), ((refl, refl), ((refl, refl), ((tt, refl), tt))))))))))))))))))))))))))))))

pub examples_refused : Each (λ row. effect staffed row.0 ≡ Err row.1) refused
unfolding contained
examples_refused = (refl, (refl, (refl, (refl, (refl, (refl, (refl, (refl, (refl, (refl, (refl, (refl, (refl, (refl, (refl, (refl, (refl, tt)))))))))))))))))

pub examples_refused_at_work : Each (λ row. effect held row.0 ≡ Err row.1) refused_at_work
unfolding opening_rights commands word_text
examples_refused_at_work = (refl, (refl, (refl, (refl, (refl, (refl, (refl, (refl, (refl, (refl, (refl, (refl, (refl, tt)))))))))))))

pub examples_refused_at_watch : Each (λ row. effect (watching (watch ∷ [])) row.0 ≡ Err row.1) refused_at_watch
unfolding contained
examples_refused_at_watch = (refl, (refl, (refl, (refl, (refl, tt)))))

pub examples_refused_at_review : Each (λ row. effect (keeping (of_ann ∷ of_chart ∷ [])) row.0 ≡ Err row.1) refused_at_review
unfolding contained
examples_refused_at_review = (refl, (refl, (refl, (refl, (refl, tt)))))

pub examples_in_use : Each (λ G. effect G (Delete 4) ≡ Err InUse) in_use
unfolding contained opening_rights
examples_in_use = (refl, (refl, (refl, (refl, (refl, (refl, tt))))))

pub examples_ruled : Each (λ row. ruling wards row.0 row.1 row.2 ≡ row.3) ruled
unfolding contained opening_rights
examples_ruled = (refl, (refl, (refl, (refl, (refl, (refl, (refl, (refl, (refl, (refl, (refl, tt)))))))))))

pub examples_unformed : Each (λ G. IsWellFormed G → ⊥) unformed
unfolding contained opening_rights
examples_unformed = (
  λ f. f.assigned.acyclic 3 4 (3 ∷ []) ((4, omega arith, refl), ((3, omega arith, refl), refl)),
  (
    λ f. let no : false ≡ true = f.assigned.classes.1.1.1.0 in cc,
    (
      λ f. let no : true ≡ false = f.assigned.once.1.1.0 in cc,
      (
        λ f. let no : false ≡ true = f.assigned.kinds.1.1.0 in cc,
        (
          λ f. let no : false ≡ true = f.assigned.kinds.1.1.1.0 in cc,
          (
            λ f. let no = f.elements.rising.1.1.1.1.0 in omega arith,
            (
              λ f. let no : true ≡ false = f.elements.named.1.1.1.0 in cc,
              (
                λ f. let no : false ≡ true = f.opening.assigned.1.0 in cc,
                (
                  λ f. let no = f.associations.named.0 in omega arith,
                  (
                    λ f. let no : true ≡ false = f.prohibitions.once.0 in cc,
                    (
                      λ f. let no : false ≡ true = f.prohibitions.each.0.subject in cc,
                      (
                        λ f. let no : true ≡ false = f.prohibitions.each.0.ranged in cc,
                        (
                          λ f. let no : true ≡ false = f.obligations.once.0 in cc,
                          (
                            λ f. let no : false ≡ true = f.obligations.each.0.author in cc,
                            (
                              λ f. let no : false ≡ true = f.obligations.each.0.user in cc,
                              (
                                λ f. let no : false ≡ true = f.obligations.each.0.target in cc,
                                (
                                  λ f. let no : true ≡ false = f.kept.once.0 in cc,
                                  (
                                    λ f. let no = f.kept.numbered.1.0 in omega arith,
                                    (
                                      λ f. let no = f.kept.numbered.1 in omega arith,
                                      (
                                        λ f. let no : false ≡ true = f.kept.each.0.live in cc,
                                        (
                                          λ f. let no : false ≡ true = f.kept.each.0.kinds in cc,
                                          (
                                            λ f. let no : false ≡ true = f.procs.in_sessions.1.0 in cc,
                                            (
                                              λ f. let no : false ≡ true = f.procs.users.1.0 in cc,
                                              (
                                                λ f. let no : false ≡ true = f.procs.users.1.0 in cc,
                                                (
                                                  λ f. let no : false ≡ true = f.procs.users.1.0 in cc,
                                                  (
                                                    λ f. let no = f.procs.numbered.sessions.1.1 in omega arith,
                                                    (
                                                      λ f. let no : None ≡ Some (session 0 root) = f.procs.opening_session in cc,
                                                      (
                                                        λ f. let no : true ≡ false = f.rights.once.0 in cc,
                                                        tt,
                                                      ),
                                                    ),
                                                  ),
                                                ),
                                              ),
                                            ),
                                          ),
                                        ),
                                      ),
                                    ),
                                  ),
                                ),
                              ),
                            ),
                          ),
                        ),
                      ),
                    ),
                  ),
                ),
              ),
            ),
          ),
        ),
      ),
    ),
  ),
)
