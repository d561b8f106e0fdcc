-- The grants of the user attributes of the word come to the others.
use Rattle.std.proofs.Common.{ℕ, Bool, Option, ◌+◌, ◌||◌, refl, sym, ap, ◌∙◌}
use Rattle.pm_decide.specs.Hits.{in_word, some_of}
use Rattle.pm_decide.proofs.Hits.{from_word, words-begun, words-done, word-step}
use Rattle.pm_given.specs.Given.{is_at, some_at}
use Rattle.pm_given.specs.Told.{tells}
use Rattle.pm_given.proofs.Grants.{given-any}
use Rattle.pm_given.proofs.Tells.{joins-more, joins-done}
use Rattle.pm_given.proofs.puts.put_given.Goals as goal

pub loop-k-init : goal.loop-k-init
loop-k-init g c =
    let below = (g.R.Reach.relation c.args.reach.now).below in
    let all = g.G.Grants.grantees c.args.grants.now in
    record {
      same = refl;
      own = refl;
      marks = refl;
      told = λ q p. ap (λ b. tells c.args.own.now c.args.marks.now q p || b)
          (sym (words-begun below c.args.user (some_at q p) all) ∙ given-any below c.args.user (is_at q p) all);
    }

pub loop-k-preserved : goal.loop-k-preserved
loop-k-preserved g c =
    let below = (g.R.Reach.relation c.args.reach.now).below in
    let all = g.G.Grants.grantees c.args.grants.now in
    let k = c.loop-k.k in
    record {
      same = c.holders_above-word.ensures.same ∙ c.loop-k.invariant.same;
      own = c.put_word.ensures.own ∙ c.loop-k.invariant.own;
      marks = c.put_word.ensures.marks ∙ c.loop-k.invariant.marks;
      told = λ q p. joins-more (tells c.loop-k.own c.loop-k.marks q p) (some_of (in_word k c.holders_above-word.result) (some_at q p) all)
          (some_of (from_word below c.args.user (k + 1)) (some_at q p) all) (some_of (from_word below c.args.user k) (some_at q p) all) _ _
          (c.loop-k.invariant.told q p)
          (word-step below c.args.user (some_at q p) all k c.holders_above-word.result (rw c.loop-k.invariant.same at c.holders_above-word.ensures.hits))
          (c.put_word.ensures.told q p);
    }

pub returns-clause-told : goal.returns-clause-told
returns-clause-told g c = λ q p.
    let below = (g.R.Reach.relation c.args.reach.now).below in
    let all = g.G.Grants.grantees c.args.grants.now in
    joins-done (tells c.loop-k.own c.loop-k.marks q p) (some_of (from_word below c.args.user c.loop-k.k) (some_at q p) all) _ (c.loop-k.invariant.told q p)
    (words-done below c.args.user (some_at q p) all c.holder_words-k-end.result c.loop-k.k c.holder_words-k-end.ensures.within c.loop-k-test.false)
