-- The responses so far have made the graph, and their work is counted.
use Rattle.std.proofs.Common.{◌≡◌, ◌+◌, take, Ok}
use Rattle.pm_affect.specs.Counting.{Work, capped}
use Rattle.pm_runner.specs.Turns.{responded_by, work_responded_by}
use Rattle.pm_runner.proofs.running.run_responses.Given as goal

abbrev pub invariant-loop-i : goal.invariant-loop-i
invariant-loop-i g l =
    let occasion = g.A.Acts.occasion l.fn.acts in
    record {
      same : g.A.Acts.occasion l.acts ≡ occasion;
      history : g.A.Acts.history l.acts ≡ g.A.Acts.history l.fn.acts;
      short : g.A.Acts.short l.acts ≡ g.A.Acts.short l.fn.acts;
      made : responded_by occasion (g.A.Acts.graph l.fn.acts) (take l.i occasion.obligations) ≡ Ok (g.A.Acts.graph l.acts);
      done : (w : Work) → capped (g.A.Acts.done l.acts w)
          ≡ capped (g.A.Acts.done l.fn.acts w + work_responded_by w occasion (g.A.Acts.graph l.fn.acts) (take l.i occasion.obligations));
    }
