-- The actions so far have made the graph, and their work is counted.
use Rattle.std.proofs.Common.{◌≡◌, ◌+◌, take, Ok}
use Rattle.pm_affect.specs.Counting.{Work, capped}
use Rattle.pm_runner.specs.Turns.{obliged, work_obliged}
use Rattle.pm_runner.proofs.running.run_obligation.Given as goal

abbrev pub invariant-loop-i : goal.invariant-loop-i
invariant-loop-i g l =
    let occasion = g.A.Acts.occasion l.fn.acts in
    record {
      same : g.A.Acts.occasion l.acts ≡ occasion;
      history : g.A.Acts.history l.acts ≡ g.A.Acts.history l.fn.acts;
      short : g.A.Acts.short l.acts ≡ g.A.Acts.short l.fn.acts;
      made : obliged occasion l.obligation (l.index + 1) (g.A.Acts.graph l.fn.acts) (take l.i l.obligation.response)
          ≡ Ok (g.A.Acts.graph l.acts);
      done : (w : Work) → capped (g.A.Acts.done l.acts w)
          ≡ capped (g.A.Acts.done l.fn.acts w + work_obliged w occasion l.obligation (l.index + 1) (g.A.Acts.graph l.fn.acts) (take l.i l.obligation.response));
    }
