-- The tables as one graph.
use Rattle.pm_model.specs.State.{Graph}
use Rattle.pm_model.specs.Decision.{associations_of}
use Rattle.pm_state.specs.declared.tables.Tables.{Tables}

abbrev pub graph_of : Tables → Graph
graph_of t =
    record {
      elements = t.diagram.elements;
      assigned = t.diagram.assigned;
      associations = associations_of t.assoc.grantees;
      prohibitions = t.deny.items;
      obligations = t.oblig.items;
      rights = t.rights;
      procs = t.procs.procs;
      kept = t.kept;
    }
