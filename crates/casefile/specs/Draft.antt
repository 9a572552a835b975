-- A draft, as what lines have said.
use Rattle.std.specs.Prelude.{Ok, Err, vec_items, Result}
use Rattle.casetext.specs.declared.fault.TextFault.{TextFault}
use Rattle.casetext.specs.Lines.{Said}
use Rattle.casefile.specs.declared.draft.Draft.{Draft}

abbrev pub said : Draft → Said
said d =
    record {
      ceilings = vec_items d.ceilings.items;
      locations = vec_items d.locations.items;
      edges = vec_items d.edges.items;
      rows = vec_items d.rows.items;
      ranks = vec_items d.ranks.items;
    }

-- what a call answers that adds to a draft
abbrev pub answered : Result (Unit {0}) TextFault → Said → Result Said TextFault
answered (Ok u) s = Ok s
answered (Err e) s = Err e
