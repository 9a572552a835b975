use Rattle.std.proofs.Common.{◌<◌, length, arith}
use Rattle.ranker.proofs.Noting.{noted_same, noted_more, room, differs, agrees}
use Rattle.ranker.proofs.notes.NotesVisitor.visit.Goals as goal

pub push_reserved-requires : goal.push_reserved-requires
push_reserved-requires c =
    let self = c.args.self.now in
    let lt : length self.scratch.arcs.items < 8388608 =
    room c.args._rows c.requires.0 self.scratch.arcs.items self.stamps c.args.passage c.requires.1.0 c.requires.1.1 (differs _ _ c.if-ne.ensures) in
    omega (arith, self.scratch.arcs.ok.0, self.scratch.room)

pub returns-then-ne-clause-seen : goal.returns-then-ne-clause-seen
returns-then-ne-clause-seen c = λ before was next.
    rw c.push_reserved.ensures.items (noted_more c.args._rows before c.args.self.now.scratch.arcs.items c.args.self.now.stamps c.args.passage was next (differs _ _ c.if-ne.ensures))

pub returns-else-ne-clause-seen : goal.returns-else-ne-clause-seen
returns-else-ne-clause-seen c = λ before was next.
    noted_same c.args._rows before c.args.self.now.scratch.arcs.items c.args.self.now.stamps c.args.passage was next (agrees _ _ c.if-ne.ensures)
