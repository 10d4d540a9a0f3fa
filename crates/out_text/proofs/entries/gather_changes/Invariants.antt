use Rattle.std.proofs.Common.{◌≡◌, take}
use Rattle.std.specs.List.{All}
use Rattle.edge_io.specs.Gathered.{gathered}
use Rattle.event_kinds.specs.Entries.{IsItem}
use Rattle.event_kinds.specs.Texts.{changes_text}
use Rattle.out_text.proofs.Gathered.{GatheredSoFar}
use Rattle.out_text.proofs.entries.gather_changes.Given as goal

abbrev pub invariant-loop-change : goal.invariant-loop-change
invariant-loop-change g l = record {
  so_far : GatheredSoFar (gathered g.K.Sink.taken l.fn.out) (gathered g.K.Sink.taken l.out) (changes_text (take l.change-index l.changes));
  steady : g.K.Sink.faults l.out.sink.now ≡ g.K.Sink.faults l.fn.out.sink.now;
  typed : All IsItem (take l.change-index l.changes);
}
