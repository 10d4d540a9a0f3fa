use Rattle.std.proofs.Common.{◌≡◌, take}
use Rattle.std.specs.List.{All}
use Rattle.edge_io.specs.Gathered.{gathered}
use Rattle.event_kinds.specs.Texts.{entries_text}
use Rattle.out_text.specs.Typed.{IsTyped}
use Rattle.out_text.proofs.Gathered.{GatheredSoFar}
use Rattle.out_text.proofs.entries.gather_entries.Given as goal

abbrev pub invariant-loop-entry : goal.invariant-loop-entry
invariant-loop-entry g l = record {
  so_far : GatheredSoFar (gathered g.K.Sink.taken l.fn.out) (gathered g.K.Sink.taken l.out) (entries_text (take l.entry-index l.history));
  steady : g.K.Sink.faults l.out.sink.now ≡ g.K.Sink.faults l.fn.out.sink.now;
  typed : All IsTyped (take l.entry-index l.history);
}
