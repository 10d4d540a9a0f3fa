use Rattle.std.proofs.Common.{◌≡◌, take}
use Rattle.std.specs.List.{All}
use Rattle.edge_io.specs.Gathered.{gathered}
use Rattle.event_kinds.specs.Entries.{IsLine}
use Rattle.event_kinds.specs.Texts.{lines_text}
use Rattle.out_text.proofs.Gathered.{GatheredSoFar}
use Rattle.out_text.proofs.lines.gather_lines.Given as goal

abbrev pub invariant-loop-line : goal.invariant-loop-line
invariant-loop-line g l = record {
  so_far : GatheredSoFar (gathered g.K.Sink.taken l.fn.out) (gathered g.K.Sink.taken l.out) (lines_text (take l.line-index l.lines));
  steady : g.K.Sink.faults l.out.sink.now ≡ g.K.Sink.faults l.fn.out.sink.now;
  typed : All IsLine (take l.line-index l.lines);
}
