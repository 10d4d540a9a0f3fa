use Rattle.std.proofs.Common.{◌≡◌, length, take}
use Rattle.cacheless.specs.Schedule.{AreLooksTrue}
use Rattle.check_tool.specs.Turning.{TellPlaces}
use Rattle.check_tool.proofs.looking.true_looks.Given as goal

abbrev pub invariant-loop-at : goal.invariant-loop-at
invariant-loop-at l = record {
  looks : AreLooksTrue (take l.at l.entries);
  tell : TellPlaces (take l.at l.entries) l.queue.published l.queue.places.items;
  count : length l.queue.places.items ≡ l.backends;
}
