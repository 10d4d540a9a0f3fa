use Rattle.std.proofs.Common.{◌≡◌, ℕ, List, [], take, drop, Bor}
use Rattle.std.specs.List.{list_any}
use Rattle.std.specs.Str.{bytes_eq}
use Rattle.std.specs.Ordering.{nat_cmp}
use Rattle.std.specs.Cmp.Lexicographic.{slice_cmp}
use Rattle.std.specs.BTreeSet.{contains}
use Rattle.ddl_effect.specs.Commands.{first_twice}
use Rattle.ddl_effect.proofs.table.first_twice.Given as goal

abbrev pub invariant-loop-name : goal.invariant-loop-name
invariant-loop-name l = record {
  first : first_twice [] l.names ≡ first_twice (take l.name-index l.names) (drop l.name-index l.names);
  seen : (q : Bor (List ℕ)) → contains (λ x y. slice_cmp nat_cmp x.now y.now) l.seen q ≡ list_any (bytes_eq q.now) (take l.name-index l.names);
}
