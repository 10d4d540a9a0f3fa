-- How the code says how a command ends.
use Rattle.cacheless.specs.Ends.{End, Ends, Commits, TakesBack}
use Rattle.cacheless.specs.declared.ending.Ending.{Ending}
use Rattle.cacheless.specs.declared.ending.Ending.TheVariants as endings

-- the end of a command
abbrev pub end_of_ending : Ending → End
end_of_ending endings.Ends = Ends
end_of_ending (endings.Commits first) = Commits first
end_of_ending (endings.TakesBack from) = TakesBack from
