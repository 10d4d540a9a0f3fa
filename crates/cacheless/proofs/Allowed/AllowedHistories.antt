-- An allowed history is sound, its writes keep columns in order and names apart, and each of its backends is on its course.
use Rattle.std.proofs.Common.{ℕ, List, [], ◌∷◌, ◌++◌, refl}
use Rattle.history_model.specs.MayFollow.{MayFollow}
use Rattle.history_model.specs.Legal.{IsLegal}
use Rattle.history_model.specs.Sound.{MayComeNext, IsSound}
use Rattle.history_model.specs.Read.{ScansOnlyIfNeeded, IsEconomical}
use Rattle.history_model.proofs.Allows.{legal_follows}
use Rattle.history_model.proofs.Prefixes.{EachEntry-more, EachEntry-weaker, EachFrom-both, each-keeps}
use Rattle.cacheless.specs.Types.{Scenario, Entry, CheckKind}
use Rattle.cacheless.specs.OnCourse.{AllOnCourse}
use Rattle.cacheless.specs.Played.{AreSpelled, IsPlayed}
use Rattle.cacheless.specs.Plays.{IsNext, Plays}
use Rattle.cacheless.specs.Output.{IsAllowed, IsOutput}
use Rattle.cacheless.specs.TableWrites.{WritesColumns, WritesIndexes, WritesNamesApart}
use Rattle.cacheless.proofs.Allowed.Economical.{plays_needed}
use Rattle.cacheless.proofs.Allowed.NextKeeps.{KeepsAllBy, next_keeps}
use Rattle.cacheless.proofs.Allowed.NextOnCourse.{all_stay}

-- a played history whose backends are on their courses stays so with each entry that it allows and that its backend may do next
pub played_more : (scenario : Scenario) (history : List Entry) (e : Entry) → IsPlayed scenario history → AllOnCourse scenario history → MayFollow history e → IsNext scenario history e → IsPlayed scenario (history ++ e ∷ []) × AllOnCourse scenario (history ++ e ∷ [])
played_more scenario history e played courses follows next = (later, all_stay scenario history e later (record { sound = played.sound; comes = comes; columns = played.columns; keeps = kept.columns }) next courses)
  where
    kept : KeepsAllBy history e.backend e.event
    kept = next_keeps scenario history e played courses next

    comes : MayComeNext history e
    comes = record { follows = follows; orderly = kept.orderly }

    later : IsPlayed scenario (history ++ e ∷ [])
    later = record {
      sound = EachEntry-more MayComeNext history e played.sound comes;
      plays = EachEntry-more (IsNext scenario) history e played.plays next;
      columns = EachEntry-more WritesColumns history e played.columns kept.columns;
      indexes = EachEntry-more WritesIndexes history e played.indexes kept.indexes;
      names = EachEntry-more WritesNamesApart history e played.names kept.names;
      spelled = played.spelled;
    }

-- nothing is played
pub played_start : (scenario : Scenario) → AreSpelled scenario → IsPlayed scenario [] × AllOnCourse scenario []
played_start scenario spelled = (record { sound = tt; plays = tt; columns = tt; indexes = tt; names = tt; spelled = spelled }, λ b c. refl)

-- a legal history in which backends do what the commands of a script say is played, and each is on its course
pub plays_on_course : (scenario : Scenario) (history : List Entry) → AreSpelled scenario → IsLegal history → Plays scenario history → IsPlayed scenario history × AllOnCourse scenario history
plays_on_course scenario history spelled legal plays =
    each-keeps (λ before e. MayFollow before e × IsNext scenario before e) (λ h. IsPlayed scenario h × AllOnCourse scenario h) (played_start scenario spelled) (λ before e k may. played_more scenario before e k.0 k.1 may.0 may.1) history
    (EachFrom-both MayFollow (IsNext scenario) [] history (legal_follows history legal) plays)

-- a history in which backends do what their commands say is economical: nobody scans again what it may still rely on
pub plays_economical : (scenario : Scenario) (history : List Entry) → Plays scenario history → IsEconomical history
plays_economical scenario history plays = EachEntry-weaker (IsNext scenario) (λ before e. ScansOnlyIfNeeded before e.backend e.event) (plays_needed scenario) history plays

-- a history that a script allows is played
pub allowed_played : (scenario : Scenario) (history : List Entry) → AreSpelled scenario → IsAllowed scenario history → IsPlayed scenario history
allowed_played scenario history spelled allowed = (plays_on_course scenario history spelled allowed.legal allowed.plays).0

-- and sound: what is proved of sound histories holds of whatever the program writes
pub allowed_sound : (scenario : Scenario) (history : List Entry) → AreSpelled scenario → IsAllowed scenario history → IsSound history
allowed_sound scenario history spelled allowed = (allowed_played scenario history spelled allowed).sound

-- and each of its backends is on its course
pub allowed_on_course : (scenario : Scenario) (history : List Entry) → AreSpelled scenario → IsAllowed scenario history → AllOnCourse scenario history
allowed_on_course scenario history spelled allowed = (plays_on_course scenario history spelled allowed.legal allowed.plays).1

-- as is the history of an output
pub output_sound : (kind : CheckKind) (scenario : Scenario) (text : List ℕ) (output : IsOutput kind scenario text) → AreSpelled scenario → IsSound output.history
output_sound kind scenario text output spelled = allowed_sound scenario output.history spelled output.allowed
