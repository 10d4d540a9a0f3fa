-- A worked example: a command fails in a block, and the block does nothing more until its end.
use Rattle.std.specs.Fmt.{digits}
use Rattle.std.proofs.Common.{◌≡◌, ◌++◌, ℕ, false, None, List, [], ◌∷◌, codes, refl, sym}
use Rattle.base_types.specs.Scenario.{Scenario}
use Rattle.base_types.specs.declared.scan.Purpose.TheVariants as scans
use Rattle.base_types.specs.declared.command.Command.TheVariants as commands
use Rattle.event_kinds.specs.declared.entry.Entry.{Entry}
use Rattle.event_kinds.specs.declared.entry.Event.TheVariants.{Start, Look, Scan, Write, Release, Gone, Stop}
use Rattle.event_kinds.specs.Texts.{text_of}
use Rattle.history_model.specs.Lapped.{FollowsQueue}
use Rattle.history_model.specs.Read.{IsEconomical}
use Rattle.history_model.proofs.Allows.{legal_by}
use Rattle.cacheless.proofs.Deciding.{plays_by}
use Rattle.cacheless.specs.Plays.{Plays}
use Rattle.cacheless.specs.Schedule.{FollowsSchedule, AreLooksTrue, IsComplete}
use Rattle.cacheless.specs.Lines.{lines_of}
use Rattle.cacheless.specs.declared.check_kind.CheckKind.TheVariants.{Walk}
use Rattle.cacheless.specs.Output.{IsOutput}
use Rattle.cacheless.proofs.Plans.Given.{xid, entry, placed, script, creating, new_table}

abbrev pub failed_block : Scenario
failed_block = script 1 (placed 1 commands.Begin ∷ placed 1 (creating (codes "t") (codes "a")) ∷ placed 1 (commands.Show (codes "nosuch") None) ∷ placed 1 (commands.Show (codes "t") None) ∷ placed 1 commands.Commit ∷ []) []

abbrev pub begun : List Entry
begun = entry 1 0 Start ∷ entry 1 1 (Look false) ∷ []

abbrev pub written : List Entry
written = begun ++ entry 1 2 (Write (xid 1) (new_table 16384 (codes "t") (codes "a"))) ∷ []

abbrev pub looked : List Entry
looked = written ++ entry 1 3 (Look false) ∷ []

abbrev pub scanned : List Entry
scanned = looked ++ entry 1 3 (Scan (scans.RelName (codes "nosuch")) 0) ∷ []

abbrev pub accepted : List Entry
accepted = scanned ++ entry 1 3 (Look false) ∷ []

abbrev pub taken_back : List Entry
taken_back = accepted ++ entry 1 3 (Gone 1) ∷ []

abbrev pub released : List Entry
released = taken_back ++ entry 1 3 (Release 1) ∷ []

abbrev pub stopped : List Entry
stopped = released ++ entry 1 6 Stop ∷ []

pub failed_block_plays : Plays failed_block stopped
failed_block_plays = plays_by failed_block [] stopped refl

pub failed_block_queue : FollowsQueue 4096 stopped
failed_block_queue = (tt, (tt, (tt, (tt, (tt, (tt, (tt, (tt, (tt, tt)))))))))

pub failed_block_economical : IsEconomical stopped
failed_block_economical = (tt, (tt, (tt, (tt, (refl, (tt, (tt, (tt, (tt, tt)))))))))

pub failed_block_follows : FollowsSchedule failed_block stopped
failed_block_follows = (refl, (refl, (refl, (refl, (refl, (refl, (refl, (refl, (refl, tt)))))))))

pub failed_block_looks : AreLooksTrue stopped
failed_block_looks = (tt, (refl, (tt, (refl, (tt, (refl, (tt, (tt, (tt, tt)))))))))

pub failed_block_complete : IsComplete failed_block stopped
failed_block_complete = refl

abbrev pub failed_block_text : List ℕ
failed_block_text = codes "h 1 0 start\nh 1 1 look no\nh 1 2 write 1 +class(16384,t,r,-) +att(16384,1,a,int4,-1,l)\nh 1 3 look no\nh 1 3 scan relname nosuch rows 0\nh 1 3 look no\nh 1 3 gone 1\nh 1 3 release 1\nh 1 6 stop\nl 1 1 ok\nl 1 2 ok\nl 1 3 error 42P01 relation nosuch does not exist as of 5\nl 1 4 error 25P02 the transaction block has failed\nl 1 5 rolled back\nend\n"

pub failed_block_spelled : text_of stopped (lines_of failed_block stopped) ≡ failed_block_text
unfolding digits
failed_block_spelled = refl

pub failed_block_output : IsOutput Walk failed_block failed_block_text
failed_block_output = record { history = stopped; allowed = record { legal = legal_by stopped refl; queue = failed_block_queue; plays = failed_block_plays; economical = failed_block_economical }; interleaved = record { follows = failed_block_follows; looks = failed_block_looks }; complete = failed_block_complete; text_is = sym failed_block_spelled }
