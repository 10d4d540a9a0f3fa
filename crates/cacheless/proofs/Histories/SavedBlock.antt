-- A worked example: an error takes back a savepoint's level, `rollback to` mends the block, and what is written then draws new oids. After `release` the level is part of the one around it, and an error takes back that.
use Rattle.std.specs.Fmt.{digits}
use Rattle.std.proofs.Common.{◌≡◌, ◌++◌, ℕ, false, None, List, [], ◌∷◌, codes, refl, sym}
use Rattle.base_types.specs.Scenario.{Scenario}
use Rattle.base_types.specs.declared.scan.Purpose.TheVariants as scans
use Rattle.base_types.specs.declared.command.Command.TheVariants as commands
use Rattle.event_kinds.specs.declared.entry.Entry.{Entry}
use Rattle.event_kinds.specs.declared.entry.Event.TheVariants.{Start, Look, Scan, Write, Release, Gone, Stop}
use Rattle.event_kinds.specs.Texts.{text_of}
use Rattle.history_model.specs.Lapped.{FollowsQueue}
use Rattle.history_model.specs.Read.{IsEconomical}
use Rattle.history_model.proofs.Allows.{legal_by}
use Rattle.cacheless.proofs.Deciding.{plays_by}
use Rattle.cacheless.specs.Nexts.{is_next}
use Rattle.cacheless.specs.Plays.{Plays}
use Rattle.cacheless.specs.Schedule.{FollowsSchedule, AreLooksTrue, IsComplete}
use Rattle.cacheless.specs.Lines.{lines_of}
use Rattle.cacheless.specs.declared.check_kind.CheckKind.TheVariants.{Walk}
use Rattle.cacheless.specs.Output.{IsOutput}
use Rattle.cacheless.proofs.Plans.Given.{xid, entry, placed, script, creating, new_table}

abbrev pub saved_block : Scenario
saved_block = script 1 (placed 1 commands.Begin ∷ placed 1 (creating (codes "t") (codes "a")) ∷ placed 1 (commands.Savepoint (codes "s")) ∷ placed 1 (creating (codes "u") (codes "a")) ∷ placed 1 (commands.Show (codes "nosuch") None) ∷ placed 1 (commands.Show (codes "t") None) ∷ placed 1 (commands.RollbackTo (codes "s")) ∷ placed 1 (creating (codes "u") (codes "a")) ∷ placed 1 (commands.Release (codes "s")) ∷ placed 1 (commands.Release (codes "s")) ∷ placed 1 (commands.RollbackTo (codes "s")) ∷ placed 1 commands.Commit ∷ []) []

-- a block begins
abbrev pub begun : List Entry
begun = entry 1 0 Start ∷ entry 1 1 (Look false) ∷ []

-- a table is made
abbrev pub written : List Entry
written = begun ++ entry 1 2 (Write (xid 1) (new_table 16384 (codes "t") (codes "a"))) ∷ []

-- and another one, after a savepoint
abbrev pub saved : List Entry
saved = written ++ entry 1 4 (Write (xid 1) (new_table 16385 (codes "u") (codes "a"))) ∷ []

-- a command finds no relation
abbrev pub failed : List Entry
failed = saved ++ entry 1 5 (Look false) ∷ entry 1 5 (Scan (scans.RelName (codes "nosuch")) 0) ∷ entry 1 5 (Look false) ∷ []

-- what was written after the savepoint is gone
abbrev pub gone : List Entry
gone = failed ++ entry 1 5 (Gone 3) ∷ []

-- and its locks are released
abbrev pub released : List Entry
released = gone ++ entry 1 5 (Release 3) ∷ []

-- `rollback to` releases them again, and the block goes on
abbrev pub mended : List Entry
mended = released ++ entry 1 7 (Release 3) ∷ []

-- a table of the same name is made
abbrev pub written_again : List Entry
written_again = mended ++ entry 1 8 (Write (xid 1) (new_table 16386 (codes "u") (codes "a"))) ∷ []

-- the savepoint is released, and a second release finds none: all that the block has written is gone
abbrev pub gone_whole : List Entry
gone_whole = written_again ++ entry 1 10 (Gone 1) ∷ []

-- the block is over, though its end comes later
abbrev pub ended : List Entry
ended = gone_whole ++ entry 1 10 (Release 1) ∷ entry 1 13 Stop ∷ []

pub saved_block_plays : Plays saved_block ended
saved_block_plays = plays_by saved_block [] ended refl

pub saved_block_queue : FollowsQueue 4096 ended
saved_block_queue = (tt, (tt, (tt, (tt, (tt, (tt, (tt, (tt, (tt, (tt, (tt, (tt, (tt, (tt, tt))))))))))))))

pub saved_block_economical : IsEconomical ended
saved_block_economical = (tt, (tt, (tt, (tt, (tt, (refl, (tt, (tt, (tt, (tt, (tt, (tt, (tt, (tt, tt))))))))))))))

pub saved_block_follows : FollowsSchedule saved_block ended
saved_block_follows = (refl, (refl, (refl, (refl, (refl, (refl, (refl, (refl, (refl, (refl, (refl, (refl, (refl, (refl, tt))))))))))))))

pub saved_block_looks : AreLooksTrue ended
saved_block_looks = (tt, (refl, (tt, (tt, (refl, (tt, (refl, (tt, (tt, (tt, (tt, (tt, (tt, (tt, tt))))))))))))))

pub saved_block_complete : IsComplete saved_block ended
saved_block_complete = refl

abbrev pub saved_block_text : List ℕ
saved_block_text = codes "h 1 0 start\nh 1 1 look no\nh 1 2 write 1 +class(16384,t,r,-) +att(16384,1,a,int4,-1,l)\nh 1 4 write 1 +class(16385,u,r,-) +att(16385,1,a,int4,-1,l)\nh 1 5 look no\nh 1 5 scan relname nosuch rows 0\nh 1 5 look no\nh 1 5 gone 3\nh 1 5 release 3\nh 1 7 release 3\nh 1 8 write 1 +class(16386,u,r,-) +att(16386,1,a,int4,-1,l)\nh 1 10 gone 1\nh 1 10 release 1\nh 1 13 stop\nl 1 1 ok\nl 1 2 ok\nl 1 3 ok\nl 1 4 ok\nl 1 5 error 42P01 relation nosuch does not exist as of 6\nl 1 6 error 25P02 the transaction block has failed\nl 1 7 ok\nl 1 8 ok\nl 1 9 ok\nl 1 10 error 3B001 savepoint s does not exist\nl 1 11 error 3B001 savepoint s does not exist\nl 1 12 rolled back\nend\n"

pub saved_block_spelled : text_of ended (lines_of saved_block ended) ≡ saved_block_text
unfolding digits
saved_block_spelled = refl

pub saved_block_output : IsOutput Walk saved_block saved_block_text
saved_block_output = record { history = ended; allowed = record { legal = legal_by ended refl; queue = saved_block_queue; plays = saved_block_plays; economical = saved_block_economical }; interleaved = record { follows = saved_block_follows; looks = saved_block_looks }; complete = saved_block_complete; text_is = sym saved_block_spelled }

-- an error after a savepoint doesn't take back what was written before it
pub whole_gone_in_level : is_next saved_block failed (entry 1 5 (Gone 1)) ≡ false
whole_gone_in_level = refl

-- a level is not released while a write of it stands
pub level_released_with_write : is_next saved_block failed (entry 1 5 (Release 3)) ≡ false
level_released_with_write = refl

-- an error after a savepoint doesn't end the transaction
pub whole_released_in_level : is_next saved_block gone (entry 1 5 (Release 1)) ≡ false
whole_released_in_level = refl

-- nor does `rollback to`
pub whole_released_by_rollback_to : is_next saved_block released (entry 1 7 (Release 1)) ≡ false
whole_released_by_rollback_to = refl

-- `rollback to` is not done without a release
pub mended_without_release : is_next saved_block released (entry 1 8 (Write (xid 1) (new_table 16386 (codes "u") (codes "a")))) ≡ false
mended_without_release = refl

-- after its release a level is not taken back alone
pub released_level_gone : is_next saved_block written_again (entry 1 10 (Gone 3)) ≡ false
released_level_gone = refl
