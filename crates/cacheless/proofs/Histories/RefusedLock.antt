-- A worked example: a table is shown whose writer hasn't released its lock.
use Rattle.std.specs.Fmt.{digits}
use Rattle.std.proofs.Common.{◌≡◌, ◌≤◌, ◌++◌, ℕ, false, None, List, [], ◌∷◌, codes, refl, sym, arith}
use Rattle.base_types.specs.Scenario.{Scenario}
use Rattle.base_types.specs.declared.mode.Mode.TheVariants.{AccessShare, AccessExclusive}
use Rattle.base_types.specs.declared.scan.Purpose.TheVariants as scans
use Rattle.base_types.specs.declared.command.Command.TheVariants as commands
use Rattle.event_kinds.specs.declared.entry.Entry.{Entry}
use Rattle.event_kinds.specs.declared.entry.Event.TheVariants.{Start, Look, LockHeld, Scan, Write, Visible, Publish, Release, Stop}
use Rattle.event_kinds.specs.Texts.{text_of}
use Rattle.history_model.specs.Lapped.{FollowsQueue}
use Rattle.history_model.specs.Read.{IsEconomical}
use Rattle.history_model.proofs.Allows.{legal_by}
use Rattle.cacheless.proofs.Deciding.{plays_by}
use Rattle.cacheless.specs.Plays.{Plays}
use Rattle.cacheless.specs.Schedule.{FollowsSchedule, AreLooksTrue, IsComplete}
use Rattle.cacheless.specs.Lines.{lines_of}
use Rattle.cacheless.specs.declared.check_kind.CheckKind.TheVariants.{Walk}
use Rattle.cacheless.specs.Output.{IsOutput}
use Rattle.cacheless.proofs.Plans.Given.{oid, xid, entry, placed, turns, script, creating, new_table}

at_least_2 : 1 ≤ 2
at_least_2 = omega arith

at_most_2 : 2 ≤ 2
at_most_2 = omega arith

abbrev pub refused_lock : Scenario
refused_lock = script 2 (placed 1 (creating (codes "t") (codes "a")) ∷ placed 2 (commands.Show (codes "t") None) ∷ []) ((turns 1 4 ∷ turns 2 6 ∷ turns 1 4 ∷ turns 2 1 ∷ []) ∷ [])

abbrev pub visible : List Entry
visible = entry 1 0 Start ∷ entry 1 1 (Look false) ∷ entry 1 1 (Write (xid 1) (new_table 16384 (codes "t") (codes "a"))) ∷ entry 1 1 (Visible (xid 1)) ∷ []

abbrev pub started : List Entry
started = visible ++ entry 2 0 Start ∷ entry 2 1 (Look false) ∷ []

abbrev pub scanned : List Entry
scanned = started ++ entry 2 1 (Look false) ∷ entry 2 1 (Scan (scans.RelName (codes "t")) 1) ∷ []

abbrev pub refused : List Entry
refused = scanned ++ entry 2 1 (LockHeld (oid 16384) AccessShare 1 AccessExclusive) ∷ []

abbrev pub ended : List Entry
ended = refused ++ entry 2 1 (Release 1) ∷ []

abbrev pub published : List Entry
published = ended ++ entry 1 1 (Publish 3) ∷ entry 1 1 (Publish 1) ∷ []

abbrev pub released : List Entry
released = published ++ entry 1 1 (Release 1) ∷ []

abbrev pub writer_stopped : List Entry
writer_stopped = released ++ entry 1 2 Stop ∷ []

abbrev pub stopped : List Entry
stopped = writer_stopped ++ entry 2 2 Stop ∷ []

pub refused_lock_plays : Plays refused_lock stopped
refused_lock_plays = plays_by refused_lock [] stopped refl

pub refused_lock_queue : FollowsQueue 4096 stopped
refused_lock_queue = (tt, (tt, (tt, (tt, (tt, (tt, (tt, (tt, (tt, (tt, (tt, (tt, (tt, (tt, (tt, tt)))))))))))))))

pub refused_lock_economical : IsEconomical stopped
refused_lock_economical = (tt, (tt, (tt, (tt, (tt, (tt, (tt, (refl, (tt, (tt, (tt, (tt, (tt, (tt, (tt, tt)))))))))))))))

pub refused_lock_follows : FollowsSchedule refused_lock stopped
refused_lock_follows = (refl, (refl, (refl, (refl, (refl, (refl, (refl, (refl, (refl, (refl, (refl, (refl, (refl, (refl, (refl, tt)))))))))))))))

pub refused_lock_looks : AreLooksTrue stopped
refused_lock_looks = (tt, (refl, (tt, (tt, (tt, (refl, (refl, (tt, (tt, (tt, (tt, (tt, (tt, (tt, (tt, tt)))))))))))))))

pub refused_lock_complete : IsComplete refused_lock stopped
refused_lock_complete = refl

abbrev pub refused_lock_text : List ℕ
refused_lock_text = codes "h 1 0 start\nh 1 1 look no\nh 1 1 write 1 +class(16384,t,r,-) +att(16384,1,a,int4,-1,l)\nh 1 1 visible 1\nh 2 0 start\nh 2 1 look no\nh 2 1 look no\nh 2 1 scan relname t rows 1\nh 2 1 lock 16384 as held 1 ax\nh 2 1 release 1\nh 1 1 publish 3\nh 1 1 publish 1\nh 1 1 release 1\nh 1 2 stop\nh 2 2 stop\nl 1 1 ok\nl 2 1 error 55P03 relation 16384 is locked by backend 1 in ax\nend\n"

pub refused_lock_spelled : text_of stopped (lines_of refused_lock stopped) ≡ refused_lock_text
unfolding digits
refused_lock_spelled = refl

pub refused_lock_output : IsOutput Walk refused_lock refused_lock_text
refused_lock_output = record { history = stopped; allowed = record { legal = legal_by stopped refl; queue = refused_lock_queue; plays = refused_lock_plays; economical = refused_lock_economical }; interleaved = record { follows = refused_lock_follows; looks = refused_lock_looks }; complete = refused_lock_complete; text_is = sym refused_lock_spelled }
