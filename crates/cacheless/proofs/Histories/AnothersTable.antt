-- A worked example: a table is shown by a backend that was there before it.
use Rattle.std.specs.Fmt.{digits}
use Rattle.std.proofs.Common.{◌≡◌, ◌≤◌, ◌++◌, ℕ, true, false, None, List, [], ◌∷◌, codes, refl, sym, arith}
use Rattle.base_types.specs.Scenario.{Scenario}
use Rattle.base_types.specs.declared.mode.Mode.TheVariants.{AccessShare}
use Rattle.base_types.specs.declared.scan.Purpose.TheVariants as scans
use Rattle.base_types.specs.declared.command.Command.TheVariants as commands
use Rattle.event_kinds.specs.declared.entry.Entry.{Entry}
use Rattle.event_kinds.specs.declared.entry.Event.TheVariants.{Start, Look, Fetch, LockOk, Scan, Write, Visible, Publish, Release, Stop}
use Rattle.event_kinds.specs.Texts.{text_of}
use Rattle.history_model.specs.Lapped.{FollowsQueue}
use Rattle.history_model.specs.Read.{IsEconomical}
use Rattle.history_model.proofs.Allows.{legal_by}
use Rattle.cacheless.proofs.Deciding.{plays_by}
use Rattle.cacheless.specs.Plays.{Plays}
use Rattle.cacheless.specs.Schedule.{FollowsSchedule, AreLooksTrue, IsComplete}
use Rattle.cacheless.specs.Lines.{lines_of}
use Rattle.cacheless.specs.declared.check_kind.CheckKind.TheVariants.{Walk}
use Rattle.cacheless.specs.Output.{IsOutput}
use Rattle.cacheless.proofs.Plans.Given.{oid, xid, entry, placed, turns, script, creating, new_table}

at_least_2 : 1 ≤ 2
at_least_2 = omega arith

at_most_2 : 2 ≤ 2
at_most_2 = omega arith

abbrev pub show_of_anothers_table : Scenario
show_of_anothers_table = script 2 (placed 1 (creating (codes "t") (codes "a")) ∷ placed 2 (commands.Show (codes "t") None) ∷ []) ((turns 2 2 ∷ turns 1 8 ∷ turns 2 19 ∷ []) ∷ [])

abbrev pub started : List Entry
started = entry 2 0 Start ∷ entry 2 1 (Look false) ∷ []

abbrev pub written : List Entry
written = started ++ entry 1 0 Start ∷ entry 1 1 (Look false) ∷ entry 1 1 (Write (xid 1) (new_table 16384 (codes "t") (codes "a"))) ∷ []

abbrev pub visible : List Entry
visible = written ++ entry 1 1 (Visible (xid 1)) ∷ []

abbrev pub published : List Entry
published = visible ++ entry 1 1 (Publish 3) ∷ entry 1 1 (Publish 1) ∷ []

abbrev pub released : List Entry
released = published ++ entry 1 1 (Release 1) ∷ []

abbrev pub writer_stopped : List Entry
writer_stopped = released ++ entry 1 2 Stop ∷ []

abbrev pub looked : List Entry
looked = writer_stopped ++ entry 2 1 (Look true) ∷ []

abbrev pub fetched : List Entry
fetched = looked ++ entry 2 1 (Fetch 4) ∷ []

abbrev pub name_scanned : List Entry
name_scanned = fetched ++ entry 2 1 (Scan (scans.RelName (codes "t")) 1) ∷ []

abbrev pub locked : List Entry
locked = name_scanned ++ entry 2 1 (LockOk (oid 16384) AccessShare) ∷ []

abbrev pub looked_after_lock : List Entry
looked_after_lock = locked ++ entry 2 1 (Look false) ∷ []

abbrev pub class_scanned : List Entry
class_scanned = looked_after_lock ++ entry 2 1 (Look false) ∷ entry 2 1 (Scan (scans.Class (oid 16384)) 1) ∷ []

abbrev pub attribute_scanned : List Entry
attribute_scanned = class_scanned ++ entry 2 1 (Look false) ∷ entry 2 1 (Scan (scans.Attribute (oid 16384)) 1) ∷ []

abbrev pub attrdef_scanned : List Entry
attrdef_scanned = attribute_scanned ++ entry 2 1 (Look false) ∷ entry 2 1 (Scan (scans.AttrDef (oid 16384)) 0) ∷ []

abbrev pub constraint_scanned : List Entry
constraint_scanned = attrdef_scanned ++ entry 2 1 (Look false) ∷ entry 2 1 (Scan (scans.Constraint (oid 16384)) 0) ∷ []

abbrev pub index_scanned : List Entry
index_scanned = constraint_scanned ++ entry 2 1 (Look false) ∷ entry 2 1 (Scan (scans.Index (oid 16384)) 0) ∷ []

abbrev pub trigger_scanned : List Entry
trigger_scanned = index_scanned ++ entry 2 1 (Look false) ∷ entry 2 1 (Scan (scans.Trigger (oid 16384)) 0) ∷ []

abbrev pub shown : List Entry
shown = trigger_scanned ++ entry 2 1 (Release 1) ∷ []

abbrev pub stopped : List Entry
stopped = shown ++ entry 2 2 Stop ∷ []

pub show_of_anothers_table_plays : Plays show_of_anothers_table stopped
show_of_anothers_table_plays = plays_by show_of_anothers_table [] stopped refl

pub show_of_anothers_table_queue : FollowsQueue 4096 stopped
show_of_anothers_table_queue = (tt, (tt, (tt, (tt, (tt, (tt, (tt, (tt, (tt, (tt, (tt, (refl, (tt, (tt, (tt, (tt, (tt, (tt, (tt, (tt, (tt, (tt, (tt, (tt, (tt, (tt, (tt, (tt, (tt, tt)))))))))))))))))))))))))))))

pub show_of_anothers_table_economical : IsEconomical stopped
show_of_anothers_table_economical = (tt, (tt, (tt, (tt, (tt, (tt, (tt, (tt, (tt, (tt, (tt, (tt, (refl, (tt, (tt, (tt, (refl, (tt, (refl, (tt, (refl, (tt, (refl, (tt, (refl, (tt, (refl, (tt, (tt, tt)))))))))))))))))))))))))))))

pub show_of_anothers_table_follows : FollowsSchedule show_of_anothers_table stopped
show_of_anothers_table_follows = (refl, (refl, (refl, (refl, (refl, (refl, (refl, (refl, (refl, (refl, (refl, (refl, (refl, (refl, (refl, (refl, (refl, (refl, (refl, (refl, (refl, (refl, (refl, (refl, (refl, (refl, (refl, (refl, (refl, tt)))))))))))))))))))))))))))))

pub show_of_anothers_table_looks : AreLooksTrue stopped
show_of_anothers_table_looks = (tt, (refl, (tt, (refl, (tt, (tt, (tt, (tt, (tt, (tt, (tt, (tt, (tt, (tt, (refl, (refl, (tt, (refl, (tt, (refl, (tt, (refl, (tt, (refl, (tt, (refl, (tt, (tt, (tt, tt)))))))))))))))))))))))))))))

pub show_of_anothers_table_complete : IsComplete show_of_anothers_table stopped
show_of_anothers_table_complete = refl

abbrev pub show_of_anothers_table_text : List ℕ
show_of_anothers_table_text = codes "h 2 0 start\nh 2 1 look no\nh 1 0 start\nh 1 1 look no\nh 1 1 write 1 +class(16384,t,r,-) +att(16384,1,a,int4,-1,l)\nh 1 1 visible 1\nh 1 1 publish 3\nh 1 1 publish 1\nh 1 1 release 1\nh 1 2 stop\nh 2 1 look yes\nh 2 1 fetch 4\nh 2 1 scan relname t rows 1\nh 2 1 lock 16384 as ok\nh 2 1 look no\nh 2 1 look no\nh 2 1 scan class 16384 rows 1\nh 2 1 look no\nh 2 1 scan attribute 16384 rows 1\nh 2 1 look no\nh 2 1 scan attrdef 16384 rows 0\nh 2 1 look no\nh 2 1 scan constraint 16384 rows 0\nh 2 1 look no\nh 2 1 scan index 16384 rows 0\nh 2 1 look no\nh 2 1 scan trigger 16384 rows 0\nh 2 1 release 1\nh 2 2 stop\nl 1 1 ok\nl 2 1 table 16384; name t; columns a:int4; defaults -; statistics 1:-1 as of 19; fillfactor - as of 17; constraints - as of 23; referenced - as of 23; indexes - as of 25; triggers - as of 27\nend\n"

pub show_of_anothers_table_spelled : text_of stopped (lines_of show_of_anothers_table stopped) ≡ show_of_anothers_table_text
unfolding digits
show_of_anothers_table_spelled = refl

pub show_of_anothers_table_output : IsOutput Walk show_of_anothers_table show_of_anothers_table_text
show_of_anothers_table_output = record { history = stopped; allowed = record { legal = legal_by stopped refl; queue = show_of_anothers_table_queue; plays = show_of_anothers_table_plays; economical = show_of_anothers_table_economical }; interleaved = record { follows = show_of_anothers_table_follows; looks = show_of_anothers_table_looks }; complete = show_of_anothers_table_complete; text_is = sym show_of_anothers_table_spelled }
