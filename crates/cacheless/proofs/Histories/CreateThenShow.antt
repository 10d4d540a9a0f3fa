-- A worked example: a table is made and shown.
use Rattle.std.specs.Fmt.{digits}
use Rattle.std.proofs.Common.{◌≡◌, ◌++◌, ℕ, true, false, None, List, [], ◌∷◌, codes, refl, sym}
use Rattle.base_types.specs.Scenario.{Scenario}
use Rattle.base_types.specs.declared.mode.Mode.TheVariants.{AccessShare}
use Rattle.base_types.specs.declared.scan.Purpose.TheVariants as scans
use Rattle.base_types.specs.declared.command.Command.TheVariants as commands
use Rattle.event_kinds.specs.declared.entry.Entry.{Entry}
use Rattle.event_kinds.specs.declared.entry.Event.TheVariants.{Start, Look, Fetch, LockOk, Scan, Write, Visible, Publish, Release, Stop}
use Rattle.event_kinds.specs.Texts.{text_of}
use Rattle.history_model.specs.Lapped.{FollowsQueue}
use Rattle.history_model.specs.Read.{IsEconomical}
use Rattle.history_model.proofs.Allows.{legal_by}
use Rattle.cacheless.proofs.Deciding.{plays_by}
use Rattle.cacheless.specs.Plays.{Plays}
use Rattle.cacheless.specs.Schedule.{FollowsSchedule, AreLooksTrue, IsComplete}
use Rattle.cacheless.specs.Lines.{lines_of}
use Rattle.cacheless.specs.declared.check_kind.CheckKind.TheVariants.{Walk}
use Rattle.cacheless.specs.Output.{IsOutput}
use Rattle.cacheless.proofs.Plans.Given.{oid, xid, entry, placed, script, creating, new_table}

abbrev pub create_then_show : Scenario
create_then_show = script 1 (placed 1 (creating (codes "t") (codes "a")) ∷ placed 1 (commands.Show (codes "t") None) ∷ []) []

abbrev pub started : List Entry
started = entry 1 0 Start ∷ []

abbrev pub looked : List Entry
looked = started ++ entry 1 1 (Look false) ∷ []

abbrev pub written : List Entry
written = looked ++ entry 1 1 (Write (xid 1) (new_table 16384 (codes "t") (codes "a"))) ∷ []

abbrev pub visible : List Entry
visible = written ++ entry 1 1 (Visible (xid 1)) ∷ []

abbrev pub first_part_published : List Entry
first_part_published = visible ++ entry 1 1 (Publish 3) ∷ []

abbrev pub published : List Entry
published = first_part_published ++ entry 1 1 (Publish 1) ∷ []

abbrev pub released : List Entry
released = published ++ entry 1 1 (Release 1) ∷ []

abbrev pub looked_at_start : List Entry
looked_at_start = released ++ entry 1 2 (Look true) ∷ []

abbrev pub fetched : List Entry
fetched = looked_at_start ++ entry 1 2 (Fetch 4) ∷ []

abbrev pub looked_before_name : List Entry
looked_before_name = fetched ++ entry 1 2 (Look false) ∷ []

abbrev pub name_scanned : List Entry
name_scanned = looked_before_name ++ entry 1 2 (Scan (scans.RelName (codes "t")) 1) ∷ []

abbrev pub locked : List Entry
locked = name_scanned ++ entry 1 2 (LockOk (oid 16384) AccessShare) ∷ []

abbrev pub looked_after_lock : List Entry
looked_after_lock = locked ++ entry 1 2 (Look false) ∷ []

abbrev pub class_scanned : List Entry
class_scanned = looked_after_lock ++ entry 1 2 (Look false) ∷ entry 1 2 (Scan (scans.Class (oid 16384)) 1) ∷ []

abbrev pub attribute_scanned : List Entry
attribute_scanned = class_scanned ++ entry 1 2 (Look false) ∷ entry 1 2 (Scan (scans.Attribute (oid 16384)) 1) ∷ []

abbrev pub attrdef_scanned : List Entry
attrdef_scanned = attribute_scanned ++ entry 1 2 (Look false) ∷ entry 1 2 (Scan (scans.AttrDef (oid 16384)) 0) ∷ []

abbrev pub constraint_scanned : List Entry
constraint_scanned = attrdef_scanned ++ entry 1 2 (Look false) ∷ entry 1 2 (Scan (scans.Constraint (oid 16384)) 0) ∷ []

abbrev pub index_scanned : List Entry
index_scanned = constraint_scanned ++ entry 1 2 (Look false) ∷ entry 1 2 (Scan (scans.Index (oid 16384)) 0) ∷ []

abbrev pub trigger_scanned : List Entry
trigger_scanned = index_scanned ++ entry 1 2 (Look false) ∷ entry 1 2 (Scan (scans.Trigger (oid 16384)) 0) ∷ []

abbrev pub shown : List Entry
shown = trigger_scanned ++ entry 1 2 (Release 2) ∷ []

abbrev pub stopped : List Entry
stopped = shown ++ entry 1 3 Stop ∷ []

pub create_then_show_plays : Plays create_then_show stopped
create_then_show_plays = plays_by create_then_show [] stopped refl

pub create_then_show_queue : FollowsQueue 4096 stopped
create_then_show_queue = (tt, (tt, (tt, (tt, (tt, (tt, (tt, (tt, (refl, (tt, (tt, (tt, (tt, (tt, (tt, (tt, (tt, (tt, (tt, (tt, (tt, (tt, (tt, (tt, (tt, (tt, (tt, tt)))))))))))))))))))))))))))

pub create_then_show_economical : IsEconomical stopped
create_then_show_economical = (tt, (tt, (tt, (tt, (tt, (tt, (tt, (tt, (tt, (tt, (refl, (tt, (tt, (tt, (refl, (tt, (refl, (tt, (refl, (tt, (refl, (tt, (refl, (tt, (refl, (tt, (tt, tt)))))))))))))))))))))))))))

pub create_then_show_follows : FollowsSchedule create_then_show stopped
create_then_show_follows = (refl, (refl, (refl, (refl, (refl, (refl, (refl, (refl, (refl, (refl, (refl, (refl, (refl, (refl, (refl, (refl, (refl, (refl, (refl, (refl, (refl, (refl, (refl, (refl, (refl, (refl, (refl, tt)))))))))))))))))))))))))))

pub create_then_show_looks : AreLooksTrue stopped
create_then_show_looks = (tt, (refl, (tt, (tt, (tt, (tt, (tt, (tt, (tt, (refl, (tt, (tt, (refl, (refl, (tt, (refl, (tt, (refl, (tt, (refl, (tt, (refl, (tt, (refl, (tt, (tt, (tt, tt)))))))))))))))))))))))))))

pub create_then_show_complete : IsComplete create_then_show stopped
create_then_show_complete = refl

abbrev pub create_then_show_text : List ℕ
create_then_show_text = codes "h 1 0 start\nh 1 1 look no\nh 1 1 write 1 +class(16384,t,r,-) +att(16384,1,a,int4,-1,l)\nh 1 1 visible 1\nh 1 1 publish 3\nh 1 1 publish 1\nh 1 1 release 1\nh 1 2 look yes\nh 1 2 fetch 4\nh 1 2 look no\nh 1 2 scan relname t rows 1\nh 1 2 lock 16384 as ok\nh 1 2 look no\nh 1 2 look no\nh 1 2 scan class 16384 rows 1\nh 1 2 look no\nh 1 2 scan attribute 16384 rows 1\nh 1 2 look no\nh 1 2 scan attrdef 16384 rows 0\nh 1 2 look no\nh 1 2 scan constraint 16384 rows 0\nh 1 2 look no\nh 1 2 scan index 16384 rows 0\nh 1 2 look no\nh 1 2 scan trigger 16384 rows 0\nh 1 2 release 2\nh 1 3 stop\nl 1 1 ok\nl 1 2 table 16384; name t; columns a:int4; defaults -; statistics 1:-1 as of 17; fillfactor - as of 15; constraints - as of 21; referenced - as of 21; indexes - as of 23; triggers - as of 25\nend\n"

pub create_then_show_spelled : text_of stopped (lines_of create_then_show stopped) ≡ create_then_show_text
unfolding digits
create_then_show_spelled = refl

pub create_then_show_output : IsOutput Walk create_then_show create_then_show_text
create_then_show_output = record { history = stopped; allowed = record { legal = legal_by stopped refl; queue = create_then_show_queue; plays = create_then_show_plays; economical = create_then_show_economical }; interleaved = record { follows = create_then_show_follows; looks = create_then_show_looks }; complete = create_then_show_complete; text_is = sym create_then_show_spelled }
