-- A worked example: a field is asked for that a table hasn't.
use Rattle.std.specs.Fmt.{digits}
use Rattle.std.proofs.Common.{◌≡◌, ◌++◌, ℕ, true, false, Some, List, [], ◌∷◌, codes, refl, sym}
use Rattle.base_types.specs.Scenario.{Scenario}
use Rattle.base_types.specs.declared.mode.Mode.TheVariants.{AccessShare}
use Rattle.base_types.specs.declared.scan.Purpose.TheVariants as scans
use Rattle.base_types.specs.declared.command.Command.TheVariants as commands
use Rattle.base_types.specs.declared.field.Field.TheVariants as fields
use Rattle.event_kinds.specs.declared.entry.Entry.{Entry}
use Rattle.event_kinds.specs.declared.entry.Event.TheVariants.{Start, Look, Fetch, LockOk, Scan, Write, Visible, Publish, Release, Stop}
use Rattle.event_kinds.specs.Texts.{text_of}
use Rattle.history_model.specs.Lapped.{FollowsQueue}
use Rattle.history_model.specs.Read.{IsEconomical}
use Rattle.history_model.proofs.Allows.{legal_by}
use Rattle.cacheless.proofs.Deciding.{plays_by}
use Rattle.cacheless.specs.Plays.{Plays}
use Rattle.cacheless.specs.Schedule.{FollowsSchedule, AreLooksTrue, IsComplete}
use Rattle.cacheless.specs.Lines.{lines_of}
use Rattle.cacheless.specs.declared.check_kind.CheckKind.TheVariants.{Walk}
use Rattle.cacheless.specs.Output.{IsOutput}
use Rattle.cacheless.proofs.Plans.Given.{oid, xid, entry, placed, script, creating, new_table}

abbrev pub no_field : Scenario
no_field = script 1 (placed 1 (creating (codes "t") (codes "a")) ∷ placed 1 (commands.Show (codes "t") (Some fields.Valid)) ∷ []) []

abbrev pub looked : List Entry
looked = entry 1 0 Start ∷ entry 1 1 (Look false) ∷ []

abbrev pub created : List Entry
created = looked ++ entry 1 1 (Write (xid 1) (new_table 16384 (codes "t") (codes "a"))) ∷ entry 1 1 (Visible (xid 1)) ∷ entry 1 1 (Publish 3) ∷ entry 1 1 (Publish 1) ∷ entry 1 1 (Release 1) ∷ []

abbrev pub scanned : List Entry
scanned = created ++ entry 1 2 (Look true) ∷ entry 1 2 (Fetch 4) ∷ entry 1 2 (Look false) ∷ entry 1 2 (Scan (scans.RelName (codes "t")) 1) ∷ []

abbrev pub locked : List Entry
locked = scanned ++ entry 1 2 (LockOk (oid 16384) AccessShare) ∷ entry 1 2 (Look false) ∷ []

abbrev pub field_refused : List Entry
field_refused = locked ++ entry 1 2 (Release 2) ∷ []

abbrev pub stopped : List Entry
stopped = field_refused ++ entry 1 3 Stop ∷ []

pub no_field_plays : Plays no_field stopped
no_field_plays = plays_by no_field [] stopped refl

pub no_field_queue : FollowsQueue 4096 stopped
no_field_queue = (tt, (tt, (tt, (tt, (tt, (tt, (tt, (tt, (refl, (tt, (tt, (tt, (tt, (tt, (tt, tt)))))))))))))))

pub no_field_economical : IsEconomical stopped
no_field_economical = (tt, (tt, (tt, (tt, (tt, (tt, (tt, (tt, (tt, (tt, (refl, (tt, (tt, (tt, (tt, tt)))))))))))))))

pub no_field_follows : FollowsSchedule no_field stopped
no_field_follows = (refl, (refl, (refl, (refl, (refl, (refl, (refl, (refl, (refl, (refl, (refl, (refl, (refl, (refl, (refl, tt)))))))))))))))

pub no_field_looks : AreLooksTrue stopped
no_field_looks = (tt, (refl, (tt, (tt, (tt, (tt, (tt, (tt, (tt, (refl, (tt, (tt, (refl, (tt, (tt, tt)))))))))))))))

pub no_field_complete : IsComplete no_field stopped
no_field_complete = refl

abbrev pub no_field_text : List ℕ
no_field_text = codes "h 1 0 start\nh 1 1 look no\nh 1 1 write 1 +class(16384,t,r,-) +att(16384,1,a,int4,-1,l)\nh 1 1 visible 1\nh 1 1 publish 3\nh 1 1 publish 1\nh 1 1 release 1\nh 1 2 look yes\nh 1 2 fetch 4\nh 1 2 look no\nh 1 2 scan relname t rows 1\nh 1 2 lock 16384 as ok\nh 1 2 look no\nh 1 2 release 2\nh 1 3 stop\nl 1 1 ok\nl 1 2 error 42809 t has no field valid\nend\n"

pub no_field_spelled : text_of stopped (lines_of no_field stopped) ≡ no_field_text
unfolding digits
no_field_spelled = refl

pub no_field_output : IsOutput Walk no_field no_field_text
no_field_output = record { history = stopped; allowed = record { legal = legal_by stopped refl; queue = no_field_queue; plays = no_field_plays; economical = no_field_economical }; interleaved = record { follows = no_field_follows; looks = no_field_looks }; complete = no_field_complete; text_is = sym no_field_spelled }
