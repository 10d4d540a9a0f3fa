-- A worked example: a table with one column twice is refused, and a table with its columns isn't.
use Rattle.std.specs.Fmt.{digits}
use Rattle.std.proofs.Common.{◌≡◌, ◌++◌, ℕ, false, List, [], ◌∷◌, codes, refl, sym}
use Rattle.base_types.specs.Scenario.{Scenario}
use Rattle.base_types.specs.declared.col_type.ColType.TheVariants.{Int4}
use Rattle.base_types.specs.declared.command.Command.TheVariants as commands
use Rattle.event_kinds.specs.declared.entry.Entry.{Entry}
use Rattle.event_kinds.specs.declared.entry.Event.TheVariants.{Start, Look, Write, Visible, Publish, Release, Stop}
use Rattle.event_kinds.specs.Texts.{text_of}
use Rattle.history_model.specs.Lapped.{FollowsQueue}
use Rattle.history_model.specs.Read.{IsEconomical}
use Rattle.history_model.proofs.Allows.{legal_by}
use Rattle.cacheless.proofs.Deciding.{plays_by}
use Rattle.cacheless.specs.Plays.{Plays}
use Rattle.cacheless.specs.Schedule.{FollowsSchedule, AreLooksTrue, IsComplete}
use Rattle.cacheless.specs.Lines.{lines_of}
use Rattle.cacheless.specs.declared.check_kind.CheckKind.TheVariants.{Walk}
use Rattle.cacheless.specs.Output.{IsOutput}
use Rattle.cacheless.proofs.Plans.Given.{xid, entry, placed, script, creating, new_table}

abbrev pub refused_commands : Scenario
refused_commands = script 1 (placed 1 (commands.CreateTable (codes "t") (record { name = (codes "a"); col_type = Int4 } ∷ record { name = (codes "b"); col_type = Int4 } ∷ record { name = (codes "a"); col_type = Int4 } ∷ [])) ∷ placed 1 (creating (codes "t") (codes "a")) ∷ []) []

abbrev pub looked : List Entry
looked = entry 1 0 Start ∷ entry 1 1 (Look false) ∷ []

abbrev pub column_refused : List Entry
column_refused = looked ++ entry 1 1 (Release 1) ∷ []

abbrev pub created : List Entry
created = column_refused ++ entry 1 2 (Look false) ∷ entry 1 2 (Write (xid 1) (new_table 16384 (codes "t") (codes "a"))) ∷ entry 1 2 (Visible (xid 1)) ∷ entry 1 2 (Publish 3) ∷ entry 1 2 (Publish 1) ∷ entry 1 2 (Release 2) ∷ []

abbrev pub stopped : List Entry
stopped = created ++ entry 1 3 Stop ∷ []

pub refused_commands_plays : Plays refused_commands stopped
refused_commands_plays = plays_by refused_commands [] stopped refl

pub refused_commands_queue : FollowsQueue 4096 stopped
refused_commands_queue = (tt, (tt, (tt, (tt, (tt, (tt, (tt, (tt, (tt, (tt, tt))))))))))

pub refused_commands_economical : IsEconomical stopped
refused_commands_economical = (tt, (tt, (tt, (tt, (tt, (tt, (tt, (tt, (tt, (tt, tt))))))))))

pub refused_commands_follows : FollowsSchedule refused_commands stopped
refused_commands_follows = (refl, (refl, (refl, (refl, (refl, (refl, (refl, (refl, (refl, (refl, tt))))))))))

pub refused_commands_looks : AreLooksTrue stopped
refused_commands_looks = (tt, (refl, (tt, (refl, (tt, (tt, (tt, (tt, (tt, (tt, tt))))))))))

pub refused_commands_complete : IsComplete refused_commands stopped
refused_commands_complete = refl

abbrev pub refused_commands_text : List ℕ
refused_commands_text = codes "h 1 0 start\nh 1 1 look no\nh 1 1 release 1\nh 1 2 look no\nh 1 2 write 1 +class(16384,t,r,-) +att(16384,1,a,int4,-1,l)\nh 1 2 visible 1\nh 1 2 publish 3\nh 1 2 publish 1\nh 1 2 release 2\nh 1 3 stop\nl 1 1 error 42701 column a already exists\nl 1 2 ok\nend\n"

pub refused_commands_spelled : text_of stopped (lines_of refused_commands stopped) ≡ refused_commands_text
unfolding digits
refused_commands_spelled = refl

pub refused_commands_output : IsOutput Walk refused_commands refused_commands_text
refused_commands_output = record { history = stopped; allowed = record { legal = legal_by stopped refl; queue = refused_commands_queue; plays = refused_commands_plays; economical = refused_commands_economical }; interleaved = record { follows = refused_commands_follows; looks = refused_commands_looks }; complete = refused_commands_complete; text_is = sym refused_commands_spelled }
