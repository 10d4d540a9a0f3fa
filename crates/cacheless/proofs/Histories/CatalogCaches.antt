-- A worked example: names, lists, columns and oids are cached, absent names too, until a message for them is fetched; then entries that are refused there, and entries that are allowed.
use Rattle.std.specs.Fmt.{digits}
use Rattle.std.proofs.Common.{◌≡◌, ◌≤◌, ◌++◌, ℕ, true, false, List, [], ◌∷◌, codes, refl, sym, arith}
use Rattle.base_types.specs.Scenario.{Scenario}
use Rattle.base_types.specs.declared.mode.Mode.TheVariants.{AccessShare}
use Rattle.base_types.specs.declared.scan.Purpose.TheVariants as scans
use Rattle.base_types.specs.declared.command.Command.TheVariants as commands
use Rattle.event_kinds.specs.declared.entry.Entry.{Entry}
use Rattle.event_kinds.specs.declared.entry.Event.TheVariants.{Start, Look, Fetch, LockOk, Scan, Write, Visible, Publish, Release}
use Rattle.event_kinds.specs.Texts.{text_of}
use Rattle.history_model.specs.Lapped.{FollowsQueue}
use Rattle.history_model.specs.Read.{ScansOnlyIfNeeded, IsEconomical}
use Rattle.history_model.proofs.Allows.{legal_by}
use Rattle.cacheless.specs.Nexts.{is_next}
use Rattle.cacheless.specs.Plays.{Plays}
use Rattle.cacheless.specs.Schedule.{FollowsSchedule, AreLooksTrue, IsComplete}
use Rattle.cacheless.specs.Lines.{lines_of}
use Rattle.cacheless.specs.declared.check_kind.CheckKind.TheVariants.{Walk}
use Rattle.cacheless.specs.Output.{IsOutput}
use Rattle.cacheless.proofs.Plans.Given.{oid, xid, entry, placed, turns, script, creating, new_table}
use Rattle.cacheless.proofs.Deciding.{plays_by}

at_least_2 : 1 ≤ 2
at_least_2 = omega arith

at_most_2 : 2 ≤ 2
at_most_2 = omega arith

abbrev pub columns_of_a_later_table : Scenario
columns_of_a_later_table = script 2 (placed 1 (creating (codes "t") (codes "a")) ∷ placed 1 (creating (codes "u") (codes "b")) ∷ placed 2 (commands.Columns (codes "t")) ∷ placed 2 (commands.Columns (codes "t")) ∷ placed 2 commands.Begin ∷ placed 2 (commands.Columns (codes "t")) ∷ placed 2 (commands.Column (codes "t") (codes "a")) ∷ placed 2 (commands.Regclass (oid 16384)) ∷ placed 2 commands.Commit ∷ placed 2 (commands.Columns (codes "t")) ∷ []) ((turns 2 9 ∷ turns 1 7 ∷ turns 2 13 ∷ turns 1 7 ∷ turns 2 7 ∷ []) ∷ [])

-- the reader scans for a name that no table has yet
abbrev pub absent_scanned : List Entry
absent_scanned = entry 2 0 Start ∷ entry 2 1 (Look false) ∷ entry 2 1 (Look false) ∷ entry 2 1 (Scan (scans.RelName (codes "t")) 0) ∷ []

-- an accept brings nothing, and the command ends by an error
abbrev pub absent_ended : List Entry
absent_ended = absent_scanned ++ entry 2 1 (Look false) ∷ entry 2 1 (Release 1) ∷ []

-- the next command does without a scan
abbrev pub absent_served : List Entry
absent_served = absent_ended ++ entry 2 2 (Look false) ∷ entry 2 2 (Look false) ∷ entry 2 2 (Release 2) ∷ []

-- the table is made
abbrev pub table_made : List Entry
table_made = absent_served ++ entry 1 0 Start ∷ entry 1 1 (Look false) ∷ entry 1 1 (Write (xid 1) (new_table 16384 (codes "t") (codes "a"))) ∷ entry 1 1 (Visible (xid 1)) ∷ entry 1 1 (Publish 3) ∷ entry 1 1 (Publish 1) ∷ entry 1 1 (Release 1) ∷ []

-- the reader fetches its messages, which take the absent name away
abbrev pub name_fetched : List Entry
name_fetched = table_made ++ entry 2 3 (Look true) ∷ entry 2 3 (Fetch 4) ∷ []

-- the name is scanned again
abbrev pub name_scanned : List Entry
name_scanned = name_fetched ++ entry 2 4 (Look false) ∷ entry 2 4 (Scan (scans.RelName (codes "t")) 1) ∷ []

-- the list of columns is read
abbrev pub list_scanned : List Entry
list_scanned = name_scanned ++ entry 2 4 (LockOk (oid 16384) AccessShare) ∷ entry 2 4 (Look false) ∷ entry 2 4 (Look false) ∷ entry 2 4 (Scan (scans.AttList (oid 16384)) 1) ∷ []

-- a column is read
abbrev pub column_scanned : List Entry
column_scanned = list_scanned ++ entry 2 5 (Look false) ∷ entry 2 5 (Scan (scans.AttName (oid 16384) (codes "a")) 1) ∷ []

-- the oid is read
abbrev pub oid_scanned : List Entry
oid_scanned = column_scanned ++ entry 2 6 (Look false) ∷ entry 2 6 (Scan (scans.RelOid (oid 16384)) 1) ∷ []

-- the reader's block ends
abbrev pub block_ended : List Entry
block_ended = oid_scanned ++ entry 2 7 (Release 3) ∷ []

-- another table is made, with a column
abbrev pub other_made : List Entry
other_made = block_ended ++ entry 1 2 (Look true) ∷ entry 1 2 (Fetch 4) ∷ entry 1 2 (Write (xid 2) (new_table 16385 (codes "u") (codes "b"))) ∷ entry 1 2 (Visible (xid 2)) ∷ entry 1 2 (Publish 3) ∷ entry 1 2 (Publish 1) ∷ entry 1 2 (Release 2) ∷ []

-- a message for its column takes the list away; the name stays
abbrev pub list_gone : List Entry
list_gone = other_made ++ entry 2 8 (Look true) ∷ entry 2 8 (Fetch 4) ∷ entry 2 8 (LockOk (oid 16384) AccessShare) ∷ entry 2 8 (Look false) ∷ []

-- the list is read again
abbrev pub list_scanned_again : List Entry
list_scanned_again = list_gone ++ entry 2 8 (Look false) ∷ entry 2 8 (Scan (scans.AttList (oid 16384)) 1) ∷ []

-- and the command ends
abbrev pub listed : List Entry
listed = list_scanned_again ++ entry 2 8 (Release 8) ∷ []

pub columns_of_a_later_table_plays : Plays columns_of_a_later_table listed
columns_of_a_later_table_plays = plays_by columns_of_a_later_table [] listed refl

pub columns_of_a_later_table_queue : FollowsQueue 4096 listed
columns_of_a_later_table_queue = (tt, (tt, (tt, (tt, (tt, (tt, (tt, (tt, (tt, (tt, (tt, (tt, (tt, (tt, (tt, (tt, (tt, (refl, (tt, (tt, (tt, (tt, (tt, (tt, (tt, (tt, (tt, (tt, (tt, (tt, (refl, (tt, (tt, (tt, (tt, (tt, (tt, (refl, (tt, (tt, (tt, (tt, (tt, tt)))))))))))))))))))))))))))))))))))))))))))

pub columns_of_a_later_table_economical : IsEconomical listed
columns_of_a_later_table_economical = (tt, (tt, (tt, (refl, (tt, (tt, (tt, (tt, (tt, (tt, (tt, (tt, (tt, (tt, (tt, (tt, (tt, (tt, (tt, (refl, (tt, (tt, (tt, (refl, (tt, (refl, (tt, (refl, (tt, (tt, (tt, (tt, (tt, (tt, (tt, (tt, (tt, (tt, (tt, (tt, (tt, (refl, (tt, tt)))))))))))))))))))))))))))))))))))))))))))

pub columns_of_a_later_table_follows : FollowsSchedule columns_of_a_later_table listed
columns_of_a_later_table_follows = (refl, (refl, (refl, (refl, (refl, (refl, (refl, (refl, (refl, (refl, (refl, (refl, (refl, (refl, (refl, (refl, (refl, (refl, (refl, (refl, (refl, (refl, (refl, (refl, (refl, (refl, (refl, (refl, (refl, (refl, (refl, (refl, (refl, (refl, (refl, (refl, (refl, (refl, (refl, (refl, (refl, (refl, (refl, tt)))))))))))))))))))))))))))))))))))))))))))

pub columns_of_a_later_table_looks : AreLooksTrue listed
columns_of_a_later_table_looks = (tt, (refl, (refl, (tt, (refl, (tt, (refl, (refl, (tt, (tt, (refl, (tt, (tt, (tt, (tt, (tt, (tt, (tt, (refl, (tt, (tt, (refl, (refl, (tt, (refl, (tt, (refl, (tt, (tt, (tt, (tt, (tt, (tt, (tt, (tt, (tt, (tt, (tt, (tt, (refl, (refl, (tt, (tt, tt)))))))))))))))))))))))))))))))))))))))))))

pub columns_of_a_later_table_complete : IsComplete columns_of_a_later_table listed
columns_of_a_later_table_complete = refl

abbrev pub columns_of_a_later_table_text : List ℕ
columns_of_a_later_table_text = codes "h 2 0 start\nh 2 1 look no\nh 2 1 look no\nh 2 1 scan relname t rows 0\nh 2 1 look no\nh 2 1 release 1\nh 2 2 look no\nh 2 2 look no\nh 2 2 release 2\nh 1 0 start\nh 1 1 look no\nh 1 1 write 1 +class(16384,t,r,-) +att(16384,1,a,int4,-1,l)\nh 1 1 visible 1\nh 1 1 publish 3\nh 1 1 publish 1\nh 1 1 release 1\nh 2 3 look yes\nh 2 3 fetch 4\nh 2 4 look no\nh 2 4 scan relname t rows 1\nh 2 4 lock 16384 as ok\nh 2 4 look no\nh 2 4 look no\nh 2 4 scan attlist 16384 rows 1\nh 2 5 look no\nh 2 5 scan attname 16384 a rows 1\nh 2 6 look no\nh 2 6 scan reloid 16384 rows 1\nh 2 7 release 3\nh 1 2 look yes\nh 1 2 fetch 4\nh 1 2 write 2 +class(16385,u,r,-) +att(16385,1,b,int4,-1,l)\nh 1 2 visible 2\nh 1 2 publish 3\nh 1 2 publish 1\nh 1 2 release 2\nh 2 8 look yes\nh 2 8 fetch 4\nh 2 8 lock 16384 as ok\nh 2 8 look no\nh 2 8 look no\nh 2 8 scan attlist 16384 rows 1\nh 2 8 release 8\nl 1 1 ok\nl 1 2 ok\nl 2 1 error 42P01 relation t does not exist as of 4\nl 2 2 error 42P01 relation t does not exist as of 4\nl 2 3 ok\nl 2 4 columns a:int4\nl 2 5 column 1 int4\nl 2 6 regclass t as of 28\nl 2 7 ok\nl 2 8 columns a:int4\nend\n"

pub columns_of_a_later_table_spelled : text_of listed (lines_of columns_of_a_later_table listed) ≡ columns_of_a_later_table_text
unfolding digits
columns_of_a_later_table_spelled = refl

pub columns_of_a_later_table_output : IsOutput Walk columns_of_a_later_table columns_of_a_later_table_text
columns_of_a_later_table_output = record { history = listed; allowed = record { legal = legal_by listed refl; queue = columns_of_a_later_table_queue; plays = columns_of_a_later_table_plays; economical = columns_of_a_later_table_economical }; interleaved = record { follows = columns_of_a_later_table_follows; looks = columns_of_a_later_table_looks }; complete = columns_of_a_later_table_complete; text_is = sym columns_of_a_later_table_spelled }

-- after the other table's messages, the reader has looked once more than it has to
abbrev pub name_kept : List Entry
name_kept = other_made ++ entry 2 8 (Look true) ∷ entry 2 8 (Fetch 4) ∷ entry 2 8 (Look false) ∷ []

-- the name, which those messages leave, is scanned again
pub cached_name_scanned : ScansOnlyIfNeeded name_kept 2 (Scan (scans.RelName (codes "t")) 1) → ⊥
cached_name_scanned h = search arith

-- no command does so
pub cached_name_unasked : is_next columns_of_a_later_table name_kept (entry 2 8 (Scan (scans.RelName (codes "t")) 1)) ≡ false
cached_name_unasked = refl

-- the lock is taken without it
pub cached_name_serves : is_next columns_of_a_later_table name_kept (entry 2 8 (LockOk (oid 16384) AccessShare)) ≡ true
cached_name_serves = refl

-- the transaction's start, where the name is cached as absent
abbrev pub absent_cached : List Entry
absent_cached = absent_ended ++ entry 2 2 (Look false) ∷ []

-- the command ends without an accept of its lookup
pub absent_name_unaccepted : is_next columns_of_a_later_table absent_cached (entry 2 2 (Release 2)) ≡ false
absent_name_unaccepted = refl

-- an accept that brings nothing
abbrev pub absent_kept : List Entry
absent_kept = absent_cached ++ entry 2 2 (Look false) ∷ []

-- the absent name is scanned again
pub absent_name_scanned : ScansOnlyIfNeeded absent_kept 2 (Scan (scans.RelName (codes "t")) 0) → ⊥
absent_name_scanned h = search arith

-- no command does so
pub absent_name_unasked : is_next columns_of_a_later_table absent_kept (entry 2 2 (Scan (scans.RelName (codes "t")) 0)) ≡ false
absent_name_unasked = refl

-- the command ends without it
pub absent_name_serves : is_next columns_of_a_later_table absent_kept (entry 2 2 (Release 2)) ≡ true
absent_name_serves = refl

-- a command ends by the absent name after an accept that brings nothing, though the messages of the table of that name have been fetched
pub absent_after_its_message : is_next columns_of_a_later_table (name_fetched ++ entry 2 4 (Look false) ∷ []) (entry 2 4 (Release 3)) ≡ false
absent_after_its_message = refl

-- a command ends by the list that a message for a column of another table has taken away
pub list_after_a_columns_message : is_next columns_of_a_later_table list_gone (entry 2 8 (Release 8)) ≡ false
list_after_a_columns_message = refl

-- that message leaves the column that was read by itself
pub column_kept : ScansOnlyIfNeeded list_gone 2 (Scan (scans.AttName (oid 16384) (codes "a")) 1) → ⊥
column_kept h = search arith

-- and the oid
pub oid_kept : ScansOnlyIfNeeded list_gone 2 (Scan (scans.RelOid (oid 16384)) 1) → ⊥
oid_kept h = search arith
