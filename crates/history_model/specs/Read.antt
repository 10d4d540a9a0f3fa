-- Which scans a backend has made, and which of them it may still rely on.
use Rattle.std.specs.Prelude.{ℕ, Bool, true, false, Option, Some, None, List, [], ◌≡◌, ◌+◌, ◌&&◌, ◌||◌, length, unwrap_or, ⊤}
use Rattle.base_types.specs.Scans.{same_scan}
use Rattle.inval_messages.specs.Messages.{is_spared}
use Rattle.inval_messages.specs.Lists.{lists_from, sent_in}
use Rattle.history_model.specs.Types.{Row, Purpose, Entry, Event, Scan, Fetch, FetchReset, Write, Gone, Fail}
use Rattle.history_model.specs.Prefixes.{along_own, EachEntry}
use Rattle.history_model.specs.Versions.{answer_of}
use Rattle.history_model.specs.Sent.{messages_written, lists_of}
use Rattle.history_model.specs.Log.{fetched_by}

-- the event is this scan
abbrev pub is_scan_of : Purpose → Event → Bool
is_scan_of purpose (Scan made rows) = same_scan made purpose
is_scan_of purpose event = false

-- the number of the backend's last entry with this scan, from 1
abbrev pub read_at : List Entry → ℕ → Purpose → Option ℕ
read_at history b purpose = along_own b (λ before old e. elim (is_scan_of purpose e.event) [ true ↦ Some (length before + 1) | false ↦ old ]) None history

-- that number, or 0 where there is none
abbrev pub place_read : List Entry → ℕ → Purpose → ℕ
place_read history b purpose = unwrap_or (read_at history b purpose) 0

-- the rows that the last such scan gave, after an event of the backend
abbrev pub rows_by : List Entry → ℕ → Purpose → Event → List Row → List Row
rows_by before b purpose event old = elim (is_scan_of purpose event) [ true ↦ answer_of before b purpose | false ↦ old ]

-- the rows that the backend's last such scan gave
abbrev pub rows_read : List Entry → ℕ → Purpose → List Row
rows_read history b purpose = along_own b (λ before old e. rows_by before b purpose e.event old) [] history

-- an event of the backend leaves what a scan gave: it is no reset and no refusal of memory, and brings no message that covers it
abbrev pub spares_by : List Entry → ℕ → ℕ → Purpose → Event → Bool
spares_by before b command purpose (Fetch count) = is_spared purpose (fetched_by before b count)
spares_by before b command purpose FetchReset = false
spares_by before b command purpose (Write xid items) = is_spared purpose (messages_written before b items)
spares_by before b command purpose (Gone from) = is_spared purpose (sent_in (lists_from from (lists_of before b)))
spares_by before b command purpose Fail = false
spares_by before b command purpose event = true

-- whether a scan is usable after an event of its backend
abbrev pub usable_by : List Entry → ℕ → ℕ → Purpose → Event → Bool → Bool
usable_by before b command purpose event old = is_scan_of purpose event || (spares_by before b command purpose event && old)

-- the backend has made this scan, and nothing since has taken it away
abbrev pub is_usable : List Entry → ℕ → Purpose → Bool
is_usable history b purpose = along_own b (λ before old e. usable_by before b e.command purpose e.event old) false history

-- a scan is made only where nothing read before still serves
abbrev pub ScansOnlyIfNeeded : List Entry → ℕ → Event → Type 0
ScansOnlyIfNeeded before b (Scan purpose rows) = is_usable before b purpose ≡ false
ScansOnlyIfNeeded before b event = ⊤

-- nobody scans again what it may still rely on
abbrev pub IsEconomical : List Entry → Type 0
IsEconomical history = EachEntry (λ before e. ScansOnlyIfNeeded before e.backend e.event) history
