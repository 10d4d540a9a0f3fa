-- What one more entry does to the facts and to the session of a backend.
use Rattle.std.proofs.Common.{◌≡◌, ◌+◌, ◌∙◌, ◌&&◌, ◌||◌, ℕ, Bool, true, false, Option, Some, None, List, [], ◌∷◌, ◌++◌, ◌==◌, refl, sym, ap, length, unwrap_or, is_some, if◌then◌else◌}
use Rattle.std.specs.Option.{option_map_or}
use Rattle.base_types.specs.Scans.{same_scan}
use Rattle.base_types.specs.Scenario.{Scenario}
use Rattle.base_types.proofs.SameScan.{same_scan-true}
use Rattle.event_kinds.specs.declared.entry.Entry.{Entry}
use Rattle.event_kinds.specs.declared.entry.Event.TheVariants as events
use Rattle.inval_messages.specs.Lists.{lists_from, sent_in}
use Rattle.inval_messages.specs.Messages.{is_spared}
use Rattle.local_caches.specs.Kept.{Read, Kept, is_kept, rows_kept, place_kept}
use Rattle.history_model.specs.Log.{fetched_by}
use Rattle.history_model.specs.Read.{is_scan_of, usable_by, is_usable, rows_by, rows_read, read_at, place_read}
use Rattle.history_model.specs.Sent.{messages_written, lists_of}
use Rattle.history_model.specs.Versions.{answer_of}
use Rattle.history_model.proofs.Prefixes.{own-own, own-other}
use Rattle.history_model.proofs.Reading.{last_event_of-own, last_event_of-other, running_transaction_of-own, running_transaction_of-other, lists_of-own, lists_of-other, is_usable-own, is_usable-other, rows_read-own, rows_read-other, read_at-own, read_at-other}
use Rattle.cacheless.specs.Types.{Row, Purpose, Event}
use Rattle.cacheless.specs.Facts.{facts_of, due_last, kept_if, kept_in}
use Rattle.cacheless.specs.Sessions.{session_of, session_by}
use Rattle.cacheless.proofs.FactsAfter.{facts_by, kept_by}

spared_step : (t u : Bool) (given : List Row) (at : Option ℕ) (old : Option Read) → old ≡ kept_if u given (unwrap_or at 0) → kept_if (t && u) given (unwrap_or at 0) ≡ (if t then old else None)
spared_step true u given at old is = sym is
spared_step false u given at old is = refl

-- what is kept of a scan after an event, where it was usable or not
kept_step : (before : List Entry) (b command : ℕ) (event : Event) (scan : Purpose) (u : Bool) (given : List Row) (at : Option ℕ) (kept : Kept) → kept scan ≡ kept_if u given (unwrap_or at 0)
    → kept_if (usable_by before b command scan event u) (rows_by before b scan event given) (unwrap_or (elim (is_scan_of scan event) as (λ x. Option ℕ) [ true ↦ Some (length before + 1) | false ↦ at ]) 0) ≡ kept_by before b event kept scan
kept_step before b command (events.Scan made count) scan u given at kept is = by_same (same_scan made scan) refl
  where
    by_same : (t : Bool) → same_scan made scan ≡ t → kept_if (t || (true && u)) (elim t as (λ x. List Row) [ true ↦ answer_of before b scan | false ↦ given ]) (unwrap_or (elim t as (λ x. Option ℕ) [ true ↦ Some (length before + 1) | false ↦ at ]) 0) ≡ (if t then Some (record { rows = answer_of before b made; at = length before + 1 }) else kept scan)
    by_same true same = ap (λ d. Some (record { rows = answer_of before b d; at = length before + 1 })) (sym (same_scan-true made scan same))
    by_same false other = sym is
kept_step before b command (events.Fetch count) scan u given at kept is = spared_step (is_spared scan (fetched_by before b count)) u given at (kept scan) is
kept_step before b command (events.Write xid items) scan u given at kept is = spared_step (is_spared scan (messages_written before b items)) u given at (kept scan) is
kept_step before b command (events.Gone from) scan u given at kept is = spared_step (is_spared scan (sent_in (lists_from from (lists_of before b)))) u given at (kept scan) is
kept_step before b command events.FetchReset scan u given at kept is = refl
kept_step before b command events.Fail scan u given at kept is = refl
kept_step before b command event scan u given at kept is = sym is

-- what a backend keeps after its own entry
kept_in-own : (history : List Entry) (e : Entry) (b : ℕ) → (e.backend == b) ≡ true → kept_in (history ++ e ∷ []) b ≡ kept_by history b e.event (kept_in history b)
kept_in-own history e b own = λ i scan. after scan i
  where
    after : (scan : Purpose) → kept_in (history ++ e ∷ []) b scan ≡ kept_by history b e.event (kept_in history b) scan
    after scan = (λ i. kept_if (is_usable-own history e b scan own i) (rows_read-own history e b scan own i) (unwrap_or (read_at-own history e b scan own i) 0))
        ∙ kept_step history b e.command e.event scan (is_usable history b scan) (rows_read history b scan) (read_at history b scan) (kept_in history b) refl

-- the facts of a backend after its own entry
pub facts_of-own : (history : List Entry) (e : Entry) (b : ℕ) → (e.backend == b) ≡ true → facts_of (history ++ e ∷ []) b ≡ facts_by history b e.command e.event (facts_of history b)
facts_of-own history e b own = λ i. record {
  due = due_last (last_event_of-own history e b own i);
  running = running_transaction_of-own history e b own i;
  lists = lists_of-own history e b own i;
  kept = kept_in-own history e b own i;
}

-- and after another's
pub facts_of-other : (history : List Entry) (e : Entry) (b : ℕ) → (e.backend == b) ≡ false → facts_of (history ++ e ∷ []) b ≡ facts_of history b
facts_of-other history e b other = λ i. record {
  due = due_last (last_event_of-other history e b other i);
  running = running_transaction_of-other history e b other i;
  lists = lists_of-other history e b other i;
  kept = λ scan. kept_if (is_usable-other history e b scan other i) (rows_read-other history e b scan other i) (unwrap_or (read_at-other history e b scan other i) 0);
}

-- what is kept is what is usable, and gives the rows and the place of the last scan
pub kept_usable : (history : List Entry) (b : ℕ) (scan : Purpose) → is_kept (kept_in history b) scan ≡ is_usable history b scan
kept_usable history b scan = by_test (is_usable history b scan)
  where
    by_test : (t : Bool) → is_some (kept_if t (rows_read history b scan) (place_read history b scan)) ≡ t
    by_test true = refl
    by_test false = refl

pub kept_rows_read : (history : List Entry) (b : ℕ) (scan : Purpose) → is_usable history b scan ≡ true → rows_kept (kept_in history b) scan ≡ rows_read history b scan
kept_rows_read history b scan is = ap (λ t. option_map_or (λ (read : Read). read.rows) (kept_if t (rows_read history b scan) (place_read history b scan)) []) is

-- where the code keeps just this
pub kept_read : (history : List Entry) (b : ℕ) (kept : Kept) (scan : Purpose) → kept_in history b ≡ kept → is_kept kept scan ≡ true → rows_read history b scan ≡ rows_kept kept scan
kept_read history b kept scan same has = sym (kept_rows_read history b scan (sym (kept_usable history b scan) ∙ ap (λ k. is_kept k scan) same ∙ has)) ∙ ap (λ k. rows_kept k scan) same

pub kept_place_read : (history : List Entry) (b : ℕ) (scan : Purpose) → is_usable history b scan ≡ true → place_kept (kept_in history b) scan ≡ place_read history b scan
kept_place_read history b scan is = ap (λ t. option_map_or (λ (read : Read). read.at) (kept_if t (rows_read history b scan) (place_read history b scan)) 0) is

pub kept_place : (history : List Entry) (b : ℕ) (kept : Kept) (scan : Purpose) → kept_in history b ≡ kept → is_kept kept scan ≡ true → place_read history b scan ≡ place_kept kept scan
kept_place history b kept scan same has = sym (kept_place_read history b scan (sym (kept_usable history b scan) ∙ ap (λ k. is_kept k scan) same ∙ has)) ∙ ap (λ k. place_kept k scan) same

-- the session of a backend after its own entry
pub session_of-own : (scenario : Scenario) (history : List Entry) (e : Entry) (b : ℕ) → (e.backend == b) ≡ true
    → session_of scenario (history ++ e ∷ []) b ≡ session_by scenario (facts_by history b e.command e.event (facts_of history b)) b (length history + 1) e.command e.event (session_of scenario history b)
session_of-own scenario history e b own =
    own-own b (λ before old y. session_by scenario (facts_of (before ++ y ∷ []) b) b (length before + 1) y.command y.event old) None history e own
    ∙ ap (λ facts. session_by scenario facts b (length history + 1) e.command e.event (session_of scenario history b)) (facts_of-own history e b own)

-- and after another's
pub session_of-other : (scenario : Scenario) (history : List Entry) (e : Entry) (b : ℕ) → (e.backend == b) ≡ false → session_of scenario (history ++ e ∷ []) b ≡ session_of scenario history b
session_of-other scenario history e b other = own-other b (λ before old y. session_by scenario (facts_of (before ++ y ∷ []) b) b (length before + 1) y.command y.event old) None history e other
