-- Where a backend last made a scan; and the rows that the scan gave are its answer by the entries up to its own.
use Rattle.std.proofs.Common.{◌≡◌, ◌+◌, ◌∙◌, ℕ, Bool, true, false, Option, Some, None, List, [], ◌∷◌, ◌++◌, ◌==◌, ◌||◌, refl, sym, ap, length, take, map, filter, unwrap_or, arith}
use Rattle.std.proofs.Math.Bool.{or-false}
use Rattle.std.proofs.lemmas.List.{take-append-le, take_all, length_push}
use Rattle.base_types.specs.Scans.{scan_of}
use Rattle.event_kinds.specs.declared.entry.Event.TheVariants as events
use Rattle.history_model.specs.Read.{is_scan_of, read_at, place_read, rows_read}
use Rattle.history_model.specs.Transactions.{running_by, running_transaction_of, has_xid, runs_as, makes_visible, is_committed}
use Rattle.txn_blocks.specs.declared.transaction.RunningTransaction.{RunningTransaction as Running}
use Rattle.history_model.specs.Versions.{counts, versions_by, versions_of, answer_of}
use Rattle.history_model.proofs.Prefixes.{along-keeps}
use Rattle.history_model.proofs.Reading.{versions_of-more, is_committed-more, running_transaction_of-own, running_transaction_of-other, rows_read-own, rows_read-other, read_at-own, place_read-short, place_read-other}
use Rattle.row_visibility.specs.Seen.{seen_by}
use Rattle.row_visibility.specs.declared.version.Stamp.{Stamp}
use Rattle.row_visibility.specs.declared.version.Version.{Version}
use Rattle.cacheless.specs.Types.{Purpose, Entry, Event}

-- the place of a scan, after an entry that isn't this scan
pub place_read-more : (history : List Entry) (e : Entry) (b : ℕ) (scan : Purpose) → is_scan_of scan e.event ≡ false → place_read (history ++ e ∷ []) b scan ≡ place_read history b scan
place_read-more history e b scan others = by_owner (e.backend == b) refl
  where
    by_owner : (t : Bool) → (e.backend == b) ≡ t → place_read (history ++ e ∷ []) b scan ≡ place_read history b scan
    by_owner true own = ap (λ o. unwrap_or o 0) (read_at-own history e b scan own ∙ ap (λ t. elim t [ true ↦ Some (length history + 1) | false ↦ read_at history b scan ]) others)
    by_owner false other = place_read-other history e b scan other

-- and after the scan
pub place_read-scan : (history : List Entry) (e : Entry) (b : ℕ) (scan : Purpose) → (e.backend == b) ≡ true → is_scan_of scan e.event ≡ true → place_read (history ++ e ∷ []) b scan ≡ length history + 1
place_read-scan history e b scan own is = ap (λ o. unwrap_or o 0) (read_at-own history e b scan own ∙ ap (λ t. elim t [ true ↦ Some (length history + 1) | false ↦ read_at history b scan ]) is)

scan_versions : (scan : Purpose) (before : List Entry) (b c : ℕ) (event : Event) (old : List Version) → is_scan_of scan event ≡ true → versions_by before b c event old ≡ old
scan_versions scan before b c (events.Scan made count) old is = refl
scan_versions scan before b c event old is = absurd (cc)

scan_hidden : (scan : Purpose) (x : ℕ) (event : Event) → is_scan_of scan event ≡ true → makes_visible x event ≡ false
scan_hidden scan x (events.Scan made count) is = refl
scan_hidden scan x event is = absurd (cc)

scan_xid : (scan : Purpose) (x c : ℕ) (event : Event) (old : Option Running) → is_scan_of scan event ≡ true → has_xid x (running_by c event old) ≡ has_xid x old
scan_xid scan x c (events.Scan made count) None is = refl
scan_xid scan x c (events.Scan made count) (Some t) is = refl
scan_xid scan x c event old is = absurd (cc)

scan_runs : (scan : Purpose) (history : List Entry) (e : Entry) (b x : ℕ) → is_scan_of scan e.event ≡ true → runs_as (history ++ e ∷ []) b x ≡ runs_as history b x
scan_runs scan history e b x is = by_owner (e.backend == b) refl
  where
    by_owner : (t : Bool) → (e.backend == b) ≡ t → runs_as (history ++ e ∷ []) b x ≡ runs_as history b x
    by_owner true own = ap (has_xid x) (running_transaction_of-own history e b own) ∙ scan_xid scan x e.command e.event (running_transaction_of history b) is
    by_owner false other = ap (has_xid x) (running_transaction_of-other history e b other)

scan_counts : (scan : Purpose) (history : List Entry) (e : Entry) (b : ℕ) (s : Stamp) → is_scan_of scan e.event ≡ true → counts (history ++ e ∷ []) b s ≡ counts history b s
scan_counts scan history e b s is =
    ap (λ t. t || runs_as (history ++ e ∷ []) b s.xid.0) (is_committed-more history e s.xid.0 ∙ ap (λ t. is_committed history s.xid.0 || t) (scan_hidden scan s.xid.0 e.event is) ∙ or-false (is_committed history s.xid.0))
    ∙ ap (λ t. is_committed history s.xid.0 || t) (scan_runs scan history e b s.xid.0 is)

-- a scan changes no answer
pub answer-scan : (scan : Purpose) (history : List Entry) (e : Entry) (b : ℕ) (asked : Purpose) → is_scan_of scan e.event ≡ true → answer_of (history ++ e ∷ []) b asked ≡ answer_of history b asked
answer-scan scan history e b asked is =
    ap (λ vs. scan_of asked (map (λ v. v.row) (filter (seen_by (counts (history ++ e ∷ []) b)) vs))) (versions_of-more history e ∙ scan_versions scan history e.backend e.command e.event (versions_of history) is)
    ∙ (λ i. scan_of asked (map (λ v. v.row) (filter (seen_by (λ s. scan_counts scan history e b s is i)) (versions_of history))))

-- the rows that the backend's last such scan gave
pub read_at_place : (history : List Entry) (b : ℕ) (scan : Purpose) → answer_of (take (place_read history b scan) history) b scan ≡ rows_read history b scan
read_at_place history b scan = along-keeps {X = Unit {0}} (λ before x. answer_of (take (place_read before b scan) before) b scan ≡ rows_read before b scan) (λ before x e. x) (λ before x e held. more before e held) tt history refl
  where
    after : (before : List Entry) (e : Entry) → place_read (before ++ e ∷ []) b scan ≡ place_read before b scan → rows_read (before ++ e ∷ []) b scan ≡ rows_read before b scan
        → answer_of (take (place_read before b scan) before) b scan ≡ rows_read before b scan → answer_of (take (place_read (before ++ e ∷ []) b scan) (before ++ e ∷ [])) b scan ≡ rows_read (before ++ e ∷ []) b scan
    after before e place rows held =
        ap (λ n. answer_of (take n (before ++ e ∷ [])) b scan) place ∙ ap (λ h. answer_of h b scan) (take-append-le (place_read before b scan) before (e ∷ []) (place_read-short before b scan)) ∙ held ∙ sym rows

    more : (before : List Entry) (e : Entry) → answer_of (take (place_read before b scan) before) b scan ≡ rows_read before b scan → answer_of (take (place_read (before ++ e ∷ []) b scan) (before ++ e ∷ [])) b scan ≡ rows_read (before ++ e ∷ []) b scan
    more before e held = by_owner (e.backend == b) refl
      where
        by_scan : (e.backend == b) ≡ true → (u : Bool) → is_scan_of scan e.event ≡ u → answer_of (take (place_read (before ++ e ∷ []) b scan) (before ++ e ∷ [])) b scan ≡ rows_read (before ++ e ∷ []) b scan
        by_scan own true is =
            ap (λ n. answer_of (take n (before ++ e ∷ [])) b scan) (place_read-scan before e b scan own is) ∙ ap (λ h. answer_of h b scan) (take_all (length before + 1) (before ++ e ∷ []) (omega (arith, length_push before e)))
            ∙ answer-scan scan before e b scan is ∙ sym (rows_read-own before e b scan own ∙ ap (λ t. elim t [ true ↦ answer_of before b scan | false ↦ rows_read before b scan ]) is)
        by_scan own false is = after before e (place_read-more before e b scan is) (rows_read-own before e b scan own ∙ ap (λ t. elim t [ true ↦ answer_of before b scan | false ↦ rows_read before b scan ]) is) held

        by_owner : (t : Bool) → (e.backend == b) ≡ t → answer_of (take (place_read (before ++ e ∷ []) b scan) (before ++ e ∷ [])) b scan ≡ rows_read (before ++ e ∷ []) b scan
        by_owner true own = by_scan own (is_scan_of scan e.event) refl
        by_owner false other = after before e (place_read-other before e b scan other) (rows_read-other before e b scan other) held
