-- What a backend read by a scan that is usable serves since the place of that scan.
use Rattle.std.proofs.Common.{◌≡◌, ◌≤◌, ◌+◌, ◌∙◌, ℕ, Bool, true, false, Some, List, [], ◌∷◌, ◌++◌, ◌==◌, ◌&&◌, ◌||◌, refl, sym, ap, subst, length, take, drop, append_assoc, append-nil, arith}
use Rattle.std.proofs.lemmas.Bool.{and_parts, both_ways, eq-eqb}
use Rattle.std.proofs.lemmas.List.{take-append-le, drop-append-le, take-append-drop, drop_all, length_push}
use Rattle.history_model.specs.Prefixes.{EachFrom}
use Rattle.history_model.specs.Read.{is_scan_of, read_at, place_read, spares_by, is_usable}
use Rattle.history_model.proofs.Prefixes.{along-keeps}
use Rattle.history_model.proofs.Reading.{read_at-own, read_at-other, is_usable-own, is_usable-other, place_read-short, place_read-other}
use Rattle.cacheless.specs.Places.{SparesScan, ServesSince}
use Rattle.cacheless.specs.Types.{Purpose, Entry}
use Rattle.cacheless.proofs.Answers.ReadPlaces.{place_read-more, place_read-scan}

-- one more entry after others
from-more : (P : List Entry → Entry → Type 0) (before rest : List Entry) (e : Entry) → EachFrom P before rest → P (before ++ rest) e → EachFrom P before (rest ++ e ∷ [])
from-more P before [] e each here = (subst (λ h. P h e) (append-nil before) here, tt)
from-more P before (x ∷ rest) e each here = (each.0, from-more P (before ++ x ∷ []) rest e each.1 (subst (λ h. P h e) (sym (append_assoc before (x ∷ []) rest)) here))

-- an entry that spares the scan and isn't it
serves-more : (history : List Entry) (e : Entry) (b : ℕ) (scan : Purpose) → ServesSince history b scan (place_read history b scan) → place_read (history ++ e ∷ []) b scan ≡ place_read history b scan → read_at (history ++ e ∷ []) b scan ≡ read_at history b scan
    → is_usable (history ++ e ∷ []) b scan ≡ true → SparesScan b scan history e → ServesSince (history ++ e ∷ []) b scan (place_read (history ++ e ∷ []) b scan)
serves-more history e b scan serves place read usable spares = subst (ServesSince (history ++ e ∷ []) b scan) (sym place) (record {
  last = read ∙ serves.last;
  usable = usable;
  since = subst (λ front. EachFrom (SparesScan b scan) front (drop at (history ++ e ∷ []))) (sym (take-append-le at history (e ∷ []) within))
      (subst (EachFrom (SparesScan b scan) (take at history)) (sym (drop-append-le at history (e ∷ []) within))
      (from-more (SparesScan b scan) (take at history) (drop at history) e serves.since (subst (λ h. SparesScan b scan h e) (sym (take-append-drop at history)) spares)));
})
  where
    at : ℕ
    at = place_read history b scan

    within : at ≤ length history
    within = place_read-short history b scan

-- the scan itself
serves-scan : (history : List Entry) (e : Entry) (b : ℕ) (scan : Purpose) → (e.backend == b) ≡ true → is_scan_of scan e.event ≡ true → is_usable (history ++ e ∷ []) b scan ≡ true → ServesSince (history ++ e ∷ []) b scan (place_read (history ++ e ∷ []) b scan)
serves-scan history e b scan own is usable = subst (ServesSince (history ++ e ∷ []) b scan) (sym (place_read-scan history e b scan own is)) (record {
  last = read_at-own history e b scan own ∙ ap (λ t. elim t [ true ↦ Some (length history + 1) | false ↦ read_at history b scan ]) is;
  usable = usable;
  since = subst (EachFrom (SparesScan b scan) (take (length history + 1) (history ++ e ∷ []))) (sym (drop_all (length history + 1) (history ++ e ∷ []) (omega (arith, length_push history e)))) tt;
})

-- so what is usable serves
pub serves : (history : List Entry) (b : ℕ) (scan : Purpose) → is_usable history b scan ≡ true → ServesSince history b scan (place_read history b scan)
serves history b scan = along-keeps {X = Unit {0}} (λ before x. is_usable before b scan ≡ true → ServesSince before b scan (place_read before b scan)) (λ before x e. x) (λ before x e held. more before e held) tt history (λ usable. absurd (cc usable))
  where
    more : (before : List Entry) (e : Entry) → (is_usable before b scan ≡ true → ServesSince before b scan (place_read before b scan)) → is_usable (before ++ e ∷ []) b scan ≡ true → ServesSince (before ++ e ∷ []) b scan (place_read (before ++ e ∷ []) b scan)
    more before e held usable = by_owner (e.backend == b) refl
      where
        by_scan : (e.backend == b) ≡ true → (t : Bool) → is_scan_of scan e.event ≡ t → ServesSince (before ++ e ∷ []) b scan (place_read (before ++ e ∷ []) b scan)
        by_scan own true is = serves-scan before e b scan own is usable
        by_scan own false is = serves-more before e b scan (held parts.1) (place_read-more before e b scan is)
            (read_at-own before e b scan own ∙ ap (λ t. elim t [ true ↦ Some (length before + 1) | false ↦ read_at before b scan ]) is) usable (λ mine. parts.0)
          where
            parts : (spares_by before b e.command scan e.event ≡ true) × (is_usable before b scan ≡ true)
            parts = and_parts (spares_by before b e.command scan e.event) (is_usable before b scan) (ap (λ t. t || (spares_by before b e.command scan e.event && is_usable before b scan)) (sym is) ∙ sym (is_usable-own before e b scan own) ∙ usable)

        by_owner : (t : Bool) → (e.backend == b) ≡ t → ServesSince (before ++ e ∷ []) b scan (place_read (before ++ e ∷ []) b scan)
        by_owner true own = by_scan own (is_scan_of scan e.event) refl
        by_owner false other = serves-more before e b scan (held (sym (is_usable-other before e b scan other) ∙ usable)) (place_read-other before e b scan other) (read_at-other before e b scan other) usable
            (λ mine. absurd (both_ways _ other (eq-eqb e.backend b mine)))
