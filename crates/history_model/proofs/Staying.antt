-- What one more entry leaves of a scan that stays what it gave.
use Rattle.std.proofs.Common.{◌≡◌, ◌≤◌, ◌<◌, ◌+◌, ◌∙◌, ◌⊎◌, inl, inr, ℕ, true, false, Some, List, [], ◌∷◌, ◌++◌, ◌==◌, sym, ap, subst, arith, unwrap_or, length, take}
use Rattle.std.proofs.lemmas.List.{length_push, take-append-le, take_all}
use Rattle.std.proofs.lemmas.Bool.{cases_lt}
use Rattle.base_types.specs.declared.row.Row.{Row}
use Rattle.base_types.specs.declared.scan.Purpose.{Purpose}
use Rattle.event_kinds.specs.declared.entry.Entry.{Entry}
use Rattle.history_model.specs.Versions.{answer_of}
use Rattle.history_model.specs.Coming.{StaysRead}
use Rattle.history_model.specs.Read.{read_at, is_scan_of, place_read, rows_read}
use Rattle.history_model.proofs.CountedAnswers.{counted}
use Rattle.history_model.proofs.Reading.{read_at-own, place_read-other, rows_read-own, rows_read-other}

-- what the backend's last such scan gave stays its answer
abbrev pub Stays : List Entry → ℕ → Purpose → Type 0
Stays history b d = StaysRead history b d (place_read history b d) (rows_read history b d)

extended : (history : List Entry) (e : Entry) (b : ℕ) (d : Purpose) (at : ℕ) (rows : List Row) → StaysRead history b d at rows
    → counted d (answer_of (history ++ e ∷ []) b d) ≡ counted d (answer_of history b d) → StaysRead (history ++ e ∷ []) b d at rows
extended history e b d at rows before more = record { within = omega (arith, before.within, length_push history e); stays = λ q low high. by_place q low high (cases_lt (length history) q) }
  where
    by_place : (q : ℕ) → at ≤ q → q ≤ length (history ++ e ∷ []) → (length history < q) ⊎ (q ≤ length history) → counted d (answer_of (take q (history ++ e ∷ [])) b d) ≡ counted d rows
    by_place q low high (inl last) =
        let long : length (history ++ e ∷ []) ≤ q = omega (arith, length_push history e) in
        ap (λ h. counted d (answer_of h b d)) (take_all q (history ++ e ∷ []) long) ∙ more ∙ ap (λ h. counted d (answer_of h b d)) (sym (take_all (length history) history (omega arith))) ∙ before.stays (length history) before.within (omega arith)
    by_place q low high (inr within) = ap (λ h. counted d (answer_of h b d)) (take-append-le q history (e ∷ []) within) ∙ before.stays q low within

stays-same : (history : List Entry) (e : Entry) (b : ℕ) (d : Purpose) → place_read (history ++ e ∷ []) b d ≡ place_read history b d → rows_read (history ++ e ∷ []) b d ≡ rows_read history b d
    → counted d (answer_of (history ++ e ∷ []) b d) ≡ counted d (answer_of history b d) → Stays history b d → Stays (history ++ e ∷ []) b d
stays-same history e b d place rows more before =
    subst (λ at. StaysRead (history ++ e ∷ []) b d at (rows_read (history ++ e ∷ []) b d)) (sym place)
    (subst (StaysRead (history ++ e ∷ []) b d (place_read history b d)) (sym rows) (extended history e b d (place_read history b d) (rows_read history b d) before more))

-- after another's entry that leaves the answer
pub stays-other : (history : List Entry) (e : Entry) (b : ℕ) (d : Purpose) → (e.backend == b) ≡ false → counted d (answer_of (history ++ e ∷ []) b d) ≡ counted d (answer_of history b d) → Stays history b d → Stays (history ++ e ∷ []) b d
stays-other history e b d other more before = stays-same history e b d (place_read-other history e b d other) (rows_read-other history e b d other) more before

-- after an own one that isn't the scan
pub stays-kept : (history : List Entry) (e : Entry) (b : ℕ) (d : Purpose) → (e.backend == b) ≡ true → is_scan_of d e.event ≡ false → counted d (answer_of (history ++ e ∷ []) b d) ≡ counted d (answer_of history b d) → Stays history b d → Stays (history ++ e ∷ []) b d
stays-kept history e b d own not_it more before = stays-same history e b d
    (ap (λ at. unwrap_or at 0) (read_at-own history e b d own ∙ ap (λ t. elim t [ true ↦ Some (length history + 1) | false ↦ read_at history b d ]) not_it))
    (rows_read-own history e b d own ∙ ap (λ t. elim t [ true ↦ answer_of history b d | false ↦ rows_read history b d ]) not_it) more before

-- and after the scan itself
pub stays-scan : (history : List Entry) (e : Entry) (b : ℕ) (d : Purpose) → (e.backend == b) ≡ true → is_scan_of d e.event ≡ true → counted d (answer_of (history ++ e ∷ []) b d) ≡ counted d (answer_of history b d) → Stays (history ++ e ∷ []) b d
stays-scan history e b d own it more =
    subst (λ at. StaysRead after b d at (rows_read after b d)) (sym (ap (λ at. unwrap_or at 0) (read_at-own history e b d own ∙ ap (λ t. elim t [ true ↦ Some (length history + 1) | false ↦ read_at history b d ]) it)))
    (subst (StaysRead after b d (length history + 1)) (sym (rows_read-own history e b d own ∙ ap (λ t. elim t [ true ↦ answer_of history b d | false ↦ rows_read history b d ]) it))
    (record { within = omega (arith, length_push history e); stays = stays }))
  where
    after : List Entry
    after = history ++ e ∷ []

    stays : (q : ℕ) → length history + 1 ≤ q → q ≤ length after → counted d (answer_of (take q after) b d) ≡ counted d (answer_of history b d)
    stays q low high =
        let long : length after ≤ q = omega (arith, low, length_push history e) in
        ap (λ h. counted d (answer_of h b d)) (take_all q after long) ∙ more
