-- What a scan gives is what the history answers.
use Rattle.std.proofs.Common.{◌≡◌, ◌∙◌, ℕ, true, Result, Ok, Err, List, [], ◌∷◌, ◌++◌, length, refl, ap, subst}
use Rattle.std.specs.Result.{MatchResult, OkIff, is_ok}
use Rattle.base_types.specs.declared.scan.Purpose.{Purpose}
use Rattle.base_types.specs.declared.scanned.Scanned.{Scanned}
use Rattle.event_kinds.specs.declared.entry.Entry.{Entry}
use Rattle.event_kinds.specs.declared.entry.Event.TheVariants.{Scan}
use Rattle.std.proofs.lemmas.List.{length_push}
use Rattle.history_model.specs.Versions.{answer_of}
use Rattle.seg_calls.specs.Calls.{entry_of, MayRequest, GivesRows}
use Rattle.shared_seg.specs.Kept.{Kept, places_in}
use Rattle.shared_seg.specs.Places.{promised_in}
use Rattle.shared_seg.proofs.Asked.{request_inside, asked_appends}

-- the number that a conversion gives is the one that it was given, whatever its error becomes
pub converted : {E : Type 0} (F Fits : Type 0) (Fails : E → Type 0) (given : Result ℕ E) (count n : ℕ) → OkIff given Fits n → true ≡ is_ok given → MatchResult given (λ x. ◌≡◌ {A = Result ℕ F} (Ok count) (Ok x)) Fails → count ≡ n
converted F Fits Fails (Ok x) count n is ok same = let first : count ≡ x = cc in first ∙ is.1
converted F Fits Fails (Err error) count n is ok same = absurd (cc)

-- a scan whose entry counts what it gives
pub gives_rows : (k now : Kept) (after : List Entry) (has : List ℕ) (b c : ℕ) (purpose : Purpose) (scanned : Scanned) (count : ℕ) → k ≡ now → MayRequest now.script now.history b c
    → scanned.rows.items ≡ answer_of k.history b purpose → count ≡ length (answer_of k.history b purpose) → after ≡ k.history ++ entry_of b c (Scan purpose count) ∷ [] → has ≡ k.promised → scanned.at ≡ length after
    → GivesRows now.history after (places_in now) (promised_in has) b c purpose scanned
gives_rows k now after has b c purpose scanned count is request rows counted entries same at =
    subst (λ (x : Kept). GivesRows x.history after (places_in x) (promised_in has) b c purpose scanned) is (record {
      appends = asked_appends k k after has b c (Scan purpose (length (answer_of k.history b purpose))) refl (request_inside k now b c is request) refl refl tt (entries ∙ ap (λ n. k.history ++ entry_of b c (Scan purpose n) ∷ []) counted) same;
      rows = rows;
      at = at ∙ ap length entries ∙ length_push k.history (entry_of b c (Scan purpose count));
    })
