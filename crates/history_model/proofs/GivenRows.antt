-- The rows that a scan gives: it asks for them, they are seen, and what is seen and asked for it gives.
use Rattle.std.proofs.Common.{◌≡◌, ℕ, true, List, [], inr, filter}
use Rattle.std.specs.List.{AllByRecursion}
use Rattle.base_types.specs.declared.row.Row.{Row}
use Rattle.base_types.specs.declared.scan.Purpose.{Purpose}
use Rattle.base_types.specs.Scans.{selects}
use Rattle.event_kinds.specs.declared.entry.Entry.{Entry}
use Rattle.history_model.specs.Versions.{rows_of, answer_of}
use Rattle.history_model.proofs.Every.{every-weaker, every-filter, SomeOf, some-weaker, some-filter}
use Rattle.history_model.proofs.InOrder.{IsIn, every_self, every_given, some_given}

-- a row that a scan gives is seen, and the scan asks for it
pub given_seen : (history : List Entry) (b : ℕ) (d : Purpose) → AllByRecursion (λ row. IsIn row (rows_of history b) × (selects d row ≡ true)) (answer_of history b d)
given_seen history b d = every_given (λ row. IsIn row (rows_of history b) × (selects d row ≡ true)) d [] (filter (selects d) (rows_of history b)) tt
    (every-filter (λ row. IsIn row (rows_of history b) × (selects d row ≡ true)) (selects d) (rows_of history b)
    (every-weaker (λ row. IsIn row (rows_of history b)) (λ row. selects d row ≡ true → IsIn row (rows_of history b) × (selects d row ≡ true)) (λ row is asks. (is, asks)) (rows_of history b) (every_self (rows_of history b))))

pub given_asked : (history : List Entry) (b : ℕ) (d : Purpose) → AllByRecursion (λ row. selects d row ≡ true) (answer_of history b d)
given_asked history b d = every-weaker (λ row. IsIn row (rows_of history b) × (selects d row ≡ true)) (λ row. selects d row ≡ true) (λ row is. is.1) (answer_of history b d) (given_seen history b d)

-- a row that is seen a scan gives which asks for such rows
pub row_given : (P : Row → Type 0) (history : List Entry) (b : ℕ) (d : Purpose) → ((row : Row) → P row → selects d row ≡ true) → SomeOf P (rows_of history b) → SomeOf P (answer_of history b d)
row_given P history b d asks some = some_given P d [] (filter (selects d) (rows_of history b)) (inr (some-filter P (selects d) (rows_of history b) (some-weaker P (λ row. (selects d row ≡ true) × P row) (λ row is. (asks row is, is)) (rows_of history b) some)))
