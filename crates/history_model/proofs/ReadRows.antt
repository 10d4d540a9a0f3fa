-- The rows that a backend's scans have given: each is one for which the scan asks, of a relation whose oid is drawn.
use Rattle.std.proofs.Common.{◌≡◌, ◌<◌, ℕ, Bool, true, false, List, [], ◌∷◌, ◌++◌, ◌==◌, refl, sym, subst, arith}
use Rattle.std.specs.List.{AllByRecursion}
use Rattle.base_types.specs.declared.row.Row.{Row}
use Rattle.base_types.specs.declared.scan.Purpose.{Purpose}
use Rattle.base_types.specs.Scans.{selects}
use Rattle.event_kinds.specs.declared.entry.Entry.{Entry}
use Rattle.history_model.specs.Drawn.{next_oid}
use Rattle.history_model.specs.Versions.{answer_of}
use Rattle.history_model.specs.Read.{is_scan_of, rows_read}
use Rattle.history_model.specs.Orderly.{main_rel}
use Rattle.history_model.specs.Sound.{MayComeNext, IsSound}
use Rattle.history_model.proofs.Prefixes.{EachEntry-more, each-keeps}
use Rattle.history_model.proofs.Reading.{rows_read-own, rows_read-other}
use Rattle.history_model.proofs.Every.{every-weaker}
use Rattle.history_model.proofs.Reached.{next_rises}
use Rattle.history_model.proofs.GivenRows.{given_asked}
use Rattle.history_model.proofs.DrawnRows.{given_drawn}

-- what holds of each answer, and goes on to hold, holds of what was read
pub read_keeps : (P : List Entry → Row → Type 0) (d : Purpose) (b : ℕ) → ((before : List Entry) (e : Entry) (row : Row) → MayComeNext before e → P before row → P (before ++ e ∷ []) row) → ((h : List Entry) → IsSound h → AllByRecursion (P h) (answer_of h b d))
    → (history : List Entry) → IsSound history → AllByRecursion (P history) (rows_read history b d)
read_keeps P d b on given history sound = (each-keeps MayComeNext Inv (tt, tt) keeps history sound).1
  where
    Inv : List Entry → Type 0
    Inv h = IsSound h × AllByRecursion (P h) (rows_read h b d)

    keeps : (before : List Entry) (e : Entry) → Inv before → MayComeNext before e → Inv (before ++ e ∷ [])
    keeps before e k comes = (EachEntry-more MayComeNext before e k.0 comes, by_owner (e.backend == b) refl)
      where
        after : List Entry
        after = before ++ e ∷ []

        later : (rows : List Row) → AllByRecursion (P before) rows → AllByRecursion (P after) rows
        later rows all = every-weaker (P before) (P after) (λ row is. on before e row comes is) rows all

        by_scan : (t : Bool) → AllByRecursion (P after) (elim t as (λ x. List Row) [ true ↦ answer_of before b d | false ↦ rows_read before b d ])
        by_scan true = later (answer_of before b d) (given before k.0)
        by_scan false = later (rows_read before b d) k.1

        by_owner : (t : Bool) → (e.backend == b) ≡ t → AllByRecursion (P after) (rows_read after b d)
        by_owner true own = subst (AllByRecursion (P after)) (sym (rows_read-own before e b d own)) (by_scan (is_scan_of d e.event))
        by_owner false other = subst (AllByRecursion (P after)) (sym (rows_read-other before e b d other)) (later (rows_read before b d) k.1)

-- each row that was read is one for which the scan asked
pub read_asked : (history : List Entry) (b : ℕ) (d : Purpose) → IsSound history → AllByRecursion (λ row. selects d row ≡ true) (rows_read history b d)
read_asked history b d sound = read_keeps (λ h row. selects d row ≡ true) d b (λ before e row comes is. is) (λ h well. given_asked h b d) history sound

-- and of a relation whose oid is drawn
pub read_drawn : (history : List Entry) (b : ℕ) (d : Purpose) → IsSound history → AllByRecursion (λ row. (main_rel row).0 < next_oid history) (rows_read history b d)
read_drawn history b d sound = read_keeps (λ h row. (main_rel row).0 < next_oid h) d b (λ before e row comes low. omega (arith, low, next_rises before e)) (λ h well. given_drawn h b d well) history sound
