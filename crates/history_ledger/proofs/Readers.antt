-- What the readers give is what the history says.
use Rattle.std.proofs.Common.{◌≡◌, ◌∙◌, ℕ, Option, List, take, drop, ap}
use Rattle.history_model.specs.Segment.{Standing}
use Rattle.history_model.specs.After.{segment_of}
use Rattle.history_model.specs.Log.{fetched_by}
use Rattle.segment_rows.specs.Kept.{xid_in}
use Rattle.history_ledger.specs.Types.{Entry, Xid}
use Rattle.history_ledger.specs.Held.{standing_at, Reads}
use Rattle.history_ledger.specs.declared.ledger.Ledger.{Ledger}

-- the Xid that is held of a backend is its transaction's
pub xid_same : (seen : List Entry) (ledger : Ledger) (b : ℕ) (own : Option Xid) → Reads seen ledger → own ≡ xid_in (standing_at ledger.backends b).running → own ≡ xid_in ((segment_of seen).standing b).running
xid_same seen ledger b own k is = is ∙ ap (λ (x : Standing). xid_in x.running) (k.stands b)

pub fetched_same : (seen : List Entry) (ledger : Ledger) (b count : ℕ) → Reads seen ledger → take count (drop (standing_at ledger.backends b).position ledger.log.items) ≡ fetched_by seen b count
fetched_same seen ledger b count k = λ i. take count (drop (k.stands b i).position (k.log i))
