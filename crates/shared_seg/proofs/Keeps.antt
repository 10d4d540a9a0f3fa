-- What is kept beside the history stays what the definitions read off it, over one more entry.
use Rattle.std.proofs.Common.{◌≡◌, ◌<◌, ◌∙◌, ℕ, true, Option, List, [], ◌∷◌, ◌++◌, length, slice_set, sym, ap, subst}
use Rattle.std.proofs.lemmas.Bool.{and_parts}
use Rattle.std.proofs.lemmas.List.{length-set}
use Rattle.base_types.specs.Scenario.{Scenario}
use Rattle.event_kinds.specs.declared.entry.Entry.{Entry}
use Rattle.lock_modes.specs.declared.grant.Grant.{Grant}
use Rattle.history_model.specs.After.{segment_of}
use Rattle.history_model.specs.Allows.{allows_event}
use Rattle.history_model.specs.Held.{held_by}
use Rattle.history_model.specs.MayFollow.{MayFollow}
use Rattle.history_model.specs.Sound.{MayComeNext}
use Rattle.history_model.proofs.Allows.{allows_decides}
use Rattle.history_model.proofs.Prefixes.{EachEntry-more}
use Rattle.history_model.proofs.Reading.{segment_of-more, held_of-more}
use Rattle.txn_blocks.specs.declared.transaction.RunningTransaction.{RunningTransaction}
use Rattle.segment_rows.specs.Kept.{RowsHeld, KeepsRows, xid_in}
use Rattle.segment_rows.specs.Words.{rows_after}
use Rattle.segment_rows.proofs.Kept.{placed, rows_more}
use Rattle.shared_seg.specs.KeepsFolds.{KeepsFolds}
use Rattle.shared_seg.specs.Transactions.{transaction_at, transaction_by, xid_at}
use Rattle.shared_seg.proofs.Own.{KeptBy, own-more, kept_set}

-- each thing that is kept makes the step that the entry makes it make
pub record Steps (e : Entry) (rows after : RowsHeld) (locks locked : List Grant) (transactions own : List (Option RunningTransaction)) : Type 0 where
  pub rows_are : after ≡ rows_after (xid_at transactions e.backend) e.command e.event rows
  pub held_is : locked ≡ held_by e.backend e.command e.event locks
  pub slots : length own ≡ length transactions
  pub own_is : KeptBy e transactions own

-- an entry that may follow is of an event that the segment allows
pub event_allowed : (history : List Entry) (e : Entry) → MayFollow history e → allows_event (segment_of history) e.backend e.command e.event ≡ true
event_allowed history e follows = (and_parts _ _ ((allows_decides history e).1 follows)).1

-- what is kept after one more entry that may come
pub keeps_more : (script : Scenario) (history : List Entry) (e : Entry) (promised places : List ℕ) (rows after : RowsHeld) (locks locked : List Grant) (transactions own : List (Option RunningTransaction))
    → KeepsFolds script history promised rows locks transactions → MayComeNext history e → e.command < 4294967295 → length places ≡ length promised → Steps e rows after locks locked transactions own
    → KeepsFolds script (history ++ e ∷ []) places after locked own
keeps_more script history e promised places rows after locks locked transactions own k comes low same_places s = let allowed = event_allowed history e comes.follows in record {
  script_is = k.script_is;
  backends = same_places ∙ k.backends;
  slots = s.slots ∙ k.slots;
  rows_are = subst (λ seg. KeepsRows seg after) (sym (segment_of-more history e))
      (rows_more (segment_of history) e.backend e.command e.event rows after low (placed (segment_of history) rows e.backend e.command e.event k.rows_are allowed)
      (s.rows_are ∙ ap (λ t. rows_after (xid_in t) e.command e.event rows) (k.own e.backend)) k.rows_are allowed);
  locks_are = s.held_is ∙ ap (held_by e.backend e.command e.event) k.locks_are ∙ sym (held_of-more history e);
  own = own-more history e transactions own k.own s.own_is;
  sound = EachEntry-more MayComeNext history e k.sound comes;
}

-- the steps of an entry of a backend that has a slot
pub steps_set : (e : Entry) (rows after : RowsHeld) (locks locked : List Grant) (transactions own : List (Option RunningTransaction)) → after ≡ rows_after (xid_at transactions e.backend) e.command e.event rows → locked ≡ held_by e.backend e.command e.event locks
    → e.backend < length transactions → own ≡ slice_set transactions e.backend (transaction_by e.command e.event (transaction_at transactions e.backend)) → Steps e rows after locks locked transactions own
steps_set e rows after locks locked transactions own rows_are held_is within own_is = record { rows_are = rows_are; held_is = held_is; slots = ap length own_is ∙ length-set transactions e.backend _; own_is = kept_set e transactions own within own_is }
