-- What is still on its way to a backend, and what a scan that it has made is worth.
use Rattle.std.specs.Prelude.{◌≡◌, ◌≤◌, ◌⊎◌, ℕ, true, false, Option, List, [], ◌++◌, length, map, take, drop}
use Rattle.std.specs.List.{flat_map}
use Rattle.inval_messages.specs.Lists.{Written}
use Rattle.history_model.specs.Types.{Row, Purpose, Message, Entry}
use Rattle.history_model.specs.Transactions.{Running, running_transaction_of, is_visible}
use Rattle.history_model.specs.Versions.{answer_of}
use Rattle.history_model.specs.Sent.{lists_of, left_in}
use Rattle.history_model.specs.Log.{log_of, position_of}
use Rattle.history_model.specs.Covered.{is_covered, counted_for}

-- what of a visible transaction's messages isn't published yet
abbrev pub unpublished_in : List Written → Option Running → List Message
unpublished_in lists running = elim (is_visible running) [ true ↦ left_in lists running | false ↦ [] ]

-- what a backend has made visible and not published
abbrev pub unpublished_of : List Entry → ℕ → List Message
unpublished_of history a = unpublished_in (lists_of history a) (running_transaction_of history a)

-- what all backends have made visible and not published, entry by entry
abbrev pub all_unpublished : List Entry → List Message
all_unpublished history = flat_map (λ e. unpublished_of history e.backend) history

-- what is on its way to a backend: what isn't published, and the log from its position on
abbrev pub coming_to : List Entry → ℕ → List Message
coming_to history b = all_unpublished history ++ drop (position_of history b) (log_of history)

-- what a scan gave, in the entry of this number, is its answer at each place from there on, as the rows count for it
pub record StaysRead (history : List Entry) (b : ℕ) (scan : Purpose) (at : ℕ) (given : List Row) : Type 0 where
  pub within : at ≤ length history
  pub stays : (q : ℕ) → at ≤ q → q ≤ length history → map (counted_for scan) (answer_of (take q history) b scan) ≡ map (counted_for scan) given

-- a message that covers the scan is on its way
abbrev pub IsComing : List Entry → ℕ → Purpose → Type 0
IsComing history b scan = is_covered (coming_to history b) scan ≡ true

-- a scan is accounted for: a message that covers it is on its way, or what it gave stays its answer
abbrev pub IsAccounted : List Entry → ℕ → Purpose → ℕ → List Row → Type 0
IsAccounted history b scan at given = IsComing history b scan ⊎ StaysRead history b scan at given
