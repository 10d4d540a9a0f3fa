-- A transaction goes on with an entry of its end, or ends with the release.
use Rattle.std.proofs.Common.{◌≡◌, ◌≤◌, ◌+◌, ◌∙◌, ◌&&◌, ◌||◌, inl, inr, ℕ, Bool, true, false, Option, Some, None, List, [], ◌∷◌, ◌++◌, cond, refl, sym, ap, subst, map, is_none, is_some, if◌then◌else◌, arith}
use Rattle.std.specs.Option.{option_map, option_map_or}
use Rattle.std.specs.Prelude.{nat_lt}
use Rattle.std.proofs.Math.Bool.{and-false}
use Rattle.std.proofs.lemmas.Bool.{both_ways, eq-eqb, ne_eqb, le-leb, lt-leb, ltb-true, false_from_ne_true}
use Rattle.base_types.specs.declared.command.Command.TheVariants as commands
use Rattle.inval_messages.specs.Lists.{Written, has_write_from, lists_before}
use Rattle.txn_blocks.specs.Blocks.{Block, Outside, Inside, Failed}
use Rattle.ddl_effect.specs.Opens.{opens_before}
use Rattle.history_model.specs.Sent.{ends_transaction}
use Rattle.history_model.specs.Transactions.{begun, after_release, is_visible}
use Rattle.txn_blocks.specs.declared.transaction.RunningTransaction.{RunningTransaction as Running}
use Rattle.history_model.specs.Changing.{is_empty}
use Rattle.cacheless.specs.Types.{Command, Event, OwnLock}
use Rattle.cacheless.specs.Work.{work_of}
use Rattle.cacheless.specs.Ends.{End, Ends, Commits, TakesBack, end_of_all, end_of_block, end_well_in, end_badly_in, end_in}
use Rattle.cacheless.specs.Facts.{Facts}
use Rattle.cacheless.specs.Owed.{Owes, OwesLook, OwesScan, owed_first_in, owed_after, begins_in, scans_owed_in, owed_in}
use Rattle.cacheless.specs.Session.{Session, Outcome, Well, Badly, Unsettled, opening_of, number_of, outcome_of}
use Rattle.cacheless.specs.declared.progress.Due.TheVariants as dues
use Rattle.cacheless.specs.OwnTransaction.{first_at, RunsBlock, RunsBy, RunsAfter, TransactionFits, end_by, OnCommit, OnTakingBack, RunsFit}
use Rattle.cacheless.proofs.Allowed.EndsReleased.{EndsBy, IsCommit, commit_first}
use Rattle.cacheless.proofs.Allowed.NextTransaction.{failed_on}

-- the session after an entry of an end, with its locks
abbrev pub later_at : Session → List OwnLock → ℕ → Session
later_at s locks at = record s { locks = locks; last = at }

-- the transaction goes on
pub record GoesOn (facts later : Facts) : Type 0 where
  pub runs : is_some facts.running ≡ true
  pub some : is_some later.running ≡ true
  pub same : option_map (λ t. t.first) later.running ≡ option_map (λ t. t.first) facts.running
  pub free : owed_after later.due ≡ []

-- what rests on its first command alone
of_first : {X : Type 0} (f : ℕ → X) (x : X) (a b : Option Running) → option_map (λ t. t.first) a ≡ option_map (λ t. t.first) b → option_map_or (λ t. f t.first) a x ≡ option_map_or (λ t. f t.first) b x
of_first f x a b same = as_map a ∙ ap (λ o. option_map_or f o x) same ∙ sym (as_map b)
  where
    as_map : (own : Option Running) → option_map_or (λ t. f t.first) own x ≡ option_map_or f (option_map (λ t. t.first) own) x
    as_map None = refl
    as_map (Some t) = refl

first_same : (facts later : Facts) → GoesOn facts later → first_at later ≡ first_at facts
first_same facts later goes = of_first (λ n. n) 0 later.running facts.running goes.same

none_some : {X : Type 0} (o : Option X) → is_some o ≡ true → is_none o ≡ false
none_some None some = absurd (cc some)
none_some (Some x) some = refl

-- the end stays the same
pub end_same : (facts later : Facts) (command : Command) (s : Session) (locks : List OwnLock) (at : ℕ) → GoesOn facts later → end_in later command (work_of (later_at s locks at)) ≡ end_in facts command (work_of s)
end_same facts later command s locks at goes = by_outcome (outcome_of s.left)
  where
    all : end_of_all later ≡ end_of_all facts
    all = of_first TakesBack Ends later.running facts.running goes.same

    by_block : (block : Block) (commits : Bool) → end_of_block later block commits ≡ end_of_block facts block commits
    by_block Outside commits = refl
    by_block Inside true = of_first Commits Ends later.running facts.running goes.same
    by_block Inside false = all
    by_block Failed commits = all

    by_command : (c : Command) → end_well_in later c (work_of (later_at s locks at)) ≡ end_well_in facts c (work_of s)
    by_command commands.Begin = refl
    by_command commands.Commit = by_block s.blocks.block true
    by_command commands.Rollback = by_block s.blocks.block false
    by_command (commands.RollbackTo name) = refl
    by_command c = refl

    by_outcome : (x : Outcome) → ◌≡◌ {A = End} (elim x [ Well ↦ end_well_in later command (work_of (later_at s locks at)) | Badly ↦ end_badly_in (work_of (later_at s locks at)) | Unsettled ↦ Ends ]) (elim x [ Well ↦ end_well_in facts command (work_of s) | Badly ↦ end_badly_in (work_of s) | Unsettled ↦ Ends ])
    by_outcome Well = by_command command
    by_outcome Badly = refl
    by_outcome Unsettled = refl

-- nothing is owed before its next entry, where no scan is
owed_later : (facts later : Facts) (command : Command) (s : Session) (locks : List OwnLock) (at : ℕ) → GoesOn facts later → scans_owed_in later (work_of s) ≡ [] → owed_in later command (work_of (later_at s locks at)) ≡ []
owed_later facts later command s locks at goes scans = λ i. start i ++ goes.free i ++ map OwesScan (scans i)
  where
    start : owed_first_in later command (work_of (later_at s locks at)) ≡ []
    start = ap (λ t. elim (begins_in command (work_of s) && t) as (λ x. List Owes) [ true ↦ OwesLook ∷ [] | false ↦ [] ]) (none_some later.running goes.some)
        ∙ ap (λ t. elim t as (λ x. List Owes) [ true ↦ OwesLook ∷ [] | false ↦ [] ]) (and-false (begins_in command (work_of s)))

module _ (facts later : Facts) (o : Option Command) (s : Session) (event : Event) (locks : List OwnLock) (at : ℕ) (fits : RunsFit facts o s) (ends : EndsBy facts o s event) where
  runs_later : GoesOn facts later → (t : Bool) → TransactionFits facts o s t → s.ended ≡ t → TransactionFits later o (later_at s locks at) t
  runs_later goes true none is = absurd (both_ways _ ends.going is)
  runs_later goes false by is = by_block s.blocks.block by
    where
      none_runs : {X : Type 0} → facts.running ≡ None → X
      none_runs none = absurd (both_ways _ (ap (λ r. is_some r) none) goes.runs)

      block_later : RunsBlock facts s.blocks.levels → RunsBlock later s.blocks.levels
      block_later block = record { runs = goes.some; first = λ c. first_same facts later goes ∙ block.first c }

      by_block : (block : Block) → RunsBy facts o s block → RunsBy later o (later_at s locks at) block
      by_block Outside (inl none) = none_runs none
      by_block Outside (inr alone) = inr (record { command = alone.command; at = alone.at; begins = alone.begins; first = first_same facts later goes ∙ alone.first })
      by_block Inside block = block_later block
      by_block Failed failed = failed_on facts later s.blocks.levels block_later (λ none. none_runs none) failed

  -- where the transaction goes on
  pub fits_ending : GoesOn facts later → (has_write_from 0 later.lists ≡ true → option_map_or (λ t. is_some t.xid) later.running false ≡ true)
      → (is_visible later.running ≡ true → OnCommit later o (later_at s locks at)) → ((from : ℕ) → later.due ≡ dues.Gone from → OnTakingBack later o (later_at s locks at) from) → RunsFit later o (later_at s locks at)
  fits_ending goes written visible taken = record {
    transaction = runs_later goes s.ended fits.transaction refl;
    first = subst (λ n. n ≤ number_of s) (sym (first_same facts later goes)) fits.first;
    opens = fits.opens;
    levels = fits.levels;
    plain = fits.plain;
    blocked = fits.blocked;
    settled = fits.settled;
    written = written;
    visible = visible;
    taken = taken;
    accepts = λ owes. absurd (both_ways _ owes (ap (λ l. is_empty l) goes.free));
    past = fits.past;
    inside = fits.inside;
    since = ap (λ n. opens_before n s.opens) (first_same facts later goes) ∙ fits.since;
    free = λ over. absurd (both_ways _ ends.going over);
    over = λ over. ends.out;
    held = fits.held;
  }

  -- a commit goes on
  pub commits_on : GoesOn facts later → IsCommit facts (end_by facts o s) → later.lists ≡ facts.lists → scans_owed_in later (work_of s) ≡ [] → OnCommit later o (later_at s locks at)
  commits_on goes commit lists none = by_command o refl
    where
      begun_is : (own : Option Running) (n : ℕ) → is_some own ≡ true → option_map_or (λ t. t.first) own 0 ≡ option_map_or (λ t. t.first) own n
      begun_is None n some = absurd (cc some)
      begun_is (Some t) n some = refl

      first_is : first_at later ≡ commit.first
      first_is = first_same facts later goes ∙ begun_is facts.running (number_of s) goes.runs ∙ commit_first facts o s commit.first fits ends.going commit.is

      all_back : (own : Option Running) → option_map_or (λ t. TakesBack t.first) own Ends ≡ Commits commit.first → ⊥
      all_back None is = cc is
      all_back (Some t) is = cc is

      by_command : (x : Option Command) → o ≡ x → OnCommit later o (later_at s locks at)
      by_command None is = absurd (all_back facts.running (ap (λ x. end_by facts x s) (sym is) ∙ commit.is))
      by_command (Some command) is = record {
        command = command;
        at = is;
        going = ends.going;
        out = ends.out;
        free = owed_later facts later command s locks at goes none;
        end = end_same facts later command s locks at goes ∙ ap (λ x. end_by facts x s) (sym is) ∙ commit.is ∙ ap Commits (sym first_is);
        written = subst (λ n. has_write_from n later.lists ≡ true) (sym first_is) (ap (has_write_from commit.first) lists ∙ commit.written);
      }

  -- taking back goes on
  pub takes_back_on : (from : ℕ) → GoesOn facts later → end_by facts o s ≡ TakesBack from → has_write_from from later.lists ≡ false → OnTakingBack later o (later_at s locks at) from
  takes_back_on from goes back bare = record { runs = goes.some; going = ends.going; out = ends.out; end = by_command o refl back; none = bare }
    where
      by_command : (x : Option Command) → o ≡ x → end_by facts x s ≡ TakesBack from → end_by later x (later_at s locks at) ≡ TakesBack from
      by_command (Some c) here is = end_same facts later c s locks at goes ∙ is
      by_command None here is = of_first TakesBack Ends later.running facts.running goes.same ∙ is

  -- the session once the release is made
  abbrev pub released_at : ℕ → Session
  released_at from = record s { ended = true; opened = map opening_of (opens_before from s.opens); locks = locks; last = at }

  -- the release is made: what runs then fits the blocks after the command, and isn't visible
  pub fits_released : (from : ℕ) → later.due ≡ dues.Nothing → first_at later ≤ number_of s → (has_write_from 0 later.lists ≡ true → option_map_or (λ t. is_some t.xid) later.running false ≡ true) → is_visible later.running ≡ false → RunsAfter later o s
      → opens_before (first_at later) s.opens ≡ [] → (later.running ≡ None → opens_before from s.opens ≡ []) → RunsFit later o (released_at from)
  fits_released from last low written hidden runs_on since free = record {
    transaction = by_command o runs_on;
    first = low;
    opens = fits.opens;
    levels = fits.levels;
    plain = fits.plain;
    blocked = fits.blocked;
    settled = fits.settled;
    written = written;
    visible = λ is. absurd (both_ways _ hidden is);
    taken = λ n is. absurd (let no : dues.Nothing ≡ dues.Gone n = sym last ∙ is in cc no);
    accepts = λ owes. absurd (both_ways _ owes (ap (λ l. is_empty (owed_after l)) last));
    past = fits.past;
    inside = fits.inside;
    since = since;
    free = λ over none. ap (map opening_of) (free none);
    over = λ over. ends.out;
    held = λ past going. absurd (cc going);
  }
    where
      by_command : (x : Option Command) → RunsAfter later x s → RunsAfter later x (released_at from)
      by_command None none = none
      by_command (Some command) runs_it = runs_it

-- a write of a later command is one
pub write_from_first : (from : ℕ) (lists : List Written) → has_write_from from lists ≡ true → has_write_from 0 lists ≡ true
write_from_first from [] is = absurd (cc is)
write_from_first from (w ∷ lists) is = ap (λ t. t || has_write_from 0 lists) (le-leb 0 w.command (omega arith))

-- the writes that stay are of commands before
pub none_from : (from : ℕ) (lists : List Written) → has_write_from from (lists_before from lists) ≡ false
none_from from [] = refl
none_from from (w ∷ lists) = by_test (nat_lt w.command from) refl (none_from from lists)
  where
    by_test : (t : Bool) → nat_lt w.command from ≡ t → has_write_from from (lists_before from lists) ≡ false → has_write_from from (cond t (w ∷ lists_before from lists) (lists_before from lists)) ≡ false
    by_test true below rest = ap (λ t. t || has_write_from from (lists_before from lists)) (lt-leb from w.command (ltb-true w.command from below)) ∙ rest
    by_test false below rest = rest

-- the transaction has ended
pub ended_running : (own : Option Running) (n from : ℕ) → option_map_or (λ t. t.first) own n ≡ from → after_release from (begun n own) ≡ None
ended_running None n from is = ap (λ t. if t then None else Some (begun n None)) (eq-eqb n from is)
ended_running (Some t) n from is = ap (λ f. if f then None else Some t) (eq-eqb t.first from is)

-- and no write of it is left
pub ended_lists : (own : Option Running) (lists : List Written) (n from : ℕ) → option_map_or (λ t. t.first) own n ≡ from → (has_write_from 0 lists ≡ true → option_map_or (λ t. is_some t.xid) own false ≡ true)
    → has_write_from 0 (elim (ends_transaction from own) as (λ x. List Written) [ true ↦ [] | false ↦ lists ]) ≡ false
ended_lists None lists n from is written = false_from_ne_true (has_write_from 0 lists) (λ some. let no : false ≡ true = written some in cc no)
ended_lists (Some t) lists n from is written = ap (λ f. has_write_from 0 (elim f as (λ x. List Written) [ true ↦ [] | false ↦ lists ])) (eq-eqb t.first from is)

-- the release of a later level leaves the transaction
pub kept_running : (own : Option Running) (n from : ℕ) → is_some own ≡ true → option_map_or (λ t. t.first) own 0 + 1 ≤ from → after_release from (begun n own) ≡ own
kept_running None n from some below = absurd (cc some)
kept_running (Some t) n from some below = ap (λ f. if f then None else Some t) (ne_eqb t.first from (λ same. absurd (omega (arith, same, below))))

-- and its writes
pub kept_lists : (own : Option Running) (lists : List Written) (from : ℕ) → is_some own ≡ true → option_map_or (λ t. t.first) own 0 + 1 ≤ from → elim (ends_transaction from own) as (λ x. List Written) [ true ↦ [] | false ↦ lists ] ≡ lists
kept_lists None lists from some below = absurd (cc some)
kept_lists (Some t) lists from some below = ap (λ f. elim f as (λ x. List Written) [ true ↦ [] | false ↦ lists ]) (ne_eqb t.first from (λ same. absurd (omega (arith, same, below))))

-- a transaction that runs goes on with its entries
pub goes_first : (n : ℕ) (own : Option Running) → is_some own ≡ true → Some (begun n own).first ≡ option_map (λ t. t.first) own
goes_first n None some = absurd (cc some)
goes_first n (Some t) some = refl

pub begun_xid : (n : ℕ) (own : Option Running) → option_map_or (λ t. is_some t.xid) own false ≡ true → is_some (begun n own).xid ≡ true
begun_xid n None is = absurd (cc is)
begun_xid n (Some t) is = is

pub begun_visible : (n : ℕ) (own : Option Running) → (begun n own).visible ≡ is_visible own
begun_visible n None = refl
begun_visible n (Some t) = refl

-- one that has written runs
pub written_runs : (own : Option Running) → option_map_or (λ t. is_some t.xid) own false ≡ true → is_some own ≡ true
written_runs None is = absurd (cc is)
written_runs (Some t) is = refl
