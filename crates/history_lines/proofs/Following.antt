-- Which entries the script allows next, and what is held after one.
use Rattle.std.proofs.Common.{◌≡◌, ◌≢◌, ◌≤◌, ◌<◌, ◌+◌, ◌-◌, ◌∙◌, ◌==◌, ℕ, Bool, true, false, Some, List, [], ◌∷◌, ◌++◌, refl, sym, ap, subst, length, take, get_or, slice_get, slice_set, ◌⊎◌, inl, inr, Result, Ok, Err, IfOk, arith}
use Rattle.std.specs.Bool.{Decides}
use Rattle.std.proofs.Math.ListN.{length-set}
use Rattle.std.proofs.lemmas.Bool.{ne_eqb}
use Rattle.std.proofs.lemmas.Bool.Decides.{eqb_tells}
use Rattle.std.proofs.lemmas.List.{take_all, length-take-le}
use Rattle.std.proofs.lemmas.Option.{slice_get_read}
use Rattle.base_types.specs.Scenario.{IsBackend}
use Rattle.base_types.specs.declared.memory.NoMemory.{NoMemory}
use Rattle.history_model.proofs.Prefixes.{EachEntry-more, EachEntry-rest, EachEntry-weaker}
use Rattle.history_model.specs.Drawn.{next_oid}
use Rattle.history_model.specs.Lapped.{FetchesFrom}
use Rattle.history_model.specs.Legal.{IsLegal}
use Rattle.history_model.specs.MayFollow.{MayFollow}
use Rattle.history_model.specs.Legal.{IsAllowed as Allowed}
use Rattle.history_model.proofs.Allows.{allows_decides}
use Rattle.history_model.specs.Read.{ScansOnlyIfNeeded}
use Rattle.history_model.proofs.ListSteps.{prefix_more}
use Rattle.by_backend.proofs.Places.{get_of_set, get_beside_set}
use Rattle.history_ledger.proofs.MayFollow.{may_enter}
use Rattle.history_ledger.specs.Words.{MayEnter}
use Rattle.history_ledger.specs.Held.{Reads}
use Rattle.cacheless.specs.Lines.{lines_of}
use Rattle.cacheless.specs.May.{HasRoom}
use Rattle.cacheless.specs.Output.{IsAllowed}
use Rattle.cacheless.specs.Played.{AreSpelled}
use Rattle.cacheless.specs.Plays.{IsNext, Plays}
use Rattle.cacheless.proofs.Allowed.Economical.{plays_needed}
use Rattle.history_lines.specs.Answered.{IsAnswered}
use Rattle.history_lines.specs.Comes.{comes_at}
use Rattle.history_lines.specs.Stands.{IsSessionOf, AreSessions, Follows, IsHeld}
use Rattle.history_lines.specs.Takes.{ComesTo}
use Rattle.history_lines.specs.declared.answering.Answered.{Answered}
use Rattle.history_lines.specs.AllowedNext.{IsAllowedNext, CanTake, lines_held}
use Rattle.history_lines.specs.Types.{Scenario, Entry, Line, Ledger, Session}
use Rattle.history_lines.proofs.Allowing.{countable}
use Rattle.history_lines.proofs.Coming.{comes_decides}
use Rattle.history_lines.proofs.HeldLines.{lines_are}
use Rattle.history_lines.proofs.Others.{session-other}

-- the script allows what is held
pub follows_allowed : (scenario : Scenario) (seen : List Entry) (ledger : Ledger) (sessions : List Session) → Follows scenario seen ledger sessions → IsAllowed scenario seen
follows_allowed scenario seen ledger sessions k = record {
  legal = k.legal;
  queue = k.queue;
  plays = k.plays;
  economical = EachEntry-weaker (IsNext scenario) (λ before e. ScansOnlyIfNeeded before e.backend e.event) (plays_needed scenario) seen k.plays;
}

-- the session of a backend of the script
session_there : (scenario : Scenario) (seen : List Entry) (ledger : Ledger) (sessions : List Session) (b : ℕ) (s : Session) → Follows scenario seen ledger sessions → IsBackend (length sessions) b → slice_get sessions (b - 1) ≡ Some s → IsSessionOf scenario seen b s
session_there scenario seen ledger sessions b s k there at = let n : (b - 1) + 1 ≡ b = omega (arith, there.0) in subst (λ x. IsSessionOf scenario seen x s) n (k.sessions.each (b - 1) s at)

-- it is what is read at the backend's place
pub session_read : (sessions : List Session) (b : ℕ) (s : Session) → IsBackend (length sessions) b → s ≡ get_or sessions (b - 1) s → slice_get sessions (b - 1) ≡ Some s
session_read sessions b s there read = slice_get_read sessions (length sessions) (b - 1) s refl (omega (arith, there.0, there.1)) read

-- a backend without a session has no next entry
pub no_session : (scenario : Scenario) (seen : List Entry) (ledger : Ledger) (sessions : List Session) (e : Entry) (t : Bool) → t ≡ false → Decides t (IsBackend (length sessions) e.backend) → Follows scenario seen ledger sessions
    → Decides false (IsAllowedNext scenario seen e)
no_session scenario seen ledger sessions e t none decides k =
    (λ is. absurd (cc), λ is. sym none ∙ decides.1 (subst (λ n. IsBackend n e.backend) (sym k.sessions.count) is.1.0))

-- what the session lets come next is next, of an entry that may follow
session_decides : (scenario : Scenario) (seen : List Entry) (ledger : Ledger) (sessions : List Session) (next : ℕ) (e : Entry) (s : Session) → next ≡ next_oid seen → IsBackend (length sessions) e.backend → slice_get sessions (e.backend - 1) ≡ Some s
    → Follows scenario seen ledger sessions → MayFollow seen e → Decides (comes_at next s e.command e.event) (IsNext scenario seen e)
session_decides scenario seen ledger sessions next e s same there at k follows = comes_decides scenario seen next e s same (subst (λ n. IsBackend n e.backend) k.sessions.count there) (session_there scenario seen ledger sessions e.backend s k there at) follows

-- an entry that the ledger refuses isn't next
pub follows_not : (scenario : Scenario) (size : ℕ) (seen : List Entry) (e : Entry) → Decides false (MayFollow seen e × FetchesFrom size seen e.backend e.event) → size ≡ scenario.size → Decides false (IsAllowedNext scenario seen e)
follows_not scenario size seen e decides size_is = (λ is. absurd (cc), λ is. (subst (λ n. Decides false (MayFollow seen e × FetchesFrom n seen e.backend e.event)) size_is decides).1 is.0)

-- of one that may follow its session decides
pub comes_then : (scenario : Scenario) (size : ℕ) (seen : List Entry) (ledger : Ledger) (sessions : List Session) (next : ℕ) (e : Entry) (s : Session) (t : Bool) → t ≡ comes_at next s e.command e.event → next ≡ next_oid seen → IsBackend (length sessions) e.backend
    → slice_get sessions (e.backend - 1) ≡ Some s → Decides true (MayFollow seen e × FetchesFrom size seen e.backend e.event) → Follows scenario seen ledger sessions → size ≡ scenario.size → Decides t (IsAllowedNext scenario seen e)
comes_then scenario size seen ledger sessions next e s t is same there at decides k size_is = subst (λ u. Decides u (IsAllowedNext scenario seen e)) (sym is) (
    (λ comes. (may, (session_decides scenario seen ledger sessions next e s same there at k may.0).0 comes), λ allowed. (session_decides scenario seen ledger sessions next e s same there at k allowed.0.0).1 allowed.1)
    )
  where
    may : MayFollow seen e × FetchesFrom scenario.size seen e.backend e.event
    may = (subst (λ n. Decides true (MayFollow seen e × FetchesFrom n seen e.backend e.event)) size_is decides).0 refl

-- the numbers of its session can be counted
pub session_counted : (ledger : Ledger) (sessions : List Session) (e : Entry) (s : Session) (k : IsHeld ledger sessions) → IsBackend (length sessions) e.backend → slice_get sessions (e.backend - 1) ≡ Some s → MayFollow k.seen e → (s.progress.finished ≤ 20000) × HasRoom s.progress
session_counted ledger sessions e s k there at follows = countable k.scenario k.seen e s k.counted (session_there k.scenario k.seen ledger sessions e.backend s k.follows there at) follows

-- the backend of an entry that can be taken has a session
pub can_there : (ledger : Ledger) (sessions : List Session) (e : Entry) → CanTake ledger sessions e → IsBackend (length sessions) e.backend
can_there ledger sessions e can = subst (λ n. IsBackend n e.backend) (sym can.held.follows.sessions.count) can.allowed.1.0

-- to which it comes
pub comes_to : (ledger : Ledger) (sessions : List Session) (e : Entry) (was : Session) → CanTake ledger sessions e → was ≡ get_or sessions (e.backend - 1) was → ComesTo ledger was e
comes_to ledger sessions e was can read =
    let k = can.held.follows in
    let there = can_there ledger sessions e can in
    record {
      scenario = can.held.scenario;
      seen = can.held.seen;
      reads = k.reads;
      counted = can.held.counted;
      session = session_there can.held.scenario can.held.seen ledger sessions e.backend was k there (session_read sessions e.backend was there read);
      comes = record { spelled = k.spelled; legal = k.legal; plays = k.plays; follows = can.allowed.0.0; next = can.allowed.1 };
    }

-- and the ledger can enter it
pub can_enter : (ledger : Ledger) (sessions : List Session) (e : Entry) → CanTake ledger sessions e → MayEnter ledger e
can_enter ledger sessions e can = may_enter can.held.seen ledger e can.held.follows.reads can.allowed.0.0

-- the sessions after an entry that one of them took
sessions_more : (scenario : Scenario) (seen : List Entry) (sessions : List Session) (e : Entry) (was now : Session) → AreSessions scenario seen sessions → IsBackend (length sessions) e.backend → slice_get sessions (e.backend - 1) ≡ Some was
    → IsSessionOf scenario (seen ++ e ∷ []) e.backend now → AreSessions scenario (seen ++ e ∷ []) (slice_set sessions (e.backend - 1) now)
sessions_more scenario seen sessions e was now are there is taken = record {
  count = length-set sessions (e.backend - 1) now ∙ are.count;
  each = λ j s at. by_place j s at (eqb_tells (e.backend - 1) j);
}
  where
    by_place : (j : ℕ) (s : Session) → slice_get (slice_set sessions (e.backend - 1) now) j ≡ Some s → ((((e.backend - 1) == j) ≡ true) × ((e.backend - 1) ≡ j)) ⊎ ((((e.backend - 1) == j) ≡ false) × ((e.backend - 1) ≢ j))
        → IsSessionOf scenario (seen ++ e ∷ []) (j + 1) s
    by_place j s at (inl same) =
        let here : slice_get (slice_set sessions (e.backend - 1) now) (e.backend - 1) ≡ Some s = ap (slice_get (slice_set sessions (e.backend - 1) now)) same.1 ∙ at in
        let own : s ≡ now = get_of_set sessions (e.backend - 1) now was s is here in
        let number : e.backend ≡ j + 1 = omega (arith, there.0, same.1) in
        subst (IsSessionOf scenario (seen ++ e ∷ []) (j + 1)) (sym own) (subst (λ b. IsSessionOf scenario (seen ++ e ∷ []) b now) number taken)
    by_place j s at (inr apart) =
        let other : (e.backend == j + 1) ≡ false = ne_eqb e.backend (j + 1) (λ same. apart.1 (omega (arith, same))) in
        session-other scenario seen e (j + 1) s other (are.each j s (sym (get_beside_set sessions (e.backend - 1) j now apart.1) ∙ at))

-- what is held after an entry
pub follows_more : (scenario : Scenario) (seen : List Entry) (old new : Ledger) (sessions : List Session) (e : Entry) (was now : Session) → Follows scenario seen old sessions → IsAllowedNext scenario seen e → IsBackend (length sessions) e.backend
    → slice_get sessions (e.backend - 1) ≡ Some was → (IsSessionOf scenario seen e.backend was → IsSessionOf scenario (seen ++ e ∷ []) e.backend now) → Reads (seen ++ e ∷ []) new → Follows scenario (seen ++ e ∷ []) new (slice_set sessions (e.backend - 1) now)
follows_more scenario seen old new sessions e was now k next there is takes reads = record {
  reads = reads;
  legal = EachEntry-more Allowed seen e k.legal ((allows_decides seen e).1 next.0.0);
  queue = EachEntry-more (λ before x. FetchesFrom scenario.size before x.backend x.event) seen e k.queue next.0.1;
  plays = EachEntry-more (IsNext scenario) seen e k.plays next.1;
  spelled = k.spelled;
  sessions = sessions_more scenario seen sessions e was now k.sessions there is (takes (session_there scenario seen old sessions e.backend was k there is));
}

-- after its session took it and the ledger entered it
pub entered_follows : (old new : Ledger) (sessions : List Session) (e : Entry) (at : ℕ) (was now : Session) → CanTake old sessions e → was ≡ get_or sessions (e.backend - 1) was
    → ((scenario : Scenario) (seen : List Entry) → Reads seen old → at ≡ length seen + 1 → AreSpelled scenario → IsLegal seen → Plays scenario seen → MayFollow seen e → IsNext scenario seen e → IsSessionOf scenario seen e.backend was → IsSessionOf scenario (seen ++ e ∷ []) e.backend now)
    → ((seen : List Entry) → Reads seen old → MayFollow seen e → Reads (seen ++ e ∷ []) new)
    → (scenario : Scenario) (seen : List Entry) → Follows scenario seen old sessions → at ≡ length seen + 1 → IsAllowedNext scenario seen e → Follows scenario (seen ++ e ∷ []) new (slice_set sessions (e.backend - 1) now)
entered_follows old new sessions e at was now can read takes enters scenario seen k number next =
    follows_more scenario seen old new sessions e was now k next (can_there old sessions e can) (session_read sessions e.backend was (can_there old sessions e can) read)
    (takes scenario seen k.reads number k.spelled k.legal k.plays next.0.0 next.1) (enters seen k.reads next.0.0)

-- what is held before one of the entries
abbrev pub held_before : (scenario : Scenario) (entries : List Entry) (at : ℕ) (ledger : Ledger) (sessions : List Session) → length entries < 1152921504606846976 → at < length entries → Follows scenario (take at entries) ledger sessions → IsHeld ledger sessions
held_before scenario entries at ledger sessions few within k = record { scenario = scenario; seen = take at entries; counted = omega (arith, length-take-le at entries (omega (arith, within)), few, within); follows = k }

-- what is held after the next entry of the list
pub follows_next : (scenario : Scenario) (entries : List Entry) (at : ℕ) (e d : Entry) (ledger : Ledger) (sessions : List Session) → at < length entries → e ≡ get_or entries at d → Follows scenario (take at entries ++ e ∷ []) ledger sessions → Follows scenario (take (at + 1) entries) ledger sessions
follows_next scenario entries at e d ledger sessions within is k = subst (λ history. Follows scenario history ledger sessions) (sym (prefix_more entries at e d within is)) k

-- the answer where the next entry isn't allowed
pub ends_here : (scenario : Scenario) (entries : List Entry) (at : ℕ) (e d : Entry) (ledger : Ledger) (sessions : List Session) (given : List Line) → at < length entries → e ≡ get_or entries at d → Follows scenario (take at entries) ledger sessions
    → Decides false (IsAllowedNext scenario (take at entries) e) → given ≡ lines_held sessions → IsAnswered scenario entries at given
ends_here scenario entries at e d ledger sessions given within is k decides are = record {
  longest = record {
    within = omega (arith, within);
    holds = follows_allowed scenario (take at entries) ledger sessions k;
    most = λ less more.
        let all : IsAllowed scenario (take at entries ++ e ∷ []) = subst (IsAllowed scenario) (prefix_more entries at e d within is) more in
        let never : false ≡ true = decides.1 (
          ((allows_decides (take at entries) e).0 (EachEntry-rest Allowed (take at entries) (e ∷ []) all.legal).0, (EachEntry-rest (λ before x. FetchesFrom scenario.size before x.backend x.event) (take at entries) (e ∷ []) all.queue).0),
          (EachEntry-rest (IsNext scenario) (take at entries) (e ∷ []) all.plays).0,
        ) in absurd (cc);
  };
  lines_are = are ∙ lines_are scenario (take at entries) sessions k.sessions;
}

-- the answer where all are allowed
pub ends_whole : (scenario : Scenario) (entries : List Entry) (at : ℕ) (ledger : Ledger) (sessions : List Session) (given : List Line) → length entries ≤ at → Follows scenario (take at entries) ledger sessions → given ≡ lines_held sessions
    → IsAnswered scenario entries (length entries) given
ends_whole scenario entries at ledger sessions given past k are = record {
  longest = record {
    within = omega arith;
    holds = subst (IsAllowed scenario) whole (follows_allowed scenario (take at entries) ledger sessions k);
    most = λ less more. absurd (omega (arith, less));
  };
  lines_are = are ∙ lines_are scenario (take at entries) sessions k.sessions ∙ ap (lines_of scenario) whole;
}
  where
    whole : take at entries ≡ take (length entries) entries
    whole = take_all at entries past ∙ sym (take_all (length entries) entries (omega arith))

-- the answer of these lines
pub is_answered : (scenario : Scenario) (entries : List Entry) (n : ℕ) (held : List Line) (result : Result Answered NoMemory) → IfOk result (λ a. a.entries ≡ n) → IfOk result (λ a. a.lines ≡ held)
    → ((given : List Line) → given ≡ held → IsAnswered scenario entries n given) → IfOk result (λ a. IsAnswered scenario entries a.entries a.lines)
is_answered scenario entries n held (Ok a) count given answers = subst (λ m. IsAnswered scenario entries m a.lines) (sym count) (answers a.lines given)
is_answered scenario entries n held (Err error) count given answers = tt
