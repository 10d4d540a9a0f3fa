-- The lives of backends: their commands don't fall.
use Rattle.std.proofs.Common.{◌≡◌, ◌≤◌, ◌+◌, ℕ, Bool, true, false, Option, Some, None, List, [], ◌∷◌, ◌++◌, ◌==◌, if◌then◌else◌, refl, sym, subst, filter, arith}
use Rattle.std.specs.Prelude.{nat_lt}
use Rattle.std.specs.List.{AllByRecursion}
use Rattle.std.proofs.lemmas.Bool.{eqb-true, eq-eqb}
use Rattle.event_kinds.specs.declared.entry.Entry.{Entry}
use Rattle.event_kinds.specs.declared.entry.Event.{Event}
use Rattle.event_kinds.specs.declared.entry.Event.TheVariants as events
use Rattle.history_model.specs.Prefixes.{along_own}
use Rattle.history_model.specs.Lives.{Life, Unstarted, Alive, Stopped, life_by, life_of}
use Rattle.history_model.specs.MayFollow.{FollowsLife}
use Rattle.history_model.specs.Transactions.{Running, running_transaction_of, running_by, begun, after_release}
use Rattle.inval_messages.specs.Lists.{Written}
use Rattle.history_model.specs.Sent.{written_by, lists_of, lists_by, ends_transaction as ends_at}
use Rattle.history_model.proofs.Prefixes.{own-own, own-other}
use Rattle.history_model.proofs.Reading.{life_of-own as life-own, life_of-other as life-other, running_transaction_of-own as running-own, running_transaction_of-other as running-other, lists_of-own as lists-own, lists_of-other as lists-other}
use Rattle.history_model.proofs.Every.{every-weaker, every-append, every-filter}

-- the command of a backend's last entry
abbrev pub command_of : List Entry → ℕ → ℕ
command_of history b = along_own b (λ before old e. e.command) 0 history

-- commands don't fall: of the life, the lists and the grants of a backend
pub record Timely (life : Life) (command : ℕ) (r : Option Running) (lists : List Written) : Type 0 where
  pub is : (last : ℕ) → life ≡ Alive last → command ≡ last
  pub zero_is : life ≡ Unstarted → command ≡ 0
  pub unstarted : life ≡ Unstarted → r ≡ None
  pub low : AllByRecursion (λ w. w.command ≤ command) lists
  pub high : (t : Running) → r ≡ Some t → AllByRecursion (λ w. t.first ≤ w.command) lists
  pub first : (t : Running) → r ≡ Some t → t.first ≤ command
  pub none : r ≡ None → lists ≡ []

pub rises : (life : Life) (c command : ℕ) (event : Event) (r : Option Running) (lists : List Written) → FollowsLife life c event → Timely life command r lists → command ≤ c
rises Unstarted c command event r lists follows timely = omega (arith, timely.zero_is refl)
rises (Alive last) c command events.Start r lists follows timely = absurd follows
rises (Alive last) c command (events.Look some_wait) r lists follows timely = omega (arith, timely.is last refl, follows)
rises (Alive last) c command event r lists follows timely = omega (arith, timely.is last refl, up last c event follows)
  where
    up : (last c : ℕ) (event : Event) → FollowsLife (Alive last) c event → last ≤ c
    up last c events.Start f = absurd f
    up last c event f = f
rises Stopped c command event r lists follows timely = absurd (of event follows)
  where
    of : (event : Event) → FollowsLife Stopped c event → ⊥
    of event f = f

alive_is : (c last : ℕ) (event : Event) → life_by c event ≡ Alive last → c ≡ last
alive_is c last events.Stop is = absurd (cc)
alive_is c last event is = cc

pub not_unstarted : (c : ℕ) (event : Event) → life_by c event ≡ Unstarted → ⊥
not_unstarted c events.Stop is = absurd (cc)
not_unstarted c event is = absurd (cc)

some_timely : (c : ℕ) (event : Event) (t : Running) (lists : List Written) → AllByRecursion (λ w. w.command ≤ c) lists → AllByRecursion (λ w. t.first ≤ w.command) lists → t.first ≤ c
    → Timely (life_by c event) c (Some t) lists
some_timely c event t lists low high first = record {
  is = λ last is. alive_is c last event is;
  zero_is = λ is. absurd (not_unstarted c event is);
  unstarted = λ is. absurd (not_unstarted c event is);
  low = low;
  high = λ u same. let one : t ≡ u = cc in subst (λ x. AllByRecursion (λ w. x.first ≤ w.command) lists) one high;
  first = λ u same. let one : t ≡ u = cc in subst (λ x. x.first ≤ c) one first;
  none = λ same. absurd (cc);
}

none_timely : (c : ℕ) (event : Event) → Timely (life_by c event) c None []
none_timely c event = record {
  is = λ last is. alive_is c last event is;
  zero_is = λ is. absurd (not_unstarted c event is);
  unstarted = λ is. refl;
  low = tt;
  high = λ u same. tt;
  first = λ u same. absurd (cc);
  none = λ same. refl;
}

-- the running transaction that an event finds or begins
pub record Begun (c : ℕ) (r : Option Running) (lists : List Written) : Type 0 where
  pub low : AllByRecursion (λ w. w.command ≤ c) lists
  pub high : AllByRecursion (λ w. (begun c r).first ≤ w.command) lists
  pub first : (begun c r).first ≤ c

begun_well : (life : Life) (command c : ℕ) (r : Option Running) (lists : List Written) → command ≤ c → Timely life command r lists → Begun c r lists
begun_well life command c None lists up timely =
    let empty : lists ≡ [] = timely.none refl in
    subst (λ ws. Begun c None ws) (sym empty) (record { low = tt; high = tt; first = omega arith })
begun_well life command c (Some t) lists up timely = record {
  low = every-weaker (λ w. w.command ≤ command) (λ w. w.command ≤ c) (λ w low. omega (arith, low)) lists timely.low;
  high = timely.high t refl;
  first = omega (arith, timely.first t refl);
}

timely_by : (history : List Entry) (b c : ℕ) (event : Event) (life : Life) (command : ℕ) (r : Option Running) (lists : List Written) → r ≡ running_transaction_of history b → FollowsLife life c event → Timely life command r lists → Begun c r lists
    → Timely (life_by c event) c (running_by c event r) (lists_by history b c event lists)
timely_by history b c events.Start Unstarted command r lists is follows timely k = subst (Timely (life_by c events.Start) c None) (sym (timely.none (timely.unstarted refl))) (none_timely c events.Start)
timely_by history b c events.Start (Alive last) command r lists is follows timely k = absurd follows
timely_by history b c events.Start Stopped command r lists is follows timely k = absurd follows
timely_by history b c events.Stop life command None lists is follows timely k = subst (Timely (life_by c events.Stop) c None) (sym (timely.none refl)) (none_timely c events.Stop)
timely_by history b c events.Stop life command (Some t) lists is follows timely k = some_timely c events.Stop t lists k.low k.high k.first
timely_by history b c (events.Write xid changes) life command r lists is follows timely k =
    some_timely c (events.Write xid changes) (record (begun c r) { xid = Some xid }) (lists ++ written_by history b c changes ∷ [])
    (every-append (λ w. w.command ≤ c) lists (written_by history b c changes ∷ []) k.low (omega arith, tt)) (every-append (λ w. (begun c r).first ≤ w.command) lists (written_by history b c changes ∷ []) k.high (k.first, tt)) k.first
timely_by history b c (events.Gone from) life command r lists is follows timely k =
    some_timely c (events.Gone from) (begun c r) (filter (λ w. nat_lt w.command from) lists)
    (every-filter (λ w. w.command ≤ c) (λ w. nat_lt w.command from) lists (every-weaker (λ w. w.command ≤ c) (λ w. nat_lt w.command from ≡ true → w.command ≤ c) (λ w h kept. h) lists k.low))
    (every-filter (λ w. (begun c r).first ≤ w.command) (λ w. nat_lt w.command from) lists (every-weaker (λ w. (begun c r).first ≤ w.command) (λ w. nat_lt w.command from ≡ true → (begun c r).first ≤ w.command) (λ w h kept. h) lists k.high)) k.first
timely_by history b c (events.Release from) life command None lists is follows timely k =
    subst (λ o. Timely (Alive c) c (after_release from (begun c None)) (elim (ends_at from o) [ true ↦ [] | false ↦ lists ])) is (by_end (c == from))
  where
    by_end : (f : Bool) → Timely (Alive c) c (if f then None else Some (begun c None)) lists
    by_end true = subst (Timely (Alive c) c None) (sym (timely.none refl)) (none_timely c (events.Release from))
    by_end false = some_timely c (events.Release from) (begun c None) lists k.low k.high k.first
timely_by history b c (events.Release from) life command (Some t) lists is follows timely k =
    subst (λ o. Timely (Alive c) c (after_release from t) (elim (ends_at from o) [ true ↦ [] | false ↦ lists ])) is (by_end (t.first == from))
  where
    by_end : (f : Bool) → Timely (Alive c) c (if f then None else Some t) (elim f [ true ↦ [] | false ↦ lists ])
    by_end true = none_timely c (events.Release from)
    by_end false = some_timely c (events.Release from) t lists k.low k.high k.first
timely_by history b c (events.Publish count) life command r lists is follows timely k = some_timely c (events.Publish count) (record (begun c r) { published = (begun c r).published + count }) lists k.low k.high k.first
timely_by history b c (events.Visible xid) life command r lists is follows timely k = some_timely c (events.Visible xid) (record (begun c r) { visible = true }) lists k.low k.high k.first
timely_by history b c event life command r lists is follows timely k = some_timely c event (begun c r) lists k.low k.high k.first

pub command-own : (history : List Entry) (e : Entry) (b : ℕ) → (e.backend == b) ≡ true → command_of (history ++ e ∷ []) b ≡ e.command
command-own history e b own = own-own b (λ before old y. y.command) 0 history e own

pub command-other : (history : List Entry) (e : Entry) (b : ℕ) → (e.backend == b) ≡ false → command_of (history ++ e ∷ []) b ≡ command_of history b
command-other history e b other = own-other b (λ before old y. y.command) 0 history e other

-- the lives of all backends
pub record Lives (history : List Entry) : Type 0 where
  pub timely : (b : ℕ) → Timely (life_of history b) (command_of history b) (running_transaction_of history b) (lists_of history b)

pub begun_at : (history : List Entry) (e : Entry) → FollowsLife (life_of history e.backend) e.command e.event → Lives history → Begun e.command (running_transaction_of history e.backend) (lists_of history e.backend)
begun_at history e follows lives =
    begun_well (life_of history e.backend) (command_of history e.backend) e.command (running_transaction_of history e.backend) (lists_of history e.backend)
    (rises (life_of history e.backend) e.command (command_of history e.backend) e.event (running_transaction_of history e.backend) (lists_of history e.backend) follows (lives.timely e.backend)) (lives.timely e.backend)

pub Lives-more : (history : List Entry) (e : Entry) → FollowsLife (life_of history e.backend) e.command e.event → Lives history → Lives (history ++ e ∷ [])
Lives-more history e follows lives = record { timely = λ b. timely_of b (e.backend == b) refl }
  where
    after : List Entry
    after = history ++ e ∷ []

    own_timely : Timely (life_of after e.backend) (command_of after e.backend) (running_transaction_of after e.backend) (lists_of after e.backend)
    own_timely =
        let own : (e.backend == e.backend) ≡ true = eq-eqb e.backend e.backend refl in
        rw (life-own history e e.backend own, command-own history e e.backend own, running-own history e e.backend own, lists-own history e e.backend own)
        (timely_by history e.backend e.command e.event (life_of history e.backend) (command_of history e.backend) (running_transaction_of history e.backend) (lists_of history e.backend) refl follows (lives.timely e.backend) (begun_at history e follows lives))

    timely_of : (b : ℕ) (t : Bool) → (e.backend == b) ≡ t → Timely (life_of after b) (command_of after b) (running_transaction_of after b) (lists_of after b)
    timely_of b true own = subst (λ o. Timely (life_of after o) (command_of after o) (running_transaction_of after o) (lists_of after o)) (eqb-true e.backend b own) own_timely
    timely_of b false other = rw (life-other history e b other, command-other history e b other, running-other history e b other, lists-other history e b other) (lives.timely b)

Timely-start : Timely Unstarted 0 None []
Timely-start = record {
  is = λ last is. absurd (cc);
  zero_is = λ is. refl;
  unstarted = λ is. refl;
  low = tt;
  high = λ u same. tt;
  first = λ u same. absurd (cc);
  none = λ same. refl;
}

pub Lives-start : Lives []
Lives-start = record { timely = λ b. Timely-start }
