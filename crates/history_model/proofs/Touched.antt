-- What a running transaction has touched, it has written in a command that wasn't taken back, with messages that cover it.
use Rattle.std.proofs.Common.{◌≡◌, ◌≤◌, ◌∙◌, ◌⊎◌, inl, inr, ℕ, Bool, true, false, not, Option, Some, None, List, [], ◌∷◌, ◌++◌, ◌==◌, ◌&&◌, if◌then◌else◌, refl, sym, ap, subst, map, filter, fold, arith}
use Rattle.std.specs.Prelude.{nat_le, nat_lt}
use Rattle.std.specs.List.{AllByRecursion, list_any}
use Rattle.std.specs.Option.{option_map_or, IfSome}
use Rattle.std.proofs.lemmas.Bool.{eqb-true, eq-eqb, or_left, and_parts, and_from, not-true, leb-false, lt-ltb}
use Rattle.base_types.specs.declared.row.Row.{Row}
use Rattle.base_types.specs.declared.scan.Purpose.{Purpose}
use Rattle.event_kinds.specs.declared.entry.Entry.{Entry}
use Rattle.event_kinds.specs.declared.entry.Event.{Event}
use Rattle.event_kinds.specs.declared.entry.Event.TheVariants as events
use Rattle.event_kinds.specs.declared.entry.Item.{Item}
use Rattle.history_model.specs.Transactions.{Running, running_transaction_of, running_by, begun, after_release, has_xid, runs_as, last_xid}
use Rattle.row_visibility.specs.declared.version.Version.{Version}
use Rattle.row_visibility.specs.declared.version.Stamp.{Stamp}
use Rattle.history_model.specs.Segment.{Segment}
use Rattle.history_model.specs.Rows.{ends_at, change_at}
use Rattle.history_model.specs.After.{segment_of}
use Rattle.history_model.specs.Versions.{versions_of, versions_by, change_by, end_by, ends, version_of, added_row, is_back, end_back}
use Rattle.inval_messages.specs.Lists.{Written}
use Rattle.inval_messages.specs.declared.message.Message.{Message}
use Rattle.history_model.specs.Sent.{written_by, messages_written, lists_of, lists_by}
use Rattle.history_model.specs.Covered.{is_covered}
use Rattle.history_model.proofs.Reading.{running_transaction_of-own as running-own, versions_of-more as versions-more, lists_of-own as lists-own, lists_of-other as lists-other}
use Rattle.history_model.proofs.Every.{every-weaker, every, every-append, every-map, every-filter, every-both, every-swap, any-filter, any-left, any-right}
use Rattle.history_model.proofs.Lawful.{CoversRow, CoversLawfully, IsLawful, asks_own}
use Rattle.history_model.proofs.Runs.{last_xid-rises, Draws, runs-before, Runs, Runs-more}

-- both stamps of a version, with its row
abbrev pub OfStamps : (Stamp → Row → Type 0) → Version → Type 0
OfStamps P v = P v.by v.row × IfSome v.ended (λ s. P s v.row)

if_some-weaker : {X : Type 0} (P Q : X → Type 0) → ((x : X) → P x → Q x) → (o : Option X) → IfSome o P → IfSome o Q
if_some-weaker P Q weaker None held = tt
if_some-weaker P Q weaker (Some x) held = weaker x held

pub stamps-weaker : (P Q : Stamp → Row → Type 0) → ((s : Stamp) (row : Row) → P s row → Q s row) → (v : Version) → OfStamps P v → OfStamps Q v
stamps-weaker P Q weaker v held = (weaker v.by v.row held.0, if_some-weaker (λ s. P s v.row) (λ s. Q s v.row) (λ s. weaker s v.row) v.ended held.1)

if_some-both : {X : Type 0} (P Q R : X → Type 0) → ((x : X) → P x → Q x → R x) → (o : Option X) → IfSome o P → IfSome o Q → IfSome o R
if_some-both P Q R join None p q = tt
if_some-both P Q R join (Some x) p q = join x p q

pub stamps-both : (P Q R : Stamp → Row → Type 0) → ((s : Stamp) (row : Row) → P s row → Q s row → R s row) → (v : Version) → OfStamps P v → OfStamps Q v → OfStamps R v
stamps-both P Q R join v p q = (join v.by v.row p.0 q.0, if_some-both (λ s. P s v.row) (λ s. Q s v.row) (λ s. R s v.row) (λ s. join s v.row) v.ended p.1 q.1)

-- a write of this command
abbrev pub is_of : ℕ → Written → Bool
is_of c w = w.command == c

-- the lists have the write of a command
abbrev pub HasWrite : List Written → ℕ → Type 0
HasWrite lists c = list_any (is_of c) lists ≡ true

-- all messages of a write
abbrev pub of_write : Written → List Message
of_write w = w.cats ++ w.rels

-- a write of this command, which covers the scan
abbrev pub covers_at : ℕ → Purpose → Written → Bool
covers_at c d w = is_of c w && is_covered (of_write w) d

-- the write of a command covers each scan that asks for the row
abbrev pub HasCovered : List Written → ℕ → Row → Type 0
HasCovered lists c row = (d : Purpose) → asks_own d row ≡ true → list_any (covers_at c d) lists ≡ true

-- a stamp: its Xid is drawn, and while it runs the lists have the write, which covers the row
pub record Touch (history : List Entry) (s : Stamp) (row : Row) : Type 0 where
  pub bound : s.xid.0 ≤ last_xid history
  pub written : (a : ℕ) → runs_as history a s.xid.0 ≡ true → HasWrite (lists_of history a) s.command
  pub covered : (a : ℕ) → runs_as history a s.xid.0 ≡ true → HasCovered (lists_of history a) s.command row

abbrev pub Touched : List Entry → Type 0
Touched history = AllByRecursion (OfStamps (Touch history)) (versions_of history)

pub below_stays : (p : Written → Bool) (lists : List Written) (from c : ℕ) → ((w : Written) → p w ≡ true → is_of c w ≡ true) → nat_le from c ≡ false → list_any p lists ≡ true → list_any p (filter (λ w. nat_lt w.command from) lists) ≡ true
below_stays p lists from c of below has = any-filter p (λ w. nat_lt w.command from) (λ w is. ap (λ k. nat_lt k from) (eqb-true w.command c (of w is)) ∙ lt-ltb c from (leb-false from c below)) lists has

-- the event takes back what was done in the command
abbrev pub takes_back : ℕ → Event → Bool
takes_back c (events.Gone from) = nat_le from c
takes_back c event = false

released_not : (x from c : ℕ) (old : Option Running) (lists : List Written) → has_xid x (after_release from (begun c old)) ≡ true
    → elim (option_map_or (λ t. t.first == from) old false) [ true ↦ [] | false ↦ lists ] ≡ lists
released_not x from c None lists is = refl
released_not x from c (Some t) lists is = by_end (t.first == from) is
  where
    by_end : (f : Bool) → has_xid x (if f then None else Some t) ≡ true → elim f [ true ↦ [] | false ↦ lists ] ≡ lists
    by_end true h = absurd (cc)
    by_end false h = refl

-- a write of the command stays in the lists
lists-keep : (p : Written → Bool) (history : List Entry) (b x c' : ℕ) (event : Event) (lists : List Written) (c : ℕ) → ((w : Written) → p w ≡ true → is_of c w ≡ true)
    → has_xid x (running_by c' event (running_transaction_of history b)) ≡ true → takes_back c event ≡ false → list_any p lists ≡ true → list_any p (lists_by history b c' event lists) ≡ true
lists-keep p history b x c' (events.Write xid changes) lists c of runs spared has = any-left p lists (written_by history b c' changes ∷ []) has
lists-keep p history b x c' (events.Gone from) lists c of runs spared has = below_stays p lists from c of spared has
lists-keep p history b x c' (events.Release from) lists c of runs spared has = subst (λ ws. list_any p ws ≡ true) (sym (released_not x from c' (running_transaction_of history b) lists runs)) has
lists-keep p history b x c' event lists c of runs spared has = has

-- an old stamp after one more entry, unless the entry takes back what it did
pub Touch-kept : (history : List Entry) (e : Entry) (s : Stamp) (row : Row) → IsLawful history e
    → (runs_as history e.backend s.xid.0 ≡ true → takes_back s.command e.event ≡ false) → Touch history s row → Touch (history ++ e ∷ []) s row
Touch-kept history e s row lawful spared touch = record {
  bound = omega (arith, touch.bound, last_xid-rises history e);
  written = λ a is. kept (is_of s.command) a (λ w here. here) is (λ had. touch.written a had) (runs-before history e a s.xid.0 lawful is);
  covered = λ a is d asks. kept (covers_at s.command d) a (λ w here. (and_parts (is_of s.command w) (is_covered (of_write w) d) here).0) is (λ had. touch.covered a had d asks) (runs-before history e a s.xid.0 lawful is);
}
  where
    by_owner : (p : Written → Bool) (a : ℕ) → ((w : Written) → p w ≡ true → is_of s.command w ≡ true) → (t : Bool) → (e.backend == a) ≡ t → runs_as (history ++ e ∷ []) a s.xid.0 ≡ true → runs_as history a s.xid.0 ≡ true → list_any p (lists_of history a) ≡ true
        → list_any p (lists_of (history ++ e ∷ []) a) ≡ true
    by_owner p a of true own is had has = subst (λ ws. list_any p ws ≡ true) (sym (lists-own history e a own))
        (lists-keep p history a s.xid.0 e.command e.event (lists_of history a) s.command of (sym (ap (has_xid s.xid.0) (running-own history e a own)) ∙ is)
        (spared (subst (λ o. runs_as history o s.xid.0 ≡ true) (sym (eqb-true e.backend a own)) had)) has)
    by_owner p a of false other is had has = subst (λ ws. list_any p ws ≡ true) (sym (lists-other history e a other)) has

    kept : (p : Written → Bool) (a : ℕ) → ((w : Written) → p w ≡ true → is_of s.command w ≡ true) → runs_as (history ++ e ∷ []) a s.xid.0 ≡ true → (runs_as history a s.xid.0 ≡ true → list_any p (lists_of history a) ≡ true)
        → (runs_as history a s.xid.0 ≡ true) ⊎ Draws history e a s.xid.0 → list_any p (lists_of (history ++ e ∷ []) a) ≡ true
    kept p a of is has (inl had) = by_owner p a of (e.backend == a) refl is had (has had)
    kept p a of is has (inr drew) = absurd (omega (arith, touch.bound, drew.new))

abbrev pub entry_of : ℕ → ℕ → Event → Entry
entry_of b c event = record { backend = b; command = c; event = event }

-- a version in the middle of a write: both stamps have T, and the row of each that a change that is left ends is named
abbrev InWrite : (Stamp → Row → Type 0) → (Row → Type 0) → Segment → ℕ → List Item → Version → Type 0
InWrite T N seg b items v = OfStamps T v × AllByRecursion (λ item. ends_at seg b item v ≡ true → N v.row) items

write_end : (T : Stamp → Row → Type 0) (N : Row → Type 0) (seg : Segment) (b : ℕ) (stamp : Stamp) → ((row : Row) → N row → T stamp row)
    → (item : Item) (items : List Item) (v : Version) → InWrite T N seg b (item ∷ items) v → InWrite T N seg b items (end_by (ends_at seg b item) stamp v)
write_end T N seg b stamp new item items v held = by_test (ends_at seg b item v) refl
  where
    by_test : (t : Bool) → ends_at seg b item v ≡ t → InWrite T N seg b items (elim t [ true ↦ record { row = v.row; by = v.by; ended = Some stamp } | false ↦ v ])
    by_test true is = ((held.0.0, new v.row (held.1.0 is)), every (λ other. ends_at seg b other (record { row = v.row; by = v.by; ended = Some stamp }) ≡ true → N v.row) (λ other ends'. held.1.0 is) items)
    by_test false is = (held.0, held.1.1)

write_add : (T : Stamp → Row → Type 0) (N : Row → Type 0) (seg : Segment) (b : ℕ) (stamp : Stamp) → ((row : Row) → N row → T stamp row)
    → (items : List Item) (o : Option Row) → IfSome o N → AllByRecursion (InWrite T N seg b items) (version_of stamp o)
write_add T N seg b stamp new items None named = tt
write_add T N seg b stamp new items (Some row) named =
    (((new row named, tt), every (λ other. ends_at seg b other (record { row = row; by = stamp; ended = None }) ≡ true → N row) (λ other ends'. named) items), tt)

write_fold : (T : Stamp → Row → Type 0) (N : Row → Type 0) (seg : Segment) (b : ℕ) (stamp : Stamp) → ((row : Row) → N row → T stamp row)
    → (items : List Item) (vs : List Version) → AllByRecursion (λ item. IfSome (added_row item) N) items → AllByRecursion (InWrite T N seg b items) vs
    → AllByRecursion (OfStamps T) (fold (change_at seg b stamp) vs items)
write_fold T N seg b stamp new [] vs lawful held = every-weaker (InWrite T N seg b []) (OfStamps T) (λ v h. h.0) vs held
write_fold T N seg b stamp new (item ∷ items) vs lawful held =
    write_fold T N seg b stamp new items (change_at seg b stamp vs item) lawful.1
    (every-append (InWrite T N seg b items) (map (end_by (ends_at seg b item) stamp) vs) (version_of stamp (added_row item))
    (every-map (InWrite T N seg b items) (end_by (ends_at seg b item) stamp) vs (every-weaker (InWrite T N seg b (item ∷ items)) (λ v. InWrite T N seg b items (end_by (ends_at seg b item) stamp v)) (write_end T N seg b stamp new item items) vs held))
    (write_add T N seg b stamp new items (added_row item) lawful.0))

-- what holds of all stamps after a write, and after what is taken back
pub stamps-write : (T : Stamp → Row → Type 0) (N : Row → Type 0) (seg : Segment) (b : ℕ) (stamp : Stamp) → ((row : Row) → N row → T stamp row) → (items : List Item) (vs : List Version)
    → AllByRecursion (λ item. IfSome (added_row item) N × AllByRecursion (λ v. ends_at seg b item v ≡ true → N v.row) vs) items → AllByRecursion (OfStamps T) vs → AllByRecursion (OfStamps T) (fold (change_at seg b stamp) vs items)
stamps-write T N seg b stamp new items vs named held =
    write_fold T N seg b stamp new items vs (every-weaker Named (λ item. IfSome (added_row item) N) (λ item l. l.0) items named)
    (every-both (OfStamps T) (λ v. AllByRecursion (λ item. ends_at seg b item v ≡ true → N v.row) items) vs held
    (every-swap (λ item v. ends_at seg b item v ≡ true → N v.row) items vs (every-weaker Named (λ item. AllByRecursion (λ v. ends_at seg b item v ≡ true → N v.row) vs) (λ item l. l.1) items named)))
  where
    Named : Item → Type 0
    Named item = IfSome (added_row item) N × AllByRecursion (λ v. ends_at seg b item v ≡ true → N v.row) vs

pub stamps-gone : (T T' : Stamp → Row → Type 0) (back : Stamp → Bool) → ((s : Stamp) (row : Row) → back s ≡ false → T s row → T' s row) → (vs : List Version) → AllByRecursion (OfStamps T) vs
    → AllByRecursion (OfStamps T') (map (end_back back) (filter (λ v. not (back v.by)) vs))
stamps-gone T T' back kept vs held =
    every-map (OfStamps T') (end_back back) (filter (λ v. not (back v.by)) vs)
    (every-filter (λ v. OfStamps T' (end_back back v)) (λ v. not (back v.by)) vs (every-weaker (OfStamps T) (λ v. not (back v.by) ≡ true → OfStamps T' (end_back back v)) (λ v h is. (kept v.by v.row (not-true (back v.by) is) h.0, of_ended v.row v.ended h.1)) vs held))
  where
    by_test : (row : Row) (s : Stamp) (t : Bool) → back s ≡ t → T s row → IfSome (elim t [ true ↦ None | false ↦ Some s ]) (λ x. T' x row)
    by_test row s true is touch = tt
    by_test row s false is touch = kept s row is touch

    of_ended : (row : Row) (o : Option Stamp) → IfSome o (λ s. T s row) → IfSome (elim (option_map_or back o false) [ true ↦ None | false ↦ o ]) (λ s. T' s row)
    of_ended row None touch = tt
    of_ended row (Some s) touch = by_test row s (back s) refl touch

touched_by : (history : List Entry) (b c : ℕ) (event : Event) → IsLawful history (entry_of b c event) → CoversLawfully history b event → Runs history → Touched history
    → AllByRecursion (OfStamps (Touch (history ++ entry_of b c event ∷ []))) (versions_by history b c event (versions_of history))
touched_by history b c (events.Write xid changes) lawful covering r touched =
    stamps-write (Touch after) (CoversRow messages) (segment_of history) b stamp new changes (versions_of history) covering
    (every-weaker (OfStamps (Touch history)) (OfStamps (Touch after)) (λ v. stamps-weaker (Touch history) (Touch after) (λ s row. Touch-kept history (entry_of b c (events.Write xid changes)) s row lawful (λ runs. refl)) v) (versions_of history) touched)
  where
    after : List Entry
    after = history ++ entry_of b c (events.Write xid changes) ∷ []

    stamp : Stamp
    stamp = record { xid = xid; command = c }

    messages : List Message
    messages = messages_written history b changes

    own : (b == b) ≡ true
    own = eq-eqb b b refl

    runs : runs_as after b xid.0 ≡ true
    runs = ap (has_xid xid.0) (running-own history (entry_of b c (events.Write xid changes)) b own) ∙ eq-eqb xid.0 xid.0 refl

    after_well : Runs after
    after_well = Runs-more history (entry_of b c (events.Write xid changes)) r lawful

    has : HasWrite (lists_of after b) c
    has = subst (λ ws. HasWrite ws c) (sym (lists-own history (entry_of b c (events.Write xid changes)) b own)) (any-right (is_of c) (lists_of history b) (written_by history b c changes ∷ []) (or_left (c == c) false (eq-eqb c c refl)))

    has_covered : (row : Row) → CoversRow messages row → HasCovered (lists_of after b) c row
    has_covered row covers d asks = subst (λ ws. list_any (covers_at c d) ws ≡ true) (sym (lists-own history (entry_of b c (events.Write xid changes)) b own))
        (any-right (covers_at c d) (lists_of history b) (written_by history b c changes ∷ []) (or_left (covers_at c d (written_by history b c changes)) false (and_from (c == c) (is_covered messages d) (eq-eqb c c refl) (covers d asks))))

    new : (row : Row) → CoversRow messages row → Touch after stamp row
    new row covers = record {
      bound = after_well.bound b xid.0 runs;
      written = λ a is. subst (λ o. HasWrite (lists_of after o) c) (after_well.one b a xid.0 runs is) has;
      covered = λ a is. subst (λ o. HasCovered (lists_of after o) c row) (after_well.one b a xid.0 runs is) (has_covered row covers);
    }
touched_by history b c (events.Gone from) lawful covering r touched =
    stamps-gone (Touch history) (Touch after) (is_back history b from) kept (versions_of history) touched
  where
    after : List Entry
    after = history ++ entry_of b c (events.Gone from) ∷ []

    second : (x y : Bool) → x ≡ true → (x && y) ≡ false → y ≡ false
    second true y is none = none
    second false y is none = absurd (cc)

    kept : (s : Stamp) (row : Row) → is_back history b from s ≡ false → Touch history s row → Touch after s row
    kept s row stays touch = Touch-kept history (entry_of b c (events.Gone from)) s row lawful (λ runs. second (runs_as history b s.xid.0) (nat_le from s.command) runs stays) touch
touched_by history b c event lawful covering r touched =
    every-weaker (OfStamps (Touch history)) (OfStamps (Touch (history ++ entry_of b c event ∷ []))) (λ v. stamps-weaker (Touch history) (Touch (history ++ entry_of b c event ∷ [])) (λ s row. Touch-kept history (entry_of b c event) s row lawful (λ runs. refl)) v) (versions_of history) touched

pub Touched-more : (history : List Entry) (e : Entry) → Runs history → Touched history → IsLawful history e → CoversLawfully history e.backend e.event → Touched (history ++ e ∷ [])
Touched-more history e r touched lawful covering = subst (AllByRecursion (OfStamps (Touch (history ++ e ∷ [])))) (sym (versions-more history e)) (touched_by history e.backend e.command e.event lawful covering r touched)
