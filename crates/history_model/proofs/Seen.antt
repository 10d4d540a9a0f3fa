-- How far a backend sees: all that is committed, and of its own what a test of the commands lets through.
use Rattle.std.proofs.Common.{◌≡◌, ◌≤◌, ◌+◌, ◌∙◌, ◌⊎◌, inl, inr, ℕ, Bool, true, false, not, Option, Some, None, List, [], ◌∷◌, ◌++◌, ◌==◌, ◌||◌, ◌&&◌, cond, if◌then◌else◌, refl, sym, ap, subst, map, filter, arith, unwrap_or}
use Rattle.std.specs.Prelude.{⊤}
use Rattle.std.specs.List.{AllByRecursion, list_any}
use Rattle.std.specs.Option.{option_map_or, IfSome}
use Rattle.std.proofs.Math.Bool.{or-false}
use Rattle.std.proofs.lemmas.Bool.{eqb-true, eq-eqb, both_ways}
use Rattle.base_types.specs.declared.row.Row.{Row}
use Rattle.base_types.specs.RowKeys.{key_of}
use Rattle.base_types.specs.declared.ids.Xid.{Xid}
use Rattle.event_kinds.specs.declared.entry.Entry.{Entry}
use Rattle.event_kinds.specs.declared.entry.Event.{Event}
use Rattle.event_kinds.specs.declared.entry.Event.TheVariants as events
use Rattle.history_model.specs.Transactions.{Running, running_transaction_of, running_by, begun, after_release, has_xid, is_visible, runs_as, is_committed, makes_visible, last_xid, xid_for}
use Rattle.row_visibility.specs.declared.version.Version.{Version}
use Rattle.row_visibility.specs.declared.version.Stamp.{Stamp}
use Rattle.row_visibility.specs.Seen.{seen_by}
use Rattle.history_model.specs.Versions.{versions_of}
use Rattle.inval_messages.specs.Lists.{Written}
use Rattle.history_model.specs.Sent.{lists_of, ends_transaction as ends_at}
use Rattle.history_model.proofs.Every.{every-weaker, every-append, every-both}
use Rattle.history_model.proofs.Lawful.{IsLawful, IsLawfulEvent}
use Rattle.history_model.proofs.Reading.{running_transaction_of-own as running-own, running_transaction_of-other as running-other, is_committed-more as committed-more}
use Rattle.history_model.proofs.Runs.{Runs, xid-begun, xid-of_write}
use Rattle.history_model.proofs.Touched.{entry_of, OfStamps, is_of, Touch, HasWrite}

-- what counts for a backend, of its own what passes a test of the command
abbrev pub counts_at : List Entry → ℕ → (ℕ → Bool) → Stamp → Bool
counts_at history b p s = is_committed history s.xid.0 || (runs_as history b s.xid.0 && p s.command)

-- a test that passes all below what it passes
abbrev pub IsDown : (ℕ → Bool) → Type 0
IsDown p = (i j : ℕ) → i ≤ j → p j ≡ true → p i ≡ true

abbrev pub every_command : ℕ → Bool
every_command c = true

pub seen-same : (f g : Stamp → Bool) (v : Version) → OfStamps (λ s row. f s ≡ g s) v → seen_by f v ≡ seen_by g v
seen-same f g v same = ap (λ t. t && not (option_map_or f v.ended false)) same.0 ∙ ap (λ t. g v.by && not t) (of_ended v.ended same.1)
  where
    of_ended : (o : Option Stamp) → IfSome o (λ s. f s ≡ g s) → option_map_or f o false ≡ option_map_or g o false
    of_ended None is = refl
    of_ended (Some s) is = is

-- of two versions with one key no backend sees both, however far it sees
abbrev pub Apart : List Entry → Version → Version → Type 0
Apart history v w = key_of v.row ≡ key_of w.row → (b : ℕ) (p : ℕ → Bool) → IsDown p → seen_by (counts_at history b p) v ≡ true → seen_by (counts_at history b p) w ≡ true → ⊥

abbrev pub Pairwise : {X : Type 0} → (X → X → Type 0) → List X → Type 0
Pairwise R [] = ⊤
Pairwise R (x ∷ xs) = AllByRecursion (R x) xs × Pairwise R xs

abbrev pub OneVersion : List Entry → Type 0
OneVersion history = Pairwise (Apart history) (versions_of history)

pub pair-weaker : {X : Type 0} (P : X → Type 0) (R S : X → X → Type 0) → ((x y : X) → P x → P y → R x y → S x y) → (xs : List X) → AllByRecursion P xs → Pairwise R xs → Pairwise S xs
pair-weaker P R S weaker [] all pairs = tt
pair-weaker P R S weaker (x ∷ xs) all pairs = (every-weaker (λ y. P y × R x y) (S x) (λ y h. weaker x y all.0 h.0 h.1) xs (every-both P (R x) xs all.1 pairs.0), pair-weaker P R S weaker xs all.1 pairs.1)

pub pair-map : {X Y : Type 0} (R : Y → Y → Type 0) (f : X → Y) (xs : List X) → Pairwise (λ x y. R (f x) (f y)) xs → Pairwise R (map f xs)
pair-map R f [] pairs = tt
pair-map R f (x ∷ xs) pairs = (firsts xs pairs.0, pair-map R f xs pairs.1)
  where
    firsts : (ys : List _) → AllByRecursion (λ y. R (f x) (f y)) ys → AllByRecursion (R (f x)) (map f ys)
    firsts [] all = tt
    firsts (y ∷ ys) all = (all.0, firsts ys all.1)

pub pair-filter : {X : Type 0} (R : X → X → Type 0) (keep : X → Bool) (xs : List X) → Pairwise (λ x y. keep x ≡ true → keep y ≡ true → R x y) xs → Pairwise R (filter keep xs)
pair-filter R keep [] pairs = tt
pair-filter R keep (x ∷ xs) pairs = by_test (keep x) refl (pair-filter R keep xs pairs.1)
  where
    firsts : keep x ≡ true → (ys : List _) → AllByRecursion (λ y. keep x ≡ true → keep y ≡ true → R x y) ys → AllByRecursion (R x) (filter keep ys)
    firsts is [] all = tt
    firsts is (y ∷ ys) all = of (keep y) refl (firsts is ys all.1)
      where
        of : (t : Bool) → keep y ≡ t → AllByRecursion (R x) (filter keep ys) → AllByRecursion (R x) (cond t (y ∷ filter keep ys) (filter keep ys))
        of true also rest = (all.0 is also, rest)
        of false also rest = rest

    by_test : (t : Bool) → keep x ≡ t → Pairwise R (filter keep xs) → Pairwise R (cond t (x ∷ filter keep xs) (filter keep xs))
    by_test true is rest = (firsts is xs pairs.0, rest)
    by_test false is rest = rest

pub pair-push : {X : Type 0} (R : X → X → Type 0) (xs : List X) (y : X) → Pairwise R xs → AllByRecursion (λ x. R x y) xs → Pairwise R (xs ++ y ∷ [])
pair-push R [] y pairs all = (tt, tt)
pair-push R (x ∷ xs) y pairs all = (every-append (R x) xs (y ∷ []) pairs.0 (all.0, tt), pair-push R xs y pairs.1 all.1)

xid-same : (history : List Entry) (b x : ℕ) → runs_as history b x ≡ true → xid_for history b ≡ x
xid-same history b x runs = of (running_transaction_of history b) runs
  where
    of_xid : (o : Option Xid) → option_map_or (λ own. own.0 == x) o false ≡ true → option_map_or (λ own. own.0) o (last_xid history + 1) ≡ x
    of_xid None is = absurd (cc)
    of_xid (Some y) is = eqb-true y.0 x is

    of : (r : Option Running) → has_xid x r ≡ true → option_map_or (λ t. option_map_or (λ own. own.0) t.xid (last_xid history + 1)) r (last_xid history + 1) ≡ x
    of None is = absurd (cc)
    of (Some t) is = of_xid t.xid is

pub no_write : (c : ℕ) (lists : List Written) → lists ≡ [] → HasWrite lists c → ⊥
no_write c lists none has = let e : false ≡ true = subst (λ ws. list_any (is_of c) ws ≡ true) none has in absurd (cc)

-- whether a backend runs the transaction of a stamp that is there changes only where that is committed
pub runs-after : (history : List Entry) (a c : ℕ) (event : Event) (b : ℕ) (s : Stamp) (row : Row) → IsLawful history (entry_of a c event) → Runs history → Touch history s row
    → (is_committed history s.xid.0 ≡ true) ⊎ (runs_as (history ++ entry_of a c event ∷ []) b s.xid.0 ≡ runs_as history b s.xid.0)
runs-after history a c event b s row lawful r touch = by_owner (a == b) refl
  where
    e : Entry
    e = entry_of a c event

    runs_same : (xid : ℕ) → xid ≡ xid_for history a → (xid == s.xid.0) ≡ runs_as history a s.xid.0
    runs_same xid is = both (xid == s.xid.0) (runs_as history a s.xid.0) refl refl
      where
        drawn : (xid == s.xid.0) ≡ true → (runs_as history a xid ≡ true) ⊎ (xid ≡ last_xid history + 1) → runs_as history a s.xid.0 ≡ true
        drawn same (inl runs) = subst (λ y. runs_as history a y ≡ true) (eqb-true xid s.xid.0 same) runs
        drawn same (inr new) = absurd (omega (arith, eqb-true xid s.xid.0 same, touch.bound))

        both : (u t : Bool) → (xid == s.xid.0) ≡ u → runs_as history a s.xid.0 ≡ t → u ≡ t
        both true true same runs = refl
        both false false same runs = refl
        both true false same runs = absurd (both_ways _ runs (drawn same (xid-of_write history a xid is)))
        both false true same runs = absurd (both_ways _ same (eq-eqb xid s.xid.0 (is ∙ xid-same history a s.xid.0 runs)))

    of_release : (from : ℕ) → IsLawfulEvent history a c (events.Release from) → (o : Option Running) → running_transaction_of history a ≡ o → (is_committed history s.xid.0 ≡ true) ⊎ (has_xid s.xid.0 (after_release from (begun c o)) ≡ has_xid s.xid.0 o)
    of_release from released None is = inr (unstarted (c == from))
      where
        unstarted : (f : Bool) → has_xid s.xid.0 (if f then None else Some (begun c None)) ≡ false
        unstarted true = refl
        unstarted false = refl
    of_release from released (Some t) is = by_end (t.first == from) refl
      where
        ended : (u : Bool) → has_xid s.xid.0 (Some t) ≡ u → (lists_of history a ≡ []) ⊎ (is_visible (running_transaction_of history a) ≡ true) → (is_committed history s.xid.0 ≡ true) ⊎ (false ≡ has_xid s.xid.0 (Some t))
        ended false runs how = inr (sym runs)
        ended true runs (inl hidden) = absurd (no_write s.command (lists_of history a) hidden (touch.written a (ap (has_xid s.xid.0) is ∙ runs)))
        ended true runs (inr shown) = inl (r.shown a s.xid.0 (ap (has_xid s.xid.0) is ∙ runs) shown)

        by_end : (f : Bool) → (t.first == from) ≡ f → (is_committed history s.xid.0 ≡ true) ⊎ (has_xid s.xid.0 (if f then None else Some t) ≡ has_xid s.xid.0 (Some t))
        by_end true ends' = ended (has_xid s.xid.0 (Some t)) refl (released (ap (ends_at from) is ∙ ends'))
        by_end false ends' = inr refl

    by_event : (event : Event) → IsLawfulEvent history a c event → (is_committed history s.xid.0 ≡ true) ⊎ (has_xid s.xid.0 (running_by c event (running_transaction_of history a)) ≡ runs_as history a s.xid.0)
    by_event events.Start l = inr (sym (ap (has_xid s.xid.0) l.0))
    by_event events.Stop l = inr refl
    by_event (events.Write xid changes) l = inr (runs_same xid.0 l.1)
    by_event (events.Release from) l = of_release from l (running_transaction_of history a) refl
    by_event event l = inr (xid-begun s.xid.0 c (running_transaction_of history a))

    own : (a == b) ≡ true → (is_committed history s.xid.0 ≡ true) ⊎ (has_xid s.xid.0 (running_by c event (running_transaction_of history a)) ≡ runs_as history a s.xid.0) → (is_committed history s.xid.0 ≡ true) ⊎ (runs_as (history ++ e ∷ []) b s.xid.0 ≡ runs_as history b s.xid.0)
    own is (inl was) = inl was
    own is (inr same) = inr (subst (λ o. runs_as (history ++ e ∷ []) o s.xid.0 ≡ runs_as history o s.xid.0) (eqb-true a b is) (ap (has_xid s.xid.0) (running-own history e a (eq-eqb a a refl)) ∙ same))

    by_owner : (t : Bool) → (a == b) ≡ t → (is_committed history s.xid.0 ≡ true) ⊎ (runs_as (history ++ e ∷ []) b s.xid.0 ≡ runs_as history b s.xid.0)
    by_owner true is = own is (by_event event lawful)
    by_owner false is = inr (ap (has_xid s.xid.0) (running-other history e b is))

-- so a stamp that is there counts as before, where the entry doesn't make it visible
pub counts_at-same : (history : List Entry) (a c : ℕ) (event : Event) (b : ℕ) (p : ℕ → Bool) (s : Stamp) (row : Row) → IsLawful history (entry_of a c event) → Runs history → makes_visible s.xid.0 event ≡ false → Touch history s row
    → counts_at (history ++ entry_of a c event ∷ []) b p s ≡ counts_at history b p s
counts_at-same history a c event b p s row lawful r hidden touch =
    ap (λ t. t || (runs_as (history ++ entry_of a c event ∷ []) b s.xid.0 && p s.command)) (committed-more history (entry_of a c event) s.xid.0 ∙ ap (λ t. is_committed history s.xid.0 || t) hidden ∙ or-false (is_committed history s.xid.0))
    ∙ of (runs-after history a c event b s row lawful r touch)
  where
    of : (is_committed history s.xid.0 ≡ true) ⊎ (runs_as (history ++ entry_of a c event ∷ []) b s.xid.0 ≡ runs_as history b s.xid.0)
        → (is_committed history s.xid.0 || (runs_as (history ++ entry_of a c event ∷ []) b s.xid.0 && p s.command)) ≡ counts_at history b p s
    of (inl was) = ap (λ t. t || (runs_as (history ++ entry_of a c event ∷ []) b s.xid.0 && p s.command)) was ∙ sym (ap (λ t. t || (runs_as history b s.xid.0 && p s.command)) was)
    of (inr same) = ap (λ t. is_committed history s.xid.0 || (t && p s.command)) same
