-- What a session has open is of its kind: a lookup found it so, and a relation stays of its kind.
use Rattle.std.proofs.Common.{◌≡◌, ◌∙◌, ℕ, zero, suc, Some, List, [], ◌∷◌, ◌++◌, sym, subst, slice_get}
use Rattle.std.specs.List.{AllByRecursion}
use Rattle.base_types.specs.declared.row.Row.TheVariants as rows
use Rattle.base_types.specs.declared.scan.Purpose.TheVariants as scans
use Rattle.event_kinds.specs.declared.entry.Event.TheVariants as events
use Rattle.ddl_effect.specs.Commands.{plan_of}
use Rattle.ddl_effect.specs.Opens.{opens_before}
use Rattle.ddl_effect.specs.Plans.{Act, Lookup, Open, Search, Read, Lock, Write, Plan, Do, Done, Fails, Absent}
use Rattle.txn_blocks.specs.Blocks.{Block, Blocks}
use Rattle.history_model.specs.OfKind.{IsOfKind}
use Rattle.history_model.specs.Sound.{MayComeNext, IsSound}
use Rattle.history_model.specs.Versions.{answer_of}
use Rattle.history_model.proofs.Every.{every-weaker, every-append, every-map, from_some}
use Rattle.history_model.proofs.OneKind.{TellsKind, given_kinds, kind_more}
use Rattle.cacheless.specs.ActsDone.{after_given, made_first, made_in, relation_by, BeginWith, IsFirstStill, AreStill}
use Rattle.cacheless.specs.OnCourse.{AreOfKinds, OnItsWay, FollowsPlan}
use Rattle.cacheless.specs.Session.{Session, opening_of, held_in}
use Rattle.cacheless.specs.Sessions.{written, resumed, noted}
use Rattle.cacheless.specs.Settled.{opened_by, act_done, opens_after}
use Rattle.cacheless.specs.Types.{Oid, Kind, Row, Command, OpenRelation, Opening, Entry, Event}
use Rattle.cacheless.proofs.Allowed.OpensKept.{held_each, before_each, after_each}
use Rattle.cacheless.proofs.Plans.ActOrder.{follows_order}
use Rattle.cacheless.proofs.Plans.SilentActs.{on_its_way}
use Rattle.cacheless.proofs.Plans.UnderLocks.{follows_at}

-- a descriptor is of its kind
abbrev pub IsKind : List Entry → Opening → Type 0
IsKind seen o = IsOfKind seen o.rel o.kind

abbrev pub IsOpenKind : List Entry → OpenRelation → Type 0
IsOpenKind seen o = IsOfKind seen o.rel o.kind

-- so it is after one more entry
pub kinds_later : (seen : List Entry) (e : Entry) (opens : List OpenRelation) (opened : List Opening) → MayComeNext seen e → AreOfKinds seen opens opened → AreOfKinds (seen ++ e ∷ []) opens opened
kinds_later seen e opens opened comes kinds = record {
  opens = every-weaker (IsOpenKind seen) (IsOpenKind (seen ++ e ∷ [])) (λ o is. kind_more seen e o.rel o.kind comes is) opens kinds.opens;
  opened = every-weaker (IsKind seen) (IsKind (seen ++ e ∷ [])) (λ o is. kind_more seen e o.rel o.kind comes is) opened kinds.opened;
}

-- a relation that lookups of a plan found is of the kind that they found
begun_kind : (seen : List Entry) (b : ℕ) (rel : Oid) (kind : Kind) → IsSound seen → BeginWith rel kind (answer_of seen b (scans.Class rel)) → IsOfKind seen rel kind
begun_kind seen b rel kind sound begins = (subst (AllByRecursion (TellsKind seen)) begins.are (given_kinds seen b (scans.Class rel) sound)).0

first_kind : (seen : List Entry) (b : ℕ) (given : List Row) (plan : Plan) → IsSound seen → IsFirstStill (answer_of seen b) plan given → AllByRecursion (IsKind seen) (made_first relation_by given plan)
first_kind seen b (rows.Class rel own kind fill ∷ more) (Do (Lookup name mode) rest) sound still = (begun_kind seen b rel kind sound still, tt)
first_kind seen b [] (Do (Lookup name mode) rest) sound still = tt
first_kind seen b (row ∷ more) (Do (Lookup name mode) rest) sound still = tt
first_kind seen b given (Do (Open rel kind) rest) sound still = tt
first_kind seen b given (Do (Search scan) rest) sound still = tt
first_kind seen b given (Do (Read scan) rest) sound still = tt
first_kind seen b given (Do (Lock rel mode) rest) sound still = tt
first_kind seen b given (Do (Write draft) rest) sound still = tt
first_kind seen b given (Done told) sound still = tt
first_kind seen b given (Fails error) sound still = tt
first_kind seen b given (Absent name) sound still = tt

found_kinds : (seen : List Entry) (b : ℕ) (gave : List (List Row)) (plan : Plan) → IsSound seen → AreStill (answer_of seen b) plan gave → AllByRecursion (IsKind seen) (made_in relation_by gave plan)
found_kinds seen b [] plan sound still = tt
found_kinds seen b (given ∷ gave) plan sound still = every-append (IsKind seen) (made_first relation_by given plan) (made_in relation_by gave (after_given given plan)) (first_kind seen b given plan sound still.0) (found_kinds seen b gave (after_given given plan) sound still.1)

-- what an act opens that is next on the way
act_opens : (seen : List Entry) (b : ℕ) (s : Session) (command : Command) (act : Act) (rest : List Row → Plan) → IsSound seen → OnItsWay seen b s command → s.left ≡ Do act rest → AllByRecursion (IsKind seen) (opened_by act)
act_opens seen b s command (Open rel kind) rest sound way at = (
  from_some (λ found. found ≡ record { rel = rel; kind = kind }) (IsOfKind seen rel kind) (made_in relation_by way.gave (plan_of s.opens command))
      (every-weaker (IsKind seen) (λ found. found ≡ record { rel = rel; kind = kind } → IsOfKind seen rel kind) (λ found is same. subst (IsKind seen) same is) (made_in relation_by way.gave (plan_of s.opens command)) (found_kinds seen b way.gave (plan_of s.opens command) sound way.holds.still))
      (follows_at way.gave (plan_of s.opens command) (Open rel kind) rest (follows_order s.opens command) (sym way.plan ∙ at)).2,
  tt,
)
act_opens seen b s command (Lookup name mode) rest sound way at = tt
act_opens seen b s command (Search scan) rest sound way at = tt
act_opens seen b s command (Read scan) rest sound way at = tt
act_opens seen b s command (Lock rel mode) rest sound way at = tt
act_opens seen b s command (Write draft) rest sound way at = tt

-- so after an act
pub act_kinds : (seen : List Entry) (b : ℕ) (s : Session) (command : Command) (act : Act) (rest : List Row → Plan) (given : List Row) → IsSound seen → FollowsPlan seen b s command → s.left ≡ Do act rest → AreOfKinds seen s.opens s.opened
    → AreOfKinds seen (act_done act given (rest given) s).opens (act_done act given (rest given) s).opened
act_kinds seen b s command act rest given sound follows at kinds = record { opens = kinds.opens; opened = every-append (IsKind seen) s.opened (opened_by act) kinds.opened (act_opens seen b s command act rest sound (on_its_way seen b s command act rest follows at) at) }

held_kinds : (seen : List Entry) (block : Block) (opens : List OpenRelation) → AllByRecursion (IsOpenKind seen) opens → AllByRecursion (IsKind seen) (held_in block opens)
held_kinds seen block opens all = held_each (IsOfKind seen) block opens all

-- at the beginning of a command
pub begin_kinds : (seen : List Entry) (blocks : Blocks) (opens : List OpenRelation) → AllByRecursion (IsOpenKind seen) opens → AreOfKinds seen opens (held_in blocks.block opens)
begin_kinds seen blocks opens all = record { opens = all; opened = held_kinds seen blocks.block opens all }

-- what holds of each element holds of that at a place
pub every_at : {X : Type 0} (P : X → Type 0) (xs : List X) (n : ℕ) (x : X) → AllByRecursion P xs → slice_get xs n ≡ Some x → P x
every_at P [] n x all at = absurd (cc at)
every_at P (y ∷ xs) zero x all at = let same : y ≡ x = cc at in subst P same all.0
every_at P (y ∷ xs) (suc n) x all at = every_at P xs n x all.1 at

-- after a command
pub after_kinds : (seen : List Entry) (command : Command) (s : Session) → AreOfKinds seen s.opens s.opened → AllByRecursion (IsOpenKind seen) (opens_after command s)
after_kinds seen command s kinds = after_each (IsOfKind seen) command s kinds.opens kinds.opened

written_kinds : (seen : List Entry) (plan : Plan) (s : Session) → AreOfKinds seen s.opens s.opened → AreOfKinds seen (written plan s).opens (written plan s).opened
written_kinds seen (Do (Write draft) rest) s kinds = record { opens = kinds.opens; opened = held_kinds seen s.blocks.block s.opens kinds.opens }
written_kinds seen (Do (Lookup name mode) rest) s kinds = kinds
written_kinds seen (Do (Open rel kind) rest) s kinds = kinds
written_kinds seen (Do (Search scan) rest) s kinds = kinds
written_kinds seen (Do (Read scan) rest) s kinds = kinds
written_kinds seen (Do (Lock rel mode) rest) s kinds = kinds
written_kinds seen (Done told) s kinds = kinds
written_kinds seen (Fails error) s kinds = kinds
written_kinds seen (Absent name) s kinds = kinds

resumed_kinds : (seen : List Entry) (plan : Plan) (s : Session) → AreOfKinds seen s.opens s.opened → AreOfKinds seen (resumed plan s).opens (resumed plan s).opened
resumed_kinds seen (Absent name) s kinds = kinds
resumed_kinds seen plan s kinds = kinds

-- and after an event
pub noted_kinds : (seen : List Entry) (event : Event) (s : Session) → AreOfKinds seen s.opens s.opened → AreOfKinds seen (noted event s).opens (noted event s).opened
noted_kinds seen (events.Write xid items) s kinds = written_kinds seen s.left s kinds
noted_kinds seen (events.Fetch count) s kinds = resumed_kinds seen s.left s kinds
noted_kinds seen events.FetchReset s kinds = resumed_kinds seen s.left s kinds
noted_kinds seen (events.Release from) s kinds = record { opens = kinds.opens; opened = every-map (IsKind seen) opening_of (opens_before from s.opens) (before_each (IsOfKind seen) from s.opens kinds.opens) }
noted_kinds seen event s kinds = kinds
