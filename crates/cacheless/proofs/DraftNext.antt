-- The write that is next, by its draft.
use Rattle.std.proofs.Common.{◌≡◌, ℕ, false, List, refl, sym, ap}
use Rattle.std.specs.List.{list_any, flat_map}
use Rattle.std.specs.Str.{bytes_eq}
use Rattle.ddl_effect.specs.Plans.{Plan, Done, Fails, Absent, Do, Lookup, Open, Search, Read, Lock, Write}
use Rattle.ddl_effect.specs.Replays.{step_of}
use Rattle.ddl_effect.specs.Stages.{want_of}
use Rattle.ddl_effect.specs.declared.step.Step.TheVariants as steps
use Rattle.ddl_effect.specs.declared.want.Want.TheVariants as wants
use Rattle.cacheless.specs.Types.{Row, Item, Draft}
use Rattle.cacheless.specs.Plays.{drafted}
use Rattle.cacheless.specs.Rule.{is_write, is_clash, names_by}
use Rattle.cacheless.specs.SameItems.{same_items}
use Rattle.local_caches.specs.Kept.{Kept}

-- a plan whose next act writes this draft
pub record IsWriting (draft : Draft) (plan : Plan) : Type 0 where
  pub rest : List Row → Plan
  pub is : plan ≡ Do (Write draft) rest

pub is_writing : (plan : Plan) (draft : Draft) → step_of plan ≡ steps.Write draft → IsWriting draft plan
is_writing (Do (Write own) rest) draft is = record { rest = rest; is = cc is }
is_writing (Do (Lookup name mode) rest) draft is = absurd (cc is)
is_writing (Do (Open rel kind) rest) draft is = absurd (cc is)
is_writing (Do (Search scan) rest) draft is = absurd (cc is)
is_writing (Do (Read scan) rest) draft is = absurd (cc is)
is_writing (Do (Lock rel mode) rest) draft is = absurd (cc is)
is_writing (Done told) draft is = absurd (cc is)
is_writing (Fails error) draft is = absurd (cc is)
is_writing (Absent name) draft is = absurd (cc is)

-- what is decided of it
pub write_by : (next : ℕ) (items : List Item) (draft : Draft) (plan : Plan) → step_of plan ≡ steps.Write draft → same_items items (drafted next draft) ≡ is_write next items plan
write_by next items draft plan is = sym (ap (is_write next items) (is_writing plan draft is).is)

pub clash_by : (kept : Kept) (name : List ℕ) (draft : Draft) (plan : Plan) → step_of plan ≡ steps.Write draft → list_any (bytes_eq name) (flat_map (names_by kept) draft.changes) ≡ is_clash kept name plan
clash_by kept name draft plan is = sym (ap (is_clash kept name) (is_writing plan draft is).is)

pub no_write : (next : ℕ) (items : List Item) (plan : Plan) → (want_of plan ≡ wants.Write → ⊥) → false ≡ is_write next items plan
no_write next items (Do (Write own) rest) other = absurd (other refl)
no_write next items (Do act rest) other = refl
no_write next items plan other = refl

pub no_clash : (kept : Kept) (name : List ℕ) (plan : Plan) → (want_of plan ≡ wants.Write → ⊥) → false ≡ is_clash kept name plan
no_clash kept name (Do (Write own) rest) other = absurd (other refl)
no_clash kept name (Do act rest) other = refl
no_clash kept name plan other = refl
