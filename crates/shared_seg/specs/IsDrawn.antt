-- What a write draws.
use Rattle.std.specs.Prelude.{ℕ, Option, ◌≡◌}
use Rattle.base_types.specs.declared.ids.Xid.{Xid}
use Rattle.ddl_effect.specs.declared.draft.Draft.{Draft}
use Rattle.ddl_effect.specs.Drawing.{changes_of}
use Rattle.history_model.specs.Changes.{items_of}
use Rattle.shared_seg.specs.Drawn.{xid_drawn}
use Rattle.shared_seg.specs.declared.drawing.Drawn.{Drawn}

-- the Xid of a draft's write, its first new oid, and its items
pub record IsDrawn (own : Option Xid) (draft : Draft) (next last : ℕ) (drawn : Drawn) : Type 0 where
  pub xid : drawn.xid ≡ xid_drawn own last
  pub first : drawn.first_oid.0 ≡ next
  pub items : drawn.items.items ≡ items_of (changes_of next draft) draft.forced
