-- A worked example: a backend unlocks what it was granted in the command that runs, and what it may not unlock.
use Rattle.std.proofs.Common.{◌≡◌, ◌++◌, ℕ, None, List, [], ◌∷◌, codes, refl, arith}
use Rattle.base_types.specs.declared.ids.Oid.{Oid}
use Rattle.base_types.specs.declared.ids.Xid.{Xid}
use Rattle.base_types.specs.declared.mode.Mode.TheVariants.{AccessShare, ShareRowExclusive, AccessExclusive}
use Rattle.base_types.specs.declared.kind.Kind.TheVariants.{Table}
use Rattle.base_types.specs.declared.row.Row.TheVariants.{Class}
use Rattle.event_kinds.specs.declared.entry.Entry.{Entry}
use Rattle.event_kinds.specs.declared.entry.Event.TheVariants.{Start, LockOk, Unlock, Write, Visible}
use Rattle.event_kinds.specs.declared.entry.Item.{Item}
use Rattle.event_kinds.specs.declared.entry.Item.TheVariants.{Add}
use Rattle.history_model.specs.Held.{held_of}
use Rattle.history_model.specs.MayFollow.{MayFollow}
use Rattle.history_model.specs.Sound.{MayComeNext, IsSound}
use Rattle.history_model.proofs.Touched.{entry_of}

abbrev oid : ℕ → Oid
oid n = record { 0 = n }

abbrev xid : ℕ → Xid
xid n = record { 0 = n }

abbrev tables : ℕ → List Item
tables n = Add (Class (oid n) (codes "t") Table None) ∷ []

-- two backends, of which the first has made a relation in a transaction that runs on, and has locked it once more in its next command
abbrev pub created : List Entry
created = entry_of 1 0 Start ∷ entry_of 2 0 Start ∷ entry_of 1 1 (Write (xid 1) (tables 16384)) ∷ []

abbrev pub locked : List Entry
locked = created ++ entry_of 1 2 (LockOk (oid 16384) AccessShare) ∷ []

abbrev pub unlocked : List Entry
unlocked = locked ++ entry_of 1 2 (Unlock (oid 16384) AccessShare) ∷ []

comes_1 : MayComeNext [] (entry_of 1 0 Start)
comes_1 = record { follows = record { life = refl; visible = tt; gone = tt; event = tt }; orderly = tt }

comes_2 : MayComeNext (entry_of 1 0 Start ∷ []) (entry_of 2 0 Start)
comes_2 = record { follows = record { life = refl; visible = tt; gone = tt; event = tt }; orderly = tt }

comes_3 : MayComeNext (entry_of 1 0 Start ∷ entry_of 2 0 Start ∷ []) (entry_of 1 1 (Write (xid 1) (tables 16384)))
comes_3 = record {
  follows = record { life = omega arith; visible = tt; gone = tt; event = record { xid_is = refl; oids = refl; keys = refl; there = refl; kinds = refl; only = refl; free = refl; guarded = refl; covered = refl } };
  orderly = record { fresh = refl; keeps = refl; told = refl };
}

comes_4 : MayComeNext created (entry_of 1 2 (LockOk (oid 16384) AccessShare))
comes_4 = record { follows = record { life = omega arith; visible = tt; gone = tt; event = (refl, refl) }; orderly = omega arith }

-- an unlock of a lock of its command, though a write of an earlier command stands
pub unlocks : MayComeNext locked (entry_of 1 2 (Unlock (oid 16384) AccessShare))
unlocks = record { follows = record { life = omega arith; visible = tt; gone = tt; event = (refl, refl) }; orderly = tt }

pub sound : IsSound unlocked
sound = (comes_1, (comes_2, (comes_3, (comes_4, (unlocks, tt)))))

-- it takes that lock alone, which may be granted again
pub lock_gone : held_of unlocked ≡ held_of created
lock_gone = refl

pub locks_again : MayComeNext unlocked (entry_of 1 2 (LockOk (oid 16384) AccessShare))
locks_again = record { follows = record { life = omega arith; visible = tt; gone = tt; event = (refl, refl) }; orderly = omega arith }

-- no unlock of a lock of an earlier command
pub earlier_lock : MayFollow locked (entry_of 1 3 (Unlock (oid 16384) AccessShare)) → ⊥
earlier_lock h = search arith

-- nor of one that isn't held, or that another holds
pub lock_not_held : MayFollow unlocked (entry_of 1 2 (Unlock (oid 16384) AccessShare)) → ⊥
lock_not_held h = search arith

pub other_mode : MayFollow locked (entry_of 1 2 (Unlock (oid 16384) ShareRowExclusive)) → ⊥
other_mode h = search arith

pub other_relation : MayFollow locked (entry_of 1 2 (Unlock (oid 16385) AccessShare)) → ⊥
other_relation h = search arith

pub others_lock : MayFollow locked (entry_of 2 1 (Unlock (oid 16384) AccessShare)) → ⊥
others_lock h = search arith

-- nor of one of a command that has a write, as of a relation that it has made
pub lock_of_write : MayFollow created (entry_of 1 1 (Unlock (oid 16384) AccessExclusive)) → ⊥
lock_of_write h = search arith

-- nor after the visibility step
pub unlock_after_visible : MayFollow (locked ++ entry_of 1 2 (Visible (xid 1)) ∷ []) (entry_of 1 2 (Unlock (oid 16384) AccessShare)) → ⊥
unlock_after_visible h = search arith
