-- Where versions are listed, and what the lists must have.
use Rattle.std.specs.Prelude.{ℕ, Bool, true, false, Option, Some, None, List, [], ◌∷◌, ◌++◌, ◌≡◌, ◌<◌, ◌⊎◌, ◌&&◌, IfSome, slice_index_or}
use Rattle.std.specs.Option.{option_map_or}
use Rattle.std.specs.List.{AllByRecursion}
use Rattle.std.specs.HashMap.{get}
use Rattle.catalog_rows.specs.Types.{Change, Stamp, Version}
use Rattle.catalog_rows.specs.Store.{is_ended, has_committed}
use Rattle.catalog_rows.specs.Places.{same_place, is_under}
use Rattle.catalog_rows.specs.Numbers.{IsAscending, added, removed}
use Rattle.catalog_rows.specs.Slots.{IsIn, version_numbered, passes_at, numbers_at}
use Rattle.catalog_rows.specs.declared.place.Place.{Place}
use Rattle.catalog_rows.specs.declared.index.Index.{Index}
use Rattle.catalog_rows.specs.declared.indexes.Indexes.{Indexes}
use Rattle.catalog_rows.specs.declared.lists.Lists.{Lists}

-- the numbers at a place
abbrev pub listed_at : Index → Place → List ℕ
listed_at index place = option_map_or (λ numbers. numbers) (get same_place index.lists place) []

-- the numbers of the versions that a transaction wrote or ended
abbrev pub own_at : List (List ℕ) → ℕ → List ℕ
own_at touched x = slice_index_or touched x []

-- the same numbers are at each place
abbrev pub IsSame : Index → Index → Type 0
IsSame old new = (place : Place) → listed_at new place ≡ listed_at old place

-- a number is added at the places that a test picks, and at no others
pub record AddsWhere (test : Place → Bool) (number : ℕ) (old new : Index) : Type 0 where
  pub each : (place : Place) → listed_at new place ≡ added (test place) number (listed_at old place)

-- a number is added at some of the places that a test picks, and at no others
pub record AddsOrNot (test : Place → Bool) (number : ℕ) (old new : Index) : Type 0 where
  pub each : (place : Place) → (listed_at new place ≡ listed_at old place) ⊎ ((test place ≡ true) × (listed_at new place ≡ listed_at old place ++ number ∷ []))

-- a number is taken out at the places that a test picks, and at no others
pub record RemovesWhere (test : Place → Bool) (number : ℕ) (old new : Index) : Type 0 where
  pub each : (place : Place) → listed_at new place ≡ removed (test place) number (listed_at old place)

-- a version, if there is one, is listed at a place
abbrev pub is_listed : Option Version → Place → Bool
is_listed None place = false
is_listed (Some v) place = is_under place v.row

-- the numbers at each place are ascending
abbrev pub IsInOrder : Index → Type 0
IsInOrder index = (place : Place) → IsAscending (listed_at index place)

-- and they are all below this one
pub record IsBelow (number : ℕ) (index : Index) : Type 0 where
  pub order : IsInOrder index
  pub below : (place : Place) → AllByRecursion (λ n. n < number) (listed_at index place)

-- at each place are exactly the numbers of the versions whose rows are listed there
abbrev pub IsNumbered : List (Option Version) → Index → Type 0
IsNumbered slots index = (place : Place) → listed_at index place ≡ numbers_at (λ v. is_under place v.row) 1 slots

-- a committed transaction wrote the version, and a committed one ended it: nobody sees it any more, unless that is taken back
abbrev pub is_dead : List Bool → Version → Bool
is_dead committed v = has_committed committed v.by.xid.0 && option_map_or (λ stamp. has_committed committed stamp.xid.0) v.ended false

-- the numbers are in order, and have each version that is listed at a place and isn't dead
pub record Serves (committed : List Bool) (slots : List (Option Version)) (place : Place) (list : List ℕ) : Type 0 where
  pub order : IsAscending list
  pub has : (n : ℕ) → IfSome (version_numbered slots n) (λ v. is_dead committed v ≡ false → is_under place v.row ≡ true → IsIn n list)

-- the second index has no other numbers than the first, in order
pub record IsOnly (indexes : Indexes) : Type 0 where
  pub order : IsInOrder indexes.current
  pub only : (place : Place) (n : ℕ) → IsIn n (listed_at indexes.current place) → IsIn n (listed_at indexes.all place)

-- where the second index is used it has each version that isn't dead
pub record IsCurrent (committed : List Bool) (slots : List (Option Version)) (indexes : Indexes) : Type 0 where
  pub has : indexes.whole ≡ false → (place : Place) (n : ℕ) → IfSome (version_numbered slots n) (λ v. is_dead committed v ≡ false → is_under place v.row ≡ true → IsIn n (listed_at indexes.current place))

-- what was current before is so after
abbrev pub StaysCurrent : List (Option Version) → Indexes → List (Option Version) → Indexes → Type 0
StaysCurrent slots old after new = (committed : List Bool) → IsCurrent committed slots old → IsCurrent committed after new

-- who wrote and who ended a version has noted its number
pub record IsNoted (touched : List (List ℕ)) (n : ℕ) (v : Version) : Type 0 where
  pub writer : IsIn n (own_at touched v.by.xid.0)
  pub ender : IfSome v.ended (λ stamp. IsIn n (own_at touched stamp.xid.0))

-- the lists have each version where it belongs
pub record IsIndexed (slots : List (Option Version)) (lists : Lists) : Type 0 where
  pub numbered : IsNumbered slots lists.indexes.all
  pub only : IsOnly lists.indexes
  pub noted : (n : ℕ) → IfSome (version_numbered slots n) (IsNoted lists.touched.items n)

-- a change ends the version with a number
abbrev pub ends_at : List Bool → Stamp → Change → List (Option Version) → ℕ → Bool
ends_at committed stamp change slots n = passes_at (is_ended committed stamp change) slots n

-- what a transaction's changes end it has noted
abbrev pub AreNoted : List Bool → Stamp → List Change → List (Option Version) → Lists → Type 0
AreNoted committed stamp changes slots lists = AllByRecursion (λ change. (n : ℕ) → ends_at committed stamp change slots n ≡ true → IsIn n (own_at lists.touched.items stamp.xid.0)) changes

-- the indexes stay, and of what is noted nothing is lost
pub record NotesMore (old new : Lists) : Type 0 where
  pub indexes : new.indexes ≡ old.indexes
  pub own : (x n : ℕ) → IsIn n (own_at old.touched.items x) → IsIn n (own_at new.touched.items x)

-- the same numbers are at each place of both indexes
pub record AreSame (old new : Indexes) : Type 0 where
  pub all : IsSame old.all new.all
  pub current : IsSame old.current new.current
  pub whole : new.whole ≡ old.whole

-- a number is added in both indexes at the places that a test picks, and at no others
pub record AddsBoth (test : Place → Bool) (number : ℕ) (old new : Indexes) : Type 0 where
  pub all : AddsWhere test number old.all new.all
  pub current : AddsWhere test number old.current new.current
  pub whole : new.whole ≡ old.whole

-- a number is taken out of both indexes at the places that a test picks, and at no others
pub record RemovesBoth (test : Place → Bool) (number : ℕ) (old new : Indexes) : Type 0 where
  pub all : RemovesWhere test number old.all new.all
  pub current : RemovesWhere test number old.current new.current
  pub whole : new.whole ≡ old.whole
