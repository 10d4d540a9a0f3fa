-- What a plan comes to over rows, with no history.
use Rattle.std.specs.Prelude.{◌≡◌, ⊤, ℕ, Option, Some, None, Result, Ok, Err, List, [], ◌∷◌}
use Rattle.base_types.specs.declared.scan.Purpose.TheVariants as scans
use Rattle.ddl_effect.specs.declared.want.Want.TheVariants as wants
use Rattle.ddl_effect.specs.declared.facts.EffectRefusal.TheVariants as refusals
use Rattle.ddl_effect.specs.Types.{Oid, Row, Purpose, Draft, Told, CommandError, EffectRefusal, Want}
use Rattle.ddl_effect.specs.Plans.{Act, Lookup, Search, Read, Write, Plan, Done, Fails, Absent, Do}

-- nothing but what it answers, the first cause that the rows show, a name that no row has, or the changes of a write
pub data Effect : Type 0 where
  Nothing : (told : Told) → Effect
  Refuses : (error : CommandError) → Effect
  Unknown : (name : List ℕ) → Effect
  Writes : (draft : Draft) → Effect

-- what an act gives: the rows of the scan on which it rests
abbrev pub given_over : (Purpose → List Row) → Act → List Row
given_over rows (Lookup name mode) = rows (scans.RelName name)
given_over rows (Search scan) = rows scan
given_over rows (Read scan) = rows scan
given_over rows act = []

-- the same of a want
abbrev pub given_for : (Purpose → List Row) → Want → List Row
given_for rows (wants.Lookup name mode) = rows (scans.RelName name)
given_for rows (wants.Search scan) = rows scan
given_for rows (wants.Read scan) = rows scan
given_for rows want = []

-- what a plan comes to
abbrev pub effect_of : (Purpose → List Row) → Plan → Effect
effect_of rows (Done told) = Nothing told
effect_of rows (Fails error) = Refuses error
effect_of rows (Absent name) = Unknown name
effect_of rows (Do (Write draft) rest) = Writes draft
effect_of rows (Do act rest) = effect_of rows (rest (given_over rows act))

-- the row of the relation with which a lookup ended, if it ended with one
abbrev pub row_found : (Purpose → List Row) → Option Oid → List Row
row_found rows None = []
row_found rows (Some rel) = rows (scans.Class rel)

-- the same where the names that were looked up are those of the relations with which the lookups ended, and of no others
abbrev pub effect_at : (Purpose → List Row) → List (Option Oid) → Plan → Effect
effect_at rows found (Done told) = Nothing told
effect_at rows found (Fails error) = Refuses error
effect_at rows found (Absent name) = Unknown name
effect_at rows found (Do (Write draft) rest) = Writes draft
effect_at rows [] (Do (Lookup name mode) rest) = effect_at rows [] (rest (rows (scans.RelName name)))
effect_at rows (rel ∷ found) (Do (Lookup name mode) rest) = effect_at rows found (rest (row_found rows rel))
effect_at rows found (Do act rest) = effect_at rows found (rest (given_over rows act))

-- no change at all
abbrev pub no_changes : Draft
no_changes = record { changes = []; forced = []; new_oids = 0 }

-- the answer of the call that works an effect out
abbrev pub IsEffect : Effect → Result Draft EffectRefusal → Type 0
IsEffect effect (Err refusals.NoMemory) = ⊤
IsEffect (Nothing told) (Ok draft) = draft ≡ no_changes
IsEffect (Writes written) (Ok draft) = draft ≡ written
IsEffect (Refuses error) (Err (refusals.Cause cause)) = cause ≡ error
IsEffect (Unknown name) (Err (refusals.Absent absent)) = absent ≡ name
IsEffect effect result = ⊥
