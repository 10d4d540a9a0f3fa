-- What is asked of a plan by what it wants next.
use Rattle.std.proofs.Common.{◌≡◌, ℕ, Bool, true, false, ◌&&◌, Option, Some, None, List, refl, is_none}
use Rattle.base_types.specs.declared.scan.Purpose.TheVariants as scans
use Rattle.ddl_effect.specs.declared.want.Want.{Want}
use Rattle.ddl_effect.specs.declared.want.Want.TheVariants as wants
use Rattle.ddl_effect.specs.Plans.{Plan, Do, Lookup, Open}
use Rattle.ddl_effect.specs.Stages.{want_of}
use Rattle.cacheless.specs.State.{is_absent, kept_at, is_kept, row_sought}
use Rattle.backend_core.specs.Types.{Oid, Mode, Kind, CommandError, Progress}
use Rattle.backend_core.specs.Words.{relation_to_open, relation_named, is_unfound, has_error}

abbrev pub absent_of_want : Want → Bool
absent_of_want (wants.Absent name) = true
absent_of_want want = false

pub absent_wanted : (plan : Plan) → is_absent plan ≡ absent_of_want (want_of plan)
absent_wanted (Do (Lookup name mode) rest) = refl
absent_wanted (Do act rest) = refl
absent_wanted plan = refl

pub not_absent : (want : Want) → ((name : List ℕ) → want ≡ wants.Absent name → ⊥) → absent_of_want want ≡ false
not_absent (wants.Absent name) absent = absurd (absent name refl)
not_absent want absent = refl

abbrev pub open_of_want : Want → Option Oid
open_of_want (wants.Open rel kind) = Some rel
open_of_want want = None

pub open_wanted : (plan : Plan) → relation_to_open plan ≡ open_of_want (want_of plan)
open_wanted (Do (Open rel kind) rest) = refl
open_wanted (Do act rest) = refl
open_wanted plan = refl

pub not_open : (want : Want) → ((rel : Oid) (kind : Kind) → want ≡ wants.Open rel kind → ⊥) → open_of_want want ≡ None
not_open (wants.Open rel kind) opens = absurd (opens rel kind refl)
not_open want opens = refl

abbrev pub unfound_of_want : Progress → Want → Bool
unfound_of_want s (wants.Lookup name mode) = is_none s.taken && is_kept (kept_at s) (scans.RelName name) && is_none (relation_named (row_sought s name))
unfound_of_want s want = false

pub unfound_wanted : (s : Progress) (plan : Plan) → is_unfound s plan ≡ unfound_of_want s (want_of plan)
unfound_wanted s (Do (Lookup name mode) rest) = refl
unfound_wanted s (Do act rest) = refl
unfound_wanted s plan = refl

pub not_unfound : (s : Progress) (want : Want) → ((name : List ℕ) (mode : Mode) → want ≡ wants.Lookup name mode → ⊥) → unfound_of_want s want ≡ false
not_unfound s (wants.Lookup name mode) lookup = absurd (lookup name mode refl)
not_unfound s want lookup = refl

abbrev pub error_of_want : Want → Bool
error_of_want (wants.Fails error) = true
error_of_want want = false

pub error_wanted : (plan : Plan) → has_error plan ≡ error_of_want (want_of plan)
error_wanted (Do (Lookup name mode) rest) = refl
error_wanted (Do act rest) = refl
error_wanted plan = refl

pub not_error : (want : Want) → ((error : CommandError) → want ≡ wants.Fails error → ⊥) → error_of_want want ≡ false
not_error (wants.Fails error) fails = absurd (fails error refl)
not_error want fails = refl
