-- What a plan is after an act that is done: only after a lookup may it have failed to find a relation.
use Rattle.std.proofs.Common.{◌≡◌, ◌∙◌, ℕ, true, false, None, List, [], ◌∷◌, refl, sym, ap}
use Rattle.base_types.specs.declared.row.Row.TheVariants as rows
use Rattle.ddl_effect.specs.Plans.{Plan, Absent, Do, Lookup, Open, Search, Read, Lock}
use Rattle.ddl_effect.specs.Commands.{found}
use Rattle.cacheless.specs.Types.{Oid, Mode, Kind, Purpose, Row}
use Rattle.cacheless.specs.Settled.{class_oid}
use Rattle.cacheless.specs.OnCourse.{is_absent}
use Rattle.cacheless.proofs.Plans.EffectAlong.{plain_row}
use Rattle.cacheless.proofs.Plans.UnderLocks.{Footing, with_lock, with_found, with_open, with_rows, Follows, follows_there}

-- a plan hasn't failed to find a relation after an opening or a further lock, nor after it searched or read
pub after_opening : (on : Footing) (rel : Oid) (kind : Kind) (rest : List Row → Plan) (given : List Row) → Follows on (Do (Open rel kind) rest) → is_absent (rest given) ≡ false
after_opening on rel kind rest given come = ap is_absent (come.0 given) ∙ follows_there (with_open rel kind on) (rest []) come.1

pub after_lock : (on : Footing) (rel : Oid) (mode : Mode) (rest : List Row → Plan) (given : List Row) → Follows on (Do (Lock rel mode) rest) → is_absent (rest given) ≡ false
after_lock on rel mode rest given come = ap is_absent (come.0 given) ∙ follows_there (with_lock rel mode on) (rest []) come.1

pub after_search : (on : Footing) (scan : Purpose) (rest : List Row → Plan) (given : List Row) → Follows on (Do (Search scan) rest) → is_absent (rest given) ≡ false
after_search on scan rest given come = follows_there on (rest given) (come.1 given)

pub after_reading : (on : Footing) (scan : Purpose) (rest : List Row → Plan) (given : List Row) → Follows on (Do (Read scan) rest) → is_absent (rest given) ≡ false
after_reading on scan rest given come = follows_there (with_rows given on) (rest given) (come.1 given)

-- a lookup that gave no relation is the only way to fail to find one
pub record IsUnfound (name : List ℕ) (plan : Plan) (given : List Row) : Type 0 where
  pub is : plan ≡ Absent name
  pub none : class_oid given ≡ None

pub after_lookup : (on : Footing) (name : List ℕ) (mode : Mode) (rest : List Row → Plan) (given : List Row) → Follows on (Do (Lookup name mode) rest) → is_absent (rest given) ≡ true → IsUnfound name (rest given) given
after_lookup on name mode rest given follows absent = by_rows given (follows.0 given) absent
  where
    by_rows : (l : List Row) → rest l ≡ found name (λ rel kind. rest (plain_row rel kind)) l → is_absent (rest l) ≡ true → IsUnfound name (rest l) l
    by_rows [] is unfound = record { is = is; none = refl }
    by_rows (rows.Class rel own kind fill ∷ more) is unfound =
        absurd (let both : true ≡ false = sym unfound ∙ ap is_absent is ∙ follows_there (with_found rel kind mode on) (rest (plain_row rel kind)) (follows.1 rel kind) in cc both)
    by_rows (row ∷ more) is unfound = record { is = is; none = refl }

-- where a lookup found none, the command says so
pub lookup_lost : (on : Footing) (name : List ℕ) (mode : Mode) (rest : List Row → Plan) (given : List Row) → Follows on (Do (Lookup name mode) rest) → class_oid given ≡ None → is_absent (rest given) ≡ true
lookup_lost on name mode rest given follows none = ap is_absent (follows.0 given) ∙ by_rows given none
  where
    by_rows : (l : List Row) → class_oid l ≡ None → is_absent (found name (λ rel kind. rest (plain_row rel kind)) l) ≡ true
    by_rows [] is = refl
    by_rows (rows.Class rel own kind fill ∷ more) is = absurd (cc is)
    by_rows (row ∷ more) is = refl
