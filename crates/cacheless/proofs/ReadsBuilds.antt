-- What a command reads and what it searches.
use Rattle.std.proofs.Common.{◌≡◌, ◌∙◌, ◌||◌, Bool, true, false, List, [], ◌∷◌, refl, ap, sym}
use Rattle.std.specs.Prelude.{⊤}
use Rattle.std.specs.List.{list_any}
use Rattle.base_types.specs.Scans.{same_scan, build_scans, is_build_scan}
use Rattle.base_types.specs.declared.kind.Kind.TheVariants.{Table, Index}
use Rattle.base_types.specs.declared.scan.Purpose.TheVariants as scans
use Rattle.ddl_effect.specs.Plans.{Plan, Do, Search, Read}
use Rattle.ddl_effect.specs.Stages.{plan_at}
use Rattle.cacheless.specs.Types.{Oid, Kind, Purpose, OpenRelation, Opening, Exec}
use Rattle.cacheless.specs.OpenedReads.{is_of_opened}
use Rattle.cacheless.proofs.Plans.CommandUnder.{ActsUnder, exec_under}

-- an act that only reads rows reads them of a descriptor, and one that searches a catalog cache doesn't
abbrev pub ReadsBuilds : Plan → Type 0
ReadsBuilds (Do (Read scan) rest) = is_build_scan scan ≡ true
ReadsBuilds (Do (Search scan) rest) = is_build_scan scan ≡ false
ReadsBuilds plan = ⊤

-- a scan of a catalog cache is none of a descriptor
not_of_kind : (scan : Purpose) (kind : Kind) (rel : Oid) → is_build_scan scan ≡ false → list_any (same_scan scan) (build_scans kind rel) ≡ false
not_of_kind (scans.RelName name) Table rel is = refl
not_of_kind (scans.RelName name) Index rel is = refl
not_of_kind (scans.RelOid of) Table rel is = refl
not_of_kind (scans.RelOid of) Index rel is = refl
not_of_kind (scans.AttName of name) Table rel is = refl
not_of_kind (scans.AttName of name) Index rel is = refl
not_of_kind (scans.AttList of) Table rel is = refl
not_of_kind (scans.AttList of) Index rel is = refl
not_of_kind scan kind rel is = absurd (cc is)

not_of_opened : (scan : Purpose) (opened : List Opening) → is_build_scan scan ≡ false → is_of_opened scan opened ≡ false
not_of_opened scan [] is = refl
not_of_opened scan (o ∷ opened) is = ap (λ t. t || is_of_opened scan opened) (not_of_kind scan o.kind o.rel is) ∙ not_of_opened scan opened is

opened_builds : (scan : Purpose) (opened : List Opening) → is_of_opened scan opened ≡ true → is_build_scan scan ≡ true
opened_builds scan opened of = by_test (is_build_scan scan) refl
  where
    by_test : (t : Bool) → is_build_scan scan ≡ t → is_build_scan scan ≡ true
    by_test true is = is
    by_test false is = absurd (let both : false ≡ true = sym (not_of_opened scan opened is) ∙ of in cc both)

reads_under : (plan : Plan) → ActsUnder plan → ReadsBuilds plan
reads_under (Do (Read scan) rest) under = opened_builds scan under.on.opened under.follows.2
reads_under (Do (Search scan) rest) under = under.follows.2
reads_under plan under = tt

pub stage_reads : (opens : List OpenRelation) (exec : Exec) → ReadsBuilds (plan_at opens exec)
stage_reads opens exec = reads_under (plan_at opens exec) (exec_under opens exec)
