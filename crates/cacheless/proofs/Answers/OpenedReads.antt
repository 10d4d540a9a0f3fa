-- What a command reads is of a descriptor that it has opened before.
use Rattle.std.proofs.Common.{◌≡◌, ◌∙◌, true, ◌||◌, Option, Some, None, List, [], ◌∷◌, ◌++◌, sym, ap, subst}
use Rattle.std.proofs.lemmas.List.{append-nil, append_assoc}
use Rattle.std.specs.List.{list_any}
use Rattle.std.proofs.Math.Bool.{or-true}
use Rattle.std.proofs.lemmas.List.Folds.{list_any-append}
use Rattle.base_types.specs.Scans.{same_scan, build_scans}
use Rattle.base_types.specs.declared.row.Row.TheVariants as rows
use Rattle.ddl_effect.specs.Plans.{Plan, Act, Do, Lookup, Open, Search, Read, Lock, Write}
use Rattle.ddl_effect.specs.Commands.{plan_of, found}
use Rattle.txn_blocks.specs.Blocks.{Blocks, refused_by}
use Rattle.cacheless.specs.Session.{outcome_of, is_settled, plan_admitted, plan_first}
use Rattle.cacheless.specs.Settled.{opened_by}
use Rattle.cacheless.proofs.Plans.ActOrder.{follows_order}
use Rattle.cacheless.proofs.Plans.EffectAlong.{plain_row}
use Rattle.cacheless.proofs.Plans.UnderLocks.{Footing, at_first, with_lock, with_found, with_open, with_rows, FollowsUnfound, FollowsOrder, unfound}
use Rattle.cacheless.specs.Types.{Oid, Kind, Row, Command, CommandError, OpenRelation, Opening}
use Rattle.cacheless.specs.OpenedReads.{is_of_opened, ReadsOpened}

-- a plan that has come out reads nothing
pub reads_out : (opened : List Opening) (plan : Plan) → is_settled (outcome_of plan) ≡ true → ReadsOpened opened plan
reads_out opened (Do act rest) out = absurd (cc)
reads_out opened plan out = tt

-- a plan under locks reads so
reads_follows : (on : Footing) (plan : Plan) → FollowsUnfound on plan → ReadsOpened on.opened plan
reads_follows on (Do (Lookup name mode) rest) follows = λ given. subst (λ o. ReadsOpened o (rest given)) (sym (append-nil on.opened))
    (by_rows given (follows.0 given) (λ rel kind. reads_follows (with_found rel kind mode on) (rest (plain_row rel kind)) (unfound (with_found rel kind mode on) (rest (plain_row rel kind)) (follows.1 rel kind))))
  where
    by_rows : (given : List Row) → rest given ≡ found name (λ rel kind. rest (plain_row rel kind)) given → ((rel : Oid) (kind : Kind) → ReadsOpened on.opened (rest (plain_row rel kind))) → ReadsOpened on.opened (rest given)
    by_rows [] is further = subst (ReadsOpened on.opened) (sym is) tt
    by_rows (rows.Class rel own kind fill ∷ more) is further = subst (ReadsOpened on.opened) (sym is) (further rel kind)
    by_rows (row ∷ more) is further = subst (ReadsOpened on.opened) (sym is) tt
reads_follows on (Do (Open rel kind) rest) follows = λ given. subst (ReadsOpened (on.opened ++ record { rel = rel; kind = kind } ∷ [])) (sym (follows.0 given)) (reads_follows (with_open rel kind on) (rest []) (unfound (with_open rel kind on) (rest []) follows.1))
reads_follows on (Do (Search scan) rest) follows = λ given. subst (λ o. ReadsOpened o (rest given)) (sym (append-nil on.opened)) (reads_follows on (rest given) (unfound on (rest given) (follows.1 given)))
reads_follows on (Do (Read scan) rest) follows = (follows.2, λ given. reads_follows (with_rows given on) (rest given) (unfound (with_rows given on) (rest given) (follows.1 given)))
reads_follows on (Do (Lock rel mode) rest) follows = λ given. subst (λ o. ReadsOpened o (rest given)) (sym (append-nil on.opened))
    (subst (ReadsOpened on.opened) (sym (follows.0 given)) (reads_follows (with_lock rel mode on) (rest []) (unfound (with_lock rel mode on) (rest []) follows.1)))
reads_follows on (Do (Write draft) rest) follows = λ given. subst (ReadsOpened (on.opened ++ [])) (sym (follows.0 given)) tt
reads_follows on plan follows = tt

reads_order : (plan : Plan) → FollowsOrder plan → ReadsOpened [] plan
reads_order (Do act rest) follows = reads_follows at_first (Do act rest) follows
reads_order plan follows = tt

-- with further descriptors in front it reads so too
pub reads_front : (front opened : List Opening) (plan : Plan) → ReadsOpened opened plan → ReadsOpened (front ++ opened) plan
reads_front front opened (Do act rest) reads = by_act act reads (λ given o has. reads_front front o (rest given) has)
  where
    Further : Type 0
    Further = (given : List Row) (o : List Opening) → ReadsOpened o (rest given) → ReadsOpened (front ++ o) (rest given)

    on : Further → (a : Act) → ((given : List Row) → ReadsOpened (opened ++ opened_by a) (rest given)) → (given : List Row) → ReadsOpened ((front ++ opened) ++ opened_by a) (rest given)
    on further a all given = subst (λ o. ReadsOpened o (rest given)) (sym (append_assoc front opened (opened_by a))) (further given (opened ++ opened_by a) (all given))

    by_act : (a : Act) → ReadsOpened opened (Do a rest) → Further → ReadsOpened (front ++ opened) (Do a rest)
    by_act (Read scan) all further = (list_any-append (λ o. list_any (same_scan scan) (build_scans o.kind o.rel)) front opened ∙ ap (λ t. is_of_opened scan front || t) all.0 ∙ or-true (is_of_opened scan front), λ given. further given opened (all.1 given))
    by_act (Lookup name mode) all further = on further (Lookup name mode) all
    by_act (Open rel kind) all further = on further (Open rel kind) all
    by_act (Search scan) all further = on further (Search scan) all
    by_act (Lock rel mode) all further = on further (Lock rel mode) all
    by_act (Write draft) all further = on further (Write draft) all
reads_front front opened plan reads = tt

reads_plan : (held : List Opening) (opens : List OpenRelation) (command : Command) → ReadsOpened held (plan_of opens command)
reads_plan held opens command = subst (λ o. ReadsOpened o (plan_of opens command)) (append-nil held)
    (reads_front held [] (plan_of opens command) (reads_order (plan_of opens command) (follows_order opens command)))

reads_admitted : (held : List Opening) (opens : List OpenRelation) (refused : Option CommandError) (command : Command) → ReadsOpened held (plan_admitted opens refused command)
reads_admitted held opens (Some error) command = tt
reads_admitted held opens None command = reads_plan held opens command

-- so each command does from its beginning, whatever is held before it
pub reads_first : (held : List Opening) (blocks : Blocks) (opens : List OpenRelation) (o : Option Command) → ReadsOpened held (plan_first blocks opens o)
reads_first held blocks opens None = tt
reads_first held blocks opens (Some command) = reads_admitted held opens (refused_by blocks command) command

-- one act more
pub reads_after : (opened : List Opening) (act : Act) (rest : List Row → Plan) (given : List Row) (now : List Opening) (plan : Plan) → ReadsOpened opened (Do act rest) → now ≡ opened ++ opened_by act → plan ≡ rest given → ReadsOpened now plan
reads_after opened act rest given now plan reads pushed on = subst (λ o. ReadsOpened o plan) (sym pushed) (subst (ReadsOpened (opened ++ opened_by act)) (sym on) (by_act act reads))
  where
    by_act : (a : Act) → ReadsOpened opened (Do a rest) → ReadsOpened (opened ++ opened_by a) (rest given)
    by_act (Read scan) all = subst (λ o. ReadsOpened o (rest given)) (sym (append-nil opened)) (all.1 given)
    by_act (Lookup name mode) all = all given
    by_act (Open rel kind) all = all given
    by_act (Search scan) all = all given
    by_act (Lock rel mode) all = all given
    by_act (Write draft) all = all given
