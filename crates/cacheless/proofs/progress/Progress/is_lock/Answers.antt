use Rattle.std.proofs.Common.{◌≡◌, ◌∙◌, ◌&&◌, false, ap, sym, rules}
use Rattle.std.proofs.lemmas.Bool.{ne_eqb}
use Rattle.base_types.specs.Modes.{same_mode}
use Rattle.ddl_effect.specs.declared.want.Want.TheVariants as wants
use Rattle.ddl_effect.specs.Stages.{plan_at}
use Rattle.cacheless.specs.Rule.{names_relation}
use Rattle.cacheless.specs.State.{row_sought}
use Rattle.cacheless.proofs.WantedPlans.{lock_of_want, lock_wanted, no_lock}
use Rattle.cacheless.proofs.progress.Progress.is_lock.Goals as goal

pub returns-then-names_relation : goal.returns-then-names_relation
returns-then-names_relation c =
    let goes : c.same_mode.result ≡ lock_of_want c.args.self.now (wants.Lookup c.in-Lookup.name c.in-Lookup.wanted) c.args.rel c.args.mode = search rules in
    goes ∙ sym (lock_wanted c.args.self.now (plan_at c.args.self.now.opens c.args.self.now.exec) c.args.rel c.args.mode ∙ ap (λ w. lock_of_want c.args.self.now w c.args.rel c.args.mode) (sym (c.next.ensures c.args.self.now.opens) ∙ c.in-Lookup.is))

pub returns-in_default : goal.returns-in_default
returns-in_default c =
    sym (lock_wanted c.args.self.now (plan_at c.args.self.now.opens c.args.self.now.exec) c.args.rel c.args.mode
    ∙ ap (λ w. lock_of_want c.args.self.now w c.args.rel c.args.mode) (sym (c.next.ensures c.args.self.now.opens))
    ∙ no_lock c.args.self.now c.next.result c.args.rel c.args.mode c.in_default.not-Lookup c.in_default.not-Lock)

pub returns-else-names_relation : goal.returns-else-names_relation
returns-else-names_relation c =
    let other : names_relation c.args.rel (row_sought c.args.self.now c.in-Lookup.name) ≡ false = sym (c.names_relation.ensures ∙ ap (names_relation c.args.rel) c.row_sought.ensures) ∙ c.if-names_relation.false in
    c.if-names_relation.false ∙ ap (λ t. t && same_mode c.args.mode c.in-Lookup.wanted) (sym other)
    ∙ sym (lock_wanted c.args.self.now (plan_at c.args.self.now.opens c.args.self.now.exec) c.args.rel c.args.mode ∙ ap (λ w. lock_of_want c.args.self.now w c.args.rel c.args.mode) (sym (c.next.ensures c.args.self.now.opens) ∙ c.in-Lookup.is))

pub returns-then-rel-other : goal.returns-then-rel-other
returns-then-rel-other c =
    let goes : c.same_mode-then-rel-other.result ≡ lock_of_want c.args.self.now (wants.Lock c.in-Lock.other c.in-Lock.wanted) c.args.rel c.args.mode = search rules in
    goes ∙ sym (lock_wanted c.args.self.now (plan_at c.args.self.now.opens c.args.self.now.exec) c.args.rel c.args.mode ∙ ap (λ w. lock_of_want c.args.self.now w c.args.rel c.args.mode) (sym (c.next.ensures c.args.self.now.opens) ∙ c.in-Lock.is))

pub returns-else-rel-other : goal.returns-else-rel-other
returns-else-rel-other c =
    ne_eqb c.args.rel.0 c.in-Lock.other.0 c.if-rel-other.false
    ∙ ap (λ t. t && same_mode c.args.mode c.in-Lock.wanted) (sym (ne_eqb c.args.rel.0 c.in-Lock.other.0 c.if-rel-other.false))
    ∙ sym (lock_wanted c.args.self.now (plan_at c.args.self.now.opens c.args.self.now.exec) c.args.rel c.args.mode ∙ ap (λ w. lock_of_want c.args.self.now w c.args.rel c.args.mode) (sym (c.next.ensures c.args.self.now.opens) ∙ c.in-Lock.is))
