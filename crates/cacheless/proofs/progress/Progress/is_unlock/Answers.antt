use Rattle.std.proofs.Common.{◌≡◌, ◌∙◌, ◌&&◌, true, false, not, ap, sym, rules}
use Rattle.std.specs.Option.{option_map_or}
use Rattle.base_types.specs.Modes.{same_mode}
use Rattle.base_types.specs.Scans.{same_oid}
use Rattle.ddl_effect.specs.declared.want.Want.TheVariants as wants
use Rattle.ddl_effect.specs.Stages.{plan_at}
use Rattle.cacheless.specs.Rule.{names_relation}
use Rattle.cacheless.specs.State.{row_sought}
use Rattle.cacheless.proofs.WantedPlans.{unlock_of_want, unlock_wanted, no_unlock}
use Rattle.cacheless.proofs.progress.Progress.is_unlock.Goals.{then-has_taken, else-has_taken}
use Rattle.cacheless.proofs.progress.Progress.is_unlock.Goals as goal

pub returns-else-same_mode : goal.returns-else-same_mode
returns-else-same_mode c =
    let goes : c.if-has_taken.value ≡ unlock_of_want c.args.self.now (wants.Lookup c.in-Lookup.name c.in-Lookup.wanted) c.args.rel c.args.mode = search rules in
    goes ∙ sym (unlock_wanted c.args.self.now (plan_at c.args.self.now.opens c.args.self.now.exec) c.args.rel c.args.mode ∙ ap (λ w. unlock_of_want c.args.self.now w c.args.rel c.args.mode) (sym (c.next.ensures c.args.self.now.opens) ∙ c.in-Lookup.is))

pub returns-in_default : goal.returns-in_default
returns-in_default c =
    sym (unlock_wanted c.args.self.now (plan_at c.args.self.now.opens c.args.self.now.exec) c.args.rel c.args.mode
    ∙ ap (λ w. unlock_of_want c.args.self.now w c.args.rel c.args.mode) (sym (c.next.ensures c.args.self.now.opens))
    ∙ no_unlock c.args.self.now c.next.result c.args.rel c.args.mode c.in_default.not-Lookup)

pub returns-then-same_mode : goal.returns-then-same_mode
returns-then-same_mode c = elim c.if-has_taken.branch [
  | then-has_taken w ↦
      let taken : option_map_or (same_oid c.args.rel) c.args.self.now.taken false ≡ true = sym c.has_taken.ensures ∙ w.if-has_taken.true in
      let mode : same_mode c.args.mode c.in-Lookup.wanted ≡ true = sym w.same_mode.ensures ∙ sym w.value-is ∙ c.if-same_mode.true in
      ap not (c.names_relation.ensures ∙ ap (names_relation c.args.rel) c.row_sought.ensures)
      ∙ sym (λ i. taken i && mode i && not (names_relation c.args.rel (row_sought c.args.self.now c.in-Lookup.name)))
      ∙ sym (unlock_wanted c.args.self.now (plan_at c.args.self.now.opens c.args.self.now.exec) c.args.rel c.args.mode ∙ ap (λ w. unlock_of_want c.args.self.now w c.args.rel c.args.mode) (sym (c.next.ensures c.args.self.now.opens) ∙ c.in-Lookup.is))
  | else-has_taken w ↦ let both : true ≡ false = sym c.if-same_mode.true ∙ w.value-is ∙ w.if-has_taken.false in absurd (cc both)
]
