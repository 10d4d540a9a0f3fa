use Rattle.std.proofs.Common.{◌<◌, ◌∙◌, length, sym, ap, subst, rules}
use Rattle.ddl_effect.specs.Plans.{after_act}
use Rattle.ddl_effect.specs.Courses.{most_rows}
use Rattle.ddl_effect.specs.Stages.{plan_at, acts_left}
use Rattle.ddl_effect.proofs.Giving.{gives_plan, gives_less, gives_again, left_by}
use Rattle.ddl_effect.proofs.exec.Exec.give.Goals as goal

pub returns-in_ok-give-in-Going-clause-plan : goal.returns-in_ok-give-in-Going-clause-plan
returns-in_ok-give-in-Going-clause-plan c = λ opens.
    gives_plan c.in-Going.course c.give.new.self c.args.rows.now c.in_ok-give-in-Going.ensures.on c.in_ok-give-in-Going.ensures.out
    ∙ ap (λ exec. after_act c.args.rows.now (plan_at opens exec)) (sym c.in-Going.is)

pub returns-in_ok-give-in-Going-clause-less : goal.returns-in_ok-give-in-Going-clause-less
returns-in_ok-give-in-Going-clause-less c = λ some.
    let few : length c.args.rows.now < most_rows = search rules in
    subst (λ n. left_by c.give.new.self < n) (sym (ap acts_left c.in-Going.is)) (gives_less c.in-Going.course c.give.new.self c.args.rows.now few c.in_ok-give-in-Going.ensures.on (subst (λ n. 0 < n) (ap acts_left c.in-Going.is) some))

pub returns-in_ok-give-in-Going-clause-again : goal.returns-in_ok-give-in-Going-clause-again
returns-in_ok-give-in-Going-clause-again c = λ opens name some absent.
    gives_again c.in-Going.course c.give.new.self c.args.rows.now name c.in_ok-give-in-Going.ensures.on (subst (λ n. 0 < n) (ap acts_left c.in-Going.is) some) absent
    ∙ ap (plan_at opens) (sym c.in-Going.is)
