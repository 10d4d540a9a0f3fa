use Rattle.rel_desc.proofs.Built.{begun_taken}
use Rattle.rel_desc.proofs.desc_build.DescBuild.take.Goals as goal

pub invariant_of-self : goal.invariant_of-self
invariant_of-self c =
    begun_taken c.push.result c.args.self.now c.self.inside.scans c.push.new.self c.in-Some.scan c.args.rows.items c.args.at c.self.view_is c.self.invariant c.in-Some.ensures.scan c.requires
    c.push.ensures.ok c.push.ensures.err
