use Rattle.json_tree.proofs.Growth.{extends_itself, extends_more, extends_on}
use Rattle.json_binary.proofs.NumberLemmas.{onward, group_pushed}
use Rattle.json_binary.proofs.codec.numbers.+push_groups.Goals as goal

pub returns : goal.returns
returns t c =
    let old = c.args.out.now.items in
    let first = c.in_ok-push-2.ensures.items in record {
      ok = onward c.push_groups.result _ _ (group_pushed old c.push-2.new.self.items c.push_groups.new.out.items c.args.groups c.args.number c.if-groups-eq0.false c.if-number-lt128.false first) c.push_groups.ensures.ok;
      kept = extends_on old c.push-2.new.self.items c.push_groups.new.out.items (extends_more old old c.push-2.new.self.items _ (extends_itself old old (λ i. old)) first) c.push_groups.ensures.kept;
    }
